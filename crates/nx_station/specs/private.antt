pub mod DamageTaker
pub mod DamageWalk
pub mod MessageParts
pub mod PrintedText
