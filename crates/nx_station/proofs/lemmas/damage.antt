-- Damage on purpose, over elements and lines.
pub mod Damage
pub mod DamageLaws
pub mod Named
