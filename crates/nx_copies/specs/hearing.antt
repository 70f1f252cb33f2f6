-- What a hearer of copies stands after: its synchroniser, its taker, and the copies that have
-- ended.
pub mod CopyHearer
pub mod CopyHearing
pub mod CopyTaker
pub mod CopyTakerLaws
