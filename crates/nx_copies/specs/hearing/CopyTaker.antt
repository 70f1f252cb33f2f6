-- What a taker of copies does with what the elements bring that a synchroniser hears (this
-- profile). The two together are a hearer.
use Rattle.std.specs.Prelude.{◌≡◌, Bool, List}
use Rattle.std.specs.Prelude.{Option}
use Rattle.nx_sync.specs.Synchroniser.{Held}
use Rattle.nx_envelope.specs.declared.found.TextEvent.{TextEvent}
use Rattle.nx_envelope.specs.declared.found.TextEvent.TheVariants as events
use Rattle.nx_copies.specs.declared.copy_taker.Over.{Over}
use Rattle.nx_copies.specs.declared.copy_taker.CopyTag.{CopyTag}
use Rattle.nx_copies.specs.declared.copy_taker.CopyTaker.{CopyTaker}
use Rattle.nx_copies.specs.Events.{Setting}
use Rattle.nx_copies.specs.hearing.CopyHearing.{CopyHearing}
use Rattle.nx_copies.specs.hearing.CopyHearer.{HearsAll, TagGoesOn, tag_of}

-- what is in force for a taker
abbrev pub setting_of : CopyTaker → Setting
setting_of taker = record { moment = taker.moment; refused = taker.selection }

-- the hearer whose synchroniser holds this, and whose taker is that
abbrev pub hearer_of : Held → CopyTaker → CopyHearing
hearer_of held taker = record {
  synchroniser = held;
  reader = taker.reader;
  refused = taker.selection;
  moment = taker.moment;
  tag = taker.tag;
}

-- the tag after what a word brings: a header takes what is in force
abbrev pub tag_after : Setting → CopyTag → TextEvent → CopyTag
tag_after now before events.Nothing = before
tag_after now before (events.Header identity) = tag_of now identity
tag_after now before events.CopyOver = before

-- A synchroniser that held the first and a taker heard these elements, as a hearer of both does,
-- and this is over with the last of them, if anything is. What is in force stays, but for the tag.
pub record Hears (old : Held) (before : CopyTaker) (heard : List Bool) (new : Held)
    (after : CopyTaker) (answer : Option Over) : Type 0 where
  pub hears : HearsAll (hearer_of old before) (hearer_of new after) heard answer
  pub force : setting_of after ≡ setting_of before
  pub kept : TagGoesOn (hearer_of old before) (hearer_of new after)
