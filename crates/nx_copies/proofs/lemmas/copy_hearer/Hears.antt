-- What a hearer hears: the elements of a step of its synchroniser, which its taker takes.
use Rattle.std.proofs.Common.{◌≡◌, ℕ, ◌<◌, Bool, List, [], ◌∷◌}
use Rattle.std.proofs.Common.{◌++◌, length, take, Option, Some, None, refl, sym, ap}
use Rattle.std.proofs.Common.{subst, subst₂, arith}
use Rattle.nx_sync.specs.Locks.{Past, hunting}
use Rattle.nx_sync.specs.Steps.{IsLastStep, IsStep, step}
use Rattle.nx_sync.specs.Synchroniser.{Held, StandsAfter}
use Rattle.nx_sync.specs.Ahead.{BringsStep}
use Rattle.nx_sync.specs.declared.step.Role.{Role}
use Rattle.nx_sync.specs.declared.step.Step.{Step}
use Rattle.nx_copies.specs.declared.copy_taker.CopyTaker.{CopyTaker}
use Rattle.nx_copies.specs.declared.copy_taker.CopyTag.{CopyTag}
use Rattle.nx_copies.specs.declared.copy_taker.Over.{Over}
use Rattle.nx_copies.specs.Events.{Setting}
use Rattle.nx_copies.specs.hearing.CopyHearing.{CopyHearing}
use Rattle.nx_copies.specs.LockReader.{LockReading}
use Rattle.nx_copies.specs.copies.FoundCopies.{TaggedCopy, past_copies}
use Rattle.nx_envelope.specs.declared.found.TextEvent.{TextEvent}
use Rattle.nx_envelope.specs.declared.found.TextEvent.TheVariants as events
use Rattle.nx_copies.specs.hearing.CopyTaker.{Hears, setting_of}
use Rattle.nx_copies.specs.private.CopyTaker.{ReadsStep}
use Rattle.nx_copies.specs.hearing.CopyTaker.{tag_after, hearer_of}
use Rattle.nx_copies.specs.hearing.CopyHearer.{HasEnded, HearsBits, IsFresh, IsOver, ReadsOver}
use Rattle.nx_copies.specs.hearing.CopyHearer.{TagGoesOn, HearerStands, all_in_force, as_it_was}
use Rattle.nx_copies.specs.hearing.CopyHearer.{copies_by, now_in_force}
use Rattle.nx_copies.proofs.lemmas.QuietElements.{before_last, marks_of, quiet_bits}
use Rattle.nx_copies.proofs.lemmas.locks.Growing.{hunted}
use Rattle.nx_copies.proofs.lemmas.copy_hearer.Takes.{tag-hunting}
use Rattle.nx_copies.proofs.lemmas.copy_hearer.Bits.{quiet_bit}
use Rattle.nx_copies.proofs.lemmas.copy_hearer.Words.{word_bit}

-- the copies that have ended
pub has_ended : (first : Setting) (reader : LockReading) (kept : CopyTag) (bits : List Bool)
    (settings : List Setting) (copies : List TaggedCopy)
    → ReadsOver first reader kept bits settings copies → HasEnded first bits settings copies
has_ended first reader kept bits settings copies r =
    record { locks = r.locks; now = r.now; stands = r.stands; ended = r.ended }

-- an element that is heard, whatever it brings
element_over : (first : Setting) (old new : CopyTaker) (held : Held) (bit : Bool) (h : List Bool)
    (s : List Setting) (copies : List TaggedCopy) (r : Step) (answer : Option Over)
    → StandsAfter held (h ++ bit ∷ []) → IsStep (h ++ bit ∷ []) r → ReadsStep old new r answer
    → ReadsOver first old.reader old.tag h s copies
    → IsOver first (hearer_of held new) (h ++ bit ∷ []) (s ++ setting_of old ∷ []) copies answer
element_over first old new held bit h s copies r answer stands is read o =
    elim r.word as (λ (w : Option (ℕ × Role)). r.word ≡ w
    → IsOver first (hearer_of held new) (h ++ bit ∷ []) (s ++ setting_of old ∷ []) copies answer) [
      | None ↦ λ none.
          let same = read.none none in
          let here : HearerStands first (hearer_of held old) (h ++ bit ∷ [])
          (s ++ setting_of old ∷ []) copies =
          record {
            synchroniser = stands;
            reads =
                quiet_bit first old.reader old.tag h bit s (setting_of old) copies r o is none;
          } in
          let there : HearerStands first (hearer_of held new) (h ++ bit ∷ [])
          (s ++ setting_of old ∷ []) copies =
          subst (λ (t : CopyTaker). HearerStands first (hearer_of held t) (h ++ bit ∷ [])
          (s ++ setting_of old ∷ []) copies) (sym same.0) here in
          subst (IsOver first (hearer_of held new) (h ++ bit ∷ []) (s ++ setting_of old ∷ [])
          copies) (sym same.1) there
      | Some w ↦ λ one.
          word_bit first h bit s copies old new held answer r w.0 w.1 o is one
          (read.some w.0 w.1 one) stands
    ] refl

-- an element that brings nothing
quiet_after : (first : Setting) (old : CopyTaker) (copies : List TaggedCopy) (bits : List Bool)
    (bit : Bool) (s : List Setting) → IsStep (bits ++ bit ∷ []) (step None None)
    → ReadsOver first old.reader old.tag bits s copies
    → ReadsOver first old.reader old.tag (bits ++ bit ∷ []) (s ++ setting_of old ∷ []) copies
quiet_after first old copies bits bit s is o =
    quiet_bit first old.reader old.tag bits bit s (setting_of old) copies (step None None) o is refl

-- elements of which the last one brings a step, and those before it nothing
pub step_heard : (first : Setting) (old new : CopyTaker) (before after : Held) (bits : List Bool)
    (h : List Bool) (s : List Setting) (copies : List TaggedCopy) (r : Step) (answer : Option Over)
    → 0 < length bits → StandsAfter after (h ++ bits) → IsLastStep h bits r
    → ReadsStep old new r answer → ReadsOver first old.reader old.tag h s copies
    → HearsBits first (hearer_of before old) (hearer_of after new) h s copies bits answer
unfolding all_in_force
step_heard first old new before after bits h s copies r answer some stands is read o =
    let over : List Bool → List Setting → Type 0 =
    λ x y. ReadsOver first old.reader old.tag x y copies in
    let quiet = quiet_after first old copies in
    let last = before_last over (setting_of old) quiet h bits s r some is o in
    record {
      brings = subst₂ (λ x y. IsOver first (hearer_of after new) x y copies answer)
          (sym last.whole) (sym last.force)
          (element_over first old new after last.bit (h ++ last.before)
          (s ++ marks_of (setting_of old) last.before) copies r answer
          (subst (StandsAfter after) last.whole stands) last.brings read last.stood);
      none_before = λ k lt. has_ended first old.reader old.tag (h ++ take k bits)
          (s ++ marks_of (setting_of old) (take k bits)) copies
          (quiet_bits over (setting_of old) quiet h bits s k (omega arith)
          (λ j small. is.quiet j (omega (arith, small, lt))) o);
    }

-- what is in force stays where a step is read
step_force : (old new : CopyTaker) (r : Step) (answer : Option Over) → ReadsStep old new r answer
    → setting_of new ≡ setting_of old
step_force old new r answer read =
    elim r.word as (λ (w : Option (ℕ × Role)). r.word ≡ w → setting_of new ≡ setting_of old) [
      | None ↦ λ none. ap setting_of (read.none none).0
      | Some w ↦ λ one. (read.some w.0 w.1 one).force
    ] refl

-- and the tag goes on
pub tag_by : (old new : CopyTaker) (before after : Held) (event : TextEvent)
    → new.tag ≡ tag_after (setting_of old) old.tag event
    → TagGoesOn (hearer_of before old) (hearer_of after new)
tag_by old new before after events.Nothing e = as_it_was e
tag_by old new before after (events.Header identity) e =
    now_in_force (ap (λ (t : CopyTag). t.moment) e)
tag_by old new before after events.CopyOver e = as_it_was e

step_tag : (old new : CopyTaker) (before after : Held) (r : Step) (answer : Option Over)
    → ReadsStep old new r answer → TagGoesOn (hearer_of before old) (hearer_of after new)
step_tag old new before after r answer read =
    elim r.word as (λ (w : Option (ℕ × Role)). r.word ≡ w
    → TagGoesOn (hearer_of before old) (hearer_of after new)) [
      | None ↦ λ none. as_it_was (ap (λ (t : CopyTaker). t.tag) (read.none none).0)
      | Some w ↦ λ one.
          let word = read.some w.0 w.1 one in
          tag_by old new before after word.event word.kept
    ] refl

-- a taker takes a step
pub step_taken : (old new : CopyTaker) (before after : Held) (bits : List Bool) (r : Step)
    (answer : Option Over) → 0 < length bits → ReadsStep old new r answer
    → BringsStep before after bits r → Hears before old bits after new answer
step_taken old new before after bits r answer some reads brings = record {
  hears = record {
    hears = λ first h s copies w. step_heard first old new before after bits h s copies r answer
        some (brings.stands h w.synchroniser) (brings.brings h w.synchroniser) reads w.reads;
  };
  force = step_force old new r answer reads;
  kept = step_tag old new before after r answer reads;
}

-- a hearer that has heard nothing
pub nothing_heard : (first : Setting) (hearer : CopyHearing) → StandsAfter hearer.synchroniser []
    → IsFresh hearer.reader → HearerStands first hearer [] [] []
unfolding copies_by past_copies Past
nothing_heard first hearer stands fresh = record {
  synchroniser = stands;
  reads = record {
    locks = [];
    now = hunting 0;
    stands = record { past = refl; none = λ s after here. absurd (omega (arith, here.heard)) };
    many = refl;
    ended = ap (copies_by first []) (hunted [] [] 0);
    reads = fresh;
    has_tag = tag-hunting first [] hearer.tag;
  };
}
