-- Entries behind open gates, and what stands behind them.
use Rattle.std.proofs.Common.{◌≡◌, ◌≢◌, inl, inr, ℕ, ◌+◌, ◌<◌, ◌≤◌, List, [], ◌∷◌, ◌++◌, length, Some, refl, sym, ap, ◌∙◌, subst, arith, append_assoc, append-nil, length-append}
use Rattle.nx_kept.specs.Kept.{CanBeKeptLog, IsBehindOpenGates, IsTail, StandsFor, closed_gate}
use Rattle.nx_kept.proofs.lemmas.KeptLaws.{closed_tail, more_behind, only_tail}
use Rattle.nx_kept.proofs.lemmas.Steps.{ends_early, nil_right}
use Rattle.std.proofs.lemmas.List.{take_all}
use Rattle.nx_log.specs.Entries.{IsWholeEntry}
use Rattle.nx_log.specs.KeptLog.{ArePlacedFrom, HoldKept, NoEntryStands, longest_entry, places_at}
use Rattle.nx_log.specs.Logged.{IsLoggedAs}
use Rattle.nx_log.specs.Places.{PlacedCopy}
use Rattle.nx_log.specs.private.KeptReading.{IsAtKept, IsBegun, StageStands}
use Rattle.nx_log.specs.declared.entries.kept_reader.KeptReader.{KeptReader}
use Rattle.nx_log.specs.declared.entries.kept_reader.KeptStage.{KeptStage}
use Rattle.nx_log.specs.declared.entries.kept_reader.KeptStage.TheVariants.{Closed, Gate, Open}
use Rattle.nx_log.proofs.lemmas.reading.Entries.{entry_bounded, entry_is_some, one_entry}

-- ---- logged entries are records

pub whole_some : (bytes : List ℕ) → IsWholeEntry bytes → 0 < length bytes
whole_some bytes is = omega (arith, entry_is_some is.0 bytes is.1.entry)

pub whole_bounded : (bytes : List ℕ) → IsWholeEntry bytes → length bytes ≤ longest_entry
whole_bounded bytes is = entry_bounded is.0 bytes is.1

pub whole_one : (bytes more : List ℕ) → IsWholeEntry bytes → IsWholeEntry (bytes ++ more)
    → more ≡ []
whole_one bytes more is longer =
    (one_entry is.0 longer.0 bytes (bytes ++ more) more [] is.1 longer.1
    (sym (append-nil (bytes ++ more)))).rest

-- ---- entries behind open gates

-- their bytes are records behind open gates
pub are_records : (from : ℕ) (entries : List PlacedCopy) (bytes : List ℕ)
    → ArePlacedFrom from entries bytes
    → (texts : List (List ℕ)) × IsBehindOpenGates IsWholeEntry texts bytes
are_records from [] bytes is = ([], is)
are_records from (first ∷ entries) bytes is =
    let more = are_records (from + 1 + length is.1) entries is.2 is.7 in
    (is.1 ∷ more.0, (is.0, is.2, is.3, (first.one, is.4), is.6, more.1))

-- one more
pub placed_more : (from : ℕ) (entries : List PlacedCopy) (front : List ℕ) (gate : ℕ)
    (entry : List ℕ) (last : PlacedCopy) → ArePlacedFrom from entries front
    → gate ≢ closed_gate → IsLoggedAs last.one entry
    → last.places ≡ Some (places_at (from + length front) entry)
    → ArePlacedFrom from (entries ++ last ∷ []) (front ++ gate ∷ entry)
placed_more from [] front gate entry last is is_open logged places =
    let none : from + length front ≡ from = omega (arith, ap length is) in (
      gate,
      entry,
      [],
      is_open,
      logged,
      places ∙ ap (λ n. Some (places_at n entry)) none,
      ap (λ l. l ++ gate ∷ entry) is ∙ ap (λ l. gate ∷ l) (sym (append-nil entry)),
      refl,
    )
placed_more from (first ∷ entries) front gate entry last is is_open logged places =
    let size : (from + 1 + length is.1) + length is.2 ≡ from + length front =
    omega (arith, ap length is.6, length-append is.1 is.2) in (
      is.0,
      is.1,
      is.2 ++ gate ∷ entry,
      is.3,
      is.4,
      is.5,
      ap (λ l. l ++ gate ∷ entry) is.6
          ∙ ap (λ l. is.0 ∷ l) (append_assoc is.1 is.2 (gate ∷ entry)),
      placed_more (from + 1 + length is.1) entries is.2 gate entry last is.7 is_open logged
          (places ∙ ap (λ n. Some (places_at n entry)) (sym size)),
    )

-- what can stand behind them can stand behind all
pub can_behind : (from : ℕ) (entries : List PlacedCopy) (front rest : List ℕ)
    → ArePlacedFrom from entries front → CanBeKeptLog IsWholeEntry longest_entry rest
    → CanBeKeptLog IsWholeEntry longest_entry (front ++ rest)
can_behind from entries front rest is can =
    let records = are_records from entries front is in (
      can.0,
      (
        records.0 ++ can.1.0,
        subst (StandsFor IsWholeEntry longest_entry (records.0 ++ can.1.0))
            (sym (append_assoc front rest can.0))
            (more_behind IsWholeEntry longest_entry records.0 can.1.0 front (rest ++ can.0)
            records.1 can.1.1),
      ),
    )

-- ---- what stands behind them

tail_can : (tail : List ℕ) → IsTail longest_entry tail
    → CanBeKeptLog IsWholeEntry longest_entry tail
tail_can tail is = (
  [],
  (
    [],
    subst (StandsFor IsWholeEntry longest_entry []) (sym (append-nil tail))
        (only_tail IsWholeEntry longest_entry tail is),
  ),
)

open_can : (gate : ℕ) (held : List ℕ) → gate ≢ closed_gate → IsBegun held
    → CanBeKeptLog IsWholeEntry longest_entry (gate ∷ held)
open_can gate held is_open (inl none) =
    subst (λ l. CanBeKeptLog IsWholeEntry longest_entry (gate ∷ l)) (sym none)
    (tail_can (gate ∷ []) tt)
open_can gate [] is_open (inr begun) = tail_can (gate ∷ []) tt
open_can gate (x ∷ held) is_open (inr begun) =
    let all : List ℕ = gate ∷ x ∷ held in
    let early = ends_early IsWholeEntry longest_entry whole_some whole_bounded whole_one gate
    (x ∷ held) all refl is_open (omega arith) begun in
    subst (CanBeKeptLog IsWholeEntry longest_entry) (take_all (length all) all (omega arith))
    early.good_before

pub rest_can : (stage : KeptStage) (held rest : List ℕ) → StageStands stage held rest
    → CanBeKeptLog IsWholeEntry longest_entry rest
rest_can Gate held rest stands =
    subst (CanBeKeptLog IsWholeEntry longest_entry) (sym stands) (tail_can [] tt)
rest_can Open held rest stands =
    subst (CanBeKeptLog IsWholeEntry longest_entry) (sym stands.2)
    (open_can stands.0 held stands.1 stands.3)
rest_can (Closed count) held rest stands =
    subst (CanBeKeptLog IsWholeEntry longest_entry) (sym stands.1)
    (tail_can (closed_gate ∷ stands.0)
    (closed_tail IsWholeEntry longest_entry stands.0 (omega (arith, stands.2, stands.3))))

-- the beginning of an entry has no whole one at its front
none_in_begun : (held entry more : List ℕ) → IsBegun held → held ≡ entry ++ more
    → IsWholeEntry entry → ⊥
none_in_begun held entry more (inl none) split whole =
    omega (
      arith,
      whole_some entry whole,
      ap length split,
      ap length none,
      length-append entry more,
    )
none_in_begun held entry more (inr begun) split whole =
    let longer : IsWholeEntry (entry ++ (more ++ begun.0)) =
    subst IsWholeEntry
    (ap (λ l. l ++ begun.0) split ∙ append_assoc entry more begun.0) begun.1 in
    begun.2 (nil_right more begun.0 (whole_one entry (more ++ begun.0) whole longer))

pub open_none : (gate : ℕ) (held : List ℕ) → IsBegun held → NoEntryStands (gate ∷ held)
open_none gate held begun = λ g entry more split whole.
    let behind : held ≡ entry ++ more = cc in
    absurd (none_in_begun held entry more begun behind whole)

pub closed_none : (behind : List ℕ) → NoEntryStands (closed_gate ∷ behind)
closed_none behind = λ g entry more split whole.
    let gates : closed_gate ≡ g = cc in sym gates

pub rest_none : (stage : KeptStage) (held rest : List ℕ) → StageStands stage held rest
    → NoEntryStands rest
rest_none Gate held rest stands = λ g entry more split whole.
    let never : [] ≡ g ∷ (entry ++ more) = sym stands ∙ split in absurd (cc)
rest_none Open held rest stands =
    subst NoEntryStands (sym stands.2) (open_none stands.0 held stands.3)
rest_none (Closed count) held rest stands =
    subst NoEntryStands (sym stands.1) (closed_none stands.0)

-- what a reader was given holds the entries that it handed out
pub holds_kept : (reader : KeptReader) (from : ℕ) (bytes : List ℕ) (entries : List PlacedCopy)
    → IsAtKept reader from bytes entries → HoldKept from bytes entries
holds_kept reader from bytes entries at = record {
  front = at.front;
  rest = at.rest;
  split = at.split;
  placed = at.placed;
  no_more = rest_none reader.stage reader.held.items at.rest at.stands;
  good = subst (CanBeKeptLog IsWholeEntry longest_entry) (sym at.split)
      (can_behind from entries at.front at.rest at.placed
      (rest_can reader.stage reader.held.items at.rest at.stands));
}
