-- Where a kept log is damaged behind entries.
use Rattle.std.proofs.Common.{◌≡◌, ◌≢◌, inr, ℕ, suc, ◌+◌, ◌<◌, ◌≤◌, List, ◌∷◌, ◌++◌, length, take, refl, sym, ap, subst, arith}
use Rattle.std.proofs.lemmas.List.{take_all}
use Rattle.nx_kept.specs.Kept.{IsDamagedBehind, closed_gate}
use Rattle.nx_kept.proofs.lemmas.KeptLaws.{damaged_behind}
use Rattle.nx_kept.proofs.lemmas.Pieces.{take_past}
use Rattle.nx_kept.proofs.lemmas.Steps.{breaks, ends_early, long_tail}
use Rattle.nx_log.specs.Entries.{IsUnfinishedEntry, IsWholeEntry}
use Rattle.nx_log.specs.KeptLog.{ArePlacedFrom, NoEntryStands, StopKept, longest_entry}
use Rattle.nx_log.specs.Places.{PlacedCopy}
use Rattle.nx_log.specs.Reading.{line_behind}
use Rattle.nx_log.proofs.lemmas.kept.Standing.{are_records, closed_none, open_none, whole_bounded, whole_one, whole_some}

-- what stands behind entries is damaged, and up to there no further entry stands
pub stops_behind : (from : ℕ) (entries : List PlacedCopy) (front rest : List ℕ) (place : ℕ)
    → ArePlacedFrom from entries front
    → IsDamagedBehind IsWholeEntry longest_entry place rest → NoEntryStands (take place rest)
    → (stop : StopKept from (front ++ rest) entries (line_behind (front ++ take place rest)))
    × (stop.place ≡ length front + place)
stops_behind from entries front rest place is damaged none =
    let records = are_records from entries front is in
    let all = damaged_behind IsWholeEntry longest_entry whole_some whole_one records.0 front rest
    place records.1 damaged in
    let begin : take (length front + place) (front ++ rest) ≡ front ++ take place rest =
    take_past front rest place in (
      record {
        place = length front + place;
        damaged = all;
        before = record {
          front = front;
          rest = take place rest;
          split = begin;
          placed = is;
          no_more = none;
          good = all.good_before;
        };
        is_line = ap line_behind (sym begin);
      },
      refl,
    )

module _ (from : ℕ) (entries : List PlacedCopy) (front : List ℕ)
    (is : ArePlacedFrom from entries front) where
  -- bytes behind an open gate stop being the beginning of an entry
  pub stops_broken : (gate : ℕ) (bytes : List ℕ) (place : ℕ) → gate ≢ closed_gate
      → place < length bytes → IsUnfinishedEntry (take place bytes)
      → (IsWholeEntry (take (place + 1) bytes) → ⊥)
      → (IsUnfinishedEntry (take (place + 1) bytes) → ⊥)
      → (stop : StopKept from (front ++ gate ∷ bytes) entries
      (line_behind (front ++ gate ∷ take place bytes)))
      × (stop.place ≡ length front + (place + 1))
  stops_broken gate bytes place is_open within begun no_whole no_more =
      let next : suc place ≡ place + 1 = omega arith in
      let begin : take (place + 1) (gate ∷ bytes) ≡ gate ∷ take place bytes =
      ap (λ n. take n (gate ∷ bytes)) (sym next) in
      let s = stops_behind from entries front (gate ∷ bytes) (place + 1) is
      (breaks IsWholeEntry longest_entry whole_some whole_bounded whole_one gate bytes
      (gate ∷ bytes) place refl is_open within begun no_whole no_more)
      (subst NoEntryStands (sym begin) (open_none gate (take place bytes) (inr begun))) in
      subst (λ l. (stop : StopKept from (front ++ gate ∷ bytes) entries (line_behind (front ++ l)))
      × (stop.place ≡ length front + (place + 1))) begin s

  -- too many bytes stand behind a closed gate
  pub stops_long : (bytes : List ℕ) → longest_entry + 2 ≤ length bytes
      → (stop : StopKept from (front ++ closed_gate ∷ bytes) entries
      (line_behind (front ++ closed_gate ∷ take (longest_entry + 1) bytes)))
      × (stop.place ≡ length front + (longest_entry + 2))
  stops_long bytes long =
      let begin : take (longest_entry + 2) (closed_gate ∷ bytes)
      ≡ closed_gate ∷ take (longest_entry + 1) bytes = refl in
      let s = stops_behind from entries front (closed_gate ∷ bytes) (longest_entry + 2) is
      (long_tail IsWholeEntry longest_entry whole_some whole_bounded whole_one
      (closed_gate ∷ bytes) bytes refl long)
      (subst NoEntryStands (sym begin) (closed_none (take (longest_entry + 1) bytes))) in
      subst (λ l. (stop : StopKept from (front ++ closed_gate ∷ bytes) entries
      (line_behind (front ++ l)))
      × (stop.place ≡ length front + (longest_entry + 2))) begin s

  -- they end within an entry behind an open gate
  pub stops_early : (gate : ℕ) (held : List ℕ) → gate ≢ closed_gate → 0 < length held
      → IsUnfinishedEntry held
      → StopKept from (front ++ gate ∷ held) entries (line_behind (front ++ gate ∷ held))
  stops_early gate held is_open some begun =
      let all : List ℕ = gate ∷ held in
      let begin : take (length all) all ≡ all = take_all (length all) all (omega arith) in
      let s = stops_behind from entries front all (length all) is
      (ends_early IsWholeEntry longest_entry whole_some whole_bounded whole_one gate held all refl
      is_open some begun)
      (subst NoEntryStands (sym begin) (open_none gate held (inr begun))) in
      subst (λ l. StopKept from (front ++ all) entries (line_behind (front ++ l))) begin s.0
