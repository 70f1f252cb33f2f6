-- A reader of a kept log, step by step.
use Rattle.std.proofs.Common.{◌≡◌, inl, inr, ℕ, ◌+◌, ◌-◌, ◌<◌, ◌≤◌, min, List, [], ◌∷◌, ◌++◌, length, take, drop, Some, refl, sym, ap, ap₂, ◌∙◌, subst, arith, append_assoc, append-nil, length-append, take-append-drop}
use Rattle.std.proofs.lemmas.Bool.{cases_lt}
use Rattle.std.proofs.lemmas.List.{length-take, take-append-le}
use Rattle.nx_kept.specs.Kept.{closed_gate}
use Rattle.nx_kept.proofs.lemmas.Pieces.{take_past}
use Rattle.nx_log.specs.Entries.{IsUnfinishedEntry, IsWholeEntry}
use Rattle.nx_log.specs.KeptLog.{StopKept, longest_entry, places_at}
use Rattle.nx_log.specs.LogReader.{most_lines}
use Rattle.nx_log.specs.Logged.{IsLoggedAs}
use Rattle.nx_log.specs.Places.{PlacedCopy}
use Rattle.nx_log.specs.Reading.{line_behind}
use Rattle.nx_log.specs.Starts.{StartsAs}
use Rattle.nx_log.specs.private.KeptReading.{EndsKept, IsAtKept, IsBegun, StageStands, StopsWithin, TakesKept}
use Rattle.nx_log.specs.declared.entries.kept_reader.KeptPushed.TheVariants.{Entry}
use Rattle.nx_log.specs.declared.entries.kept_reader.KeptReader.{KeptReader}
use Rattle.nx_log.specs.declared.entries.kept_reader.KeptStage.TheVariants.{Closed, Gate, Open}
use Rattle.nx_log.specs.declared.entries.start.EntryStart.TheVariants.{Broken, Whole}
use Rattle.nx_log.specs.declared.writing.places.Places.{Places}
use Rattle.nx_log.proofs.lemmas.kept.Damage.{stops_broken, stops_early, stops_long}
use Rattle.nx_log.proofs.lemmas.kept.Standing.{placed_more, whole_one, whole_some}
use Rattle.nx_log.proofs.lemmas.reader.Steps.{take_over}
use Rattle.nx_kept.proofs.lemmas.Steps.{nil_right}

-- ---- what is held of an entry

-- some first of a beginning is one
begun_front : (held : List ℕ) (n : ℕ) → IsUnfinishedEntry held → IsUnfinishedEntry (take n held)
begun_front held n begun = (
  drop n held ++ begun.0,
  subst IsWholeEntry
      (ap (λ l. l ++ begun.0) (sym (take-append-drop n held))
      ∙ append_assoc (take n held) (drop n held) begun.0) begun.1,
  λ none. begun.2 (nil_right (drop n held) begun.0 none),
)

-- what is held isn't whole yet
pub begun_short : (held bytes : List ℕ) (n : ℕ) → IsBegun held
    → IsWholeEntry (take n (held ++ bytes)) → length held < n
begun_short held bytes n (inl none) whole =
    let some = whole_some (take n (held ++ bytes)) whole in
    omega (arith, some, ap length none, length-take n (held ++ bytes))
begun_short held bytes n (inr begun) whole = elim (cases_lt (length held) n) [
  | inl less ↦ less
  | inr more ↦
      let front : take n (held ++ bytes) ≡ take n held =
      take-append-le n held bytes (omega (arith, more)) in
      let part = begun_front held n begun in
      absurd (part.2 (whole_one (take n held) part.0 (subst IsWholeEntry front whole) part.1))
]

-- nor broken
pub begun_unbroken : (held bytes : List ℕ) (n : ℕ) → IsBegun held
    → (IsUnfinishedEntry (take (n + 1) (held ++ bytes)) → ⊥) → length held ≤ n
begun_unbroken held bytes n (inl none) broken = omega (arith, ap length none)
begun_unbroken held bytes n (inr begun) broken = elim (cases_lt n (length held)) [
  | inr more ↦ omega (arith, more)
  | inl less ↦
      let front : take (n + 1) (held ++ bytes) ≡ take (n + 1) held =
      take-append-le (n + 1) held bytes (omega (arith, less)) in
      absurd (broken (subst IsUnfinishedEntry (sym front) (begun_front held (n + 1) begun)))
]

-- what was given, and some of what comes, behind an open gate
given_and : (given front held bytes : List ℕ) (gate n : ℕ) → given ≡ front ++ gate ∷ held
    → length held ≤ n
    → given ++ take (n - length held) bytes ≡ front ++ gate ∷ take n (held ++ bytes)
given_and given front held bytes gate n split few =
    ap (λ l. l ++ take (n - length held) bytes) split
    ∙ append_assoc front (gate ∷ held) (take (n - length held) bytes)
    ∙ ap (λ l. front ++ gate ∷ l) (sym (take_over held bytes n few))

-- places are two numbers
same_places : (places : Places) (place : ℕ) (entry : List ℕ) → places.place ≡ place
    → places.next ≡ place + 1 + length entry → places ≡ places_at place entry
same_places places place entry e f =
    ap₂ (λ a b. record { place = a; next = b }) e f

module _ (reader : KeptReader) (from : ℕ) (given : List ℕ) (entries : List PlacedCopy)
    (at : IsAtKept reader from given entries) (stage_is : reader.stage ≡ Open) where
  stands_open : StageStands Open reader.held.items at.rest
  stands_open = subst (λ s. StageStands s reader.held.items at.rest) stage_is at.stands

  given_is : given ≡ at.front ++ stands_open.0 ∷ reader.held.items
  given_is = at.split ∙ ap (λ l. at.front ++ l) stands_open.2

  -- what is held stands behind the gate
  pub held_behind : length at.rest ≡ 1 + length reader.held.items
  held_behind = omega (arith, ap length stands_open.2)

  -- an entry ends
  pub takes_entry : (bytes : List ℕ) (new : KeptReader) (n taken : ℕ) (places : Places)
      → StartsAs (reader.held.items ++ bytes) (Whole n) → taken ≡ n - length reader.held.items
      → new.held.items ≡ take n (reader.held.items ++ bytes) → new.stage ≡ Gate
      → new.line ≡ min (line_behind (given ++ take taken bytes)) most_lines
      → places.place ≡ reader.gate → places.next ≡ reader.gate + 1 + n
      → new.gate ≡ reader.gate + 1 + n
      → TakesKept from given entries bytes new (Entry taken places)
  takes_entry bytes new n taken places starts taken_is held_is stage line place next gate =
      let o = stands_open in
      let held = reader.held.items in
      let entry = take n (held ++ bytes) in
      let one = starts.1.0 in
      let less = begun_short held bytes n o.3 starts.1 in
      let size : length entry ≡ n = omega (arith, length-take n (held ++ bytes), starts.0) in
      let whole : given ++ take taken bytes ≡ at.front ++ o.0 ∷ entry =
      ap (λ k. given ++ take k bytes) taken_is
      ∙ given_and given at.front held bytes o.0 n given_is (omega (arith, less)) in
      let known : places ≡ places_at (from + length at.front) entry =
      same_places places (from + length at.front) entry (place ∙ at.gate)
      (omega (arith, next, at.gate, size)) in (
        one,
        subst (λ l. IsLoggedAs one l) (sym held_is) starts.1.1,
        record {
          front = at.front ++ o.0 ∷ entry;
          rest = [];
          split = whole ∙ sym (append-nil (at.front ++ o.0 ∷ entry));
          placed = placed_more from entries at.front o.0 entry
              (record { one = one; places = Some places }) at.placed o.1 starts.1.1
              (ap (λ p. Some p) known);
          stands = subst (λ s. StageStands s new.held.items []) (sym stage) refl;
          gate = omega (arith, gate, at.gate, size, length-append at.front (o.0 ∷ entry));
          line = line;
        },
      )

  -- it goes on
  pub takes_more : (bytes : List ℕ) (new : KeptReader)
      → IsUnfinishedEntry (reader.held.items ++ bytes)
      → new.held.items ≡ reader.held.items ++ bytes → new.stage ≡ Open
      → new.line ≡ min (line_behind (given ++ bytes)) most_lines → new.gate ≡ reader.gate
      → IsAtKept new from (given ++ bytes) entries
  takes_more bytes new begun held_is stage line gate =
      let o = stands_open in
      record {
        front = at.front;
        rest = o.0 ∷ (reader.held.items ++ bytes);
        split = ap (λ l. l ++ bytes) given_is
            ∙ append_assoc at.front (o.0 ∷ reader.held.items) bytes;
        placed = at.placed;
        stands = subst (λ s. StageStands s new.held.items (o.0 ∷ (reader.held.items ++ bytes)))
            (sym stage) (
              o.0,
              o.1,
              ap (λ l. o.0 ∷ l) (sym held_is),
              inr (subst IsUnfinishedEntry (sym held_is) begun),
            );
        gate = gate ∙ at.gate;
        line = line;
      }

  -- it breaks
  pub takes_broken : (bytes : List ℕ) (n begun line : ℕ)
      → StartsAs (reader.held.items ++ bytes) (Broken n)
      → begun ≡ n - length reader.held.items
      → line ≡ min (line_behind (given ++ take begun bytes)) most_lines
      → StopsWithin from (given ++ bytes) entries (record { line = line })
  takes_broken bytes n begun line starts begun_is line_is =
      let o = stands_open in
      let held = reader.held.items in
      let few = begun_unbroken held bytes n o.3 starts.3 in
      let s = stops_broken from entries at.front at.placed o.0 (held ++ bytes) n o.1 starts.0
      starts.1 starts.2 starts.3 in
      let whole : given ++ take begun bytes ≡ at.front ++ o.0 ∷ take n (held ++ bytes) =
      ap (λ k. given ++ take k bytes) begun_is
      ∙ given_and given at.front held bytes o.0 n given_is few in
      let all : at.front ++ o.0 ∷ (held ++ bytes) ≡ given ++ bytes =
      sym (append_assoc at.front (o.0 ∷ held) bytes) ∙ ap (λ l. l ++ bytes) (sym given_is) in
      let within : s.0.place < length (at.front ++ o.0 ∷ (held ++ bytes)) =
      omega (arith, s.1, starts.0, length-append at.front (o.0 ∷ (held ++ bytes))) in
      subst (λ l. StopsWithin from l entries (record { line = line })) all (record {
        line = line_behind (at.front ++ o.0 ∷ take n (held ++ bytes));
        stop = s.0;
        within = within;
        counted = line_is ∙ ap (λ l. min (line_behind l) most_lines) whole;
      })

  pub ends_early_at : 0 < length reader.held.items
      → EndsKept from given entries (Some (record { line = reader.line }))
  ends_early_at some =
      let o = stands_open in
      let begun = not_empty reader.held.items some o.3 in (
        line_behind (at.front ++ o.0 ∷ reader.held.items),
        subst (λ l. StopKept from l entries (line_behind (at.front ++ o.0 ∷ reader.held.items)))
            (sym given_is)
            (stops_early from entries at.front at.placed o.0 reader.held.items o.1 some begun),
        at.line ∙ ap (λ l. min (line_behind l) most_lines) given_is,
      )
    where
      not_empty : (held : List ℕ) → 0 < length held → IsBegun held → IsUnfinishedEntry held
      not_empty held some (inl none) = absurd (omega (arith, some, ap length none))
      not_empty held some (inr begun) = begun

-- ---- behind a closed gate

module _ (reader : KeptReader) (from : ℕ) (given : List ℕ) (entries : List PlacedCopy)
    (at : IsAtKept reader from given entries) (count : ℕ)
    (stage_is : reader.stage ≡ Closed count) where
  stands_closed : StageStands (Closed count) reader.held.items at.rest
  stands_closed = subst (λ s. StageStands s reader.held.items at.rest) stage_is at.stands

  closed_given : given ≡ at.front ++ closed_gate ∷ stands_closed.0
  closed_given = at.split ∙ ap (λ l. at.front ++ l) stands_closed.1

  pub takes_long : (bytes : List ℕ) (room line : ℕ) → room ≡ longest_entry + 1 - count
      → room < length bytes → line ≡ min (line_behind (given ++ take room bytes)) most_lines
      → StopsWithin from (given ++ bytes) entries (record { line = line })
  takes_long bytes room line room_is long line_is =
      let o = stands_closed in
      let behind = o.0 ++ bytes in
      let s = stops_long from entries at.front at.placed behind
      (omega (arith, room_is, long, o.2, o.3, length-append o.0 bytes)) in
      let size : longest_entry + 1 ≡ length o.0 + room = omega (arith, room_is, o.2, o.3) in
      let begin : take (longest_entry + 1) behind ≡ o.0 ++ take room bytes =
      ap (λ k. take k behind) size ∙ take_past o.0 bytes room in
      let whole : given ++ take room bytes
      ≡ at.front ++ closed_gate ∷ take (longest_entry + 1) behind =
      ap (λ l. l ++ take room bytes) closed_given
      ∙ append_assoc at.front (closed_gate ∷ o.0) (take room bytes)
      ∙ ap (λ l. at.front ++ closed_gate ∷ l) (sym begin) in
      let all : at.front ++ closed_gate ∷ behind ≡ given ++ bytes =
      sym (append_assoc at.front (closed_gate ∷ o.0) bytes)
      ∙ ap (λ l. l ++ bytes) (sym closed_given) in
      let within : s.0.place < length (at.front ++ closed_gate ∷ behind) =
      omega (
        arith,
        s.1,
        room_is,
        long,
        o.2,
        o.3,
        length-append o.0 bytes,
        length-append at.front (closed_gate ∷ behind),
      ) in
      subst (λ l. StopsWithin from l entries (record { line = line })) all (record {
        line = line_behind (at.front ++ closed_gate ∷ take (longest_entry + 1) behind);
        stop = s.0;
        within = within;
        counted = line_is ∙ ap (λ l. min (line_behind l) most_lines) whole;
      })
