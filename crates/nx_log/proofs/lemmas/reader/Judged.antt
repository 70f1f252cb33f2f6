-- A window on the bytes of an entry, and what is held of it.
use Rattle.std.proofs.Common.{◌≡◌, ◌⊎◌, inl, inr, ℕ, ◌+◌, ◌≤◌, min, List, [], ◌++◌, take, drop, length, ap, sym, ◌∙◌, refl, subst, arith, append_assoc, length-append}
use Rattle.std.proofs.lemmas.Bool.{cases_lt}
use Rattle.std.proofs.lemmas.List.{length-drop, length-take, take-append-drop, take-append-le, take_all}
use Rattle.nx_log.specs.Starts.{StartsAs}
use Rattle.nx_log.specs.declared.entries.start.EntryStart.{EntryStart}
use Rattle.nx_log.specs.declared.entries.start.EntryStart.TheVariants.{Whole, Unfinished, Broken}
use Rattle.nx_log.specs.private.Steps.{part_held}
use Rattle.nx_log.proofs.lemmas.reading.Entries.{entry_bounded}
use Rattle.nx_log.proofs.lemmas.reader.Begun.{said_of_all, unfinished_short}
use Rattle.std.proofs.lemmas.List.{nil_from_length}

-- what is held is no longer than the longest entry
pub part_short : (bytes : List ℕ) (start : EntryStart) → StartsAs bytes start
    → length (take (part_held start (length bytes)) bytes) ≤ 4146
part_short bytes (Whole n) s = entry_bounded s.1.0 (take n bytes) s.1.1
part_short bytes Unfinished s =
    omega (arith, unfinished_short bytes s, length-take (length bytes) bytes)
part_short bytes (Broken n) s = omega arith

-- the window: what is held, and the first of the bytes, as many as fit
pub said_of_window : (held bytes : List ℕ) (fitting room : ℕ) (start : EntryStart)
    → fitting ≡ min (length bytes) room → room + length held ≡ 4146
    → StartsAs (held ++ take fitting bytes) start → StartsAs (held ++ bytes) start
said_of_window held bytes fitting room start is sum s =
    subst (λ l. StartsAs l start) (append_assoc held (take fitting bytes) (drop fitting bytes)
    ∙ ap (λ l. held ++ l) (take-append-drop fitting bytes))
    (said_of_all (held ++ take fitting bytes) (drop fitting bytes) start s all_or_full)
  where
    all_or_full : (drop fitting bytes ≡ []) ⊎ (length (held ++ take fitting bytes) ≡ 4146)
    all_or_full = elim (cases_lt room (length bytes)) [
      | inr fits ↦ inl (nil_from_length (drop fitting bytes)
          (omega (arith, is, length-drop fitting bytes)))
      | inl full ↦ inr
          (omega (
            arith,
            is,
            sum,
            length-append held (take fitting bytes),
            length-take fitting bytes,
          ))
    ]

-- and the part of it that is held is that of all
pub part_of_all : (held bytes : List ℕ) (fitting room : ℕ) (start : EntryStart)
    → fitting ≡ min (length bytes) room → room + length held ≡ 4146
    → StartsAs (held ++ take fitting bytes) start
    → take (part_held start (length (held ++ take fitting bytes))) (held ++ take fitting bytes)
    ≡ take (part_held start (length held + length bytes)) (held ++ bytes)
part_of_all held bytes fitting room (Whole n) is sum s =
    let within = s.0 in
    let whole : (held ++ take fitting bytes) ++ drop fitting bytes ≡ held ++ bytes =
    append_assoc held (take fitting bytes) (drop fitting bytes)
    ∙ ap (λ l. held ++ l) (take-append-drop fitting bytes) in
    sym (take-append-le n (held ++ take fitting bytes) (drop fitting bytes) within)
    ∙ ap (take n) whole
part_of_all held bytes fitting room Unfinished is sum s =
    let short = unfinished_short (held ++ take fitting bytes) s in
    let all : length bytes ≤ fitting =
    omega (
      arith,
      short,
      is,
      sum,
      length-append held (take fitting bytes),
      length-take fitting bytes,
    ) in
    let same = take_all fitting bytes all in
    take_all (length (held ++ take fitting bytes)) (held ++ take fitting bytes) (omega arith)
    ∙ ap (λ l. held ++ l) same
    ∙ sym (take_all (length held + length bytes) (held ++ bytes)
    (omega (arith, length-append held bytes)))
part_of_all held bytes fitting room (Broken n) is sum s = refl
