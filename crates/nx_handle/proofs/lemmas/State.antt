-- How long the text of a state is.
use Rattle.std.proofs.Common.{◌≡◌, ℕ, ◌+◌, ◌*◌, ◌≤◌, suc, List, [], ◌∷◌, ◌++◌, length, map, ap, sym, ◌∙◌, subst, inr, refl, append_assoc, take, slice_get, Some, arith}
use Rattle.std.specs.List.{AllByRecursion}
use Rattle.std.specs.Prelude.{codes}
use Rattle.std.proofs.lemmas.List.{length-append, length-map, map-append}
use Rattle.nx_code.specs.Reading.{newline}
use Rattle.nx_memory.specs.Saved.{SavedState, SavedStates, IsSavedState, AreSavedStates}
use Rattle.nx_memory.specs.StateText.{IsShortLine, last_line, rising, section, text_2}
use Rattle.nx_memory.specs.declared.memories.entry.MemoryEntry.{MemoryEntry}
use Rattle.nx_memory.proofs.lemmas.StateLaws.{text_short}
use Rattle.nx_code.proofs.lemmas.Each.{each_left, each_right}
use Rattle.nx_receiver.specs.air_file_runs.State.{ended_lines, state_bytes}
use Rattle.nx_receiver.proofs.lemmas.state.Bounds.{few_rising}
use Rattle.nx_receiver.proofs.lemmas.state.Splits.{ended-append, ended-one}
use Rattle.nx_receiver.proofs.lemmas.state.Writing.{state_bytes-is, take-next}
use Rattle.nx_handle.specs.Saving.{longest_state}

-- lines and others have as many bytes as both
both-long : (lines more : List (List ℕ))
    → length (ended_lines (lines ++ more))
    ≡ length (ended_lines lines) + length (ended_lines more)
both-long lines more =
    ap length (ended-append lines more) ∙ length-append (ended_lines lines) (ended_lines more)

one-long : (line : List ℕ) (lines : List (List ℕ))
    → length (ended_lines (line ∷ lines)) ≡ (length line + 1) + length (ended_lines lines)
one-long line lines =
    length-append (line ++ newline ∷ []) (ended_lines lines)
    ∙ ap (λ n. n + length (ended_lines lines)) (length-append line (newline ∷ []))

-- short lines have 17 bytes at most
short-lines : (lines : List (List ℕ)) → AllByRecursion IsShortLine lines
    → length (ended_lines lines) ≤ 17 * length lines
short-lines [] all = omega arith
short-lines (line ∷ lines) all =
    let rest = short-lines lines all.1 in
    let short = all.0.short in
    omega (arith, one-long line lines, rest, short)

-- there are at most 26 letters
-- lines of 4 bytes have 5 with their line feeds
fours-long : {S : Type 0} (spell : S → List ℕ) (make : ℕ → S) (letters : List ℕ)
    → ((letter : ℕ) → length (spell (make letter)) ≡ 4)
    → length (ended_lines (map spell (map make letters))) ≡ 5 * length letters
fours-long spell make [] four = refl
fours-long spell make (letter ∷ letters) four =
    let rest = fours-long spell make letters four in
    omega (
      arith,
      one-long (spell (make letter)) (map spell (map make letters)),
      four letter,
      rest,
    )

-- the lines of two sets of letters and of entries have 3,660
lines-long : {S : Type 0} (spell : S → List ℕ) (one two : ℕ → S) (three : MemoryEntry → S)
    (stations subjects : List ℕ) (entries : List MemoryEntry)
    → ((letter : ℕ) → length (spell (one letter)) ≡ 4)
    → ((letter : ℕ) → length (spell (two letter)) ≡ 4)
    → length stations ≤ 26 → length subjects ≤ 26 → length entries ≤ 200
    → AllByRecursion IsShortLine
    (map spell (map one stations ++ (map two subjects ++ map three entries)))
    → length (ended_lines
    (map spell (map one stations ++ (map two subjects ++ map three entries)))) ≤ 3660
lines-long spell one two three stations subjects entries four_1 four_2 few_1 few_2 few_3 all =
    let a = map spell (map one stations) in
    let b = map spell (map two subjects) in
    let c = map spell (map three entries) in
    let parts : map spell (map one stations ++ (map two subjects ++ map three entries))
    ≡ a ++ (b ++ c) =
    map-append spell (map one stations) (map two subjects ++ map three entries)
    ∙ ap (λ l. a ++ l) (map-append spell (map two subjects) (map three entries)) in
    let each = subst (AllByRecursion IsShortLine) parts all in
    let last = short-lines c (each_right IsShortLine b c (each_right IsShortLine a (b ++ c) each)) in
    omega (
      arith,
      ap (λ l. length (ended_lines l)) parts,
      both-long a (b ++ c),
      both-long b c,
      fours-long spell one stations four_1,
      fours-long spell two subjects four_2,
      few_1,
      few_2,
      few_3,
      last,
      length-map (map three entries) spell,
      length-map entries three,
    )

-- what is said of a channel has 3,660
section-long : (saved : SavedState) → IsSavedState saved
    → AllByRecursion IsShortLine (section saved)
    → length (ended_lines (section saved)) ≤ 3660
section-long saved is all =
    lines-long _ _ _ _ (rising saved.refused.stations) (rising saved.refused.subjects)
    saved.entries (λ letter. refl) (λ letter. refl) (few_rising saved.refused.stations)
    (few_rising saved.refused.subjects) is.entries.content.bounded all

pub few-bytes : (states : SavedStates) → AreSavedStates states
    → length (state_bytes states) ≤ longest_state
few-bytes states are =
    let on_0 = section states.on_0 in
    let on_1 = section states.on_1 in
    let on_2 = section states.on_2 in
    let behind_2 = on_2 ++ last_line in
    let behind_1 = on_1 ++ codes "C2" ∷ behind_2 in
    let behind_0 = on_0 ++ codes "C1" ∷ behind_1 in
    let all = text_short (text_2 states) states (inr (record { sound = are; spelled = refl })) in
    let each_0 = all.1.1 in
    let each_1 = (each_right IsShortLine on_0 (codes "C1" ∷ behind_1) each_0).1 in
    let each_2 = (each_right IsShortLine on_1 (codes "C2" ∷ behind_2) each_1).1 in
    omega (
      arith,
      ap length (state_bytes-is states),
      one-long (codes "STATE 2") (codes "C0" ∷ behind_0),
      one-long (codes "C0") behind_0,
      both-long on_0 (codes "C1" ∷ behind_1),
      one-long (codes "C1") behind_1,
      both-long on_1 (codes "C2" ∷ behind_2),
      one-long (codes "C2") behind_2,
      both-long on_2 last_line,
      section-long states.on_0 are.on_0
          (each_left IsShortLine on_0 (codes "C1" ∷ behind_1) each_0),
      section-long states.on_1 are.on_1
          (each_left IsShortLine on_1 (codes "C2" ∷ behind_2) each_1),
      section-long states.on_2 are.on_2 (each_left IsShortLine on_2 last_line each_2),
    )

-- ---- line by line

-- one line more, with its line feed
pub ended-next : (lines : List (List ℕ)) (place : ℕ) (line : List ℕ)
    → slice_get lines place ≡ Some line
    → (ended_lines (take place lines) ++ line) ++ newline ∷ []
    ≡ ended_lines (take (place + 1) lines)
ended-next lines place line at =
    let next : place + 1 ≡ suc place = omega arith in
    append_assoc (ended_lines (take place lines)) line (newline ∷ [])
    ∙ sym (ap (λ n. ended_lines (take n lines)) next
    ∙ ap ended_lines (take-next lines place line at) ∙ ended-one (take place lines) line)
