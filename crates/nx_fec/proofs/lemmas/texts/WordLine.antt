-- The names and the lines of words.
use Rattle.std.proofs.Common.{◌≡◌, ℕ, ◌+◌, ◌/◌, List, [], ◌∷◌, ◌++◌, length, map, codes, get_or}
use Rattle.std.proofs.Common.{Option, None, Some, refl, sym, ap, ◌∙◌, arith, append-nil, subst, ◌%◌}
use Rattle.std.proofs.Common.{Bool}
use Rattle.std.specs.Option.{option_map_or}
use Rattle.std.specs.List.{flat_map, range_with_len}
use Rattle.std.proofs.lemmas.List.Concat.{flat_map-append}
use Rattle.std.proofs.lemmas.List.FromFn.{map-range_with_len_more}
use Rattle.nx_code.specs.Table.{row, table, words, place_of}
use Rattle.nx_code.specs.Signal.{place, number_of_signal}
use Rattle.nx_code.specs.declared.signals.Signal.{Signal}
use Rattle.nx_code.specs.Word.{weight}
use Rattle.nx_code.proofs.lemmas.Table.{place-lt, place_of-words}
use Rattle.nx_fec.specs.texts.WordLines.{first_word_lines, word_line, word_lines, word_name}
use Rattle.nx_fec.specs.emissions.Aligned.{words_of}
use Rattle.nx_fec.specs.air_files.Lines.{IsBitFile}
use Rattle.nx_fec.specs.Runs.{IsShown}
use Rattle.nx_fec.proofs.lemmas.emissions.Aligned.{length-words_of}
use Rattle.nx_fec.proofs.lemmas.emissions.Pairing.{weight-found}

-- the name of the word of a signal
pub name-signal : (signal : Signal) (word : ℕ) → number_of_signal signal ≡ word
    → word_name word ≡ (get_or table (place signal) (row 0x00 [] [])).letter
unfolding word_name
name-signal signal word h =
    let at : place_of word ≡ Some (place signal) =
    ap place_of (sym h) ∙ place_of-words (place signal) (place-lt signal) in
    ap (λ o. option_map_or (λ at. (get_or table at (row 0x00 [] [])).letter) o (codes "wrong")) at

nowhere : (word : ℕ) (o : Option ℕ) → place_of word ≡ o → (weight word ≡ 4 → ⊥) → o ≡ None
nowhere word None e h = refl
nowhere word (Some at) e h = absurd (h (weight-found word at e))

-- and that of another word
pub name-wrong : (word : ℕ) → (weight word ≡ 4 → ⊥) → word_name word ≡ codes "wrong"
unfolding word_name
name-wrong word h =
    ap (λ o. option_map_or (λ at. (get_or table at (row 0x00 [] [])).letter) o (codes "wrong"))
    (nowhere word (place_of word) refl h)

-- one line more
pub first_word_lines-more : (words : List ℕ) (count word : ℕ) → word ≡ get_or words count 0
    → first_word_lines words count ++ word_line count word ≡ first_word_lines words (count + 1)
unfolding first_word_lines
first_word_lines-more words count word is =
    let line = λ (p : ℕ × ℕ). word_line p.0 p.1 in
    let first : List (ℕ × ℕ) = map (λ slot. (slot, get_or words slot 0)) (range_with_len 0 count) in
    ap (λ w. flat_map line first ++ word_line count w) is
    ∙ sym (ap (λ l. flat_map line first ++ l) (append-nil (word_line count (get_or words count 0))))
    ∙ sym (flat_map-append line first ((count, get_or words count 0) ∷ []))
    ∙ sym (ap (flat_map line)
    (map-range_with_len_more (λ slot. (slot, get_or words slot 0)) 0 count count (omega arith)))

-- the lines of the words of a file of elements
pub IsShown-of : (limit : ℕ) (bytes : List ℕ) (bits given : List Bool) (lines text : List ℕ)
    (count : ℕ) → given ≡ bits → length given % 7 ≡ 0 → lines ≡ word_lines (words_of given)
    → text ≡ lines
    → count ≡ length bits / 7 → IsBitFile limit bytes bits → IsShown limit bytes text count
IsShown-of limit bytes bits given lines text count same whole shown is counted file = record {
  bits = bits;
  file = file;
  whole = subst (λ l. length l % 7 ≡ 0) same whole;
  shown = is ∙ shown ∙ ap (λ l. word_lines (words_of l)) same;
  count_is = counted ∙ sym (length-words_of bits);
}
