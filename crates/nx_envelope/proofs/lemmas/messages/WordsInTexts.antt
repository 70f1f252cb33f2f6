-- A word that stands somewhere in a text, by the places at which the rest of the text begins with
-- it.
use Rattle.std.proofs.Common.{◌≡◌, ℕ, ◌+◌, ◌<◌, refl, true, false, List, ◌++◌, length, take, drop}
use Rattle.std.proofs.Common.{eqb, sym, ap, ◌∙◌, arith, append_assoc, length-append}
use Rattle.std.specs.List.{starts_with}
use Rattle.std.proofs.lemmas.Bool.Decides.{Decides-eqb}
use Rattle.std.proofs.lemmas.List.{take-append-drop, drop_at}
use Rattle.std.proofs.lemmas.Slice.Eq.{starts_is}
use Rattle.nx_envelope.specs.Header.{HoldsWord}

-- where the rest begins with the word, the text holds it
pub holds_at : (text word : List ℕ) (at : ℕ) → starts_with eqb (drop at text) word ≡ true
    → HoldsWord word text
holds_at text word at e =
    let rest = drop (length word) (drop at text) in
    let begins : drop at text ≡ word ++ rest =
    (starts_is Decides-eqb (drop at text) word _ refl).0 e in
    record {
      front = take at text;
      back = rest;
      spelled = sym (take-append-drop at text) ∙ ap (λ (xs : List ℕ). take at text ++ xs) begins
          ∙ sym (append_assoc (take at text) word rest);
    }

-- a text that holds a word has a rest that begins with it
pub begins_at : (text word : List ℕ) (h : HoldsWord word text)
    → starts_with eqb (drop (length h.front) text) word ≡ true
begins_at text word h =
    let rest : drop (length h.front) text ≡ word ++ h.back =
    ap (drop (length h.front)) (h.spelled ∙ append_assoc h.front word h.back)
    ∙ drop_at h.front (word ++ h.back) (length h.front) refl in
    (starts_is Decides-eqb (drop (length h.front) text) word _ refl).1 h.back rest

-- so a text of which no rest begins with the word, which isn't empty, does not hold it
pub holds_none : (text word : List ℕ) → 0 < length word
    → ((k : ℕ) → k < length text → starts_with eqb (drop k text) word ≡ false)
    → ¬ HoldsWord word text
holds_none text word some none h =
    let long : length text ≡ length h.front + length word + length h.back =
    ap length h.spelled ∙ simp length-append in
    let yes = begins_at text word h in
    let no = none (length h.front) (omega arith) in
    cc
