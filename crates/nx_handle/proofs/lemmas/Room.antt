-- A text that is copied into a room piece by piece.
use Rattle.std.proofs.Common.{◌≡◌, ◌≤◌, ◌+◌, ◌-◌, inl, inr, ℕ, List, ◌++◌, length, take, drop, min, arith, sym, ap, ap₂, ◌∙◌, append_assoc, append-nil}
use Rattle.std.proofs.lemmas.Bool.{cases_lt}
use Rattle.std.proofs.lemmas.List.{drop-drop, length-append, length-drop, length-take, take-append-le, take_all, drop_all}
use Rattle.std.proofs.Math.Seq.{drop-append-add, take-append-add, take-append_seam}

-- what a room holds that had this, where as much of a text is copied as it has room for
abbrev pub copied_in : List ℕ → List ℕ → List ℕ
copied_in text old =
    take (min (length text) (length old)) text ++ drop (min (length text) (length old)) old

pub same-length : (old text : List ℕ) → length (copied_in text old) ≡ length old
same-length old text =
    let m = min (length text) (length old) in
    omega (
      arith,
      length-append (take m text) (drop m old),
      length-take m text,
      length-drop m old,
    )

-- the text ends in the room
within : (old text piece now new : List ℕ) (from count : ℕ) → length text ≤ length old
    → now ≡ copied_in text old → from ≡ min (length text) (length now)
    → count ≡ min (length piece) (length now - from)
    → new ≡ take from now ++ (take count piece ++ drop (from + count) now)
    → new ≡ copied_in (text ++ piece) old
within old text piece now new from count few e f g h =
    let n = length text in
    let long : length now ≡ length old = ap length e ∙ same-length old text in
    let all : min n (length old) ≡ n = omega (arith, few) in
    let holds : now ≡ text ++ drop n old =
    e ∙ ap (λ k. take k text ++ drop k old) all
    ∙ ap (λ t. t ++ drop n old) (take_all n text (omega arith)) in
    let at : from ≡ n = omega (arith, f, long, few) in
    let more : min (length (text ++ piece)) (length old) ≡ n + count =
    omega (arith, g, at, long, few, length-append text piece) in
    let front : take from now ≡ text =
    ap₂ take at holds ∙ take-append_seam text (drop n old) in
    let back : drop (from + count) now ≡ drop (n + count) old =
    ap₂ (λ k l. drop (k + count) l) at holds ∙ drop-append-add text (drop n old) count
    ∙ drop-drop count n old in
    h ∙ ap₂ (λ a b. a ++ (take count piece ++ b)) front back
    ∙ sym (append_assoc text (take count piece) (drop (n + count) old))
    ∙ ap (λ t. t ++ drop (n + count) old) (sym (take-append-add text piece count))
    ∙ ap (λ k. take k (text ++ piece) ++ drop k old) (sym more)

-- the text is longer than the room
beyond : (old text piece now new : List ℕ) (from count : ℕ) → length old ≤ length text
    → now ≡ copied_in text old → from ≡ min (length text) (length now)
    → count ≡ min (length piece) (length now - from)
    → new ≡ take from now ++ (take count piece ++ drop (from + count) now)
    → new ≡ copied_in (text ++ piece) old
beyond old text piece now new from count full e f g h =
    let n = length old in
    let long : length now ≡ n = ap length e ∙ same-length old text in
    let at : from ≡ length now = omega (arith, f, long, full) in
    let none : count ≡ 0 = omega (arith, g, at) in
    let before : min (length text) n ≡ n = omega (arith, full) in
    let more : min (length (text ++ piece)) n ≡ n =
    omega (arith, full, length-append text piece) in
    let stays : new ≡ now =
    h ∙ ap₂ (λ k l. take k now ++ (take l piece ++ drop (k + l) now)) at none
    ∙ ap₂ (λ a b. a ++ b) (take_all (length now) now (omega arith))
    (drop_all (length now + 0) now (omega arith))
    ∙ append-nil now in
    stays ∙ e ∙ ap (λ k. take k text ++ drop k old) before
    ∙ ap (λ t. t ++ drop n old) (sym (take-append-le n text piece full))
    ∙ ap (λ k. take k (text ++ piece) ++ drop k old) (sym more)

pub copied-more : (old text piece now new : List ℕ) (from count : ℕ)
    → now ≡ copied_in text old → from ≡ min (length text) (length now)
    → count ≡ min (length piece) (length now - from)
    → new ≡ take from now ++ (take count piece ++ drop (from + count) now)
    → new ≡ copied_in (text ++ piece) old
copied-more old text piece now new from count e f g h = elim (cases_lt (length old) (length text)) [
  | inl full ↦ beyond old text piece now new from count (omega (arith, full)) e f g h
  | inr few ↦ within old text piece now new from count (omega (arith, few)) e f g h
]
