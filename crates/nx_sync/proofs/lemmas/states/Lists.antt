-- Parts of lists: the last items, and what more items at the end leave as it was.
use Rattle.std.proofs.Common.{◌≡◌, ℕ, ◌+◌, ◌-◌, ◌<◌, ◌≤◌, List, [], ◌∷◌, ◌++◌, length, take, drop}
use Rattle.std.proofs.Common.{replicate, Bool, false, sym, ap, ◌∙◌, inl, inr, arith, append_assoc}
use Rattle.std.proofs.Common.{length-append, length-drop, drop-drop}
use Rattle.std.proofs.Math.Seq.{drop-append-add}
use Rattle.std.proofs.lemmas.List.{drop-append-le, take-append-le, length-replicate}
use Rattle.std.proofs.lemmas.Bool.{cases_lt}
use Rattle.circular_buffer.specs.Buffer.{keep_last}

module _ {X : Type 0} where
  -- a part that lies before the end is the same when more comes
  pub part-append : (i n : ℕ) (xs ys : List X) → i + n ≤ length xs
      → take n (drop i (xs ++ ys)) ≡ take n (drop i xs)
  part-append i n xs ys h =
      ap (take n) (drop-append-le i xs ys (omega arith))
      ∙ take-append-le n (drop i xs) ys (simp length-drop (omega arith))

  -- what is left behind n items before the end, when one more comes
  pub keep_last-push : (n : ℕ) (xs : List X) (y : X)
      → keep_last n (keep_last n xs ++ y ∷ []) ≡ keep_last n (xs ++ y ∷ [])
  keep_last-push n xs y = elim (cases_lt n (length xs)) [
    | inl more ↦
        let k : ℕ = length xs - n in
        let l : length (drop k xs ++ y ∷ []) - n ≡ 1 =
        simp (length-append, length-drop) (omega arith) in
        let e : length (xs ++ y ∷ []) - n ≡ k + 1 = simp length-append (omega arith) in
        ap (λ j. drop j (drop k xs ++ y ∷ [])) l
        ∙ (ap (drop 1) (sym (drop-append-le k xs (y ∷ []) (omega arith)))
        ∙ (drop-drop 1 k (xs ++ y ∷ [])
        ∙ ap (λ j. drop j (xs ++ y ∷ [])) (sym e)))
    | inr few ↦
        let z : length xs - n ≡ 0 = omega arith in
        let same : drop (length xs - n) xs ≡ xs = ap (λ j. drop j xs) z in
        ap (λ ys. keep_last n (ys ++ y ∷ [])) same
  ]

  -- the last n items moved up by one
  pub keep_last-moved : (n : ℕ) (xs : List X) (y : X) → 0 < n → n ≤ length xs
      → drop 1 (keep_last n xs) ++ y ∷ [] ≡ keep_last n (xs ++ y ∷ [])
  keep_last-moved n xs y pos h =
      let k : ℕ = length xs - n in
      let e : length (xs ++ y ∷ []) - n ≡ k + 1 = simp length-append (omega arith) in
      ap (λ ys. ys ++ y ∷ []) (drop-drop 1 k xs)
      ∙ (sym (drop-append-le (k + 1) xs (y ∷ []) (omega arith))
      ∙ ap (λ j. drop j (xs ++ y ∷ [])) (sym e))

  -- the last n items, moved up by as many as come
  pub keep_last-append : (n : ℕ) (xs ys : List X) → length ys ≤ n → n ≤ length xs
      → drop (length ys) (keep_last n xs) ++ ys ≡ keep_last n (xs ++ ys)
  keep_last-append n xs ys few h =
      let k : ℕ = length xs - n in
      let e : length (xs ++ ys) - n ≡ k + length ys = simp length-append (omega arith) in
      ap (λ zs. zs ++ ys) (drop-drop (length ys) k xs)
      ∙ (sym (drop-append-le (k + length ys) xs ys (omega arith))
      ∙ ap (λ j. drop j (xs ++ ys)) (sym e))

-- the last n items of a list with n items of padding before it, where the list has so many
pub keep_last-padded : (n : ℕ) (bits : List Bool) → n ≤ length bits
    → keep_last n (replicate n false ++ bits) ≡ drop (length bits - n) bits
keep_last-padded n bits h =
    let pad : List Bool = replicate n false in
    let l : length pad ≡ n = length-replicate n false in
    let e : length (pad ++ bits) - n ≡ length pad + (length bits - n) =
    simp length-append (omega arith) in
    ap (λ j. drop j (pad ++ bits)) e ∙ drop-append-add pad bits (length bits - n)

-- padding and more bits
pub padded-append : (n : ℕ) (bits more : List Bool) → length more ≤ n
    → drop (length more) (keep_last n (replicate n false ++ bits)) ++ more
    ≡ keep_last n (replicate n false ++ (bits ++ more))
padded-append n bits more few =
    let pad : List Bool = replicate n false in
    let l : length pad ≡ n = length-replicate n false in
    keep_last-append n (pad ++ bits) more few (simp length-append (omega arith))
    ∙ ap (keep_last n) (append_assoc pad bits more)

-- so many are left behind padding
pub length-padded : (n : ℕ) (bits : List Bool)
    → length (keep_last n (replicate n false ++ bits)) ≡ n
length-padded n bits =
    let l : length (replicate n false) ≡ n = length-replicate n false in
    simp (length-drop, length-append) (omega arith)

-- padding and one more bit
pub padded-push : (n : ℕ) (bits : List Bool) (b : Bool) → 0 < n
    → drop 1 (keep_last n (replicate n false ++ bits)) ++ b ∷ []
    ≡ keep_last n (replicate n false ++ (bits ++ b ∷ []))
padded-push n bits b pos =
    let pad : List Bool = replicate n false in
    let l : length pad ≡ n = length-replicate n false in
    keep_last-moved n (pad ++ bits) b pos (simp length-append (omega arith))
    ∙ ap (keep_last n) (append_assoc pad bits (b ∷ []))
