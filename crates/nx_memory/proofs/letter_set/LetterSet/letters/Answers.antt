use Rattle.std.proofs.Common.{rules, ◌≡◌, ◌<◌, Bool, ℕ, true, false, cond, List, [], ◌++◌, ◌∷◌, ◌+◌}
use Rattle.std.proofs.Common.{length, get_or, take, take_all, ap, sym, ◌∙◌, arith}
use Rattle.std.specs.List.{filter, range_with_len}
use Rattle.std.specs.FinSet as set
use Rattle.std.proofs.lemmas.List.{append-nil, length_push}
use Rattle.std.proofs.lemmas.List.Elements.{filter_more}
use Rattle.std.proofs.lemmas.List.FromFn.{get_or-range_with_len}
use Rattle.nx_memory.specs.StateText.{rising}
use Rattle.nx_memory.proofs.lemmas.Letters.{contains-letters_of}
use Rattle.nx_memory.proofs.letter_set.LetterSet.letters.Goals as goal
use Rattle.nx_memory.proofs.letter_set.LetterSet.letters.Goals.{then-self-place, else-self-place}

-- one more place, whose letter is in the set or isn't
taken_more : (p : ℕ → Bool) (xs letters more : List ℕ) (k x : ℕ) (flag : Bool) → k < length xs
    → get_or xs k 0 ≡ x → letters ≡ filter p (take k xs) → p x ≡ flag
    → more ≡ letters ++ cond flag (x ∷ []) [] → more ≡ filter p (take (k + 1) xs)
taken_more p xs letters more k x flag within here so_far passes made =
    made
    ∙ ap (λ (l : List ℕ). l ++ cond flag (x ∷ []) []) so_far
    ∙ ap (λ b. filter p (take k xs) ++ cond b (x ∷ []) []) (sym passes)
    ∙ ap (λ (y : ℕ). filter p (take k xs) ++ cond (p y) (y ∷ []) []) (sym here)
    ∙ sym (filter_more p xs k 0 within)

pub loop-place-preserved : goal.loop-place-preserved
loop-place-preserved c =
    let k : ℕ = c.loop-place.place in
    let here : get_or (range_with_len 65 26) k 0 ≡ 65 + k =
    get_or-range_with_len 65 26 k 0 (omega arith) in
    let flag = ap (λ s. set.contains s (65 + k)) (sym c.self.view_is)
    ∙ contains-letters_of c.self.inside.flags k (65 + k) (omega arith) in
    let few = c.loop-place.invariant.few in
    elim c.if-self-place.branch [
      | then-self-place w ↦
          let on : get_or c.self.inside.flags k false ≡ true = search rules in
          let items : w.push.new.self.items ≡ c.loop-place.letters.items ++ (65 + k) ∷ [] =
          w.push.ensures.items in
          rw w.letters-is (record {
            so_far = taken_more (set.contains c.args.self.now) (range_with_len 65 26)
                c.loop-place.letters.items w.push.new.self.items k (65 + k) true (omega arith) here
                c.loop-place.invariant.so_far (flag ∙ on) items;
            few = omega (arith, ap length items, length_push c.loop-place.letters.items (65 + k));
          })
      | else-self-place w ↦
          let off : get_or c.self.inside.flags k false ≡ false = search rules in
          rw w.letters-is (record {
            so_far = taken_more (set.contains c.args.self.now) (range_with_len 65 26)
                c.loop-place.letters.items c.loop-place.letters.items k (65 + k) false (omega arith)
                here c.loop-place.invariant.so_far (flag ∙ off)
                (sym (append-nil c.loop-place.letters.items));
            few = omega arith;
          })
    ]

pub returns : goal.returns
unfolding rising
returns c = c.loop-place.invariant.so_far
    ∙ ap (filter (set.contains c.args.self.now))
    (take_all c.loop-place.place (range_with_len 65 26) (omega arith))
