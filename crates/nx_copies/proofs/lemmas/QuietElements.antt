-- Elements of which the last one brings a step, and those before it nothing. What stands after them
-- follows from what stands after one that brings nothing. `stands` says what stands after elements,
-- each of which has a mark, such as the moment in force; `mark` is that of these.
use Rattle.std.proofs.Common.{◌≡◌, ℕ, zero, suc, ◌+◌, ◌-◌, ◌<◌, ◌≤◌, Bool, false, List, [], ◌∷◌}
use Rattle.std.proofs.Common.{◌++◌, length, map, take, get_or, Some, None, sym, ap, ◌∙◌, subst, subst₂, arith}
use Rattle.std.proofs.Common.{append_assoc, append-nil, add-one}
use Rattle.std.proofs.lemmas.List.{map-append, take_more, take_all}
use Rattle.nx_sync.specs.Steps.{IsLastStep, IsStep, step}
use Rattle.nx_sync.specs.declared.step.Role.{Role}
use Rattle.nx_sync.specs.declared.step.Step.{Step}

-- a step without a word completes none
pub no_word : (r : Step) (w : ℕ × Role) → r.word ≡ None → r.word ≡ Some w → ⊥
no_word r w e f = let both : None ≡ Some w = sym e ∙ f in cc

-- a mark for each of these elements
abbrev pub marks_of : {X : Type 0} → X → List Bool → List X
marks_of mark bits = map (λ bit. mark) bits

-- one more element, with its mark
marks_more : {X : Type 0} (mark : X) (marks : List X) (bits : List Bool) (bit : Bool)
    → marks ++ marks_of mark (bits ++ bit ∷ []) ≡ (marks ++ marks_of mark bits) ++ mark ∷ []
marks_more mark marks bits bit =
    ap (λ l. marks ++ l) (map-append (λ (b : Bool). mark) bits (bit ∷ []))
    ∙ sym (append_assoc marks (marks_of mark bits) (mark ∷ []))

module _ {X : Type 0} (stands : List Bool → List X → Type 0) (mark : X)
    (quiet_bit : (bits : List Bool) (bit : Bool) (marks : List X)
    → IsStep (bits ++ bit ∷ []) (step None None) → stands bits marks
    → stands (bits ++ bit ∷ []) (marks ++ mark ∷ [])) where
  -- after elements that bring nothing
  pub quiet_bits : (h bits : List Bool) (marks : List X) (n : ℕ) → n ≤ length bits
      → ((k : ℕ) → k < n → IsStep (h ++ take (k + 1) bits) (step None None)) → stands h marks
      → stands (h ++ take n bits) (marks ++ marks_of mark (take n bits))
  quiet_bits h bits marks zero within quiet s =
      subst₂ stands (sym (append-nil h)) (sym (append-nil marks)) s
  quiet_bits h bits marks (suc n) within quiet s =
      let bit = get_or bits n false in
      let before = quiet_bits h bits marks n (omega arith) (λ k lt. quiet k (omega arith)) s in
      let more : take (n + 1) bits ≡ take n bits ++ bit ∷ [] = take_more bits n false (omega arith)
      in
      let whole : h ++ take (n + 1) bits ≡ (h ++ take n bits) ++ bit ∷ [] =
      ap (λ l. h ++ l) more ∙ sym (append_assoc h (take n bits) (bit ∷ [])) in
      let force : marks ++ marks_of mark (take (n + 1) bits)
      ≡ (marks ++ marks_of mark (take n bits)) ++ mark ∷ [] =
      ap (λ l. marks ++ marks_of mark l) more ∙ marks_more mark marks (take n bits) bit in
      let after = quiet_bit (h ++ take n bits) bit (marks ++ marks_of mark (take n bits))
      (subst (λ l. IsStep l (step None None)) whole (quiet n (omega arith))) before in
      subst (λ m. stands (h ++ take m bits) (marks ++ marks_of mark (take m bits))) (add-one n)
      (subst₂ stands (sym whole) (sym force) after)

  -- what stands before the last of these elements, and what that one brings
  pub record BeforeLast (h bits : List Bool) (marks : List X) (s : Step) : Type 0 where
    pub before : List Bool
    pub bit : Bool
    pub whole : h ++ bits ≡ (h ++ before) ++ bit ∷ []
    pub force : marks ++ marks_of mark bits ≡ (marks ++ marks_of mark before) ++ mark ∷ []
    pub stood : stands (h ++ before) (marks ++ marks_of mark before)
    pub brings : IsStep ((h ++ before) ++ bit ∷ []) s

  pub before_last : (h bits : List Bool) (marks : List X) (s : Step) → 0 < length bits
      → IsLastStep h bits s → stands h marks → BeforeLast h bits marks s
  before_last h bits marks s some is stood =
      let n = length bits - 1 in
      let last = get_or bits n false in
      let all : take (n + 1) bits ≡ bits = take_all (n + 1) bits (omega (arith, some)) in
      let cut : bits ≡ take n bits ++ last ∷ [] =
      sym all ∙ take_more bits n false (omega (arith, some)) in
      let here : h ++ bits ≡ (h ++ take n bits) ++ last ∷ [] =
      ap (λ l. h ++ l) cut ∙ sym (append_assoc h (take n bits) (last ∷ [])) in
      record {
        before = take n bits;
        bit = last;
        whole = here;
        force = ap (λ l. marks ++ marks_of mark l) cut ∙ marks_more mark marks (take n bits) last;
        stood = quiet_bits h bits marks n (omega (arith, some))
            (λ k lt. is.quiet k (omega (arith, some, lt))) stood;
        brings = subst (λ l. IsStep l s) here is.last;
      }
