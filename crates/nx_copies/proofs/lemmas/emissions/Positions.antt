-- The positions that the words of a lock complete, where they are the words of an emission.
use Rattle.std.proofs.Common.{◌≡◌, ℕ, zero, suc, ◌+◌, ◌-◌, ◌*◌, ◌<◌, ◌≤◌, false, cond, ltb, List}
use Rattle.std.proofs.Common.{[], ◌∷◌, ◌++◌, map, length, take, sym, ap, ◌∙◌, arith, append_assoc}
use Rattle.std.proofs.Common.{append-nil}
use Rattle.std.proofs.lemmas.Bool.Decides.{nat_tests}
use Rattle.std.proofs.lemmas.List.{take_more, map-append}
use Rattle.nx_fec.specs.emissions.Pairing.{nothing, counts_as, pairing, five_before}
use Rattle.nx_fec.specs.emissions.Emission.{SentPosition, end_position, position_at, reception}
use Rattle.nx_sync.specs.Words.{role_of, is_dx, other_role}
use Rattle.nx_sync.specs.declared.step.Role.{Role}
use Rattle.nx_sync.specs.declared.step.Role.TheVariants.{Dx, Rx}
use Rattle.nx_sync.proofs.lemmas.words.Roles.{role_of-even}
use Rattle.nx_copies.specs.copies.LockText.{taken_at, positions}

five_before-late : (words : ℕ → ℕ) (k : ℕ) → five_before words (k + 5) ≡ counts_as (words k)
five_before-late words k =
    let at : k + 5 - 5 ≡ k = omega arith in
    let late : ltb (k + 5) 5 ≡ false = grind (arith, nat_tests) in
    ap (λ b. cond b nothing (counts_as (words (k + 5 - 5)))) late ∙ ap (λ j. counts_as (words j)) at

taken_at-rx : (first : Role) (words : ℕ → ℕ) (k : ℕ) → role_of first (k + 5) ≡ Rx
    → taken_at first words (k + 5) ≡ pairing (counts_as (words k)) (counts_as (words (k + 5))) ∷ []
unfolding taken_at
taken_at-rx first words k rx =
    ap (λ r. cond (is_dx r) []
    (pairing (five_before words (k + 5)) (counts_as (words (k + 5))) ∷ [])) rx
    ∙ ap (λ c. pairing c (counts_as (words (k + 5))) ∷ []) (five_before-late words k)

taken_at-dx : (first : Role) (words : ℕ → ℕ) (k : ℕ) → role_of first k ≡ Dx
    → taken_at first words k ≡ []
unfolding taken_at
taken_at-dx first words k dx =
    ap (λ r. cond (is_dx r) [] (pairing (five_before words k) (counts_as (words k)) ∷ [])) dx

-- two words more, the first of which is an RX word, complete one position more
two_more : (first : Role) (words : ℕ → ℕ) (k : ℕ) → role_of first (k + 5) ≡ Rx
    → positions first words (k + 7)
    ≡ positions first words (k + 5)
    ++ pairing (counts_as (words k)) (counts_as (words (k + 5))) ∷ []
unfolding positions role_of
two_more first words k rx =
    let one : suc (k + 5) ≡ k + 6 = omega arith in
    let two : suc (suc (k + 5)) ≡ k + 7 = omega arith in
    let dx : role_of first (suc (k + 5)) ≡ Dx = ap other_role rx in
    ap (positions first words) (sym two)
    ∙ ap (λ l. (positions first words (k + 5) ++ taken_at first words (k + 5)) ++ l)
    (taken_at-dx first words (suc (k + 5)) dx)
    ∙ append-nil (positions first words (k + 5) ++ taken_at first words (k + 5))
    ∙ ap (λ l. positions first words (k + 5) ++ l) (taken_at-rx first words k rx)

role_of-rx : (first : Role) (w i : ℕ) → role_of first w ≡ Dx → role_of first (w + 2 * i + 5) ≡ Rx
unfolding role_of
role_of-rx first w i dx =
    let at : w + 2 * i + 5 ≡ suc (w + 2 * (i + 2)) = omega arith in
    ap (role_of first) at ∙ ap other_role (role_of-even first w (i + 2) ∙ dx)

-- Of the words of a lock from a DX word on these positions are taken: what is taken of each DX word
-- and the RX word five after it is what was sent.
abbrev pub AreTaken : (ℕ → ℕ) → ℕ → List SentPosition → Type 0
AreTaken words w sent =
    (i : ℕ) → i < length sent
    → pairing (counts_as (words (w + 2 * i))) (counts_as (words (w + 2 * i + 5)))
    ≡ reception (position_at sent i)

-- then these are the positions that the words complete from the fifth after that DX word on
pub positions-taken : (first : Role) (words : ℕ → ℕ) (w : ℕ) (sent : List SentPosition) (n : ℕ)
    → role_of first w ≡ Dx
    → AreTaken words w sent → n ≤ length sent
    → positions first words (w + 5 + 2 * n)
    ≡ positions first words (w + 5) ++ map reception (take n sent)
positions-taken first words w sent zero dx taken h =
    ap (positions first words) (let e : w + 5 + 2 * 0 ≡ w + 5 = omega arith in e)
    ∙ sym (append-nil (positions first words (w + 5)))
positions-taken first words w sent (suc n) dx taken h =
    let lt : n < length sent = omega arith in
    let here : w + 5 + 2 * suc n ≡ w + 2 * n + 7 = omega arith in
    let there : w + 2 * n + 5 ≡ w + 5 + 2 * n = omega arith in
    let one : n + 1 ≡ suc n = omega arith in
    ap (positions first words) here
    ∙ two_more first words (w + 2 * n) (role_of-rx first w n dx)
    ∙ ap (λ p. positions first words (w + 2 * n + 5) ++ p ∷ []) (taken n lt)
    ∙ ap (λ m. positions first words m ++ reception (position_at sent n) ∷ []) there
    ∙ ap (λ l. l ++ reception (position_at sent n) ∷ [])
    (positions-taken first words w sent n dx taken (omega arith))
    ∙ append_assoc (positions first words (w + 5)) (map reception (take n sent))
    (reception (position_at sent n) ∷ [])
    ∙ ap (λ l. positions first words (w + 5) ++ l)
    (sym (map-append reception (take n sent) (position_at sent n ∷ [])))
    ∙ ap (λ l. positions first words (w + 5) ++ map reception l)
    (sym (take_more sent n end_position lt))
    ∙ ap (λ m. positions first words (w + 5) ++ map reception (take m sent)) one

-- the word that completes one of them
pub taken_at-sent : (first : Role) (words : ℕ → ℕ) (w : ℕ) (sent : List SentPosition) (i : ℕ)
    → role_of first w ≡ Dx
    → AreTaken words w sent → i < length sent
    → taken_at first words (w + 5 + 2 * i) ≡ reception (position_at sent i) ∷ []
taken_at-sent first words w sent i dx taken lt =
    let at : w + 5 + 2 * i ≡ w + 2 * i + 5 = omega arith in
    ap (taken_at first words) at ∙ taken_at-rx first words (w + 2 * i) (role_of-rx first w i dx)
    ∙ ap (λ p. p ∷ []) (taken i lt)
