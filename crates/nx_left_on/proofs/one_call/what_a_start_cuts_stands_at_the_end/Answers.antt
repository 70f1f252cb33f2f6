use Rattle.std.proofs.Common.{◌≡◌, ◌≤◌, ◌==◌, if◌then◌else◌, true, false, ℕ, List, [], ◌∷◌, ◌++◌, ap, arith, length, refl, ◌∙◌}
use Rattle.nx_kept.specs.Kept.{closed_gate}
use Rattle.nx_kept.specs.Taker.{cut_of}
use Rattle.nx_left_on.proofs.one_call.what_a_start_cuts_stands_at_the_end.Goals as goal

-- what is cut of a tail stands at its end, behind its gate or behind nothing
cut-ends : (tail : List ℕ)
    → (gate : List ℕ) × (tail ≡ gate ++ cut_of tail) × (length gate ≤ 1)
cut-ends [] = ([], refl, omega (arith))
cut-ends (byte ∷ more) = elim (byte == closed_gate) as (λ b. (gate : List ℕ)
    × (byte ∷ more ≡ gate ++ (if b then more else byte ∷ more)) × (length gate ≤ 1)) [
      | true ↦ (byte ∷ [], refl, omega (arith))
      | false ↦ ([], refl, omega (arith))
    ]

pub returns : goal.returns
returns c = λ file text cut.
    let ends = cut-ends cut.stands.tail in (
      cut.stands.front,
      ends.0,
      cut_of cut.stands.tail,
      cut.heads,
      cut.stands.split ∙ ap (λ l. cut.stands.front ++ l) ends.1,
      ends.2,
      cut.are,
      cut.told,
    )
