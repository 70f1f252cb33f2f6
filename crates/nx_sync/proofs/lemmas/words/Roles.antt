-- Roles of later words.
use Rattle.std.proofs.Common.{◌≡◌, ℕ, zero, suc, ◌+◌, ◌*◌, refl, ap, ◌∙◌, arith}
use Rattle.nx_sync.specs.declared.step.Role.{Role}
use Rattle.nx_sync.specs.declared.step.Role.TheVariants.{Dx, Rx}
use Rattle.nx_sync.specs.Words.{other_role, role_of}

-- two words on, the role is the same
turned_twice : (role : Role) → other_role (other_role role) ≡ role
turned_twice Dx = refl
turned_twice Rx = refl

-- an even number of words on, the role is the same
pub role_of-even : (first : Role) (g j : ℕ) → role_of first (g + 2 * j) ≡ role_of first g
unfolding role_of
role_of-even first g zero = let e : g + 2 * 0 ≡ g = omega arith in ap (role_of first) e
role_of-even first g (suc j) =
    let e : g + 2 * suc j ≡ suc (suc (g + 2 * j)) = omega arith in
    ap (role_of first) e ∙ (turned_twice (role_of first (g + 2 * j)) ∙ role_of-even first g j)
