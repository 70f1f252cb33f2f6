use Rattle.std.proofs.Common.{◌≡◌, ◌++◌, ◌∷◌, ℕ, List, [], append_assoc, codes}
use Rattle.nx_code.specs.Reading.{newline}
use Rattle.nx_program.proofs.arguments.moment_report.Goals as goal

-- a text that is put together of six, of which the last is two
joined_parts : (o p q r s t u a b d e f h i : List ℕ) → o ≡ [] → p ≡ o ++ a → q ≡ p ++ b
    → r ≡ q ++ d → s ≡ r ++ e → t ≡ s ++ f → u ≡ t ++ (h ++ i)
    → u ≡ a ++ b ++ d ++ e ++ f ++ h ++ i
joined_parts o p q r s t u a b d e f h i k l m n w x y =
    rw (y, x, w, n, m, l, k) (simp append_assoc)

pub returns : goal.returns
returns c =
    joined_parts _ _ _ _ _ _ _ _ _ _ _ _
    (newline ∷ newline ∷ codes "For more information, try '--help'.") (newline ∷ [])
    c.new-report.ensures.bytes
    c.in_ok-push_str.ensures.bytes c.in_ok-push_str-2.ensures.bytes
    c.in_ok-push_str-3.ensures.bytes c.in_ok-push_str-4.ensures.bytes
    c.in_ok-push_str-5.ensures.bytes c.in_ok-push_str-6.ensures.bytes
