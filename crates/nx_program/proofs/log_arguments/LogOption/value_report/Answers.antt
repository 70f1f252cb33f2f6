use Rattle.std.proofs.Common.{◌≡◌, ◌++◌, ◌∷◌, ℕ, List, [], append_assoc, codes}
use Rattle.nx_code.specs.Reading.{newline}
use Rattle.nx_program.proofs.log_arguments.LogOption.value_report.Goals as goal

-- a text that is put together of nine, three of them known by another name and two of them two each
joined_parts : (o p q r s t u v w z a b d e f g h i j k l x y n : List ℕ) → o ≡ [] → p ≡ o ++ a
    → q ≡ p ++ b → r ≡ q ++ d → s ≡ r ++ e → t ≡ s ++ f → u ≡ t ++ g → v ≡ u ++ (h ++ i)
    → w ≡ v ++ j → z ≡ w ++ (k ++ l) → e ≡ x → g ≡ y → j ≡ n
    → z ≡ a ++ b ++ d ++ x ++ f ++ y ++ h ++ i ++ n ++ k ++ l
joined_parts o p q r s t u v w z a b d e f g h i j k l x y n c1 c2 c3 c4 c5 c6 c7 c8 c9 last name
    value wanted =
    rw (last, c9, c8, c7, c6, c5, c4, c3, c2, c1, name, value, wanted) (simp append_assoc)

pub returns : goal.returns
returns c =
    joined_parts _ _ _ _ _ _ _ _ _ _ _ _ _ _ _ _ (codes ">'")
    (newline ∷ newline ∷ codes "  tip: ") _
    (newline ∷ newline ∷ codes "For more information, try '--help'.") (newline ∷ []) _ _ _
    c.new-report.ensures.bytes
    c.in_ok-push_str.ensures.bytes c.in_ok-push_str-2.ensures.bytes
    c.in_ok-push_str-3.ensures.bytes c.in_ok-push_str-4.ensures.bytes
    c.in_ok-push_str-5.ensures.bytes c.in_ok-push_str-6.ensures.bytes
    c.in_ok-push_str-7.ensures.bytes c.in_ok-push_str-8.ensures.bytes
    c.in_ok-push_str-9.ensures.bytes c.name.ensures c.value_name.ensures c.value_wanted.ensures
