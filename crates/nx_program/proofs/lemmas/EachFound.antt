-- What holds of each element of a list holds of one that is found, and of what each is mapped to.
use Rattle.std.proofs.Common.{Bool, true, false, List, [], ◌∷◌, Option, Some, IfSome, cond, find}
use Rattle.std.proofs.Common.{map}

-- what holds of each element, by recursion
abbrev pub Each : {X : Type 0} → (X → Type 0) → List X → Type 0
Each P [] = Unit {0}
Each P (x ∷ xs) = P x × Each P xs

pub found_is : {X : Type 0} (P : X → Type 0) (test : X → Bool) (xs : List X) → Each P xs
    → IfSome (find test xs) P
found_is P test [] each = tt
found_is {X} P test (x ∷ xs) each =
    elim (test x) as (λ b. IfSome (cond {A = Option X} b (Some x) (find test xs)) P) [
      | true ↦ each.0
      | false ↦ found_is P test xs each.1
    ]

pub each-map : {X Y : Type 0} (P : X → Type 0) (Q : Y → Type 0) (f : X → Y)
    → ((x : X) → P x → Q (f x))
    → (xs : List X) → Each P xs → Each Q (map f xs)
each-map P Q f goes [] each = tt
each-map P Q f goes (x ∷ xs) each = (goes x each.0, each-map P Q f goes xs each.1)
