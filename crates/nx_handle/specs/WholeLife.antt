-- The whole life of a receiver between calls (this profile).
use Rattle.std.specs.Prelude.{◌≡◌, ℕ, List, [], ◌∷◌, ◌++◌, map}
use Rattle.std.specs.List.{flat_map}
use Rattle.nx_copies.specs.copies.Log.{IsLog}
use Rattle.nx_copies.specs.copies.Shares.{Given, MarkedCopy, Starts}
use Rattle.nx_handle.specs.Closing.{Closes}
use Rattle.nx_handle.specs.Life.{HasHeard}
use Rattle.nx_handle.specs.PlaceKinds.{PlaceKind}

-- The receiver hears, and stands after this was given to it; these bytes are the log of what it
-- printed.
pub record HasLogged {P : Type 0} (kind : PlaceKind P) (held : ℕ) (starts : Starts)
    (places : List P) (given : List Given) (log : List ℕ)
    : Type 0 where
  pub copies : List MarkedCopy
  pub heard : HasHeard kind held starts places given copies
  pub spelled : IsLog copies log

-- what a call gives to the receivers, and the bytes that it hands out
pub record LifeStep : Type 0 where
  pub given : Given
  pub text : List ℕ

abbrev pub step : Given → List ℕ → LifeStep
step given text = record { given = given; text = text }

-- A call is this step: whatever the receiver was given before, it then stands after this too, and
-- the bytes follow in its log.
abbrev pub IsStep : {P : Type 0} → PlaceKind P → List P → LifeStep → List P → Type 0
IsStep kind old one new =
    (held : ℕ) (starts : Starts) (given : List Given) (log : List ℕ)
    → HasLogged kind held starts old given log
    → HasLogged kind held starts new (given ++ one.given ∷ []) (log ++ one.text)

-- calls are these steps, one after another
abbrev pub AreSteps : {P : Type 0} → PlaceKind P → List P → List LifeStep → List P → Type 0
AreSteps kind old [] new = new ≡ old
AreSteps {P} kind old (one ∷ steps) new =
    (mid : List P) × IsStep kind old one mid × AreSteps kind mid steps new

-- calls close the receiver, and hand out these texts, one after another, the last of which is empty
abbrev pub AreCloses : {P : Type 0} → PlaceKind P → List P → List (List ℕ) → List P → Type 0
AreCloses kind old [] new = new ≡ old
AreCloses {P} kind old (text ∷ texts) new =
    (mid : List P) × Closes kind old mid text × AreCloses kind mid texts new

-- what steps give, and all bytes that they hand out
abbrev pub given_in : List LifeStep → List Given
given_in steps = map (λ one. one.given) steps

abbrev pub texts_of : List LifeStep → List ℕ
texts_of steps = flat_map (λ one. one.text) steps
