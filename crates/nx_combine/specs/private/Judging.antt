-- What only private contracts and proofs cite, beside Judging (this profile).
use Rattle.std.specs.Prelude.{◌≡◌, ℕ, ◌-◌}
use Rattle.std.specs.Prelude.{List, length, Option}
use Rattle.std.specs.Option.{option_map}
use Rattle.nx_copies.specs.copies.FoundCopies.{TaggedCopy}
use Rattle.nx_combine.specs.Families.{CombinedCopy, Family}

-- where these families were begun, the combined copy is of the one of this index, newest first, and
-- comes to this copy
pub record ComesTo (one : CombinedCopy) (families : List Family) (family : Option ℕ)
    (copy : TaggedCopy)
    : Type 0 where
  pub of_family : one.family ≡ option_map (λ index. length families - 1 - index) family
  pub is : one.copy ≡ copy
