-- What only private contracts and proofs cite, beside Laws (this profile).
use Rattle.std.specs.Prelude.{ℕ, List}
use Rattle.nx_envelope.specs.declared.identity.Identity.{Identity}
use Rattle.nx_combine.specs.CopyPositions.{HeardCopy}
use Rattle.nx_combine.specs.Families.{most_families}
use Rattle.nx_combine.specs.Judging.{Judged}
use Rattle.nx_combine.specs.Laws.{AreHeardTogetherHolding}

-- the same as in Laws, where 200 families are held
abbrev pub AreHeardTogether : List ℕ → (ℕ → ℕ) → Identity → Judged → HeardCopy → List HeardCopy
    → Type 0
AreHeardTogether = AreHeardTogetherHolding most_families
