-- What only private contracts and proofs cite, beside Families (this profile).
use Rattle.std.specs.Prelude.{ℕ}
use Rattle.std.specs.Prelude.{List}
use Rattle.std.specs.Prelude.{Option}
use Rattle.nx_combine.specs.CopyPositions.{HeardCopy}
use Rattle.nx_combine.specs.Families.{Family, most_families, index_joined_holding, CombinedCopy}
use Rattle.nx_combine.specs.Families.{combined_copy_holding, combined_copies_holding}

-- the same as in Families, where 200 families are held
abbrev pub index_joined : List Family → HeardCopy → Option ℕ
index_joined = index_joined_holding most_families

abbrev pub combined_copy : List Family → HeardCopy → CombinedCopy
combined_copy = combined_copy_holding most_families

abbrev pub combined_copies : List Family → List HeardCopy → List CombinedCopy
combined_copies = combined_copies_holding most_families
