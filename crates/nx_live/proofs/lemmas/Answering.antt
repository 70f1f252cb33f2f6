-- What is said of the places of a receiver is said of the receiver.
use Rattle.std.proofs.Common.{◌≡◌, true, false, List, subst}
use Rattle.nx_handle.specs.CombiningPlaces.{combining_place}
use Rattle.nx_handle.specs.PlainPlaces.{plain_place}
use Rattle.nx_live.specs.Answers.{AnswersBy, Said}
use Rattle.nx_live.specs.Places.{Combining, Places, Plain, combine, combining_of, combining_row, families_of, plain_of, plain_row, vacant_of}

module _ (said : Said) where
  pub by_plain : (old : Places) (places new : List plain_row.Denot) → combine old ≡ false
      → places ≡ plain_of old → said _ plain_place places new → AnswersBy said old (Plain new)
  by_plain (Plain old) places new kind same is =
      subst (λ xs. said _ plain_place xs new) same is
  by_plain (Combining old) places new kind same is =
      absurd (let contra : true ≡ false = kind in cc)

  pub by_combining : (old : Places) (places new : List combining_row.Denot)
      → combine old ≡ true → places ≡ combining_of old
      → said _ (combining_place families_of vacant_of) places new
      → AnswersBy said old (Combining new)
  by_combining (Plain old) places new kind same is =
      absurd (let contra : false ≡ true = kind in cc)
  by_combining (Combining old) places new kind same is =
      subst (λ xs. said _ (combining_place families_of vacant_of) xs new) same is
