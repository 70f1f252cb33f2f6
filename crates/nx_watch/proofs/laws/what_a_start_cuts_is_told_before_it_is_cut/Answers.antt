use Rattle.std.proofs.Common.{inl, inr}
use Rattle.nx_watch.proofs.laws.what_a_start_cuts_is_told_before_it_is_cut.Goals as goal

pub returns : goal.returns
returns g c start disk disk_after notices old new tells changed = elim tells [
  | inl reads ↦ absurd (changed reads.same)
  | inr told ↦ (
    told.text,
    told.tells_of,
    λ some.
        let noted = told.noted some in
        let so = noted.untouched start in
        (noted.at, noted.one, so.same, so.crash, noted.written),
  )
]
