-- A place that combines and is closed: its type's laws, and what it owns. Assumes `Logic`.
use Rattle.std.proofs.Common.{List, ◌∷◌, []}
use seplogic.Ra.Ura.{Ura}
use mir.Val.{Val}
use base.Logic.{ent}
use types.Logic.{Logic, sem}
use types.Kit.{‵, ◌$◌, ◌∵◌, !, qed, done, drop, feq_l, fpick, fsplit, keep}
use denote.Param.Laws.{Laws}
use Rattle.nx_handle.specs.CombiningPlaces.{combining_closed}
use Rattle.nx_live.specs.declared.families.LentFamilies.{LentFamilies}
use Rattle.nx_combine.specs.Families.{most_families}
use Rattle.nx_live.specs.Room.{family_row, lie}
use Rattle.nx_live.proofs.lemmas.FamilyValues.{families_out}
use Rattle.nx_live.specs.Places.{combining_row, families_of, vacant_of}
use Rattle.nx_live.specs.contracts.families.LentFamilies as families
use Rattle.nx_live.proofs.families.LentFamilies.TheLaws as families_laws
use Rattle.nx_handle.proofs.combining_place.CombiningPlace.TheLaws as place_laws

abbrev pub combining_laws : Laws combining_row
combining_laws =
    place_laws.the_row_laws families.the_row (record { places = families_of; vacant = vacant_of })
    families_laws.the_row_laws

module _ {M : Type 1} {𝓤 : Ura M} (𝓛 : Logic 𝓤) where
  -- the families that a closed place owns lie where they say
  pub families_of_closed : (lent : LentFamilies) (vs : List Val)
      → ent 𝓤 (sem 𝓛 (combining_row.own_val (combining_closed lent) vs))
      (sem 𝓛 (lie family_row most_families lent.at lent.count lent.value))
  families_of_closed lent vs =
      qed 𝓛 (‵ (combining_row.own_val (combining_closed lent) vs) ∷ []) ∵
      fsplit ! $ fpick ! (λ vss. fsplit ! $ feq_l ! (λ e. fsplit ! $ drop ! $ fsplit ! $
      families_out ! lent vss.1.0 (λ ws fits. keep ! (0 ∷ []) $ done !)))
