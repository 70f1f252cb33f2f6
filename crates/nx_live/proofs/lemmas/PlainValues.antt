-- The machine value of a plain place that is closed, and what it owns. Assumes `Logic`.
use Rattle.std.proofs.Common.{◌<◌, ◌+◌, ◌^◌, ℕ, zero, suc, List, [], ◌∷◌, replicate, refl, lit<}
use seplogic.Ra.Ura.{Ura}
use base.Fraction.{full_share}
use base.Fml.{fat, froom}
use mir.Syntax.{int_big, w64}
use mir.Val.{Fits, Val, vint}
use prog.Wp.{Env}
use types.Run.{Opd}
use base.Logic.{ent, emp, guard_i, via}
use types.Logic.{Logic, sem}
use types.Match.{live}
use borrow.Table.OneValue.{part_out}
use types.Kit.{Item, ‵, ◌⊛◌, ◌$◌, ◌∵◌, !, qed, done, drop, fjoin, fpack, feq_i, move, pick, some, split, use1}
use denote.RattleType.{Valss, owns}
use denote.Enum.Row.{tagged_with}
use denote.Enum.Enum.{form_of, in_a_row}
use denote.Enum.Declared.{shape as of_enum}
use denote.Index.{row}
use denote.Memory.{mem, part_at}
use denote.Param.{layout}
use denote.Steps.{nothing}
use Rattle.core.proofs.cell.Inside.{Good}
use Rattle.nx_live.specs.Places.{plain_row}
use Rattle.nx_live.specs.Room.{room_from}
use Rattle.nx_handle.specs.contracts.plain_place.PlainPlace as place
use Rattle.nx_handle.specs.declared.plain_place.PlainPlace.TheVariants.{Closed}

abbrev pub closed : Val
closed = live 0 mir.Val.vnil

pub closed_good : Good (layout plain_row) closed
closed_good = (tt, (record { fits = lit< tt }, tt))

module _ {M : Type 1} {𝓤 : Ura M} (𝓛 : Logic 𝓤) where
  pub closed_of : ent 𝓤 (emp 𝓤) (sem 𝓛 (plain_row.own_val Closed (closed ∷ [])))
  closed_of =
      qed 𝓛 [] ∵ nothing ! $ feq_i ! (List Val) [] [] refl $ fjoin ! $
      fpack ! (Valss []) (in_a_row [] (owns [] tt) []) tt $
      feq_i ! (List Val) (closed ∷ []) (closed ∷ []) refl $ fjoin ! $
      fpack ! (List Val)
      (tagged_with (form_of (of_enum place.the_type)) (form_of (of_enum place.the_type)).payload
      (place.the_type.to Closed) (closed ∷ [])) [] $ done !

-- a constant of many digits
pub big : {M : Type 1} {𝓤 : Ura M} {𝓛 : Logic 𝓤} {K : Type 0} {Γ : List (Item 𝓤)}
    {E : Env 𝓤 𝓛.H} → (n : ℕ) → n < 2 ^ 64 → Opd K 𝓛 Γ E (int_big w64 n) (vint w64 n)
big {𝓤 = 𝓤} n fits = record {
  go = λ Kt h. via 𝓤 (Kt (vint w64 n)) h
      (guard_i 𝓤 (Fits w64 n) (Kt (vint w64 n)) (record { fits = fits }));
}
