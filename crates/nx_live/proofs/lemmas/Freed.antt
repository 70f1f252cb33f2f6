-- The places of a closed receiver are room again, and its families lie where they did. Assumes
-- `Logic`.
use Rattle.std.proofs.Common.{◌+◌, ℕ, zero, suc, List, [], ◌∷◌, length, map, refl, replicate}
use seplogic.Ra.Ura.{Ura}
use base.Fraction.{full_share}
use base.Fml.{fat, froom}
use mir.Val.{Val}
use base.Logic.{emp, ent, id⊢, never, never_e}
use types.Logic.{Logic, sem}
use borrow.Table.OneValue.{part_out}
use types.Kit.{by, done, drop, fjoin, fsplit, keep, move, pick, qed, some, split, use1, ‵, ◌⊛◌, ◌$◌, ◌∵◌, ! }
use denote.Index.{row}
use denote.Memory.{mem, part_at}
use denote.Param.{layout}
use denote.RawPtr.{Ptr, block_ptr, in_a_block, null_ptr}
use denote.RattleType.{RattleType}
use denote.Steps.{nothing}
use Rattle.nx_handle.specs.CombiningPlaces.{combining_closed}
use Rattle.nx_handle.specs.declared.plain_place.PlainPlace.TheVariants.{Closed}
use Rattle.nx_live.specs.declared.families.LentFamilies.{LentFamilies}
use Rattle.nx_live.specs.Lending.{CombiningRoom, LentRoom, PlainRoom, channels_of, closed_places, families_lie, room_lies}
use Rattle.nx_live.specs.Places.{combining_row, lie_there, plain_row}
use Rattle.nx_combine.specs.Families.{most_families}
use Rattle.nx_live.specs.Room.{family_row, in_a_row, lie, room_for, room_from}
use Rattle.nx_live.proofs.lemmas.CombiningValues.{families_of_closed}
use Rattle.nx_live.proofs.lemmas.LentRow.{lie_out}

module _ {M : Type 1} {𝓤 : Ura M} (𝓛 : Logic 𝓤) where
  plain_freed : (n b o : ℕ)
      → ent 𝓤 (sem 𝓛 (row plain_row full_share (replicate n Closed) b o))
      (sem 𝓛 (room_from plain_row n b o))
  plain_freed zero b o = id⊢ 𝓤 (emp 𝓤)
  plain_freed (suc n) b o =
      qed 𝓛 (‵ (part_at plain_row full_share Closed b o)
      ∷ ‵ (row plain_row full_share (replicate n Closed) b (o + (mem plain_row).size)) ∷ []) ∵
      use1 𝓛 (some (λ (v : Val). ‵ (fat full_share (layout plain_row) b o v)
      ⊛ ‵ (plain_row.own_val Closed (v ∷ []))))
      (part_out 𝓛 plain_row refl full_share Closed b o) $ pick ! (λ v. split ! $
      use1 𝓛 (‵ (froom (layout plain_row) b o)) (𝓛.laws.at_room (layout plain_row) b o v) $
      -- [room; what is owned there; the rest]
      move ! (1 ∷ []) $ drop ! $ move ! (1 ∷ []) $
      use1 𝓛 (‵ (room_from plain_row n b (o + (mem plain_row).size)))
      (plain_freed n b (o + (mem plain_row).size)) $ move ! (1 ∷ 0 ∷ []) $ fjoin ! $ done !)

  combining_freed : (lent : List LentFamilies) (b o : ℕ)
      → ent 𝓤 (sem 𝓛 (row combining_row full_share (map combining_closed lent) b o))
      (base.Logic.sep 𝓤 (sem 𝓛 (room_from combining_row (length lent) b o))
      (sem 𝓛 (families_lie lent)))
  combining_freed [] b o = qed 𝓛 [] ∵ nothing ! $ nothing ! $ done !
  combining_freed (f ∷ more) b o =
      qed 𝓛 (‵ (part_at combining_row full_share (combining_closed f) b o)
      ∷ ‵ (row combining_row full_share (map combining_closed more) b
      (o + (mem combining_row).size)) ∷ []) ∵
      use1 𝓛 (some (λ (v : Val). ‵ (fat full_share (layout combining_row) b o v)
      ⊛ ‵ (combining_row.own_val (combining_closed f) (v ∷ []))))
      (part_out 𝓛 combining_row refl full_share (combining_closed f) b o) $ pick ! (λ v. split ! $
      use1 𝓛 (‵ (froom (layout combining_row) b o))
      (𝓛.laws.at_room (layout combining_row) b o v) $
      -- [room; what is owned there; the rest]
      move ! (1 ∷ []) $
      use1 𝓛 (‵ (lie family_row most_families f.at f.count f.value))
      (families_of_closed 𝓛 f (v ∷ [])) $ move ! (2 ∷ []) $
      use1 𝓛 (‵ (room_from combining_row (length more) b (o + (mem combining_row).size))
      ⊛ ‵ (families_lie more)) (combining_freed more b (o + (mem combining_row).size)) $ split ! $
      -- [room behind it; the other families; its families; room for it]
      move ! (2 ∷ 1 ∷ []) $ fjoin ! $ move ! (2 ∷ 1 ∷ []) $ fjoin ! $ done !)

  pub freed : (lent : LentRoom) (p : Ptr)
      → ent 𝓤 (sem 𝓛 (lie_there p (channels_of lent) (closed_places lent)))
      (sem 𝓛 (room_lies p lent))
  freed (PlainRoom n) null_ptr =
      qed 𝓛 (‵ (lie plain_row 3 null_ptr n (replicate n Closed)) ∷ []) ∵
      lie_out ! plain_row 3 null_ptr n (replicate n Closed) (λ long least few.
      by ! (id⊢ 𝓤 (never 𝓤)))
  freed (PlainRoom n) (block_ptr b o) =
      qed 𝓛 (‵ (lie plain_row 3 (block_ptr b o) n (replicate n Closed)) ∷ []) ∵
      lie_out ! plain_row 3 (block_ptr b o) n (replicate n Closed) (λ long least few.
      by ! (plain_freed n b o))
  freed (CombiningRoom families) null_ptr =
      qed 𝓛 (‵ (lie combining_row 3 null_ptr (length families)
      (map combining_closed families)) ∷ []) ∵
      lie_out ! combining_row 3 null_ptr (length families) (map combining_closed families)
      (λ long least few. by ! (never_e 𝓤 _))
  freed (CombiningRoom families) (block_ptr b o) =
      qed 𝓛 (‵ (lie combining_row 3 (block_ptr b o) (length families)
      (map combining_closed families)) ∷ []) ∵
      lie_out ! combining_row 3 (block_ptr b o) (length families) (map combining_closed families)
      (λ long least few. by ! (combining_freed families b o))
