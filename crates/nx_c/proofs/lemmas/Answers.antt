-- What a call answers of a receiver, by what it answers of what is open.
use Rattle.std.proofs.Common.{◌≡◌, ◌∙◌, inl, ℕ, List, ◌++◌, length, take, ap, subst, sym, Option, Some}
use Rattle.std.proofs.Math.Seq.{take-append_seam}
use Rattle.nx_handle.specs.PlainPlaces.{plain_place}
use Rattle.nx_handle.specs.declared.plain_place.PlainPlace.{PlainPlace}
use Rattle.nx_c.specs.ByKind.{AnswersBy, AnswersIn, OfPlaces}
use Rattle.nx_c.specs.Families.{Combines, combines}
use Rattle.nx_c.specs.declared.receiver.open_receiver.OpenReceiver.{OpenReceiver}
use Rattle.nx_c.specs.declared.receiver.open_receiver.OpenReceiver.TheVariants.{Plain, Combining}

-- what was open was asked, and is kept
pub answers-kept : (Answers : OfPlaces) (old new : Option OpenReceiver) (was after : OpenReceiver)
    → old ≡ Some was → AnswersIn Answers was after → new ≡ Some after → AnswersBy Answers old new
answers-kept Answers old new was after had answers kept =
    subst (λ o. AnswersBy Answers o new) (sym had) (after, answers, inl kept)

-- places that were lent come back, as many, and nothing lies behind them
came-back : {P : Type 0} (count : ℕ) (now behind : List P) → length now ≡ count
    → take count (now ++ behind) ≡ now
came-back count now behind as_many =
    ap (λ n. take n (now ++ behind)) (sym as_many) ∙ take-append_seam now behind

-- plain places that were lent answer for what has them
pub answers-plain : (Answers : OfPlaces) (old : OpenReceiver) (count : ℕ)
    (was now behind : List PlainPlace) → old ≡ Plain was → length now ≡ count
    → Answers PlainPlace plain_place was now
    → AnswersIn Answers old (Plain (take count (now ++ behind)))
answers-plain Answers old count was now behind had as_many answers =
    subst (λ o. AnswersIn Answers o (Plain (take count (now ++ behind)))) (sym had)
    (subst (Answers PlainPlace plain_place was) (sym (came-back count now behind as_many)) answers)

-- and so do those that take sendings together
pub answers-combining : (Answers : OfPlaces) (old : OpenReceiver) (count : ℕ)
    (was now behind : List Combines) → old ≡ Combining was → length now ≡ count
    → Answers Combines combines was now
    → AnswersIn Answers old (Combining (take count (now ++ behind)))
answers-combining Answers old count was now behind had as_many answers =
    subst (λ o. AnswersIn Answers o (Combining (take count (now ++ behind)))) (sym had)
    (subst (Answers Combines combines was) (sym (came-back count now behind as_many)) answers)
