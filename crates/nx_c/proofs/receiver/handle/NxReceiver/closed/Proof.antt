-- `closed` makes a null pointer, which owns nothing.
use Rattle.std.proofs.Common.{◌≡◌, [], ◌∷◌, refl}
use mir.Val.{Val}
use base.Logic.{SProp, emp}
use base.Fml.{ftrue}
use types.Kit.{‵, raw, ◌⊛◌, ◌$◌, ◌∵◌, !, qed, by, keep, split, use0, feq_i}
use types.Run.{lit, no_more, and_then, returns, enter}
use types.ByLocal.{alloc_all, pass_all, free_all, look_at, sets}
use types.Part.{agg}
use contract.Monad.{fact, fact_i}
use contract.Running.{tables}
use denote.RawPtr.{Ptr, null_ptr}
use denote.Triple.Walked.{walk_of}
use Rattle.std.proofs.raw_atomic.Walks.{proved_at, leaves}
use Rattle.std.specs.declared.option.Option.TheVariants.{None}
use Rattle.nx_c.proofs.lemmas.HandleValues.{R, word, word_good, handle_in}
use Rattle.nx_c.specs.contracts.receiver.handle.NxReceiver.closed.{ended, clauses}
use Rattle.nx_c.specs.contracts.receiver.handle.NxReceiver.closed.Key.{name as #self}
use Rattle.nx_c.proofs.receiver.handle.NxReceiver.closed.Statement.{statement}
use Rattle.nx_c.proofs.receiver.handle.NxReceiver.closed.Code as code
use Rattle.std.specs.declared.option.Option.{Option}

pub closed_spec : {M : Type 1} → statement M
closed_spec 𝓤 𝓛 𝓜 𝓡 wired =
    let H = 𝓛.H in let 𝓣 = tables 𝓤 H 𝓜 𝓡 𝓡.env in let c = clauses 𝓛 𝓜.mem 𝓡.returns in
    let fn = code.function in
    proved_at 𝓛 ended tt c 𝓜 𝓡 tt #self fn (code.unfolded 𝓤 H 𝓜 𝓡 wired) (λ z are.
    let Post : Val → SProp 𝓤 = (walk_of 𝓛 ended tt c).post z in
    let none : Option R.Denot = None in
    qed 𝓛 ((‵ ftrue ⊛ ‵ ftrue) ∷ raw (emp 𝓤) ∷ []) ∵ split ! $
    enter ! 𝓣.C 𝓣.Λ fn [] Post $ alloc_all ! (λ l. pass_all ! refl tt $
    sets ! (agg ! (and_then ! (lit ! tt) (no_more !))) refl (word_good null_ptr) $
    feq_i ! Ptr null_ptr null_ptr refl $ handle_in ! null_ptr none $
    use0 𝓛 (raw (fact 𝓤 (none ≡ None))) (fact_i 𝓤 (none ≡ None) (emp 𝓤) refl) $
    returns ! (look_at ! 0 refl) $ free_all ! refl $ keep ! (2 ∷ 3 ∷ 1 ∷ 0 ∷ []) $
    by ! (leaves 𝓛 ended tt c z (word null_ptr) (record { at = null_ptr; value = none }) tt tt)))
