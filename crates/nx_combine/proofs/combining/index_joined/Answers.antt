use Rattle.std.proofs.Common.{◌≡◌, ◌≤◌, ℕ, List, Bool, Option, Some, None, length, refl, sym, ap, ◌∙◌}
use Rattle.std.proofs.Common.{if◌then◌else◌}
use Rattle.std.specs.Prelude.{slice_get}
use Rattle.circular_buffer.proofs.Places.{slice_get-some}
use Rattle.nx_combine.specs.Combining.{heard_of}
use Rattle.nx_combine.specs.CopyPositions.{HeardCopy}
use Rattle.nx_combine.specs.Families.{Family, index_joined_holding, last_index, takes_in}
use Rattle.nx_combine.proofs.lemmas.Held.{index_joined-by, index_joined-none}
use Rattle.nx_combine.proofs.combining.index_joined.Goals as goal

none_if : (o : Option ℕ) → ((x : ℕ) → o ≡ Some x → ⊥) → o ≡ None
none_if None none = refl
none_if (Some x) none = absurd (none x refl)

pub returns-in_default-clause-joined : goal.returns-in_default-clause-joined
returns-in_default-clause-joined g c = λ text selected.
    let most = g.S.HoldsFamilies.most c.args.places.now in
    let held = g.S.HoldsFamilies.held c.args.store.now c.args.places.now in
    let heard = heard_of c.args.head.now text selected c.args.positions.now in
    sym (index_joined-none most held.families heard
    (sym c.last_index.ensures.index ∙ none_if c.last_index.result c.in_default.not-Some))

-- what the family that was found takes in
taken : (most : ℕ) (held : List Family) (heard : HeardCopy) (index : ℕ) (family : Family)
    (b : Bool) → Some index ≡ last_index heard.copy.identity held
    → slice_get held index ≡ Some family → length held ≤ most → b ≡ takes_in family heard
    → (if b then Some index else None) ≡ index_joined_holding most held heard
taken most held heard index family b last there few takes =
    sym (index_joined-by most held heard index family b (sym last) there few takes)

pub returns-then-takes_in-clause-joined : goal.returns-then-takes_in-clause-joined
returns-then-takes_in-clause-joined g c = λ text selected.
    let most = g.S.HoldsFamilies.most c.args.places.now in
    let held = g.S.HoldsFamilies.held c.args.store.now c.args.places.now in
    let heard = heard_of c.args.head.now text selected c.args.positions.now in
    let there = slice_get-some held.families c.in-Some.index c.in-Some.ensures.within in
    ap (λ b. if b then Some c.in-Some.index else None) (sym c.if-takes_in.true)
    ∙ taken most held.families heard c.in-Some.index there.0 c.takes_in.result
    c.in-Some.ensures.index there.1 c.last_index.ensures.few
    (c.takes_in.ensures there.0 heard (sym (c.moment-began.ensures there.0 there.1))
    (sym (c.positions-held.ensures there.0 there.1)) refl refl)

pub returns-else-takes_in-clause-joined : goal.returns-else-takes_in-clause-joined
returns-else-takes_in-clause-joined g c = λ text selected.
    let most = g.S.HoldsFamilies.most c.args.places.now in
    let held = g.S.HoldsFamilies.held c.args.store.now c.args.places.now in
    let heard = heard_of c.args.head.now text selected c.args.positions.now in
    let there = slice_get-some held.families c.in-Some.index c.in-Some.ensures.within in
    ap (λ b. if b then Some c.in-Some.index else None) (sym c.if-takes_in.false)
    ∙ taken most held.families heard c.in-Some.index there.0 c.takes_in.result
    c.in-Some.ensures.index there.1 c.last_index.ensures.few
    (c.takes_in.ensures there.0 heard (sym (c.moment-began.ensures there.0 there.1))
    (sym (c.positions-held.ensures there.0 there.1)) refl refl)
