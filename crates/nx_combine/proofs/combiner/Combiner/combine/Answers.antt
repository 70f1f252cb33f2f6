use Rattle.std.proofs.Common.{◌≡◌, ◌<◌, ℕ, false, if◌then◌else◌, length, take, List, Option, Some}
use Rattle.std.proofs.Common.{None, refl, sym, ap, ◌∙◌, subst}
use Rattle.std.specs.Prelude.{slice_get}
use Rattle.circular_buffer.proofs.Places.{slice_get-some}
use Rattle.nx_combine.specs.Combining.{heard_of}
use Rattle.nx_combine.specs.Families.{Family, joined_by}
use Rattle.nx_combine.proofs.lemmas.Combine.{Answers, answers_begun, answers_joined, answers_none}
use Rattle.nx_combine.proofs.lemmas.Combine.{joined_at-length, joined_at-there, sendings_by}
use Rattle.nx_combine.proofs.combiner.Combiner.combine.Given.{Over}
use Rattle.nx_combine.proofs.combiner.Combiner.combine.Goals as goal

none_if : (o : Option ℕ) → ((x : ℕ) → o ≡ Some x → ⊥) → o ≡ None
none_if None none = refl
none_if (Some x) none = absurd (none x refl)

pub returns-then-not-has_family-clause-after : goal.returns-then-not-has_family-clause-after
returns-then-not-has_family-clause-after g c = λ families stands.
    let most = g.S.HoldsFamilies.most c.args.places.now in
    let held = (g.S.HoldsFamilies.held c.args.self.now.store c.args.places.now).families in
    let heard = heard_of c.args.head.now c.args.text.now c.args.selected c.args.positions.now in
    (answers_none most families held heard c.args.self.now.finder.text stands
    (sym (c.has_family.ensures.has c.args.text.now) ∙ c.if-not-has_family.true)).after

pub returns-then-not-has_family-clause-combined : goal.returns-then-not-has_family-clause-combined
returns-then-not-has_family-clause-combined g c = λ families stands.
    let most = g.S.HoldsFamilies.most c.args.places.now in
    let held = (g.S.HoldsFamilies.held c.args.self.now.store c.args.places.now).families in
    let heard = heard_of c.args.head.now c.args.text.now c.args.selected c.args.positions.now in
    (answers_none most families held heard c.args.self.now.finder.text stands
    (sym (c.has_family.ensures.has c.args.text.now) ∙ c.if-not-has_family.true)).combined

pub returns-in_default-clause-after : goal.returns-in_default-clause-after
returns-in_default-clause-after g c = λ families stands.
    let most = g.S.HoldsFamilies.most c.args.places.now in
    let held = (g.S.HoldsFamilies.held c.args.self.now.store c.args.places.now).families in
    let now = (g.S.HoldsFamilies.held c.begin.new.self c.begin.new.places).families in
    let heard = heard_of c.args.head.now c.args.text.now c.args.selected c.args.positions.now in
    (answers_begun most families held now heard c.index_joined.new.finder.text
    stands (sym (c.has_family.ensures.has c.args.text.now) ∙ c.if-not-has_family.false)
    (sym (c.index_joined.ensures.joined c.args.text.now c.args.selected)
    ∙ none_if c.index_joined.result c.in_default.not-Some)
    (c.begin.ensures.begun c.args.text.now c.args.selected)).after

pub returns-in_default-clause-combined : goal.returns-in_default-clause-combined
returns-in_default-clause-combined g c = λ families stands.
    let most = g.S.HoldsFamilies.most c.args.places.now in
    let held = (g.S.HoldsFamilies.held c.args.self.now.store c.args.places.now).families in
    let now = (g.S.HoldsFamilies.held c.begin.new.self c.begin.new.places).families in
    let heard = heard_of c.args.head.now c.args.text.now c.args.selected c.args.positions.now in
    (answers_begun most families held now heard c.index_joined.new.finder.text
    stands (sym (c.has_family.ensures.has c.args.text.now) ∙ c.if-not-has_family.false)
    (sym (c.index_joined.ensures.joined c.args.text.now c.args.selected)
    ∙ none_if c.index_joined.result c.in_default.not-Some)
    (c.begin.ensures.begun c.args.text.now c.args.selected)).combined

-- what is answered where the copy joined a family
joined_so : (g : Over) (c : goal.After-sendings_of-sendings g) (families : List Family)
    → (g.S.HoldsFamilies.held c.args.self.now.store c.args.places.now).families
    ≡ take (g.S.HoldsFamilies.most c.args.places.now) families
    → Answers (g.S.HoldsFamilies.most c.args.places.now) families
    (g.S.HoldsFamilies.held c.join_at.new.self.store c.join_at.new.places).families
    (heard_of c.args.head.now c.args.text.now c.args.selected c.args.positions.now)
    c.join_at.new.self.finder.text (Some c.in-Some.index) false c.given_in_place-given.result
    c.sendings_of-sendings.result
joined_so g c families stands =
    let most = g.S.HoldsFamilies.most c.args.places.now in
    let held = (g.S.HoldsFamilies.held c.args.self.now.store c.args.places.now).families in
    let now = (g.S.HoldsFamilies.held c.join_at.new.self.store c.join_at.new.places).families in
    let heard = heard_of c.args.head.now c.args.text.now c.args.selected c.args.positions.now in
    let identity = c.args.head.now.identity in
    let index = c.in-Some.index in
    let given = c.given_in_place-given in
    let joined = c.join_at.ensures.joined heard refl in
    answers_joined most families held now heard c.join_at.new.self.finder.text index given.result
    c.sendings_of-sendings.result stands
    (sym (c.has_family.ensures.has c.args.text.now) ∙ c.if-not-has_family.false)
    (sym (c.in-Some.ensures.joined c.args.text.now c.args.selected)) joined
    (λ family there.
    let after : Family = joined_by heard family in
    let read = c.join_at.ensures.read heard family refl there in
    let here : slice_get now index ≡ Some after =
    ap (λ (l : List Family). slice_get l index) joined
    ∙ joined_at-there held heard index family there in (
      given.ensures.copy after.positions identity c.args.text.now c.args.selected read
          c.requires.errors,
      given.ensures.errors after.positions identity read,
      sendings_by after heard.copy given.result c.sendings_of-sendings.result
          (given.ensures.given after.positions identity c.args.text.now c.args.selected read
          c.requires.errors)
          (c.sendings_of-sendings.ensures after here
          ∙ ap (λ b. if b then after.sendings else 1) c.is_some.ensures),
    ))

pub returns-clause-after : goal.returns-clause-after
returns-clause-after g c = λ families stands. (joined_so g c families stands).after

pub returns-clause-combined : goal.returns-clause-combined
returns-clause-combined g c = λ families stands. (joined_so g c families stands).combined

pub returns-then-not-has_family-clause-begins : goal.returns-then-not-has_family-clause-begins
returns-then-not-has_family-clause-begins g c = λ families stands.
    let most = g.S.HoldsFamilies.most c.args.places.now in
    let held = (g.S.HoldsFamilies.held c.args.self.now.store c.args.places.now).families in
    let heard = heard_of c.args.head.now c.args.text.now c.args.selected c.args.positions.now in
    (answers_none most families held heard c.args.self.now.finder.text stands
    (sym (c.has_family.ensures.has c.args.text.now) ∙ c.if-not-has_family.true)).count

pub returns-in_default-clause-begins : goal.returns-in_default-clause-begins
returns-in_default-clause-begins g c = λ families stands.
    let most = g.S.HoldsFamilies.most c.args.places.now in
    let held = (g.S.HoldsFamilies.held c.args.self.now.store c.args.places.now).families in
    let now = (g.S.HoldsFamilies.held c.begin.new.self c.begin.new.places).families in
    let heard = heard_of c.args.head.now c.args.text.now c.args.selected c.args.positions.now in
    (answers_begun most families held now heard c.index_joined.new.finder.text
    stands (sym (c.has_family.ensures.has c.args.text.now) ∙ c.if-not-has_family.false)
    (sym (c.index_joined.ensures.joined c.args.text.now c.args.selected)
    ∙ none_if c.index_joined.result c.in_default.not-Some)
    (c.begin.ensures.begun c.args.text.now c.args.selected)).count

pub returns-clause-begins : goal.returns-clause-begins
returns-clause-begins g c = λ families stands. (joined_so g c families stands).count

pub sendings_of-sendings-requires-clause-there : goal.sendings_of-sendings-requires-clause-there
sendings_of-sendings-requires-clause-there g c =
    let held = (g.S.HoldsFamilies.held c.args.self.now.store c.args.places.now).families in
    let heard = heard_of c.args.head.now c.args.text.now c.args.selected c.args.positions.now in
    subst (λ n. c.in-Some.index < n)
    (sym (ap length (c.join_at.ensures.joined heard refl)
    ∙ joined_at-length held heard c.in-Some.index))
    c.in-Some.ensures.within

pub returns-clause-within : goal.returns-clause-within
returns-clause-within g c =
    let most = g.S.HoldsFamilies.most c.args.places.now in
    let held = (g.S.HoldsFamilies.held c.args.self.now.store c.args.places.now).families in
    let now = (g.S.HoldsFamilies.held c.join_at.new.self.store c.join_at.new.places).families in
    let heard = heard_of c.args.head.now c.args.text.now c.args.selected c.args.positions.now in
    let long : length now ≡ length held =
    ap length (c.join_at.ensures.joined heard refl)
    ∙ joined_at-length held heard c.in-Some.index in
    subst (λ n. c.in-Some.index < n) (sym long) c.in-Some.ensures.within

pub returns-clause-errors : goal.returns-clause-errors
returns-clause-errors g c =
    let most = g.S.HoldsFamilies.most c.args.places.now in
    let held = (g.S.HoldsFamilies.held c.args.self.now.store c.args.places.now).families in
    let heard = heard_of c.args.head.now c.args.text.now c.args.selected c.args.positions.now in
    let identity = c.args.head.now.identity in
    let there = slice_get-some held c.in-Some.index c.in-Some.ensures.within in
    c.given_in_place-given.ensures.errors (joined_by heard there.0).positions identity
    (c.join_at.ensures.read heard there.0 refl there.1)
