use Rattle.std.proofs.Common.{◌≡◌, ◌≤◌, ℕ, ◌++◌, List, Option, Some, None, false, length, take, reverse}
use Rattle.std.proofs.Common.{refl, sym, ap, subst, ◌∙◌, arith, rules, is_some}
use Rattle.std.specs.Str.{bytes_eq}
use Rattle.std.specs.Int.{to_le_bytes, w32}
use Rattle.nx_envelope.specs.FinderView.{FinderView}
use Rattle.nx_envelope.specs.Header.{start_marker}
use Rattle.nx_envelope.specs.private.Backward.{last_four}
use Rattle.nx_envelope.specs.declared.identity.Identity.{Identity}
use Rattle.nx_envelope.proofs.lemmas.finder.EightBytes.{four_on}
use Rattle.nx_envelope.proofs.lemmas.finder.PlainBytes.{WentBy, all_by, one_by}
use Rattle.nx_envelope.proofs.finder.Finder.pass_plain.Goals as goal

none_is : (header : Option Identity) → is_some header ≡ false → header ≡ None
none_is None e = refl
none_is (Some identity) e = cc

pub loop-place-preserved : goal.loop-place-preserved
loop-place-preserved c = λ text h.
    let place = c.loop-place.place in
    let few : place ≤ 4 = omega (arith, c.requires.few, c.loop-place-test.true) in
    let all : length c.args.bytes ≡ 4 = search rules in
    let by = c.loop-place.invariant text h in
    let back = reverse (text ++ take place c.args.bytes) in
    let w = c.eight_of-eight.ensures (reverse text)
    (ap (λ (v : FinderView). v.recent) c.self.view_is ∙ h.recent) in
    let recent : c.to_le_bytes-recent.result ≡ last_four back =
    c.to_le_bytes-recent.ensures ∙ ap (to_le_bytes w32) c.four_behind.ensures
    ∙ four_on c.eight_of-eight.result text c.args.bytes w place few in
    one_by c.loop-place.stage c.next-stage.result text c.args.bytes place _
    (omega (arith, all, c.requires.few, c.loop-place-test.true)) refl by
    (sym (c.header.ensures back by.stage)
    ∙ none_is c.header.result (sym c.is_some.ensures ∙ c.if-is_some.false))
    (c.next-stage.ensures back by.stage
    (c.eq.ensures ∙ ap (λ (r : List ℕ). bytes_eq r start_marker) recent))

pub returns-clause-stands : goal.returns-clause-stands
returns-clause-stands c = λ yes text h.
    let end : c.loop-place.place ≡ c.args.count =
    omega (arith, c.loop-place-test.false, c.loop-place.auto.place-end) in
    let by = subst (WentBy c.loop-place.stage text c.args.bytes) end (c.loop-place.invariant text h) in
    let w = c.eight_of-eight.ensures (reverse text)
    (ap (λ (v : FinderView). v.recent) c.self.view_is ∙ h.recent) in
    record {
      recent = c.to_le_bytes-self-inside.ensures ∙ ap (to_le_bytes w32) c.four_behind-2.ensures
          ∙ four_on c.eight_of-eight.result text c.args.bytes w c.args.count c.requires.few;
      stage = by.stage;
      copy = by.none;
    }

pub returns-clause-brings : goal.returns-clause-brings
returns-clause-brings c = λ yes text h.
    let end : c.loop-place.place ≡ c.args.count =
    omega (arith, c.loop-place-test.false, c.loop-place.auto.place-end) in
    let all : length c.args.bytes ≡ 4 = search rules in
    all_by c.loop-place.stage text c.args.bytes c.args.count (omega (arith, all, c.requires.few))
    (subst (WentBy c.loop-place.stage text c.args.bytes) end (c.loop-place.invariant text h))
