-- Each way through the body: a newline directly behind a header; a marker; the 4,100th byte; any
-- other.
use Rattle.std.proofs.Common.{◌≡◌, ℕ, ◌+◌, ◌-◌, ◌<◌, ◌∷◌, length, take, reverse}
use Rattle.std.proofs.Common.{refl, sym, ap, ◌∙◌, arith}
use Rattle.std.proofs.lemmas.Bool.Decides.{nat_tests}
use Rattle.nx_envelope.specs.FinderView.{FinderView}
use Rattle.nx_envelope.proofs.lemmas.finder.Hearing.{goes_newline, goes_on, ends_by, ends_full, stays}
use Rattle.nx_envelope.proofs.lemmas.finder.Hearing.{becomes_ready}
use Rattle.nx_envelope.proofs.finder.Finder.add.Goals as goal

pub returns-then-byte-eq-NEWLINE-clause-hearing : goal.returns-then-byte-eq-NEWLINE-clause-hearing
returns-then-byte-eq-NEWLINE-clause-hearing c = λ text h recent.
    let kept = ap (λ (v : FinderView). v.text) c.self.view_is in
    stays text c.args.byte c.args.identity _
    (goes_newline c.args.fresh _ text c.args.byte c.args.identity (rw kept h)
    (grind (arith, nat_tests, c.if-fresh.true, c.if-byte-eq-NEWLINE.true))) refl

pub returns-in-Some-clause-hearing : goal.returns-in-Some-clause-hearing
returns-in-Some-clause-hearing c = λ text h recent.
    let kept = ap (λ (v : FinderView). v.text) c.self.view_is in
    let back = ap (λ (v : FinderView). v.recent) c.self.view_is ∙ recent in
    let few : c.saturating_sub.result ≡ length c.self.inside.text.items - 3 =
    omega (arith, c.saturating_sub.ensures, c.len.ensures.value) in
    let found = c.truncate.ensures.items ∙ ap (λ (n : ℕ). take n c.self.inside.text.items) few in
    becomes_ready text c.args.byte c.args.identity c.in-Some.how _
    (rw found (ends_by c.args.fresh c.self.inside.text.items text c.args.byte c.args.identity
    c.in-Some.how (rw kept h) (grind (arith, nat_tests, c.else-fresh.either))
    (sym (c.in-Some.ensures (c.args.byte ∷ reverse text) back)))) refl

pub returns-then-len-eq-MAX_FOUND-clause-hearing : goal.returns-then-len-eq-MAX_FOUND-clause-hearing
returns-then-len-eq-MAX_FOUND-clause-hearing c = λ text h recent.
    let kept = ap (λ (v : FinderView). v.text) c.self.view_is in
    let back = ap (λ (v : FinderView). v.recent) c.self.view_is ∙ recent in
    let full : length c.self.inside.text.items + 1 ≡ 4100 =
    grind (
      arith,
      nat_tests,
      c.push.ensures.len,
      c.len-2.ensures.value,
      c.if-len-eq-MAX_FOUND.true,
    ) in
    becomes_ready text c.args.byte c.args.identity _ _
    (rw c.push.ensures.items (ends_full c.args.fresh c.self.inside.text.items text c.args.byte
    c.args.identity (rw kept h) (grind (arith, nat_tests, c.else-fresh.either))
    (sym (c.in_default.ensures (c.args.byte ∷ reverse text) back)) full)) refl

pub returns-clause-hearing : goal.returns-clause-hearing
returns-clause-hearing c = λ text h recent.
    let kept = ap (λ (v : FinderView). v.text) c.self.view_is in
    let back = ap (λ (v : FinderView). v.recent) c.self.view_is ∙ recent in
    let short : length c.self.inside.text.items + 1 < 4100 =
    grind (
      arith,
      nat_tests,
      c.push.ensures.len,
      c.len-2.ensures.value,
      c.if-len-eq-MAX_FOUND.false,
    ) in
    stays text c.args.byte c.args.identity _
    (rw c.push.ensures.items (goes_on c.args.fresh c.self.inside.text.items text c.args.byte
    c.args.identity (rw kept h) (grind (arith, nat_tests, c.else-fresh.either))
    (sym (c.in_default.ensures (c.args.byte ∷ reverse text) back)) short)) refl
