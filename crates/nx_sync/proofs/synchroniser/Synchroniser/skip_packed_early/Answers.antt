use Rattle.std.proofs.Common.{◌≡◌, ℕ, ◌+◌, ◌≤◌, List, Bool, [], ◌∷◌, take, drop, sym, ap, ◌∙◌}
use Rattle.std.proofs.Common.{arith}
use Rattle.nx_code.specs.Packed.{packed_part}
use Rattle.nx_sync.specs.private.Calls.{heard_all}
use Rattle.nx_sync.proofs.lemmas.states.Hearing.{heard_all-none, heard_all-add}
use Rattle.nx_sync.proofs.lemmas.hunting.Hunting.{heard_all-one}
use Rattle.nx_sync.proofs.lemmas.hunting.PackedParts.{part_of_part, length-part}
use Rattle.nx_sync.proofs.synchroniser.Synchroniser.skip_packed_early.Goals as goal

pub loop-at-init : goal.loop-at-init
loop-at-init c =
    let seen : c.args.self.now.seen ≤ 28 =
    omega (arith, c.self.invariant.1, ap (λ h. h.seen) c.self.view_is) in
    sym (heard_all-none c.args.self.now seen)

pub loop-at-preserved : goal.loop-at-preserved
loop-at-preserved c =
    let bits : List Bool = packed_part c.args.numbers.now c.args.from c.args.count in
    let at : ℕ = c.loop-at.at in
    let room : at + 1 ≤ c.args.count = omega (arith, c.min-early.ensures, c.loop-at-test.true) in
    let one : c.element.result ∷ [] ≡ take 1 (drop at bits) =
    c.element.ensures ∙ sym (part_of_part c.args.numbers.now c.args.from c.args.count at 1 room) in
    c.shift_in.ensures
    ∙ (sym (heard_all-one c.loop-at.self c.element.result)
    ∙ (ap (heard_all c.loop-at.self) one
    ∙ (ap (λ h. heard_all h (take 1 (drop at bits))) c.loop-at.invariant
    ∙ heard_all-add c.args.self.now bits at 1)))

pub returns : goal.returns
returns c =
    let bits : List Bool = packed_part c.args.numbers.now c.args.from c.args.count in
    let early : ℕ = c.min-early.result in
    let all = length-part c.args.numbers.now c.args.from c.args.count c.requires.room in
    let i : c.loop-at.at ≡ early = omega arith in
    let seen : c.self.inside.seen ≡ c.args.self.now.seen = ap (λ h. h.seen) c.self.view_is in
    record {
      within = omega (arith, c.min-early.ensures, all);
      held = c.loop-at.invariant ∙ ap (λ i. heard_all c.args.self.now (take i bits)) i;
      early = λ h. omega (arith, c.min-early.ensures, c.saturating_sub.ensures);
      late = λ h. omega (arith, c.min-early.ensures, c.saturating_sub.ensures, all);
    }
