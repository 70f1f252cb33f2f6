use Rattle.std.proofs.Common.{◌≡◌, ℕ, ◌<◌, ◌≤◌, List, Bool, false, length, take, get_or, sym, ap}
use Rattle.std.proofs.Common.{◌∙◌, arith, length-take, get_or-take}
use Rattle.nx_sync.specs.private.Calls.{heard_one, heard_all}
use Rattle.nx_sync.proofs.lemmas.states.Hearing.{heard_all-none, heard_all-more}
use Rattle.nx_sync.proofs.synchroniser.Synchroniser.skip_early.Goals as goal

pub loop-bit-init : goal.loop-bit-init
loop-bit-init c =
    let seen : c.args.self.now.seen ≤ 28 =
    omega (arith, c.self.invariant.1, ap (λ h. h.seen) c.self.view_is) in
    sym (heard_all-none c.args.self.now seen)

pub loop-bit-preserved : goal.loop-bit-preserved
loop-bit-preserved c =
    let bits : List Bool = c.args.bits.now in
    let i : ℕ = c.loop-bit.bit-index in
    let l : length (take c.min-count.result bits) ≡ c.min-count.result =
    simp length-take (omega (arith, c.min-count.ensures)) in
    let low : i < c.min-count.result = omega (arith, c.loop-bit-test.true, l) in
    let b = get_or-take c.min-count.result bits i false low in
    c.shift_in.ensures ∙ (ap (λ b. heard_one c.loop-bit.self b) b
    ∙ (ap (λ h. heard_one h (get_or bits i false)) c.loop-bit.invariant
    ∙ heard_all-more c.args.self.now bits i (omega (arith, c.min-count.ensures))))

pub returns : goal.returns
returns c =
    let bits : List Bool = c.args.bits.now in
    let count : ℕ = c.min-count.result in
    let l : length (take count bits) ≡ count =
    simp length-take (omega (arith, c.min-count.ensures)) in
    let i : c.loop-bit.bit-index ≡ count = omega (arith, l) in
    let seen : c.self.inside.seen ≡ c.args.self.now.seen = ap (λ h. h.seen) c.self.view_is in
    record {
      within = omega (arith, c.min-count.ensures);
      held = c.loop-bit.invariant ∙ ap (λ i. heard_all c.args.self.now (take i bits)) i;
      early = λ h. omega (arith, c.min-count.ensures, c.saturating_sub.ensures);
      late = λ h. omega (arith, c.min-count.ensures, c.saturating_sub.ensures);
    }
