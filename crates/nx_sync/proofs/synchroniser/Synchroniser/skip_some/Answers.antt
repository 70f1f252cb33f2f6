use Rattle.std.proofs.Common.{◌≡◌, ℕ, ◌*◌, ◌/◌, List, Bool, take, sym, ap, subst, ◌∙◌, arith}
use Rattle.nx_code.specs.Packed.{packed_part}
use Rattle.nx_sync.specs.private.Calls.{Passes, Skips}
use Rattle.nx_sync.proofs.lemmas.hunting.Hunting.{some_of_passes, some_of_first}
use Rattle.nx_sync.proofs.lemmas.hunting.PackedParts.{first_part, rest_of_number, length-part}
use Rattle.nx_sync.proofs.synchroniser.Synchroniser.skip_some.Goals.{then-place-eq0+else-whole-gt0}
use Rattle.nx_sync.proofs.synchroniser.Synchroniser.skip_some.Goals.{else-place-eq0}
use Rattle.nx_sync.proofs.synchroniser.Synchroniser.skip_some.Goals as goal

pub returns : goal.returns
returns c =
    let ws : List ℕ = c.args.numbers.now in
    let place : ℕ = c.args.place in
    let count : ℕ = c.args.count in
    let few : ℕ = c.min-few.result in
    let bits : List Bool = packed_part ws place count in
    let all = length-part ws place count c.requires.room in
    let same : c.if-place-eq0.self ≡ c.args.self.now = elim c.if-place-eq0.branch [
      | then-place-eq0+else-whole-gt0 w ↦
          w.self-is ∙ w.skip_clear-whole.ensures.none (omega (arith, w.if-whole-gt0.false))
      | else-place-eq0 w ↦ w.self-is
    ] in
    let part = rest_of_number ws place count few (omega (arith, c.min-few.ensures))
    c.requires.room (omega (arith, c.min-few.ensures, c.requires.some))
    (omega (arith, c.min-few.ensures)) in
    let s : Skips c.args.self.now (take few bits) c.skip_number.result c.skip_number.new.self =
    subst (λ h. Skips h (take few bits) c.skip_number.result c.skip_number.new.self) same
    (subst (λ xs. Skips c.if-place-eq0.self xs c.skip_number.result c.skip_number.new.self) part
    c.skip_number.ensures) in
    some_of_first c.args.self.now bits few c.skip_number.result c.skip_number.new.self
    (omega (arith, c.min-few.ensures, c.requires.some)) (omega (arith, c.min-few.ensures, all)) s

pub returns-then-whole-gt0 : goal.returns-then-whole-gt0
returns-then-whole-gt0 c =
    let ws : List ℕ = c.args.numbers.now in
    let place : ℕ = c.args.place in
    let count : ℕ = c.args.count in
    let whole : ℕ = c.skip_clear-whole.result in
    let bits : List Bool = packed_part ws place count in
    let all = length-part ws place count c.requires.room in
    let e : 64 * (place / 64) ≡ place = omega arith in
    let part : packed_part ws (64 * (place / 64)) (64 * (count / 64))
    ≡ take (64 * (count / 64)) bits =
    ap (λ p. packed_part ws p (64 * (count / 64))) e
    ∙ sym (first_part ws place count (64 * (count / 64)) (omega arith)) in
    some_of_passes c.args.self.now bits (64 * (count / 64)) (64 * whole) c.skip_clear-whole.new.self
    (omega arith) (omega (arith, all))
    (subst (λ xs. Passes c.args.self.now xs (64 * whole) c.skip_clear-whole.new.self) part
    c.skip_clear-whole.ensures.passes)
