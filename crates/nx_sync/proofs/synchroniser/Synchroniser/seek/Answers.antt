use Rattle.std.proofs.Common.{◌≡◌, ◌+◌, ◌≤◌, ◌∙◌, ◌++◌, ◌∷◌, [], List, Bool, take, length, arith, subst, sym, ap, append_assoc, take_all}
use Rattle.nx_code.specs.Packed.{packed_part}
use lib.Seq.{take-add}
use Rattle.nx_sync.specs.Ahead.{BringsStep}
use Rattle.nx_sync.specs.Steps.{HuntsThrough, IsStep}
use Rattle.nx_sync.specs.Synchroniser.{StandsAfter}
use Rattle.nx_sync.proofs.lemmas.hunting.PackedParts.{first_part, length-part, part_of_part}
use Rattle.nx_sync.proofs.lemmas.words.LastSteps.{hunt_last, hunt_then}
use Rattle.nx_sync.proofs.synchroniser.Synchroniser.seek.Goals as goal

pub returns-then-quiet-count-clause-brings : goal.returns-then-quiet-count-clause-brings
returns-then-quiet-count-clause-brings c =
    let bits : List Bool = packed_part c.args.numbers.now c.args.from c.args.count in
    let size : length bits ≡ c.args.count =
    length-part c.args.numbers.now c.args.from c.args.count c.requires.part.room in
    let hunt = c.hunt_packed-quiet in
    let whole : take hunt.result bits ≡ bits =
    take_all hunt.result bits (omega (arith, size, c.if-quiet-count.true)) in
    let hunted : hunt.result ≡ length bits = omega (arith, size, c.if-quiet-count.true) in
    record {
      stands = λ h a. subst (λ l. StandsAfter hunt.new.self (h ++ l)) whole
          (hunt.ensures.stands h a);
      brings = λ h a. hunt_last h bits (omega (arith, size, c.requires.some))
          (subst (HuntsThrough h bits) hunted (hunt.ensures.pushes h a));
    }

pub returns-clause-brings : goal.returns-clause-brings
returns-clause-brings c =
    let numbers = c.args.numbers.now in
    let hunt = c.hunt_packed-quiet in
    let n = hunt.result in
    let push = c.push-step in
    let bits : List Bool = packed_part numbers c.args.from c.args.count in
    let size : length bits ≡ c.args.count =
    length-part numbers c.args.from c.args.count c.requires.part.room in
    let within : n + 1 ≤ length bits = omega (arith, size) in
    let next : take (n + 1) bits ≡ take n bits ++ c.element.result ∷ [] =
    take-add n 1 bits
    ∙ ap (λ l. take n bits ++ l) (part_of_part numbers c.args.from c.args.count n 1 (omega arith)
    ∙ sym c.element.ensures) in
    let on : (h : List Bool) → (h ++ take n bits) ++ c.element.result ∷ []
    ≡ h ++ take (n + 1) bits =
    λ h. append_assoc h (take n bits) (c.element.result ∷ []) ∙ ap (λ l. h ++ l) (sym next) in
    subst (λ l. BringsStep c.args.self.now push.new.self l push.result)
    (first_part numbers c.args.from c.args.count (n + 1) (omega arith))
    (record {
      stands = λ h a. subst (StandsAfter push.new.self) (on h)
          (push.ensures.stands (h ++ take n bits) (hunt.ensures.stands h a));
      brings = λ h a. hunt_then h bits n push.result (omega (arith, within))
          (hunt.ensures.pushes h a)
          (subst (λ l. IsStep l push.result) (on h)
          (push.ensures.step (h ++ take n bits) (hunt.ensures.stands h a)));
    })
