use Rattle.std.proofs.Common.{ℕ, List, ◌++◌, take, sym, ap, ◌∙◌, subst, add-one, append_assoc}
use Rattle.std.proofs.Math.Seq.{take-suc}
use Rattle.std.proofs.lemmas.List.{take_all}
use Rattle.nx_envelope.specs.Finder.{StandsAfter}
use Rattle.nx_combine.proofs.reading.hear_all.Goals as goal

pub loop-byte-preserved : goal.loop-byte-preserved
loop-byte-preserved c = λ text stands.
    let bytes : List ℕ = c.args.bytes.now in
    let i : ℕ = c.loop-byte.byte-index in
    subst (StandsAfter c.hear-event.new.self)
    (append_assoc text (take i bytes) _
    ∙ ap (λ l. text ++ l)
    (sym (take-suc bytes i 0 c.loop-byte-test.true) ∙ ap (λ n. take n bytes) (sym (add-one i))))
    (c.hear-event.ensures.stands (text ++ take i bytes) (c.loop-byte.invariant text stands))

pub returns : goal.returns
returns c = λ text stands.
    subst (λ l. StandsAfter c.loop-byte.finder (text ++ l))
    (take_all c.loop-byte.byte-index c.args.bytes.now c.loop-byte-test.false)
    (c.loop-byte.invariant text stands)
