use Rattle.std.proofs.Common.{◌+◌, ◌<◌, ℕ, List, length, drop, get_or, ◌∙◌, ap, subst, arith, length-drop, length-append}
use Rattle.std.proofs.lemmas.List.{take_rest}
use Rattle.nx_kept.specs.declared.grammar.RecordStart.TheVariants.{Whole, Unfinished, Broken}
use Rattle.nx_kept.specs.Kept.{IsDamagedBehind}
use Rattle.nx_kept.specs.Record.{TellsRecord}
use Rattle.nx_kept.proofs.lemmas.Steps.{all_shown, long_tail_shown, at_record, ends_early, breaks_shown, first_and_rest}
use Rattle.nx_kept.proofs.scan.step_at.Goals as goal

pub returns-then-gate-eq-CLOSED_GATE : goal.returns-then-gate-eq-CLOSED_GATE
returns-then-gate-eq-CLOSED_GATE g c = λ all shown.
    long_tail_shown g.G.Grammar.is_record g.G.Grammar.LONGEST g.met.G.Grammar.some
    g.met.G.Grammar.bounded g.met.G.Grammar.one _ c.args.bytes.now all (omega arith) shown
    c.if-gate-eq-CLOSED_GATE.true (omega arith)

pub returns-in-Whole : goal.returns-in-Whole
returns-in-Whole g c = λ all shown.
    let bytes = c.args.bytes.now in
    let some : 0 < length bytes = omega arith in
    let told = subst (λ (l : List ℕ). TellsRecord g.G.Grammar.is_record l (Whole c.in-Whole.length))
    (take_rest bytes 1) c.in-Whole.ensures in
    at_record g.G.Grammar.is_record g.G.Grammar.LONGEST g.met.G.Grammar.some g.met.G.Grammar.bounded
    g.met.G.Grammar.one (get_or bytes 0 0) c.in-Whole.length bytes (drop 1 bytes) all
    (first_and_rest bytes some) shown c.if-gate-eq-CLOSED_GATE.false told.0 told.1

pub returns-in-Unfinished : goal.returns-in-Unfinished
returns-in-Unfinished g c = λ all shown.
    let bytes = c.args.bytes.now in
    let some : 0 < length bytes = omega arith in
    let behind : 0 < length (drop 1 bytes) = omega (arith, length-drop 1 bytes) in
    let unfinished = subst (λ (l : List ℕ). TellsRecord g.G.Grammar.is_record l Unfinished)
    (take_rest bytes 1) c.in-Unfinished.ensures in
    let short : length bytes < g.G.Grammar.LONGEST + 3 =
    omega (
      arith,
      length-drop 1 bytes,
      length-append (drop 1 bytes) unfinished.0,
      g.met.G.Grammar.bounded _ unfinished.1,
    ) in
    let all_is = all_shown g.G.Grammar.is_record g.G.Grammar.LONGEST g.met.G.Grammar.some
    g.met.G.Grammar.bounded g.met.G.Grammar.one bytes all shown short in
    subst (λ (n : ℕ). IsDamagedBehind g.G.Grammar.is_record g.G.Grammar.LONGEST n all)
    (ap length all_is)
    (ends_early g.G.Grammar.is_record g.G.Grammar.LONGEST g.met.G.Grammar.some
    g.met.G.Grammar.bounded g.met.G.Grammar.one (get_or bytes 0 0) (drop 1 bytes) all
    (all_is ∙ first_and_rest bytes some) c.if-gate-eq-CLOSED_GATE.false behind unfinished)

pub returns-in-Broken : goal.returns-in-Broken
returns-in-Broken g c = λ all shown.
    let bytes = c.args.bytes.now in
    let some : 0 < length bytes = omega arith in
    let told = subst (λ (l : List ℕ). TellsRecord g.G.Grammar.is_record l
    (Broken c.in-Broken.place))
    (take_rest bytes 1) c.in-Broken.ensures in
    breaks_shown g.G.Grammar.is_record g.G.Grammar.LONGEST g.met.G.Grammar.some
    g.met.G.Grammar.bounded g.met.G.Grammar.one (get_or bytes 0 0) bytes (drop 1 bytes) all
    c.in-Broken.place (first_and_rest bytes some) shown c.if-gate-eq-CLOSED_GATE.false told.0
    told.1 told.2 told.3
