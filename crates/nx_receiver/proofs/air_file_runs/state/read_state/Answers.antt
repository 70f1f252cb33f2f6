use Rattle.std.proofs.Common.{ℕ, ◌+◌, List, [], ◌∷◌, ◌++◌, length, Ok, Err, sym, ap, ◌∙◌, subst}
use Rattle.std.proofs.Common.{arith}
use Rattle.std.specs.Io.KnownBytes.{Consumes}
use Rattle.std.proofs.KnownBytes.{Consumes-nil, Consumes-trans}
use Rattle.std.proofs.lemmas.List.{length-append}
use Rattle.nx_memory.specs.StateText.{BeginsNoText, BeginsText, IsStateText}
use Rattle.nx_memory.proofs.lemmas.StateTexts.{new_begins}
use Rattle.nx_receiver.specs.air_file_runs.State.{ended_lines}
use Rattle.nx_receiver.specs.declared.air_file_runs.state_fault.StateFault.TheVariants.{Read, StateLine, StateCut}
use Rattle.nx_receiver.proofs.lemmas.state.Answers.{good_answer}
use Rattle.nx_receiver.proofs.lemmas.state.Bounds.{few_begun}
use Rattle.nx_receiver.proofs.lemmas.state.Reading.{reads-bad, reads-cut, reads-done, reads-failed}
use Rattle.nx_receiver.proofs.lemmas.state.Reading.{reads-long}
use Rattle.nx_receiver.proofs.lemmas.state.Splits.{ended-one}
use Rattle.nx_receiver.proofs.air_file_runs.state.read_state.Goals as goal

pub loop-line-init : goal.loop-line-init
loop-line-init g c = record {
  none = c.requires;
  begins = subst BeginsText (sym c.new-text.ensures) new_begins;
  count = sym (ap (λ (l : List (List ℕ)). length l + 1) c.new-text.ensures);
  consumed = subst (λ (l : List (List ℕ)). Consumes (g.R.Read.remaining c.args.reader.now.inner)
      (g.R.Read.remaining c.args.reader.now.inner) (ended_lines l)) (sym c.new-text.ensures)
      (Consumes-nil _);
}

pub unreachable-requires : goal.unreachable-requires
unreachable-requires g c =
    omega (arith, few_begun _ c.loop-line.invariant.begins, c.loop-line.invariant.count)

pub returns-in-Done-clause-reads : goal.returns-in-Done-clause-reads
returns-in-Done-clause-reads g c =
    reads-done g.R.Read.remaining c.args.reader.now c.loop-line.reader c.read_line.new.reader
    c.loop-line.text c.loop-line.invariant.begins c.loop-line.invariant.consumed
    c.in-Whole.bytes.items c.in-Done.states c.in-Whole.ensures.1 c.in-Whole.ensures.2
    (subst (λ (l : List ℕ). IsStateText (c.loop-line.text ++ l ∷ []) c.in-Done.states)
    c.deref.ensures.0 c.in-Done.ensures.done)

pub returns-in-Bad-clause-reads : goal.returns-in-Bad-clause-reads
returns-in-Bad-clause-reads g c =
    reads-bad g.R.Read.remaining c.args.reader.now c.loop-line.reader c.read_line.new.reader
    c.loop-line.text c.loop-line.invariant.begins c.loop-line.invariant.consumed
    c.in-Whole.bytes.items c.loop-line.line c.in-Whole.ensures.0 c.in-Whole.ensures.1
    c.in-Whole.ensures.2 c.loop-line.invariant.count
    (subst (λ (l : List ℕ). BeginsNoText (c.loop-line.text ++ l ∷ []))
    c.deref.ensures.0 c.in-Bad.ensures.bad)

pub returns-in-Long-clause-reads : goal.returns-in-Long-clause-reads
returns-in-Long-clause-reads g c =
    reads-long g.R.Read.remaining c.args.reader.now c.loop-line.reader c.read_line.new.reader
    c.loop-line.text c.loop-line.invariant.begins c.loop-line.invariant.consumed c.loop-line.line
    c.in-Long.ensures c.loop-line.invariant.count

pub returns-in-Cut-clause-reads : goal.returns-in-Cut-clause-reads
returns-in-Cut-clause-reads g c =
    reads-cut g.R.Read.remaining c.args.reader.now c.loop-line.reader c.read_line.new.reader
    c.loop-line.text c.loop-line.invariant.begins c.loop-line.invariant.consumed c.loop-line.line
    c.in-Cut.ensures c.loop-line.invariant.count

pub returns-in-Failed-clause-reads : goal.returns-in-Failed-clause-reads
returns-in-Failed-clause-reads g c =
    reads-failed g.R.Read.remaining c.args.reader.now c.loop-line.reader c.read_line.new.reader
    c.loop-line.text c.loop-line.invariant.begins c.loop-line.invariant.consumed
    c.in-Failed.ensures

pub loop-line-preserved : goal.loop-line-preserved
loop-line-preserved g c =
    let more = c.in-More.ensures.more
    ∙ ap (λ (l : List ℕ). c.loop-line.text ++ l ∷ []) c.deref.ensures.0 in
    record {
      none = c.in-Whole.ensures.2;
      begins = c.in-More.ensures.begins;
      count = omega (
        arith,
        c.loop-line.invariant.count,
        ap length more,
        length-append c.loop-line.text (c.in-Whole.bytes.items ∷ []),
      );
      consumed = subst (λ (l : List (List ℕ)). Consumes (g.R.Read.remaining c.args.reader.now.inner)
          (g.R.Read.remaining c.read_line.new.reader.inner) (ended_lines l)) (sym more)
          (subst (Consumes (g.R.Read.remaining c.args.reader.now.inner)
          (g.R.Read.remaining c.read_line.new.reader.inner))
          (sym (ended-one c.loop-line.text c.in-Whole.bytes.items))
          (Consumes-trans _ _ _ _ _ c.loop-line.invariant.consumed c.in-Whole.ensures.1));
    }

pub returns-in-Done-clause-good : goal.returns-in-Done-clause-good
returns-in-Done-clause-good g c =
    good_answer (g.R.Read.remaining c.args.reader.now.inner) (Ok c.in-Done.states)
    (returns-in-Done-clause-reads g c).file

pub returns-in-Bad-clause-good : goal.returns-in-Bad-clause-good
returns-in-Bad-clause-good g c =
    good_answer (g.R.Read.remaining c.args.reader.now.inner) (Err (StateLine c.loop-line.line))
    (returns-in-Bad-clause-reads g c).file

pub returns-in-Long-clause-good : goal.returns-in-Long-clause-good
returns-in-Long-clause-good g c =
    good_answer (g.R.Read.remaining c.args.reader.now.inner) (Err (StateLine c.loop-line.line))
    (returns-in-Long-clause-reads g c).file

pub returns-in-Cut-clause-good : goal.returns-in-Cut-clause-good
returns-in-Cut-clause-good g c =
    good_answer (g.R.Read.remaining c.args.reader.now.inner) (Err (StateCut c.loop-line.line))
    (returns-in-Cut-clause-reads g c).file
