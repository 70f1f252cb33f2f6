use Rattle.std.proofs.Common.{Ok, ap, sym, ◌∙◌}
use Rattle.nx_fec.specs.Transfers.{whole_input}
use Rattle.nx_receiver.proofs.lemmas.listening.Once.{printed-once}
use Rattle.nx_receiver.specs.air_file_runs.Chain.{HasGoneOn}
use Rattle.nx_receiver.specs.air_file_runs.Listen.{AnswersListening}
use Rattle.nx_receiver.specs.air_file_runs.ListenOnce.{HasPrintedOnce}
use Rattle.nx_copies.specs.copies.Shares.{starts_from}
use Rattle.nx_c.proofs.lemmas.State.{leaves-whole, moved}
use Rattle.nx_c.proofs.receiving.go_on.Goals as goal

pub returns-in-Ok-state_text : goal.returns-in-Ok-state_text
returns-in-Ok-state_text c =
    let old = ap (λ v. v.items) c.new-writer.ensures.inner ∙ c.new.ensures.items in
    let new = ap (λ v. v.items) (sym c.into_inner-log.ensures) in
    let read = ap (λ r. r.now) c.new-2.ensures.inner in
    let starts = starts_from c.args.states.now in
    let run = c.in-Ok.ensures.listens.listens.run in (
      record {
        answers = moved (λ held air. AnswersListening starts whole_input held (Ok c.in-Ok.report)
            air) old new read run.file;
        memory = λ error e. cc;
      },
      record {
        left = c.in-Ok.saved;
        sound = c.state_text.ensures.sound;
        gone = moved (λ held air. HasGoneOn c.args.states.now held air c.in-Ok.saved) old new read
            (leaves-whole c.args.states.now c.in-Ok.saved _ c.in-Ok.report c.in-Ok.ensures.listens);
        printed = moved (HasPrintedOnce starts) old new read
            (printed-once starts _ _ c.in-Ok.report run.file.1);
        spelled = c.in-Ok-state_text.ensures.text;
      },
    )
