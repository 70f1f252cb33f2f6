use Rattle.std.proofs.lemmas.Result.{IfOk-weaker}
use Rattle.clap.specs.Words.{new_app}
use Rattle.nx_program.proofs.log_command.log_command.Goals as goal

pub returns : goal.returns
returns c =
    IfOk-weaker c.with_flag-6.result _ _
    (λ r adds. adds _ (c.in_ok-with_from.ensures _ (c.in_ok-with_kept.ensures _
    (c.in_ok-with_keep.ensures _ (c.in_ok-with_json.ensures _
    (c.in_ok-with_last.ensures _
    (c.in_ok-with_good.ensures _
    (c.in_ok-with_until.ensures _ (c.in_ok-with_since.ensures _ (c.in_ok-with_channel.ensures _
    (c.in_ok-with_subject.ensures _ (c.in_ok-with_station.ensures (new_app c.args.name.now)
    (record { tree = c.new.ensures.app; local = c.new.ensures.local })))))))))))))
    c.with_flag-6.ensures
