use Rattle.nx_fec.specs.air_files.AirFile.{moment}
use Rattle.nx_receiver.specs.Commands.{refuses_vital, said}
use Rattle.nx_receiver.proofs.lemmas.listening.Lines.{command-taken, kind-gives, of-kind}
use Rattle.nx_receiver.proofs.lemmas.listening.Lines.{spared}
use Rattle.nx_receiver.proofs.air_file_runs.listening.take_setting.Goals as goal

pub returns-in_ok-command-in_default : goal.returns-in_ok-command-in_default
returns-in_ok-command-in_default g c = λ starts lines line bytes e h.
    let on = c.of_line-channel.result in
    let given = said on.1 in
    let done = c.in_ok-command-in_default.ensures in
    command-taken g.met.C.ChannelReceiver.laws starts c.args.listener.now c.command.new.self lines
    line on.0 given bytes (kind-gives line c.args.kind on.0 given e c.of_line-channel.ensures)
    (spared (refuses_vital given) done.vital.1) done.only done.stands h
