use Rattle.std.proofs.Common.{codes}
use Rattle.clap.specs.Words.{found_of, rows_of}
use Rattle.nx_program.proofs.lemmas.arguments.ValuesRead.{if_none}
use Rattle.nx_program.specs.Arguments.{sendings_of}
use Rattle.nx_program.specs.LogArguments.{has_flag}
use Rattle.nx_program.specs.declared.arguments.Call.TheVariants.{Damage, Send, Slots, Watch}
use Rattle.nx_program.proofs.lemmas.arguments.CallValues.{file_call-absent, range_call-absent, slot_call-absent}
use Rattle.nx_program.proofs.lemmas.arguments.OneCall.{at_name}
use Rattle.nx_program.proofs.arguments.Call.of_command.Goals as goal

pub returns-in_err-station-in-send-clause-none : goal.returns-in_err-station-in-send-clause-none
returns-in_err-station-in-send-clause-none c =
    if_none c.from_residual.result _
    (λ call other. at_name (codes "send") c.args.name.now (rows_of (found_of c.args.values.now))
    c.in-send.is
    (slot_call-absent (λ s m. Send s m) _ c.in_err-station-in-send.ensures.none) call)

pub returns-in_err-station-in-slots-clause-none : goal.returns-in_err-station-in-slots-clause-none
returns-in_err-station-in-slots-clause-none c =
    if_none c.from_residual-in_err-station-in-slots.result _
    (λ call other. at_name (codes "slots") c.args.name.now (rows_of (found_of c.args.values.now))
    c.in-slots.is
    (slot_call-absent (λ s m. Slots s m) _ c.in_err-station-in-slots.ensures.none) call)

pub returns-in_err-kind-in-damage-clause-none :
    goal.returns-in_err-kind-in-damage-clause-none
returns-in_err-kind-in-damage-clause-none c =
    if_none c.from_residual-in_err-kind-in-damage.result _
    (λ call other. at_name (codes "damage") c.args.name.now
    (rows_of (found_of c.args.values.now))
    c.in-damage.is
    (range_call-absent (λ k f c. Damage k f c) _ c.in_err-kind-in-damage.ensures.none) call)

pub returns-in_err-file-in-watch-clause-none : goal.returns-in_err-file-in-watch-clause-none
returns-in_err-file-in-watch-clause-none c =
    if_none c.from_residual-in_err-file-in-watch.result _
    (λ call other. at_name (codes "watch") c.args.name.now (rows_of (found_of c.args.values.now))
    c.in-watch.is
    (file_call-absent
    (λ n m. Watch (sendings_of
    (has_flag (codes "combine") (rows_of (found_of c.args.values.now)))) n m) _
    c.in_err-file-in-watch.ensures.none) call)
