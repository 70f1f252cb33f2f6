use Rattle.std.proofs.Common.{◌≡◌, subst, sym}
use Rattle.nx_receiver.specs.declared.air_file_runs.listen_fault.ListenFault.{ListenFault}
use Rattle.nx_program.specs.FaultText.{listen_text}
use Rattle.nx_program.proofs.fault_text.listen_text.Goals as goal

pub returns-in-Vital-clause-text : goal.returns-in-Vital-clause-text
returns-in-Vital-clause-text c =
    subst (λ (why : ListenFault). c.vital_refused.result.items ≡ listen_text why)
    (sym c.in-Vital.is) c.vital_refused.ensures.text
