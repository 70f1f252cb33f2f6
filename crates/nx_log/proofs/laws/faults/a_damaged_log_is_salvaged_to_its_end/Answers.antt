use Rattle.std.proofs.Common.{subst}
use Rattle.nx_log.specs.LogRun.{most_read}
use Rattle.nx_log.specs.Salvage.{SalvageToEnd}
use Rattle.nx_log.proofs.lemmas.runs.Laws.{all_read}
use Rattle.nx_log.proofs.laws.faults.a_damaged_log_is_salvaged_to_its_end.Goals as goal

pub returns : goal.returns
returns g c = λ query form d n line input h known.
    let is = h.answer in
    let all = all_read most_read (d.remaining d.reader.inner) (d.remaining d.reader_after.inner)
    h.bytes input h.consumed known h.within is.0 in (
      is.1,
      is.2,
      is.3,
      subst (λ bytes. SalvageToEnd is.1 bytes is.2 is.3) all is.4,
      is.7,
      is.5,
      is.6,
    )
