use Rattle.std.proofs.Common.{ap, refl, subst, sym, ◌∙◌}
use Rattle.nx_fec.specs.Transfers.{CountedDevice}
use Rattle.nx_log.specs.Notices.{HaveToldAll, HaveToldTorn, notices_of}
use Rattle.nx_log.proofs.laws.faults.what_there_is_to_tell_is_told_before_a_failed_read.Goals as goal

pub returns : goal.returns
returns g c = record {
  of_log = λ query form d reader old new h same told.
      let is = h.answer in
      let asked = told (ap (λ (one : CountedDevice _). one.failures) (sym same) ∙ h.unread refl) in (
        h.bytes,
        is.0,
        is.1,
        h.consumed,
        is.2,
        asked.0,
        subst (λ (then : CountedDevice _). HaveToldTorn
            (notices_of (g.N.Write.contents old.inner) (g.N.Write.contents then.inner)
            then.failures) is.1) (sym asked.1) is.4,
      );
  salvaged = λ query form d reader old new h same told.
      let is = h.answer in
      let asked = told (ap (λ (one : CountedDevice _). one.failures) (sym same) ∙ h.unread refl) in (
        h.bytes,
        is.0,
        is.1,
        is.2,
        h.consumed,
        is.3,
        asked.0,
        subst (λ (then : CountedDevice _). HaveToldAll
            (notices_of (g.N.Write.contents old.inner) (g.N.Write.contents then.inner)
            then.failures) is.2) (sym asked.1) is.5,
      );
}
