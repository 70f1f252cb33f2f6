use Rattle.std.proofs.Common.{◌≡◌, ℕ, List, Some, length, subst, take}
use Rattle.std.specs.Prelude.{Ok}
use Rattle.nx_copies.specs.copies.Shares.{MarkedCopy}
use Rattle.nx_fec.specs.Transfers.{Devices}
use Rattle.nx_log.specs.LogRun.{AnswersLogRun, RunsOverLog, most_read}
use Rattle.nx_log.specs.Notices.{Notices}
use Rattle.nx_log.specs.Query.{chosen}
use Rattle.nx_log.specs.Reading.{HoldEntriesToEnd}
use Rattle.nx_log.specs.declared.damage.Damaged.{Damaged}
use Rattle.nx_log.specs.declared.damage.Damaged.TheVariants.{PassedOver, Refused}
use Rattle.nx_log.specs.declared.queries.query.Query.{Query}
use Rattle.nx_log.specs.declared.writing.form.Form.{Form}
use Rattle.nx_log.proofs.lemmas.runs.Laws.{all_read, no_read_failed, no_write_failed}
use Rattle.nx_log.proofs.laws.runs.a_run_that_ends_well_read_its_log.Goals as goal

module _ {R W : Type 0} (query : Query) (form : Form) (d : Devices R W) (n : Notices) (count : ℕ)
  where
    -- whatever is done with damage, the bytes were a log
    of_log : (damaged : Damaged) → (h : RunsOverLog query form damaged d n (Ok count))
        → AnswersLogRun query form d n (Ok count) h.bytes
    of_log Refused h = h.answer
    of_log PassedOver h = h.answer

    of_input : (damaged : Damaged) (input : List ℕ)
        → RunsOverLog query form damaged d n (Ok count)
        → d.remaining d.reader.inner ≡ Some input
        → (entries : List MarkedCopy) × (torn : List ℕ)
        × HoldEntriesToEnd (take most_read input) entries torn
        × (count ≡ length (chosen query entries))
    of_input damaged input h known =
        let is = of_log damaged h in
        let all = all_read most_read (d.remaining d.reader.inner)
        (d.remaining d.reader_after.inner) h.bytes input h.consumed known h.within is.0 in
        (is.1, is.2, subst (λ bytes. HoldEntriesToEnd bytes is.1 is.2) all is.3, is.6)

pub returns : goal.returns
returns g c = record {
  counted = λ query form damaged d n count input h known.
      of_input query form d n count damaged input h known;
  unfailed = λ query form damaged d n count h. (
    no_read_failed query count d.reader_after.failures h.read_once h.read_failed,
    no_write_failed query count d.writer_after.failures h.write_once h.unwritten.1,
  );
}
