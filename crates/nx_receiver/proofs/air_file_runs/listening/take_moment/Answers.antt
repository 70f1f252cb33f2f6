use Rattle.std.proofs.Common.{◌≤◌, ◌∙◌, subst}
use Rattle.std.proofs.lemmas.Result.{err_from_is_err_and}
use Rattle.nx_fec.specs.air_files.AirFile.{moment}
use Rattle.nx_receiver.specs.Moments.{Refuses}
use Rattle.nx_receiver.specs.air_file_runs.Listen.{given_by}
use Rattle.nx_receiver.proofs.lemmas.listening.Listener.{in_force-lines, moment-one, takes-line}
use Rattle.nx_receiver.proofs.air_file_runs.listening.take_moment.Goals as goal

pub returns : goal.returns
returns g c = λ starts lines bytes h.
    let n = c.args.moment in
    let heard = c.in_ok-set_moment.ensures.heard starts (given_by lines) in
    let after = subst (λ m. m ≤ n) (in_force-lines starts.moment lines)
    (heard h.hears.log h.hears.hears).0 in
    takes-line starts c.args.listener.now c.set_moment.new.self lines (moment n) bytes h
    (after, (heard h.hears.log h.hears.hears).1)
    (c.in_ok-set_moment.ensures.noted ∙ moment-one lines n)
    (λ copies given. (heard copies given).2)

pub returns-in_err-set_moment : goal.returns-in_err-set_moment
returns-in_err-set_moment g c =
    let p = err_from_is_err_and c.from_residual.result c.from_residual.ensures.1 in
    rw p.1 (rw p.2 (λ starts lines bytes h.
    let refused = c.in_err-set_moment.ensures.heard starts (given_by lines) h.hears.log
    h.hears.hears in (
      subst (λ m. Refuses m c.args.moment c.in_err-set_moment.field-0.0)
          (in_force-lines starts.moment lines) refused.0,
      refused.1,
    )))
