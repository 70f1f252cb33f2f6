use Rattle.std.proofs.Common.{◌≡◌, [], ◌++◌, length, drop, ap, sym, ◌∙◌, arith}
use Rattle.std.proofs.lemmas.List.{take-append-drop}
use Rattle.std.proofs.lemmas.Option.{IfSome_then}
use Rattle.nx_log.proofs.lemmas.texts.TimeTexts.{first_bytes, time-length}
use Rattle.nx_log.proofs.queries.time.written_second.Goals as goal
use Rattle.nx_log.specs.Times.{joined_by}

pub returns-then-is_utc-clause-written : goal.returns-then-is_utc-clause-written
returns-then-is_utc-clause-written c =
    let split = c.in_ok-time.ensures.cases in
    IfSome_then c.moment_joined.result c.moment_joined.ensures.shown (λ moment h. record {
      civil = h.0;
      shown = h.1;
      between = h.2.0;
      is_between = h.2.1;
      zone = c.in_ok-time.zone.now;
      utc = c.is_utc.ensures.0 c.if-is_utc.true;
      spelled = sym (take-append-drop 19 c.args.text.now)
          ∙ ap (λ l. l ++ drop 19 c.args.text.now) (sym split.1 ∙ h.2.2)
          ∙ ap (λ l. joined_by h.2.0 h.0 ++ l) (sym split.2);
    })

pub returns-then-is_utc-clause-found : goal.returns-then-is_utc-clause-found
returns-then-is_utc-clause-found c = λ moment small w.
    let split = c.in_ok-time.ensures.cases in
    let long : 19 ≡ length w.civil = omega (arith, time-length [] c.args.text.now moment w) in
    c.moment_joined.ensures.found moment w.civil w.between small w.shown w.is_between
    (split.1 ∙ first_bytes [] c.args.text.now moment 19 w long)
