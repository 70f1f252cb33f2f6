use Rattle.std.proofs.Common.{◌≡◌, ◌⊎◌, [], ◌++◌, codes, length, drop, ap, sym, subst, ◌∙◌, arith}
use Rattle.std.proofs.lemmas.Bool.{true≢false}
use Rattle.std.proofs.lemmas.List.{take-append-drop}
use Rattle.std.proofs.lemmas.Option.{IfSome_then}
use Rattle.nx_log.proofs.lemmas.texts.TimeTexts.{first_bytes, time-length, time-long, zone-is}
use Rattle.nx_log.proofs.queries.time.written_minute.Goals as goal
use Rattle.nx_log.specs.Times.{joined_by}

pub returns-in_err-time-clause-found : goal.returns-in_err-time-clause-found
returns-in_err-time-clause-found c = λ moment small w.
    let long = time-long c.args.second.now c.args.text.now moment w in
    absurd (omega (arith, c.in_err-time.ensures.cases, long.least))

pub returns-then-is_utc-clause-written : goal.returns-then-is_utc-clause-written
returns-then-is_utc-clause-written c =
    let split = c.in_ok-time.ensures.cases in
    IfSome_then c.moment_joined.result c.moment_joined.ensures.shown (λ moment h. record {
      civil = h.0;
      shown = h.1;
      between = h.2.0;
      is_between = h.2.1;
      zone = c.in_ok-time.zone.now;
      utc = c.is_utc.ensures.0 c.if-is_utc.true;
      spelled = sym (take-append-drop 16 c.args.text.now)
          ∙ ap (λ l. l ++ drop 16 c.args.text.now) (sym split.1 ∙ h.2.2)
          ∙ ap (λ l. joined_by h.2.0 h.0 ++ l) (sym split.2);
    })

pub returns-then-is_utc-clause-found : goal.returns-then-is_utc-clause-found
returns-then-is_utc-clause-found c = λ moment small w.
    let second = c.args.second.now in
    let split = c.in_ok-time.ensures.cases in
    let long : 16 ≡ length w.civil = omega (arith, time-length second c.args.text.now moment w) in
    c.moment_joined.ensures.found moment w.civil w.between small w.shown w.is_between
    (split.1 ∙ first_bytes second c.args.text.now moment 16 w long)

pub returns-else-is_utc-clause-found : goal.returns-else-is_utc-clause-found
returns-else-is_utc-clause-found c = λ moment small w.
    let second = c.args.second.now in
    let split = c.in_ok-time.ensures.cases in
    let long : 16 ≡ length w.civil = omega (arith, time-length second c.args.text.now moment w) in
    let same : c.in_ok-time.zone.now ≡ w.zone =
    split.2 ∙ zone-is second c.args.text.now moment 16 w long in
    absurd (true≢false (sym (c.if-is_utc.ensures.1
    (subst (λ z. (z ≡ []) ⊎ (z ≡ codes "Z")) (sym same) w.utc))))
