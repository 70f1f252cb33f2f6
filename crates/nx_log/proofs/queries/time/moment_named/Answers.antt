use Rattle.std.proofs.Common.{[], ◌++◌, ap, subst, sym, inl, inr, arith, length}
use Rattle.std.specs.Char.{IsAsciiDigit}
use Rattle.std.specs.Prelude.{All}
use Rattle.std.proofs.lemmas.Bool.{true≢false}
use Rattle.std.proofs.lemmas.List.{length-append}
use Rattle.nx_envelope.specs.Moment.{IsShownAs}
use Rattle.nx_log.proofs.lemmas.texts.TimeTexts.{digits_show_none, digits_write_no_time, numeral, shown-length, time-long}
use Rattle.nx_log.proofs.queries.time.moment_named.Goals as goal
use Rattle.nx_log.specs.Times.{WritesTime}

pub written_moment-requires : goal.written_moment-requires
written_moment-requires c =
    numeral.to c.args.text.now
    (subst (All IsAsciiDigit) c.as_bytes-bytes.ensures.value
    (c.is_of_digits.ensures.0 c.if-is_of_digits.true))

pub returns-then-is_of_digits-clause-found : goal.returns-then-is_of_digits-clause-found
returns-then-is_of_digits-clause-found c = λ moment named.
    let text = c.args.text.now in
    let of_day = c.args.of_day.now in
    let of_minute = c.args.of_minute.now in
    let digits = numeral.to text
    (subst (All IsAsciiDigit) c.as_bytes-bytes.ensures.value
    (c.is_of_digits.ensures.0 c.if-is_of_digits.true)) in
    elim named.1 [
      | inl written ↦ c.written_moment.ensures.found moment named.0 written
      | inr (inl w) ↦ absurd (digits_write_no_time [] text moment (omega arith) digits w)
      | inr (inr (inl w)) ↦
          absurd (digits_write_no_time of_minute text moment (omega arith) digits w)
      | inr (inr (inr s)) ↦ absurd (digits_show_none text of_day moment digits (omega arith) s)
    ]

pub returns-then-bytes-eq-DATE_LEN-clause-found : goal.returns-then-bytes-eq-DATE_LEN-clause-found
returns-then-bytes-eq-DATE_LEN-clause-found c = λ moment named.
    let text = c.args.text.now in
    let of_day = c.args.of_day.now in
    let of_minute = c.args.of_minute.now in
    let same = c.as_bytes-bytes.ensures.value in
    elim named.1 [
      | inl written ↦ absurd (true≢false (sym (c.if-is_of_digits.ensures.1
          (subst (All IsAsciiDigit) (sym same) (numeral.from text written.digits.1)))))
      | inr (inl w) ↦
          absurd (omega (arith, (time-long [] text moment w).least, ap length same))
      | inr (inr (inl w)) ↦
          absurd (omega (arith, (time-long of_minute text moment w).least, ap length same))
      | inr (inr (inr s)) ↦ c.moment_of_day.ensures.found moment named.0
          (subst (λ l. IsShownAs moment (l ++ of_day)) (sym same) s)
    ]

pub returns-then-bytes-lt-CIVIL_LEN-clause-found : goal.returns-then-bytes-lt-CIVIL_LEN-clause-found
returns-then-bytes-lt-CIVIL_LEN-clause-found c = λ moment named.
    let text = c.args.text.now in
    let of_day = c.args.of_day.now in
    let of_minute = c.args.of_minute.now in
    let same = c.as_bytes-bytes.ensures.value in
    elim named.1 [
      | inl written ↦ absurd (true≢false (sym (c.if-is_of_digits.ensures.1
          (subst (All IsAsciiDigit) (sym same) (numeral.from text written.digits.1)))))
      | inr (inl w) ↦
          absurd (omega (arith, (time-long [] text moment w).least, ap length same))
      | inr (inr (inl w)) ↦ c.written_minute.ensures.found moment named.0
          (subst (λ l. WritesTime of_minute l moment) (sym same) w)
      | inr (inr (inr s)) ↦ absurd (omega (
        arith,
        shown-length moment (text ++ of_day) s,
        length-append text of_day,
        ap length same,
      ))
    ]

pub returns-else-bytes-lt-CIVIL_LEN-clause-found : goal.returns-else-bytes-lt-CIVIL_LEN-clause-found
returns-else-bytes-lt-CIVIL_LEN-clause-found c = λ moment named.
    let text = c.args.text.now in
    let of_day = c.args.of_day.now in
    let of_minute = c.args.of_minute.now in
    let same = c.as_bytes-bytes.ensures.value in
    elim named.1 [
      | inl written ↦ absurd (true≢false (sym (c.if-is_of_digits.ensures.1
          (subst (All IsAsciiDigit) (sym same) (numeral.from text written.digits.1)))))
      | inr (inl w) ↦ c.written_second.ensures.found moment named.0
          (subst (λ l. WritesTime [] l moment) (sym same) w)
      | inr (inr (inl w)) ↦
          absurd (omega (arith, (time-long of_minute text moment w).most, ap length same))
      | inr (inr (inr s)) ↦ absurd (omega (
        arith,
        shown-length moment (text ++ of_day) s,
        length-append text of_day,
        ap length same,
      ))
    ]
