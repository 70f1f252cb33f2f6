use Rattle.std.proofs.Common.{◌≡◌, ◌≤◌, ◌++◌, ◌∷◌, ◌∙◌, [], length, length-append, arith, sym, take, ap, append_assoc, subst}
use Rattle.std.proofs.lemmas.List.{take_all}
use Rattle.std.proofs.lemmas.Result.{err_from_is_err_and}
use Rattle.nx_log.specs.LogReader.{IsAt}
use Rattle.nx_log.specs.LogRun.{most_read}
use Rattle.nx_log.specs.Notices.{HaveToldAll, notices_of, torn_at}
use Rattle.std.specs.Prelude.{map}
use Rattle.nx_log.specs.Places.{unplaced}
use Rattle.nx_log.specs.Salvage.{BeginsBehind, bytes_in, entries_in, told_of}
use Rattle.nx_log.specs.private.LogRunning.{FailsGiving, HasGivenOutput, IsRunning}
use Rattle.nx_log.proofs.lemmas.runs.LogRuns.{exact-line, fails-entry, part-at, passes-over, stops, taken-some, torn-bound, torn-some}
use Rattle.nx_log.proofs.lemmas.runs.Placing.{one_more}
use Rattle.nx_log.proofs.lemmas.runs.Stretches.{begins_behind, cut_on, part_within, told_more}
use Rattle.nx_log.proofs.log_runs.LogRun.take_entry.Goals as goal

pub give-requires-clause-whole : goal.give-requires-clause-whole
give-requires-clause-whole g c =
    let r = c.requires.reading in
    let t = c.in-Entry.ensures r.0 r.1 r.2 r.3 in
    (t.1.0, c.entry_bytes.ensures t.1.0 t.1.1)

pub returns-in_err-give-in-Entry-clause-taken : goal.returns-in_err-give-in-Entry-clause-taken
returns-in_err-give-in-Entry-clause-taken g c = λ damaged old told bytes within h.
    let part = c.args.part.now in
    let t = c.in-Entry.ensures h.rest h.last h.torn h.at in
    let some = taken-some h.rest part h.last h.torn c.args.self.now.log c.push.new.self
    c.in-Entry.taken h.at t in
    let begins = begins_behind c.args.self.now.is_passing h.stretches h.rest h.torn part
    c.in-Entry.taken h.passing c.requires.begins some in
    let p = err_from_is_err_and c.from_residual.result c.from_residual.ensures.1 in
    rw p.1 (rw p.2 (fails-entry c.args.query.now c.args.form damaged old c.args.self.now _ _ bytes
    h c.push.new.self part c.in-Entry.taken t.1.0 _ _ begins t.1.2
    (subst (λ l. FailsGiving c.args.query.now c.args.form
    (record { before = old; after = g.W.Write.contents c.give.new.writer.inner }) l
    c.in_err-give-in-Entry.field-0.0)
    (one_more (entries_in h.stretches ++ h.last) t.1.0)
    (c.in_err-give-in-Entry.ensures.given t.1.0 old
    (map unplaced (entries_in h.stretches ++ h.last))
    (c.entry_bytes.ensures t.1.0 t.1.1) h.given))))

pub returns-in_ok-give-in-Entry-clause-taken : goal.returns-in_ok-give-in-Entry-clause-taken
returns-in_ok-give-in-Entry-clause-taken g c = λ damaged old told bytes within h.
    let part = c.args.part.now in
    let front = take c.in-Entry.taken part in
    let t = c.in-Entry.ensures h.rest h.last h.torn h.at in
    let some = taken-some h.rest part h.last h.torn c.args.self.now.log c.push.new.self
    c.in-Entry.taken h.at t in
    let begins = begins_behind c.args.self.now.is_passing h.stretches h.rest h.torn part
    c.in-Entry.taken h.passing c.requires.begins some in
    record {
      stretches = h.stretches;
      rest = h.rest ++ front;
      last = h.last ++ t.1.0 ∷ [];
      torn = h.torn;
      cut = cut_on bytes front h.rest h.stretches h.cut begins;
      at = t.1.2;
      given = subst (λ l. HasGivenOutput c.args.query.now c.args.form old
          (g.W.Write.contents c.give.new.writer.inner) c.give.new.self l)
          (one_more (entries_in h.stretches ++ h.last) t.1.0
          ∙ ap (λ l. map unplaced l) (append_assoc (entries_in h.stretches) h.last (t.1.0 ∷ [])))
          (c.in_ok-give-in-Entry.ensures.given t.1.0 old
          (map unplaced (entries_in h.stretches ++ h.last))
          (c.entry_bytes.ensures t.1.0 t.1.1) h.given);
      told = h.told;
      ended = h.ended;
      first = h.first;
      passing = begins;
      mode = h.mode;
      stands = h.stands;
    }

pub returns-in_ok-give-in-Entry-clause-some : goal.returns-in_ok-give-in-Entry-clause-some
returns-in_ok-give-in-Entry-clause-some g c =
    let r = c.requires.reading in
    taken-some r.0 c.args.part.now r.1 r.2 c.args.self.now.log c.push.new.self c.in-Entry.taken r.3
    (c.in-Entry.ensures r.0 r.1 r.2 r.3)

pub returns-in_ok-give-in-Entry-clause-within : goal.returns-in_ok-give-in-Entry-clause-within
returns-in_ok-give-in-Entry-clause-within g c =
    let r = c.requires.reading in
    (c.in-Entry.ensures r.0 r.1 r.2 r.3).0

pub returns-in_ok-give-in-Entry-clause-reading : goal.returns-in_ok-give-in-Entry-clause-reading
returns-in_ok-give-in-Entry-clause-reading g c =
    let r = c.requires.reading in
    let t = c.in-Entry.ensures r.0 r.1 r.2 r.3 in
    (r.0 ++ take c.in-Entry.taken c.args.part.now, r.1 ++ t.1.0 ∷ [], r.2, t.1.2)

pub returns-in-Torn-clause-taken : goal.returns-in-Torn-clause-taken
returns-in-Torn-clause-taken g c = λ damaged old told bytes within h.
    let part = c.args.part.now in
    let front = take c.in-Torn.taken part in
    let t = c.in-Torn.ensures h.rest h.last h.torn h.at in
    let some = torn-some h.rest part h.last h.torn c.args.self.now.log c.push.new.self
    c.in-Torn.taken c.in-Torn.at h.at t in
    let begins = begins_behind c.args.self.now.is_passing h.stretches h.rest h.torn part
    c.in-Torn.taken h.passing c.requires.begins some in
    let cut = cut_on bytes front h.rest h.stretches h.cut begins in
    let n = notices_of told (g.N.Write.contents c.tell_torn.new.notices.inner)
    c.tell_torn.new.notices.failures in
    let line = exact-line (bytes_in h.stretches) (h.rest ++ front) c.args.self.now.ended t.1.0
    c.in-Torn.at.line c.saturating_add.result
    (subst (λ l. length l ≤ most_read) cut.split
    (part_within bytes part c.in-Torn.taken within)) h.ended
    (torn-bound c.push.new.self (h.rest ++ front) h.last h.torn t.1.0 t.1.2) t.1.1
    c.saturating_add.ensures in
    record {
      stretches = h.stretches;
      rest = h.rest ++ front;
      last = h.last;
      torn = h.torn ++ t.1.0 ∷ [];
      cut = cut;
      at = t.1.2;
      given = h.given;
      told = subst (HaveToldAll n) (sym (told_more h.stretches h.torn t.1.0))
          (subst (λ k. HaveToldAll n (told_of h.stretches h.torn ++ torn_at k ∷ [])) line
          (c.tell_torn.ensures told (told_of h.stretches h.torn) h.told));
      ended = h.ended;
      first = h.first;
      passing = begins;
      mode = h.mode;
      stands = h.stands;
    }

pub returns-in-Torn-clause-some : goal.returns-in-Torn-clause-some
returns-in-Torn-clause-some g c =
    let r = c.requires.reading in
    torn-some r.0 c.args.part.now r.1 r.2 c.args.self.now.log c.push.new.self c.in-Torn.taken
    c.in-Torn.at r.3 (c.in-Torn.ensures r.0 r.1 r.2 r.3)

pub returns-in-Torn-clause-within : goal.returns-in-Torn-clause-within
returns-in-Torn-clause-within g c =
    let r = c.requires.reading in
    (c.in-Torn.ensures r.0 r.1 r.2 r.3).0

pub returns-in-Torn-clause-reading : goal.returns-in-Torn-clause-reading
returns-in-Torn-clause-reading g c =
    let r = c.requires.reading in
    let t = c.in-Torn.ensures r.0 r.1 r.2 r.3 in
    (r.0 ++ take c.in-Torn.taken c.args.part.now, r.1, r.2 ++ t.1.0 ∷ [], t.1.2)

pub returns-in-All-clause-taken : goal.returns-in-All-clause-taken
returns-in-All-clause-taken g c = λ damaged old told bytes within h.
    let part = c.args.part.now in
    let all : take (length part) part ≡ part = take_all (length part) part (omega arith) in
    let begins = begins_behind c.args.self.now.is_passing h.stretches h.rest h.torn part
    (length part) h.passing c.requires.begins c.requires.some in
    let at = subst (λ l. IsAt c.push.new.self (h.rest ++ l) h.last h.torn) (sym all)
    (c.in-All.ensures h.rest h.last h.torn h.at) in
    record {
      stretches = h.stretches;
      rest = h.rest ++ take (length part) part;
      last = h.last;
      torn = h.torn;
      cut = cut_on bytes (take (length part) part) h.rest h.stretches h.cut begins;
      at = at;
      given = h.given;
      told = h.told;
      ended = h.ended;
      first = h.first;
      passing = begins;
      mode = h.mode;
      stands = h.stands;
    }

pub returns-in-All-clause-reading : goal.returns-in-All-clause-reading
returns-in-All-clause-reading g c =
    let r = c.requires.reading in
    (r.0 ++ c.args.part.now, r.1, r.2, c.in-All.ensures r.0 r.1 r.2 r.3)

pub returns-in_err-close-in-Refused-clause-taken
    : goal.returns-in_err-close-in-Refused-clause-taken
returns-in_err-close-in-Refused-clause-taken g c = λ damaged old told bytes within h.
    let p = err_from_is_err_and c.from_residual-in_err-close-in-Refused.result
    c.from_residual-in_err-close-in-Refused.ensures.1 in
    rw p.1 (rw p.2 (part-at c.args.query.now c.args.form damaged old c.args.self.now _ _ bytes h
    c.args.part.now _ _
    (c.in_err-close-in-Refused.ensures.written c.args.query.now old
    (map unplaced (entries_in h.stretches ++ h.last)) h.given)))

pub returns-in_ok-close-in-Refused-clause-taken
    : goal.returns-in_ok-close-in-Refused-clause-taken
returns-in_ok-close-in-Refused-clause-taken g c = λ damaged old told bytes within h.
    stops c.args.query.now c.args.form damaged old c.args.self.now _ _ bytes h c.args.part.now
    c.in-Bad.field-0.line _ c.in-Refused.is (c.in-Bad.ensures h.rest h.last h.torn h.at)
    (c.in_ok-close-in-Refused.ensures.written c.args.query.now old
    (map unplaced (entries_in h.stretches ++ h.last)) h.given)

pub returns-in-PassedOver-clause-taken : goal.returns-in-PassedOver-clause-taken
returns-in-PassedOver-clause-taken g c = λ damaged old told bytes within h.
    let part = c.args.part.now in
    let all : take (length part) part ≡ part = take_all (length part) part (omega arith) in
    let begins = subst (λ l. BeginsBehind h.stretches (h.rest ++ l)) all
    (begins_behind c.args.self.now.is_passing h.stretches h.rest h.torn part (length part) h.passing
    c.requires.begins c.requires.some) in
    let e = c.pass_over.ensures in
    let next = passes-over c.args.query.now c.args.form damaged old c.args.self.now
    c.pass_over.new.self _ _
    (notices_of told (g.N.Write.contents c.pass_over.new.notices.inner)
    c.pass_over.new.notices.failures) bytes part c.in-Bad.field-0.line c.line-from.result h within
    c.in-PassedOver.is begins (c.requires.one c.in-PassedOver.is)
    (c.in-Bad.ensures h.rest h.last h.torn h.at) c.line-from.ensures e.mode e.output e.passing e.log
    (e.ended (omega (arith, within, length-append bytes part))) e.first
    (e.told told (told_of h.stretches h.torn) h.told) in
    subst (λ l. IsRunning c.args.query.now c.args.form damaged old c.pass_over.new.self
    (g.W.Write.contents c.args.writer.now.inner)
    (notices_of told (g.N.Write.contents c.pass_over.new.notices.inner)
    c.pass_over.new.notices.failures) (bytes ++ l)) (sym all) next
