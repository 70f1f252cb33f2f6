use Rattle.std.proofs.Common.{◌∷◌, ◌++◌, [], Some, subst, sym}
use Rattle.std.proofs.lemmas.Result.{err_from_is_err_and}
use Rattle.nx_log.specs.Entries.{IsWholeEntry}
use Rattle.nx_log.specs.Logged.{IsLoggedAs}
use Rattle.nx_log.specs.Places.{PlacedCopy}
use Rattle.nx_log.proofs.lemmas.kept.Runs.{entry_fails, part_ends}
use Rattle.nx_log.proofs.kept_runs.KeptRun.take_part.Goals as goal

pub give-requires-clause-whole : goal.give-requires-clause-whole
give-requires-clause-whole g c =
    subst IsWholeEntry (sym c.entry_bytes.ensures) c.in-Entry.ensures.some.3

pub returns-in_err-give-in-Entry-clause-taken : goal.returns-in_err-give-in-Entry-clause-taken
returns-in_err-give-in-Entry-clause-taken g c = λ from old bytes within h.
    let t = c.in-Entry.ensures.takes from bytes h.entries within h.at in
    let one : PlacedCopy = record { one = t.0; places = Some c.in-Entry.places } in
    let p = err_from_is_err_and c.from_residual.result c.from_residual.ensures.1 in
    rw p.1 (rw p.2 (entry_fails c.args.query.now c.args.form from _ c.args.self.now.log
    c.push.new.self bytes c.args.piece.now c.in-Entry.taken h.entries one _ h.at t.2
    (c.in_err-give-in-Entry.ensures.given t.0 old h.entries
    (subst (IsLoggedAs t.0) (sym c.entry_bytes.ensures) t.1) h.given)))

pub returns-in_ok-give-in-Entry-clause-taken : goal.returns-in_ok-give-in-Entry-clause-taken
returns-in_ok-give-in-Entry-clause-taken g c = λ from old bytes within h.
    let t = c.in-Entry.ensures.takes from bytes h.entries within h.at in
    let one : PlacedCopy = record { one = t.0; places = Some c.in-Entry.places } in
    record {
      entries = h.entries ++ one ∷ [];
      at = t.2;
      given = c.in_ok-give-in-Entry.ensures.given t.0 old h.entries
          (subst (IsLoggedAs t.0) (sym c.entry_bytes.ensures) t.1) h.given;
    }

pub returns-in_err-close-in-Bad-clause-taken : goal.returns-in_err-close-in-Bad-clause-taken
returns-in_err-close-in-Bad-clause-taken g c = λ from old bytes within h.
    let p = err_from_is_err_and c.from_residual-in_err-close-in-Bad.result
    c.from_residual-in_err-close-in-Bad.ensures.1 in
    rw p.1 (rw p.2 (part_ends c.args.query.now c.args.form from _ c.args.self.now.log bytes
    c.args.piece.now h.entries _ h.at
    (c.in_err-close-in-Bad.ensures.written c.args.query.now old h.entries h.given)))

pub returns-in_ok-close-in-Bad-clause-taken : goal.returns-in_ok-close-in-Bad-clause-taken
returns-in_ok-close-in-Bad-clause-taken g c = λ from old bytes within h. (
  h.entries,
  c.in-Bad.ensures.takes from bytes h.entries within h.at,
  c.in_ok-close-in-Bad.ensures.written c.args.query.now old h.entries h.given,
)
