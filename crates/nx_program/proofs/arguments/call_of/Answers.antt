use Rattle.std.proofs.lemmas.Slice.Eq.{bytes_eq-Decides}
use Rattle.nx_program.proofs.lemmas.arguments.CallValues.{differ}
use Rattle.std.proofs.Common.{◌≡◌, ◌∙◌, List, Some, codes, map, ap, sym, subst, Bor, Option, option_map}
use Rattle.std.proofs.lemmas.Result.{err_from_is_err_and}
use Rattle.clap.specs.Words.{App, HasKind, Row, Text, fault_of, found_of, is_simple}
use Rattle.clap.specs.Words.{is_simple_and_free, rows_of, subcommand_of}
use Rattle.clap.specs.declared.parser.matches.ArgMatches.{ArgMatches}
use Rattle.nx_program.proofs.lemmas.arguments.Arguments.{navtex-is_simple, navtex-is_simple_and_free, entered_pair}
use Rattle.nx_program.proofs.lemmas.arguments.Arguments.{explained, options-named, options-refused}
use Rattle.nx_program.proofs.lemmas.arguments.Arguments.{call-named, call-refused}
use Rattle.nx_program.proofs.arguments.call_of.Goals as goal

pub returns-in_err-matches-clause-refused : goal.returns-in_err-matches-clause-refused
returns-in_err-matches-clause-refused g c =
    let p = err_from_is_err_and c.from_residual-in_err-matches.result
    c.from_residual-in_err-matches.ensures.1 in
    let tree = c.in_ok-command.ensures.tree in
    let arguments = map g.S.AsStr.text c.args.arguments.now in
    let P : App → Type 0 = λ a. HasKind (fault_of a arguments) c.in_err-matches.field-0.0 in
    let kinds = subst P tree (c.in_err-matches.ensures.kinds (ap is_simple_and_free tree
    ∙ navtex-is_simple_and_free)) in
    rw p.1 (explained arguments c.in_err-matches.field-0.0 p.0 kinds p.2)

pub returns-in-Some-clause-named : goal.returns-in-Some-clause-named
returns-in-Some-clause-named g c =
    let arguments = map g.S.AsStr.text c.args.arguments.now in
    let tree = c.in_ok-command.ensures.tree in
    let rows = (c.in_ok-matches.ensures.matches (ap is_simple tree ∙ navtex-is_simple)).1
    ∙ ap (λ (a : App). subcommand_of a arguments) tree in
    let name : Bor Text × Bor ArgMatches → Text = λ p. p.0.now in
    let values : Bor Text × Bor ArgMatches → List Row = λ p. rows_of (found_of p.1.now) in
    let entered = entered_pair arguments c.in_ok-matches.matches c.unwrap.result.0.now (rows_of
    (found_of c.unwrap.result.1.now)) rows
    (sym c.subcommand.ensures.name
    ∙ ap (λ (o : Option (Bor Text × Bor ArgMatches)). option_map name o) c.unwrap.ensures)
    (sym c.subcommand.ensures.rows
    ∙ ap (λ (o : Option (Bor Text × Bor ArgMatches)). option_map values o) c.unwrap.ensures) in
    let taken = ap (λ (a : App). fault_of a arguments) (sym tree)
    ∙ c.in_ok-matches.ensures.kinds (ap is_simple_and_free tree ∙ navtex-is_simple_and_free) in
    call-named arguments c.unwrap.result.0.now (rows_of (found_of c.unwrap.result.1.now))
    c.in-Some.call taken entered c.in-Some.ensures.some

pub returns-clause-refused : goal.returns-clause-refused
returns-clause-refused g c =
    let arguments = map g.S.AsStr.text c.args.arguments.now in
    let tree = c.in_ok-command.ensures.tree in
    let rows = (c.in_ok-matches.ensures.matches (ap is_simple tree ∙ navtex-is_simple)).1
    ∙ ap (λ (a : App). subcommand_of a arguments) tree in
    let name : Bor Text × Bor ArgMatches → Text = λ p. p.0.now in
    let values : Bor Text × Bor ArgMatches → List Row = λ p. rows_of (found_of p.1.now) in
    let entered = entered_pair arguments c.in_ok-matches.matches c.unwrap.result.0.now (rows_of
    (found_of c.unwrap.result.1.now)) rows
    (sym c.subcommand.ensures.name
    ∙ ap (λ (o : Option (Bor Text × Bor ArgMatches)). option_map name o) c.unwrap.ensures)
    (sym c.subcommand.ensures.rows
    ∙ ap (λ (o : Option (Bor Text × Bor ArgMatches)). option_map values o) c.unwrap.ensures) in
    let taken = ap (λ (a : App). fault_of a arguments) (sym tree)
    ∙ c.in_ok-matches.ensures.kinds (ap is_simple_and_free tree ∙ navtex-is_simple_and_free) in
    let other = differ c.unwrap.result.0.now (codes "log") (sym c.eq.ensures ∙ c.if-eq.false) in
    call-refused arguments c.unwrap.result.0.now (rows_of (found_of c.unwrap.result.1.now))
    c.unfit_value.result taken entered other
    (λ call. c.in-None.ensures.none call other)
    c.unfit_value.ensures.kind c.unfit_value.ensures.others

pub returns-then-eq-clause-named : goal.returns-then-eq-clause-named
returns-then-eq-clause-named g c =
    let arguments = map g.S.AsStr.text c.args.arguments.now in
    let tree = c.in_ok-command.ensures.tree in
    let rows = (c.in_ok-matches.ensures.matches (ap is_simple tree ∙ navtex-is_simple)).1
    ∙ ap (λ (a : App). subcommand_of a arguments) tree in
    let name : Bor Text × Bor ArgMatches → Text = λ p. p.0.now in
    let values : Bor Text × Bor ArgMatches → List Row = λ p. rows_of (found_of p.1.now) in
    let given = rows_of (found_of c.unwrap.result.1.now) in
    let entered = entered_pair arguments c.in_ok-matches.matches c.unwrap.result.0.now given rows
    (sym c.subcommand.ensures.name
    ∙ ap (λ (o : Option (Bor Text × Bor ArgMatches)). option_map name o) c.unwrap.ensures)
    (sym c.subcommand.ensures.rows
    ∙ ap (λ (o : Option (Bor Text × Bor ArgMatches)). option_map values o) c.unwrap.ensures) in
    let taken = ap (λ (a : App). fault_of a arguments) (sym tree)
    ∙ c.in_ok-matches.ensures.kinds (ap is_simple_and_free tree ∙ navtex-is_simple_and_free) in
    let is : c.unwrap.result.0.now ≡ codes "log" =
    (bytes_eq-Decides c.unwrap.result.0.now (codes "log")).0 (sym c.eq.ensures ∙ c.if-eq.true) in
    options-named arguments given c.log_call.result taken
    (entered ∙ ap (λ (t : Text). Some (t, given)) is) c.log_call.ensures.named

pub returns-then-eq-clause-refused : goal.returns-then-eq-clause-refused
returns-then-eq-clause-refused g c =
    let arguments = map g.S.AsStr.text c.args.arguments.now in
    let tree = c.in_ok-command.ensures.tree in
    let rows = (c.in_ok-matches.ensures.matches (ap is_simple tree ∙ navtex-is_simple)).1
    ∙ ap (λ (a : App). subcommand_of a arguments) tree in
    let name : Bor Text × Bor ArgMatches → Text = λ p. p.0.now in
    let values : Bor Text × Bor ArgMatches → List Row = λ p. rows_of (found_of p.1.now) in
    let given = rows_of (found_of c.unwrap.result.1.now) in
    let entered = entered_pair arguments c.in_ok-matches.matches c.unwrap.result.0.now given rows
    (sym c.subcommand.ensures.name
    ∙ ap (λ (o : Option (Bor Text × Bor ArgMatches)). option_map name o) c.unwrap.ensures)
    (sym c.subcommand.ensures.rows
    ∙ ap (λ (o : Option (Bor Text × Bor ArgMatches)). option_map values o) c.unwrap.ensures) in
    let taken = ap (λ (a : App). fault_of a arguments) (sym tree)
    ∙ c.in_ok-matches.ensures.kinds (ap is_simple_and_free tree ∙ navtex-is_simple_and_free) in
    let is : c.unwrap.result.0.now ≡ codes "log" =
    (bytes_eq-Decides c.unwrap.result.0.now (codes "log")).0 (sym c.eq.ensures ∙ c.if-eq.true) in
    options-refused arguments given c.log_call.result taken
    (entered ∙ ap (λ (t : Text). Some (t, given)) is) c.log_call.ensures.refused
