-- A command with one more value, one more command or the commands of the program's rows is built
-- as the tree with these.
use Rattle.std.proofs.Common.{◌≡◌, ◌∙◌, ◌||◌, ◌+◌, ◌<◌, ℕ, false, List, length, take, get_or, ap}
use Rattle.std.proofs.Common.{ap₂, sym, subst}
use Rattle.std.proofs.lemmas.List.Sums.{fold_more}
use Rattle.clap.specs.Words.{AddsArg, AddsSubcommand, App, Rule, rule_of, with_rule}
use Rattle.clap.specs.Words.{with_subcommand}
use Rattle.clap.specs.declared.builder.arg.Arg.{Arg}
use Rattle.clap.specs.declared.builder.command.Command.{Command}
use Rattle.nx_program.specs.declared.commands.Row.{Row}
use Rattle.nx_program.specs.private.Reading.{AddsRule, IsBuiltAs, IsReadAs, row_tree}
use Rattle.nx_program.specs.private.Reading.{with_rows}

pub with_one_more : (a b : App) (old sub new : Command) → IsBuiltAs a old → IsBuiltAs b sub
    → AddsSubcommand old sub new → IsBuiltAs (with_subcommand a b.top) new
with_one_more a b old sub new built sub_built added = record {
  tree = added.shape sub_built.local
      ∙ ap₂ with_subcommand built.tree (ap (λ (x : App). x.top) sub_built.tree);
  local = added.globals ∙ ap₂ (λ x y. x || y) built.local sub_built.local;
}

-- a command that reads as one that is built so is built so
pub built_again : (app : App) (old new : Command) → IsBuiltAs app old → IsReadAs old new
    → IsBuiltAs app new
built_again app old new built same = record {
  tree = same.tree ∙ built.tree;
  local = same.local ∙ built.local;
}

-- with the commands of the rows before this one and with that of this one, it has those up to here
pub with_next : (app : App) (rows : List Row) (i : ℕ) (none : Row) (old sub new : Command)
    → i < length rows → IsBuiltAs (with_rows app (take i rows)) old
    → IsBuiltAs (row_tree (get_or rows i none)) sub → AddsSubcommand old sub new
    → IsBuiltAs (with_rows app (take (i + 1) rows)) new
with_next app rows i none old sub new within built sub_built added =
    let P : App → Type 0 = λ a. IsBuiltAs a new in
    let add : App → Row → App = λ tree row. with_subcommand tree (row_tree row).top in
    subst P (sym (fold_more add app rows i none within))
    (with_one_more (with_rows app (take i rows)) (row_tree (get_or rows i none)) old sub new built
    sub_built added)
