use Rattle.std.proofs.Common.{◌<◌, sym, subst}
use Rattle.nx_code.proofs.lemmas.Table.{word-TABLE, words-lt, character-TABLE}
use Rattle.nx_code.proofs.table.row_at.Goals as goal

pub returns-clause-word : goal.returns-clause-word
returns-clause-word c = word-TABLE c.args.place _ c.requires

pub returns-clause-range : goal.returns-clause-range
returns-clause-range c = subst (λ n. n < 128) (sym (word-TABLE c.args.place _ c.requires))
    (words-lt c.args.place c.requires)

pub returns-clause-characters : goal.returns-clause-characters
returns-clause-characters c shift = character-TABLE shift c.args.place _ c.requires
