use Rattle.std.proofs.Common.{arith}
use Rattle.std.proofs.lemmas.Bool.Decides.{nat_tests}
use Rattle.nx_log.proofs.lemmas.kept.Steps.{ends_early_at}
use Rattle.nx_log.proofs.entries.kept_reader.KeptReader.finish_entry.Goals as goal

pub returns : goal.returns
returns c = λ from bytes entries at.
    ends_early_at c.args.self.now from bytes entries at c.requires (grind (arith, nat_tests))
