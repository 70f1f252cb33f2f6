use Rattle.std.proofs.Common.{[], refl, rules}
use Rattle.nx_fec.specs.air_files.LineRuns.{HasGiven}
use Rattle.nx_log.proofs.lemmas.runs.Outputs.{nothing-given}
use Rattle.nx_log.proofs.writing.output.Output.new.Goals as goal

pub returns : goal.returns
returns c = record {
  given = λ query form old.
      let given : HasGiven old old c.new.result [] = search rules in
      nothing-given query form old
      (record { batch = c.new.result; passed = 0; held = c.new-2.result }) given refl
      c.new-2.ensures;
}
