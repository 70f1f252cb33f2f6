use Rattle.std.proofs.Common.{arith}
use Rattle.nx_station.proofs.lemmas.broadcasts.Broadcast.{length-ending, spelled-of}
use Rattle.nx_station.proofs.broadcast.count_combs.Goals as goal

pub overflow_add-result-2 : goal.overflow_add-result-2
overflow_add-result-2 c =
    omega (
      arith,
      c.extent_of_text-extent.ensures.few,
      c.ending_len.ensures,
      length-ending
          c.extent_of_text-extent.result.shift,
    )

pub returns-clause-spelled : goal.returns-clause-spelled
returns-clause-spelled c =
    spelled-of c.args.message.now c.extent_of_text-extent.result c.ending_len.result
    c.extent_of_text-extent.ensures.spells c.ending_len.ensures

pub returns-clause-few : goal.returns-clause-few
returns-clause-few c =
    omega (
      arith,
      c.extent_of_text-extent.ensures.few,
      c.ending_len.ensures,
      length-ending
          c.extent_of_text-extent.result.shift,
    )
