use Rattle.std.proofs.Common.{◌≡◌, ◌∙◌, ap}
use Rattle.nx_code.specs.Packed.{packed_part}
use Rattle.nx_locks.specs.private.Showing.{Showing}
use Rattle.nx_locks.proofs.lemmas.Showing.{all_packed, hears_all}
use Rattle.nx_locks.proofs.report_writer.ReportWriter.hear.Goals as goal

pub returns : goal.returns
returns c = rw (← c.self.view_is) (record {
  hears =
      let i = c.self.inside in
      let all = c.args.elements.now in
      let numbers = c.numbers.result.now in
      let bits : packed_part numbers 0 c.len.result ≡ all =
      all_packed all numbers c.len.result c.numbers.ensures.elements c.len.ensures.count in
      hears_all i.synchroniser c.hear.new.synchroniser i.taker c.hear.new.self i.has_moment _ all
      (ap (λ (s : Showing). s.taker.shown) c.self.view_is ∙ c.requires) bits c.hear.ensures;
})
