use Rattle.std.proofs.Common.{◌∙◌, ap}
use Rattle.nx_envelope.specs.Finder.{is_over}
use Rattle.nx_copies.specs.declared.copy_taker.CopyTaker.{CopyTaker}
use Rattle.nx_copies.specs.hearing.CopyHearer.{over_with}
use Rattle.nx_copies.specs.hearing.CopyTaker.{setting_of, tag_after}
use Rattle.nx_combine.proofs.taker.CombinedTaker.take_word.Goals as goal

pub returns : goal.returns
returns c =
    let event = c.read-event.result in
    record {
      event = event;
      mid = c.read-event.new.self;
      read = c.read-event.ensures.notes;
      copies = c.meet.ensures.tag
          ∙ ap (λ (k : CopyTaker). record k { tag = tag_after (setting_of k) k.tag event })
          c.read-event.ensures.kept;
      left = c.leave.ensures;
      is = c.meet.ensures.over ∙ ap (over_with (is_over event)) c.is_some.ensures;
    }
