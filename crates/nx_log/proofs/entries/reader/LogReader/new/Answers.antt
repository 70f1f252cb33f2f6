use Rattle.std.proofs.Common.{[], None, refl}
use Rattle.std.proofs.lemmas.List.Elements.{All-nil}
use Rattle.nx_log.specs.Reading.{IsNoBracket, nothing, nothing_read}
use Rattle.nx_log.proofs.entries.reader.LogReader.new.Goals as goal

pub returns : goal.returns
returns c = record {
  earlier = [];
  before = nothing_read;
  are = refl;
  last = record {
    head = nothing;
    front = [];
    behind = [];
    torn = None;
    split = refl;
    is_part = All-nil IsNoBracket;
    is_head = refl;
    stage_is = (c.behind.ensures.whole, (λ e. cc), c.behind.ensures.stands [] []);
  };
  are_entries = refl;
  are_torn = refl;
  line = refl;
}
