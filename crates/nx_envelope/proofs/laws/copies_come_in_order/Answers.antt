use Rattle.nx_envelope.proofs.lemmas.copies.OneOpenCopy.{copies_parts, grown, one_at_most}
use Rattle.nx_envelope.proofs.laws.copies_come_in_order.Goals as goal

pub returns : goal.returns
returns c = record { one_open = one_at_most; open_last = copies_parts; ended_stay = grown }
