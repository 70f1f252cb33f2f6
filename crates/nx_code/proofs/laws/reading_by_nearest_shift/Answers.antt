use Rattle.std.proofs.Common.{sym, ◌∙◌}
use Rattle.nx_code.proofs.lemmas.Reading.{text-nearest, nearest, shift_after_all-nearest}
use Rattle.nx_code.proofs.laws.reading_by_nearest_shift.Goals as goal

pub returns-clause-one_more : goal.returns-clause-one_more
returns-clause-one_more c = text-nearest

pub returns-clause-some : goal.returns-clause-some
returns-clause-some c = nearest

pub returns-clause-only : goal.returns-clause-only
returns-clause-only c xs first one other h k =
    sym (shift_after_all-nearest xs first one h) ∙ shift_after_all-nearest xs first other k
