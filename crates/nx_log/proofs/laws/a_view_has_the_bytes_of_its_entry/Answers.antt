use Rattle.std.proofs.Common.{drop, sym, take}
use Rattle.std.proofs.lemmas.List.{length-take-le, take-append-drop}
use Rattle.nx_log.proofs.laws.a_view_has_the_bytes_of_its_entry.Goals as goal

pub returns : goal.returns
returns c = λ bytes view is. (
  take view.len bytes,
  drop view.len bytes,
  sym (take-append-drop view.len bytes),
  length-take-le view.len bytes is.within,
  is.entry,
)
