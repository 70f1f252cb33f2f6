use Rattle.std.proofs.Common.{length, ◌≡◌, ◌-◌, ◌≤◌, take}
use Rattle.nx_handle.specs.Hearing.{elements_of}
use Rattle.nx_handle.proofs.lemmas.Hearing.{HearsSilently}
use Rattle.nx_handle.proofs.pieces.hear_all.Given as goal

abbrev pub invariant-loop-heard : goal.invariant-loop-heard
invariant-loop-heard g l = record {
  within : l.heard ≤ length l.elements;
  same_log : l.log ≡ l.fn.log;
  silent : HearsSilently g.P.KeptPlace.kind l.fn.place l.place
      (elements_of (take l.heard l.elements));
}

abbrev pub decreases-loop-heard : goal.decreases-loop-heard
decreases-loop-heard g l = length l.elements - l.heard
