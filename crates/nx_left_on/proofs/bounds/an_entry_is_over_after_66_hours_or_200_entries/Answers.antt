use Rattle.std.proofs.Common.{inl, inr, lit≤, arith}
use Rattle.nx_promises.specs.examples.Repeats.{first_copy}
use Rattle.nx_left_on.specs.Bounds.{entry_then}
use Rattle.nx_left_on.specs.Together.{IsOver}
use Rattle.nx_left_on.proofs.bounds.an_entry_is_over_after_66_hours_or_200_entries.Goals as goal

young : IsOver (entry_then 1735454401) 199 first_copy → ⊥
young (inl old) = omega (arith, old)
young (inr many) = omega (arith, many)

pub returns : goal.returns
returns c = record { old = inl (lit≤ tt); young = young; many = inr (lit≤ tt) }
