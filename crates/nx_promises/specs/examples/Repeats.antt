-- An example of repeats: EA01 with the text TEST is heard, then EB02 without a text, then EB02
-- again, cut short, and EA01 again, four hours after the first.
use Rattle.std.specs.Prelude.{ℕ, true, List, [], ◌∷◌, codes}
use Rattle.std.proofs.Common.{lit≤}
use Rattle.nx_envelope.specs.declared.found.How.{How}
use Rattle.nx_envelope.specs.declared.found.How.TheVariants.{Full, Cut}
use Rattle.nx_envelope.specs.declared.identity.Identity.{Identity}
use Rattle.nx_station.specs.reception.PathExample.{ea01}
use Rattle.nx_copies.specs.copies.FoundCopies.{TaggedCopy}

-- station E, subject B, number 02
abbrev pub eb02 : Identity
eb02 = record {
  b1 = ea01.b1;
  b2 = record { byte = 66; in_range = (lit≤ tt, lit≤ tt) };
  number = 2;
  two_digits = lit≤ tt;
}

-- a copy that is selected
abbrev pub heard_at : ℕ → Identity → How → List ℕ → TaggedCopy
heard_at moment identity how text =
    record { identity = identity; how = how; text = text; moment = moment; selected = true }

-- EA01 at 2025-01-01 00:40:00, and the same four hours later
abbrev pub first_copy : TaggedCopy
first_copy = heard_at 1735692000 ea01 Full (codes "TEST\n")

abbrev pub repeated_copy : TaggedCopy
repeated_copy = heard_at 1735706400 ea01 Full (codes "TEST\n")

-- all that was heard
abbrev pub example_copies : List TaggedCopy
example_copies =
    first_copy ∷ heard_at 1735692000 eb02 Full [] ∷ heard_at 1735706400 eb02 Cut (codes "TE")
    ∷ repeated_copy ∷ []
