-- Lines that are taken, told line by line (this profile).
use Rattle.std.specs.Prelude.{◌≡◌, ◌≤◌, false, List, [], ◌∷◌, ◌++◌, IsTrue, ⊤}
use Rattle.nx_envelope.specs.Moment.{last_moment}
use Rattle.nx_fec.specs.air_files.AirFile.{Line, moment, elements, refuse_subject}
use Rattle.nx_memory.specs.Selection.{is_vital}
use Rattle.nx_receiver.specs.air_file_runs.Listen.{has_moment, moment_after}
use Rattle.nx_copies.specs.copies.Shares.{Starts}

-- A line is taken after these lines: a moment in range, and not before the one in force; elements
-- once there was a moment; and no refusal of a vital subject.
abbrev pub IsTakenAfter : Starts → List Line → Line → Type 0
IsTakenAfter starts lines (moment n) =
    (moment_after starts.moment lines ≤ n) × (n ≤ last_moment)
IsTakenAfter starts lines (elements mark bits) = IsTrue (has_moment lines)
IsTakenAfter starts lines (refuse_subject mark letter) = is_vital letter ≡ false
IsTakenAfter starts lines _ = ⊤

-- each of these lines is taken after the first ones and those before it
unfoldable pub AreTakenAfter : Starts → List Line → List Line → Type 0
AreTakenAfter starts first [] = ⊤
AreTakenAfter starts first (line ∷ lines) =
    IsTakenAfter starts first line × AreTakenAfter starts (first ++ line ∷ []) lines
