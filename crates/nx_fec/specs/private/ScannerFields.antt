-- What contracts see of a scanner gives back all that it keeps.
use Rattle.std.specs.Prelude.{◌≡◌, ℕ, Bool, List, Option, None, Some, refl}
use Rattle.std.proofs.Common.{sym}
use Rattle.nx_fec.specs.air_files.Scanner.{elements_kept, kind_kept, line_with}
use Rattle.nx_fec.specs.private.ScannerKept.{IsKept, bytes_kept, line_ended, part_of}
use Rattle.nx_fec.specs.declared.air_files.lines.LineKind.{LineKind}
use Rattle.nx_fec.specs.declared.air_files.lines.LineKind.TheVariants.{Moment, Elements, RefuseStation, AcceptStation, RefuseSubject, AcceptSubject}

pub record Back (ended : Option LineKind) (bits : List Bool) (kept : List ℕ) : Type 0 where
  pub bytes : bytes_kept (line_ended ended bits) (part_of ended kept) ≡ kept
  pub kind : kind_kept (line_ended ended bits) ≡ ended
  pub elements : elements_kept (line_ended ended bits) ≡ bits

kind_of-line_with : (kind : LineKind) (bits : List Bool)
    → kind_kept (Some (line_with kind bits)) ≡ Some kind
kind_of-line_with (Moment n) bits = refl
kind_of-line_with (Elements mark) bits = refl
kind_of-line_with (RefuseStation mark letter) bits = refl
kind_of-line_with (AcceptStation mark letter) bits = refl
kind_of-line_with (RefuseSubject mark letter) bits = refl
kind_of-line_with (AcceptSubject mark letter) bits = refl

pub kept-back : (ended : Option LineKind) (bits : List Bool) (kept : List ℕ)
    → IsKept ended bits kept → Back ended bits kept
kept-back None bits kept h = record { bytes = refl; kind = refl; elements = sym h }
kept-back (Some kind) bits kept h =
    record { bytes = sym h.spelled; kind = kind_of-line_with kind bits; elements = h.own }
