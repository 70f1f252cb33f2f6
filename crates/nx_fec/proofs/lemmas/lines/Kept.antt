-- The digits of a line of elements are its last bytes.
use Rattle.std.proofs.Common.{◌≡◌, ℕ, ◌+◌, ◌-◌, ◌≤◌, Bool, List, [], ◌∷◌, ◌++◌, Option, Some, None}
use Rattle.std.proofs.Common.{length, map, drop, sym, ap, ◌∙◌, subst, arith, append-nil}
use Rattle.std.proofs.Common.{length-append, refl}
use Rattle.std.proofs.lemmas.List.{length-map}
use Rattle.std.proofs.Math.Seq.{drop-append_seam}
use Rattle.nx_fec.specs.air_files.AirFile.{element_digit, mark_bytes}
use Rattle.nx_fec.specs.private.Packing.{is_one}
use Rattle.nx_fec.specs.private.ScannerKept.{IsKept, SpellsLine, line_ended, part_of}
use Rattle.nx_fec.specs.declared.air_files.lines.LineKind.{LineKind}
use Rattle.nx_fec.specs.declared.air_files.lines.LineKind.TheVariants.{Moment, Elements, RefuseStation}
use Rattle.nx_fec.specs.declared.air_files.lines.LineKind.TheVariants.{AcceptStation, RefuseSubject}
use Rattle.nx_fec.specs.declared.air_files.lines.LineKind.TheVariants.{AcceptSubject}
use Rattle.nx_fec.proofs.lemmas.packed.Packed.{ones-spelled}

-- these are the elements of the last bytes
pub record IsTail (bits : List Bool) (bytes : List ℕ) : Type 0 where
  pub within : length bits ≤ length bytes
  pub ones : map is_one (drop (length bytes - length bits) bytes) ≡ bits

tail-spelled : (front bytes : List ℕ) (bits : List Bool) → bytes ≡ front ++ map element_digit bits
    → IsTail bits bytes
tail-spelled front bytes bits h =
    let digits = map element_digit bits in
    let count : length digits ≡ length bits = length-map bits element_digit in
    let size : length bytes ≡ length front + length digits =
    ap length h ∙ length-append front digits in
    let at : length bytes - length bits ≡ length front = omega (arith, size, count) in
    record {
      within = omega (arith, size, count);
      ones = ap (λ n. map is_one (drop n bytes)) at
          ∙ ap (λ l. map is_one (drop (length front) l)) h
          ∙ ap (map is_one) (drop-append_seam front digits)
          ∙ ones-spelled bits;
    }

tail-none : (bytes : List ℕ) (bits : List Bool) → [] ≡ bits → IsTail bits bytes
tail-none bytes bits h =
    subst (λ l. IsTail l bytes) h (tail-spelled bytes bytes [] (sym (append-nil bytes)))

pub tail-line : (kind : LineKind) (bits : List Bool) (bytes : List ℕ) → SpellsLine kind bits bytes
    → IsTail bits bytes
tail-line (Moment n) bits bytes h = tail-none bytes bits h.own
tail-line (Elements None) bits bytes h = tail-spelled (66 ∷ 32 ∷ []) bytes bits h.spelled
tail-line (Elements (Some channel)) bits bytes h =
    tail-spelled (66 ∷ (mark_bytes (Some channel) ++ 32 ∷ [])) bytes bits h.spelled
tail-line (RefuseStation mark letter) bits bytes h = tail-none bytes bits h.own
tail-line (AcceptStation mark letter) bits bytes h = tail-none bytes bits h.own
tail-line (RefuseSubject mark letter) bits bytes h = tail-none bytes bits h.own
tail-line (AcceptSubject mark letter) bits bytes h = tail-none bytes bits h.own

pub tail-kept : (ended : Option LineKind) (bits : List Bool) (kept : List ℕ)
    → IsKept ended bits kept → IsTail bits kept
tail-kept None bits kept h = tail-none kept bits (sym h)
tail-kept (Some kind) bits kept h = tail-line kind bits kept h

-- where no line was ended, none is whatever the elements, and the open line has all that is kept
pub still-open : (ended : Option LineKind) (bits more : List Bool) → line_ended ended bits ≡ None
    → line_ended ended more ≡ None
still-open None bits more e = refl
still-open (Some kind) bits more e = cc

pub kept-open : (ended : Option LineKind) (bits : List Bool) (kept : List ℕ)
    → line_ended ended bits ≡ None → part_of ended kept ≡ kept
kept-open None bits kept e = refl
kept-open (Some kind) bits kept e = cc
