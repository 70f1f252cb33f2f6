-- What is said of the line that a reader of any lines gave last.
use Rattle.std.proofs.Common.{◌≡◌, ◌∙◌, ◌+◌, ◌++◌, ℕ, Bool, List, [], Option, None, Some, ap, refl, subst, sym}
use Rattle.std.proofs.Common.{append-nil, append_assoc, arith, drop, length, length-append, take}
use Rattle.std.proofs.Common.{take-append-drop}
use Rattle.std.specs.Io.KnownBytes.{Consumes}
use Rattle.nx_fec.specs.air_files.AirFile.{Line}
use Rattle.nx_fec.specs.air_files.Scanner.{elements_kept, kind_of, line_with}
use Rattle.nx_fec.specs.declared.air_files.lines.LineKind.{LineKind}
use Rattle.nx_receiver.proofs.lemmas.listening.Lines.{of-kind}
use Rattle.nx_watch.specs.private.LineRun.{TakerRelation}
use Rattle.nx_watch.specs.private.AnyReading.{SaysLine}
use Rattle.nx_watch.specs.private.Running.{EndsRun, IsRunning, TellsFirst, ToldBeside}
use Rattle.nx_watch.specs.private.Scanning.{IsScanning}
use Rattle.nx_watch.specs.declared.line_run.LineRun.{LineRun}
use Rattle.nx_watch.specs.declared.line_run.WatchEnd.TheVariants.{Read}
use Rattle.nx_watch.specs.declared.lines.line_effects.StartMoments.{StartMoments}
use Rattle.nx_watch.proofs.lemmas.lines.Scanning.{Parts-lines, parts}
use Rattle.nx_watch.specs.declared.lines.any_lines.AnyLine.TheVariants.{Known}

-- a line that says so is the one that is said
pub said-line : (latest : Option Line) (said : LineKind) (bits : List Bool) (line : Line)
    → SaysLine latest (Known said) → bits ≡ elements_kept latest → latest ≡ Some line
    → line ≡ line_with said bits
said-line None said bits line h are is = cc
said-line (Some found) said bits line h are is =
    let same : found ≡ line = cc in
    sym same ∙ of-kind found said said (sym h.1) refl ∙ ap (line_with said) (sym are)

pub said-kind : (latest : Option Line) (said : LineKind) (line : Line)
    → SaysLine latest (Known said) → latest ≡ Some line → kind_of line ≡ said
said-kind None said line h is = cc
said-kind (Some found) said line h is =
    let same : found ≡ line = cc in ap (λ (l : Line). kind_of l) (sym same) ∙ sym h.1

pub said-some : (latest : Option Line) (said : LineKind) → SaysLine latest (Known said)
    → (line : Line) × (latest ≡ Some line)
said-some None said h = absurd h
said-some (Some line) said h = (line, refl)

-- the bytes that were looked at, and those that are left of the piece
pub looked-on : (front piece rest : List ℕ) (count : ℕ) → rest ≡ drop count piece
    → front ++ piece ≡ (front ++ take count piece) ++ rest
looked-on front piece rest count is =
    ap (λ l. front ++ l) (sym (take-append-drop count piece))
    ∙ sym (append_assoc front (take count piece) (drop count piece))
    ∙ ap (λ l. (front ++ take count piece) ++ l) (sym is)

pub looked-length : (front piece rest : List ℕ) (count : ℕ) → rest ≡ drop count piece
    → length (front ++ take count piece) + length rest ≡ length front + length piece
looked-length front piece rest count is =
    omega (
      arith,
      ap length (looked-on front piece rest count is),
      length-append front piece,
      length-append (front ++ take count piece) rest,
    )

-- nothing is left
pub looked-all : (before after : Option (List ℕ)) (bytes rest : List ℕ) → rest ≡ []
    → Consumes before after (bytes ++ rest) → Consumes before after bytes
looked-all before after bytes rest none h =
    subst (Consumes before after) (ap (λ l. bytes ++ l) none ∙ append-nil bytes) h

-- a run stands so too where more was read
pub running-read : {T : Type 0} (stands : TakerRelation T) (start now : T) (first : StartMoments)
    (run new : LineRun) (old : ToldBeside) (told : Option (List ℕ)) (failures : ℕ) (bytes : List ℕ)
    → new.lines.scanner ≡ run.lines.scanner → new.effects ≡ run.effects
    → IsRunning stands start now first run old told failures bytes
    → IsRunning stands start now first new old told failures bytes
running-read stands start now first run new old told failures bytes scanner effects h = record {
  lines = h.lines;
  scans = subst (λ s. IsScanning s bytes h.lines) (sym scanner) h.scans;
  taken = h.taken;
  tells = λ more. subst (λ e. TellsFirst first e old told failures (bytes ++ more) h.lines)
      (sym effects) (h.tells more);
}

-- a read failed behind all of these lines
pub running-fails : {T : Type 0} (stands : TakerRelation T) (start now : T) (first : StartMoments)
    (run : LineRun) (old : ToldBeside) (new : Option (List ℕ)) (failures : ℕ) (bytes : List ℕ)
    → IsRunning stands start now first run old new failures bytes
    → EndsRun stands start now first run.effects old new failures Read bytes
running-fails stands start now first run old new failures bytes h = (
  h.lines,
  _,
  Parts-lines run.lines.scanner bytes h.lines _
      (parts run.lines.scanner bytes h.lines h.scans),
  h.taken,
  subst (λ b. TellsFirst first run.effects old new failures b h.lines) (append-nil bytes)
      (h.tells []),
)
