-- Lines that are given one after the other are the bytes of a text.
use Rattle.std.proofs.Common.{◌≡◌, ℕ, ◌+◌, zero, suc, Some, None, List, [], ◌∷◌, ◌++◌, take, drop}
use Rattle.std.proofs.Common.{slice_get, Option, OnOk, IfErr, Result, Ok, Err, MatchResult, refl}
use Rattle.std.proofs.Common.{sym, ap, ◌∙◌, subst, take-append-drop, arith}
use Rattle.std.specs.Io.KnownBytes.{Appends}
use Rattle.nx_code.specs.Reading.{newline}
use Rattle.nx_fec.specs.air_files.LineRuns.{HasGiven, Waiting}
use Rattle.nx_fec.specs.Transfers.{WroteSome}
use Rattle.nx_fec.specs.declared.fault.WriteFault.{WriteFault}
use Rattle.nx_fec.proofs.lemmas.line_runs.LineRun.{HasGiven-empty}
use Rattle.nx_fec.proofs.lemmas.devices.WritingLaws.{WroteSome-front}
use Rattle.nx_memory.specs.Saved.{SavedStates}
use Rattle.nx_memory.specs.StateText.{text_2}
use Rattle.nx_receiver.specs.air_file_runs.State.{ended_lines, state_bytes}
use Rattle.nx_receiver.proofs.lemmas.state.Splits.{ended-append, ended-one}

-- the lines up to and with the next
pub take-next : (lines : List (List ℕ)) (place : ℕ) (line : List ℕ)
    → slice_get lines place ≡ Some line
    → take (suc place) lines ≡ take place lines ++ line ∷ []
take-next [] place line e = cc
take-next (first ∷ lines) zero line e = let same : first ≡ line = cc in
    ap (λ (l : List ℕ). l ∷ []) same
take-next (first ∷ lines) (suc place) line e =
    ap (λ (l : List (List ℕ)). first ∷ l) (take-next lines place line e)

ended-next : (lines : List (List ℕ)) (place : ℕ) (line : List ℕ) → slice_get lines place ≡ Some line
    → ended_lines (take (place + 1) lines)
    ≡ ended_lines (take place lines) ++ (line ++ newline ∷ [])
ended-next lines place line at =
    let next : place + 1 ≡ suc place = omega arith in
    ap (λ n. ended_lines (take n lines)) next ∙ ap ended_lines (take-next lines place line at)
    ∙ ended-one (take place lines) line

-- one line more is given
pub given-next : (old new : Option (List ℕ)) (batch : Waiting) (lines : List (List ℕ)) (place : ℕ)
    (line : List ℕ) → slice_get lines place ≡ Some line
    → HasGiven old new batch (ended_lines (take place lines) ++ (line ++ newline ∷ []))
    → HasGiven old new batch (ended_lines (take (place + 1) lines))
given-next old new batch lines place line at h =
    subst (HasGiven old new batch) (sym (ended-next lines place line at)) h

-- a write failed before all lines were written
pub wrote-front : (old new : Option (List ℕ)) (lines : List (List ℕ)) (place : ℕ)
    (line : List ℕ) (written : ℕ) → slice_get lines place ≡ Some line
    → WroteSome old new (ended_lines (take place lines) ++ (line ++ newline ∷ [])) written
    → WroteSome old new (ended_lines lines) written
wrote-front old new lines place line written at h =
    let front = sym (ended-next lines place line at) in
    subst (λ l. WroteSome old new l written)
    (sym (ended-append (take (place + 1) lines) (drop (place + 1) lines))
    ∙ ap ended_lines (take-append-drop (place + 1) lines))
    (WroteSome-front old new (ended_lines (take (place + 1) lines))
    (ended_lines (drop (place + 1) lines)) written
    (subst (λ l. WroteSome old new l written) front h))

-- behind the last line all lines were given
pub take-all : (lines : List (List ℕ)) (place : ℕ) → slice_get lines place ≡ None
    → take place lines ≡ lines
take-all [] zero e = refl
take-all [] (suc place) e = refl
take-all (first ∷ lines) zero e = cc
take-all (first ∷ lines) (suc place) e =
    ap (λ (l : List (List ℕ)). first ∷ l) (take-all lines place e)

-- what was given is written once nothing waits
pub sent-all : (result : Result (Unit {0}) WriteFault) (old new : Option (List ℕ))
    (batch : Waiting) (given bytes : List ℕ) → given ≡ bytes
    → MatchResult result (λ x. HasGiven old new batch given)
    (λ fault. WroteSome old new given fault.written)
    → OnOk result (batch.bytes ≡ []) → OnOk result (Appends old new bytes)
sent-all (Ok x) old new batch given bytes e h empty =
    subst (Appends old new) e (HasGiven-empty old new batch given empty h)
sent-all (Err fault) old new batch given bytes e h empty = tt

pub sent-some : (result : Result (Unit {0}) WriteFault) (old new : Option (List ℕ))
    (batch : Waiting) (given bytes : List ℕ) → given ≡ bytes
    → MatchResult result (λ x. HasGiven old new batch given)
    (λ fault. WroteSome old new given fault.written)
    → IfErr result (λ fault. WroteSome old new bytes fault.written)
sent-some (Ok x) old new batch given bytes e h = tt
sent-some (Err fault) old new batch given bytes e h =
    subst (λ l. WroteSome old new l fault.written) e h

pub state_bytes-is : (states : SavedStates) → state_bytes states ≡ ended_lines (text_2 states)
unfolding state_bytes
state_bytes-is states = refl
