-- The stage of a header one byte later.
use Rattle.std.proofs.Common.{◌≡◌, ◌≢◌, ℕ, ◌==◌, ◌&&◌, ◌||◌, if◌then◌else◌, Bool, true, false}
use Rattle.std.proofs.Common.{Option, Some, None, List, [], ◌∷◌, refl, sym, ◌∙◌, arith}
use Rattle.std.proofs.lemmas.Bool.Decides.{nat_tests}
use Rattle.std.proofs.Math.Bool.{and-false}
use Rattle.nx_envelope.specs.Header.{start_marker}
use Rattle.nx_envelope.specs.private.Letters.{letter_of, digit_of, both, identity_with}
use Rattle.nx_envelope.specs.private.Backward.{ends_in, spaces_back, station_back, subject_back}
use Rattle.nx_envelope.specs.private.Backward.{tens_back, header_back}
use Rattle.nx_envelope.specs.private.DigitBytes.{IsDigit}
use Rattle.nx_envelope.specs.private.HeaderStage.{IsStageOf, is_spaces, station_in, subject_in, tens_in}
use Rattle.nx_envelope.specs.declared.digit.Digit.{Digit}
use Rattle.nx_envelope.specs.declared.identity.Identity.{Identity}
use Rattle.nx_envelope.specs.declared.letter.Letter.{Letter}
use Rattle.nx_envelope.specs.declared.header_stage.HeaderStage.{HeaderStage}
use Rattle.nx_envelope.specs.declared.header_stage.HeaderStage.TheVariants.{Nowhere, Spaces, Station, Subject}
use Rattle.nx_envelope.specs.declared.header_stage.HeaderStage.TheVariants.{Tens}
use Rattle.nx_envelope.proofs.lemmas.headers.LettersAndDigits.{stage_parts, both-none, letter_of-none}
use Rattle.nx_envelope.proofs.lemmas.headers.LettersAndDigits.{letter_of-space, digit_of-space, both_first}
use Rattle.nx_envelope.proofs.lemmas.headers.LettersAndDigits.{both_second, identity_some, digit_of-some}
use Rattle.nx_envelope.proofs.lemmas.copies.RawTexts.{IsPlain}

-- a stage stands at the back and a flag tells whether it ends with ZCZC
pub record Stands (stage : HeaderStage) (start : Bool) (back : List ℕ) : Type 0 where
  pub is : IsStageOf stage back
  pub flag : start ≡ ends_in start_marker back

abbrev pub next_spaces : HeaderStage → Bool → ℕ → Bool
next_spaces stage start b = (b == 32) && (start || is_spaces stage)

abbrev pub next_station : HeaderStage → ℕ → Option Letter
next_station stage b = if is_spaces stage then letter_of b else None

stage_is : (stage result : HeaderStage) (start : Bool) (b : ℕ) (back : List ℕ)
    → Stands stage start back
    → next_spaces stage start b ≡ is_spaces result → next_station stage b ≡ station_in result
    → both (station_in stage) (letter_of b) ≡ subject_in result
    → both (subject_in stage) (digit_of b) ≡ tens_in result → IsStageOf result (b ∷ back)
stage_is stage result start b back h spaces station subject tens =
    let p = stage_parts stage start b back h.is h.flag in
    record {
      spaces = rw p.spaces spaces;
      station = rw p.station station;
      subject =
          rw p.subject subject;
      tens = rw p.tens tens;
    }

other : (b : ℕ) (rest : Bool) → b ≢ 32 → ((b == 32) && rest) ≡ false
other b rest apart = let e : (b == 32) ≡ false = grind (arith, nat_tests) in rw e

pub to_station : (l : Letter) (start : Bool) (b : ℕ) (back : List ℕ) → b ≢ 32 → Some l ≡ letter_of b
    → Stands Spaces start back → IsStageOf (Station l) (b ∷ back)
to_station l start b back apart e h =
    stage_is Spaces (Station l) start b back h (other b _ apart) (sym e) refl refl

pub from_spaces : (start : Bool) (b : ℕ) (back : List ℕ) → b ≢ 32 → None ≡ letter_of b
    → Stands Spaces start back → IsStageOf Nowhere (b ∷ back)
from_spaces start b back apart e h =
    stage_is Spaces Nowhere start b back h (other b _ apart) (sym e) refl refl

pub to_subject : (l m : Letter) (start : Bool) (b : ℕ) (back : List ℕ) → b ≢ 32
    → Some m ≡ letter_of b → Stands (Station l) start back → IsStageOf (Subject l m) (b ∷ back)
to_subject l m start b back apart e h =
    stage_is (Station l) (Subject l m) start b back h (other b _ apart) refl (rw (← e) refl) refl

pub from_station : (l : Letter) (start : Bool) (b : ℕ) (back : List ℕ) → b ≢ 32 → None ≡ letter_of b
    → Stands (Station l) start back → IsStageOf Nowhere (b ∷ back)
from_station l start b back apart e h =
    stage_is (Station l) Nowhere start b back h (other b _ apart) refl (rw (← e) refl) refl

pub to_tens : (l m : Letter) (d : Digit) (start : Bool) (b : ℕ) (back : List ℕ) → b ≢ 32
    → Some d ≡ digit_of b → Stands (Subject l m) start back → IsStageOf (Tens l m d) (b ∷ back)
to_tens l m d start b back apart e h =
    stage_is (Subject l m) (Tens l m d) start b back h (other b _ apart) refl refl (rw (← e) refl)

pub from_subject : (l m : Letter) (start : Bool) (b : ℕ) (back : List ℕ) → b ≢ 32
    → None ≡ digit_of b → Stands (Subject l m) start back → IsStageOf Nowhere (b ∷ back)
from_subject l m start b back apart e h =
    stage_is (Subject l m) Nowhere start b back h (other b _ apart) refl refl (rw (← e) refl)

pub from_tens : (l m : Letter) (d : Digit) (start : Bool) (b : ℕ) (back : List ℕ) → b ≢ 32
    → Stands (Tens l m d) start back → IsStageOf Nowhere (b ∷ back)
from_tens l m d start b back apart h =
    stage_is (Tens l m d) Nowhere start b back h (other b _ apart) refl refl refl

pub from_nowhere : (start : Bool) (b : ℕ) (back : List ℕ) → b ≢ 32 → Stands Nowhere start back
    → IsStageOf Nowhere (b ∷ back)
from_nowhere start b back apart h =
    stage_is Nowhere Nowhere start b back h (other b _ apart) refl refl refl

no_letter : (stage : HeaderStage) → next_station stage 32 ≡ None
no_letter Nowhere = refl
no_letter Spaces = letter_of-space
no_letter (Station l) = refl
no_letter (Subject l m) = refl
no_letter (Tens l m d) = refl

pub with_space : (stage result : HeaderStage) (start : Bool) (back : List ℕ)
    → (start || is_spaces stage) ≡ is_spaces result → station_in result ≡ None
    → subject_in result ≡ None → tens_in result ≡ None → Stands stage start back
    → IsStageOf result (32 ∷ back)
with_space stage result start back e station subject tens h =
    stage_is stage result start 32 back h e (no_letter stage ∙ sym station)
    (rw letter_of-space (both-none (station_in stage) ∙ sym subject))
    (rw digit_of-space (both-none (subject_in stage) ∙ sym tens))

-- the header that a byte completes
pub header_is : (stage : HeaderStage) (b : ℕ) (back : List ℕ) → IsStageOf stage back
    → header_back (b ∷ back) ≡ identity_with (both (tens_in stage) (digit_of b))
header_is stage b back h = (stage_parts stage (ends_in start_marker back) b back h refl).header

pub not_spaces : (stage : HeaderStage) → stage ≢ Spaces → is_spaces stage ≡ false
not_spaces Nowhere apart = refl
not_spaces Spaces apart = absurd (apart refl)
not_spaces (Station l) apart = refl
not_spaces (Subject l m) apart = refl
not_spaces (Tens l m d) apart = refl

-- only behind the first digit can a byte complete a header
pub not_tens : (stage : HeaderStage) → ((l m : Letter) (d : Digit) → stage ≢ Tens l m d)
    → tens_in stage ≡ None
not_tens Nowhere apart = refl
not_tens Spaces apart = refl
not_tens (Station l) apart = refl
not_tens (Subject l m) apart = refl
not_tens (Tens l m d) apart = absurd (apart l m d refl)

-- where no header has begun, none goes on
pub quiet_more : (b : ℕ) (back : List ℕ) → Stands Nowhere false back → IsStageOf Nowhere (b ∷ back)
quiet_more b back h = stage_is Nowhere Nowhere false b back h (and-false (b == 32)) refl refl refl

pub no_header : (b : ℕ) (back : List ℕ) → IsStageOf Nowhere back → header_back (b ∷ back) ≡ None
no_header b back h = header_is Nowhere b back h

pub digit_is_plain : (b : ℕ) → IsDigit b → IsPlain b
digit_is_plain b h = record
    { no_n = λ e. omega arith; no_z = λ e. omega arith; no_c = λ e. omega arith }

digit_no_letter : (b : ℕ) → IsDigit b → letter_of b ≡ None
digit_no_letter b h = letter_of-none b (λ l. absurd (omega arith))

if-same : {A : Type 0} (c : Bool) (x : A) → (if c then x else x) ≡ x
if-same true x = refl
if-same false x = refl

-- behind a digit there is no subject
no_subject : (back : List ℕ) (found : (Letter × Letter) × Digit) → tens_back back ≡ Some found
    → subject_back back ≡ None
unfolding tens_back subject_back
no_subject [] found e = refl
no_subject (t ∷ back) found e =
    let digit = digit_of-some t found.1 (both_second (subject_back back) (digit_of t) found e) in
    rw (digit_no_letter t digit) (both-none (station_back back))

-- behind a second digit no header has begun, and the digit is no letter of a marker
pub record AfterHeader (b : ℕ) (back : List ℕ) : Type 0 where
  pub plain : IsPlain b
  pub stage : IsStageOf Nowhere (b ∷ back)

pub after_header : (b : ℕ) (back : List ℕ) (i : Identity) → header_back (b ∷ back) ≡ Some i
    → AfterHeader b back
unfolding header_back spaces_back station_back subject_back tens_back
after_header b back i e =
    let w = identity_some (both (tens_back back) (digit_of b)) i e in
    let digit = digit_of-some b w.found.1
    (both_second (tens_back back) (digit_of b) w.found w.is) in
    let tens = both_first (tens_back back) (digit_of b) w.found w.is in
    let letter = digit_no_letter b digit in
    let none = no_subject back w.found.0 tens in
    let apart : b ≢ 32 = λ h. omega arith in
    record {
      plain = digit_is_plain b digit;
      stage = record {
        spaces = other b _ apart;
        station = rw letter (if-same (spaces_back back) None);
        subject = rw letter (both-none (station_back back));
        tens = rw none refl;
      };
    }
