-- The copies that are found have texts of logged entries.
use Rattle.std.proofs.Common.{◌≡◌, ◌+◌, ◌-◌, ◌/◌, ◌≤◌, ℕ, Bool, true, false, List, [], ◌∷◌, Option, Some, None, length, take, drop, map, inl, inr, refl, ap, arith}
use Rattle.std.specs.Prelude.{◌==◌, if◌then◌else◌, unwrap_or}
use Rattle.std.specs.List.{All, cons_option, filter_map}
use Rattle.std.specs.Option.{option_map}
use Rattle.std.proofs.lemmas.List.{length-take}
use Rattle.std.proofs.lemmas.List.Elements.{All-nil, All-cons, All-head, All-tail, All-append, All-drop, All-take, All-same}
use Rattle.nx_envelope.specs.Copies.{Copy, Ending, closed_copy, copies, copy_with, ended_copies, ended_copy, ending_of, headers, less_newline, most_found, raw_text}
use Rattle.nx_envelope.specs.Header.{Header}
use Rattle.nx_code.specs.Reading.{newline}
use Rattle.nx_envelope.proofs.lemmas.copies.Endings.{ended_both, open_both}
use Rattle.nx_sync.specs.Locks.{Lock, Now, hunting, locked}
use Rattle.nx_copies.specs.copies.FoundCopies.{FoundCopy, all_in, ended_in, ended_so_far, found_copy, found_to_end, past_copies, past_text, standing_text}
use Rattle.nx_copies.specs.copies.LockText.{PlacedByte, bytes_of}
use Rattle.nx_log.proofs.lemmas.printed.Texts.{IsTextByte, lock_text_is}

-- a text of a logged entry
pub record IsFoundText (text : List ℕ) : Type 0 where
  pub short : length text ≤ most_found
  pub letters : All IsTextByte text

pub less_is : (text : List ℕ) → All IsTextByte text → All IsTextByte (less_newline text)
less_is [] h = h
less_is (b ∷ text) h =
    elim (b == newline) as (λ t. All IsTextByte (if t then text else b ∷ text))
    [ true ↦ All-tail IsTextByte b text h | false ↦ h ]

raw_is : (text : List ℕ) (header : Header) → All IsTextByte text
    → All IsTextByte (raw_text text header)
unfolding raw_text
raw_is text header h =
    less_is (drop header.behind text) (All-drop IsTextByte header.behind text h)

taken_is : (text raw : List ℕ) (n : ℕ) → text ≡ take n raw → n ≤ most_found → All IsTextByte raw
    → IsFoundText text
taken_is text raw n e few h = record {
  short = omega (arith, ap length e, length-take n raw);
  letters = All-same IsTextByte text (take n raw) e (All-take IsTextByte n raw h);
}

pub ended_is : (raw : List ℕ) (ending : Ending) → All IsTextByte raw → ending_of raw ≡ Some ending
    → IsFoundText ending.text
ended_is raw ending h e =
    elim ((ended_both raw ending).0 e) [
      | inl marker ↦
          let reach = marker.in_reach in
          taken_is ending.text raw (marker.place - 4) marker.text (omega arith) h
      | inr long ↦ taken_is ending.text raw most_found long.text (omega arith) h
    ]

pub open_is : (raw : List ℕ) → All IsTextByte raw → ending_of raw ≡ None → IsFoundText raw
open_is raw h e =
    let short = ((open_both raw).0 e).short in record { short = omega arith; letters = h }

abbrev IsGood : Copy → Type 0
IsGood copy = IsFoundText copy.text

one_is : (text : List ℕ) (header : Header) → All IsTextByte text
    → IsGood (unwrap_or (ended_copy text header) (closed_copy text header))
unfolding ended_copy closed_copy
one_is text header h =
    elim (ending_of (raw_text text header)) as (λ o. ending_of (raw_text text header) ≡ o
    → IsGood (unwrap_or (option_map (copy_with header) o) (closed_copy text header))) [
      | Some ending ↦ λ e. ended_is (raw_text text header) ending (raw_is text header h) e
      | None ↦ λ e. open_is (raw_text text header) (raw_is text header h) e
    ] refl

all_are : (text : List ℕ) (those : List Header) → All IsTextByte text
    → All IsGood (map (λ header. unwrap_or (ended_copy text header) (closed_copy text header))
    those)
all_are text [] h = All-nil IsGood
all_are text (header ∷ those) h =
    All-cons IsGood _ _ (one_is text header h) (all_are text those h)

abbrev some_good : Option Copy → Type 0
some_good None = Unit {0}
some_good (Some copy) = IsGood copy

ended_one : (text : List ℕ) (header : Header) → All IsTextByte text
    → some_good (ended_copy text header)
unfolding ended_copy
ended_one text header h =
    elim (ending_of (raw_text text header)) as (λ o. ending_of (raw_text text header) ≡ o
    → some_good (option_map (copy_with header) o)) [
      | Some ending ↦ λ e. ended_is (raw_text text header) ending (raw_is text header h) e
      | None ↦ λ e. tt
    ] refl

pushed : (o : Option Copy) (rest : List Copy) → some_good o → All IsGood rest
    → All IsGood (cons_option o rest)
pushed None rest h k = k
pushed (Some copy) rest h k = All-cons IsGood copy rest h k

ended_are : (text : List ℕ) (those : List Header) → All IsTextByte text
    → All IsGood (filter_map (ended_copy text) those)
ended_are text [] h = All-nil IsGood
ended_are text (header ∷ those) h =
    pushed (ended_copy text header) (filter_map (ended_copy text) those) (ended_one text header h)
    (ended_are text those h)

-- ---- of what is found

abbrev pub IsGoodFound : FoundCopy → Type 0
IsGoodFound copy = IsFoundText copy.text

found_are : (text : List PlacedByte) (those : List Copy) → All IsGood those
    → All IsGoodFound (map (found_copy text) those)
unfolding found_copy
found_are text [] h = All-nil IsGoodFound
found_are text (copy ∷ those) h =
    All-cons IsGoodFound (found_copy text copy) (map (found_copy text) those)
    (All-head IsGood copy those h) (found_are text those (All-tail IsGood copy those h))

all_in_are : (text : List PlacedByte) → All IsTextByte (bytes_of text)
    → All IsGoodFound (all_in text)
unfolding copies
all_in_are text h = found_are text (copies (bytes_of text))
    (all_are (bytes_of text) (headers (bytes_of text)) h)

ended_in_are : (text : List PlacedByte) → All IsTextByte (bytes_of text)
    → All IsGoodFound (ended_in text)
unfolding ended_copies
ended_in_are text h =
    found_are text (ended_copies (bytes_of text))
    (ended_are (bytes_of text) (headers (bytes_of text)) h)

past_are : (bits : List Bool) (locks : List Lock) → All IsGoodFound (past_copies bits locks)
unfolding past_copies
past_are bits [] = All-nil IsGoodFound
past_are bits (lock ∷ older) =
    All-append IsGoodFound (past_copies bits older) (all_in (past_text bits lock))
    (past_are bits older)
    (all_in_are (past_text bits lock) (lock_text_is bits lock.at (lock.last + 1)))

standing_is : (bits : List Bool) (now : Now) → All IsTextByte (bytes_of (standing_text bits now))
unfolding bytes_of
standing_is bits (hunting p) = All-nil IsTextByte
standing_is bits (locked p t) = lock_text_is bits t ((length bits - t) / 7)

pub ended_so_far_are : (bits : List Bool) (locks : List Lock) (now : Now)
    → All IsGoodFound (ended_so_far bits locks now)
unfolding ended_so_far
ended_so_far_are bits locks now =
    All-append IsGoodFound (past_copies bits locks) (ended_in (standing_text bits now))
    (past_are bits locks) (ended_in_are (standing_text bits now) (standing_is bits now))

pub found_to_end_are : (bits : List Bool) (locks : List Lock) (now : Now)
    → All IsGoodFound (found_to_end bits locks now)
unfolding found_to_end
found_to_end_are bits locks now =
    All-append IsGoodFound (past_copies bits locks) (all_in (standing_text bits now))
    (past_are bits locks) (all_in_are (standing_text bits now) (standing_is bits now))
