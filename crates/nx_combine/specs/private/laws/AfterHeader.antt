-- The one copy of a text that is a header and what stands behind it.
use Rattle.std.proofs.Common.{◌≡◌, ℕ, zero, suc, ◌+◌, ◌<◌, ◌≤◌, Option}
use Rattle.std.proofs.Common.{Some, None, List, [], ◌∷◌, ◌++◌, length, take, replicate, refl}
use Rattle.std.proofs.Common.{sym, ap, ap₂, ◌∙◌, ◌/◌, ◌%◌, arith, append_assoc, length-append, lit<}
use Rattle.std.proofs.Math.Seq.{drop-append_seam}
use Rattle.std.proofs.lemmas.List.{length-take}
use Rattle.std.specs.Option.{option_map, option_to_list}
use Rattle.std.specs.List.{filter}
use Rattle.nx_code.specs.Reading.{space}
use Rattle.nx_envelope.specs.AtTheEnd.{identity_at_end}
use Rattle.nx_envelope.specs.Copies.{Copy, Ending, copy_with, ended_copies, ended_copy, ending_of}
use Rattle.nx_envelope.specs.Copies.{header_at_end, headers, is_open, less_newline}
use Rattle.nx_envelope.specs.Copies.{open_headers, raw_text}
use Rattle.nx_envelope.specs.Finder.{Ends, Keeps}
use Rattle.nx_envelope.specs.Header.{EndsWithHeader, Header, start_marker}
use Rattle.nx_envelope.specs.Identity.{identity_bytes}
use Rattle.nx_envelope.specs.declared.identity.Identity.{Identity}
use Rattle.nx_envelope.proofs.lemmas.copies.Beginnings.{headers-push}
use Rattle.nx_envelope.proofs.lemmas.copies.OneMoreByte.{ended_with, open_with}
use Rattle.nx_envelope.proofs.lemmas.copies.RawTexts.{ending_of-nil}
use Rattle.nx_envelope.proofs.lemmas.headers.Anywhere.{anywhere_both}
use Rattle.nx_envelope.proofs.lemmas.headers.ReadAtTheEnd.{identity_spelled_at_end}
use Rattle.nx_station.specs.Broadcast.{header}

pub length-header : (identity : Identity) → length (header identity) ≡ 9
length-header identity = refl

-- a text that ends with a header has at least as many bytes
pub long_enough : (text : List ℕ) (identity : Identity) → EndsWithHeader text identity
    → 9 ≤ length text
long_enough text identity h =
    let spaces : List ℕ = replicate (h.more_spaces + 1) space in
    let whole = ap length h.spelled in
    let first = length-append (h.front ++ start_marker ++ spaces) (identity_bytes identity) in
    let second = length-append (h.front ++ start_marker) spaces in
    let third = length-append h.front start_marker in
    let some : length spaces ≡ h.more_spaces + 1 = length-replicate (h.more_spaces + 1) space in
    omega arith where
      length-replicate : (n x : ℕ) → length (replicate n x) ≡ n
      length-replicate zero x = refl
      length-replicate (suc n) x = ap suc (length-replicate n x)

-- the header itself, in the text that it begins
abbrev pub first_header : Identity → Header
first_header identity = record { identity = identity; behind = 9 }

-- a shorter text has none
none_in_short : (text : List ℕ) (hs : List Header) → headers text ≡ hs → length text < 9 → hs ≡ []
none_in_short text [] is short = refl
none_in_short text (h ∷ hs) is short =
    let there = (anywhere_both text h).0 (0, rw is (omega arith), rw is refl) in
    let long = long_enough (take h.behind text) h.identity there.spelled in
    let cut = length-take h.behind text in
    absurd (omega arith)

-- the header but for its second digit, and that digit
all_but_last : Identity → List ℕ
all_but_last i =
    start_marker ++ (space ∷ i.b1.byte ∷ i.b2.byte ∷ (48 + i.number / 10) ∷ [])

-- the text of a header has that one alone
pub headers-header : (i : Identity) → headers (header i) ≡ first_header i ∷ []
unfolding header_at_end all_but_last
headers-header i =
    let text : List ℕ = all_but_last i in
    let short : headers text ≡ [] = none_in_short text (headers text) refl (lit< tt) in
    let ends : EndsWithHeader (header i) i = record { front = []; more_spaces = 0; spelled = refl } in
    let reads : identity_at_end (header i) ≡ Some i = (identity_spelled_at_end (header i) i).1 ends in
    headers-push text (48 + i.number % 10)
    ∙ ap₂ (λ hs o. hs ++ option_to_list o) short
    (ap (option_map (λ identity. record { identity = identity; behind = length (header i) })) reads)

-- so far the text is the header and more, has that header alone, and its copy is open
pub record IsOpenBehind (identity : Identity) (more : List ℕ) : Type 0 where
  pub headers : headers (header identity ++ more) ≡ first_header identity ∷ []
  pub one_open : open_headers (header identity ++ more) ≡ first_header identity ∷ []

-- what stands behind it, and how that has ended
pub raw-behind : (identity : Identity) (more : List ℕ)
    → raw_text (header identity ++ more) (first_header identity) ≡ less_newline more
unfolding raw_text
raw-behind identity more = ap less_newline (drop-append_seam (header identity) more)

open_at : (text : List ℕ) (h : Header) (o : Option Ending) → ending_of (raw_text text h) ≡ o
    → headers text ≡ h ∷ [] → open_headers text ≡ h ∷ [] → o ≡ None
unfolding open_headers
open_at text h None is one still = refl
open_at text h (Some ending) is one still =
    let shut = open_with text h (Some ending) is in
    let none : filter (is_open text) (headers text) ≡ [] = rw (one, shut) refl in
    absurd (let contra : h ∷ [] ≡ [] = sym still ∙ none in cc)

-- it has not ended
pub unended_behind : (identity : Identity) (more : List ℕ) → IsOpenBehind identity more
    → ending_of (less_newline more) ≡ None
unended_behind identity more is =
    let h = first_header identity in
    let text : List ℕ = header identity ++ more in
    ap ending_of (sym (raw-behind identity more))
    ∙ open_at text h (ending_of (raw_text text h)) refl is.headers is.one_open

-- with nothing behind it, it is open
pub open_behind-nil : (identity : Identity) → IsOpenBehind identity []
unfolding open_headers
open_behind-nil identity =
    let text : List ℕ = header identity ++ [] in
    let h = first_header identity in
    let one : headers text ≡ h ∷ [] = headers-header identity in
    let raw : ending_of (raw_text text h) ≡ None =
    ap ending_of (raw-behind identity []) ∙ ending_of-nil in
    let is = open_with text h None raw in
    record { headers = one; one_open = rw (one, is) refl }

-- one more byte that brings nothing leaves it so
pub open_behind-keeps : (identity : Identity) (more : List ℕ) (byte : ℕ)
    → IsOpenBehind identity more → Keeps (header identity ++ more) byte
    → IsOpenBehind identity (more ++ byte ∷ [])
open_behind-keeps identity more byte is keeps =
    let whole = append_assoc (header identity) more (byte ∷ []) in
    record {
      headers = ap headers (sym whole) ∙ keeps.headers ∙ is.headers;
      one_open = ap open_headers (sym whole) ∙ keeps.still_open ∙ is.one_open;
    }

ended_at : (text : List ℕ) (h : Header) (o : Option Copy) (copy : Copy) → ended_copy text h ≡ o
    → headers text ≡ h ∷ [] → ended_copies text ≡ copy ∷ [] → o ≡ Some copy
unfolding ended_copies
ended_at text h None copy is one ended =
    let none : ended_copies text ≡ [] = rw (one, is) refl in
    absurd (let contra : copy ∷ [] ≡ [] = sym ended ∙ none in cc)
ended_at text h (Some other) copy is one ended =
    let some : ended_copies text ≡ other ∷ [] = rw (one, is) refl in
    let same : other ∷ [] ≡ copy ∷ [] = sym some ∙ ended in
    cc

none_ended : (text : List ℕ) (h : Header) → ending_of (raw_text text h) ≡ None
    → headers text ≡ h ∷ [] → ended_copies text ≡ []
unfolding ended_copies
none_ended text h is one = let shut = ended_with text h None is in rw (one, shut) refl

-- the ending of a copy that has ended
ending_is : (text : List ℕ) (h : Header) (copy : Copy) (o : Option Ending)
    → ending_of (raw_text text h) ≡ o → ended_copy text h ≡ Some copy
    → o ≡ Some (record { how = copy.how; text = copy.text })
ending_is text h copy None is ended =
    absurd (let contra : None ≡ Some copy = sym (ended_with text h None is) ∙ ended in cc)
ending_is text h copy (Some ending) is ended =
    let same : Some (copy_with h ending) ≡ Some copy =
    sym (ended_with text h (Some ending) is) ∙ ended in
    let one : copy_with h ending ≡ copy = cc in
    ap (λ (c : Copy). Some (record { how = c.how; text = c.text })) one

-- a byte that ends a copy ends this one: so its text has ended behind the header
pub ending-behind : (identity : Identity) (more : List ℕ) (byte : ℕ) (copy : Copy)
    → IsOpenBehind identity more → Ends (header identity ++ more) byte copy
    → (copy.header ≡ first_header identity)
    × (ending_of (less_newline (more ++ byte ∷ []))
    ≡ Some (record { how = copy.how; text = copy.text }))
ending-behind identity more byte copy is ends =
    let h = first_header identity in
    let text : List ℕ = (header identity ++ more) ++ byte ∷ [] in
    let before : List ℕ = header identity ++ more in
    let one : headers text ≡ h ∷ [] = ends.headers ∙ is.headers in
    let was : copy.header ∷ [] ≡ h ∷ [] = sym ends.was_open ∙ is.one_open in
    let raw = ap ending_of (raw-behind identity more) ∙ unended_behind identity more is in
    let none : ended_copies before ≡ [] = none_ended before h raw is.headers in
    let all : ended_copies text ≡ copy ∷ [] = ends.ended ∙ ap (λ cs. cs ++ copy ∷ []) none in
    let ended = ended_at text h (ended_copy text h) copy refl one all in
    let whole = append_assoc (header identity) more (byte ∷ []) in
    let joined : raw_text text h ≡ less_newline (more ++ byte ∷ []) =
    ap (λ t. raw_text t h) whole ∙ raw-behind identity (more ++ byte ∷ []) in
    let head : copy.header ≡ h = cc in (
      head,
      ap ending_of (sym joined)
          ∙ ending_is text h copy (ending_of (raw_text text h)) refl ended,
    )
