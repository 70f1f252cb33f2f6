-- A text has at most one open copy, which is its last; what has ended stays; and the copies of a
-- text where it ends.
use Rattle.std.proofs.Common.{◌≡◌, ◌≢◌, ℕ, ◌+◌, ◌<◌, ◌≤◌, ◌==◌, Bool, true, false, ◌⊎◌, inl, inr}
use Rattle.std.proofs.Common.{Option, Some, None, List, [], ◌∷◌, ◌++◌, length, drop, map, reverse}
use Rattle.std.proofs.Common.{refl, sym, ap, ◌∙◌, arith, append_assoc}
use Rattle.std.specs.List.{filter, filter_map}
use Rattle.std.specs.Option.{option_to_list, unwrap_or}
use Rattle.std.proofs.lemmas.Bool.Decides.{leb_tells, nat_tests}
use Rattle.std.proofs.lemmas.List.{append-nil, map-append, reverse-append, reverse-reverse}
use Rattle.nx_envelope.specs.Header.{Header}
use Rattle.nx_envelope.specs.private.Reading.{identity_read}
use Rattle.nx_envelope.specs.private.Backward.{marker_back, header_back}
use Rattle.nx_envelope.specs.Copies.{Ending, Copy, beginnings, header_at_end, headers, raw_text}
use Rattle.nx_envelope.specs.Copies.{ending_of, ended_copy, ended_copies, is_open, open_headers}
use Rattle.nx_envelope.specs.Copies.{closed_copy, copies}
use Rattle.nx_envelope.specs.Finder.{Ends, is_empty}
use Rattle.nx_envelope.specs.Laws.{Grows}
use Rattle.nx_envelope.specs.declared.found.How.{How}
use Rattle.nx_envelope.specs.declared.identity.Identity.{Identity}
use Rattle.nx_envelope.proofs.lemmas.copies.Beginnings.{ending_of-within, headers-push, open_is_short}
use Rattle.nx_envelope.proofs.lemmas.copies.OneMoreByte.{OneOpen, adds, drops_newline, ended_before, ended_with}
use Rattle.nx_envelope.proofs.lemmas.copies.OneMoreByte.{ends_long, ends_marked, open_headers-one, open_with}
use Rattle.nx_envelope.proofs.lemmas.copies.OneMoreByte.{opens, still_none}

-- Every text is one or the other.

abbrev pub Parts : List ℕ → Type 0
Parts text = (open_headers text ≡ []) ⊎ OneOpen text

pub headers-nil : headers [] ≡ []
unfolding headers beginnings header_at_end identity_read
headers-nil = refl

pub open_headers-nil : open_headers [] ≡ []
unfolding open_headers
open_headers-nil = rw headers-nil refl

parts-nil : Parts []
parts-nil = inl open_headers-nil

raw_is_short : (text : List ℕ) (o : OneOpen text) → length (raw_text text o.header) < 4100
raw_is_short text o = open_is_short 4100 (raw_text text o.header)
    (sym (ending_of-within (raw_text text o.header)) ∙ o.unended)

pub is_ten : (b : ℕ) → (b == 10) ≡ true → b ≡ 10
is_ten b e = grind (arith, nat_tests)

not_ten : (b : ℕ) → (b == 10) ≡ false → b ≢ 10
not_ten b e is = absurd (grind (arith, nat_tests))

-- one byte later, and what it adds to the copies that have ended
pub record Stepped (text : List ℕ) (b : ℕ) : Type 0 where
  pub next : Parts (text ++ b ∷ [])
  pub later : List Copy
  pub grows : ended_copies (text ++ b ∷ []) ≡ ended_copies text ++ later

kept_all : (text : List ℕ) (b : ℕ) → ended_copies (text ++ b ∷ []) ≡ ended_copies text
    → Parts (text ++ b ∷ []) → Stepped text b
kept_all text b same next =
    record { next = next; later = []; grows = same ∙ sym (append-nil (ended_copies text)) }

step_none : (text : List ℕ) (b : ℕ) (o : Option Identity) → header_back (b ∷ reverse text) ≡ o
    → open_headers text ≡ [] → Stepped text b
step_none text b None is none =
    let k = still_none text b none is in
    kept_all text b k.ended (inl (k.still_open ∙ none))
step_none text b (Some i) is none =
    let p = opens text b i none is in
    kept_all text b p.begins.ended (inr p.one)

ended_by : (text : List ℕ) (b : ℕ) (copy : Copy) → Ends text b copy → Stepped text b
ended_by text b copy e = record { next = inl e.none; later = copy ∷ []; grows = e.ended }

step_added : (text : List ℕ) (b : ℕ) (o : OneOpen text) (m : Option How)
    → marker_back (b ∷ reverse text) ≡ m → (is_empty (drop o.header.behind text) ≡ true → b ≢ 10)
    → Stepped text b
step_added text b o (Some how) mark apart = ended_by text b _ (ends_marked text b o how apart mark)
step_added text b o None mark apart =
    elim (leb_tells 4100 (length (raw_text text o.header) + 1)) [
      | inl p ↦ ended_by text b _
          (ends_long text b o apart mark (omega (arith, p.1, raw_is_short text o)))
      | inr p ↦ let g = adds text b o apart mark p.1 in kept_all text b g.keeps.ended (inr g.one)
    ]

step_one : (text : List ℕ) (b : ℕ) (o : OneOpen text) (fresh newline : Bool)
    → is_empty (drop o.header.behind text) ≡ fresh → (b == 10) ≡ newline → Stepped text b
step_one text b o true true is n =
    let g = drops_newline text b o is (is_ten b n) in
    kept_all text b g.keeps.ended (inr g.one)
step_one text b o true false is n = step_added text b o _ refl (λ e. not_ten b n)
step_one text b o false newline is n =
    step_added text b o _ refl (λ e. absurd (let contra : true ≡ false = sym e ∙ is in cc))

step : (text : List ℕ) (b : ℕ) → Parts text → Stepped text b
step text b (inl none) = step_none text b _ refl none
step text b (inr o) = step_one text b o _ _ refl refl

parts_back : (back : List ℕ) → Parts (reverse back)
parts_back [] = parts-nil
parts_back (b ∷ back) =
    let whole : reverse (b ∷ back) ≡ reverse back ++ b ∷ [] = reverse-append (b ∷ []) back in
    rw whole (step (reverse back) b (parts_back back)).next

-- at most one copy is open, and it is the last
pub parts : (text : List ℕ) → Parts text
parts text = rw (← reverse-reverse text) (parts_back (reverse text))

-- headers and the copies that have ended stay, and others come behind them
pub grown : (text more : List ℕ) → Grows text more
grown text [] = record {
  later_headers = [];
  headers = ap headers (append-nil text) ∙ sym (append-nil (headers text));
  later_copies = [];
  ended = ap ended_copies (append-nil text) ∙ sym (append-nil (ended_copies text));
}
grown text (b ∷ more) =
    let s = step text b (parts text) in
    let r = grown (text ++ b ∷ []) more in
    let whole = append_assoc text (b ∷ []) more in
    let last = option_to_list (header_at_end (text ++ b ∷ [])) in
    record {
      later_headers = last ++ r.later_headers;
      headers = ap headers (sym whole) ∙ r.headers
          ∙ ap (λ (hs : List Header). hs ++ r.later_headers) (headers-push text b)
          ∙ append_assoc (headers text) last r.later_headers;
      later_copies = s.later ++ r.later_copies;
      ended = ap ended_copies (sym whole) ∙ r.ended
          ∙ ap (λ (cs : List Copy). cs ++ r.later_copies) s.grows
          ∙ append_assoc (ended_copies text) s.later r.later_copies;
    }

-- The copies of a text at its end.

abbrev at_end : List ℕ → Header → Copy
at_end text h = unwrap_or (ended_copy text h) (closed_copy text h)

over_at : (text : List ℕ) (h : Header) (hs : List Header) (o : Option Ending)
    → ending_of (raw_text text h) ≡ o → filter (is_open text) (h ∷ hs) ≡ []
    → (filter (is_open text) hs ≡ [] → map (at_end text) hs ≡ filter_map (ended_copy text) hs)
    → map (at_end text) (h ∷ hs) ≡ filter_map (ended_copy text) (h ∷ hs)
over_at text h hs None e none rest =
    let yes = open_with text h None e in
    absurd (let contra : h ∷ filter (is_open text) hs ≡ [] = rw yes at none in cc)
over_at text h hs (Some ending) e none rest =
    let was = open_with text h (Some ending) e in
    let is = ended_with text h (Some ending) e in
    let below = rest (rw was at none) in
    rw (is, below) refl

copies_over : (text : List ℕ) (hs : List Header) → filter (is_open text) hs ≡ []
    → map (at_end text) hs ≡ filter_map (ended_copy text) hs
copies_over text [] none = refl
copies_over text (h ∷ hs) none = over_at text h hs _ refl none (copies_over text hs)

pub copies_none : (text : List ℕ) → open_headers text ≡ [] → copies text ≡ ended_copies text
unfolding copies ended_copies open_headers
copies_none text none = copies_over text (headers text) none

pub copies_one : (text : List ℕ) (o : OneOpen text)
    → copies text ≡ ended_copies text ++ closed_copy text o.header ∷ []
unfolding copies
copies_one text o =
    let parted = ap (map (at_end text)) o.all
    ∙ map-append (at_end text) o.earlier (o.header ∷ []) in
    let is = ended_with text o.header None o.unended in
    let over = copies_over text o.earlier o.over in
    parted ∙ rw (is, over, ended_before text o) refl

-- so the copies of a text are those that have ended and the open one, closed
pub copies_parts : (text : List ℕ)
    → copies text ≡ ended_copies text ++ map (closed_copy text) (open_headers text)
copies_parts text =
    elim (parts text) [
      | inl none ↦ copies_none text none ∙ sym (append-nil (ended_copies text))
          ∙ ap (λ (hs : List Header). ended_copies text ++ map (closed_copy text) hs) (sym none)
      | inr o ↦ copies_one text o
          ∙ ap (λ (hs : List Header). ended_copies text ++ map (closed_copy text) hs)
          (sym (open_headers-one text o))
    ]

pub one_at_most : (text : List ℕ) → length (open_headers text) ≤ 1
one_at_most text =
    elim (parts text) [
      | inl none ↦ rw none (omega arith)
      | inr o ↦ rw (open_headers-one text o) (omega arith)
    ]
