-- What one more byte does to a text of which no copy is open, or one, which is its last: the cases
-- that a byte can be.
use Rattle.std.proofs.Common.{◌≡◌, ◌≢◌, ℕ, ◌+◌, ◌<◌, ◌≤◌, true, false, if◌then◌else◌, Option, Some}
use Rattle.std.proofs.Common.{None, List, [], ◌∷◌, ◌++◌, length, drop, reverse, refl, sym, ap, ◌∙◌}
use Rattle.std.proofs.Common.{arith, length-append, append_assoc}
use Rattle.std.specs.List.{filter, filter_map}
use Rattle.std.specs.Option.{option_map, option_to_list, is_none}
use Rattle.std.proofs.lemmas.List.{append-nil, drop_all}
use Rattle.std.proofs.lemmas.List.Elements.{filter_map-append, filter-append}
use Rattle.nx_envelope.specs.private.Backward.{marker_back, ends_in, header_back}
use Rattle.nx_envelope.specs.Copies.{Ending, Copy, headers, raw_text, ending_of, copy_with}
use Rattle.nx_envelope.specs.Copies.{ended_copy, ended_copies, is_open, open_headers}
use Rattle.nx_envelope.specs.Finder.{Keeps, BeginsCopy, Ends, is_empty}
use Rattle.nx_envelope.specs.private.Finding.{found_text}
use Rattle.nx_envelope.specs.Header.{Header, start_marker}
use Rattle.nx_envelope.specs.private.HeaderStage.{IsStageOf}
use Rattle.nx_envelope.specs.declared.found.How.{How}
use Rattle.nx_envelope.specs.declared.found.How.TheVariants.{Long}
use Rattle.nx_envelope.specs.declared.identity.Identity.{Identity}
use Rattle.nx_envelope.specs.declared.header_stage.HeaderStage.TheVariants.{Nowhere}
use Rattle.nx_envelope.proofs.lemmas.copies.Beginnings.{reverse-push, headers-push, header_at_end-push}
use Rattle.nx_envelope.proofs.lemmas.copies.RawTexts.{IsPlain, raw-push, raw-newline, raw-none, ending_of-nil}
use Rattle.nx_envelope.proofs.lemmas.copies.RawTexts.{ended_stays, marker_apart, no_start, ending-marker}
use Rattle.nx_envelope.proofs.lemmas.copies.RawTexts.{ending-long, ending-open}
use Rattle.nx_envelope.proofs.lemmas.headers.Stages.{quiet_more, no_header, after_header}

-- Copies that have ended.

-- what a header gives, by its end
pub ended_with : (text : List ℕ) (h : Header) (o : Option Ending) → ending_of (raw_text text h) ≡ o
    → ended_copy text h ≡ option_map (copy_with h) o
unfolding ended_copy
ended_with text h o e = ap (option_map (copy_with h)) e

pub open_with : (text : List ℕ) (h : Header) (o : Option Ending) → ending_of (raw_text text h) ≡ o
    → is_open text h ≡ is_none o
unfolding is_open
open_with text h o e = ap is_none e

-- where none of these headers is open, one more byte changes nothing of them
pub record Stay (text : List ℕ) (b : ℕ) (hs : List Header) : Type 0 where
  pub ended : filter_map (ended_copy (text ++ b ∷ [])) hs ≡ filter_map (ended_copy text) hs
  pub none : filter (is_open (text ++ b ∷ [])) hs ≡ []

stay_at : (text : List ℕ) (b : ℕ) (h : Header) (hs : List Header) (o : Option Ending)
    → ending_of (raw_text text h) ≡ o → filter (is_open text) (h ∷ hs) ≡ []
    → (filter (is_open text) hs ≡ [] → Stay text b hs) → Stay text b (h ∷ hs)
stay_at text b h hs None e none rest =
    let yes = open_with text h None e in
    absurd (let contra : h ∷ filter (is_open text) hs ≡ [] = rw yes at none in cc)
stay_at text b h hs (Some ending) e none rest =
    let was = open_with text h (Some ending) e in
    let more = ended_stays text b h ending e in
    let is = open_with (text ++ b ∷ []) h (Some ending) more in
    let old = ended_with text h (Some ending) e in
    let new = ended_with (text ++ b ∷ []) h (Some ending) more in
    let below : Stay text b hs = rest (rw was at none) in
    record { ended = rw (old, new, below.ended) refl; none = rw is below.none }

pub stay : (text : List ℕ) (b : ℕ) (hs : List Header) → filter (is_open text) hs ≡ []
    → Stay text b hs
stay text b [] none = record { ended = refl; none = refl }
stay text b (h ∷ hs) none = stay_at text b h hs _ refl none (stay text b hs)

-- The one open copy.

-- a text whose last header begins a copy that has not ended, while all others have; the byte before
-- its raw text is no
-- letter of a marker, and no header has begun behind it
pub record OneOpen (text : List ℕ) : Type 0 where
  pub earlier : List Header
  pub header : Header
  pub all : headers text ≡ earlier ++ header ∷ []
  pub over : filter (is_open text) earlier ≡ []
  pub within : header.behind ≤ length text
  pub unended : ending_of (raw_text text header) ≡ None
  pub front : List ℕ
  pub before : ℕ
  pub spelled : text ≡ front ++ before ∷ raw_text text header
  pub plain : IsPlain before
  pub stage : IsStageOf Nowhere (reverse text)
  pub no_start : ends_in start_marker (reverse text) ≡ false

-- the last header, after others that are all over
open_last : (text : List ℕ) (earlier : List Header) (h : Header) (o : Option Ending)
    → headers text ≡ earlier ++ h ∷ [] → filter (is_open text) earlier ≡ []
    → ending_of (raw_text text h) ≡ o → open_headers text ≡ (if is_none o then h ∷ [] else [])
unfolding open_headers
open_last text earlier h o all over e =
    let parted = ap (filter (is_open text)) all ∙ filter-append (is_open text) earlier (h ∷ []) in
    let is = open_with text h o e in
    parted ∙ rw (over, is) refl

ended_last : (text : List ℕ) (earlier : List Header) (h : Header) (o : Option Ending)
    → headers text ≡ earlier ++ h ∷ [] → ending_of (raw_text text h) ≡ o
    → ended_copies text ≡ filter_map (ended_copy text) earlier
    ++ option_to_list (option_map (copy_with h) o)
unfolding ended_copies
ended_last text earlier h None all e =
    let parted = ap (filter_map (ended_copy text)) all
    ∙ filter_map-append (ended_copy text) earlier (h ∷ []) in
    let is = ended_with text h None e in
    parted ∙ rw is refl
ended_last text earlier h (Some ending) all e =
    let parted = ap (filter_map (ended_copy text)) all
    ∙ filter_map-append (ended_copy text) earlier (h ∷ []) in
    let is = ended_with text h (Some ending) e in
    parted ∙ rw is refl

pub open_headers-one : (text : List ℕ) (o : OneOpen text) → open_headers text ≡ o.header ∷ []
open_headers-one text o = open_last text o.earlier o.header None o.all o.over o.unended

-- One more byte.

-- no header is completed
pub no_more_headers : (text : List ℕ) (b : ℕ) → header_back (b ∷ reverse text) ≡ None
    → headers (text ++ b ∷ []) ≡ headers text
no_more_headers text b none =
    let last = header_at_end-push text b in
    headers-push text b ∙ rw (last, none) (append-nil (headers text))

pub one_more_header : (text : List ℕ) (b : ℕ) (i : Identity)
    → header_back (b ∷ reverse text) ≡ Some i
    → headers (text ++ b ∷ [])
    ≡ headers text ++ record { identity = i; behind = length text + 1 } ∷ []
one_more_header text b i is =
    let last = header_at_end-push text b in
    headers-push text b ∙ rw (last, is) refl

-- no copy is open, and none begins
pub still_none : (text : List ℕ) (b : ℕ) → open_headers text ≡ []
    → header_back (b ∷ reverse text) ≡ None → Keeps text b
unfolding open_headers ended_copies
still_none text b none no_more =
    let same = no_more_headers text b no_more in
    let s = stay text b (headers text) none in
    record {
      headers = same;
      ended =
          ap (filter_map (ended_copy (text ++ b ∷ []))) same ∙ s.ended;
      still_open =
          ap (filter (is_open (text ++ b ∷ []))) same ∙ s.none ∙ sym none;
    }

-- no copy is open, and one begins
pub record Opens (text : List ℕ) (b : ℕ) (header : Header) : Type 0 where
  pub begins : BeginsCopy text b header
  pub one : OneOpen (text ++ b ∷ [])
  pub is : one.header ≡ header
  pub raw : raw_text (text ++ b ∷ []) header ≡ []
  pub fresh : drop header.behind (text ++ b ∷ []) ≡ []

pub opens : (text : List ℕ) (b : ℕ) (i : Identity) → open_headers text ≡ []
    → header_back (b ∷ reverse text) ≡ Some i
    → Opens text b (record { identity = i; behind = length text + 1 })
unfolding open_headers ended_copies
opens text b i none is =
    let h : Header = record { identity = i; behind = length text + 1 } in
    let more : headers (text ++ b ∷ []) ≡ headers text ++ h ∷ [] = one_more_header text b i is in
    let s = stay text b (headers text) none in
    let long : length (text ++ b ∷ []) ≡ length text + 1 =
    omega (arith, length-append text (b ∷ [])) in
    let fresh : drop h.behind (text ++ b ∷ []) ≡ [] =
    drop_all h.behind (text ++ b ∷ []) (omega arith) in
    let raw : raw_text (text ++ b ∷ []) h ≡ [] = raw-none (text ++ b ∷ []) h fresh in
    let unended : ending_of (raw_text (text ++ b ∷ []) h) ≡ None =
    ap ending_of raw ∙ ending_of-nil in
    let a = after_header b (reverse text) i is in
    let back = reverse-push text b in
    let mark : marker_back (reverse (text ++ b ∷ [])) ≡ None = marker_apart text [] b a.plain in
    record {
      begins = record {
        behind = refl;
        headers = more;
        ended = ended_last (text ++ b ∷ []) (headers text) h None more unended ∙ append-nil _
            ∙ s.ended;
        was_none = none;
        now_open = open_last (text ++ b ∷ []) (headers text) h None more s.none unended;
      };
      one = record {
        earlier = headers text;
        header = h;
        all = more;
        over = s.none;
        within = omega arith;
        unended = unended;
        front = text;
        before = b;
        spelled = rw raw refl;
        plain = a.plain;
        stage = rw back a.stage;
        no_start = no_start (reverse (text ++ b ∷ [])) mark;
      };
      is = refl;
      raw = raw;
      fresh = fresh;
    }

-- A copy is open.

headers_stay : (text : List ℕ) (b : ℕ) (o : OneOpen text) → headers (text ++ b ∷ []) ≡ headers text
headers_stay text b o = no_more_headers text b (no_header b (reverse text) o.stage)

pub ended_before : (text : List ℕ) (o : OneOpen text)
    → ended_copies text ≡ filter_map (ended_copy text) o.earlier
ended_before text o =
    ended_last text o.earlier o.header None o.all o.unended
    ∙ append-nil (filter_map (ended_copy text) o.earlier)

-- it stays open
stays_open : (text : List ℕ) (b : ℕ) (o : OneOpen text)
    → ending_of (raw_text (text ++ b ∷ []) o.header) ≡ None → Keeps text b
stays_open text b o unended =
    let same = headers_stay text b o in
    let all : headers (text ++ b ∷ []) ≡ o.earlier ++ o.header ∷ [] = same ∙ o.all in
    let s = stay text b o.earlier o.over in
    let now = ended_last (text ++ b ∷ []) o.earlier o.header None all unended
    ∙ append-nil (filter_map (ended_copy (text ++ b ∷ [])) o.earlier) in
    record {
      headers = same;
      ended = now ∙ s.ended ∙ sym (ended_before text o);
      still_open = open_last (text ++ b ∷ []) o.earlier o.header None all s.none unended
          ∙ sym (open_headers-one text o);
    }

-- it ends
ends_copy : (text : List ℕ) (b : ℕ) (o : OneOpen text) (ending : Ending)
    → ending_of (raw_text (text ++ b ∷ []) o.header) ≡ Some ending
    → Ends text b (copy_with o.header ending)
ends_copy text b o ending e =
    let same = headers_stay text b o in
    let all : headers (text ++ b ∷ []) ≡ o.earlier ++ o.header ∷ [] = same ∙ o.all in
    let s = stay text b o.earlier o.over in
    let copy : Copy = copy_with o.header ending in
    let joined = ap (λ (cs : List Copy). cs ++ copy ∷ []) (s.ended ∙ sym (ended_before text o)) in
    record {
      headers = same;
      ended = ended_last (text ++ b ∷ []) o.earlier o.header (Some ending) all e ∙ joined;
      was_open = open_headers-one text o;
      none = open_last (text ++ b ∷ []) o.earlier o.header (Some ending) all s.none e;
    }

-- what is open one byte later
one_later : (text : List ℕ) (b : ℕ) (o : OneOpen text) (front : List ℕ) (before : ℕ)
    → ending_of (raw_text (text ++ b ∷ []) o.header) ≡ None
    → text ++ b ∷ [] ≡ front ++ before ∷ raw_text (text ++ b ∷ []) o.header → IsPlain before
    → marker_back (reverse (text ++ b ∷ [])) ≡ None → OneOpen (text ++ b ∷ [])
one_later text b o front before unended spelled plain mark =
    let same = headers_stay text b o in
    let s = stay text b o.earlier o.over in
    let back = reverse-push text b in
    record {
      earlier = o.earlier;
      header = o.header;
      all = same ∙ o.all;
      over = s.none;
      within = omega (arith, o.within, length-append text (b ∷ []));
      unended = unended;
      front = front;
      before = before;
      spelled = spelled;
      plain = plain;
      stage = rw back (quiet_more b (reverse text)
          (record { is = o.stage; flag = sym o.no_start }));
      no_start = no_start (reverse (text ++ b ∷ [])) mark;
    }

-- the open copy goes on
pub record GoesOn (text : List ℕ) (b : ℕ) (header : Header) : Type 0 where
  pub keeps : Keeps text b
  pub one : OneOpen (text ++ b ∷ [])
  pub is : one.header ≡ header

-- it is a newline directly behind the header
pub drops_newline : (text : List ℕ) (b : ℕ) (o : OneOpen text)
    → is_empty (drop o.header.behind text) ≡ true → b ≡ 10 → GoesOn text b o.header
unfolding one_later
drops_newline text b o fresh is =
    let raw = raw-newline text b o.header o.within fresh is in
    let unended : ending_of (raw_text (text ++ b ∷ []) o.header) ≡ None =
    ap ending_of raw ∙ ending_of-nil in
    let plain : IsPlain b = record
    { no_n = λ e. omega arith; no_z = λ e. omega arith; no_c = λ e. omega arith } in
    let mark : marker_back (reverse (text ++ b ∷ [])) ≡ None = marker_apart text [] b plain in
    record {
      keeps = stays_open text b o unended;
      one =
          one_later text b o text b unended (rw raw refl) plain mark;
      is = refl;
    }

-- the byte is added to the raw text
spelled_more : (text : List ℕ) (b : ℕ) (o : OneOpen text)
    → text ++ b ∷ [] ≡ o.front ++ o.before ∷ (raw_text text o.header ++ b ∷ [])
spelled_more text b o =
    ap (λ (xs : List ℕ). xs ++ b ∷ []) o.spelled
    ∙ append_assoc o.front (o.before ∷ raw_text text o.header) (b ∷ [])

-- the marker of the text is that of the raw text
pub marker_more : (text : List ℕ) (b : ℕ) (o : OneOpen text)
    → marker_back (reverse (raw_text text o.header ++ b ∷ [])) ≡ marker_back (b ∷ reverse text)
marker_more text b o =
    sym (marker_apart o.front (raw_text text o.header ++ b ∷ []) o.before o.plain)
    ∙ ap (λ (xs : List ℕ). marker_back (reverse xs)) (sym (spelled_more text b o))
    ∙ ap marker_back (reverse-push text b)

pub adds : (text : List ℕ) (b : ℕ) (o : OneOpen text)
    → (is_empty (drop o.header.behind text) ≡ true → b ≢ 10) → marker_back (b ∷ reverse text) ≡ None
    → length (raw_text text o.header) + 1 < 4100 → GoesOn text b o.header
unfolding one_later
adds text b o apart mark short =
    let raw = raw-push text b o.header o.within apart in
    let unended : ending_of (raw_text (text ++ b ∷ []) o.header) ≡ None =
    ap ending_of raw ∙ ending-open (raw_text text o.header) b o.unended
    (marker_more text b o ∙ mark) short in
    let spelled : text ++ b ∷ [] ≡ o.front ++ o.before ∷ raw_text (text ++ b ∷ []) o.header =
    rw raw (spelled_more text b o) in
    let here : marker_back (reverse (text ++ b ∷ [])) ≡ None =
    ap marker_back (reverse-push text b) ∙ mark in
    record {
      keeps = stays_open text b o unended;
      one =
          one_later text b o o.front o.before unended spelled o.plain here;
      is = refl;
    }

-- a marker ends it
pub ends_marked : (text : List ℕ) (b : ℕ) (o : OneOpen text) (how : How)
    → (is_empty (drop o.header.behind text) ≡ true → b ≢ 10)
    → marker_back (b ∷ reverse text) ≡ Some how
    → Ends text b (record {
      header = o.header;
      how = how;
      text =
          found_text how (raw_text text o.header) b;
    })
ends_marked text b o how apart mark =
    let raw = raw-push text b o.header o.within apart in
    let ended = ap ending_of raw
    ∙ ending-marker (raw_text text o.header) b how o.unended (marker_more text b o ∙ mark) in
    ends_copy text b o (record { how = how; text = found_text how (raw_text text o.header) b })
    ended

-- the 4,100th byte ends it
pub ends_long : (text : List ℕ) (b : ℕ) (o : OneOpen text)
    → (is_empty (drop o.header.behind text) ≡ true → b ≢ 10) → marker_back (b ∷ reverse text) ≡ None
    → length (raw_text text o.header) + 1 ≡ 4100
    → Ends text b (record {
      header = o.header;
      how = Long;
      text =
          raw_text text o.header ++ b ∷ [];
    })
ends_long text b o apart mark full =
    let raw = raw-push text b o.header o.within apart in
    let ended = ap ending_of raw
    ∙ ending-long (raw_text text o.header) b o.unended (marker_more text b o ∙ mark) full in
    ends_copy text b o (record { how = Long; text = raw_text text o.header ++ b ∷ [] }) ended
