-- What the finder holds, and what it notes of a byte.
use Rattle.std.proofs.Common.{◌≡◌, ◌≢◌, ℕ, ◌+◌, ◌-◌, ◌<◌, ◌==◌, ◌&&◌, ◌⊎◌, inl, inr}
use Rattle.std.proofs.Common.{Bool, true, false, Some, None, List, [], ◌∷◌, ◌++◌, length, take}
use Rattle.std.proofs.Common.{drop, reverse, slice_index, refl, sym, ap, ◌∙◌, arith}
use Rattle.std.proofs.lemmas.Bool.{and_parts}
use Rattle.std.proofs.lemmas.List.{drop-append-le}
use Rattle.nx_envelope.specs.private.Backward.{last_four, marker_back, header_back, spaces_back}
use Rattle.nx_envelope.specs.private.Backward.{station_back, subject_back, tens_back}
use Rattle.nx_envelope.specs.Copies.{Copy, raw_text, open_headers, closed_copy}
use Rattle.nx_envelope.specs.Finder.{BringsCopy, ClosesCopy, ClosesHeld, ClosesNone}
use Rattle.nx_envelope.specs.Finder.{Ends, HoldsCopy, HoldsOpen, Keeps, is_empty, is_ready}
use Rattle.nx_envelope.specs.Finder.{is_ready_copy}
use Rattle.nx_envelope.specs.private.Finding.{Hearing, found_text}
use Rattle.nx_envelope.specs.Found.{IsFound, IsFoundOf}
use Rattle.nx_envelope.specs.Header.{Header}
use Rattle.nx_envelope.specs.private.HeaderStage.{IsStageOf}
use Rattle.nx_envelope.specs.declared.finder.Finder.{Finder}
use Rattle.nx_envelope.specs.declared.found.Found.{Found}
use Rattle.nx_envelope.specs.declared.found.HeldCopy.{HeldCopy}
use Rattle.nx_envelope.specs.declared.found.HeldCopy.TheVariants as states
use Rattle.nx_envelope.specs.declared.found.TextEvent.TheVariants as events
use Rattle.nx_envelope.specs.declared.found.How.{How}
use Rattle.nx_envelope.specs.declared.found.How.TheVariants.{Cut, Long}
use Rattle.nx_envelope.specs.declared.identity.Identity.{Identity}
use Rattle.nx_envelope.specs.declared.header_stage.HeaderStage.TheVariants.{Nowhere}
use Rattle.nx_envelope.proofs.lemmas.copies.OneMoreByte.{OneOpen, open_headers-one, still_none, opens}
use Rattle.nx_envelope.proofs.lemmas.copies.OneMoreByte.{drops_newline, adds, ends_marked, ends_long}
use Rattle.nx_envelope.proofs.lemmas.copies.OneOpenCopy.{open_headers-nil, parts, copies_none, copies_one, is_ten}
use Rattle.nx_envelope.proofs.lemmas.copies.RawTexts.{empty_is, found_is, raw-push, raw-newline, raw-none}

pub stage-nil : IsStageOf Nowhere []
unfolding spaces_back station_back subject_back tens_back
stage-nil = record { spaces = refl; station = refl; subject = refl; tens = refl }

-- the last four bytes, one byte later
pub last_four-push : (recent back : List ℕ) (b : ℕ) → recent ≡ last_four back
    → slice_index recent 1 ∷ slice_index recent 2 ∷ slice_index recent 3 ∷ b ∷ []
    ≡ last_four (b ∷ back)
last_four-push recent back b e = rw e refl

-- What is held of an open copy.

pub record Held (is_fresh : Bool) (kept text : List ℕ) (identity : Identity) : Type 0 where
  pub one : OneOpen text
  pub named : one.header.identity ≡ identity
  pub raw : kept ≡ raw_text text one.header
  pub fresh : is_fresh ≡ is_empty (drop one.header.behind text)

held_one : (fresh : Bool) (kept text : List ℕ) (identity : Identity)
    (h : HoldsOpen fresh kept text identity) (o : OneOpen text) → o.header ≡ h.header
    → Held fresh kept text identity
held_one fresh kept text identity h o same = record {
  one = o;
  named = rw same h.named;
  raw = rw same h.raw;
  fresh = rw same h.fresh;
}

pub held : (fresh : Bool) (kept text : List ℕ) (identity : Identity)
    → HoldsOpen fresh kept text identity → Held fresh kept text identity
held fresh kept text identity h =
    elim (parts text) [
      | inl none ↦ absurd (let both : h.header ∷ [] ≡ [] = sym h.stands_open ∙ none in cc)
      | inr o ↦ let both : o.header ∷ [] ≡ h.header ∷ [] =
          sym (open_headers-one text o) ∙ h.stands_open in
          held_one fresh kept text identity h o (cc)
    ]

-- what stands open in a text that has this header open
holds : (fresh : Bool) (kept text : List ℕ) (header : Header) (o : OneOpen text) → o.header ≡ header
    → kept ≡ raw_text text header → fresh ≡ is_empty (drop header.behind text)
    → HoldsOpen fresh kept text header.identity
holds fresh kept text header o same raw is = record {
  header = header;
  stands_open = open_headers-one text o ∙ ap (λ (h : Header). h ∷ []) same;
  named = refl;
  raw = raw;
  fresh = is;
}

-- no copy is open

pub none_begins : (text : List ℕ) (b : ℕ) (now : Finder) → open_headers text ≡ []
    → None ≡ header_back (b ∷ reverse text) → now.copy ≡ states.Nothing
    → Hearing text b events.Nothing now
none_begins text b now shut is none =
    let keeps = still_none text b shut (sym is) in
    record { hears = keeps; holds = rw none (keeps.still_open ∙ shut) }

pub one_begins : (text : List ℕ) (b : ℕ) (identity : Identity) (now : Finder)
    → open_headers text ≡ [] → Some identity ≡ header_back (b ∷ reverse text)
    → now.copy ≡ states.Open identity true → now.text ≡ []
    → Hearing text b (events.Header identity) now
one_begins text b i now shut is copy kept =
    let p = opens text b i shut (sym is) in
    let h : Header = record { identity = i; behind = length text + 1 } in
    let now_open = holds true now.text (text ++ b ∷ []) h p.one p.is (kept ∙ sym p.raw)
    (ap is_empty (sym p.fresh)) in
    record {
      hears = record { header = h; named = refl; begins = p.begins };
      holds =
          rw copy now_open;
    }

-- a copy is open

ten_is : (b : ℕ) → b ≡ 10 → (b == 10) ≡ true
ten_is b e = rw e refl

apart : (fresh : Bool) (xs : List ℕ) (b : ℕ) → fresh ≡ is_empty xs → (fresh && (b == 10)) ≡ false
    → is_empty xs ≡ true → b ≢ 10
apart true xs b is none e ten = let yes = ten_is b ten in cc
apart false xs b is none e ten = cc

not_empty : (xs : List ℕ) (b : ℕ) → is_empty (xs ++ b ∷ []) ≡ false
not_empty [] b = refl
not_empty (x ∷ xs) b = refl

no_longer_fresh : (text : List ℕ) (b : ℕ) (h : Header) → h.behind < length text + 1
    → false ≡ is_empty (drop h.behind (text ++ b ∷ []))
no_longer_fresh text b h within =
    sym (ap is_empty (drop-append-le h.behind text (b ∷ []) (omega arith))
    ∙ not_empty (drop h.behind text) b)

-- it goes on, with this raw text
pub record GoesOn (kept text : List ℕ) (b : ℕ) (identity : Identity) : Type 0 where
  pub keeps : Keeps text b
  pub holds : HoldsOpen false kept (text ++ b ∷ []) identity

pub stays : (text : List ℕ) (b : ℕ) (identity : Identity) (now : Finder)
    → GoesOn now.text text b identity → now.copy ≡ states.Open identity false
    → Hearing text b events.Nothing now
stays text b identity now g copy = record { hears = g.keeps; holds = rw copy g.holds }

pub goes_newline : (fresh : Bool) (kept text : List ℕ) (b : ℕ) (identity : Identity)
    → HoldsOpen fresh kept text identity → (fresh && (b == 10)) ≡ true → GoesOn kept text b identity
goes_newline fresh kept text b identity h dropped =
    let g = held fresh kept text identity h in
    let both = and_parts fresh (b == 10) dropped in
    let ten = is_ten b both.1 in
    let empty : is_empty (drop g.one.header.behind text) ≡ true = sym g.fresh ∙ both.0 in
    let d = drops_newline text b g.one empty ten in
    let none = raw-none text g.one.header (empty_is (drop g.one.header.behind text) empty) in
    let raw : kept ≡ raw_text (text ++ b ∷ []) g.one.header =
    g.raw ∙ none ∙ sym (raw-newline text b g.one.header g.one.within empty ten) in
    let now = holds false kept (text ++ b ∷ []) g.one.header d.one d.is raw
    (no_longer_fresh text b g.one.header (omega (arith, g.one.within))) in
    record { keeps = d.keeps; holds = rw (← g.named) now }

pub goes_on : (fresh : Bool) (kept text : List ℕ) (b : ℕ) (identity : Identity)
    → HoldsOpen fresh kept text identity → (fresh && (b == 10)) ≡ false
    → marker_back (b ∷ reverse text) ≡ None → length kept + 1 < 4100
    → GoesOn (kept ++ b ∷ []) text b identity
goes_on fresh kept text b identity h none mark short =
    let g = held fresh kept text identity h in
    let far = apart fresh (drop g.one.header.behind text) b g.fresh none in
    let d = adds text b g.one far mark (rw (← g.raw) short) in
    let raw : kept ++ b ∷ [] ≡ raw_text (text ++ b ∷ []) g.one.header =
    rw (raw-push text b g.one.header g.one.within far, ← g.raw) refl in
    let now = holds false (kept ++ b ∷ []) (text ++ b ∷ []) g.one.header d.one d.is raw
    (no_longer_fresh text b g.one.header (omega (arith, g.one.within))) in
    record { keeps = d.keeps; holds = rw (← g.named) now }

-- it ends, with this found text
pub record EndsOpen (found before : List ℕ) (byte : ℕ) (name : Identity) (end : How) : Type 0 where
  pub copy : Copy
  pub named : copy.header.identity ≡ name
  pub how : copy.how ≡ end
  pub text : copy.text ≡ found
  pub ends : Ends before byte copy

pub becomes_ready : (text : List ℕ) (b : ℕ) (identity : Identity) (how : How) (now : Finder)
    → EndsOpen now.text text b identity how → now.copy ≡ states.Ready identity how
    → Hearing text b events.CopyOver now
becomes_ready text b identity how now e copy =
    let none = e.ends.none in
    record {
      hears = record {
        copy = e.copy;
        ends = e.ends;
        ready =
            record { held = rw (e.named, e.how) copy; text = sym e.text };
      };
      holds = rw copy none;
    }

pub ends_by : (fresh : Bool) (kept text : List ℕ) (b : ℕ) (identity : Identity) (how : How)
    → HoldsOpen fresh kept text identity → (fresh && (b == 10)) ≡ false
    → marker_back (b ∷ reverse text) ≡ Some how
    → EndsOpen (take (length kept - 3) kept) text b identity how
ends_by fresh kept text b identity how h none mark =
    let g = held fresh kept text identity h in
    let far = apart fresh (drop g.one.header.behind text) b g.fresh none in
    record {
      copy = record {
        header = g.one.header;
        how = how;
        text =
            found_text how (raw_text text g.one.header) b;
      };
      named = g.named;
      how = refl;
      text =
          ap (λ (xs : List ℕ). found_text how xs b) (sym g.raw)
          ∙ found_is (b ∷ reverse text) kept b how mark;
      ends =
          ends_marked text b g.one how far mark;
    }

pub ends_full : (fresh : Bool) (kept text : List ℕ) (b : ℕ) (identity : Identity)
    → HoldsOpen fresh kept text identity → (fresh && (b == 10)) ≡ false
    → marker_back (b ∷ reverse text) ≡ None → length kept + 1 ≡ 4100
    → EndsOpen (kept ++ b ∷ []) text b identity Long
ends_full fresh kept text b identity h none mark full =
    let g = held fresh kept text identity h in
    let far = apart fresh (drop g.one.header.behind text) b g.fresh none in
    record {
      copy = record {
        header = g.one.header;
        how = Long;
        text =
            raw_text text g.one.header ++ b ∷ [];
      };
      named = g.named;
      how = refl;
      text =
          ap (λ (xs : List ℕ). xs ++ b ∷ []) (sym g.raw);
      ends =
          ends_long text b g.one far mark (rw (← g.raw) full);
    }

-- the end of the text
pub closes_none : (text : List ℕ) → open_headers text ≡ [] → ClosesNone text
closes_none text none = record { none = none; whole = copies_none text none }

pub closes_copy : (fresh : Bool) (kept text : List ℕ) (identity : Identity) (found : Found)
    → HoldsOpen fresh kept text identity → IsFoundOf identity Cut kept found → ClosesCopy text found
unfolding closed_copy
closes_copy fresh kept text identity found h f =
    let g = held fresh kept text identity h in
    record {
      header = g.one.header;
      was_open = open_headers-one text g.one;
      is_found =
          rw (g.named, ← g.raw) f;
      whole = copies_one text g.one;
    }

pub none_open : (copy : HeldCopy) (kept text : List ℕ)
    → ((i : Identity) (fresh : Bool) → copy ≢ states.Open i fresh) → HoldsCopy copy kept text
    → open_headers text ≡ []
none_open states.Nothing kept text none h = h
none_open (states.Open i fresh) kept text none h = absurd (none i fresh refl)
none_open (states.Ready i how) kept text none h = h

pub none_held : (copy : HeldCopy) (kept text : List ℕ)
    → (copy ≡ states.Nothing) ⊎ ((i : Identity) × (how : How) × copy ≡ states.Ready i how)
    → HoldsCopy copy kept text → open_headers text ≡ []
none_held copy kept text (inl is) h = rw is at h
none_held copy kept text (inr (i, how, is)) h = rw is at h

-- the copy that is handed out
pub hands_out : (text : List ℕ) (b : ℕ) (copy : Copy) (found : Found) → Ends text b copy
    → IsFound copy found → BringsCopy text b found
hands_out text b copy found ends is = record { copy = copy; is_found = is; ends = ends }

-- the end of a text leaves the open copy with the finder
pub closes_held : (fresh : Bool) (kept text : List ℕ) (identity : Identity) (now : Finder)
    → HoldsOpen fresh kept text identity → now.copy ≡ states.Ready identity Cut → now.text ≡ kept
    → ClosesHeld text now
unfolding closed_copy
closes_held fresh kept text identity now h copy same =
    let g = held fresh kept text identity h in
    record {
      some = λ e. record {
        header = g.one.header;
        was_open = open_headers-one text g.one;
        ready =
            record { held = rw (g.named) copy; text = same ∙ g.raw };
        whole = copies_one text g.one;
      };
      none =
          λ e. absurd (let not : is_ready now ≡ true = ap is_ready_copy copy in cc);
    }

pub closes_shut : (text : List ℕ) (now : Finder) → open_headers text ≡ []
    → is_ready now ≡ false → ClosesHeld text now
closes_shut text now none shut = record {
  some = λ e. absurd (cc);
  none = λ e. closes_none text none;
}
