-- What one more word does to the text of a lock, to the copies in it and to the tag of the open
-- one.
use Rattle.std.proofs.Common.{◌≡◌, ℕ, suc, ◌+◌, ◌-◌, ◌<◌, ◌≤◌, Bool, true, false, List, [], ◌∷◌}
use Rattle.std.proofs.Common.{◌++◌, map, length, get_or, refl, sym, ap, ◌∙◌, subst, arith, inl, inr}
use Rattle.std.proofs.Common.{append-nil, add-one}
use Rattle.std.specs.List.{All}
use Rattle.std.proofs.lemmas.List.{get_or_append_left, map-append, length-append}
use Rattle.std.proofs.lemmas.List.{append_cancel_left}
use Rattle.std.proofs.lemmas.List.Elements.{All-nil, All-cons, All-head, All-tail}
use Rattle.nx_code.specs.Reading.{text}
use Rattle.nx_sync.specs.declared.step.Role.{Role}
use Rattle.nx_envelope.specs.Copies.{Copy, ended_copies, open_headers}
use Rattle.nx_envelope.specs.Finder.{BeginsCopy, Ends, Keeps, HasReady, HappensAt, is_over}
use Rattle.nx_envelope.specs.Header.{Header}
use Rattle.nx_envelope.specs.declared.finder.Finder.{Finder}
use Rattle.nx_envelope.specs.declared.found.TextEvent.{TextEvent}
use Rattle.nx_envelope.specs.declared.found.TextEvent.TheVariants as events
use Rattle.nx_copies.specs.declared.copy_taker.CopyTag.{CopyTag}
use Rattle.nx_copies.specs.Events.{Setting}
use Rattle.nx_copies.specs.copies.FoundCopies.{FoundCopy, place_in, found_copy, ended_in, TaggedCopy}
use Rattle.nx_copies.specs.copies.FoundCopies.{tag}
use Rattle.nx_copies.specs.ReaderWords.{IsBrought}
use Rattle.nx_copies.specs.private.ReaderWords.{word_place}
use Rattle.nx_copies.specs.copies.LockText.{text_after}
use Rattle.nx_copies.specs.copies.LockText.{PlacedByte, printed_by, text_by, bytes_of}
use Rattle.nx_copies.specs.hearing.CopyTaker.{tag_after}
use Rattle.nx_copies.specs.hearing.CopyHearer.{HasTag, copies_by, ready_copy, setting_in}
use Rattle.nx_copies.specs.hearing.CopyHearer.{tag_of}
use Rattle.nx_copies.specs.copies.FoundCopies.{place_of_header}
use Rattle.nx_copies.specs.hearing.CopyHearing.{CopyHearing, in_force}
use Rattle.nx_copies.proofs.lemmas.locks.Texts.{bytes_are_reading, bytes_of-append, bytes-placed}
use Rattle.nx_copies.proofs.lemmas.locks.Found.{IsByteIn, IsHeaderIn, ended_headers_in, found-same}
use Rattle.nx_copies.proofs.lemmas.locks.Found.{header_placed, length-bytes_of, open_headers_in}
use Rattle.nx_copies.proofs.lemmas.locks.Found.{place_in-append, place_in-get_or}

-- a word adds nothing to the text, or one byte
pub data AddsByte (before after : List PlacedByte) (place : ℕ) (finder : Finder)
    (event : TextEvent) : Type 0 where
  no_byte : after ≡ before → event ≡ events.Nothing → AddsByte before after place finder event
  a_byte : (byte : ℕ) → after ≡ before ++ record { byte = byte; place = place } ∷ []
      → HappensAt (bytes_of before) byte finder event → AddsByte before after place finder event

abbrev placed_at : ℕ → ℕ → PlacedByte
placed_at place b = record { byte = b; place = place }

placed-same : (place : ℕ) (bs cs : List ℕ) → bytes_of (map (placed_at place) bs) ≡ cs
    → map (placed_at place) bs ≡ map (placed_at place) cs
unfolding bytes_of
placed-same place bs cs e = ap (map (placed_at place)) (sym (bytes-placed place bs) ∙ e)

-- the bytes that a word adds, by the two texts
added : (first : Role) (words : ℕ → ℕ) (t n : ℕ) (more : List ℕ)
    → text_after first words (n + 1) ≡ text_after first words n ++ more
    → bytes_of (printed_by first words t n) ≡ more
unfolding text_by
added first words t n more e =
    let before = bytes_are_reading first words t n in
    let after : bytes_of (text_by first words t (suc n)) ≡ text_after first words (n + 1) =
    bytes_are_reading first words t (suc n) ∙ ap (text_after first words) (sym (add-one n)) in
    append_cancel_left (bytes_of (text_by first words t n)) (bytes_of (printed_by first words t n))
    more
    (sym (bytes_of-append (text_by first words t n) (printed_by first words t n)) ∙ after ∙ e
    ∙ ap (λ l. l ++ more) (sym before))

pub adds_byte : (first : Role) (words : ℕ → ℕ) (t n : ℕ) (finder : Finder) (event : TextEvent)
    → IsBrought (text_after first words n) (text_after first words (n + 1)) finder event
    → AddsByte (text_by first words t n) (text_by first words t (n + 1)) (word_place t n) finder
    event
unfolding text_by printed_by
adds_byte first words t n finder event (inl h) =
    let none = placed-same (word_place t n) _ []
    (added first words t n [] (h.same ∙ sym (append-nil (text_after first words n)))) in
    no_byte (ap (text_by first words t) (add-one n) ∙ ap (λ l. text_by first words t n ++ l) none
    ∙ append-nil (text_by first words t n)) h.nothing
adds_byte first words t n finder event (inr h) =
    let one = placed-same (word_place t n) _ (h.byte ∷ [])
    (added first words t n (h.byte ∷ []) h.grows) in
    a_byte h.byte (ap (text_by first words t) (add-one n)
    ∙ ap (λ l. text_by first words t n ++ l) one)
    (subst (λ (l : List ℕ). HappensAt l h.byte finder event)
    (sym (bytes_are_reading first words t n))
    h.hears)

-- copies with what is in force: those of more copies, and where more elements come
pub copies_by-append : (first : Setting) (settings : List Setting) (xs ys : List FoundCopy)
    → copies_by first settings (xs ++ ys)
    ≡ copies_by first settings xs ++ copies_by first settings ys
unfolding copies_by
copies_by-append first settings xs ys =
    map-append (λ copy. tag (setting_in first settings copy.place) copy) xs ys

-- the tag of headers stays where more elements come, and more text
abbrev pub IsTagOf : Setting → List Setting → List PlacedByte → CopyTag → Header → Type 0
IsTagOf first settings text kept header =
    kept ≡ tag_of (setting_in first settings (place_of_header text header)) header.identity

pub tags-same : (first : Setting) (settings later : List Setting) (text more : List PlacedByte)
    (kept : CopyTag) (low high : ℕ) → All (IsByteIn low high) text → high ≤ length settings
    → (headers : List Header) → All (IsHeaderIn (bytes_of text)) headers
    → All (IsTagOf first settings text kept) headers
    → All (IsTagOf first (settings ++ later) (text ++ more) kept) headers
tags-same first settings later text more kept low high placed h [] i k =
    All-nil (IsTagOf first (settings ++ later) (text ++ more) kept)
tags-same first settings later text more kept low high placed h (header ∷ headers) i k =
    let in_text = All-head (IsHeaderIn (bytes_of text)) header headers i in
    let at = header_placed low high text header placed in_text in
    let same : place_of_header (text ++ more) header ≡ place_of_header text header =
    place_in-append text more (header.behind - 1)
    (omega (arith, length-bytes_of text, in_text.0, in_text.1)) in
    let force : setting_in first (settings ++ later) (place_of_header (text ++ more) header)
    ≡ setting_in first settings (place_of_header text header) =
    ap (setting_in first (settings ++ later)) same
    ∙ get_or_append_left settings later first (place_of_header text header)
    (omega (arith, at.1, h)) in
    All-cons (IsTagOf first (settings ++ later) (text ++ more) kept) header headers
    (All-head (IsTagOf first settings text kept) header headers k
    ∙ ap (λ s. tag_of s header.identity) (sym force))
    (tags-same first settings later text more kept low high placed h headers
    (All-tail (IsHeaderIn (bytes_of text)) header headers i)
    (All-tail (IsTagOf first settings text kept) header headers k))

pub tag-later : (first : Setting) (settings later : List Setting) (text : List PlacedByte)
    (kept : CopyTag) (low high : ℕ) → All (IsByteIn low high) text → high ≤ length settings
    → HasTag first settings text kept → HasTag first (settings ++ later) text kept
unfolding HasTag
tag-later first settings later text kept low high placed h k =
    subst (λ (l : List PlacedByte). All (IsTagOf first (settings ++ later) l kept)
    (open_headers (bytes_of text))) (append-nil text)
    (tags-same first settings later text [] kept low high placed h (open_headers (bytes_of text))
    (open_headers_in (bytes_of text)) k)

-- no copy stands open
pub tag-none : (first : Setting) (settings : List Setting) (text : List PlacedByte) (kept : CopyTag)
    → open_headers (bytes_of text) ≡ [] → HasTag first settings text kept
unfolding HasTag
tag-none first settings text kept e =
    subst (All (IsTagOf first settings text kept)) (sym e)
    (All-nil (IsTagOf first settings text kept))

-- what is over in a text with a word: a copy that the finder has, with its tag; or none
pub record CopyReady (copies : List TaggedCopy) (finder : Finder) (kept : CopyTag) : Type 0 where
  pub copy : Copy
  pub ready : HasReady finder copy
  pub is : copies ≡ ready_copy copy kept ∷ []

abbrev pub Brought : Bool → List TaggedCopy → Finder → CopyTag → Type 0
Brought false copies finder kept = copies ≡ []
Brought true copies finder kept = CopyReady copies finder kept

-- the copies and the tag after a word
pub record AfterWord (first : Setting) (settings : List Setting) (before after : List PlacedByte)
    (kept : CopyTag) (finder : Finder) (is_copy_over : Bool) : Type 0 where
  pub new : List FoundCopy
  pub ended : ended_in after ≡ ended_in before ++ new
  pub brought : Brought is_copy_over (copies_by first settings new) finder kept
  pub has_tag : HasTag first settings after kept

copies_by-nil : (first : Setting) (settings : List Setting) → copies_by first settings [] ≡ []
unfolding copies_by
copies_by-nil first settings = refl

-- the bytes of a text and one more
bytes-push : (text : List PlacedByte) (byte place : ℕ)
    → bytes_of (text ++ record { byte = byte; place = place } ∷ []) ≡ bytes_of text ++ byte ∷ []
unfolding bytes_of
bytes-push text byte place = bytes_of-append text (record { byte = byte; place = place } ∷ [])

-- the copies that have ended, where one byte more leaves those of the text, and adds others
ended-push : (text : List PlacedByte) (byte place : ℕ) (others : List Copy)
    → ended_copies (bytes_of text ++ byte ∷ []) ≡ ended_copies (bytes_of text) ++ others
    → ended_in (text ++ record { byte = byte; place = place } ∷ [])
    ≡ ended_in text ++ map (found_copy (text ++ record { byte = byte; place = place } ∷ []))
    others
ended-push text byte place others e =
    let whole = text ++ record { byte = byte; place = place } ∷ [] in
    ap (λ bs. map (found_copy whole) (ended_copies bs)) (bytes-push text byte place)
    ∙ ap (map (found_copy whole)) e
    ∙ map-append (found_copy whole) (ended_copies (bytes_of text)) others
    ∙ ap (λ xs. xs ++ map (found_copy whole) others)
    (found-same text (record { byte = byte; place = place } ∷ []) (ended_copies (bytes_of text))
    (ended_headers_in (bytes_of text)))

module _ (first : Setting) (settings : List Setting) (text : List PlacedByte) (hearer : CopyHearing)
    (low high place : ℕ) (finder : Finder) (placed : All (IsByteIn low high) text)
    (h : high ≤ length settings) (last : place ≡ length settings) (byte : ℕ) where
  abbrev whole : List PlacedByte
  whole = text ++ record { byte = byte; place = place } ∷ []

  abbrev later : List Setting
  later = settings ++ in_force hearer ∷ []

  kept_open : HasTag first settings text hearer.tag
      → open_headers (bytes_of text ++ byte ∷ []) ≡ open_headers (bytes_of text)
      → HasTag first later whole hearer.tag
  unfolding HasTag
  kept_open k e =
      subst (All (IsTagOf first later whole hearer.tag))
      (sym (ap open_headers (bytes-push text byte place) ∙ e))
      (tags-same first settings (in_force hearer ∷ []) text
      (record { byte = byte; place = place } ∷ []) hearer.tag low high placed h
      (open_headers (bytes_of text)) (open_headers_in (bytes_of text)) k)

  pub after_keeps : HasTag first settings text hearer.tag → Keeps (bytes_of text) byte
      → AfterWord first later text whole hearer.tag finder false
  after_keeps k keeps = record {
    new = [];
    ended = ended-push text byte place []
        (keeps.ended ∙ sym (append-nil (ended_copies (bytes_of text))));
    brought = copies_by-nil first later;
    has_tag = kept_open k keeps.still_open;
  }

  last_place : (header : Header) → header.behind ≡ length (bytes_of text) + 1
      → place_of_header whole header ≡ place
  last_place header e =
      let at : header.behind - 1 ≡ length text = omega (arith, e, length-bytes_of text) in
      let d : PlacedByte = record { byte = byte; place = place } in
      let within : length text < length whole = omega (arith, length-append text (d ∷ [])) in
      ap (place_in whole) at ∙ place_in-get_or whole (length text) d within
      ∙ ap (λ b. b.place) (get_or-pushed text d)
    where
      get_or-pushed : (xs : List PlacedByte) (x : PlacedByte)
          → get_or (xs ++ x ∷ []) (length xs) x ≡ x
      get_or-pushed [] x = refl
      get_or-pushed (y ∷ xs) x = get_or-pushed xs x

  in_force_last : setting_in first later place ≡ in_force hearer
  in_force_last = ap (setting_in first later) last ∙ get_or-pushed settings (in_force hearer) first
    where
      get_or-pushed : (xs : List Setting) (x d : Setting) → get_or (xs ++ x ∷ []) (length xs) d ≡ x
      get_or-pushed [] x d = refl
      get_or-pushed (y ∷ xs) x d = get_or-pushed xs x d

  pub after_header : (header : Header) → BeginsCopy (bytes_of text) byte header
      → AfterWord first later text whole (tag_of (in_force hearer) header.identity) finder false
  unfolding HasTag
  after_header header begins = record {
    new = [];
    ended = ended-push text byte place []
        (begins.ended ∙ sym (append-nil (ended_copies (bytes_of text))));
    brought = copies_by-nil first later;
    has_tag = subst (All (IsTagOf first later whole (tag_of (in_force hearer) header.identity)))
        (sym (ap open_headers (bytes-push text byte place) ∙ begins.now_open))
        (All-cons (IsTagOf first later whole (tag_of (in_force hearer) header.identity)) header []
        (ap (λ s. tag_of s header.identity)
        (sym (ap (setting_in first later) (last_place header begins.behind) ∙ in_force_last)))
        (All-nil (IsTagOf first later whole (tag_of (in_force hearer) header.identity))));
  }

  pub after_over : HasTag first settings text hearer.tag → (copy : Copy) → HasReady finder copy
      → Ends (bytes_of text) byte copy → AfterWord first later text whole hearer.tag finder true
  unfolding HasTag copies_by found_copy tag
  after_over k copy ready ends =
      let one : All (IsTagOf first settings text hearer.tag) (copy.header ∷ []) =
      subst (All (IsTagOf first settings text hearer.tag)) ends.was_open k in
      let here : All (IsHeaderIn (bytes_of text)) (copy.header ∷ []) =
      subst (All (IsHeaderIn (bytes_of text))) ends.was_open
      (open_headers_in (bytes_of text)) in
      let is : hearer.tag ≡ tag_of (setting_in first later (place_of_header whole copy.header))
      copy.header.identity =
      All-head (IsTagOf first later whole hearer.tag) copy.header []
      (tags-same first settings (in_force hearer ∷ []) text
      (record { byte = byte; place = place } ∷ []) hearer.tag low high placed h
      (copy.header ∷ []) here one) in
      record {
        new = found_copy whole copy ∷ [];
        ended = ended-push text byte place (copy ∷ []) ends.ended;
        brought = record {
          copy = copy;
          ready = ready;
          is = ap (λ (t : CopyTag). record {
            identity = copy.header.identity;
            how = copy.how;
            text = copy.text;
            moment =
                t.moment;
            selected = t.is_selected;
          } ∷ []) (sym is);
        };
        has_tag = tag-none first later whole hearer.tag
            (ap open_headers (bytes-push text byte place) ∙ ends.none);
      }

-- the copies and the tag after a word, whatever it brings
pub after_word : (first : Setting) (settings : List Setting) (before after : List PlacedByte)
    (hearer : CopyHearing) (low high place : ℕ) (finder : Finder) (event : TextEvent)
    → All (IsByteIn low high) before → high ≤ length settings → place ≡ length settings
    → HasTag first settings before hearer.tag → AddsByte before after place finder event
    → AfterWord first (settings ++ in_force hearer ∷ []) before after
    (tag_after (in_force hearer) hearer.tag event) finder (is_over event)
after_word first settings before after hearer low high place finder events.Nothing placed h last k
    (no_byte e n) =
    record {
      new = [];
      ended = ap ended_in e ∙ sym (append-nil (ended_in before));
      brought = copies_by-nil first (settings ++ in_force hearer ∷ []);
      has_tag = subst (λ (l : List PlacedByte). HasTag first (settings ++ in_force hearer ∷ []) l
          hearer.tag) (sym e) (tag-later first settings (in_force hearer ∷ []) before hearer.tag low
          high placed h k);
    }
after_word first settings before after hearer low high place finder (events.Header identity) placed
    h last k (no_byte e n) = absurd (let wrong : events.Header identity ≡ events.Nothing = n in cc)
after_word first settings before after hearer low high place finder events.CopyOver placed h last k
    (no_byte e n) = absurd (let wrong : events.CopyOver ≡ events.Nothing = n in cc)
after_word first settings before after hearer low high place finder events.Nothing placed h last k
    (a_byte byte e keeps) =
    subst (λ (l : List PlacedByte). AfterWord first (settings ++ in_force hearer ∷ []) before l
    hearer.tag finder false) (sym e)
    (after_keeps first settings before hearer low high place finder placed h last byte k keeps)
after_word first settings before after hearer low high place finder (events.Header identity) placed
    h last k (a_byte byte e brings) =
    subst (λ (l : List PlacedByte). AfterWord first (settings ++ in_force hearer ∷ []) before l
    (tag_of (in_force hearer) identity) finder false) (sym e)
    (subst (λ i. AfterWord first (settings ++ in_force hearer ∷ []) before
    (before ++ record { byte = byte; place = place } ∷ []) (tag_of (in_force hearer) i) finder
    false) brings.named
    (after_header first settings before hearer low high place finder placed h last byte
    brings.header brings.begins))
after_word first settings before after hearer low high place finder events.CopyOver placed h last k
    (a_byte byte e ready) =
    subst (λ (l : List PlacedByte). AfterWord first (settings ++ in_force hearer ∷ []) before l
    hearer.tag finder true) (sym e)
    (after_over first settings before hearer low high place finder placed h last byte k ready.copy
    ready.ready ready.ends)
