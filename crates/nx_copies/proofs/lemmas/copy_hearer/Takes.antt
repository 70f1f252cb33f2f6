-- What a finder has when a copy or a text is over.
use Rattle.std.proofs.Common.{◌≡◌, ℕ, zero, ◌+◌, Bool, true, false, refl, List, [], ◌∷◌, ◌++◌}
use Rattle.std.proofs.Common.{map, Option, Some, None, sym, ap, ◌∙◌, subst, append-nil}
use Rattle.std.proofs.Common.{append_assoc}
use Rattle.std.specs.Prelude.{MatchOption}
use Rattle.std.specs.List.{All}
use Rattle.std.proofs.lemmas.List.Elements.{All-head}
use Rattle.nx_sync.specs.Locks.{Now, hunting, locked}
use Rattle.nx_sync.specs.Words.{word_of_lock, first_role, whole_words}
use Rattle.nx_sync.specs.declared.step.Role.{Role}
use Rattle.nx_envelope.specs.Copies.{Copy, closed_copy, errors_of, open_headers}
use Rattle.nx_envelope.specs.Finder.{Closes, ClosesHeld, ClosesReady, HasReady, is_ready, is_ready_copy}
use Rattle.nx_envelope.specs.declared.finder.Finder.{Finder}
use Rattle.nx_envelope.specs.Found.{IsFound}
use Rattle.nx_envelope.specs.Header.{Header}
use Rattle.nx_envelope.specs.declared.found.Found.{Found}
use Rattle.nx_envelope.specs.declared.found.HeldCopy.{HeldCopy}
use Rattle.nx_envelope.specs.declared.found.HeldCopy.TheVariants as held
use Rattle.nx_envelope.proofs.lemmas.copies.OneOpenCopy.{open_headers-nil}
use Rattle.nx_copies.specs.declared.copy_taker.CopyTag.{CopyTag}
use Rattle.nx_copies.specs.Events.{Setting}
use Rattle.nx_copies.specs.copies.FoundCopies.{ended_in, open_in, past_copies, past_text, standing_text}
use Rattle.nx_copies.specs.copies.FoundCopies.{ended_so_far, open_so_far, found_copy, TaggedCopy, tag}
use Rattle.nx_copies.specs.LockReader.{ReadsLock}
use Rattle.nx_copies.specs.copies.LockText.{text_after}
use Rattle.nx_copies.specs.hearing.CopyHearing.{CopyHearing}
use Rattle.nx_copies.specs.LockReader.{LockReading}
use Rattle.nx_copies.specs.copies.LockText.{PlacedByte, bytes_of, text_by}
use Rattle.nx_copies.specs.hearing.CopyHearer.{CopyIsOver, HasTag, IsFresh}
use Rattle.nx_copies.specs.private.CopyHearer.{HasEndedAll}
use Rattle.nx_copies.specs.hearing.CopyHearer.{IsOver, LockIsOver, ReadsNow, HearerStands, copies_by}
use Rattle.nx_copies.specs.hearing.CopyHearer.{over_now, over_with, ready_copies}
use Rattle.nx_copies.specs.private.CopyHearer.{handed_out}
use Rattle.nx_copies.specs.hearing.CopyHearer.{ready_copy, ready_in}
use Rattle.nx_copies.specs.hearing.CopyHearer.{setting_in, tag_of}
use Rattle.nx_copies.specs.copies.FoundCopies.{place_of_header}
use Rattle.nx_copies.proofs.lemmas.locks.Found.{all_in-parts}
use Rattle.nx_copies.proofs.lemmas.locks.Growing.{hunted}
use Rattle.nx_copies.proofs.lemmas.locks.Texts.{bytes_are_reading}
use Rattle.nx_copies.proofs.lemmas.printing.Logged.{end_adds}
use Rattle.nx_copies.proofs.lemmas.copy_hearer.Texts.{copies_by-append, tag-none}

-- no copy stands open where no text is
pub tag-hunting : (first : Setting) (settings : List Setting) (kept : CopyTag)
    → HasTag first settings [] kept
unfolding bytes_of
tag-hunting first settings kept = tag-none first settings [] kept open_headers-nil

-- the copy that was taken is the one that the finder had
taken : (copy : Copy) (found : Option Found) (kept : CopyTag) → MatchOption found ⊥ (IsFound copy)
    → handed_out found kept ≡ ready_copy copy kept ∷ []
taken copy None kept h = absurd h
taken copy (Some found) kept h =
    ap (λ i. record {
      identity = i;
      how = found.how;
      text = found.text.items;
      moment =
          kept.moment;
      selected = kept.is_selected;
    } ∷ []) h.identity
    ∙ ap (λ i. record {
      identity = copy.header.identity;
      how = i;
      text = found.text.items;
      moment =
          kept.moment;
      selected = kept.is_selected;
    } ∷ []) h.how
    ∙ ap (λ i. record {
      identity = copy.header.identity;
      how = copy.how;
      text = i;
      moment =
          kept.moment;
      selected = kept.is_selected;
    } ∷ []) h.text

-- what a finder has to hand out is the copy that it has
pub ready_is : (finder : Finder) (copy : Copy) (kept : CopyTag) → HasReady finder copy
    → ready_in finder.copy finder.text kept ≡ ready_copy copy kept ∷ []
ready_is finder copy kept ready =
    ap (λ one. ready_in one finder.text kept) ready.held
    ∙ ap (λ text. ready_in (held.Ready copy.header.identity copy.how) text kept) ready.text

pub none_ready : (copy : HeldCopy) (text : List ℕ) (kept : CopyTag) → is_ready_copy copy ≡ false
    → ready_in copy text kept ≡ []
none_ready held.Nothing text kept none = refl
none_ready (held.Open identity fresh) text kept none = refl
none_ready (held.Ready identity how) text kept none = cc

-- Where the copy that the finder has, if it has one, counts among those that have ended, the lock
-- alone may be over.
pub over_ready : (first : Setting) (hearer : CopyHearing) (h : List Bool) (s : List Setting)
    (copies : List TaggedCopy) (is_copy_over is_lock_over : Bool)
    → is_ready hearer.reader.finder ≡ is_copy_over
    → IsOver first hearer h s copies (over_with is_copy_over is_lock_over)
    → IsOver first hearer h s (copies ++ ready_copies hearer) (over_with false is_lock_over)
over_ready first hearer h s copies true false is over =
    subst (λ l. HearerStands first hearer h s (copies ++ l))
    (sym (ready_is hearer.reader.finder over.copy hearer.tag over.ready)) over.stands
over_ready first hearer h s copies true true is over =
    subst (λ l. LockIsOver first hearer h s (copies ++ l))
    (sym (ready_is hearer.reader.finder over.copy hearer.tag over.ready)) over.lock
over_ready first hearer h s copies false false is over =
    subst (λ l. HearerStands first hearer h s l)
    (sym (ap (λ l. copies ++ l) (none_ready hearer.reader.finder.copy hearer.reader.finder.text
    hearer.tag is) ∙ append-nil copies)) over
over_ready first hearer h s copies false true is over =
    subst (λ l. LockIsOver first hearer h s l)
    (sym (ap (λ l. copies ++ l) (none_ready hearer.reader.finder.copy hearer.reader.finder.text
    hearer.tag is) ∙ append-nil copies)) over

-- the copy that stands open, as the end of the text hands it out
closed-none : (text : List PlacedByte) → open_headers (bytes_of text) ≡ [] → open_in text ≡ []
closed-none text e = ap (λ (hs : List Header). map
    (λ header. found_copy text (closed_copy (bytes_of text) header)) hs) e

closed-one : (text : List PlacedByte) (header : Header) → open_headers (bytes_of text) ≡ header ∷ []
    → open_in text ≡ found_copy text (closed_copy (bytes_of text) header) ∷ []
closed-one text header e =
    ap (λ (hs : List Header). map (λ header. found_copy text (closed_copy (bytes_of text) header))
    hs) e

pub closes : (first : Setting) (settings : List Setting) (text : List PlacedByte)
    (found : Option Found) (kept : CopyTag) → HasTag first settings text kept
    → Closes (bytes_of text) found
    → copies_by first settings (open_in text) ≡ handed_out found kept
unfolding copies_by HasTag found_copy closed_copy tag
closes first settings text None kept k h = ap (copies_by first settings) (closed-none text h.none)
closes first settings text (Some found) kept k h =
    let header = h.header in
    let P : Header → Type 0 =
    λ header. kept ≡ tag_of (setting_in first settings (place_of_header text header))
    header.identity in
    let one : All P (header ∷ []) = subst (All P) h.was_open k in
    let is : kept ≡ tag_of (setting_in first settings (place_of_header text header))
    header.identity = All-head P header [] one in
    let copy = closed_copy (bytes_of text) header in
    ap (copies_by first settings) (closed-one text header h.was_open)
    ∙ ap (λ (t : CopyTag). record {
      identity = header.identity;
      how = copy.how;
      text = copy.text;
      moment =
          t.moment;
      selected = t.is_selected;
    } ∷ []) (sym is)
    ∙ sym (taken copy (Some found) kept h.is_found)

-- the text of the lock that is over, as its words print it
abbrev pub text_over : {first : Setting} {hearer : CopyHearing} {h : List Bool} {s : List Setting}
    {copies : List TaggedCopy} → LockIsOver first hearer h s copies → List ℕ
text_over {h = h} over =
    text_after (first_role h over.lock.at) (word_of_lock h over.lock.at) (over.lock.last + 1)

ended_at : (first : Setting) (hearer : CopyHearing) (reader : LockReading)
    (found : Option Found) (h : List Bool) (s : List Setting) (copies : List TaggedCopy)
    → IsFresh reader → (over : LockIsOver first hearer h s copies) → Closes (text_over over) found
    → HearerStands first (record hearer { reader = reader }) h s
    (copies ++ handed_out found hearer.tag)
unfolding past_copies
ended_at first hearer reader found h s copies fresh over ends =
    let lock = over.lock in
    let text = past_text h lock in
    let closed : Closes (bytes_of text) found =
    subst (λ (l : List ℕ). Closes l found)
    (sym (bytes_are_reading (first_role h lock.at) (word_of_lock h lock.at) lock.at
    (lock.last + 1))) ends in
    record {
      synchroniser = over.synchroniser;
      reads = record {
        locks = lock ∷ over.older;
        now = hunting over.from;
        stands = over.stands;
        many = over.many;
        ended = ap (λ l. l ++ handed_out found hearer.tag) over.ended
            ∙ ap (λ l. copies_by first s (past_copies h over.older ++ ended_in text) ++ l)
            (sym (closes first s text found hearer.tag over.has_tag closed))
            ∙ sym (copies_by-append first s (past_copies h over.older ++ ended_in text)
            (open_in text))
            ∙ ap (copies_by first s) (append_assoc (past_copies h over.older) (ended_in text)
            (open_in text) ∙ ap (λ l. past_copies h over.older ++ l) (sym (all_in-parts text))
            ∙ hunted h (lock ∷ over.older) over.from);
        reads = fresh;
        has_tag = tag-hunting first s hearer.tag;
      };
    }

lock_ended : (first : Setting) (hearer : CopyHearing) (reader : LockReading)
    (found : Option Found) (h : List Bool) (s : List Setting) (copies : List TaggedCopy)
    → IsFresh reader → ((first : Role) (words : ℕ → ℕ) (n : ℕ)
    → ReadsLock hearer.reader first words n → Closes (text_after first words n) found)
    → LockIsOver first hearer h s copies
    → HearerStands first (record hearer { reader = reader }) h s
    (copies ++ handed_out found hearer.tag)
lock_ended first hearer reader found h s copies fresh ends over =
    ended_at first hearer reader found h s copies fresh over
    (ends (first_role h over.lock.at) (word_of_lock h over.lock.at) (over.lock.last + 1) over.reads)

-- a copy as it is handed out
found_of : Copy → Found
found_of copy = record {
  identity = copy.header.identity;
  text = record { items = copy.text };
  errors = errors_of copy.text;
  how = copy.how;
  counted = refl;
}

closed_ready : (first : Setting) (hearer : CopyHearing) (reader : LockReading) (h : List Bool)
    (s : List Setting) (copies : List TaggedCopy) → IsFresh reader
    → (over : LockIsOver first hearer h s copies) → ClosesReady (text_over over) reader.finder
    → CopyIsOver first (record hearer { reader = reader }) h s copies
unfolding found_of
closed_ready first hearer reader h s copies fresh over ends =
    let copy = closed_copy (text_over over) ends.header in
    record {
      copy = copy;
      ready = ends.ready;
      stands = ended_at first hearer reader (Some (found_of copy)) h s copies fresh over
          (record {
            header = ends.header;
            was_open = ends.was_open;
            is_found = record { identity = refl; how = refl; text = refl; errors = refl };
            whole = ends.whole;
          });
    }

closed_as : (first : Setting) (hearer : CopyHearing) (reader : LockReading) (h : List Bool)
    (s : List Setting) (copies : List TaggedCopy) (ready : Bool) → IsFresh reader
    → (over : LockIsOver first hearer h s copies) → ClosesHeld (text_over over) reader.finder
    → is_ready reader.finder ≡ ready
    → IsOver first (record hearer { reader = reader }) h s copies (over_with ready false)
closed_as first hearer reader h s copies true fresh over ends is =
    closed_ready first hearer reader h s copies fresh over (ends.some is)
closed_as first hearer reader h s copies false fresh over ends is =
    subst (λ l. HearerStands first (record hearer { reader = reader }) h s l) (append-nil copies)
    (ended_at first hearer reader None h s copies fresh over (ends.none is))

-- The text of a lock that is over ended, and the copy that stood open in it, if one did, can be
-- taken.
pub lock_closed : (first : Setting) (hearer : CopyHearing) (reader : LockReading) (h : List Bool)
    (s : List Setting) (copies : List TaggedCopy) → IsFresh reader
    → ((first : Role) (words : ℕ → ℕ) (n : ℕ) → ReadsLock hearer.reader first words n
    → ClosesHeld (text_after first words n) reader.finder)
    → LockIsOver first hearer h s copies
    → IsOver first (record hearer { reader = reader }) h s copies
    (over_now (record hearer { reader = reader }) false)
lock_closed first hearer reader h s copies fresh ends over =
    closed_as first hearer reader h s copies (is_ready reader.finder) fresh over
    (ends (first_role h over.lock.at) (word_of_lock h over.lock.at) (over.lock.last + 1) over.reads)
    refl

-- where no copy stands open in it, none is handed out
pub lock_ended_none : (first : Setting) (hearer : CopyHearing) (reader : LockReading)
    (h : List Bool) (s : List Setting) (copies : List TaggedCopy)
    → IsFresh reader → ((first : Role) (words : ℕ → ℕ) (n : ℕ)
    → ReadsLock hearer.reader first words n → Closes (text_after first words n) None)
    → LockIsOver first hearer h s copies
    → HearerStands first (record hearer { reader = reader }) h s copies
lock_ended_none first hearer reader h s copies fresh ends over =
    subst (λ l. HearerStands first (record hearer { reader = reader }) h s l) (append-nil copies)
    (lock_ended first hearer reader None h s copies fresh ends over)

-- what the reader stands after is the text of what stands
stands_in : (reader : LockReading) (found : Option Found)
    → ((first : Role) (words : ℕ → ℕ) (n : ℕ) → ReadsLock reader first words n
    → Closes (text_after first words n) found)
    → (bits : List Bool) (now : Now) → ReadsNow reader bits now
    → Closes (bytes_of (standing_text bits now)) found
unfolding text_by
stands_in reader found ends bits (hunting p) r =
    subst (λ (l : List ℕ). Closes l found)
    (sym (bytes_are_reading (first_role bits 0) (word_of_lock bits 0) 0 zero))
    (ends (first_role bits 0) (word_of_lock bits 0) 0
    (r.fresh (first_role bits 0) (word_of_lock bits 0)))
stands_in reader found ends bits (locked p t) r =
    subst (λ (l : List ℕ). Closes l found)
    (sym (bytes_are_reading (first_role bits t) (word_of_lock bits t) t (whole_words bits t)))
    (ends (first_role bits t) (word_of_lock bits t) (whole_words bits t) r)

all_ended : (first : Setting) (hearer : CopyHearing) (found : Option Found) (h : List Bool)
    (s : List Setting) (copies : List TaggedCopy)
    → ((first : Role) (words : ℕ → ℕ) (n : ℕ) → ReadsLock hearer.reader first words n
    → Closes (text_after first words n) found)
    → HearerStands first hearer h s copies
    → HasEndedAll first h s (copies ++ handed_out found hearer.tag)
all_ended first hearer found h s copies ends stands =
    let r = stands.reads in
    record {
      locks = r.locks;
      now = r.now;
      stands = r.stands;
      ended = ap (λ l. l ++ handed_out found hearer.tag) r.ended
          ∙ ap (λ l. copies_by first s (ended_so_far h r.locks r.now) ++ l)
          (sym (closes first s (standing_text h r.now) found hearer.tag r.has_tag
          (stands_in hearer.reader found ends h r.now r.reads)))
          ∙ sym (copies_by-append first s (ended_so_far h r.locks r.now) (open_so_far h r.now))
          ∙ ap (copies_by first s) (sym (end_adds h r.locks r.now));
    }

-- what a finder has to hand out, as it is handed out
abbrev found_in : HeldCopy → List ℕ → Option Found
found_in held.Nothing text = None
found_in (held.Open identity fresh) text = None
found_in (held.Ready identity how) text = Some (record {
  identity = identity;
  text = record { items = text };
  errors = errors_of text;
  how = how;
  counted = refl;
})

handed_in : (copy : HeldCopy) (text : List ℕ) (kept : CopyTag)
    → handed_out (found_in copy text) kept ≡ ready_in copy text kept
handed_in held.Nothing text kept = refl
handed_in (held.Open identity fresh) text kept = refl
handed_in (held.Ready identity how) text kept = refl

-- the end of a text hands out what the finder then has
closes_in : (copy : HeldCopy) (finder : Finder) (text : List ℕ) → finder.copy ≡ copy
    → ClosesHeld text finder → Closes text (found_in copy finder.text)
closes_in held.Nothing finder text is ends = ends.none (ap is_ready_copy is)
closes_in (held.Open identity fresh) finder text is ends = ends.none (ap is_ready_copy is)
closes_in (held.Ready identity how) finder text is ends =
    let r = ends.some (ap is_ready_copy is) in
    let copy = closed_copy text r.header in
    let same : held.Ready identity how ≡ held.Ready copy.header.identity copy.how =
    sym is ∙ r.ready.held in
    record {
      header = r.header;
      was_open = r.was_open;
      is_found = record {
        identity = cc;
        how = cc;
        text = r.ready.text;
        errors = ap errors_of r.ready.text;
      };
      whole = r.whole;
    }

-- All elements ended: the copy that the finder then has, if it has one, is the last of all.
pub all_closed : (first : Setting) (hearer : CopyHearing) (reader : LockReading) (h : List Bool)
    (s : List Setting) (copies : List TaggedCopy)
    → ((first : Role) (words : ℕ → ℕ) (n : ℕ) → ReadsLock hearer.reader first words n
    → ClosesHeld (text_after first words n) reader.finder)
    → HearerStands first hearer h s copies
    → HasEndedAll first h s (copies ++ ready_copies (record hearer { reader = reader }))
all_closed first hearer reader h s copies ends stands =
    let finder = reader.finder in
    subst (λ l. HasEndedAll first h s (copies ++ l))
    (handed_in finder.copy finder.text hearer.tag)
    (all_ended first hearer (found_in finder.copy finder.text) h s copies
    (λ role words n reads. closes_in finder.copy finder (text_after role words n) refl
    (ends role words n reads)) stands)
