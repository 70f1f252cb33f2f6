-- The text of a lock ends, or that of all elements: the copy that stood open, and its positions.
use Rattle.std.proofs.Common.{◌≡◌, ℕ, ◌+◌, Bool, true, false, List, [], ◌∷◌, ◌++◌, map}
use Rattle.std.proofs.Common.{refl, sym, ap, ap₂, ◌∙◌, subst, append-nil, append_assoc, drop}
use Rattle.std.proofs.lemmas.List.{map-append}
use Rattle.std.proofs.lemmas.List.Elements.{All-cons, All-nil}
use Rattle.nx_envelope.specs.Copies.{Copy, closed_copy, copies, ended_copies, open_headers}
use Rattle.nx_envelope.specs.Finder.{ClosesHeld, ClosesNone, ClosesReady, is_ready}
use Rattle.nx_envelope.specs.Header.{Header}
use Rattle.nx_envelope.proofs.lemmas.copies.OneOpenCopy.{open_headers-nil}
use Rattle.nx_sync.specs.Locks.{IsNow, Lock, Now, hunting, locked}
use Rattle.nx_sync.specs.Synchroniser.{Held}
use Rattle.nx_sync.specs.Words.{first_role, whole_words, word_of_lock}
use Rattle.nx_sync.specs.declared.step.Role.{Role}
use Rattle.nx_copies.specs.Events.{Setting}
use Rattle.nx_copies.specs.LockReader.{LockReading, ReadsLock}
use Rattle.nx_copies.specs.copies.FoundCopies.{TaggedCopy, all_in, ended_so_far, found_copy, found_to_end}
use Rattle.nx_copies.specs.copies.LockText.{bytes_of, lock_text, positions, text_after}
use Rattle.nx_copies.specs.hearing.CopyHearer.{CopyIsOver, HearerStands, IsFresh, IsOver}
use Rattle.nx_copies.specs.hearing.CopyHearer.{copies_by, over_with, ready_copies, ready_copy}
use Rattle.nx_copies.specs.hearing.CopyTaker.{hearer_of}
use Rattle.nx_copies.proofs.lemmas.copy_hearer.Takes.{all_closed, lock_closed, lock_ended_none, none_ready}
use Rattle.nx_copies.proofs.lemmas.copy_hearer.Takes.{ready_is}
use Rattle.nx_copies.proofs.lemmas.locks.Found.{all_in-parts, one_told}
use Rattle.nx_copies.proofs.lemmas.locks.Texts.{bytes_are_reading}
use Rattle.nx_combine.specs.CombinedHearing.{AllHeard, CombinedOver, CombinedStands, CopyHeard}
use Rattle.nx_combine.specs.CombinedHearing.{LockHeard, copies_of, heard_by}
use Rattle.nx_combine.specs.CombinedTaker.{TakesLock, TakesNow}
use Rattle.nx_copies.proofs.lemmas.locks.Growing.{ended_in-nil}
use Rattle.nx_combine.specs.CopyPositions.{HeardCopy, PlacedCopy, ended_placed}
use Rattle.nx_combine.specs.CopyPositions.{lock_bytes, lock_positions, past_placed, placed}
use Rattle.nx_combine.specs.CopyPositions.{placed_to_end, positions_in_past, positions_of}
use Rattle.nx_combine.specs.Notes.{noted}
use Rattle.nx_combine.specs.declared.taker.CombinedTaker.{CombinedTaker}
use Rattle.nx_combine.specs.private.laws.EndedPositions.{open-whole, past-open}
use Rattle.nx_combine.specs.private.laws.Heard.{copies-heard, found-ended, found-past, found-placed, found_of}
use Rattle.nx_combine.specs.private.laws.Heard.{heard-append, same_last}
use Rattle.nx_combine.proofs.lemmas.Hearing.{heard-nil, heard-one, heard_as}
use Rattle.nx_combine.specs.private.laws.PlacedGrow.{all_of, placed-hunted, placed-parts, placed_as}

-- the taker with another reader
abbrev pub with_reader : CombinedTaker → LockReading → CombinedTaker
with_reader taker reader = record taker { copies = record taker.copies { reader = reader } }

-- the copies before the text of a lock ends, and the one that stands open there
abbrev before_end : List Bool → Lock → List Lock → List PlacedCopy
before_end bits lock older =
    past_placed bits older
    ++ placed (positions_in_past lock.how) bits lock.at (lock.last + 1)
    (ended_copies (lock_bytes bits lock.at (lock.last + 1)))

abbrev open_at : List Bool → Lock → List Header → List PlacedCopy
open_at bits lock headers =
    placed (positions_in_past lock.how) bits lock.at (lock.last + 1)
    (map (closed_copy (lock_bytes bits lock.at (lock.last + 1))) headers)

whole_lock : (bits : List Bool) (lock : Lock) (older : List Lock) (q : ℕ) (headers : List Header)
    → open_headers (lock_bytes bits lock.at (lock.last + 1)) ≡ headers
    → ended_placed bits (lock ∷ older) (hunting q)
    ≡ before_end bits lock older ++ open_at bits lock headers
unfolding past_placed
whole_lock bits lock older q headers is =
    let rule = positions_in_past lock.how in
    let bytes : List ℕ = lock_bytes bits lock.at (lock.last + 1) in
    sym (placed-hunted bits (lock ∷ older) q)
    ∙ ap (λ l. past_placed bits older ++ l) (placed-parts rule bits lock.at (lock.last + 1))
    ∙ sym (append_assoc (past_placed bits older)
    (placed rule bits lock.at (lock.last + 1) (ended_copies bytes))
    (open_at bits lock (open_headers bytes)))
    ∙ ap (λ hs. before_end bits lock older ++ open_at bits lock hs) is

-- a closed copy has its header
header_of_closed : (bytes : List ℕ) (header : Header) → (closed_copy bytes header).header ≡ header
unfolding closed_copy
header_of_closed bytes header = refl

-- The text of the lock that is over alone ends.
module _ (first : Setting) (held : Held) (old : CombinedTaker) (reader : LockReading)
    (bits : List Bool) (settings : List Setting) (heard : List HeardCopy) (fresh : IsFresh reader)
    (over : LockHeard first held old bits settings heard) where
  abbrev new : CombinedTaker
  new = with_reader old reader

  abbrev lock : Lock
  lock = over.takes.lock

  abbrev older : List Lock
  older = over.takes.older

  abbrev all : List PlacedCopy
  all = ended_placed bits (lock ∷ older) (hunting over.takes.from)

  abbrev text : List ℕ
  text = text_after (first_role bits lock.at) (word_of_lock bits lock.at) (lock.last + 1)

  same_text : lock_bytes bits lock.at (lock.last + 1) ≡ text
  same_text =
      bytes_are_reading (first_role bits lock.at) (word_of_lock bits lock.at) lock.at
      (lock.last + 1)

  -- with these copies at the end of it
  stands_so : (more : List HeardCopy) → heard ++ more ≡ heard_by first settings all
      → HearerStands first (hearer_of held new.copies) bits settings (copies_of (heard ++ more))
      → CombinedStands first held new bits settings (heard ++ more)
  stands_so more is hearer = record {
    hearer = hearer;
    takes = record {
      synchroniser = over.takes.synchroniser;
      at = record {
        locks = lock ∷ older;
        now = hunting over.takes.from;
        stands = over.takes.stands;
        takes = fresh;
      };
    };
    heard = record {
      locks = lock ∷ older;
      now = hunting over.takes.from;
      stands = over.takes.stands;
      heard = is;
    };
  }

  pub none_stands : open_headers text ≡ []
      → HearerStands first (hearer_of held new.copies) bits settings (copies_of heard)
      → CombinedStands first held new bits settings heard
  none_stands none hearer =
      let is : heard ++ [] ≡ heard_by first settings all =
      append-nil heard ∙ over.heard
      ∙ ap (heard_by first settings) (sym (whole_lock bits lock older over.takes.from []
      (ap open_headers same_text ∙ none) ∙ append-nil (before_end bits lock older))) in
      subst (CombinedStands first held new bits settings) (append-nil heard)
      (stands_so [] is (subst (λ l. HearerStands first (hearer_of held new.copies) bits settings
      (copies_of l)) (sym (append-nil heard)) hearer))

  one_stands : ClosesReady text reader.finder
      → CopyIsOver first (hearer_of held new.copies) bits settings (copies_of heard)
      → CopyHeard first held new bits settings heard
  one_stands closes is =
      let header : Header = closes.header in
      let bytes : List ℕ = lock_bytes bits lock.at (lock.last + 1) in
      let copy : Copy = closed_copy bytes header in
      let at = lock_positions bits lock.at (lock.last + 1) in
      let one = placed_as (positions_in_past lock.how) (lock_text bits lock.at (lock.last + 1)) at
      copy in
      let hc : HeardCopy = heard_as first settings one in
      let x : TaggedCopy = ready_copy is.copy old.copies.tag in
      let r = is.stands.reads in
      let whole : all ≡ before_end bits lock older ++ one ∷ [] =
      whole_lock bits lock older over.takes.from (header ∷ [])
      (ap open_headers same_text ∙ closes.was_open) in
      let listed : heard ++ hc ∷ [] ≡ heard_by first settings all =
      sym (ap (heard_by first settings) whole
      ∙ heard-append first settings (before_end bits lock older) (one ∷ [])
      ∙ ap₂ (λ a b. a ++ b) (sym over.heard) (heard-one first settings one)) in
      let parted : copies_of (heard ++ hc ∷ []) ≡ copies_of heard ++ hc.copy ∷ [] =
      map-append (λ (c : HeardCopy). c.copy) heard (hc ∷ []) in
      let tagged : copies_of heard ++ x ∷ [] ≡ copies_of heard ++ hc.copy ∷ [] =
      r.ended ∙ ap (copies_by first settings)
      (one_told (λ ls n. ended_so_far bits ls n) bits r.locks (lock ∷ older) r.now
      (hunting over.takes.from) r.stands over.takes.stands
      ∙ sym (found-ended bits (lock ∷ older) (hunting over.takes.from)))
      ∙ sym (copies-heard first settings all) ∙ ap copies_of (sym listed) ∙ parted in
      let same : x ≡ hc.copy = (same_last (copies_of heard) (copies_of heard) x hc.copy tagged).1 in
      record {
        copy = hc;
        has = record {
          ready = ready_is reader.finder is.copy old.copies.tag is.ready ∙ ap (λ y. y ∷ []) same;
          positions = over.takes.noted header closes.was_open
              ∙ ap noted (sym (past-open lock.how at header closes.was_open))
              ∙ ap (λ h. noted (positions_in_past lock.how at h))
              (sym (header_of_closed bytes header));
        };
        stands = stands_so (hc ∷ []) listed
            (subst (HearerStands first (hearer_of held new.copies) bits settings)
            (tagged ∙ sym parted) is.stands);
      }

  closed_by : (ready : Bool) → ClosesHeld text reader.finder → is_ready reader.finder ≡ ready
      → IsOver first (hearer_of held new.copies) bits settings (copies_of heard)
      (over_with ready false)
      → CombinedOver first held new bits settings heard (over_with ready false)
  closed_by true end is hears = one_stands (end.some is) hears
  closed_by false end is hears = none_stands (end.none is).none hears

  pub lock_ends : ((first : Role) (words : ℕ → ℕ) (n : ℕ)
      → ReadsLock old.copies.reader first words n
      → ClosesHeld (text_after first words n) reader.finder)
      → CombinedOver first held new bits settings heard (over_with (is_ready reader.finder) false)
  lock_ends ends =
      closed_by (is_ready reader.finder)
      (ends (first_role bits lock.at) (word_of_lock bits lock.at) (lock.last + 1) over.takes.reads)
      refl
      (lock_closed first (hearer_of held old.copies) reader bits settings (copies_of heard) fresh
      ends over.hearer)

-- The text of a lock is left where no copy stands open in it.
pub lock_left : (first : Setting) (held : Held) (old : CombinedTaker) (reader : LockReading)
    (bits : List Bool) (settings : List Setting) (heard : List HeardCopy) → IsFresh reader
    → ((first : Role) (words : ℕ → ℕ) (n : ℕ) → ReadsLock old.copies.reader first words n
    → ClosesNone (text_after first words n)) → LockHeard first held old bits settings heard
    → CombinedStands first held (with_reader old reader) bits settings heard
lock_left first held old reader bits settings heard fresh none over =
    let lock = over.takes.lock in
    none_stands first held old reader bits settings heard fresh over
    (none (first_role bits lock.at) (word_of_lock bits lock.at) (lock.last + 1)
    over.takes.reads).none
    (lock_ended_none first (hearer_of held old.copies) reader bits settings (copies_of heard) fresh
    none over.hearer)

-- a copy that is ready stands open no more
-- All elements were heard, and the text that stands ends.

-- an empty text has no copies
all_in-nil : all_in [] ≡ []
unfolding bytes_of
all_in-nil =
    all_in-parts []
    ∙ ap₂ (λ x y. x ++ y) ended_in-nil
    (ap (λ (hs : List Header). map (λ header. found_copy [] (closed_copy [] header)) hs)
    open_headers-nil)

-- those that were found are those that are found to the end
pub found-end : (bits : List Bool) (locks : List Lock) (now : Now)
    → found_of (placed_to_end bits locks now) ≡ found_to_end bits locks now
unfolding placed_to_end found_to_end
found-end bits locks (hunting p) =
    map-append (λ (one : PlacedCopy). one.found) (past_placed bits locks) []
    ∙ ap₂ (λ x y. x ++ y) (found-past bits locks) (sym all_in-nil)
found-end bits locks (locked p t) =
    let n = whole_words bits t in
    map-append (λ (one : PlacedCopy). one.found) (past_placed bits locks)
    (placed all_of bits t n (copies (lock_bytes bits t n)))
    ∙ ap₂ (λ x y. x ++ y) (found-past bits locks)
    (found-placed all_of bits t n (copies (lock_bytes bits t n)))

-- those of a lock that stands, to its end
end-parts : (bits : List Bool) (locks : List Lock) (p t : ℕ) (headers : List Header)
    → open_headers (lock_bytes bits t (whole_words bits t)) ≡ headers
    → placed_to_end bits locks (locked p t)
    ≡ ended_placed bits locks (locked p t)
    ++ placed all_of bits t (whole_words bits t)
    (map (closed_copy (lock_bytes bits t (whole_words bits t))) headers)
unfolding placed_to_end ended_placed
end-parts bits locks p t headers is =
    let n = whole_words bits t in
    let bytes : List ℕ = lock_bytes bits t n in
    ap (λ l. past_placed bits locks ++ l) (placed-parts all_of bits t n)
    ∙ sym (append_assoc (past_placed bits locks) (placed all_of bits t n (ended_copies bytes))
    (placed all_of bits t n (map (closed_copy bytes) (open_headers bytes))))
    ∙ ap (λ hs. (past_placed bits locks ++ placed all_of bits t n (ended_copies bytes))
    ++ placed all_of bits t n (map (closed_copy bytes) hs)) is

module _ (first : Setting) (held : Held) (old : CombinedTaker) (reader : LockReading)
    (bits : List Bool) (settings : List Setting) (heard : List HeardCopy)
    (ends : (first : Role) (words : ℕ → ℕ) (n : ℕ) → ReadsLock old.copies.reader first words n
    → ClosesHeld (text_after first words n) reader.finder)
    (over : CombinedStands first held old bits settings heard) where
  abbrev after : CombinedTaker
  after = with_reader old reader

  -- what was heard with those that the end adds
  with_end : (locks : List Lock) (now : Now) → IsNow bits locks now → (more : List PlacedCopy)
      → placed_to_end bits locks now ≡ ended_placed bits locks now ++ more
      → heard ++ heard_by first settings more
      ≡ heard_by first settings (placed_to_end bits locks now)
  with_end locks now is more whole =
      sym (ap (heard_by first settings) whole
      ∙ heard-append first settings (ended_placed bits locks now) more
      ∙ ap (λ l. l ++ heard_by first settings more)
      (sym (over.heard.heard ∙ one_told (λ ls n. heard_by first settings (ended_placed bits ls n))
      bits over.heard.locks locks over.heard.now now over.heard.stands is)))

  -- the end adds none
  none_left_open : (locks : List Lock) (now : Now) → IsNow bits locks now
      → placed_to_end bits locks now ≡ ended_placed bits locks now ++ []
      → is_ready reader.finder ≡ false → AllHeard first held after bits settings heard
  none_left_open locks now is whole ready = record {
    last = [];
    ready = none_ready reader.finder.copy reader.finder.text old.copies.tag ready;
    positions = All-nil (λ (one : HeardCopy). old.notes.positions ≡ noted one.positions);
    all = record {
      locks = locks;
      now = now;
      stands = is;
      heard = ap (λ l. heard ++ l) (sym (heard-nil first settings))
          ∙ with_end locks now is [] whole;
    };
  }

  -- the end closes this one
  one_closed : (locks : List Lock) (p t : ℕ) → IsNow bits locks (locked p t)
      → TakesLock old (first_role bits t) (word_of_lock bits t) (whole_words bits t)
      → ClosesReady (text_after (first_role bits t) (word_of_lock bits t) (whole_words bits t))
      reader.finder → AllHeard first held after bits settings heard
  one_closed locks p t is takes closes =
      let n : ℕ = whole_words bits t in
      let role : Role = first_role bits t in
      let words : ℕ → ℕ = word_of_lock bits t in
      let header : Header = closes.header in
      let bytes : List ℕ = lock_bytes bits t n in
      let taken = positions role words n in
      let same_bytes : bytes ≡ text_after role words n = bytes_are_reading role words t n in
      let one = placed_as all_of (lock_text bits t n) (lock_positions bits t n)
      (closed_copy bytes header) in
      let hc : HeardCopy = heard_as first settings one in
      let x : TaggedCopy = ready_copy (closed_copy (text_after role words n) header) old.copies.tag in
      let handed : ready_copies (hearer_of held after.copies) ≡ x ∷ [] =
      ready_is reader.finder (closed_copy (text_after role words n) header) old.copies.tag
      closes.ready in
      let listed : heard ++ hc ∷ []
      ≡ heard_by first settings (placed_to_end bits locks (locked p t)) =
      ap (λ l. heard ++ l) (sym (heard-one first settings one))
      ∙ with_end locks (locked p t) is (one ∷ [])
      (end-parts bits locks p t (header ∷ []) (ap open_headers same_bytes ∙ closes.was_open)) in
      let ended = all_closed first (hearer_of held old.copies) reader bits settings
      (copies_of heard) ends over.hearer in
      let tagged : copies_of heard ++ x ∷ [] ≡ copies_of heard ++ hc.copy ∷ [] =
      ap (λ l. copies_of heard ++ l) (sym handed) ∙ ended.ended
      ∙ ap (copies_by first settings)
      (one_told (λ ls m. found_to_end bits ls m) bits ended.locks locks ended.now (locked p t)
      ended.stands is ∙ sym (found-end bits locks (locked p t)))
      ∙ sym (copies-heard first settings (placed_to_end bits locks (locked p t)))
      ∙ ap copies_of (sym listed) ∙ map-append (λ (c : HeardCopy). c.copy) heard (hc ∷ []) in
      let same : x ≡ hc.copy = (same_last (copies_of heard) (copies_of heard) x hc.copy tagged).1 in
      let behind : old.notes.positions ≡ noted hc.positions =
      takes.notes.noted.positions
      ∙ ap (λ k. noted (drop k taken)) (takes.notes.behind header closes.was_open)
      ∙ ap noted (sym (open-whole taken header closes.was_open))
      ∙ ap (λ h. noted (positions_of taken h)) (sym (header_of_closed bytes header)) in
      record {
        last = hc ∷ [];
        ready = handed ∙ ap (λ y. y ∷ []) same;
        positions = All-cons (λ (one : HeardCopy). old.notes.positions ≡ noted one.positions) hc []
            behind (All-nil (λ (one : HeardCopy). old.notes.positions ≡ noted one.positions));
        all = record {
          locks = locks;
          now = locked p t;
          stands = is;
          heard = listed;
        };
      }

  by_ready : (locks : List Lock) (p t : ℕ) → IsNow bits locks (locked p t)
      → TakesLock old (first_role bits t) (word_of_lock bits t) (whole_words bits t)
      → (ready : Bool) → is_ready reader.finder ≡ ready
      → ClosesHeld (text_after (first_role bits t) (word_of_lock bits t) (whole_words bits t))
      reader.finder → AllHeard first held after bits settings heard
  by_ready locks p t is takes true ready end = one_closed locks p t is takes (end.some ready)
  by_ready locks p t is takes false ready end =
      none_left_open locks (locked p t) is
      (end-parts bits locks p t []
      (ap open_headers (bytes_are_reading (first_role bits t) (word_of_lock bits t) t
      (whole_words bits t)) ∙ (end.none ready).none)) ready

  by_now : (locks : List Lock) (now : Now) → IsNow bits locks now → TakesNow old bits now
      → AllHeard first held after bits settings heard
  unfolding placed_to_end ended_placed positions
  by_now locks (hunting p) is fresh =
      let role : Role = first_role bits 0 in
      let words : ℕ → ℕ = word_of_lock bits 0 in
      none_left_open locks (hunting p) is (sym (append-nil (past_placed bits locks ++ [])))
      (not_ready (is_ready reader.finder) refl (ends role words 0 (fresh.fresh role words)))
    where
      not_ready : (ready : Bool) → is_ready reader.finder ≡ ready → ClosesHeld [] reader.finder
          → is_ready reader.finder ≡ false
      not_ready false is end = is
      not_ready true is end =
          let closes = end.some is in
          absurd (let none : closes.header ∷ [] ≡ [] = sym closes.was_open ∙ open_headers-nil in cc)
  by_now locks (locked p t) is takes =
      by_ready locks p t is takes (is_ready reader.finder) refl
      (ends (first_role bits t) (word_of_lock bits t) (whole_words bits t) takes.reads)

  pub all_end : AllHeard first held after bits settings heard
  all_end =
      let at = over.takes.at in by_now at.locks at.now at.stands at.takes
