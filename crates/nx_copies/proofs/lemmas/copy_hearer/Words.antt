-- What a word of the lock does to what a hearer stands after, with its last element.
use Rattle.std.proofs.Common.{◌≡◌, ℕ, ◌+◌, ◌*◌, ◌≤◌, Bool, true, false, is_some, List, [], ◌∷◌}
use Rattle.std.proofs.Common.{◌++◌, length, Option, Some, sym, ap, ◌∙◌, subst, arith, append_assoc}
use Rattle.std.proofs.Common.{append-nil}
use Rattle.std.proofs.lemmas.List.{length_push}
use Rattle.nx_sync.specs.Locks.{Lock, Now, hunting, locked, IsNow, Past, IsPattern}
use Rattle.nx_sync.specs.Steps.{IsStep, step}
use Rattle.nx_sync.specs.Synchroniser.{Held, StandsAfter}
use Rattle.nx_sync.specs.Words.{word_of_lock, first_role, role_of, whole_words, heard_word}
use Rattle.nx_sync.specs.declared.step.Role.{Role}
use Rattle.nx_sync.specs.declared.step.Step.{Step}
use Rattle.nx_envelope.specs.Finder.{is_over}
use Rattle.nx_copies.specs.declared.copy_taker.CopyTaker.{CopyTaker}
use Rattle.nx_copies.specs.declared.copy_taker.CopyTag.{CopyTag}
use Rattle.nx_copies.specs.declared.copy_taker.Over.{Over}
use Rattle.nx_copies.specs.Events.{Setting}
use Rattle.nx_copies.specs.copies.FoundCopies.{FoundCopy, ended_in, past_copies, standing_text}
use Rattle.nx_copies.specs.copies.FoundCopies.{ended_so_far, TaggedCopy}
use Rattle.nx_copies.specs.LockReader.{ReadsLock}
use Rattle.nx_copies.specs.private.ReaderWords.{word_place}
use Rattle.nx_copies.specs.copies.LockText.{PlacedByte, lock_text}
use Rattle.nx_copies.specs.hearing.CopyHearer.{HasTag, IsOver, LockIsOver, ReadsNow, ReadsOver}
use Rattle.nx_copies.specs.hearing.CopyHearer.{HearerStands, copies_by, over_with}
use Rattle.nx_copies.specs.hearing.CopyTaker.{setting_of, tag_after}
use Rattle.nx_copies.specs.private.CopyTaker.{ReadsWord}
use Rattle.nx_copies.specs.hearing.CopyTaker.{hearer_of}
use Rattle.nx_copies.specs.hearing.CopyHearing.{CopyHearing}
use Rattle.nx_copies.proofs.lemmas.QuietElements.{no_word}
use Rattle.nx_copies.proofs.lemmas.locks.Found.{text_placed}
use Rattle.nx_copies.proofs.lemmas.locks.Growing.{past_copies-more}
use Rattle.nx_copies.proofs.lemmas.locks.Moves.{Moves, ends_word, finds, goes_on, hunts_on, one_move}
use Rattle.nx_copies.proofs.lemmas.locks.Moves.{releases}
use Rattle.nx_copies.proofs.lemmas.locks.Texts.{lock_text-more}
use Rattle.nx_copies.proofs.lemmas.printing.Logged.{ended_placed}
use Rattle.nx_copies.proofs.lemmas.copy_hearer.Texts.{AfterWord, Brought, adds_byte, after_word}
use Rattle.nx_copies.proofs.lemmas.copy_hearer.Texts.{copies_by-append}
use Rattle.nx_copies.proofs.lemmas.copy_hearer.Bits.{copies_by-later, reads-more}

-- what is over, by what a word brought to the copies
stand_on : (first : Setting) (hearer : CopyHearing) (bits : List Bool) (settings : List Setting)
    (copies new : List TaggedCopy) (is_copy_over : Bool)
    → Brought is_copy_over new hearer.reader.finder hearer.tag
    → HearerStands first hearer bits settings (copies ++ new)
    → IsOver first hearer bits settings copies (over_with is_copy_over false)
stand_on first hearer bits settings copies new false brought stands =
    subst (HearerStands first hearer bits settings)
    (ap (λ l. copies ++ l) brought ∙ append-nil copies) stands
stand_on first hearer bits settings copies new true brought stands =
    record {
      copy = brought.copy;
      ready = brought.ready;
      stands =
          subst (HearerStands first hearer bits settings) (ap (λ l. copies ++ l) brought.is) stands;
    }

be_over : (first : Setting) (hearer : CopyHearing) (bits : List Bool) (settings : List Setting)
    (copies new : List TaggedCopy) (is_copy_over : Bool)
    → Brought is_copy_over new hearer.reader.finder hearer.tag
    → LockIsOver first hearer bits settings (copies ++ new)
    → IsOver first hearer bits settings copies (over_with is_copy_over true)
be_over first hearer bits settings copies new false brought stands =
    subst (LockIsOver first hearer bits settings) (ap (λ l. copies ++ l) brought
    ∙ append-nil copies) stands
be_over first hearer bits settings copies new true brought stands =
    record {
      copy = brought.copy;
      ready = brought.ready;
      lock =
          subst (LockIsOver first hearer bits settings) (ap (λ l. copies ++ l) brought.is) stands;
    }

-- The last element of word k of the lock at t was heard after these elements.
module _ (first : Setting) (bits : List Bool) (b : Bool) (settings : List Setting)
    (many : length settings ≡ length bits) (old new : CopyTaker) (held : Held)
    (answer : Option Over) (synchroniser : StandsAfter held (bits ++ b ∷ [])) where
  abbrev bits' : List Bool
  bits' = bits ++ b ∷ []

  abbrev settings' : List Setting
  settings' = settings ++ setting_of old ∷ []

  abbrev hearer : CopyHearing
  hearer = hearer_of held new

  longer : length bits' ≡ length bits + 1
  longer = length_push bits b

  as_many : length settings' ≡ length bits'
  as_many = omega (arith, length_push bits b, length_push settings (setting_of old), many)

  -- what the text of the lock and its copies are after word k
  pub record WordRead (t k : ℕ) (is_changed : Bool) : Type 0 where
    pub is_copy_over : Bool
    pub after : AfterWord first settings' (lock_text bits t k) (lock_text bits' t (k + 1)) new.tag
        new.reader.finder is_copy_over
    pub reads : ReadsLock new.reader (first_role bits' t) (word_of_lock bits' t) (k + 1)
    pub is : answer ≡ over_with is_copy_over is_changed

  word_read : (t k : ℕ) → IsPattern bits t → length bits' ≡ t + 7 * (k + 1)
      → ReadsLock old.reader (first_role bits t) (word_of_lock bits t) k
      → HasTag first settings (lock_text bits t k) old.tag
      → (w : ℕ) (role : Role) (is_changed : Bool) → word_of_lock bits' t k ≡ w
      → role ≡ role_of (first_role bits' t) k → ReadsWord old new w role is_changed answer
      → WordRead t k is_changed
  word_read t k here e reads has_tag w role is_changed is_word is_role r =
      let heard : t + 7 * k ≤ length bits = omega (arith, e, longer) in
      let at = reads-more old.reader bits (b ∷ []) t k here heard reads in
      let same = lock_text-more bits (b ∷ []) t k here heard in
      let adds = adds_byte (first_role bits' t) (word_of_lock bits' t) t k new.reader.finder r.event
      (r.hears (first_role bits' t) (word_of_lock bits' t) k at is_word is_role) in
      let after = after_word first settings (lock_text bits' t k) (lock_text bits' t (k + 1))
      (hearer_of held old) t
      (t + 7 * k) (word_place t k) new.reader.finder r.event
      (text_placed (first_role bits' t) (word_of_lock bits' t) t k) (omega (arith, heard, many))
      (omega (arith, e, longer, many))
      (subst (λ (l : List PlacedByte). HasTag first settings l old.tag) (sym same) has_tag)
      adds in
      record {
        is_copy_over = is_over r.event;
        after = subst (λ (kept : CopyTag). AfterWord first settings' (lock_text bits t k)
            (lock_text bits' t (k + 1)) kept new.reader.finder (is_over r.event)) (sym r.kept)
            (subst (λ (l : List PlacedByte). AfterWord first settings' l (lock_text bits' t (k + 1))
            (tag_after (setting_of old) old.tag r.event) new.reader.finder (is_over r.event)) same
            after);
        reads = r.stands (first_role bits' t) (word_of_lock bits' t) k at is_word is_role;
        is = r.is;
      }

  -- the copies after it
  ended_with : (locks : List Lock) (p t k : ℕ) → IsNow bits locks (locked p t)
      → whole_words bits t ≡ k → (new : List FoundCopy)
      → ended_in (lock_text bits' t (k + 1)) ≡ ended_in (lock_text bits t k) ++ new
      → copies_by first settings (ended_so_far bits locks (locked p t))
      ++ copies_by first settings' new
      ≡ copies_by first settings'
      (past_copies bits' locks ++ ended_in (lock_text bits' t (k + 1)))
  unfolding ended_so_far
  ended_with locks p t k is whole new e =
      ap (λ l. l ++ copies_by first settings' new)
      (sym (copies_by-later first settings (setting_of old ∷ []) (length bits)
      (omega (arith, many)) (ended_so_far bits locks (locked p t))
      (ended_placed bits locks (locked p t) is)))
      ∙ sym (copies_by-append first settings' (ended_so_far bits locks (locked p t)) new)
      ∙ ap (copies_by first settings')
      (append_assoc (past_copies bits locks) (ended_in (lock_text bits t (whole_words bits t)))
      new
      ∙ ap (λ n. past_copies bits locks ++ (ended_in (lock_text bits t n) ++ new)) whole
      ∙ ap (λ l. past_copies bits locks ++ l) (sym e)
      ∙ ap (λ l. l ++ ended_in (lock_text bits' t (k + 1)))
      (sym (past_copies-more bits (b ∷ []) locks p is.past)))

  -- an element which releases the lock
  over_case : (w : ℕ) (role : Role) (locks : List Lock) (p : ℕ) (lock : Lock) (q : ℕ)
      → IsNow bits locks (locked p lock.at) → ReadsNow old.reader bits (locked p lock.at)
      → HasTag first settings (standing_text bits (locked p lock.at)) old.tag
      → (r : Step) → r.word ≡ Some (w, role) → ReadsWord old new w role (is_some r.change) answer
      → IsNow bits' (lock ∷ locks) (hunting q) → length bits' ≡ q
      → r ≡ step (Some (heard_word bits' lock.at lock.last)) (Some lock.how)
      → IsOver first hearer bits' settings'
      (copies_by first settings (ended_so_far bits locks (locked p lock.at))) answer
  unfolding Past
  over_case w role locks p lock q is reads k r one wr on end f =
      let n = lock.last in
      let t = lock.at in
      let e : length bits' ≡ t + 7 * (n + 1) = end ∙ on.past.0.next in
      let whole : whole_words bits t ≡ n = omega (arith, e, longer) in
      let both : Some (heard_word bits' t n) ≡ Some (w, role) = sym (ap (λ x. x.word) f) ∙ one in
      let pair : heard_word bits' t n ≡ (w, role) = cc in
      let read = word_read t n is.found.here e
      (subst (ReadsLock old.reader (first_role bits t) (word_of_lock bits t)) whole reads)
      (subst (λ (m : ℕ). HasTag first settings (lock_text bits t m) old.tag) whole k) w role
      (is_some r.change) (ap (λ x. x.0) pair) (sym (ap (λ x. x.1) pair)) wr in
      let changed : is_some r.change ≡ true = ap (λ x. is_some x.change) f in
      subst (IsOver first hearer bits' settings'
      (copies_by first settings (ended_so_far bits locks (locked p t))))
      (sym (read.is ∙ ap (over_with read.is_copy_over) changed))
      (be_over first hearer bits' settings'
      (copies_by first settings (ended_so_far bits locks (locked p t)))
      (copies_by first settings' read.after.new) read.is_copy_over read.after.brought (record {
        synchroniser = synchroniser;
        lock = lock;
        older = locks;
        from = q;
        stands = on;
        many = as_many;
        ended = ended_with locks p t n is whole read.after.new read.after.ended;
        reads = read.reads;
        has_tag = read.after.has_tag;
      }))

  -- an element with which a word of the lock is complete, or which releases the lock
  word_case : (w : ℕ) (role : Role) (locks : List Lock) (now : Now) → IsNow bits locks now
      → ReadsNow old.reader bits now → HasTag first settings (standing_text bits now) old.tag
      → (r : Step) → r.word ≡ Some (w, role) → ReadsWord old new w role (is_some r.change) answer
      → (newer : List Lock) (next : Now) → IsNow bits' newer next
      → Moves bits bits' r locks now newer next
      → IsOver first hearer bits' settings' (copies_by first settings (ended_so_far bits locks now))
      answer
  unfolding ended_so_far
  word_case w role locks (hunting p) is reads k r one wr newer (hunting q) on (hunts_on f) =
      absurd (no_word r (w, role) (ap (λ x. x.word) f) one)
  word_case w role locks (hunting p) is reads k r one wr newer (locked q t) on (finds g f) =
      absurd (no_word r (w, role) (ap (λ x. x.word) f) one)
  word_case w role locks (locked p t) is reads k r one wr newer (locked q u) on (goes_on same f) =
      absurd (no_word r (w, role) (ap (λ x. x.word) f) one)
  word_case w role locks (locked p t) is reads k r one wr newer (locked q u) on
      (ends_word n e f) =
      let whole : whole_words bits t ≡ n = omega (arith, e, longer) in
      let now_whole : n + 1 ≡ whole_words bits' t = omega (arith, e) in
      let both : Some (heard_word bits' t n) ≡ Some (w, role) = sym (ap (λ x. x.word) f) ∙ one in
      let pair : heard_word bits' t n ≡ (w, role) = cc in
      let read = word_read t n is.found.here e
      (subst (ReadsLock old.reader (first_role bits t) (word_of_lock bits t)) whole reads)
      (subst (λ (m : ℕ). HasTag first settings (lock_text bits t m) old.tag) whole k) w role
      (is_some r.change) (ap (λ x. x.0) pair) (sym (ap (λ x. x.1) pair)) wr in
      let still : is_some r.change ≡ false = ap (λ x. is_some x.change) f in
      subst (IsOver first hearer bits' settings'
      (copies_by first settings (ended_so_far bits locks (locked p t))))
      (sym (read.is ∙ ap (over_with read.is_copy_over) still))
      (stand_on first hearer bits' settings'
      (copies_by first settings (ended_so_far bits locks (locked p t)))
      (copies_by first settings' read.after.new) read.is_copy_over read.after.brought (record {
        synchroniser = synchroniser;
        reads = record {
          locks = locks;
          now = locked p t;
          stands = on;
          many = as_many;
          ended = ended_with locks p t n is whole read.after.new read.after.ended
              ∙ ap (λ (m : ℕ). copies_by first settings'
              (past_copies bits' locks ++ ended_in (lock_text bits' t m))) now_whole;
          reads = subst (ReadsLock new.reader (first_role bits' t) (word_of_lock bits' t)) now_whole
              read.reads;
          has_tag = subst (λ (m : ℕ). HasTag first settings' (lock_text bits' t m) new.tag)
              now_whole read.after.has_tag;
        };
      }))
  word_case w role locks (locked p t) is reads k r one wr newer (hunting q) on
      (releases lock y z f) =
      subst (λ (u : ℕ). IsNow bits locks (locked p u) → ReadsNow old.reader bits (locked p u)
      → HasTag first settings (standing_text bits (locked p u)) old.tag
      → IsOver first hearer bits' settings'
      (copies_by first settings (ended_so_far bits locks (locked p u))) answer) y
      (λ was at has. over_case w role locks p lock q was at has r one wr on z f) is reads k

pub word_bit : (first : Setting) (bits : List Bool) (b : Bool) (settings : List Setting)
    (copies : List TaggedCopy) (old new : CopyTaker) (held : Held) (answer : Option Over) (r : Step)
    (w : ℕ) (role : Role)
    → ReadsOver first old.reader old.tag bits settings copies → IsStep (bits ++ b ∷ []) r
    → r.word ≡ Some (w, role) → ReadsWord old new w role (is_some r.change) answer
    → StandsAfter held (bits ++ b ∷ [])
    → IsOver first (hearer_of held new) (bits ++ b ∷ []) (settings ++ setting_of old ∷ []) copies
    answer
word_bit first bits b settings copies old new held answer r w role o is one wr synchroniser =
    subst (λ (l : List TaggedCopy). IsOver first (hearer_of held new) (bits ++ b ∷ [])
    (settings ++ setting_of old ∷ []) l answer) (sym o.ended)
    (word_case first bits b settings o.many old new held answer synchroniser w role o.locks o.now
    o.stands o.reads o.has_tag r one wr is.locks is.now is.stands
    (one_move bits b r o.locks o.now o.stands is))
