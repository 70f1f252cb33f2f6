-- What one more element does to what a hearer stands after.
use Rattle.std.proofs.Common.{◌≡◌, ℕ, zero, suc, ◌+◌, ◌*◌, ◌<◌, ◌≤◌, Bool, List, [], ◌∷◌, ◌++◌}
use Rattle.std.proofs.Common.{length, None, refl, sym, ap, ◌∙◌, subst, arith}
use Rattle.std.specs.List.{All}
use Rattle.std.proofs.lemmas.List.{get_or_append_left, length_push}
use Rattle.std.proofs.lemmas.List.Elements.{All-nil, All-head, All-tail, All-weaker}
use Rattle.nx_sync.specs.Locks.{Lock, Now, hunting, locked, IsNow, IsPattern}
use Rattle.nx_sync.specs.Steps.{IsStep}
use Rattle.nx_sync.specs.Words.{word_of_lock, first_role, whole_words}
use Rattle.nx_sync.specs.declared.step.Role.{Role}
use Rattle.nx_sync.specs.declared.step.Step.{Step}
use Rattle.nx_sync.proofs.lemmas.states.KeptPast.{word_at-more, first_role-more}
use Rattle.nx_fec.specs.emissions.Pairing.{IsLatest}
use Rattle.nx_code.specs.Reading.{shift_after_all, text}
use Rattle.nx_code.specs.declared.shifts.Shift.TheVariants.{Letters}
use Rattle.nx_envelope.specs.Finder as finders
use Rattle.nx_copies.specs.declared.copy_taker.CopyTag.{CopyTag}
use Rattle.nx_copies.specs.Events.{Setting}
use Rattle.nx_copies.specs.copies.FoundCopies.{FoundCopy, ended_in, past_copies, standing_text}
use Rattle.nx_copies.specs.copies.FoundCopies.{ended_so_far, TaggedCopy, tag}
use Rattle.nx_copies.specs.LockReader.{ReadsLock}
use Rattle.nx_copies.specs.copies.LockText.{dx_words}
use Rattle.nx_copies.specs.LockReader.{LockReading}
use Rattle.nx_copies.specs.copies.LockText.{PlacedByte, lock_text, text_by}
use Rattle.nx_copies.specs.hearing.CopyHearer.{HasTag, ReadsNow, ReadsOver, copies_by, setting_in}
use Rattle.nx_copies.proofs.lemmas.QuietElements.{no_word}
use Rattle.nx_copies.proofs.lemmas.locks.Found.{IsByteIn, IsCopyIn, text_placed}
use Rattle.nx_copies.proofs.lemmas.locks.Growing.{past_copies-more, whole_heard}
use Rattle.nx_copies.proofs.lemmas.locks.Moves.{Moves, ends_word, finds, goes_on, hunts_on, one_move}
use Rattle.nx_copies.proofs.lemmas.locks.Moves.{releases}
use Rattle.nx_copies.proofs.lemmas.locks.Texts.{lock_text-more, positions-same}
use Rattle.nx_copies.proofs.lemmas.printing.Logged.{ended_placed}
use Rattle.nx_copies.proofs.lemmas.locks.Told.{past_now}
use Rattle.nx_copies.proofs.lemmas.copy_hearer.Texts.{tag-later}

-- words that are the same up to a word leave the reader where it stands
dx_words-same : (first : Role) (f g : ℕ → ℕ) (n : ℕ) → ((j : ℕ) → j < n → f j ≡ g j)
    → dx_words first f n ≡ dx_words first g n
unfolding dx_words
dx_words-same first f g zero same = refl
dx_words-same first f g (suc n) same =
    simp (dx_words-same first f g n (λ j h. same j (omega arith)), same n (omega arith))

reads-same : (reader : LockReading) (first other : Role) (f g : ℕ → ℕ) (n : ℕ) → first ≡ other
    → ((j : ℕ) → j < n → f j ≡ g j) → ReadsLock reader first f n → ReadsLock reader other g n
reads-same reader first other f g n e same r =
    subst (λ (role : Role). ReadsLock reader role g n) e (record {
      latest = subst (IsLatest reader.diversity) (dx_words-same first f g n same) r.latest;
      shift = r.shift ∙ ap (λ l. shift_after_all l Letters) (positions-same first f g n same);
      finder = subst (λ l. finders.StandsAfter reader.finder (text l Letters))
          (positions-same first f g n same) r.finder;
    })

-- more elements leave the reader where it stands in a lock
pub reads-more : (reader : LockReading) (bits more : List Bool) (t n : ℕ) → IsPattern bits t
    → t + 7 * n ≤ length bits
    → ReadsLock reader (first_role bits t) (word_of_lock bits t) n
    → ReadsLock reader (first_role (bits ++ more) t) (word_of_lock (bits ++ more) t) n
reads-more reader bits more t n here h r =
    reads-same reader (first_role bits t) (first_role (bits ++ more) t) (word_of_lock bits t)
    (word_of_lock (bits ++ more) t) n (sym (first_role-more bits more t here.enough here.heard))
    (λ j lt. sym (word_at-more bits more t j (omega arith))) r

-- copies whose second digits were heard keep their tags
pub copies_by-later : (first : Setting) (settings later : List Setting) (n : ℕ)
    → n ≤ length settings → (copies : List FoundCopy) → All (IsCopyIn 0 n) copies
    → copies_by first (settings ++ later) copies ≡ copies_by first settings copies
unfolding copies_by
copies_by-later first settings later n h [] k = refl
copies_by-later first settings later n h (copy ∷ copies) k =
    let here = All-head (IsCopyIn 0 n) copy copies k in
    ap (λ s. tag s copy ∷ copies_by first (settings ++ later) copies)
    (get_or_append_left settings later first copy.place (omega (arith, here.1, h)))
    ∙ ap (λ l. tag (setting_in first settings copy.place) copy ∷ l)
    (copies_by-later first settings later n h copies (All-tail (IsCopyIn 0 n) copy copies k))

-- the text that stands was heard
standing_heard : (bits : List Bool) (locks : List Lock) (now : Now) → IsNow bits locks now
    → All (IsByteIn 0 (length bits)) (standing_text bits now)
standing_heard bits locks (hunting p) is = All-nil (IsByteIn 0 (length bits))
standing_heard bits locks (locked p t) is =
    let heard = whole_heard bits t is.found.here.heard in
    All-weaker (IsByteIn t (t + 7 * whole_words bits t)) (IsByteIn 0 (length bits))
    (λ b h. (omega arith, omega (arith, h.1, heard))) (lock_text bits t (whole_words bits t))
    (text_placed _ _ t (whole_words bits t))

module _ (first : Setting) (bits : List Bool) (b : Bool) (settings : List Setting) (s : Setting)
    (many : length settings ≡ length bits) where
  abbrev bits' : List Bool
  bits' = bits ++ b ∷ []

  abbrev settings' : List Setting
  settings' = settings ++ s ∷ []

  as_many : length settings' ≡ length bits'
  as_many = omega (arith, length_push bits b, length_push settings s, many)

  -- what ended before keeps its tags
  ended_before : (locks : List Lock) (now : Now) → IsNow bits locks now
      → copies_by first settings' (ended_so_far bits locks now)
      ≡ copies_by first settings (ended_so_far bits locks now)
  ended_before locks now is =
      copies_by-later first settings (s ∷ []) (length bits) (omega (arith, many))
      (ended_so_far bits locks now) (ended_placed bits locks now is)

  -- an element that leaves the text that stands
  keeps_text : (reader : LockReading) (kept : CopyTag) (locks : List Lock) (now next : Now)
      → IsNow bits locks now → IsNow bits' locks next
      → standing_text bits' next ≡ standing_text bits now → ReadsNow reader bits' next
      → HasTag first settings (standing_text bits now) kept
      → ReadsOver first reader kept bits' settings'
      (copies_by first settings (ended_so_far bits locks now))
  unfolding ended_so_far
  keeps_text reader kept locks now next is on same reads k =
      let past = past_now bits locks now is in
      record {
        locks = locks;
        now = next;
        stands = on;
        many = as_many;
        ended = sym (ended_before locks now is)
            ∙ ap (copies_by first settings')
            (ap (λ l. l ++ ended_in (standing_text bits now))
            (sym (past_copies-more bits (b ∷ []) locks past.0 past.1))
            ∙ ap (λ t. past_copies bits' locks ++ ended_in t) (sym same));
        reads = reads;
        has_tag = subst (λ (t : List PlacedByte). HasTag first settings' t kept) (sym same)
            (tag-later first settings (s ∷ []) (standing_text bits now) kept 0 (length bits)
            (standing_heard bits locks now is) (omega (arith, many)) k);
      }

  -- an element with which no word is complete
  quiet_case : (reader : LockReading) (kept : CopyTag) (locks : List Lock) (now : Now)
      → IsNow bits locks now → ReadsNow reader bits now
      → HasTag first settings (standing_text bits now) kept
      → (r : Step) → r.word ≡ None → (newer : List Lock) (next : Now) → IsNow bits' newer next
      → Moves bits bits' r locks now newer next → ReadsOver first reader kept bits' settings'
      (copies_by first settings (ended_so_far bits locks now))
  unfolding text_by
  quiet_case reader kept locks (hunting p) is reads k r none newer (hunting q) on (hunts_on f) =
      keeps_text reader kept locks (hunting p) (hunting p) is on refl reads k
  quiet_case reader kept locks (hunting p) is reads k r none newer (locked q t) on (finds g f) =
      let whole : whole_words bits' t ≡ 0 = omega (arith, g) in
      keeps_text reader kept locks (hunting p) (locked p t) is on (ap (lock_text bits' t) whole)
      (subst (ReadsLock reader (first_role bits' t) (word_of_lock bits' t)) (sym whole)
      (reads.fresh (first_role bits' t) (word_of_lock bits' t))) k
  quiet_case reader kept locks (locked p t) is reads k r none newer (locked q u) on
      (goes_on whole f) =
      let heard = whole_heard bits t is.found.here.heard in
      keeps_text reader kept locks (locked p t) (locked p t) is on
      (ap (lock_text bits' t) whole
      ∙ lock_text-more bits (b ∷ []) t (whole_words bits t) is.found.here heard)
      (subst (ReadsLock reader (first_role bits' t) (word_of_lock bits' t)) (sym whole)
      (reads-more reader bits (b ∷ []) t (whole_words bits t) is.found.here heard reads)) k
  quiet_case reader kept locks (locked p t) is reads k r none newer (locked q u) on
      (ends_word n e f) = absurd (no_word r _ none (ap (λ x. x.word) f))
  quiet_case reader kept locks (locked p t) is reads k r none newer (hunting q) on
      (releases lock y z f) = absurd (no_word r _ none (ap (λ x. x.word) f))

pub quiet_bit : (first : Setting) (reader : LockReading) (kept : CopyTag) (bits : List Bool)
    (b : Bool) (settings : List Setting) (s : Setting) (copies : List TaggedCopy) (r : Step)
    → ReadsOver first reader kept bits settings copies → IsStep (bits ++ b ∷ []) r → r.word ≡ None
    → ReadsOver first reader kept (bits ++ b ∷ []) (settings ++ s ∷ []) copies
quiet_bit first reader kept bits b settings s copies r o is none =
    subst (ReadsOver first reader kept (bits ++ b ∷ []) (settings ++ s ∷ [])) (sym o.ended)
    (quiet_case first bits b settings s o.many reader kept o.locks o.now o.stands o.reads o.has_tag
    r none is.locks is.now is.stands (one_move bits b r o.locks o.now o.stands is))
