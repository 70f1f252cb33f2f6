-- What one more element, and the elements of a step, do to what a taker of copies and of their
-- positions stands after.
use Rattle.std.proofs.Common.{◌≡◌, ℕ, ◌+◌, ◌*◌, ◌<◌, Bool, true, false, is_some, List, [], ◌∷◌}
use Rattle.std.proofs.Common.{◌++◌, length, Option, Some, None, sym, ap, ◌∙◌, subst, arith, refl}
use Rattle.std.proofs.Common.{cond, not, ◌&&◌, take, drop}
use Rattle.std.proofs.lemmas.List.{length_push}
use Rattle.nx_sync.specs.Locks.{Lock, Now, hunting, locked, IsNow, Past}
use Rattle.nx_sync.specs.Steps.{IsStep, step}
use Rattle.nx_sync.specs.Synchroniser.{Held, StandsAfter}
use Rattle.nx_sync.specs.Ahead.{BringsStep}
use Rattle.nx_sync.specs.Words.{word_of_lock, first_role, role_of, whole_words, heard_word}
use Rattle.nx_sync.specs.declared.step.Change.{Change}
use Rattle.nx_sync.specs.declared.step.Change.TheVariants.{Ended, Locked, LostLock}
use Rattle.nx_sync.specs.declared.step.Role.{Role}
use Rattle.nx_sync.specs.declared.step.Step.{Step}
use Rattle.nx_envelope.specs.Copies.{open_headers}
use Rattle.nx_envelope.specs.Finder.{is_over}
use Rattle.nx_envelope.specs.Header.{Header}
use Rattle.nx_envelope.specs.declared.found.TextEvent.{TextEvent}
use Rattle.nx_copies.specs.LockReader.{ReadsLock}
use Rattle.nx_copies.specs.copies.LockText.{positions, text_after}
use Rattle.nx_copies.specs.declared.copy_taker.Over.{Over}
use Rattle.nx_copies.specs.declared.copy_taker.CopyTaker.{CopyTaker}
use Rattle.nx_copies.specs.hearing.CopyHearer.{over_with}
use Rattle.nx_copies.specs.private.CopyTaker.{ReadsStep}
use Rattle.nx_copies.proofs.lemmas.QuietElements.{before_last, no_word}
use Rattle.nx_copies.proofs.lemmas.copy_hearer.Hears.{step_taken}
use Rattle.nx_copies.proofs.lemmas.locks.Growing.{whole_heard}
use Rattle.nx_copies.proofs.lemmas.locks.Moves.{Moves, ends_word, finds, goes_on, hunts_on, one_move}
use Rattle.nx_copies.proofs.lemmas.locks.Moves.{releases}
use Rattle.nx_combine.specs.CombinedTaker.{CopyNoted, Hears, LockTaken, NotesLock}
use Rattle.nx_combine.specs.CombinedTaker.{TakerOver, TakerStands, TakesAt, TakesLock, TakesNow}
use Rattle.nx_combine.specs.CombinedTaker.{open_positions, positions_after}
use Rattle.nx_combine.specs.CopyPositions.{positions_for, sure_count}
use Rattle.nx_combine.specs.Notes.{IsNoted, Noting, noted}
use Rattle.nx_combine.specs.declared.taker.CombinedTaker.{CombinedTaker}
use Rattle.nx_combine.specs.private.TakerSteps.{TakesStep, is_lost, left_by}
use Rattle.nx_combine.proofs.lemmas.Noted.{sure_left}
use Rattle.nx_combine.proofs.lemmas.Taking.{takes-more, takes_none, word_taken}

-- the taker's copies alone take a step
pub copies_step : (old new : CombinedTaker) (r : Step) (answer : Option Over)
    → TakesStep old new r answer → ReadsStep old.copies new.copies r answer
copies_step old new r answer takes = record {
  none = λ e. let n = takes.none e in (n.copies, n.is);
  some = λ word role e.
      let w = takes.some word role e in record {
        event = w.event;
        stands = λ first words n reads is at.
            rw w.copies (w.read.reads.stands first words n reads is at);
        hears = λ first words n reads is at.
            rw w.copies (w.read.reads.hears first words n reads is at);
        kept = ap (λ (k : CopyTaker). k.tag) w.copies;
        force = rw w.copies refl;
        is = w.is;
      };
}

-- a taker with the same reader and the same notes stands where the other one does
pub takes_too : (old new : CombinedTaker) (first : Role) (words : ℕ → ℕ) (n : ℕ)
    → new.copies.reader ≡ old.copies.reader → new.notes ≡ old.notes
    → TakesLock old first words n → TakesLock new first words n
takes_too old new first words n reader notes takes = record {
  reads = subst (λ r. ReadsLock r first words n) (sym reader) takes.reads;
  notes = subst (λ k. NotesLock k first words n) (sym notes) takes.notes;
}

module _ (bits : List Bool) (b : Bool) where
  abbrev bits' : List Bool
  bits' = bits ++ b ∷ []

  longer : length bits' ≡ length bits + 1
  longer = length_push bits b

  -- an element that brings nothing
  quiet_case : (taker : CombinedTaker) (locks : List Lock) (now : Now) → IsNow bits locks now
      → TakesNow taker bits now → (r : Step) → r ≡ step None None → (newer : List Lock) (next : Now)
      → IsNow bits' newer next → Moves bits bits' r locks now newer next → TakesAt taker bits'
  quiet_case taker locks (hunting p) is takes r none newer (hunting q) on (hunts_on f) =
      record { locks = newer; now = hunting q; stands = on; takes = takes }
  quiet_case taker locks (hunting p) is takes r none newer (locked q t) on (finds g f) =
      absurd (let change = ap (λ x. x.change) (sym none ∙ f) in cc)
  quiet_case taker locks (locked p t) is takes r none newer (locked q u) on (goes_on whole f) =
      record {
        locks = newer;
        now = locked q u;
        stands = on;
        takes = subst (TakesLock taker (first_role bits' t) (word_of_lock bits' t)) (sym whole)
            (takes-more taker bits (b ∷ []) t (whole_words bits t) is.found.here
            (whole_heard bits t is.found.here.heard) takes);
      }
  quiet_case taker locks (locked p t) is takes r none newer (locked q u) on (ends_word n e f) =
      absurd (no_word r _ (ap (λ x. x.word) none) (ap (λ x. x.word) f))
  quiet_case taker locks (locked p t) is takes r none newer (hunting q) on (releases lock y z f) =
      absurd (no_word r _ (ap (λ x. x.word) none) (ap (λ x. x.word) f))

pub quiet_after : (taker : CombinedTaker) (bits : List Bool) (b : Bool)
    → IsStep (bits ++ b ∷ []) (step None None) → TakesAt taker bits → TakesAt taker (bits ++ b ∷ [])
quiet_after taker bits b is o =
    quiet_case bits b taker o.locks o.now o.stands o.takes (step None None) refl is.locks is.now
    is.stands (one_move bits b (step None None) o.locks o.now o.stands is)

-- what is left of the notes for a copy that stands open where its lock is released so
left_noted : (how : Change) (event : TextEvent) (mid new : Noting) (first : Role) (words : ℕ → ℕ)
    (n from : ℕ) (header : Header) → IsNoted mid (positions_after first words n) from
    → new ≡ left_by (Some how) event mid → is_over event ≡ false
    → from ≡ positions_for (positions first words n) header.behind
    → new.positions ≡ noted (open_positions how (positions_after first words n) header)
left_noted Locked event mid new first words n from header is left over at =
    ap (λ (k : Noting). k.positions) left ∙ is.positions
    ∙ ap (λ k. noted (drop k (positions first words n))) at
left_noted Ended event mid new first words n from header is left over at =
    ap (λ (k : Noting). k.positions) left ∙ is.positions
    ∙ ap (λ k. noted (drop k (positions first words n))) at
left_noted LostLock event mid new first words n from header is left over at =
    let lock = positions_after first words n in
    ap (λ (k : Noting). k.positions) left
    ∙ ap
    (λ x. (cond (not x) (record mid { positions = take mid.sure mid.positions }) mid).positions)
    over
    ∙ sure_left mid lock from is
    ∙ ap (λ k. noted (drop k (take (sure_count lock.alike) lock.taken))) at

-- where a copy ended with the word, all of them are left
left_over : (change : Option Change) (event : TextEvent) (mid new : Noting)
    → new ≡ left_by change event mid → is_over event ≡ true → new ≡ mid
left_over change event mid new left over =
    left ∙ ap (λ x. cond (is_lost change && not x)
    (record mid { positions = take mid.sure mid.positions }) mid) over ∙ none (is_lost change)
  where
    none : (lost : Bool) → cond (lost && false)
        (record mid { positions = take mid.sure mid.positions }) mid ≡ mid
    none true = refl
    none false = refl

-- the positions of a copy that stands open where its lock is released; where one ended with the
-- word, none stands open
open_noted : (how : Change) (event : TextEvent) (mid new : Noting) (first : Role) (words : ℕ → ℕ)
    (n : ℕ) (header : Header) → NotesLock mid first words (n + 1)
    → new ≡ left_by (Some how) event mid
    → open_headers (text_after first words (n + 1)) ≡ header ∷ []
    → (is_over event ≡ true → CopyNoted mid first words n)
    → new.positions ≡ noted (open_positions how (positions_after first words (n + 1)) header)
open_noted how event mid new first words n header notes left is_open copy =
    elim (is_over event) as (λ x. is_over event ≡ x → new.positions
    ≡ noted (open_positions how (positions_after first words (n + 1)) header)) [
      | true ↦ λ over.
          let ended = copy over in
          absurd (let none : header ∷ [] ≡ [] =
          sym is_open ∙ ap open_headers ended.grows ∙ ended.ends.none in cc)
      | false ↦ λ over.
          left_noted how event mid new first words (n + 1) notes.from header notes.noted left over
          (notes.behind header is_open)
    ] refl

pub copy_too : (mid new : Noting) (first : Role) (words : ℕ → ℕ) (n : ℕ) → new ≡ mid
    → CopyNoted mid first words n → CopyNoted new first words n
copy_too mid new first words n e is = subst (λ k. CopyNoted k first words n) (sym e) is

module _ (h : List Bool) (new : CombinedTaker) (held : Held) (synchroniser : StandsAfter held h)
  where
    -- what is over with a word that brings no change
    pub stand_on : (locks : List Lock) (p t n : ℕ) → IsNow h locks (locked p t)
        → whole_words h t ≡ n + 1 → TakesLock new (first_role h t) (word_of_lock h t) (n + 1)
        → (over : Bool)
        → (over ≡ true → CopyNoted new.notes (first_role h t) (word_of_lock h t) n)
        → TakerOver held new h (over_with over false)
    stand_on locks p t n on whole takes false copy = record {
      synchroniser = synchroniser;
      at = record {
        locks = locks;
        now = locked p t;
        stands = on;
        takes = subst (TakesLock new (first_role h t) (word_of_lock h t)) (sym whole) takes;
      };
    }
    stand_on locks p t n on whole takes true copy = record {
      synchroniser = synchroniser;
      locks = locks;
      from = p;
      at = t;
      word = n;
      stands = on;
      whole = whole;
      takes = takes;
      copy = copy refl;
    }

    -- what is over with a word that releases the lock
    be_over : (over : Bool) (lock : LockTaken held new h)
        → (over ≡ true → CopyNoted new.notes (first_role h lock.lock.at)
        (word_of_lock h lock.lock.at) lock.lock.last)
        → TakerOver held new h (over_with over true)
    be_over false lock copy = lock
    be_over true lock copy = record { lock = lock; copy = copy refl }

module _ (bits : List Bool) (b : Bool) (old new : CombinedTaker) (held : Held)
    (answer : Option Over) (synchroniser : StandsAfter held (bits ++ b ∷ [])) where
  -- a word that releases the lock
  over_case : (locks : List Lock) (p : ℕ) (lock : Lock) (q : ℕ)
      → IsNow bits locks (locked p lock.at) → TakesNow old bits (locked p lock.at)
      → (r : Step) → TakesStep old new r answer
      → IsNow (bits ++ b ∷ []) (lock ∷ locks) (hunting q) → length (bits ++ b ∷ []) ≡ q
      → r ≡ step (Some (heard_word (bits ++ b ∷ []) lock.at lock.last)) (Some lock.how)
      → TakerOver held new (bits ++ b ∷ []) answer
  unfolding Past
  over_case locks p lock q is takes r taken on end f =
      let h : List Bool = bits ++ b ∷ [] in
      let t : ℕ = lock.at in
      let n : ℕ = lock.last in
      let role : Role = first_role h t in
      let words : ℕ → ℕ = word_of_lock h t in
      let grown = length_push bits b in
      let e : length h ≡ t + 7 * (n + 1) = end ∙ on.past.0.next in
      let was : whole_words bits t ≡ n = omega (arith, e, grown) in
      let w = taken.some (words n) (role_of role n) (ap (λ x. x.word) f) in
      let at = takes-more old bits (b ∷ []) t n is.found.here (omega (arith, e, grown))
      (subst (TakesLock old (first_role bits t) (word_of_lock bits t)) was takes) in
      let one = word_taken old w.mid role words n (words n) (role_of role n) w.event w.read at
      refl refl in
      let change : r.change ≡ Some lock.how = ap (λ x. x.change) f in
      let left : new.notes ≡ left_by (Some lock.how) w.event w.mid.notes =
      w.left ∙ ap (λ change. left_by change w.event w.mid.notes) change in
      subst (TakerOver held new h)
      (sym (w.is ∙ ap (over_with (is_over w.event)) (ap is_some change)))
      (be_over h new held synchroniser (is_over w.event) (record {
        synchroniser = synchroniser;
        lock = lock;
        older = locks;
        from = q;
        stands = on;
        reads = subst (λ k. ReadsLock k role words (n + 1))
            (sym (ap (λ (k : CopyTaker). k.reader) w.copies)) one.takes.reads;
        noted = λ header open_there.
            open_noted lock.how w.event w.mid.notes new.notes role words n header
            one.takes.notes left open_there (one.copy);
      })
      (λ over. copy_too w.mid.notes new.notes role words n
      (left_over (Some lock.how) w.event w.mid.notes new.notes left over) (one.copy over)))

  element_case : (locks : List Lock) (now : Now) → IsNow bits locks now → TakesNow old bits now
      → (r : Step) → TakesStep old new r answer → (newer : List Lock) (next : Now)
      → IsNow (bits ++ b ∷ []) newer next → Moves bits (bits ++ b ∷ []) r locks now newer next
      → TakerOver held new (bits ++ b ∷ []) answer
  element_case locks (hunting p) is takes r taken newer (hunting q) on (hunts_on f) =
      let n = taken.none (ap (λ x. x.word) f) in
      rw n.is (record {
        synchroniser = synchroniser;
        at = record {
          locks = newer;
          now = hunting q;
          stands = on;
          takes = rw n.copies takes;
        };
      })
  element_case locks (hunting p) is takes r taken newer (locked q t) on (finds g f) =
      let n = taken.none (ap (λ x. x.word) f) in
      let whole : whole_words (bits ++ b ∷ []) t ≡ 0 = omega (arith, g) in
      rw n.is (record {
        synchroniser = synchroniser;
        at = record {
          locks = newer;
          now = locked q t;
          stands = on;
          takes = subst (TakesLock new (first_role (bits ++ b ∷ []) t)
              (word_of_lock (bits ++ b ∷ []) t)) (sym whole)
              (takes_none new (first_role (bits ++ b ∷ []) t) (word_of_lock (bits ++ b ∷ []) t)
              (rw n.copies (takes.fresh (first_role (bits ++ b ∷ []) t)
              (word_of_lock (bits ++ b ∷ []) t)))
              (n.anew (ap (λ x. is_some x.change) f)));
        };
      })
  element_case locks (locked p t) is takes r taken newer (locked q u) on (goes_on whole f) =
      let n = taken.none (ap (λ x. x.word) f) in
      rw n.is (record {
        synchroniser = synchroniser;
        at = record {
          locks = newer;
          now = locked q u;
          stands = on;
          takes = takes_too old new (first_role (bits ++ b ∷ []) t)
              (word_of_lock (bits ++ b ∷ []) t) (whole_words (bits ++ b ∷ []) t)
              (ap (λ (k : CopyTaker). k.reader) n.copies)
              (n.kept (ap (λ x. is_some x.change) f))
              (subst (TakesLock old (first_role (bits ++ b ∷ []) t)
              (word_of_lock (bits ++ b ∷ []) t)) (sym whole)
              (takes-more old bits (b ∷ []) t (whole_words bits t) is.found.here
              (whole_heard bits t is.found.here.heard) takes));
        };
      })
  element_case locks (locked p t) is takes r taken newer (locked q u) on (ends_word n e f) =
      let h : List Bool = bits ++ b ∷ [] in
      let role : Role = first_role h t in
      let words : ℕ → ℕ = word_of_lock h t in
      let grown = length_push bits b in
      let was : whole_words bits t ≡ n = omega (arith, e, grown) in
      let whole : whole_words h t ≡ n + 1 = omega (arith, e) in
      let w = taken.some (words n) (role_of role n) (ap (λ x. x.word) f) in
      let at = takes-more old bits (b ∷ []) t n is.found.here (omega (arith, e, grown))
      (subst (TakesLock old (first_role bits t) (word_of_lock bits t)) was takes) in
      let one = word_taken old w.mid role words n (words n) (role_of role n) w.event w.read at refl
      refl in
      let kept : new.notes ≡ w.mid.notes =
      w.left ∙ ap (λ change. left_by change w.event w.mid.notes) (ap (λ x. x.change) f) in
      let reader : new.copies.reader ≡ w.mid.copies.reader =
      ap (λ (k : CopyTaker). k.reader) w.copies in
      subst (TakerOver held new h)
      (sym (w.is ∙ ap (over_with (is_over w.event)) (ap (λ x. is_some x.change) f)))
      (stand_on h new held synchroniser newer q u n on whole
      (takes_too w.mid new role words (n + 1) reader kept one.takes) (is_over w.event)
      (λ over. copy_too w.mid.notes new.notes role words n kept (one.copy over)))
  element_case locks (locked p t) is takes r taken newer (hunting q) on (releases lock y z f) =
      subst (λ (u : ℕ). IsNow bits locks (locked p u) → TakesNow old bits (locked p u)
      → TakerOver held new (bits ++ b ∷ []) answer) y
      (λ was at. over_case locks p lock q was at r taken on z f) is takes

element_over : (old new : CombinedTaker) (held : Held) (bits : List Bool) (b : Bool) (r : Step)
    (answer : Option Over) → StandsAfter held (bits ++ b ∷ []) → IsStep (bits ++ b ∷ []) r
    → TakesStep old new r answer → TakesAt old bits → TakerOver held new (bits ++ b ∷ []) answer
element_over old new held bits b r answer synchroniser is taken o =
    element_case bits b old new held answer synchroniser o.locks o.now o.stands o.takes r taken
    is.locks is.now is.stands (one_move bits b r o.locks o.now o.stands is)

-- elements of which the last one brings a step, and those before it nothing
step_over : (old new : CombinedTaker) (before after : Held) (bits h : List Bool) (r : Step)
    (answer : Option Over) → 0 < length bits → TakesStep old new r answer
    → BringsStep before after bits r → TakerStands before old h
    → TakerOver after new (h ++ bits) answer
step_over old new before after bits h r answer some taken brings stands =
    let at : List Bool → List (Unit {0}) → Type 0 = λ x marks. TakesAt old x in
    let last = before_last at tt (λ x b marks is stood. quiet_after old x b is stood) h bits [] r
    some (brings.brings h stands.synchroniser) stands.at in
    subst (λ l. TakerOver after new l answer) (sym last.whole)
    (element_over old new after (h ++ last.before) last.bit r answer
    (subst (StandsAfter after) last.whole (brings.stands h stands.synchroniser)) last.brings taken
    last.stood)

-- a taker takes a step
pub takes_step : (old new : CombinedTaker) (before after : Held) (bits : List Bool) (r : Step)
    (answer : Option Over) → 0 < length bits → TakesStep old new r answer
    → BringsStep before after bits r → Hears before old bits after new answer
takes_step old new before after bits r answer some taken brings = record {
  copies = step_taken old.copies new.copies before after bits r answer some
      (copies_step old new r answer taken) brings;
  takes = λ h stands. step_over old new before after bits h r answer some taken brings stands;
}
