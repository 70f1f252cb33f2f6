-- What the elements that a taker takes show.
use Rattle.std.proofs.Common.{◌≡◌, ℕ, ◌+◌, ◌-◌, ◌^◌, ◌<◌, ◌≤◌, Bool, List, []}
use Rattle.std.proofs.Common.{◌∷◌, ◌++◌, length, Option, Some, None, refl, sym}
use Rattle.std.proofs.Common.{ap, ◌∙◌}
use Rattle.std.proofs.Common.{subst, subst₂, arith, append_assoc, append-nil}
use Rattle.std.proofs.Common.{length-append}
use Rattle.std.specs.Prelude.{min}
use Rattle.std.specs.Option.{option_to_list}
use Rattle.std.proofs.lemmas.List.{length_push}
use Rattle.nx_envelope.specs.Moment.{IsShownAs}
use Rattle.nx_sync.specs.Locks.{Lock, Now, hunting, locked, IsNow, Past}
use Rattle.nx_sync.specs.Steps.{IsStep, step}
use Rattle.nx_sync.specs.Synchroniser.{Held}
use Rattle.nx_sync.specs.Ahead.{BringsStep}
use Rattle.nx_sync.specs.Words.{heard_word, whole_words}
use Rattle.nx_sync.specs.declared.step.Change.{Change}
use Rattle.nx_sync.specs.declared.step.Change.TheVariants.{Locked}
use Rattle.nx_sync.specs.declared.step.Role.{Role}
use Rattle.nx_sync.specs.declared.step.Step.{Step}
use Rattle.nx_copies.proofs.lemmas.QuietElements.{before_last, marks_of, no_word}
use Rattle.nx_copies.proofs.lemmas.locks.Moves.{Moves, ends_word, finds, goes_on, hunts_on, one_move}
use Rattle.nx_copies.proofs.lemmas.locks.Moves.{releases}
use Rattle.nx_locks.specs.private.Reader.{Reading}
use Rattle.nx_locks.specs.private.Taker.{Closes, GoesTo, Hears, ReadsTo, Shows, ShowsStep}
use Rattle.nx_locks.specs.private.Taker.{TakerShows, Taking, all_at, closing_of, with_word}
use Rattle.nx_locks.specs.ReportText.{opening_line}
use Rattle.nx_locks.proofs.lemmas.Bits.{now_found, still_hunting, still_inside, word_on, word_over}

module _ (old new : Taking) (bits : List Bool) (b : Bool) (moments given : List ℕ) (r : Step)
    (s : Shows old.reader old.locks old.copies bits moments given)
    (counted : old.elements ≡ length (bits ++ b ∷ []))
    (few : length (bits ++ b ∷ []) < 2 ^ 64) (ss : ShowsStep old new r)
  where
    abbrev bits' : List Bool
    bits' = bits ++ b ∷ []

    abbrev moments' : List ℕ
    moments' = moments ++ old.moment ∷ []

    -- nothing came
    nothing_came : r ≡ step None None
        → Shows old.reader old.locks old.copies bits' moments' (given ++ [])
        → GoesTo new bits' moments' given old.shown
    nothing_came f shows =
        let none = ss.nothing (ap (λ x. x.word) f) (ap (λ x. x.change) f) in
        record {
          more = [];
          grown = ap (λ t. t.shown) none ∙ sym (append-nil old.shown);
          shows = subst (λ t. TakerShows t bits' moments' (given ++ [])) (sym none)
              (record { elements = counted; room = few; shows = shows });
        }

    -- a lock was found
    found_came : (t : ℕ) → r ≡ step None (Some Locked) → length bits' ≡ t
        → ((civil : List ℕ) → IsShownAs old.moment civil
        → Shows old.reader (old.locks + 1) old.copies bits' moments'
        (given ++ opening_line civil t))
        → GoesTo new bits' moments' given old.shown
    found_came t f at shows =
        let o = ss.opens Locked (ap (λ x. x.word) f) (ap (λ x. x.change) f) in
        let now = shows o.civil o.shown in
        let fewer : old.locks + 1 ≤ length bits' =
        omega (arith, now.locks_counted, now.few_locks) in
        let one : min (old.locks + 1) (2 ^ 64 - 1) ≡ old.locks + 1 = omega (arith, fewer, few) in
        record {
          more = opening_line o.civil t;
          grown = ap (λ k. k.shown) o.kept
              ∙ ap (λ k. old.shown ++ opening_line o.civil k) (counted ∙ at);
          shows = subst (λ k. TakerShows k bits' moments' (given ++ opening_line o.civil t))
              (sym o.kept) (record {
                elements = counted;
                room = few;
                shows = subst (λ k. Shows old.reader k old.copies bits' moments'
                    (given ++ opening_line o.civil t)) (sym one) now;
              });
        }

    cases : (locks : List Lock) (now : Now) → s.locks ≡ locks → s.now ≡ now → IsNow bits locks now
        → (newer : List Lock) (next : Now) → IsNow bits' newer next
        → Moves bits bits' r locks now newer next → GoesTo new bits' moments' given old.shown
    unfolding Past
    cases locks (hunting p) l e is newer (hunting q) on (hunts_on f) =
        nothing_came f (still_hunting bits b moments old.moment old.reader old.locks old.copies
        given
        p s e (subst (λ k. IsNow bits' k (hunting p)) (sym l) on))
    cases locks (hunting p) l e is newer (locked q t) on (finds at f) =
        found_came t f at (now_found bits b moments old.moment old.reader old.locks old.copies given
        p
        t s e at (subst (λ k. IsNow bits' k (locked p t)) (sym l) on))
    cases locks (locked p t) l e is newer (locked q u) on (goes_on same f) =
        nothing_came f (still_inside bits b moments old.moment old.reader old.locks old.copies given
        p
        t s e is.found.here same (subst (λ k. IsNow bits' k (locked p t)) (sym l) on))
    cases locks (locked p t) l e is newer (locked q u) on (ends_word n g f) =
        let w = heard_word bits' t n in
        let r' = ss.word w.0 w.1 (ap (λ x. x.word) f) in
        let heard = with_word old r'.reader r'.printed in
        let to : new ≡ heard =
        subst (λ (c : Option Change). ReadsTo heard new c) (ap (λ x. x.change) f) r'.to in
        let now = word_on bits b moments old.moment old.reader old.locks old.copies given r'.reader
        r'.printed w.0 w.1 p t n s e is.found.here g few
        (subst (λ k. IsNow bits' k (locked p t)) (sym l) on) refl r'.hears in
        record {
          more = option_to_list r'.printed;
          grown = ap (λ k. k.shown) to;
          shows = subst (λ k. TakerShows k bits' moments' (given ++ option_to_list r'.printed))
              (sym to) (record { elements = counted; room = few; shows = now });
        }
    cases locks (locked p t) l e is newer (hunting q) on (releases lock y z f) =
        let w = heard_word bits' lock.at lock.last in
        let r' = ss.word w.0 w.1 (ap (λ v. v.word) f) in
        let heard = with_word old r'.reader r'.printed in
        let to : Closes heard new lock.how =
        subst (λ (c : Option Change). ReadsTo heard new c) (ap (λ v. v.change) f) r'.to in
        let was : s.now ≡ locked p lock.at = e ∙ ap (locked p) (sym y) in
        let is' : IsNow bits s.locks (locked p lock.at) =
        subst (λ k. IsNow bits k (locked p lock.at)) (sym l)
        (subst (λ u. IsNow bits locks (locked p u)) (sym y) is) in
        let more = option_to_list r'.printed ++ closing_of r'.reader to.civil lock.how in
        let copies' = min (old.copies + r'.reader.copies) (2 ^ 64 - 1) in
        let now = word_over bits b moments old.moment old.reader old.locks old.copies given
        r'.reader
        new.reader r'.printed w.0 w.1 copies' p q lock s was is' z few
        (subst (λ k. IsNow bits' (lock ∷ k) (hunting q)) (sym l) on) refl r'.hears to.civil
        to.shown to.fresh refl in
        record {
          more = more;
          grown = ap (λ k. k.shown) to.kept ∙ append_assoc old.shown (option_to_list r'.printed)
              (closing_of r'.reader to.civil lock.how);
          shows = subst (λ k. TakerShows k bits' moments' (given ++ more)) (sym to.kept)
              (record { elements = counted; room = few; shows = now });
        }

    step_shown : IsStep bits' r → GoesTo new bits' moments' given old.shown
    step_shown is = cases s.locks s.now refl refl s.stands is.locks is.now is.stands
        (one_move bits b r s.locks s.now s.stands is)

-- elements that bring nothing
module _ (reader : Reading) (began copies : ℕ) (bits : List Bool) (b : Bool) (moments : List ℕ)
    (m : ℕ) (given : List ℕ) (r : Step) (f : r ≡ step None None)
    (s : Shows reader began copies bits moments given) where
  more : length (bits ++ b ∷ []) ≡ length bits + 1
  more = length_push bits b

  wrong_word : (w : ℕ × Role) → r.word ≡ Some w → ⊥
  wrong_word w e = no_word r w (ap (λ x. x.word) f) e

  wrong_change : r.change ≡ Some Locked → ⊥
  wrong_change e = let both : None ≡ Some Locked = sym (ap (λ x. x.change) f) ∙ e in cc

  quiet_cases : (locks : List Lock) (now : Now) → s.locks ≡ locks → s.now ≡ now
      → IsNow bits locks now → (newer : List Lock) (next : Now) → IsNow (bits ++ b ∷ []) newer next
      → Moves bits (bits ++ b ∷ []) r locks now newer next
      → Shows reader began copies (bits ++ b ∷ []) (moments ++ m ∷ []) (given ++ [])
  quiet_cases locks (hunting p) l e is newer (hunting q) on (hunts_on g) =
      still_hunting bits b moments m reader began copies given p s e
      (subst (λ k. IsNow (bits ++ b ∷ []) k (hunting p)) (sym l) on)
  quiet_cases locks (hunting p) l e is newer (locked q t) on (finds at g) =
      absurd (wrong_change (ap (λ x. x.change) g))
  quiet_cases locks (locked p t) l e is newer (locked q u) on (goes_on same g) =
      still_inside bits b moments m reader began copies given p t s e is.found.here same
      (subst (λ k. IsNow (bits ++ b ∷ []) k (locked p t)) (sym l) on)
  quiet_cases locks (locked p t) l e is newer (locked q u) on (ends_word n h g) =
      absurd (wrong_word _ (ap (λ x. x.word) g))
  quiet_cases locks (locked p t) l e is newer (hunting q) on (releases lock y z g) =
      absurd (wrong_word _ (ap (λ v. v.word) g))

  quiet_bit : IsStep (bits ++ b ∷ []) r
      → Shows reader began copies (bits ++ b ∷ []) (moments ++ m ∷ []) given
  quiet_bit is = subst (Shows reader began copies (bits ++ b ∷ []) (moments ++ m ∷ []))
      (append-nil given)
      (quiet_cases s.locks s.now refl refl s.stands is.locks is.now is.stands
      (one_move bits b r s.locks s.now s.stands is))

-- elements were taken, of which the last one brings a step, and those before it nothing
pub step_taken : (old new : Taking) (before after : Held) (count : ℕ) (bits : List Bool) (r : Step)
    → 0 < length bits → BringsStep before after bits r
    → count ≡ min (old.elements + length bits) (2 ^ 64 - 1)
    → ShowsStep (record old { elements = count }) new r → new.moment ≡ old.moment
    → length new.shown ≤ length old.shown + 113 → Hears before old bits after new
unfolding all_at
step_taken old new before after count bits r some brings counted ss kept short = record {
  stands = brings.stands;
  moment = kept;
  few = omega (arith, short, some);
  shows = λ h moments given stands w few.
      let shows : List Bool → List ℕ → Type 0 =
      λ x y. Shows old.reader old.locks old.copies x y given in
      let last = before_last shows old.moment
      (λ x b y is s. quiet_bit old.reader old.locks old.copies x b y old.moment given
      (step None None) refl s is) h bits moments r some (brings.brings h stands) w.shows in
      let size : length ((h ++ last.before) ++ last.bit ∷ []) ≡ length h + length bits =
      sym (ap length last.whole) ∙ length-append h bits in
      let one = step_shown (record old { elements = count }) new (h ++ last.before) last.bit
      (moments ++ marks_of old.moment last.before) given r last.stood
      (omega (arith, counted, w.elements, few, size)) (omega (arith, few, size)) ss last.brings in
      subst₂ (λ x y. GoesTo new x y given old.shown) (sym last.whole) (sym last.force) one;
}
