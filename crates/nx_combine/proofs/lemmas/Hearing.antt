-- A hearer of copies and of their positions hears more: the copies that end, and the notes of them.
use Rattle.std.proofs.Common.{◌≡◌, take, ℕ, ◌+◌, ◌≤◌, Bool, List, [], ◌∷◌, ◌++◌, length, map}
use Rattle.std.proofs.Common.{refl, sym, ap, ap₂, ◌∙◌, subst, arith, append-nil, append_assoc}
use Rattle.std.proofs.Common.{length-append, Option, Some, None, drop}
use Rattle.std.specs.List.{All}
use Rattle.std.proofs.lemmas.List.{length-map, map-append}
use Rattle.std.proofs.lemmas.List.Elements.{All-head, All-tail}
use Rattle.nx_envelope.specs.Copies.{Copy, closed_copy, copies, ended_copies, open_headers}
use Rattle.nx_envelope.specs.Header.{Header}
use Rattle.nx_sync.specs.Locks.{IsNow, Lock, hunting, locked}
use Rattle.nx_sync.specs.Synchroniser.{Held, StandsAfter}
use Rattle.nx_sync.specs.Words.{first_role, word_of_lock}
use Rattle.nx_sync.specs.declared.step.Role.{Role}
use Rattle.nx_sync.proofs.lemmas.states.StateChanges.{first_hunt}
use Rattle.nx_copies.specs.Events.{Setting}
use Rattle.nx_copies.specs.copies.FoundCopies.{FoundCopy, TaggedCopy, ended_in, ended_so_far, past_copies}
use Rattle.nx_copies.specs.copies.FoundCopies.{past_text, tag}
use Rattle.nx_copies.specs.copies.LockText.{lock_text, positions, taken_at, text_after}
use Rattle.nx_copies.specs.declared.copy_taker.Over.{Over}
use Rattle.nx_copies.specs.declared.copy_taker.Over.TheVariants as over
use Rattle.nx_copies.specs.hearing.CopyHearer.{BothAreOver, CopyIsOver, HearerStands, IsOver, LockIsOver}
use Rattle.nx_copies.specs.hearing.CopyHearer.{HasEnded, IsFresh}
use Rattle.nx_copies.specs.hearing.CopyHearer.{all_in_force, copies_by, ready_copy, setting_in}
use Rattle.nx_copies.specs.hearing.CopyTaker.{hearer_of}
use Rattle.nx_copies.proofs.lemmas.copy_hearer.Hears.{nothing_heard}
use Rattle.nx_copies.proofs.lemmas.copy_hearer.Takes.{ready_is}
use Rattle.nx_copies.proofs.lemmas.locks.Found.{one_told}
use Rattle.nx_copies.proofs.lemmas.locks.Texts.{bytes_are_reading, one_taken}
use Rattle.nx_combine.specs.CombinedHearing.{BothHeard, CombinedOver, CombinedStands, CopyHeard}
use Rattle.nx_combine.specs.CombinedHearing.{HaveBeenHeard, HearsHeard, LockHeard, copies_of}
use Rattle.nx_combine.specs.CombinedHearing.{heard_by}
use Rattle.nx_combine.specs.CombinedTaker.{BothTaken, CopyNoted, CopyTaken, Hears, LockTaken, TakerOver}
use Rattle.nx_combine.specs.CombinedTaker.{TakerStands, TakesLock}
use Rattle.nx_combine.specs.CopyPositions.{HeardCopy, PlacedCopy, behind_header, ended_placed}
use Rattle.nx_combine.specs.CopyPositions.{lock_bytes, lock_positions, past_placed, placed}
use Rattle.nx_combine.specs.CopyPositions.{positions_in_past, positions_of}
use Rattle.nx_combine.specs.Notes.{Noting, noted}
use Rattle.nx_combine.specs.PositionEnds.{up_to_end}
use Rattle.nx_combine.specs.declared.taker.CombinedTaker.{CombinedTaker}
use Rattle.nx_combine.specs.private.laws.EndedPositions.{EndedIn, all_ended, behind-more, open-behind}
use Rattle.nx_combine.specs.private.laws.EndedPositions.{open_stands, past-ended, up_to-last}
use Rattle.nx_combine.specs.private.laws.Heard.{copies-heard, found-ended, found-past, found-placed, found_of}
use Rattle.nx_combine.specs.private.laws.Heard.{heard-append, heard_stays, longer_begins, none_left, same_last}
use Rattle.nx_combine.specs.private.laws.PlacedGrow.{all_of, placed-hunted, placed-parts, placed_as, placed_go_on}
use Rattle.nx_combine.proofs.lemmas.Taking.{next_is}

-- a copy that was found, with what is in force
abbrev pub heard_as : Setting → List Setting → PlacedCopy → HeardCopy
heard_as first settings one = record {
  copy = tag (setting_in first settings one.found.place) one.found;
  positions = one.positions;
}

pub heard-one : (first : Setting) (settings : List Setting) (one : PlacedCopy)
    → heard_by first settings (one ∷ []) ≡ heard_as first settings one ∷ []
unfolding heard_by
heard-one first settings one = refl

pub heard-nil : (first : Setting) (settings : List Setting) → heard_by first settings [] ≡ []
unfolding heard_by
heard-nil first settings = refl

length-heard : (first : Setting) (settings : List Setting) (all : List PlacedCopy)
    → length (heard_by first settings all) ≡ length all
unfolding heard_by
length-heard first settings all = length-map all (heard_as first settings)

length-copies : (all : List HeardCopy) → length (copies_of all) ≡ length all
length-copies all = length-map all (λ (one : HeardCopy). one.copy)

-- one alone
record IsOne (rest : List PlacedCopy) : Type 0 where
  one : PlacedCopy
  is : rest ≡ one ∷ []

is_one : (rest : List PlacedCopy) → length rest ≡ 1 → IsOne rest
is_one [] e = absurd (omega (arith, e))
is_one (x ∷ []) e = record { one = x; is = refl }
is_one (x ∷ y ∷ rest) e = absurd (omega (arith, e))

-- The positions of a copy that ended with the last word are all behind its header.
ended_whole : (first : Role) (words : ℕ → ℕ) (n : ℕ) (header : Header)
    → open_headers (text_after first words n) ≡ header ∷ []
    → positions_of (positions first words (n + 1)) header
    ≡ behind_header (positions first words (n + 1)) header
ended_whole first words n header is =
    let old = positions first words n in
    let more = taken_at first words n in
    let behind : behind_header (positions first words (n + 1)) header
    ≡ behind_header old header ++ more =
    ap (λ l. behind_header l header) (next_is first words n)
    ∙ behind-more old more header (open_stands (text_after first words n) header is) in
    ap up_to_end behind
    ∙ up_to-last header.identity (behind_header old header) more (open-behind old header is)
    (one_taken first words n)
    ∙ sym behind

-- the copies of the lock with the one that ended with the last word
ended_with : (bits : List Bool) (t n : ℕ) (notes : Noting)
    → (c : CopyNoted notes (first_role bits t) (word_of_lock bits t) n)
    → ended_copies (lock_bytes bits t (n + 1))
    ≡ ended_copies (text_after (first_role bits t) (word_of_lock bits t) n) ++ c.copy ∷ []
ended_with bits t n notes c =
    ap ended_copies (bytes_are_reading (first_role bits t) (word_of_lock bits t) t (n + 1)
    ∙ c.grows) ∙ c.ends.ended

-- the last of some with P has P
All-last : {A : Type 0} (P : A → Type 0) (xs : List A) (x : A) → All P (xs ++ x ∷ []) → P x
All-last P [] x k = All-head P x [] k
All-last P (y ∷ xs) x k = All-last P xs x (All-tail P y (xs ++ x ∷ []) k)

ended_there : (bits : List Bool) (t n : ℕ) (notes : Noting)
    → (c : CopyNoted notes (first_role bits t) (word_of_lock bits t) n)
    → EndedIn (lock_positions bits t (n + 1)).taken c.copy
ended_there bits t n notes c =
    let first : Role = first_role bits t in
    let words : ℕ → ℕ = word_of_lock bits t in
    let taken = positions first words (n + 1) in
    All-last (EndedIn taken) (ended_copies (text_after first words n)) c.copy
    (subst (All (EndedIn taken)) (ap ended_copies c.grows ∙ c.ends.ended) (all_ended taken))

-- After these copies had been heard of the first elements, more came.
module _ (first : Setting) (bits more : List Bool) (settings later : List Setting)
    (heard : List HeardCopy) (was : HaveBeenHeard first bits settings heard)
    (many : length settings ≡ length bits) where
  abbrev bits' : List Bool
  bits' = bits ++ more

  abbrev settings' : List Setting
  settings' = settings ++ later

  abbrev before : List PlacedCopy
  before = ended_placed bits was.locks was.now

  stays : heard_by first settings' before ≡ heard
  stays = heard_stays first bits settings later was.locks was.now was.stands many ∙ sym was.heard

  as_many : length before ≡ length heard
  as_many = sym (ap length was.heard ∙ length-heard first settings before)

  -- what was heard with those behind them
  on : (all rest : List PlacedCopy) → all ≡ before ++ rest
      → heard_by first settings' all ≡ heard ++ heard_by first settings' rest
  on all rest whole =
      ap (heard_by first settings') whole ∙ heard-append first settings' before rest
      ∙ ap (λ l. l ++ heard_by first settings' rest) stays

  length-tagged : (all : List PlacedCopy) (tagged : List TaggedCopy)
      → tagged ≡ copies_by first settings' (found_of all) → length tagged ≡ length all
  length-tagged all tagged is =
      ap length (is ∙ sym (copies-heard first settings' all))
      ∙ length-copies (heard_by first settings' all) ∙ length-heard first settings' all

  -- no other copy has ended
  none_more : (all rest : List PlacedCopy) → all ≡ before ++ rest
      → copies_of heard ≡ copies_by first settings' (found_of all)
      → heard ≡ heard_by first settings' all
  none_more all rest whole is =
      let size : length rest ≡ 0 =
      omega (
        arith,
        length-tagged all (copies_of heard) is,
        length-copies heard,
        ap length whole,
        length-append before rest,
        as_many,
      ) in
      sym (on all rest whole ∙ ap (λ l. heard ++ heard_by first settings' l) (none_left rest size)
      ∙ ap (λ l. heard ++ l) (heard-nil first settings') ∙ append-nil heard)

  -- one more has ended, as this one
  record OneMore (all : List PlacedCopy) (x : TaggedCopy) : Type 0 where
    one : PlacedCopy
    whole : all ≡ before ++ one ∷ []
    copy : x ≡ (heard_as first settings' one).copy
    listed : heard ++ heard_as first settings' one ∷ [] ≡ heard_by first settings' all

  one_more : (all rest : List PlacedCopy) (x : TaggedCopy) → all ≡ before ++ rest
      → copies_of heard ++ x ∷ [] ≡ copies_by first settings' (found_of all) → OneMore all x
  one_more all rest x whole is =
      let size : length rest ≡ 1 =
      omega (
        arith,
        length-tagged all (copies_of heard ++ x ∷ []) is,
        length-append (copies_of heard) (x ∷ []),
        length-copies heard,
        ap length whole,
        length-append before rest,
        as_many,
      ) in
      let alone = is_one rest size in
      let hc : HeardCopy = heard_as first settings' alone.one in
      let all_is : heard ++ hc ∷ [] ≡ heard_by first settings' all =
      sym (on all rest whole ∙ ap (λ l. heard ++ heard_by first settings' l) alone.is
      ∙ ap (λ l. heard ++ l) (heard-one first settings' alone.one)) in
      let tags : copies_of heard ++ x ∷ [] ≡ copies_of heard ++ hc.copy ∷ [] =
      is ∙ sym (copies-heard first settings' all) ∙ ap copies_of (sym all_is)
      ∙ map-append (λ (c : HeardCopy). c.copy) heard (hc ∷ []) in
      record {
        one = alone.one;
        whole = whole ∙ ap (λ l. before ++ l) alone.is;
        copy = (same_last (copies_of heard) (copies_of heard) x hc.copy tags).1;
        listed = all_is;
      }

  -- where no other copy has ended after them
  been_heard : HasEnded first bits' settings' (copies_of heard)
      → HaveBeenHeard first bits' settings' heard
  been_heard ended =
      let g = placed_go_on bits more was.locks ended.locks was.now ended.now was.stands ended.stands
      in record {
        locks = ended.locks;
        now = ended.now;
        stands = ended.stands;
        heard = none_more (ended_placed bits' ended.locks ended.now) g.rest g.whole
            (ended.ended ∙ ap (copies_by first settings')
            (sym (found-ended bits' ended.locks ended.now)));
      }

  module _ (new : Held) (after : CombinedTaker) where
    -- nothing is over
    stands_on : HearerStands first (hearer_of new after.copies) bits' settings' (copies_of heard)
        → TakerStands new after bits' → CombinedStands first new after bits' settings' heard
    stands_on hearer takes =
        let r = hearer.reads in
        record {
          hearer = hearer;
          takes = takes;
          heard = been_heard (record {
            locks = r.locks;
            now = r.now;
            stands = r.stands;
            ended = r.ended;
          });
        }

    -- a copy is over
    copy_heard : CopyIsOver first (hearer_of new after.copies) bits' settings' (copies_of heard)
        → CopyTaken new after bits' → CopyHeard first new after bits' settings' heard
    unfolding ended_placed
    copy_heard is taken =
        let hearer = hearer_of new after.copies in
        let r = is.stands.reads in
        let now = locked taken.from taken.at in
        let all : List PlacedCopy = ended_placed bits' taken.locks now in
        let x : TaggedCopy = ready_copy is.copy after.copies.tag in
        let g = placed_go_on bits more was.locks taken.locks was.now now was.stands taken.stands in
        let tagged : copies_of heard ++ x ∷ [] ≡ copies_by first settings' (found_of all) =
        r.ended ∙ ap (copies_by first settings')
        (one_told (λ ls n. ended_so_far bits' ls n) bits' r.locks taken.locks r.now now r.stands
        taken.stands ∙ sym (found-ended bits' taken.locks now)) in
        let one = one_more all g.rest x g.whole tagged in
        let hc : HeardCopy = heard_as first settings' one.one in
        let c = taken.copy in
        let t : ℕ = taken.at in
        let n : ℕ = taken.word in
        let lock = lock_positions bits' t (n + 1) in
        let make = placed_as all_of (lock_text bits' t (n + 1)) lock in
        let past : List PlacedCopy = past_placed bits' taken.locks in
        let old : List Copy = ended_copies (text_after (first_role bits' t) (word_of_lock bits' t) n)
        in
        let last : all ≡ (past ++ map make old) ++ make c.copy ∷ [] =
        ap (λ m. past ++ placed all_of bits' t m (ended_copies (lock_bytes bits' t m))) taken.whole
        ∙ ap (λ l. past ++ map make l) (ended_with bits' t n after.notes c)
        ∙ ap (λ l. past ++ l) (map-append make old (c.copy ∷ []))
        ∙ sym (append_assoc past (map make old) (make c.copy ∷ [])) in
        let same : one.one ≡ make c.copy =
        (same_last before (past ++ map make old) one.one (make c.copy) (sym one.whole ∙ last)).1 in
        let copies_are : copies_of heard ++ x ∷ [] ≡ copies_of (heard ++ hc ∷ []) =
        ap (λ y. copies_of heard ++ y ∷ []) one.copy
        ∙ sym (map-append (λ (c : HeardCopy). c.copy) heard (hc ∷ [])) in
        record {
          copy = hc;
          has = record {
            ready = ready_is hearer.reader.finder is.copy hearer.tag is.ready
                ∙ ap (λ y. y ∷ []) one.copy;
            positions = c.noted
                ∙ ap noted (sym (ended_whole (first_role bits' t) (word_of_lock bits' t) n
                c.copy.header c.ends.was_open))
                ∙ ap (λ (p : PlacedCopy). noted p.positions) (sym same);
          };
          stands = record {
            hearer = subst (HearerStands first hearer bits' settings') copies_are is.stands;
            takes = record {
              synchroniser = taken.synchroniser;
              at = record {
                locks = taken.locks;
                now = now;
                stands = taken.stands;
                takes = subst (TakesLock after (first_role bits' t) (word_of_lock bits' t))
                    (sym taken.whole) taken.takes;
              };
            };
            heard = record {
              locks = taken.locks;
              now = now;
              stands = taken.stands;
              heard = one.listed;
            };
          };
        }

    -- the copies of a lock that is over, before its text ends
    abbrev before_end : List Lock → List FoundCopy
    before_end [] = []
    before_end (lock ∷ older) = past_copies bits' older ++ ended_in (past_text bits' lock)

    abbrev placed_before : Lock → List Lock → List PlacedCopy
    placed_before lock older =
        past_placed bits' older
        ++ placed (positions_in_past lock.how) bits' lock.at (lock.last + 1)
        (ended_copies (lock_bytes bits' lock.at (lock.last + 1)))

    found-before : (lock : Lock) (older : List Lock)
        → found_of (placed_before lock older) ≡ before_end (lock ∷ older)
    found-before lock older =
        let some : List Copy = ended_copies (lock_bytes bits' lock.at (lock.last + 1)) in
        map-append (λ (one : PlacedCopy). one.found) (past_placed bits' older)
        (placed (positions_in_past lock.how) bits' lock.at (lock.last + 1) some)
        ∙ ap₂ (λ a b. a ++ b) (found-past bits' older)
        (found-placed (positions_in_past lock.how) bits' lock.at (lock.last + 1) some)

    -- the copies before go on as those of the lock that is over
    lock_on : (lock : Lock) (older : List Lock) (q : ℕ) → IsNow bits' (lock ∷ older) (hunting q)
        → length heard ≤ length (placed_before lock older)
        → placed_before lock older ≡ before ++ drop (length before) (placed_before lock older)
    unfolding past_placed
    lock_on lock older q is long =
        let rule = positions_in_past lock.how in
        let bytes : List ℕ = lock_bytes bits' lock.at (lock.last + 1) in
        let open_one : List PlacedCopy = placed rule bits' lock.at (lock.last + 1)
        (map (closed_copy bytes) (open_headers bytes)) in
        let g = placed_go_on bits more was.locks (lock ∷ older) was.now (hunting q) was.stands is in
        let whole : placed_before lock older ++ open_one ≡ before ++ g.rest =
        append_assoc (past_placed bits' older)
        (placed rule bits' lock.at (lock.last + 1) (ended_copies bytes)) open_one
        ∙ ap (λ l. past_placed bits' older ++ l)
        (sym (placed-parts rule bits' lock.at (lock.last + 1)))
        ∙ placed-hunted bits' (lock ∷ older) q ∙ g.whole in
        longer_begins (placed_before lock older) open_one before g.rest whole
        (omega (arith, as_many, long))

    lock_tagged : (list : List TaggedCopy) (lock other : Lock) (older others : List Lock) (p q : ℕ)
        → IsNow bits' (lock ∷ older) (hunting p) → IsNow bits' (other ∷ others) (hunting q)
        → list ≡ copies_by first settings' (before_end (lock ∷ older))
        → list ≡ copies_by first settings' (found_of (placed_before other others))
    lock_tagged list lock other older others p q is are e =
        e ∙ ap (copies_by first settings')
        (one_told (λ ls n. before_end ls) bits' (lock ∷ older) (other ∷ others) (hunting p)
        (hunting q) is are ∙ sym (found-before other others))

    -- a lock is over
    lock_heard : LockIsOver first (hearer_of new after.copies) bits' settings' (copies_of heard)
        → LockTaken new after bits' → LockHeard first new after bits' settings' heard
    lock_heard is taken =
        let all : List PlacedCopy = placed_before taken.lock taken.older in
        let tagged = lock_tagged (copies_of heard) is.lock taken.lock is.older taken.older is.from
        taken.from is.stands taken.stands is.ended in
        let size = length-tagged all (copies_of heard) tagged in
        record {
          hearer = is;
          takes = taken;
          heard = none_more all (drop (length before) all)
              (lock_on taken.lock taken.older taken.from taken.stands
              (omega (arith, size, length-copies heard))) tagged;
        }

    -- and a copy with it
    both_heard : BothAreOver first (hearer_of new after.copies) bits' settings' (copies_of heard)
        → BothTaken new after bits' → BothHeard first new after bits' settings' heard
    both_heard is both =
        let hearer = hearer_of new after.copies in
        let taken = both.lock in
        let x : TaggedCopy = ready_copy is.copy after.copies.tag in
        let all : List PlacedCopy = placed_before taken.lock taken.older in
        let tagged = lock_tagged (copies_of heard ++ x ∷ []) is.lock.lock taken.lock is.lock.older
        taken.older is.lock.from taken.from is.lock.stands taken.stands is.lock.ended in
        let size = length-tagged all (copies_of heard ++ x ∷ []) tagged in
        let goes = lock_on taken.lock taken.older taken.from taken.stands
        (omega (
          arith,
          size,
          length-append (copies_of heard) (x ∷ []),
          length-copies heard,
        )) in
        let one = one_more all (drop (length before) all) x goes tagged in
        let hc : HeardCopy = heard_as first settings' one.one in
        let c = both.copy in
        let t : ℕ = taken.lock.at in
        let n : ℕ = taken.lock.last in
        let rule = positions_in_past taken.lock.how in
        let lock = lock_positions bits' t (n + 1) in
        let make = placed_as rule (lock_text bits' t (n + 1)) lock in
        let past : List PlacedCopy = past_placed bits' taken.older in
        let old : List Copy = ended_copies (text_after (first_role bits' t) (word_of_lock bits' t) n)
        in
        let last : all ≡ (past ++ map make old) ++ make c.copy ∷ [] =
        ap (λ l. past ++ map make l) (ended_with bits' t n after.notes c)
        ∙ ap (λ l. past ++ l) (map-append make old (c.copy ∷ []))
        ∙ sym (append_assoc past (map make old) (make c.copy ∷ [])) in
        let same : one.one ≡ make c.copy =
        (same_last before (past ++ map make old) one.one (make c.copy) (sym one.whole ∙ last)).1 in
        let copies_are : copies_of heard ++ x ∷ [] ≡ copies_of (heard ++ hc ∷ []) =
        ap (λ y. copies_of heard ++ y ∷ []) one.copy
        ∙ sym (map-append (λ (c : HeardCopy). c.copy) heard (hc ∷ [])) in
        record {
          copy = hc;
          has = record {
            ready = ready_is hearer.reader.finder is.copy hearer.tag is.ready
                ∙ ap (λ y. y ∷ []) one.copy;
            positions = c.noted
                ∙ ap noted (sym (past-ended taken.lock.how lock c.copy
                (ended_there bits' t n after.notes c)
                ∙ ended_whole (first_role bits' t) (word_of_lock bits' t) n c.copy.header
                c.ends.was_open))
                ∙ ap (λ (p : PlacedCopy). noted p.positions) (sym same);
          };
          lock = record {
            hearer = subst (LockIsOver first hearer bits' settings') copies_are is.lock;
            takes = taken;
            heard = one.listed;
          };
        }

    over_heard : (answer : Option Over)
        → IsOver first (hearer_of new after.copies) bits' settings' (copies_of heard) answer
        → TakerOver new after bits' answer
        → CombinedOver first new after bits' settings' heard answer
    over_heard None hearer takes = stands_on hearer takes
    over_heard (Some over.Copy) is taken = copy_heard is taken
    over_heard (Some over.Lock) is taken = lock_heard is taken
    over_heard (Some over.CopyAndLock) is taken = both_heard is taken

-- no bits bring no lock
-- What a taker hears, a hearer of copies and of their positions hears.
pub hears_heard : (old new : Held) (before after : CombinedTaker) (heard : List Bool)
    (answer : Option Over) → Hears old before heard new after answer
    → HearsHeard old before heard new after answer
hears_heard old new before after heard answer hears first bits settings copies w =
    let bits_heard = hears.copies.hears.hears first bits settings (copies_of copies) w.hearer in
    let force : List Bool → List Setting = all_in_force (hearer_of old before.copies) in
    record {
      brings = over_heard first bits heard settings (force heard) copies w.heard
          w.hearer.reads.many new after answer bits_heard.brings (hears.takes bits w.takes);
      none_before = λ k lt.
          been_heard first bits (take k heard) settings (force (take k heard)) copies w.heard
          w.hearer.reads.many (bits_heard.none_before k lt);
    }

-- nothing was heard
pub nothing_combined : (first : Setting) (held : Held) (taker : CombinedTaker)
    → StandsAfter held [] → IsFresh taker.copies.reader
    → CombinedStands first held taker [] [] []
unfolding heard_by past_placed ended_placed
nothing_combined first held taker stands fresh =
    let hearer = nothing_heard first (hearer_of held taker.copies) stands fresh in
    record {
      hearer = hearer;
      takes = record {
        synchroniser = stands;
        at = record {
          locks = [];
          now = hunting 0;
          stands = first_hunt;
          takes = fresh;
        };
      };
      heard = record { locks = []; now = hunting 0; stands = first_hunt; heard = refl };
    }
