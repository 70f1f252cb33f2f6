-- Words of a lock that a taker takes at once, where none of them brings anything.
use Rattle.std.proofs.Common.{◌≡◌, ℕ, suc, ◌+◌, ◌*◌, ◌<◌, ◌≤◌, Bool, List, [], ◌∷◌}
use Rattle.std.proofs.Common.{◌++◌, length, take, drop, None, refl, sym, ap, ◌∙◌}
use Rattle.std.proofs.Common.{subst, arith, append_assoc, append-nil, map, slice_index}
use Rattle.std.proofs.Common.{subst₂}
use Rattle.std.specs.List.{All, flat_map}
use Rattle.std.proofs.lemmas.List.{append_cancel_left, length-append, length-map, take-append-drop}
use Rattle.nx_code.specs.Word.{elements}
use Rattle.nx_sync.specs.Locks.{Lock, Now, hunting, locked, IsNow}
use Rattle.nx_sync.specs.Steps.{AreQuietWords, LimitStands}
use Rattle.nx_sync.specs.Synchroniser.{Held}
use Rattle.nx_sync.specs.Ahead.{BringsWords}
use Rattle.nx_sync.specs.Words.{word_of_lock, first_role}
use Rattle.nx_sync.specs.Words.{whole_words}
use Rattle.nx_sync.specs.declared.step.Role.{Role}
use Rattle.nx_sync.specs.declared.step.Role.TheVariants.{Dx}
use Rattle.nx_sync.proofs.lemmas.words.LastSteps.{length-of_words}
use Rattle.nx_sync.proofs.lemmas.states.StateChanges.{standing_after}
use Rattle.nx_sync.proofs.lemmas.states.UniqueStates.{now-unique}
use Rattle.nx_envelope.specs.Copies.{ended_copies, open_headers}
use Rattle.nx_envelope.specs.Finder.{BringNothing, Keeps}
use Rattle.nx_copies.specs.declared.copy_taker.CopyTaker.{CopyTaker}
use Rattle.nx_copies.specs.declared.copy_taker.CopyTag.{CopyTag}
use Rattle.nx_copies.specs.Events.{Setting}
use Rattle.nx_copies.specs.copies.FoundCopies.{FoundCopy, ended_in, ended_so_far, found_copy}
use Rattle.nx_copies.specs.copies.FoundCopies.{past_copies, standing_text, TaggedCopy, tag}
use Rattle.nx_copies.specs.copies.LockText.{PlacedByte, bytes_of, lock_text, text_by}
use Rattle.nx_copies.specs.hearing.CopyHearing.{CopyHearing, in_force}
use Rattle.nx_copies.specs.LockReader.{LockReading}
use Rattle.nx_copies.specs.LockReader.{ReadsLock}
use Rattle.nx_copies.specs.ReaderWords.{ReadsPlain}
use Rattle.nx_copies.specs.copies.LockText.{AreNext, text_after}
use Rattle.nx_copies.specs.hearing.CopyHearer.{HasEnded, HasTag, HearsBits, ReadsNow, ReadsOver}
use Rattle.nx_copies.specs.hearing.CopyTaker.{Hears, hearer_of}
use Rattle.nx_copies.specs.hearing.CopyHearer.{HearerStands, all_in_force, as_it_was, copies_by}
use Rattle.nx_copies.specs.hearing.CopyHearer.{setting_in}
use Rattle.nx_copies.proofs.lemmas.locks.Found.{IsByteIn, ended_headers_in, found-same, open_headers_in}
use Rattle.nx_copies.proofs.lemmas.locks.Found.{text_placed}
use Rattle.nx_copies.proofs.lemmas.locks.Growing.{ended_go_on, past_copies-more}
use Rattle.nx_copies.proofs.lemmas.locks.StillStands.{still_words}
use Rattle.nx_copies.proofs.lemmas.locks.Texts.{bytes_are_reading, bytes_of-append, lock_text-more}
use Rattle.nx_copies.proofs.lemmas.locks.Texts.{text_by-grows}
use Rattle.nx_copies.proofs.lemmas.printing.Logged.{ended_placed}
use Rattle.nx_copies.proofs.lemmas.copy_hearer.Bits.{copies_by-later, reads-more}
use Rattle.nx_copies.proofs.lemmas.copy_hearer.Texts.{IsTagOf, tags-same}

-- bytes that bring nothing leave the copies
record LeaveCopies (text bytes : List ℕ) : Type 0 where
  ended : ended_copies (text ++ bytes) ≡ ended_copies text
  still_open : open_headers (text ++ bytes) ≡ open_headers text

leave_copies : (text bytes : List ℕ) → BringNothing text bytes → LeaveCopies text bytes
leave_copies text [] none =
    let same = append-nil text in
    record { ended = ap ended_copies same; still_open = ap open_headers same }
leave_copies text (b ∷ bytes) none =
    let keeps : Keeps (text ++ []) b = none 0 (omega arith) in
    let one : Keeps text b = subst (λ (l : List ℕ). Keeps l b) (append-nil text) keeps in
    let rest = leave_copies (text ++ b ∷ []) bytes
    (λ k lt. subst (λ (l : List ℕ). Keeps l (slice_index bytes k))
    (sym (append_assoc text (b ∷ []) (take k bytes))) (none (suc k) (omega arith))) in
    let whole : (text ++ b ∷ []) ++ bytes ≡ text ++ b ∷ bytes = append_assoc text (b ∷ []) bytes in
    record {
      ended = ap ended_copies (sym whole) ∙ rest.ended ∙ one.ended;
      still_open = ap open_headers (sym whole) ∙ rest.still_open ∙ one.still_open;
    }

-- and the copies of the text with its places, and the tag of the one that is open
module _ (first : Setting) (settings later : List Setting) (text more : List PlacedByte)
    (none : BringNothing (bytes_of text) (bytes_of more)) where
  leave : LeaveCopies (bytes_of text) (bytes_of more)
  leave = leave_copies (bytes_of text) (bytes_of more) none

  ended_in-plain : ended_in (text ++ more) ≡ ended_in text
  ended_in-plain =
      ap (map (found_copy (text ++ more)))
      (ap ended_copies (bytes_of-append text more) ∙ leave.ended)
      ∙ found-same text more (ended_copies (bytes_of text)) (ended_headers_in (bytes_of text))

  tag-plain : (kept : CopyTag) (low high : ℕ) → All (IsByteIn low high) text
      → high ≤ length settings → HasTag first settings text kept
      → HasTag first (settings ++ later) (text ++ more) kept
  unfolding HasTag
  tag-plain kept low high placed h k =
      subst (All (IsTagOf first (settings ++ later) (text ++ more) kept))
      (sym (ap open_headers (bytes_of-append text more) ∙ leave.still_open))
      (tags-same first settings later text more kept low high placed h
      (open_headers (bytes_of text)) (open_headers_in (bytes_of text)) k)

length-copies_by : (first : Setting) (settings : List Setting) (copies : List FoundCopy)
    → length (copies_by first settings copies) ≡ length copies
unfolding copies_by
length-copies_by first settings copies =
    length-map copies (λ copy. tag (setting_in first settings copy.place) copy)

-- where no copy has ended by more elements, none has ended by the first of them
none_ended : (first : Setting) (h more : List Bool) (s later some : List Setting)
    (copies : List TaggedCopy) (locks newer : List Lock) (now next : Now) → IsNow h locks now
    → IsNow (h ++ more) newer next → length s ≡ length h
    → copies ≡ copies_by first s (ended_so_far h locks now)
    → copies ≡ copies_by first (s ++ later) (ended_so_far (h ++ more) newer next) → (k : ℕ)
    → HasEnded first (h ++ take k more) (s ++ some) copies
none_ended first h more s later some copies locks newer now next was is many before after k =
    let bits : List Bool = h ++ take k more in
    let stands = standing_after bits in
    let old = ended_so_far h locks now in
    let whole : h ++ more ≡ bits ++ drop k more =
    ap (λ l. h ++ l) (sym (take-append-drop k more))
    ∙ sym (append_assoc h (take k more) (drop k more)) in
    let on = ended_go_on h (take k more) locks stands.locks now stands.now was stands.stands in
    let then = ended_go_on bits (drop k more) stands.locks newer stands.now next stands.stands
    (subst (λ (l : List Bool). IsNow l newer next) whole is) in
    let at_first : length copies ≡ length old =
    ap length before ∙ length-copies_by first s old in
    let at_end : length copies ≡ length (ended_so_far (bits ++ drop k more) newer next) =
    ap length after ∙ length-copies_by first (s ++ later) (ended_so_far (h ++ more) newer next)
    ∙ ap (λ l. length (ended_so_far l newer next)) whole in
    let none : length on.rest ≡ 0 =
    omega (
      arith,
      at_first,
      at_end,
      ap length on.whole,
      ap length then.whole,
      length-append old on.rest,
      length-append (ended_so_far bits stands.locks stands.now) then.rest,
    ) in
    let same : ended_so_far bits stands.locks stands.now ≡ old =
    on.whole ∙ ap (λ l. old ++ l) (length-nil on.rest none) ∙ append-nil old in
    record {
      locks = stands.locks;
      now = stands.now;
      stands = stands.stands;
      ended = before
          ∙ sym (copies_by-later first s some (length h) (omega (arith, many)) old
          (ended_placed h locks now was))
          ∙ ap (copies_by first (s ++ some)) (sym same);
    }
  where
    length-nil : (xs : List FoundCopy) → length xs ≡ 0 → xs ≡ []
    length-nil [] e = refl
    length-nil (x ∷ xs) e = absurd (omega arith)

-- These words come after these elements.
module _ (first : Setting) (h : List Bool) (s : List Setting) (old : CopyHearing)
    (reader : LockReading) (next : List ℕ) (some : 0 < length next)
    (quiet : AreQuietWords h Dx next) (reads : ReadsPlain old.reader reader next)
    (many : length s ≡ length h) where
  abbrev count : ℕ
  count = length next

  abbrev more : List Bool
  more = flat_map elements next

  abbrev h' : List Bool
  h' = h ++ more

  abbrev s' : List Setting
  s' = s ++ all_in_force old more

  many' : length s' ≡ length h'
  unfolding all_in_force
  many' =
      omega (
        arith,
        many,
        length-append h more,
        length-append s (all_in_force old more),
        length-map more (λ (bit : Bool). in_force old),
      )

  -- nothing has ended with them, and the reader and the tag stand after them
  words_over : (locks : List Lock) (p t m : ℕ) → IsNow h locks (locked p t)
      → length h ≡ t + 7 * m → ReadsNow old.reader h (locked p t)
      → HasTag first s (standing_text h (locked p t)) old.tag
      → ReadsOver first reader old.tag h' s'
      (copies_by first s (ended_so_far h locks (locked p t)))
  unfolding ended_so_far
  words_over locks p t m now limit stood has_tag =
      let still = still_words next h Dx locks p t m now limit quiet in
      let here = now.found.here in
      let heard : t + 7 * m ≤ length h = omega (arith, limit) in
      let was : whole_words h t ≡ m = omega (arith, limit) in
      let is : m + count ≡ whole_words h' t =
      omega (arith, limit, length-of_words next, length-append h more) in
      let role : Role = first_role h' t in
      let words : ℕ → ℕ = word_of_lock h' t in
      let text : List PlacedByte = lock_text h t m in
      let at : ReadsLock old.reader role words m = reads-more old.reader h more t m here heard
      (subst (ReadsLock old.reader (first_role h t) (word_of_lock h t)) was stood) in
      let all : AreNext role words m next =
      record { dx = still.role some; are = still.are } in
      let plain = reads.brings role words m at all in
      let grows = text_by-grows role words t m (m + count) (omega arith) in
      let same : text_by role words t m ≡ text = lock_text-more h more t m here heard in
      let whole : lock_text h' t (m + count) ≡ text ++ grows.rest =
      grows.whole ∙ ap (λ l. l ++ grows.rest) same in
      let before : bytes_of text ≡ text_after role words m =
      ap bytes_of (sym same) ∙ bytes_are_reading role words t m in
      let bytes : plain.bytes ≡ bytes_of grows.rest =
      append_cancel_left (text_after role words m) plain.bytes (bytes_of grows.rest)
      (sym plain.grows ∙ sym (bytes_are_reading role words t (m + count)) ∙ ap bytes_of whole
      ∙ bytes_of-append text grows.rest ∙ ap (λ l. l ++ bytes_of grows.rest) before) in
      let none : BringNothing (bytes_of text) (bytes_of grows.rest) =
      subst₂ BringNothing (sym before) bytes plain.nothing in
      let after = all_in_force old more in
      record {
        locks = locks;
        now = locked p t;
        stands = still.stands;
        many = many';
        ended = sym (copies_by-later first s after (length h) (omega (arith, many))
            (ended_so_far h locks (locked p t)) (ended_placed h locks (locked p t) now))
            ∙ ap (copies_by first s')
            (ap (λ (n : ℕ). past_copies h locks ++ ended_in (lock_text h t n)) was
            ∙ ap (λ l. l ++ ended_in text) (sym (past_copies-more h more locks p now.past))
            ∙ ap (λ l. past_copies h' locks ++ l)
            (sym (ended_in-plain first s after text grows.rest none) ∙ ap ended_in (sym whole))
            ∙ ap (λ (n : ℕ). past_copies h' locks ++ ended_in (lock_text h' t n)) is);
        reads = subst (ReadsLock reader role words) is (reads.stands role words m at all);
        has_tag = subst (λ (l : List PlacedByte). HasTag first s' l old.tag)
            (sym whole ∙ ap (lock_text h' t) is)
            (tag-plain first s after text grows.rest none old.tag t (t + 7 * m)
            (text_placed (first_role h t) (word_of_lock h t) t m) (omega (arith, limit, many))
            (subst (λ (n : ℕ). HasTag first s (lock_text h t n) old.tag) was has_tag));
      }

  words_now : (locks : List Lock) (now : Now) → IsNow h locks now → LimitStands h
      → ReadsNow old.reader h now → HasTag first s (standing_text h now) old.tag
      → ReadsOver first reader old.tag h' s' (copies_by first s (ended_so_far h locks now))
  words_now locks (hunting p) now limit stood has_tag =
      absurd (let same = now-unique h locks limit.locks (hunting p) (locked limit.p limit.t) now
      limit.stands in cc)
  words_now locks (locked p t) now limit stood has_tag =
      let same = now-unique h locks limit.locks (locked p t) (locked limit.p limit.t) now
      limit.stands in
      let at : t ≡ limit.t = cc in
      words_over locks p t limit.whole now (omega (arith, limit.limit, at)) stood has_tag

-- no copy has ended with some of these words, and the reader and the tag stand after them
pub record WordsRead (first : Setting) (hearer : CopyHearing) (reader : LockReading)
    (h : List Bool) (s : List Setting) (copies : List TaggedCopy) (more : List Bool) : Type 0 where
  pub reads : ReadsOver first reader hearer.tag (h ++ more) (s ++ all_in_force hearer more) copies
  pub none_before : (k : ℕ)
      → HasEnded first (h ++ take k more) (s ++ all_in_force hearer (take k more)) copies

pub words_read : (first : Setting) (old : CopyTaker) (before : Held) (reader : LockReading)
    (next : List ℕ) (h : List Bool) (s : List Setting) (copies : List TaggedCopy)
    → 0 < length next → ReadsPlain old.reader reader next → AreQuietWords h Dx next → LimitStands h
    → ReadsOver first old.reader old.tag h s copies
    → WordsRead first (hearer_of before old) reader h s copies (flat_map elements next)
words_read first old before reader next h s copies some reads quiet limit o =
    let hearer = hearer_of before old in
    let more : List Bool = flat_map elements next in
    let later : ReadsOver first reader old.tag (h ++ more) (s ++ all_in_force hearer more) copies =
    subst (ReadsOver first reader old.tag (h ++ more) (s ++ all_in_force hearer more)) (sym o.ended)
    (words_now first h s hearer reader next some quiet reads o.many o.locks o.now o.stands limit
    o.reads o.has_tag) in
    record {
      reads = later;
      none_before = λ k. none_ended first h more s (all_in_force hearer more)
          (all_in_force hearer (take k more)) copies o.locks later.locks o.now later.now o.stands
          later.stands o.many o.ended later.ended k;
    }

words_heard : (first : Setting) (old : CopyTaker) (before after : Held) (reader : LockReading)
    (next : List ℕ) (h : List Bool) (s : List Setting) (copies : List TaggedCopy)
    → 0 < length next → ReadsPlain old.reader reader next → BringsWords before after next
    → HearerStands first (hearer_of before old) h s copies
    → HearsBits first (hearer_of before old) (hearer_of after (record old { reader = reader })) h s
    copies (flat_map elements next) None
words_heard first old before after reader next h s copies some reads brings w =
    let read = words_read first old before reader next h s copies some reads
    (brings.quiet h w.synchroniser) (brings.limit h w.synchroniser) w.reads in
    record {
      brings = record { synchroniser = brings.stands h w.synchroniser; reads = read.reads };
      none_before = λ k lt. read.none_before k;
    }

pub plain_taken : (old : CopyTaker) (reader : LockReading) (next : List ℕ) (before after : Held)
    → 0 < length next → ReadsPlain old.reader reader next → BringsWords before after next
    → Hears before old (flat_map elements next) after (record old { reader = reader }) None
plain_taken old reader next before after some reads brings = record {
  hears = record {
    hears = λ first h s copies w. words_heard first old before after reader next h s copies
        some reads brings w;
  };
  force = refl;
  kept = as_it_was refl;
}
