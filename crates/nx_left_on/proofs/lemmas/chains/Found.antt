-- The copies that are found of a watch, however it ended: they begin those that its elements give
-- to the end, rise by their places, and stand at elements.
use Rattle.std.proofs.Common.{◌≡◌, ◌+◌, ◌*◌, Bool, List, [], ◌++◌, length, refl, sym, ap}
use Rattle.std.proofs.Common.{◌∙◌, subst, arith, append-nil, append_assoc}
use Rattle.std.specs.List.{All}
use Rattle.std.proofs.lemmas.List.Elements.{All-append, All-nil}
use Rattle.std.proofs.lemmas.List.Elements.{All-weaker}
use Rattle.nx_code.specs.Lists.{Begins}
use Rattle.nx_copies.specs.Events.{Event, Setting, elements_among}
use Rattle.nx_copies.specs.copies.FoundCopies.{FoundCopy, ended_so_far}
use Rattle.nx_copies.specs.copies.FoundCopies.{found_to_end, open_in, open_so_far}
use Rattle.nx_copies.specs.copies.FoundCopies.{tagged_copies}
use Rattle.nx_copies.specs.copies.LockText.{lock_text}
use Rattle.nx_copies.proofs.lemmas.locks.Found.{IsByteIn, IsCopyIn, one_told, open_in_placed}
use Rattle.nx_copies.proofs.lemmas.locks.Found.{text_placed}
use Rattle.nx_copies.proofs.lemmas.locks.Growing.{ended_go_on, whole_heard}
use Rattle.nx_copies.proofs.lemmas.emissions.Places.{found_rise}
use Rattle.nx_copies.proofs.lemmas.printing.Logged.{bits_of-append, end_adds, ended_placed}
use Rattle.nx_copies.proofs.lemmas.printing.Logged.{tagged_copies-append}
use Rattle.nx_sync.proofs.lemmas.states.StateChanges.{standing_after}
use Rattle.nx_sync.specs.Locks.{IsNow, Lock, Now, hunting, locked}
use Rattle.nx_sync.specs.Words.{first_role, whole_words, word_of_lock}
use Rattle.nx_left_on.specs.Chain.{AreFoundOf, Ending, HadEnded, answered, stopped}
use Rattle.nx_left_on.specs.Chain.{stopped_closing}
use Rattle.nx_left_on.proofs.lemmas.entries.Climbing.{Climbs, IsWithin, Rise, climbs-front, copies-climb}

-- ---- beginnings

pub begins-more : {A : Type 0} (one two three : List A) → Begins one two → Begins two three
    → Begins one three
begins-more one two three h k =
    (h.0 ++ k.0, k.1 ∙ ap (λ l. l ++ k.0) h.1 ∙ append_assoc one h.0 k.0)

pub begins-itself : {A : Type 0} (list : List A) → Begins list list
begins-itself list = ([], sym (append-nil list))

-- ---- all copies that are found stand at elements

open-placed : (bits : List Bool) (locks : List Lock) (now : Now) → IsNow bits locks now
    → All (IsCopyIn 0 (length bits)) (open_so_far bits now)
open-placed bits locks (hunting p) is =
    open_in_placed 0 (length bits) [] (All-nil (IsByteIn 0 (length bits)))
open-placed bits locks (locked p t) is =
    let text = lock_text bits t (whole_words bits t) in
    let heard = whole_heard bits t is.found.here.heard in
    All-weaker (IsCopyIn t (t + 7 * whole_words bits t)) (IsCopyIn 0 (length bits))
    (λ c h. (omega arith, omega (arith, h.1, heard))) (open_in text)
    (open_in_placed t (t + 7 * whole_words bits t) text
    (text_placed (first_role bits t) (word_of_lock bits t) t (whole_words bits t)))

pub found-placed : (bits : List Bool) (locks : List Lock) (now : Now) → IsNow bits locks now
    → All (IsCopyIn 0 (length bits)) (found_to_end bits locks now)
found-placed bits locks now is =
    subst (All (IsCopyIn 0 (length bits))) (sym (end_adds bits locks now))
    (All-append (IsCopyIn 0 (length bits)) (ended_so_far bits locks now) (open_so_far bits now)
    (ended_placed bits locks now is) (open-placed bits locks now is))

pub found-climb : (first : Setting) (events : List Event) (locks : List Lock) (now : Now)
    → Rise first.moment events → IsNow (elements_among events) locks now
    → Climbs first.moment
    (tagged_copies first events (found_to_end (elements_among events) locks now))
found-climb first events locks now rise stands =
    let bits = elements_among events in
    copies-climb first events rise (found_to_end bits locks now) (found_rise bits locks now stands)
    (All-weaker (IsCopyIn 0 (length bits)) (IsWithin events) (λ c h. h.1)
    (found_to_end bits locks now) (found-placed bits locks now stands))

-- ---- however a watch ended

-- what a watch found begins the copies that its elements give to their end
pub record AreWithin (events : List Event) (copies : List FoundCopy) : Type 0 where
  pub locks : List Lock
  pub now : Now
  pub stands : IsNow (elements_among events) locks now
  pub begins : Begins copies (found_to_end (elements_among events) locks now)

pub ended-within : (events : List Event) (copies : List FoundCopy) → HadEnded events copies
    → AreWithin events copies
ended-within events copies h = record {
  locks = h.locks;
  now = h.now;
  stands = h.stands;
  begins = (
    open_so_far (elements_among events) h.now,
    end_adds (elements_among events) h.locks h.now
        ∙ ap (λ l. l ++ open_so_far (elements_among events) h.now) (sym h.whole),
  );
}

pub found-within : (ending : Ending) (events : List Event) (copies : List FoundCopy)
    → AreFoundOf ending events copies → AreWithin events copies
found-within stopped events copies h = ended-within events copies h
found-within answered events copies h = record {
  locks = h.locks;
  now = h.now;
  stands = h.stands;
  begins = ([], sym h.whole ∙ sym (append-nil copies));
}
found-within stopped_closing events copies h = record {
  locks = h.locks;
  now = h.now;
  stands = h.stands;
  begins = ([], sym h.whole ∙ sym (append-nil copies));
}

-- so a beginning of it climbs
pub within-climb : (first : Setting) (events : List Event) (copies : List FoundCopy)
    → Rise first.moment events → AreWithin events copies
    → Climbs first.moment (tagged_copies first events copies)
within-climb first events copies rise w =
    climbs-front first.moment (tagged_copies first events copies)
    (tagged_copies first events w.begins.0)
    (subst (Climbs first.moment)
    (ap (tagged_copies first events) w.begins.1
    ∙ tagged_copies-append first events copies w.begins.0)
    (found-climb first events w.locks w.now rise w.stands))

pub front-within : (events : List Event) (front copies : List FoundCopy) → Begins front copies
    → AreWithin events copies → AreWithin events front
front-within events front copies b w = record {
  locks = w.locks;
  now = w.now;
  stands = w.stands;
  begins = begins-more front copies (found_to_end (elements_among events) w.locks w.now) b w.begins;
}

-- the copies that had ended are one list
pub one-ended : (events : List Event) (copies others : List FoundCopy) → HadEnded events copies
    → HadEnded events others → copies ≡ others
one-ended events copies others h k =
    let bits = elements_among events in
    h.whole
    ∙ one_told (ended_so_far bits) bits h.locks k.locks h.now k.now h.stands k.stands
    ∙ sym k.whole

-- and there is one
pub some-ended : (events : List Event) → (copies : List FoundCopy) × HadEnded events copies
some-ended events =
    let s = standing_after (elements_among events) in (
      ended_so_far (elements_among events) s.locks s.now,
      record { locks = s.locks; now = s.now; stands = s.stands; whole = refl },
    )

-- those that had ended after a beginning of the events begin those that had ended after all
pub ended-begin : (front back : List Event) (copies others : List FoundCopy)
    → HadEnded front copies → HadEnded (front ++ back) others → Begins copies others
ended-begin front back copies others h k =
    let whole = bits_of-append front back in
    let now : IsNow (elements_among front ++ elements_among back) k.locks k.now =
    subst (λ (bits : List Bool). IsNow bits k.locks k.now) whole k.stands in
    let on = ended_go_on (elements_among front) (elements_among back) h.locks k.locks h.now k.now
    h.stands now in (
      on.rest,
      k.whole ∙ ap (λ bits. ended_so_far bits k.locks k.now) whole ∙ on.whole
          ∙ ap (λ l. l ++ on.rest) (sym h.whole),
    )

pub to_end-begin : (events : List Event) (ended : List FoundCopy) (locks : List Lock) (now : Now)
    → HadEnded events ended → IsNow (elements_among events) locks now
    → Begins ended (found_to_end (elements_among events) locks now)
to_end-begin events ended locks now h stands =
    let bits = elements_among events in (
      open_so_far bits now,
      end_adds bits locks now
          ∙ ap (λ l. l ++ open_so_far bits now)
          (one_told (ended_so_far bits) bits locks h.locks now h.now stands h.stands
          ∙ sym h.whole),
    )

-- and those that are found of a watch begin with those that had ended
pub ended-found : (ending : Ending) (events : List Event) (ended copies : List FoundCopy)
    → HadEnded events ended → AreFoundOf ending events copies → Begins ended copies
ended-found stopped events ended copies h k =
    subst (Begins ended) (one-ended events ended copies h k) (begins-itself ended)
ended-found answered events ended copies h k =
    subst (Begins ended) (sym k.whole) (to_end-begin events ended k.locks k.now h k.stands)
ended-found stopped_closing events ended copies h k =
    subst (Begins ended) (sym k.whole) (to_end-begin events ended k.locks k.now h k.stands)
