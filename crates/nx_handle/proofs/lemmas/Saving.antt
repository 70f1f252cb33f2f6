-- What saving answers, and opening from what is saved.
use Rattle.std.proofs.Common.{◌≡◌, ◌≢◌, ◌≤◌, ◌<◌, inl, inr, ℕ, ◌+◌, ◌||◌, ◌⊎◌, Bool, false, true, IsTrue, codes, List, [], ◌∷◌, ◌++◌, length, map, take, drop, refl, sym, ap, ap₂, ◌-◌, ◌∙◌, subst, append_assoc, append-nil, arith, Some}
use Rattle.nx_code.specs.Reading.{newline}
use Rattle.nx_memory.specs.Saved.{SavedStates}
use Rattle.nx_memory.specs.StateText.{BeginsNoText, BeginsText, IsShortLine, IsStateText}
use Rattle.nx_copies.specs.copies.Shares.{starts_from}
use Rattle.nx_fec.specs.Transfers.{whole_input}
use Rattle.nx_fec.specs.declared.air_files.channel.Channel.TheVariants.{Zero, One, Two}
use Rattle.nx_receiver.specs.air_file_runs.State.{AnswersState, BeginsWith, BeginsWithState, ended_lines}
use Rattle.nx_receiver.proofs.lemmas.state.Answers.{good_answer}
use Rattle.nx_receiver.proofs.lemmas.state.Splits.{ended-one}
use Rattle.nx_code.specs.Reading.{IsCapital}
use Rattle.nx_memory.specs.Selection.{IsRefusable, Refused}
use Rattle.nx_handle.specs.Life.{HasHeard}
use Rattle.nx_handle.specs.PlaceKinds.{IsPlaceKind, PlaceKind}
use Rattle.nx_handle.specs.Places.{HaveRoom, all_closed}
use Rattle.nx_handle.specs.Saving.{AnswersOpeningFrom, HasNoMore, HasNothing, OpensFromBy, RefusesLetter, RefusesState, RefusesText}
use Rattle.nx_handle.specs.private.Saving.{IsFirstLine, RefusesEnd, StandsNext}
use Rattle.nx_handle.specs.Status.{number_of}
use Rattle.std.specs.FinSet as set
use Rattle.nx_handle.specs.private.Opening.{ShutSame}
use Rattle.nx_handle.proofs.lemmas.Places.{closed-again, long-kept, room-kept, rooms-same}
use Rattle.nx_handle.specs.declared.status.Status.{Status}
use Rattle.nx_handle.specs.declared.status.Status.TheVariants as status
use Rattle.std.specs.Prelude.{Err, Ok, slice_index_or}
use Rattle.std.specs.List.{AllByRecursion}
use Rattle.std.specs.Str.{bytes_eq}
use Rattle.std.proofs.lemmas.Bool.{cases_lt, true≢false}
use Rattle.std.proofs.lemmas.Slice.Eq.{bytes_eq-Decides}
use Rattle.std.proofs.lemmas.List.{drop-drop, drop_at, drop_more, length-append, length-drop, length-take, take_all, take-append-drop, take_more}
use Rattle.nx_code.proofs.lemmas.Each.{each_append}

-- the same beginning, of which something else holds
pub begins-as : (bytes : List ℕ) (P Q : SavedStates → List ℕ → Type 0)
    → ((states : SavedStates) (more : List ℕ) → P states more → Q states more)
    → BeginsWith bytes P → BeginsWith bytes Q
begins-as bytes P Q holds b = record {
  text = b.text;
  more = b.more;
  states = b.states;
  whole = b.whole;
  stands_for = b.stands_for;
  here = holds b.states b.more b.here;
}

-- the answer of reading bytes that begin with a state
its-answer : (bytes : List ℕ) (P : SavedStates → Type 0)
    → (b : BeginsWith bytes (λ states more. P states))
    → AnswersState whole_input bytes (Ok b.states)
its-answer bytes P b = record {
  text = b.text;
  more = b.more;
  states = b.states;
  whole = b.whole;
  stands_for = b.stands_for;
  here = (refl, tt);
}

its-state : (bytes : List ℕ) (P : SavedStates → Type 0)
    → (b : BeginsWith bytes (λ states more. P states))
    → BeginsWithState bytes b.states
its-state bytes P b = record {
  text = b.text;
  more = b.more;
  states = b.states;
  whole = b.whole;
  stands_for = b.stands_for;
  here = refl;
}

-- bytes begin with one state, of which all hold
pub begins-all : (bytes : List ℕ) (P : ℕ → SavedStates → Type 0) (count : ℕ) → 0 < count
    → ((k : ℕ) → k < count → BeginsWith bytes (λ states more. P k states))
    → BeginsWith bytes (λ states more. (k : ℕ) → k < count → P k states)
begins-all bytes P count some h =
    let b = h 0 some in record {
      text = b.text;
      more = b.more;
      states = b.states;
      whole = b.whole;
      stands_for = b.stands_for;
      here = λ k lt.
          let d = h k lt in
          let same : d.states ≡ b.states =
          good_answer (Some bytes) (Ok d.states) (its-answer bytes (P k) d) b.states
          (its-state bytes (P 0) b) in
          subst (P k) same d.here;
    }

-- what a receiver answers that is opened from a state, and that isn't
pub opens-from-it : {P : Type 0} (kind : PlaceKind P) → IsPlaceKind kind → (bytes : List ℕ)
    (old new : List P) → all_closed kind old ≡ true
    → BeginsWith bytes (λ states more. HasNoMore (length old) states
    × ((held : ℕ) → HaveRoom kind held old → HasHeard kind held (starts_from states) new [] []))
    → ShutSame kind old new → AnswersOpeningFrom kind bytes old new 0
opens-from-it kind laws bytes old new closed b same = record {
  opens = subst (λ o. OpensFromBy kind o bytes old new 0) (sym closed)
      (inl (begins-as bytes
      (λ states more. HasNoMore (length old) states
      × ((held : ℕ) → HaveRoom kind held old
      → HasHeard kind held (starts_from states) new [] []))
      (λ states more. (0 ≡ 0) × HasNoMore (length old) states
      × ((held : ℕ) → HaveRoom kind held old
      → HasHeard kind held (starts_from states) new [] []))
      (λ states more h. (refl, h.0, h.1)) b));
  channels = long-kept kind old new same;
  rooms = room-kept kind laws old new same;
}

pub opens-not : {P : Type 0} (kind : PlaceKind P) → IsPlaceKind kind → (bytes : List ℕ)
    (old mid new : List P) (why : Status) (answer : ℕ) → all_closed kind old ≡ true
    → RefusesState (length old) bytes why → answer ≡ number_of why → ShutSame kind old mid
    → new ≡ map kind.shut mid → AnswersOpeningFrom kind bytes old new answer
opens-not kind laws bytes old mid new why answer closed refuses e same shut =
    let is = closed-again kind laws old mid new closed same shut in record {
      opens = subst (λ o. OpensFromBy kind o bytes old new answer) (sym closed)
          (inr (why, refuses, e, is));
      channels = ap length is;
      rooms = rooms-same kind is;
    }

-- ---- what is saved of channels

pub no-more : (count : ℕ) (states : SavedStates) → 0 < count
    → (count ≤ 1 → HasNothing states.on_1) → (count ≤ 2 → HasNothing states.on_2)
    → HasNoMore count states
no-more count states first one two Zero le = absurd (omega (arith, first, le))
no-more count states first one two One le = one le
no-more count states first one two Two le = two le

or-cases : (a b : Bool) → IsTrue (a || b) → IsTrue a ⊎ IsTrue b
or-cases true b h = inl refl
or-cases false b h = inr h

-- a letter that is refused is a letter
pub letter-of : (refused : Refused) (letter : ℕ) → IsRefusable refused
    → RefusesLetter refused letter → IsCapital letter
letter-of refused letter only h =
    elim (or-cases (set.contains refused.stations letter)
    (set.contains refused.subjects letter) h) [
      | inl station ↦ only.stations letter station
      | inr subject ↦ only.subjects letter subject
    ]

-- ---- the lines of a text

-- lines, the next one, and what follows
one-more : (lines : List (List ℕ)) (line more : List ℕ)
    → ended_lines lines ++ ((line ++ newline ∷ []) ++ more)
    ≡ ended_lines (lines ++ line ∷ []) ++ more
one-more lines line more =
    sym (append_assoc (ended_lines lines) (line ++ newline ∷ []) more)
    ∙ ap (λ l. l ++ more) (sym (ended-one lines line))

text-is-read : (bytes rest line more : List ℕ) (lines : List (List ℕ)) (states : SavedStates)
    → bytes ≡ ended_lines lines ++ rest → rest ≡ (line ++ newline ∷ []) ++ more
    → IsStateText (lines ++ line ∷ []) states → BeginsWith bytes (λ others more. states ≡ others)
text-is-read bytes rest line more lines states e f is = record {
  text = ended_lines (lines ++ line ∷ []);
  more = more;
  states = states;
  whole = e ∙ ap (λ r. ended_lines lines ++ r) f ∙ one-more lines line more;
  stands_for = record { lines = lines ++ line ∷ []; text = is; spelled = refl };
  here = refl;
}

-- the line that stands next is the last one of a text
pub next-is-last : (bytes line : List ℕ) (lines : List (List ℕ)) (states : SavedStates)
    → StandsNext lines line bytes → IsStateText (lines ++ line ∷ []) states
    → BeginsWith bytes (λ others more. states ≡ others)
next-is-last bytes line lines states next is =
    text-is-read bytes ((line ++ newline ∷ []) ++ next.more) line next.more lines states
    next.whole refl is

-- a line can't stand there
line-is-bad : (bytes rest line more : List ℕ) (lines : List (List ℕ)) (why : Status)
    → bytes ≡ ended_lines lines ++ rest → rest ≡ (line ++ newline ∷ []) ++ more
    → BeginsText lines → IsShortLine line → BeginsNoText (lines ++ line ∷ [])
    → why ≡ status.StateLine → RefusesText bytes why
line-is-bad bytes rest line more lines why e f begins part bad is = inl (
  length lines + 1,
  record {
    lines = lines;
    rest = line;
    more = newline ∷ more;
    whole = e ∙ ap (λ r. ended_lines lines ++ r) (f ∙ append_assoc line (newline ∷ []) more)
        ∙ sym (append_assoc (ended_lines lines) line (newline ∷ more));
    begins = begins;
    part = part;
    here = (refl, (tt, inl (refl, bad)));
  },
  is,
)

-- a line is the last one of texts or it isn't
by-end : (line : List ℕ) (b : Bool) → bytes_eq line (codes "END") ≡ b → (P : Type 0)
    → (line ≡ codes "END" → P) → (line ≢ codes "END" → P) → P
by-end line true is P last other = last ((bytes_eq-Decides line (codes "END")).0 is)
by-end line false is P last other =
    other (λ same. true≢false (sym ((bytes_eq-Decides line (codes "END")).1 same) ∙ is))

-- the line that stands next is no last one either
pub next-is-bad : (bytes line : List ℕ) (lines : List (List ℕ)) → StandsNext lines line bytes
    → (line ≡ codes "END" → BeginsNoText (lines ++ line ∷ [])) → RefusesText bytes status.StateLine
next-is-bad bytes line lines next end =
    let bad : BeginsNoText (lines ++ line ∷ []) =
    by-end line (bytes_eq line (codes "END")) refl (BeginsNoText (lines ++ line ∷ [])) end
    next.refused in
    line-is-bad bytes ((line ++ newline ∷ []) ++ next.more) line next.more lines
    status.StateLine next.whole refl next.begins next.short bad refl

-- the line that stands next ends no text of so many channels
pub end-is-bad : (count : ℕ) (bytes line : List ℕ) (lines : List (List ℕ)) (why : Status)
    → StandsNext lines line bytes → RefusesEnd count lines line why
    → RefusesState count bytes why
end-is-bad count bytes line lines why next refuses = elim refuses [
  | inl h ↦ inl (subst (RefusesText bytes) (sym h.1) (next-is-bad bytes line lines next h.0))
  | inr h ↦ inr (
    begins-as bytes (λ others more. h.0.0 ≡ others) (λ others more. HasNoMore count others → ⊥)
        (λ others more same. subst (λ s. HasNoMore count s → ⊥) same h.0.2)
        (next-is-last bytes line lines h.0.0 next h.0.1),
    h.1,
  )
]

-- a line has a 17th byte
pub line-is-long : (bytes rest line more : List ℕ) (byte : ℕ) (lines : List (List ℕ))
    (why : Status) → bytes ≡ ended_lines lines ++ rest → rest ≡ line ++ byte ∷ more
    → BeginsText lines → IsShortLine line → length line ≡ 16 → byte ≢ newline
    → why ≡ status.StateLine → RefusesText bytes why
line-is-long bytes rest line more byte lines why e f begins part full other is = inl (
  length lines + 1,
  record {
    lines = lines;
    rest = line;
    more = byte ∷ more;
    whole = e ∙ ap (λ r. ended_lines lines ++ r) f
        ∙ sym (append_assoc (ended_lines lines) line (byte ∷ more));
    begins = begins;
    part = part;
    here = (refl, (tt, inr (other, full)));
  },
  is,
)

-- the bytes end before the line does
pub line-is-cut : (bytes rest : List ℕ) (lines : List (List ℕ)) (why : Status)
    → bytes ≡ ended_lines lines ++ rest → BeginsText lines → IsShortLine rest
    → why ≡ status.StateCut → RefusesText bytes why
line-is-cut bytes rest lines why e begins part is = inr (
  length lines + 1,
  (
    tt,
    record {
      lines = lines;
      rest = rest;
      more = [];
      whole = e ∙ sym (append-nil (ended_lines lines ++ rest));
      begins = begins;
      part = part;
      here = (refl, refl);
    },
  ),
  is,
)

-- ---- the bytes of a line

-- bytes, by one of them
pub split-at : (bytes : List ℕ) (n byte : ℕ) → n < length bytes
    → slice_index_or bytes n 0 ≡ byte → bytes ≡ take n bytes ++ byte ∷ drop (n + 1) bytes
split-at bytes n byte lt e =
    sym (take-append-drop n bytes)
    ∙ ap (λ l. take n bytes ++ l)
    (drop_more bytes n 0 lt ∙ ap (λ b. b ∷ drop (n + 1) bytes) e)

-- one byte more that is no line feed
pub short-more : (bytes : List ℕ) (n : ℕ) → n < length bytes → n + 1 ≤ 16
    → (slice_index_or bytes n 0 ≡ newline → ⊥) → IsShortLine (take n bytes)
    → IsShortLine (take (n + 1) bytes)
short-more bytes n lt few other h = record {
  short = omega (arith, length-take (n + 1) bytes, few);
  one_line = subst (AllByRecursion (λ byte. byte ≢ newline)) (sym (take_more bytes n 0 lt))
      (each_append (λ byte. byte ≢ newline) (take n bytes) (slice_index_or bytes n 0 ∷ [])
      h.one_line (other, tt));
}

pub less-than : (n m : ℕ) → n ≤ m → (n ≡ m → ⊥) → n + 1 ≤ m
less-than n m few other = elim (cases_lt n m) [
  | inl less ↦ omega (arith, less)
  | inr more ↦ absurd (other (omega (arith, few, more)))
]

-- the line that comes is none of a state
pub first-fails : (bytes rest : List ℕ) (lines : List (List ℕ)) (why : Status)
    → bytes ≡ ended_lines lines ++ rest → BeginsText lines → IsFirstLine rest (Err why)
    → RefusesText bytes why
first-fails bytes rest lines why e begins first = elim first [
  | inl h ↦ line-is-long bytes rest h.1.0 h.1.2 h.1.1 lines why e h.1.6 begins h.1.3 h.1.4 h.1.5
      h.0
  | inr h ↦ line-is-cut bytes rest lines why e begins h.1 h.0
]

-- behind one line more
pub next-whole : (bytes : List ℕ) (at count : ℕ) (line more : List ℕ) (lines : List (List ℕ))
    → bytes ≡ ended_lines lines ++ drop at bytes
    → drop at bytes ≡ (line ++ newline ∷ []) ++ more → length line ≡ count
    → bytes ≡ ended_lines (lines ++ line ∷ []) ++ drop (at + (count + 1)) bytes
next-whole bytes at count line more lines e f long =
    let front : length (line ++ newline ∷ []) ≡ count + 1 =
    omega (arith, length-append line (newline ∷ []), long) in
    let rest : drop (at + (count + 1)) bytes ≡ more =
    sym (drop-drop (count + 1) at bytes) ∙ ap (drop (count + 1)) f
    ∙ drop_at (line ++ newline ∷ []) more (count + 1) front in
    e ∙ ap (λ r. ended_lines lines ++ r) f ∙ one-more lines line more
    ∙ ap (λ r. ended_lines (lines ++ line ∷ []) ++ r) (sym rest)

-- what stands from a place on
pub rest-is : (bytes : List ℕ) (at : ℕ)
    → take (length bytes - at) (drop at bytes) ≡ drop at bytes
rest-is bytes at =
    take_all (length bytes - at) (drop at bytes) (omega (arith, length-drop at bytes))

-- a line of it
pub line-is : (bytes : List ℕ) (at count : ℕ)
    → take (at + count - at) (drop at bytes)
    ≡ take count (take (length bytes - at) (drop at bytes))
line-is bytes at count =
    let same : at + count - at ≡ count = omega arith in ap₂ take same (sym (rest-is bytes at))
