-- What closing answers, and what the ends print.
use Rattle.std.proofs.Common.{◌≡◌, ◌≢◌, ◌<◌, ◌≤◌, ◌+◌, inl, inr, ℕ, Bool, true, false, List, [], ◌∷◌, ◌++◌, length, map, slice_get, slice_set, arith, refl, sym, ap, ◌∙◌, subst, append-nil, Option, Some}
use Rattle.std.specs.List.{flat_map}
use Rattle.std.proofs.lemmas.Bool.{cases_lt, true≢false}
use Rattle.std.proofs.lemmas.Grind.{common_steps}
use Rattle.nx_fec.specs.air_files.Channels.{channel_number}
use Rattle.nx_fec.specs.declared.air_files.channel.Channel.{Channel}
use Rattle.nx_fec.specs.declared.air_files.channel.Channel.TheVariants.{Zero, One, Two}
use Rattle.nx_copies.specs.copies.FoundCopies.{TaggedCopy}
use Rattle.nx_copies.specs.copies.InTurn.{PrintAllToEndBy}
use Rattle.nx_copies.specs.copies.Log.{IsEntry}
use Rattle.nx_copies.specs.copies.Shares.{Given, MarkedCopy, Starts, copies_on, marked, share, start_on}
use Rattle.nx_handle.specs.Closing.{AnswersClosing, closing_status}
use Rattle.nx_handle.specs.Life.{EndPrints, EndPrintsOn, EndPrintsWhere, EndsWith, HasHeard}
use Rattle.nx_handle.specs.PlaceKinds.{IsPlaceKind, PlaceKind}
use Rattle.nx_handle.specs.Places.{KeepsRoom, all_closed, all_hear, place_on}
use Rattle.nx_handle.specs.Receivers.{one_on}
use Rattle.nx_handle.specs.Status.{number_of}
use Rattle.nx_handle.specs.CallerRoom.{IsCopiedOut, Room}
use Rattle.nx_handle.proofs.lemmas.Places.{each-is, one-or-other, past, set-here, set-there, some-is, there, within}

open-status : (capacity : ℕ) → 4163 ≤ capacity → 0 ≡ number_of (closing_status false capacity)
open-status capacity enough = grind (arith, common_steps)

-- one is handed out
pub closes-one : {P : Type 0} (kind : PlaceKind P) (old new : List P) (log : Room)
    (copy : MarkedCopy) (bytes : List ℕ) → all_closed kind old ≡ false
    → 4163 ≤ length log.old → IsCopiedOut bytes log → length bytes ≤ 4163 → IsEntry copy bytes
    → all_hear kind new ≡ false → all_closed kind new ≡ false
    → ((left : List MarkedCopy) → EndsWith kind new left → EndsWith kind old (copy ∷ left))
    → length new ≡ length old → KeepsRoom kind old new → AnswersClosing kind old new log 0
closes-one kind old new log copy bytes is_open enough copied few spelled ended still behind long
    rooms =
    record {
      cause = open-status (length log.old) enough
          ∙ sym (ap (λ b. number_of (closing_status b (length log.old))) is_open);
      text = bytes;
      copied = copied;
      fits = omega (arith, few, enough);
      done = λ _. record {
        was_open = is_open;
        goes = inl (record {
          copy = copy;
          entry = spelled;
          ended = ended;
          is_open = still;
          behind = behind;
        });
      };
      refused = λ no. absurd (no refl);
      channels = long;
      rooms = rooms;
    }

-- ---- the ends one by one

-- what is printed by channel
abbrev pub by_channel : (Channel → List TaggedCopy) → List MarkedCopy
by_channel last = flat_map (λ channel. map (marked channel) (last channel)) (Zero ∷ One ∷ Two ∷ [])

-- the channel in this place has ended: it doesn't hear, and its receiver isn't closed
pub record HasGone {P : Type 0} (kind : PlaceKind P) (place : P) : Type 0 where
  pub silent : kind.is_hearing place ≡ false
  pub still : kind.is_closed place ≡ false

-- the end of a place that hears
pub end-prints : {P : Type 0} (kind : PlaceKind P) (place : P) (last : List TaggedCopy)
    → kind.is_hearing place ≡ true → EndPrintsWhere kind place last true
    → EndPrints kind place last
end-prints kind place last hears h = subst (EndPrintsWhere kind place last) (sym hears) h

-- a place that doesn't hear prints nothing
pub not-hearing : {P : Type 0} (kind : PlaceKind P) (place : P) → kind.is_hearing place ≡ false
    → EndPrints kind place []
not-hearing kind place e = subst (EndPrintsWhere kind place []) (sym e) refl

-- nor does it print anything more
gone : {P : Type 0} (kind : PlaceKind P) (place : Option P) (end : P) (last : List TaggedCopy)
    → kind.is_hearing end ≡ false → place ≡ Some end → EndPrintsOn kind place last → last ≡ []
gone kind place end last silent e h =
    subst (EndPrintsWhere kind end last) silent (subst (λ o. EndPrintsOn kind o last) e h)

-- the end of a channel printed nothing
pub silent-first : {P : Type 0} (kind : PlaceKind P) (old : List P) (channel : Channel)
    (place end : P) → kind.is_hearing end ≡ false → place_on old channel ≡ Some place
    → EndPrints kind place [] → (left : List MarkedCopy)
    → EndsWith kind (slice_set old (channel_number channel) end) left → EndsWith kind old left
silent-first kind old channel place end ended at silent left h =
    let n = channel_number channel in record {
      last = h.last;
      prints = λ other. elim (one-or-other channel other) [
        | inl same ↦
            let now : place_on (slice_set old n end) other ≡ Some end =
            subst (λ c. place_on (slice_set old n end) c ≡ Some end) same
            (set-here old n end (within old n place at)) in
            let none = gone kind (place_on (slice_set old n end) other) end (h.last other) ended
            now (h.prints other) in
            subst (λ l. EndPrintsOn kind (place_on old other) l) (sym none)
            (subst (λ c. EndPrintsOn kind (place_on old c) []) same
            (subst (λ o. EndPrintsOn kind o []) (sym at) silent))
        | inr apart ↦ subst (λ o. EndPrintsOn kind o (h.last other))
            (set-there old n (channel_number other) end apart.1) (h.prints other)
      ];
      by_channel = h.by_channel;
    }

-- with these copies of a channel first
abbrev with_last : (Channel → List TaggedCopy) → Channel → List TaggedCopy → Channel
    → List TaggedCopy
with_last last Zero copies Zero = copies
with_last last Zero copies One = last One
with_last last Zero copies Two = last Two
with_last last One copies Zero = last Zero
with_last last One copies One = copies
with_last last One copies Two = last Two
with_last last Two copies Zero = last Zero
with_last last Two copies One = last One
with_last last Two copies Two = copies

with-own : (last : Channel → List TaggedCopy) (channel : Channel) (copies : List TaggedCopy)
    → with_last last channel copies channel ≡ copies
with-own last Zero copies = refl
with-own last One copies = refl
with-own last Two copies = refl

with-other : (last : Channel → List TaggedCopy) (channel other : Channel)
    (copies : List TaggedCopy) → channel_number other ≢ channel_number channel
    → with_last last channel copies other ≡ last other
with-other last Zero Zero copies apart = absurd (apart refl)
with-other last Zero One copies apart = refl
with-other last Zero Two copies apart = refl
with-other last One Zero copies apart = refl
with-other last One One copies apart = absurd (apart refl)
with-other last One Two copies apart = refl
with-other last Two Zero copies apart = refl
with-other last Two One copies apart = refl
with-other last Two Two copies apart = absurd (apart refl)

-- the channels before it print nothing, and it prints one copy
one-more : (last : Channel → List TaggedCopy) (channel : Channel) (copy : TaggedCopy)
    → ((other : Channel) → channel_number other < channel_number channel → last other ≡ [])
    → last channel ≡ []
    → marked channel copy ∷ by_channel last ≡ by_channel (with_last last channel (copy ∷ []))
one-more last Zero copy none own =
    ap (λ l. marked Zero copy ∷ (map (marked Zero) l ++ (map (marked One) (last One)
    ++ (map (marked Two) (last Two) ++ [])))) own
one-more last One copy none own =
    ap (λ l. marked One copy ∷ (map (marked Zero) l ++ (map (marked One) (last One)
    ++ (map (marked Two) (last Two) ++ [])))) (none Zero (omega arith))
    ∙ ap (λ l. marked One copy ∷ (map (marked One) l
    ++ (map (marked Two) (last Two) ++ []))) own
    ∙ sym (ap (λ l. map (marked Zero) l ++ marked One copy ∷ (map (marked Two) (last Two) ++ []))
    (none Zero (omega arith)))
one-more last Two copy none own =
    ap (λ l. marked Two copy ∷ (map (marked Zero) l ++ (map (marked One) (last One)
    ++ (map (marked Two) (last Two) ++ [])))) (none Zero (omega arith))
    ∙ ap (λ l. marked Two copy ∷ (map (marked One) l
    ++ (map (marked Two) (last Two) ++ []))) (none One (omega arith))
    ∙ ap (λ l. marked Two copy ∷ (map (marked Two) l ++ [])) own
    ∙ sym (ap (λ l. map (marked Zero) l ++ (map (marked One) (last One) ++ marked Two copy ∷ []))
    (none Zero (omega arith))
    ∙ ap (λ l. map (marked One) l ++ marked Two copy ∷ []) (none One (omega arith)))

-- each of the first so many has ended
abbrev pub FirstGone : {P : Type 0} → PlaceKind P → List P → ℕ → Type 0
FirstGone {P} kind places count =
    (k : ℕ) (place : P) → k < count → slice_get places k ≡ Some place → HasGone kind place

-- the end of a channel printed a copy, and those before it have ended
pub printed-first : {P : Type 0} (kind : PlaceKind P) (old : List P) (channel : Channel)
    (place end : P) (copy : TaggedCopy) → kind.is_hearing end ≡ false
    → place_on old channel ≡ Some place → EndPrints kind place (copy ∷ [])
    → FirstGone kind old (channel_number channel) → (left : List MarkedCopy)
    → EndsWith kind (slice_set old (channel_number channel) end) left
    → EndsWith kind old (marked channel copy ∷ left)
printed-first kind old channel place end copy ended at prints before left h =
    let n = channel_number channel in
    let new = slice_set old n end in
    let has = within old n place at in
    let own : h.last channel ≡ [] =
    gone kind (place_on new channel) end (h.last channel) ended (set-here old n end has)
    (h.prints channel) in
    let none = λ (other : Channel) (lt : channel_number other < n).
    let p = there old (channel_number other) (omega (arith, lt, has)) in
    gone kind (place_on new other) p.0 (h.last other)
    (before (channel_number other) p.0 lt p.1).silent
    (set-there old n (channel_number other) end (λ e. omega (arith, lt, e)) ∙ p.1)
    (h.prints other) in
    record {
      last = with_last h.last channel (copy ∷ []);
      prints = λ other. elim (one-or-other channel other) [
        | inl same ↦ subst (λ c. EndPrintsOn kind (place_on old c)
            (with_last h.last channel (copy ∷ []) c)) same
            (subst (λ l. EndPrintsOn kind (place_on old channel) l)
            (sym (with-own h.last channel (copy ∷ [])))
            (subst (λ o. EndPrintsOn kind o (copy ∷ [])) (sym at) prints))
        | inr apart ↦ subst (λ l. EndPrintsOn kind (place_on old other) l)
            (sym (with-other h.last channel other (copy ∷ []) apart.1))
            (subst (λ o. EndPrintsOn kind o (h.last other))
            (set-there old n (channel_number other) end apart.1) (h.prints other))
      ];
      by_channel = ap (λ l. marked channel copy ∷ l) h.by_channel
          ∙ one-more h.last channel copy none own;
    }

-- one more has ended
pub ended-more : {P : Type 0} (kind : PlaceKind P) (places : List P) (at : ℕ) (place : P)
    → at < length places → HasGone kind place → FirstGone kind places at
    → FirstGone kind (slice_set places at place) (at + 1)
ended-more kind places at place has is before k one lt e = elim (cases_lt k at) [
  | inl less ↦ before k one less
      (sym (set-there places at k place (λ same. omega (arith, less, same))) ∙ e)
  | inr more ↦
      let same : k ≡ at = omega (arith, lt, more) in
      subst (HasGone kind) (some-is (sym (ap (slice_get (slice_set places at place)) same
      ∙ set-here places at place has) ∙ e)) is
]

-- no channel prints anything, where none hears
none-left : {P : Type 0} (kind : PlaceKind P) (places : List P)
    → ((k : ℕ) (place : P) → slice_get places k ≡ Some place → kind.is_hearing place ≡ false)
    → EndsWith kind places []
none-left kind places silent = record {
  last = λ channel. [];
  prints = λ channel. elim (cases_lt (channel_number channel) (length places)) [
    | inl lt ↦
        let p = there places (channel_number channel) lt in
        subst (λ o. EndPrintsOn kind o []) (sym p.1)
        (not-hearing kind p.0 (silent (channel_number channel) p.0 p.1))
    | inr le ↦ subst (λ o. EndPrintsOn kind o [])
        (sym (past places (channel_number channel) (omega (arith, le)))) refl
  ];
  by_channel = refl;
}

pub all-gone : {P : Type 0} (kind : PlaceKind P) (places : List P) (count : ℕ)
    → length places ≤ count → FirstGone kind places count → EndsWith kind places []
all-gone kind places count le ended =
    none-left kind places
    (λ k place e. let lt = within places k place e in
    (ended k place (omega (arith, lt, le)) e).silent)

-- what is closed doesn't hear
closed-silent : {P : Type 0} (kind : PlaceKind P) → IsPlaceKind kind → (place : P) (b : Bool)
    → kind.is_hearing place ≡ b → kind.is_closed place ≡ true → b ≡ false
closed-silent kind laws place true hears closed =
    absurd (true≢false (sym closed ∙ laws.is_open place hears))
closed-silent kind laws place false hears closed = refl

pub closed-gone : {P : Type 0} (kind : PlaceKind P) → IsPlaceKind kind → (places : List P)
    → all_closed kind places ≡ true → EndsWith kind places []
closed-gone kind laws places closed =
    none-left kind places
    (λ k place e. closed-silent kind laws place (kind.is_hearing place) refl
    (each-is kind.is_closed places k place closed e))

-- ---- the end of all that was given

-- the receiver of a channel stands so
pub stands-on : {P : Type 0} (kind : PlaceKind P) (held : ℕ) (starts : Starts) (places : List P)
    (given : List Given) (copies : List MarkedCopy)
    → (stood : HasHeard kind held starts places given copies) → (channel : Channel)
    → kind.stands held (start_on starts channel) (one_on stood.listener channel)
    (share channel given) (copies_on channel copies)
stands-on kind held starts places given copies stood Zero = stood.heard.receivers Zero
stands-on kind held starts places given copies stood One = stood.heard.receivers One
stands-on kind held starts places given copies stood Two = stood.heard.receivers Two

-- the end of a place in which a receiver stands
end-where : {P : Type 0} (kind : PlaceKind P) (place : P) (last : List TaggedCopy)
    → kind.is_hearing place ≡ true → EndPrints kind place last
    → EndPrintsWhere kind place last true
end-where kind place last hears h = subst (EndPrintsWhere kind place last) hears h

ends-on : {P : Type 0} (kind : PlaceKind P) → IsPlaceKind kind → (held : ℕ) (starts : Starts)
    (places : List P) (given : List Given) (copies left : List MarkedCopy)
    → (stood : HasHeard kind held starts places given copies)
    → (h : EndsWith kind places left) → (channel : Channel)
    → (kind.printing held).to_end (start_on starts channel) (share channel given)
    (copies_on channel copies ++ h.last channel)
ends-on kind laws held starts places given copies left stood h channel =
    elim (cases_lt (channel_number channel) (length places)) [
      | inl lt ↦
          let stands = stands-on kind held starts places given copies stood channel in
          let hears = laws.hears held (start_on starts channel) (one_on stood.listener channel)
          (share channel given) (copies_on channel copies) stands in
          end-where kind (one_on stood.listener channel) (h.last channel) hears
          (subst (λ o. EndPrintsOn kind o (h.last channel)) (stood.hears channel lt)
          (h.prints channel)) held (start_on starts channel) (share channel given)
          (copies_on channel copies) stands
      | inr le ↦
          let none : h.last channel ≡ [] =
          subst (λ o. EndPrintsOn kind o (h.last channel))
          (past places (channel_number channel) (omega (arith, le))) (h.prints channel) in
          subst (λ l. (kind.printing held).to_end (start_on starts channel)
          (share channel given) l)
          (sym (ap (λ l. copies_on channel copies ++ l) none
          ∙ append-nil (copies_on channel copies)))
          (laws.silent_end held (start_on starts channel) (share channel given)
          (copies_on channel copies) (stood.no_elements channel (omega (arith, le)))
          (stood.heard.in_turn.each channel))
    ]

pub ends-all : {P : Type 0} (kind : PlaceKind P) → IsPlaceKind kind → (held : ℕ)
    (starts : Starts) (places : List P) (given : List Given) (copies left : List MarkedCopy)
    → HasHeard kind held starts places given copies → EndsWith kind places left
    → PrintAllToEndBy (kind.printing held) starts given (copies ++ left)
ends-all kind laws held starts places given copies left stood h = record {
  ended = copies;
  in_turn = stood.heard.in_turn;
  closed = h.last;
  to_end = ends-on kind laws held starts places given copies left stood h;
  whole = ap (λ all. copies ++ all) h.by_channel;
}
