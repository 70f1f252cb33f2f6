-- What a receiver stands after, by what is done in its places.
use Rattle.std.proofs.Common.{◌≡◌, ◌<◌, ◌≤◌, inl, inr, ℕ, Bool, false, cond, List, [], ◌∷◌, ◌++◌, length, slice_set, Some, append-nil, arith, refl, sym, ap, ◌∙◌, subst}
use Rattle.std.proofs.lemmas.Bool.{cases_lt}
use Rattle.nx_fec.specs.air_files.Channels.{channel_number, same_channel}
use Rattle.nx_fec.specs.declared.air_files.channel.Channel.{Channel}
use Rattle.nx_fec.specs.declared.air_files.channel.Channel.TheVariants.{Zero, One, Two}
use Rattle.nx_copies.specs.Events as events
use Rattle.nx_copies.specs.Events.{Command, Event, at_moment, command, elements_among}
use Rattle.nx_copies.specs.copies.Shares.{Given, MarkedCopy, Starts, share, start_on, to_all, to_one}
use Rattle.nx_copies.proofs.lemmas.channels.Shares.{share-one}
use Rattle.nx_copies.proofs.lemmas.printing.Logged.{bits_of-append}
use Rattle.nx_receiver.specs.Listener.{then_command, then_elements, then_moment}
use Rattle.nx_receiver.specs.ChannelReceiver.{TakesEventBy}
use Rattle.nx_receiver.proofs.lemmas.listening.Listener.{on-all}
use Rattle.nx_handle.specs.Hearing.{HearsElements}
use Rattle.nx_handle.specs.private.Hearing.{HearsOn}
use Rattle.nx_handle.specs.Life.{HasHeard}
use Rattle.nx_handle.specs.PlaceKinds.{IsPlaceKind, PlaceKind, TakesEventIn, receiver_of}
use Rattle.nx_handle.specs.Places.{HasChannel, place_on}
use Rattle.nx_handle.specs.Receivers.{Listening, one_on}
use Rattle.nx_handle.specs.private.Receivers.{three}
use Rattle.nx_handle.specs.private.Moments.{MomentsTaken}
use Rattle.nx_handle.proofs.lemmas.Places.{one-or-other, set-here, set-long, set-there, some-is, within}
use Rattle.nx_handle.proofs.lemmas.Receivers.{HearTo, begun, command-given, elements-heard, given-none, moment-set, one-is, with_one}

-- ---- what is given to one channel

-- it is no share of another
share-other : (given : List Given) (channel other : Channel) (es : List Event)
    → same_channel channel other ≡ false
    → share other (given ++ to_one channel es ∷ []) ≡ share other given
share-other given channel other es h =
    share-one other given (to_one channel es)
    ∙ ap (λ more. share other given ++ more) (ap (λ b. cond b es []) h)
    ∙ append-nil (share other given)

-- so a channel behind those that the receiver has gets nothing of it
none-of-it : (count : ℕ) (given : List Given) (channel other : Channel) (es more : List Event)
    → channel_number channel < count → count ≤ channel_number other
    → elements_among (share other (given ++ to_one channel es ∷ [])) ≡ []
    → elements_among (share other (given ++ to_one channel more ∷ [])) ≡ []
none-of-it count given channel other es more lt le h = elim (one-or-other channel other) [
  | inl same ↦ absurd (omega (arith, lt, le, ap channel_number same))
  | inr apart ↦ ap elements_among (share-other given channel other more apart.0)
      ∙ sym (ap elements_among (share-other given channel other es apart.0)) ∙ h
]

none-of-more : (count : ℕ) (given : List Given) (channel other : Channel) (more : List Event)
    → channel_number channel < count → count ≤ channel_number other
    → elements_among (share other given) ≡ []
    → elements_among (share other (given ++ to_one channel more ∷ [])) ≡ []
none-of-more count given channel other more lt le h = elim (one-or-other channel other) [
  | inl same ↦ absurd (omega (arith, lt, le, ap channel_number same))
  | inr apart ↦ ap elements_among (share-other given channel other more apart.0) ∙ h
]

-- the other receivers stay
stays : {P : Type 0} (listener : Listening P) (channel other : Channel) (after : P)
    → same_channel channel other ≡ false
    → one_on listener other ≡ one_on (with_one listener channel after) other
stays listener Zero Zero after h = cc
stays listener Zero One after h = refl
stays listener Zero Two after h = refl
stays listener One Zero after h = refl
stays listener One One after h = cc
stays listener One Two after h = refl
stays listener Two Zero after h = refl
stays listener Two One after h = refl
stays listener Two Two after h = cc

-- the receiver of a channel is another, in its place and of the three
others-hear : {P : Type 0} (old : List P) (listener : Listening P) (channel : Channel) (after : P)
    → ((other : Channel) → HasChannel old other
    → place_on old other ≡ Some (one_on listener other))
    → (other : Channel) → HasChannel (slice_set old (channel_number channel) after) other
    → place_on (slice_set old (channel_number channel) after) other
    ≡ Some (one_on (with_one listener channel after) other)
others-hear old listener channel after hears other has =
    let n = channel_number channel in
    let long : length (slice_set old n after) ≡ length old = set-long old n after in
    let has' : HasChannel old other = omega (arith, has, long) in
    elim (one-or-other channel other) [
      | inl same ↦ subst (λ c. place_on (slice_set old n after) c
          ≡ Some (one_on (with_one listener channel after) c)) same
          (set-here old n after (omega (arith, has', ap channel_number same))
          ∙ ap (λ r. Some r) (one-is listener channel after))
      | inr apart ↦ set-there old n (channel_number other) after apart.1
          ∙ hears other has'
          ∙ ap (λ r. Some r) (stays listener channel other after apart.0)
    ]

-- a receiver that hears in its place is that of the three
its-own : {P : Type 0} (old : List P) (listener : Listening P) (channel : Channel) (r : P)
    → place_on old channel ≡ Some r
    → ((other : Channel) → HasChannel old other
    → place_on old other ≡ Some (one_on listener other))
    → r ≡ one_on listener channel
its-own old listener channel r at hears =
    some-is (sym at ∙ hears channel (within old (channel_number channel) r at))

-- ---- elements

-- with this receiver of a channel the three hear
hear-with : {P : Type 0} (kind : PlaceKind P) → IsPlaceKind kind → (held : ℕ) (l : Listening P)
    (channel : Channel) (r after : P) (bits : List Bool) (text : List ℕ) → r ≡ one_on l channel
    → (h : HearsOn kind channel r after bits text)
    → HearTo kind held channel l (with_one l channel after) bits h.next
hear-with kind laws held l channel r after bits text e =
    subst (λ x. (h : HearsOn kind channel x after bits text)
    → HearTo kind held channel l (with_one l channel after) bits h.next) (sym e)
    (λ h. elements-heard kind laws held l channel after bits text h)

pub elements-in : {P : Type 0} (kind : PlaceKind P) → IsPlaceKind kind → (old : List P)
    (channel : Channel) (r after : P) (bits : List Bool) (text : List ℕ)
    → place_on old channel ≡ Some r → HearsOn kind channel r after bits text
    → HearsElements kind channel old (slice_set old (channel_number channel) after) bits text
elements-in kind laws old channel r after bits text at h =
    let n = channel_number channel in
    let lt = within old n r at in
    let long = set-long old n after in
    record {
      next = h.next;
      few = h.few;
      spelled = h.spelled;
      heard = λ held starts given part copies was. record {
        listener = with_one was.listener channel after;
        hears = others-hear old was.listener channel after was.hears;
        no_elements = λ other le. none-of-it (length old) given channel other
            (events.elements part) _ lt (omega (arith, le, long))
            (was.no_elements other (omega (arith, le, long)));
        heard = (hear-with kind laws held was.listener channel r after bits text
            (its-own old was.listener channel r at was.hears) h).heard starts given part copies
            was.heard;
      };
      first = λ held starts given part copies was k few.
          (hear-with kind laws held was.listener channel r after bits text
          (its-own old was.listener channel r at was.hears) h).first starts given part copies
          was.heard k few;
    }

-- no elements of a channel change nothing
pub none-in : {P : Type 0} (kind : PlaceKind P) → IsPlaceKind kind → (held : ℕ) (starts : Starts)
    (places : List P) (given : List Given) (channel : Channel) (copies : List MarkedCopy)
    → HasChannel places channel → HasHeard kind held starts places given copies
    → HasHeard kind held starts places (then_elements given channel []) copies
none-in kind laws held starts places given channel copies has h = record {
  listener = h.listener;
  hears = h.hears;
  no_elements = λ other le. none-of-more (length places) given channel other [] has le
      (h.no_elements other le);
  heard = given-none kind laws held starts h.listener given channel copies h.heard;
}

-- ---- a command

pub command-in : {P : Type 0} (kind : PlaceKind P) → IsPlaceKind kind → (old : List P)
    (channel : Channel) (r after : P) (c : Command) → place_on old channel ≡ Some r
    → TakesEventIn kind r after (command c)
    → (held : ℕ) (starts : Starts) (given : List Given) (copies : List MarkedCopy)
    → HasHeard kind held starts old given copies
    → HasHeard kind held starts (slice_set old (channel_number channel) after)
    (then_command given channel c) copies
command-in kind laws old channel r after c at takes held starts given copies was =
    let n = channel_number channel in
    let long = set-long old n after in
    record {
      listener = with_one was.listener channel after;
      hears = others-hear old was.listener channel after was.hears;
      no_elements = λ other le. none-of-more (length old) given channel other _
          (within old n r at) (omega (arith, le, long))
          (was.no_elements other (omega (arith, le, long)));
      heard = command-given kind laws held starts was.listener channel after given copies c
          (subst (λ x. TakesEventBy (receiver_of kind held) x after (command c))
          (its-own old was.listener channel r at was.hears)
          (λ start history log s. takes held start history log s)) was.heard;
    }

-- ---- a moment

-- the receiver of a channel took it, in its place or in none
record TookMoment {P : Type 0} (kind : PlaceKind P) (held n : ℕ) (l : Listening P) (new : List P)
    (channel : Channel) : Type 0 where
  after : P
  takes : TakesEventBy (receiver_of kind held) (one_on l channel) after (at_moment n)
  there : HasChannel new channel → place_on new channel ≡ Some after

took-moment : {P : Type 0} (kind : PlaceKind P) → IsPlaceKind kind → (held n : ℕ)
    (l : Listening P) (old new : List P) → MomentsTaken kind n old new (length old)
    → ((channel : Channel) → HasChannel old channel
    → place_on old channel ≡ Some (one_on l channel))
    → (channel : Channel) → TookMoment kind held n l new channel
took-moment kind laws held n l old new m hears channel =
    elim (cases_lt (channel_number channel) (length old)) [
      | inl lt ↦
          let t = m.taken (channel_number channel) lt (one_on l channel) (hears channel lt) in
          record {
            after = t.0;
            takes = λ start history log s. t.2.takes held start history log s;
            there = λ has. t.1;
          }
      | inr le ↦
          let t = laws.takes_moment held (one_on l channel) n in
          record {
            after = t.0;
            takes = λ start history log s. t.1 start history log s;
            there = λ has. absurd (omega (arith, has, le, m.channels));
          }
    ]

-- a moment is no element
none-of-moment : (given : List Given) (channel : Channel) (n : ℕ)
    → elements_among (share channel given) ≡ []
    → elements_among (share channel (given ++ to_all n ∷ [])) ≡ []
unfolding elements_among
none-of-moment given channel n h =
    ap elements_among (share-one channel given (to_all n))
    ∙ bits_of-append (share channel given) (at_moment n ∷ [])
    ∙ ap (λ bits. bits ++ []) h

pub moment-in : {P : Type 0} (kind : PlaceKind P) → IsPlaceKind kind → (held : ℕ)
    (starts : Starts) (old new : List P) (given : List Given) (copies : List MarkedCopy) (n : ℕ)
    → MomentsTaken kind n old new (length old) → HasHeard kind held starts old given copies
    → HasHeard kind held starts new (then_moment given n) copies
moment-in kind laws held starts old new given copies n m h =
    let took = took-moment kind laws held n h.listener old new m h.hears in
    let a = took Zero in
    let b = took One in
    let c = took Two in
    let l = three a.after b.after c.after in
    record {
      listener = l;
      hears = on-all (λ channel. HasChannel new channel
          → place_on new channel ≡ Some (one_on l channel)) a.there b.there c.there;
      no_elements = λ channel le. none-of-moment given channel n
          (h.no_elements channel (omega (arith, le, m.channels)));
      heard = moment-set kind laws held starts h.listener l given copies n h.heard
          (λ start history log s. a.takes start history log s)
          (λ start history log s. b.takes start history log s)
          (λ start history log s. c.takes start history log s);
    }

-- ---- the beginning

-- the receiver of a channel begins
pub record BeginsOn {P : Type 0} (kind : PlaceKind P) (held : ℕ) (starts : Starts)
    (places : List P) (channel : Channel) : Type 0 where
  pub place : P
  pub there : HasChannel places channel → place_on places channel ≡ Some place
  pub stands : kind.stands held (start_on starts channel) place [] []

begins-on : {P : Type 0} (kind : PlaceKind P) → IsPlaceKind kind → (held : ℕ) (starts : Starts)
    (places : List P) → 0 < length places
    → ((channel : Channel) → HasChannel places channel
    → BeginsOn kind held starts places channel)
    → ((channel : Channel) → length places ≤ channel_number channel
    → starts.entries channel ≡ []) → (channel : Channel)
    → BeginsOn kind held starts places channel
begins-on kind laws held starts places some begin none channel =
    elim (cases_lt (channel_number channel) (length places)) [
      | inl lt ↦ begin channel lt
      | inr le ↦
          let first = begin Zero some in
          let too = laws.begins_too held (start_on starts Zero) first.place first.stands
          (start_on starts channel) (none channel le) in
          record {
            place = too.0;
            there = λ has. absurd (omega (arith, has, le));
            stands = too.1;
          }
    ]

pub begun-in : {P : Type 0} (kind : PlaceKind P) → IsPlaceKind kind → (held : ℕ)
    (starts : Starts) (places : List P) → 0 < length places
    → ((channel : Channel) → HasChannel places channel
    → BeginsOn kind held starts places channel)
    → ((channel : Channel) → length places ≤ channel_number channel
    → starts.entries channel ≡ []) → HasHeard kind held starts places [] []
unfolding elements_among
begun-in kind laws held starts places some begin none =
    let on = begins-on kind laws held starts places some begin none in
    let a = on Zero in
    let b = on One in
    let c = on Two in
    let l = three a.place b.place c.place in
    record {
      listener = l;
      hears = on-all (λ channel. HasChannel places channel
          → place_on places channel ≡ Some (one_on l channel)) a.there b.there c.there;
      no_elements = λ channel le. refl;
      heard = begun kind laws held starts a.place b.place c.place a.stands b.stands c.stands;
    }
