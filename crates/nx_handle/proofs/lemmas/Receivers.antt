-- What the three receivers stand after, by what each of them does.
use Rattle.std.proofs.Common.{◌≡◌, ◌<◌, ℕ, ◌+◌, false, List, [], ◌++◌, length, map, take, refl, sym, ◌∙◌, subst, subst₂}
use Rattle.std.proofs.lemmas.List.{take_all}
use Rattle.std.proofs.Common.{arith, Bool}
use Rattle.nx_fec.specs.Transfers.{count_of}
use Rattle.nx_fec.specs.air_files.Channels.{same_channel}
use Rattle.nx_fec.specs.declared.air_files.channel.Channel.{Channel}
use Rattle.nx_fec.specs.declared.air_files.channel.Channel.TheVariants.{Zero, One, Two}
use Rattle.nx_copies.specs.Events as events
use Rattle.nx_copies.specs.Events.{Command, Event, Start, at_moment, command}
use Rattle.nx_copies.specs.copies.FoundCopies.{TaggedCopy}
use Rattle.nx_copies.specs.copies.Shares.{Given, MarkedCopy, Starts, marked, start_on}
use Rattle.nx_receiver.specs.Listener.{HearsBy, ListeningOver, receiver_on, then_command}
use Rattle.nx_receiver.specs.Listener.{then_elements, then_moment}
use Rattle.nx_receiver.specs.ChannelReceiver.{HandsOutNoneBeforeBy, TakesEventBy}
use Rattle.nx_receiver.proofs.lemmas.listening.Listener.{commanded, heard-first, hears-more}
use Rattle.nx_receiver.proofs.lemmas.listening.Listener.{none-before, none-given, on-all, set-all}
use Rattle.nx_copies.specs.copies.InTurn.{PrintsInTurnBy}
use Rattle.nx_handle.specs.private.Hearing.{HearsOn}
use Rattle.nx_handle.specs.PlaceKinds.{IsPlaceKind, PlaceKind, receiver_of}
use Rattle.nx_handle.specs.Receivers.{HearsGiven, Listening, counted, one_on}
use Rattle.nx_handle.specs.private.Receivers.{three}

-- a listener of these receivers, which counted so many elements and entries
abbrev pub with_counts : {P : Type 0} → Listening P → ℕ → ℕ → ListeningOver P
with_counts l n m = record {
  on_0 = l.on_0;
  on_1 = l.on_1;
  on_2 = l.on_2;
  has_moment = false;
  elements = n;
  entries = m;
}

-- the three with another in the place of that of a channel
abbrev pub with_one : {P : Type 0} → Listening P → Channel → P → Listening P
with_one l Zero r = record l { on_0 = r }
with_one l One r = record l { on_1 = r }
with_one l Two r = record l { on_2 = r }

-- the receivers of the other channels stay
pub others-stay : {P : Type 0} (old : Listening P) (channel : Channel) (r : P) (n m p q : ℕ)
    (other : Channel) → same_channel channel other ≡ false
    → receiver_on (with_counts (with_one old channel r) p q) other
    ≡ receiver_on (with_counts old n m) other
others-stay old Zero r n m p q Zero h = cc
others-stay old Zero r n m p q One h = refl
others-stay old Zero r n m p q Two h = refl
others-stay old One r n m p q Zero h = refl
others-stay old One r n m p q One h = cc
others-stay old One r n m p q Two h = refl
others-stay old Two r n m p q Zero h = refl
others-stay old Two r n m p q One h = refl
others-stay old Two r n m p q Two h = cc

pub at-channel : {P : Type 0} (l : Listening P) (channel : Channel) (n m : ℕ)
    → one_on l channel ≡ receiver_on (with_counts l n m) channel
at-channel l Zero n m = refl
at-channel l One n m = refl
at-channel l Two n m = refl

pub one-is : {P : Type 0} (l : Listening P) (channel : Channel) (r : P)
    → r ≡ one_on (with_one l channel r) channel
one-is l Zero r = refl
one-is l One r = refl
one-is l Two r = refl

-- three receivers hear elements of a channel, and print these copies, behind whatever they were
-- given; with no element before the last they print anything
pub record HearTo {P : Type 0} (kind : PlaceKind P) (held : ℕ) (channel : Channel)
    (old new : Listening P) (bits : List Bool) (next : List TaggedCopy)
    : Type 0 where
  pub heard : (starts : Starts) (given : List Given) (part : List Bool) (copies : List MarkedCopy)
      → HearsGiven kind held starts old (then_elements given channel part) copies
      → HearsGiven kind held starts new (then_elements given channel (part ++ bits))
      (copies ++ map (marked channel) next)
  pub first : (starts : Starts) (given : List Given) (part : List Bool) (copies : List MarkedCopy)
      → HearsGiven kind held starts old (then_elements given channel part) copies
      → (k : ℕ) → k < length bits
      → PrintsInTurnBy (kind.printing held) starts
      (then_elements given channel (part ++ take k bits)) copies

module _ {P : Type 0} (kind : PlaceKind P) (laws : IsPlaceKind kind) (held : ℕ) where
  -- what such a listener hears it hears whatever it counted
  pub recounted : (starts : Starts) (l : Listening P) (n m : ℕ) (given : List Given)
      (copies : List MarkedCopy)
      → HearsBy (receiver_of kind held) starts (with_counts l n m) given copies
      → HearsGiven kind held starts l given copies
  recounted starts l n m given copies h =
      subst₂ (λ i j. HearsBy (receiver_of kind held) starts (with_counts l i j) given copies)
      h.elements h.entries h

  -- no elements of a channel change nothing
  pub given-none : (starts : Starts) (l : Listening P) (given : List Given) (channel : Channel)
      (copies : List MarkedCopy) → HearsGiven kind held starts l given copies
      → HearsGiven kind held starts l (then_elements given channel []) copies
  given-none starts l given channel copies h =
      recounted starts l _ _ (then_elements given channel []) copies
      (none-given (laws.receiver held) starts (counted l given copies) given channel copies h)

  -- ---- a moment

  pub moment-set : (starts : Starts) (old new : Listening P) (given : List Given)
      (copies : List MarkedCopy) (n : ℕ) → HearsGiven kind held starts old given copies
      → TakesEventBy (receiver_of kind held) old.on_0 new.on_0 (at_moment n)
      → TakesEventBy (receiver_of kind held) old.on_1 new.on_1 (at_moment n)
      → TakesEventBy (receiver_of kind held) old.on_2 new.on_2 (at_moment n)
      → HearsGiven kind held starts new (then_moment given n) copies
  moment-set starts old new given copies n h zero one two =
      let was = counted old given copies in
      let now = with_counts new was.elements was.entries in
      recounted starts new was.elements was.entries (then_moment given n) copies
      (set-all (laws.receiver held) starts was now given copies n h refl refl
      (on-all (λ channel. TakesEventBy (receiver_of kind held) (receiver_on was channel)
      (receiver_on now channel) (at_moment n)) zero one two))

  -- ---- a command

  pub command-given : (starts : Starts) (old : Listening P) (channel : Channel) (r : P)
      (given : List Given) (copies : List MarkedCopy) (c : Command)
      → TakesEventBy (receiver_of kind held) (one_on old channel) r (command c)
      → HearsGiven kind held starts old given copies
      → HearsGiven kind held starts (with_one old channel r) (then_command given channel c) copies
  command-given starts old Zero r given copies c takes h =
      let was = counted old given copies in
      recounted starts (with_one old Zero r) was.elements was.entries (then_command given Zero c)
      copies
      (commanded (laws.receiver held) starts was
      (with_counts (with_one old Zero r) was.elements was.entries) given copies Zero c h refl takes)
  command-given starts old One r given copies c takes h =
      let was = counted old given copies in
      recounted starts (with_one old One r) was.elements was.entries (then_command given One c)
      copies
      (commanded (laws.receiver held) starts was
      (with_counts (with_one old One r) was.elements was.entries) given copies One c h refl takes)
  command-given starts old Two r given copies c takes h =
      let was = counted old given copies in
      recounted starts (with_one old Two r) was.elements was.entries (then_command given Two c)
      copies
      (commanded (laws.receiver held) starts was
      (with_counts (with_one old Two r) was.elements was.entries) given copies Two c h refl takes)

  -- ---- elements

  module _ (old : Listening P) (channel : Channel) (r : P) (bits : List Bool)
      (text : List ℕ) (h : HearsOn kind channel (one_on old channel) r bits text) where
    abbrev pub new : Listening P
    new = with_one old channel r

    goes-on : (n m p q : ℕ) (start : Start) (history : List Event) (log : List TaggedCopy)
        → kind.stands held start (receiver_on (with_counts old n m) channel) history log
        → kind.stands held start (receiver_on (with_counts new p q) channel)
        (history ++ events.elements bits) (log ++ h.next)
    goes-on n m p q start history log s =
        subst (λ x. kind.stands held start x (history ++ events.elements bits) (log ++ h.next))
        (one-is old channel r ∙ at-channel new channel p q)
        (h.stands held start history log
        (subst (λ x. kind.stands held start x history log) (sym (at-channel old channel n m)) s))

    none-yet : (n m : ℕ)
        → HandsOutNoneBeforeBy (receiver_of kind held) (receiver_on (with_counts old n m) channel)
        bits (length bits)
    none-yet n m = subst (λ x. HandsOutNoneBeforeBy (receiver_of kind held) x bits (length bits))
        (at-channel old channel n m) (h.first held)

    -- the receiver of a channel hears elements, and so do the three
    pub elements-heard : HearTo kind held channel old new bits h.next
    elements-heard = record {
      heard = λ starts given part copies stood.
          let was = counted old (then_elements given channel part) copies in
          let n = count_of (was.elements + length bits) in
          let m = count_of (was.entries + length h.next) in
          recounted starts new n m (then_elements given channel (part ++ bits))
          (copies ++ map (marked channel) h.next)
          (hears-more (laws.receiver held) starts was (with_counts new n m) given channel part
          bits copies h.next stood h.behind
          (λ start history log s. goes-on was.elements was.entries n m start history log s)
          (λ other not. others-stay old channel r was.elements was.entries n m other not) refl
          refl);
      first = λ starts given part copies stood k lt.
          let was = counted old (then_elements given channel part) copies in
          none-before starts was (with_counts new was.elements was.entries) given channel part bits
          (length bits) copies h.next stood
          (record {
            stands = λ start history log s.
                subst (λ bs. kind.stands held start
                (receiver_on (with_counts new was.elements was.entries) channel)
                (history ++ events.elements bs) (log ++ h.next))
                (sym (take_all (length bits) bits (omega arith)))
                (goes-on was.elements was.entries was.elements was.entries start history log s);
            first = none-yet was.elements was.entries;
          }) k lt;
    }

  -- ---- the beginning

  pub begun : (starts : Starts) (on_0 on_1 on_2 : P)
      → kind.stands held (start_on starts Zero) on_0 [] []
      → kind.stands held (start_on starts One) on_1 [] []
      → kind.stands held (start_on starts Two) on_2 [] []
      → HearsGiven kind held starts (three on_0 on_1 on_2) [] []
  begun starts on_0 on_1 on_2 zero one two =
      recounted starts (three on_0 on_1 on_2) 0 0 [] []
      (heard-first (laws.receiver held) starts on_0 on_1 on_2 zero one two)
