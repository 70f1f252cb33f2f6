-- Shares of channels, copies with their channels, and what is printed in turn.
use Rattle.std.proofs.Common.{◌≡◌, ◌⊎◌, ℕ, inl, inr, Bool, true, false, cond, List, [], ◌∷◌, ◌++◌}
use Rattle.std.proofs.Common.{refl, sym, ap, ap₂, ◌∙◌, subst, append-nil, append_assoc}
use Rattle.std.specs.Prelude.{map, filter, length, take, drop}
use Rattle.std.specs.List.{flat_map}
use Rattle.std.proofs.Math.Path.{fun_ext}
use Rattle.std.proofs.Math.Seq.{take-append_seam}
use Rattle.std.proofs.lemmas.List.{map-append, take-append-drop}
use Rattle.std.proofs.lemmas.List.Concat.{flat_map-append}
use Rattle.std.proofs.lemmas.List.Elements.{filter-append}
use Rattle.nx_fec.specs.air_files.Channels.{same_channel}
use Rattle.nx_fec.specs.declared.air_files.channel.Channel.{Channel}
use Rattle.nx_fec.specs.declared.air_files.channel.Channel.TheVariants.{Zero, One, Two}
use Rattle.nx_copies.specs.Events.{none_refused}
use Rattle.nx_copies.specs.copies.FoundCopies.{TaggedCopy}
use Rattle.nx_copies.specs.copies.InTurn.{HavePrintedBy, PrintAllToEndBy, PrintsInTurnBy}
use Rattle.nx_copies.specs.copies.Log.{Printing}
use Rattle.nx_copies.specs.copies.Shares.{Given, MarkedCopy, Starts, all_at_zero, copies_on, events_for}
use Rattle.nx_copies.specs.copies.Shares.{marked, none_saved, saved_of, share, start_on, starts_from}

pub same_channel-refl : (channel : Channel) → same_channel channel channel ≡ true
same_channel-refl Zero = refl
same_channel-refl One = refl
same_channel-refl Two = refl

pub same_channel-is : (one other : Channel) → same_channel one other ≡ true → one ≡ other
same_channel-is Zero Zero h = refl
same_channel-is One One h = refl
same_channel-is Two Two h = refl
same_channel-is Zero One h = cc
same_channel-is Zero Two h = cc
same_channel-is One Zero h = cc
same_channel-is One Two h = cc
same_channel-is Two Zero h = cc
same_channel-is Two One h = cc

pub share-append : (channel : Channel) (front back : List Given)
    → share channel (front ++ back) ≡ share channel front ++ share channel back
share-append channel front back = flat_map-append (events_for channel) front back

pub share-one : (channel : Channel) (given : List Given) (one : Given)
    → share channel (given ++ one ∷ []) ≡ share channel given ++ events_for channel one
share-one channel given one =
    share-append channel given (one ∷ [])
    ∙ ap (λ events. share channel given ++ events) (append-nil (events_for channel one))

pub copies_on-append : (channel : Channel) (front back : List MarkedCopy)
    → copies_on channel (front ++ back) ≡ copies_on channel front ++ copies_on channel back
copies_on-append channel front back =
    ap (map (λ (one : MarkedCopy). one.copy))
    (filter-append (λ (one : MarkedCopy). same_channel one.channel channel) front back)
    ∙ map-append (λ (one : MarkedCopy). one.copy)
    (filter (λ (one : MarkedCopy). same_channel one.channel channel) front)
    (filter (λ (one : MarkedCopy). same_channel one.channel channel) back)

copies_on-next : (channel other : Channel) (copy : TaggedCopy) (copies : List MarkedCopy) (b : Bool)
    → same_channel other channel ≡ b
    → copies_on channel (marked other copy ∷ copies)
    ≡ cond b (copy ∷ copies_on channel copies) (copies_on channel copies)
copies_on-next channel other copy copies true h =
    ap (λ b. map (λ (one : MarkedCopy). one.copy)
    (cond b (marked other copy ∷ filter (λ (one : MarkedCopy). same_channel one.channel channel)
    copies) (filter (λ (one : MarkedCopy). same_channel one.channel channel) copies))) h
copies_on-next channel other copy copies false h =
    ap (λ b. map (λ (one : MarkedCopy). one.copy)
    (cond b (marked other copy ∷ filter (λ (one : MarkedCopy). same_channel one.channel channel)
    copies) (filter (λ (one : MarkedCopy). same_channel one.channel channel) copies))) h

-- copies of one channel are its copies
pub copies_on-marked : (channel : Channel) (copies : List TaggedCopy)
    → copies_on channel (map (marked channel) copies) ≡ copies
copies_on-marked channel [] = refl
copies_on-marked channel (copy ∷ copies) =
    copies_on-next channel channel copy (map (marked channel) copies) true
    (same_channel-refl channel)
    ∙ ap (λ more. copy ∷ more) (copies_on-marked channel copies)

-- and none of another's
pub copies_on-other : (other channel : Channel) (copies : List TaggedCopy)
    → same_channel other channel ≡ false → copies_on channel (map (marked other) copies) ≡ []
copies_on-other other channel [] h = refl
copies_on-other other channel (copy ∷ copies) h =
    copies_on-next channel other copy (map (marked other) copies) false h
    ∙ copies_on-other other channel copies h

-- all channels, in order
abbrev pub all_channels : List Channel
all_channels = Zero ∷ One ∷ Two ∷ []

closed-alone : (channel : Channel) (closed : Channel → List TaggedCopy)
    → copies_on channel
    (flat_map (λ channel. map (marked channel) (closed channel)) all_channels)
    ≡ closed channel
closed-alone Zero closed =
    copies_on-append Zero (map (marked Zero) (closed Zero))
    (map (marked One) (closed One) ++ (map (marked Two) (closed Two) ++ []))
    ∙ ap₂ (λ a b. a ++ b) (copies_on-marked Zero (closed Zero))
    (copies_on-append Zero (map (marked One) (closed One)) (map (marked Two) (closed Two) ++ [])
    ∙ ap₂ (λ a b. a ++ b) (copies_on-other One Zero (closed One) refl)
    (copies_on-append Zero (map (marked Two) (closed Two)) []
    ∙ ap₂ (λ a b. a ++ b) (copies_on-other Two Zero (closed Two) refl) refl))
    ∙ append-nil (closed Zero)
closed-alone One closed =
    copies_on-append One (map (marked Zero) (closed Zero))
    (map (marked One) (closed One) ++ (map (marked Two) (closed Two) ++ []))
    ∙ ap₂ (λ a b. a ++ b) (copies_on-other Zero One (closed Zero) refl)
    (copies_on-append One (map (marked One) (closed One)) (map (marked Two) (closed Two) ++ [])
    ∙ ap₂ (λ a b. a ++ b) (copies_on-marked One (closed One))
    (copies_on-append One (map (marked Two) (closed Two)) []
    ∙ ap₂ (λ a b. a ++ b) (copies_on-other Two One (closed Two) refl) refl))
    ∙ append-nil (closed One)
closed-alone Two closed =
    copies_on-append Two (map (marked Zero) (closed Zero))
    (map (marked One) (closed One) ++ (map (marked Two) (closed Two) ++ []))
    ∙ ap₂ (λ a b. a ++ b) (copies_on-other Zero Two (closed Zero) refl)
    (copies_on-append Two (map (marked One) (closed One)) (map (marked Two) (closed Two) ++ [])
    ∙ ap₂ (λ a b. a ++ b) (copies_on-other One Two (closed One) refl)
    (copies_on-append Two (map (marked Two) (closed Two)) []
    ∙ ap₂ (λ a b. a ++ b) (copies_on-marked Two (closed Two)) refl))
    ∙ append-nil (closed Two)

-- what the end closes comes behind the copies of its channel that have ended
pub closed-on : (channel : Channel) (ended : List MarkedCopy) (closed : Channel → List TaggedCopy)
    → copies_on channel
    (ended ++ flat_map (λ channel. map (marked channel) (closed channel)) all_channels)
    ≡ copies_on channel ended ++ closed channel
closed-on channel ended closed =
    copies_on-append channel ended _
    ∙ ap (λ more. copies_on channel ended ++ more) (closed-alone channel closed)

-- on each channel what is printed to the end is that of its share
pub to_end-on : {printing : Printing} (starts : Starts) (given : List Given)
    (copies : List MarkedCopy) (channel : Channel) → PrintAllToEndBy printing starts given copies
    → printing.to_end (start_on starts channel) (share channel given) (copies_on channel copies)
to_end-on {printing} starts given copies channel h =
    subst (λ those. printing.to_end (start_on starts channel) (share channel given) those)
    (sym (ap (copies_on channel) h.whole ∙ closed-on channel h.ended h.closed))
    (h.to_end channel)

nothing-entered : (channel : Channel) → (saved_of none_saved channel).entries ≡ []
nothing-entered Zero = refl
nothing-entered One = refl
nothing-entered Two = refl

nothing-refused : (channel : Channel) → (saved_of none_saved channel).refused ≡ none_refused
nothing-refused Zero = refl
nothing-refused One = refl
nothing-refused Two = refl

-- who goes on from nothing begins with nothing
pub from-nothing : starts_from none_saved ≡ all_at_zero
from-nothing =
    ap₂ (λ es refused. record { moment = 0; entries = es; refused = refused })
    (fun_ext nothing-entered) (fun_ext nothing-refused)

front-of_none : {A : Type 0} (before later : List A) → [] ≡ before ++ later → before ≡ []
front-of_none [] later e = refl
front-of_none (one ∷ before) later e = cc

-- a beginning of a list and one more is all of it, or a beginning of the list
pub fronts : {A : Type 0} (list : List A) (one : A) (before later : List A)
    → list ++ one ∷ [] ≡ before ++ later
    → (before ≡ list ++ one ∷ []) ⊎ ((rest : List A) × (list ≡ before ++ rest))
fronts list one [] later e = inr (list, refl)
fronts [] one (a ∷ before) later e =
    let head : one ≡ a = cc in
    let tail : [] ≡ before ++ later = cc in
    inl (ap₂ (λ x xs. x ∷ xs) (sym head) (front-of_none before later tail))
fronts (x ∷ list) one (a ∷ before) later e =
    let head : x ≡ a = cc in
    let tail : list ++ one ∷ [] ≡ before ++ later = cc in
    elim (fronts list one before later tail) [
      | inl whole ↦ inl (ap₂ (λ x xs. x ∷ xs) (sym head) whole)
      | inr part ↦ inr (part.0, ap₂ (λ x xs. x ∷ xs) head part.1)
    ]

-- The first of these copies are what is printed of this.
pub record PrintsFirst (printing : Printing) (starts : Starts) (given : List Given)
    (copies : List MarkedCopy)
    : Type 0 where
  pub first : List MarkedCopy
  pub rest : List MarkedCopy
  pub whole : copies ≡ first ++ rest
  pub printed : HavePrintedBy printing starts given first

-- what is printed in turn: of each beginning the first copies
abbrev pub BeginsInTurn : Printing → Starts → List Given → List MarkedCopy → Type 0
BeginsInTurn printing starts given copies =
    (before later : List Given) → given ≡ before ++ later
    → PrintsFirst printing starts before copies

pub begins-in_turn : {printing : Printing} (starts : Starts) (given : List Given)
    (copies : List MarkedCopy)
    → PrintsInTurnBy printing starts given copies → BeginsInTurn printing starts given copies
begins-in_turn {printing} starts given copies h before later e =
    let first = h.in_turn before later e in
    record {
      first = take first.0 copies;
      rest = drop first.0 copies;
      whole = sym (take-append-drop first.0 copies);
      printed = first.1;
    }

-- so many of the copies are the first ones
counted : {printing : Printing} (starts : Starts) (given : List Given) (copies : List MarkedCopy)
    → PrintsFirst printing starts given copies
    → (count : ℕ) × HavePrintedBy printing starts given (take count copies)
counted {printing} starts given copies h = (
  length h.first,
  subst (HavePrintedBy printing starts given)
      (sym (ap (take (length h.first)) h.whole ∙ take-append_seam h.first h.rest)) h.printed,
)

-- nothing that is given prints nothing
pub in_turn-none : {printing : Printing} (starts : Starts) → HavePrintedBy printing starts [] []
    → PrintsInTurnBy printing starts [] []
in_turn-none {printing} starts h = record {
  each = h;
  in_turn = λ before later e. (
    0,
    subst (λ given. HavePrintedBy printing starts given []) (sym (front-of_none before later e)) h,
  );
}

longer : {printing : Printing} (starts : Starts) (before : List Given)
    (copies more : List MarkedCopy) → PrintsFirst printing starts before copies
    → PrintsFirst printing starts before (copies ++ more)
longer {printing} starts before copies more h = record {
  first = h.first;
  rest = h.rest ++ more;
  whole = ap (λ c. c ++ more) h.whole ∙ append_assoc h.first h.rest more;
  printed = h.printed;
}

-- what is given next brings these copies, where what is given before brings the first ones in turn
next-in_turn : {printing : Printing} (starts : Starts) (given : List Given) (one : Given)
    (copies more : List MarkedCopy) → BeginsInTurn printing starts given copies
    → HavePrintedBy printing starts (given ++ one ∷ []) (copies ++ more)
    → PrintsInTurnBy printing starts (given ++ one ∷ []) (copies ++ more)
next-in_turn {printing} starts given one copies more h k = record {
  each = k;
  in_turn = λ before later e. counted starts before (copies ++ more)
      (elim (fronts given one before later e) [
        | inl whole ↦ record {
          first = copies ++ more;
          rest = [];
          whole = sym (append-nil (copies ++ more));
          printed =
              subst (λ all. HavePrintedBy printing starts all (copies ++ more)) (sym whole) k;
        }
        | inr part ↦ longer starts before copies more (h before part.0 part.1)
      ]);
}

pub in_turn-more : {printing : Printing} (starts : Starts) (given : List Given) (one : Given)
    (copies more : List MarkedCopy) → PrintsInTurnBy printing starts given copies
    → HavePrintedBy printing starts (given ++ one ∷ []) (copies ++ more)
    → PrintsInTurnBy printing starts (given ++ one ∷ []) (copies ++ more)
in_turn-more {printing} starts given one copies more h k =
    next-in_turn starts given one copies more (begins-in_turn starts given copies h) k

-- the same with another in place of what was given last
pub in_turn-other : {printing : Printing} (starts : Starts) (given : List Given)
    (one other : Given) (copies more : List MarkedCopy)
    → PrintsInTurnBy printing starts (given ++ one ∷ []) copies
    → HavePrintedBy printing starts (given ++ other ∷ []) (copies ++ more)
    → PrintsInTurnBy printing starts (given ++ other ∷ []) (copies ++ more)
in_turn-other {printing} starts given one other copies more h k =
    next-in_turn starts given other copies more
    (λ before later e. begins-in_turn starts (given ++ one ∷ []) copies h before (later ++ one ∷ [])
    (ap (λ list. list ++ one ∷ []) e ∙ append_assoc before later (one ∷ [])))
    k
