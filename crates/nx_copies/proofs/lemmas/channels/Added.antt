-- What is printed of what is given, and then of one more.
use Rattle.std.proofs.Common.{◌≡◌, ℕ, Bool, true, false, List, [], ◌∷◌, ◌++◌, map, refl, sym, ap}
use Rattle.std.proofs.Common.{◌∙◌, subst, append-nil}
use Rattle.std.specs.Prelude.{if◌then◌else◌}
use Rattle.std.proofs.lemmas.List.{append_cancel_left}
use Rattle.nx_fec.specs.air_files.Channels.{same_channel}
use Rattle.nx_fec.specs.declared.air_files.channel.Channel.{Channel}
use Rattle.nx_copies.specs.Events.{Event, Start, at_moment, elements_among}
use Rattle.nx_copies.specs.copies.FoundCopies.{TaggedCopy}
use Rattle.nx_copies.specs.copies.InTurn.{HavePrintedBy, PrintsInTurn, PrintsInTurnBy}
use Rattle.nx_copies.specs.copies.Log.{IsPrinting, Printing, plain}
use Rattle.nx_copies.specs.copies.Shares.{Given, MarkedCopy, Starts, copies_on, marked, share, start_on}
use Rattle.nx_copies.specs.copies.Shares.{to_all, to_one}
use Rattle.nx_copies.proofs.lemmas.channels.Shares.{copies_on-append, copies_on-marked, copies_on-other}
use Rattle.nx_copies.proofs.lemmas.channels.Shares.{in_turn-none, same_channel-is, same_channel-refl}
use Rattle.nx_copies.proofs.lemmas.channels.Shares.{share-append, share-one}
use Rattle.nx_copies.proofs.lemmas.locks.Texts.{GoesOnAs}
use Rattle.nx_copies.proofs.lemmas.printing.Laws.{plain-laws}
use Rattle.nx_copies.proofs.lemmas.channels.Marked.{none-on, of-one}

-- what is given to one channel belongs to its share
pub share-own : (channel : Channel) (given : List Given) (events : List Event)
    → share channel (given ++ to_one channel events ∷ []) ≡ share channel given ++ events
share-own channel given events =
    share-one channel given (to_one channel events)
    ∙ ap (λ (b : Bool). share channel given ++ (if b then events else []))
    (same_channel-refl channel)

-- and to no other
pub share-other : (other channel : Channel) (given : List Given) (events : List Event)
    → same_channel channel other ≡ false
    → share other (given ++ to_one channel events ∷ []) ≡ share other given
share-other other channel given events e =
    share-one other given (to_one channel events)
    ∙ ap (λ (b : Bool). share other given ++ (if b then events else [])) e
    ∙ append-nil (share other given)

module _ (printing : Printing) (laws : IsPrinting printing) where
  -- nothing that is given prints nothing
  pub nothing-given_by : (starts : Starts) → PrintsInTurnBy printing starts [] []
  nothing-given_by starts = in_turn-none starts (λ channel. laws.none (start_on starts channel))

  -- what is printed of more goes on on each channel
  pub grown : (starts : Starts) (given more : List Given) (copies later : List MarkedCopy)
      → HavePrintedBy printing starts given copies
      → HavePrintedBy printing starts (given ++ more) later
      → (channel : Channel) → GoesOnAs (copies_on channel copies) (copies_on channel later)
  grown starts given more copies later h k channel =
      let on = laws.stays (start_on starts channel) (share channel given) (share channel more) _ _
      (h channel)
      (subst (λ events. printing.so_far (start_on starts channel) events (copies_on channel later))
      (share-append channel given more) (k channel)) in
      record { rest = on.0; whole = on.1 }

  -- a moment ends no copy
  pub moment-given : (starts : Starts) (given : List Given) (n : ℕ) (copies : List MarkedCopy)
      → HavePrintedBy printing starts given copies
      → HavePrintedBy printing starts (given ++ to_all n ∷ []) copies
  unfolding elements_among
  moment-given starts given n copies h = λ channel.
      subst (λ events. printing.so_far (start_on starts channel) events (copies_on channel copies))
      (sym (share-one channel given (to_all n)))
      (laws.no_elements (start_on starts channel) (share channel given) (at_moment n ∷ []) _
      (h channel) refl)

  given-on : (starts : Starts) (given : List Given) (channel : Channel) (events : List Event)
      (copies : List MarkedCopy) (more : List TaggedCopy)
      → ((other : Channel) → same_channel channel other ≡ false
      → printing.so_far (start_on starts other) (share other given) (copies_on other copies))
      → printing.so_far (start_on starts channel) (share channel given ++ events)
      (copies_on channel copies ++ more)
      → (other : Channel) (b : Bool) → same_channel channel other ≡ b
      → printing.so_far (start_on starts other) (share other (given ++ to_one channel events ∷ []))
      (copies_on other (copies ++ map (marked channel) more))
  given-on starts given channel events copies more h k other true e =
      subst (λ one. printing.so_far (start_on starts one)
      (share one (given ++ to_one channel events ∷ []))
      (copies_on one (copies ++ map (marked channel) more))) (same_channel-is channel other e)
      (subst (λ those. printing.so_far (start_on starts channel)
      (share channel (given ++ to_one channel events ∷ [])) those)
      (sym (copies_on-append channel copies (map (marked channel) more)
      ∙ ap (λ those. copies_on channel copies ++ those) (copies_on-marked channel more)))
      (subst (λ all. printing.so_far (start_on starts channel) all
      (copies_on channel copies ++ more))
      (sym (share-own channel given events)) k))
  given-on starts given channel events copies more h k other false e =
      subst (λ those. printing.so_far (start_on starts other)
      (share other (given ++ to_one channel events ∷ [])) those)
      (sym (copies_on-append other copies (map (marked channel) more)
      ∙ ap (λ those. copies_on other copies ++ those) (copies_on-other channel other more e)
      ∙ append-nil (copies_on other copies)))
      (subst (λ all. printing.so_far (start_on starts other) all (copies_on other copies))
      (sym (share-other other channel given events e)) (h other e))

  -- What is given to one channel adds copies of that channel: the other channels have printed
  -- theirs.
  pub others-given : (starts : Starts) (given : List Given) (channel : Channel)
      (events : List Event) (copies : List MarkedCopy) (more : List TaggedCopy)
      → ((other : Channel) → same_channel channel other ≡ false
      → printing.so_far (start_on starts other) (share other given) (copies_on other copies))
      → printing.so_far (start_on starts channel) (share channel given ++ events)
      (copies_on channel copies ++ more)
      → HavePrintedBy printing starts (given ++ to_one channel events ∷ [])
      (copies ++ map (marked channel) more)
  others-given starts given channel events copies more h k = λ other.
      given-on starts given channel events copies more h k other (same_channel channel other) refl

  pub one-given : (starts : Starts) (given : List Given) (channel : Channel) (events : List Event)
      (copies : List MarkedCopy) (more : List TaggedCopy)
      → HavePrintedBy printing starts given copies
      → printing.so_far (start_on starts channel) (share channel given ++ events)
      (copies_on channel copies ++ more)
      → HavePrintedBy printing starts (given ++ to_one channel events ∷ [])
      (copies ++ map (marked channel) more)
  one-given starts given channel events copies more h k =
      others-given starts given channel events copies more (λ other e. h other) k

  none-added : (start : Start) (events : List Event) (channel : Channel)
      (copies more : List MarkedCopy) → printing.so_far start events (copies_on channel copies)
      → printing.so_far start events (copies_on channel (copies ++ more))
      → copies_on channel more ≡ []
  none-added start events channel copies more h k =
      append_cancel_left (copies_on channel copies) (copies_on channel more) []
      (sym (copies_on-append channel copies more)
      ∙ laws.one start events _ _ k h
      ∙ sym (append-nil (copies_on channel copies)))

  -- so what it adds are copies of that channel
  pub one-adds : (starts : Starts) (given : List Given) (channel : Channel) (events : List Event)
      (copies more : List MarkedCopy) → HavePrintedBy printing starts given copies
      → HavePrintedBy printing starts (given ++ to_one channel events ∷ []) (copies ++ more)
      → more ≡ map (marked channel) (copies_on channel more)
  one-adds starts given channel events copies more h k =
      of-one channel more (λ other e. none-added (start_on starts other) (share other given) other
      copies more (h other)
      (subst (λ all. printing.so_far (start_on starts other) all (copies_on other (copies ++ more)))
      (share-other other channel given events e) (k other)))

  -- One more that is given adds the same, whatever is printed in turn.
  pub adds-same : (starts : Starts) (given : List Given) (one : Given)
      (copies more others : List MarkedCopy) → HavePrintedBy printing starts given copies
      → HavePrintedBy printing starts (given ++ one ∷ []) (copies ++ more)
      → HavePrintedBy printing starts (given ++ one ∷ []) (copies ++ others) → more ≡ others
  adds-same starts given (to_all n) copies more others h k j =
      let was = moment-given starts given n copies h in
      none-on more (λ channel. none-added (start_on starts channel) _ channel copies more
      (was channel) (k channel))
      ∙ sym (none-on others (λ channel. none-added (start_on starts channel) _ channel copies others
      (was channel) (j channel)))
  adds-same starts given (to_one channel events) copies more others h k j =
      let alike : copies_on channel more ≡ copies_on channel others =
      append_cancel_left (copies_on channel copies) _ _
      (sym (copies_on-append channel copies more)
      ∙ laws.one (start_on starts channel) _ _ _ (k channel) (j channel)
      ∙ copies_on-append channel copies others) in
      one-adds starts given channel events copies more h k
      ∙ ap (map (marked channel)) alike
      ∙ sym (one-adds starts given channel events copies others h j)
