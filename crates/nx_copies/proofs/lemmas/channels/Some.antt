-- What is given has a log in turn; and what is given of a part of it has a beginning of that log.
use Rattle.std.proofs.Common.{List, [], ◌∷◌, ◌++◌, map, refl, sym, subst, append-nil}
use Rattle.std.proofs.Common.{append_assoc}
use Rattle.nx_fec.specs.declared.air_files.channel.Channel.{Channel}
use Rattle.nx_copies.specs.Events.{Event}
use Rattle.nx_copies.specs.copies.FoundCopies.{TaggedCopy}
use Rattle.nx_copies.specs.copies.InTurn.{HavePrintedBy, PrintAllToEnd, PrintAllToEndBy}
use Rattle.nx_copies.specs.copies.InTurn.{PrintsInTurn, PrintsInTurnBy}
use Rattle.nx_copies.specs.copies.Log.{IsPrinting, Printing, plain}
use Rattle.nx_copies.specs.copies.Shares.{Given, MarkedCopy, Starts, copies_on, marked, share, start_on}
use Rattle.nx_copies.specs.copies.Shares.{to_all, to_one}
use Rattle.nx_copies.proofs.lemmas.channels.Shares.{in_turn-more}
use Rattle.nx_copies.proofs.lemmas.printing.Laws.{plain-laws}
use Rattle.nx_copies.proofs.lemmas.channels.Added.{moment-given, nothing-given_by, one-given}

-- what some are printed after, and how they go on
pub record GoesOnPrinted (printing : Printing) (starts : Starts) (given : List Given)
    (copies : List MarkedCopy)
    : Type 0 where
  pub more : List MarkedCopy
  pub in_turn : PrintsInTurnBy printing starts given (copies ++ more)

module _ (printing : Printing) (laws : IsPrinting printing) where
  -- more that is given to a channel adds to what is printed of it
  more-on : (starts : Starts) (given : List Given) (channel : Channel) (events : List Event)
      (copies : List MarkedCopy) → HavePrintedBy printing starts given copies
      → (more : List TaggedCopy)
      × printing.so_far (start_on starts channel) (share channel given ++ events)
      (copies_on channel copies ++ more)
  more-on starts given channel events copies h =
      let start = start_on starts channel in
      let all = laws.some start (share channel given ++ events) in
      let on = laws.stays start (share channel given) events (copies_on channel copies) all.0
      (h channel) all.1 in
      (on.0, subst (printing.so_far start (share channel given ++ events)) on.1 all.1)

  -- one more that is given adds to what is printed in turn
  next-some : (starts : Starts) (given : List Given) (one : Given) (copies : List MarkedCopy)
      → PrintsInTurnBy printing starts given copies
      → GoesOnPrinted printing starts (given ++ one ∷ []) copies
  next-some starts given (to_all n) copies h = record {
    more = [];
    in_turn = in_turn-more starts given (to_all n) copies [] h
        (subst (HavePrintedBy printing starts (given ++ to_all n ∷ [])) (sym (append-nil copies))
        (moment-given printing laws starts given n copies h.each));
  }
  next-some starts given (to_one channel events) copies h =
      let on = more-on starts given channel events copies h.each in
      record {
        more = map (marked channel) on.0;
        in_turn = in_turn-more starts given (to_one channel events) copies _ h
            (one-given printing laws starts given channel events copies on.0 h.each on.1);
      }

  -- and so does all that is given later
  pub later-some_by : (starts : Starts) (before later : List Given) (copies : List MarkedCopy)
      → PrintsInTurnBy printing starts before copies
      → GoesOnPrinted printing starts (before ++ later) copies
  later-some_by starts before [] copies h = record {
    more = [];
    in_turn = subst (PrintsInTurnBy printing starts (before ++ [])) (sym (append-nil copies))
        (subst (λ given. PrintsInTurnBy printing starts given copies) (sym (append-nil before)) h);
  }
  later-some_by starts before (one ∷ later) copies h =
      let next = next-some starts before one copies h in
      let all =
      later-some_by starts (before ++ one ∷ []) later (copies ++ next.more) next.in_turn in
      record {
        more = next.more ++ all.more;
        in_turn = subst (PrintsInTurnBy printing starts (before ++ one ∷ later))
            (append_assoc copies next.more all.more)
            (subst (λ given. PrintsInTurnBy printing starts given
            ((copies ++ next.more) ++ all.more))
            (append_assoc before (one ∷ []) later) all.in_turn);
      }

  -- there is a log in turn
  pub some-in_turn_by : (starts : Starts) (given : List Given)
      → (copies : List MarkedCopy) × PrintsInTurnBy printing starts given copies
  some-in_turn_by starts given =
      let all = later-some_by starts [] given [] (nothing-given_by printing laws starts) in
      (all.more, all.in_turn)

  -- what has ended is printed to the end, and what the end closes
  pub some-ended : (starts : Starts) (given : List Given) (ended : List MarkedCopy)
      → PrintsInTurnBy printing starts given ended
      → (copies : List MarkedCopy) × PrintAllToEndBy printing starts given copies
  some-ended starts given ended h =
      let closes : (channel : Channel) → (closed : List TaggedCopy)
      × printing.to_end (start_on starts channel) (share channel given)
      (copies_on channel ended ++ closed) =
      λ channel. closed-on starts given ended channel (h.each channel) in (
        _,
        record {
          ended = ended;
          in_turn = h;
          closed = λ channel. (closes channel).0;
          to_end = λ channel. (closes channel).1;
          whole = refl;
        },
      )
    where
      closed-on : (starts : Starts) (given : List Given) (ended : List MarkedCopy)
          (channel : Channel)
          → printing.so_far (start_on starts channel) (share channel given)
          (copies_on channel ended)
          → (closed : List TaggedCopy)
          × printing.to_end (start_on starts channel) (share channel given)
          (copies_on channel ended ++ closed)
      closed-on starts given ended channel h =
          let start = start_on starts channel in
          let events = share channel given in
          let all = laws.some_to_end start events in
          let on = laws.stays_to_end start events (copies_on channel ended) all.0 h all.1 in
          (on.0, subst (printing.to_end start events) on.1 all.1)

  -- there is a log to the end
  pub some-to_end_by : (starts : Starts) (given : List Given)
      → (copies : List MarkedCopy) × PrintAllToEndBy printing starts given copies
  some-to_end_by starts given =
      let ended = some-in_turn_by starts given in some-ended starts given ended.0 ended.1

pub some-in_turn : (starts : Starts) (given : List Given)
    → (copies : List MarkedCopy) × PrintsInTurn starts given copies
some-in_turn = some-in_turn_by plain plain-laws

pub some-to_end : (starts : Starts) (given : List Given)
    → (copies : List MarkedCopy) × PrintAllToEnd starts given copies
some-to_end = some-to_end_by plain plain-laws
