-- Where only one channel is given elements, what is printed of it is all that is printed.
use Rattle.std.proofs.Common.{◌≡◌, Bool, false, List, [], map, refl, sym, ap, ◌∙◌, subst}
use Rattle.nx_envelope.specs.Copies.{beginnings, copies, header_at_end, headers}
use Rattle.nx_envelope.specs.private.Reading.{identity_read}
use Rattle.nx_fec.specs.air_files.Channels.{same_channel}
use Rattle.nx_fec.specs.declared.air_files.channel.Channel.{Channel}
use Rattle.nx_sync.specs.Locks.{IsNow, hunting}
use Rattle.nx_copies.specs.copies.FoundCopies.{AreFoundIn}
use Rattle.nx_copies.specs.Events.{Event, Start, elements_among}
use Rattle.nx_copies.specs.copies.FoundCopies.{FoundCopy, TaggedCopy, found_to_end, past_copies}
use Rattle.nx_copies.specs.copies.FoundCopies.{tagged_copies}
use Rattle.nx_copies.specs.copies.InTurn.{PrintAllToEnd}
use Rattle.nx_copies.specs.copies.LockText.{bytes_of}
use Rattle.nx_copies.specs.copies.Log.{PrintsToEnd, printed_of}
use Rattle.nx_copies.specs.copies.Printing.{printed_copies}
use Rattle.nx_copies.specs.copies.Shares.{Given, MarkedCopy, Starts, copies_on, marked, share, start_on}
use Rattle.nx_copies.proofs.lemmas.channels.Shares.{to_end-on}
use Rattle.nx_copies.proofs.lemmas.printing.Logged.{one_to_end}
use Rattle.nx_copies.proofs.lemmas.channels.Marked.{of-one}
use Rattle.nx_copies.proofs.lemmas.channels.Some.{some-to_end}
use Rattle.nx_sync.proofs.lemmas.states.StateChanges.{first_hunt}

no-copy : [] ≡ found_to_end [] [] (hunting 0)
unfolding found_to_end past_copies bytes_of copies headers beginnings header_at_end identity_read
no-copy = refl

pub found-none : (events : List Event) → elements_among events ≡ [] → AreFoundIn events []
found-none events none = record {
  locks = [];
  now = hunting 0;
  stands = subst (λ (bits : List Bool). IsNow bits [] (hunting 0)) (sym none) first_hunt;
  whole = no-copy ∙ ap (λ (bits : List Bool). found_to_end bits [] (hunting 0)) (sym none);
}

-- and nothing is printed
pub printed-none : (start : Start) (events : List Event) → elements_among events ≡ []
    → PrintsToEnd start events []
unfolding printed_copies tagged_copies
printed-none start events none =
    let f = found-none events none in
    record {
      locks = f.locks;
      now = f.now;
      stands = f.stands;
      printed = ap (λ (cs : List FoundCopy). printed_of start events cs) f.whole;
    }

-- no other channel is given elements
abbrev pub HearsAlone : Channel → List Given → Type 0
HearsAlone channel given =
    (other : Channel) → same_channel channel other ≡ false
    → elements_among (share other given) ≡ []

-- so all copies that are printed are those of this channel
pub all-alone : (channel : Channel) (starts : Starts) (given : List Given)
    (copies : List MarkedCopy) → HearsAlone channel given → PrintAllToEnd starts given copies
    → copies ≡ map (marked channel) (copies_on channel copies)
all-alone channel starts given copies alone all =
    of-one channel copies
    (λ other h. one_to_end (start_on starts other) (share other given) (copies_on other copies) []
    (to_end-on starts given copies other all)
    (printed-none (start_on starts other) (share other given) (alone other h)))

-- and what is printed of the channel is all that is printed
pub printed-alone : (channel : Channel) (starts : Starts) (given : List Given)
    (log : List TaggedCopy) → HearsAlone channel given
    → PrintsToEnd (start_on starts channel) (share channel given) log
    → PrintAllToEnd starts given (map (marked channel) log)
printed-alone channel starts given log alone prints =
    let some = some-to_end starts given in
    subst (PrintAllToEnd starts given)
    (all-alone channel starts given some.0 alone some.1
    ∙ ap (map (marked channel)) (one_to_end (start_on starts channel) (share channel given)
    (copies_on channel some.0) log (to_end-on starts given some.0 channel some.1) prints)) some.1
