-- What is told of the sendings of an entry.
use Rattle.std.proofs.Common.{◌≡◌, ◌<◌, ℕ, true, List, length, Some, arith, subst, sym, ◌∙◌}
use Rattle.std.proofs.lemmas.Grind.{common_steps}
use Rattle.nx_fec.specs.air_files.Channels.{channel_number}
use Rattle.nx_fec.specs.declared.air_files.channel.Channel.{Channel}
use Rattle.nx_copies.specs.Events.{Event, Start}
use Rattle.nx_copies.specs.copies.FoundCopies.{TaggedCopy}
use Rattle.nx_copies.specs.copies.Shares.{copies_on, share, start_on}
use Rattle.nx_handle.specs.PlaceKinds.{PlaceKind}
use Rattle.nx_handle.specs.Places.{place_on}
use Rattle.nx_handle.specs.Sendings.{TellsSendings, sendings_status}
use Rattle.nx_handle.specs.Status.{number_of}
use Rattle.nx_handle.proofs.lemmas.Closing.{stands-on}
use Rattle.nx_handle.proofs.lemmas.Places.{some-is}

pub done-status : (channel count : ℕ) → channel < count
    → 0 ≡ number_of (sendings_status true channel count)
done-status channel count lt = grind (arith, common_steps)

-- what the place of a channel tells
pub tells : {P : Type 0} (kind : PlaceKind P) (places : List P) (on : Channel)
    (channel sendings : ℕ) (place : P) → channel_number on ≡ channel → channel < length places
    → place_on places on ≡ Some place
    → ((held : ℕ) (start : Start) (history : List Event) (log : List TaggedCopy)
    → kind.stands held start place history log
    → kind.sendings held start history log sendings)
    → TellsSendings kind channel places sendings
tells kind places on channel sendings place is has at told = record {
  on = on;
  is = is;
  has_channel = has;
  tells = λ held starts given copies h.
      let same = some-is (sym (h.hears on (omega (arith, is, has))) ∙ at) in
      told held (start_on starts on) (share on given) (copies_on on copies)
      (subst (λ p. kind.stands held (start_on starts on) p (share on given) (copies_on on copies))
      same (stands-on kind held starts places given copies h on));
}
