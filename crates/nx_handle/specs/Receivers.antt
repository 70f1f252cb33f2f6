-- The receivers of three channels, each in its place (this profile).
use Rattle.std.specs.Prelude.{ℕ, false, List, length}
use Rattle.nx_fec.specs.Transfers.{count_of}
use Rattle.nx_fec.specs.declared.air_files.channel.Channel.{Channel}
use Rattle.nx_fec.specs.declared.air_files.channel.Channel.TheVariants.{Zero, One, Two}
use Rattle.nx_receiver.specs.Listener.{HearsBy, ListeningOver, elements_given}
use Rattle.nx_copies.specs.copies.Shares.{Given, MarkedCopy, Starts}
use Rattle.nx_handle.specs.PlaceKinds.{PlaceKind, receiver_of}

pub record Listening (P : Type 0) : Type 0 where
  pub on_0 : P
  pub on_1 : P
  pub on_2 : P

-- the place of a channel, of three
abbrev pub one_on : {P : Type 0} → Listening P → Channel → P
one_on listening Zero = listening.on_0
one_on listening One = listening.on_1
one_on listening Two = listening.on_2

-- a listener of these receivers, which counted what was given and what was printed
abbrev pub counted : {P : Type 0} → Listening P → List Given → List MarkedCopy → ListeningOver P
counted listening given copies = record {
  on_0 = listening.on_0;
  on_1 = listening.on_1;
  on_2 = listening.on_2;
  has_moment = false;
  elements = count_of (length (elements_given given));
  entries = count_of (length copies);
}

-- they stand after what was given, with what they started, and have printed these copies
abbrev pub HearsGiven : {P : Type 0} → PlaceKind P → ℕ → Starts → Listening P → List Given
    → List MarkedCopy → Type 0
HearsGiven kind held starts listening given copies =
    HearsBy (receiver_of kind held) starts (counted listening given copies) given copies
