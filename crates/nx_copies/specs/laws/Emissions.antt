-- What sendings give a receiver: a lock that holds, and copies (this profile).
use Rattle.std.specs.Prelude.{◌≡◌, ℕ, ◌+◌, ◌≤◌, ◌==◌, Bool, List, ◌∷◌, ◌++◌, length, take}
use Rattle.std.specs.Prelude.{filter}
use Rattle.std.specs.List.{flat_map}
use Rattle.nx_fec.specs.emissions.Emission.{bits_of}
use Rattle.nx_sync.specs.Laws.{phasing}
use Rattle.nx_sync.specs.Locks.{Lock, IsLocked}
use Rattle.nx_sync.specs.Words.{first_role, role_of, word_begin}
use Rattle.nx_sync.specs.declared.step.Role.TheVariants.{Dx}
use Rattle.nx_envelope.specs.Header.{Header}
use Rattle.nx_envelope.specs.Message.{text_of, MessageView}
use Rattle.nx_envelope.specs.declared.found.How.TheVariants.{Full}
use Rattle.nx_station.specs.Broadcast.{printed_text}
use Rattle.nx_station.specs.reception.Path.{phasing_received}
use Rattle.nx_station.specs.reception.Sendings.{Sending}
use Rattle.nx_copies.specs.copies.FoundCopies.{FoundCopy}

-- how many bits the 48 phasing words of the slots 96 to 143 have
abbrev pub phasing_elements : ℕ
phasing_elements = 336

-- A lock holds through words that are heard from slot 96 on. Their first 48 are phasing as it is
-- sent. They leave a lock whose word `whole` is that of slot 144, a DX word; and it stands after
-- each further bit, to the last.
pub record HoldsThrough (earlier : List Bool) (heard : List ℕ) : Type 0 where
  pub begins : take phasing_elements (bits_of heard) ≡ phasing phasing_received
  pub locks : List Lock
  pub p : ℕ
  pub t : ℕ
  pub whole : ℕ
  pub limit : length earlier + phasing_elements ≡ word_begin t whole
  pub dx : role_of (first_role (earlier ++ bits_of heard) t) whole ≡ Dx
  pub stands : (n : ℕ) → phasing_elements ≤ n → n ≤ length (bits_of heard)
      → IsLocked (earlier ++ take n (bits_of heard)) locks p t

-- the copies whose second digit stands at this place
unfoldable pub copies_at : ℕ → List FoundCopy → List FoundCopy
copies_at place copies = filter (λ copy. copy.place == place) copies

-- the copy that a sending gives: it begins with the header of the sending, is full, and its text is
-- the message's
abbrev pub copy_of_sending : Sending → FoundCopy
copy_of_sending sending = record {
  identity = sending.message.identity;
  how = Full;
  text = text_of sending.message.lines;
  place = sending.place;
}

-- how many characters a header has that is printed: `ZCZC`, a space, and the identity
abbrev pub header_length : ℕ
header_length = 9

-- The header is that of one of the messages, in what is printed of them, one after another. It
-- bears the identity of the message, and stands where its printed text begins.
pub record IsHeaderOf (messages : List MessageView) (header : Header) : Type 0 where
  pub before : List MessageView
  pub message : MessageView
  pub after : List MessageView
  pub whole : messages ≡ before ++ message ∷ after
  pub named : header.identity ≡ message.identity
  pub behind : header.behind ≡ length (flat_map printed_text before) + header_length
