-- A copy of a message as it is handed out.
use Rattle.std.specs.Prelude.{◌≡◌, ℕ, List}
use Rattle.nx_envelope.specs.Copies.{Copy, errors_of}
use Rattle.nx_envelope.specs.declared.found.Found.{Found}
use Rattle.nx_envelope.specs.declared.found.FoundHead.{FoundHead}
use Rattle.nx_envelope.specs.declared.found.How.{How}
use Rattle.nx_envelope.specs.declared.identity.Identity.{Identity}

-- the found has this identity, end and text, and the errors of the text
pub record IsFoundOf (name : Identity) (end : How) (spelled : List ℕ) (found : Found) : Type 0 where
  pub identity : found.identity ≡ name
  pub how : found.how ≡ end
  pub text : found.text.items ≡ spelled
  pub errors : found.errors ≡ errors_of spelled

-- the found is the copy
abbrev pub IsFound : Copy → Found → Type 0
IsFound copy found = IsFoundOf copy.header.identity copy.how copy.text found

-- the head is that of the copy, with the errors of its text
pub record IsHeadOf (copy : Copy) (head : FoundHead) : Type 0 where
  pub identity : head.identity ≡ copy.header.identity
  pub how : head.how ≡ copy.how
  pub errors : head.errors ≡ errors_of copy.text
