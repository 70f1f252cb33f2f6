-- What only private contracts and proofs cite, beside hearing.CopyHearer (this profile).
use Rattle.std.specs.Prelude.{◌≡◌, Bool}
use Rattle.std.specs.Prelude.{List, [], ◌∷◌, Option, Some, None}
use Rattle.nx_sync.specs.Locks.{Lock, Now, IsNow}
use Rattle.nx_envelope.specs.declared.found.Found.{Found}
use Rattle.nx_copies.specs.declared.copy_taker.CopyTag.{CopyTag}
use Rattle.nx_copies.specs.Events.{Setting}
use Rattle.nx_copies.specs.copies.FoundCopies.{found_to_end, TaggedCopy}
use Rattle.nx_copies.specs.copies.FoundCopies.{tag, tagged_found}
use Rattle.nx_copies.specs.hearing.CopyHearer.{copies_by}

-- After these elements, and where they end, these copies have ended, in order.
pub record HasEndedAll (first : Setting) (bits : List Bool) (settings : List Setting)
    (copies : List TaggedCopy) : Type 0 where
  pub locks : List Lock
  pub now : Now
  pub stands : IsNow bits locks now
  pub ended : copies ≡ copies_by first settings (found_to_end bits locks now)

-- the copy that was handed out, with its tag
abbrev pub handed_out : Option Found → CopyTag → List TaggedCopy
handed_out None kept = []
handed_out (Some found) kept = tagged_found found kept.moment kept.is_selected ∷ []
