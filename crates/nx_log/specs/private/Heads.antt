-- The line that heads an entry, from left to right, with what stands behind it; and which entry
-- replaces another, by what their heads say.
use Rattle.std.specs.Prelude.{◌≡◌, ℕ, ◌≤◌, ◌==◌, Bool, not, ◌&&◌, List, ◌++◌, codes, decimal}
use Rattle.nx_envelope.specs.Copies.{most_found}
use Rattle.nx_envelope.specs.Identity.{identity_bytes, same_identity}
use Rattle.nx_envelope.specs.Moment.{IsShownAs, last_moment}
use Rattle.nx_log.specs.declared.entries.head.LoggedHead.{LoggedHead}
use Rattle.nx_copies.specs.copies.Log.{channel_mark, how_name}
use Rattle.nx_copies.specs.copies.Printing.{is_full}
use Rattle.nx_fec.specs.air_files.Channels.{same_channel}
use Rattle.nx_log.specs.Last.{has_come_better, is_within_66_hours}

-- the head with this civil time, and more behind its newline
abbrev pub head_and : LoggedHead → List ℕ → List ℕ → List ℕ
head_and head civil more =
    (codes "[" ++ identity_bytes head.identity) ++ (channel_mark head.channel ++ (codes " "
    ++ (civil ++ (codes " " ++ (how_name head.how ++ (codes " " ++ (decimal head.errors ++ (codes "/"
    ++ (decimal head.characters ++ (codes "]\n" ++ more))))))))))

-- the bytes begin with the head, and more stands behind it
pub record BeginsWithHead (bytes : List ℕ) (head : LoggedHead) (more : List ℕ) : Type 0 where
  pub civil : List ℕ
  pub shown : IsShownAs head.moment civil
  pub spelled : bytes ≡ head_and head civil more

-- its numbers are in range
pub record IsHead (head : LoggedHead) : Type 0 where
  pub in_range : head.moment ≤ last_moment
  pub few : head.errors ≤ most_found
  pub short : head.characters ≤ most_found
  pub enough : head.errors ≤ head.characters

-- what heads say of which entry replaces an earlier one
abbrev pub head_of_message : LoggedHead → LoggedHead → Bool
head_of_message one other =
    not (other.identity.number == 0) && same_identity one.identity other.identity
    && same_channel one.channel other.channel

abbrev pub head_is_better : LoggedHead → LoggedHead → Bool
head_is_better one other =
    has_come_better (is_full one.how) (is_full other.how) one.errors other.errors

abbrev pub head_replaces : LoggedHead → LoggedHead → Bool
head_replaces later one =
    head_of_message later one && is_within_66_hours one.moment later.moment
    && not (head_is_better one later)
