-- What a reader of logs finds in the file of a watch (this profile).
use Rattle.std.specs.Prelude.{◌≡◌, ◌⊎◌, ℕ, List, [], ◌∷◌, ◌++◌}
use Rattle.std.specs.List.{AllZip, flat_map}
use Rattle.nx_kept.specs.Kept.{closed_gate, open_gate}
use Rattle.nx_log.specs.Logged.{IsLoggedAs}
use Rattle.nx_copies.specs.copies.Shares.{MarkedCopy}
use Rattle.nx_watch.specs.CutTold.{BeginsWithEntry}

-- the bytes begin with those of this logged entry
abbrev pub BeginsWith : MarkedCopy → List ℕ → Type 0
BeginsWith one bytes =
    (entry : List ℕ) × (rest : List ℕ) × IsLoggedAs one entry × (bytes ≡ entry ++ rest)

-- These are the whole entries among bytes, in order: at each place where one begins, that one.
abbrev pub AreEntriesAmong : List ℕ → List MarkedCopy → Type 0
AreEntriesAmong [] entries = entries ≡ []
AreEntriesAmong (byte ∷ bytes) entries =
    ((one : MarkedCopy) × (more : List MarkedCopy) × BeginsWith one (byte ∷ bytes)
    × (entries ≡ one ∷ more) × AreEntriesAmong bytes more)
    ⊎ ((BeginsWithEntry (byte ∷ bytes) → ⊥) × AreEntriesAmong bytes entries)

-- all that was read is these entries, and then the whole ones among the bytes of a tail
pub record AreThenThoseOfTail (entries : List MarkedCopy) (tail : List ℕ) (all : List MarkedCopy)
    : Type 0 where
  pub more : List MarkedCopy
  pub joined : all ≡ entries ++ more
  pub among : AreEntriesAmong tail more

-- the entries of several logs, in order
abbrev pub all_of : List (List MarkedCopy) → List MarkedCopy
all_of [] = []
all_of (log ∷ logs) = log ++ all_of logs

-- The file is as `put` leaves it where no write was torn: the bytes of these entries, each behind a
-- newline, and a space behind the last.
pub record IsAsPut (entries : List MarkedCopy) (file : List ℕ) : Type 0 where
  pub texts : List (List ℕ)
  pub each : AllZip IsLoggedAs entries texts
  pub whole : file ≡ flat_map (λ text. open_gate ∷ text) texts ++ closed_gate ∷ []
