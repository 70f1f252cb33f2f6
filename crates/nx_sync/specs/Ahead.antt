-- What packed elements bring that a synchroniser hears, and which words lie ahead among them.
use Rattle.std.specs.Prelude.{◌≡◌, ℕ, ◌+◌, ◌*◌, ◌%◌, ◌^◌, ◌<◌, ◌≤◌, Bool, List, ◌++◌, length, take}
use Rattle.std.specs.Prelude.{IsTrue}
use Rattle.std.specs.List.{flat_map}
use Rattle.nx_code.specs.Packed.{packed_elements, packed_part}
use Rattle.nx_code.specs.Word.{elements, word_elements}
use Rattle.nx_sync.specs.declared.step.Role.TheVariants.{Dx}
use Rattle.nx_sync.specs.declared.step.Step.{Step}
use Rattle.nx_sync.specs.Steps.{AreQuietWords, IsLastStep, LimitStands}
use Rattle.nx_sync.specs.Synchroniser.{Held, StandsAfter, keeps_lock}

-- So many packed elements from a place on are there, and the place behind them can be counted.
pub record HasPart (numbers : List ℕ) (from count : ℕ) : Type 0 where
  pub room : from + count ≤ packed_elements * length numbers
  pub counted : from + count < 2 ^ 64

-- So many words may be taken at once: two, four, six or eight. They are DX and RX by turns where
-- the first is a DX word.
pub record ArePairs (words : List ℕ) : Type 0 where
  pub some : 0 < length words
  pub few : length words ≤ 8
  pub even : length words % 2 ≡ 0

-- A synchroniser heard these bits, after whichever it stood, and the last of them brings s, those
-- before it nothing.
pub record BringsStep (old new : Held) (bits : List Bool) (s : Step) : Type 0 where
  pub stands : (h : List Bool) → StandsAfter old h → StandsAfter new (h ++ bits)
  pub brings : (h : List Bool) → StandsAfter old h → IsLastStep h bits s

-- A synchroniser heard these words, whichever bits it stood after: a lock stood there, between two
-- of its words. The first of these words is a DX word, and none of them brings a change.
pub record BringsWords (old new : Held) (words : List ℕ) : Type 0 where
  pub stands : (h : List Bool) → StandsAfter old h → StandsAfter new (h ++ flat_map elements words)
  pub limit : (h : List Bool) → StandsAfter old h → LimitStands h
  pub quiet : (h : List Bool) → StandsAfter old h → AreQuietWords h Dx words

-- Of so many packed elements from a place on, the first are those of words that lie ahead, in
-- pairs, or none: so many of the given ones, the first. Surely none of them brings a change,
-- however many of them are heard.
pub record LieAhead (held : Held) (numbers : List ℕ) (from count : ℕ) (ahead : ℕ × List ℕ)
    : Type 0 where
  pub few : ahead.0 ≤ 8
  pub even : ahead.0 % 2 ≡ 0
  pub within : word_elements * ahead.0 ≤ count
  pub are : flat_map elements (take ahead.0 ahead.1)
      ≡ packed_part numbers from (word_elements * ahead.0)
  pub keeps : (n : ℕ) → 0 < n → n ≤ ahead.0 → IsTrue (keeps_lock held (take n ahead.1))
