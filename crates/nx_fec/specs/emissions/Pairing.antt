-- Pairing (ITU-R M.625, collective mode B: each position is sent twice, as DX and, five slots
-- later, as RX; that differing signals are lost is this profile's).
use Rattle.std.specs.Prelude.{◌≡◌, ℕ, ◌+◌, ◌-◌, ◌==◌, nat_lt, if◌then◌else◌, List, ◌∷◌, length, drop, slice_index_or}
use Rattle.std.specs.Option.{option_map_or}
use Rattle.nx_code.specs.declared.signals.Signal.TheVariants.{Traffic, Alpha, Beta, Repeat}
use Rattle.nx_code.specs.Word.{HasWrongWeight}
use Rattle.nx_code.specs.Table.{place_of, combination_count}
use Rattle.nx_code.specs.Signal.{number_of_signal}
use Rattle.nx_code.specs.Reading.{Reception, combination, idle, lost}
use Rattle.nx_fec.specs.emissions.Emission.{rx_delay}
use Rattle.nx_fec.specs.declared.emissions.diversity.Heard.{Heard}
use Rattle.nx_fec.specs.declared.emissions.diversity.Heard.TheVariants.{Intact, Wrong}

-- what a word counts as: a traffic combination by its number, an idle signal (P1, P2 or beta), or
-- nothing
pub data Counted : Type 0 where
  traffic : ℕ → Counted
  idle_signal : Counted
  nothing : Counted

-- What a word counts as, by its number: the first 32 rows of the table are the combinations, and
-- the others the service signals. A word that isn't in the table has a wrong weight.
unfoldable pub counts_as : ℕ → Counted
counts_as word =
    option_map_or
    (λ place. if nat_lt place combination_count then traffic (place + 1) else idle_signal)
    (place_of word) nothing

-- what is taken of a DX and an RX: where they count alike, or only one of them counts, that; and
-- else it is lost
abbrev pub pairing : Counted → Counted → Reception
pairing (traffic m) (traffic n) = if m == n then combination m else lost
pairing (traffic m) nothing = combination m
pairing nothing (traffic n) = combination n
pairing idle_signal idle_signal = idle
pairing idle_signal nothing = idle
pairing nothing idle_signal = idle
pairing dx rx = lost

-- the DX of the RX that comes next, where these are the DX words so far, oldest first: it is the
-- third last, or a word that wasn't seen
abbrev pub third_last : List Counted → Counted
third_last words =
    if nat_lt (length words) 3 then nothing else slice_index_or words (length words - 3) nothing

-- what arrived of a word counts as the word does
abbrev pub heard_as : Heard → Counted
heard_as (Intact (Traffic comb)) = traffic comb.number
heard_as (Intact Alpha) = idle_signal
heard_as (Intact Beta) = idle_signal
heard_as (Intact Repeat) = idle_signal
heard_as Wrong = nothing

-- these are the latest three of the DX words so far, which count so; those that weren't given count
-- as nothing
abbrev pub IsLatest : List Counted → List Counted → Type 0
IsLatest latest words = latest ≡ drop (length words) (nothing ∷ nothing ∷ nothing ∷ words)

-- this is what arrived of a word: the signal that it stands for, or none
abbrev pub IsHeardOf : Heard → ℕ → Type 0
IsHeardOf (Intact signal) word = number_of_signal signal ≡ word
IsHeardOf Wrong word = HasWrongWeight word

-- what the word five before word k counts as, where `words` gives each word's number: before word
-- 0 none was seen
abbrev pub five_before : (ℕ → ℕ) → ℕ → Counted
five_before words k = if nat_lt k rx_delay then nothing else counts_as (words (k - rx_delay))
