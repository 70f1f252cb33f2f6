-- What three receivers print, in the order in which the copies end (this profile). What is printed
-- of a channel is a parameter.
use Rattle.std.specs.Prelude.{◌≡◌, ℕ, List, [], ◌∷◌, ◌++◌, map, take}
use Rattle.std.specs.List.{flat_map}
use Rattle.nx_fec.specs.declared.air_files.channel.Channel.{Channel}
use Rattle.nx_fec.specs.declared.air_files.channel.Channel.TheVariants.{Zero, One, Two}
use Rattle.nx_copies.specs.copies.FoundCopies.{TaggedCopy}
use Rattle.nx_copies.specs.copies.Log.{Printing, plain}
use Rattle.nx_copies.specs.copies.Shares.{Given, MarkedCopy, Starts, copies_on, marked, share, start_on}

-- The copies of each channel are what is printed of its share so far.
abbrev pub HavePrintedBy : Printing → Starts → List Given → List MarkedCopy → Type 0
HavePrintedBy printing starts given copies =
    (channel : Channel)
    → printing.so_far (start_on starts channel) (share channel given) (copies_on channel copies)

-- What is printed of the copies that have ended, in the order in which they end: what is printed of
-- a beginning of what is given is so many of them, from the first on. A line has elements of one
-- channel, so this fixes the order.
pub record PrintsInTurnBy (printing : Printing) (starts : Starts) (given : List Given)
    (copies : List MarkedCopy)
    : Type 0 where
  pub each : HavePrintedBy printing starts given copies
  pub in_turn : (before later : List Given) → given ≡ before ++ later
      → (count : ℕ) × HavePrintedBy printing starts before (take count copies)

-- What is printed where this is all that is given: first what is printed of the copies that have
-- ended; then the end closes the copies that stand open, by channel.
pub record PrintAllToEndBy (printing : Printing) (starts : Starts) (given : List Given)
    (copies : List MarkedCopy)
    : Type 0 where
  pub ended : List MarkedCopy
  pub in_turn : PrintsInTurnBy printing starts given ended
  pub closed : Channel → List TaggedCopy
  pub to_end : (channel : Channel) → printing.to_end (start_on starts channel)
      (share channel given) (copies_on channel ended ++ closed channel)
  pub whole : copies
      ≡ ended ++ flat_map (λ channel. map (marked channel) (closed channel)) (Zero ∷ One ∷ Two ∷ [])

-- the same where each copy is judged alone
abbrev pub HavePrinted : Starts → List Given → List MarkedCopy → Type 0
HavePrinted starts given copies = HavePrintedBy plain starts given copies

abbrev pub PrintsInTurn : Starts → List Given → List MarkedCopy → Type 0
PrintsInTurn starts given copies = PrintsInTurnBy plain starts given copies

abbrev pub PrintAllToEnd : Starts → List Given → List MarkedCopy → Type 0
PrintAllToEnd starts given copies = PrintAllToEndBy plain starts given copies
