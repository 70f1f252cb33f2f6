-- The headline across power-offs: a message that is sent in a chain of runs, one or more times, on
-- one channel, and is printed once (this profile).
use Rattle.std.specs.Prelude.{◌≡◌, ℕ, ◌+◌, ◌<◌, List, map, Contains, IsTrue}
use Rattle.nx_envelope.specs.Message.{MessageView}
use Rattle.nx_fec.specs.declared.air_files.channel.Channel.{Channel}
use Rattle.nx_memory.specs.Saved.{SavedStates}
use Rattle.nx_memory.specs.Memory.{seconds_known}
use Rattle.nx_memory.specs.Selection.{admits}
use Rattle.nx_station.specs.reception.Sendings.{Part, IsCut, IsSentAt}
use Rattle.nx_receiver.specs.air_file_runs.Chain.{Run, all_copies, events_in, start_in}
use Rattle.nx_copies.specs.Events.{Setting, elements_among, first_setting, setting_at}
use Rattle.nx_copies.specs.copies.FoundCopies.{FoundCopy}
use Rattle.nx_copies.specs.laws.Once.{IsUnknownAtFirst, FewBetween}
use Rattle.nx_copies.specs.copies.Shares.{saved_of}

-- a run, with the gaps of any bits and the received emissions into which its elements on a channel
-- are cut
pub record CutRun : Type 0 where
  pub run : Run
  pub parts : List Part

-- the message is sent in this one of the runs, with the second digit of its header at this element
pub record IsSentIn (cuts : List CutRun) (message : MessageView) (cut : CutRun) (place : ℕ)
    : Type 0 where
  pub among : Contains cuts cut
  pub sent : IsSentAt cut.parts message place

-- the moment and the selection in force at this element of the run on a channel
abbrev pub in_force_in : Channel → CutRun → ℕ → Setting
in_force_in channel cut place =
    setting_at (first_setting (start_in channel cut.run)) (events_in channel cut.run) place

-- What has to be met on a channel of runs, so that a message is printed once in their logs.
pub record IsHeardInTimeOver (channel : Channel) (first : SavedStates) (runs : List Run)
    (message : MessageView)
    : Type 0 where
  -- The elements of each run on the channel are cut into gaps of any bits and received emissions.
  pub cuts : List CutRun
  pub whole : runs ≡ map (λ (cut : CutRun). cut.run) cuts
  pub cut : (one : CutRun) → Contains cuts one
      → IsCut (elements_among (events_in channel one.run)) one.parts
  -- The message is sent in these emissions, once or more often, in whichever runs.
  pub at : CutRun
  pub place : ℕ
  pub sent : IsSentIn cuts message at place
  -- It is not numbered 00.
  pub numbered : 0 < message.identity.number
  -- Each copy that is found in a run on the channel with its identity is one of its sendings there,
  -- so all carry the same text.
  pub alone : (one : CutRun) (copy : FoundCopy) → Contains cuts one
      → Contains (one.run.found channel) copy → copy.identity ≡ message.identity
      → IsSentAt one.parts message copy.place
  -- It is selected at each sending.
  pub selected : (one : CutRun) (at : ℕ) → IsSentIn cuts message one at
      → IsTrue (admits (in_force_in channel one at).refused message.identity)
  -- Any two sendings, in one run or in two, lie less than 66 hours apart.
  pub close : (one other : CutRun) (at place : ℕ) → IsSentIn cuts message one at
      → IsSentIn cuts message other place
      → (in_force_in channel one at).moment
      < (in_force_in channel other place).moment + seconds_known
  -- At its first copy no entry of its identity is live of those that were saved of the channel at
  -- first; where none were, this always holds.
  pub unknown : IsUnknownAtFirst (saved_of first channel).entries message.identity
      (all_copies channel runs)
  -- 200 identities suffice: fewer than 200 entries are made between its first copy and any later
  -- one, over all runs.
  pub few : FewBetween (saved_of first channel).entries message.identity
      (all_copies channel runs)
