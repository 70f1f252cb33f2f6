-- What a channel begins with, of a state that is read.
use Rattle.std.proofs.Common.{◌≡◌, ◌≤◌, ℕ, List, Option, Some, None, unwrap_or, inl, inr, sym, subst, ap₂, ◌∙◌, arith}
use Rattle.nx_envelope.specs.Moment.{last_moment}
use Rattle.nx_fec.specs.declared.air_files.channel.Channel.{Channel}
use Rattle.nx_fec.specs.declared.air_files.channel.Channel.TheVariants.{Zero, One, Two}
use Rattle.nx_memory.specs.Memory.{newest_moment, newest_of}
use Rattle.nx_memory.specs.Saved.{AreSavedStates, SavedState, SavedStates, later_of, newest_of_all}
use Rattle.nx_memory.specs.Selection.{Refused}
use Rattle.nx_memory.specs.StateText.{IsStateText}
use Rattle.nx_memory.specs.declared.memories.entry.MemoryEntry.{MemoryEntry}
use Rattle.nx_memory.proofs.lemmas.StateTexts.{nothing_sound}
use Rattle.nx_copies.specs.copies.Shares.{saved_of, start_on, starts_from}
use Rattle.nx_receiver.proofs.lemmas.chain.Moments.{later-first, later-second}
use Rattle.nx_handle.specs.PlaceKinds.{start_with}

-- the start of a channel, by what is saved of it
pub start-is : (states : SavedStates) (channel : Channel) (saved : SavedState)
    (entries : List MemoryEntry) (moment : ℕ) (refused : Refused)
    → saved ≡ saved_of states channel → entries ≡ saved.entries → refused ≡ saved.refused
    → moment ≡ unwrap_or (newest_of_all states) 0
    → start_on (starts_from states) channel ≡ start_with entries moment refused
start-is states channel saved entries moment refused is es r m =
    ap₂ (λ (s : SavedState) (n : ℕ). start_with s.entries n s.refused) (sym is) (sym m)
    ∙ ap₂ (λ (l : List MemoryEntry) (f : Refused). start_with l moment f) (sym es) (sym r)

-- ---- the greatest moment

-- no entry of a channel is past it
pub newest-within : (states : SavedStates) (channel : Channel)
    → newest_moment (saved_of states channel).entries ≤ unwrap_or (newest_of_all states) 0
newest-within states Zero =
    later-first (newest_of states.on_0.entries)
    (later_of (newest_of states.on_1.entries) (newest_of states.on_2.entries))
newest-within states One =
    let one = newest_of states.on_1.entries in
    let two = newest_of states.on_2.entries in
    omega (
      arith,
      later-first one two,
      later-second (newest_of states.on_0.entries) (later_of one two),
    )
newest-within states Two =
    let one = newest_of states.on_1.entries in
    let two = newest_of states.on_2.entries in
    omega (
      arith,
      later-second one two,
      later-second (newest_of states.on_0.entries) (later_of one two),
    )

-- the later of two moments is in range where both are
later-in_range : (one other : Option ℕ) (last : ℕ) → unwrap_or one 0 ≤ last
    → unwrap_or other 0 ≤ last → unwrap_or (later_of one other) 0 ≤ last
later-in_range None other last h k = k
later-in_range (Some n) None last h k = h
later-in_range (Some n) (Some m) last h k = omega (arith, h, k)

-- what a text stands for can be saved
sound-text : (lines : List (List ℕ)) (states : SavedStates) → IsStateText lines states
    → AreSavedStates states
sound-text lines states is = elim is [
  | inl one ↦ subst AreSavedStates (sym one.stands_for)
      (record { on_0 = one.sound; on_1 = nothing_sound; on_2 = nothing_sound })
  | inr two ↦ two.sound
]

-- so it is in range
pub newest-in_range : (lines : List (List ℕ)) (states : SavedStates) → IsStateText lines states
    → unwrap_or (newest_of_all states) 0 ≤ last_moment
newest-in_range lines states is =
    let sound = sound-text lines states is in
    later-in_range (newest_of states.on_0.entries)
    (later_of (newest_of states.on_1.entries) (newest_of states.on_2.entries)) last_moment
    sound.on_0.entries.in_range
    (later-in_range (newest_of states.on_1.entries) (newest_of states.on_2.entries) last_moment
    sound.on_1.entries.in_range sound.on_2.entries.in_range)
