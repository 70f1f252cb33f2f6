-- A chain of watches is one receiver on each channel.
use Rattle.std.proofs.Common.{◌≡◌, ℕ, ◌+◌, ◌<◌, ◌≤◌, List, [], ◌∷◌, ◌++◌, map, refl, sym, ap, ◌∙◌}
use Rattle.std.proofs.Common.{subst, arith, append-nil, append_assoc}
use Rattle.std.specs.Prelude.{filter, unwrap_or, Option, Some, None}
use Rattle.std.proofs.Math.Nat.{le-max_left, le-max_right}
use Rattle.std.proofs.lemmas.List.{map-append}
use Rattle.std.proofs.lemmas.List.Elements.{filter-append}
use Rattle.nx_code.specs.Lists.{last_of}
use Rattle.nx_fec.specs.declared.air_files.channel.Channel.{Channel}
use Rattle.nx_fec.specs.declared.air_files.channel.Channel.TheVariants.{Zero, One, Two}
use Rattle.nx_log.specs.Logged.{is_memorable, memory_entries, remembered_on}
use Rattle.nx_log.proofs.lemmas.runs.Remembering.{made_is_kept}
use Rattle.nx_memory.specs.Content.{IsContent}
use Rattle.nx_memory.specs.Memory.{most_entries, newest_moment, newest_of, seconds_known}
use Rattle.nx_memory.specs.Saved.{SavedStates, later_of}
use Rattle.nx_memory.specs.declared.memories.entry.MemoryEntry.{MemoryEntry}
use Rattle.nx_memory.proofs.lemmas.Content.{content-nil}
use Rattle.nx_copies.specs.Events.{first_setting}
use Rattle.nx_copies.specs.copies.FoundCopies.{TaggedCopy}
use Rattle.nx_copies.specs.copies.Printing.{entries_after, entry_of, printed_copies}
use Rattle.nx_copies.specs.copies.Shares.{MarkedCopy, Starts, copies_on, saved_of, starts_from}
use Rattle.nx_copies.proofs.lemmas.channels.Shares.{copies_on-append}
use Rattle.nx_receiver.proofs.lemmas.chain.Moments.{newest-before}
use Rattle.nx_receiver.proofs.lemmas.chain.Printing.{last_agrees, same_log}
use Rattle.nx_copies.proofs.lemmas.printing.Logged.{printed_copies-append}
use Rattle.nx_watch.specs.Start.{remembered_at}
use Rattle.nx_left_on.specs.Chain.{ClocksAreNear, GoesOn, IsChain, Watch, all_copies, all_put}
use Rattle.nx_left_on.specs.Chain.{copies_in, events_in, lines_of, start_in}
use Rattle.nx_watch.specs.Watch.{all_saved_at, moments_at}
use Rattle.nx_left_on.proofs.lemmas.Acting.{acting-act}
use Rattle.nx_left_on.proofs.lemmas.entries.Climbing.{Climbs, lines-rise}
use Rattle.nx_left_on.proofs.lemmas.entries.Entering.{content-after}
use Rattle.nx_left_on.proofs.lemmas.chains.Found.{found-within, front-within, within-climb}
use Rattle.nx_left_on.proofs.lemmas.entries.Remembering.{all-remembered}

-- all entries that a log has of a channel, whenever they were put
abbrev pub entries_on : Channel → List MarkedCopy → List MemoryEntry
entries_on channel log = memory_entries (copies_on channel log)

pub kept-append : (front back : List TaggedCopy)
    → memory_entries (front ++ back) ≡ memory_entries front ++ memory_entries back
unfolding memory_entries
kept-append front back =
    ap (map entry_of) (filter-append is_memorable front back)
    ∙ map-append entry_of (filter is_memorable front) (filter is_memorable back)

pub entries-append : (channel : Channel) (front back : List MarkedCopy)
    → entries_on channel (front ++ back) ≡ entries_on channel front ++ entries_on channel back
entries-append channel front back =
    ap memory_entries (copies_on-append channel front back)
    ∙ kept-append (copies_on channel front) (copies_on channel back)

pub known-is : (moment : ℕ) (log : List MarkedCopy) (channel : Channel)
    → (saved_of (all_saved_at moment log) channel).entries
    ≡ remembered_at moment (remembered_on channel log)
known-is moment log Zero = refl
known-is moment log One = refl
known-is moment log Two = refl

-- ---- a watch

-- no clock of a chain is 66 hours behind
pub near-now : (channel : Channel) (log : List MarkedCopy) (watch : Watch) (watches : List Watch)
    → ClocksAreNear channel log (watch ∷ watches)
    → newest_moment (remembered_on channel log) < watch.moment + seconds_known
near-now channel log watch watches near = omega (arith, near.0)

-- with what a watch starts on a channel
pub start-is : (channel : Channel) (log : List MarkedCopy) (watch : Watch) → GoesOn log watch
    → watch.starts.entries channel ≡ remembered_at watch.moment (remembered_on channel log)
start-is channel log watch goes =
    ap (λ (s : Starts). s.entries channel) goes.puts.begins ∙ known-is watch.moment log channel

-- no entry of these is later than the moment at which it starts
pub newest-start : (channel : Channel) (log : List MarkedCopy) (watch : Watch) → GoesOn log watch
    → newest_moment (watch.starts.entries channel) ≤ watch.starts.moment
newest-start channel log watch goes =
    subst (λ (s : Starts). newest_moment (s.entries channel) ≤ s.moment) (sym goes.puts.begins)
    (newest-before (all_saved_at watch.moment log) channel)

-- and no copy that it judged has a moment before that, or before that of one in front of it
pub watch-climbs : (channel : Channel) (log : List MarkedCopy) (watch : Watch) → GoesOn log watch
    → Climbs watch.starts.moment (copies_in channel watch)
watch-climbs channel log watch goes =
    let j = goes.judges channel in
    let first = first_setting (start_in channel watch) in
    let events = events_in channel watch in
    within-climb first events (watch.judged channel)
    (lines-rise channel watch.starts.moment (lines_of watch)
    (acting-act (moments_at watch.moment watch.starts) goes.puts.said (lines_of watch)
    goes.puts.acted))
    (front-within events (watch.judged channel) (watch.found channel) j.begins
    (found-within watch.ending events (watch.found channel) j.found))

module _ (channel : Channel) (log : List MarkedCopy) (watch : Watch) (goes : GoesOn log watch)
    (content : IsContent (remembered_on channel log))
    (near : newest_moment (remembered_on channel log) < watch.moment + seconds_known) where
  abbrev entries : List MemoryEntry
  entries = entries_on channel log

  abbrev copies : List TaggedCopy
  copies = copies_in channel watch

  -- all that the log remembers is known at the start
  pub starts-with : watch.starts.entries channel ≡ remembered_on channel log
  starts-with =
      start-is channel log watch goes
      ∙ all-remembered watch.moment (remembered_on channel log) content.in_turn near

  -- what it puts is what is printed after all entries of the log
  pub puts-on : copies_on channel watch.put ≡ printed_copies entries copies
  puts-on =
      (goes.judges channel).put
      ∙ ap (λ es. printed_copies es copies) starts-with
      ∙ sym (same_log entries (remembered_on channel log) copies (last_agrees entries))

  -- and it makes the entries that are made after these
  pub enters-on : entries_on channel (log ++ watch.put) ≡ entries_after entries copies
  enters-on =
      entries-append channel log watch.put
      ∙ ap (λ made. entries ++ made)
      (ap memory_entries puts-on ∙ sym (made_is_kept entries copies))

  pub low : newest_moment (remembered_on channel log) ≤ watch.starts.moment
  low = subst (λ es. newest_moment es ≤ watch.starts.moment) starts-with
      (newest-start channel log watch goes)

  pub content-next : IsContent (remembered_on channel (log ++ watch.put))
  content-next =
      subst (λ es. IsContent (last_of most_entries es)) (sym enters-on)
      (content-after entries watch.starts.moment copies
      (record { content = content; newest = low }) (watch-climbs channel log watch goes))

pub content-chain : (log : List MarkedCopy) (watches : List Watch) (channel : Channel)
    → IsContent (remembered_on channel log) → IsChain log watches
    → ClocksAreNear channel log watches
    → IsContent (remembered_on channel (log ++ all_put watches))
content-chain log [] channel content chain near =
    subst (λ those. IsContent (remembered_on channel those)) (sym (append-nil log)) content
content-chain log (watch ∷ watches) channel content chain near =
    subst (λ those. IsContent (remembered_on channel those))
    (append_assoc log watch.put (all_put watches))
    (content-chain (log ++ watch.put) watches channel
    (content-next channel log watch chain.0 content (near-now channel log watch watches near))
    chain.1 near.1)

pub remembers-chain : (log : List MarkedCopy) (before after : List Watch) (watch : Watch)
    (channel : Channel) → IsContent (remembered_on channel log)
    → IsChain log (before ++ watch ∷ after) → ClocksAreNear channel log (before ++ watch ∷ after)
    → watch.starts.entries channel ≡ remembered_on channel (log ++ all_put before)
remembers-chain log [] after watch channel content chain near =
    starts-with channel log watch chain.0 content (near-now channel log watch after near)
    ∙ ap (remembered_on channel) (sym (append-nil log))
remembers-chain log (one ∷ before) after watch channel content chain near =
    remembers-chain (log ++ one.put) before after watch channel
    (content-next channel log one chain.0 content
    (near-now channel log one (before ++ watch ∷ after) near)) chain.1 near.1
    ∙ ap (remembered_on channel) (append_assoc log one.put (all_put before))

prints-after : (log : List MarkedCopy) (watches : List Watch) (channel : Channel)
    → IsContent (remembered_on channel log) → IsChain log watches
    → ClocksAreNear channel log watches
    → copies_on channel (all_put watches)
    ≡ printed_copies (entries_on channel log) (all_copies channel watches)
unfolding printed_copies
prints-after log [] channel content chain near = refl
prints-after log (watch ∷ watches) channel content chain near =
    let entries = entries_on channel log in
    let copies = copies_in channel watch in
    let soon = near-now channel log watch watches near in
    copies_on-append channel watch.put (all_put watches)
    ∙ ap (λ l. l ++ copies_on channel (all_put watches))
    (puts-on channel log watch chain.0 content soon)
    ∙ ap (λ l. printed_copies entries copies ++ l)
    (prints-after (log ++ watch.put) watches channel
    (content-next channel log watch chain.0 content soon) chain.1 near.1
    ∙ ap (λ es. printed_copies es (all_copies channel watches))
    (enters-on channel log watch chain.0 content soon))
    ∙ sym (printed_copies-append entries copies (all_copies channel watches))

pub prints-chain : (log : List MarkedCopy) (watches : List Watch) (channel : Channel)
    → IsContent (remembered_on channel log) → IsChain log watches
    → ClocksAreNear channel log watches
    → copies_on channel (all_put watches)
    ≡ printed_copies (remembered_on channel log) (all_copies channel watches)
prints-chain log watches channel content chain near =
    prints-after log watches channel content chain near
    ∙ same_log (entries_on channel log) (remembered_on channel log) (all_copies channel watches)
    (last_agrees (entries_on channel log))

-- an empty log remembers nothing
none-on : (channel : Channel) → entries_on channel [] ≡ []
unfolding memory_entries
none-on channel = refl

pub none-remembered : (channel : Channel) → remembered_on channel [] ≡ []
none-remembered channel = ap (last_of most_entries) (none-on channel)

pub empty-content : (channel : Channel) → IsContent (remembered_on channel [])
empty-content channel = subst IsContent (sym (none-remembered channel)) content-nil
