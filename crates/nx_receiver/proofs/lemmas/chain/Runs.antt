-- What a chain of runs prints, and what it leaves.
use Rattle.std.proofs.Common.{◌≡◌, ℕ, ◌≤◌, List, [], ◌∷◌, ◌++◌, length, refl, sym, ap, ◌∙◌}
use Rattle.std.proofs.Common.{subst, append-nil}
use Rattle.std.specs.Io.KnownBytes.{Appends}
use Rattle.nx_code.specs.Lists.{last_of}
use Rattle.nx_memory.specs.Saved.{SavedState, SavedStates}
use Rattle.nx_memory.specs.Memory.{most_entries}
use Rattle.nx_memory.specs.Selection.{Refused}
use Rattle.nx_memory.specs.declared.memories.entry.MemoryEntry.{MemoryEntry}
use Rattle.nx_fec.specs.air_files.AirFile.{Line}
use Rattle.nx_fec.specs.air_files.Lines.{air_limit, IsAirFile}
use Rattle.nx_fec.specs.declared.air_files.channel.Channel.{Channel}
use Rattle.nx_fec.specs.declared.air_files.channel.Channel.TheVariants.{Zero, One, Two}
use Rattle.nx_fec.proofs.lemmas.lines.LineLaws.{IsAirFile-unique}
use Rattle.nx_sync.proofs.lemmas.states.StateChanges.{standing_after}
use Rattle.nx_fec.specs.Transfers.{Contents}
use Rattle.nx_receiver.specs.air_file_runs.Chain.{AgreeInLast, GoesOn, HasGoneOn, IsChain, Leaves}
use Rattle.nx_receiver.specs.air_file_runs.Chain.{Run, all_copies, all_events, all_logs, all_printed, copies_in}
use Rattle.nx_receiver.specs.air_file_runs.Chain.{events_in, files, start_in}
use Rattle.nx_copies.specs.Events.{Event, Setting, Start, at_moment, command, element}
use Rattle.nx_copies.specs.Events.{elements_among, first_setting, refused_after, setting_after}
use Rattle.nx_copies.specs.Events.{setting_after_all}
use Rattle.nx_copies.specs.copies.FoundCopies.{AreFoundIn, FoundCopy, found_to_end, tagged_copies}
use Rattle.nx_copies.specs.copies.InTurn.{PrintAllToEnd}
use Rattle.nx_receiver.specs.air_file_runs.Listen.{HasListened, IsLogOfFile, events_on, given_by}
use Rattle.nx_copies.specs.copies.Log.{IsLog, printed_of}
use Rattle.nx_copies.specs.copies.Printing.{entries_after, entries_made, printed_copies}
use Rattle.nx_copies.specs.copies.Shares.{MarkedCopy, Starts, copies_on, saved_of, start_on, starts_from}
use Rattle.nx_receiver.specs.declared.air_file_runs.listening.Report.{Report}
use Rattle.nx_copies.proofs.lemmas.channels.Shares.{copies_on-append, to_end-on}
use Rattle.nx_receiver.proofs.lemmas.chain.Printing.{all_of_few, few_of_last, last_agrees, same_end}
use Rattle.nx_receiver.proofs.lemmas.chain.Printing.{same_log}
use Rattle.nx_copies.proofs.lemmas.printing.Logged.{entries_after-append, printed_copies-append}
use Rattle.nx_copies.proofs.lemmas.locks.Found.{one_told}
use Rattle.nx_copies.proofs.lemmas.printing.Log.{logs_join, one_log}
use Rattle.nx_receiver.proofs.lemmas.receiver.Events.{force-append}
use Rattle.nx_copies.proofs.lemmas.channels.One.{one-to_end}

-- ---- one run

-- the copies that are found are the same
pub found_same : (events : List Event) (copies others : List FoundCopy) → AreFoundIn events copies
    → AreFoundIn events others → copies ≡ others
found_same events copies others f g =
    let bits = elements_among events in
    f.whole
    ∙ one_told (found_to_end bits) bits f.locks g.locks f.now g.now f.stands g.stands
    ∙ sym g.whole

-- on each channel a run prints what is printed of its copies, after the entries that it starts with
run_prints : (channel : Channel) (saved : SavedStates) (run : Run) (left : SavedStates)
    → GoesOn saved run left
    → copies_on channel run.printed
    ≡ printed_copies (saved_of saved channel).entries (copies_in channel run)
run_prints channel saved run left g =
    let events = events_in channel run in
    let p = to_end-on run.starts (given_by run.lines) run.printed channel g.heard.printed in
    let all = found_to_end (elements_among events) p.locks p.now in
    let found : AreFoundIn events all =
    record { locks = p.locks; now = p.now; stands = p.stands; whole = refl } in
    p.printed
    ∙ ap (printed_of (start_in channel run) events)
    (found_same events all (run.found channel) found (g.found channel))
    ∙ ap (λ (s : Starts). printed_copies (s.entries channel) (copies_in channel run)) g.begins

-- and leaves the last 200 of all entries made of them
run_leaves : (channel : Channel) (saved : SavedStates) (run : Run) (left : SavedStates)
    → GoesOn saved run left
    → (saved_of left channel).entries
    ≡ last_of most_entries
    (entries_after (saved_of saved channel).entries (copies_in channel run))
run_leaves channel saved run left g =
    let l = g.leaves channel in
    let start = start_in channel run in
    let events = events_in channel run in
    l.entries
    ∙ ap (λ cs. last_of most_entries
    (entries_after start.entries (tagged_copies (first_setting start) events cs)))
    (found_same events l.copies (run.found channel) l.found (g.found channel))
    ∙ ap (λ (s : Starts). last_of most_entries
    (entries_after (s.entries channel) (copies_in channel run))) g.begins

-- ---- what is printed

-- entries that agree in the last before a run agree in the last after it
agree_after : (channel : Channel) (entries : List MemoryEntry) (first : SavedStates) (run : Run)
    (left : SavedStates) → AgreeInLast entries (saved_of first channel).entries
    → GoesOn first run left
    → AgreeInLast (entries_after entries (copies_in channel run)) (saved_of left channel).entries
agree_after channel entries first run left agree goes =
    let begun = (saved_of first channel).entries in
    same_end entries begun (copies_in channel run) agree
    ∙ last_agrees (entries_after begun (copies_in channel run))
    ∙ ap (last_of most_entries) (sym (run_leaves channel first run left goes))

pub chain_prints : (channel : Channel) (entries : List MemoryEntry) (first : SavedStates)
    (runs : List Run) (last : SavedStates) → AgreeInLast entries (saved_of first channel).entries
    → IsChain first runs last
    → copies_on channel (all_printed runs) ≡ printed_copies entries (all_copies channel runs)
unfolding printed_copies
chain_prints channel entries first [] last agree chain = refl
chain_prints channel entries first (run ∷ runs) last agree chain =
    let left = chain.0 in
    let goes = chain.1 in
    let copies = copies_in channel run in
    let begun = (saved_of first channel).entries in
    let next = agree_after channel entries first run left agree goes in
    copies_on-append channel run.printed (all_printed runs)
    ∙ ap (λ ps. ps ++ copies_on channel (all_printed runs))
    (run_prints channel first run left goes ∙ sym (same_log entries begun copies agree))
    ∙ ap (λ ps. printed_copies entries copies ++ ps)
    (chain_prints channel (entries_after entries copies) left runs last next chain.2)
    ∙ sym (printed_copies-append entries copies (all_copies channel runs))

-- the logs are the log of all that is printed
pub chain_logs : (first : SavedStates) (runs : List Run) (last : SavedStates)
    → IsChain first runs last → IsLog (all_printed runs) (all_logs runs)
chain_logs first [] last chain = record { entries = []; each = tt; joined = refl }
chain_logs first (run ∷ runs) last chain =
    logs_join run.printed (all_printed runs) run.log (all_logs runs) chain.1.heard.spelled
    (chain_logs chain.0 runs last chain.2)

-- ---- what is left

chain_agrees : (channel : Channel) (entries : List MemoryEntry) (first : SavedStates)
    (runs : List Run) (last : SavedStates) → AgreeInLast entries (saved_of first channel).entries
    → IsChain first runs last
    → AgreeInLast (entries_after entries (all_copies channel runs)) (saved_of last channel).entries
unfolding entries_made
chain_agrees channel entries first [] last agree chain =
    ap (last_of most_entries) (append-nil entries) ∙ agree
    ∙ ap (λ (k : SavedStates). last_of most_entries (saved_of k channel).entries) (sym chain)
chain_agrees channel entries first (run ∷ runs) last agree chain =
    let left = chain.0 in
    let goes = chain.1 in
    let copies = copies_in channel run in
    let next = agree_after channel entries first run left agree goes in
    ap (last_of most_entries) (entries_after-append entries copies (all_copies channel runs))
    ∙ chain_agrees channel (entries_after entries copies) left runs last next chain.2

chain_few : (channel : Channel) (first : SavedStates) (runs : List Run) (last : SavedStates)
    → length (saved_of first channel).entries ≤ most_entries → IsChain first runs last
    → length (saved_of last channel).entries ≤ most_entries
chain_few channel first [] last few chain =
    subst (λ (k : SavedStates). length (saved_of k channel).entries ≤ most_entries) (sym chain) few
chain_few channel first (run ∷ runs) last few chain =
    let made = entries_after (saved_of first channel).entries (copies_in channel run) in
    chain_few channel chain.0 runs last
    (subst (λ (es : List MemoryEntry). length es ≤ most_entries)
    (sym (run_leaves channel first run chain.0 chain.1)) (few_of_last made)) chain.2

pub chain_leaves : (channel : Channel) (first : SavedStates) (runs : List Run) (last : SavedStates)
    → length (saved_of first channel).entries ≤ most_entries → IsChain first runs last
    → (saved_of last channel).entries
    ≡ last_of most_entries
    (entries_after (saved_of first channel).entries (all_copies channel runs))
chain_leaves channel first runs last few chain =
    sym (all_of_few (saved_of last channel).entries (chain_few channel first runs last few chain))
    ∙ sym (chain_agrees channel (saved_of first channel).entries first runs last refl chain)

-- ---- what is refused

-- a moment that is in force at first makes no difference to what is refused at the end
refused_one : (s t : Setting) (event : Event) → s.refused ≡ t.refused
    → (setting_after s event).refused ≡ (setting_after t event).refused
refused_one s t (at_moment n) e = e
refused_one s t (element bit) e = e
refused_one s t (command c) e = ap (λ r. refused_after r c) e

refused_all : (s t : Setting) (events : List Event) → s.refused ≡ t.refused
    → (setting_after_all s events).refused ≡ (setting_after_all t events).refused
unfolding setting_after_all
refused_all s t [] e = e
refused_all s t (event ∷ events) e =
    refused_all (setting_after s event) (setting_after t event) events (refused_one s t event e)

chain_refuses_from : (channel : Channel) (now : Setting) (first : SavedStates) (runs : List Run)
    (last : SavedStates) → now.refused ≡ (saved_of first channel).refused → IsChain first runs last
    → (saved_of last channel).refused
    ≡ (setting_after_all now (all_events channel runs)).refused
unfolding setting_after_all
chain_refuses_from channel now first [] last same chain =
    ap (λ (k : SavedStates). (saved_of k channel).refused) chain ∙ sym same
chain_refuses_from channel now first (run ∷ runs) last same chain =
    let left = chain.0 in
    let goes = chain.1 in
    let start = start_in channel run in
    let events = events_in channel run in
    let begun : now.refused ≡ (first_setting start).refused =
    same ∙ ap (λ (s : Starts). s.refused channel) (sym goes.begins) in
    let next : (setting_after_all now events).refused ≡ (saved_of left channel).refused =
    refused_all now (first_setting start) events begun ∙ sym (goes.leaves channel).refused in
    chain_refuses_from channel (setting_after_all now events) left runs last next chain.2
    ∙ ap (λ (s : Setting). s.refused) (sym (force-append now events (all_events channel runs)))

pub chain_refuses : (channel : Channel) (first : SavedStates) (runs : List Run) (last : SavedStates)
    → IsChain first runs last
    → (saved_of last channel).refused
    ≡ (setting_after_all (first_setting (start_on (starts_from first) channel))
    (all_events channel runs)).refused
chain_refuses channel first runs last chain =
    chain_refuses_from channel (first_setting (start_on (starts_from first) channel)) first runs
    last refl chain

-- ---- what a run leaves is one, and what a chain logs is told by its files

pub some_left : (start : Start) (events : List Event)
    → (left : SavedState) × Leaves start events left
some_left start events =
    let bits = elements_among events in
    let s = standing_after bits in
    let found = found_to_end bits s.locks s.now in (
      record {
        entries = last_of most_entries
            (entries_after start.entries (tagged_copies (first_setting start) events found));
        refused = (setting_after_all (first_setting start) events).refused;
      },
      record {
        copies = found;
        found = record { locks = s.locks; now = s.now; stands = s.stands; whole = refl };
        entries = refl;
        refused = refl;
      },
    )

pub one_left : (start : Start) (events : List Event) (left other : SavedState)
    → Leaves start events left → Leaves start events other → left ≡ other
one_left start events left other l m =
    let entries : left.entries ≡ other.entries =
    l.entries
    ∙ ap (λ cs. last_of most_entries
    (entries_after start.entries (tagged_copies (first_setting start) events cs)))
    (found_same events l.copies m.copies l.found m.found)
    ∙ sym m.entries in
    let refused : left.refused ≡ other.refused = l.refused ∙ sym m.refused in
    ap (λ (es : List MemoryEntry). record { entries = es; refused = left.refused }) entries
    ∙ ap (λ (r : Refused). record { entries = other.entries; refused = r }) refused

pub few_left : (start : Start) (events : List Event) (left : SavedState) → Leaves start events left
    → length left.entries ≤ most_entries
few_left start events left l =
    subst (λ (es : List MemoryEntry). length es ≤ most_entries) (sym l.entries)
    (few_of_last (entries_after start.entries
    (tagged_copies (first_setting start) events l.copies)))

-- what is left of each channel, after lines
abbrev pub LeavesEach : Starts → List Line → SavedStates → Type 0
LeavesEach starts lines left =
    (channel : Channel)
    → Leaves (start_on starts channel) (events_on channel lines) (saved_of left channel)

some_left_of_each : (starts : Starts) (lines : List Line)
    → (left : SavedStates) × LeavesEach starts lines left
some_left_of_each starts lines =
    (record { on_0 = (some Zero).0; on_1 = (some One).0; on_2 = (some Two).0 }, each)
  where
    some : (channel : Channel)
        → (left : SavedState)
        × Leaves (start_on starts channel) (events_on channel lines) left
    some channel = some_left (start_on starts channel) (events_on channel lines)

    each : LeavesEach starts lines
        (record { on_0 = (some Zero).0; on_1 = (some One).0; on_2 = (some Two).0 })
    each Zero = (some Zero).1
    each One = (some One).1
    each Two = (some Two).1

-- where they are the same of each channel, they are the same
same_of_each : (left other : SavedStates)
    → ((channel : Channel) → saved_of left channel ≡ saved_of other channel) → left ≡ other
same_of_each left other h =
    ap (λ (s : SavedState). record { on_0 = s; on_1 = left.on_1; on_2 = left.on_2 }) (h Zero)
    ∙ ap (λ (s : SavedState). record { on_0 = other.on_0; on_1 = s; on_2 = left.on_2 }) (h One)
    ∙ ap (λ (s : SavedState). record { on_0 = other.on_0; on_1 = other.on_1; on_2 = s }) (h Two)

-- two runs of one file, after the same
record IsSameRun (run other : Run) (left next : SavedStates) : Type 0 where
  log : run.log ≡ other.log
  left_same : left ≡ next

same_run : (saved : SavedStates) (run other : Run) (left next : SavedStates)
    → run.file ≡ other.file
    → GoesOn saved run left → GoesOn saved other next → IsSameRun run other left next
same_run saved run other left next file g h =
    let starts : run.starts ≡ other.starts = g.begins ∙ sym h.begins in
    let lines : run.lines ≡ other.lines =
    IsAirFile-unique air_limit other.file run.lines other.lines
    (subst (λ (bytes : List ℕ). IsAirFile air_limit bytes run.lines) file g.heard.file)
    h.heard.file in
    let mine : PrintAllToEnd other.starts (given_by other.lines) run.printed =
    subst (λ (ls : List Line). PrintAllToEnd other.starts (given_by ls) run.printed) lines
    (subst (λ (s : Starts). PrintAllToEnd s (given_by run.lines) run.printed) starts
    g.heard.printed) in
    let printed : run.printed ≡ other.printed =
    one-to_end other.starts (given_by other.lines) run.printed other.printed mine
    h.heard.printed in
    let leaves : (channel : Channel)
    → Leaves (start_in channel other) (events_in channel other) (saved_of left channel) =
    λ channel. subst (λ (ls : List Line). Leaves (start_in channel other) (events_on channel ls)
    (saved_of left channel)) lines
    (subst (λ (s : Starts). Leaves (start_on s channel) (events_in channel run)
    (saved_of left channel)) starts (g.leaves channel)) in
    record {
      log = one_log other.printed run.log other.log
          (subst (λ (ps : List MarkedCopy). IsLog ps run.log) printed g.heard.spelled)
          h.heard.spelled;
      left_same = same_of_each left next (λ channel.
          one_left (start_in channel other) (events_in channel other) (saved_of left channel)
          (saved_of next channel) (leaves channel) (h.leaves channel));
    }

pub files_decide : (first : SavedStates) (runs : List Run) (last : SavedStates) (others : List Run)
    (end : SavedStates) → files runs ≡ files others → IsChain first runs last
    → IsChain first others end → (all_logs runs ≡ all_logs others) × (last ≡ end)
files_decide first [] last [] end e c d = (refl, c ∙ sym d)
files_decide first [] last (other ∷ others) end e c d = cc
files_decide first (run ∷ runs) last [] end e c d = cc
files_decide first (run ∷ runs) last (other ∷ others) end e c d =
    let file : run.file ≡ other.file = cc in
    let rest : files runs ≡ files others = cc in
    let s = same_run first run other c.0 d.0 file c.1 d.1 in
    let t = files_decide c.0 runs last others end rest c.2
    (subst (λ (k : SavedStates). IsChain k others end) (sym s.left_same) d.2) in
    (ap (λ l. l ++ all_logs runs) s.log ∙ ap (λ l. other.log ++ l) t.0, t.1)

-- a chain and then another are one
pub chains_join : (first : SavedStates) (runs more : List Run) (saved last : SavedStates)
    → IsChain first runs saved → IsChain saved more last → IsChain first (runs ++ more) last
chains_join first [] more saved last c d = subst (λ (k : SavedStates). IsChain k more last) c d
chains_join first (run ∷ runs) more saved last c d =
    (c.0, c.1, chains_join c.0 runs more saved last c.2 d)

-- a run of a file goes on
pub goes_on : (saved left : SavedStates) (file : List ℕ) (lines : List Line)
    (printed : List MarkedCopy) (log : List ℕ)
    → IsLogOfFile (starts_from saved) file lines printed log
    → LeavesEach (starts_from saved) lines left
    → (run : Run) × (run.file ≡ file) × (run.log ≡ log) × GoesOn saved run left
goes_on saved left file lines printed log h l = (
  record {
    starts = starts_from saved;
    file = file;
    lines = lines;
    found = λ channel. (l channel).copies;
    printed = printed;
    log = log;
  },
  refl,
  refl,
  record { begins = refl; heard = h; found = λ channel. (l channel).found; leaves = l },
)

-- a run that listened to it has gone on, whatever it leaves
pub gone_on : (saved left : SavedStates) (contents : Contents) (file : List ℕ)
    (report : Report) → (h : HasListened (starts_from saved) contents file report)
    → LeavesEach (starts_from saved) h.lines left → HasGoneOn saved contents file left
gone_on saved left contents file report h l =
    let g = goes_on saved left file h.lines h.copies h.log h.heard l in
    record {
      run = g.0;
      read = g.1;
      written = subst (Appends contents.before contents.after) (sym g.2) h.written;
      goes = g.3;
    }

pub some_gone_on : (saved : SavedStates) (contents : Contents) (file : List ℕ)
    (report : Report) → HasListened (starts_from saved) contents file report
    → (left : SavedStates) × HasGoneOn saved contents file left
some_gone_on saved contents file report h =
    let l = some_left_of_each (starts_from saved) h.lines in
    (l.0, gone_on saved l.0 contents file report h l.1)
