-- Runs of a watch over one log are a chain of watches.
use Rattle.std.proofs.Common.{◌≡◌, ◌⊎◌, inl, inr, ℕ, List, [], ◌∷◌, ◌++◌, Option, Some, None, Result}
use Rattle.std.proofs.Common.{Ok, Err, refl, sym, ◌∙◌, subst, append-nil, append_assoc}
use Rattle.std.specs.List.{Contains}
use Rattle.clap.specs.Words.{Text}
use Rattle.nx_disk.specs.Fresh.{IsFresh}
use Rattle.nx_disk.specs.declared.file.FileFault.{FileFault}
use Rattle.nx_fec.specs.Transfers.{CountedDevice, Devices}
use Rattle.nx_kept.specs.declared.disk.DiskFile.{Ghosts as TellsOfDisk}
use Rattle.nx_combine.specs.CombinedPrinting.{combined}
use Rattle.nx_left_on.specs.Call.{IsOfCallBy, TellsAllKept}
use Rattle.nx_left_on.specs.Chain.{IsChain, IsChainBy, Watch, all_put}
use Rattle.nx_left_on.proofs.lemmas.chains.Once.{put-once}
use Rattle.nx_left_on.proofs.lemmas.chains.Stood.{GoesSo, answer-left, answer-over, answer-some}
use Rattle.nx_left_on.proofs.lemmas.chains.Stood.{goes-alone, goes-together}
use Rattle.nx_left_on.proofs.lemmas.combined.Chains.{chain-whole}
use Rattle.nx_copies.specs.copies.Shares.{MarkedCopy}
use Rattle.nx_watch.specs.Stamp.{Stamp}
use Rattle.nx_watch.specs.ToldFirst.{TellsBeforeChange}
use Rattle.nx_watch.specs.Watch.{AnswersWatchBy, StandsForEntries}
use Rattle.nx_watch.specs.declared.watch_report.WatchReport.{WatchReport}
use Rattle.nx_watch.specs.declared.watch_fault.WatchFault.{WatchFault}
use Rattle.nx_program.specs.Arguments.{Names}
use Rattle.nx_program.specs.Report.{Answers}
use Rattle.nx_program.specs.WatchCommand.{Beside, WatchesFile, WatchesLog, devices_of, watch_outcome}
use Rattle.nx_program.specs.WatchCommand.{printing_of, with_faults}
use Rattle.nx_program.specs.declared.arguments.Call.TheVariants.{Watch as WatchCall}
use Rattle.nx_program.specs.declared.arguments.Sendings.{Sendings}
use Rattle.nx_program.specs.declared.arguments.Sendings.TheVariants.{Alone, Together}
use Rattle.nx_program.specs.declared.fault.Fault.{Fault}
use Rattle.nx_program.proofs.lemmas.arguments.Arguments.{named_once}
use Rattle.nx_program.specs.WatchRuns.{AreOfOneLog, AreWatchesOf, ComesBehind, CouldLeave, FollowOn}
use Rattle.nx_program.specs.WatchRuns.{GoesOnTaking, HasKeptAll, IsLeftOver, KeepsOnce, KeepsWhole}
use Rattle.nx_program.specs.WatchRuns.{Leaves, OpensFresh, RunEnd}
use Rattle.nx_program.specs.WatchRuns.{StandsAlike, WasRun, WatchRun, beside_of, call_end}
use Rattle.nx_program.specs.WatchRuns.{cut_at_any_moment, cut_behind, kept_all, left_last}
use Rattle.nx_program.specs.WatchRuns.{streams_of}

-- nothing at all stands for no entries
pub empty-stands : StandsForEntries [] []
empty-stands = record {
  texts = [];
  each = tt;
  stands = record { front = []; tail = []; kept = refl; end = tt; split = refl };
}

some-same : {A : Type 0} (one other : A) → Some one ≡ Some other → one ≡ other
some-same one other e = cc

none-some : {A : Type 0} (option : Option A) (one : A) → option ≡ None → option ≡ Some one → ⊥
none-some option one n s = let odd : Some one ≡ None = sym s ∙ n in cc

-- arguments that name a watch, of which a file is handed back, are a run of it
pub hands-back : {R W F D E : Type 0} (arguments : List Text) (d : Devices R W)
    (b : Beside F D W E) (reported : CountedDevice E) (sendings : Sendings) (name : Text)
    (moment : ℕ) (disk : D) (status : ℕ) → Names arguments (WatchCall sendings name moment)
    → b.disk_after ≡ Some disk
    → Answers arguments d (with_faults b reported) status
    → (behind : CountedDevice E) × (outcome : Result (Unit {0}) Fault)
    × WatchesLog d (with_faults b behind) sendings name moment outcome
hands-back arguments d b reported sendings name moment disk status named back answers =
    elim answers.ends [
      | inl runs ↦
          let call = named_once arguments (WatchCall runs.sendings runs.name runs.moment)
          (WatchCall sendings name moment) runs.named named in
          let taken : runs.sendings ≡ sendings = cc in
          let names : runs.name ≡ name = cc in
          let moments : runs.moment ≡ moment = cc in
          let b_after = with_faults b answers.behind_call in (
            answers.behind_call,
            answers.outcome,
            subst (λ (m : ℕ). WatchesLog d b_after sendings name m answers.outcome) moments
                (subst (λ (n : Text). WatchesLog d b_after sendings n runs.moment answers.outcome)
                names
                (subst (λ (s : Sendings).
                WatchesLog d b_after s runs.name runs.moment answers.outcome) taken runs.watched)),
          )
      | inr (inl runs) ↦ absurd (none-some b.disk_after disk runs.read.0.unopened back)
      | inr (inr ends) ↦ absurd (none-some b.disk_after disk ends.0.unopened back)
    ]

-- what is cut of the file that is handed back had been told before that was changed
pub cut-told-first : {R W F D E : Type 0} (d : Devices R W) (b : Beside F D W E)
    (sendings : Sendings) (name : Text) (moment : ℕ) (disk : D)
    (outcome : Result (Unit {0}) Fault) (start : List ℕ)
    → WatchesLog d b sendings name moment outcome → b.disk_after ≡ Some disk
    → b.tells.explains start disk
    → (opened : D) × b.gives b.files name (Ok opened)
    × TellsBeforeChange b.tells b.contents opened b.faults [] b.cuts start disk
cut-told-first d b sendings name moment disk outcome start (Err why, given, rest) back explained =
    absurd (none-some b.disk_after disk rest.2.unopened back)
cut-told-first d b sendings name moment disk outcome start (Ok opened, given, rest) back explained =
    let same : rest.0 ≡ disk = some-same rest.0 disk (sym rest.1 ∙ back) in (
      opened,
      given,
      subst (TellsBeforeChange b.tells b.contents opened b.faults [] b.cuts start) same
          (rest.3.told_first start (subst (b.tells.explains start) (sym same) explained)),
    )

-- ---- watches that take the sendings of a message so

goes-taking : (sendings : Sendings) → GoesSo (printing_of sendings) (GoesOnTaking sendings)
goes-taking Alone = goes-alone
goes-taking Together = goes-together

abbrev IsChainTaking : Sendings → List MarkedCopy → List Watch → Type 0
IsChainTaking Alone = IsChain
IsChainTaking Together = IsChainBy combined

chain-none : (sendings : Sendings) (log : List MarkedCopy) → IsChainTaking sendings log []
chain-none Alone log = tt
chain-none Together log = tt

chain-more : (sendings : Sendings) (log : List MarkedCopy) (watch : Watch) (watches : List Watch)
    → GoesOnTaking sendings log watch → IsChainTaking sendings (log ++ watch.put) watches
    → IsChainTaking sendings log (watch ∷ watches)
chain-more Alone log watch watches goes chain = (goes, chain)
chain-more Together log watch watches goes chain = (goes, chain)

put-stands : (sendings : Sendings) (log : List MarkedCopy) (watch : Watch)
    → GoesOnTaking sendings log watch → StandsForEntries (log ++ watch.put) watch.file
put-stands Alone log watch goes = goes.puts.stands
put-stands Together log watch goes = goes.stands

module _ {F D R W E : Type 0} (gives : F → List ℕ → Result D FileFault → Type 0)
    (tells : TellsOfDisk D) (remaining : R → Option (List ℕ)) (contents : W → Option (List ℕ))
    (told : E → Option (List ℕ)) (fresh : OpensFresh gives tells) (sendings : Sendings) where
  abbrev Run : Type 0
  Run = WatchRun F D R W E

  -- a run that ended so leaves a watch behind these entries, which left this file; or it was cut
  -- off at any moment, and this file could be left before
  abbrev LeavesSo : (List ℕ → Type 0) → List MarkedCopy → (run : Run)
      → RunEnd (Stamp D (CountedDevice W) (CountedDevice E)) → List ℕ → Type 0
  LeavesSo Could log run end file =
      ((watch : Watch) × IsOfCallBy (GoesOnTaking sendings)
      (streams_of gives tells remaining contents told run) run.moment log (call_end end) file watch)
      ⊎ ((end ≡ cut_at_any_moment) × (Could file ⊎ StandsAlike run.found file))

  -- what the program tells as all kept, the watch answered so
  tells-kept : (run : Run) (name : Text) (answer : Result WatchReport WatchFault)
      → HasKeptAll (watch_outcome name answer)
      → TellsAllKept answer
  tells-kept run name (Ok report) h = tt
  tells-kept run name (Err why) h = h

  -- the file was opened, and watched
  module _ (run : Run) (log : List MarkedCopy) (disk disk_after : D)
      (answer : Result WatchReport WatchFault)
      (file : WatchesFile (streams_of gives tells remaining contents told run)
      (beside_of gives tells remaining contents told run) sendings run.moment disk disk_after
      answer)
      (told_so : run.outcome ≡ watch_outcome run.name answer)
      (given : gives run.files run.name (Ok disk))
      (explained : tells.explains run.found disk_after)
      (stands : StandsForEntries log run.found) where
    answered-so : AnswersWatchBy (devices_of (streams_of gives tells remaining contents told run)
        (beside_of gives tells remaining contents told run) disk disk_after run.found)
        (printing_of sendings) run.moment log answer
    answered-so =
        file.watched run.found log explained
        (subst (StandsForEntries log)
        (sym ((fresh run.files run.name disk given).1.seen run.found)) stands)

    file-leaves : (Could : List ℕ → Type 0) (file : List ℕ)
        (end : RunEnd (Stamp D (CountedDevice W) (CountedDevice E)))
        → ComesBehind gives tells remaining contents told Could run end
        → Leaves gives tells remaining contents told run disk_after end file
        → LeavesSo Could log run end file
    file-leaves Could file kept_all begins h =
        inl (answer-over (goes-taking sendings)
        (devices_of (streams_of gives tells remaining contents told run)
        (beside_of gives tells remaining contents told run) disk disk_after run.found) run.moment
        log file h.1 answer answered-so
        (tells-kept run run.name answer (subst HasKeptAll told_so h.0)))
    file-leaves Could file (cut_behind at) begins h =
        inl (answer-left (goes-taking sendings)
        (devices_of (streams_of gives tells remaining contents told run)
        (beside_of gives tells remaining contents told run) disk disk_after run.found) run.moment
        log at file h.0
        (h.1 ∙ sym ((fresh run.files run.name disk given).1.no_faults)) h.2 answer answered-so)
    file-leaves Could file cut_at_any_moment begins h =
        elim (answer-some (goes-taking sendings)
        (devices_of (streams_of gives tells remaining contents told run)
        (beside_of gives tells remaining contents told run) disk disk_after run.found) run.moment
        log file (subst (λ t. tells.left_since run.found disk_after t file)
        (sym ((fresh run.files run.name disk given).1.no_moment)) h) answer answered-so) [
          | inl before ↦ inr (refl, begins disk file given before)
          | inr watch ↦ inl watch
        ]

  -- each run leaves a watch, or what could be left before it
  log-leaves : (Could : List ℕ → Type 0) (run : Run) (log : List MarkedCopy) (disk : D)
      (file : List ℕ)
      → WatchesLog (streams_of gives tells remaining contents told run)
      (beside_of gives tells remaining contents told run) sendings run.name run.moment run.outcome
      → run.disk_after ≡ Some disk → tells.explains run.found disk
      → ComesBehind gives tells remaining contents told Could run run.ended
      → Leaves gives tells remaining contents told run disk run.ended file
      → StandsForEntries log run.found → LeavesSo Could log run run.ended file
  log-leaves Could run log disk file (Err why, given, rest) back explained begins left stands =
      absurd (none-some run.disk_after disk rest.2.unopened back)
  log-leaves Could run log disk file (Ok opened, given, rest) back explained begins left stands =
      let same : rest.0 ≡ disk = some-same rest.0 disk (sym rest.1 ∙ back) in
      file-leaves run log opened rest.0 rest.2 rest.3 rest.4 given
      (subst (tells.explains run.found) (sym same) explained) stands Could file run.ended begins
      (subst (λ after. Leaves gives tells remaining contents told run after run.ended file)
      (sym same) left)

  run-leaves : (Could : List ℕ → Type 0) (run : Run) (log : List MarkedCopy) (file : List ℕ)
      → WasRun gives tells remaining contents told sendings run
      → ComesBehind gives tells remaining contents told Could run run.ended
      → CouldLeave gives tells remaining contents told run file → StandsForEntries log run.found
      → LeavesSo Could log run run.ended file
  run-leaves Could run log file was begins could stands =
      log-leaves Could run log could.0 file was.watched could.1
      (subst (tells.explains run.found)
      (some-same was.disk could.0 (sym was.handed_back ∙ could.1)) was.explained) begins could.2
      stands

  -- ---- the runs, one behind another

  -- what the runs keep behind these entries, where the last before them left this file
  record Kept (log : List MarkedCopy) (file : List ℕ) (runs : List Run) : Type 0 where
    watches : List Watch
    of_runs : AreWatchesOf gives tells remaining contents told sendings log runs watches
    chain : IsChainTaking sendings log watches
    stands : StandsForEntries (log ++ all_put watches) (left_last file runs)

  -- the entries for which a file stands
  abbrev Logged : List ℕ → Type 0
  Logged file = (log : List MarkedCopy) × StandsForEntries log file

  -- What was left before the runs is this file, or what they left in turn that were cut off at any
  -- moment. Behind its entries they keep what they keep.
  record KeptFrom (file : List ℕ) (Could : List ℕ → Type 0)
      (logged : (other : List ℕ) → Could other → Logged other) (runs : List Run)
      : Type 0 where
    from : List ℕ
    could : Could from
    left_over : IsLeftOver gives tells remaining contents told file runs from
    kept : Kept (logged from could).0 from runs

  -- the entries of what a run leaves
  logged-by : (Could : List ℕ → Type 0) (logged : (other : List ℕ) → Could other → Logged other)
      (run : Run) (log : List MarkedCopy) (file : List ℕ) → StandsForEntries log run.found
      → LeavesSo Could log run run.ended file → Logged file
  logged-by Could logged run log file stands (inl w) = (
    log ++ w.0.put,
    subst (StandsForEntries (log ++ w.0.put)) w.1.left
        (put-stands sendings log w.0 w.1.goes_on),
  )
  logged-by Could logged run log file stands (inr (cut, inl could)) = logged file could
  logged-by Could logged run log file stands (inr (cut, inr alike)) = (log, alike log stands)

  -- a run that was cut off at any moment may have no watch
  left-out : (log : List MarkedCopy) (run : Run) (runs : List Run) (watches : List Watch)
      → run.ended ≡ cut_at_any_moment
      → AreWatchesOf gives tells remaining contents told sendings log runs watches
      → AreWatchesOf gives tells remaining contents told sendings log (run ∷ runs) watches
  left-out log run runs [] cut are = (cut, are)
  left-out log run runs (watch ∷ watches) cut are = inr (cut, are)

  -- what the last run leaves is the same, whichever of these files was left before
  left-same : (left file : List ℕ) (runs : List Run)
      → IsLeftOver gives tells remaining contents told left runs file
      → left_last file runs ≡ left_last left runs
  left-same left file [] is = is
  left-same left file (run ∷ runs) over = refl

  module _ (file : List ℕ) (Could : List ℕ → Type 0)
      (logged : (other : List ℕ) → Could other → Logged other) (could : Could file) (run : Run)
      (runs : List Run) where
    abbrev log : List MarkedCopy
    log = (logged file could).0

    -- one run more
    join : (stands : StandsForEntries log run.found) (left : List ℕ)
        → CouldLeave gives tells remaining contents told run left
        → IsLeftOver gives tells remaining contents told run.left runs left
        → (l : LeavesSo Could log run run.ended left)
        → Kept (logged-by Could logged run log left stands l).0 left runs
        → KeptFrom file Could logged (run ∷ runs)
    unfolding logged-by
    join stands left can still (inl w) kept = record {
      from = file;
      could = could;
      left_over = inl refl;
      kept = record {
        watches = w.0 ∷ kept.watches;
        of_runs = inl (
          record { file = left; could = can; left_over = still; called = w.1 },
          kept.of_runs,
        );
        chain = chain-more sendings log w.0 kept.watches w.1.goes_on kept.chain;
        stands = subst (λ entries. StandsForEntries entries (left_last run.left runs))
            (append_assoc log w.0.put (all_put kept.watches))
            (subst (StandsForEntries ((log ++ w.0.put) ++ all_put kept.watches))
            (left-same run.left left runs still) kept.stands);
      };
    }
    join stands left can still (inr (cut, inl before)) kept = record {
      from = left;
      could = before;
      left_over = inr (cut, still);
      kept = record {
        watches = kept.watches;
        of_runs = left-out (logged left before).0 run runs kept.watches cut kept.of_runs;
        chain = kept.chain;
        stands = subst (StandsForEntries ((logged left before).0 ++ all_put kept.watches))
            (left-same run.left left runs still) kept.stands;
      };
    }
    join stands left can still (inr (cut, inr alike)) kept = record {
      from = file;
      could = could;
      left_over = inl refl;
      kept = record {
        watches = kept.watches;
        of_runs = left-out log run runs kept.watches cut kept.of_runs;
        chain = kept.chain;
        stands = subst (StandsForEntries (log ++ all_put kept.watches))
            (left-same run.left left runs still) kept.stands;
      };
    }

  keep-on : (file : List ℕ) (Could : List ℕ → Type 0)
      (logged : (other : List ℕ) → Could other → Logged other) (could : Could file)
      (runs : List Run) → FollowOn gives tells remaining contents told sendings file Could runs
      → KeptFrom file Could logged runs
  keep-on file Could logged could [] are = record {
    from = file;
    could = could;
    left_over = refl;
    kept = record {
      watches = [];
      of_runs = tt;
      chain = chain-none sendings (logged file could).0;
      stands = subst (λ entries. StandsForEntries entries file)
          (sym (append-nil (logged file could).0)) (logged file could).1;
    };
  }
  keep-on file Could logged could (run ∷ runs) are =
      let log = (logged file could).0 in
      let stands : StandsForEntries log run.found = are.0 log (logged file could).1 in
      let was = are.1 in
      let rest = keep-on run.left (CouldLeave gives tells remaining contents told run)
      (λ other can. logged-by Could logged run log other stands
      (run-leaves Could run log other was are.2 can stands))
      (was.disk, was.handed_back, was.has_left) runs are.3 in
      join file Could logged could run runs stands rest.from rest.could rest.left_over
      (run-leaves Could run log rest.from was are.2 rest.could stands) rest.kept

  runs-keep : (log : List MarkedCopy) (file : List ℕ) (runs : List Run)
      → StandsForEntries log file
      → AreOfOneLog gives tells remaining contents told sendings file runs → Kept log file runs
  runs-keep log file runs stands are =
      let kept = keep-on file (λ other. other ≡ file)
      (λ other is. (log, subst (StandsForEntries log) (sym is) stands)) refl runs are in
      let k = kept.kept in
      record {
        watches = k.watches;
        of_runs = k.of_runs;
        chain = k.chain;
        stands = subst (λ first. StandsForEntries (log ++ all_put k.watches)
            (left_last first runs)) kept.could k.stands;
      }

module _ {F D R W E : Type 0} (gives : F → List ℕ → Result D FileFault → Type 0)
    (tells : TellsOfDisk D) (remaining : R → Option (List ℕ)) (contents : W → Option (List ℕ))
    (told : E → Option (List ℕ)) (fresh : OpensFresh gives tells) (log : List MarkedCopy)
    (file : List ℕ) (runs : List (WatchRun F D R W E)) (stands : StandsForEntries log file) where
  pub runs-keep-once : AreOfOneLog gives tells remaining contents told Alone file runs
      → KeepsOnce gives tells remaining contents told log file runs
  runs-keep-once are =
      let k = runs-keep gives tells remaining contents told fresh Alone log file runs stands are in
      record {
        watches = k.watches;
        of_runs = k.of_runs;
        chain = k.chain;
        stands = k.stands;
        once = λ channel message clocks heard.
            put-once log k.watches channel message k.chain clocks heard;
      }

  pub runs-keep-whole : AreOfOneLog gives tells remaining contents told Together file runs
      → KeepsWhole gives tells remaining contents told log file runs
  runs-keep-whole are =
      let k = runs-keep gives tells remaining contents told fresh Together log file runs stands are
      in
      record {
        watches = k.watches;
        of_runs = k.of_runs;
        chain = k.chain;
        stands = k.stands;
        whole = λ before after watch is channel parts message numbers.
            chain-whole log before after watch
            (subst (IsChainBy combined log) is k.chain) channel parts message numbers;
      }

-- what is handed in could be left before, and so could what a run found
module _ {F D R W E : Type 0} (gives : F → List ℕ → Result D FileFault → Type 0)
    (tells : TellsOfDisk D) (remaining : R → Option (List ℕ)) (contents : W → Option (List ℕ))
    (told : E → Option (List ℕ)) (Could : List ℕ → Type 0) (run : WatchRun F D R W E)
    (first : List (List ℕ))
    (opens : (disk : D) → gives run.files run.name (Ok disk) → IsFresh tells first disk)
    (all : (file : List ℕ) → Contains first file → Could file ⊎ StandsAlike run.found file)
  where
    pub comes-behind : (end : RunEnd (Stamp D (CountedDevice W) (CountedDevice E)))
        → ComesBehind gives tells remaining contents told Could run end
    comes-behind kept_all = tt
    comes-behind (cut_behind at) = tt
    comes-behind cut_at_any_moment = λ disk file given left.
        elim (((opens disk given).leaves run.found file).0 left) [
          | inl is ↦ inr (subst (StandsAlike run.found) (sym is) (λ entries stands. stands))
          | inr there ↦ all file there
        ]
