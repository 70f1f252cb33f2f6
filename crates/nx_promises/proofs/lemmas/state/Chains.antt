-- Runs that hand on texts of states are a chain.
use Rattle.std.proofs.Common.{◌≡◌, ℕ, List, [], ◌∷◌, ◌++◌, refl, sym, ap, ◌∙◌, subst}
use Rattle.nx_memory.specs.Saved.{SavedStates}
use Rattle.nx_receiver.specs.air_file_runs.Chain.{GoesOn, Run, all_logs, files}
use Rattle.nx_receiver.specs.air_file_runs.Listen.{IsLogOf}
use Rattle.nx_receiver.specs.air_file_runs.Resume.{HasChain, IsTextChain, TextRun}
use Rattle.nx_copies.specs.copies.Shares.{Starts, starts_from}
use Rattle.nx_receiver.specs.air_file_runs.State.{IsStateBytes}
use Rattle.nx_receiver.proofs.lemmas.listening.Moments.{one-closed}
use Rattle.nx_receiver.proofs.lemmas.state.Answers.{one_state_bytes, written_stands}

-- a run that goes on has the log of its file
run_log : (saved left : SavedStates) (run : Run) (file log : List ℕ) → GoesOn saved run left
    → run.file ≡ file → IsLogOf (starts_from saved) file log → run.log ≡ log
run_log saved left run file log goes read logged =
    let mine : IsLogOf run.starts run.file run.log = (run.lines, run.printed, goes.heard) in
    one-closed (starts_from saved) file run.log log
    (subst (λ (starts : Starts). IsLogOf starts file run.log) goes.begins
    (subst (λ (bytes : List ℕ). IsLogOf run.starts bytes run.log) read mine)) logged

pub texts-chain : (first last : List ℕ) (saved : SavedStates) (runs : List TextRun)
    → IsStateBytes first saved → IsTextChain first runs last → HasChain saved runs last
texts-chain first last saved [] stands chain = record {
  chain = [];
  left = saved;
  is = refl;
  same_files = refl;
  same_logs = refl;
  stands_for = subst (λ text. IsStateBytes text saved) (sym chain) stands;
}
texts-chain first last saved (run ∷ runs) stands chain =
    let logs = chain.0 in
    let leaves = chain.1.leaves in
    let gone = leaves.gone in
    let goes = subst (λ (s : SavedStates). GoesOn s gone.run leaves.left)
    (one_state_bytes first chain.1.states saved chain.1.stands_for stands) gone.goes in
    let logged = subst (λ (s : SavedStates). IsLogOf (starts_from s) run.file run.log)
    (one_state_bytes first logs.states saved logs.stands_for stands) logs.logged in
    let log = run_log saved leaves.left gone.run run.file run.log goes gone.read logged in
    let next = subst (λ text. IsStateBytes text leaves.left) (sym leaves.here)
    (written_stands leaves.left leaves.sound) in
    let rest = texts-chain run.state last leaves.left runs next chain.2 in
    record {
      chain = gone.run ∷ rest.chain;
      left = rest.left;
      is = (leaves.left, goes, rest.is);
      same_files = ap (λ (l : List ℕ). l ∷ files rest.chain) gone.read
          ∙ ap (λ (l : List (List ℕ)). run.file ∷ l) rest.same_files;
      same_logs = ap (λ l. l ++ all_logs rest.chain) log
          ∙ ap (λ l. run.log ++ l) rest.same_logs;
      stands_for = rest.stands_for;
    }
