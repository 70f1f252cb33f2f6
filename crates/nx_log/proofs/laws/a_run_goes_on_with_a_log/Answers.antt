use Rattle.std.proofs.Common.{◌≡◌, List, ℕ, ◌++◌, Option, Some, subst, sym}
use Rattle.std.specs.Io.KnownBytes.{Appends}
use Rattle.std.proofs.lemmas.List.Elements.{All-append}
use Rattle.nx_copies.proofs.lemmas.printing.Log.{logs_join}
use Rattle.nx_log.specs.Logged.{IsLogged, IsLogOfLogged}
use Rattle.nx_log.proofs.laws.a_run_goes_on_with_a_log.Goals as goal

pub returns : goal.returns
returns c = λ contents report held before after wrote held_so left_so is.
    let whole : after ≡ before ++ wrote.0 =
    subst (λ (new : Option (List ℕ)). Appends (Some before) new wrote.0) left_so
    (subst (λ (old : Option (List ℕ)). Appends old contents.after wrote.0) held_so wrote.3) in (
      wrote.1,
      subst (IsLogOfLogged (held ++ wrote.1)) (sym whole) (record {
        logged = All-append IsLogged held wrote.1 is.logged wrote.2.logged;
        log = logs_join held wrote.1 before wrote.0 is.log wrote.2.log;
      }),
    )
