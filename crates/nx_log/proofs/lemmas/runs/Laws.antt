-- What a run over a log says to who knows its devices.
use Rattle.std.proofs.Common.{◌≡◌, ◌≤◌, ◌⊎◌, inl, inr, ℕ, zero, suc, List, [], ◌∷◌, ◌++◌, Option, None, Some, ap, arith, length, refl, subst, sym, take, ◌∙◌}
use Rattle.std.specs.Prelude.{map, Result, Ok, Err}
use Rattle.std.specs.List.{All, AllZip}
use Rattle.std.specs.Io.KnownBytes.{Consumes, IsAtEnd}
use Rattle.std.proofs.Common.{append-nil}
use Rattle.std.proofs.lemmas.List.{take-append-le, take_all}
use Rattle.std.proofs.lemmas.List.Elements.{All-cons, All-nil}
use Rattle.nx_copies.specs.copies.Log.{IsEntry}
use Rattle.nx_copies.specs.copies.Shares.{MarkedCopy}
use Rattle.nx_log.specs.LogRun.{HasReadFailed, IsInForm, IsOutput}
use Rattle.nx_log.specs.Logged.{IsLogOfLogged, IsLogged}
use Rattle.nx_log.specs.Places.{unplaced}
use Rattle.nx_log.specs.Query.{chosen}
use Rattle.nx_log.specs.declared.log_fault.LogFault.{LogFault}
use Rattle.nx_log.specs.declared.log_fault.LogFault.TheVariants.{Read, Write}
use Rattle.nx_log.specs.declared.queries.query.Query.{Query}
use Rattle.nx_log.specs.declared.writing.form.Form.TheVariants.{Log}
use Rattle.nx_log.proofs.lemmas.runs.Placing.{chosen-unplaced}

some_list : (xs ys : List ℕ) → ◌≡◌ {A = Option (List ℕ)} (Some xs) (Some ys) → xs ≡ ys
some_list xs ys e = cc

-- what was read of an input that is known, where none is left or as much was read as ever is
pub all_read : (most : ℕ) (old new : Option (List ℕ)) (bytes input : List ℕ)
    → Consumes old new bytes → old ≡ Some input → length bytes ≤ most
    → IsAtEnd new ⊎ (length bytes ≡ most) → bytes ≡ take most input
all_read most None new bytes input consumed known within all = absurd (cc)
all_read most (Some xs) None bytes input consumed known within all = absurd consumed
all_read most (Some xs) (Some ys) bytes input consumed known within (inl none) =
    let is : input ≡ bytes =
    sym (some_list xs input known) ∙ consumed ∙ ap (λ l. bytes ++ l) none ∙ append-nil bytes in
    sym (take_all most bytes within) ∙ ap (take most) (sym is)
all_read most (Some xs) (Some ys) bytes input consumed known within (inr long) =
    sym (take_all most bytes within) ∙ sym (take-append-le most bytes ys (omega (arith, long)))
    ∙ ap (take most) (sym consumed ∙ some_list xs input known)

-- a count of failures that isn't one is none
pub none_failed : (failures : ℕ) → failures ≤ 1 → (failures ≡ 1 → ⊥) → failures ≡ 0
none_failed zero once never = refl
none_failed (suc zero) once never = absurd (never refl)
none_failed (suc (suc n)) once never = absurd (omega (arith, once))

module _ (query : Query) (count : ℕ) where
  no_fault : (fault : LogFault) → ◌≡◌ {A = Result ℕ LogFault} (Ok count) (Err fault) → ⊥
  no_fault fault e = cc

  pub no_read_failed : (failures : ℕ) → failures ≤ 1
      → (failures ≡ 1 → HasReadFailed {A = ℕ} query (Ok count)) → failures ≡ 0
  no_read_failed failures once failed = none_failed failures once (λ one. never (failed one))
    where
      never : HasReadFailed {A = ℕ} query (Ok count) → ⊥
      never (inl is) = no_fault Read is
      never (inr written) = no_fault (Write written.1.0) written.1.1

  pub no_write_failed : (failures : ℕ) → failures ≤ 1
      → (failures ≡ 1 → (written : ℕ)
      × (◌≡◌ {A = Result ℕ LogFault} (Ok count) (Err (Write written)))) → failures ≡ 0
  no_write_failed failures once failed =
      none_failed failures once
      (λ one. let is = failed one in no_fault (Write is.0) is.1)

-- ---- a log that is written

texts_logged : (copies : List MarkedCopy) (texts : List (List ℕ))
    → AllZip (IsInForm Log) (map unplaced copies) texts
    → All IsLogged copies × AllZip IsEntry copies texts
texts_logged [] [] h = (All-nil IsLogged, h)
texts_logged [] (text ∷ texts) h = absurd h
texts_logged (one ∷ copies) [] h = absurd h
texts_logged (one ∷ copies) (text ∷ texts) h =
    let more = texts_logged copies texts h.1 in
    (All-cons IsLogged one copies h.0.logged more.0, (h.0.entry, more.1))

-- output in the form of a log is the log of what is chosen
pub output_is_log : (query : Query) (entries : List MarkedCopy) (output : List ℕ)
    → IsOutput query Log (map unplaced entries) output
    → IsLogOfLogged (chosen query entries) output
output_is_log query entries output is =
    let texts = texts_logged (chosen query entries) is.texts
    (subst (λ l. AllZip (IsInForm Log) l is.texts) (chosen-unplaced query entries) is.each) in
    record {
      logged = texts.0;
      log = record { entries = is.texts; each = texts.1; joined = is.joined };
    }
