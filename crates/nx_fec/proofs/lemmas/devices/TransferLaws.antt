-- What a run says of its reader follows from what its reading said of it.
use Rattle.std.proofs.Common.{◌≡◌, ◌≢◌, ◌↔◌, ◌∙◌, ℕ, arith, List, [], ◌++◌, append-nil, ap}
use Rattle.std.proofs.Common.{subst, sym, Option, None, Some, IfSome, Result, Ok, Err, IfErr}
use Rattle.std.proofs.Common.{IsErrOf}
use Rattle.std.specs.Io.KnownBytes.{Consumes, IsAtEnd}
use Rattle.std.proofs.lemmas.Option.{IfSome_then}
use Rattle.nx_fec.proofs.lemmas.lines.ReadingLaws.{Err-same}
use Rattle.nx_fec.specs.Transfers.{AnswersToEnd, CountedDevice, Extent, Input, Reads, Writes}
use Rattle.nx_fec.specs.Transfers.{read_from, whole_input}
use Rattle.nx_fec.specs.declared.fault.RunFault.{RunFault}
use Rattle.nx_fec.specs.declared.fault.RunFault.TheVariants.{Read, Write}

-- the run goes on after it read, and fails to read exactly where its reading did
pub Reads-on : {R N M F G : Type 0} (i : Input R) (read : F) (run_read : G) (outcome : Result N F)
    (run_outcome : Result M G) (answers run_answers : Extent → List ℕ → Type 0)
    {behind : F → List ℕ → Type 0} {run_behind : G → List ℕ → Type 0}
    → Reads i read behind outcome answers
    → ((extent : Extent) (bytes : List ℕ) → answers extent bytes → run_answers extent bytes)
    → ((bytes : List ℕ) → answers (read_from i) bytes → IfErr outcome (λ fault. behind fault bytes)
    → IfErr run_outcome (λ fault. run_behind fault bytes))
    → (IsErrOf run_outcome run_read → IsErrOf outcome read)
    → (IsErrOf outcome read → IsErrOf run_outcome run_read)
    → Reads i run_read run_behind run_outcome run_answers
Reads-on i read run_read outcome run_outcome answers run_answers h k early there here = record {
  bytes = h.bytes;
  consumed = h.consumed;
  answer = k (read_from i) h.bytes h.answer;
  file = IfSome_then (i.remaining i.reader.inner) h.file (k whole_input);
  before = early h.bytes h.answer h.before;
  failed = (λ e. h.failed.0 (there e), λ one. here (h.failed.1 one));
  once = h.once;
}

-- a success is no error
pub Ok-not_err : {T E : Type 0} (x : T) (e : E) → ◌≡◌ {A = Result T E} (Ok x) (Err e) → ⊥
Ok-not_err x e same = cc

-- a failed write is no failed read
pub Write-not_read : {T : Type 0} (written : ℕ)
    → ◌≡◌ {A = Result T RunFault} (Err (Write written)) (Err Read) → ⊥
Write-not_read written same = cc

-- a writer of a call that answered no failed write has not failed
pub Writes-sound : {W N F : Type 0} (new : CountedDevice W) (write : ℕ → F) (outcome : Result N F)
    → ((written : ℕ) → outcome ≡ Err (write written) → ⊥)
    → Writes new write outcome → new.failures ≡ 0
Writes-sound new write outcome other h =
    let none : new.failures ≢ 1 = λ one. let w = h.failed.1 one in other w.0 w.1 in
    omega (arith, h.once, none)

pub Writes-none : {W N F : Type 0} (new : CountedDevice W) (write : ℕ → F) (outcome : Result N F)
    → ((written : ℕ) → outcome ≡ Err (write written) → ⊥)
    → new.failures ≡ 0 → Writes new write outcome
Writes-none new write outcome other none = record {
  failed = (λ w. absurd (other w.0 w.1), λ one. absurd (omega (arith, none, one)));
  once = omega (arith, none);
}

-- and so with a reader
pub read_failed-none : {N F : Type 0} (failures : ℕ) (read : F) (outcome : Result N F)
    → (outcome ≡ Err read → ⊥) → failures ≡ 0
    → IsErrOf outcome read ↔ (failures ≡ 1)
read_failed-none failures read outcome other none =
    (λ e. absurd (other e), λ one. absurd (omega (arith, none, one)))

-- what a fault says of the writer doesn't depend on what a success would have answered
pub Writes-fault : {W N M F : Type 0} (new : CountedDevice W) (write : ℕ → F) (fault : F)
    → Writes {N = M} new write (Err fault) → Writes {N = N} new write (Err fault)
Writes-fault new write fault h = record {
  failed = (
    λ w. h.failed.0 (w.0, Err-same _ _ w.1),
    λ one. let w = h.failed.1 one in
        (w.0, Err-same _ _ w.1),
  );
  once = h.once;
}

-- what holds of the bytes that were read, whatever comes after them, holds of the whole file
pub IfSome-front : (old new : Option (List ℕ)) (bytes : List ℕ) (P : List ℕ → Type 0)
    → Consumes old new bytes → ((more : List ℕ) → P (bytes ++ more)) → IfSome old P
IfSome-front None new bytes P consumed h = tt
IfSome-front (Some xs) None bytes P consumed h = absurd consumed
IfSome-front (Some xs) (Some ys) bytes P consumed h = subst P (sym consumed) (h ys)

-- and so does what holds of them at the end of the file
pub IfSome-end : (old new : Option (List ℕ)) (bytes : List ℕ) (P : List ℕ → Type 0)
    → Consumes old new bytes → IsAtEnd new → P bytes → IfSome old P
IfSome-end None new bytes P consumed end h = tt
IfSome-end (Some xs) None bytes P consumed end h = absurd consumed
IfSome-end (Some xs) (Some ys) bytes P consumed end h =
    subst P (sym (consumed ∙ ap (λ l. bytes ++ l) end ∙ append-nil bytes)) h

module _ {R N F : Type 0} (i : Input R) (unread : F) (behind : F → List ℕ → Type 0)
    (good : N → List ℕ → Type 0) (explains : List ℕ → F → Type 0) (bytes : List ℕ)
    (consumed : Consumes (i.remaining i.reader.inner) (i.remaining i.reader_after.inner) bytes)
  where
    -- a file that is read has a fault
    pub Reads-stopped : (fault : F) → behind fault bytes
        → ((more : List ℕ) → explains (bytes ++ more) fault)
        → (◌≡◌ {A = Result N F} (Err fault) (Err unread) → ⊥) → i.reader_after.failures ≡ 0
        → Reads {N = N} i unread behind (Err fault) (AnswersToEnd good (λ _. explains) (Err fault))
    Reads-stopped fault clean h other none = record {
      bytes = bytes;
      consumed = consumed;
      answer = subst (λ l. explains l fault) (append-nil bytes) (h []);
      file = IfSome-front _ _ bytes (λ xs. explains xs fault) consumed h;
      before = clean;
      failed = read_failed-none _ _ _ other none;
      once = omega (arith, none);
    }
