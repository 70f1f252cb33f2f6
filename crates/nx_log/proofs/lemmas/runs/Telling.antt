-- What is told, one notice more.
use Rattle.std.proofs.Common.{◌≡◌, ℕ, ◌+◌, List, [], ◌∷◌, ◌++◌, length}
use Rattle.std.proofs.Common.{take, Option, Result, Ok, Err, inl, inr, refl, sym, ap}
use Rattle.std.proofs.Common.{◌∙◌, subst, arith, append_assoc, append-nil, length-append}
use Rattle.std.specs.Prelude.{IfErr, OnOk}
use Rattle.std.specs.Io.KnownBytes.{Appends}
use Rattle.std.proofs.KnownBytes.{Appends-trans}
use Rattle.std.proofs.Math.Seq.{take-append-add}
use Rattle.nx_fec.specs.Transfers.{CountedDevice, FailsOnce, WroteSome}
use Rattle.nx_fec.specs.declared.fault.WriteFault.{WriteFault}
use Rattle.nx_log.specs.Notices.{HaveTold, Notice, notice_text, notice_texts, notices_of}

pub texts_more : (notices : List Notice) (one : Notice)
    → notice_texts (notices ++ one ∷ []) ≡ notice_texts notices ++ notice_text one
texts_more [] one = append-nil (notice_text one)
texts_more (first ∷ notices) one =
    ap (λ l. notice_text first ++ l) (texts_more notices one)
    ∙ sym (append_assoc (notice_text first) (notice_texts notices) (notice_text one))

-- and before that, what is written
pub told-out : {N W : Type 0} (old mid new : Option (List ℕ)) (before : ℕ) (after : CountedDevice W)
    (text more : List ℕ) (r : Result N WriteFault)
    → before ≡ 0 → HaveTold (notices_of old mid before) text → OnOk r (Appends mid new more)
    → IfErr r (λ fault. WroteSome mid new more fault.written) → FailsOnce after r
    → HaveTold (notices_of old new after.failures) (text ++ more)
told-out old mid new before after text more r none (inr h) ok err counts =
    absurd (omega (arith, h.0, none))
told-out old mid new before after text more (Ok n) none (inl h) ok err counts =
    inl (counts.none, Appends-trans old mid new text more h.1 ok)
told-out old mid new before after text more (Err fault) none (inl h) ok err counts =
    inr (
      omega (arith, counts.failed.0 refl),
      length text + err.taken,
      omega (arith, err.fewer, length-append text more),
      subst (Appends old new) (sym (take-append-add text more err.taken))
          (Appends-trans old mid new text (take err.taken more) h.1 err.appended),
    )

pub three : (a b c d x y z : List ℕ) → a ≡ [] → b ≡ a ++ x → c ≡ b ++ y → d ≡ c ++ z
    → d ≡ x ++ (y ++ z)
three a b c d x y z none one two all =
    all ∙ ap (λ l. l ++ z) (two ∙ ap (λ l. l ++ y) (one ∙ ap (λ l. l ++ x) none))
    ∙ append_assoc x y z
