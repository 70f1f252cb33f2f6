-- What is told in pieces.
use Rattle.std.proofs.Common.{◌≡◌, ◌∙◌, ◌++◌, ◌-◌, ◌^◌, ℕ, List, [], Option, ap, inl, inr, min, refl}
use Rattle.std.proofs.Common.{subst, append_assoc}
use Rattle.std.proofs.KnownBytes.{Appends-nil}
use Rattle.nx_fec.specs.Transfers.{CountedDevice}
use Rattle.nx_watch.specs.LineRun.{HasTold}
use Rattle.nx_program.specs.Report.{WritesOne}

pub two-told : (old new : Option (List ℕ)) (failures : ℕ) (text a b : List ℕ)
    → HasTold old new failures ((text ++ a) ++ b) → HasTold old new failures (text ++ (a ++ b))
two-told old new failures text a b told =
    subst (HasTold old new failures) (append_assoc text a b) told

pub three-told : (old new : Option (List ℕ)) (failures : ℕ) (text a b c : List ℕ)
    → HasTold old new failures (((text ++ a) ++ b) ++ c)
    → HasTold old new failures (text ++ (a ++ (b ++ c)))
three-told old new failures text a b c told =
    two-told old new failures text a (b ++ c)
    (two-told old new failures (text ++ a) b c told)

pub more-told : (old new : Option (List ℕ)) (failures : ℕ) (text a b c d : List ℕ)
    → HasTold old new failures ((text ++ (a ++ (b ++ c))) ++ d)
    → HasTold old new failures (text ++ (a ++ (b ++ (c ++ d))))
more-told old new failures text a b c d told =
    subst (λ (l : List ℕ). HasTold old new failures (text ++ l))
    (append_assoc a (b ++ c) d ∙ ap (λ (l : List ℕ). a ++ l) (append_assoc b c d))
    (two-told old new failures text (a ++ (b ++ c)) d told)

pub twice-told : (old new : Option (List ℕ)) (failures : ℕ) (text a b c d e f : List ℕ)
    → HasTold old new failures (((text ++ (a ++ (b ++ c))) ++ (d ++ e)) ++ f)
    → HasTold old new failures (text ++ (a ++ (b ++ (c ++ (d ++ (e ++ f))))))
twice-told old new failures text a b c d e f told =
    subst (λ (l : List ℕ). HasTold old new failures (text ++ (a ++ (b ++ (c ++ l)))))
    (append_assoc d e f)
    (more-told old new failures text a b c ((d ++ e) ++ f)
    (two-told old new failures (text ++ (a ++ (b ++ c))) (d ++ e) f told))

-- before anything was told
pub untold : {E : Type 0} (contents : E → Option (List ℕ)) (device : CountedDevice E)
    → device.failures ≡ 0
    → HasTold (contents device.inner) (contents device.inner) device.failures []
untold contents device none = inl (none, Appends-nil (contents device.inner))

-- what was told is one text
pub told-one : {E : Type 0} (IsText : List ℕ → Type 0) (contents : E → Option (List ℕ))
    (old new : CountedDevice E) (text : List ℕ) → IsText text
    → HasTold (contents old.inner) (contents new.inner) new.failures text
    → WritesOne IsText contents old new
told-one IsText contents old new text is (inl told) = record {
  text = text;
  is_text = is;
  written = inl (told.1, told.0);
}
told-one IsText contents old new text is (inr told) = record {
  text = text;
  is_text = is;
  written = inr (
    min told.1 (2 ^ 64 - 1),
    record { taken = told.1; fewer = told.2; counted = refl; appended = told.3 },
    told.0,
  );
}
