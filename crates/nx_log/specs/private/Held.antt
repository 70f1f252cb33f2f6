-- The last entries as they are held (this profile).
use Rattle.std.specs.Prelude.{◌≡◌, ℕ, not, List, filter}
use Rattle.std.specs.List.{AllZip}
use Rattle.nx_envelope.specs.Copies.{errors_of}
use Rattle.nx_copies.specs.copies.Shares.{MarkedCopy}
use Rattle.nx_log.specs.LogRun.{IsInForm}
use Rattle.nx_log.specs.Places.{PlacedCopy}
use Rattle.nx_log.specs.View.{copy_said}
use Rattle.nx_log.specs.private.Heads.{head_replaces}
use Rattle.nx_log.specs.declared.entries.head.LoggedHead.{LoggedHead}
use Rattle.nx_log.specs.declared.writing.form.Form.{Form}
use Rattle.nx_log.specs.declared.writing.last_entries.HeldEntry.{HeldEntry}

-- the head is that of this entry
pub record SaysHead (head : LoggedHead) (one : MarkedCopy) : Type 0 where
  pub said : copy_said head one.copy.text ≡ one
  pub errors : head.errors ≡ errors_of one.copy.text

-- what is held of an entry: its head, and its text in this form
pub record IsHeldAs (form : Form) (placed : PlacedCopy) (held : HeldEntry) : Type 0 where
  pub head : SaysHead held.head placed.one
  pub text : IsInForm form placed held.text.items

abbrev pub AreHeld : Form → List PlacedCopy → List HeldEntry → Type 0
AreHeld form entries held = AllZip (IsHeldAs form) entries held

abbrev pub held_text : HeldEntry → List ℕ
held_text held = held.text.items

-- of what is held that which an entry with this head doesn't replace
abbrev pub not_replaced : LoggedHead → List HeldEntry → List HeldEntry
not_replaced head held = filter (λ one. not (head_replaces head one.head)) held
