-- The call of a command's name and its values, by the table of commands: there is at most one.
use Rattle.std.proofs.Common.{◌≡◌, ◌∙◌, ◌⊎◌, Bool, true, false, List, [], ◌∷◌, Option, Some, None}
use Rattle.std.proofs.Common.{IfSome, if◌then◌else◌, codes, inl, inr, refl, subst, sym}
use Rattle.std.specs.Str.{bytes_eq}
use Rattle.std.proofs.lemmas.Slice.Eq.{bytes_eq-Decides}
use Rattle.clap.specs.Words.{Row, Text}
use Rattle.nx_envelope.specs.declared.letter.Letter.{Letter}
use Rattle.nx_station.specs.declared.damaging.DamageKind.{DamageKind}
use Rattle.nx_program.specs.declared.arguments.Call.{Call}
use Rattle.nx_program.specs.declared.arguments.Call.TheVariants.{Log}
use Rattle.std.specs.Prelude.{ℕ}
use Rattle.nx_program.specs.Arguments.{by_sendings}
use Rattle.nx_program.specs.Arguments.{CommandRow, HasValues, IsKind, IsMoment, IsStation, Maker}
use Rattle.nx_program.specs.Arguments.{TakesMoment, command_name, command_rows, on_file, options}
use Rattle.nx_program.specs.Arguments.{plain, range, slot}
use Rattle.nx_program.proofs.lemmas.arguments.CallValues.{file_call-is, range_call-is, range_call-kind, slot_call-is}
use Rattle.nx_program.proofs.lemmas.arguments.CallValues.{file_call-moment, slot_call-moment, slot_call-station}
use Rattle.nx_program.proofs.lemmas.queries.QueryAsked.{AreAsked, query_call-asked, query_call-is}
use Rattle.nx_program.proofs.lemmas.arguments.CommandTable.{HasCall, IsSlotName, IsSound, Makes, call_in}
use Rattle.nx_program.proofs.lemmas.arguments.CommandTable.{call_in-only, command_rows-sound, made}
use Rattle.nx_program.proofs.lemmas.EachFound.{Each}

made-is : (name : Text) (maker : Maker) → Makes name maker → (rows : List Row)
    → IfSome (made maker rows) (HasCall name rows)
made-is name (plain call) makes rows = makes rows
made-is name (by_sendings make) makes rows = makes.1 rows _ refl
made-is name (slot make) makes rows = slot_call-is make rows (HasCall name rows) (makes.1 rows)
made-is name (on_file make) makes rows =
    file_call-is _ rows (HasCall name rows) (λ n m. makes.1 rows _ n m refl)
made-is name (range make) makes rows = range_call-is make rows (HasCall name rows) (makes.1 rows)
made-is name (options make) makes rows = query_call-is make rows (HasCall name rows) (makes.1 rows)

call_in-is : (cs : List CommandRow) → Each IsSound cs → (name : Text) (rows : List Row)
    → IfSome (call_in cs name rows) (HasCall name rows)
call_in-is [] each name rows = tt
call_in-is (c ∷ cs) each name rows = go (bytes_eq c.0 name) refl (call_in-is cs each.1 name rows)
  where
    go : (t : Bool) → bytes_eq c.0 name ≡ t → IfSome (call_in cs name rows) (HasCall name rows)
        → IfSome (if t then made c.1 rows else call_in cs name rows) (HasCall name rows)
    go true same rest =
        let is : c.0 ≡ name = (bytes_eq-Decides c.0 name).0 same in
        let P : Text → Type 0 = λ n. IfSome (made c.1 rows) (HasCall n rows) in
        subst P is (made-is c.0 c.1 each.0 rows)
    go false other rest = rest

only_named : (name : Text) (rows : List Row) (call : Call) → HasCall name rows call
    → call_in command_rows name rows ≡ Some call
only_named name rows call has =
    let P : Text → Type 0 = λ n. call_in command_rows n rows ≡ Some call in
    subst P (sym has.0) (call_in-only call rows has.1)

-- a command and its values have at most one call
pub same_call : (a b : Call) (rows : List Row) → command_name a ≡ command_name b
    → HasValues a rows
    → HasValues b rows → a ≡ b
same_call a b rows e given other =
    let same : Some a ≡ Some b =
    sym (call_in-only a rows given) ∙ only_named (command_name a) rows b (e, other) in
    cc

-- and whether there is one is decided
abbrev pub IsNotCalled : Text → List Row → Type 0
IsNotCalled name rows = (call : Call) → name ≡ command_name call → HasValues call rows → ⊥

not_called : (name : Text) (rows : List Row) → call_in command_rows name rows ≡ None
    → IsNotCalled name rows
not_called name rows none call is given =
    let some : None ≡ Some call = sym none ∙ only_named name rows call (is, given) in
    absurd (cc)

pub call_or_none : (name : Text) (rows : List Row)
    → ((call : Call) × HasCall name rows call) ⊎ IsNotCalled name rows
call_or_none name rows = go (call_in command_rows name rows) refl
    (call_in-is command_rows command_rows-sound name rows)
  where
    go : (o : Option Call) → call_in command_rows name rows ≡ o → IfSome o (HasCall name rows)
        → ((call : Call) × HasCall name rows call) ⊎ IsNotCalled name rows
    go (Some call) e is = inl (call, is)
    go None e is = inr (not_called name rows e)

-- a name whose row makes no call of the values is not called
pub at_name : (own name : Text) (rows : List Row) → name ≡ own
    → call_in command_rows own rows ≡ None → IsNotCalled name rows
at_name own name rows is none =
    let P : Text → Type 0 = λ n. IsNotCalled n rows in subst P (sym is) (not_called own rows none)

-- what the row of a call's name makes of its values
made_at : (name : Text) (call : Call) (rows : List Row) → command_name call ≡ name
    → HasValues call rows
    → call_in command_rows name rows ≡ Some call
made_at name call rows is given = only_named name rows call (sym is, given)

-- a call of the name of a slot has a station, and one of the name of damage has a kind
pub has-station : (call : Call) (rows : List Row) → IsSlotName (command_name call)
    → HasValues call rows
    → (letter : Letter) × IsStation rows letter
has-station call rows (inl send) given =
    slot_call-station _ rows call (made_at (codes "send") call rows send given)
has-station call rows (inr slots) given =
    slot_call-station _ rows call (made_at (codes "slots") call rows slots given)

-- a call of the name of a command that takes a moment has one
pub has-moment : (call : Call) (rows : List Row) → TakesMoment (command_name call)
    → HasValues call rows
    → (moment : ℕ) × IsMoment rows moment
has-moment call rows (inl send) given =
    slot_call-moment _ rows call (made_at (codes "send") call rows send given)
has-moment call rows (inr (inl slots)) given =
    slot_call-moment _ rows call (made_at (codes "slots") call rows slots given)
has-moment call rows (inr (inr watch)) given =
    file_call-moment _ rows call (made_at (codes "watch") call rows watch given)

pub has-kind : (call : Call) (rows : List Row) → command_name call ≡ codes "damage"
    → HasValues call rows
    → (kind : DamageKind) × IsKind rows kind
has-kind call rows is given =
    range_call-kind _ rows call (made_at (codes "damage") call rows is given)

-- and of one of the name of a log all is asked for
pub has-asked : (call : Call) (rows : List Row) → command_name call ≡ codes "log"
    → HasValues call rows
    → AreAsked rows
has-asked call rows is given =
    query_call-asked (λ q f r. Log q f r) rows call (made_at (codes "log") call rows is given)
