-- The table of commands gives each call by its name and its values. A new kind of row asks for a
-- line here, a new command that takes what others do for none.
use Rattle.std.proofs.Common.{◌≡◌, ◌⊎◌, ℕ, List, [], ◌∷◌, Option, Some, None, codes, if◌then◌else◌}
use Rattle.std.proofs.Common.{◌∙◌, ap, refl, rules}
use Rattle.std.specs.Str.{bytes_eq}
use Rattle.clap.specs.Words.{Row, Text}
use Rattle.nx_envelope.specs.declared.letter.Letter.{Letter}
use Rattle.nx_log.specs.declared.writing.form.Form.{Form}
use Rattle.nx_log.specs.declared.queries.query.Query.{Query}
use Rattle.nx_program.specs.LogArguments.{IsForm, IsInOrder, IsQuery, IsReading}
use Rattle.nx_program.specs.declared.log_arguments.ReadAs.{ReadAs}
use Rattle.nx_station.specs.declared.damaging.DamageKind.{DamageKind}
use Rattle.nx_program.specs.declared.arguments.Call.{Call}
use Rattle.nx_program.specs.declared.arguments.Call.TheVariants.{Damage, Listen, Log, Send, Slots, Watch}
use Rattle.nx_program.specs.declared.arguments.Sendings.{Sendings}
use Rattle.nx_program.specs.LogArguments.{has_flag}
use Rattle.nx_program.specs.Arguments.{AsksSendings, sendings_of, by_sendings}
use Rattle.nx_program.specs.Arguments.{CommandRow, HasValues, IsFile, IsKind, IsMoment, IsNumber, IsStation, Maker}
use Rattle.nx_program.specs.Arguments.{command_name, command_rows, on_file, options, plain, range, slot}
use Rattle.nx_program.proofs.lemmas.arguments.CallValues.{file_call, file_call-only, range_call, range_call-only}
use Rattle.nx_program.proofs.lemmas.arguments.CallValues.{slot_call, slot_call-only}
use Rattle.nx_program.proofs.lemmas.queries.QueryAsked.{query_call, query_call-only}
use Rattle.nx_program.proofs.lemmas.EachFound.{Each}

-- the call that a row of the table makes of the values, and the one that the row of this name makes
abbrev pub made : Maker → List Row → Option Call
made (plain call) rows = Some call
made (by_sendings make) rows = Some (make (sendings_of (has_flag (codes "combine") rows)))
made (slot make) rows = slot_call make rows
made (on_file make) rows =
    file_call (make (sendings_of (has_flag (codes "combine") rows))) rows
made (range make) rows = range_call make rows
made (options make) rows = query_call make rows

abbrev pub call_in : List CommandRow → Text → List Row → Option Call
call_in [] name rows = None
call_in (c ∷ cs) name rows = if bytes_eq c.0 name then made c.1 rows else call_in cs name rows

-- the name of a call that takes a station and a moment
abbrev pub IsSlotName : Text → Type 0
IsSlotName name = (name ≡ codes "send") ⊎ (name ≡ codes "slots")

-- the call has this name and these values
abbrev pub HasCall : Text → List Row → Call → Type 0
HasCall name rows call = (name ≡ command_name call) × HasValues call rows

-- the calls that a row of the table makes have its name, and are given its values
abbrev pub Makes : Text → Maker → Type 0
Makes name (plain call) = (rows : List Row) → HasCall name rows call
Makes name (by_sendings make) =
    (name ≡ codes "listen")
    × ((rows : List Row) (s : Sendings) → AsksSendings rows s → HasCall name rows (make s))
Makes name (slot make) =
    IsSlotName name × ((rows : List Row) (s : Letter) (m : ℕ) → IsStation rows s
    → IsMoment rows m
    → HasCall name rows (make s m))
Makes name (on_file make) =
    (name ≡ codes "watch") × ((rows : List Row) (s : Sendings) (n : Text) (m : ℕ)
    → AsksSendings rows s → IsFile rows n → IsMoment rows m
    → HasCall name rows (make s n m))
Makes name (range make) =
    (name ≡ codes "damage") × ((rows : List Row) (k : DamageKind) (f c : ℕ) → IsKind rows k
    → IsNumber (codes "FROM") rows f → IsNumber (codes "COUNT") rows c
    → HasCall name rows (make k f c))
Makes name (options make) =
    (name ≡ codes "log") × ((rows : List Row) (q : Query) (f : Form) (d : ReadAs) → IsQuery rows q
    → IsInOrder q → IsForm rows f → IsReading rows d → HasCall name rows (make q f d))

abbrev pub IsSound : CommandRow → Type 0
IsSound c = Makes c.0 c.1

pub command_rows-sound : Each IsSound command_rows
command_rows-sound = search rules

-- the row of a call's name makes the call of its values
pub call_in-only : (call : Call) (rows : List Row) → HasValues call rows
    → call_in command_rows (command_name call) rows ≡ Some call
call_in-only (Listen sendings) rows given = ap (λ s. Some (Listen s)) given
call_in-only (Send station moment) rows given = slot_call-only _ rows station moment given.0 given.1
call_in-only (Slots station moment) rows given =
    slot_call-only _ rows station moment given.0 given.1
call_in-only (Watch sendings name moment) rows given =
    file_call-only _ rows name moment given.1 given.2
    ∙ ap (λ s. Some (Watch s name moment)) given.0
call_in-only (Damage kind from count) rows given =
    range_call-only _ rows kind from count given.0 given.1 given.2
call_in-only (Log query form reading) rows given =
    query_call-only (λ q f d. Log q f d) rows query form reading given.0 given.1 given.2 given.3
call_in-only call rows given = refl
