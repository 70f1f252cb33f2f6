-- Clap's reading of the program's arguments: the command tree is one of those that clap's clauses
-- speak of exactly, and a command that it enters is the command of a call.
use Rattle.std.proofs.Common.{ℕ, codes, ◌≤◌, ◌≡◌, ◌≢◌, ◌∙◌, true, false, List, [], ◌∷◌, Option}
use Rattle.std.proofs.Common.{Some, None, is_some, ◌⊎◌, IfSome, IfOk, IfErr, Result, Ok, Err}
use Rattle.std.proofs.Common.{option_map, refl, ap, ap₂, inl, inr, sym, subst, string_bytes, Box}
use Rattle.std.proofs.Common.{Global}
use Rattle.std.specs.Box.{box_value}
use Rattle.clap.specs.Words.{HasKind, Kinds, IsAmong, Row, Text, built, fault_of, is_simple}
use Rattle.clap.specs.Words.{is_simple_and_free, kind_of, subcommand_of, subcommand_name_of}
use Rattle.clap.specs.Words.{subcommand_rows, subcommand_rows_of}
use Rattle.clap.specs.Simple.{argument_words, entered, label_of, names_of}
use Rattle.clap.specs.Walk.{answers_to, nothing_held, walk}
use Rattle.clap.specs.Faults.{entered_fault}
use Rattle.clap.proofs.OnLiterals.{clap_on_literals}
use Rattle.clap.specs.declared.error.Error.{Error}
use Rattle.clap.specs.declared.error.kind.ErrorKind.{ErrorKind}
use Rattle.clap.specs.declared.error.kind.ErrorKind.TheVariants.{DisplayHelp, DisplayVersion}
use Rattle.clap.specs.declared.error.kind.ErrorKind.TheVariants.{OutOfMemory}
use Rattle.clap.specs.declared.error.kind.ErrorKind.TheVariants as kind
use Rattle.clap.specs.declared.parser.matches.ArgMatches.{ArgMatches}
use Rattle.clap.specs.declared.parser.matches.ArgMatches.TheViews.{out-ArgMatches, out-SubCommand}
use Rattle.clap.specs.declared.parser.matches.SubCommand.{SubCommand}
use Rattle.nx_program.specs.declared.arguments.Call.{Call}
use Rattle.nx_program.specs.declared.arguments.ArgumentsFault.{ArgumentsFault}
use Rattle.nx_program.specs.declared.arguments.Sendings.{Sendings}
use Rattle.nx_program.specs.declared.arguments.ArgumentsFault.TheVariants.{Help, Refused, Station, Kind}
use Rattle.nx_program.specs.declared.arguments.ArgumentsFault.TheVariants.{Memory, Value, Version}
use Rattle.nx_station.specs.declared.damaging.DamageKind.{DamageKind}
use Rattle.nx_program.specs.Arguments.{AsksForHelp, AsksForVersion, HasUnfitValue, HasValues, IsKind}
use Rattle.nx_program.specs.Arguments.{IsMoment, IsNumber, IsRefusal, IsRefused, IsReportedMoment}
use Rattle.nx_program.specs.Arguments.{IsStation, LacksKind, LacksMoment, LacksStation, LacksValue}
use Rattle.nx_program.specs.Arguments.{TakesMoment, moment_report}
use Rattle.nx_program.specs.Arguments.{by_sendings}
use Rattle.nx_program.specs.Arguments.{Maker, Names, command_name, command_rows, navtex, on_file, options}
use Rattle.nx_program.specs.Arguments.{plain, range, slot}
use Rattle.nx_program.specs.LogArguments.{clash_report, value_report}
use Rattle.nx_program.proofs.lemmas.queries.QueryAsked.{AreAsked, asked_not_clash, asked_not_unfit}
use Rattle.nx_program.proofs.lemmas.queries.QueryAsked.{asked_or_not}
use Rattle.nx_program.specs.private.LogReading.{ExplainsOptions}
use Rattle.nx_program.specs.private.Reading.{ExplainsArguments, ExplainsMoment, HasFitMoment}
use Rattle.nx_program.specs.private.Reading.{HasUnfitMoment, IsSortedAs}
use Rattle.nx_program.proofs.lemmas.EachFound.{Each, each-map, found_is}
use Rattle.nx_program.proofs.lemmas.arguments.CallValues.{differ, moment-given, moment-said, moment_of_text}
use Rattle.nx_program.proofs.lemmas.arguments.CallValues.{number_once}
use Rattle.nx_program.proofs.lemmas.arguments.CommandTable.{HasCall, IsSlotName, IsSound, Makes, command_rows-sound}
use Rattle.nx_program.proofs.lemmas.arguments.CommandsTaken.{Gives, leaf, taken-command}
use Rattle.nx_program.proofs.lemmas.arguments.NumbersGiven.{number-given}
use Rattle.nx_program.proofs.lemmas.arguments.OneCall.{IsNotCalled, call_or_none, has-asked, has-kind, has-moment, has-station}
use Rattle.nx_program.proofs.lemmas.arguments.OneCall.{same_call}
use Rattle.nx_envelope.specs.declared.letter.Letter.{Letter}
use Rattle.nx_program.specs.declared.arguments.Call.TheVariants.{Damage, Send, Slots, Watch}
use Rattle.nx_program.proofs.lemmas.arguments.FaultKinds.{HasNoHelp, IsUniform, help-alone, help-no_version}
use Rattle.nx_program.proofs.lemmas.arguments.FaultKinds.{kinds_cases, level-nil, refusal_is, u-level, u-none}
use Rattle.nx_program.proofs.lemmas.arguments.FaultKinds.{u-option, version-alone}

pub navtex-is_simple : is_simple navtex ≡ true
unfolding clap_on_literals
navtex-is_simple = refl

pub navtex-is_simple_and_free : is_simple_and_free navtex ≡ true
unfolding clap_on_literals
navtex-is_simple_and_free = refl

pub explained : (arguments : List Text) (error : Error) (fault : ArgumentsFault)
    → HasKind (fault_of navtex arguments) error
    → IsSortedAs error fault → ExplainsArguments arguments fault
explained arguments error (Help answer) kinds sorts = elim kinds [
  | inl memory ↦ absurd (let e : OutOfMemory ≡ DisplayHelp = sym memory ∙ sorts.1 in cc)
  | inr among ↦ let P : ErrorKind → Type 0 = λ k. IsAmong k (fault_of navtex arguments) in
      subst P sorts.1 among
]
explained arguments error Version kinds sorts = elim kinds [
  | inl memory ↦ absurd (let e : OutOfMemory ≡ DisplayVersion = sym memory ∙ sorts in cc)
  | inr among ↦ let P : ErrorKind → Type 0 = λ k. IsAmong k (fault_of navtex arguments) in
      subst P sorts among
]
explained arguments error (Refused answer) kinds sorts = elim kinds [
  | inl memory ↦ absurd (sorts.2 memory)
  | inr among ↦ (kind_of error, sorts.1, among)
]
explained arguments error Station kinds sorts = absurd sorts
explained arguments error Kind kinds sorts = absurd sorts
explained arguments error (Value report) kinds sorts = absurd sorts
explained arguments error (Memory want) kinds sorts = tt

name_at : (b : Option (Box SubCommand Global))
    → option_map (λ b. (out-SubCommand (box_value b)).name.now) b
    ≡ option_map (λ p. p.0) (subcommand_rows b)
name_at None = refl
name_at (Some b) = refl

-- the name of the command that a parse entered
pub name_of_rows : (m : ArgMatches)
    → subcommand_name_of m ≡ option_map (λ p. p.0) (subcommand_rows_of m)
name_of_rows m = name_at (out-ArgMatches m).subcommand

-- a pair from its parts
pair_from : {A B : Type 0} (e : Option (A × B)) (a : A) (b : B) → option_map (λ p. p.0) e ≡ Some a
    → option_map (λ p. p.1) e ≡ Some b → e ≡ Some (a, b)
pair_from None a b first second = absurd (cc)
pair_from (Some p) a b first second =
    let is_a : p.0 ≡ a = cc in
    let is_b : p.1 ≡ b = cc in
    ap₂ (λ x y. Some (x, y)) is_a is_b

-- the arguments enter the command that the parse found, with its values
pub entered_pair : (arguments : List Text) (m : ArgMatches) (name : Text) (values : List Row)
    → subcommand_rows_of m ≡ subcommand_of navtex arguments
    → subcommand_name_of m ≡ Some name
    → option_map (λ p. p.1) (subcommand_rows_of m) ≡ Some values
    → subcommand_of navtex arguments ≡ Some (name, values)
entered_pair arguments m name values rows name_is values_are =
    sym rows ∙ pair_from (subcommand_rows_of m) name values (sym (name_of_rows m) ∙ name_is)
    values_are

none_among : (kinds : Kinds) (k : ErrorKind) → kinds ≡ [] → IsAmong k kinds → ⊥
none_among [] k e among = among
none_among (x ∷ xs) k e among = absurd (cc)

leaf-no_help : (name : Text) (maker : Maker) → HasNoHelp (leaf (name, maker))
leaf-no_help name (plain call) = refl
leaf-no_help name (by_sendings make) = refl
leaf-no_help name (slot make) = refl
leaf-no_help name (on_file make) = refl
leaf-no_help name (range make) = refl
leaf-no_help name (options make) = refl

calls_without_help : Each HasNoHelp (built navtex).subs
calls_without_help = each-map IsSound HasNoHelp leaf (λ c sound. leaf-no_help c.0 c.1) command_rows
    command_rows-sound

IfSome-weaker : {X : Type 0} (o : Option X) (P Q : X → Type 0) → ((x : X) → P x → Q x) → IfSome o P
    → IfSome o Q
IfSome-weaker None P Q weaker some = tt
IfSome-weaker (Some x) P Q weaker some = weaker x some

u-entered : (stop : Option (Text × List Text)) → IsUniform (entered_fault (built navtex) stop)
u-entered None = u-none
u-entered (Some p) =
    u-option _ _ [] (IfSome-weaker _ _ _ (λ s no. u-level s [] nothing_held p.1 false [] no u-none)
    (found_is HasNoHelp (λ s. answers_to p.0 (label_of s)) (built navtex).subs calls_without_help))
    u-none

-- clap's faults of the arguments are all help, all the version, or all refusals
pub faults_are_uniform : (arguments : List Text) → IsUniform (fault_of navtex arguments)
faults_are_uniform arguments =
    let stop = (walk (built navtex).top.rules (names_of (built navtex)) nothing_held
    (argument_words navtex arguments)).stopped in
    u-level (built navtex).top (names_of (built navtex)) nothing_held
    (argument_words navtex arguments)
    (is_some
    (entered (built navtex) stop))
    (entered_fault (built navtex) stop) refl (u-entered stop)

pub help_not_version : (arguments : List Text) → AsksForHelp arguments → AsksForVersion arguments
    → ⊥
help_not_version arguments help version =
    help-no_version (fault_of navtex arguments) (faults_are_uniform arguments) help version

unfit-taken : (arguments : List Text) (report : Text) → HasUnfitValue arguments report
    → fault_of navtex arguments ≡ []
unfit-taken arguments report (inl lacks) = lacks.taken
unfit-taken arguments report (inr lacks) = lacks.taken

pub help_not_refused : (arguments : List Text) → AsksForHelp arguments → IsRefused arguments → ⊥
help_not_refused arguments help (inl refused) =
    help-alone (fault_of navtex arguments) refused.0 (faults_are_uniform arguments) help refused.2
    (refusal_is refused.0 refused.1)
help_not_refused arguments help (inr (inl lacks)) =
    none_among (fault_of navtex arguments) DisplayHelp lacks.taken help
help_not_refused arguments help (inr (inr (inl lacks))) =
    none_among (fault_of navtex arguments) DisplayHelp lacks.taken help
help_not_refused arguments help (inr (inr (inr lacks))) =
    none_among (fault_of navtex arguments) DisplayHelp
    (unfit-taken arguments lacks.0 lacks.1) help

pub version_not_refused : (arguments : List Text) → AsksForVersion arguments → IsRefused arguments
    → ⊥
version_not_refused arguments version (inl refused) =
    version-alone (fault_of navtex arguments) refused.0
    (faults_are_uniform arguments) version refused.2
    (refusal_is refused.0 refused.1)
version_not_refused arguments version (inr (inl lacks)) =
    none_among (fault_of navtex arguments) DisplayVersion lacks.taken version
version_not_refused arguments version (inr (inr (inl lacks))) =
    none_among (fault_of navtex arguments) DisplayVersion lacks.taken version
version_not_refused arguments version (inr (inr (inr lacks))) =
    none_among (fault_of navtex arguments) DisplayVersion
    (unfit-taken arguments lacks.0 lacks.1) version

pub named_not_help : (arguments : List Text) (call : Call) → Names arguments call
    → AsksForHelp arguments → ⊥
named_not_help arguments call named help =
    none_among (fault_of navtex arguments) DisplayHelp named.taken help

pub named_not_version : (arguments : List Text) (call : Call) → Names arguments call
    → AsksForVersion arguments → ⊥
named_not_version arguments call named version =
    none_among (fault_of navtex arguments) DisplayVersion named.taken version

-- the values with which the arguments enter this command
entered_once : (arguments : List Text) (a b : Text) (first second : List Row)
    → subcommand_of navtex arguments ≡ Some (a, first)
    → subcommand_of navtex arguments ≡ Some (b, second)
    → (a ≡ b) × (first ≡ second)
entered_once arguments a b first second one other =
    let same : Some (a, first) ≡ Some (b, second) = sym one ∙ other in
    let is : (a, first) ≡ (b, second) = cc in
    (ap (λ (p : Text × List Row). p.0) is, ap (λ (p : Text × List Row). p.1) is)

named-lacks_station : (arguments : List Text) (call : Call) → Names arguments call
    → LacksStation arguments → ⊥
named-lacks_station arguments call named lacks = elim lacks.entered [
  | inl send ↦ go (codes "send") (inl refl) (entered_once arguments _ _ _ _ named.command send)
  | inr slots ↦ go (codes "slots") (inr refl) (entered_once arguments _ _ _ _ named.command slots)
]
  where
    go : (name : Text) → IsSlotName name
        → (command_name call ≡ name) × (named.values ≡ lacks.values) → ⊥
    go name is same =
        let P : Text → Type 0 = λ n. IsSlotName n in
        let station = has-station call named.values (subst P (sym same.0) is) named.given in
        let Q : List Row → Type 0 = λ rows. IsStation rows station.0 in
        lacks.no_letter station.0 (subst Q same.1 station.1)

named-lacks_kind : (arguments : List Text) (call : Call) → Names arguments call
    → LacksKind arguments → ⊥
named-lacks_kind arguments call named lacks =
    let same = entered_once arguments _ _ _ _ named.command lacks.entered in
    let kind = has-kind call named.values same.0 named.given in
    let Q : List Row → Type 0 = λ rows. IsKind rows kind.0 in
    lacks.no_kind kind.0 (subst Q same.1 kind.1)

named-lacks_moment : (arguments : List Text) (call : Call) (report : Text) → Names arguments call
    → LacksMoment arguments report → ⊥
named-lacks_moment arguments call report named lacks =
    let same = entered_once arguments _ _ _ _ named.command lacks.entered in
    let P : Text → Type 0 = λ n. TakesMoment n in
    let moment = has-moment call named.values (subst P (sym same.0) lacks.takes) named.given in
    let Q : List Row → Type 0 = λ rows. IsMoment rows moment.0 in
    lacks.reported.no_moment moment.0
    (moment-said lacks.values lacks.reported.text moment.0 lacks.reported.given
    (subst Q same.1 moment.1))

named-lacks_value : (arguments : List Text) (call : Call) (report : Text) → Names arguments call
    → LacksValue arguments report → ⊥
named-lacks_value arguments call report named lacks =
    let same = entered_once arguments _ _ _ _ named.command lacks.entered in
    let asked = subst AreAsked same.1 (has-asked call named.values same.0 named.given) in
    elim lacks.reported [
      | inl r ↦ asked_not_unfit lacks.values asked r.option r.text r.unfit
      | inr r ↦ asked_not_clash lacks.values asked r.clash r.given
    ]

pub named_not_refused : (arguments : List Text) (call : Call) → Names arguments call
    → IsRefused arguments → ⊥
named_not_refused arguments call named (inl refused) =
    none_among (fault_of navtex arguments) refused.0 named.taken refused.2
named_not_refused arguments call named (inr (inl lacks)) =
    named-lacks_station arguments call named lacks
named_not_refused arguments call named (inr (inr (inl lacks))) =
    named-lacks_kind arguments call named lacks
named_not_refused arguments call named (inr (inr (inr (report, inl lacks)))) =
    named-lacks_value arguments call report named lacks
named_not_refused arguments call named (inr (inr (inr (report, inr lacks)))) =
    named-lacks_moment arguments call report named lacks

-- what arguments with no call lack, which clap takes: a station, a kind of damage, a moment, or an
-- option's value that names something
pub data Lacks (arguments : List Text) (name : Text) (values : List Row) : Type 0 where
  a_station : IsSlotName name → LacksStation arguments → Lacks arguments name values
  a_kind : name ≡ codes "damage" → LacksKind arguments → Lacks arguments name values
  a_moment : TakesMoment name → (text : Text) → HasUnfitMoment values text
      → Lacks arguments name values
  a_value : name ≡ codes "log" → (report : Text) → LacksValue arguments report
      → Lacks arguments name values

slot-takes_moment : (name : Text) → IsSlotName name → TakesMoment name
slot-takes_moment name (inl send) = inl send
slot-takes_moment name (inr slots) = inr (inl slots)

lacks_value : (arguments : List Text) (name : Text) (values : List Row)
    → fault_of navtex arguments ≡ []
    → subcommand_of navtex arguments ≡ Some (name, values)
    → IsNotCalled name values
    → Lacks arguments name values
lacks_value arguments name values taken entered none =
    let command = taken-command arguments name values taken entered in
    go command.maker command.makes command.gives
  where
    go : (maker : Maker) → Makes name maker → Gives maker values
        → Lacks arguments name values
    go (plain call) makes gives = absurd (let has = makes values in none call has.0 has.1)
    go (by_sendings make) makes gives =
        absurd (let has = makes.1 values _ refl in none (make _) has.0 has.1)
    go (slot make) makes gives = elim (moment_of_text gives.text) [
      | inr no_moment ↦ a_moment (slot-takes_moment name makes.0) gives.text
          (record { given = gives.given; no_moment = no_moment })
      | inl moment ↦ a_station makes.0 (record {
        taken = taken;
        values = values;
        entered = elim makes.0 [
          | inl send ↦ inl (entered ∙ ap (λ (t : Text). Some (t, values)) send)
          | inr slots ↦ inr (entered ∙ ap (λ (t : Text). Some (t, values)) slots)
        ];
        no_letter = λ letter found.
            let is = moment-given values gives.text moment.0 gives.given moment.1 in
            let has = makes.1 values letter moment.0 found is in
            none (make letter moment.0) has.0 has.1;
      })
    ]
    go (on_file make) makes gives = elim (moment_of_text gives.1.text) [
      | inr no_moment ↦ a_moment (inr (inr makes.0)) gives.1.text
          (record { given = gives.1.given; no_moment = no_moment })
      | inl moment ↦
          let is = moment-given values gives.1.text moment.0 gives.1.given moment.1 in
          let has = makes.1 values _ gives.0.text moment.0 refl gives.0.given is in
          absurd (none (make _ gives.0.text moment.0) has.0 has.1)
    ]
    go (range make) makes gives =
        let from = number-given _ _ values gives.0 in
        let count = number-given _ _ values gives.1 in
        a_kind makes.0 (record {
          taken = taken;
          values = values;
          entered = entered ∙ ap (λ (t : Text). Some (t, values)) makes.0;
          no_kind = λ kind found.
              let has = makes.1 values kind from.0 count.0 found from.1 count.1 in
              none (make kind from.0 count.0) has.0 has.1;
        })
    go (options make) makes gives = elim (asked_or_not values) [
      | inl a ↦ absurd (let has = makes.1 values a.query a.form a.reading a.is_query a.in_order
          a.is_form a.is_reading in
          none (make a.query a.form a.reading) has.0 has.1)
      | inr (inr clash) ↦ a_value makes.0 (clash_report clash.0) (record {
        taken = taken;
        values = values;
        entered = entered ∙ ap (λ (t : Text). Some (t, values)) makes.0;
        reported = inr (record { clash = clash.0; given = clash.1; told = refl });
      })
      | inr (inl unfit) ↦ a_value makes.0 (value_report unfit.0 unfit.1) (record {
        taken = taken;
        values = values;
        entered = entered ∙ ap (λ (t : Text). Some (t, values)) makes.0;
        reported = inl (record {
          option = unfit.0;
          text = unfit.1;
          unfit = unfit.2;
          told = refl;
        });
      })
    ]

-- a call without values has no number among them
no_numbers : (name : Text) (number : ℕ) → IsNumber name [] number → ⊥
no_numbers name number is =
    let bad : None ≡ Some is.text = is.given in
    absurd (cc)

-- the calls of a command without values have no number among them
plain_no_number : (call other : Call) (rows : List Row)
    → ((rows : List Row) → HasCall (command_name call) rows other)
    → HasValues call rows → (name : Text) (number : ℕ)
    → ((rows : List Row) → HasValues call rows → IsNumber name rows number) → ⊥
plain_no_number call other rows makes given name number gives =
    let same = same_call other call rows (sym (makes rows).0) (makes rows).1 given in
    let P : Call → Type 0 = λ c. HasValues c [] in
    no_numbers name number (gives [] (subst P same (makes []).1))

not_both : (name : Text) → IsSlotName name → name ≡ codes "damage" → ⊥
not_both name (inl send) damage = differ _ _ refl (sym send ∙ damage)
not_both name (inr slots) damage = differ _ _ refl (sym slots ∙ damage)

-- the moment of a call that takes one is in its range
pub send-bound : (arguments : List Text) (station : Letter) (moment : ℕ)
    → Names arguments (Send station moment)
    → moment ≤ 32503679999
send-bound arguments station moment named = named.given.1.said.in_range

pub slots-bound : (arguments : List Text) (station : Letter) (moment : ℕ)
    → Names arguments (Slots station moment)
    → moment ≤ 32503679999
slots-bound arguments station moment named = named.given.1.said.in_range

-- and that of a watch
pub watch-bound : (arguments : List Text) (sendings : Sendings) (name : Text) (moment : ℕ)
    → Names arguments (Watch sendings name moment)
    → moment ≤ 32503679999
watch-bound arguments sendings name moment named = named.given.2.said.in_range

-- and so are the numbers of a call that damages
pub damage-bounds : (arguments : List Text) (kind : DamageKind) (from count : ℕ)
    → Names arguments (Damage kind from count)
    → (from ≤ 4294967295) × (count ≤ 4294967295)
damage-bounds arguments kind from count named =
    let command = taken-command arguments (codes "damage") named.values named.taken named.command in
    go command.maker command.makes command.gives
  where
    go : (maker : Maker) → Makes (codes "damage") maker → Gives maker named.values
        → (from ≤ 4294967295) × (count ≤ 4294967295)
    go (plain other) makes given = absurd
        (plain_no_number (Damage kind from count) other named.values makes named.given
        (codes "FROM") from
        (λ rows has. has.1))
    go (slot make) makes given = absurd (not_both _ makes.0 refl)
    go (by_sendings make) makes given = absurd (differ _ _ refl makes.0)
    go (options make) makes given = absurd (differ _ _ refl makes.0)
    go (on_file make) makes given = absurd (differ _ _ refl makes.0)
    go (range make) makes given =
        let first = number-given _ _ named.values given.0 in
        let second = number-given _ _ named.values given.1 in
        let P : ℕ → Type 0 = λ n. n ≤ 4294967295 in (
          subst P (number_once (codes "FROM") named.values first.0 from first.1 named.given.1)
              first.2,
          subst P (number_once (codes "COUNT") named.values second.0 count second.1
              named.given.2) second.2,
        )

-- where clap takes the arguments, they enter a command
pub taken_enters : (arguments : List Text) → fault_of navtex arguments ≡ []
    → is_some (subcommand_of navtex arguments) ≡ true
taken_enters arguments taken =
    level-nil (built navtex).top (names_of (built navtex)) nothing_held
    (argument_words navtex arguments) _ _ refl taken

-- the report of a MOMENT that says none
reported_moment : (arguments : List Text) (name : Text) (values : List Row) (report : Text)
    → fault_of navtex arguments ≡ [] → subcommand_of navtex arguments ≡ Some (name, values)
    → TakesMoment name → IsReportedMoment values report → LacksMoment arguments report
reported_moment arguments name values report taken entered takes reported = record {
  taken = taken;
  name = name;
  values = values;
  entered = entered;
  takes = takes;
  reported = reported;
}

refused_by : (arguments : List Text) (name : Text) (values : List Row)
    → fault_of navtex arguments ≡ [] → subcommand_of navtex arguments ≡ Some (name, values)
    → Lacks arguments name values
    → IsRefused arguments
refused_by arguments name values taken entered (a_station is lacks) = inr (inl lacks)
refused_by arguments name values taken entered (a_kind is lacks) = inr (inr (inl lacks))
refused_by arguments name values taken entered (a_moment is text unfit) =
    inr (inr (inr (
      moment_report text,
      inr (reported_moment arguments name values
          (moment_report text) taken entered is (record {
            text = text;
            given = unfit.given;
            no_moment = unfit.no_moment;
            told = refl;
          })),
    )))
refused_by arguments name values taken entered (a_value is report lacks) =
    inr (inr (inr (report, inl lacks)))

named_by : (arguments : List Text) → fault_of navtex arguments ≡ [] → (e : Option (Text × List Row))
    → subcommand_of navtex arguments ≡ e → is_some e ≡ true
    → ((call : Call) × Names arguments call) ⊎ IsRefused arguments
named_by arguments taken None entered some = absurd (cc)
named_by arguments taken (Some p) entered some = elim (call_or_none p.0 p.1) [
  | inl call ↦ inl (
    call.0,
    record {
      taken = taken;
      values = p.1;
      command = entered ∙ ap (λ (t : Text). Some (t, p.1)) call.1.0;
      given = call.1.1;
    },
  )
  | inr none ↦ inr (refused_by arguments p.0 p.1 taken entered
      (lacks_value arguments p.0 p.1 taken entered none))
]

-- each list of arguments names a call, asks for help, asks for the version or is refused
pub read_as_one : (arguments : List Text)
    → ((call : Call) × Names arguments call)
    ⊎ (AsksForHelp arguments ⊎ (AsksForVersion arguments ⊎ IsRefused arguments))
read_as_one arguments = elim (kinds_cases (fault_of navtex arguments)) [
  | inl taken ↦ elim (named_by arguments taken (subcommand_of navtex arguments) refl
      (taken_enters arguments taken)) [
        | inl named ↦ inl named
        | inr refused ↦ inr (inr (inr refused))
      ]
  | inr (inl help) ↦ inr (inl help)
  | inr (inr (inl version)) ↦ inr (inr (inl version))
  | inr (inr (inr refused)) ↦ inr (inr (inr (inl refused)))
]

-- and it names at most one
pub named_once : (arguments : List Text) (a b : Call) → Names arguments a → Names arguments b
    → a ≡ b
named_once arguments a b first second =
    let same : Some (command_name a, first.values) ≡ Some (command_name b, second.values) =
    sym first.command
    ∙ second.command in
    let is : (command_name a, first.values) ≡ (command_name b, second.values) = cc in
    let P : List Row → Type 0 = λ rows. HasValues b rows in
    same_call a b first.values (ap (λ (q : Text × List Row). q.0) is) first.given
    (subst P (sym (ap (λ (q : Text × List Row). q.1) is)) second.given)

-- the arguments name the call that their command and its values have
pub call-named : (arguments : List Text) (name : Text) (values : List Row) (call : Call)
    → fault_of navtex arguments ≡ [] → subcommand_of navtex arguments ≡ Some (name, values)
    → (name ≡ command_name call) × HasValues call values
    → Names arguments call
call-named arguments name values call taken entered is = record {
  taken = taken;
  values = values;
  command = entered ∙ ap (λ (t : Text). Some (t, values)) is.0;
  given = is.1;
}

-- why they name none, where a moment may be what is wrong
moment-refused : (arguments : List Text) (name : Text) (values : List Row) (why : ArgumentsFault)
    → fault_of navtex arguments ≡ [] → subcommand_of navtex arguments ≡ Some (name, values)
    → TakesMoment name → ExplainsMoment values why
    → (HasFitMoment values → LacksStation arguments) → ExplainsArguments arguments why
moment-refused arguments name values Station taken entered takes explains fit = fit explains
moment-refused arguments name values (Value report) taken entered takes explains fit =
    inr (reported_moment arguments name values (string_bytes report) taken entered takes explains)
moment-refused arguments name values (Memory want) taken entered takes explains fit = tt
moment-refused arguments name values (Help answer) taken entered takes explains fit =
    absurd explains
moment-refused arguments name values Version taken entered takes explains fit = absurd explains
moment-refused arguments name values (Refused answer) taken entered takes explains fit =
    absurd explains
moment-refused arguments name values Kind taken entered takes explains fit = absurd explains

takes_moment-not_damage : (name : Text) → TakesMoment name → name ≡ codes "damage" → ⊥
takes_moment-not_damage name (inl send) damage = differ _ _ refl (sym send ∙ damage)
takes_moment-not_damage name (inr (inl slots)) damage = differ _ _ refl (sym slots ∙ damage)
takes_moment-not_damage name (inr (inr watch)) damage = differ _ _ refl (sym watch ∙ damage)

pub call-refused : (arguments : List Text) (name : Text) (values : List Row)
    (why : ArgumentsFault)
    → fault_of navtex arguments ≡ [] → subcommand_of navtex arguments ≡ Some (name, values)
    → name ≢ codes "log" → IsNotCalled name values
    → (name ≡ codes "damage" → why ≡ Kind)
    → (name ≢ codes "damage" → ExplainsMoment values why)
    → ExplainsArguments arguments why
call-refused arguments name values why taken entered other none kind others =
    go (lacks_value arguments name values taken entered none)
  where
    go : Lacks arguments name values → ExplainsArguments arguments why
    go (a_station is lacks) =
        let takes = slot-takes_moment name is in
        moment-refused arguments name values why taken entered takes
        (others (takes_moment-not_damage name takes)) (λ fit. lacks)
    go (a_kind damage lacks) = rw (kind damage) lacks
    go (a_moment takes text unfit) =
        moment-refused arguments name values why taken entered takes
        (others (takes_moment-not_damage name takes))
        (λ fit. let moment = fit text unfit.given in
        absurd (unfit.no_moment moment.0 moment.1))
    go (a_value log report lacks) = absurd (other log)

-- the same of the call of the options of `log`
pub options-named : (arguments : List Text) (values : List Row)
    (outcome : Result Call ArgumentsFault)
    → fault_of navtex arguments ≡ [] → subcommand_of navtex arguments ≡ Some (codes "log", values)
    → IfOk outcome (λ call. (command_name call ≡ codes "log") × HasValues call values)
    → IfOk outcome (Names arguments)
options-named arguments values (Ok call) taken entered ok = record {
  taken = taken;
  values = values;
  command = entered ∙ ap (λ (t : Text). Some (t, values)) (sym ok.0);
  given = ok.1;
}
options-named arguments values (Err why) taken entered ok = tt

pub options-refused : (arguments : List Text) (values : List Row)
    (outcome : Result Call ArgumentsFault)
    → fault_of navtex arguments ≡ [] → subcommand_of navtex arguments ≡ Some (codes "log", values)
    → IfErr outcome (ExplainsOptions values) → IfErr outcome (ExplainsArguments arguments)
options-refused arguments values (Ok call) taken entered err = tt
options-refused arguments values (Err (Value report)) taken entered err = inl (record {
  taken = taken;
  values = values;
  entered = entered;
  reported = err;
})
options-refused arguments values (Err (Memory want)) taken entered err = tt
options-refused arguments values (Err (Help answer)) taken entered err = absurd err
options-refused arguments values (Err Version) taken entered err = absurd err
options-refused arguments values (Err (Refused answer)) taken entered err = absurd err
options-refused arguments values (Err Station) taken entered err = absurd err
options-refused arguments values (Err Kind) taken entered err = absurd err

pub unknown_is_refusal : IsRefusal kind.UnknownArgument
unknown_is_refusal = (λ e. absurd (cc), λ e. absurd (cc))

pub missing_is_refusal : IsRefusal kind.MissingSubcommand
missing_is_refusal = (λ e. absurd (cc), λ e. absurd (cc))

pub missing_argument_is_refusal : IsRefusal kind.MissingRequiredArgument
missing_argument_is_refusal = (λ e. absurd (cc), λ e. absurd (cc))

pub invalid_is_refusal : IsRefusal kind.ValueValidation
invalid_is_refusal = (λ e. absurd (cc), λ e. absurd (cc))

pub conflict_is_refusal : IsRefusal kind.ArgumentConflict
conflict_is_refusal = (λ e. absurd (cc), λ e. absurd (cc))
