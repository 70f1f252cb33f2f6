-- Clap's faults of one parse are all help, all the version, or all refusals, for a command with no
-- subcommand `help`. In the definitions of clap's faults, and so here, a word is one argument.
use Rattle.std.proofs.Common.{◌≡◌, ◌∙◌, ℕ, ◌+◌, zero, suc, ◌&&◌, Bool, true, false, not, List, []}
use Rattle.std.proofs.Common.{◌∷◌, Option, Some, None, IfSome, refl, ap, sym, ◌⊎◌, subst, inl, inr}
use Rattle.std.proofs.Common.{codes, drop, length, slice_get, encode_utf8, is_some, min}
use Rattle.std.proofs.Common.{if◌then◌else◌}
use Rattle.std.specs.Option.{option_map_or}
use Rattle.std.specs.List.{list_any}
use Rattle.std.specs.Str.{bytes_eq, chars}
use Rattle.clap.specs.Lexer.{long_of, short_of}
use Rattle.clap.specs.Facts.{explicit_source, parser_of_value, unwrap_or_range}
use Rattle.clap.specs.Matches.{count_text}
use Rattle.clap.specs.Walk.{arg_by_id, arg_by_index, arg_by_long, arg_by_short, attached_value}
use Rattle.clap.specs.Walk.{count_of, reacted, subcommand_met, walked, word_met}
use Rattle.clap.specs.Takes.{is_given}
use Rattle.clap.specs.Words.{Rule, Text, IsAmong, Kinds, Shape}
use Rattle.clap.specs.Walk.{Held, Names, Row, Step, Waiting, Walk, action_of, finished, most_values}
use Rattle.clap.specs.Walk.{settled, values_or_missing, walk, walk_from, with_default, next}
use Rattle.clap.specs.Walk.{trailing, subcommand, value}
use Rattle.clap.specs.Kinds.{check_kinds, or_else, range_kinds, request_kinds, value_kinds}
use Rattle.clap.specs.Kinds.{values_kinds}
use Rattle.clap.specs.Faults.{action_fault, bundle_step_fault, check_fault, count_fault}
use Rattle.clap.specs.Faults.{default_fault, defaults_fault, flag_word_fault, flags_fault}
use Rattle.clap.specs.Faults.{level_fault, long_fault, option_fault, other_fault, react_fault}
use Rattle.clap.specs.Faults.{set_fault, settle_fault, short_fault, step_fault, stray_fault}
use Rattle.clap.specs.Faults.{turn_fault, use_fault, walk_fault, word_fault}
use Rattle.clap.specs.declared.builder.action.ArgAction.{ArgAction}
use Rattle.clap.specs.declared.builder.action.ArgAction.TheVariants.{Set, Append, SetTrue, SetFalse}
use Rattle.clap.specs.declared.builder.action.ArgAction.TheVariants.{Count, Help, HelpShort}
use Rattle.clap.specs.declared.builder.action.ArgAction.TheVariants.{HelpLong, Version}
use Rattle.clap.specs.declared.builder.value_parser.ValueParser.{ValueParser}
use Rattle.clap.specs.declared.error.kind.ErrorKind.{ErrorKind}
use Rattle.clap.specs.declared.error.kind.ErrorKind.TheVariants as kind
use Rattle.nx_program.proofs.lemmas.arguments.RowsKept.{or-second}
use Rattle.nx_program.specs.Arguments.{IsRefusal}

-- what an answer of clap is to the program
pub data Answer : Type 0 where
  giving_help : Answer
  giving_version : Answer
  refusing : Answer

abbrev pub answer_of : ErrorKind → Answer
answer_of kind.DisplayHelp = giving_help
answer_of kind.DisplayVersion = giving_version
answer_of _ = refusing

kind_cases : (k : ErrorKind)
    → (k ≡ kind.DisplayHelp) ⊎ ((k ≡ kind.DisplayVersion) ⊎ (answer_of k ≡ refusing))
kind_cases kind.DisplayHelp = inl refl
kind_cases kind.DisplayVersion = inr (inl refl)
kind_cases kind.InvalidValue = inr (inr refl)
kind_cases kind.UnknownArgument = inr (inr refl)
kind_cases kind.InvalidSubcommand = inr (inr refl)
kind_cases kind.NoEquals = inr (inr refl)
kind_cases kind.ValueValidation = inr (inr refl)
kind_cases kind.TooManyValues = inr (inr refl)
kind_cases kind.TooFewValues = inr (inr refl)
kind_cases kind.WrongNumberOfValues = inr (inr refl)
kind_cases kind.ArgumentConflict = inr (inr refl)
kind_cases kind.MissingRequiredArgument = inr (inr refl)
kind_cases kind.MissingSubcommand = inr (inr refl)
kind_cases kind.DisplayHelpOnMissingArgumentOrSubcommand = inr (inr refl)
kind_cases kind.Io = inr (inr refl)
kind_cases kind.Format = inr (inr refl)
kind_cases kind.OutOfMemory = inr (inr refl)

is_refusal : (k : ErrorKind) → answer_of k ≡ refusing → IsRefusal k
is_refusal k is = (
  λ e. let bad : refusing ≡ giving_help = sym is ∙ ap answer_of e in absurd (cc),
  λ e. let bad : refusing ≡ giving_version = sym is ∙ ap answer_of e in absurd (cc),
)

pub refusal_is : (k : ErrorKind) → IsRefusal k → answer_of k ≡ refusing
refusal_is k other = elim (kind_cases k) [
  | inl is ↦ absurd (other.0 is)
  | inr rest ↦ elim rest [ inl is ↦ absurd (other.1 is) | inr is ↦ is ]
]

-- each kind of the list is this answer
abbrev pub AreAll : Answer → Kinds → Type 0
AreAll b [] = Unit {0}
AreAll b (k ∷ ks) = (answer_of k ≡ b) × AreAll b ks

pub record IsUniform (kinds : Kinds) : Type 0 where
  pub answer : Answer
  pub all : AreAll answer kinds

among_is : (b : Answer) (k : ErrorKind) (ks : Kinds) → AreAll b ks → IsAmong k ks → answer_of k ≡ b
among_is b k [] all among = absurd among
among_is b k (x ∷ xs) all among = elim among [
  | inl same ↦ let P : ErrorKind → Type 0 = λ j. answer_of j ≡ b in subst P (sym same) all.0
  | inr later ↦ among_is b k xs all.1 later
]

-- two kinds in one uniform list are the same answer
pub uniform_answers : (kinds : Kinds) (j k : ErrorKind) → IsUniform kinds → IsAmong j kinds
    → IsAmong k kinds
    → answer_of j ≡ answer_of k
uniform_answers kinds j k u first second =
    among_is u.answer j kinds u.all first ∙ sym (among_is u.answer k kinds u.all second)

-- so neither help nor the version stands there beside a refusal, nor one beside the other
pub help-alone : (kinds : Kinds) (k : ErrorKind) → IsUniform kinds → IsAmong kind.DisplayHelp kinds
    → IsAmong k kinds
    → answer_of k ≡ refusing → ⊥
help-alone kinds k u asked among is =
    let bad : giving_help ≡ refusing =
    uniform_answers kinds kind.DisplayHelp k u asked among ∙ is in absurd (cc)

pub version-alone : (kinds : Kinds) (k : ErrorKind) → IsUniform kinds
    → IsAmong kind.DisplayVersion kinds
    → IsAmong k kinds → answer_of k ≡ refusing → ⊥
version-alone kinds k u shown among is =
    let bad : giving_version ≡ refusing =
    uniform_answers kinds kind.DisplayVersion k u shown among ∙ is in absurd (cc)

pub help-no_version : (kinds : Kinds) → IsUniform kinds → IsAmong kind.DisplayHelp kinds
    → IsAmong kind.DisplayVersion kinds → ⊥
help-no_version kinds u asked shown =
    let bad : giving_help ≡ giving_version =
    uniform_answers kinds kind.DisplayHelp kind.DisplayVersion u asked shown in absurd (cc)

pub u-none : IsUniform []
u-none = record { answer = refusing; all = tt }

u-one : (k : ErrorKind) → IsUniform (k ∷ [])
u-one k = record { answer = answer_of k; all = (refl, tt) }

u-or : (a b : Kinds) → IsUniform a → IsUniform b → IsUniform (or_else a b)
u-or [] b ua ub = ub
u-or (k ∷ ks) b ua ub = ua

u-if : (b : Bool) (x y : Kinds) → IsUniform x → IsUniform y → IsUniform (if b then x else y)
u-if true x y ux uy = ux
u-if false x y ux uy = uy

pub u-option : {X : Type 0} (f : X → Kinds) (o : Option X) (d : Kinds)
    → IfSome o (λ x. IsUniform (f x))
    → IsUniform d → IsUniform (option_map_or f o d)
u-option f None d some none = none
u-option f (Some x) d some none = some

u-option-each : {X : Type 0} (f : X → Kinds) (o : Option X) (d : Kinds)
    → ((x : X) → IsUniform (f x)) → IsUniform d
    → IsUniform (option_map_or f o d)
u-option-each f None d each none = none
u-option-each f (Some x) d each none = each x

u-value : (i : Bool) (p : ValueParser) (v : Text) → IsUniform (value_kinds i p v)
u-value i p v = u-if _ _ _ u-none (u-one _)

u-values : (i : Bool) (p : ValueParser) (vs : List Text) → IsUniform (values_kinds i p vs)
u-values i p [] = u-none
u-values i p (v ∷ vs) = u-or _ _ (u-value i p v) (u-values i p vs)

u-count : (a : Rule) (vs : List Text) (rows : List Row) → IsUniform (count_fault a vs rows)
u-count a [] rows = u-value a.ignore_case (parser_of_value a.parser)
    (count_text (min (count_of a.id rows + 1) 255))
u-count a (v ∷ vs) rows = u-values _ _ (v ∷ vs)

u-set : (again : Bool) (a : Rule) (vs : List Text) (rows : List Row)
    → IsUniform (set_fault again a vs rows)
u-set again a vs rows = u-or _ _ (u-if _ _ _ (u-one _) u-none) (u-values _ _ vs)

u-action : (x : ArgAction) (again : Bool) (a : Rule) (vs : List Text) (rows : List Row)
    → IsUniform (action_fault x again a vs rows)
u-action Set again a vs rows = u-set again a vs rows
u-action SetTrue again a vs rows = u-set again a vs rows
u-action SetFalse again a vs rows = u-set again a vs rows
u-action Append again a vs rows = u-values _ _ vs
u-action Count again a vs rows = u-count a vs rows
u-action Help again a vs rows = u-one _
u-action HelpShort again a vs rows = u-one _
u-action HelpLong again a vs rows = u-one _
u-action Version again a vs rows = u-one _

u-range : (least most n : ℕ) → IsUniform (range_kinds least most n)
u-range least most n = search (u-if, u-one, u-none)

u-use : (again : Bool) (a : Rule) (vs : List Text) (rows : List Row)
    → IsUniform (use_fault again a vs rows)
u-use again a vs rows =
    u-or _ _ (u-range (unwrap_or_range a.range).start_inclusive (most_values a) (length vs))
    (u-action (action_of a) again a (values_or_missing a vs) rows)

u-settle : (c : List Rule) (again : Bool) (h : Held) → IsUniform (settle_fault c again h)
u-settle c again h =
    u-option-each _ h.pending [] (λ p. u-option-each _ (arg_by_id c p.0) []
    (λ a. u-use again a p.1 h.rows) u-none) u-none

u-react : (c : List Rule) (again : Bool) (a : Rule) (vs : List Text) (h : Held)
    → IsUniform (react_fault c again a vs h)
u-react c again a vs h = u-or _ _ (u-settle c again h) (u-use again a vs (settled c h).rows)

u-opt : (c : List Rule) (again : Bool) (a : Rule) (v : Option Text) (h : Held)
    → IsUniform (option_fault c again a v h)
u-opt c again a (Some v) h = u-react c again a (v ∷ []) h
u-opt c again a None h = u-settle c again h

u-long : (c : List Rule) (again : Bool) (a : Option Rule) (v : Option Text) (h : Held)
    → IsUniform (long_fault c again a v h)
u-long c again None v h = u-one _
u-long c again (Some a) v h =
    u-if _ _ _ (u-opt c again a v h) (u-if _ _ _ (u-one _) (u-react c again a [] h))

u-short : (c : List Rule) (again : Bool) (a : Option Rule) (rest : Text) (h : Held)
    (more : Held → Kinds)
    → ((g : Held) → IsUniform (more g)) → IsUniform (short_fault c again a rest h more)
u-short c again None rest h more each = u-one _
u-short c again (Some a) rest h more each =
    u-if _ _ _ (u-opt c again a (attached_value rest) h)
    (u-or _ _ (u-react c again a [] h) (each (reacted c a [] h)))

u-bundle-step : (c : List Rule) (again : Bool) (x : Option ℕ) (flags : Text) (skip : ℕ) (h : Held)
    (more : Text → ℕ
    → Held → Kinds)
    → ((t : Text) (n : ℕ) (g : Held) → IsUniform (more t n g))
    → IsUniform (bundle_step_fault c again x flags skip h more)
u-bundle-step c again None flags skip h more each = u-none
u-bundle-step c again (Some x) flags zero h more each =
    let rest = drop (length (encode_utf8 x)) flags in
    u-short c again (arg_by_short c x) rest h (more rest 0) (each rest 0)
u-bundle-step c again (Some x) flags (suc skip) h more each =
    each (drop (length (encode_utf8 x)) flags) skip h

u-flags : (c : List Rule) (again : Bool) (k : ℕ) (flags : Text) (skip : ℕ) (h : Held)
    → IsUniform (flags_fault c again k flags skip h)
unfolding flags_fault
u-flags c again zero flags skip h = u-none
u-flags c again (suc k) flags skip h =
    u-bundle-step c again (slice_get (chars flags) 0) flags skip h
    (flags_fault c again k) (u-flags c again k)

u-flag-word : (c : List Rule) (again : Bool) (p : Option (Text × Option Text)) (word : Text)
    (h : Held)
    → IsUniform (flag_word_fault c again p word h)
u-flag-word c again (Some p) word h = u-long c again (arg_by_long c p.0) p.1 h
u-flag-word c again None word h =
    u-option-each _ (short_of word) [] (λ flags. u-flags c again (length flags) flags h.skip
    (record h { skip = 0 })) u-none

-- a command whose arguments include no request `help`
abbrev pub HasNoHelp : Shape → Type 0
HasNoHelp s = s.disable_help_subcommand ≡ true

u-help : (named disabled : Bool) → disabled ≡ true
    → IsUniform (if named && not disabled then kind.DisplayHelp ∷ kind.InvalidSubcommand
    ∷ [] else [])
u-help named true is = elim named as (λ b. IsUniform
    (if b && false then kind.DisplayHelp ∷ kind.InvalidSubcommand ∷ [] else [])) [
      | true ↦
          u-none
      | false ↦ u-none
    ]
u-help named false is = absurd (cc)

u-other : (s : Shape) (name : Option Text) (word : Text) (h : Held) → HasNoHelp s
    → IsUniform (other_fault s name word h)
u-other s (Some name) word h off =
    u-help (bytes_eq name (codes "help")) s.disable_help_subcommand off
u-other s None word h off =
    u-if _ _ _ u-none (u-flag-word s.rules s.args_override_self (long_of word) word h)

u-word : (s : Shape) (names : Names) (after : Bool) (waiting : Waiting) (word : Text) (h : Held)
    → HasNoHelp s
    → IsUniform (word_fault s names after waiting word h)
u-word s names after waiting word h off =
    u-if _ _ _ u-none (u-other s (subcommand_met names waiting word) word h off)

u-strays : IsUniform (kind.UnknownArgument ∷ kind.InvalidSubcommand ∷ [])
u-strays = record { answer = refusing; all = (refl, (refl, tt)) }

u-stray : (s : Shape) → IsUniform (stray_fault s)
u-stray s = u-if s.is_leaf _ _ (u-one _) u-strays

u-step : (s : Shape) (position : ℕ) (h : Held) (step : Step)
    → IsUniform (step_fault s position h step)
u-step s position h value =
    u-option-each _ (arg_by_index s.rules position) (stray_fault s)
    (λ a. u-if _ _ _ u-none (u-settle s.rules s.args_override_self h)) (u-stray s)
u-step s position h (next waiting) = u-none
u-step s position h (trailing at) = u-none
u-step s position h (subcommand name) = u-none

u-turn : (s : Shape) (names : Names) (w : Walk) (word : Text) → HasNoHelp s
    → IsUniform (turn_fault s names w word)
u-turn s names w word off =
    let met = word_met s.rules names w.is_trailing w.waiting w.position word w.held in
    u-if (is_some w.stopped) _ _ u-none
    (u-or _ _ (u-word s names w.is_trailing w.waiting word w.held off)
    (u-step s w.position met.0 met.1))

u-walk : (s : Shape) (names : Names) (w : Walk) (words : List Text) → HasNoHelp s
    → IsUniform (walk_fault s names w words)
unfolding walk_fault
u-walk s names w [] off = u-none
u-walk s names w (word ∷ rest) off = u-or _ _ (u-turn s names w word off) (u-walk s names
    (walked s.rules names w word) rest off)

u-request : (x : ArgAction) → IsUniform (request_kinds x)
u-request Set = u-none
u-request SetTrue = u-none
u-request SetFalse = u-none
u-request Append = u-none
u-request Count = u-none
u-request Help = u-one _
u-request HelpShort = u-one _
u-request HelpLong = u-one _
u-request Version = u-one _

u-default : (rows : List Row) (a : Rule) → IsUniform (default_fault rows a)
u-default rows a = search (u-if, u-or, u-none, u-request, u-values)

u-defaults : (rules : List Rule) (rows : List Row) → IsUniform (defaults_fault rows rules)
unfolding defaults_fault
u-defaults [] rows = u-none
u-defaults (a ∷ rest) rows = u-or _ _ (u-default rows a) (u-defaults rest (with_default rows a))

u-check : (help entering argument : Bool) → IsUniform (check_kinds help entering argument)
u-check help entering argument = search (u-if, u-one, u-none)

u-checked : (s : Shape) (rows : List Row) (has : Bool) → IsUniform (check_fault s rows has)
u-checked s rows has =
    u-check
    (not has && (s.arg_required_else_help && not (list_any (λ r. explicit_source r.source) rows)))
    (not has && s.subcommand_required)
    (not (s.subcommand_negates_reqs && has)
    && list_any (λ a. a.required && not (is_given a.id rows)) s.rules)

pub u-level : (s : Shape) (names : Names) (h : Held) (words : List Text) (has_subcommand : Bool)
    (below : Kinds)
    → HasNoHelp s → IsUniform below → IsUniform (level_fault s names h words has_subcommand below)
u-level s names h words has_subcommand below off u =
    let end = (walk s.rules names h words).held in
    u-or _ _ (u-walk s names (walk_from h) words off)
    (u-or _ _ u
    (u-or _ _ (u-settle s.rules s.args_override_self end)
    (u-or _ _ (u-defaults s.rules (settled s.rules end).rows)
    (u-checked s (finished s.rules end) has_subcommand))))

-- no fault, help, the version, or a refusal
pub kinds_cases : (kinds : Kinds) → (kinds ≡ []) ⊎ (IsAmong kind.DisplayHelp kinds
    ⊎ (IsAmong kind.DisplayVersion kinds ⊎ ((k : ErrorKind) × IsRefusal k × IsAmong k kinds)))
kinds_cases [] = inl refl
kinds_cases (k ∷ ks) = elim (kind_cases k) [
  | inl asked ↦ inr (inl (inl (sym asked)))
  | inr rest ↦ elim rest [
    | inl shown ↦ inr (inr (inl (inl (sym shown))))
    | inr is ↦ inr (inr (inr (k, is_refusal k is, inl refl)))
  ]
]

check-nil : (help has argument : Bool) → check_kinds help (not has && true) argument ≡ []
    → has ≡ true
check-nil help true argument e = refl
check-nil true false argument e = absurd (cc)
check-nil false false argument e = absurd (cc)

-- where no fault is found and a command is required, one was entered
pub level-nil : (s : Shape) (names : Names) (h : Held) (words : List Text) (has : Bool)
    (below : Kinds)
    → s.subcommand_required ≡ true
    → level_fault s names h words has below ≡ [] → has ≡ true
level-nil s names h words has below required e =
    let end = (walk s.rules names h words).held in
    let rows = finished s.rules end in
    let last = check_fault s rows has in
    let defaults = defaults_fault (settled s.rules end).rows s.rules in
    let settling = settle_fault s.rules s.args_override_self end in
    let walking = walk_fault s names (walk_from h) words in
    let checked = or-second defaults last (or-second settling (or_else defaults last)
    (or-second below (or_else settling (or_else defaults last))
    (or-second walking (or_else below (or_else settling (or_else defaults last))) e))) in
    let P : Bool → Type 0 = λ r. check_kinds
    (not has && (s.arg_required_else_help && not (list_any (λ r. explicit_source r.source) rows)))
    (not has && r)
    (not (s.subcommand_negates_reqs && has)
    && list_any (λ a. a.required && not (is_given a.id rows)) s.rules) ≡ [] in
    check-nil _ has _ (subst P required checked)
