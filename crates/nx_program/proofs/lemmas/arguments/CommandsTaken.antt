-- Arguments that clap takes enter a command of the program, which is given the numbers that it
-- wants.
use Rattle.std.proofs.Common.{◌≡◌, ◌&&◌, ◌||◌, option_map, Bool, true, false, not, List, [], ◌∷◌}
use Rattle.std.proofs.Common.{Option, Some, None, IfSome, refl, subst, codes, find}
use Rattle.std.specs.Option.{option_map_or}
use Rattle.std.specs.Str.{bytes_eq}
use Rattle.clap.specs.Kinds.{check_kinds}
use Rattle.clap.specs.Takes.{is_given}
use Rattle.clap.specs.Words.{Row, Rule, Shape, Text, built, fault_of, subcommand_of}
use Rattle.clap.specs.Simple.{argument_words, built_leaf, entered, filled_from, help_rule, label_of}
use Rattle.clap.specs.Simple.{names_of, rows_at}
use Rattle.clap.specs.Walk.{answers_to, nothing_held, rows_after, walk}
use Rattle.clap.specs.Faults.{check_fault, entered_fault, level_fault}
use Rattle.nx_program.proofs.lemmas.arguments.CommandTable.{IsSound, Makes, command_rows-sound}
use Rattle.nx_program.proofs.lemmas.EachFound.{Each, each-map, found_is}
use Rattle.nx_program.proofs.lemmas.arguments.NumbersGiven.{GivesNumber, IsNumeric, gets, uses-other, uses-text}
use Rattle.nx_program.proofs.lemmas.arguments.NumbersGiven.{uses-wanted}
use Rattle.nx_program.proofs.lemmas.arguments.RowsKept.{UsesWell, or-first, or-second}
use Rattle.nx_program.proofs.lemmas.arguments.TextsGiven.{DefaultsWell, GivesText, IsTexted}
use Rattle.nx_program.proofs.lemmas.arguments.TextsGiven.{all-none, built_flag, defaults-other, gets-text}
use Rattle.nx_program.proofs.lemmas.arguments.TextsGiven.{uses-flag, uses-other_text}
use Rattle.nx_program.proofs.lemmas.arguments.TextsGiven.{uses-wanted_text}
use Rattle.nx_program.specs.Arguments.{by_sendings}
use Rattle.nx_program.specs.Arguments.{CommandRow, Maker, command_rows, navtex, number_rule, on_file, options}
use Rattle.nx_program.specs.Arguments.{plain, range, slot, text_rule, tree_of}

-- the values of a command that wants a station and a moment, of one that takes a flag and wants a
-- file and a moment, and of one that wants a range of words, as they are built
abbrev slot_rules : List Rule
slot_rules = filled_from 1
    (text_rule (codes "STATION") ∷ text_rule (codes "MOMENT") ∷ help_rule ∷ [])

abbrev text_rules_of_file : List Rule
text_rules_of_file = filled_from 1
    (text_rule (codes "FILE") ∷ text_rule (codes "MOMENT") ∷ help_rule ∷ [])

abbrev file_rules : List Rule
file_rules = built_flag (codes "combine") ∷ text_rules_of_file

abbrev damage_rules : List Rule
damage_rules = filled_from 1
    (text_rule (codes "KIND") ∷ number_rule (codes "FROM") 4294967295 ∷ number_rule
    (codes "COUNT") 4294967295 ∷ help_rule ∷ [])

slot_rules-moment : Each (UsesWell (IsTexted (codes "MOMENT"))) slot_rules
slot_rules-moment = (
  uses-other_text _ 1 _ refl,
  (uses-wanted_text _ 2, ((λ again vs rows e good. good), tt)),
)

file_rules-moment : Each (UsesWell (IsTexted (codes "MOMENT"))) file_rules
file_rules-moment = (
  uses-flag _ _ refl,
  (
    uses-other_text _ 1 _ refl,
    (uses-wanted_text _ 2, ((λ again vs rows e good. good), tt)),
  ),
)

file_rules-file : Each (UsesWell (IsTexted (codes "FILE"))) file_rules
file_rules-file = (
  uses-flag _ _ refl,
  (
    uses-wanted_text _ 1,
    (uses-other_text _ 2 _ refl, ((λ again vs rows e good. good), tt)),
  ),
)

-- what they leave out changes nothing of a text that they want
slot_defaults : (id : Text) → Each (DefaultsWell id) slot_rules
slot_defaults id = all-none id slot_rules (refl, (refl, (refl, tt)))

file_defaults : (id : Text) → bytes_eq (codes "combine") id ≡ false
    → Each (DefaultsWell id) file_rules
file_defaults id other = (
  defaults-other id (built_flag (codes "combine")) other,
  all-none id text_rules_of_file (refl, (refl, (refl, tt))),
)

damage_rules-from : Each (UsesWell (IsNumeric (codes "FROM") 4294967295)) damage_rules
damage_rules-from = (
  uses-text _ _ 1 _ refl,
  (
    uses-wanted _ _ 2,
    (
      uses-other _ _ 3 _ _ refl,
      ((λ again vs rows e good. good), tt),
    ),
  ),
)

damage_rules-count : Each (UsesWell (IsNumeric (codes "COUNT") 4294967295)) damage_rules
damage_rules-count = (
  uses-text _ _ 1 _ refl,
  (
    uses-other _ _ 2 _ _ refl,
    (
      uses-wanted _ _ 3,
      ((λ again vs rows e good. good), tt),
    ),
  ),
)

second_wanted : (a b : Bool) → check_kinds false false ((true && not a) || ((true && not b) ||
    (false || false))) ≡ [] → b ≡ true
second_wanted true true e = refl
second_wanted true false e = absurd (cc)
second_wanted false true e = absurd (cc)
second_wanted false false e = absurd (cc)

first_wanted : (a b : Bool) → check_kinds false false ((true && not a) || ((true && not b) ||
    (false || false))) ≡ [] → a ≡ true
first_wanted true true e = refl
first_wanted true false e = absurd (cc)
first_wanted false true e = absurd (cc)
first_wanted false false e = absurd (cc)

-- the second and the third of three values are given
both_wanted : (a b c : Bool)
    → check_kinds false false ((true && not a) || ((true && not b) || ((true && not c) ||
    (false || false)))) ≡ [] → (b ≡ true) × (c ≡ true)
both_wanted true true true e = (refl, refl)
both_wanted true true false e = absurd (cc)
both_wanted true false true e = absurd (cc)
both_wanted true false false e = absurd (cc)
both_wanted false true true e = absurd (cc)
both_wanted false true false e = absurd (cc)
both_wanted false false true e = absurd (cc)
both_wanted false false false e = absurd (cc)

-- the texts and the numbers that the command of a row is given
abbrev pub Gives : Maker → List Row → Type 0
Gives (plain call) rows = Unit {0}
Gives (by_sendings make) rows = Unit {0}
Gives (slot make) rows = GivesText (codes "MOMENT") rows
Gives (on_file make) rows =
    GivesText (codes "FILE") rows × GivesText (codes "MOMENT") rows
Gives (range make) rows =
    GivesNumber (codes "FROM") 4294967295 rows × GivesNumber (codes "COUNT") 4294967295 rows
Gives (options make) rows = Unit {0}

-- the name of a command that was entered, and the numbers that its values hold
pub record IsCommand (name : Text) (rows : List Row) : Type 0 where
  pub maker : Maker
  pub makes : Makes name maker
  pub gives : Gives maker rows

abbrev IsCommandOf : Shape → Type 0
IsCommandOf s = (arguments : List Text) → level_fault s [] nothing_held arguments false [] ≡ []
    → IsCommand s.name (rows_after s.rules [] arguments)

-- the command of a row of the table, as it is built
abbrev pub leaf : CommandRow → Shape
leaf c = built_leaf (tree_of c.0 c.1).top

leaf-is : (name : Text) (maker : Maker) → Makes name maker → IsCommandOf (leaf (name, maker))
leaf-is name (plain call) makes arguments e = record { maker = plain call; makes = makes; gives = tt }
leaf-is name (by_sendings make) makes arguments e = record {
  maker = by_sendings make;
  makes = makes;
  gives = tt;
}
leaf-is name (options make) makes arguments e = record {
  maker = options make;
  makes = makes;
  gives = tt;
}
leaf-is name (slot make) makes arguments e = record {
  maker = slot make;
  makes = makes;
  gives = gets-text _ _ slot_rules-moment (slot_defaults _)
      (λ rows checked. second_wanted (is_given (codes "STATION") rows)
      (is_given (codes "MOMENT") rows) checked) arguments e;
}
leaf-is name (on_file make) makes arguments e = record {
  maker = on_file make;
  makes = makes;
  gives = (
    gets-text _ _ file_rules-file (file_defaults _ refl)
        (λ rows checked. first_wanted (is_given (codes "FILE") rows)
        (is_given (codes "MOMENT") rows) checked) arguments e,
    gets-text _ _ file_rules-moment (file_defaults _ refl)
        (λ rows checked. second_wanted (is_given (codes "FILE") rows)
        (is_given (codes "MOMENT") rows) checked) arguments e,
  );
}
leaf-is name (range make) makes arguments e =
    let wanted : (rows : List Row) → check_fault (leaf (name, range make)) rows false ≡ []
    → (is_given (codes "FROM") rows ≡ true) × (is_given (codes "COUNT") rows ≡ true) =
    λ rows checked. both_wanted (is_given (codes "KIND") rows) (is_given (codes "FROM") rows)
    (is_given (codes "COUNT") rows) checked in
    record {
      maker = range make;
      makes = makes;
      gives = (
        gets _ _ _ damage_rules-from (refl, (refl, (refl, (refl, tt))))
            (λ rows checked. (wanted rows checked).0) arguments e,
        gets _ _ _ damage_rules-count (refl, (refl, (refl, (refl, tt))))
            (λ rows checked. (wanted rows checked).1) arguments e,
      );
    }

commands-are : Each IsCommandOf (built navtex).subs
commands-are = each-map IsSound IsCommandOf leaf (λ c sound. leaf-is c.0 c.1 sound) command_rows
    command_rows-sound

found-command : (arguments : List Text) (found : Option Shape) → IfSome found IsCommandOf
    → option_map_or (λ s. level_fault s [] nothing_held arguments false []) found [] ≡ []
    → (name : Text) (rows : List Row)
    → option_map (λ s. rows_at s arguments) found ≡ Some (name, rows)
    → IsCommand name rows
found-command arguments None is e name rows entered = absurd (cc)
found-command arguments (Some s) is e name rows entered =
    let same : Some (rows_at s arguments) ≡ Some (name, rows) = entered in
    let pair : rows_at s arguments ≡ (name, rows) = cc in
    let P : Text × List Row → Type 0 = λ p. IsCommand p.0 p.1 in
    subst P pair (is arguments e)

entered-command : (stop : Option (Text × List Text)) → entered_fault (built navtex) stop ≡ []
    → (name : Text) (rows : List Row)
    → entered (built navtex) stop ≡ Some (name, rows) → IsCommand name rows
entered-command None e name rows is = absurd (cc)
entered-command (Some p) e name rows is =
    found-command p.1 (find (λ s. answers_to p.0 (label_of s)) (built navtex).subs)
    (found_is IsCommandOf (λ s. answers_to p.0 (label_of s)) (built navtex).subs commands-are) e
    name rows is

-- arguments that clap takes enter a command of the program, which is given the numbers that it
-- wants
pub taken-command : (arguments : List Text) (name : Text) (rows : List Row)
    → fault_of navtex arguments ≡ []
    → subcommand_of navtex arguments ≡ Some (name, rows) → IsCommand name rows
taken-command arguments name rows taken is =
    let stop = (walk (built navtex).top.rules (names_of (built navtex)) nothing_held
    (argument_words navtex arguments)).stopped in
    entered-command stop (or-first _ _ (or-second _ _ taken)) name rows is
