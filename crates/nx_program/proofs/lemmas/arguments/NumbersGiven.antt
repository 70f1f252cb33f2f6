-- Where clap takes the arguments of a command that wants a number, that number stands among its
-- values, in its range.
use Rattle.std.proofs.Common.{◌≡◌, ◌≤◌, ◌∙◌, ℕ, option_map, option_and_then, ap₂, Bool, true, false}
use Rattle.std.proofs.Common.{List, [], ◌∷◌, ◌++◌, Option, Some, None, IfSome, refl, ap, sym, subst}
use Rattle.std.proofs.Common.{slice_get, find, fold, cond, if◌then◌else◌}
use Rattle.std.specs.Option.{option_map_or}
use Rattle.std.specs.Str.{bytes_eq}
use Rattle.clap.specs.Facts.{explicit_source}
use Rattle.clap.specs.ValueTests.{accepts}
use Rattle.clap.specs.Takes.{is_given}
use Rattle.clap.specs.Words.{Row, Rule, Shape, Text, one_of, read_as}
use Rattle.clap.specs.Walk.{default_rows, has_row, reading_by, row_text, more_values, nothing_held}
use Rattle.clap.specs.Walk.{rows_after, settled, values_or_missing, walk, with_default, with_values}
use Rattle.clap.specs.Faults.{check_fault, level_fault, use_fault}
use Rattle.clap.specs.declared.builder.value_parser.Reading.{Reading}
use Rattle.clap.specs.declared.builder.value_parser.Reading.TheVariants.{AsWritten}
use Rattle.clap.specs.declared.builder.value_parser.ValueParser.{ValueParser}
use Rattle.clap.specs.declared.builder.value_parser.ValueParser.TheVariants as parser
use Rattle.clap.specs.declared.error.kind.ErrorKind.{ErrorKind}
use Rattle.clap.specs.declared.parser.matches.ValueSource.{ValueSource}
use Rattle.clap.specs.declared.builder.action.ArgAction.TheVariants.{Set}
use Rattle.std.specs.Str.Parse.{digits_value, without_leading_plus}
use Rattle.clap.proofs.ValueTestLemmas.{accepts-Accepts}
use Rattle.nx_program.proofs.lemmas.EachFound.{Each}
use Rattle.nx_program.proofs.lemmas.arguments.RowsKept.{UsesWell, good-at_row, good-settled_end, good-without}
use Rattle.nx_program.proofs.lemmas.arguments.RowsKept.{level-check, or-first, or-second}
use Rattle.nx_program.specs.Arguments.{IsNumber, number_rule, text_rule}

-- numbers from 0 to the most
abbrev pub numbers : ℕ → ValueParser
numbers most = parser.Unsigned 0 most

-- the first of these texts is a number up to the most
abbrev pub AreNumbers : ℕ → List Text → Type 0
AreNumbers most [] = ⊥
AreNumbers most (v ∷ vs) = accepts false (numbers most) v ≡ true

-- what a row holds is a number, as it was written
abbrev pub HasNumber : ℕ → Row → Type 0
HasNumber most r = AreNumbers most r.values × (r.reading ≡ AsWritten)

-- what is found under this name is a number
abbrev pub IsNumeric : Text → ℕ → Row → Type 0
IsNumeric id most r = bytes_eq r.id id ≡ true → HasNumber most r

numbers-append : (most : ℕ) (xs ys : List Text) → AreNumbers most xs → AreNumbers most (xs ++ ys)
numbers-append most [] ys are = absurd are
numbers-append most (x ∷ xs) ys are = are

accepted : (b : Bool) (k : ErrorKind) → (if b then [] else k ∷ []) ≡ [] → b ≡ true
accepted true k e = refl
accepted false k e = absurd (cc)

-- a value that is any text, and one that is a number, as they are built
abbrev pub built_text : ℕ → Text → Rule
built_text i name = record (text_rule name) {
  index = Some i;
  action = Some Set;
  parser = Some parser.String;
  range =
      Some (record { start_inclusive = 1; end_inclusive = 1 });
}

abbrev pub built_number : ℕ → Text → ℕ → Rule
built_number i name most = record (number_rule name most) {
  index = Some i;
  action = Some Set;
  range = Some
      (record { start_inclusive = 1; end_inclusive = 1 });
}

-- rules with no default leave the rows
no_default : (xs : List Row) (a : Rule) → a.defaults ≡ [] → with_default xs a ≡ xs
no_default xs a none = elim (has_row a.id xs) as (λ b. (if b then xs else default_rows a.id
    (reading_by a) a.defaults xs) ≡ xs) [
      | true ↦ refl
      | false ↦ ap (λ (ds : List Text). default_rows a.id (reading_by a) ds xs) none
    ]

pub no_defaults : (rules : List Rule) → Each (λ a. a.defaults ≡ []) rules → (xs : List Row)
    → fold with_default xs rules ≡ xs
no_defaults [] each xs = refl
no_defaults (a ∷ rest) each xs =
    no_defaults rest each.1 (with_default xs a) ∙ no_default xs a each.0

-- a number up to the most stands among the values under this name
pub record GivesNumber (id : Text) (most : ℕ) (rows : List Row) : Type 0 where
  pub text : Text
  pub given : one_of id rows ≡ Some text
  pub passes : accepts false (numbers most) text ≡ true

module _ (id : Text) (most : ℕ) where
  numeric-with_values : (name : Text) (how : Reading) (s : ValueSource) (vs : List Text)
      (rows : List Row)
      → (bytes_eq name id ≡ true → AreNumbers most vs × (how ≡ AsWritten))
      → Each (IsNumeric id most) rows
      → Each (IsNumeric id most) (with_values name how s vs rows)
  numeric-with_values name how s vs rows new good =
      good-at_row (IsNumeric id most) name (more_values s vs) _ rows
      (λ r is_good. ((λ is. (numbers-append most r.values vs (is_good is).0, (is_good is).1)), tt))
      (new, tt) good

  values-are : (i : ℕ) (again : Bool) (vs : List Text) (rows : List Row)
      → use_fault again (built_number i id most) vs rows ≡ []
      → AreNumbers most (values_or_missing (built_number i id most) vs)
  values-are i again [] rows e = absurd (cc)
  values-are i again (v ∷ vs) rows e =
      let action = or-second _ _ e in
      let values = or-second _ _ action in
      accepted (accepts false (numbers most) v) _ (or-first _ _ values)

  pub uses-wanted : (i : ℕ) → UsesWell (IsNumeric id most) (built_number i id most)
  uses-wanted i again vs rows e good =
      numeric-with_values _ _ _ _ _ (λ is. (values-are i again vs rows e, refl)) (good-without
      (IsNumeric id most) _ _ good)

  pub uses-text : (i : ℕ) (name : Text) → bytes_eq name id ≡ false
      → UsesWell (IsNumeric id most) (built_text i name)
  uses-text i name other again vs rows e good =
      numeric-with_values _ _ _ _ _ (λ is. absurd (let no : false ≡ true = sym other
      ∙ is in cc)) (good-without (IsNumeric id most) _ _ good)

  pub uses-other : (i : ℕ) (name : Text) (up_to : ℕ) → bytes_eq name id ≡ false
      → UsesWell (IsNumeric id most) (built_number i name up_to)
  uses-other i name up_to other again vs rows e good =
      numeric-with_values _ _ _ _ _ (λ is. absurd (let no : false ≡ true = sym other
      ∙ is in cc)) (good-without (IsNumeric id most) _ _ good)

  -- a row of this name that was found has a number
  found-numeric : (rows : List Row) → Each (IsNumeric id most) rows
      → IfSome (find (λ r. bytes_eq r.id id) rows)
      (HasNumber most)
  found-numeric [] good = tt
  found-numeric (r ∷ rs) good = go (bytes_eq r.id id) refl (found-numeric rs good.1)
    where
      go : (b : Bool) → bytes_eq r.id id ≡ b
          → IfSome (find (λ r. bytes_eq r.id id) rs) (HasNumber most)
          → IfSome (cond {A = Option Row} b (Some r) (find (λ r. bytes_eq r.id id) rs))
          (HasNumber most)
      go true is rest = good.0 is
      go false is rest = rest

  number-text : (vs : List Text) (r : Row) → r.values ≡ vs → AreNumbers most vs
      → r.reading ≡ AsWritten
      → (text : Text) × (row_text r ≡ Some text) × (accepts false (numbers most) text ≡ true)
  number-text [] r is are written = absurd are
  number-text (v ∷ vs) r is are written = (
    v,
    ap₂ (λ (how : Reading) (xs : List Text). option_map (read_as how) (slice_get xs 0)) written is,
    are,
  )

  gives-found : (o : Option Row) → IfSome o (HasNumber most)
      → option_map_or (λ r. explicit_source r.source) o false ≡ true
      → (text : Text) × (option_and_then row_text o ≡ Some text)
      × (accepts false (numbers most) text ≡ true)
  gives-found None has given = absurd (cc)
  gives-found (Some r) has given =
      let are : AreNumbers most r.values = has.0 in
      number-text r.values r refl are has.1

  gives : (rows : List Row) → Each (IsNumeric id most) rows → is_given id rows ≡ true
      → GivesNumber id most rows
  gives rows good given =
      let found = gives-found (find (λ r. bytes_eq r.id id) rows) (found-numeric rows good) given in
      record { text = found.0; given = found.1; passes = found.2 }

  -- a command whose rules are used well, have no default and want this number is given it
  pub gets : (s : Shape) → Each (UsesWell (IsNumeric id most)) s.rules
      → Each (λ a. a.defaults ≡ []) s.rules
      → ((rows : List Row) → check_fault s rows false ≡ [] → is_given id rows ≡ true)
      → (arguments : List Text) → level_fault s [] nothing_held arguments false [] ≡ []
      → GivesNumber id most (rows_after s.rules [] arguments)
  gets s each none wants arguments e =
      let end = (walk s.rules [] nothing_held arguments).held in
      let same = no_defaults s.rules none (settled s.rules end).rows in
      let P : List Row → Type 0 = λ rows. Each (IsNumeric id most) rows in
      gives (rows_after s.rules [] arguments)
      (subst P (sym same) (good-settled_end (IsNumeric id most) s each arguments [] e))
      (wants (rows_after s.rules [] arguments) (level-check s arguments [] e))

  -- the number that is given, which is in its range
  pub number-given : (rows : List Row) → GivesNumber id most rows
      → (number : ℕ) × IsNumber id rows number
      × (number ≤ most)
  number-given rows gives =
      let unsigned = accepts-Accepts false (numbers most) gives.text gives.passes in (
        digits_value 10 (without_leading_plus gives.text),
        record {
          text = gives.text;
          given = gives.given;
          numeral = unsigned.0;
          value = refl;
          fits =
              unsigned.1;
        },
        unsigned.3,
      )
