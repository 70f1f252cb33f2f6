-- Where clap takes the arguments of a command that wants a text, that text stands among its values.
use Rattle.std.proofs.Common.{◌≡◌, ◌∙◌, ℕ, option_and_then, Bool, true, false, List, [], ◌∷◌, ◌++◌}
use Rattle.std.proofs.Common.{Option, Some, None, IfSome, refl, sym, subst, slice_get, find, cond}
use Rattle.std.proofs.Common.{fold, if◌then◌else◌}
use Rattle.std.specs.Prelude.{⊤}
use Rattle.std.specs.Option.{option_map_or}
use Rattle.std.specs.Str.{bytes_eq}
use Rattle.clap.specs.Facts.{explicit_source}
use Rattle.clap.specs.Simple.{filled}
use Rattle.clap.specs.Takes.{is_given}
use Rattle.clap.specs.Words.{Row, Rule, Shape, Text, first_of}
use Rattle.clap.specs.Walk.{default_rows, has_row, more_values, nothing_held, reading_by}
use Rattle.clap.specs.Walk.{rows_after, settled, values_or_missing, walk, with_default, with_values}
use Rattle.clap.specs.Faults.{check_fault, level_fault, use_fault}
use Rattle.clap.specs.declared.builder.value_parser.Reading.{Reading}
use Rattle.clap.specs.declared.parser.matches.ValueSource.{ValueSource}
use Rattle.clap.specs.declared.parser.matches.ValueSource.TheVariants.{DefaultValue}
use Rattle.nx_program.specs.LogArguments.{flag_rule}
use Rattle.nx_program.proofs.lemmas.EachFound.{Each}
use Rattle.nx_program.proofs.lemmas.arguments.NumbersGiven.{built_text}
use Rattle.nx_program.proofs.lemmas.arguments.RowsKept.{UsesWell, good-at_row, good-settled_end, good-without}
use Rattle.nx_program.proofs.lemmas.arguments.RowsKept.{level-check}

-- there is a first one of these texts
abbrev pub AreSome : List Text → Type 0
AreSome [] = ⊥
AreSome (v ∷ vs) = ⊤

-- what is found under this name has a text
abbrev pub IsTexted : Text → Row → Type 0
IsTexted id r = bytes_eq r.id id ≡ true → AreSome r.values

some-append : (xs ys : List Text) → AreSome xs → AreSome (xs ++ ys)
some-append [] ys are = absurd are
some-append (x ∷ xs) ys are = tt

-- a flag, as it is built
abbrev pub built_flag : Text → Rule
built_flag name = filled (flag_rule name)

-- a text stands among the values under this name
pub record GivesText (id : Text) (rows : List Row) : Type 0 where
  pub text : Text
  pub given : first_of id rows ≡ Some text

module _ (id : Text) where
  texted-with_values : (name : Text) (how : Reading) (s : ValueSource) (vs : List Text)
      (rows : List Row)
      → (bytes_eq name id ≡ true → AreSome vs)
      → Each (IsTexted id) rows
      → Each (IsTexted id) (with_values name how s vs rows)
  texted-with_values name how s vs rows new good =
      good-at_row (IsTexted id) name (more_values s vs) _ rows
      (λ r is_good. ((λ is. some-append r.values vs (is_good is)), tt))
      (new, tt) good

  values-are : (i : ℕ) (again : Bool) (vs : List Text) (rows : List Row)
      → use_fault again (built_text i id) vs rows ≡ []
      → AreSome (values_or_missing (built_text i id) vs)
  values-are i again [] rows e = absurd (cc)
  values-are i again (v ∷ vs) rows e = tt

  pub uses-wanted_text : (i : ℕ) → UsesWell (IsTexted id) (built_text i id)
  uses-wanted_text i again vs rows e good =
      texted-with_values _ _ _ _ _ (λ is. values-are i again vs rows e) (good-without
      (IsTexted id) _ _ good)

  pub uses-other_text : (i : ℕ) (name : Text) → bytes_eq name id ≡ false
      → UsesWell (IsTexted id) (built_text i name)
  uses-other_text i name other again vs rows e good =
      texted-with_values _ _ _ _ _ (λ is. absurd (let no : false ≡ true = sym other
      ∙ is in cc)) (good-without (IsTexted id) _ _ good)

  pub uses-flag : (name : Text) → bytes_eq name id ≡ false
      → UsesWell (IsTexted id) (built_flag name)
  uses-flag name other again vs rows e good =
      texted-with_values _ _ _ _ _ (λ is. absurd (let no : false ≡ true = sym other
      ∙ is in cc)) (good-without (IsTexted id) _ _ good)

  -- the default of a rule leaves what is found under this name as it is
  abbrev pub DefaultsWell : Rule → Type 0
  DefaultsWell a =
      (rows : List Row) → Each (IsTexted id) rows → Each (IsTexted id) (with_default rows a)

  defaults-none : (a : Rule) → a.defaults ≡ [] → DefaultsWell a
  defaults-none a none rows good =
      elim (has_row a.id rows) as (λ b. Each (IsTexted id)
      (if b then rows else default_rows a.id (reading_by a) a.defaults rows)) [
        | true ↦ good
        | false ↦ subst (λ (ds : List Text).
            Each (IsTexted id) (default_rows a.id (reading_by a) ds rows)) (sym none) good
      ]

  pub all-none : (rules : List Rule) → Each (λ a. a.defaults ≡ []) rules
      → Each DefaultsWell rules
  all-none [] each = tt
  all-none (a ∷ rest) each = (defaults-none a each.0, all-none rest each.1)

  default-rows : (name : Text) (how : Reading) (ds : List Text) (rows : List Row)
      → bytes_eq name id ≡ false → Each (IsTexted id) rows
      → Each (IsTexted id) (default_rows name how ds rows)
  default-rows name how [] rows other good = good
  default-rows name how (d ∷ ds) rows other good =
      texted-with_values name how DefaultValue (d ∷ ds) rows (λ is. absurd
      (let no : false ≡ true = sym other ∙ is in cc)) good

  pub defaults-other : (a : Rule) → bytes_eq a.id id ≡ false → DefaultsWell a
  defaults-other a other rows good =
      elim (has_row a.id rows) as (λ b. Each (IsTexted id)
      (if b then rows else default_rows a.id (reading_by a) a.defaults rows)) [
        | true ↦ good
        | false ↦ default-rows a.id (reading_by a) a.defaults rows other good
      ]

  all-default : (rules : List Rule) → Each DefaultsWell rules → (rows : List Row)
      → Each (IsTexted id) rows → Each (IsTexted id) (fold with_default rows rules)
  all-default [] each rows good = good
  all-default (a ∷ rest) each rows good =
      all-default rest each.1 (with_default rows a) (each.0 rows good)

  -- a row of this name that was found has a text
  found-texted : (rows : List Row) → Each (IsTexted id) rows
      → IfSome (find (λ r. bytes_eq r.id id) rows) (λ r. AreSome r.values)
  found-texted [] good = tt
  found-texted (r ∷ rs) good = go (bytes_eq r.id id) refl (found-texted rs good.1)
    where
      go : (b : Bool) → bytes_eq r.id id ≡ b
          → IfSome (find (λ r. bytes_eq r.id id) rs) (λ r. AreSome r.values)
          → IfSome (cond {A = Option Row} b (Some r) (find (λ r. bytes_eq r.id id) rs))
          (λ r. AreSome r.values)
      go true is rest = good.0 is
      go false is rest = rest

  first-text : (vs : List Text) → AreSome vs → (text : Text) × (slice_get vs 0 ≡ Some text)
  first-text [] are = absurd are
  first-text (v ∷ vs) are = (v, refl)

  gives-found : (o : Option Row) → IfSome o (λ r. AreSome r.values)
      → option_map_or (λ r. explicit_source r.source) o false ≡ true
      → (text : Text) × (option_and_then (λ r. slice_get r.values 0) o ≡ Some text)
  gives-found None has given = absurd (cc)
  gives-found (Some r) has given = first-text r.values has

  gives : (rows : List Row) → Each (IsTexted id) rows → is_given id rows ≡ true
      → GivesText id rows
  gives rows good given =
      let found = gives-found (find (λ r. bytes_eq r.id id) rows) (found-texted rows good) given in
      record { text = found.0; given = found.1 }

  -- a command whose rules are used well, have well-kept defaults and want this text is given it
  pub gets-text : (s : Shape) → Each (UsesWell (IsTexted id)) s.rules
      → Each DefaultsWell s.rules
      → ((rows : List Row) → check_fault s rows false ≡ [] → is_given id rows ≡ true)
      → (arguments : List Text) → level_fault s [] nothing_held arguments false [] ≡ []
      → GivesText id (rows_after s.rules [] arguments)
  gets-text s each defaults wants arguments e =
      let end = (walk s.rules [] nothing_held arguments).held in
      gives (rows_after s.rules [] arguments)
      (all-default s.rules defaults (settled s.rules end).rows
      (good-settled_end (IsTexted id) s each arguments [] e))
      (wants (rows_after s.rules [] arguments) (level-check s arguments [] e))
