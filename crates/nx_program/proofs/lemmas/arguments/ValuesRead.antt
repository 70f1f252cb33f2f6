-- What the values of a command are read as.
use Rattle.std.proofs.Common.{◌≡◌, ◌≢◌, ◌∙◌, ◌<◌, ◌^◌, ℕ, List, Option, Some, None, IfSome, IfNone}
use Rattle.std.proofs.Common.{Result, Ok, Err, ap, codes, sym, subst}
use Rattle.std.specs.Str.Parse.{IsNumeral, ParsesUnsigned, digits_value, without_leading_plus}
use Rattle.clap.specs.Words.{ReadsOne, Text, first_of, first_value, one_text, rows_of}
use Rattle.clap.specs.declared.parser.matches.Found.{Found}
use Rattle.clap.proofs.WalkLemmas.{first_value-rows, one_text-rows}
use Rattle.nx_program.specs.Arguments.{IsMoment, IsNumber, SaysMoment}
use Rattle.nx_program.specs.private.Reading.{HasFitMoment, HasUnfitMoment}
use Rattle.nx_program.proofs.lemmas.arguments.CallValues.{moment-given, moment-said}

pub if_none : {X : Type 0} (o : Option X) (P : Type 0) → P → IfNone o P
if_none None P p = p
if_none (Some x) P p = tt

-- a value that is the text of something
module _ {T : Type 0} (text_of : T → Text) (name : Text) (f : Found) where
  pub text-some : (text : Text) → first_value f name ≡ Some text → (found : Option T)
      → IfSome found (λ x. text ≡ text_of x)
      → IfSome found (λ x. first_of name (rows_of f) ≡ Some (text_of x))
  text-some text is None some = tt
  text-some text is (Some x) some =
      sym (first_value-rows f name) ∙ (is ∙ ap (λ (t : Text). Some t) some)

  text-not : (text : Text) → first_value f name ≡ Some text → ((x : T) → text ≢ text_of x)
      → (x : T) → first_of name (rows_of f) ≡ Some (text_of x) → ⊥
  text-not text is unlike x given =
      let same : Some text ≡ Some (text_of x) = sym is ∙ (first_value-rows f name ∙ given) in
      unlike x (cc)

  pub text-none : (text : Text) → first_value f name ≡ Some text → (found : Option T)
      → IfNone found ((x : T) → text ≢ text_of x) → IfNone found ((x : T)
      → first_of name (rows_of f) ≡ Some (text_of x) → ⊥)
  text-none text is None none = text-not text is none
  text-none text is (Some x) none = tt

  -- and of no text
  pub text-absent : first_value f name ≡ None → (x : T)
      → first_of name (rows_of f) ≡ Some (text_of x) → ⊥
  text-absent is x given =
      let bad : None ≡ Some (text_of x) = sym is ∙ (first_value-rows f name ∙ given) in
      absurd (cc)

-- a value of MOMENT, as the moment that its text says
module _ (f : Found) where
  moment_text : (text : Text) → first_value f (codes "MOMENT") ≡ Some text
      → first_of (codes "MOMENT") (rows_of f) ≡ Some text
  moment_text text is = sym (first_value-rows f (codes "MOMENT")) ∙ is

  pub moment-read : (text : Text) → first_value f (codes "MOMENT") ≡ Some text → (found : Option ℕ)
      → IfSome found (SaysMoment text) → IfSome found (IsMoment (rows_of f))
  moment-read text is None some = tt
  moment-read text is (Some m) some = moment-given _ text m (moment_text text is) some

  pub moment-unread : (text : Text) → first_value f (codes "MOMENT") ≡ Some text
      → (found : Option ℕ) → IfNone found ((m : ℕ) → SaysMoment text m → ⊥)
      → IfNone found ((m : ℕ) → IsMoment (rows_of f) m → ⊥)
  moment-unread text is None none =
      λ m given. none m (moment-said _ text m (moment_text text is) given)
  moment-unread text is (Some m) none = tt

  pub moment-absent : first_value f (codes "MOMENT") ≡ None → (m : ℕ) → IsMoment (rows_of f) m → ⊥
  moment-absent is m given =
      let bad : None ≡ Some given.text =
      sym is ∙ (first_value-rows f (codes "MOMENT") ∙ given.given) in
      absurd (cc)

  -- and as one that says none, or one
  pub moment-unfit : (text : Text) → first_value f (codes "MOMENT") ≡ Some text
      → ((m : ℕ) → SaysMoment text m → ⊥) → HasUnfitMoment (rows_of f) text
  moment-unfit text is none = record { given = moment_text text is; no_moment = none }

  pub moment-fit : (text : Text) (m : ℕ) → first_value f (codes "MOMENT") ≡ Some text
      → SaysMoment text m → HasFitMoment (rows_of f)
  moment-fit text m is said other given =
      let same : Some text ≡ Some other = sym (moment_text text is) ∙ given in
      let text_is : text ≡ other = cc in
      (m, subst (λ (u : Text). SaysMoment u m) text_is said)

  pub no_moment-fit : first_value f (codes "MOMENT") ≡ None → HasFitMoment (rows_of f)
  no_moment-fit is other given =
      let bad : None ≡ Some other = sym is ∙ (first_value-rows f (codes "MOMENT") ∙ given) in
      absurd (cc)

-- a value that is a number, as the number that it is read as
module _ {E : Type 0} (gives : List ℕ → Result ℕ E → Type 0)
    (only : (u : List ℕ) (x : Result ℕ E) → gives u x
    → ParsesUnsigned 64 10 u x) (name : Text) (f : Found) where
  number-read : (t : Text) → one_text f name ≡ Some t → (r : Option ℕ) → ReadsOne gives t r
      → IfSome r (IsNumber name (rows_of f))
  number-read t is (Some m) read =
      let parsed = only t (Ok m) read in record {
        text = t;
        given = sym (one_text-rows f name) ∙ is;
        numeral = parsed.0.0;
        value = parsed.1;
        fits = let P : ℕ → Type 0 = λ n. n < 2 ^ 64 in subst P (sym parsed.1) parsed.0.1;
      }
  number-read t is None read = tt

  number-unread : (t : Text) → one_text f name ≡ Some t → (r : Option ℕ) → ReadsOne gives t r
      → IfNone r ((m : ℕ)
      → IsNumber name (rows_of f) m → ⊥)
  number-unread t is (Some m) read = tt
  number-unread t is None read = λ m number.
      let same : Some t ≡ Some number.text = sym is ∙ (one_text-rows f name ∙ number.given) in
      let text_is : number.text ≡ t = cc in
      let P : ℕ → Type 0 = λ n. n < 2 ^ 64 in
      let Q : Text → Type 0 = λ u. IsNumeral 10 (without_leading_plus u)
      × (digits_value 10 (without_leading_plus u) < 2 ^ 64) in
      only t (Err read.0) read.1
      (subst Q text_is (number.numeral, subst P number.value number.fits))

  pub number-some : (o : Option Text) → one_text f name ≡ o → (r : Option ℕ)
      → (one_text f name ≡ None → r ≡ None)
      → ((t : Text) → one_text f name ≡ Some t → ReadsOne gives t r)
      → IfSome r (IsNumber name (rows_of f))
  number-some None is r none value =
      let P : Option ℕ → Type 0 = λ x. IfSome x (IsNumber name (rows_of f)) in
      subst P (sym (none is)) tt
  number-some (Some t) is r none value = number-read t is r (value t is)

  pub number-none : (o : Option Text) → one_text f name ≡ o → (r : Option ℕ)
      → ((t : Text) → one_text f name ≡ Some t → ReadsOne gives t r) → IfNone r ((m : ℕ)
      → IsNumber name (rows_of f) m → ⊥)
  number-none None is r value =
      if_none r _ (λ m number.
      let bad : None ≡ Some number.text = sym is ∙ (one_text-rows f name ∙ number.given) in
      absurd (cc))
  number-none (Some t) is r value = number-unread t is r (value t is)
