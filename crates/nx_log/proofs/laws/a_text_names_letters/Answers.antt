use Rattle.std.proofs.Common.{◌≡◌, ◌<◌, ℕ, Bool, true, false, List, [], ◌∷◌, ap, arith, eq-eqb, eqb-true, length, refl, subst, sym, ◌∙◌}
use Rattle.std.specs.Prelude.{◌==◌, ◌||◌}
use Rattle.std.specs.List.{All, list_any}
use Rattle.std.proofs.lemmas.Bool.{true≢false}
use Rattle.std.proofs.lemmas.List.Elements.{All-head, All-tail}
use Rattle.nx_code.specs.Reading.{IsCapital}
use Rattle.nx_log.proofs.laws.a_text_names_letters.Goals as goal

first_is : (text : List ℕ) → 0 < length text
    → (byte : ℕ) × (list_any (λ letter. byte == letter) text ≡ true)
first_is [] some = absurd (omega (arith, some))
first_is (x ∷ xs) some =
    (x, ap (λ b. b || list_any (λ letter. x == letter) xs) (eq-eqb x x refl))

-- the first letter is meant, or one behind it
either : (b : Bool) (byte x : ℕ) (xs : List ℕ) → (byte == x) ≡ b → IsCapital x
    → (list_any (λ letter. byte == letter) xs ≡ true → IsCapital byte)
    → (b || list_any (λ letter. byte == letter) xs) ≡ true → IsCapital byte
either true byte x xs same capital behind e =
    subst IsCapital (sym (eqb-true byte x same)) capital
either false byte x xs same capital behind e = behind e

is_capital : (text : List ℕ) (byte : ℕ) → All IsCapital text
    → list_any (λ letter. byte == letter) text ≡ true → IsCapital byte
is_capital [] byte all e = absurd (true≢false (sym e))
is_capital (x ∷ xs) byte all e =
    either (byte == x) byte x xs refl (All-head IsCapital x xs all)
    (is_capital xs byte (All-tail IsCapital x xs all)) e

pub returns-clause-some : goal.returns-clause-some
returns-clause-some c = λ text letters are is.
    let first = first_is text are.some in (first.0, is first.0 ∙ first.1)

pub returns-clause-capitals : goal.returns-clause-capitals
returns-clause-capitals c = λ text letters byte are is there.
    is_capital text byte are.capitals (sym (is byte) ∙ there)
