-- What the definitions of headers and copies come to.
use Rattle.std.specs.Prelude.{◌≡◌, ℕ, Option, Some, None, List, [], ◌∷◌, ◌++◌}
use Rattle.std.specs.List.{filter_map}
use Rattle.std.specs.Option.{option_to_list}
use Rattle.nx_envelope.specs.Copies.{Copy, headers, ended_copies}
use Rattle.nx_envelope.specs.Finder.{Brings}
use Rattle.nx_envelope.specs.Header.{Header}
use Rattle.nx_envelope.specs.declared.found.FinderStep.{FinderStep}
use Rattle.nx_envelope.specs.declared.found.FinderStep.TheVariants as steps
use Rattle.nx_envelope.specs.declared.found.Found.{Found}

-- what comes behind the text leaves the headers in it and the copies that have ended in it, and
-- adds others behind them
pub record Grows (text more : List ℕ) : Type 0 where
  pub later_headers : List Header
  pub headers : headers (text ++ more) ≡ headers text ++ later_headers
  pub later_copies : List Copy
  pub ended : ended_copies (text ++ more) ≡ ended_copies text ++ later_copies

-- the steps are what happens at the bytes of a text, one after the other, behind what came before
-- it
abbrev pub AreAnswers : List ℕ → List ℕ → List FinderStep → Type 0
AreAnswers before [] [] = Unit {0}
AreAnswers before [] (step ∷ answers) = ⊥
AreAnswers before (byte ∷ text) [] = ⊥
AreAnswers before (byte ∷ text) (step ∷ answers) =
    Brings before byte step × AreAnswers (before ++ byte ∷ []) text answers

-- the copy that a step hands out
abbrev pub found_in : FinderStep → Option Found
found_in steps.Nothing = None
found_in (steps.Header identity) = None
found_in (steps.Over found) = Some found

-- the copies that steps and then the end of the text hand out
abbrev pub copies_handed_out : List FinderStep → Option Found → List Found
copies_handed_out answers last = filter_map found_in answers ++ option_to_list last
