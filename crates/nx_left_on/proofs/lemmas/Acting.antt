-- The lines that act, of any lines, may act one behind the other.
use Rattle.std.proofs.Common.{◌≡◌, ℕ, true, false, cond, List, [], ◌∷◌, ◌++◌, Option, Some, None}
use Rattle.std.proofs.Common.{option_to_list, refl, sym, ap, ap₂, ◌∙◌, subst, append-nil, append_assoc}
use Rattle.nx_fec.specs.air_files.AirFile.{Line}
use Rattle.nx_watch.specs.Acting.{acting_behind, acting_lines, acts, moment_said, moments_said}
use Rattle.nx_watch.specs.Acting.{with_start}
use Rattle.nx_watch.specs.private.LineRun.{MayAct}
use Rattle.nx_watch.specs.declared.lines.line_effects.StartMoments.{StartMoments}
use Rattle.nx_watch.proofs.lemmas.lines.Run.{may-act}
use Rattle.nx_left_on.proofs.lemmas.entries.Climbing.{Act}

-- behind these first ones, of which these act, this line acts
record ActsBehind (first : ℕ) (moments : List ℕ) (before : List Line) (line : Line) : Type 0 where
  said : List (Option Line)
  acted : acting_behind first moments said ≡ before
  acts_now : acts first (moments ++ moments_said said) (Some line) ≡ true

-- one more in front
front-said : (first : ℕ) (moments : List ℕ) (head : Option Line) (before : List Line) (line : Line)
    → ActsBehind first (moments ++ moment_said head) before line
    → ActsBehind first moments
    (cond (acts first moments head) (option_to_list head) [] ++ before) line
front-said first moments head before line a = record {
  said = head ∷ a.said;
  acted = ap (λ l. cond (acts first moments head) (option_to_list head) [] ++ l) a.acted;
  acts_now = ap (λ ms. acts first ms (Some line))
      (sym (append_assoc moments (moment_said head) (moments_said a.said))) ∙ a.acts_now;
}

-- where the first line acts, it is this line, or the first of those before it
acts-first : (first : ℕ) (moments : List ℕ) (head : Line) (acted : List Line)
    → acts first moments (Some head) ≡ true
    → ((before after : List Line) (line : Line) → acted ≡ before ++ line ∷ after
    → ActsBehind first (moments ++ moment_said (Some head)) before line)
    → (before after : List Line) (line : Line) → head ∷ acted ≡ before ++ line ∷ after
    → ActsBehind first moments before line
acts-first first moments head acted acting rest [] after line e =
    let same : head ≡ line = cc in
    record {
      said = [];
      acted = refl;
      acts_now = ap₂ (λ ms l. acts first ms (Some l)) (append-nil moments) (sym same) ∙ acting;
    }
acts-first first moments head acted acting rest (x ∷ before) after line e =
    let same : head ≡ x = cc in
    let tail : acted ≡ before ++ line ∷ after = cc in
    subst (λ l. ActsBehind first moments l line)
    (ap (λ b. cond b (head ∷ []) [] ++ before) acting ∙ ap (λ h. h ∷ before) same)
    (front-said first moments (Some head) before line (rest before after line tail))

acts-behind : (first : ℕ) (moments : List ℕ) (lines : List (Option Line))
    (before after : List Line) (line : Line)
    → acting_behind first moments lines ≡ before ++ line ∷ after
    → ActsBehind first moments before line
acts-behind first moments [] [] after line e = cc
acts-behind first moments [] (x ∷ before) after line e = cc
acts-behind first moments (None ∷ lines) before after line e =
    front-said first moments None before line
    (acts-behind first (moments ++ []) lines before after line e)
acts-behind first moments (Some head ∷ lines) before after line e =
    let next = moments ++ moment_said (Some head) in
    elim (acts first moments (Some head)) as (λ b. acts first moments (Some head) ≡ b
    → cond b (head ∷ []) [] ++ acting_behind first next lines ≡ before ++ line ∷ after
    → ActsBehind first moments before line) [
      | true ↦ λ acting e.
          acts-first first moments head (acting_behind first next lines) acting
          (λ before after line e. acts-behind first next lines before after line e) before after
          line e
      | false ↦ λ idle e.
          subst (λ l. ActsBehind first moments l line)
          (ap (λ b. cond b (head ∷ []) [] ++ before) idle)
          (front-said first moments (Some head) before line
          (acts-behind first next lines before after line e))
    ] refl e

pub acting-act : (start : StartMoments) (said : List (Option Line)) (lines : List Line)
    → lines ≡ acting_lines start said → Act start.newest lines
acting-act start said lines e before after line whole =
    let first = start.newest in
    let a = acts-behind first [] (with_start start said) before after line (sym e ∙ whole) in
    subst (λ l. MayAct first l line) a.acted (may-act first a.said line a.acts_now)
