-- The moment that a watch sets which starts with elements.
use Rattle.std.proofs.Common.{◌≡◌, ◌⊎◌, ℕ, Bool, true, false, cond, not, ◌&&◌, List, [], ◌∷◌, ◌++◌}
use Rattle.std.proofs.Common.{Option, Some, None, nat_le, refl, sym, ap, ◌∙◌, subst}
use Rattle.std.proofs.Common.{append-nil, inl, inr, arith, length, nat_lt, suc}
use Rattle.std.proofs.lemmas.Bool.Decides.{nat_tests}
use Rattle.std.proofs.lemmas.List.Concat.{flat_map-append}
use Rattle.nx_envelope.specs.Moment.{last_moment}
use Rattle.nx_fec.specs.air_files.AirFile.{Line, moment, elements, refuse_station, accept_station}
use Rattle.nx_fec.specs.air_files.AirFile.{refuse_subject, accept_subject}
use Rattle.nx_fec.specs.declared.air_files.channel.Channel.{Channel}
use Rattle.nx_watch.specs.Acting.{given, moment_said, moments_behind, moments_said, with_start}
use Rattle.nx_watch.specs.declared.lines.line_effects.StartMoments.{StartMoments}
use Rattle.nx_watch.specs.private.Effects.{said_behind, sets}

-- the line that the watch sets
abbrev pub set_line : StartMoments → Option Line
set_line start = Some (moment (given start))

-- ---- one more line

-- The line stands behind the others as it is. Or it is of elements, which stand behind no moment,
-- and the line that the watch sets stands before it.
abbrev pub IsBehind : StartMoments → List (Option Line) → Option Line → Type 0
IsBehind start lines line =
    (with_start start (lines ++ line ∷ []) ≡ with_start start lines ++ line ∷ [])
    ⊎ ((sets start [] line ≡ nat_le (given start) last_moment)
    × (moments_behind start lines ≡ [])
    × (with_start start (lines ++ line ∷ [])
    ≡ with_start start lines ++ set_line start ∷ line ∷ []))

-- one more line before both, which says nothing
behind-more : (start : StartMoments) (head : Option Line) (lines : List (Option Line))
    (line : Option Line) → moment_said head ≡ []
    → with_start start (head ∷ lines) ≡ head ∷ with_start start lines
    → with_start start (head ∷ (lines ++ line ∷ []))
    ≡ head ∷ with_start start (lines ++ line ∷ [])
    → IsBehind start lines line → IsBehind start (head ∷ lines) line
behind-more start head lines line none one two (inl h) =
    inl (two ∙ ap (λ l. head ∷ l) h ∙ ap (λ l. l ++ line ∷ []) (sym one))
behind-more start head lines line none one two (inr h) =
    inr (
      h.0,
      ap moments_said one ∙ ap (λ l. l ++ moments_behind start lines) none ∙ h.1,
      two ∙ ap (λ l. head ∷ l) h.2 ∙ ap (λ l. l ++ set_line start ∷ line ∷ []) (sym one),
    )

-- behind a line that says a moment, which is in range or not
behind-moment : (start : StartMoments) (n : ℕ) (lines : List (Option Line)) (line : Option Line)
    → IsBehind start lines line → IsBehind start (Some (moment n) ∷ lines) line
behind-moment start n lines line h =
    elim (nat_le n last_moment) as (λ b. nat_le n last_moment ≡ b
    → IsBehind start (Some (moment n) ∷ lines) line) [
      | true ↦ λ in_range.
          inl (ap (λ b. Some (moment n)
          ∷ cond b (lines ++ line ∷ []) (with_start start (lines ++ line ∷ []))) in_range
          ∙ ap (λ b. (Some (moment n) ∷ cond b lines (with_start start lines)) ++ line ∷ [])
          (sym in_range))
      | false ↦ λ out.
          behind-more start (Some (moment n)) lines line
          (ap (λ (b : Bool). cond b (n ∷ []) []) out)
          (ap (λ b. Some (moment n) ∷ cond b lines (with_start start lines)) out)
          (ap (λ b. Some (moment n)
          ∷ cond b (lines ++ line ∷ []) (with_start start (lines ++ line ∷ []))) out) h
    ] refl

is-behind : (start : StartMoments) (lines : List (Option Line)) (line : Option Line)
    → IsBehind start lines line
is-behind start [] None = inl refl
is-behind start [] (Some (moment n)) =
    inl (ap (λ l. Some (moment n) ∷ l) (same (nat_le n last_moment)))
  where
    same : (b : Bool) → cond b [] (with_start start []) ≡ []
    same true = refl
    same false = refl
is-behind start [] (Some (elements mark bits)) = inr (refl, refl, refl)
is-behind start [] (Some (refuse_station mark letter)) = inl refl
is-behind start [] (Some (accept_station mark letter)) = inl refl
is-behind start [] (Some (refuse_subject mark letter)) = inl refl
is-behind start [] (Some (accept_subject mark letter)) = inl refl
is-behind start (None ∷ lines) line =
    behind-more start None lines line refl refl refl (is-behind start lines line)
is-behind start (Some (moment n) ∷ lines) line =
    behind-moment start n lines line (is-behind start lines line)
is-behind start (Some (elements mark bits) ∷ lines) line = inl refl
is-behind start (Some (refuse_station mark letter) ∷ lines) line =
    behind-more start (Some (refuse_station mark letter)) lines line refl refl refl
    (is-behind start lines line)
is-behind start (Some (accept_station mark letter) ∷ lines) line =
    behind-more start (Some (accept_station mark letter)) lines line refl refl refl
    (is-behind start lines line)
is-behind start (Some (refuse_subject mark letter) ∷ lines) line =
    behind-more start (Some (refuse_subject mark letter)) lines line refl refl refl
    (is-behind start lines line)
is-behind start (Some (accept_subject mark letter) ∷ lines) line =
    behind-more start (Some (accept_subject mark letter)) lines line refl refl refl
    (is-behind start lines line)

-- ---- elements that come first

-- a line that says a moment in range leaves some
said-some : (n : ℕ) (rest : List ℕ) → nat_le n last_moment ≡ true
    → cond (nat_le n last_moment) (n ∷ []) [] ++ rest ≡ [] → ⊥
said-some n rest in_range none =
    let some : n ∷ rest ≡ [] =
    ap (λ (b : Bool). cond b (n ∷ []) [] ++ rest) (sym in_range) ∙ none in cc

first-moment : (start : StartMoments) (n : ℕ) (lines : List (Option Line)) (line : Option Line)
    → moments_behind start (Some (moment n) ∷ lines) ≡ []
    → (moments_behind start lines ≡ []
    → with_start start (lines ++ line ∷ []) ≡ with_start start lines ++ set_line start ∷ line ∷ [])
    → with_start start (Some (moment n) ∷ (lines ++ line ∷ []))
    ≡ with_start start (Some (moment n) ∷ lines) ++ set_line start ∷ line ∷ []
first-moment start n lines line none rest =
    elim (nat_le n last_moment) as (λ b. nat_le n last_moment ≡ b
    → with_start start (Some (moment n) ∷ (lines ++ line ∷ []))
    ≡ with_start start (Some (moment n) ∷ lines) ++ set_line start ∷ line ∷ []) [
      | true ↦ λ in_range. absurd (said-some n _ in_range none)
      | false ↦ λ out.
          let quiet : moments_behind start lines ≡ [] =
          sym (ap (λ b. cond b (n ∷ []) []
          ++ moments_said (cond b lines (with_start start lines))) out) ∙ none in
          ap (λ b. Some (moment n)
          ∷ cond b (lines ++ line ∷ []) (with_start start (lines ++ line ∷ []))) out
          ∙ ap (λ l. Some (moment n) ∷ l) (rest quiet)
          ∙ ap (λ b. (Some (moment n) ∷ cond b lines (with_start start lines))
          ++ set_line start ∷ line ∷ []) (sym out)
    ] refl

first-elements : (start : StartMoments) (lines : List (Option Line)) (mark : Option Channel)
    (bits : List Bool)
    → nat_le (given start) last_moment ≡ true → moments_behind start lines ≡ []
    → with_start start (lines ++ Some (elements mark bits) ∷ [])
    ≡ with_start start lines ++ set_line start ∷ Some (elements mark bits) ∷ []
first-elements start [] mark bits in_range none = refl
first-elements start (None ∷ lines) mark bits in_range none =
    ap (λ l. None ∷ l) (first-elements start lines mark bits in_range none)
first-elements start (Some (moment n) ∷ lines) mark bits in_range none =
    first-moment start n lines (Some (elements mark bits)) none
    (λ quiet. first-elements start lines mark bits in_range quiet)
first-elements start (Some (elements other more) ∷ lines) mark bits in_range none =
    absurd (said-some (given start) (moments_said (Some (elements other more) ∷ lines)) in_range
    none)
first-elements start (Some (refuse_station other letter) ∷ lines) mark bits in_range none =
    ap (λ l. Some (refuse_station other letter) ∷ l)
    (first-elements start lines mark bits in_range none)
first-elements start (Some (accept_station other letter) ∷ lines) mark bits in_range none =
    ap (λ l. Some (accept_station other letter) ∷ l)
    (first-elements start lines mark bits in_range none)
first-elements start (Some (refuse_subject other letter) ∷ lines) mark bits in_range none =
    ap (λ l. Some (refuse_subject other letter) ∷ l)
    (first-elements start lines mark bits in_range none)
first-elements start (Some (accept_subject other letter) ∷ lines) mark bits in_range none =
    ap (λ l. Some (accept_subject other letter) ∷ l)
    (first-elements start lines mark bits in_range none)

pub more-than-none : (n : ℕ) → nat_lt 0 (suc n) ≡ true
more-than-none n = grind (arith, nat_tests)

-- a line that sets the moment of the start is of elements, behind no moment
pub record IsSetting (start : StartMoments) (moments : List ℕ) (line : Option Line) : Type 0 where
  pub mark : Option Channel
  pub bits : List Bool
  pub is : line ≡ Some (elements mark bits)
  pub first : moments ≡ []
  pub in_range : nat_le (given start) last_moment ≡ true

pub is-setting : (start : StartMoments) (moments : List ℕ) (line : Option Line)
    → sets start moments line ≡ true → IsSetting start moments line
is-setting start moments None h = cc
is-setting start moments (Some (moment n)) h = cc
is-setting start [] (Some (elements mark bits)) h = record {
  mark = mark;
  bits = bits;
  is = refl;
  first = refl;
  in_range = h;
}
is-setting start (n ∷ moments) (Some (elements mark bits)) h =
    let not_first : false ≡ true =
    ap (λ b. not b && nat_le (given start) last_moment) (sym (more-than-none (length moments))) ∙ h
    in cc
is-setting start moments (Some (refuse_station mark letter)) h = cc
is-setting start moments (Some (accept_station mark letter)) h = cc
is-setting start moments (Some (refuse_subject mark letter)) h = cc
is-setting start moments (Some (accept_subject mark letter)) h = cc

-- the moment is set before the line
pub set-before : (start : StartMoments) (lines : List (Option Line)) (line : Option Line)
    → sets start (moments_behind start lines) line ≡ true
    → with_start start (lines ++ line ∷ []) ≡ with_start start lines ++ set_line start ∷ line ∷ []
set-before start lines line h =
    let s = is-setting start (moments_behind start lines) line h in
    subst (λ l. with_start start (lines ++ l ∷ [])
    ≡ with_start start lines ++ set_line start ∷ l ∷ [])
    (sym s.is) (first-elements start lines s.mark s.bits s.in_range s.first)

-- what is made of the lines and one more, where no moment is set: it is the same, whether or not a
-- line stands before the last one that says a moment out of range
pub unset-behind : {A : Type 0} (f : List (Option Line) → A) (start : StartMoments)
    (lines : List (Option Line)) (line : Option Line)
    → sets start (moments_behind start lines) line ≡ false
    → (nat_le (given start) last_moment ≡ false
    → f (with_start start lines ++ set_line start ∷ line ∷ [])
    ≡ f (with_start start lines ++ line ∷ []))
    → f (with_start start (lines ++ line ∷ [])) ≡ f (with_start start lines ++ line ∷ [])
unset-behind f start lines line idle same = by (is-behind start lines line)
  where
    by : IsBehind start lines line
        → f (with_start start (lines ++ line ∷ [])) ≡ f (with_start start lines ++ line ∷ [])
    by (inl h) = ap f h
    by (inr h) =
        ap f h.2
        ∙ same (sym h.0 ∙ ap (λ m. sets start m line) (sym h.1) ∙ idle)

-- ---- the moments

-- the moments that one more line says
pub moments_said-more : (lines : List (Option Line)) (line : Option Line)
    → moments_said (lines ++ line ∷ []) ≡ moments_said lines ++ moment_said line
moments_said-more lines line =
    flat_map-append moment_said lines (line ∷ [])
    ∙ ap (λ l. moments_said lines ++ l) (append-nil (moment_said line))

pub moments_behind-more : (start : StartMoments) (lines : List (Option Line)) (line : Option Line)
    → moments_behind start (lines ++ line ∷ [])
    ≡ moments_behind start lines ++ said_behind start (moments_behind start lines) line
moments_behind-more start lines line =
    elim (sets start (moments_behind start lines) line) as (λ b.
    sets start (moments_behind start lines) line ≡ b
    → moments_behind start (lines ++ line ∷ [])
    ≡ moments_behind start lines ++ cond b (given start ∷ []) (moment_said line)) [
      | true ↦ λ h. when-set h
      | false ↦ λ h.
          unset-behind moments_said start lines line h (λ out.
          flat_map-append moment_said whole (set_line start ∷ line ∷ [])
          ∙ ap (λ (b : Bool). moments_said whole
          ++ (cond b (given start ∷ []) [] ++ (moment_said line ++ []))) out
          ∙ sym (flat_map-append moment_said whole (line ∷ [])))
          ∙ moments_said-more whole line
    ] refl
  where
    whole : List (Option Line)
    whole = with_start start lines

    when-set : sets start (moments_behind start lines) line ≡ true
        → moments_behind start (lines ++ line ∷ [])
        ≡ moments_behind start lines ++ given start ∷ []
    when-set h =
        let s = is-setting start (moments_behind start lines) line h in
        ap moments_said (set-before start lines line h)
        ∙ flat_map-append moment_said whole (set_line start ∷ line ∷ [])
        ∙ ap (λ (b : Bool). moments_said whole
        ++ (cond b (given start ∷ []) [] ++ (moment_said line ++ []))) s.in_range
        ∙ ap (λ l. moments_said whole ++ given start ∷ (moment_said l ++ [])) s.is
