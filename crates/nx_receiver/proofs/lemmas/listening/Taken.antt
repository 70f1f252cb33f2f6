-- Lines that are taken, which are those of which none is refused after those before it.
use Rattle.std.proofs.Common.{◌≡◌, ◌||◌, ℕ, ◌+◌, ◌≤◌, ◌==◌, Bool, true, false, inl, inr, List, []}
use Rattle.std.proofs.Common.{◌∷◌, ◌++◌, length, refl, sym, ap, ◌∙◌, subst, append-nil}
use Rattle.std.proofs.Common.{append_assoc, arith}
use Rattle.std.proofs.lemmas.Bool.{cases_lt, eqb-true, true≢false}
use Rattle.nx_code.specs.Reading.{IsCapital}
use Rattle.nx_envelope.specs.Moment.{last_moment}
use Rattle.nx_envelope.proofs.lemmas.headers.LettersAndDigits.{letter_at}
use Rattle.nx_fec.specs.air_files.AirFile.{Line, moment, elements, refuse_station, accept_station}
use Rattle.nx_fec.specs.air_files.AirFile.{refuse_subject, accept_subject}
use Rattle.nx_memory.specs.Selection.{is_vital}
use Rattle.nx_receiver.specs.air_file_runs.Listen.{AreTaken, RefusesAfter, has_moment, moment_after}
use Rattle.nx_copies.specs.copies.Shares.{Starts}
use Rattle.nx_receiver.specs.private.Taken.{AreTakenAfter, IsTakenAfter}
use Rattle.nx_receiver.specs.declared.fault.MomentFault.TheVariants.{Range, Back}
use Rattle.nx_receiver.specs.declared.air_file_runs.listen_fault.ListenFault.{ListenFault}
use Rattle.nx_receiver.specs.declared.air_file_runs.listen_fault.ListenFault.TheVariants.{Memory, Read, Write}
use Rattle.nx_receiver.specs.declared.air_file_runs.listen_fault.ListenFault.TheVariants.{AirTooLong, LineLong}
use Rattle.nx_receiver.specs.declared.air_file_runs.listen_fault.ListenFault.TheVariants.{LineCut, BadLine}
use Rattle.nx_receiver.specs.declared.air_file_runs.listen_fault.ListenFault.TheVariants.{NoMoment, Moment, Vital}

one-of : (x : ℕ) (a b c d : Bool) → (65 == x) ≡ a → (66 == x) ≡ b → (68 == x) ≡ c → (76 == x) ≡ d
    → (a || (b || (c || (d || false)))) ≡ true → IsCapital x
one-of x true b c d p q r s e = let is = eqb-true 65 x p in (omega (arith, is), omega (arith, is))
one-of x false true c d p q r s e =
    let is = eqb-true 66 x q in (omega (arith, is), omega (arith, is))
one-of x false false true d p q r s e =
    let is = eqb-true 68 x r in (omega (arith, is), omega (arith, is))
one-of x false false false true p q r s e =
    let is = eqb-true 76 x s in (omega (arith, is), omega (arith, is))
one-of x false false false false p q r s e = absurd (true≢false (sym e))

-- a vital subject is a letter
vital-capital : (x : ℕ) → is_vital x ≡ true → IsCapital x
vital-capital x e = one-of x (65 == x) (66 == x) (68 == x) (76 == x) refl refl refl refl e

module _ (starts : Starts) where
  -- a line that is taken is refused for no fault
  not-refused : (fault : ListenFault) (lines : List Line) (line : Line)
      → IsTakenAfter starts lines line → RefusesAfter starts fault lines line → ⊥
  not-refused (Memory error) lines line h k = k
  not-refused Read lines line h k = k
  not-refused (Write written) lines line h k = k
  not-refused AirTooLong lines line h k = k
  not-refused (LineLong number) lines line h k = k
  not-refused (LineCut number) lines line h k = k
  not-refused (BadLine number) lines line h k = k
  not-refused (NoMoment number) lines (moment n) h k = k
  not-refused (NoMoment number) lines (elements mark bits) h k = true≢false (sym h ∙ k.1)
  not-refused (NoMoment number) lines (refuse_station mark letter) h k = k
  not-refused (NoMoment number) lines (accept_station mark letter) h k = k
  not-refused (NoMoment number) lines (refuse_subject mark letter) h k = k
  not-refused (NoMoment number) lines (accept_subject mark letter) h k = k
  not-refused (Moment number (Range given)) lines (moment n) h k = omega (arith, h.1, k.1.1)
  not-refused (Moment number (Back last given)) lines (moment n) h k = omega (arith, h.0, k.1.3)
  not-refused (Moment number why) lines (elements mark bits) h k = k
  not-refused (Moment number why) lines (refuse_station mark letter) h k = k
  not-refused (Moment number why) lines (accept_station mark letter) h k = k
  not-refused (Moment number why) lines (refuse_subject mark letter) h k = k
  not-refused (Moment number why) lines (accept_subject mark letter) h k = k
  not-refused (Vital number subject) lines (moment n) h k = k
  not-refused (Vital number subject) lines (elements mark bits) h k = k
  not-refused (Vital number subject) lines (refuse_station mark letter) h k = k
  not-refused (Vital number subject) lines (accept_station mark letter) h k = k
  not-refused (Vital number subject) lines (refuse_subject mark letter) h k =
      true≢false (sym k.1 ∙ h)
  not-refused (Vital number subject) lines (accept_subject mark letter) h k = k

  abbrev IsFaultless : List Line → Line → Type 0
  IsFaultless lines line = (fault : ListenFault) → RefusesAfter starts fault lines line → ⊥

  said : (lines : List Line) (b : Bool) → has_moment lines ≡ b
      → (has_moment lines ≡ false → ⊥) → has_moment lines ≡ true
  said lines true e h = e
  said lines false e h = absurd (h e)

  spared : (letter : ℕ) (b : Bool) → is_vital letter ≡ b → (is_vital letter ≡ true → ⊥)
      → is_vital letter ≡ false
  spared letter true e h = absurd (h e)
  spared letter false e h = e

  -- a line that is refused for no fault is taken
  is-taken : (lines : List Line) (line : Line) → IsFaultless lines line
      → IsTakenAfter starts lines line
  is-taken lines (moment n) h =
      let last = moment_after starts.moment lines in
      let high : n ≤ last_moment =
      elim (cases_lt last_moment n) [
        | inl past ↦ absurd (h (Moment (length lines + 1) (Range n)) (refl, (refl, past)))
        | inr within ↦ within
      ] in (
        elim (cases_lt n last) [
          | inl back ↦
              absurd (h (Moment (length lines + 1) (Back last n)) (refl, (refl, refl, high, back)))
          | inr on ↦ on
        ],
        high,
      )
  is-taken lines (elements mark bits) h =
      said lines (has_moment lines) refl (λ none. h (NoMoment (length lines + 1)) (refl, none))
  is-taken lines (refuse_subject mark letter) h =
      spared letter (is_vital letter) refl (λ vital.
      h (Vital (length lines + 1) (letter_at letter (vital-capital letter vital)))
      (refl, vital, refl))
  is-taken lines (refuse_station mark letter) h = tt
  is-taken lines (accept_station mark letter) h = tt
  is-taken lines (accept_subject mark letter) h = tt

  -- of lines that are taken, each is taken after those before it
  pub taken-at : (first before : List Line) (line : Line) (after : List Line)
      → AreTakenAfter starts first (before ++ line ∷ after)
      → IsTakenAfter starts (first ++ before) line
  unfolding AreTakenAfter
  taken-at first [] line after h =
      subst (λ l. IsTakenAfter starts l line) (sym (append-nil first)) h.0
  taken-at first (x ∷ before) line after h =
      subst (λ l. IsTakenAfter starts l line) (append_assoc first (x ∷ []) before)
      (taken-at (first ++ x ∷ []) before line after h.1)

  each-taken : (first lines : List Line)
      → ((before after : List Line) (line : Line) → lines ≡ before ++ line ∷ after
      → IsFaultless (first ++ before) line)
      → AreTakenAfter starts first lines
  unfolding AreTakenAfter
  each-taken first [] h = tt
  each-taken first (line ∷ lines) h = (
    is-taken first line (subst (λ l. IsFaultless l line) (append-nil first) (h [] lines line refl)),
    each-taken (first ++ line ∷ []) lines (λ before after next e.
        subst (λ l. IsFaultless l next) (sym (append_assoc first (line ∷ []) before))
        (h (line ∷ before) after next (ap (λ l. line ∷ l) e))),
  )

  -- lines of which none is refused are taken
  pub taken-each : (lines : List Line) → AreTaken starts lines → AreTakenAfter starts [] lines
  taken-each lines h = each-taken [] lines (λ before after line e fault.
      h.each before after line fault e)

  -- and the other way
  pub are-taken : (lines : List Line) → starts.moment ≤ last_moment
      → AreTakenAfter starts [] lines → AreTaken starts lines
  are-taken lines within h = record {
    in_range = within;
    each = λ before after line fault e.
        not-refused fault before line
        (taken-at [] before line after (subst (AreTakenAfter starts []) e h));
  }
