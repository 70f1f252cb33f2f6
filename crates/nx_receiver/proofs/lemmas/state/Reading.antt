-- What reading a state says of its reader, at each of its ends.
use Rattle.std.proofs.Common.{◌≡◌, ℕ, ◌+◌, List, [], ◌∷◌, ◌++◌, length, Option, Result, Ok, Err}
use Rattle.std.proofs.Common.{inl, inr, refl, sym, ap, ◌∙◌, subst, append_assoc, append-nil, arith}
use Rattle.std.specs.Io.KnownBytes.{Consumes}
use Rattle.std.proofs.KnownBytes.{Consumes-trans}
use Rattle.nx_code.specs.Reading.{newline}
use Rattle.nx_fec.specs.Transfers.{CountedDevice, whole_input}
use Rattle.nx_fec.proofs.lemmas.devices.TransferLaws.{IfSome-end, IfSome-front, Ok-not_err, read_failed-none}
use Rattle.nx_memory.specs.Saved.{SavedStates}
use Rattle.nx_memory.specs.StateText.{BeginsNoText, BeginsText, IsShortLine, IsStateText}
use Rattle.nx_receiver.specs.air_file_runs.State.{AnswersState, IsStateBytes, ReadsState, StopsInText}
use Rattle.nx_receiver.specs.air_file_runs.State.{ended_lines}
use Rattle.nx_receiver.specs.private.StateParts.{IsNextLine}
use Rattle.nx_receiver.specs.declared.air_file_runs.state.LineRead.TheVariants.{Long, Cut, Failed}
use Rattle.nx_receiver.specs.declared.air_file_runs.state_fault.StateFault.{StateFault}
use Rattle.nx_receiver.specs.declared.air_file_runs.state_fault.StateFault.TheVariants.{Read, StateLine, StateCut}
use Rattle.nx_receiver.proofs.lemmas.state.Splits.{ended-one}

-- whole lines, the beginning of one more, and what follows
stops : (lines : List (List ℕ)) (line front after : List ℕ)
    (P : List (List ℕ) → List ℕ → List ℕ → Type 0)
    → BeginsText lines → IsShortLine line → P lines line (front ++ after)
    → StopsInText ((ended_lines lines ++ (line ++ front)) ++ after) P
stops lines line front after P begins part here = record {
  lines = lines;
  rest = line;
  more = front ++ after;
  whole = ap (λ l. l ++ after) (sym (append_assoc (ended_lines lines) line front))
      ∙ append_assoc (ended_lines lines ++ line) front after;
  begins = begins;
  part = part;
  here = here;
}

-- and with nothing after it
stops-here : (lines : List (List ℕ)) (line front : List ℕ)
    (P : List (List ℕ) → List ℕ → List ℕ → Type 0)
    → BeginsText lines → IsShortLine line → P lines line front
    → StopsInText (ended_lines lines ++ (line ++ front)) P
stops-here lines line front P begins part here = record {
  lines = lines;
  rest = line;
  more = front;
  whole = sym (append_assoc (ended_lines lines) line front);
  begins = begins;
  part = part;
  here = here;
}

Line-not_read : (line : ℕ)
    → ◌≡◌ {A = Result SavedStates StateFault} (Err (StateLine line)) (Err Read) → ⊥
Line-not_read line e = cc

Cut-not_read : (line : ℕ) → ◌≡◌ {A = Result SavedStates StateFault} (Err (StateCut line)) (Err Read)
    → ⊥
Cut-not_read line e = cc

module _ {R : Type 0} (remaining : R → Option (List ℕ)) (old mid new : CountedDevice R)
    (lines : List (List ℕ)) (begins : BeginsText lines)
    (before : Consumes (remaining old.inner) (remaining mid.inner) (ended_lines lines)) where
  pub reads-done : (line : List ℕ) (states : SavedStates)
      → Consumes (remaining mid.inner) (remaining new.inner) (line ++ newline ∷ [])
      → new.failures ≡ 0 → IsStateText (lines ++ line ∷ []) states
      → ReadsState remaining old new (Ok states)
  reads-done line states consumed none is =
      let text = ended_lines (lines ++ line ∷ []) in
      let all = subst (Consumes (remaining old.inner) (remaining new.inner))
      (sym (ended-one lines line)) (Consumes-trans _ _ _ _ _ before consumed) in
      let stands : IsStateBytes text states =
      record { lines = lines ++ line ∷ []; text = is; spelled = refl } in
      record {
        bytes = text;
        consumed = all;
        answer = record {
          text = text;
          more = [];
          states = states;
          whole = sym (append-nil text);
          stands_for = stands;
          here = (refl, refl);
        };
        file = IfSome-front _ _ text (λ input. AnswersState whole_input input
            (Ok states)) all (λ more. record {
              text = text;
              more = more;
              states = states;
              whole = refl;
              stands_for = stands;
              here = (refl, tt);
            });
        before = tt;
        failed = read_failed-none _ _ _ (Ok-not_err _ _) none;
        once = omega (arith, none);
      }

  pub reads-bad : (line : List ℕ) (number : ℕ)
      → IsShortLine line
      → Consumes (remaining mid.inner) (remaining new.inner) (line ++ newline ∷ [])
      → new.failures ≡ 0 → number ≡ length lines + 1 → BeginsNoText (lines ++ line ∷ [])
      → ReadsState remaining old new (Err (StateLine number))
  reads-bad line number part consumed none count bad =
      let all = Consumes-trans _ _ _ _ _ before consumed in
      record {
        bytes = ended_lines lines ++ (line ++ newline ∷ []);
        consumed = all;
        answer = stops-here lines line (newline ∷ []) _ begins part
            (count, (refl, inl (refl, bad)));
        file = IfSome-front _ _ _ (λ input. AnswersState whole_input input
            (Err (StateLine number))) all
            (λ more. stops lines line (newline ∷ []) more _ begins part
            (count, (tt, inl (refl, bad))));
        before = tt;
        failed = read_failed-none _ _ _ (Line-not_read number) none;
        once = omega (arith, none);
      }

  pub reads-long : (number : ℕ) → IsNextLine remaining mid new Long → number ≡ length lines + 1
      → ReadsState remaining old new (Err (StateLine number))
  reads-long number h count =
      let byte = h.here.0 in
      let consumed = subst (λ l. Consumes (remaining mid.inner) (remaining new.inner) (h.line ++ l))
      h.here.1 h.consumed in
      let all = Consumes-trans _ _ _ _ _ before consumed in
      record {
        bytes = ended_lines lines ++ (h.line ++ byte ∷ []);
        consumed = all;
        answer = stops-here lines h.line (byte ∷ []) _ begins h.part
            (count, (refl, inr (h.here.2, h.here.3)));
        file = IfSome-front _ _ _ (λ input. AnswersState whole_input input
            (Err (StateLine number))) all
            (λ more. stops lines h.line (byte ∷ []) more _ begins h.part
            (count, (tt, inr (h.here.2, h.here.3))));
        before = tt;
        failed = read_failed-none _ _ _ (Line-not_read number) h.here.4;
        once = omega (arith, h.here.4);
      }

  pub reads-cut : (number : ℕ) → IsNextLine remaining mid new Cut → number ≡ length lines + 1
      → ReadsState remaining old new (Err (StateCut number))
  reads-cut number h count =
      let consumed = subst (λ l. Consumes (remaining mid.inner) (remaining new.inner) (h.line ++ l))
      h.here.0 h.consumed in
      let all = Consumes-trans _ _ _ _ _ before consumed in
      record {
        bytes = ended_lines lines ++ (h.line ++ []);
        consumed = all;
        answer = (h.here.1, stops-here lines h.line [] _ begins h.part (count, refl));
        file = IfSome-end _ _ _ (λ input. AnswersState whole_input input
            (Err (StateCut number))) all h.here.1
            (tt, stops-here lines h.line [] _ begins h.part (count, refl));
        before = tt;
        failed = read_failed-none _ _ _ (Cut-not_read number) h.here.2;
        once = omega (arith, h.here.2);
      }

  pub reads-failed : IsNextLine remaining mid new Failed
      → ReadsState remaining old new (Err Read)
  reads-failed h =
      let consumed = subst (λ l. Consumes (remaining mid.inner) (remaining new.inner) (h.line ++ l))
      h.here.0 h.consumed in
      let all = Consumes-trans _ _ _ _ _ before consumed in
      record {
        bytes = ended_lines lines ++ (h.line ++ []);
        consumed = all;
        answer = stops-here lines h.line [] _ begins h.part refl;
        file = IfSome-front _ _ _ (λ input. AnswersState whole_input input
            (Err Read)) all (λ more. stops lines h.line [] more _ begins h.part tt);
        before = tt;
        failed = (λ e. h.here.1, λ e. refl);
        once = omega (arith, h.here.1);
      }
