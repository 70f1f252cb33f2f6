-- What a message sends behind the second digit of its header gives its text, full and without an
-- error.
use Rattle.std.proofs.Common.{◌≡◌, ℕ, ◌+◌, ◌-◌, true, List, [], ◌∷◌, ◌++◌, length, map}
use Rattle.std.proofs.Common.{drop, take, Some, is_some, unwrap_or, refl, sym, ap, ◌∙◌, arith}
use Rattle.std.proofs.Common.{append_assoc, append-nil}
use Rattle.std.proofs.lemmas.List.{length-append, map-append, take_at}
use Rattle.nx_code.specs.Reading.{combination, shift_after_all, text}
use Rattle.nx_code.specs.declared.shifts.Shift.{Shift}
use Rattle.nx_code.specs.declared.shifts.Shift.TheVariants.{Figures, Letters}
use Rattle.nx_envelope.specs.Copies.{Ending, ending_of, errors_of, less_newline}
use Rattle.nx_envelope.specs.Header.{end_marker}
use Rattle.nx_envelope.specs.Message.{AreLines, MessageView, text_of}
use Rattle.nx_station.specs.Broadcast.{ending, head}
use Rattle.nx_station.specs.reception.Sendings.{TellsMessage}
use Rattle.nx_station.proofs.lemmas.strict_reading.ReadingBack.{Prints, Prints-append, Prints-character}
use Rattle.nx_station.proofs.lemmas.strict_reading.ReadingBack.{Prints-nil, Prints-return, Prints-shift}
use Rattle.nx_code.proofs.lemmas.Examples.{newline_in_figures}
use Rattle.nx_station.proofs.lemmas.strict_reading.ReadingBack.{n-prints}
use Rattle.nx_copies.proofs.lemmas.emissions.Markers.{full_ending, full_text}
use Rattle.nx_combine.specs.Laws.{IsWhole, text_sent}
use Rattle.nx_combine.specs.PositionEnds.{closed, ending_by, has_ended, raw_text_of}
use Rattle.nx_promises.specs.laws.Together.{behind_digit}
use Rattle.nx_copies.proofs.lemmas.emissions.Found.{text_errors}

-- ---- what stands behind the second digit

-- the end of a message up to its last N
abbrev pub closing : Shift → List ℕ
closing Letters = 14 ∷ 14 ∷ 14 ∷ 14 ∷ []
closing Figures = 29 ∷ 14 ∷ 14 ∷ 14 ∷ 14 ∷ []

ending-parts : (shift : Shift) → ending shift ≡ closing shift ++ (27 ∷ 28 ∷ 28 ∷ [])
unfolding ending
ending-parts Letters = refl
ending-parts Figures = refl

module _ (message : MessageView) (numbers : List ℕ) (told : TellsMessage message numbers) where
  abbrev last_shift : Shift
  last_shift = shift_after_all (map combination told.body) Figures

  abbrev sent : List ℕ
  sent = 27 ∷ 28 ∷ (told.body ++ closing last_shift)

  behind_head : drop 11 numbers ≡ sent ++ (27 ∷ 28 ∷ 28 ∷ [])
  unfolding head
  behind_head =
      ap (drop 11) told.whole
      ∙ ap (λ l. 27 ∷ 28 ∷ (told.body ++ l)) (ending-parts last_shift)
      ∙ ap (λ l. 27 ∷ 28 ∷ l)
      (sym (append_assoc told.body (closing last_shift) (27 ∷ 28 ∷ 28 ∷ [])))

  long : length numbers ≡ length sent + 14
  unfolding head
  long =
      ap length told.whole
      ∙ length-append (head message.identity) (told.body ++ ending last_shift)
      ∙ omega (
        arith,
        length-append told.body (ending last_shift),
        length-append told.body (closing last_shift),
        ap length (ending-parts last_shift),
        length-append (closing last_shift) (27 ∷ 28 ∷ 28 ∷ []),
      )

  pub sent_is : behind_digit numbers ≡ sent
  sent_is =
      ap (take (length numbers - 14)) behind_head
      ∙ take_at sent (27 ∷ 28 ∷ 28 ∷ []) (length numbers - 14) (omega (arith, long))

  marker-prints : Prints Letters (map combination (14 ∷ 14 ∷ 14 ∷ 14 ∷ [])) end_marker Letters
  marker-prints =
      Prints-character 14 78 Letters _ _ Letters (omega arith) n-prints
      (Prints-character 14 78 Letters _ _ Letters (omega arith) n-prints
      (Prints-character 14 78 Letters _ _ Letters (omega arith) n-prints
      (Prints-character 14 78 Letters _ _ Letters (omega arith) n-prints (Prints-nil Letters))))

  closing-prints : (shift : Shift) → Prints shift (map combination (closing shift)) end_marker
      Letters
  closing-prints Letters = marker-prints
  closing-prints Figures = Prints-shift Letters Figures _ _ Letters marker-prints

  body-prints : Prints Figures (map combination told.body) (text_of message.lines) last_shift
  body-prints = record { reads = told.reads; after = refl }

  sent-prints : text (map combination sent) Figures
      ≡ 10 ∷ (text_of message.lines ++ end_marker)
  sent-prints =
      let rest = Prints-append Figures last_shift Letters (map combination told.body)
      (map combination (closing last_shift)) (text_of message.lines) end_marker body-prints
      (closing-prints last_shift) in
      ap (λ l. text (combination 27 ∷ combination 28 ∷ l) Figures)
      (map-append combination told.body (closing last_shift))
      ∙ (Prints-return Figures _ _ Letters
      (Prints-character 28 10 Figures _ _ Letters (omega arith) newline_in_figures rest)).reads

  sent-ends : AreLines message.lines → ending_of (raw_text_of (map combination sent))
      ≡ Some (full_text message.lines)
  unfolding raw_text_of
  sent-ends good =
      ap (λ t. ending_of (less_newline t)) sent-prints
      ∙ ap (λ l. ending_of (text_of message.lines ++ l)) (sym (append-nil end_marker))
      ∙ full_ending message.lines good []

  pub sent-ending : AreLines message.lines → ending_by (map combination (behind_digit numbers))
      ≡ full_text message.lines
  unfolding ending_by
  sent-ending good =
      ap (λ s. ending_by (map combination s)) sent_is
      ∙ ap (λ o. unwrap_or o (closed (raw_text_of (map combination sent)))) (sent-ends good)

  pub sent-ended : AreLines message.lines → has_ended (map combination (behind_digit numbers))
      ≡ true
  sent-ended good =
      ap (λ s. has_ended (map combination s)) sent_is ∙ ap is_some (sent-ends good)

  pub sent-whole : AreLines message.lines → IsWhole (map combination (behind_digit numbers))
  sent-whole good =
      let same = sent-ending good in
      record {
        full = ap (λ (e : Ending). e.how) same;
        no_error = ap (λ (e : Ending). errors_of e.text) same
            ∙ text_errors message.lines good.each;
      }

  pub sent-text : AreLines message.lines → text_sent (behind_digit numbers)
      ≡ text_of message.lines
  sent-text good = ap (λ (e : Ending). e.text) (sent-ending good)
