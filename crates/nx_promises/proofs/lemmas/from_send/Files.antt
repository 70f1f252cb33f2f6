-- What `send` writes of messages, as an air file that is listened to.
use Rattle.std.proofs.Common.{◌≡◌, ℕ, ◌<◌, ◌≤◌, Bool, List, [], ◌∷◌, map, length, refl, sym}
use Rattle.std.proofs.Common.{ap, ◌∙◌, subst, arith}
use Rattle.nx_envelope.specs.Message.{MessageView}
use Rattle.nx_fec.specs.air_files.AirFile.{Line, moment}
use Rattle.nx_fec.specs.air_files.BitLines.{bit_lines}
use Rattle.nx_fec.specs.emissions.Emission.{bits_of, emission}
use Rattle.nx_fec.specs.declared.air_files.channel.Channel.TheVariants.{Zero}
use Rattle.nx_fec.specs.air_files.Lines.{IsAirFile, air_limit}
use Rattle.nx_fec.proofs.lemmas.lines.LineLaws.{IsAirFile-unique}
use Rattle.nx_station.specs.FileSending.{IsTransmission}
use Rattle.nx_station.specs.declared.sending.Sent.{Sent}
use Rattle.nx_station.proofs.lemmas.broadcasts.TransmissionLength.{length-transmission}
use Rattle.nx_copies.specs.Events.{Event, at_moment, at_zero, elements_among}
use Rattle.nx_receiver.specs.air_file_runs.Listen.{AreTaken, IsLogOf, IsLogOfFile, events_on, given_by}
use Rattle.nx_receiver.specs.private.Taken.{AreTakenAfter}
use Rattle.nx_receiver.proofs.lemmas.listening.Taken.{are-taken}
use Rattle.nx_copies.specs.copies.Log.{PrintsToEnd}
use Rattle.nx_receiver.specs.air_file_runs.ListenOnce.{IsHeardInTimeOn}
use Rattle.nx_copies.specs.laws.Once.{IsHeardInTime, IsPrintedOnce}
use Rattle.nx_copies.specs.copies.Printing.{printed_copies}
use Rattle.nx_copies.specs.Events as fed
use Rattle.nx_promises.specs.laws.FromSend.{BearsAlone, copy_as_sent, events_as_sent, parts_as_sent}
use Rattle.nx_copies.specs.copies.InTurn.{PrintAllToEnd}
use Rattle.nx_copies.specs.copies.Shares.{MarkedCopy, all_at_zero, copies_on, marked}
use Rattle.nx_copies.proofs.lemmas.channels.Shares.{to_end-on}
use Rattle.nx_promises.proofs.lemmas.chain.Alone.{HearsAlone, all-alone}
use Rattle.nx_promises.proofs.lemmas.listening.ElementLines.{events-lines, events-others, good-lines}
use Rattle.nx_promises.proofs.lemmas.listening.ElementLines.{taken-lines}
use Rattle.nx_receiver.proofs.lemmas.listening.Moments.{some-closed}
use Rattle.nx_copies.proofs.lemmas.once.Found.{printed_once}
use Rattle.nx_promises.proofs.lemmas.from_send.Heard.{heard_in_time}
use Rattle.nx_promises.proofs.lemmas.from_send.Log.{log_as_sent}

-- ---- the lines of a transmission

abbrev lines_as_sent : ℕ → List Bool → List Line
lines_as_sent slot bits = moment slot ∷ bit_lines bits

events-as_sent : (slot : ℕ) (bits : List Bool)
    → events_on Zero (lines_as_sent slot bits) ≡ at_moment slot ∷ fed.elements bits
events-as_sent slot bits =
    ap (λ l. at_moment slot ∷ l) (events-lines bits)

-- they give elements to channel 0 alone
sent-alone : (slot : ℕ) (bits : List Bool) → HearsAlone Zero (given_by (lines_as_sent slot bits))
unfolding elements_among
sent-alone slot bits other h =
    ap (λ l. elements_among (at_moment slot ∷ l)) (events-others other h bits)

module _ (station from : ℕ) (file air : List ℕ) (sent : Sent)
    (h : IsTransmission station from file air sent) where
  abbrev bits : List Bool
  bits = bits_of (emission h.positions)

  abbrev lines : List Line
  lines = lines_as_sent sent.slot bits

  within : length air ≤ air_limit
  within = omega (arith, length-transmission station from file air sent h)

  is_file : IsAirFile air_limit air lines
  is_file = record {
    whole = h.whole;
    each =
        (omega (arith, h.next.in_range), good-lines bits);
    within = within;
  }

  are_taken : AreTaken all_at_zero lines
  unfolding AreTakenAfter
  are_taken =
      are-taken all_at_zero lines (omega arith)
      ((omega arith, h.next.in_range), taken-lines all_at_zero (moment sent.slot ∷ []) bits refl)

  -- it has a log
  pub log_of_sent : (log : List ℕ) × IsLogOf all_at_zero air log
  log_of_sent = some-closed all_at_zero air lines is_file are_taken

  abbrev combinations : List (List ℕ)
  combinations = h.broadcast.spellings

  events_are : events_on Zero lines ≡ events_as_sent sent.slot combinations
  events_are =
      events-as_sent sent.slot bits
      ∙ ap (λ p. at_moment sent.slot ∷ fed.elements (bits_of (emission p))) h.broadcast.whole

  -- its lines are those that were sent
  lines_are : (read : List Line) (copies : List MarkedCopy) (log : List ℕ)
      → IsLogOfFile all_at_zero air read copies log
      → PrintAllToEnd all_at_zero (given_by lines) copies
  lines_are read copies log is =
      subst (λ (all : List Line). PrintAllToEnd all_at_zero (given_by all) copies)
      (IsAirFile-unique air_limit air read lines is.file is_file) is.printed

  prints_as_sent : (copies : List MarkedCopy)
      → PrintAllToEnd all_at_zero (given_by lines) copies
      → PrintsToEnd at_zero (events_as_sent sent.slot combinations) (copies_on Zero copies)
  prints_as_sent copies prints =
      subst (λ (e : List Event). PrintsToEnd at_zero e (copies_on Zero copies)) events_are
      (to_end-on all_at_zero (given_by lines) copies Zero prints)

  -- each of its messages is heard in time in it
  pub sent_in_time : (message : MessageView) → BearsAlone h.messages message
      → 0 < message.identity.number
      → IsHeardInTimeOn Zero all_at_zero air message
  sent_in_time message alone numbered =
      let parts = parts_as_sent h.messages combinations in
      record {
        lines = lines;
        spelled = is_file;
        parts = parts;
        heard =
            subst (λ (e : List Event). IsHeardInTime at_zero e parts message) (sym events_are)
            (heard_in_time h.messages combinations sent.slot message h.sendable h.broadcast.each
            alone numbered);
      }

  -- what is printed of its messages, all on channel 0
  pub sent_log : (read : List Line) (copies : List MarkedCopy) (log : List ℕ)
      → IsLogOfFile all_at_zero air read copies log
      → copies
      ≡ map (marked Zero) (printed_copies [] (map (copy_as_sent sent.slot) h.messages))
  sent_log read copies log is =
      let prints = lines_are read copies log is in
      all-alone Zero all_at_zero (given_by lines) copies (sent-alone sent.slot bits) prints
      ∙ ap (map (marked Zero))
      (log_as_sent h.messages combinations sent.slot (copies_on Zero copies) h.sendable
      h.broadcast.each (prints_as_sent copies prints))

  -- each of them once
  pub sent_once : (message : MessageView) (read : List Line) (copies : List MarkedCopy)
      (log : List ℕ) → BearsAlone h.messages message
      → 0 < message.identity.number → IsLogOfFile all_at_zero air read copies log
      → IsPrintedOnce message (copies_on Zero copies)
  sent_once message read copies log alone numbered is =
      printed_once at_zero (events_as_sent sent.slot combinations)
      (parts_as_sent h.messages combinations) message
      (heard_in_time h.messages combinations sent.slot message h.sendable h.broadcast.each alone
      numbered)
      (copies_on Zero copies) (prints_as_sent copies (lines_are read copies log is))
