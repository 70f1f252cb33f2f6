-- What sending answers follows from what its steps said.
use Rattle.std.proofs.Common.{◌≡◌, ℕ, ◌≤◌, ◌==◌, Bool, List, [], ◌∷◌, ◌++◌, length, map, not}
use Rattle.std.proofs.Common.{get_or, Some, Result, Ok, Err, refl, sym, ap, ◌∙◌, subst}
use Rattle.std.proofs.Common.{arith}
use Rattle.std.proofs.lemmas.Bool.{false≢true, eq-eqb, not-true}
use Rattle.std.proofs.lemmas.List.Elements.{All-from_recursion}
use Rattle.std.proofs.lemmas.List.Quantifiers.{position-Some}
use Rattle.std.specs.Io.KnownBytes.{Appends}
use Rattle.nx_envelope.specs.Message.{MessageView}
use Rattle.nx_fec.specs.Transfers.{AnswersToEnd, Contents, Devices, Extent, Reads, WroteSome}
use Rattle.nx_fec.specs.Transfers.{contents_of, input_of}
use Rattle.nx_fec.specs.emissions.Emission.{SentPosition, bits_of, emission}
use Rattle.nx_fec.specs.air_files.BitLines.{bit_lines}
use Rattle.nx_fec.specs.air_files.Lines.{file_of, line_bytes}
use Rattle.nx_fec.specs.air_files.AirFile.{moment}
use Rattle.nx_fec.specs.Runs.{ExplainsWhole, IsOutsideWhole, IsWithin, file_limit}
use Rattle.nx_fec.specs.declared.fault.ReadFault.{ReadFault}
use Rattle.nx_fec.specs.declared.fault.ReadFault.TheVariants as read
use Rattle.nx_fec.proofs.lemmas.devices.TransferLaws.{Ok-not_err, Reads-on}
use Rattle.nx_station.specs.Broadcast.{IsBroadcast}
use Rattle.nx_station.specs.Faults.{read_fault, send_fault}
use Rattle.nx_station.specs.MessageFile.{IsMessageFile, file_message_of}
use Rattle.nx_station.specs.FileSending.{ExplainsSending, IsOutside, IsTransmission, Sends}
use Rattle.nx_station.specs.Sendable.{AreOf, IsRefusal, IsSendable, first_of_another, HasSlots}
use Rattle.nx_station.specs.Slots.{IsNextSlot}
use Rattle.nx_station.specs.declared.fault.SendFault.{SendFault}
use Rattle.nx_station.specs.declared.fault.SendFault.TheVariants as refusal
use Rattle.nx_station.specs.declared.fault.SendRunFault.{SendRunFault}
use Rattle.nx_station.specs.declared.fault.SendRunFault.TheVariants.{Read, Write}
use Rattle.nx_station.specs.declared.sending.Sent.{Sent}

-- an outcome of reading a file whole
abbrev pub reading : {N : Type 0} → Result N ReadFault → Result N ReadFault
reading outcome = outcome

-- the fault is of no device
abbrev pub IsInside : SendRunFault → Type 0
IsInside Read = ⊥
IsInside (Write written) = ⊥
IsInside _ = Unit {0}

inside-read : {T : Type 0} (fault : SendRunFault) → IsInside fault
    → ◌≡◌ {A = Result T SendRunFault} (Err fault) (Err Read) → ⊥
inside-read {T} fault h e = let same : fault ≡ Read = cc in subst IsInside same h

inside-write : {T : Type 0} (fault : SendRunFault) (written : ℕ) → IsInside fault
    → ◌≡◌ {A = Result T SendRunFault} (Err fault) (Err (Write written)) → ⊥
inside-write {T} fault written h e = let same : fault ≡ Write written = cc in subst IsInside same h

write-read : (written : ℕ) → ◌≡◌ {A = Result Sent SendRunFault} (Err (Write written)) (Err Read) → ⊥
write-read written e = cc

-- ---- the file isn't read whole

-- what reading the file whole said
abbrev pub WasRead : {R W N : Type 0} → Devices R W → (N → List ℕ) → Result N ReadFault → Type 0
WasRead d items outcome = Reads (input_of d) read.Read
    (λ fault bytes. IsOutsideWhole fault → IsWithin file_limit bytes) outcome
    (AnswersToEnd (λ text bytes. IsWithin file_limit bytes × (items text ≡ bytes))
    (λ extent bytes fault. ExplainsWhole file_limit bytes fault) outcome)

-- ---- it is read whole

-- the fault comes before anything is written
pub unsent : {R W N : Type 0} (d : Devices R W) (station from : ℕ) (text : N) (items : List ℕ)
    (fault : SendRunFault)
    → WasRead d (λ _. items) (reading {N = N} (Ok text))
    → d.writer_after ≡ d.writer → d.writer.failures ≡ 0 → IsInside fault
    → ((extent : Extent) → extent.at_end → length items ≤ file_limit
    → ExplainsSending station from extent items (contents_of d) fault)
    → Sends d station from (Err fault)
unsent d station from text items fault reads same none inside explains = record {
  reads = Reads-on _ _ _ _ _ _ _ reads
      (λ extent bytes k. subst (λ l. ExplainsSending station from extent l (contents_of d) fault)
      k.1.1 (explains extent k.0 (subst (λ l. length l ≤ file_limit) (sym k.1.1) k.1.0)))
      (λ bytes k h outside. k.1.0) (λ e. absurd (inside-read fault inside e))
      (λ e. absurd (Ok-not_err text read.Read e));
  writes = record {
    failed = (
      λ w. absurd (inside-write fault w.0 inside w.1),
      λ one. absurd
          (omega (arith, ap (λ x. x.failures) same, none, one)),
    );
    once =
        omega (arith, ap (λ x. x.failures) same, none);
  };
  unwritten = λ other. same;
}

-- the file is written, or a part of it
pub unwritten : {R W N : Type 0} (d : Devices R W) (station from : ℕ) (text : N)
    (items air : List ℕ) (sent : Sent) (written : ℕ)
    → WasRead d (λ _. items) (reading {N = N} (Ok text))
    → d.writer_after.failures ≡ 1 → IsTransmission station from items air sent
    → WroteSome (d.contents d.writer.inner) (d.contents d.writer_after.inner) air written
    → Sends d station from (Err (Write written))
unwritten d station from text items air sent written reads one is wrote = record {
  reads = Reads-on _ _ _ _ _ _ _ reads
      (λ extent bytes k. (
        k.0,
        k.1.0,
        air,
        sent,
        subst (λ l. IsTransmission station from l air sent) k.1.1 is,
        wrote,
      ))
      (λ bytes k h outside. k.1.0) (λ e. absurd (write-read written e))
      (λ e. absurd (Ok-not_err text read.Read e));
  writes = record { failed = (λ w. one, λ h. (written, refl)); once = omega (arith, one) };
  unwritten = λ other. absurd (other written refl);
}

pub sent-all : {R W N : Type 0} (d : Devices R W) (station from : ℕ) (text : N) (items air : List ℕ)
    (sent : Sent)
    → WasRead d (λ _. items) (reading {N = N} (Ok text))
    → d.writer_after.failures ≡ 0 → IsTransmission station from items air sent
    → Appends (d.contents d.writer.inner) (d.contents d.writer_after.inner) air
    → Sends d station from (Ok sent)
sent-all d station from text items air sent reads none is wrote = record {
  reads = Reads-on _ _ _ _ _ _ _ reads
      (λ extent bytes k. (
        k.0,
        k.1.0,
        air,
        subst (λ l. IsTransmission station from l air sent) k.1.1 is,
        wrote,
      ))
      (λ bytes k h. h) (λ e. absurd (Ok-not_err sent Read e))
      (λ e. absurd (Ok-not_err text read.Read e));
  writes = record {
    failed =
        (λ w. absurd (Ok-not_err sent (Write w.0) w.1), λ one. absurd (omega (arith, none, one)));
    once =
        omega (arith, none);
  };
  unwritten = tt;
}

-- ---- the refusals of an emission

pub of_one-None : (station : ℕ) (messages : List MessageView) (at : ℕ) → AreOf station messages
    → first_of_another messages ≡ Some at → ⊥
of_one-None station [] at h e = cc
of_one-None station (m ∷ ms) at h e =
    let there = position-Some
    (λ (other : MessageView). not (other.identity.b1.byte == m.identity.b1.byte)) (m ∷ ms) at m
    e in
    let here : (get_or (m ∷ ms) at m).identity.b1.byte ≡ station =
    All-from_recursion (λ (message : MessageView). message.identity.b1.byte ≡ station) (m ∷ ms)
    h.each at m there.0 in
    false≢true (sym (not-true _ there.1) ∙ eq-eqb _ _ (here ∙ sym h.each.0))

pub same-station : (one other : ℕ) (messages : List MessageView) → AreOf one messages
    → AreOf other messages → one ≡ other
same-station one other [] h k = absurd (h.some refl)
same-station one other (m ∷ ms) h k = sym h.each.0 ∙ k.each.0

pub refusal-explains : (extent : Extent) (station from slot : ℕ) (file : List ℕ)
    (messages : List MessageView) (contents : Contents) (why : SendFault) → extent.at_end
    → length file ≤ file_limit
    → IsMessageFile file (map file_message_of messages) → AreOf station messages
    → IsNextSlot station from slot → IsRefusal messages why
    → ExplainsSending station from extent file contents (send_fault why)
refusal-explains extent station from slot file messages contents refusal.NoMessages end few is of
    next h = absurd (of.some h)
refusal-explains extent station from slot file messages contents (refusal.MixedStations at) end few
    is of next h = absurd (of_one-None station messages at of h)
refusal-explains extent station from slot file messages contents refusal.NoSlot end few is of next
    h =
    absurd (h.2 (subst HasSlots (same-station station h.0 messages of h.1) next.is_slot.has_slots))
refusal-explains extent station from slot file messages contents (refusal.SlotFull count) end few is
    of next h = (
      end,
      few,
      record {
        messages = messages;
        is_file = is;
        of_station = of;
        slot = slot;
        next =
            next;
        positions = h.positions;
        too_many = h.too_many;
      },
    )
refusal-explains extent station from slot file messages contents (refusal.Memory error) end few is
    of next h = tt

pub refusal-inside : (why : SendFault) → IsInside (send_fault why)
refusal-inside refusal.NoMessages = tt
refusal-inside (refusal.MixedStations at) = tt
refusal-inside refusal.NoSlot = tt
refusal-inside (refusal.SlotFull count) = tt
refusal-inside (refusal.Memory error) = tt

-- ---- what is sent

pub transmission-of : (station from slot : ℕ) (file given : List ℕ)
    (messages shown : List MessageView) (positions : List SentPosition) (line : List ℕ)
    (bits : List Bool) (count all : ℕ)
    → given ≡ file → shown ≡ messages → IsMessageFile given (map file_message_of messages)
    → AreOf station messages → IsSendable shown → IsNextSlot station from slot
    → IsBroadcast shown positions
    → line ≡ line_bytes (moment slot) → bits ≡ bits_of (emission positions)
    → count ≡ length positions → all ≡ length messages
    → IsTransmission station from file (line ++ file_of (bit_lines bits)) record
    { slot = slot; positions = count; messages = all }
transmission-of station from slot file given messages shown positions line bits count all same alike
    is of sendable next broadcast spelled sounds counted whole = record {
      messages = messages;
      is_file = subst (λ l. IsMessageFile l (map file_message_of messages)) same is;
      of_station = of;
      sendable = subst IsSendable alike sendable;
      next = next;
      positions = positions;
      broadcast = subst (λ l. IsBroadcast l positions) alike broadcast;
      whole = ap (λ l. l ++ file_of (bit_lines bits)) spelled
          ∙ ap (λ b. line_bytes (moment slot) ++ file_of (bit_lines b)) sounds;
      count = counted;
      all = whole;
    }
