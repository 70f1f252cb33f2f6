-- Elements have one outcome of strict reading; and what its steps say of the elements.
use Rattle.std.proofs.Common.{◌≡◌, ◌≢◌, ◌⊎◌, ℕ, Bool, List, length, inl, inr, refl, sym, ap, ◌∙◌}
use Rattle.std.proofs.Common.{subst, arith}
use Rattle.std.specs.List.{flat_map}
use Rattle.std.proofs.lemmas.Bool.{cases_lt}
use Rattle.nx_envelope.specs.Message.{MessageView}
use Rattle.nx_fec.specs.emissions.Aligned.{AreWhole, aligned_text, words_of}
use Rattle.nx_fec.specs.emissions.Emission.{SentPosition, bits_of, emission}
use Rattle.nx_station.specs.Broadcast.{IsBroadcast, printed_text}
use Rattle.nx_station.specs.Faults.{unread_fault}
use Rattle.nx_station.specs.Sendable.{IsRefusal, IsSendable, HasSlots}
use Rattle.nx_station.specs.StrictReading.{ArePaired, AreRight, ExplainsEmission}
use Rattle.nx_station.specs.StrictReading.{IsEmissionOf, IsLeast, IsMemory}
use Rattle.nx_station.specs.private.PrintedText.{AreSound, ExplainsPrinted}
use Rattle.nx_station.specs.declared.fault.EmissionFault.{EmissionFault}
use Rattle.nx_station.specs.declared.fault.EmissionFault.TheVariants.{Ragged, WrongWord, Unpaired}
use Rattle.nx_station.specs.declared.fault.EmissionFault.TheVariants.{BadEnvelope, Memory}
use Rattle.nx_station.specs.declared.fault.SendFault.{SendFault}
use Rattle.nx_station.specs.declared.fault.SendFault.TheVariants as refusal
use Rattle.nx_station.proofs.lemmas.broadcasts.Broadcast.{broadcast-one}
use Rattle.nx_station.proofs.lemmas.strict_reading.EmissionReading.{emission-paired, emission-right, emission-text}
use Rattle.nx_station.proofs.lemmas.strict_reading.EmissionReading.{emission-whole}
use Rattle.nx_station.proofs.lemmas.strict_reading.PrintedText.{printed-one}
use Rattle.nx_station.proofs.lemmas.broadcasts.SendingLaws.{of_one-None, same-station}

-- ---- one outcome

pub emission-no_fault : (bits : List Bool) (messages : List MessageView) (why : EmissionFault)
    → IsEmissionOf messages bits → ExplainsEmission bits why → IsMemory why
emission-no_fault bits messages (Ragged given) h k = absurd (k.1 (emission-whole messages bits h))
emission-no_fault bits messages (WrongWord slot) h k =
    absurd (emission-right messages bits h slot k.1.here)
emission-no_fault bits messages (Unpaired position) h k =
    absurd (emission-paired messages bits h position k.2.here)
emission-no_fault bits messages BadEnvelope h k = absurd (k.3 messages h)
emission-no_fault bits messages (Memory error) h k = tt

-- there is one least number
least-one : (Holds : ℕ → Type 0) (m n : ℕ) → IsLeast Holds m → IsLeast Holds n → m ≡ n
least-one Holds m n h k =
    elim (cases_lt m n) [
      | inl below ↦ absurd (k.none_before m below h.here)
      | inr above ↦ elim (cases_lt n m) [
        | inl below ↦ absurd (h.none_before n below k.here)
        | inr same ↦ omega (arith, above, same)
      ]
    ]

pub one_fault : (bits : List Bool) (one other : EmissionFault) → ExplainsEmission bits one
    → ExplainsEmission bits other → IsMemory one ⊎ (IsMemory other ⊎ (one ≡ other))
one_fault bits (Memory error) other h k = inl tt
one_fault bits one (Memory error) h k = inr (inl tt)
one_fault bits (Ragged m) (Ragged n) h k = inr (inr (ap Ragged (h.0 ∙ sym k.0)))
one_fault bits (Ragged m) (WrongWord n) h k = absurd (h.1 k.0)
one_fault bits (Ragged m) (Unpaired n) h k = absurd (h.1 k.0)
one_fault bits (Ragged m) BadEnvelope h k = absurd (h.1 k.0)
one_fault bits (WrongWord m) (Ragged n) h k = absurd (k.1 h.0)
one_fault bits (WrongWord m) (WrongWord n) h k = inr (inr (ap WrongWord (least-one _ m n h.1 k.1)))
one_fault bits (WrongWord m) (Unpaired n) h k = absurd (k.1 m h.1.here)
one_fault bits (WrongWord m) BadEnvelope h k = absurd (k.1 m h.1.here)
one_fault bits (Unpaired m) (Ragged n) h k = absurd (k.1 h.0)
one_fault bits (Unpaired m) (WrongWord n) h k = absurd (h.1 n k.1.here)
one_fault bits (Unpaired m) (Unpaired n) h k = inr (inr (ap Unpaired (least-one _ m n h.2 k.2)))
one_fault bits (Unpaired m) BadEnvelope h k = absurd (k.2 m h.2.here)
one_fault bits BadEnvelope (Ragged n) h k = absurd (k.1 h.0)
one_fault bits BadEnvelope (WrongWord n) h k = absurd (h.1 n k.1.here)
one_fault bits BadEnvelope (Unpaired n) h k = absurd (h.2 n k.2.here)
one_fault bits BadEnvelope BadEnvelope h k = inr (inr refl)

-- ---- the steps of strict reading

-- the words are whole, right and in pairs
pub record AreChecked (bits : List Bool) : Type 0 where
  pub whole : AreWhole bits
  pub right : AreRight bits
  pub paired : ArePaired bits

-- the text is of no messages
pub unprinted-fault : (bits : List Bool) (text : List ℕ) (why : EmissionFault) → AreChecked bits
    → text ≡ aligned_text (words_of bits) → ExplainsPrinted text why → ExplainsEmission bits why
unprinted-fault bits text BadEnvelope checked is none = (
  checked.whole,
  checked.right,
  checked.paired,
  λ messages h. none messages h.sendable.sound
      (is ∙ emission-text messages bits h),
)
unprinted-fault bits text (Memory error) checked is none =
    (checked.whole, checked.right, checked.paired)
unprinted-fault bits text (Ragged given) checked is none = absurd none
unprinted-fault bits text (WrongWord slot) checked is none = absurd none
unprinted-fault bits text (Unpaired position) checked is none = absurd none

-- the messages of which the text is printed are the only ones whose emission this can be
pub record AreRead (bits : List Bool) (messages : List MessageView) : Type 0 where
  pub checked : AreChecked bits
  pub sound : AreSound messages
  pub printed : aligned_text (words_of bits) ≡ flat_map printed_text messages

pub read-one : (bits : List Bool) (messages other : List MessageView) → AreRead bits messages
    → IsEmissionOf other bits → messages ≡ other
read-one bits messages other h k =
    printed-one messages other h.sound k.sendable.sound (sym h.printed ∙ emission-text other bits k)

-- messages that may not be sent
unsendable : (messages : List MessageView) (why : SendFault) → IsRefusal messages why
    → IsSendable messages → unread_fault why ≡ BadEnvelope → ⊥
unsendable messages refusal.NoMessages h k e = k.of_one.some h
unsendable messages (refusal.MixedStations at) h k e = of_one-None k.station messages at k.of_one h
unsendable messages refusal.NoSlot h k e =
    h.2 (subst HasSlots (same-station k.station h.0 messages k.of_one h.1) k.has_slots)
unsendable messages (refusal.SlotFull count) h k e =
    let same = broadcast-one messages h.positions.0 k.positions h.positions.1 k.broadcast in
    omega (arith, h.too_many, k.fits, h.positions.2, ap length same)
unsendable messages (refusal.Memory error) h k e = cc

refused : (bits : List Bool) (messages : List MessageView) (why : SendFault) → AreRead bits messages
    → IsRefusal messages why → unread_fault why ≡ BadEnvelope → ExplainsEmission bits BadEnvelope
refused bits messages why h refusal e = (
  h.checked.whole,
  h.checked.right,
  h.checked.paired,
  λ other k. unsendable messages why refusal
      (subst IsSendable (sym (read-one bits messages other h k)) k.sendable) e,
)

pub refused-fault : (bits : List Bool) (messages : List MessageView) (why : SendFault)
    → AreRead bits messages → IsRefusal messages why → ExplainsEmission bits (unread_fault why)
refused-fault bits messages refusal.NoMessages h k =
    refused bits messages refusal.NoMessages h k refl
refused-fault bits messages (refusal.MixedStations at) h k =
    refused bits messages (refusal.MixedStations at) h k refl
refused-fault bits messages refusal.NoSlot h k = refused bits messages refusal.NoSlot h k refl
refused-fault bits messages (refusal.SlotFull count) h k =
    refused bits messages (refusal.SlotFull count) h k refl
refused-fault bits messages (refusal.Memory error) h k =
    (h.checked.whole, h.checked.right, h.checked.paired)

-- the emission of the messages that were read has other elements
pub differing-fault : (bits own : List Bool) (messages : List MessageView)
    (positions : List SentPosition) → AreRead bits messages → IsBroadcast messages positions
    → own ≡ bits_of (emission positions)
    → own ≢ bits → ExplainsEmission bits BadEnvelope
differing-fault bits own messages positions h broadcast is differs = (
  h.checked.whole,
  h.checked.right,
  h.checked.paired,
  λ other k.
      let same = read-one bits messages other h k in
      let one = broadcast-one other positions k.positions
      (subst (λ l. IsBroadcast l positions) same broadcast) k.broadcast in
      differs (is ∙ ap (λ p. bits_of (emission p)) one ∙ sym k.whole),
)
