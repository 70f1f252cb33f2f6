-- A receiver that is fed elements: what it stands after, and what was printed before each of them.
use Rattle.std.proofs.Common.{◌≡◌, ℕ, ◌+◌, ◌-◌, ◌<◌, ◌≤◌, Bool, List, [], ◌++◌, Option, None, length}
use Rattle.std.proofs.Common.{take, drop, refl, sym, ap, ◌∙◌, subst, append-nil, append_assoc}
use Rattle.std.proofs.Common.{arith, inl, inr, is_some, false, Some, length-drop}
use lib.Seq.{take-add}
use Rattle.std.proofs.lemmas.Bool.{cases_lt}
use Rattle.std.proofs.lemmas.List.{drop-drop, length-take, map-append, take-take}
use Rattle.nx_code.specs.Packed.{elements_of_numbers}
use Rattle.nx_sync.specs.Synchroniser.{Held}
use Rattle.nx_memory.specs.declared.memories.entry.MemoryEntry.{MemoryEntry}
use Rattle.nx_copies.specs.declared.copy_taker.Over.{Over}
use Rattle.nx_copies.specs.Events.{Event, Setting, Start, elements_among, element, first_setting}
use Rattle.nx_copies.specs.Events.{setting_after_all, settings, elements}
use Rattle.nx_copies.specs.copies.Log.{Printing}
use Rattle.nx_receiver.specs.ChannelReceiver.{AwaitsFinish, HandsOutNoneBeforeBy}
use Rattle.nx_receiver.specs.ChannelReceiver.{HearsUpToBy, NothingAwaited, ReceiverKind}
use Rattle.nx_receiver.specs.Receiver.{HandsOutNoneBefore, Receiving, Stands, StandsOver}
use Rattle.nx_receiver.specs.private.Awaiting.{Awaits, AwaitsOver, HearsUpTo}
use Rattle.nx_copies.specs.copies.FoundCopies.{TaggedCopy}
use Rattle.nx_copies.specs.hearing.CopyHearer.{HasEnded, HearsAll, IsOver, all_in_force}
use Rattle.nx_copies.specs.hearing.CopyHearing.{CopyHearing, in_force}
use Rattle.nx_copies.specs.declared.copy_taker.CopyTaker.{CopyTaker}
use Rattle.nx_copies.specs.WordLoop.{HearsPart}
use Rattle.nx_copies.specs.hearing.CopyTaker.{Hears, hearer_of}
use Rattle.nx_receiver.proofs.lemmas.receiver.Events.{bits_of-more, force-more, settings-more}
use Rattle.nx_receiver.proofs.lemmas.receiver.Printing.{has_printed}
use Rattle.nx_copies.proofs.lemmas.copy_hearer.Packed.{rest_is}
use Rattle.nx_copies.proofs.lemmas.copy_hearer.Parts.{part_of_all}

-- the first so many of these elements were fed, and no entry was handed out
pub record Fed {R : Type 0} (kind : ReceiverKind R) (old now : R) (bits : List Bool) (at : ℕ)
    : Type 0 where
  pub within : at ≤ length bits
  pub stands : (start : Start) (history : List Event) (log : List TaggedCopy)
      → kind.stands start old history log
      → kind.stands start now (history ++ elements (take at bits)) log
  pub before : HandsOutNoneBeforeBy kind old bits at

-- a hearer heard these elements, and what is over with the last of them is awaited
pub awaits_on : {M : Type 0} (content : M → List MemoryEntry) (old : Receiving M)
    (hearer : CopyHearing) (bits : List Bool) (answer : Option Over)
    → HearsAll old.hearer hearer bits answer → in_force hearer ≡ in_force old.hearer
    → (start : Start) (events : List Event) (log : List TaggedCopy)
    → Stands content start old events log
    → Awaits content start (record { hearer = hearer; memory = old.memory })
    (events ++ elements bits) log answer
awaits_on content old hearer bits answer hears force start events log s =
    let first = first_setting start in
    let new : Receiving _ = record { hearer = hearer; memory = old.memory } in
    let heard = hears.hears first (elements_among events) (settings first events) s.copies
    s.hearer in
    let over : AwaitsOver content start new (elements_among events ++ bits)
    (settings first events ++ all_in_force old.hearer bits) (setting_after_all first events) log
    answer = record {
      copies = s.copies;
      hearer = heard.brings;
      force = force ∙ s.force;
      printed =
          s.printed;
      memory = s.memory;
    } in
    let all = events ++ elements bits in
    let h = subst (λ h. AwaitsOver content start new h
    (settings first events ++ all_in_force old.hearer bits) (setting_after_all first events) log
    answer) (sym (bits_of-more events bits)) over in
    let t = subst (λ t. AwaitsOver content start new (elements_among all) t
    (setting_after_all first events) log answer)
    (sym (settings-more first old.hearer events bits s.force)) h in
    subst (λ now. AwaitsOver content start new (elements_among all) (settings first all) now log
    answer) (sym (force-more first events bits)) t

-- and nothing was printed before the last of them
pub printed_before : {M : Type 0} (content : M → List MemoryEntry) (old : Receiving M)
    (hearer : CopyHearing) (bits : List Bool) (n : ℕ) (answer : Option Over) → n ≤ length bits
    → HearsAll old.hearer hearer (take n bits) answer → HandsOutNoneBefore content old bits n
printed_before content old hearer bits n answer within hears start events log s k lt =
    let first = first_setting start in
    let heard = hears.hears first (elements_among events) (settings first events) s.copies
    s.hearer in
    let some = take k bits in
    let same : take k (take n bits) ≡ some = take-take k n bits (omega arith) in
    let ended = subst (λ l. HasEnded first (elements_among events ++ l)
    (settings first events ++ all_in_force old.hearer l) s.copies) same
    (heard.none_before k (omega (arith, length-take n bits))) in
    let h = subst (λ h. HasEnded first h (settings first events ++ all_in_force old.hearer some)
    s.copies) (sym (bits_of-more events some)) ended in
    let t = subst (λ t. HasEnded first (elements_among (events ++ elements some)) t s.copies)
    (sym (settings-more first old.hearer events some s.force)) h in
    has_printed start (events ++ elements some) s.copies log t s.printed

-- a receiver by what it holds
abbrev pub receiving : {M : Type 0} → Held → CopyTaker → M → Receiving M
receiving held taker memory = record { hearer = hearer_of held taker; memory = memory }

-- A receiver heard a part of all packed elements from a place on: what is over with the last of
-- them is awaited, and nothing was printed before it.
module _ {M : Type 0} (content : M → List MemoryEntry) (whole : Receiving M) (memory : M)
    (all : List Bool) (numbers : List ℕ) (from count : ℕ) (old new : Held)
    (before after : CopyTaker) (heard : ℕ × Option Over)
    (view : receiving old before memory ≡ whole)
    (is : all ≡ take (length all) (elements_of_numbers numbers)) (room : from ≤ length all)
    (rest : count ≡ length all - from)
    (part : HearsPart Hears old before numbers from count new after heard) where
  pub part_awaits : HearsUpTo content whole (receiving new after memory)
      (take heard.0 (drop from all)) heard.1
  part_awaits start history log stands =
      let hears = part_of_all all numbers from count old new before after heard is room rest part in
      awaits_on content (receiving old before memory) (hearer_of new after) _ heard.1 hears.hears
      hears.force start history log
      (subst (λ r. Stands content start r history log) (sym view) stands)

  pub none_before_part : HandsOutNoneBefore content whole (drop from all) heard.0
  none_before_part start history log stands k lt =
      let hears = part_of_all all numbers from count old new before after heard is room rest part in
      printed_before content (receiving old before memory) (hearer_of new after) (drop from all)
      heard.0 heard.1 (omega (arith, part.within, rest, length-drop from all)) hears.hears start
      history log (subst (λ r. Stands content start r history log) (sym view) stands) k lt

-- where nothing is over, nothing is awaited
pub nothing_awaited : {M : Type 0} (content : M → List MemoryEntry) (start : Start)
    (receiver : Receiving M) (h : List Bool) (s : List Setting) (now : Setting)
    (log : List TaggedCopy) (left : Option Over) → left ≡ None
    → AwaitsOver content start receiver h s now log left
    → StandsOver content start receiver h s now log
nothing_awaited content start receiver h s now log left nothing a = record {
  copies = a.copies;
  hearer = subst (IsOver (first_setting start) receiver.hearer h s a.copies) nothing a.hearer;
  force = a.force;
  printed = a.printed;
  memory = a.memory;
}

-- and the other way
pub awaits_nothing : {M : Type 0} (content : M → List MemoryEntry) (start : Start)
    (receiver : Receiving M) (h : List Bool) (s : List Setting) (now : Setting)
    (log : List TaggedCopy)
    → StandsOver content start receiver h s now log
    → AwaitsOver content start receiver h s now log None
awaits_nothing content start receiver h s now log stands = record {
  copies = stands.copies;
  hearer = stands.hearer;
  force = stands.force;
  printed = stands.printed;
  memory = stands.memory;
}

-- elements and then others
elements-after : (history : List Event) (xs ys : List Bool)
    → (history ++ elements xs) ++ elements ys ≡ history ++ elements (xs ++ ys)
elements-after history xs ys =
    append_assoc history (elements xs) (elements ys)
    ∙ ap (λ es. history ++ es) (sym (map-append element xs ys))

-- so many more of them
elements-more : (history : List Event) (bits : List Bool) (at n : ℕ)
    → (history ++ elements (take at bits)) ++ elements (take n (drop at bits))
    ≡ history ++ elements (take (at + n) bits)
elements-more history bits at n =
    elements-after history (take at bits) (take n (drop at bits))
    ∙ ap (λ l. history ++ elements l) (sym (take-add at n bits))

-- so many packed elements from a place on, and then others behind them
pub heard_then : (history : List Event) (packed : List Bool) (from n m : ℕ)
    → (history ++ elements (take n (drop from packed))) ++ elements (take m (drop (from + n)
    packed))
    ≡ history ++ elements (take (n + m) (drop from packed))
heard_then history packed from n m =
    ap (λ l. (history ++ elements (take n (drop from packed))) ++ elements (take m l))
    (sym (drop-drop n from packed)) ∙ elements-more history (drop from packed) n m

-- where nothing was printed before the last of either, none was before the last of all
pub printed_then : (printing : Printing) (start : Start) (history : List Event) (log : List
    TaggedCopy)
    (packed : List Bool) (from n m : ℕ)
    → ((k : ℕ) → k < n → printing.so_far start (history
    ++ elements (take k (drop from packed))) log)
    → ((k : ℕ) → k < m → printing.so_far start ((history ++ elements (take n (drop from packed)))
    ++ elements (take k (drop (from + n) packed))) log)
    → (k : ℕ) → k < n + m
    → printing.so_far start (history ++ elements (take k (drop from packed))) log
printed_then printing start history log packed from n m first second k lt =
    elim (cases_lt k n) [
      | inl early ↦ first k early
      | inr late ↦
          let j = k - n in
          let sum : n + j ≡ k = omega arith in
          subst (λ events. printing.so_far start events log)
          (heard_then history packed from n j
          ∙ ap (λ i. history ++ elements (take i (drop from packed))) sum)
          (second j (omega arith))
    ]

-- So many more of the elements were heard behind those that were fed; what is over with the last of
-- them awaits to be finished.
pub record FedUpTo {R Over : Type 0} (kind : ReceiverKind R) (awaits : AwaitsFinish R Over)
    (old mid heard : R) (bits : List Bool) (at n : ℕ) (left : Option Over) : Type 0 where
  pub fed : Fed kind old mid bits at
  pub within : at + n ≤ length bits
  pub hears : HearsUpToBy kind awaits mid heard (take n (drop at bits)) left
  pub none : HandsOutNoneBeforeBy kind mid (drop at bits) n

-- packed elements, from a place on
pub fed_packed : {R Over : Type 0} (kind : ReceiverKind R) (awaits : AwaitsFinish R Over)
    (old mid heard : R) (packed : List Bool) (from at n : ℕ) (left : Option Over)
    → Fed kind old mid (drop from packed) at → (from + at) + n ≤ length packed
    → HearsUpToBy kind awaits mid heard (take n (drop (from + at) packed)) left
    → HandsOutNoneBeforeBy kind mid (drop (from + at) packed) n
    → FedUpTo kind awaits old mid heard (drop from packed) at n left
fed_packed kind awaits old mid heard packed from at n left fed within hears none =
    let same : drop (from + at) packed ≡ drop at (drop from packed) =
    sym (drop-drop at from packed) in
    record {
      fed = fed;
      within = omega (arith, within, length-drop from packed);
      hears = subst (λ l. HearsUpToBy kind awaits mid heard (take n l) left) same hears;
      none = subst (λ l. HandsOutNoneBeforeBy kind mid l n) same none;
    }

-- elements that aren't packed
pub fed_bits : {R Over : Type 0} (kind : ReceiverKind R) (awaits : AwaitsFinish R Over)
    (old mid heard : R) (bits : List Bool) (at n : ℕ) (left : Option Over)
    → Fed kind old mid bits at
    → n ≤ length (take (length bits - at) (drop at bits))
    → HearsUpToBy kind awaits mid heard (take n (take (length bits - at) (drop at bits))) left
    → HandsOutNoneBeforeBy kind mid (take (length bits - at) (drop at bits)) n
    → FedUpTo kind awaits old mid heard bits at n left
fed_bits kind awaits old mid heard bits at n left fed within hears none =
    let same = rest_is bits at in
    record {
      fed = fed;
      within = omega (arith, fed.within, within, ap length same, length-drop at bits);
      hears = subst (λ l. HearsUpToBy kind awaits mid heard (take n l) left) same hears;
      none = subst (λ l. HandsOutNoneBeforeBy kind mid l n) same none;
    }

module _ {R Over : Type 0} {kind : ReceiverKind R} {awaits : AwaitsFinish R Over}
    {old mid heard : R} {bits : List Bool} {at n : ℕ} {left : Option Over}
    (f : FedUpTo kind awaits old mid heard bits at n left) where
  -- nothing was printed before the last of them
  pub fed_before : HandsOutNoneBeforeBy kind old bits (at + n)
  fed_before start history log s k lt =
      elim (cases_lt k at) [
        | inl early ↦ f.fed.before start history log s k early
        | inr late ↦
            let j = k - at in
            let sum : at + j ≡ k = omega arith in
            subst (λ events. kind.printing.so_far start events log)
            (elements-more history bits at j ∙ ap (λ m. history ++ elements (take m bits)) sum)
            (f.none start (history ++ elements (take at bits)) log
            (f.fed.stands start history log s) j (omega arith))
      ]

  -- all of them were heard, and what is over awaits
  pub fed_awaits : HearsUpToBy kind awaits old heard (take (at + n) bits) left
  fed_awaits start history log s =
      subst (λ events. awaits start heard events log left)
      (elements-more history bits at n)
      (f.hears start (history ++ elements (take at bits)) log (f.fed.stands start history log s))

  pub fed_over : (is_over : Over) → left ≡ Some is_over
      → HearsUpToBy kind awaits old heard (take (at + n) bits) (Some is_over)
  fed_over is_over is start history log s =
      subst (λ o. awaits start heard (history ++ elements (take (at + n) bits)) log o) is
      (fed_awaits start history log s)

  -- nothing is over: they were fed
  pub fed_quiet : NothingAwaited kind awaits → left ≡ None → Fed kind old heard bits (at + n)
  fed_quiet nothing is = record {
    within = f.within;
    stands = λ start history log s.
        let events = history ++ elements (take (at + n) bits) in
        nothing start heard events log
        (subst (λ o. awaits start heard events log o) is (fed_awaits start history log s));
    before = fed_before;
  }

  -- what is over was finished, and brought no copy: they were fed
  pub fed_finished : (new : R) (is_over : Over) (copies : List TaggedCopy)
      → left ≡ Some is_over
      → ((start : Start) (history : List Event) (log : List TaggedCopy)
      → awaits start heard history log (Some is_over)
      → kind.stands start new history (log ++ copies))
      → copies ≡ [] → Fed kind old new bits (at + n)
  fed_finished new is_over copies is finishes none = record {
    within = f.within;
    stands = λ start history log s.
        subst (λ l. kind.stands start new (history ++ elements (take (at + n) bits)) l)
        (ap (λ l. log ++ l) none ∙ append-nil log)
        (finishes start (history ++ elements (take (at + n) bits)) log
        (fed_over is_over is start history log s));
    before = fed_before;
  }

-- those that were fed brought no copy
pub fed_no_copy : {R : Type 0} {kind : ReceiverKind R} {old now : R} {bits : List Bool} {at : ℕ}
    → Fed kind old now bits at
    → (start : Start) (history : List Event) (log : List TaggedCopy)
    → kind.stands start old history log
    → kind.stands start now (history ++ elements (take at bits)) (log ++ [])
fed_no_copy {kind = kind} {now = now} {bits = bits} {at = at} fed start history log s =
    subst (kind.stands start now (history ++ elements (take at bits))) (sym (append-nil log))
    (fed.stands start history log s)

pub is_none : {A : Type 0} (entry : Option A) (test : Bool) → test ≡ is_some entry → test ≡ false
    → entry ≡ None
is_none None test h e = refl
is_none (Some x) test h e = cc
