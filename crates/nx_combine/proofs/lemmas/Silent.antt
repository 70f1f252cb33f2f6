-- Receivers that take several sendings together and hear no elements: what they stand after, and
-- what their end prints.
use Rattle.std.proofs.Common.{◌≡◌, ℕ, Bool, List, [], ◌∷◌, ◌++◌, length, refl, sym, ap}
use Rattle.std.proofs.Common.{◌∙◌, arith, subst}
use Rattle.nx_memory.specs.declared.memories.entry.MemoryEntry.{MemoryEntry}
use Rattle.nx_sync.specs.Locks.{IsNow, Lock, Now, Past, hunting, locked}
use Rattle.nx_copies.specs.Events.{Setting, Start, at_moment, elements_among, first_setting}
use Rattle.nx_copies.specs.Events.{settings}
use Rattle.nx_copies.specs.hearing.CopyHearer.{IsFresh}
use Rattle.nx_receiver.specs.ChannelReceiver.{TakesEventBy}
use Rattle.nx_receiver.proofs.lemmas.receiver.Events.{a_moment}
use Rattle.nx_combine.specs.CombinedHearing.{HaveBeenHeard, heard_by}
use Rattle.nx_combine.specs.CombinedReceiver.{ReceiverOver, StandsAfterAllHolding}
use Rattle.nx_combine.specs.CombinedReceiver.{combined_kind_holding, judged_none, receiver_in}
use Rattle.nx_combine.specs.CombinedTaker.{TakesNow}
use Rattle.nx_combine.specs.CopyPositions.{HeardCopy, ended_placed, past_placed}
use Rattle.nx_combine.specs.Judging.{HeldFamilies, StandsHolding, combiner_of}
use Rattle.nx_combine.specs.Judging.{judged_behind_holding, sendings_of_last}
use Rattle.nx_combine.specs.declared.taker.CombinedTaker.{CombinedTaker}
use Rattle.nx_combine.proofs.lemmas.Hearing.{nothing_combined}
use Rattle.nx_combine.proofs.lemmas.JudgedOn.{begins_together}
use Rattle.nx_combine.proofs.lemmas.TogetherEvents.{taker_with, together_after}

-- before any element no lock was released
none_past : (bits : List Bool) (locks : List Lock) (p : ℕ) → bits ≡ [] → Past bits locks p
    → locks ≡ []
unfolding Past
none_past bits [] p none past = refl
none_past bits (lock ∷ older) p none past =
    absurd (omega (arith, past.0.found.after, past.0.found.here.heard, ap length none))

-- and no copy has ended
none_ended : (bits : List Bool) (locks : List Lock) (now : Now) → bits ≡ [] → IsNow bits locks now
    → ended_placed bits locks now ≡ []
unfolding ended_placed past_placed
none_ended bits locks (hunting p) none is =
    ap (λ l. past_placed bits l ++ []) (none_past bits locks p none is.past)
none_ended bits locks (locked p t) none is =
    absurd (omega (arith, is.found.after, is.found.here.heard, ap length none))

none_heard : (first : Setting) (bits : List Bool) (forces : List Setting)
    (heard : List HeardCopy) → bits ≡ [] → HaveBeenHeard first bits forces heard → heard ≡ []
unfolding heard_by
none_heard first bits forces heard none have =
    have.heard
    ∙ ap (heard_by first forces) (none_ended bits have.locks have.now none have.stands)

-- and the reader stands after no word
still_fresh : (taker : CombinedTaker) (bits : List Bool) (locks : List Lock) (now : Now)
    → bits ≡ [] → IsNow bits locks now → TakesNow taker bits now → IsFresh taker.copies.reader
still_fresh taker bits locks (hunting p) none is takes = takes
still_fresh taker bits locks (locked p t) none is takes =
    absurd (omega (arith, is.found.after, is.found.here.heard, ap length none))

-- the receiver with another start, and a memory: all else stays
abbrev pub starting_with : {S M : Type 0} → ReceiverOver S M → M → Start → ReceiverOver S M
starting_with receiver memory start =
    record receiver { taker = taker_with receiver.taker (first_setting start); memory = memory }

-- the receiver with another moment: all else stays
abbrev pub with_moment : {S M : Type 0} → ReceiverOver S M → ℕ → ReceiverOver S M
with_moment receiver n = record receiver {
  taker = taker_with receiver.taker
      (record { moment = n; refused = receiver.taker.copies.selection });
}

module _ {S P M : Type 0} (lying : S → List P → HeldFamilies) (held : ℕ)
    (content : M → List MemoryEntry) where
  -- a receiver that has heard nothing can begin with another start too, with no entry
  pub begins-too : (first : Start) (r : ReceiverOver S M) (places : List P)
      → StandsAfterAllHolding held content first (receiver_in lying r places) [] []
      → (memory : M) → content memory ≡ [] → (start : Start) → start.entries ≡ []
      → StandsAfterAllHolding held content start
      (receiver_in lying (starting_with r memory start) places) [] []
  unfolding elements_among settings
  begins-too first r places s memory empty start none =
      let new : ReceiverOver S M = starting_with r memory start in
      let at = s.stands.takes.at in
      let fresh : IsFresh r.taker.copies.reader =
      still_fresh r.taker [] at.locks at.now refl at.stands at.takes in
      let combiner = combiner_of (lying r.store places) r.finder in
      let no_copies : s.copies ≡ [] =
      none_heard (first_setting first) [] [] s.copies refl s.stands.heard in
      let combines : StandsHolding held combiner [] [] =
      subst (λ c. StandsHolding held combiner
      (judged_behind_holding held (judged_none first.entries) c).families
      (judged_behind_holding held (judged_none first.entries) c).printed) no_copies
      s.judged.combiner in
      let counted : r.sendings ≡ 0 =
      s.judged.sendings
      ∙ ap (λ c. sendings_of_last
      (judged_behind_holding held (judged_none first.entries) c).printed) no_copies in
      begins_together held content start (receiver_in lying new places)
      (nothing_combined (first_setting start) r.synchroniser new.taker s.stands.takes.synchroniser
      fresh)
      refl combines counted (none ∙ sym empty) (omega (arith, ap length empty))

  -- a receiver takes a moment
  pub takes-moment : (r : ReceiverOver S M) (places : List P) (n : ℕ)
      → TakesEventBy (combined_kind_holding held content) (receiver_in lying r places)
      (receiver_in lying (with_moment r n) places) (at_moment n)
  takes-moment r places n start history log s =
      together_after held content (receiver_in lying r places)
      (record { moment = n; refused = r.taker.copies.selection }) (at_moment n) a_moment refl start
      history log s
