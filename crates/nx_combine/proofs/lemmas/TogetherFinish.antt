-- What is over is finished: the copy that is ready is judged with the others of its family, and the
-- text of a lock that is over ends.
use Rattle.std.proofs.Common.{◌≡◌, ℕ, Bool, true, false, List, [], ◌∷◌, ◌++◌, Option, None, Some}
use Rattle.std.proofs.Common.{cond}
use Rattle.std.proofs.Common.{refl, sym, ap, ◌∙◌, subst, append-nil}
use Rattle.std.specs.List.{All}
use Rattle.std.proofs.lemmas.List.Elements.{All-head}
use Rattle.nx_code.specs.Lists.{last_of}
use Rattle.nx_envelope.specs.Finder.{is_ready, is_ready_copy}
use Rattle.nx_memory.specs.Memory.{most_entries}
use Rattle.nx_memory.specs.declared.memories.entry.MemoryEntry.{MemoryEntry}
use Rattle.nx_copies.specs.Events.{Event, Setting, Start, elements_among, first_setting}
use Rattle.nx_copies.specs.Events.{settings}
use Rattle.nx_copies.specs.copies.FoundCopies.{TaggedCopy, headed_copy}
use Rattle.nx_copies.specs.declared.copy_taker.Over.TheVariants as over
use Rattle.nx_copies.specs.declared.entry.EntryHead.{EntryHead}
use Rattle.nx_envelope.specs.declared.found.HeldCopy.{HeldCopy}
use Rattle.nx_envelope.specs.declared.found.HeldCopy.TheVariants as held
use Rattle.nx_copies.specs.declared.copy_taker.CopyTag.{CopyTag}
use Rattle.nx_copies.specs.hearing.CopyHearer.{over_now, over_with, ready_copies, ready_in}
use Rattle.nx_copies.specs.hearing.CopyHearing.{CopyHearing, in_force}
use Rattle.nx_copies.specs.hearing.CopyTaker.{hearer_of}
use Rattle.nx_copies.proofs.lemmas.copy_hearer.Takes.{none_ready}
use Rattle.nx_receiver.specs.Receiver.{headed_list}
use Rattle.nx_combine.specs.CombinedHearing.{AllHeard, CombinedOver, CombinedStands, LockHeard}
use Rattle.nx_combine.specs.CombinedHearing.{HaveAllBeenHeard, copies_of}
use Rattle.nx_combine.specs.CombinedPrinting.{PrintsHoldingToEnd, PrintsLastHoldingToEnd}
use Rattle.nx_combine.specs.CombinedReceiver.{AwaitsAfterAllHolding, CombiningReceiver, HasJudged}
use Rattle.nx_combine.specs.CombinedReceiver.{StandsAfterAllHolding, hearer_in}
use Rattle.nx_combine.specs.private.CombinedReceiver.{JudgesNext}
use Rattle.nx_combine.specs.CombinedReceiver.{judged_none}
use Rattle.nx_combine.specs.CombinedReceiver.{text_in}
use Rattle.nx_combine.specs.CopyPositions.{HeardCopy}
use Rattle.nx_combine.specs.Judging.{Judged, StandsHolding, judged_behind_holding}
use Rattle.nx_combine.specs.Judging.{sendings_of_last}
use Rattle.nx_combine.specs.Notes.{noted}
use Rattle.nx_combine.specs.declared.taker.CombinedTaker.{CombinedTaker}
use Rattle.nx_combine.proofs.lemmas.Counted.{counted_to_end}
use Rattle.nx_combine.proofs.lemmas.JudgedOn.{has_judged_next}
use Rattle.nx_combine.proofs.lemmas.TogetherHears.{printed_to_end}

-- the copy that the finder had, if it had one, was judged, and brought this head
pub record IsJudgedReady (limit : ℕ) {M : Type 0} (content : M → List MemoryEntry)
    (old new : CombiningReceiver M) (head : Option EntryHead) : Type 0 where
  pub none : ready_copies (hearer_in old) ≡ []
      → (head ≡ None) × (new.memory ≡ old.memory) × (new.combiner ≡ old.combiner)
      × (new.sendings ≡ old.sendings)
  pub judged : (so_far : Judged) (heard : HeardCopy)
      → ready_copies (hearer_in old) ≡ heard.copy ∷ []
      → old.taker.notes.positions ≡ noted heard.positions
      → content old.memory ≡ last_of most_entries so_far.entries
      → StandsHolding limit old.combiner so_far.families so_far.printed
      → old.sendings ≡ sendings_of_last so_far.printed
      → JudgesNext limit content new.memory new.combiner new.sendings so_far heard
      (headed_list head (text_in new))
  pub taker : new.taker ≡ old.taker
  pub synchroniser : new.synchroniser ≡ old.synchroniser

-- the receiver with another taker
abbrev pub with_its : {M : Type 0} → CombiningReceiver M → CombinedTaker → CombiningReceiver M
with_its receiver taker = record receiver { taker = taker }

-- a finder of which there is a copy to judge has one
some_ready : (copy : HeldCopy) (text : List ℕ) (kept : CopyTag) (one : TaggedCopy)
    → ready_in copy text kept ≡ one ∷ [] → is_ready_copy copy ≡ true
some_ready held.Nothing text kept one is = absurd (cc)
some_ready (held.Open identity fresh) text kept one is = absurd (cc)
some_ready (held.Ready identity how) text kept one is = refl

-- and it has no second one
one_ready : (copy : HeldCopy) (text : List ℕ) (kept : CopyTag) (one other : TaggedCopy)
    (more : List TaggedCopy) → ready_in copy text kept ≡ one ∷ other ∷ more → ⊥
one_ready held.Nothing text kept one other more is = cc
one_ready (held.Open identity fresh) text kept one other more is = cc
one_ready (held.Ready identity how) text kept one other more is = cc

module _ (limit : ℕ) {M : Type 0} (content : M → List MemoryEntry) (start : Start)
    (history : List Event)
    (log : List TaggedCopy) where
  -- a copy that was over alone was judged
  pub copy_done : (old new : CombiningReceiver M) (head : Option EntryHead)
      → IsJudgedReady limit content old new head
      → AwaitsAfterAllHolding limit content start old history log (Some over.Copy)
      → StandsAfterAllHolding limit content start new history
      (log ++ headed_list head (text_in new))
  copy_done old new head is awaits =
      let c = awaits.over in
      let so_far = judged_behind_holding limit (judged_none start.entries) awaits.copies in
      let same : hearer_in new ≡ hearer_in old = rw (is.taker, is.synchroniser) refl in
      record {
        copies = awaits.copies ++ c.copy ∷ [];
        stands = rw (is.taker, is.synchroniser) c.stands;
        force = ap in_force same ∙ awaits.force;
        judged = has_judged_next limit content start old new awaits.copies log
            (headed_list head (text_in new)) c.copy awaits.judged
            (is.judged so_far c.copy c.has.ready c.has.positions awaits.judged.memory
            awaits.judged.combiner awaits.judged.sendings);
      }

  -- where no copy was ready, nothing was judged
  none_judged : (old new : CombiningReceiver M) (head : Option EntryHead)
      (copies : List HeardCopy)
      → IsJudgedReady limit content old new head → ready_copies (hearer_in old) ≡ []
      → HasJudged limit content start old copies log
      → HasJudged limit content start new copies (log ++ headed_list head (text_in new))
  none_judged old new head copies is unready was =
      let none = is.none unready in
      let nothing : headed_list head (text_in new) ≡ [] =
      ap (λ o. headed_list o (text_in new)) none.0 in
      record {
        printed = ap (λ l. log ++ l) nothing ∙ append-nil log ∙ was.printed;
        memory = ap content none.1 ∙ was.memory;
        combiner = subst (λ v. StandsHolding limit v
            (judged_behind_holding limit (judged_none start.entries) copies).families
            (judged_behind_holding limit (judged_none start.entries) copies).printed) (sym none.2)
            was.combiner;
        sendings = none.3 ∙ was.sendings;
      }

  none_done : (old new : CombiningReceiver M) (head : Option EntryHead)
      → IsJudgedReady limit content old new head → is_ready old.taker.copies.reader.finder ≡ false
      → StandsAfterAllHolding limit content start old history log
      → StandsAfterAllHolding limit content start new history
      (log ++ headed_list head (text_in new))
  none_done old new head is unready s =
      let finder = old.taker.copies.reader.finder in
      let same : hearer_in new ≡ hearer_in old = rw (is.taker, is.synchroniser) refl in
      record {
        copies = s.copies;
        stands = rw (is.taker, is.synchroniser) s.stands;
        force = ap in_force same ∙ s.force;
        judged = none_judged old new head s.copies is
            (none_ready finder.copy finder.text old.taker.copies.tag unready) s.judged;
      }

  -- the text of a lock that was over alone ended, and what stood open in it was judged
  pub lock_done : (old new : CombiningReceiver M) (closed : CombinedTaker)
      (head : Option EntryHead)
      → ((first : Setting) (bits : List Bool) (settings : List Setting) (copies : List HeardCopy)
      → LockHeard first old.synchroniser old.taker bits settings copies
      → CombinedOver first old.synchroniser closed bits settings copies
      (over_now (hearer_of old.synchroniser closed.copies) false))
      → in_force (hearer_of old.synchroniser closed.copies) ≡ in_force (hearer_in old)
      → IsJudgedReady limit content (with_its old closed) new head
      → AwaitsAfterAllHolding limit content start old history log (Some over.Lock)
      → StandsAfterAllHolding limit content start new history
      (log ++ headed_list head (text_in new))
  lock_done old new closed head closes force is awaits =
      by_ready (is_ready closed.copies.reader.finder) refl
    where
      with_over : (b : Bool) → is_ready closed.copies.reader.finder ≡ b
          → CombinedOver (first_setting start) old.synchroniser closed (elements_among history)
          (settings (first_setting start) history) awaits.copies (over_with b false)
      with_over b ready =
          subst (λ x. CombinedOver (first_setting start) old.synchroniser closed
          (elements_among history) (settings (first_setting start) history) awaits.copies
          (over_with x false)) ready
          (closes (first_setting start) (elements_among history)
          (settings (first_setting start) history) awaits.copies awaits.over)

      by_ready : (b : Bool) → is_ready closed.copies.reader.finder ≡ b
          → StandsAfterAllHolding limit content start new history
          (log ++ headed_list head (text_in new))
      by_ready true ready =
          copy_done (with_its old closed) new head is (record {
            copies = awaits.copies;
            over = with_over true ready;
            force = force ∙ awaits.force;
            judged = record {
              printed = awaits.judged.printed;
              memory = awaits.judged.memory;
              combiner = awaits.judged.combiner;
              sendings = awaits.judged.sendings;
            };
          })
      by_ready false ready =
          none_done (with_its old closed) new head is ready (record {
            copies = awaits.copies;
            stands = with_over false ready;
            force = force ∙ awaits.force;
            judged = record {
              printed = awaits.judged.printed;
              memory = awaits.judged.memory;
              combiner = awaits.judged.combiner;
              sendings = awaits.judged.sendings;
            };
          })

  -- a copy that was over with its lock was judged, and then the lock was left
  pub both_done : (old new : CombiningReceiver M) (left : CombinedTaker) (head : Option EntryHead)
      → ((first : Setting) (bits : List Bool) (settings : List Setting) (copies : List HeardCopy)
      → is_ready new.taker.copies.reader.finder ≡ true
      → LockHeard first new.synchroniser new.taker bits settings copies
      → CombinedStands first new.synchroniser left bits settings copies)
      → in_force (hearer_of new.synchroniser left.copies) ≡ in_force (hearer_in new)
      → left.copies.reader.finder.text ≡ new.taker.copies.reader.finder.text
      → IsJudgedReady limit content old new head
      → AwaitsAfterAllHolding limit content start old history log (Some over.CopyAndLock)
      → StandsAfterAllHolding limit content start (with_its new left) history
      (log ++ headed_list head (text_in (with_its new left)))
  both_done old new left head leaves force text is awaits =
      let first = first_setting start in
      let h = elements_among history in
      let s = settings first history in
      let c = awaits.over in
      let so_far = judged_behind_holding limit (judged_none start.entries) awaits.copies in
      let same : hearer_in new ≡ hearer_in old = rw (is.taker, is.synchroniser) refl in
      let judged = has_judged_next limit content start old new awaits.copies log
      (headed_list head (text_in new)) c.copy awaits.judged
      (is.judged so_far c.copy c.has.ready c.has.positions awaits.judged.memory
      awaits.judged.combiner awaits.judged.sendings) in
      let lock : LockHeard first new.synchroniser new.taker h s (awaits.copies ++ c.copy ∷ []) =
      rw (is.taker, is.synchroniser) c.lock in
      let ready : is_ready new.taker.copies.reader.finder ≡ true =
      ap (λ (w : CopyHearing). is_ready w.reader.finder) same
      ∙ some_ready old.taker.copies.reader.finder.copy old.taker.copies.reader.finder.text
      old.taker.copies.tag c.copy.copy c.has.ready in
      let texts : text_in (with_its new left) ≡ text_in new =
      ap (λ t. cond new.is_given new.combiner.finder.text t) text in
      record {
        copies = awaits.copies ++ c.copy ∷ [];
        stands = leaves first h s (awaits.copies ++ c.copy ∷ []) ready lock;
        force = force ∙ ap in_force same ∙ awaits.force;
        judged = record {
          printed = ap (λ t. log ++ headed_list head t) texts ∙ judged.printed;
          memory = judged.memory;
          combiner = judged.combiner;
          sendings = judged.sendings;
        };
      }

  -- where all elements ended, what was ready then was judged behind the others
  last_judged : (old new : CombiningReceiver M) (head : Option EntryHead)
      (copies last : List HeardCopy)
      → IsJudgedReady limit content old new head → ready_copies (hearer_in old) ≡ copies_of last
      → All (λ one. old.taker.notes.positions ≡ noted one.positions) last
      → HasJudged limit content start old copies log
      → HasJudged limit content start new (copies ++ last) (log ++ headed_list head (text_in new))
  last_judged old new head copies [] is ready positions was =
      subst (λ all. HasJudged limit content start new all (log ++ headed_list head (text_in new)))
      (sym (append-nil copies)) (none_judged old new head copies is ready was)
  last_judged old new head copies (one ∷ []) is ready positions was =
      has_judged_next limit content start old new copies log
      (headed_list head (text_in new)) one was
      (is.judged (judged_behind_holding limit (judged_none start.entries) copies) one ready
      (All-head (λ heard. old.taker.notes.positions ≡ noted heard.positions) one [] positions)
      was.memory was.combiner was.sendings)
  last_judged old new head copies (one ∷ other ∷ more) is ready positions was =
      let finder = old.taker.copies.reader.finder in
      absurd (one_ready finder.copy finder.text old.taker.copies.tag one.copy other.copy
      (copies_of more) ready)

  -- where all elements ended, all copies were heard, and what is printed of them was judged
  record AllJudged (new : CombiningReceiver M) (head : Option EntryHead) : Type 0 where
    copies : List HeardCopy
    heard : HaveAllBeenHeard (first_setting start) (elements_among history)
        (settings (first_setting start) history) copies
    judged : HasJudged limit content start new copies (log ++ headed_list head (text_in new))

  all_judged : (old new : CombiningReceiver M) (closed : CombinedTaker) (head : Option EntryHead)
      → ((first : Setting) (bits : List Bool) (settings : List Setting) (copies : List HeardCopy)
      → CombinedStands first old.synchroniser old.taker bits settings copies
      → AllHeard first old.synchroniser closed bits settings copies)
      → IsJudgedReady limit content (with_its old closed) new head
      → StandsAfterAllHolding limit content start old history log → AllJudged new head
  all_judged old new closed head ends is s =
      let first = first_setting start in
      let all = ends first (elements_among history) (settings first history) s.copies s.stands in
      record {
        copies = s.copies ++ all.last;
        heard = all.all;
        judged = last_judged (with_its old closed) new head s.copies all.last is all.ready
            all.positions
            (record {
              printed = s.judged.printed;
              memory = s.judged.memory;
              combiner = s.judged.combiner;
              sendings = s.judged.sendings;
            });
      }

  pub all_done : (old new : CombiningReceiver M) (closed : CombinedTaker)
      (head : Option EntryHead)
      → ((first : Setting) (bits : List Bool) (settings : List Setting) (copies : List HeardCopy)
      → CombinedStands first old.synchroniser old.taker bits settings copies
      → AllHeard first old.synchroniser closed bits settings copies)
      → IsJudgedReady limit content (with_its old closed) new head
      → StandsAfterAllHolding limit content start old history log
      → PrintsHoldingToEnd limit start history (log ++ headed_list head (text_in new))
  all_done old new closed head ends is s =
      let all = all_judged old new closed head ends is s in
      printed_to_end limit start history all.copies (log ++ headed_list head (text_in new))
      all.heard all.judged.printed

  -- and the number of the last one is that of the receiver
  pub all_counted : (old new : CombiningReceiver M) (closed : CombinedTaker)
      (answer : Option EntryHead) (head : EntryHead)
      → ((first : Setting) (bits : List Bool) (settings : List Setting) (copies : List HeardCopy)
      → CombinedStands first old.synchroniser old.taker bits settings copies
      → AllHeard first old.synchroniser closed bits settings copies)
      → IsJudgedReady limit content (with_its old closed) new answer → answer ≡ Some head
      → StandsAfterAllHolding limit content start old history log
      → PrintsLastHoldingToEnd limit start history (headed_copy head (text_in new) true)
      new.sendings
  all_counted old new closed answer head ends is said s =
      let all = all_judged old new closed answer ends is s in
      counted_to_end limit content start new history all.copies log
      (headed_copy head (text_in new) true) all.heard
      (subst (λ o. HasJudged limit content start new all.copies
      (log ++ headed_list o (text_in new))) said all.judged)
