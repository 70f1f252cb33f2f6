-- What is over is finished: the copy that is ready is judged, and the text of a lock that is over
-- ends.
use Rattle.std.proofs.Common.{◌≡◌, ℕ, Bool, true, false, List, ◌++◌, Option, None, Some, refl, sym}
use Rattle.std.proofs.Common.{ap, ◌∙◌, subst}
use Rattle.nx_code.specs.Lists.{last_of}
use Rattle.nx_sync.specs.declared.step.Role.{Role}
use Rattle.nx_envelope.specs.Finder.{Closes, ClosesHeld, is_ready, is_ready_copy}
use Rattle.nx_memory.specs.Memory.{most_entries}
use Rattle.nx_memory.specs.declared.memories.entry.MemoryEntry.{MemoryEntry}
use Rattle.nx_copies.specs.Events.{Event, Start, elements_among, first_setting, setting_after_all}
use Rattle.nx_copies.specs.Events.{settings}
use Rattle.nx_copies.specs.LockReader.{LockReading, ReadsLock}
use Rattle.nx_copies.specs.ReaderWords.{is_open}
use Rattle.nx_copies.specs.copies.FoundCopies.{TaggedCopy}
use Rattle.nx_copies.specs.copies.LockText.{text_after}
use Rattle.nx_copies.specs.copies.Printing.{entries_after, printed_copies}
use Rattle.nx_copies.specs.declared.entry.EntryHead.{EntryHead}
use Rattle.nx_copies.specs.hearing.CopyHearing.{CopyHearing, in_force}
use Rattle.nx_receiver.specs.Receiver.{Receiving, Stands, headed_list, text_of}
use Rattle.nx_copies.specs.declared.copy_taker.Over.TheVariants as over
use Rattle.nx_receiver.specs.private.Awaiting.{Awaits}
use Rattle.nx_copies.specs.hearing.CopyHearer.{IsFresh, IsOver, over_with, ready_copies}
use Rattle.nx_copies.proofs.lemmas.copy_hearer.Takes.{lock_closed, lock_ended_none, over_ready}
use Rattle.nx_receiver.proofs.lemmas.receiver.Feeds.{nothing_awaited}
use Rattle.nx_receiver.proofs.lemmas.receiver.Given.{ready_not_open}
use Rattle.nx_receiver.proofs.lemmas.receiver.Printing.{awaits_with}

-- the copy that the finder had, if it had one, was judged, and brought this head
pub record IsJudged {M : Type 0} (content : M → List MemoryEntry) (old new : Receiving M)
    (head : Option EntryHead) : Type 0 where
  pub printed : (entries : List MemoryEntry) → content old.memory ≡ last_of most_entries entries
      → headed_list head (text_of old) ≡ printed_copies entries (ready_copies old.hearer)
  pub entered : (entries : List MemoryEntry) → content old.memory ≡ last_of most_entries entries
      → content new.memory ≡ last_of most_entries (entries_after entries (ready_copies old.hearer))
  pub hearer : new.hearer ≡ old.hearer

-- the receiver with a reader in place of its own
abbrev pub with_reader : {M : Type 0} → Receiving M → LockReading → Receiving M
with_reader receiver reader =
    record { hearer = record receiver.hearer { reader = reader }; memory = receiver.memory }

module _ {M : Type 0} (content : M → List MemoryEntry) (start : Start) (history : List Event)
    (log : List TaggedCopy) where
  -- the lock alone may be over where what is ready was judged
  judged : (old new : Receiving M) (head : Option EntryHead) (is_copy_over is_lock_over : Bool)
      → IsJudged content old new head → is_ready old.hearer.reader.finder ≡ is_copy_over
      → Awaits content start old history log (over_with is_copy_over is_lock_over)
      → Awaits content start new history (log ++ headed_list head (text_of new))
      (over_with false is_lock_over)
  judged old new head is_copy_over is_lock_over is ready awaits =
      let first = first_setting start in
      let h = elements_among history in
      let s = settings first history in
      let left = over_with false is_lock_over in
      let over = subst (λ w. IsOver first w h s (awaits.copies ++ ready_copies old.hearer) left)
      (sym is.hearer)
      (over_ready first old.hearer h s awaits.copies is_copy_over is_lock_over ready
      awaits.hearer) in
      subst (λ t. Awaits content start new history (log ++ headed_list head t) left)
      (sym (ap (λ (w : CopyHearing). w.reader.finder.text) is.hearer))
      (awaits_with content start old new h s (setting_after_all first history) awaits.copies log
      (ready_copies old.hearer) (headed_list head (text_of old)) left over
      (ap in_force is.hearer ∙ awaits.force) awaits.printed awaits.memory is.printed is.entered)

  -- a copy that was over alone was judged
  pub copy_finished : (old new : Receiving M) (head : Option EntryHead)
      → IsJudged content old new head → Awaits content start old history log (Some over.Copy)
      → Stands content start new history (log ++ headed_list head (text_of new))
  copy_finished old new head is awaits =
      nothing_awaited content start new _ _ _ (log ++ headed_list head (text_of new)) None refl
      (judged old new head true false is (ap is_ready_copy awaits.hearer.ready.held) awaits)

  -- the text of a lock that was over alone ended, and what stood open in it was judged
  pub lock_finished : (old new : Receiving M) (reader : LockReading) (head : Option EntryHead)
      → IsFresh reader
      → ((first : Role) (words : ℕ → ℕ) (n : ℕ) → ReadsLock old.hearer.reader first words n
      → ClosesHeld (text_after first words n) reader.finder)
      → IsJudged content (with_reader old reader) new head
      → Awaits content start old history log (Some over.Lock)
      → Stands content start new history (log ++ headed_list head (text_of new))
  lock_finished old new reader head fresh closes is awaits =
      let closed : Awaits content start (with_reader old reader) history log
      (over_with (is_ready reader.finder) false) = record {
        copies = awaits.copies;
        hearer = lock_closed (first_setting start) old.hearer reader (elements_among history)
            (settings (first_setting start) history) awaits.copies fresh closes awaits.hearer;
        force = awaits.force;
        printed = awaits.printed;
        memory = awaits.memory;
      } in
      nothing_awaited content start new _ _ _ (log ++ headed_list head (text_of new)) None refl
      (judged (with_reader old reader) new head (is_ready reader.finder) false is refl closed)

  -- a copy that was over with its lock was judged, and then the lock was left
  pub both_finished : (old new : Receiving M) (reader : LockReading) (head : Option EntryHead)
      → IsFresh reader
      → ((first : Role) (words : ℕ → ℕ) (n : ℕ) → ReadsLock new.hearer.reader first words n
      → is_open new.hearer.reader.finder.copy ≡ false → Closes (text_after first words n) None)
      → reader.finder.text ≡ new.hearer.reader.finder.text
      → IsJudged content old new head → Awaits content start old history log (Some over.CopyAndLock)
      → Stands content start (with_reader new reader) history
      (log ++ headed_list head (text_of (with_reader new reader)))
  both_finished old new reader head fresh none text is awaits =
      let ready = ap is_ready_copy awaits.hearer.ready.held in
      let lock = judged old new head true true is ready awaits in
      let still = ready_not_open _ (ap (λ (w : CopyHearing). is_ready w.reader.finder) is.hearer
      ∙ ready) in
      subst (λ t. Stands content start (with_reader new reader) history (log ++ headed_list head t))
      (sym text) (record {
        copies = lock.copies;
        hearer = lock_ended_none (first_setting start) new.hearer reader (elements_among history)
            (settings (first_setting start) history) lock.copies fresh
            (λ first words n reads. none first words n reads still) lock.hearer;
        force = lock.force;
        printed = lock.printed;
        memory = lock.memory;
      })
