-- What is done in a place that combines.
use Rattle.std.proofs.Common.{◌≡◌, ◌≤◌, ◌+◌, ℕ, Bool, List, [], ◌∷◌, ◌++◌, Option, None, Some, length, take, drop, subst, sym}
use Rattle.nx_copies.specs.Events.{Event, Start, elements}
use Rattle.nx_copies.specs.copies.FoundCopies.{TaggedCopy}
use Rattle.nx_copies.specs.declared.copy_taker.Over.{Over}
use Rattle.nx_memory.specs.Saved.{SavedState}
use Rattle.nx_receiver.specs.ChannelReceiver.{HandsOutNoneBeforeBy, HearsUpToBy}
use Rattle.nx_receiver.specs.Receiver.{headed_list}
use Rattle.nx_receiver.proofs.lemmas.receiver.Feeds.{Fed, FedUpTo, fed_before, fed_finished}
use Rattle.nx_receiver.proofs.lemmas.receiver.Feeds.{fed_no_copy, fed_over, fed_packed, fed_quiet}
use Rattle.nx_combine.specs.CombinedPrinting.{HasPrintedLastHolding}
use Rattle.nx_combine.specs.CombinedReceiver.{AwaitsAfterAllHolding, LeavesHolding}
use Rattle.nx_combine.specs.CombinedReceiver.{StandsAfterAllHolding, combined_kind_holding}
use Rattle.nx_combine.specs.CombinedReceiver.{receiver_in, text_over}
use Rattle.nx_combine.specs.FamilyPlaces.{LentFamily, held_in}
use Rattle.nx_combine.specs.private.CombiningLaws.{none-awaited}
use Rattle.nx_copies.specs.declared.entry.EntryHead.{EntryHead}
use Rattle.nx_handle.specs.CombiningPlaces.{CombinesSendings, StandsLent}
use Rattle.nx_handle.specs.FamilyRooms.{OneCombining}
use Rattle.nx_handle.specs.PlainPlaces.{content}
use Rattle.nx_handle.specs.private.CombiningPlaces.{HearsInRoom}
use Rattle.nx_handle.specs.declared.combining_place.CombiningState.{CombiningState}
use Rattle.nx_handle.specs.declared.combining_place.CombiningState.TheVariants.{Hears}

-- what is saved of a place is what its receiver leaves
pub leaves-in : (held : ℕ) (start : Start) (lent : List LentFamily) (state : CombiningState)
    (r : OneCombining) (history : List Event) (log : List TaggedCopy) (left : SavedState)
    → state ≡ Hears r → StandsLent held start lent state history log
    → (StandsAfterAllHolding (length lent) content start (receiver_in held_in r lent) history log
    → LeavesHolding (length lent) start history left)
    → LeavesHolding held start history left
leaves-in held start lent state r history log left is s leaves =
    let stands = subst (λ x. StandsLent held start lent x history log) is s in
    subst (λ n. LeavesHolding n start history left) stands.0
    (leaves (subst (λ n. StandsAfterAllHolding n content start (receiver_in held_in r lent) history
    log) (sym stands.0) stands.1))

-- what is told of the last copy of a place is what its receiver tells
pub sendings-in : (held : ℕ) (start : Start) (lent : List LentFamily) (state : CombiningState)
    (r : OneCombining) (history : List Event) (log : List TaggedCopy) (sendings : ℕ)
    → state ≡ Hears r → StandsLent held start lent state history log
    → ((earlier : List TaggedCopy) (copy : TaggedCopy)
    → StandsAfterAllHolding (length lent) content start (receiver_in held_in r lent) history
    (earlier ++ copy ∷ [])
    → HasPrintedLastHolding (length lent) start history copy sendings)
    → CombinesSendings held start history log sendings
sendings-in held start lent state r history log sendings is s told earlier copy e =
    let stands = subst (λ x. StandsLent held start lent x history log) is s in
    subst (λ n. HasPrintedLastHolding n start history copy sendings) stands.0
    (told earlier copy
    (subst (λ l. StandsAfterAllHolding (length lent) content start (receiver_in held_in r lent)
    history l) e
    (subst (λ n. StandsAfterAllHolding n content start (receiver_in held_in r lent) history log)
    (sym stands.0) stands.1)))

-- ---- elements that are heard piece by piece

-- such receivers, with so many families
abbrev pub FedIn : ℕ → List LentFamily → List LentFamily → OneCombining → OneCombining
    → List Bool → ℕ → Type 0
FedIn held old new before after bits at =
    Fed (combined_kind_holding held content) (receiver_in held_in before old)
    (receiver_in held_in after new) bits at

abbrev pub FedUpToIn : ℕ → List LentFamily → List LentFamily → OneCombining → OneCombining
    → OneCombining → List Bool → ℕ → ℕ → Option Over → Type 0
FedUpToIn held old lent before mid after bits at n over =
    FedUpTo (combined_kind_holding held content) (AwaitsAfterAllHolding held content)
    (receiver_in held_in before old) (receiver_in held_in mid lent)
    (receiver_in held_in after lent) bits at n over

-- more were heard, with the same families
pub fed-more : (held : ℕ) (old lent : List LentFamily) (before mid after : OneCombining)
    (packed : List Bool) (from at n : ℕ) (over : Option Over) → length lent ≡ held
    → FedIn held old lent before mid (drop from packed) at → (from + at) + n ≤ length packed
    → ((room : List LentFamily)
    → HearsUpToBy (combined_kind_holding (length room) content)
    (AwaitsAfterAllHolding (length room) content) (receiver_in held_in mid room)
    (receiver_in held_in after room) (take n (drop (from + at) packed)) over)
    → ((room : List LentFamily)
    → HandsOutNoneBeforeBy (combined_kind_holding (length room) content)
    (receiver_in held_in mid room) (drop (from + at) packed) n)
    → FedUpToIn held old lent before mid after (drop from packed) at n over
fed-more held old lent before mid after packed from at n over room fed within hears none =
    fed_packed (combined_kind_holding held content) (AwaitsAfterAllHolding held content)
    (receiver_in held_in before old) (receiver_in held_in mid lent)
    (receiver_in held_in after lent) packed from at n over fed within
    (subst (λ m. HearsUpToBy (combined_kind_holding m content) (AwaitsAfterAllHolding m content)
    (receiver_in held_in mid lent) (receiver_in held_in after lent)
    (take n (drop (from + at) packed)) over) room
    (λ start history log s. hears lent start history log s))
    (subst (λ m. HandsOutNoneBeforeBy (combined_kind_holding m content)
    (receiver_in held_in mid lent) (drop (from + at) packed) n) room
    (λ start history log s k lt. none lent start history log s k lt))

-- what was over is finished, with as many families
pub finished-in : (held : ℕ) (lent new : List LentFamily) (before after : OneCombining)
    (over : Over) (answer : Option EntryHead) → length lent ≡ held
    → ((start : Start) (history : List Event) (log : List TaggedCopy)
    → AwaitsAfterAllHolding (length lent) content start (receiver_in held_in before lent) history
    log (Some over)
    → StandsAfterAllHolding (length lent) content start (receiver_in held_in after new) history
    (log ++ headed_list answer (text_over after)))
    → (start : Start) (history : List Event) (log : List TaggedCopy)
    → AwaitsAfterAllHolding held content start (receiver_in held_in before lent) history log
    (Some over)
    → StandsAfterAllHolding held content start (receiver_in held_in after new) history
    (log ++ headed_list answer (text_over after))
finished-in held lent new before after over answer room finishes =
    subst (λ m. (start : Start) (history : List Event) (log : List TaggedCopy)
    → AwaitsAfterAllHolding m content start (receiver_in held_in before lent) history log
    (Some over)
    → StandsAfterAllHolding m content start (receiver_in held_in after new) history
    (log ++ headed_list answer (text_over after))) room finishes

-- nothing is over with the last of them
pub heard-quietly : (old lent : List LentFamily) (before mid after : OneCombining)
    (bits : List Bool) (at n : ℕ) (over : Option Over)
    → FedUpToIn (length old) old lent before mid after bits at n over → over ≡ None
    → HearsInRoom old lent before after bits (at + n) []
heard-quietly old lent before mid after bits at n over fed is =
    let all = fed_quiet fed (none-awaited (length old) content) is in
    record {
      stands = λ start history log s. fed_no_copy all start history log s;
      first = λ start history log s k lt. all.before start history log s k lt;
    }

-- what is over with the last of them was finished
pub heard-printed : (old lent new : List LentFamily) (before mid after last : OneCombining)
    (bits : List Bool) (at n : ℕ) (left : Option Over) (over : Over) (answer : Option EntryHead)
    → FedUpToIn (length old) old lent before mid after bits at n left → left ≡ Some over
    → ((start : Start) (history : List Event) (log : List TaggedCopy)
    → AwaitsAfterAllHolding (length old) content start (receiver_in held_in after lent) history
    log (Some over)
    → StandsAfterAllHolding (length old) content start (receiver_in held_in last new) history
    (log ++ headed_list answer (text_over last)))
    → HearsInRoom old new before last bits (at + n) (headed_list answer (text_over last))
heard-printed old lent new before mid after last bits at n left over answer fed is finishes =
    record {
      stands = λ start history log s. finishes start (history ++ elements (take (at + n) bits)) log
          (fed_over fed over is start history log s);
      first = λ start history log s k lt. fed_before fed start history log s k lt;
    }

-- it was finished, and nothing was printed
pub fed-finished : (held : ℕ) (old lent new : List LentFamily)
    (before mid after last : OneCombining) (bits : List Bool) (at n : ℕ) (left : Option Over)
    (over : Over) (answer : Option EntryHead)
    → FedUpToIn held old lent before mid after bits at n left → left ≡ Some over
    → ((start : Start) (history : List Event) (log : List TaggedCopy)
    → AwaitsAfterAllHolding held content start (receiver_in held_in after lent) history log
    (Some over)
    → StandsAfterAllHolding held content start (receiver_in held_in last new) history
    (log ++ headed_list answer (text_over last)))
    → headed_list answer (text_over last) ≡ []
    → FedIn held old new before last bits (at + n)
fed-finished held old lent new before mid after last bits at n left over answer fed is finishes
    none =
    fed_finished fed (receiver_in held_in last new) over (headed_list answer (text_over last)) is
    (λ start history log a. finishes start history log a) none
