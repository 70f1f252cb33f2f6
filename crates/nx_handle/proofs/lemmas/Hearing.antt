-- Elements that the receiver of a channel hears piece by piece.
use Rattle.std.proofs.Common.{◌≡◌, ◌<◌, ◌≤◌, ◌+◌, ◌-◌, inl, inr, ℕ, Bool, List, [], ◌∷◌, ◌++◌, length, take, drop, min, true, arith, sym, ap, ◌∙◌, subst}
use Rattle.std.proofs.lemmas.List.{append_assoc, append-nil, take-append-le, length-append}
use Rattle.std.proofs.lemmas.Bool.{cases_lt}
use Rattle.std.proofs.lemmas.List.{length-drop, length-map, length-take, length-take-le, map-append, take-append-drop, take-map}
use Rattle.std.proofs.Math.Seq.{take-add, take-append-add}
use Rattle.nx_fec.specs.declared.air_files.channel.Channel.{Channel}
use Rattle.nx_copies.specs.Events.{Event, Start, element, elements}
use Rattle.nx_copies.specs.copies.FoundCopies.{TaggedCopy, headed_copy}
use Rattle.nx_copies.specs.copies.Log.{IsEntry, entry_head}
use Rattle.nx_copies.specs.copies.Shares.{MarkedCopy, marked}
use Rattle.nx_copies.specs.declared.entry.EntryHead.{EntryHead}
use Rattle.nx_copies.proofs.lemmas.printing.Log.{no-log, one-log}
use Rattle.nx_receiver.specs.ChannelReceiver.{HandsOutNoneBeforeBy}
use Rattle.nx_receiver.specs.Receiver.{headed_list}
use Rattle.std.specs.Prelude.{Option, Some}
use Rattle.nx_handle.specs.Hearing.{element_of, elements_of}
use Rattle.nx_handle.specs.private.Hearing.{HearsOn}
use Rattle.nx_handle.specs.PlaceKinds.{PlaceKind, SameRoom, receiver_of}
use Rattle.nx_handle.proofs.lemmas.Places.{room-then}

-- a receiver hears elements, and hands out these copies
abbrev pub Heard : {P : Type 0} → PlaceKind P → P → P → List Bool → List TaggedCopy → Type 0
Heard kind old new bits next =
    (held : ℕ) (start : Start) (history : List Event) (log : List TaggedCopy)
    → kind.stands held start old history log
    → kind.stands held start new (history ++ elements bits) (log ++ next)

-- a receiver hears elements, and prints nothing
pub record HearsSilently {P : Type 0} (kind : PlaceKind P) (old new : P) (bits : List Bool)
    : Type 0 where
  pub heard : (held : ℕ) (start : Start) (history : List Event) (log : List TaggedCopy)
      → kind.stands held start old history log
      → kind.stands held start new (history ++ elements bits) log
  pub first : (held : ℕ) → HandsOutNoneBeforeBy (receiver_of kind held) old bits (length bits)
  pub now : kind.is_hearing new ≡ true
  pub room : SameRoom kind old new

-- more elements, behind others
elements-more : (history : List Event) (one more bits : List Bool) → bits ≡ one ++ more
    → (history ++ elements one) ++ elements more ≡ history ++ elements bits
elements-more history one more bits e =
    append_assoc history (elements one) (elements more)
    ∙ ap (λ es. history ++ es) (sym (map-append element one more) ∙ ap elements (sym e))

-- more elements behind those that printed nothing
heard-more : {P : Type 0} (kind : PlaceKind P) (old mid new : P) (one more bits : List Bool)
    (next : List TaggedCopy) → bits ≡ one ++ more → HearsSilently kind old mid one
    → Heard kind mid new more next → Heard kind old new bits next
heard-more kind old mid new one more bits next e h heard held start history log s =
    subst (λ es. kind.stands held start new es (log ++ next))
    (elements-more history one more bits e)
    (heard held start (history ++ elements one) log (h.heard held start history log s))

none-before-more : {P : Type 0} (kind : PlaceKind P) (old mid : P) (one more bits : List Bool)
    → bits ≡ one ++ more → HearsSilently kind old mid one
    → ((held : ℕ) → HandsOutNoneBeforeBy (receiver_of kind held) mid more (length more))
    → (held : ℕ) → HandsOutNoneBeforeBy (receiver_of kind held) old bits (length bits)
none-before-more kind old mid one more bits e h first held start history log s k lt =
    elim (cases_lt k (length one)) [
      | inl before ↦
          subst (λ bs. (kind.printing held).so_far start (history ++ elements bs) log)
          (sym (ap (take k) e ∙ take-append-le k one more (omega (arith, before))))
          (h.first held start history log s k before)
      | inr behind ↦
          let n : ℕ = k - length one in
          let is : length one + n ≡ k = omega (arith, behind) in
          let few : n < length more =
          omega (arith, lt, behind, ap length e ∙ length-append one more) in
          let all : take k bits ≡ one ++ take n more =
          ap (take k) e ∙ ap (λ m. take m (one ++ more)) (sym is) ∙ take-append-add one more n in
          subst (λ es. (kind.printing held).so_far start es log)
          (elements-more history one (take n more) (take k bits) all)
          (first held start (history ++ elements one) log (h.heard held start history log s) n
          few)
    ]

-- ---- a piece of elements

pub taken-of-taken : {X : Type 0} (xs : List X) (n m : ℕ) → n ≤ length (take m xs)
    → take n (take m xs) ≡ take n xs
taken-of-taken xs n m few =
    sym (take-append-le n (take m xs) (drop m xs) few) ∙ ap (take n) (take-append-drop m xs)

pub next-piece : (xs : List ℕ) (h n m : ℕ) (packed : List Bool)
    → packed ≡ elements_of (take m (drop h xs)) → n ≤ length packed
    → elements_of (take (h + n) xs) ≡ elements_of (take h xs) ++ take n (drop 0 packed)
next-piece xs h n m packed e few =
    let short : n ≤ length (take m (drop h xs)) =
    subst (λ l. n ≤ l) (ap length e ∙ length-map (take m (drop h xs)) element_of) few in
    ap elements_of (take-add h n xs) ∙ map-append element_of (take h xs) (take n (drop h xs))
    ∙ ap (λ bs. elements_of (take h xs) ++ bs)
    (sym (ap (take n) e ∙ take-map element_of n (take m (drop h xs))
    ∙ ap elements_of (taken-of-taken (drop h xs) n m short)))

pub piece-within : (xs : List ℕ) (h n m : ℕ) (packed : List Bool)
    → packed ≡ elements_of (take m (drop h xs)) → n ≤ length packed → h ≤ length xs
    → h + n ≤ length xs
piece-within xs h n m packed e few within =
    let long : length packed ≡ min m (length xs - h) =
    ap length e ∙ length-map (take m (drop h xs)) element_of ∙ length-take m (drop h xs)
    ∙ ap (min m) (length-drop h xs) in
    let short : length packed ≤ length xs - h = subst (λ l. l ≤ length xs - h) (sym long)
    (omega arith) in
    omega (arith, few, short, within)

-- none of the first elements but the last prints anything
pub none-before-piece : {P : Type 0} (kind : PlaceKind P) (mid : P) (packed : List Bool) (n : ℕ)
    → n ≤ length packed
    → ((held : ℕ) → HandsOutNoneBeforeBy (receiver_of kind held) mid (drop 0 packed) n)
    → (held : ℕ) → HandsOutNoneBeforeBy (receiver_of kind held) mid (take n (drop 0 packed))
    (length (take n (drop 0 packed)))
none-before-piece kind mid packed n few first held start history log s k lt =
    let long : length (take n packed) ≡ n = length-take-le n packed few in
    let before : k < n = subst (λ l. k < l) long lt in
    subst (λ bs. (kind.printing held).so_far start (history ++ elements bs) log)
    (sym (taken-of-taken packed k n (omega (arith, before, long))))
    (first held start history log s k before)

-- more elements, which print nothing either
pub silent-more : {P : Type 0} (kind : PlaceKind P) (old mid new : P) (one more bits : List Bool)
    (next : List TaggedCopy) → bits ≡ one ++ more → next ≡ [] → HearsSilently kind old mid one
    → Heard kind mid new more next
    → ((held : ℕ) → HandsOutNoneBeforeBy (receiver_of kind held) mid more (length more))
    → kind.is_hearing new ≡ true → SameRoom kind mid new
    → HearsSilently kind old new bits
silent-more kind old mid new one more bits next e none h heard first now room = record {
  heard = λ held start history log s. subst
      (λ all. kind.stands held start new (history ++ elements bits) all)
      (ap (λ n. log ++ n) none ∙ append-nil log)
      (heard-more kind old mid new one more bits next e h heard held start history log s);
  first = none-before-more kind old mid one more bits e h first;
  now = now;
  room = room-then kind h.room room;
}

-- what is heard silently is heard, and has no log
pub hears-silent : {P : Type 0} (kind : PlaceKind P) (channel : Channel) (old new : P)
    (bits : List Bool) → HearsSilently kind old new bits → HearsOn kind channel old new bits []
hears-silent kind channel old new bits h = record {
  next = [];
  few = omega arith;
  behind = omega arith;
  spelled = no-log;
  stands = λ held start history log s. subst
      (λ all. kind.stands held start new (history ++ elements bits) all)
      (sym (append-nil log)) (h.heard held start history log s);
  first = h.first;
  now = h.now;
  room = h.room;
}

-- what is spelled of a piece behind what was heard silently
pub hears-spelled : {P : Type 0} (kind : PlaceKind P) (channel : Channel) (old mid new : P)
    (one more bits : List Bool)
    (head : Option EntryHead) (one_head : EntryHead) (text bytes : List ℕ) → bits ≡ one ++ more
    → 0 < length more → head ≡ Some one_head → HearsSilently kind old mid one
    → IsEntry (marked channel (headed_copy one_head text true)) bytes
    → Heard kind mid new more (headed_list head text)
    → ((held : ℕ) → HandsOutNoneBeforeBy (receiver_of kind held) mid more (length more))
    → kind.is_hearing new ≡ true → SameRoom kind mid new
    → HearsOn kind channel old new bits bytes
hears-spelled kind channel old mid new one more bits head one_head text bytes e some is h spelled
    heard first now room =
    let copy = headed_copy one_head text true in
    let next : headed_list head text ≡ copy ∷ [] = ap (λ o. headed_list o text) is in
    record {
      next = copy ∷ [];
      few = omega arith;
      behind = omega (arith, some, ap length e ∙ length-append one more);
      spelled = one-log (marked channel copy) bytes spelled;
      stands = heard-more kind old mid new one more bits (copy ∷ []) e h
          (λ held start history log s. subst
          (λ n. kind.stands held start new (history ++ elements more) (log ++ n)) next
          (heard held start history log s));
      first = none-before-more kind old mid one more bits e h first;
      now = now;
      room = room-then kind h.room room;
    }

-- an entry has bytes
pub has-bytes : (one : MarkedCopy) (bytes : List ℕ) → IsEntry one bytes → bytes ≡ [] → ⊥
unfolding entry_head
has-bytes one bytes h e = omega (arith, ap length (sym h.spelled ∙ e))
