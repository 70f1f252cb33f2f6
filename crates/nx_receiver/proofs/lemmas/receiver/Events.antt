-- What one more event, or some more elements, do to what a receiver was given, and to what it
-- stands after.
use Rattle.std.proofs.Common.{◌≡◌, ℕ, Bool, List, [], ◌∷◌, ◌++◌, map, refl, sym, ap, ◌∙◌, subst}
use Rattle.std.proofs.Common.{append-nil}
use Rattle.nx_memory.specs.declared.memories.entry.MemoryEntry.{MemoryEntry}
use Rattle.nx_copies.specs.Events.{Event, Command, Setting, Start, at_moment, elements_among}
use Rattle.nx_copies.specs.Events.{command, element, first_setting, setting_after}
use Rattle.nx_copies.specs.Events.{setting_after_all, settings, elements}
use Rattle.nx_receiver.specs.Receiver.{Receiving, Stands}
use Rattle.nx_copies.specs.copies.FoundCopies.{TaggedCopy}
use Rattle.nx_copies.specs.hearing.CopyHearer.{HearerStands, all_in_force}
use Rattle.nx_copies.specs.hearing.CopyHearing.{CopyHearing, in_force}
use Rattle.nx_copies.proofs.lemmas.printing.Logged.{bits_of-append, settings-append}

-- elements as events
bits_of-elements : (bits : List Bool) → elements_among (elements bits) ≡ bits
unfolding elements_among
bits_of-elements [] = refl
bits_of-elements (bit ∷ bits) = ap (λ bs. bit ∷ bs) (bits_of-elements bits)

settings-elements : (now : Setting) (bits : List Bool)
    → settings now (elements bits) ≡ map (λ bit. now) bits
unfolding settings
settings-elements now [] = refl
settings-elements now (bit ∷ bits) = ap (λ ss. now ∷ ss) (settings-elements now bits)

force-elements : (now : Setting) (bits : List Bool) → setting_after_all now (elements bits) ≡ now
unfolding setting_after_all
force-elements now [] = refl
force-elements now (bit ∷ bits) = force-elements now bits

pub force-append : (now : Setting) (xs ys : List Event)
    → setting_after_all now (xs ++ ys) ≡ setting_after_all (setting_after_all now xs) ys
unfolding setting_after_all
force-append now [] ys = refl
force-append now (x ∷ xs) ys = force-append (setting_after now x) xs ys

-- elements after other events
pub bits_of-more : (events : List Event) (bits : List Bool)
    → elements_among (events ++ elements bits) ≡ elements_among events ++ bits
bits_of-more events bits =
    bits_of-append events (elements bits)
    ∙ ap (λ bs. elements_among events ++ bs) (bits_of-elements bits)

pub settings-more : (first : Setting) (hearer : CopyHearing) (events : List Event)
    (bits : List Bool) → in_force hearer ≡ setting_after_all first events
    → settings first (events ++ elements bits) ≡ settings first events ++ all_in_force hearer bits
unfolding all_in_force
settings-more first hearer events bits force =
    settings-append first events (elements bits)
    ∙ ap (λ ss. settings first events ++ ss)
    (settings-elements (setting_after_all first events) bits)
    ∙ ap (λ now. settings first events ++ map (λ bit. now) bits) (sym force)

pub force-more : (first : Setting) (events : List Event) (bits : List Bool)
    → setting_after_all first (events ++ elements bits) ≡ setting_after_all first events
force-more first events bits =
    force-append first events (elements bits) ∙ force-elements (setting_after_all first events) bits

-- an event that is no element, after other events
pub data IsNoElement : Event → Type 0 where
  a_moment : {n : ℕ} → IsNoElement (at_moment n)
  a_command : {c : Command} → IsNoElement (command c)

bits_of-one : (event : Event) → IsNoElement event → elements_among (event ∷ []) ≡ []
unfolding elements_among
bits_of-one (at_moment n) a_moment = refl
bits_of-one (element bit) none = elim none [ ]
bits_of-one (command c) a_command = refl

settings-one : (now : Setting) (event : Event) → IsNoElement event → settings now (event ∷ []) ≡ []
unfolding settings
settings-one now (at_moment n) a_moment = refl
settings-one now (element bit) none = elim none [ ]
settings-one now (command c) a_command = refl

force-one : (now : Setting) (event : Event)
    → setting_after_all now (event ∷ []) ≡ setting_after now event
unfolding setting_after_all
force-one now event = refl

-- the hearer with this in force
abbrev pub with_force : CopyHearing → Setting → CopyHearing
with_force hearer now = record hearer { moment = now.moment; refused = now.refused }

-- a receiver in which this event alone changed what is in force stands after the event
pub stands_after : {M : Type 0} (content : M → List MemoryEntry) (old : Receiving M)
    (hearer : CopyHearing) (event : Event)
    → IsNoElement event → hearer ≡ with_force old.hearer (setting_after (in_force old.hearer) event)
    → (start : Start) (history : List Event) (log : List TaggedCopy)
    → Stands content start old history log
    → Stands content start (record { hearer = hearer; memory = old.memory }) (history ++ event ∷ [])
    log
stands_after content old hearer event none change start history log stands =
    let first = first_setting start in
    let bits = elements_among (history ++ event ∷ []) in
    let before : elements_among history ≡ bits =
    sym (bits_of-append history (event ∷ [])
    ∙ ap (λ bs. elements_among history ++ bs) (bits_of-one event none)
    ∙ append-nil (elements_among history)) in
    let same : settings first history ≡ settings first (history ++ event ∷ []) =
    sym (settings-append first history (event ∷ [])
    ∙ ap (λ ss. settings first history ++ ss)
    (settings-one (setting_after_all first history) event none)
    ∙ append-nil (settings first history)) in
    let was = stands.hearer in
    let new : HearerStands first hearer (elements_among history) (settings first history)
    stands.copies =
    subst (λ w. HearerStands first w (elements_among history) (settings first history)
    stands.copies) (sym change) (record { synchroniser = was.synchroniser; reads = was.reads }) in
    record {
      copies = stands.copies;
      hearer = subst (λ ss. HearerStands first hearer bits ss stands.copies) same
          (subst (λ bs. HearerStands first hearer bs (settings first history) stands.copies) before
          new);
      force = ap in_force change
          ∙ ap (λ now. setting_after now event) stands.force
          ∙ sym (force-append first history (event ∷ [])
          ∙ force-one (setting_after_all first history) event);
      printed = stands.printed;
      memory = stands.memory;
    }
