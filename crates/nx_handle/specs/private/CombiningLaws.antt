-- A place that combines meets the laws of a kind.
use Rattle.std.specs.Prelude.{◌≡◌, ℕ, Bool, true, false, List, [], ◌∷◌, ◌++◌, length}
use Rattle.std.proofs.Common.{arith, refl, sym, ap, ◌∙◌}
use Rattle.nx_sync.specs.Locks.{Lock, Now, IsNow, hunting, locked}
use Rattle.nx_copies.specs.Events.{Event, Start, at_moment, elements_among, first_setting}
use Rattle.nx_copies.specs.Events.{setting_after_all}
use Rattle.nx_copies.specs.copies.FoundCopies.{TaggedCopy}
use Rattle.nx_receiver.specs.ChannelReceiver.{IsReceiver}
use Rattle.nx_combine.specs.CombinedPrinting.{HasPrintedHolding, PrintsHoldingToEnd}
use Rattle.nx_combine.specs.CombinedPrinting.{combined_holding, printed_of_placed_holding}
use Rattle.nx_combine.specs.CombinedReceiver.{receiver_in}
use Rattle.nx_combine.specs.CopyPositions.{ended_placed, placed_to_end}
use Rattle.nx_combine.specs.FamilyPlaces.{LentFamily, held_in}
use Rattle.nx_combine.specs.private.CombiningLaws.{combining-receiver}
use Rattle.nx_combine.proofs.lemmas.Silent.{starting_with, with_moment}
use Rattle.nx_combine.proofs.lemmas.Silent as silent
use Rattle.nx_handle.specs.CombiningPlaces.{StandsLent}
use Rattle.nx_handle.specs.CombiningPlaces.{combining_place, combining_start, state_closed}
use Rattle.nx_handle.specs.CombiningPlaces.{state_hears}
use Rattle.nx_handle.specs.PlaceKinds.{IsPlaceKind, receiver_of}
use Rattle.nx_handle.specs.PlainPlaces.{content}
use Rattle.nx_handle.specs.declared.combining_place.CombiningState.{CombiningState}
use Rattle.nx_handle.specs.declared.combining_place.CombiningState.TheVariants.{Closed, Hears, Ended}

same-copies : (bits : List Bool) (locks : List Lock) (now : Now) → bits ≡ [] → IsNow bits locks now
    → ended_placed bits locks now ≡ placed_to_end bits locks now
unfolding ended_placed placed_to_end
same-copies bits locks (hunting p) none is = refl
same-copies bits locks (locked p t) none is =
    absurd (omega (arith, is.found.after, is.found.here.heard, ap length none))

-- the end prints nothing more where no element was given
silent-end : (held : ℕ) (start : Start) (events : List Event) (log : List TaggedCopy)
    → elements_among events ≡ [] → HasPrintedHolding held start events log
    → PrintsHoldingToEnd held start events log
silent-end held start events log none h = record {
  locks = h.locks;
  now = h.now;
  stands = h.stands;
  printed = h.printed
      ∙ ap (printed_of_placed_holding held start events)
      (same-copies (elements_among events) h.locks h.now none h.stands);
}

prints : (held : ℕ) (start : Start) (lent : List LentFamily) (state : CombiningState)
    (events : List Event) (log : List TaggedCopy) → StandsLent held start lent state events log
    → (combined_holding held).so_far start events log
prints held start lent Closed events log s = absurd s
prints held start lent (Hears r) events log s =
    (combining-receiver held content).prints start (receiver_in held_in r lent) events log s.1
prints held start lent Ended events log s = absurd s

in-force : (held : ℕ) (start : Start) (lent : List LentFamily) (state : CombiningState)
    (events : List Event) (log : List TaggedCopy) → StandsLent held start lent state events log
    → first_setting (combining_start state) ≡ setting_after_all (first_setting start) events
in-force held start lent Closed events log s = absurd s
in-force held start lent (Hears r) events log s =
    (combining-receiver held content).in_force start (receiver_in held_in r lent) events log s.1
in-force held start lent Ended events log s = absurd s

hears : (held : ℕ) (start : Start) (lent : List LentFamily) (state : CombiningState)
    (events : List Event) (log : List TaggedCopy) → StandsLent held start lent state events log
    → state_hears state ≡ true
hears held start lent Closed events log s = absurd s
hears held start lent (Hears r) events log s = refl
hears held start lent Ended events log s = absurd s

has-room : (held : ℕ) (start : Start) (lent : List LentFamily) (state : CombiningState)
    (events : List Event) (log : List TaggedCopy) → StandsLent held start lent state events log
    → length lent ≡ held
has-room held start lent Closed events log s = absurd s
has-room held start lent (Hears r) events log s = s.0
has-room held start lent Ended events log s = absurd s

is-open : (state : CombiningState) → state_hears state ≡ true → state_closed state ≡ false
is-open Closed h = sym h
is-open (Hears r) h = refl
is-open Ended h = refl

closed-is : (state : CombiningState) → state_closed state ≡ true → Closed ≡ state
closed-is Closed h = refl
closed-is (Hears r) h = cc
closed-is Ended h = cc

-- with another start
begins-too : (held : ℕ) (first : Start) (lent : List LentFamily) (state : CombiningState)
    → StandsLent held first lent state [] [] → (start : Start) → start.entries ≡ []
    → (other : CombiningState) × StandsLent held start lent other [] []
begins-too held first lent Closed s start none = absurd s
begins-too held first lent (Hears r) s start none = (
  Hears (starting_with r [] start),
  (s.0, silent.begins-too held_in held content first r lent s.1 [] refl start none),
)
begins-too held first lent Ended s start none = absurd s

-- with another moment
abbrev at_next : CombiningState → ℕ → CombiningState
at_next Closed n = Closed
at_next (Hears r) n = Hears (with_moment r n)
at_next Ended n = Ended

takes-moment : (held : ℕ) (lent : List LentFamily) (state : CombiningState) (n : ℕ)
    (start : Start) (history : List Event) (log : List TaggedCopy)
    → StandsLent held start lent state history log
    → StandsLent held start lent (at_next state n) (history ++ at_moment n ∷ []) log
takes-moment held lent Closed n start history log s = absurd s
takes-moment held lent (Hears r) n start history log s =
    (s.0, silent.takes-moment held_in held content r lent n start history log s.1)
takes-moment held lent Ended n start history log s = absurd s

module _ {F : Type 0} (places : F → List LentFamily) (vacant : F → F) where
  is-receiver : (held : ℕ) → IsReceiver (receiver_of (combining_place places vacant) held)
  is-receiver held = record {
    printing = (combining-receiver held content).printing;
    prints = λ start place events log s.
        prints held start (places place.families) place.state events log s;
    in_force = λ start place events log s.
        in-force held start (places place.families) place.state events log s;
  }

  pub combining-laws : IsPlaceKind (combining_place places vacant)
  combining-laws = record {
    receiver = is-receiver;
    hears = λ held start place events log s.
        hears held start (places place.families) place.state events log s;
    has_room = λ held start place events log s.
        has-room held start (places place.families) place.state events log s;
    is_open = λ place h. is-open place.state h;
    shut_closed = λ place. refl;
    shut_room = λ place. record { families = refl; vacant = refl };
    closed_shut = λ place h.
        ap (λ state. record { state = state; families = place.families })
        (closed-is place.state h);
    begins_too = λ held first place s start none.
        let other = begins-too held first (places place.families) place.state s start none in
        (record { state = other.0; families = place.families }, other.1);
    takes_moment = λ held place n. (
      record { state = at_next place.state n; families = place.families },
      λ start history log s.
          takes-moment held (places place.families) place.state n start history log s,
    );
    silent_end = silent-end;
  }
