-- What is done in a plain place.
use Rattle.std.proofs.Common.{◌≡◌, ℕ, ◌≤◌, List, refl, subst, sym}
use Rattle.nx_envelope.specs.Moment.{last_moment}
use Rattle.nx_copies.specs.Events.{Event, Start, at_moment}
use Rattle.nx_copies.specs.copies.FoundCopies.{TaggedCopy}
use Rattle.nx_receiver.specs.Receiver.{Stands, TakesEvent}
use Rattle.nx_handle.specs.PlaceKinds.{HasTaken, TakesEventIn}
use Rattle.nx_handle.specs.PlainPlaces.{OneReceiver, StandsPlain, content, plain_place}
use Rattle.nx_handle.specs.declared.plain_place.PlainPlace.{PlainPlace}
use Rattle.nx_handle.specs.declared.plain_place.PlainPlace.TheVariants.{Hears}

-- the receiver in a place stands as the place does
pub stands-in : (held : ℕ) (start : Start) (place : PlainPlace) (r : OneReceiver)
    (history : List Event) (log : List TaggedCopy) → place ≡ Hears r
    → StandsPlain held start place history log
    → (0 ≡ held) × Stands content start r history log
stands-in held start place r history log is s =
    subst (λ p. StandsPlain held start p history log) is s

pub takes-in : (place : PlainPlace) (r after : OneReceiver) (event : Event) → place ≡ Hears r
    → TakesEvent content r after event → TakesEventIn plain_place place (Hears after) event
takes-in place r after event is takes held start history log s =
    let stands = stands-in held start place r history log is s in
    (stands.0, takes start history log stands.1)

pub has-taken : (place : PlainPlace) (r after : OneReceiver) (moment : ℕ) → place ≡ Hears r
    → TakesEvent content r after (at_moment moment) → r.hearer.moment ≤ moment
    → moment ≤ last_moment → HasTaken plain_place moment place (Hears after)
has-taken place r after moment is takes not_back in_range = record {
  takes = takes-in place r after (at_moment moment) is
      (λ start history log s. takes start history log s);
  not_back = subst (λ p. (plain_place.start_of p).moment ≤ moment) (sym is) not_back;
  in_range = in_range;
  now = refl;
  room = refl;
}
