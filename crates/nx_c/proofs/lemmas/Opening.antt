-- What opening answers, with memory and without.
use Rattle.std.proofs.Common.{◌≡◌, ◌≢◌, ◌≤◌, inl, inr, ℕ, zero, suc, Bool, true, false, cond, arith, List, [], Option, None, Some, is_some, refl, ap}
use Rattle.std.specs.Prelude.{nat_lt, ⊤}
use Rattle.nx_envelope.specs.Moment.{last_moment}
use Rattle.nx_copies.specs.copies.Shares.{starts_from}
use Rattle.nx_receiver.specs.air_file_runs.State.{BeginsWith}
use Rattle.nx_combine.specs.Families.{most_families}
use Rattle.nx_handle.specs.Life.{HasHeard}
use Rattle.nx_handle.specs.Opening.{opening_status}
use Rattle.nx_handle.specs.Places.{HaveRoom}
use Rattle.nx_handle.specs.PlainPlaces.{plain_place}
use Rattle.nx_handle.specs.Saving.{AnswersOpeningFrom, HasNoMore, RefusesState}
use Rattle.nx_handle.specs.Status.{number_of}
use Rattle.nx_handle.specs.declared.plain_place.PlainPlace.{PlainPlace}
use Rattle.nx_handle.specs.declared.status.Status.{Status}
use Rattle.nx_handle.specs.declared.status.Status.TheVariants.{Done, Memory, MomentRange}
use Rattle.nx_handle.proofs.lemmas.Saving.{begins-as}
use Rattle.nx_c.specs.ByKind.{AnswersIn, OfPlaces, three_closed}
use Rattle.nx_c.specs.Opening.{IsReady, LacksMemory, OpensNew}
use Rattle.nx_c.specs.declared.receiver.open_receiver.OpenReceiver.{OpenReceiver}

by-late : (late : Bool) → 0 ≡ number_of (cond late MomentRange Done)
    → cond late MomentRange Done ≡ Done
by-late true e = absurd (omega (arith, e))
by-late false e = refl

pub is-none : (receiver : Option OpenReceiver) (is_open : Bool) → is_open ≡ is_some receiver
    → is_open ≡ false → receiver ≡ None
is-none None is_open is closed = refl
is-none (Some opened) is_open is closed = cc

-- the status of opening a closed receiver is 0 only where it is done
pub status-done : (moment : ℕ) → 0 ≡ number_of (opening_status true moment)
    → opening_status true moment ≡ Done
status-done moment e = by-late (nat_lt last_moment moment) e

-- a receiver that was made for it was opened
pub opens : (Answers : OfPlaces) (would_be_done : Type 0) (families : ℕ)
    (new : Option OpenReceiver) (answer : ℕ) (ready after : OpenReceiver)
    → families ≤ most_families → IsReady families ready → AnswersIn Answers ready after
    → answer ≡ 0 → new ≡ Some after → OpensNew Answers would_be_done families new answer
opens Answers would_be_done families new answer ready after few is_ready answers done held =
    record {
      too_many = λ many. absurd (omega (arith, few, many));
      few = λ _. inl (record {
        ready = ready;
        is_ready = is_ready;
        after = after;
        answers = answers;
        done = λ _. held;
      });
      refused = λ no. absurd (no done);
    }

-- a receiver was not made for it
pub opens-none : (Answers : OfPlaces) (would_be_done : Type 0) (families : ℕ)
    (new : Option OpenReceiver) (answer : ℕ) → families ≤ most_families
    → LacksMemory Answers would_be_done answer → new ≡ None
    → OpensNew Answers would_be_done families new answer
opens-none Answers would_be_done families new answer few lacks none = record {
  too_many = λ many. absurd (omega (arith, few, many));
  few = λ _. inr lacks;
  refused = λ _. none;
}

-- without memory it answers what is said of places that need none, or that memory lacks
pub lacks : (Answers : OfPlaces) (would_be_done : Type 0) (plain answer : ℕ)
    → (plain ≡ 0 → answer ≡ number_of Memory) → (plain ≢ 0 → answer ≡ plain)
    → (plain ≡ 0 → would_be_done)
    → (plain ≢ 0 → answer ≡ plain → Answers PlainPlace plain_place three_closed three_closed)
    → LacksMemory Answers would_be_done answer
lacks Answers would_be_done zero answer memory same done answers = inr (memory refl, done refl)
lacks Answers would_be_done (suc n) answer memory same done answers =
    let refuses : suc n ≢ 0 = λ e. omega (arith, e) in
    let is = same refuses in inl ((λ e. omega (arith, e, is)), answers refuses is)

-- a status that says why isn't that of all done
never-done : (bytes : List ℕ) (why : Status) → RefusesState 3 bytes why → 0 ≡ number_of why → ⊥
never-done bytes why (inl (inl h)) e = omega (arith, e, ap number_of h.2)
never-done bytes why (inl (inr h)) e = omega (arith, e, ap number_of h.2)
never-done bytes why (inr h) e = omega (arith, e, ap number_of h.1)

-- closed places are opened only from bytes that begin with a state
pub begins-it : (bytes : List ℕ) (new : List PlainPlace)
    → AnswersOpeningFrom plain_place bytes three_closed new 0
    → BeginsWith bytes (λ states more. ⊤)
begins-it bytes new told = elim told.opens [
  | inl b ↦ begins-as bytes
      (λ states more. (0 ≡ 0) × HasNoMore 3 states
      × ((held : ℕ) → HaveRoom plain_place held three_closed
      → HasHeard plain_place held (starts_from states) new [] []))
      (λ states more. ⊤) (λ states more h. tt) b
  | inr h ↦ absurd (never-done bytes h.0 h.1 h.2)
]

-- and stay as they were where they aren't opened
pub stays-closed : (bytes : List ℕ) (new : List PlainPlace) (answer : ℕ)
    → AnswersOpeningFrom plain_place bytes three_closed new answer → answer ≢ 0
    → new ≡ three_closed
stays-closed bytes new answer told fails = elim told.opens [
  | inl b ↦ absurd (fails b.here.0)
  | inr h ↦ h.3
]
