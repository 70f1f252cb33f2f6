-- A plain place meets the laws of a kind: what it stands after that hears no elements, and what its
-- end prints.
use Rattle.std.specs.Prelude.{◌≡◌, ℕ, Bool, true, false, List, [], ◌++◌, length}
use Rattle.std.proofs.Common.{arith, refl, sym, ap, ◌∙◌}
use Rattle.nx_envelope.specs.Copies.{beginnings, copies, ended_copies, header_at_end, headers}
use Rattle.nx_envelope.specs.private.Reading.{identity_read}
use Rattle.nx_sync.specs.Locks.{Lock, Now, IsNow, hunting, locked}
use Rattle.nx_copies.specs.Events.{Start, Event, at_moment, elements_among, first_setting}
use Rattle.nx_copies.specs.Events.{setting_after_all}
use Rattle.nx_copies.specs.copies.FoundCopies.{TaggedCopy, all_in, ended_in, ended_so_far}
use Rattle.nx_copies.specs.copies.FoundCopies.{found_to_end, past_copies}
use Rattle.nx_copies.specs.copies.LockText.{bytes_of}
use Rattle.nx_copies.specs.copies.Log.{HasPrinted, PrintsToEnd, plain, printed_of}
use Rattle.nx_copies.specs.hearing.CopyHearer.{IsFresh, ReadsNow}
use Rattle.nx_copies.specs.hearing.CopyHearing.{CopyHearing}
use Rattle.nx_copies.specs.LockReader.{LockReading}
use Rattle.nx_copies.proofs.lemmas.copy_hearer.Hears.{nothing_heard}
use Rattle.nx_receiver.specs.ChannelReceiver.{IsReceiver, TakesEventBy}
use Rattle.nx_receiver.specs.Receiver.{Stands}
use Rattle.nx_receiver.specs.private.PlainReceiver.{plain-receiver}
use Rattle.nx_receiver.proofs.lemmas.receiver.Events.{a_moment, stands_after}
use Rattle.nx_receiver.proofs.lemmas.receiver.Printing.{begins}
use Rattle.nx_handle.specs.PlaceKinds.{IsPlaceKind, receiver_of}
use Rattle.nx_handle.specs.PlainPlaces.{OneReceiver, StandsPlain, content, is_closed, is_hearing}
use Rattle.nx_handle.specs.PlainPlaces.{plain_place}
use Rattle.nx_handle.specs.declared.plain_place.PlainPlace.{PlainPlace}
use Rattle.nx_handle.specs.declared.plain_place.PlainPlace.TheVariants.{Closed, Hears, Ended}

-- where nothing was heard no lock stands
fresh-now : (reader : LockReading) (bits : List Bool) (locks : List Lock) (now : Now) → bits ≡ []
    → IsNow bits locks now → ReadsNow reader bits now → IsFresh reader
fresh-now reader bits locks (hunting p) none is reads = reads
fresh-now reader bits locks (locked p t) none is reads =
    absurd (omega (arith, is.found.after, is.found.here.heard, ap length none))

-- a receiver that has heard nothing can begin with another start too, with no entry
receiver-begins : (first : Start) (r : OneReceiver) → Stands content first r [] []
    → (start : Start) → start.entries ≡ []
    → (new : OneReceiver) × Stands content start new [] []
unfolding elements_among
receiver-begins first r s start none =
    let hearer : CopyHearing =
    record r.hearer { moment = start.moment; refused = start.refused } in
    let reads = s.hearer.reads in (
      record { hearer = hearer; memory = [] },
      begins content start [] hearer
          (λ setting. nothing_heard setting hearer s.hearer.synchroniser
          (fresh-now r.hearer.reader [] reads.locks reads.now refl reads.stands reads.reads)) refl
          none (omega arith),
    )

-- an empty text has no copies
nothing-in : all_in [] ≡ ended_in []
unfolding bytes_of ended_copies copies headers beginnings header_at_end identity_read
nothing-in = refl

same-copies : (bits : List Bool) (locks : List Lock) (now : Now) → bits ≡ [] → IsNow bits locks now
    → ended_so_far bits locks now ≡ found_to_end bits locks now
unfolding ended_so_far found_to_end
same-copies bits locks (hunting p) none is =
    ap (λ list. past_copies bits locks ++ list) (sym nothing-in)
same-copies bits locks (locked p t) none is =
    absurd (omega (arith, is.found.after, is.found.here.heard, ap length none))

-- the end prints nothing more where no element was given
silent-end : (start : Start) (events : List Event) (log : List TaggedCopy)
    → elements_among events ≡ [] → HasPrinted start events log → PrintsToEnd start events log
silent-end start events log none h = record {
  locks = h.locks;
  now = h.now;
  stands = h.stands;
  printed = h.printed
      ∙ ap (printed_of start events)
      (same-copies (elements_among events) h.locks h.now none h.stands);
}

-- ---- a place

prints : (held : ℕ) (start : Start) (place : PlainPlace) (events : List Event)
    (log : List TaggedCopy) → StandsPlain held start place events log
    → plain.so_far start events log
prints held start Closed events log s = absurd s
prints held start (Hears r) events log s = (plain-receiver content).prints start r events log s.1
prints held start Ended events log s = absurd s

in-force : (held : ℕ) (start : Start) (place : PlainPlace) (events : List Event)
    (log : List TaggedCopy) → StandsPlain held start place events log
    → first_setting (plain_place.start_of place) ≡ setting_after_all (first_setting start) events
in-force held start Closed events log s = absurd s
in-force held start (Hears r) events log s =
    (plain-receiver content).in_force start r events log s.1
in-force held start Ended events log s = absurd s

is-receiver : (held : ℕ) → IsReceiver (receiver_of plain_place held)
is-receiver held = record {
  printing = (plain-receiver content).printing;
  prints = prints held;
  in_force = in-force held;
}

hears : (held : ℕ) (start : Start) (place : PlainPlace) (events : List Event)
    (log : List TaggedCopy) → StandsPlain held start place events log → is_hearing place ≡ true
hears held start Closed events log s = absurd s
hears held start (Hears r) events log s = refl
hears held start Ended events log s = absurd s

has-room : (held : ℕ) (start : Start) (place : PlainPlace) (events : List Event)
    (log : List TaggedCopy) → StandsPlain held start place events log → 0 ≡ held
has-room held start Closed events log s = absurd s
has-room held start (Hears r) events log s = s.0
has-room held start Ended events log s = absurd s

is-open : (place : PlainPlace) → is_hearing place ≡ true → is_closed place ≡ false
is-open Closed h = sym h
is-open (Hears r) h = refl
is-open Ended h = refl

closed-shut : (place : PlainPlace) → is_closed place ≡ true → Closed ≡ place
closed-shut Closed h = refl
closed-shut (Hears r) h = cc
closed-shut Ended h = cc

begins-too : (held : ℕ) (first : Start) (place : PlainPlace)
    → StandsPlain held first place [] [] → (start : Start) → start.entries ≡ []
    → (other : PlainPlace) × StandsPlain held start other [] []
begins-too held first Closed s start none = absurd s
begins-too held first (Hears r) s start none =
    let new = receiver-begins first r s.1 start none in (Hears new.0, (s.0, new.1))
begins-too held first Ended s start none = absurd s

takes-moment : (held : ℕ) (place : PlainPlace) (n : ℕ)
    → (other : PlainPlace) × TakesEventBy (receiver_of plain_place held) place other (at_moment n)
takes-moment held Closed n = (Closed, λ start history log s. absurd s)
takes-moment held (Hears r) n = (
  Hears (record { hearer = record r.hearer { moment = n }; memory = r.memory }),
  λ start history log s. (
    s.0,
    stands_after content r _ (at_moment n) a_moment refl start history log s.1,
  ),
)
takes-moment held Ended n = (Ended, λ start history log s. absurd s)

pub plain-laws : IsPlaceKind plain_place
plain-laws = record {
  receiver = is-receiver;
  hears = hears;
  has_room = has-room;
  is_open = is-open;
  shut_closed = λ place. refl;
  shut_room = λ place. record { families = refl; vacant = refl };
  closed_shut = closed-shut;
  begins_too = begins-too;
  takes_moment = takes-moment;
  silent_end = λ held. silent-end;
}
