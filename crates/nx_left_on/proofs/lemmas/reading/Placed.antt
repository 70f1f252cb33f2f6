-- Entries of a kept log with their places.
use Rattle.std.proofs.Common.{◌≡◌, ℕ, ◌+◌, ◌-◌, ◌≤◌, List, [], ◌∷◌, ◌++◌, length, drop, Some, ap, sym, ◌∙◌, refl, subst, arith, append_assoc, length-append}
use Rattle.std.specs.Prelude.{map}
use Rattle.std.specs.List.{AllZip}
use Rattle.std.proofs.lemmas.List.{drop_at}
use Rattle.nx_copies.specs.copies.Shares.{MarkedCopy}
use Rattle.nx_kept.specs.Kept.{IsBehindOpenGates}
use Rattle.nx_log.specs.Entries.{IsWholeEntry}
use Rattle.nx_log.specs.KeptLog.{ArePlacedFrom, StandForPlaced, places_at}
use Rattle.nx_log.specs.Logged.{IsLoggedAs}
use Rattle.nx_log.specs.Places.{PlacedCopy, copy_of}
use Rattle.nx_log.specs.declared.writing.places.Places.{Places}
use Rattle.nx_watch.specs.Watch.{StandsForEntries}

-- ---- what a watch reads

record AreTexts (entries : List PlacedCopy) (front : List ℕ) : Type 0 where
  texts : List (List ℕ)
  each : AllZip IsLoggedAs (map copy_of entries) texts
  kept : IsBehindOpenGates IsWholeEntry texts front

texts_of : (from : ℕ) (entries : List PlacedCopy) (front : List ℕ)
    → ArePlacedFrom from entries front → AreTexts entries front
texts_of from [] front is = record { texts = []; each = tt; kept = is }
texts_of from (first ∷ entries) front is =
    let rest = texts_of (from + 1 + length is.1) entries is.2 is.7 in
    record {
      texts = is.1 ∷ rest.texts;
      each = (is.4, rest.each);
      kept = (is.0, is.2, is.3, (first.one, is.4), is.6, rest.kept);
    }

pub placed_stand : (from : ℕ) (bytes : List ℕ) (entries : List PlacedCopy)
    → StandForPlaced from bytes entries → StandsForEntries (map copy_of entries) bytes
placed_stand from bytes entries s =
    let t = texts_of from entries s.front s.placed in
    record {
      texts = t.texts;
      each = t.each;
      stands = record {
        front = s.front;
        tail = s.tail;
        kept = t.kept;
        end = s.end;
        split = s.split;
      };
    }

-- each has its places
record ArePlaced (from : ℕ) (entries : List MarkedCopy) (front : List ℕ) : Type 0 where
  placed : List PlacedCopy
  are : ArePlacedFrom from placed front
  same : map copy_of placed ≡ entries

place_all : (from : ℕ) (entries : List MarkedCopy) (texts : List (List ℕ)) (front : List ℕ)
    → AllZip IsLoggedAs entries texts → IsBehindOpenGates IsWholeEntry texts front
    → ArePlaced from entries front
place_all from [] [] front each kept = record { placed = []; are = kept; same = refl }
place_all from [] (t ∷ ts) front each kept = absurd each
place_all from (one ∷ entries) [] front each kept = absurd each
place_all from (one ∷ entries) (t ∷ ts) front each kept =
    let rest = place_all (from + 1 + length t) entries ts kept.1 each.1 kept.5 in
    record {
      placed = record { one = one; places = Some (places_at from t) } ∷ rest.placed;
      are = (kept.0, t, kept.1, kept.2, each.0, refl, kept.4, rest.are);
      same = ap (λ l. one ∷ l) rest.same;
    }

pub stand_placed : (from : ℕ) (bytes : List ℕ) (entries : List MarkedCopy)
    → StandsForEntries entries bytes
    → (placed : List PlacedCopy) × StandForPlaced from bytes placed
    × (map copy_of placed ≡ entries)
stand_placed from bytes entries s =
    let p = place_all from entries s.texts s.stands.front s.each s.stands.kept in (
      p.placed,
      record {
        front = s.stands.front;
        tail = s.stands.tail;
        split = s.stands.split;
        placed = p.are;
        end = s.stands.end;
      },
      p.same,
    )

-- ---- from a gate on

-- the first of them, and the others behind these
record AreParted (from : ℕ) (later : List PlacedCopy) (front : List ℕ) : Type 0 where
  first : List ℕ
  rest : List ℕ
  split : front ≡ first ++ rest
  are : ArePlacedFrom (from + length first) later rest

parted : (from : ℕ) (earlier later : List PlacedCopy) (front : List ℕ)
    → ArePlacedFrom from (earlier ++ later) front → AreParted from later front
parted from [] later front is =
    let none : from ≡ from + 0 = omega arith in
    record {
      first = [];
      rest = front;
      split = refl;
      are = subst (λ n. ArePlacedFrom n later front) none is;
    }
parted from (one ∷ earlier) later front is =
    let p = parted (from + 1 + length is.1) earlier later is.2 is.7 in
    let size : (from + 1 + length is.1) + length p.first ≡ from
    + length (is.0 ∷ (is.1 ++ p.first)) = omega (arith, length-append is.1 p.first) in
    record {
      first = is.0 ∷ (is.1 ++ p.first);
      rest = p.rest;
      split = is.6 ∙ ap (λ l. is.0 ∷ (is.1 ++ l)) p.split
          ∙ ap (λ l. is.0 ∷ l) (sym (append_assoc is.1 p.first p.rest));
      are = subst (λ n. ArePlacedFrom n later p.rest) size p.are;
    }

module _ (from : ℕ) (bytes : List ℕ) (earlier later : List PlacedCopy) (one : PlacedCopy)
    (s : StandForPlaced from bytes (earlier ++ one ∷ later)) where
  parts : AreParted from (one ∷ later) s.front
  parts = parted from earlier (one ∷ later) s.front s.placed

  pub from_its_gate : (places : Places) × (one.places ≡ Some places) × (from ≤ places.place)
      × StandForPlaced places.place (drop (places.place - from) bytes) (one ∷ later)
  from_its_gate =
      let p = parts in
      let place = from + length p.first in
      let count : length p.first ≡ place - from = omega arith in
      let all : bytes ≡ p.first ++ (p.rest ++ s.tail) =
      s.split ∙ ap (λ l. l ++ s.tail) p.split ∙ append_assoc p.first p.rest s.tail in
      let left : drop (place - from) bytes ≡ p.rest ++ s.tail =
      ap (λ l. drop (place - from) l) all
      ∙ drop_at p.first (p.rest ++ s.tail) (place - from) count in (
        places_at place p.are.1,
        p.are.5,
        omega arith,
        record { front = p.rest; tail = s.tail; split = left; placed = p.are; end = s.end },
      )

  pub from_next_gate : (places : Places) × (one.places ≡ Some places) × (from ≤ places.next)
      × StandForPlaced places.next (drop (places.next - from) bytes) later
  from_next_gate =
      let p = parts in
      let entry = p.are.1 in
      let next = from + length p.first + 1 + length entry in
      let front = p.first ++ p.are.0 ∷ entry in
      let count : length front ≡ next - from =
      omega (arith, length-append p.first (p.are.0 ∷ entry)) in
      let all : bytes ≡ front ++ (p.are.2 ++ s.tail) =
      s.split ∙ ap (λ l. l ++ s.tail) (p.split ∙ ap (λ l. p.first ++ l) p.are.6)
      ∙ ap (λ l. l ++ s.tail) (sym (append_assoc p.first (p.are.0 ∷ entry) p.are.2))
      ∙ append_assoc front p.are.2 s.tail in
      let left : drop (next - from) bytes ≡ p.are.2 ++ s.tail =
      ap (λ l. drop (next - from) l) all
      ∙ drop_at front (p.are.2 ++ s.tail) (next - from) count in (
        places_at (from + length p.first) entry,
        p.are.5,
        omega arith,
        record { front = p.are.2; tail = s.tail; split = left; placed = p.are.7; end = s.end },
      )
