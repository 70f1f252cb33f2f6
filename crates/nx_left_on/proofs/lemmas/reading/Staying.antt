-- The places of entries stay.
use Rattle.std.proofs.Common.{◌≡◌, ℕ, ◌+◌, ◌-◌, List, [], ◌∷◌, ◌++◌, length, drop, Some, ap, ap₂, sym, ◌∙◌, refl, subst, arith, append_assoc}
use Rattle.std.specs.Prelude.{map, Option}
use Rattle.nx_copies.specs.copies.Log.{IsEntry}
use Rattle.nx_copies.specs.copies.Shares.{MarkedCopy}
use Rattle.nx_copies.proofs.lemmas.printing.Log as printed
use Rattle.nx_log.specs.KeptLog.{ArePlacedFrom, StandForPlaced, places_at}
use Rattle.nx_log.specs.Places.{PlacedCopy, copy_of}
use Rattle.nx_log.specs.declared.writing.places.Places.{Places}
use Rattle.nx_left_on.specs.Chain.{IsChain, Watch, all_put}
use Rattle.nx_left_on.proofs.lemmas.chains.Files.{last-stands}
use Rattle.nx_left_on.proofs.lemmas.reading.Placed.{from_next_gate, stand_placed}

-- those behind these entries
pub record AreBehind (entries all : List PlacedCopy) (more : List MarkedCopy) : Type 0 where
  pub later : List PlacedCopy
  pub whole : all ≡ entries ++ later
  pub same : map copy_of later ≡ more

-- an entry by its parts
placed_is : (one other : PlacedCopy) → other.one ≡ one.one → other.places ≡ one.places
    → other ≡ one
placed_is one other copies places =
    ap₂ (λ (c : MarkedCopy) (p : Option Places). record { one = c; places = p }) copies places

behind : (from : ℕ) (front others : List ℕ) (entries all : List PlacedCopy)
    (more : List MarkedCopy) → ArePlacedFrom from entries front → ArePlacedFrom from all others
    → map copy_of all ≡ map copy_of entries ++ more → AreBehind entries all more
behind from front others [] all more is are e = record { later = all; whole = refl; same = e }
behind from front others (one ∷ entries) [] more is are e = cc
behind from front others (one ∷ entries) (other ∷ all) more is are e =
    let heads : other.one ≡ one.one = cc in
    let tails : map copy_of all ≡ map copy_of entries ++ more = cc in
    let bytes : are.1 ≡ is.1 =
    printed.one_entry one.one are.1 is.1
    (subst (λ (c : MarkedCopy). IsEntry c are.1) heads are.4.entry) is.4.entry in
    let same : other ≡ one =
    placed_is one other heads
    (are.5 ∙ ap (λ b. Some (places_at from b)) bytes ∙ sym is.5) in
    let rest = behind (from + 1 + length is.1) is.2 are.2 entries all more is.7
    (subst (λ (b : List ℕ). ArePlacedFrom (from + 1 + length b) all are.2) bytes are.7) tails in
    record {
      later = rest.later;
      whole = ap₂ (λ o os. o ∷ os) same rest.whole;
      same = rest.same;
    }

pub stand_behind : (from : ℕ) (bytes others : List ℕ) (entries all : List PlacedCopy)
    (more : List MarkedCopy) → StandForPlaced from bytes entries → StandForPlaced from others all
    → map copy_of all ≡ map copy_of entries ++ more
    → (later : List PlacedCopy) × (all ≡ entries ++ later) × (map copy_of later ≡ more)
stand_behind from bytes others entries all more one other e =
    let b = behind from one.front other.front entries all more one.placed other.placed e in
    (b.later, b.whole, b.same)

-- ---- in a chain of watches

pub stays : (file : List ℕ) (entries : List PlacedCopy) (watches : List Watch) (last : Watch)
    → StandForPlaced 0 file entries → IsChain (map copy_of entries) (watches ++ last ∷ [])
    → (later : List PlacedCopy) × StandForPlaced 0 last.file (entries ++ later)
    × (map copy_of later ≡ all_put (watches ++ last ∷ []))
stays file entries watches last stands chain =
    let put = all_put (watches ++ last ∷ []) in
    let p = stand_placed 0 last.file (map copy_of entries ++ put)
    (last-stands (map copy_of entries) watches last chain) in
    let b = stand_behind 0 file last.file entries p.0 put stands p.1 p.2 in
    (b.0, subst (StandForPlaced 0 last.file) b.1 p.1, b.2)

pub goes_on : (file : List ℕ) (earlier : List PlacedCopy) (one : PlacedCopy)
    (watches : List Watch) (last : Watch)
    → StandForPlaced 0 file (earlier ++ one ∷ [])
    → IsChain (map copy_of (earlier ++ one ∷ [])) (watches ++ last ∷ [])
    → (places : Places) × (later : List PlacedCopy) × (one.places ≡ Some places)
    × StandForPlaced places.next (drop places.next last.file) later
    × (map copy_of later ≡ all_put (watches ++ last ∷ []))
goes_on file earlier one watches last stands chain =
    let s = stays file (earlier ++ one ∷ []) watches last stands chain in
    let n = from_next_gate 0 last.file earlier s.0 one
    (subst (StandForPlaced 0 last.file) (append_assoc earlier (one ∷ []) s.0) s.1) in
    let none : n.0.next - 0 ≡ n.0.next = omega arith in (
      n.0,
      s.0,
      n.1,
      subst (λ (count : ℕ). StandForPlaced n.0.next (drop count last.file) s.0) none n.3,
      s.2,
    )
