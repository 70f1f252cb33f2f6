-- Entries whose places aren't told.
use Rattle.std.proofs.Common.{◌≡◌, ◌∙◌, Bool, true, false, cond, List, [], ◌∷◌, ◌++◌, length, ap, refl, sym}
use Rattle.std.specs.Prelude.{◌||◌, filter, map}
use Rattle.std.specs.List.{list_any}
use Rattle.std.proofs.lemmas.List.{length-map, map-append}
use Rattle.nx_copies.specs.copies.Shares.{MarkedCopy}
use Rattle.nx_log.specs.Last.{last_by, replaces}
use Rattle.nx_log.specs.Places.{PlacedCopy, chosen_placed, copy_of, unplaced}
use Rattle.nx_log.specs.Query.{admits, chosen, chosen_so}
use Rattle.nx_log.specs.declared.queries.query.Query.{Query}

pub one_more : (entries : List MarkedCopy) (one : MarkedCopy)
    → map unplaced entries ++ unplaced one ∷ [] ≡ map unplaced (entries ++ one ∷ [])
one_more entries one = sym (map-append unplaced entries (one ∷ []))

any-map : (one : MarkedCopy) (later : List MarkedCopy)
    → list_any (λ (other : PlacedCopy). replaces other.one one) (map unplaced later)
    ≡ list_any (λ other. replaces other one) later
any-map one [] = refl
any-map one (first ∷ later) = ap (λ b. replaces first one || b) (any-map one later)

filter-unplaced : (p : MarkedCopy → Bool) (entries : List MarkedCopy)
    → filter (λ (placed : PlacedCopy). p placed.one) (map unplaced entries)
    ≡ map unplaced (filter p entries)
filter-unplaced p [] = refl
filter-unplaced p (one ∷ entries) = of (p one) (filter-unplaced p entries)
  where
    of : (b : Bool) → filter (λ (placed : PlacedCopy). p placed.one) (map unplaced entries)
        ≡ map unplaced (filter p entries)
        → cond b (unplaced one
        ∷ filter (λ (placed : PlacedCopy). p placed.one) (map unplaced entries))
        (filter (λ (placed : PlacedCopy). p placed.one) (map unplaced entries))
        ≡ map unplaced (cond b (one ∷ filter p entries) (filter p entries))
    of true e = ap (λ l. unplaced one ∷ l) e
    of false e = e

last-unplaced : (entries : List MarkedCopy)
    → last_by copy_of (map unplaced entries) ≡ map unplaced (last_by (λ one. one) entries)
last-unplaced [] = refl
last-unplaced (one ∷ later) =
    of (list_any (λ (other : PlacedCopy). replaces other.one one) (map unplaced later))
    (list_any (λ other. replaces other one) later) (any-map one later) (last-unplaced later)
  where
    of : (b c : Bool) → b ≡ c
        → last_by copy_of (map unplaced later) ≡ map unplaced (last_by (λ one. one) later)
        → cond b (last_by copy_of (map unplaced later))
        (unplaced one ∷ last_by copy_of (map unplaced later))
        ≡ map unplaced (cond c (last_by (λ one. one) later) (one ∷ last_by (λ one. one) later))
    of true true e k = k
    of false false e k = ap (λ l. unplaced one ∷ l) k
    of true false e k = absurd (cc)
    of false true e k = absurd (cc)

so-unplaced : (b : Bool) (entries : List MarkedCopy)
    → chosen_so copy_of b (map unplaced entries) ≡ map unplaced (chosen_so (λ one. one) b entries)
so-unplaced true entries = last-unplaced entries
so-unplaced false entries = refl

-- a query chooses the same of them
pub chosen-unplaced : (query : Query) (entries : List MarkedCopy)
    → chosen_placed query (map unplaced entries) ≡ map unplaced (chosen query entries)
chosen-unplaced query entries =
    ap (chosen_so copy_of query.last) (filter-unplaced (admits query) entries)
    ∙ so-unplaced query.last (filter (admits query) entries)

pub chosen-count : (query : Query) (entries : List MarkedCopy)
    → length (chosen_placed query (map unplaced entries)) ≡ length (chosen query entries)
chosen-count query entries =
    ap length (chosen-unplaced query entries) ∙ length-map (chosen query entries) unplaced
