-- A kept log is read in one way.
use Rattle.std.proofs.Common.{◌≡◌, ℕ, ◌+◌, ◌<◌, List, [], ◌∷◌, ◌++◌, Option, Some, ap, append_assoc, drop, length, refl, subst, sym, take, ◌∙◌}
use Rattle.std.proofs.lemmas.List.{append_cancel_right, take-append-drop}
use Rattle.nx_kept.specs.Kept.{IsKeptLog}
use Rattle.nx_copies.specs.copies.Shares.{MarkedCopy}
use Rattle.nx_log.specs.Entries.{IsWholeEntry}
use Rattle.nx_log.specs.KeptLog.{ArePlacedFrom, HoldKept, NoEntryStands, StopKept, longest_entry, places_at}
use Rattle.nx_log.specs.Places.{PlacedCopy}
use Rattle.nx_log.specs.declared.writing.places.Places.{Places}
use Rattle.nx_log.proofs.lemmas.reading.Entries.{one_entry}

-- where no entry stands at the front, there are none of these
none_first : (from : ℕ) (first : PlacedCopy) (entries : List PlacedCopy)
    (front more bytes : List ℕ) → ArePlacedFrom from (first ∷ entries) front
    → bytes ≡ front ++ more → ¬ NoEntryStands bytes
none_first from first entries front more bytes is e none =
    is.3 (none is.0 is.1 (is.2 ++ more)
    (e ∙ ap (λ l. l ++ more) is.6 ∙ ap (λ l. is.0 ∷ l) (append_assoc is.1 is.2 more))
    (first.one, is.4))

same_placed : (a b : PlacedCopy) → a.one ≡ b.one → a.places ≡ b.places → a ≡ b
same_placed a b one places =
    let with_one : MarkedCopy → PlacedCopy = λ o. record { one = o; places = a.places } in
    let with_places : Option Places → PlacedCopy = λ p. record { one = b.one; places = p } in
    ap with_one one ∙ ap with_places places

placed_once : (from : ℕ) (entries others : List PlacedCopy) (front more other last : List ℕ)
    → ArePlacedFrom from entries front → ArePlacedFrom from others other → NoEntryStands more
    → NoEntryStands last → front ++ more ≡ other ++ last → entries ≡ others
placed_once from [] [] front more other last h k none ends e = refl
placed_once from [] (b ∷ bs) front more other last h k none ends e =
    absurd (none_first from b bs other last more k (ap (λ l. l ++ more) (sym h) ∙ e) none)
placed_once from (a ∷ as') [] front more other last h k none ends e =
    absurd (none_first from a as' front more last h (ap (λ l. l ++ last) (sym k) ∙ sym e) ends)
placed_once from (a ∷ as') (b ∷ bs) front more other last h k none ends e =
    let all : h.0 ∷ (h.1 ++ (h.2 ++ more)) ≡ k.0 ∷ (k.1 ++ (k.2 ++ last)) =
    ap (λ l. h.0 ∷ l) (sym (append_assoc h.1 h.2 more)) ∙ ap (λ l. l ++ more) (sym h.6) ∙ e
    ∙ ap (λ l. l ++ last) k.6 ∙ ap (λ l. k.0 ∷ l) (append_assoc k.1 k.2 last) in
    let behind : h.1 ++ (h.2 ++ more) ≡ k.1 ++ (k.2 ++ last) = ap (drop 1) all in
    let first = one_entry a.one b.one h.1 k.1 (h.2 ++ more) (k.2 ++ last) h.4 k.4 behind in
    let bytes : h.1 ≡ k.1 =
    append_cancel_right h.1 k.1 (k.2 ++ last)
    (ap (λ l. h.1 ++ l) (sym first.rest) ∙ behind) in
    let here = same_placed a b first.entry
    (h.5 ∙ ap (λ (t : List ℕ). Some (places_at from t)) bytes ∙ sym k.5) in
    ap (λ c. c ∷ as') here
    ∙ ap (λ cs. b ∷ cs)
    (placed_once (from + 1 + length h.1) as' bs h.2 more k.2 last h.7
    (subst (λ t. ArePlacedFrom (from + 1 + length t) bs k.2) (sym bytes) k.7) none ends first.rest)

pub held_once : (from : ℕ) (entries others : List PlacedCopy) (bytes : List ℕ)
    → HoldKept from bytes entries → HoldKept from bytes others → entries ≡ others
held_once from entries others bytes h k =
    placed_once from entries others h.front h.rest k.front k.rest h.placed k.placed h.no_more
    k.no_more (sym h.split ∙ k.split)

pub stopped_once : (from : ℕ) (entries others : List PlacedCopy) (bytes : List ℕ) (line : ℕ)
    (stop : StopKept from bytes entries line) → stop.place < length bytes
    → ¬ HoldKept from bytes others
stopped_once from entries others bytes line stop within h =
    let front = take (stop.place + 1) bytes in
    let behind = drop (stop.place + 1) bytes in
    stop.damaged.not_with_it within (
      behind ++ h.good.0,
      subst (IsKeptLog IsWholeEntry longest_entry)
          (ap (λ l. l ++ h.good.0) (sym (take-append-drop (stop.place + 1) bytes))
          ∙ append_assoc front behind h.good.0)
          h.good.1,
    )
