-- Whether all messages are of one station.
use Rattle.std.proofs.Common.{◌≡◌, ◌≢◌, ℕ, ◌<◌, ◌==◌, Bool, false, not, List, [], ◌∷◌, length}
use Rattle.std.proofs.Common.{get_or, Option, Some, None, refl, sym, ap, ◌∙◌, arith, inl, inr}
use Rattle.std.specs.List.{position, position_or_len, slice_get}
use Rattle.std.proofs.lemmas.Bool.{cases_lt, cond-true, eqb-true, lt-ltb, not-false}
use Rattle.std.proofs.lemmas.List.Elements.{All-from_get_or, recursion_from_All}
use Rattle.std.proofs.lemmas.List.Sums.{fails_before_first}
use Rattle.std.proofs.lemmas.Option.{get_or_from_slice_get}
use Rattle.nx_envelope.specs.Message.{MessageView}
use Rattle.nx_station.specs.Sendable.{AreOf, first_of_another}

-- the message is of another station
abbrev differs : ℕ → MessageView → Bool
differs station message = not (message.identity.b1.byte == station)

-- where none is found, none is
none-differs : (station : ℕ) (messages : List MessageView) (k : ℕ) (d : MessageView)
    → position (differs station) messages ≡ None → k < length messages
    → differs station (get_or messages k d) ≡ false
none-differs station messages k d h lt =
    elim (cases_lt (position_or_len (differs station) messages) (length messages)) [
      | inl below ↦ let there =
          lt-ltb (position_or_len (differs station) messages) (length messages) below in
          let found : Some (position_or_len (differs station) messages) ≡ None =
          sym (cond-true _ (Some (position_or_len (differs station) messages)) None there)
          ∙ h in
          cc
      | inr above ↦ fails_before_first (differs station) messages k d (omega arith)
    ]

-- the least index of a message of another station than this one, where it is that of the first
pub another-found : (messages : List MessageView) (first : MessageView) (station : ℕ)
    → Some first ≡ slice_get messages 0 → first.identity.b1.byte ≡ station
    → (r : Option ℕ) → position (differs station) messages ≡ r → first_of_another messages ≡ r
another-found [] first station h e r p = cc
another-found (x ∷ xs) first station h e r p =
    let same : x ≡ first = get_or_from_slice_get (x ∷ xs) 0 first x (sym h) in
    ap (λ s. position (differs s) (x ∷ xs)) (ap (λ (m : MessageView). m.identity.b1.byte) same ∙ e)
    ∙ p

some-first : (messages : List MessageView) (first : MessageView) → Some first ≡ slice_get messages 0
    → messages ≢ []
some-first messages first h e = let clash : Some first ≡ None = h ∙ ap (λ l. slice_get l 0) e in cc

-- where none is found, all are of the station
pub all-same : (messages : List MessageView) (first : MessageView) (station : ℕ)
    → Some first ≡ slice_get messages 0 → position (differs station) messages ≡ None
    → AreOf station messages
all-same messages first station h p = record {
  some = some-first messages first h;
  each = recursion_from_All (λ (m : MessageView). m.identity.b1.byte ≡ station) messages
      (All-from_get_or (λ (m : MessageView). m.identity.b1.byte ≡ station) messages first
      (λ k lt. eqb-true _ _ (not-false _ (none-differs station messages k first p lt))));
}

pub none_of : (r : Option ℕ) → ((at : ℕ) → r ≢ Some at) → r ≡ None
none_of None h = refl
none_of (Some at) h = absurd (h at refl)
