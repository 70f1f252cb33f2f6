-- A moment that is set channel by channel.
use Rattle.std.proofs.Common.{◌≡◌, ◌<◌, inl, inr, ℕ, suc, ◌+◌, true, List, [], ◌∷◌, length, map, slice_get, slice_set, Some, arith, refl, sym, ap, ap₂, ◌∙◌, subst}
use Rattle.std.proofs.lemmas.Bool.{cases_lt}
use Rattle.nx_receiver.specs.Moments.{Refuses}
use Rattle.nx_receiver.specs.declared.fault.MomentFault.{MomentFault}
use Rattle.nx_handle.specs.PlaceKinds.{HasTaken, PlaceKind}
use Rattle.nx_handle.specs.Places.{all_hear}
use Rattle.nx_handle.specs.private.Moments.{MomentsTaken, RefusesNext}
use Rattle.nx_handle.specs.private.Opening.{ShutSame}
use Rattle.nx_handle.proofs.lemmas.Places.{each-is, set-here, set-long, set-there, some-is}

-- none took it yet
pub none-taken : {P : Type 0} (kind : PlaceKind P) (moment : ℕ) (places : List P)
    → MomentsTaken kind moment places places 0
none-taken kind moment places = record {
  taken = λ k lt. absurd (omega (arith, lt));
  others = λ k le. refl;
  channels = refl;
}

-- the next one still hears
pub next-hears : {P : Type 0} (kind : PlaceKind P) (moment : ℕ) (old places : List P) (at : ℕ)
    (was : P) → all_hear kind old ≡ true → slice_get places at ≡ Some was
    → MomentsTaken kind moment old places at → kind.is_hearing was ≡ true
next-hears kind moment old places at was hear here m =
    each-is kind.is_hearing old at was hear (sym (m.others at (omega arith)) ∙ here)

-- the places but one are as they were
kept-others : {P : Type 0} (kind : PlaceKind P) (moment : ℕ) (old places : List P) (at : ℕ)
    (place : P) → MomentsTaken kind moment old places at → (k : ℕ) → k < at → (was : P)
    → slice_get old k ≡ Some was
    → (now : P) × (slice_get (slice_set places at place) k ≡ Some now)
    × HasTaken kind moment was now
kept-others kind moment old places at place m k lt was e =
    let t = m.taken k lt was e in
    (t.0, set-there places at k place (λ same. omega (arith, lt, same)) ∙ t.1, t.2)

-- one more took it
pub taken-more : {P : Type 0} (kind : PlaceKind P) (moment : ℕ) (old places : List P) (at : ℕ)
    (was place : P) → at < length places → slice_get places at ≡ Some was
    → HasTaken kind moment was place → MomentsTaken kind moment old places at
    → MomentsTaken kind moment old (slice_set places at place) (at + 1)
taken-more kind moment old places at was place has here took m = record {
  taken = λ k lt before e. elim (cases_lt k at) [
    | inl less ↦ kept-others kind moment old places at place m k less before e
    | inr more ↦
        let same : at ≡ k = omega (arith, lt, more) in
        let is : was ≡ before =
        some-is (sym here ∙ m.others at (omega arith) ∙ ap (slice_get old) same ∙ e) in (
          place,
          ap (slice_get (slice_set places at place)) (sym same) ∙ set-here places at place has,
          subst (λ p. HasTaken kind moment p place) is took,
        )
  ];
  others = λ k le. set-there places at k place (λ same. omega (arith, le, same))
      ∙ m.others k (omega (arith, le));
  channels = set-long places at place ∙ m.channels;
}

-- the next one refuses it, and stays
pub refuses-next : {P : Type 0} (kind : PlaceKind P) (moment : ℕ) (old places : List P) (at : ℕ)
    (was place : P) (fault : MomentFault) → at < length places → slice_get places at ≡ Some was
    → place ≡ was → Refuses (kind.start_of was).moment moment fault
    → MomentsTaken kind moment old places at
    → RefusesNext kind moment old (slice_set places at place) fault
refuses-next kind moment old places at was place fault has here same refused m = record {
  count = at;
  taken = record {
    taken = λ k lt before e. kept-others kind moment old places at place m k lt before e;
    others = λ k le. elim (cases_lt at k) [
      | inl more ↦ set-there places at k place (λ e. omega (arith, more, e)) ∙ m.others k le
      | inr less ↦
          let is : at ≡ k = omega (arith, le, less) in
          ap (slice_get (slice_set places at place)) (sym is) ∙ set-here places at place has
          ∙ ap (λ p. Some p) same ∙ sym here ∙ ap (slice_get places) is ∙ m.others k le
    ];
    channels = set-long places at place ∙ m.channels;
  };
  place = was;
  next = sym (m.others at (omega arith)) ∙ here;
  refuses = refused;
}

-- ---- what stays of the places

same-maps : {X Y : Type 0} (f : X → Y) (xs ys : List X) → length xs ≡ length ys
    → ((k : ℕ) (x y : X) → slice_get xs k ≡ Some x → slice_get ys k ≡ Some y → f x ≡ f y)
    → map f xs ≡ map f ys
same-maps f [] [] long h = refl
same-maps f [] (y ∷ ys) long h = absurd (omega (arith, long))
same-maps f (x ∷ xs) [] long h = absurd (omega (arith, long))
same-maps f (x ∷ xs) (y ∷ ys) long h =
    ap₂ (λ a rest. a ∷ rest) (h 0 x y refl refl)
    (same-maps f xs ys (omega (arith, long)) (λ k a b e g. h (suc k) a b e g))

pub moments-shut : {P : Type 0} (kind : PlaceKind P) (moment : ℕ) (old new : List P) (count : ℕ)
    → MomentsTaken kind moment old new count → ShutSame kind old new
moments-shut kind moment old new count m =
    same-maps kind.shut new old m.channels
    (λ k now was e g. elim (cases_lt k count) [
      | inl lt ↦
          let t = m.taken k lt was g in
          ap kind.shut (some-is (sym e ∙ t.1)) ∙ t.2.room
      | inr le ↦ ap kind.shut (some-is (sym e ∙ m.others k (omega (arith, le)) ∙ g))
    ])
