-- What a taker of copies took of no elements, and of elements after others.
use Rattle.std.proofs.Common.{◌≡◌, ℕ, zero, suc, ◌+◌, ◌-◌, ◌≤◌, Bool, List, [], ◌∷◌, ◌++◌, map}
use Rattle.std.proofs.Common.{length, take, Option, None, refl, sym, ap, ◌∙◌, subst, subst₂}
use Rattle.std.proofs.Common.{arith, inl, inr, append_assoc, append-nil, length-append}
use Rattle.std.proofs.lemmas.List.{map-append, take-append-le}
use Rattle.std.proofs.lemmas.Bool.{cases_lt}
use Rattle.nx_sync.specs.Synchroniser.{Held}
use Rattle.nx_copies.specs.declared.copy_taker.CopyTaker.{CopyTaker}
use Rattle.nx_copies.specs.declared.copy_taker.CopyTag.{CopyTag}
use Rattle.nx_copies.specs.declared.copy_taker.Over.{Over}
use Rattle.nx_copies.specs.Events.{Setting}
use Rattle.nx_copies.specs.copies.FoundCopies.{TaggedCopy}
use Rattle.nx_copies.specs.hearing.CopyHearing.{CopyHearing, in_force}
use Rattle.nx_copies.specs.hearing.CopyTaker.{Hears, hearer_of}
use Rattle.nx_copies.specs.hearing.CopyHearer.{HasEnded, HearsBits, IsOver, TagGoesOn}
use Rattle.nx_copies.specs.hearing.CopyHearer.{HearerStands, all_in_force, as_it_was, now_in_force}

pub all_in_force-append : (hearer : CopyHearing) (xs ys : List Bool)
    → all_in_force hearer (xs ++ ys) ≡ all_in_force hearer xs ++ all_in_force hearer ys
unfolding all_in_force
all_in_force-append hearer xs ys = map-append (λ (bit : Bool). in_force hearer) xs ys

pub all_in_force-same : (hearer other : CopyHearing) (xs : List Bool)
    → in_force hearer ≡ in_force other → all_in_force hearer xs ≡ all_in_force other xs
unfolding all_in_force
all_in_force-same hearer other xs e = ap (λ (s : Setting). map (λ (bit : Bool). s) xs) e

none_heard : (first : Setting) (hearer : CopyHearing) (h : List Bool) (s : List Setting)
    (copies : List TaggedCopy) → HearerStands first hearer h s copies
    → HearsBits first hearer hearer h s copies [] None
unfolding all_in_force
none_heard first hearer h s copies w = record {
  brings = subst₂ (λ (x : List Bool) (y : List Setting). HearerStands first hearer x y copies)
      (sym (append-nil h)) (sym (append-nil s)) w;
  none_before = λ k lt. absurd (omega arith);
}

-- the beginning of two lists that reaches into the second
take_into : {A : Type 0} (xs ys : List A) (k : ℕ) → length xs ≤ k
    → take k (xs ++ ys) ≡ xs ++ take (k - length xs) ys
take_into [] ys k h = let e : k ≡ k - 0 = omega arith in ap (λ (m : ℕ). take m ys) e
take_into (x ∷ xs) ys zero h = absurd (omega arith)
take_into (x ∷ xs) ys (suc k) h = let e : k - length xs ≡ suc k - suc (length xs) = omega arith in
    ap (λ l. x ∷ l) (take_into xs ys k (omega arith) ∙ ap (λ (m : ℕ). xs ++ take m ys) e)

-- some elements are heard after others, with which no copy ended
pub hears_on : (first : Setting) (old mid new : CopyHearing) (h : List Bool) (s : List Setting)
    (copies : List TaggedCopy) (xs ys : List Bool) (answer : Option Over)
    → in_force mid ≡ in_force old
    → ((k : ℕ) → k + 1 ≤ length xs
    → HasEnded first (h ++ take k xs) (s ++ all_in_force old (take k xs)) copies)
    → HearsBits first mid new (h ++ xs) (s ++ all_in_force old xs) copies ys answer
    → HearsBits first old new h s copies (xs ++ ys) answer
hears_on first old mid new h s copies xs ys answer same f g =
    let split : (zs : List Bool)
    → s ++ all_in_force old (xs ++ zs) ≡ (s ++ all_in_force old xs) ++ all_in_force mid zs =
    λ (zs : List Bool). ap (λ l. s ++ l) (all_in_force-append old xs zs)
    ∙ sym (append_assoc s (all_in_force old xs) (all_in_force old zs))
    ∙ ap (λ l. (s ++ all_in_force old xs) ++ l) (all_in_force-same old mid zs (sym same)) in
    record {
      brings = subst₂ (λ (x : List Bool) (y : List Setting). IsOver first new x y copies answer)
          (append_assoc h xs ys) (sym (split ys)) g.brings;
      none_before = λ k lt.
          elim (cases_lt k (length xs)) [
            | inl early ↦
                let here : take k (xs ++ ys) ≡ take k xs = take-append-le k xs ys (omega arith) in
                subst (λ (l : List Bool). HasEnded first (h ++ l) (s ++ all_in_force old l) copies)
                (sym here) (f k (omega arith))
            | inr late ↦
                let j = k - length xs in
                let there : take k (xs ++ ys) ≡ xs ++ take j ys = take_into xs ys k late in
                let bound : j + 1 ≤ length ys = omega (arith, lt, late, length-append xs ys) in
                subst (λ (l : List Bool). HasEnded first (h ++ l) (s ++ all_in_force old l) copies)
                (sym there)
                (subst₂ (λ (x : List Bool) (y : List Setting). HasEnded first x y copies)
                (append_assoc h xs (take j ys)) (sym (split (take j ys)))
                (g.none_before j bound))
          ];
    }

-- and so does the tag go on
tag_on : (old mid new : CopyHearing) → in_force mid ≡ in_force old → TagGoesOn old mid
    → TagGoesOn mid new → TagGoesOn old new
tag_on old mid new same f (now_in_force e) = now_in_force (e ∙ ap (λ (s : Setting). s.moment) same)
tag_on old mid new same (as_it_was e) (as_it_was f) = as_it_was (f ∙ e)
tag_on old mid new same (now_in_force e) (as_it_was f) =
    now_in_force (ap (λ (t : CopyTag). t.moment) f ∙ e)

-- no elements bring nothing
pub heard-none : (held : Held) (taker : CopyTaker) → Hears held taker [] held taker None
heard-none held taker = record {
  hears = record {
    hears = λ first h s copies w. none_heard first (hearer_of held taker) h s copies w;
  };
  force = refl;
  kept = as_it_was refl;
}

-- elements after others bring what both do
pub heard-both : (old mid new : Held) (first between last : CopyTaker) (xs ys : List Bool)
    (answer : Option Over) → Hears old first xs mid between None
    → Hears mid between ys new last answer → Hears old first (xs ++ ys) new last answer
heard-both old mid new first between last xs ys answer f g =
    let a = hearer_of old first in
    let b = hearer_of mid between in
    let c = hearer_of new last in
    record {
      hears = record {
        hears = λ start h s copies w.
            let here = f.hears.hears start h s copies w in
            hears_on start a b c h s copies xs ys answer f.force here.none_before
            (g.hears.hears start (h ++ xs) (s ++ all_in_force a xs) copies here.brings);
      };
      force = g.force ∙ f.force;
      kept = tag_on a b c f.force f.kept g.kept;
    }
