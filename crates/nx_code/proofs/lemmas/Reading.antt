-- The text of more positions.
use Rattle.std.proofs.Common.{◌≡◌, ℕ, List, [], ◌∷◌, ◌++◌, Option, Some, None, inl, inr, refl, sym}
use Rattle.std.proofs.Common.{ap, ◌∙◌, append_assoc, append-nil, unwrap_or}
use Rattle.std.specs.Option.{option_to_list}
use Rattle.nx_code.specs.Reading.{Reception, IsShiftAfter, SetsNone, byte_of, shift_set}
use Rattle.nx_code.specs.Reading.{shift_after, shift_after_all, text}
use Rattle.nx_code.specs.declared.shifts.Shift.{Shift}
use Rattle.nx_code.specs.declared.shifts.Shift.TheVariants.{Letters}

pub shift_after_all-append : (xs ys : List Reception) (shift : Shift)
    → shift_after_all (xs ++ ys) shift ≡ shift_after_all ys (shift_after_all xs shift)
shift_after_all-append [] ys shift = refl
shift_after_all-append (x ∷ xs) ys shift = shift_after_all-append xs ys (shift_after x shift)

pub text-append : (xs ys : List Reception) (shift : Shift)
    → text (xs ++ ys) shift ≡ text xs shift ++ text ys (shift_after_all xs shift)
text-append [] ys shift = refl
text-append (x ∷ xs) ys shift =
    ap (λ rest. option_to_list (byte_of x shift) ++ rest) (text-append xs ys (shift_after x shift))
    ∙ sym (append_assoc (option_to_list (byte_of x shift)) (text xs (shift_after x shift))
    (text ys (shift_after_all xs (shift_after x shift))))

-- one more position prints what it prints in the shift in force
pub text-push : (xs : List Reception) (x : Reception) (shift : Shift)
    → text (xs ++ x ∷ []) shift
    ≡ text xs shift ++ option_to_list (byte_of x (shift_after_all xs shift))
text-push xs x shift =
    text-append xs (x ∷ []) shift
    ∙ ap (λ rest. text xs shift ++ rest)
    (append-nil (option_to_list (byte_of x (shift_after_all xs shift))))

-- a reader that stands after positions stands after one more
pub reading_push : (xs : List Reception) (x : Reception) (old new : Shift) (result : Option ℕ)
    → result ≡ byte_of x old → new ≡ shift_after x old → old ≡ shift_after_all xs Letters
    → (new ≡ shift_after_all (xs ++ x ∷ []) Letters)
    × (text (xs ++ x ∷ []) Letters ≡ text xs Letters ++ option_to_list result)
reading_push xs x old new result printed after stands = (
  after ∙ ap (shift_after x) stands ∙ sym (shift_after_all-append xs (x ∷ []) Letters),
  text-push xs x Letters ∙ ap (λ o. text xs Letters ++ option_to_list o)
      (sym (printed ∙ ap (byte_of x) stands)),
)

-- positions that set no shift leave it
pub shift_after_all-none : (xs : List Reception) (shift : Shift) → SetsNone xs
    → shift_after_all xs shift ≡ shift
shift_after_all-none [] shift h = refl
shift_after_all-none (x ∷ xs) shift h =
    shift_after_all-none xs (shift_after x shift) h.1 ∙ ap (λ o. unwrap_or o shift) h.0

-- the shift in force is that of the nearest position that sets one
pub shift_after_all-nearest : (xs : List Reception) (first shift : Shift)
    → IsShiftAfter xs first shift → shift_after_all xs first ≡ shift
shift_after_all-nearest xs first shift h =
    elim h [
      | inl last ↦
          ap (λ l. shift_after_all l first) last.parts
          ∙ shift_after_all-append last.front (last.position ∷ last.back) first
          ∙ shift_after_all-none last.back
          (shift_after last.position (shift_after_all last.front first)) last.none_later
          ∙ ap (λ o. unwrap_or o (shift_after_all last.front first)) last.sets
      | inr none ↦ shift_after_all-none xs first none.0 ∙ sym none.1
    ]

-- there is a nearest shift: either none of them sets one, or a last one does
pub nearest : (xs : List Reception) (first : Shift) → (shift : Shift) × IsShiftAfter xs first shift
nearest [] first = (first, inr (tt, refl))
nearest (x ∷ xs) first =
    let rest = nearest xs first in
    elim rest.1 [
      | inl last ↦ (
        rest.0,
        inl
            (record {
              front = x ∷ last.front;
              position = last.position;
              back = last.back;
              parts =
                  ap (λ l. x ∷ l) last.parts;
              sets = last.sets;
              none_later = last.none_later;
            }),
      )
      | inr none ↦ elim (shift_set x) as (λ o. shift_set x ≡ o
          → (shift : Shift) × IsShiftAfter (x ∷ xs) first shift) [
            | Some s ↦ λ e. (
              s,
              inl (record {
                front = [];
                position = x;
                back = xs;
                parts = refl;
                sets = e;
                none_later =
                    none.0;
              }),
            )
            | None ↦ λ e. (first, inr ((e, none.0), refl))
          ] refl
    ]

pub text-nearest : (xs : List Reception) (x : Reception) (first shift : Shift)
    → IsShiftAfter xs first shift
    → text (xs ++ x ∷ []) first ≡ text xs first ++ option_to_list (byte_of x shift)
text-nearest xs x first shift h =
    text-push xs x first ∙ ap (λ s. text xs first ++ option_to_list (byte_of x s))
    (shift_after_all-nearest xs first shift h)
