-- Notes of positions, where one comes behind others, and where they begin anew.
use Rattle.std.proofs.Common.{◌≡◌, ℕ, ◌+◌, ◌-◌, ◌<◌, ◌≤◌, Bool, true, false, ◌&&◌, cond}
use Rattle.std.proofs.Common.{List, [], ◌∷◌, ◌++◌, length, drop, refl, sym, ap, ◌∙◌, arith}
use Rattle.std.proofs.Common.{take, zero, suc, length-append, length-drop, inl, inr, min, ◌↔◌}
use Rattle.std.specs.Prelude.{IsOk, OnErr, OnOk}
use Rattle.std.specs.declared.result.Result.{Result}
use Rattle.std.specs.declared.result.Result.TheVariants.{Err, Ok}
use Rattle.std.proofs.lemmas.Bool.{cases_lt}
use Rattle.std.proofs.lemmas.List.{drop-append-le, drop-take, length-take-le, take-append-le, take_all}
use Rattle.std.proofs.lemmas.List.{length-take}
use Rattle.std.proofs.Math.ListN.{drop_of_length-le}
use Rattle.std.proofs.Math.Seq.{drop-length}
use Rattle.nx_code.specs.Reading.{Reception}
use Rattle.nx_combine.specs.CopyPositions.{LockPositions, sure_count}
use Rattle.nx_combine.specs.Notes.{IsNoted, Noting, last_alike, most_noted, noted}
use Rattle.nx_combine.proofs.lemmas.Sure.{last_alike-push, sure_count-push, sure_within}

-- what is said of a push, where there is room, and where there is none
pub pushed : {T E P : Type 0} {n most : ℕ} (result : Result T E) → IsOk result ↔ (n < most)
    → OnOk result P → n < most → P
pushed (Ok u) is done room = done
pushed (Err e) is done room = absurd (let never : false ≡ true = is.1 room in cc)

pub not_pushed : {T E : Type 0} {P : Type 0} {n most : ℕ} (result : Result T E)
    → IsOk result ↔ (n < most) → OnErr result P → most ≤ n → P
not_pushed (Ok u) is kept full = absurd (omega (arith, is.0 refl))
not_pushed (Err e) is kept full = kept

-- no position of a lock was read yet
abbrev pub none_read : LockPositions
none_read = record { taken = []; alike = [] }

pub fresh_noted : (notes : Noting) → notes.positions ≡ [] → notes.sure ≡ 0 → notes.was_alike ≡ false
    → IsNoted notes none_read 0
unfolding sure_count
fresh_noted notes none sure last = record {
  within = omega arith;
  as_many = refl;
  positions = none;
  sure = sure;
  last = last;
}

-- notes that begin anew behind the last position
pub begins_anew : (old new : Noting) (lock : LockPositions) (from : ℕ) → IsNoted old lock from
    → new.positions ≡ [] → new.sure ≡ 0 → new.was_alike ≡ old.was_alike
    → IsNoted new lock (length lock.taken)
begins_anew old new lock from is none sure last =
    let few = sure_within lock.alike in
    let less : 0 ≡ min most_noted (sure_count lock.alike - length lock.taken) =
    omega (arith, few, is.as_many) in
    record {
      within = omega arith;
      as_many = is.as_many;
      positions = none ∙ ap noted (sym (drop-length lock.taken));
      sure = sure ∙ less;
      last = last ∙ is.last;
    }

-- what is noted of one more position, as far as there is room
noted-push : (xs : List Reception) (x : Reception) (kept : List Reception)
    → (length (noted xs) < most_noted → kept ≡ noted xs ++ x ∷ [])
    → (most_noted ≤ length (noted xs) → kept ≡ noted xs) → kept ≡ noted (xs ++ x ∷ [])
noted-push xs x kept some none =
    elim (cases_lt (length xs) most_noted) [
      | inl short ↦
          let all : noted xs ≡ xs = take_all most_noted xs (omega (arith, short)) in
          some (omega (arith, ap length all, short)) ∙ ap (λ l. l ++ x ∷ []) all
          ∙ sym (take_all most_noted (xs ++ x ∷ [])
          (omega (arith, short, length-append xs (x ∷ []))))
      | inr long ↦
          none (omega (arith, length-take-le most_noted xs long))
          ∙ sym (take-append-le most_noted xs (x ∷ []) long)
    ]

-- how many are sure then
sure-push : (marks : List Bool) (a : Bool) (from sure count : ℕ) → from ≤ length marks
    → sure ≡ cond (a && last_alike marks) count (min most_noted (sure_count marks - from))
    → count ≡ min most_noted (length marks + 1 - from)
    → sure ≡ min most_noted (sure_count (marks ++ a ∷ []) - from)
sure-push marks a from sure count within is many =
    is ∙ by (a && last_alike marks) (sure_count marks)
    ∙ ap (λ n. min most_noted (n - from)) (sym (sure_count-push marks a))
  where
    by : (both : Bool) (before : ℕ)
        → cond both count (min most_noted (before - from))
        ≡ min most_noted (cond both (length marks + 1) before - from)
    by true before = many
    by false before = refl

-- notes of one more position
pub notes_one : (old new : Noting) (lock : LockPositions) (from : ℕ) (x : Reception) (a : Bool)
    → IsNoted old lock from
    → (length old.positions < most_noted → new.positions ≡ old.positions ++ x ∷ [])
    → (most_noted ≤ length old.positions → new.positions ≡ old.positions)
    → new.sure ≡ cond (a && old.was_alike) (length new.positions) old.sure
    → new.was_alike ≡ a
    → IsNoted new (record { taken = lock.taken ++ x ∷ []; alike = lock.alike ++ a ∷ [] }) from
notes_one old new lock from x a is some none sure last =
    let xs : List Reception = drop from lock.taken in
    let cut : drop from (lock.taken ++ x ∷ []) ≡ xs ++ x ∷ [] =
    drop-append-le from lock.taken (x ∷ []) is.within in
    let kept : new.positions ≡ noted (xs ++ x ∷ []) =
    noted-push xs x new.positions
    (λ h. some (omega (arith, ap length is.positions, h)) ∙ ap (λ l. l ++ x ∷ []) is.positions)
    (λ h. none (omega (arith, ap length is.positions, h)) ∙ is.positions) in
    let count : length new.positions ≡ min most_noted (length lock.alike + 1 - from) =
    omega (
      arith,
      ap length kept,
      length-take most_noted (xs ++ x ∷ []),
      length-append xs (x ∷ []),
      length-drop from lock.taken,
      is.within,
      is.as_many,
    ) in
    record {
      within = omega (arith, is.within, length-append lock.taken (x ∷ []));
      as_many = omega (
        arith,
        is.as_many,
        length-append lock.taken (x ∷ []),
        length-append lock.alike (a ∷ []),
      );
      positions = kept ∙ ap noted (sym cut);
      sure = sure-push lock.alike a from new.sure (length new.positions)
          (omega (arith, is.within, is.as_many))
          (sure ∙ ap (λ b. cond (a && b) (length new.positions) old.sure) is.last
          ∙ ap (cond (a && last_alike lock.alike) (length new.positions)) is.sure)
          count;
      last = last ∙ sym (last_alike-push lock.alike a);
    }

-- fewer of the first ones
take-fewer : (a b : ℕ) (xs : List Reception) → a ≤ b → take a (take b xs) ≡ take a xs
take-fewer zero b xs h = refl
take-fewer (suc a) zero xs h = absurd (omega (arith, h))
take-fewer (suc a) (suc b) [] h = refl
take-fewer (suc a) (suc b) (x ∷ xs) h = ap (λ l. x ∷ l) (take-fewer a b xs (omega (arith, h)))

take-more-of : (a b : ℕ) (xs : List Reception) → b ≤ a → take a (take b xs) ≡ take b xs
take-more-of a b xs h =
    let cut = length-take b xs in take_all a (take b xs) (omega (arith, h, cut))

-- so many of the first most are the first most of so many
take-swapped : (most k few : ℕ) (xs : List Reception) → few ≡ min most k
    → take few (take most xs) ≡ take most (take k xs)
take-swapped most k few xs is =
    elim (cases_lt most k) [
      | inl less ↦
          let e : few ≡ most = omega (arith, is, less) in
          ap (λ n. take n (take most xs)) e ∙ take-more-of most most xs (omega arith)
          ∙ sym (take-fewer most k xs (omega (arith, less)))
      | inr more ↦
          let e : few ≡ k = omega (arith, is, more) in
          ap (λ n. take n (take most xs)) e ∙ take-fewer k most xs more
          ∙ sym (take-more-of most k xs more)
    ]

-- those behind a place, among the first so many
drop-taken : (from many : ℕ) (xs : List Reception)
    → drop from (take many xs) ≡ take (many - from) (drop from xs)
drop-taken from many xs =
    elim (cases_lt many from) [
      | inl less ↦
          let cut = length-take many xs in
          let none : many - from ≡ 0 = omega (arith, less) in
          drop_of_length-le (take many xs) (omega (arith, cut, less))
          ∙ ap (λ n. take n (drop from xs)) (sym none)
      | inr more ↦
          let e : many ≡ from + (many - from) = omega (arith, more) in
          ap (λ n. drop from (take n xs)) e ∙ drop-take from (many - from) xs
    ]

-- what is left of the notes where what is not sure is left out
pub sure_left : (notes : Noting) (lock : LockPositions) (from : ℕ) → IsNoted notes lock from
    → take notes.sure notes.positions
    ≡ noted (drop from (take (sure_count lock.alike) lock.taken))
sure_left notes lock from is =
    let sure = sure_count lock.alike in
    ap (take notes.sure) is.positions
    ∙ take-swapped most_noted (sure - from) notes.sure (drop from lock.taken) is.sure
    ∙ ap noted (sym (drop-taken from sure lock.taken))
