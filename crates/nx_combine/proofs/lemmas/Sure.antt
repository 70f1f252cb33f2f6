-- How many positions stand up to the last two in a row whose words count alike, where one comes
-- behind others.
use Rattle.std.proofs.Common.{◌≡◌, ℕ, zero, suc, ◌+◌, ◌-◌, ◌<◌, ◌≤◌, Bool, true, false, ◌&&◌, cond}
use Rattle.std.proofs.Common.{Option, Some, None, List, [], ◌∷◌, ◌++◌, length, refl, sym, ap, ◌∙◌}
use Rattle.std.proofs.Common.{arith, unwrap_or, length-append, get_or, reverse}
use Rattle.std.specs.Prelude.{slice_get}
use Rattle.std.specs.List.{find, range_with_len}
use Rattle.std.specs.Option.{option_map_or}
use Rattle.std.proofs.lemmas.List.{get_or_append_left, reverse-append}
use Rattle.std.proofs.lemmas.Option.{slice_get_past, slice_get_within, unwrap_or-slice_get}
use Rattle.std.proofs.Math.Seq.{get_or-append_seam}
use Rattle.nx_combine.specs.CopyPositions.{are_alike_from, sure_count}
use Rattle.nx_combine.specs.Notes.{last_alike}

-- the last number below this one that passes
abbrev find_back : (ℕ → Bool) → ℕ → Option ℕ
find_back p n = find p (reverse (range_with_len 0 n))

range-more : (a n : ℕ) → range_with_len a (suc n) ≡ range_with_len a n ++ (a + n) ∷ []
range-more a zero = let e : a ≡ a + 0 = omega arith in ap (λ x. x ∷ []) e
range-more a (suc n) =
    let e : a + 1 + n ≡ a + suc n = omega arith in
    ap (λ l. a ∷ l) (range-more (a + 1) n ∙ ap (λ x. range_with_len (a + 1) n ++ x ∷ []) e)

back-more : (p : ℕ → Bool) (n : ℕ) → find_back p (suc n) ≡ cond (p n) (Some n) (find_back p n)
back-more p n =
    let e : 0 + n ≡ n = omega arith in
    ap (λ l. find p (reverse l)) (range-more 0 n)
    ∙ ap (λ x. find p (reverse (range_with_len 0 n ++ x ∷ []))) e
    ∙ ap (find p) (reverse-append (range_with_len 0 n) (n ∷ []))

back-same : (p q : ℕ → Bool) (n : ℕ) → ((i : ℕ) → i < n → p i ≡ q i)
    → find_back p n ≡ find_back q n
back-same p q zero same = refl
back-same p q (suc n) same =
    back-more p n ∙ ap (λ b. cond b (Some n) (find_back p n)) (same n (omega arith))
    ∙ ap (λ o. cond (q n) (Some n) o) (back-same p q n (λ i h. same i (omega arith)))
    ∙ sym (back-more q n)

-- two behind the number that was found
abbrev two_behind : Option ℕ → ℕ
two_behind o = option_map_or (λ i. i + 2) o 0

-- what is found passes, so it stands before the last
mark_within : (marks : List Bool) (i : ℕ) → are_alike_from marks i ≡ true → i + 1 < length marks
mark_within marks i is = within marks i (slice_get marks i) (slice_get marks (i + 1)) refl is
  where
    within : (marks : List Bool) (i : ℕ) (one two : Option Bool) → slice_get marks (i + 1) ≡ two
        → (unwrap_or one false && unwrap_or two false) ≡ true → i + 1 < length marks
    within marks i one (Some x) there is = slice_get_within marks (i + 1) x there
    within marks i (Some true) None there is = absurd (cc)
    within marks i (Some false) None there is = absurd (cc)
    within marks i None None there is = absurd (cc)

back_within : (marks : List Bool) (n : ℕ)
    → two_behind (find_back (are_alike_from marks) n) ≤ length marks
back_within marks zero = omega arith
back_within marks (suc n) =
    by marks n (are_alike_from marks n) refl (back_within marks n)
  where
    by : (marks : List Bool) (n : ℕ) (is : Bool) → are_alike_from marks n ≡ is
        → two_behind (find_back (are_alike_from marks) n) ≤ length marks
        → two_behind (find_back (are_alike_from marks) (suc n)) ≤ length marks
    by marks n true is rest =
        let at : find_back (are_alike_from marks) (suc n) ≡ Some n =
        back-more (are_alike_from marks) n
        ∙ ap (λ b. cond b (Some n) (find_back (are_alike_from marks) n)) is in
        rw at (omega (arith, mark_within marks n is))
    by marks n false is rest =
        let at : find_back (are_alike_from marks) (suc n) ≡ find_back (are_alike_from marks) n =
        back-more (are_alike_from marks) n
        ∙ ap (λ b. cond b (Some n) (find_back (are_alike_from marks) n)) is in
        rw at rest

pub sure_within : (marks : List Bool) → sure_count marks ≤ length marks
unfolding sure_count
sure_within marks = back_within marks (length marks)

-- the last mark and what stands behind it are no two
none_behind : (marks : List Bool) (i : ℕ) → length marks ≤ i + 1 → are_alike_from marks i ≡ false
none_behind marks i past =
    ap (λ o. unwrap_or (slice_get marks i) false && unwrap_or o false)
    (slice_get_past marks (i + 1) past) ∙ no (unwrap_or (slice_get marks i) false)
  where
    no : (is : Bool) → (is && false) ≡ false
    no true = refl
    no false = refl

mark-left : (marks : List Bool) (a : Bool) (i : ℕ) → i < length marks
    → unwrap_or (slice_get (marks ++ a ∷ []) i) false ≡ unwrap_or (slice_get marks i) false
mark-left marks a i h =
    unwrap_or-slice_get (marks ++ a ∷ []) i false
    ∙ get_or_append_left marks (a ∷ []) false i h ∙ sym (unwrap_or-slice_get marks i false)

mark-last : (marks : List Bool) (a : Bool) (i : ℕ) → i ≡ length marks
    → unwrap_or (slice_get (marks ++ a ∷ []) i) false ≡ a
mark-last marks a i e =
    unwrap_or-slice_get (marks ++ a ∷ []) i false
    ∙ ap (λ n. get_or (marks ++ a ∷ []) n false) e ∙ get_or-append_seam marks a [] false

pub last_alike-push : (marks : List Bool) (a : Bool) → last_alike (marks ++ a ∷ []) ≡ a
last_alike-push marks a =
    mark-last marks a (length (marks ++ a ∷ []) - 1) (omega (arith, length-append marks (a ∷ [])))

chosen : (a last : Bool) (m count : ℕ) (rest : Option ℕ) → m + 2 ≡ count
    → two_behind (cond (last && a) (Some m) rest) ≡ cond (a && last) count (two_behind rest)
chosen true true m count rest e = e
chosen true false m count rest e = refl
chosen false true m count rest e = refl
chosen false false m count rest e = refl

module _ (marks : List Bool) (a : Bool) (n : ℕ) (long : length marks ≡ suc n) where
  abbrev more : List Bool
  more = marks ++ a ∷ []

  last_two : are_alike_from more n ≡ (last_alike marks && a)
  last_two =
      let at : n ≡ length marks - 1 = omega (arith, long) in
      ap (λ x. x && unwrap_or (slice_get more (n + 1)) false)
      (mark-left marks a n (omega (arith, long))
      ∙ ap (λ i. unwrap_or (slice_get marks i) false) at)
      ∙ ap (λ x. last_alike marks && x) (mark-last marks a (n + 1) (omega (arith, long)))

  before : find_back (are_alike_from more) n ≡ find_back (are_alike_from marks) (length marks)
  before =
      back-same (are_alike_from more) (are_alike_from marks) n
      (λ i h. ap (λ x. x && unwrap_or (slice_get more (i + 1)) false)
      (mark-left marks a i (omega (arith, long, h)))
      ∙ ap (λ x. unwrap_or (slice_get marks i) false && x)
      (mark-left marks a (i + 1) (omega (arith, long, h))))
      ∙ sym (ap (find_back (are_alike_from marks)) long ∙ back-more (are_alike_from marks) n
      ∙ ap (λ b. cond b (Some n) (find_back (are_alike_from marks) n))
      (none_behind marks n (omega (arith, long))))

  whole : find_back (are_alike_from more) (length more)
      ≡ cond (last_alike marks && a) (Some n)
      (find_back (are_alike_from marks) (length marks))
  whole =
      let longer : length more ≡ suc (length marks) = omega (arith, length-append marks (a ∷ [])) in
      ap (find_back (are_alike_from more)) longer
      ∙ back-more (are_alike_from more) (length marks)
      ∙ ap (λ b. cond b (Some (length marks)) (find_back (are_alike_from more) (length marks)))
      (none_behind more (length marks) (omega (arith, length-append marks (a ∷ []))))
      ∙ ap (find_back (are_alike_from more)) long ∙ back-more (are_alike_from more) n
      ∙ ap (λ b. cond b (Some n) (find_back (are_alike_from more) n)) last_two
      ∙ ap (cond (last_alike marks && a) (Some n)) before

-- one more position is sure with all before it, where its words and those of the last one do
pub sure_count-push : (marks : List Bool) (a : Bool)
    → sure_count (marks ++ a ∷ [])
    ≡ cond (a && last_alike marks) (length marks + 1) (sure_count marks)
unfolding sure_count
sure_count-push [] true = refl
sure_count-push [] false = refl
sure_count-push (m ∷ marks) a =
    let all : List Bool = m ∷ marks in
    ap two_behind (whole all a (length marks) refl)
    ∙ chosen a (last_alike all) (length marks) (length all + 1)
    (find_back (are_alike_from all) (length all)) (omega arith)
