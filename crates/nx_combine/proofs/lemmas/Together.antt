-- The sendings of a message, taken together: what each of them has as it was sent makes a whole.
use Rattle.std.proofs.Common.{◌≡◌, ◌⊎◌, inl, inr, ℕ, zero, suc, ◌+◌, ◌*◌, max, true, false}
use Rattle.std.proofs.Common.{nat_lt, Option, Some, None, List, [], ◌∷◌, length, take}
use Rattle.std.proofs.Common.{map, cond, refl, sym, ap, ap₂, ◌∙◌, arith}
use Rattle.std.specs.Prelude.{slice_get, fold}
use Rattle.std.specs.List.{AllByRecursion, zip}
use Rattle.std.proofs.lemmas.Bool.{eq-eqb, lt-ltb}
use Rattle.std.proofs.lemmas.Bool.Decides.{leb_tells}
use Rattle.std.proofs.lemmas.List.{length-take}
use Rattle.std.proofs.lemmas.List.Sums.{sum_by-cons}
use Rattle.std.proofs.lemmas.Option.{slice_get_within}
use Rattle.circular_buffer.proofs.Places.{slice_get-some, slice_get-take}
use Rattle.nx_code.specs.Reading.{Reception, combination, idle, lost, text}
use Rattle.nx_code.specs.declared.shifts.Shift.TheVariants.{Figures}
use Rattle.nx_envelope.specs.Copies.{ending_of, less_newline}
use Rattle.nx_combine.specs.Joining.{count_of_differing, count_of_same, is_of_one_text, joined}
use Rattle.nx_combine.specs.Joining.{took_two}
use Rattle.nx_combine.specs.Laws.{CameThrough, IsHeardOf, IsTakenByOne, RunOnAlike, joined_all}
use Rattle.nx_combine.specs.Laws.{joined_where}
use Rattle.nx_combine.specs.PositionEnds.{end_of, ending_by, has_ended, up_to_end}
use Rattle.nx_combine.proofs.lemmas.Invented.{split_where}
use Rattle.nx_combine.proofs.lemmas.Joined.{slice_get-joined}
use Rattle.nx_combine.specs.private.laws.ReadOn.{ending-positions, text_of}
use Rattle.nx_combine.proofs.lemmas.Whole.{any_identity, ended}

-- One of two that are heard of what was sent has it: so has the joined list.

-- what is heard at an index, where this was sent
abbrev AsSent : ℕ → Option Reception → Type 0
AsSent number o = (taken : ℕ) → o ≡ Some (combination taken) → taken ≡ number

left_at : (number : ℕ) (o : Option Reception) → AsSent number o
    → joined_where (Some (combination number)) o ≡ Some (combination number)
left_at number None heard = refl
left_at number (Some (combination taken)) heard =
    rw (eq-eqb number taken (sym (heard taken refl))) refl
left_at number (Some idle) heard = refl
left_at number (Some lost) heard = refl

right_at : (number : ℕ) (o : Option Reception) → AsSent number o
    → joined_where o (Some (combination number)) ≡ Some (combination number)
right_at number None heard = refl
right_at number (Some (combination taken)) heard =
    let same = heard taken refl in
    rw (eq-eqb taken number same) (ap (λ n. Some (combination n)) same)
right_at number (Some idle) heard = refl
right_at number (Some lost) heard = refl

pub heard_joined : (sent : List ℕ) (first second : List Reception) → IsHeardOf sent first
    → IsHeardOf sent second → IsHeardOf sent (joined first second)
heard_joined sent first second one other = λ index number taken there is.
    elim (split_where (slice_get first index) (slice_get second index) taken
    (sym (slice_get-joined first second index) ∙ is)) [
      | inl has ↦ one index number taken there has
      | inr has ↦ other index number taken there has
    ]

left_known : (sent : List ℕ) (first second : List Reception) (index number : ℕ)
    → IsHeardOf sent second → slice_get sent index ≡ Some number
    → slice_get first index ≡ Some (combination number)
    → slice_get (joined first second) index ≡ Some (combination number)
left_known sent first second index number other there has =
    slice_get-joined first second index
    ∙ ap (λ o. joined_where o (slice_get second index)) has
    ∙ left_at number (slice_get second index) (λ taken is. other index number taken there is)

right_known : (sent : List ℕ) (first second : List Reception) (index number : ℕ)
    → IsHeardOf sent first → slice_get sent index ≡ Some number
    → slice_get second index ≡ Some (combination number)
    → slice_get (joined first second) index ≡ Some (combination number)
right_known sent first second index number one there has =
    slice_get-joined first second index
    ∙ ap (λ o. joined_where (slice_get first index) o) has
    ∙ right_at number (slice_get first index) (λ taken is. one index number taken there is)

known : (sent : List ℕ) (so_far : List Reception) (copies : List (List Reception))
    (index number : ℕ) → IsHeardOf sent so_far → AllByRecursion (IsHeardOf sent) copies
    → slice_get sent index ≡ Some number
    → (slice_get so_far index ≡ Some (combination number)) ⊎ IsTakenByOne index number copies
    → slice_get (fold joined so_far copies) index ≡ Some (combination number)
known sent so_far [] index number heard each there (inl has) = has
known sent so_far [] index number heard each there (inr none) = absurd none
known sent so_far (c ∷ copies) index number heard each there (inl has) =
    known sent (joined so_far c) copies index number (heard_joined sent so_far c heard each.0)
    each.1 there (inl (left_known sent so_far c index number each.0 there has))
known sent so_far (c ∷ copies) index number heard each there (inr (inl has)) =
    known sent (joined so_far c) copies index number (heard_joined sent so_far c heard each.0)
    each.1 there (inl (right_known sent so_far c index number heard there has))
known sent so_far (c ∷ copies) index number heard each there (inr (inr later)) =
    known sent (joined so_far c) copies index number (heard_joined sent so_far c heard each.0)
    each.1 there (inr later)

pub nothing_heard : (sent : List ℕ) → IsHeardOf sent []
nothing_heard sent = λ index number taken there is.
    absurd (let contra : None ≡ Some (combination taken) = is in cc)

-- The joined list begins with what was sent.

same_front : (sent : List ℕ) (positions : List Reception)
    → ((index number : ℕ) → slice_get sent index ≡ Some number
    → slice_get positions index ≡ Some (combination number))
    → take (length sent) positions ≡ map combination sent
same_front [] positions has = refl
same_front (number ∷ sent) [] has =
    absurd (let contra : None ≡ Some (combination number) = has 0 number refl in cc)
same_front (number ∷ sent) (x ∷ positions) has =
    let inside : Some x ≡ Some (combination number) = has 0 number refl in
    let first : x ≡ combination number = cc in
    ap₂ (λ y l. y ∷ l) first
    (same_front sent positions (λ index other there. has (suc index) other there))

pub together_whole : (sent : List ℕ) (copies : List (List Reception))
    → has_ended (map combination sent) ≡ true → AllByRecursion (IsHeardOf sent) copies
    → CameThrough sent copies
    → ending_by (joined_all copies) ≡ ending_by (map combination sent)
together_whole sent copies ends each through =
    let all : List Reception = joined_all copies in
    let front : take (length sent) all ≡ map combination sent =
    same_front sent all (λ index number there.
    known sent [] copies index number (nothing_heard sent) each there
    (inr (through index number there))) in
    let long : take (length sent) (map combination sent) ≡ map combination sent =
    same_front sent (map combination sent) (mapped sent) in
    let e = ended all (length sent) (ap has_ended front ∙ ends) in
    let there : ending_of (less_newline (text_of (map combination sent) (length sent))) ≡ Some e.0 =
    ap (λ l. ending_of (less_newline (text l Figures))) (long ∙ sym front) ∙ e.1 in
    ending-positions any_identity all (length sent) e.0 e.1
    ∙ sym (ending-positions any_identity (map combination sent) (length sent) e.0 there) where
      mapped : (numbers : List ℕ) (index number : ℕ) → slice_get numbers index ≡ Some number
          → slice_get (map combination numbers) index ≡ Some (combination number)
      mapped [] index number is = absurd (let contra : None ≡ Some number = is in cc)
      mapped (n ∷ numbers) zero number is = let inside : Some n ≡ Some number = is in cc
      mapped (n ∷ numbers) (suc index) number is = mapped numbers index number is

-- None of them differs from what the others give.

taken_from : (so_far : List Reception) (copies : List (List Reception)) (index number : ℕ)
    → slice_get (fold joined so_far copies) index ≡ Some (combination number)
    → (slice_get so_far index ≡ Some (combination number)) ⊎ IsTakenByOne index number copies
taken_from so_far [] index number has = inl has
taken_from so_far (c ∷ copies) index number has =
    elim (taken_from (joined so_far c) copies index number has) [
      | inl both ↦ elim (split_where (slice_get so_far index) (slice_get c index) number
          (sym (slice_get-joined so_far c index) ∙ both)) [
            | inl first ↦ inl first
            | inr second ↦ inr (inl second)
          ]
      | inr later ↦ inr (inr later)
    ]

-- two that took combinations at an index took the same one
same_of_two : (sent : List ℕ) (first second : List Reception) (index m n : ℕ)
    → IsHeardOf sent first → IsHeardOf sent second → RunOnAlike sent first second
    → slice_get first index ≡ Some (combination m) → slice_get second index ≡ Some (combination n)
    → m ≡ n
same_of_two sent first second index m n one other alike has takes =
    elim (leb_tells (length sent) index) [
      | inl behind ↦ alike index m n behind.1 has takes
      | inr within ↦
          let s = slice_get-some sent index (omega (arith, within.1)) in
          one index s.0 m s.1 has ∙ sym (other index s.0 n s.1 takes)
    ]

same_of_all : (sent : List ℕ) (copies : List (List Reception)) (next : List Reception)
    (index m n : ℕ) → AllByRecursion (IsHeardOf sent) copies → IsHeardOf sent next
    → AllByRecursion (λ positions. RunOnAlike sent positions next) copies
    → IsTakenByOne index m copies → slice_get next index ≡ Some (combination n) → m ≡ n
same_of_all sent [] next index m n each heard alike none takes = absurd none
same_of_all sent (c ∷ copies) next index m n each heard alike (inl has) takes =
    same_of_two sent c next index m n each.0 heard alike.0 has takes
same_of_all sent (c ∷ copies) next index m n each heard alike (inr later) takes =
    same_of_all sent copies next index m n each.1 heard alike.1 later takes

two_at : (x y : Reception)
    → ((m n : ℕ) → x ≡ combination m → y ≡ combination n → m ≡ n) → took_two x y ≡ false
two_at (combination m) (combination n) same = rw (eq-eqb m n (same m n refl refl)) refl
two_at (combination m) idle same = refl
two_at (combination m) lost same = refl
two_at idle y same = refl
two_at lost y same = refl

none_differ : (first second : List Reception)
    → ((index m n : ℕ) → slice_get first index ≡ Some (combination m)
    → slice_get second index ≡ Some (combination n) → m ≡ n)
    → count_of_differing first second ≡ 0
unfolding count_of_differing
none_differ [] second same = refl
none_differ (x ∷ first) [] same = refl
none_differ (x ∷ first) (y ∷ second) same =
    let here = two_at x y (λ m n is has. same 0 m n (ap Some is) (ap Some has)) in
    let rest = none_differ first second (λ index m n is has. same (suc index) m n is has) in
    sum_by-cons (λ pair. cond (took_two pair.0 pair.1) 1 0) (x, y) (zip first second)
    ∙ ap₂ (λ b n. cond b 1 0 + n) here rest

of_beginning : (n : ℕ) (positions : List Reception) (index : ℕ) (x : Reception)
    → slice_get (take n positions) index ≡ Some x → slice_get positions index ≡ Some x
of_beginning n positions index x is =
    let within = slice_get_within (take n positions) index x is in
    let cut = length-take n positions in
    sym (slice_get-take n positions index (omega arith)) ∙ is

none_sent : (index number : ℕ) → slice_get [] index ≡ Some (combination number) → ⊥
none_sent index number is = let contra : None ≡ Some (combination number) = is in cc

pub together_of_one_text : (sent : List ℕ) (copies : List (List Reception)) (next : List Reception)
    → AllByRecursion (IsHeardOf sent) copies → IsHeardOf sent next
    → AllByRecursion (λ positions. RunOnAlike sent positions next) copies
    → is_of_one_text (up_to_end (joined_all copies)) next ≡ true
together_of_one_text sent copies next each heard alike =
    let all : List Reception = joined_all copies in
    let none : count_of_differing (up_to_end all) next ≡ 0 =
    none_differ (up_to_end all) next (λ index m n is has.
    elim (taken_from [] copies index m (of_beginning (end_of all) all index (combination m) is)) [
      | inl first ↦ absurd (none_sent index m first)
      | inr one ↦ same_of_all sent copies next index m n each heard alike one has
    ]) in
    ap (λ d. nat_lt (25 * d) (max 1 (count_of_same (up_to_end all) next))) none
    ∙ lt-ltb 0 (max 1 (count_of_same (up_to_end all) next)) (omega arith)
