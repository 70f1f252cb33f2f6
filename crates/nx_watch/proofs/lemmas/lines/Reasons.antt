-- One reason why a line has no effect.
use Rattle.std.proofs.Common.{◌≡◌, ℕ, ◌≤◌, List, [], ◌∷◌, ◌++◌, length, Option, Some, None}
use Rattle.std.proofs.Common.{refl, sym, ap, ◌∙◌, subst, arith, append-nil, length-append}
use Rattle.std.specs.List.{AllZip, flat_map}
use Rattle.nx_fec.specs.air_files.AirFile.{Line, moment, elements, refuse_station, accept_station}
use Rattle.nx_fec.specs.air_files.AirFile.{refuse_subject, accept_subject}
use Rattle.nx_fec.proofs.lemmas.lines.LineLaws.{first_feed}
use Rattle.nx_watch.specs.AnyLines.{HasNoLineEnd, Says, ended}
use Rattle.nx_watch.specs.LinesTold.{IsReason, LacksEffect, StandsBehind}
use Rattle.nx_watch.specs.declared.lines.no_effect.NoEffect.{NoEffect}
use Rattle.nx_watch.specs.declared.lines.no_effect.NoEffect.TheVariants.{NoLine, TooLong, NoEnd}
use Rattle.nx_watch.specs.declared.lines.no_effect.NoEffect.TheVariants.{PastLast, GoesBack, Vital}
use Rattle.nx_watch.proofs.lemmas.lines.Law.{regroup, says-no_end}

-- behind as many lines the same bytes stand
behind-one : (ts us : List (List ℕ)) (lines : List (Option Line)) (x y : List ℕ)
    → AllZip Says ts lines → AllZip Says us lines
    → flat_map ended ts ++ x ≡ flat_map ended us ++ y → x ≡ y
behind-one [] [] [] x y h k e = e
behind-one [] [] (l ∷ lines) x y h k e = absurd h
behind-one [] (u ∷ us) [] x y h k e = absurd k
behind-one [] (u ∷ us) (l ∷ lines) x y h k e = absurd h
behind-one (t ∷ ts) us [] x y h k e = absurd h
behind-one (t ∷ ts) [] (l ∷ lines) x y h k e = absurd k
behind-one (t ∷ ts) (u ∷ us) (l ∷ lines) x y h k e =
    let parts = first_feed t u (flat_map ended ts ++ x) (flat_map ended us ++ y)
    (says-no_end t l h.0) (says-no_end u l k.0)
    (sym (regroup t ts x) ∙ e ∙ regroup u us y) in
    behind-one ts us lines x y h.1 k.1 parts.1

stands-one : (bytes : List ℕ) (before : List (Option Line)) (s t x y : List ℕ)
    → StandsBehind bytes before s x → StandsBehind bytes before t y → s ++ x ≡ t ++ y
stands-one bytes before s t x y h k =
    behind-one h.are.texts k.are.texts before (s ++ x) (t ++ y) h.are.each k.are.each
    (ap (λ l. l ++ (s ++ x)) (sym (append-nil (flat_map ended h.are.texts)) ∙ sym h.are.whole)
    ∙ sym h.whole ∙ k.whole
    ∙ ap (λ l. l ++ (t ++ y)) (k.are.whole ∙ append-nil (flat_map ended k.are.texts)))

-- bytes with no end are no longer than those before an end
no_longer : (s t x y : List ℕ) → HasNoLineEnd s → s ++ x ≡ t ++ (10 ∷ y) → length s ≤ length t
no_longer [] t x y none e = omega arith
no_longer (b ∷ s) [] x y none e = let feed : b ≡ 10 = cc in absurd (none.0 feed)
no_longer (b ∷ s) (c ∷ t) x y none e =
    let tails : s ++ x ≡ t ++ (10 ∷ y) = cc in
    let rest = no_longer s t x y none.1 tails in
    omega (arith, rest)

too_long-line : (bytes : List ℕ) (before : List (Option Line)) → IsReason bytes before None TooLong
    → IsReason bytes before None NoLine → ⊥
too_long-line bytes before h k =
    let shorter = no_longer h.0 k.0 h.1 k.1 h.2.unended
    (stands-one bytes before h.0 k.0 h.1 (10 ∷ k.1) h.2 k.2) in
    omega (arith, shorter, h.3, k.3)

too_long-end : (bytes : List ℕ) (before : List (Option Line)) → IsReason bytes before None TooLong
    → IsReason bytes before None NoEnd → ⊥
too_long-end bytes before h k =
    omega (
      arith,
      ap length (stands-one bytes before h.0 k.0 h.1 [] h.2 k.1),
      length-append h.0 h.1,
      length-append k.0 [],
      h.3,
      k.2,
    )

line-end : (bytes : List ℕ) (before : List (Option Line)) → IsReason bytes before None NoLine
    → IsReason bytes before None NoEnd → ⊥
line-end bytes before h k =
    let same = stands-one bytes before k.0 h.0 [] (10 ∷ h.1) k.1 h.2 in
    let shorter = no_longer k.0 h.0 [] h.1 k.1.unended same in
    omega (arith, ap length same, length-append k.0 [], length-append h.0 (10 ∷ h.1), shorter)

reason-one : (bytes : List ℕ) (before : List (Option Line)) (line : Option Line)
    (why other : NoEffect) → IsReason bytes before line why → IsReason bytes before line other
    → why ≡ other
reason-one bytes before None TooLong TooLong h k = refl
reason-one bytes before None TooLong NoLine h k = absurd (too_long-line bytes before h k)
reason-one bytes before None TooLong NoEnd h k = absurd (too_long-end bytes before h k)
reason-one bytes before None TooLong PastLast h k = absurd k
reason-one bytes before None TooLong GoesBack h k = absurd k
reason-one bytes before None TooLong Vital h k = absurd k
reason-one bytes before None NoLine TooLong h k = absurd (too_long-line bytes before k h)
reason-one bytes before None NoLine NoLine h k = refl
reason-one bytes before None NoLine NoEnd h k = absurd (line-end bytes before h k)
reason-one bytes before None NoLine PastLast h k = absurd k
reason-one bytes before None NoLine GoesBack h k = absurd k
reason-one bytes before None NoLine Vital h k = absurd k
reason-one bytes before None NoEnd TooLong h k = absurd (too_long-end bytes before k h)
reason-one bytes before None NoEnd NoLine h k = absurd (line-end bytes before k h)
reason-one bytes before None NoEnd NoEnd h k = refl
reason-one bytes before None NoEnd PastLast h k = absurd k
reason-one bytes before None NoEnd GoesBack h k = absurd k
reason-one bytes before None NoEnd Vital h k = absurd k
reason-one bytes before None PastLast other h k = absurd h
reason-one bytes before None GoesBack other h k = absurd h
reason-one bytes before None Vital other h k = absurd h
reason-one bytes before (Some (moment n)) PastLast PastLast h k = refl
reason-one bytes before (Some (moment n)) PastLast GoesBack h k = absurd (omega (arith, h, k))
reason-one bytes before (Some (moment n)) PastLast NoLine h k = absurd k
reason-one bytes before (Some (moment n)) PastLast TooLong h k = absurd k
reason-one bytes before (Some (moment n)) PastLast NoEnd h k = absurd k
reason-one bytes before (Some (moment n)) PastLast Vital h k = absurd k
reason-one bytes before (Some (moment n)) GoesBack PastLast h k = absurd (omega (arith, h, k))
reason-one bytes before (Some (moment n)) GoesBack GoesBack h k = refl
reason-one bytes before (Some (moment n)) GoesBack NoLine h k = absurd k
reason-one bytes before (Some (moment n)) GoesBack TooLong h k = absurd k
reason-one bytes before (Some (moment n)) GoesBack NoEnd h k = absurd k
reason-one bytes before (Some (moment n)) GoesBack Vital h k = absurd k
reason-one bytes before (Some (moment n)) NoLine other h k = absurd h
reason-one bytes before (Some (moment n)) TooLong other h k = absurd h
reason-one bytes before (Some (moment n)) NoEnd other h k = absurd h
reason-one bytes before (Some (moment n)) Vital other h k = absurd h
reason-one bytes before (Some (refuse_subject mark letter)) Vital Vital h k = refl
reason-one bytes before (Some (refuse_subject mark letter)) Vital NoLine h k = absurd k
reason-one bytes before (Some (refuse_subject mark letter)) Vital TooLong h k = absurd k
reason-one bytes before (Some (refuse_subject mark letter)) Vital NoEnd h k = absurd k
reason-one bytes before (Some (refuse_subject mark letter)) Vital PastLast h k = absurd k
reason-one bytes before (Some (refuse_subject mark letter)) Vital GoesBack h k = absurd k
reason-one bytes before (Some (refuse_subject mark letter)) NoLine other h k = absurd h
reason-one bytes before (Some (refuse_subject mark letter)) TooLong other h k = absurd h
reason-one bytes before (Some (refuse_subject mark letter)) NoEnd other h k = absurd h
reason-one bytes before (Some (refuse_subject mark letter)) PastLast other h k = absurd h
reason-one bytes before (Some (refuse_subject mark letter)) GoesBack other h k = absurd h
reason-one bytes before (Some (elements mark bits)) why other h k = absurd h
reason-one bytes before (Some (refuse_station mark letter)) why other h k = absurd h
reason-one bytes before (Some (accept_station mark letter)) why other h k = absurd h
reason-one bytes before (Some (accept_subject mark letter)) why other h k = absurd h

-- two cuts of a list at one place
same-cut : {A : Type 0} (one other : List A) (x y : A) (behind later : List A)
    → length one ≡ length other → one ++ x ∷ behind ≡ other ++ y ∷ later
    → (one ≡ other) × (x ≡ y)
same-cut [] [] x y behind later size e = (refl, cc)
same-cut [] (b ∷ other) x y behind later size e = absurd (omega (arith, size))
same-cut (a ∷ one) [] x y behind later size e = absurd (omega (arith, size))
same-cut (a ∷ one) (b ∷ other) x y behind later size e =
    let heads : a ≡ b = cc in
    let tails : one ++ x ∷ behind ≡ other ++ y ∷ later = cc in
    let same = same-cut one other x y behind later (omega (arith, size)) tails in
    (cc (heads, same.0), same.1)

pub lacks-one : (bytes : List ℕ) (lines : List (Option Line)) (number : ℕ) (why other : NoEffect)
    → LacksEffect bytes lines number why → LacksEffect bytes lines number other → why ≡ other
lacks-one bytes lines number why other h k =
    let same = same-cut h.before k.before h.line k.line h.later k.later
    (omega (arith, h.counted, k.counted)) (sym h.whole ∙ k.whole) in
    reason-one bytes k.before k.line why other
    (subst (λ before. IsReason bytes before k.line why) same.0
    (subst (λ line. IsReason bytes h.before line why) same.1 h.reason)) k.reason
