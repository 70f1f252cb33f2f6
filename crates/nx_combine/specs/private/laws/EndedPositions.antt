-- The positions of a copy that has ended stay, and those of one that has not are all behind its
-- header.
use Rattle.std.proofs.Common.{◌≡◌, ℕ, ◌≤◌, Bool, true, false, is_some, inl, inr, cond}
use Rattle.std.proofs.Common.{Option, Some, None, List, [], ◌∷◌, ◌++◌, length, take, drop, refl, sym}
use Rattle.std.proofs.Common.{ap, ◌∙◌, subst, arith, length-append, append-nil}
use Rattle.std.specs.List.{All}
use Rattle.std.proofs.lemmas.Bool.{cases_lt}
use Rattle.std.proofs.lemmas.List.{drop-append-le, take-append-drop, take-append-le, take_all}
use Rattle.std.proofs.lemmas.List.Elements.{All-contains_itself, All-filter, All-head, All-weaker}
use Rattle.std.specs.List.{Contains}
use Rattle.std.proofs.Math.Seq.{take-length}
use Rattle.nx_code.specs.Reading.{Reception, shift_after_all, text}
use Rattle.nx_code.specs.declared.shifts.Shift.TheVariants.{Figures, Letters}
use Rattle.nx_code.proofs.lemmas.Reading.{text-append}
use Rattle.nx_envelope.specs.Copies.{Copy, Ending, ended_copies, ended_copy, ending_of, headers}
use Rattle.nx_envelope.specs.Copies.{is_open, less_newline, open_headers, raw_text}
use Rattle.nx_envelope.specs.Header.{Header, StandsIn}
use Rattle.nx_envelope.specs.declared.identity.Identity.{Identity}
use Rattle.nx_envelope.proofs.lemmas.headers.Anywhere.{anywhere_both}
use Rattle.nx_envelope.proofs.lemmas.copies.OneMoreByte.{ended_with, open_headers-one}
use Rattle.nx_envelope.proofs.lemmas.copies.OneOpenCopy.{Parts, parts}
use Rattle.nx_sync.specs.declared.step.Change.{Change}
use Rattle.nx_sync.specs.declared.step.Change.TheVariants.{Ended, Locked, LostLock}
use Rattle.nx_copies.proofs.lemmas.locks.Found.{ended_header, filter_map-all}
use Rattle.nx_combine.specs.CombinedTaker.{open_positions}
use Rattle.nx_combine.specs.CopyPositions.{LockPositions, behind_header, positions_for, positions_in_lost}
use Rattle.nx_combine.specs.CopyPositions.{positions_in_past, positions_of}
use Rattle.nx_combine.specs.PositionEnds.{end_of, has_ended, raw_text_of, up_to_end}
use Rattle.nx_combine.specs.private.laws.BehindHeader.{raw-behind_header, within}
use Rattle.nx_combine.specs.private.laws.PositionsFor.{first, first-is, is-first, positions_for-more}
use Rattle.nx_combine.specs.private.laws.ReadOn.{ending-more}

-- each header of a text stands in it
headers_stand : (text : List ℕ) → All (StandsIn text) (headers text)
headers_stand text = All-weaker (Contains (headers text)) (StandsIn text)
    (λ h m. (anywhere_both text h).0 m) (headers text) (All-contains_itself (headers text))

pub open_stands : (text : List ℕ) (header : Header) → open_headers text ≡ header ∷ []
    → StandsIn text header
unfolding open_headers
open_stands text header is =
    All-head (StandsIn text) header []
    (subst (All (StandsIn text)) is
    (All-filter (is_open text) (StandsIn text) (headers text) (headers_stand text)))

-- a copy that has ended in the text of these positions
pub record EndedIn (taken : List Reception) (copy : Copy) : Type 0 where
  pub there : StandsIn (text taken Letters) copy.header
  pub ended : is_some (ending_of (raw_text (text taken Letters) copy.header)) ≡ true

ended_some : (text : List ℕ) (h : Header) (copy : Copy) (o : Option Ending)
    → ending_of (raw_text text h) ≡ o → ended_copy text h ≡ Some copy
    → is_some (ending_of (raw_text text h)) ≡ true
ended_some text h copy None is e =
    absurd (let both : None ≡ Some copy = sym (ended_with text h None is) ∙ e in cc)
ended_some text h copy (Some ending) is e = ap is_some is

pub all_ended : (taken : List Reception) → All (EndedIn taken) (ended_copies (text taken Letters))
unfolding ended_copies
all_ended taken =
    let bytes : List ℕ = text taken Letters in
    filter_map-all (StandsIn bytes) (EndedIn taken) (ended_copy bytes)
    (λ h copy there e.
    let same = ended_header bytes h copy e in
    record {
      there = subst (StandsIn bytes) same there;
      ended = subst (λ k. is_some (ending_of (raw_text bytes k)) ≡ true) same
          (ended_some bytes h copy (ending_of (raw_text bytes h)) refl e);
    }) (headers bytes) (headers_stand bytes)

pub has_ended-in : (taken : List Reception) (copy : Copy) → EndedIn taken copy
    → has_ended (behind_header taken copy.header) ≡ true
has_ended-in taken copy is =
    ap (λ t. is_some (ending_of t)) (raw-behind_header taken copy.header is.there) ∙ is.ended

-- where positions have ended, they end there whatever comes
end-stays : (xs ys : List Reception) → has_ended xs ≡ true → end_of (xs ++ ys) ≡ end_of xs
unfolding end_of
end-stays xs ys ended =
    let p : ℕ → Bool = λ n. has_ended (take n xs) in
    let k = first p (length xs) in
    let is = is-first p (length xs) in
    let longer = length-append xs ys in
    first-is (λ n. has_ended (take n (xs ++ ys))) (length (xs ++ ys)) k (record {
      within = omega (arith, is.within, longer);
      none = λ j below.
          ap has_ended (take-append-le j xs ys (omega (arith, below, is.within)))
          ∙ is.none j below;
      here = λ lt. ap has_ended (take-append-le k xs ys is.within) ∙ elim (cases_lt k (length xs)) [
        | inl some ↦ is.here some
        | inr all ↦ ap has_ended (take_all k xs all) ∙ ended
      ];
    })

end_within : (xs : List Reception) → end_of xs ≤ length xs
unfolding end_of
end_within xs = (is-first (λ n. has_ended (take n xs)) (length xs)).within

-- more positions come behind those behind a header
pub behind-more : (taken more : List Reception) (header : Header)
    → StandsIn (text taken Letters) header
    → behind_header (taken ++ more) header ≡ behind_header taken header ++ more
behind-more taken more header there =
    ap (λ k. drop k (taken ++ more)) (positions_for-more taken more header.behind there.within)
    ∙ drop-append-le (positions_for taken header.behind) taken more (within taken header there)

pub positions_of-more : (taken more : List Reception) (copy : Copy) → EndedIn taken copy
    → positions_of (taken ++ more) copy.header ≡ positions_of taken copy.header
positions_of-more taken more copy is =
    let b : List Reception = behind_header taken copy.header in
    ap up_to_end (behind-more taken more copy.header is.there)
    ∙ ap (λ k. take k (b ++ more)) (end-stays b more (has_ended-in taken copy is))
    ∙ take-append-le (end_of b) b more (end_within b)

-- so they are in a lock that was released, however it was
pub past-ended : (how : Change) (lock : LockPositions) (copy : Copy) → EndedIn lock.taken copy
    → positions_in_past how lock copy.header ≡ positions_of lock.taken copy.header
unfolding positions_in_lost
past-ended Locked lock copy is = refl
past-ended Ended lock copy is = refl
past-ended LostLock lock copy is =
    ap (λ x. cond x (positions_of lock.taken copy.header)
    (open_positions LostLock lock copy.header)) (has_ended-in lock.taken copy is)

yes_some : (o : Option Ending) → is_some o ≡ true → (ending : Ending) × (o ≡ Some ending)
yes_some None is = cc
yes_some (Some ending) is = (ending, refl)

-- positions that have ended have so with more behind them
ended-more : (identity : Identity) (xs ys : List Reception) → has_ended xs ≡ true
    → has_ended (xs ++ ys) ≡ true
unfolding raw_text_of
ended-more identity xs ys is =
    let some = yes_some (ending_of (less_newline (text xs Figures))) is in
    ap (λ t. is_some (ending_of (less_newline t))) (text-append xs ys Figures)
    ∙ ap is_some (ending-more identity (text xs Figures) (text ys (shift_after_all xs Figures))
    some.0 some.1)

not_before : (identity : Identity) (xs : List Reception) (n : ℕ) (is : Bool)
    → has_ended (take n xs) ≡ is → has_ended xs ≡ false → is ≡ false
not_before identity xs n false e none = refl
not_before identity xs n true e none =
    let all = ended-more identity (take n xs) (drop n xs) e in
    let whole = ap has_ended (take-append-drop n xs) in
    absurd (let contra : true ≡ false = sym all ∙ whole ∙ none in cc)

-- with at most one more behind positions that have not ended, the end is behind all
end-last : (identity : Identity) (xs ys : List Reception) → has_ended xs ≡ false
    → length ys ≤ 1 → end_of (xs ++ ys) ≡ length (xs ++ ys)
unfolding end_of
end-last identity xs ys none few =
    let longer = length-append xs ys in
    first-is (λ n. has_ended (take n (xs ++ ys))) (length (xs ++ ys)) (length (xs ++ ys)) (record {
      within = omega arith;
      none = λ j below.
          ap has_ended (take-append-le j xs ys (omega (arith, below, longer, few)))
          ∙ not_before identity xs j (has_ended (take j xs)) refl none;
      here = λ lt. absurd (omega (arith, lt));
    })

pub up_to-last : (identity : Identity) (xs ys : List Reception) → has_ended xs ≡ false
    → length ys ≤ 1 → up_to_end (xs ++ ys) ≡ xs ++ ys
up_to-last identity xs ys none few =
    ap (λ n. take n (xs ++ ys)) (end-last identity xs ys none few) ∙ take-length (xs ++ ys)

-- a copy that stands open has not ended
not_yet : (text : List ℕ) (header : Header) → open_headers text ≡ header ∷ [] → Parts text
    → ending_of (raw_text text header) ≡ None
not_yet text header is (inl none) =
    absurd (let contra : header ∷ [] ≡ [] = sym is ∙ none in cc)
not_yet text header is (inr o) =
    let both : o.header ∷ [] ≡ header ∷ [] = sym (open_headers-one text o) ∙ is in
    let same : o.header ≡ header = cc in
    ap (λ h. ending_of (raw_text text h)) (sym same) ∙ o.unended

pub open-behind : (taken : List Reception) (header : Header)
    → open_headers (text taken Letters) ≡ header ∷ []
    → has_ended (behind_header taken header) ≡ false
open-behind taken header is =
    let bytes : List ℕ = text taken Letters in
    ap (λ t. is_some (ending_of t))
    (raw-behind_header taken header (open_stands bytes header is))
    ∙ ap is_some (not_yet bytes header is (parts bytes))

pub open-whole : (taken : List Reception) (header : Header)
    → open_headers (text taken Letters) ≡ header ∷ []
    → positions_of taken header ≡ behind_header taken header
open-whole taken header is =
    let b : List Reception = behind_header taken header in
    ap up_to_end (sym (append-nil b))
    ∙ up_to-last header.identity b [] (open-behind taken header is) (omega arith) ∙ append-nil b

-- its positions where its lock is released
pub past-open : (how : Change) (lock : LockPositions) (header : Header)
    → open_headers (text lock.taken Letters) ≡ header ∷ []
    → positions_in_past how lock header ≡ open_positions how lock header
unfolding positions_in_lost
past-open LostLock lock header is =
    ap (λ x. cond x (positions_of lock.taken header) (open_positions LostLock lock header))
    (open-behind lock.taken header is)
past-open Locked lock header is = open-whole lock.taken header is
past-open Ended lock header is = open-whole lock.taken header is
