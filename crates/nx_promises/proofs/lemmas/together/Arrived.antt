-- A copy that is full, or whose positions give a full text, is what its positions give.
use Rattle.std.proofs.Common.{◌≡◌, ℕ, ◌+◌, ◌-◌, Bool, true, false, cond, List, ◌++◌}
use Rattle.std.proofs.Common.{Option, Some, None, is_some, unwrap_or, length, map, take, drop, refl}
use Rattle.std.proofs.Common.{sym, ap, ◌∙◌, subst, arith, inl, inr}
use Rattle.std.specs.List.{Contains}
use Rattle.std.specs.Option.{option_map}
use Rattle.std.proofs.lemmas.Bool.{cases_lt}
use Rattle.std.proofs.lemmas.List.{drop-take, drop_all, length-take, take-append-drop, take_all}
use Rattle.std.proofs.lemmas.List.Elements.{All-contains, All-contains_itself, All-map, All-weaker}
use Rattle.nx_code.specs.Reading.{Reception, text}
use Rattle.nx_code.specs.declared.shifts.Shift.TheVariants.{Figures, Letters}
use Rattle.nx_code.proofs.lemmas.Reading.{text-append}
use Rattle.nx_code.specs.Reading.{shift_after_all}
use Rattle.nx_envelope.specs.Copies.{Copy, Ending, closed_copy, copies, copy_with, ended_copy, ending_of}
use Rattle.nx_envelope.specs.Copies.{headers, less_newline, raw_text}
use Rattle.nx_envelope.specs.Header.{Header, StandsIn}
use Rattle.nx_envelope.specs.declared.found.How.{How}
use Rattle.nx_envelope.specs.declared.found.How.TheVariants.{Cut, Full}
use Rattle.nx_envelope.proofs.lemmas.headers.Anywhere.{anywhere_both}
use Rattle.nx_sync.specs.declared.step.Change.{Change}
use Rattle.nx_sync.specs.declared.step.Change.TheVariants.{Ended, Locked, LostLock}
use Rattle.nx_copies.proofs.lemmas.emissions.Copies.{copy_at, header_of}
use Rattle.nx_combine.specs.CopyPositions.{LockPositions, behind_header, positions_for, positions_in_lost}
use Rattle.nx_combine.specs.CopyPositions.{positions_in_past, positions_of, sure_count}
use Rattle.nx_combine.specs.PositionEnds.{closed, end_of, ending_by, has_ended, raw_text_of, up_to_end}
use Rattle.nx_combine.specs.private.laws.BehindHeader.{raw-behind_header}
use Rattle.nx_combine.specs.private.laws.EndedPositions.{EndedIn, past-ended}
use Rattle.nx_combine.specs.private.laws.PositionsFor.{first, is-first}
use Rattle.nx_combine.specs.private.laws.ReadOn.{ending-more}
use Rattle.nx_combine.proofs.lemmas.Whole.{yes_some}

-- The copy has the ending that the positions give.
pub record HasEnding (how : How) (found : List ℕ) (positions : List Reception) : Type 0 where
  pub same_how : how ≡ (ending_by positions).how
  pub same_text : found ≡ (ending_by positions).text

Cut≢Full : Cut ≡ Full → ⊥
Cut≢Full e = cc

-- ---- the end of positions

-- what ends in the text of positions ends so with more behind them
ends_on : (header : Header) (xs ys : List Reception) (ending : Ending)
    → ending_of (raw_text_of xs) ≡ Some ending → ending_of (raw_text_of (xs ++ ys)) ≡ Some ending
unfolding raw_text_of
ends_on header xs ys ending is =
    ap (λ t. ending_of (less_newline t)) (text-append xs ys Figures)
    ∙ ending-more header.identity (text xs Figures) (text ys (shift_after_all xs Figures)) ending is

given : (positions : List Reception) (ending : Ending)
    → ending_of (raw_text_of positions) ≡ Some ending → ending_by positions ≡ ending
unfolding ending_by
given positions ending is = ap (λ o. unwrap_or o (closed (raw_text_of positions))) is

-- positions that give a full text have ended
full_ended : (positions : List Reception) (o : Option Ending)
    → ending_of (raw_text_of positions) ≡ o → (ending_by positions).how ≡ Full
    → (ending : Ending) × (ending_of (raw_text_of positions) ≡ Some ending)
unfolding ending_by
full_ended positions (Some ending) is full = (ending, is)
full_ended positions None is full =
    absurd (Cut≢Full (sym (ap (λ o. (unwrap_or o (closed (raw_text_of positions))).how) is) ∙ full))

-- what has ended, has so up to its end
pub ended_up_to : (positions : List Reception) → has_ended positions ≡ true
    → has_ended (up_to_end positions) ≡ true
unfolding end_of
ended_up_to positions is =
    let p : ℕ → Bool = λ n. has_ended (take n positions) in
    let at = is-first p (length positions) in
    elim (cases_lt (first p (length positions)) (length positions)) [
      | inl some ↦ at.here some
      | inr all ↦ ap has_ended (take_all (first p (length positions)) positions all) ∙ is
    ]

up_to_gives : (header : Header) (positions : List Reception) (ending : Ending)
    → ending_of (raw_text_of positions) ≡ Some ending → ending_by (up_to_end positions) ≡ ending
up_to_gives header positions ending is =
    let ended = ended_up_to positions (ap is_some is) in
    let some = yes_some (ending_of (raw_text_of (up_to_end positions))) ended in
    let whole = ends_on header (up_to_end positions) (drop (end_of positions) positions) some.0
    some.1 in
    let same : Some some.0 ≡ Some ending =
    sym whole ∙ ap (λ l. ending_of (raw_text_of l)) (take-append-drop (end_of positions) positions)
    ∙ is in
    given (up_to_end positions) some.0 some.1 ∙ (let e : some.0 ≡ ending = cc in e)

-- ---- the positions of a copy are the first ones behind its header

record IsFront (xs ys : List Reception) : Type 0 where
  rest : List Reception
  whole : ys ≡ xs ++ rest

up_to_front : (ys : List Reception) → IsFront (up_to_end ys) ys
up_to_front ys = record {
  rest = drop (end_of ys) ys;
  whole = sym (take-append-drop (end_of ys) ys);
}

lost_front : (lock : LockPositions) (count : ℕ)
    → IsFront (drop count (take (sure_count lock.alike) lock.taken)) (drop count lock.taken)
lost_front lock count = elim (cases_lt count (sure_count lock.alike)) [
  | inl some ↦
      let m : ℕ = sure_count lock.alike - count in
      let e : count + m ≡ sure_count lock.alike = omega arith in
      record {
        rest = drop m (drop count lock.taken);
        whole = sym (take-append-drop m (drop count lock.taken))
            ∙ ap (λ l. l ++ drop m (drop count lock.taken))
            (sym (drop-take count m lock.taken)
            ∙ ap (λ n. drop count (take n lock.taken)) e);
      }
  | inr none ↦ record {
    rest = drop count lock.taken;
    whole = ap (λ l. l ++ drop count lock.taken)
        (sym (drop_all count (take (sure_count lock.alike) lock.taken)
        (omega (arith, length-take (sure_count lock.alike) lock.taken))));
  }
]

front_by : (lock : LockPositions) (header : Header) (is : Bool)
    → IsFront (cond is (positions_of lock.taken header)
    (drop (positions_for lock.taken header.behind) (take (sure_count lock.alike) lock.taken)))
    (behind_header lock.taken header)
front_by lock header true = up_to_front (behind_header lock.taken header)
front_by lock header false = lost_front lock (positions_for lock.taken header.behind)

is_front : (how : Change) (lock : LockPositions) (header : Header)
    → IsFront (positions_in_past how lock header) (behind_header lock.taken header)
unfolding positions_in_lost
is_front LostLock lock header = front_by lock header (has_ended (behind_header lock.taken header))
is_front Locked lock header = up_to_front (behind_header lock.taken header)
is_front Ended lock header = up_to_front (behind_header lock.taken header)

-- ---- the copy

-- a copy of a text is that of one of its headers
pub record IsCopyAt (bytes : List ℕ) (copy : Copy) : Type 0 where
  pub there : StandsIn bytes copy.header
  pub is : copy ≡ copy_at bytes copy.header

pub copy_is : (bytes : List ℕ) (copy : Copy) → Contains (copies bytes) copy → IsCopyAt bytes copy
unfolding copies
copy_is bytes copy c =
    All-contains (IsCopyAt bytes) (map (copy_at bytes) (headers bytes)) copy
    (All-map (IsCopyAt bytes) (copy_at bytes) (headers bytes)
    (All-weaker (Contains (headers bytes)) (λ h. IsCopyAt bytes (copy_at bytes h))
    (λ h m.
    let same = sym (header_of bytes h) in
    record {
      there = subst (StandsIn bytes) same ((anywhere_both bytes h).0 m);
      is = ap (copy_at bytes) same;
    }) (headers bytes) (All-contains_itself (headers bytes)))) c

module _ (how : Change) (lock : LockPositions) (copy : Copy)
    (is : IsCopyAt (text lock.taken Letters) copy) where
  abbrev bytes : List ℕ
  bytes = text lock.taken Letters

  abbrev behind : List Reception
  behind = behind_header lock.taken copy.header

  abbrev own : List Reception
  own = positions_in_past how lock copy.header

  raw : raw_text_of behind ≡ raw_text bytes copy.header
  raw = raw-behind_header lock.taken copy.header is.there

  -- where it has ended, it is what its positions give
  ended_gives : (ending : Ending) → ending_of (raw_text bytes copy.header) ≡ Some ending
      → HasEnding copy.how copy.text own
  unfolding ended_copy
  ended_gives ending e =
      let ended : EndedIn lock.taken copy = record { there = is.there; ended = ap is_some e } in
      let same : copy ≡ copy_with copy.header ending =
      is.is ∙ ap (λ o. unwrap_or (option_map (copy_with copy.header) o)
      (closed_copy bytes copy.header)) e in
      let gives : ending_by own ≡ ending =
      ap ending_by (past-ended how lock copy ended)
      ∙ up_to_gives copy.header behind ending (ap ending_of raw ∙ e) in
      record {
        same_how = ap (λ (c : Copy). c.how) same ∙ sym (ap (λ (x : Ending). x.how) gives);
        same_text = ap (λ (c : Copy). c.text) same ∙ sym (ap (λ (x : Ending). x.text) gives);
      }

  full_by : (o : Option Ending) → ending_of (raw_text bytes copy.header) ≡ o → copy.how ≡ Full
      → HasEnding copy.how copy.text own
  unfolding ended_copy closed_copy
  full_by (Some ending) e full = ended_gives ending e
  full_by None e full =
      let cut : copy.how ≡ Cut =
      ap (λ (c : Copy). c.how) is.is
      ∙ ap (λ o. (unwrap_or (option_map (copy_with copy.header) o)
      (closed_copy bytes copy.header)).how) e in
      absurd (Cut≢Full (sym cut ∙ full))

  -- a full copy is what its positions give
  pub full_gives : copy.how ≡ Full → HasEnding copy.how copy.text own
  full_gives = full_by (ending_of (raw_text bytes copy.header)) refl

  -- and so is one whose positions give a full text
  pub read_gives : (ending_by own).how ≡ Full → HasEnding copy.how copy.text own
  read_gives full =
      let some = full_ended own (ending_of (raw_text_of own)) refl full in
      let front = is_front how lock copy.header in
      let all = ends_on copy.header own front.rest some.0 some.1 in
      ended_gives some.0 (ap ending_of (sym raw)
      ∙ ap (λ l. ending_of (raw_text_of l)) front.whole ∙ all)
