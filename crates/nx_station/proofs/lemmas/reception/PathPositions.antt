-- The positions of a broadcast: those of the end, and before them only phasing and combinations
-- that are in the code.
use Rattle.std.proofs.Common.{◌≡◌, ◌≢◌, ℕ, zero, suc, ◌+◌, ◌-◌, ◌/◌, ◌%◌, ◌<◌, ◌≤◌, List, [], ◌∷◌}
use Rattle.std.proofs.Common.{◌++◌, length, map, replicate, get_or, refl, sym, ap, ◌∙◌, subst}
use Rattle.std.proofs.Common.{arith, append_assoc, lit≤}
use Rattle.std.specs.List.{flat_map, AllByRecursion, AllZip}
use Rattle.std.proofs.lemmas.List.{length-append, get_or_append_left, get_or-append_right}
use Rattle.nx_code.specs.Reading.{combination, shift_after, shift_after_all}
use Rattle.nx_code.specs.Spelling.{EachFits}
use Rattle.nx_code.specs.declared.shifts.Shift.{Shift}
use Rattle.nx_code.specs.declared.shifts.Shift.TheVariants.{Letters, Figures}
use Rattle.nx_code.proofs.lemmas.Each.{each_append}
use Rattle.nx_envelope.specs.Message.{MessageView}
use Rattle.nx_envelope.specs.declared.identity.Identity.{Identity}
use Rattle.nx_fec.specs.emissions.Emission.{SentPosition, phasing_position, traffic_position, end_position, end_positions}
use Rattle.nx_fec.specs.emissions.Emission.{position_at}
use Rattle.nx_station.specs.Broadcast.{IsSpelled, AreSpelled, digit_combination, ending, head}
use Rattle.nx_station.specs.Broadcast.{layout, phasing_and_message, first_phasing, further_phasing}
use Rattle.nx_station.specs.Broadcast.{letter_combination}
use Rattle.nx_station.specs.reception.Sendings.{TellsMessage}
use Rattle.nx_station.proofs.lemmas.broadcasts.Head.{digit_combination-range}

-- the number of a combination
abbrev pub IsCombination : ℕ → Type 0
IsCombination number = (1 ≤ number) × (number ≤ 32)

-- a position that isn't one of the end, and that is in the code
abbrev pub IsInner : SentPosition → Type 0
IsInner phasing_position = Unit {0}
IsInner (traffic_position number) = IsCombination number
IsInner end_position = ⊥

-- ---- the combinations of a message

fits-combinations : (shift : Shift) (numbers : List ℕ) → EachFits shift numbers
    → AllByRecursion IsCombination numbers
fits-combinations shift [] h = tt
fits-combinations shift (n ∷ numbers) h = (
  (h.0.from_one, h.0.to_thirty_two),
  fits-combinations (shift_after (combination n) shift)
      numbers h.1,
)

digit-combination : (digit : ℕ) → digit < 10 → IsCombination (digit_combination digit)
digit-combination digit h = let r = digit_combination-range digit h in (r.0, omega (arith, r.1))

head-combinations : (identity : Identity) → AllByRecursion IsCombination (head identity)
unfolding head
head-combinations identity =
    let one = identity.b1.in_range in
    let two = identity.b2.in_range in
    let digits = identity.two_digits in
    let tens = digit-combination (identity.number / 10) (omega arith) in
    let ones = digit-combination (identity.number % 10) (omega arith) in
    let letters : IsCombination (letter_combination identity.b1.byte)
    × IsCombination (letter_combination identity.b2.byte) =
    ((omega arith, omega arith), (omega arith, omega arith)) in
    let number : AllByRecursion IsCombination
    (digit_combination (identity.number / 10) ∷ digit_combination (identity.number % 10) ∷ 27
    ∷ 28 ∷ []) =
    (tens, (ones, ((lit≤ tt, lit≤ tt), ((lit≤ tt, lit≤ tt), tt)))) in
    each_append IsCombination (29 ∷ 26 ∷ 3 ∷ 26 ∷ 3 ∷ 31 ∷ [])
    (letter_combination identity.b1.byte ∷ letter_combination identity.b2.byte ∷ 30
    ∷ digit_combination (identity.number / 10) ∷ digit_combination (identity.number % 10) ∷ 27
    ∷ 28 ∷ []) (
      (lit≤ tt, lit≤ tt),
      (
        (lit≤ tt, lit≤ tt),
        ((lit≤ tt, lit≤ tt), ((lit≤ tt, lit≤ tt), ((lit≤ tt, lit≤ tt), ((lit≤ tt, lit≤ tt), tt)))),
      ),
    )
    (letters.0, (letters.1, ((lit≤ tt, lit≤ tt), number)))

ending-combinations : (shift : Shift) → AllByRecursion IsCombination (ending shift)
unfolding ending
ending-combinations Letters = (
  (lit≤ tt, lit≤ tt),
  (
    (lit≤ tt, lit≤ tt),
    (
      (lit≤ tt, lit≤ tt),
      (
        (lit≤ tt, lit≤ tt),
        ((lit≤ tt, lit≤ tt), ((lit≤ tt, lit≤ tt), ((lit≤ tt, lit≤ tt), tt))),
      ),
    ),
  ),
)
ending-combinations Figures = (
  (lit≤ tt, lit≤ tt),
  (
    (lit≤ tt, lit≤ tt),
    (
      (lit≤ tt, lit≤ tt),
      (
        (lit≤ tt, lit≤ tt),
        (
          (lit≤ tt, lit≤ tt),
          (
            (lit≤ tt, lit≤ tt),
            ((lit≤ tt, lit≤ tt), ((lit≤ tt, lit≤ tt), tt)),
          ),
        ),
      ),
    ),
  ),
)

-- what is spelled is told
pub spelled-tells : (message : MessageView) (numbers : List ℕ) → IsSpelled message numbers
    → TellsMessage message numbers
spelled-tells message numbers h = record {
  body = h.text;
  each = fits-combinations Figures h.text h.spells.fits;
  reads = h.spells.reads;
  whole = h.whole;
}

pub all_tell : (messages : List MessageView) (spellings : List (List ℕ))
    → AreSpelled messages spellings → AllZip TellsMessage messages spellings
all_tell [] [] h = tt
all_tell [] (s ∷ ss) h = absurd h
all_tell (m ∷ ms) [] h = absurd h
all_tell (m ∷ ms) (s ∷ ss) h = (spelled-tells m s h.0, all_tell ms ss h.1)

told-combinations : (message : MessageView) (numbers : List ℕ) → TellsMessage message numbers
    → AllByRecursion IsCombination numbers
told-combinations message numbers h =
    let last = ending (shift_after_all (map combination h.body) Figures) in
    subst (AllByRecursion IsCombination) (sym h.whole)
    (each_append IsCombination (head message.identity) (h.body ++ last)
    (head-combinations message.identity)
    (each_append IsCombination h.body last h.each
    (ending-combinations (shift_after_all (map combination h.body) Figures))))

pub spelled-combinations : (message : MessageView) (numbers : List ℕ) → IsSpelled message numbers
    → AllByRecursion IsCombination numbers
spelled-combinations message numbers h =
    told-combinations message numbers (spelled-tells message numbers h)

-- ---- the positions

phasing-inner : (count : ℕ) → AllByRecursion IsInner (replicate count phasing_position)
phasing-inner zero = tt
phasing-inner (suc count) = (tt, phasing-inner count)

traffic-inner : (numbers : List ℕ) → AllByRecursion IsCombination numbers
    → AllByRecursion IsInner (map traffic_position numbers)
traffic-inner [] h = tt
traffic-inner (n ∷ numbers) h = (h.0, traffic-inner numbers h.1)

message-inner : (count : ℕ) (message : MessageView) (numbers : List ℕ)
    → TellsMessage message numbers
    → AllByRecursion IsInner (phasing_and_message count numbers)
message-inner count message numbers h =
    each_append IsInner (replicate count phasing_position) (map traffic_position numbers)
    (phasing-inner count) (traffic-inner numbers (told-combinations message numbers h))

others-inner : (messages : List MessageView) (spellings : List (List ℕ))
    → AllZip TellsMessage messages spellings
    → AllByRecursion IsInner (flat_map (phasing_and_message further_phasing) spellings)
others-inner [] [] h = tt
others-inner [] (s ∷ ss) h = absurd h
others-inner (m ∷ ms) [] h = absurd h
others-inner (m ∷ ms) (s ∷ ss) h =
    each_append IsInner (phasing_and_message further_phasing s)
    (flat_map (phasing_and_message further_phasing) ss) (message-inner further_phasing m s h.0)
    (others-inner ms ss h.1)

-- positions that end with those of the end, and have none before
pub record HasInner (positions : List SentPosition) : Type 0 where
  pub inner : List SentPosition
  pub each : AllByRecursion IsInner inner
  pub whole : positions ≡ inner ++ replicate end_positions end_position

pub told-inner : (messages : List MessageView) (spellings : List (List ℕ)) → spellings ≢ []
    → AllZip TellsMessage messages spellings → HasInner (layout spellings)
unfolding layout
told-inner messages [] some h = absurd (some refl)
told-inner [] (s ∷ ss) some h = absurd h
told-inner (m ∷ ms) (s ∷ ss) some h = record {
  inner = phasing_and_message first_phasing s ++ flat_map (phasing_and_message further_phasing) ss;
  each = each_append IsInner (phasing_and_message first_phasing s)
      (flat_map (phasing_and_message further_phasing) ss) (message-inner first_phasing m s h.0)
      (others-inner ms ss h.1);
  whole = sym (append_assoc (phasing_and_message first_phasing s)
      (flat_map (phasing_and_message further_phasing) ss) (replicate end_positions end_position));
}

pub layout-inner : (messages : List MessageView) (spellings : List (List ℕ)) → spellings ≢ []
    → AreSpelled messages spellings → HasInner (layout spellings)
layout-inner messages spellings some h =
    told-inner messages spellings some (all_tell messages spellings h)

inner-at : (inner : List SentPosition) (i : ℕ) → AllByRecursion IsInner inner → i < length inner
    → IsInner (get_or inner i end_position)
inner-at [] i h lt = absurd (omega (arith, lt))
inner-at (x ∷ xs) zero h lt = h.0
inner-at (x ∷ xs) (suc i) h lt = inner-at xs i h.1 (omega (arith, lt))

get_or-replicate : (count i : ℕ)
    → get_or (replicate count end_position) i end_position ≡ end_position
get_or-replicate zero i = refl
get_or-replicate (suc count) zero = refl
get_or-replicate (suc count) (suc i) = get_or-replicate count i

pub length-inner : (positions : List SentPosition) (h : HasInner positions)
    → length positions ≡ length h.inner + end_positions
length-inner positions h =
    ap length h.whole ∙ length-append h.inner (replicate end_positions end_position)

-- before the last positions there is none of the end
pub position-inner : (positions : List SentPosition) → HasInner positions → (i : ℕ)
    → i + end_positions < length positions → IsInner (position_at positions i)
position-inner positions h i lt =
    let n = length-inner positions h in
    let here : position_at positions i ≡ get_or h.inner i end_position =
    ap (λ l. get_or l i end_position) h.whole
    ∙ get_or_append_left h.inner (replicate end_positions end_position) end_position i
    (omega arith) in
    subst IsInner (sym here) (inner-at h.inner i h.each (omega arith))

-- from there on there are only those of the end
pub position-end : (positions : List SentPosition) → HasInner positions → (i : ℕ)
    → length positions ≤ i + end_positions → position_at positions i ≡ end_position
position-end positions h i past =
    let n = length-inner positions h in
    ap (λ l. get_or l i end_position) h.whole
    ∙ get_or-append_right h.inner (replicate end_positions end_position) (length h.inner) i
    end_position refl (omega arith)
    ∙ get_or-replicate end_positions (i - length h.inner)

pub inner-no_end : (position : SentPosition) → IsInner position → position ≢ end_position
inner-no_end phasing_position h e = cc
inner-no_end (traffic_position number) h e = cc
inner-no_end end_position h e = h
