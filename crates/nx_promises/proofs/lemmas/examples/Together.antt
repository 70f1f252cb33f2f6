-- The worked emission in which a message is sent twice, each time with another letter lost, meets
-- what is asked of a message that is heard together.
use Rattle.std.proofs.Common.{◌≡◌, ◌≢◌, ℕ, zero, suc, ◌+◌, ◌-◌, ◌*◌, ◌≤◌, ◌⊎◌, Bool, true, false}
use Rattle.std.proofs.Common.{not, cond, eqb, ◌&&◌, ◌||◌, Some, None, List, [], ◌∷◌, ◌++◌}
use Rattle.std.proofs.Common.{length, map, slice_get, refl, sym, ap, ◌∙◌, subst, arith, inl, inr}
use Rattle.std.proofs.Common.{append-nil, lit<, lit≤}
use Rattle.std.specs.Prelude.{codes}
use Rattle.std.specs.List.{All}
use Rattle.std.proofs.lemmas.Bool.{agree_below, agree_below_at, and_parts, eq-eqb, eqb-true}
use Rattle.std.proofs.lemmas.List.Elements.{All-cons, All-contains, All-nil}
use Rattle.std.proofs.lemmas.Option.{slice_get_within}
use Rattle.nx_code.specs.Reading.{Reception, character_of, combination, idle, lost}
use Rattle.nx_code.specs.Table.{place_of, row_of, table, traffic_word, words}
use Rattle.nx_code.specs.Word.{elements, elements_from, weight, wrong_in}
use Rattle.nx_code.proofs.lemmas.WordCounts.{wrong_in-add}
use Rattle.nx_envelope.specs.Copies.{Copy, beginnings, closed_copy, copies, ended_copy, ending_by_marker}
use Rattle.nx_envelope.specs.Copies.{ending_of, header_at_end, headers, raw_text}
use Rattle.nx_envelope.specs.declared.found.How.TheVariants.{Full}
use Rattle.nx_envelope.specs.declared.identity.Identity.{Identity}
use Rattle.nx_envelope.specs.private.Reading.{identity_read, marker_read, nearest_identity, read_header}
use Rattle.nx_fec.specs.emissions.Emission.{SentPosition, bits_of, emission, slots_of, word_sent}
use Rattle.nx_fec.specs.emissions.Pairing.{counts_as}
use Rattle.nx_memory.specs.Selection.{admits}
use Rattle.nx_station.specs.Broadcast.{layout}
use Rattle.nx_station.specs.reception.Path.{IsAsSent, first_slot, heard_in}
use Rattle.nx_station.specs.reception.PathExample.{damaged_in, ea01, example_message, example_numbers}
use Rattle.nx_station.specs.reception.Sendings.{Part, ReceivedEmission, received}
use Rattle.nx_station.proofs.lemmas.reception.PathExamples.{example_received}
use Rattle.nx_sync.specs.Locks.{before_dx, locked, IsNow}
use Rattle.nx_sync.specs.Words.{role_of, whole_words}
use Rattle.nx_sync.specs.declared.step.Role.TheVariants.{Dx}
use Rattle.nx_sync.specs.private.Releases.{releases_as_ended}
use Rattle.nx_copies.specs.Events.{Event, Setting, first_setting, setting_at}
use Rattle.nx_copies.specs.copies.FoundCopies.{found_copy, place_in, tag}
use Rattle.nx_copies.specs.copies.LockText.{PlacedByte, lock_text, positions, printed_by, taken_at, text_by}
use Rattle.nx_combine.specs.CopyPositions.{HeardCopy, PlacedCopy, heard_copies, lock_positions}
use Rattle.nx_combine.specs.CopyPositions.{past_placed, placed_to_end, positions_for, positions_of}
use Rattle.nx_combine.specs.Families.{begun_by, families_after, has_family}
use Rattle.nx_combine.specs.Families.{families_after_holding, index_joined_holding}
use Rattle.nx_combine.specs.Laws.{CameThrough, bears, positions_heard}
use Rattle.nx_combine.specs.PositionEnds.{end_of, raw_text_of}
use Rattle.nx_promises.specs.examples.Emission.{at_its_slot, heard_elements}
use Rattle.nx_promises.specs.examples.Together.{twice_emission, twice_heard, twice_parts}
use Rattle.nx_promises.specs.examples.Together.{twice_spelled}
use Rattle.nx_promises.specs.laws.Together.{IsHeardTogether, IsSeen, IsTakenTogether}
use Rattle.nx_promises.specs.laws.Together.{IsThroughWith, IsVisible, behind_digit, heard_with}
use Rattle.nx_promises.proofs.lemmas.examples.Worked.{Computed, are_words, lock_word, positions_same}
use Rattle.nx_promises.proofs.lemmas.examples.Worked.{stands, text_is, text_same}
use Rattle.nx_promises.proofs.lemmas.examples.WorkedLog.{all_selected, at_first, bits_among-elements}

-- ---- the lock

abbrev twice_text : List ℕ
twice_text = codes "ZCZC EA01\n*EST\nNNNN\n\nZCZC EA01\nT*ST\nNNNN\n\n"

twice_computed : Computed twice_heard 229 twice_text
unfolding positions taken_at role_of counts_as place_of words table character_of row_of twice_heard
    damaged_in example_numbers emission layout word_sent traffic_word before_dx bits_of elements
    elements_from wrong_in weight releases_as_ended
twice_computed = record {
  long = refl;
  are_words = refl;
  pattern = refl;
  before = refl;
  no_end = refl;
  few_wrong = lit≤ tt;
  reads = refl;
}

-- ---- the emission is visible

abbrev twice_sent : List SentPosition
twice_sent = layout twice_spelled

abbrev each_below : (ℕ → Bool) → ℕ → Bool
each_below test n = agree_below test (λ _. true) n

abbrev is_as_sent : ℕ → Bool
is_as_sent slot = eqb (heard_in twice_heard slot) (word_sent twice_sent slot)

record Seen : Type 0 where
  whole : first_slot + length twice_heard ≡ slots_of twice_sent
  slots : slots_of twice_sent ≡ 329
  phasing : each_below (λ k. is_as_sent (96 + k)) 48 ≡ true
  later : each_below (λ k. is_as_sent (144 + k)
      || not (eqb (weight (heard_in twice_heard (144 + k))) 4)) 185 ≡ true
  few : wrong_in (heard_in twice_heard) 144 185 ≤ 39

seen_computed : Seen
unfolding twice_heard damaged_in example_numbers emission layout word_sent traffic_word row_of table
    weight elements elements_from wrong_in
seen_computed = record {
  whole = refl;
  slots = refl;
  phasing = refl;
  later = refl;
  few = lit≤ tt;
}

sent_or_wrong : (a b : ℕ) (same wrong : Bool) → eqb a b ≡ same → not (eqb (weight a) 4) ≡ wrong
    → (same || wrong) ≡ true → (a ≡ b) ⊎ (weight a ≢ 4)
sent_or_wrong a b true wrong e w h = inl (eqb-true a b e)
sent_or_wrong a b false true e w h =
    inr (λ four. let clash : true ≡ false = sym w ∙ ap not (eq-eqb (weight a) 4 four) in cc)
sent_or_wrong a b false false e w h = cc

twice_visible : IsVisible twice_sent twice_heard
twice_visible =
    let slots = seen_computed.slots in
    let whole = seen_computed.whole in
    record {
      words = are_words twice_heard twice_computed;
      whole = whole;
      phasing = λ slot from to.
          let at : 96 + (slot - 96) ≡ slot = omega arith in
          subst (IsAsSent twice_sent twice_heard) at
          (eqb-true (heard_in twice_heard (96 + (slot - 96)))
          (word_sent twice_sent (96 + (slot - 96)))
          (agree_below_at (λ k. is_as_sent (96 + k)) (λ _. true) 48 (slot - 96)
          seen_computed.phasing (omega arith)));
      later = λ slot from to.
          let at : 144 + (slot - 144) ≡ slot = omega arith in
          subst (λ s. IsAsSent twice_sent twice_heard s ⊎ (weight (heard_in twice_heard s) ≢ 4)) at
          (sent_or_wrong (heard_in twice_heard (144 + (slot - 144)))
          (word_sent twice_sent (144 + (slot - 144))) _ _ refl refl
          (agree_below_at (λ k. is_as_sent (144 + k)
          || not (eqb (weight (heard_in twice_heard (144 + k))) 4)) (λ _. true) 185 (slot - 144)
          seen_computed.later (omega (arith, slots, to))));
      few = λ slot n from some to.
          let first : ℕ = slot - 144 in
          let rest : ℕ = 329 - (slot + n) in
          let all : 185 ≡ first + (n + rest) = omega (arith, slots, to) in
          let at : 144 + first ≡ slot = omega arith in
          let split = ap (wrong_in (heard_in twice_heard) 144) all
          ∙ wrong_in-add (heard_in twice_heard) 144 first (n + rest) in
          let behind = ap (λ s. wrong_in (heard_in twice_heard) s (n + rest)) at
          ∙ wrong_in-add (heard_in twice_heard) slot n rest in
          omega (arith, split, behind, seen_computed.few);
    }

twice_seen : IsSeen twice_emission
twice_seen = record {
  sound = (example_received.sound.0, (example_received.sound.0, tt));
  told = (example_received.told.0, (example_received.told.0, tt));
  visible = twice_visible;
}

one_part : (before : List Part) (e : ReceivedEmission) (after : List Part)
    → twice_parts ≡ before ++ received e ∷ after → IsSeen e
one_part [] e after is = let same : twice_emission ≡ e = cc in subst IsSeen same twice_seen
one_part (x ∷ []) e after is = cc
one_part (x ∷ (y ∷ before)) e after is = cc

-- ---- the two copies

abbrev bits : List Bool
bits = bits_of twice_heard

abbrev events : List Event
events = heard_elements twice_heard

abbrev text : List PlacedByte
text = lock_text bits 28 (whole_words bits 28)

abbrev taken : List Reception
taken = (lock_positions bits 28 (whole_words bits 28)).taken

found_identity : Identity
found_identity = nearest_identity (codes "EA01")

copy_at : ℕ → List ℕ → Copy
copy_at behind found = record {
  header = record { identity = found_identity; behind = behind };
  how = Full;
  text = found;
}

copies_are : copies twice_text ≡ copy_at 9 (codes "*EST\n") ∷ copy_at 30 (codes "T*ST\n") ∷ []
unfolding copy_at found_identity copies headers beginnings header_at_end identity_read read_header
    raw_text ending_by_marker marker_read ending_of ended_copy closed_copy
copies_are = refl

-- the copy whose header ends behind so many bytes
abbrev copy_behind : ℕ → List ℕ → PlacedCopy
copy_behind behind found = record {
  found = found_copy text (copy_at behind found);
  positions = positions_of taken (copy_at behind found).header;
}

abbrev one : PlacedCopy
one = copy_behind 9 (codes "*EST\n")

abbrev two : PlacedCopy
two = copy_behind 30 (codes "T*ST\n")

placed_are : placed_to_end bits [] (locked 0 28) ≡ one ∷ two ∷ []
unfolding placed_to_end past_placed
placed_are =
    ap (map (λ copy. record {
      found = found_copy text copy;
      positions = positions_of taken copy.header;
    })) (ap copies (text_is twice_heard twice_computed) ∙ copies_are)

-- ---- what is computed of their places and positions

abbrev own_positions : ℕ → List Reception
own_positions behind = positions_of (positions Dx (lock_word twice_heard) 229)
    (record { identity = ea01; behind = behind })

is_taken : ℕ → Reception → Bool
is_taken number (combination m) = eqb m number
is_taken number idle = false
is_taken number lost = false

-- each combination that was sent is taken by the one or the other
covers : List ℕ → List Reception → List Reception → Bool
covers [] first second = true
covers (n ∷ sent) (x ∷ first) (y ∷ second) =
    (is_taken n x || is_taken n y) && covers sent first second
covers (n ∷ sent) first second = false

taken-is : (number : ℕ) (x : Reception) → is_taken number x ≡ true → x ≡ combination number
unfolding is_taken
taken-is number (combination m) is = ap combination (eqb-true m number is)
taken-is number idle is = cc
taken-is number lost is = cc

either : (a b : Bool) → (a || b) ≡ true → (a ≡ true) ⊎ (b ≡ true)
either true b is = inl refl
either false b is = inr is

came : (sent : List ℕ) (first second : List Reception) → covers sent first second ≡ true
    → CameThrough sent (first ∷ second ∷ [])
unfolding covers
came [] first second is index number there = let contra : None ≡ Some number = there in cc
came (n ∷ sent) [] second is index number there = cc
came (n ∷ sent) (x ∷ first) [] is index number there = cc
came (n ∷ sent) (x ∷ first) (y ∷ second) is zero number there =
    let here = and_parts (is_taken n x || is_taken n y) (covers sent first second) is in
    let same : n ≡ number = cc in
    elim (either (is_taken n x) (is_taken n y) here.0) [
      | inl a ↦ inl (ap Some (taken-is n x a ∙ ap combination same))
      | inr b ↦ inr (inl (ap Some (taken-is n y b ∙ ap combination same)))
    ]
came (n ∷ sent) (x ∷ first) (y ∷ second) is (suc index) number there =
    came sent first second
    (and_parts (is_taken n x || is_taken n y) (covers sent first second) is).1 index number there

record Copies : Type 0 where
  first_place : place_in (text_by Dx (lock_word twice_heard) 28 229) 8 ≡ 517
  second_place : place_in (text_by Dx (lock_word twice_heard) 28 229) 29 ≡ 1399
  first_long : length (own_positions 9) ≤ 13
  second_long : length (own_positions 30) ≤ 13
  sent_long : length (behind_digit example_numbers) ≡ 13
  through : covers (behind_digit example_numbers) (own_positions 9) (own_positions 30) ≡ true

copies_computed : Copies
unfolding positions taken_at role_of counts_as place_of words table character_of row_of twice_heard
    damaged_in example_numbers emission layout word_sent traffic_word text_by printed_by place_in
    positions_for end_of raw_text_of ending_by_marker marker_read ending_of beginnings covers
    is_taken
copies_computed = record {
  first_place = refl;
  second_place = refl;
  first_long = lit≤ tt;
  second_long = lit≤ tt;
  sent_long = refl;
  through = refl;
}

positions_are : (behind : ℕ) (found : List ℕ)
    → (copy_behind behind found).positions ≡ own_positions behind
unfolding copy_at
positions_are behind found =
    ap (λ t. positions_of t (copy_at behind found).header)
    (positions_same twice_heard twice_computed)

place_is : (behind : ℕ) (found : List ℕ) → (copy_behind behind found).found.place
    ≡ place_in (text_by Dx (lock_word twice_heard) 28 229) (behind - 1)
unfolding found_copy copy_at
place_is behind found = ap (λ t. place_in t (behind - 1)) (text_same twice_heard twice_computed)

-- ---- what has to be met

in_force : (place : ℕ) → setting_at (first_setting at_its_slot) events place
    ≡ first_setting at_its_slot
in_force place = at_first (first_setting at_its_slot) bits place

-- nothing is sent behind the last N
nothing_behind : (positions : List Reception) → length positions ≤ 13 → (index number : ℕ)
    → length (behind_digit example_numbers) ≤ index
    → slice_get positions index ≡ Some (combination number) → number ≡ 0
nothing_behind positions short index number past is =
    let within = slice_get_within positions index (combination number) is in
    absurd (omega (arith, copies_computed.sent_long, short, past, within))

abbrev IsOne : PlacedCopy → Type 0
IsOne copy = IsTakenTogether at_its_slot events twice_parts example_message example_numbers (λ _. 0)
    copy

all_selected_at : (place : ℕ)
    → admits (setting_at (first_setting at_its_slot) events place).refused ea01 ≡ true
all_selected_at place =
    ap (λ (s : Setting). admits s.refused ea01) (in_force place) ∙ all_selected

one_together : IsOne one
one_together =
    let same = positions_are 9 (codes "*EST\n") in
    let short : length one.positions ≤ 13 =
    omega (arith, ap length same, copies_computed.first_long) in
    record {
      sending = record {
        sent = record {
          before = [];
          emission = twice_emission;
          after = [];
          among = refl;
          index = 0;
          message = refl;
          place = place_is 9 (codes "*EST\n") ∙ copies_computed.first_place;
        };
        spelled = refl;
      };
      selected = all_selected_at one.found.place;
      few_positions = omega (arith, short);
      runs_on = nothing_behind one.positions short;
    }

two_together : IsOne two
unfolding example_numbers
two_together =
    let same = positions_are 30 (codes "T*ST\n") in
    let short : length two.positions ≤ 13 =
    omega (arith, ap length same, copies_computed.second_long) in
    record {
      sending = record {
        sent = record {
          before = [];
          emission = twice_emission;
          after = [];
          among = refl;
          index = 1;
          message = refl;
          place = place_is 30 (codes "T*ST\n") ∙ copies_computed.second_place;
        };
        spelled = refl;
      };
      selected = all_selected_at two.found.place;
      few_positions = omega (arith, short);
      runs_on = nothing_behind two.positions short;
    }

each_together : All IsOne (one ∷ two ∷ [])
each_together =
    All-cons IsOne one (two ∷ []) one_together
    (All-cons IsOne two [] two_together (All-nil IsOne))

abbrev heard_one : HeardCopy
heard_one = heard_with (setting_at (first_setting at_its_slot) events one.found.place) one

abbrev heard_two : HeardCopy
heard_two = heard_with (setting_at (first_setting at_its_slot) events two.found.place) two

-- both are heard at the one moment
moment_of : (copy : PlacedCopy)
    → (heard_with (setting_at (first_setting at_its_slot) events copy.found.place) copy).copy.moment
    ≡ 1735692000
unfolding tag
moment_of copy = ap (λ (s : Setting). s.moment) (in_force copy.found.place)

bears_one : bears ea01 heard_one ≡ true
unfolding tag found_copy copy_at found_identity
bears_one = refl

bears_two : bears ea01 heard_two ≡ true
unfolding tag found_copy copy_at found_identity
bears_two = refl

begun_if : (heard : HeardCopy) (b : Bool)
    → length (cond b (begun_by heard ∷ []) []) ≤ 1
begun_if heard true = omega arith
begun_if heard false = omega arith

few_families : (heard : HeardCopy) → length (families_after [] heard) ≤ 1
unfolding families_after_holding index_joined_holding
few_families heard = begun_if heard (has_family heard)

pub twice_together : IsHeardTogether placed_to_end at_its_slot events twice_parts example_message
    example_numbers
unfolding heard_copies
twice_together =
    record {
      cut = record {
        whole = bits_among-elements bits ∙ sym (append-nil bits);
        each = one_part;
      };
      sound = example_received.sound.0;
      told = example_received.told.0;
      numbered = lit< tt;
      copies = one ∷ two ∷ [];
      found = record {
        locks = [];
        now = locked 0 28;
        stands = subst (λ (bs : List Bool). IsNow bs [] (locked 0 28))
            (sym (bits_among-elements bits)) (stands twice_heard twice_computed);
        whole = sym (ap (λ bs. placed_to_end bs [] (locked 0 28)) (bits_among-elements bits)
            ∙ placed_are);
      };
      behind = λ _. 0;
      together = λ copy there named. All-contains IsOne (one ∷ two ∷ []) copy each_together there;
      before = [];
      first = heard_one;
      later = heard_two ∷ [];
      in_order = refl;
      none_before = tt;
      first_bears = bears_one;
      unknown = refl;
      near = (λ named. omega (arith, moment_of one, moment_of two), tt);
      in_turn = (λ named. omega (arith, moment_of one, moment_of two), tt);
      few_begun = (λ named. omega (arith, few_families heard_one), tt);
      few_made = (λ named. omega arith, tt);
    }

-- With the second copy the last letter came through. The first one alone has a hole.
pub twice_through : IsThroughWith (behind_digit example_numbers) example_message.identity
    (twice_together.first ∷ twice_together.later)
unfolding twice_together
twice_through = record {
  up_to = heard_one ∷ [];
  one = heard_two;
  rest = [];
  parts = refl;
  named = bears_two;
  through = both_heard;
}
  where
    heard_are : positions_heard ea01 (heard_one ∷ heard_two ∷ [])
        ≡ own_positions 9 ∷ own_positions 30 ∷ []
    heard_are = rw (bears_one, bears_two)
        (ap (λ p. p ∷ two.positions ∷ []) (positions_are 9 (codes "*EST\n"))
        ∙ ap (λ p. own_positions 9 ∷ p ∷ []) (positions_are 30 (codes "T*ST\n")))

    both_heard : CameThrough (behind_digit example_numbers)
        (positions_heard ea01 (heard_one ∷ heard_two ∷ []))
    both_heard = subst (CameThrough (behind_digit example_numbers)) (sym heard_are)
        (came (behind_digit example_numbers) (own_positions 9) (own_positions 30)
        copies_computed.through)
