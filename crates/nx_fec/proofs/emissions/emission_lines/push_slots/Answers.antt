use Rattle.std.proofs.Common.{◌≡◌, ◌+◌, ◌-◌, ◌*◌, ◌<◌, ◌≤◌, ◌∙◌, [], ◌∷◌, ◌++◌, ap, sym, subst}
use Rattle.std.proofs.Common.{arith, refl, length, map, min, take}
use Rattle.std.proofs.lemmas.List.{length-map}
use Rattle.nx_code.specs.Word.{elements}
use Rattle.nx_fec.specs.air_files.AirFile.{element_digit}
use Rattle.nx_fec.specs.emissions.Emission.{bits_of, dx_word, rx_word, sent_position, word_sent}
use Rattle.nx_fec.proofs.lemmas.emissions.Emission.{sent_position-at, word_sent-dx, word_sent-rx}
use Rattle.nx_fec.proofs.lemmas.emissions.EmissionLine.{line-slots, position-written, position-written-long}
use Rattle.nx_fec.proofs.lemmas.emissions.EmissionLine.{slot_digits, slot_digits-fewer}
use Rattle.nx_fec.proofs.emissions.emission_lines.push_slots.Goals as goal
use Rattle.nx_fec.proofs.emissions.emission_lines.push_slots.Goals.{then-first-count, else-first-count}

pub loop-place-init : goal.loop-place-init
unfolding bits_of
loop-place-init c =
    let f = word_sent (map sent_position c.args.positions.now) in
    let one : 2 * (35 * c.args.index) + 1 ≡ 70 * c.args.index + 0 + 1 = omega arith in
    let two : 2 * (35 * c.args.index + 1) + 1 ≡ 70 * c.args.index + 2 + 1 = omega arith in
    record {
      size = refl;
      same = refl;
      behind = c.digits_of-behind.ensures
          ∙ ap (λ w. map element_digit (elements w)) (c.rx_behind.ensures ∙ ap f one);
      behind_next = c.digits_of-behind_next.ensures
          ∙ ap (λ w. map element_digit (elements w)) (c.rx_behind-2.ensures ∙ ap f two);
    }

pub loop-place-preserved : goal.loop-place-preserved
loop-place-preserved c =
    let positions = c.args.positions.now in
    let index = c.args.index in
    let place = c.loop-place.place in
    let f = word_sent (map sent_position positions) in
    let so_far = c.loop-place.invariant in
    let below : place < 35 = omega (arith, c.loop-place-test.true, c.min-count.ensures) in
    let inside : 35 * index + place < length positions =
    omega (arith, c.loop-place-test.true, c.min-count.ensures, c.requires.some) in
    let first = c.copy_from_slice.ensures.after ∙ c.to_le_bytes.ensures in
    let second = c.copy_from_slice-in-loop-place.ensures.after
    ∙ c.to_le_bytes-in-loop-place.ensures in
    let a : length c.copy_from_slice.new.self ≡ 8 = ap length first in
    let b : length c.copy_from_slice-in-loop-place.new.self ≡ 8 = ap length second in
    let even : 2 * (35 * index + place) ≡ 70 * index + 2 * place = omega arith in
    let later : 2 * (35 * index + place) + 5 ≡ 70 * index + 2 * (place + 1 + 1) + 1 = omega arith in
    let position = c.index-positions-first.result in
    let here = sent_position-at positions (35 * index + place) position inside
    c.index-positions-first.is in
    let dx : dx_word (sent_position position) ≡ f (70 * index + 2 * place) = ap dx_word here
    ∙ sym (word_sent-dx (map sent_position positions) (35 * index + place)) ∙ ap f even in
    let rx : rx_word (sent_position position) ≡ f (70 * index + 2 * (place + 1 + 1) + 1) =
    ap rx_word here
    ∙ sym (word_sent-rx (map sent_position positions) (35 * index + place)) ∙ ap f later in
    let j : 14 * place + 8 - 14 * place ≡ 8 = omega arith in
    let k : 14 * place + 7 + 8 - (14 * place + 7) ≡ 8 = omega arith in
    record {
      size = position-written-long place _ _ c.loop-place.digits _ _ j k a b so_far.size below;
      same = position-written f (70 * index) place _ _ (dx_word (sent_position position))
          (f (70 * index + 2 * place + 1)) c.loop-place.digits _ _ j a b so_far.size below
          (ap (take 7) first ∙ c.digits_sent-dx.ensures.dx)
          (ap (take 7) second ∙ so_far.behind) dx refl so_far.same;
      behind = so_far.behind_next;
      behind_next = c.digits_sent-dx.ensures.rx
          ∙ ap (λ w. map element_digit (elements w)) rx;
    }

pub returns : goal.returns
returns c =
    let positions = c.args.positions.now in
    let index = c.args.index in
    let sent = map sent_position positions in
    let count = c.min-count.result in
    let slots = c.if-first-count.slots in
    let size = length-map positions sent_position in
    let done : c.loop-place.place ≡ count =
    omega (arith, c.loop-place-test.false, c.loop-place.auto.place-end) in
    let is : slots ≡ min 70 (2 * length sent - 1 - 70 * index) = elim c.if-first-count.branch [
      | then-first-count w ↦ omega
          (arith, size, w.slots-is, w.if-first-count.true, c.min-count.ensures, c.requires.some)
      | else-first-count w ↦ omega
          (arith, size, w.slots-is, w.if-first-count.false, c.min-count.ensures, c.requires.some)
    ] in
    let f = word_sent sent in
    let digits = c.loop-place.digits in
    let e : 14 * count ≡ 7 * (2 * count) = omega arith in
    let so_far = subst (λ p. take (14 * p) digits ≡ slot_digits f (70 * index) (2 * p)) done
    c.loop-place.invariant.same in
    let whole : take (7 * (2 * count)) digits ≡ slot_digits f (70 * index) (2 * count) =
    ap (λ n. take n digits) (sym e) ∙ so_far in
    let few : slots ≤ 2 * count = omega (arith, is, size, c.min-count.ensures, c.requires.some) in
    let line = slot_digits-fewer f (70 * index) slots (2 * count) digits few whole
    ∙ ap (map element_digit) (sym
    (line-slots sent index slots (omega (arith, size, c.requires.some)) is)) in
    c.push_digits.ensures ∙ ap (λ d. c.args.batch.now ++ (66 ∷ 32 ∷ (d ++ 10 ∷ []))) line
