use Rattle.std.proofs.Common.{◌≡◌, ◌+◌, ◌++◌, sym, ap, ◌∙◌, length, map, take, arith}
use Rattle.std.proofs.lemmas.List.{take_all, length-take-le}
use Rattle.nx_fec.specs.emissions.Emission.{bits_of, emission, sent_position}
use Rattle.nx_fec.proofs.lemmas.emissions.Emission.{slice_get-within, slice_get-past, bits_of-more}
use Rattle.nx_fec.proofs.lemmas.emissions.RoundTrip.{length-bits_of}
use Rattle.nx_fec.proofs.emissions.emission.to_bits.Goals as goal

pub loop-word-init : goal.loop-word-init
unfolding bits_of
loop-word-init c = record { within = omega arith; written = c.new-bits.ensures.items }

-- the elements so far with those of this slot
written_more : (c : goal.In_ok-extend_from_slice)
    → c.extend_from_slice.new.self.items
    ≡ bits_of (take (c.loop-word.slot + 1) (emission (map sent_position c.args.positions.now)))
written_more c =
    let sent = emission (map sent_position c.args.positions.now) in
    let slot = c.loop-word.slot in
    c.in_ok-extend_from_slice.ensures.items
    ∙ ap (λ l. l ++ c.elements.result) c.loop-word.invariant.written
    ∙ ap (λ l. bits_of (take slot sent) ++ l) c.elements.ensures
    ∙ sym (bits_of-more sent slot c.in-Some.word (sym c.in-Some.ensures))

pub overflow_add-slot : goal.overflow_add-slot
overflow_add-slot c =
    let sent = emission (map sent_position c.args.positions.now) in
    let within = slice_get-within sent c.loop-word.slot c.in-Some.word (sym c.in-Some.ensures) in
    let words = length-take-le (c.loop-word.slot + 1) sent (omega arith) in
    let bits = ap length (written_more c) ∙ length-bits_of (take (c.loop-word.slot + 1) sent) in
    let small = c.extend_from_slice.new.self.small in
    let ok = c.extend_from_slice.new.self.ok in
    omega arith

pub loop-word-smaller : goal.loop-word-smaller
loop-word-smaller c =
    let sent = emission (map sent_position c.args.positions.now) in
    let within = slice_get-within sent c.loop-word.slot c.in-Some.word (sym c.in-Some.ensures) in
    omega arith

pub loop-word-preserved : goal.loop-word-preserved
loop-word-preserved c =
    let sent = emission (map sent_position c.args.positions.now) in
    let within = slice_get-within sent c.loop-word.slot c.in-Some.word (sym c.in-Some.ensures) in
    record { within = omega arith; written = written_more c }

pub returns : goal.returns
returns c =
    let sent = emission (map sent_position c.args.positions.now) in
    let past = slice_get-past sent c.loop-word.slot (sym c.in_default.ensures) in
    c.loop-word.invariant.written ∙ ap bits_of (take_all c.loop-word.slot sent past)
