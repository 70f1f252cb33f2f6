use Rattle.std.proofs.Common.{slice_index, ◌≡◌, ◌+◌, ◌*◌, ◌++◌, sym, ap, subst, ◌∙◌, arith}
use Rattle.std.specs.Option.{option_to_list}
use Rattle.std.proofs.lemmas.Grind.{common_steps}
use Rattle.nx_code.specs.Reading.{shift_after_all, text}
use Rattle.nx_code.specs.Taken.{reception_of}
use Rattle.nx_code.specs.declared.shifts.Shift.TheVariants.{Letters}
use Rattle.nx_fec.specs.emissions.Pairing.{IsLatest, counts_as, pairing, heard_as, five_before}
use Rattle.nx_fec.specs.emissions.Aligned.{dx_words, words_of, taken_at}
use Rattle.nx_fec.proofs.lemmas.emissions.Aligned.{taken_first, get_or-words_of, dx_words-more}
use Rattle.nx_fec.proofs.lemmas.emissions.Aligned.{taken_first-more, third_last-pairs, taken_first-all}
use Rattle.nx_fec.proofs.lemmas.emissions.Aligned.{taken_at-pairing}
use Rattle.nx_fec.proofs.emissions.aligned.decode_aligned.Goals as goal
use Rattle.nx_fec.proofs.emissions.aligned.decode_aligned.Goals.{in-Some+in_ok-map_err, in_default}

pub loop-position-init : goal.loop-position-init
unfolding dx_words
loop-position-init c = record {
  given = c.new-diversity.ensures;
  shift = c.new-printer.ensures;
  printed =
      c.new-text.ensures.items;
}

pub loop-position-preserved : goal.loop-position-preserved
loop-position-preserved c =
    let words = words_of c.args.bits.now in
    let n = c.loop-position.position in
    let dx : heard_as c.of.result ≡ counts_as (slice_index words (2 * n)) =
    c.of.ensures.counts ∙ ap counts_as
    (c.word_of_slot.ensures ∙ sym (get_or-words_of c.args.bits.now (2 * n) (omega arith))) in
    let rx : heard_as c.of-in-loop-position.result ≡ counts_as (slice_index words (2 * n + 1)) =
    c.of-in-loop-position.ensures.counts
    ∙ ap counts_as (c.word_of_slot-in-loop-position.ensures
    ∙ sym (get_or-words_of c.args.bits.now (2 * n + 1) (omega arith))) in
    let given : IsLatest c.dx.new.self (dx_words words 0 (n + 1)) =
    subst (IsLatest c.dx.new.self)
    (dx_words-more words 0 n (heard_as c.of.result)
    (dx ∙ ap (λ k. counts_as (slice_index words k))
    (let e : 2 * n ≡ 2 * n + 0 = omega arith in e)))
    (c.dx.ensures.stands (dx_words words 0 n) c.loop-position.invariant.given) in
    let taken : reception_of c.rx-taken.result ≡ taken_at words (2 * n + 1) =
    c.rx-taken.ensures.stands (dx_words words 0 (n + 1)) given
    ∙ ap (λ x. pairing x (heard_as c.of-in-loop-position.result)) (third_last-pairs words n)
    ∙ ap (pairing (five_before (slice_index words) (2 * n + 1))) rx
    ∙ sym (taken_at-pairing words n) in
    let more = taken_first-more words n (reception_of c.rx-taken.result) taken in
    let read = c.step.ensures.reading (taken_first words n) c.loop-position.invariant.shift in
    let printed : c.match-step.text.items
    ≡ c.loop-position.text.items ++ option_to_list c.step.result =
    elim c.match-step.branch [
      | in-Some+in_ok-map_err w ↦
          grind (arith, common_steps)
      | in_default w ↦ grind (arith, common_steps)
    ] in
    record {
      given = subst (λ d. IsLatest d (dx_words words 0 (n + 1))) (sym c.rx-taken.ensures.unchanged)
          given;
      shift = read.0 ∙ ap (λ l. shift_after_all l Letters) more;
      printed = printed ∙ ap (λ l. l ++ option_to_list c.step.result)
          c.loop-position.invariant.printed ∙ sym read.1 ∙ ap (λ l. text l Letters) more;
    }

pub returns-clause-text : goal.returns-clause-text
returns-clause-text c =
    c.loop-position.invariant.printed
    ∙ ap (λ l. text l Letters)
    (taken_first-all c.args.bits.now c.loop-position.position (omega arith))
