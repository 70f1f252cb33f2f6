use Rattle.std.proofs.Common.{◌+◌, ◌∷◌, ◌∙◌, [], inl, inr, append_assoc, arith, drop, refl, subst, sym, take}
use Rattle.std.specs.Prelude.{slice_index_or}
use Rattle.std.proofs.lemmas.List.{length-take-le, take_all}
use Rattle.nx_code.specs.Reading.{newline}
use Rattle.nx_memory.specs.StateText.{IsShortLine}
use Rattle.nx_handle.proofs.lemmas.Saving.{less-than, short-more, split-at}
use Rattle.nx_handle.proofs.saving.first_line.Goals as goal

pub loop-count-init : goal.loop-count-init
loop-count-init c = record {
  within = omega arith;
  few = omega arith;
  short = record { short = omega arith; one_line = tt };
}

pub returns-then-bytes-count-eq10 : goal.returns-then-bytes-count-eq10
returns-then-bytes-count-eq10 c =
    let bytes = c.args.bytes.now in
    let n = c.loop-count.count in (
      c.loop-count-test.true,
      c.loop-count.invariant.short,
      (
        drop (n + 1) bytes,
        split-at bytes n 10 c.loop-count-test.true c.if-bytes-count-eq10.true
            ∙ sym (append_assoc (take n bytes) (newline ∷ []) (drop (n + 1) bytes)),
      ),
    )

pub returns-then-count-eq-MAX_STATE_LINE : goal.returns-then-count-eq-MAX_STATE_LINE
returns-then-count-eq-MAX_STATE_LINE c =
    let bytes = c.args.bytes.now in
    let n = c.loop-count.count in
    let byte = slice_index_or bytes n 0 in
    inl (
      refl,
      (
        take n bytes,
        byte,
        drop (n + 1) bytes,
        c.loop-count.invariant.short,
        length-take-le n bytes (omega (arith, c.loop-count-test.true))
            ∙ c.if-count-eq-MAX_STATE_LINE.true,
        c.if-bytes-count-eq10.false,
        split-at bytes n byte c.loop-count-test.true refl,
      ),
    )

pub loop-count-preserved : goal.loop-count-preserved
loop-count-preserved c =
    let few = less-than c.loop-count.count 16 c.loop-count.invariant.few
    c.if-count-eq-MAX_STATE_LINE.false in
    record {
      within = omega (arith, c.loop-count-test.true);
      few = few;
      short = short-more c.args.bytes.now c.loop-count.count c.loop-count-test.true few
          c.if-bytes-count-eq10.false c.loop-count.invariant.short;
    }

pub returns : goal.returns
returns c =
    inr (
      refl,
      subst IsShortLine (take_all c.loop-count.count c.args.bytes.now
          (omega (arith, c.loop-count-test.false, c.loop-count.invariant.within)))
          c.loop-count.invariant.short,
    )
