use Rattle.std.proofs.Common.{◌≡◌, ◌≢◌, ◌+◌, ◌-◌, ◌∷◌, ◌++◌, ◌∙◌, [], ap, arith, codes, drop, length, subst, sym, take, ℕ, List}
use Rattle.std.proofs.lemmas.List.{length-drop, length-take-le}
use Rattle.nx_memory.specs.StateText.{BeginsNoText, BeginsText}
use Rattle.nx_memory.proofs.lemmas.StateTexts.{new_begins}
use Rattle.nx_receiver.specs.air_file_runs.State.{ended_lines}
use Rattle.nx_handle.specs.private.Saving.{StandsNext}
use Rattle.nx_handle.proofs.lemmas.Saving.{first-fails, line-is, next-whole, rest-is}
use Rattle.nx_handle.proofs.saving.read_lines.Goals as goal

pub loop-count-init : goal.loop-count-init
loop-count-init c = record {
  within = omega arith;
  begins = subst BeginsText (sym c.requires) new_begins;
  whole = ap (λ (l : List (List ℕ)). ended_lines l ++ c.args.bytes.now) (sym c.requires);
}

pub returns-in-Err-clause-err : goal.returns-in-Err-clause-err
returns-in-Err-clause-err c =
    let bytes = c.args.bytes.now in
    let at = c.loop-count.at in
    first-fails bytes (take (length bytes - at) (drop at bytes)) c.loop-count.text
    c.in-Err.status
    (c.loop-count.invariant.whole
    ∙ ap (λ r. ended_lines c.loop-count.text ++ r) (sym (rest-is bytes at)))
    c.loop-count.invariant.begins c.in-Err.ensures

pub returns-then-not-take-clause-ok : goal.returns-then-not-take-clause-ok
returns-then-not-take-clause-ok c =
    let bytes = c.args.bytes.now in
    let at = c.loop-count.at in
    let count = c.in-Ok.count in
    let lines = c.loop-count.text in
    let line = take count (take (length bytes - at) (drop at bytes)) in
    let first = c.in-Ok.ensures in
    let next : StandsNext lines line bytes = record {
      more = first.2.0;
      begins = c.loop-count.invariant.begins;
      short = first.1;
      whole = c.loop-count.invariant.whole
          ∙ ap (λ r. ended_lines lines ++ r) (sym (rest-is bytes at) ∙ first.2.1);
      refused = subst (λ (l : List ℕ). l ≢ codes "END" → BeginsNoText (lines ++ l ∷ []))
          (line-is bytes at count) (c.take.ensures.refused c.if-not-take.true);
    } in
    subst (λ (l : List (List ℕ)). StandsNext l (take (at + count - at) (drop at bytes)) bytes)
    (sym (c.take.ensures.unchanged c.if-not-take.true))
    (subst (λ (l : List ℕ). StandsNext lines l bytes) (sym (line-is bytes at count)) next)

pub loop-count-preserved : goal.loop-count-preserved
loop-count-preserved c =
    let bytes = c.args.bytes.now in
    let at = c.loop-count.at in
    let count = c.in-Ok.count in
    let rest = take (length bytes - at) (drop at bytes) in
    let first = c.in-Ok.ensures in
    let line = take count rest in
    record {
      within = omega (arith, first.0, ap length (rest-is bytes at), length-drop at bytes);
      begins = c.take.ensures.begins;
      whole = subst (λ (l : List (List ℕ)). bytes ≡ ended_lines l ++ drop (at + (count + 1)) bytes)
          (sym (c.take.ensures.taken c.if-not-take.false
          ∙ ap (λ (l : List ℕ). c.loop-count.text ++ l ∷ []) (line-is bytes at count)))
          (next-whole bytes at count line first.2.0 c.loop-count.text c.loop-count.invariant.whole
          (sym (rest-is bytes at) ∙ first.2.1)
          (length-take-le count rest (omega (arith, first.0))));
    }

pub loop-count-smaller : goal.loop-count-smaller
loop-count-smaller c =
    let bytes = c.args.bytes.now in
    let at = c.loop-count.at in
    let first = c.in-Ok.ensures in
    omega (arith, first.0, ap length (rest-is bytes at), length-drop at bytes)
