use Rattle.std.proofs.Common.{◌≡◌, ◌∷◌, ◌++◌, [], ℕ, List, refl, subst, ◌∙◌, append_assoc}
use Rattle.std.specs.Prelude.{MatchResult}
use Rattle.std.proofs.lemmas.Result.{err_from_is_err_and}
use Rattle.nx_code.specs.Reading.{newline}
use Rattle.nx_fec.specs.air_files.LineRuns.{HasGiven}
use Rattle.nx_fec.specs.Transfers.{WroteSome}
use Rattle.nx_fec.proofs.lemmas.devices.WritingLaws.{WroteSome-front}
use Rattle.nx_copies.specs.copies.Log.{missing_newline}
use Rattle.nx_copies.proofs.lemmas.printing.Log.{entry_of_parts}
use Rattle.nx_copies.proofs.writing.give_entry.Goals as goal

joined : (a b c d : List ℕ) → ((a ++ b) ++ c) ++ d ≡ a ++ ((b ++ c) ++ d)
joined a b c d = simp append_assoc

joined_twice : (a b c d : List ℕ) → (a ++ b) ++ (c ++ d) ≡ a ++ ((b ++ c) ++ d)
joined_twice a b c d = simp append_assoc

pub returns-in_err-give-clause-given : goal.returns-in_err-give-clause-given
returns-in_err-give-clause-given g c =
    let text = c.args.text.now in
    let line = c.as_slice.result.now in
    let end = missing_newline text ++ newline ∷ [] in
    let is = entry_of_parts c.args.head.now text c.args.channel
    c.head_line-line.ensures.0 line end c.head_line-line.ensures.1
    (c.as_slice.ensures.value ∙ c.head_line-line.ensures.2) refl in
    let p = err_from_is_err_and c.from_residual.result c.from_residual.ensures.1 in (
      line ++ text ++ end,
      is,
      λ old before w. rw p.1 (rw p.2
          (subst (λ bs. WroteSome old (g.W.Write.contents c.give.new.writer.inner) bs
          c.in_err-give.field-0.0.written) (joined_twice before line text end)
          (WroteSome-front old (g.W.Write.contents c.give.new.writer.inner) (before ++ line)
          (text ++ end) c.in_err-give.field-0.0.written
          (c.in_err-give.ensures.bytes old before w)))),
    )

pub returns-in_err-give-2-clause-given : goal.returns-in_err-give-2-clause-given
returns-in_err-give-2-clause-given g c =
    let text = c.args.text.now in
    let line = c.as_slice.result.now in
    let end = missing_newline text ++ newline ∷ [] in
    let is = entry_of_parts c.args.head.now text c.args.channel
    c.head_line-line.ensures.0 line end c.head_line-line.ensures.1
    (c.as_slice.ensures.value ∙ c.head_line-line.ensures.2) refl in
    let p = err_from_is_err_and c.from_residual-in_err-give-2.result
    c.from_residual-in_err-give-2.ensures.1 in (
      line ++ text ++ end,
      is,
      λ old before w. rw p.1 (rw p.2
          (subst (λ bs. WroteSome old (g.W.Write.contents c.give-2.new.writer.inner) bs
          c.in_err-give-2.field-0.0.written) (joined before line text end)
          (WroteSome-front old (g.W.Write.contents c.give-2.new.writer.inner)
          ((before ++ line) ++ text) end c.in_err-give-2.field-0.0.written
          (c.in_err-give-2.ensures.bytes old (before ++ line)
          (c.in_ok-give.ensures.bytes old before w))))),
    )

pub returns-clause-given : goal.returns-clause-given
returns-clause-given g c =
    let text = c.args.text.now in
    let line = c.as_slice.result.now in
    let end = c.entry_end-end.result.now in
    let is = entry_of_parts c.args.head.now text c.args.channel
    c.head_line-line.ensures.0 line end c.head_line-line.ensures.1
    (c.as_slice.ensures.value ∙ c.head_line-line.ensures.2) c.entry_end-end.ensures.end in (
      line ++ text ++ end,
      is,
      λ old before w. subst (λ bs. MatchResult c.give-3.result
          (λ _. HasGiven old (g.W.Write.contents c.give-3.new.writer.inner) c.give-3.new.self bs)
          (λ fault. WroteSome old (g.W.Write.contents c.give-3.new.writer.inner) bs fault.written))
          (joined before line text end)
          (c.give-3.ensures.bytes old ((before ++ line) ++ text)
          (c.in_ok-give-2.ensures.bytes old (before ++ line)
          (c.in_ok-give.ensures.bytes old before w))),
    )
