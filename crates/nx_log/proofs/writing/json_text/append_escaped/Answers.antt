use Rattle.std.proofs.Common.{◌≡◌, ◌+◌, ◌-◌, ◌++◌, ◌∷◌, [], Some, None, length, take, drop, ap, sym, subst, ◌∙◌, append_assoc, arith, length-append, length-drop}
use Rattle.std.proofs.lemmas.List.{length-take-le, take_rest}
use Rattle.json.specs.Print.{escape}
use Rattle.memchr.specs.Find.{IsFirstByte, is_byte}
use Rattle.nx_log.proofs.lemmas.texts.JsonTexts.{escape-last, escape-line, whole_line}
use Rattle.nx_log.proofs.writing.json_text.append_escaped.Goals as goal

pub loop-end-preserved : goal.loop-end-preserved
loop-end-preserved c =
    let text = c.args.text.now in
    let old = c.args.line.now.items in
    let at = c.loop-end.at in
    let end = c.in-Some.end in
    let found = subst (λ l. IsFirstByte (is_byte 10) l (Some end)) (take_rest text at)
    c.in-Some.ensures in
    let piece = take (at + end - at) (drop at text) in
    let is : piece ≡ take end (drop at text) = ap (λ n. take n (drop at text)) (omega arith) in
    let long : length piece ≡ end =
    ap length is ∙ length-take-le end (drop at text) (omega (arith, found.0.high)) in
    let line = ap length c.append.ensures.items ∙ length-append c.loop-end.line.items piece in
    let all = ap length c.append-in-Some.ensures.items
    ∙ length-append c.append.new.text.items (92 ∷ 110 ∷ []) in
    record {
      within = omega (arith, found.0.high, length-drop at text, c.loop-end.invariant.within);
      items = c.append-in-Some.ensures.items
          ∙ ap (λ l. l ++ 92 ∷ 110 ∷ [])
          (c.append.ensures.items ∙ ap (λ l. l ++ piece) c.loop-end.invariant.items)
          ∙ whole_line old (escape (take at text)) piece (92 ∷ 110 ∷ [])
          ∙ ap (λ l. old ++ ((escape (take at text) ++ l) ++ 92 ∷ 110 ∷ [])) is
          ∙ ap (λ l. old ++ l) (sym (escape-line text at end c.requires.text found));
      few = omega (arith, all, line, long, c.loop-end.invariant.few);
    }

pub returns-clause-items : goal.returns-clause-items
returns-clause-items c =
    let text = c.args.text.now in
    let old = c.args.line.now.items in
    let at = c.loop-end.at in
    let none = subst (IsFirstByte (is_byte 10) (take (length text - at) (drop at text)))
    c.in_default.is c.memchr.ensures in
    let none' = subst (λ l. IsFirstByte (is_byte 10) l None) (take_rest text at) none in
    c.append-2.ensures.items
    ∙ ap (λ l. l ++ take (length text - at) (drop at text)) c.loop-end.invariant.items
    ∙ ap (λ l. (old ++ escape (take at text)) ++ l) (take_rest text at)
    ∙ append_assoc old (escape (take at text)) (drop at text)
    ∙ ap (λ l. old ++ l) (sym (escape-last text at c.requires.text none'))
