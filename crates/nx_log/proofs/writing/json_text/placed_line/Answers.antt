use Rattle.std.proofs.Common.{◌≡◌, ◌++◌, codes, subst, sym, ap, ◌∙◌}
use Rattle.json.specs.Print.{escape}
use Rattle.nx_copies.specs.copies.Printing.{is_good}
use Rattle.nx_log.proofs.lemmas.texts.JsonTexts.{json-line}
use Rattle.nx_log.specs.Json.{IsPlacedLine}
use Rattle.nx_log.specs.Times.{joined}
use Rattle.nx_log.specs.View.{copy_said}
use Rattle.nx_log.specs.private.JsonParts.{json_front, json_middle, json_tail}
use Rattle.nx_log.proofs.writing.json_text.placed_line.Goals as goal

pub returns : goal.returns
returns c =
    let view = c.args.view.now in
    let seen = c.requires.1 in
    let civil = c.json_tail-tail.ensures.0 in
    let text = escape view.text.now in
    let good = is_good (copy_said view.head view.text.now).copy in
    let start = json_front view.head good in
    let rest = json_middle view.head c.args.places in
    let tail = json_tail (joined civil ++ codes "Z") in
    let is : c.is_good.result ≡ good = c.is_good.ensures view.text.now seen.errors seen.characters in
    let front : c.as_slice.result.now ≡ start =
    c.as_slice.ensures.value ∙ c.json_front-front.ensures ∙ ap (json_front view.head) is in
    let middle : c.as_slice-2.result.now ≡ rest =
    c.as_slice-2.ensures.value ∙ c.json_middle-middle.ensures in
    let last : c.as_slice-3.result.now ≡ tail =
    c.as_slice-3.ensures.value ∙ c.json_tail-tail.ensures.2 in
    let items : c.append-3.new.text.items ≡ ((start ++ rest) ++ text) ++ tail =
    c.append-3.ensures.items
    ∙ ap (λ l. l ++ c.as_slice-3.result.now)
    (c.append_escaped.ensures.items ∙ ap (λ l. l ++ text)
    (c.append-2.ensures.items ∙ ap (λ l. l ++ c.as_slice-2.result.now)
    (c.append.ensures.items ∙ ap (λ l. l ++ c.as_slice.result.now) c.new-line.ensures ∙ front)
    ∙ ap (λ l. start ++ l) middle))
    ∙ ap (λ l. ((start ++ rest) ++ text) ++ l) last in
    subst (IsPlacedLine (copy_said view.head view.text.now) c.args.places) (sym items)
    (json-line view.head view.text.now c.args.places civil seen.errors seen.characters
    c.json_tail-tail.ensures.1)
