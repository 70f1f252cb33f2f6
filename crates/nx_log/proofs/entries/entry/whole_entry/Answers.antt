use Rattle.std.proofs.Common.{◌≡◌, ◌≤◌, [], ◌∷◌, ◌++◌, ap, append-nil, arith, length, length-append, subst, sym, take, ◌∙◌}
use Rattle.std.proofs.lemmas.List.{length-take-le, take-append-le, take_all}
use Rattle.nx_envelope.specs.Copies.{errors_of}
use Rattle.nx_code.specs.Reading.{newline}
use Rattle.nx_copies.specs.copies.Log.{missing_newline}
use Rattle.nx_log.specs.Logged.{IsLoggedAs}
use Rattle.nx_log.specs.View.{copy_said}
use Rattle.nx_log.specs.declared.entries.head.LoggedHead.{LoggedHead}
use Rattle.nx_log.proofs.lemmas.beginnings.Wholes.{none_begins}
use Rattle.nx_log.proofs.lemmas.reading.Entries.{begins_with_head, head_is, head_of, one_head, same_copy}
use Rattle.nx_log.proofs.entries.entry.whole_entry.Goals as goal

pub unreachable-requires : goal.unreachable-requires
unreachable-requires c =
    none_begins c.args.bytes.now c.in_default.field-0 c.in_default.ensures.lacks c.requires.0
    c.args.bytes.now [] c.requires.1 (sym (append-nil c.args.bytes.now))

pub slice_bounds-result-end : goal.slice_bounds-result-end
slice_bounds-result-end c =
    let one = c.requires.0 in
    let bytes = c.args.bytes.now in
    let found = c.in-Ok.ensures.found in
    let same = one_head bytes c.in-Ok.head (head_of one) _ _ found.1
    (head_is one c.requires.1.logged)
    found.0 (begins_with_head one bytes [] bytes c.requires.1 (sym (append-nil bytes))) in
    let text = one.copy.text in
    let count : c.from.result ≡ length text = c.from.ensures
    ∙ ap (λ (h : LoggedHead). h.characters) same.piece in
    let long : length c.in-Ok.rest.now ≡ length
    (text ++ (missing_newline text ++ (newline ∷ []))) =
    ap length same.rest in
    let within : c.from.result ≤ length c.in-Ok.rest.now =
    omega (arith, count, long, length-append text (missing_newline text ++ (newline ∷ []))) in
    omega (arith, within, length-take-le c.from.result c.in-Ok.rest.now within)

pub returns : goal.returns
returns c =
    let one = c.requires.0 in
    let l = c.requires.1 in
    let bytes = c.args.bytes.now in
    let found = c.in-Ok.ensures.found in
    let same = one_head bytes c.in-Ok.head (head_of one) _ _ found.1 (head_is one l.logged)
    found.0
    (begins_with_head one bytes [] bytes l (sym (append-nil bytes))) in
    let text = one.copy.text in
    let count = c.from.ensures ∙ ap (λ (h : LoggedHead). h.characters) same.piece in
    let is : take c.from.result c.in-Ok.rest.now ≡ text =
    ap (λ n. take n c.in-Ok.rest.now) count ∙ ap (take (length text)) same.rest
    ∙ take-append-le (length text) text (missing_newline text ++ (newline ∷ [])) (omega arith)
    ∙ take_all (length text) text (omega arith) in
    let copy = same_copy (copy_said c.in-Ok.head (take c.from.result c.in-Ok.rest.now)) one
    (ap (λ (h : LoggedHead). h.channel) same.piece)
    (ap (λ (h : LoggedHead). h.identity) same.piece)
    (ap (λ (h : LoggedHead). h.how) same.piece) is
    (ap (λ (h : LoggedHead). h.moment) same.piece) (sym l.logged.selected) in
    record {
      within = omega arith;
      entry = subst (λ o. IsLoggedAs o (take (length bytes) bytes)) (sym copy)
          (subst (IsLoggedAs one) (sym (take_all (length bytes) bytes (omega arith))) l);
      errors = ap (λ (h : LoggedHead). h.errors) same.piece ∙ sym (ap errors_of is);
      characters = ap (λ (h : LoggedHead). h.characters) same.piece ∙ sym (ap length is);
    }
