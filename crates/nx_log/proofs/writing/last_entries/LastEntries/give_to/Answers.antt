use Rattle.std.proofs.Common.{◌≡◌, ◌∷◌, ◌++◌, ◌+◌, ◌<◌, [], ℕ, List, length, get_or, take, drop, ap, sym, subst, ◌∙◌, rules, append_assoc, append-nil}
use Rattle.std.specs.Prelude.{map}
use Rattle.std.specs.List.{concat}
use Rattle.std.proofs.lemmas.List.{map-append, take_more, take-append-drop}
use Rattle.std.proofs.lemmas.List.Folds.{concat-append}
use Rattle.std.proofs.lemmas.Result.{err_from_is_err_and}
use Rattle.nx_fec.specs.air_files.LineRuns.{HasGiven}
use Rattle.nx_fec.specs.Transfers.{WroteSome}
use Rattle.nx_fec.proofs.lemmas.devices.WritingLaws.{WroteSome-front}
use Rattle.nx_log.specs.private.Held.{held_text}
use Rattle.nx_log.specs.declared.writing.last_entries.HeldEntry.{HeldEntry}
use Rattle.nx_log.proofs.writing.last_entries.LastEntries.give_to.Goals as goal

-- the texts with one more
next_texts : (all : List HeldEntry) (i : ℕ) (one : HeldEntry) (before text : List ℕ)
    → i < length all → get_or all i one ≡ one → text ≡ one.text.items
    → (before ++ concat (map held_text (take i all))) ++ text
    ≡ before ++ concat (map held_text (take (i + 1) all))
next_texts all i one before text short here is =
    let front = concat (map held_text (take i all)) in
    append_assoc before front text
    ∙ ap (λ l. before ++ (front ++ l)) (is ∙ sym (append-nil one.text.items))
    ∙ ap (λ l. before ++ l) (sym (concat-append (map held_text (take i all)) (held_text one ∷ [])))
    ∙ ap (λ l. before ++ concat l) (sym (map-append held_text (take i all) (one ∷ [])))
    ∙ ap (λ x. before ++ concat (map held_text (take i all ++ x ∷ []))) (sym here)
    ∙ ap (λ l. before ++ concat (map held_text l)) (sym (take_more all i one short))

-- and those behind them
all_texts : (all : List HeldEntry) (n : ℕ) (before : List ℕ)
    → (before ++ concat (map held_text (take n all))) ++ concat (map held_text (drop n all))
    ≡ before ++ concat (map held_text all)
all_texts all n before =
    append_assoc before (concat (map held_text (take n all)))
    (concat (map held_text (drop n all)))
    ∙ ap (λ l. before ++ l)
    (sym (concat-append (map held_text (take n all)) (map held_text (drop n all)))
    ∙ ap concat (sym (map-append held_text (take n all) (drop n all)))
    ∙ ap (λ l. concat (map held_text l)) (take-append-drop n all))

pub returns-in_err-give-clause-given : goal.returns-in_err-give-clause-given
returns-in_err-give-clause-given g c = λ first before h.
    let p = err_from_is_err_and c.from_residual.result c.from_residual.ensures.1 in
    let all = c.args.self.now.entries.items in
    let i = c.loop-held.held-index in
    let one = c.held-item.result in
    let short : i < length all = search rules in
    let here : get_or all i one ≡ one =
    sym (c.held-item.is ∙ ap (λ xs. get_or xs i one) c.deref-held-items.ensures.value) in
    let wrote = c.in_err-give.ensures.bytes first
    (before ++ concat (map held_text (take i all))) (c.loop-held.invariant.given first before h) in
    let next = next_texts all i one before c.deref.result.now
    short here c.deref.ensures.value in
    let now = g.W.Write.contents c.give.new.writer.inner in
    let count = c.in_err-give.field-0.0.written in
    rw p.1 (rw p.2 (subst (λ l. WroteSome first now l count) (all_texts all (i + 1) before)
    (WroteSome-front first now (before ++ concat (map held_text (take (i + 1) all)))
    (concat (map held_text (drop (i + 1) all))) count
    (subst (λ l. WroteSome first now l count) next wrote))))

pub loop-held-preserved : goal.loop-held-preserved
loop-held-preserved g c =
    let all = c.args.self.now.entries.items in
    let i = c.loop-held.held-index in
    let one = c.held-item.result in
    let short : i < length all = search rules in
    let here : get_or all i one ≡ one =
    sym (c.held-item.is ∙ ap (λ xs. get_or xs i one) c.deref-held-items.ensures.value) in
    record {
      writer = c.in_ok-give.ensures.counts.none;
      given = λ first before h.
          subst (HasGiven first (g.W.Write.contents c.give.new.writer.inner) c.give.new.self)
          (next_texts all i one before c.deref.result.now
          short here c.deref.ensures.value)
          (c.in_ok-give.ensures.bytes first (before ++ concat (map held_text (take i all)))
          (c.loop-held.invariant.given first before h));
    }
