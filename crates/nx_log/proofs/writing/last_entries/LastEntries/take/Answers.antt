use Rattle.std.proofs.Common.{◌≡◌, ◌∷◌, ◌++◌, [], not, ap, sym, subst, ◌∙◌, rules}
use Rattle.std.specs.Prelude.{filter}
use Rattle.nx_log.specs.LogRun.{IsInForm}
use Rattle.nx_log.specs.private.Heads.{head_replaces}
use Rattle.nx_log.specs.private.Held.{AreHeld, IsHeldAs, not_replaced}
use Rattle.nx_log.specs.declared.writing.last_entries.HeldEntry.{HeldEntry}
use Rattle.nx_log.proofs.lemmas.runs.Outputs.{AllZip-append}
use Rattle.nx_log.proofs.lemmas.runs.Replacing.{AllZip-filter, last-more, last_entries, replaces-by-heads, stays}
use Rattle.nx_log.proofs.writing.last_entries.LastEntries.take.Goals as goal

pub returns : goal.returns
returns c = λ form one entries said is held.
    let head = c.args.head in
    let items = c.args.self.now.entries.items in
    let new : HeldEntry = record { head = head; text = c.in_ok-text.text } in
    let text : c.in_ok-text.text.items ≡ c.args.text.now = search rules in
    let kept = filter (stays one) (last_entries entries) in
    let all : c.push.new.self.items ≡ not_replaced head items ++ new ∷ [] =
    c.in_ok-push.ensures.items ∙ ap (λ l. l ++ new ∷ []) c.let_go.ensures in
    subst (λ l. AreHeld form l c.push.new.self.items) (sym (last-more entries one))
    (subst (AreHeld form (kept ++ one ∷ [])) (sym all)
    (AllZip-append (IsHeldAs form) kept (one ∷ []) (not_replaced head items) (new ∷ [])
    (AllZip-filter (IsHeldAs form) (stays one) (λ (x : HeldEntry). not (head_replaces head x.head))
    (λ x y h. ap not (sym (replaces-by-heads head y.head one.one x.one said h.head)))
    (last_entries entries)
    items held)
    (record { head = said; text = subst (IsInForm form one) (sym text) is }, tt)))
