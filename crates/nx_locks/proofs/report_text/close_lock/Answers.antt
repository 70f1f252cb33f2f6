use Rattle.std.proofs.Common.{◌≡◌, ◌∷◌, ◌++◌, [], ℕ, List, ap, ◌∙◌, append_assoc, codes}
use Rattle.std.specs.Fmt.{decimal}
use Rattle.nx_locks.specs.ReportText.{closing_lines, how_name}
use Rattle.nx_locks.proofs.report_text.close_lock.Goals as goal

pieces : (s time how words n wrong w copies k end : List ℕ)
    → ((((((((((s ++ 91 ∷ []) ++ time) ++ 32 ∷ []) ++ how) ++ words) ++ n) ++ wrong) ++ w)
    ++ copies) ++ k) ++ end
    ≡ s ++ (91 ∷ time ++ 32 ∷ how ++ words ++ n ++ wrong ++ w ++ copies ++ k ++ end)
pieces s time how words n wrong w copies k end = simp append_assoc

same : (s time how words n wrong w copies k end how' n' w' k' : List ℕ) → how ≡ how' → n ≡ n'
    → w ≡ w' → k ≡ k'
    → s ++ (91 ∷ time ++ 32 ∷ how ++ words ++ n ++ wrong ++ w ++ copies ++ k ++ end)
    ≡ s ++ (91 ∷ time ++ 32 ∷ how' ++ words ++ n' ++ wrong ++ w' ++ copies ++ k' ++ end)
same s time how words n wrong w copies k end how' n' w' k' a b c d = cc

pub returns-clause-lines : goal.returns-clause-lines
unfolding closing_lines
returns-clause-lines c =
    let s = c.args.shown.now.items in
    let time = c.in-Some.time in
    let start = c.append-4.ensures.items
    ∙ ap (λ l. l ++ c.as_bytes.result.now)
    (c.append-3.ensures.items
    ∙ ap (λ l. l ++ 32 ∷ []) (c.append-2.ensures.items
    ∙ ap (λ l. l ++ time) c.append.ensures.items)) in
    let middle = c.append-8.ensures.items
    ∙ ap (λ l. l ++ c.as_bytes-3.result.now)
    (c.append-7.ensures.items
    ∙ ap (λ l. l ++ codes " wrong ")
    (c.append-6.ensures.items
    ∙ ap (λ l. l ++ c.as_bytes-2.result.now)
    (c.append-5.ensures.items ∙ ap (λ l. l ++ codes " words ") start))) in
    let all = c.append-11.ensures.items
    ∙ ap (λ l. l ++ codes "]\n\n")
    (c.append-10.ensures.items
    ∙ ap (λ l. l ++ c.as_bytes-4.result.now)
    (c.append-9.ensures.items ∙ ap (λ l. l ++ codes " copies ") middle)) in (
      time,
      c.in-Some.ensures.shown,
      all ∙ pieces s time c.as_bytes.result.now (codes " words ") c.as_bytes-2.result.now
          (codes " wrong ") c.as_bytes-3.result.now (codes " copies ") c.as_bytes-4.result.now
          (codes "]\n\n")
          ∙ same s time c.as_bytes.result.now (codes " words ") c.as_bytes-2.result.now
          (codes " wrong ") c.as_bytes-3.result.now (codes " copies ") c.as_bytes-4.result.now
          (codes "]\n\n")
          (how_name c.args.how) (decimal c.args.counts.words) (decimal c.args.counts.wrong)
          (decimal c.args.counts.copies)
          (c.as_bytes.ensures.value ∙ c.how_text.ensures.name)
          (c.as_bytes-2.ensures.value ∙ c.format.ensures.text)
          (c.as_bytes-3.ensures.value ∙ c.format-2.ensures.text)
          (c.as_bytes-4.ensures.value ∙ c.format-3.ensures.text),
    )
