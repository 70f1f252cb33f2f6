use Rattle.std.proofs.Common.{◌≡◌, ◌++◌, ℕ, List, ap, ◌∙◌, append_assoc, codes}
use Rattle.std.specs.Fmt.{decimal}
use Rattle.nx_locks.specs.ReportText.{last_line}
use Rattle.nx_locks.proofs.report_text.end_report.Goals as goal

pieces : (s a n b m c k end : List ℕ)
    → ((((((s ++ a) ++ n) ++ b) ++ m) ++ c) ++ k) ++ end ≡ s ++ (a ++ n ++ b ++ m ++ c ++ k ++ end)
pieces s a n b m c k end = simp append_assoc

same : (s a n b m c k end n' m' k' : List ℕ) → n ≡ n' → m ≡ m' → k ≡ k'
    → s ++ (a ++ n ++ b ++ m ++ c ++ k ++ end) ≡ s ++ (a ++ n' ++ b ++ m' ++ c ++ k' ++ end)
same s a n b m c k end n' m' k' x y z = cc

pub returns : goal.returns
unfolding last_line
returns c =
    let s = c.args.shown.now.items in
    let start = c.append-4.ensures.items
    ∙ ap (λ l. l ++ c.as_bytes-2.result.now)
    (c.append-3.ensures.items
    ∙ ap (λ l. l ++ codes " locks ")
    (c.append-2.ensures.items ∙ ap (λ l. l ++ c.as_bytes.result.now) c.append.ensures.items)) in
    let all = c.append-7.ensures.items
    ∙ ap (λ l. l ++ codes "]\n")
    (c.append-6.ensures.items
    ∙ ap (λ l. l ++ c.as_bytes-3.result.now)
    (c.append-5.ensures.items ∙ ap (λ l. l ++ codes " copies ") start)) in
    record {
      line = all ∙ pieces s (codes "[elements ") c.as_bytes.result.now (codes " locks ")
          c.as_bytes-2.result.now (codes " copies ") c.as_bytes-3.result.now (codes "]\n")
          ∙ same s (codes "[elements ") c.as_bytes.result.now (codes " locks ")
          c.as_bytes-2.result.now (codes " copies ") c.as_bytes-3.result.now (codes "]\n")
          (decimal c.args.elements) (decimal c.args.locks) (decimal c.args.copies)
          (c.as_bytes.ensures.value ∙ c.format.ensures.text)
          (c.as_bytes-2.ensures.value ∙ c.format-2.ensures.text)
          (c.as_bytes-3.ensures.value ∙ c.format-3.ensures.text);
    }
