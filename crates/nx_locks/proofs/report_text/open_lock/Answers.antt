use Rattle.std.proofs.Common.{◌≡◌, ◌∷◌, ◌++◌, [], ℕ, List, ap, ◌∙◌, append_assoc, codes}
use Rattle.nx_locks.specs.ReportText.{opening_line}
use Rattle.nx_locks.proofs.report_text.open_lock.Goals as goal

pieces : (s time lock n end : List ℕ)
    → ((((s ++ 91 ∷ []) ++ time) ++ lock) ++ n) ++ end ≡ s ++ (91 ∷ time ++ lock ++ n ++ end)
pieces s time lock n end = simp append_assoc

pub returns-clause-line : goal.returns-clause-line
unfolding opening_line
returns-clause-line c =
    let s = c.args.shown.now.items in
    let items = c.append-5.ensures.items
    ∙ ap (λ l. l ++ codes "]\n")
    (c.append-4.ensures.items
    ∙ ap (λ l. l ++ c.as_bytes.result.now)
    (c.append-3.ensures.items
    ∙ ap (λ l. l ++ codes " lock ")
    (c.append-2.ensures.items ∙ ap (λ l. l ++ c.in-Some.time) c.append.ensures.items))) in (
      c.in-Some.time,
      c.in-Some.ensures.shown,
      items ∙ pieces s c.in-Some.time (codes " lock ") c.as_bytes.result.now (codes "]\n")
          ∙ ap (λ n. s ++ (91 ∷ c.in-Some.time ++ codes " lock " ++ n ++ codes "]\n"))
          (c.as_bytes.ensures.value ∙ c.format.ensures.text),
    )
