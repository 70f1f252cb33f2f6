use Rattle.std.proofs.Common.{◌≡◌, ◌⊎◌, inl, inr, ℕ, ◌+◌, ◌*◌, ◌<◌, ◌≤◌, ◌++◌, ap, arith, eqb-true, lit≤, refl, subst, sym, ◌∙◌}
use Rattle.std.specs.Prelude.{decimal}
use Rattle.std.proofs.lemmas.Bool.{true≢false}
use Rattle.nx_log.specs.private.Stages.{BeginsSome}
use Rattle.nx_log.proofs.lemmas.beginnings.Counts.{begins_hundred, begins_itself, begins_ten, begins_thousand, front_is, zero_front}
use Rattle.nx_log.proofs.entries.pieces.can_become.Goals as goal
use Rattle.nx_log.proofs.entries.pieces.can_become.Goals.{then-reaches-via-then-reaches, then-reaches-via-else-reaches+then-reaches-2}

-- so many digits more bring one in range
abbrev Reaches : ℕ → ℕ → ℕ → Type 0
Reaches number scale least = (number * scale ≤ 4100) × (least < (number + 1) * scale)

reached : (number least : ℕ) → number < 65536 → BeginsSome least (decimal number)
    → Reaches number 1 least ⊎ (Reaches number 10 least
    ⊎ (Reaches number 100 least ⊎ Reaches number 1000 least))
reached number least small b =
    let enough = b.enough in
    let few = b.few in
    elim (front_is b.number number few small b.begins) [
      | inl is ↦ inl (omega arith, omega arith)
      | inr more ↦ elim more [
        | inl is ↦ inr (inl (omega arith, omega arith))
        | inr more ↦ elim more [
          | inl is ↦ inr (inr (inl (omega arith, omega arith)))
          | inr is ↦ inr (inr (inr (omega arith, omega arith)))
        ]
      ]
    ]

pub returns-then-number-eq0-clause-begins : goal.returns-then-number-eq0-clause-begins
returns-then-number-eq0-clause-begins c =
    let zero = c.if-number-eq0.true in (
      λ is. subst (λ n. BeginsSome c.args.least (decimal n)) (sym zero)
          (begins_itself 0 c.args.least (lit≤ tt) (omega (arith, eqb-true c.args.least 0 is))),
      λ b. let enough = b.enough in
          let z = zero_front b.number b.few b.begins.more
          (b.begins.is ∙ ap (λ n. decimal n ++ b.begins.more) zero) in
          let none : c.args.least ≡ 0 = omega (arith, z.0) in
          rw none refl,
    )

pub returns-then-reaches-clause-begins : goal.returns-then-reaches-clause-begins
returns-then-reaches-clause-begins c =
    let some = c.if-number-eq0.false in (
      λ yes. elim c.then-reaches.branch [
        | then-reaches-via-then-reaches w ↦
            let h = c.reaches.ensures.0 w.if-reaches.true in
            begins_itself c.args.number c.args.least (omega (arith, h.0)) (omega (arith, h.1))
        | then-reaches-via-else-reaches+then-reaches-2 w ↦
            let h = w.reaches-else-reaches.ensures.0 w.if-reaches-2.true in
            begins_ten c.args.number c.args.least (omega (arith, some)) c.requires.least h.0 h.1
      ],
      λ b. refl,
    )

pub returns-then-reaches-3-clause-begins : goal.returns-then-reaches-3-clause-begins
returns-then-reaches-3-clause-begins c =
    let some = c.if-number-eq0.false in (
      λ yes. let h = c.reaches-2.ensures.0 yes in
          begins_hundred c.args.number c.args.least (omega (arith, some)) c.requires.least h.0 h.1,
      λ b. c.if-reaches-3.true,
    )

pub returns-else-reaches-3-clause-begins : goal.returns-else-reaches-3-clause-begins
returns-else-reaches-3-clause-begins c =
    let some = c.if-number-eq0.false in (
      λ yes. let h = c.reaches-else-reaches-3.ensures.0 yes in
          begins_thousand c.args.number c.args.least (omega (arith, some)) c.requires.least h.0
          h.1,
      λ b. elim (reached c.args.number c.args.least c.requires.number b) [
        | inl h ↦ absurd (true≢false (sym (c.reaches.ensures.1 h) ∙ c.if-reaches.false))
        | inr more ↦ elim more [
          | inl h ↦ absurd (true≢false (sym (c.reaches-else-reaches.ensures.1 h)
              ∙ c.if-reaches-2.false))
          | inr more ↦ elim more [
            | inl h ↦ absurd (true≢false (sym (c.reaches-2.ensures.1 h) ∙ c.if-reaches-3.false))
            | inr h ↦ c.reaches-else-reaches-3.ensures.1 h
          ]
        ]
      ],
    )
