use Rattle.std.proofs.Common.{◌≡◌, [], ◌∷◌, ◌++◌, ap, append_assoc, arith, rules, sym, ◌∙◌}
use Rattle.std.proofs.lemmas.Grind.{common_steps}
use Rattle.std.proofs.lemmas.Result.{err_from_is_err_and}
use Rattle.nx_log.proofs.lemmas.beginnings.Bytes.{literal_lacks}
use Rattle.nx_log.proofs.entries.pieces.literal_at.Goals as goal

pub returns-in_err-behind-clause-lacks : goal.returns-in_err-behind-clause-lacks
returns-in_err-behind-clause-lacks c =
    let p = err_from_is_err_and c.from_residual.result c.from_residual.ensures.1 in
    let inv = c.loop-byte.invariant in
    let first : c.loop-byte.wanted.now ≡ c.in-Some.byte.now ∷ c.in-Some.more.now =
    first_of (search rules, grind (arith, common_steps)) in
    rw p.1 (rw p.2 (literal_lacks c.args.literal.now inv.done c.in-Some.more.now
    c.args.bytes.now c.loop-byte.rest.now c.in-Some.byte.now _
    (inv.literal_is ∙ ap (λ l. inv.done ++ l) first) inv.bytes_are
    c.in_err-behind.ensures.lacks))

pub loop-byte-preserved : goal.loop-byte-preserved
loop-byte-preserved c =
    let inv = c.loop-byte.invariant in
    let byte = c.in-Some.byte.now in
    let range = c.in_ok-behind.ensures.in_range in
    let same : c.in_ok-behind.field-0-0 ≡ byte = omega (arith, range.0, range.1) in
    let first : c.loop-byte.wanted.now ≡ byte ∷ c.in-Some.more.now =
    first_of (search rules, grind (arith, common_steps)) in
    record {
      done = inv.done ++ byte ∷ [];
      bytes_are = inv.bytes_are
          ∙ ap (λ l. inv.done ++ l) (c.in_ok-behind.ensures.found
          ∙ ap (λ b. b ∷ c.in_ok-behind.behind.now) same)
          ∙ sym (append_assoc inv.done (byte ∷ []) c.in_ok-behind.behind.now);
      literal_is = inv.literal_is ∙ ap (λ l. inv.done ++ l) first
          ∙ sym (append_assoc inv.done (byte ∷ []) c.in-Some.more.now);
    }
