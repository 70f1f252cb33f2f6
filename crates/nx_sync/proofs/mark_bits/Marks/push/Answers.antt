use Rattle.std.proofs.Common.{◌≡◌, ◌≤◌, ◌+◌, ◌*◌, ◌/◌, ◌%◌, ℕ, [], ◌∷◌, ◌++◌, min, ap}
use Rattle.std.proofs.Common.{subst, sym, ◌∙◌, arith}
use Rattle.circular_buffer.specs.Buffer.{keep_last}
use Rattle.nx_code.specs.Word.{value_of}
use Rattle.nx_code.proofs.lemmas.Word.{value_of-bool_byte, value_of-le}
use Rattle.nx_sync.specs.private.MarkBits.{marks_in}
use Rattle.nx_sync.proofs.lemmas.words.MarkBits.{Moved, moved, bit_of, length-marks_in}
use Rattle.nx_sync.proofs.mark_bits.Marks.push.Goals as goal

pub invariant_of-self : goal.invariant_of-self
invariant_of-self c =
    let bits : ℕ = c.self.inside.bits in
    let count : ℕ = c.self.inside.count in
    let next : ℕ = bits / 2 + c.from.result * 9223372036854775808 % 18446744073709551616 in
    let mark : c.from.result ≡ value_of c.args.is_wrong =
    c.from.ensures ∙ value_of-bool_byte c.args.is_wrong in
    let one : value_of c.args.is_wrong ≤ 1 = value_of-le c.args.is_wrong in
    let m = moved 1 count bits c.from.result next (c.args.is_wrong ∷ []) (omega arith)
    c.self.invariant.0 (omega arith) c.self.invariant.2 (bit_of c.args.is_wrong c.from.result mark)
    (omega (arith, mark, one)) (omega (arith, mark, one)) in
    let many : min (count + 1) 64 ≡ c.min-self-inside.result = sym c.min-self-inside.ensures in
    let after = subst (λ n. Moved n next (marks_in count bits) (c.args.is_wrong ∷ [])) many m in (
      omega (arith, many),
      length-marks_in c.min-self-inside.result next (omega (arith, many)),
      after.number,
    )

pub returns : goal.returns
returns c =
    let bits : ℕ = c.self.inside.bits in
    let count : ℕ = c.self.inside.count in
    let next : ℕ = bits / 2 + c.from.result * 9223372036854775808 % 18446744073709551616 in
    let mark : c.from.result ≡ value_of c.args.is_wrong =
    c.from.ensures ∙ value_of-bool_byte c.args.is_wrong in
    let one : value_of c.args.is_wrong ≤ 1 = value_of-le c.args.is_wrong in
    let m = moved 1 count bits c.from.result next (c.args.is_wrong ∷ []) (omega arith)
    c.self.invariant.0 (omega arith) c.self.invariant.2 (bit_of c.args.is_wrong c.from.result mark)
    (omega (arith, mark, one)) (omega (arith, mark, one)) in
    let many : min (count + 1) 64 ≡ c.min-self-inside.result = sym c.min-self-inside.ensures in
    let after = subst (λ n. Moved n next (marks_in count bits) (c.args.is_wrong ∷ [])) many m in
    after.marks ∙ ap (λ xs. keep_last 64 (xs ++ c.args.is_wrong ∷ [])) c.self.view_is
