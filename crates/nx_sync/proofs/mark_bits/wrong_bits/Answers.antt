use Rattle.std.proofs.Common.{◌≡◌, ◌==◌, ◌∙◌, ◌<◌, ◌^◌, ℕ, List, Bool, length, map, ap, sym, eqb, subst, w8, arith}
use Rattle.std.specs.Simd.Lanes.{mask_l}
use Rattle.std.proofs.lemmas.List.{length-map}
use Rattle.std.proofs.lemmas.Simd.{bitmask_splat, mask_l-lt}
use Rattle.nx_code.specs.Word.{is_wrong}
use Rattle.nx_sync.specs.private.Eight.{wrong_ones}
use Rattle.nx_sync.proofs.lemmas.words.MarkBits.{mask_is_number}
use Rattle.nx_sync.proofs.mark_bits.wrong_bits.Goals as goal

eight : (classes words : List ℕ) → map (λ class. class == 0) classes ≡ wrong_ones words
    → length words ≡ 8 → length classes ≡ 8
eight classes words is l =
    let same : length (map (λ class. class == 0) classes) ≡ length (wrong_ones words) =
    ap length is in
    omega (arith, same, length-map classes (λ class. class == 0), length-map words is_wrong, l)

pub returns-clause-number : goal.returns-clause-number
returns-clause-number c =
    let classes : List ℕ = c.classes.result in
    bitmask_splat w8 eqb classes 8 0 (eight classes c.args.words.now c.classes.ensures c.requires)
    (omega arith)
    ∙ (ap mask_l c.classes.ensures ∙ mask_is_number (wrong_ones c.args.words.now))

pub returns-clause-within : goal.returns-clause-within
returns-clause-within c =
    let classes : List ℕ = c.classes.result in
    let long : length classes ≡ 8 =
    eight classes c.args.words.now c.classes.ensures c.requires in
    let mask = bitmask_splat w8 eqb classes 8 0 long (omega arith) in
    let bits : List Bool = map (λ class. eqb class 0) classes in
    let few : length bits ≡ 8 = omega (arith, length-map classes (λ class. class == 0), long) in
    subst (λ n. n < 2 ^ 8) (sym mask) (subst (λ n. mask_l bits < 2 ^ n) few (mask_l-lt bits))
