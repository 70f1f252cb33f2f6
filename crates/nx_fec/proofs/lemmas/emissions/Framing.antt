-- The positions of an emission, put into the places that were made for them.
use Rattle.std.proofs.Common.{◌≡◌, ℕ, ◌+◌, ◌-◌, List, ◌++◌, length, take, drop, replicate, refl}
use Rattle.std.proofs.Common.{sym, ap, ◌∙◌, arith}
use Rattle.std.proofs.lemmas.List.{length-drop, length-replicate, length-take-le, take_all, take_at}
use Rattle.std.proofs.lemmas.List.{take-replicate}
use Rattle.std.proofs.lemmas.Slice.{take-put_mid}
use borrow.Rule.Slice.PartMut.{put_mid, same_len_mid}
use Rattle.nx_fec.specs.declared.emissions.positions.Position.{Position}
use Rattle.nx_fec.specs.declared.emissions.positions.Position.TheVariants.{Phasing}

-- four positions of phasing stay before those that were put behind them
pub behind_phasing : (made sent items : List Position) (count : ℕ)
    → made ≡ replicate (4 + length sent) Phasing → count ≡ length made
    → take count (put_mid 4 (length made - 4) made sent
    ++ drop (length (put_mid 4 (length made - 4) made sent)) items)
    ≡ replicate 4 Phasing ++ sent
behind_phasing made sent items count is all =
    let n : length made ≡ 4 + length sent =
    ap length is ∙ length-replicate (4 + length sent) Phasing in
    let rest = length-drop 4 made in
    let part = length-take-le (length made - 4) (drop 4 made) (omega (arith, rest)) in
    let size : length (put_mid 4 (length made - 4) made sent) ≡ length made =
    same_len_mid 4 (length made - 4) made sent (omega (arith, part, n)) in
    take_at (put_mid 4 (length made - 4) made sent)
    (drop (length (put_mid 4 (length made - 4) made sent)) items) count (size ∙ sym all)
    ∙ sym (take_all (4 + length sent) (put_mid 4 (length made - 4) made sent)
    (omega (arith, size, n)))
    ∙ take-put_mid 4 (length made - 4) made sent (4 + length sent) refl (omega (arith, n))
    ∙ ap (λ l. l ++ sent) (ap (take 4) is
    ∙ take-replicate 4 (4 + length sent) Phasing (omega arith))
