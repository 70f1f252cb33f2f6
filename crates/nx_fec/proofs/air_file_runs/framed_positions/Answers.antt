use Rattle.std.proofs.Common.{◌≡◌, ◌+◌, ◌-◌, ◌++◌, [], ◌∷◌, length, map, take, ap, ap₂, sym, ◌∙◌}
use Rattle.std.proofs.Common.{arith, replicate}
use Rattle.std.proofs.lemmas.List.{length-map, take_all}
use Rattle.nx_code.specs.declared.signals.Comb.{Comb}
use Rattle.nx_fec.specs.emissions.Emission.{sent_position}
use Rattle.nx_fec.specs.declared.emissions.positions.Position.TheVariants.{Phasing, Traffic, End}
use Rattle.nx_fec.proofs.lemmas.emissions.Framing.{behind_phasing}
use Rattle.nx_fec.proofs.lemmas.emissions.RoundTrip.{sent_position-framed_positions}
use Rattle.nx_fec.proofs.air_file_runs.framed_positions.Goals as goal

pub returns : goal.returns
returns c =
    let combs = c.args.combs.now in
    let sent = map (λ (comb : Comb). Traffic comb) combs in
    let size : length c.send_combs.new.positions ≡ length combs =
    ap length c.send_combs.ensures ∙ length-map combs (λ (comb : Comb). Traffic comb) in
    let made : c.deref_mut.result.now ≡ replicate (4 + length c.send_combs.new.positions) Phasing =
    c.deref_mut.ensures.value ∙ c.in_ok-resize.ensures.items
    ∙ ap₂ (λ l n. take (4 + length combs) l ++ replicate (4 + length combs - n) Phasing)
    c.in_ok-positions.ensures.items c.in_ok-positions.ensures.len
    ∙ ap (λ l. l ++ replicate (4 + length combs - 0) Phasing)
    (take_all (4 + length combs) [] (omega arith))
    ∙ ap (λ n. replicate n Phasing) (omega (arith, size)) in
    ap (map sent_position) (c.in_ok-extend_from_slice.ensures.items
    ∙ ap (λ l. l ++ (End ∷ End ∷ End ∷ []))
    (behind_phasing c.deref_mut.result.now c.send_combs.new.positions _ _ made
    (sym c.deref_mut.ensures.len)
    ∙ ap (λ l. replicate 4 Phasing ++ l) c.send_combs.ensures))
    ∙ sent_position-framed_positions combs
