use Rattle.std.proofs.Common.{◌++◌, ◌∷◌, [], ◌∙◌, ap, sym, map, append_assoc}
use Rattle.std.proofs.lemmas.Result.{on_ok_weaker}
use Rattle.nx_fec.specs.emissions.Emission.{sent_position, traffic_position}
use Rattle.nx_station.specs.Broadcast.{ending}
use Rattle.nx_station.proofs.broadcast.push_ending.Goals as goal

pub returns-in-Letters : goal.returns-in-Letters
unfolding ending
returns-in-Letters c =
    let old = map sent_position c.args.positions.now.items in
    on_ok_weaker c.push_combs.result
    (λ e. e ∙ ap (λ s. old ++ map traffic_position (ending s)) (sym c.in-Letters.is))
    c.push_combs.ensures

pub returns-in_ok-push_combs-in-Figures : goal.returns-in_ok-push_combs-in-Figures
unfolding ending
returns-in_ok-push_combs-in-Figures c =
    let old = map sent_position c.args.positions.now.items in
    let one = map traffic_position (29 ∷ []) in
    let all = map traffic_position (14 ∷ 14 ∷ 14 ∷ 14 ∷ 27 ∷ 28 ∷ 28 ∷ []) in
    on_ok_weaker c.push_combs-in-Figures-2.result
    (λ e. e ∙ ap (λ l. l ++ all) c.in_ok-push_combs-in-Figures.ensures ∙ append_assoc old one all
    ∙ ap (λ s. old ++ map traffic_position (ending s)) (sym c.in-Figures.is))
    c.push_combs-in-Figures-2.ensures
