use Rattle.std.proofs.Common.{◌≡◌, ◌∙◌, ap, arith, length, subst, take}
use Rattle.std.proofs.lemmas.Bool.Decides.{nat_tests}
use Rattle.nx_log.specs.private.Steps.{part_held}
use Rattle.nx_log.specs.Starts.{StartsAs}
use Rattle.nx_log.proofs.lemmas.reader.Judged.{part_of_all, part_short, said_of_window}
use Rattle.nx_log.proofs.entries.reader.judge.Goals as goal

pub hold-requires : goal.hold-requires
hold-requires c =
    let bytes = c.args.bytes.now in
    let start = c.entry_start-start.result in
    let short = part_short bytes start c.entry_start-start.ensures in
    let same : length (take c.held_part.result bytes) ≡ length
    (take (part_held start (length bytes)) bytes) =
    ap (λ n. length (take n bytes)) c.held_part.ensures in
    let none : length c.args.held.now.items ≡ 0 = grind (arith, nat_tests) in
    omega (arith, same, short, none)

pub returns-clause-starts : goal.returns-clause-starts
returns-clause-starts c =
    let held = c.args.held.now.items in
    let bytes = c.args.bytes.now in
    said_of_window held bytes c.min-fitting.result c.remaining_capacity.result
    c.entry_start-start-2.result c.min-fitting.ensures c.remaining_capacity.ensures
    (subst (λ l. StartsAs l c.entry_start-start-2.result)
    (c.as_slice.ensures.value ∙ c.hold-2.ensures) c.entry_start-start-2.ensures)

pub returns-clause-holds : goal.returns-clause-holds
returns-clause-holds c =
    let held = c.args.held.now.items in
    let bytes = c.args.bytes.now in
    let start = c.entry_start-start-2.result in
    c.truncate.ensures.items
    ∙ ap (λ n. take n c.hold-2.new.held.items) (c.held_part-part.ensures
    ∙ ap (part_held start) c.len.ensures.value)
    ∙ ap (λ l. take (part_held start (length l)) l) c.hold-2.ensures
    ∙ part_of_all held bytes c.min-fitting.result c.remaining_capacity.result start
    c.min-fitting.ensures c.remaining_capacity.ensures
    (subst (λ l. StartsAs l start) (c.as_slice.ensures.value ∙ c.hold-2.ensures)
    c.entry_start-start-2.ensures)
