use Rattle.std.proofs.Common.{◌∙◌, ◌+◌, ◌-◌, drop, length, take, ap, subst}
use Rattle.std.proofs.lemmas.List.{length-map}
use Rattle.nx_fec.specs.air_files.AirFile.{element_digit}
use Rattle.nx_fec.specs.air_files.Lines.{elements_on}
use Rattle.nx_fec.specs.declared.air_files.channel.Channel.TheVariants.{Zero}
use Rattle.nx_station.specs.private.DamageTaker.{IsAt}
use Rattle.nx_station.proofs.lemmas.damage.DamageLaws.{digits-within, has-digits, line-digits}
use Rattle.nx_station.proofs.lemmas.damage.DamageLaws.{line-refilled, text-short}
use Rattle.nx_station.proofs.damaging.Damaging.write_line.Goals as goal

pub copy_line-requires-clause-short : goal.copy_line-requires-clause-short
copy_line-requires-clause-short c = text-short c.args.kind c.args.text.now c.requires.line

pub slice_bounds-pass-count : goal.slice_bounds-pass-count
slice_bounds-pass-count c =
    digits-within c.args.kind c.args.text.now c.copy_line.new.bytes.items c.in-Some.start
    c.len-end.result c.requires.line c.in-Some.ensures.found c.copy_line.ensures
    c.len-end.ensures.value

pub slice_bounds-pass-start : goal.slice_bounds-pass-start
slice_bounds-pass-start c =
    digits-within c.args.kind c.args.text.now c.copy_line.new.bytes.items c.in-Some.start
    c.len-end.result c.requires.line c.in-Some.ensures.found c.copy_line.ensures
    c.len-end.ensures.value

pub returns-in-Some-clause-bytes : goal.returns-in-Some-clause-bytes
returns-in-Some-clause-bytes c damage place line e kind at =
    let has = has-digits c.args.kind c.args.text.now c.copy_line.new.bytes.items line
    c.in-Some.start c.len-end.result e kind c.in-Some.ensures.found c.copy_line.ensures
    c.len-end.ensures.value in
    let count = (c.len-end.result - 1) - c.in-Some.start in
    let digits = ap (λ l. take count (drop c.in-Some.start l)) c.deref_mut.ensures.value
    ∙ line-digits line c.copy_line.new.bytes.items c.in-Some.start count has in
    line-refilled line c.copy_line.new.bytes.items c.deref_mut.result.now c.pass.new.digits
    c.in-Some.start count has c.deref_mut.ensures.value damage place
    (c.pass.ensures.digits damage place (elements_on Zero line) at digits)

pub returns-in-Some-clause-at : goal.returns-in-Some-clause-at
returns-in-Some-clause-at c damage place line e kind at =
    let has = has-digits c.args.kind c.args.text.now c.copy_line.new.bytes.items line
    c.in-Some.start c.len-end.result e kind c.in-Some.ensures.found c.copy_line.ensures
    c.len-end.ensures.value in
    let count = (c.len-end.result - 1) - c.in-Some.start in
    let digits = ap (λ l. take count (drop c.in-Some.start l)) c.deref_mut.ensures.value
    ∙ line-digits line c.copy_line.new.bytes.items c.in-Some.start count has in
    subst (λ n. IsAt damage c.pass.new.self (place + n))
    (ap length digits ∙ length-map (elements_on Zero line) element_digit)
    (c.pass.ensures.at damage place at)

pub returns-in-Some-clause-counted : goal.returns-in-Some-clause-counted
returns-in-Some-clause-counted c damage place total line e kind at k =
    let has = has-digits c.args.kind c.args.text.now c.copy_line.new.bytes.items line
    c.in-Some.start c.len-end.result e kind c.in-Some.ensures.found c.copy_line.ensures
    c.len-end.ensures.value in
    let count = (c.len-end.result - 1) - c.in-Some.start in
    let digits = ap (λ l. take count (drop c.in-Some.start l)) c.deref_mut.ensures.value
    ∙ line-digits line c.copy_line.new.bytes.items c.in-Some.start count has in
    c.pass.ensures.counted damage place total (elements_on Zero line) at digits k
