use Rattle.std.proofs.Common.{◌∙◌, ◌++◌, ◌-◌, ap, drop, length, min, refl, subst, sym, take}
use Rattle.nx_log.specs.LogReading.{LogReading}
use Rattle.nx_log.specs.LogReader.{Takes, most_lines}
use Rattle.nx_log.specs.Reading.{line_behind}
use Rattle.nx_log.specs.private.Steps.{EndsTail, Opens}
use Rattle.nx_log.proofs.lemmas.reader.Steps.{ends_takes, opens, takes_behind}
use Rattle.nx_log.proofs.entries.reader.LogReader.pass.Goals as goal
use Rattle.std.proofs.lemmas.List.{take_rest}

pub returns-then-opens-clause-takes : goal.returns-then-opens-clause-takes
returns-then-opens-clause-takes c = λ given entries torn at.
    let bytes = c.args.bytes.now in
    let tail = c.args.tail in
    let line = ap (λ (r : LogReading). r.line) c.self.view_is in
    let passed = c.pass_tail-passed.result in
    let e = c.pass_tail-passed.ensures in
    let at_line = line ∙ at.line_is in
    let begins = c.opens.ensures.opens c.if-opens.true in
    let reach = at.before.reach - length at.front in
    let stands = e.stands at.before.bytes at.front at.behind reach
    (at_line ∙ ap (λ l. min (line_behind l) most_lines) at.split) at.stands in
    subst (Takes given entries torn bytes c.go_on.new.self) (sym c.behind.ensures)
    (takes_behind c.go_on.new.self given bytes entries torn passed.count c.go_on.result e.within
    (subst (λ l. Takes (given ++ take passed.count bytes) entries torn l c.go_on.new.self
    c.go_on.result) (take_rest bytes passed.count)
    (c.go_on.ensures.takes (given ++ take passed.count bytes) entries torn
    (subst (Opens (record { reach = passed.tail.reach; line = passed.line }) c.clear.new.self.items
    passed.line (given ++ take passed.count bytes) entries torn)
    (sym (take_rest bytes passed.count))
    (subst (λ h. Opens (record { reach = passed.tail.reach; line = passed.line }) h passed.line
    (given ++ take passed.count bytes) entries torn (drop passed.count bytes))
    (sym c.clear.ensures)
    (opens tail c.args.self.now.line given entries torn bytes at passed e.within e.same
    (e.line given at_line) stands (record { reach = passed.tail.reach; line = passed.line })
    (subst (λ x. EndsTail x passed.count bytes) begins.0 e.end) begins.1 refl refl))))))

pub returns-clause-takes : goal.returns-clause-takes
returns-clause-takes c = λ given entries torn at.
    let bytes = c.args.bytes.now in
    let line = ap (λ (r : LogReading). r.line) c.self.view_is in
    let passed = c.pass_tail-passed.result in
    let e = c.pass_tail-passed.ensures in
    let at_line = line ∙ at.line_is in
    let reach = at.before.reach - length at.front in
    let split_line = at_line ∙ ap (λ l. min (line_behind l) most_lines) at.split in
    ends_takes c.args.tail c.args.self.now.line given entries torn bytes at passed e.within e.same
    (e.line given at_line)
    (e.stands at.before.bytes at.front at.behind reach split_line at.stands) e.end
    (λ bad. e.bad bad at.before.bytes at.front at.behind reach at.stands split_line)
    (c.opens.ensures.torn c.if-opens.false) c.end.new.self c.end.result c.end.ensures e.small
