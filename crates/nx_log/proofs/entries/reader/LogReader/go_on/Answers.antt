use Rattle.std.proofs.Common.{◌≡◌, ◌++◌, ◌+◌, ◌-◌, ◌≤◌, ◌∙◌, [], None, ap, arith, inl, refl, length, length-append, subst, sym, take, drop, min}
use Rattle.std.proofs.lemmas.List.{take_all, take_rest}
use Rattle.nx_log.specs.LogReading.{LogReading}
use Rattle.nx_log.specs.LogReader.{Takes, most_lines}
use Rattle.nx_log.specs.Reading.{line_behind}
use Rattle.nx_log.specs.Starts.{StartsAs}
use Rattle.nx_log.specs.private.Standing.{StandsBehind}
use Rattle.nx_log.specs.private.Steps.{IsAtTail, Opens, TakesWithin, part_held}
use Rattle.nx_log.proofs.lemmas.reader.Steps.{at_begun, at_broken, at_whole, broken_fits, ends_takes, ends_within, takes_behind, within_behind}
use Rattle.nx_log.proofs.entries.reader.LogReader.go_on.Goals as goal

pub returns-in-Whole-clause-takes : goal.returns-in-Whole-clause-takes
returns-in-Whole-clause-takes c = λ given entries torn opens.
    let held = c.self.inside.held.items in
    let bytes = c.args.bytes.now in
    let line = ap (λ (r : LogReading). r.line) c.self.view_is in
    let same = ap (λ (r : LogReading). r.held) c.self.view_is in
    let o : Opens c.args.entry held c.args.self.now.line given entries torn bytes =
    subst (λ h. Opens c.args.entry h c.args.self.now.line given entries torn bytes) (sym same) opens
    in
    let n = c.in-Whole.len in
    at_whole c.args.entry held c.args.self.now.line given entries torn bytes o _ c.behind.result n
    c.saturating_sub-taken.result
    (subst (StartsAs (held ++ bytes)) c.in-Whole.is c.judge.ensures.starts)
    (c.saturating_sub-taken.ensures ∙ ap (λ k. n - k) c.len-held.ensures.value)
    (c.judge.ensures.holds
    ∙ ap (λ start. take (part_held start (length held + length bytes)) (held ++ bytes))
    c.in-Whole.is)
    refl
    (c.line_after-self-inside.ensures given (line ∙ o.line_is))
    (λ before front. subst (λ r. StandsBehind c.behind.result before front r [] None)
    c.saturating_sub.ensures (c.behind.ensures.stands before front))
    c.behind.ensures.whole

pub returns-in-Unfinished-clause-takes : goal.returns-in-Unfinished-clause-takes
returns-in-Unfinished-clause-takes c = λ given entries torn opens.
    let held = c.self.inside.held.items in
    let bytes = c.args.bytes.now in
    let line = ap (λ (r : LogReading). r.line) c.self.view_is in
    let same = ap (λ (r : LogReading). r.held) c.self.view_is in
    let o : Opens c.args.entry held c.args.self.now.line given entries torn bytes =
    subst (λ h. Opens c.args.entry h c.args.self.now.line given entries torn bytes) (sym same) opens
    in
    at_begun c.args.entry held c.args.self.now.line given entries torn bytes o _
    (subst (StartsAs (held ++ bytes)) c.in-Unfinished.is c.judge.ensures.starts)
    (c.judge.ensures.holds
    ∙ ap (λ start. take (part_held start (length held + length bytes)) (held ++ bytes))
    c.in-Unfinished.is
    ∙ take_all (length held + length bytes) (held ++ bytes)
    (omega (arith, length-append held bytes)))
    refl
    (c.line_after-self-inside-in-Unfinished.ensures given (line ∙ o.line_is))

pub returns-in-Broken-clause-within : goal.returns-in-Broken-clause-within
returns-in-Broken-clause-within c =
    let bytes = c.args.bytes.now in
    let k = c.saturating_sub-begun.result in
    subst (TakesWithin (length bytes)) (sym c.behind-in-Broken.ensures)
    (within_behind bytes k c.end.result fits
    (subst (λ l. TakesWithin (length l) c.end.result) (take_rest bytes k)
    (ends_within c.pass_tail-passed.result (take (length bytes - k) (drop k bytes)) c.end.new.self
    c.end.result c.pass_tail-passed.ensures.end c.end.ensures)))
  where
    fits : c.saturating_sub-begun.result ≤ length c.args.bytes.now
    fits = broken_fits c.self.inside.held.items c.args.bytes.now c.in-Broken.place
        c.saturating_sub-begun.result
        (subst (StartsAs (c.self.inside.held.items ++ c.args.bytes.now)) c.in-Broken.is
        c.judge.ensures.starts)
        (c.saturating_sub-begun.ensures ∙ ap (λ k. c.in-Broken.place - k) c.len-held.ensures.value)

pub returns-in-Broken-clause-takes : goal.returns-in-Broken-clause-takes
returns-in-Broken-clause-takes c = λ given entries torn opens.
    let held = c.self.inside.held.items in
    let bytes = c.args.bytes.now in
    let line = ap (λ (r : LogReading). r.line) c.self.view_is in
    let same = ap (λ (r : LogReading). r.held) c.self.view_is in
    let o : Opens c.args.entry held c.args.self.now.line given entries torn bytes =
    subst (λ h. Opens c.args.entry h c.args.self.now.line given entries torn bytes) (sym same) opens
    in
    let n = c.in-Broken.place in
    let k = c.saturating_sub-begun.result in
    let k_is : k ≡ n - length held =
    c.saturating_sub-begun.ensures ∙ ap (λ k. n - k) c.len-held.ensures.value in
    let starts = subst (StartsAs (held ++ bytes)) c.in-Broken.is c.judge.ensures.starts in
    let tail = c.behind_begun-tail.result in
    let passed = c.pass_tail-passed.result in
    let e = c.pass_tail-passed.ensures in
    let piece = take (length bytes - k) (drop k bytes) in
    let at : IsAtTail tail c.line_after-line.result (given ++ take k bytes) entries torn piece =
    subst (IsAtTail tail c.line_after-line.result (given ++ take k bytes) entries torn)
    (sym (take_rest bytes k))
    (subst (λ k. IsAtTail tail c.line_after-line.result (given ++ take k bytes) entries torn
    (drop k bytes)) (sym k_is)
    (at_broken c.args.entry held c.args.self.now.line given entries torn bytes o tail
    c.line_after-line.result n starts
    (c.line_after-line.ensures given (line ∙ o.line_is)
    ∙ ap (λ k. min (line_behind (given ++ take k bytes)) most_lines) k_is)
    (λ before front entry_line. subst (λ r. StandsBehind tail before front r [] None)
    c.saturating_sub-in-Broken.ensures
    (c.behind_begun-tail.ensures.stands before front entry_line))
    c.behind_begun-tail.ensures.torn)) in
    let at_line = at.line_is ∙ ap (λ l. min (line_behind l) most_lines) at.split in
    let reach = at.before.reach - length at.front in
    subst (Takes given entries torn bytes c.end.new.self) (sym c.behind-in-Broken.ensures)
    (takes_behind c.end.new.self given bytes entries torn k c.end.result
    (broken_fits held bytes n k starts k_is)
    (subst (λ l. Takes (given ++ take k bytes) entries torn l c.end.new.self c.end.result)
    (take_rest bytes k)
    (ends_takes tail c.line_after-line.result (given ++ take k bytes) entries torn piece at passed
    e.within e.same (e.line (given ++ take k bytes) at.line_is)
    (e.stands at.before.bytes at.front at.behind reach at_line at.stands) e.end
    (λ bad. e.bad bad at.before.bytes at.front at.behind reach at.stands at_line)
    (λ bracket. inl (e.same ∙ c.behind_begun-tail.ensures.torn))
    c.end.new.self c.end.result c.end.ensures e.small)))
