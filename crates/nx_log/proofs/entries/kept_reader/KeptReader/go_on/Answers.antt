use Rattle.std.proofs.Common.{◌≡◌, ◌++◌, ◌+◌, ◌-◌, ◌≤◌, ◌∙◌, ap, arith, length, length-append, refl, subst, sym, take, inr}
use Rattle.std.proofs.lemmas.List.{take_all}
use Rattle.nx_log.specs.Entries.{IsUnfinishedEntry, IsWholeEntry}
use Rattle.nx_log.specs.private.KeptReading.{IsAtKept, IsSoundAt}
use Rattle.nx_log.specs.declared.entries.kept_reader.KeptReader.{KeptReader}
use Rattle.nx_log.specs.declared.entries.kept_reader.KeptStage.TheVariants.{Gate}
use Rattle.nx_log.proofs.lemmas.kept.Steps.{begun_short, held_behind, takes_broken, takes_entry, takes_more}
use Rattle.nx_log.proofs.entries.kept_reader.KeptReader.go_on.Goals as goal

pub returns-in-Whole-clause-takes : goal.returns-in-Whole-clause-takes
returns-in-Whole-clause-takes c = λ from given entries within at.
    let held = c.args.self.now.held.items in
    let bytes = c.args.bytes.now in
    let n = c.in-Whole.len in
    let starts = c.in-Whole.ensures.starts in
    let taken_is : c.saturating_sub-taken.result ≡ n - length held =
    c.saturating_sub-taken.ensures ∙ ap (λ k. n - k) c.len-held.ensures.value in
    let least = begun_short held bytes n c.requires.begun starts.1 in
    let size : n ≤ length held + length bytes =
    omega (arith, starts.0, length-append held bytes) in
    let most : c.args.self.now.gate + 1 + n ≤ from + length (given ++ bytes) =
    omega (
      arith,
      at.gate,
      size,
      ap length at.split,
      length-append at.front at.rest,
      length-append given bytes,
      held_behind c.args.self.now from given entries at c.requires.stage,
    ) in
    let new : KeptReader = record {
      stage = Gate;
      held = c.judge.new.held;
      line = c.line_after-self.result;
      gate = c.saturating_add-next.result;
    } in
    takes_entry c.args.self.now from given entries at c.requires.stage bytes new n
    c.saturating_sub-taken.result
    (record { place = c.args.self.now.gate; next = c.saturating_add-next.result }) starts
    taken_is c.in-Whole.ensures.holds refl
    (c.line_after-self.ensures given at.line) refl
    (omega (arith, c.saturating_add-next.ensures, c.saturating_add.ensures, most, within))
    (omega (arith, c.saturating_add-next.ensures, c.saturating_add.ensures, most, within))

pub returns-in-Whole-clause-some : goal.returns-in-Whole-clause-some
returns-in-Whole-clause-some c =
    let held = c.args.self.now.held.items in
    let bytes = c.args.bytes.now in
    let n = c.in-Whole.len in
    let starts = c.in-Whole.ensures.starts in
    let taken_is : c.saturating_sub-taken.result ≡ n - length held =
    c.saturating_sub-taken.ensures ∙ ap (λ k. n - k) c.len-held.ensures.value in
    let least = begun_short held bytes n c.requires.begun starts.1 in (
      omega (arith, taken_is, least),
      omega (arith, taken_is, starts.0, length-append held bytes),
      tt,
      subst IsWholeEntry (sym c.in-Whole.ensures.holds) starts.1,
    )

pub returns-in-Unfinished-clause-takes : goal.returns-in-Unfinished-clause-takes
returns-in-Unfinished-clause-takes c = λ from given entries within at.
    let held = c.args.self.now.held.items in
    let bytes = c.args.bytes.now in
    let all : take (length bytes) bytes ≡ bytes = take_all (length bytes) bytes (omega arith) in
    let same : c.judge.new.held.items ≡ held ++ bytes =
    c.in-Unfinished.ensures.holds
    ∙ take_all (length held + length bytes) (held ++ bytes)
    (omega (arith, length-append held bytes)) in
    let new : KeptReader = record {
      stage = c.args.self.now.stage;
      held = c.judge.new.held;
      line = c.line_after-self-in-Unfinished.result;
      gate = c.args.self.now.gate;
    } in
    subst (λ l. IsAtKept new from (given ++ l) entries) (sym all)
    (takes_more c.args.self.now from given entries at c.requires.stage bytes new
    c.in-Unfinished.ensures.starts same c.requires.stage
    (c.line_after-self-in-Unfinished.ensures given at.line) refl)

pub returns-in-Unfinished-clause-some : goal.returns-in-Unfinished-clause-some
returns-in-Unfinished-clause-some c =
    let held = c.args.self.now.held.items in
    let bytes = c.args.bytes.now in
    let same : c.judge.new.held.items ≡ held ++ bytes =
    c.in-Unfinished.ensures.holds
    ∙ take_all (length held + length bytes) (held ++ bytes)
    (omega (arith, length-append held bytes)) in (
      c.requires.some,
      omega arith,
      subst (λ s. IsSoundAt s c.judge.new.held.items) (sym c.requires.stage)
          (inr (subst IsUnfinishedEntry (sym same) c.in-Unfinished.ensures.starts)),
    )

pub returns-in-Broken-clause-takes : goal.returns-in-Broken-clause-takes
returns-in-Broken-clause-takes c = λ from given entries within at.
    let held = c.args.self.now.held.items in
    let n = c.in-Broken.place in
    takes_broken c.args.self.now from given entries at c.requires.stage c.args.bytes.now n
    c.saturating_sub-begun.result c.line_after-line.result c.in-Broken.ensures.starts
    (c.saturating_sub-begun.ensures ∙ ap (λ k. n - k) c.len-held.ensures.value)
    (c.line_after-line.ensures given at.line)
