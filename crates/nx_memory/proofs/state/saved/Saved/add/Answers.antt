use Rattle.std.proofs.Common.{◌≡◌, ℕ, ◌<◌, true, List, [], ◌∷◌, ◌++◌, length, Result, Ok, Err, sym}
use Rattle.std.proofs.Common.{ap, subst, ◌∙◌, refl, arith}
use Rattle.std.specs.Result.{IsErr, OnOk}
use Rattle.std.proofs.lemmas.Bool.{true≢false}
use Rattle.std.specs.FinSet as set
use Rattle.nx_memory.specs.declared.memories.entry.MemoryEntry.{MemoryEntry}
use Rattle.nx_memory.specs.declared.state.saved_line.SavedLine.{SavedLine}
use Rattle.nx_memory.specs.declared.state.saved_line.SavedLine.TheVariants.{Subject}
use Rattle.nx_memory.specs.Saved.{SavedState, IsSavedState, AreSavedEntries}
use Rattle.nx_memory.specs.Selection.{Refused, is_vital}
use Rattle.nx_memory.specs.private.StateReading.{takes, with_line}
use Rattle.nx_memory.proofs.lemmas.StateLines.{taken_station, taken_subject, taken_entry, is_taken}
use Rattle.nx_memory.proofs.state.saved.Saved.add.Goals as goal

-- the entries so far, and one more
entries_kept : (inside now : SavedState) (e : MemoryEntry) (items : List MemoryEntry) → inside ≡ now
    → items ≡ inside.entries ++ e ∷ [] → AreSavedEntries (now.entries ++ e ∷ [])
    → AreSavedEntries items
entries_kept inside now e items same made sound =
    subst AreSavedEntries (sym (made ∙ ap (λ (s : SavedState). s.entries ++ e ∷ []) same)) sound

ok_then : {T E : Type 0} (r : Result T E) {P : Type 0} → ¬ IsErr r → OnOk r P → P
ok_then (Ok x) fine holds = holds
ok_then (Err e) fine holds = absurd (fine refl)

pub push-requires : goal.push-requires
push-requires c =
    let taken : takes c.args.self.now c.args.line ≡ true =
    grind (arith, c.takes.ensures.takes, c.if-not-takes.false) in (
      omega arith,
      subst (λ (s : SavedState). length s.entries < 200) (sym c.self.view_is)
          (taken_entry c.args.self.now c.args.line c.in-Entry.entry c.in-Entry.is taken),
    )

pub invariant_of-self-in-Entry : goal.invariant_of-self-in-Entry
invariant_of-self-in-Entry c =
    let taken : takes c.args.self.now c.args.line ≡ true =
    grind (arith, c.takes.ensures.takes, c.if-not-takes.false) in
    let all = is_taken c.args.self.now c.args.line c.takes.ensures.sound c.requires taken in
    let sound = subst (λ (it : SavedLine). IsSavedState (with_line c.args.self.now it))
    c.in-Entry.is all.sound in
    entries_kept _ c.args.self.now c.in-Entry.entry c.push.new.self.items c.self.view_is
    c.push.ensures.items sound.entries

pub returns-in_default-clause-added : goal.returns-in_default-clause-added
returns-in_default-clause-added c = λ _.
    let taken : takes c.args.self.now c.args.line ≡ true =
    grind (arith, c.takes.ensures.takes, c.if-not-takes.false) in
    absurd (true≢false (sym (c.in_default.ensures.in_range.1
    (taken_station c.args.self.now c.args.line c.in-Station.letter c.in-Station.is taken))))

pub returns-in_default-new-clause-added : goal.returns-in_default-new-clause-added
returns-in_default-new-clause-added c = λ _.
    let taken : takes c.args.self.now c.args.line ≡ true =
    grind (arith, c.takes.ensures.takes, c.if-not-takes.false) in
    absurd (true≢false (sym (c.in_default-new.ensures.in_range.1
    (taken_subject c.args.self.now c.args.line c.in-Subject.letter c.in-Subject.is taken).0)))

pub returns-in-Some-new-clause-added : goal.returns-in-Some-new-clause-added
returns-in-Some-new-clause-added c = λ _.
    let taken : takes c.args.self.now c.args.line ≡ true =
    grind (arith, c.takes.ensures.takes, c.if-not-takes.false) in
    let letter : c.in-Some-new.subject.byte ≡ c.in-Subject.letter = c.in-Some-new.ensures.given in
    let other = (taken_subject c.args.self.now c.args.line c.in-Subject.letter c.in-Subject.is
    taken).1 in
    let no_error = λ (error : IsErr c.refuse_subject.result). true≢false
    (sym (c.refuse_subject.ensures.vital.0 error) ∙ ap is_vital letter ∙ other) in
    let made = ok_then c.refuse_subject.result no_error c.refuse_subject.ensures.refused in
    ap (λ (r : Refused). record { refused = r; entries = c.self.inside.entries.items })
    (made ∙ ap (λ (x : ℕ). record c.self.inside.selection
    { subjects = set.insert c.self.inside.selection.subjects x }) letter)
    ∙ ap (λ (s : SavedState). with_line s (Subject c.in-Subject.letter)) c.self.view_is
    ∙ ap (with_line c.args.self.now) (sym c.in-Subject.is)
