use Rattle.std.proofs.Common.{◌≡◌, ◌/◌, ◌^◌, ◌∙◌, ℕ, Some, sym, ap, subst, arith, rules}
use Rattle.nx_code.specs.Word.{number_of}
use Rattle.nx_sync.specs.private.Windows.{next_word_window}
use Rattle.nx_sync.specs.Synchroniser.{Held}
use Rattle.nx_sync.specs.private.Calls.{Completes}
use Rattle.nx_sync.proofs.lemmas.words.WholeWords.{word_stands, word_step, between}
use Rattle.nx_sync.proofs.synchroniser.Synchroniser.push_word.Goals as goal

-- what is held before the word, but for the window, which has it
abbrev before : goal.After-next-1 → Held
before c = record {
  recent = c.next_word_window-self-inside.result;
  seen = c.self.inside.seen;
  track = c.self.inside.track;
  wrong = c.self.inside.marks;
}

-- what is held after the word
abbrev after : goal.After-next-1 → Held
after c = record (before c) { track = c.complete-next.result.0; wrong = c.complete-next.new.marks }

-- the word, by its number, is complete at the window that it ends
completes : (c : goal.After-next-1)
    → Completes (before c) c.in-Some.track (after c) c.complete-next.result.1
completes c =
    let window = c.next_word_window-self-inside in
    let word : c.from_elements-word.result ≡ window.result / 2 ^ 21 =
    omega (arith, window.ensures.value, window.ensures.within, c.self.invariant.0) in
    record {
      recent = search rules;
      seen = search rules;
      marks = search rules;
      change = search rules;
      word = search rules;
      goes_on = search rules;
      over = search rules;
    }

-- the seven elements are in the window, and the word is complete
heard : (c : goal.After-next-1) → Completes
    (record c.args.self.now {
      recent = next_word_window c.args.self.now.recent (number_of c.args.bits.now);
    })
    c.in-Some.track (after c) c.complete-next.result.1
heard c =
    let old : Held = c.args.self.now in
    let window = c.next_word_window-self-inside in
    let recent : window.result ≡ next_word_window old.recent (number_of c.args.bits.now) =
    window.ensures.value
    ∙ ap (λ (s : Held). next_word_window s.recent c.from_elements-word.result) c.self.view_is
    ∙ ap (next_word_window old.recent) c.from_elements-word.ensures in
    subst (λ s. Completes s c.in-Some.track (after c) c.complete-next.result.1)
    (ap (λ (s : Held). record s { recent = window.result }) c.self.view_is
    ∙ ap (λ (n : ℕ). record old { recent = n }) recent) (completes c)

-- a lock stands, which this track follows, so 28 elements were heard
is : (c : goal.After-next-1) → c.args.self.now.track ≡ Some c.in-Some.track
is c = sym (ap (λ s. s.track) c.self.view_is) ∙ c.in-Some.is

full : (c : goal.After-next-1) → c.args.self.now.seen ≡ 28
full c =
    sym (ap (λ s. s.seen) c.self.view_is) ∙ (c.self.invariant.2 c.in-Some.track c.in-Some.is).1

pub returns-clause-stands : goal.returns-clause-stands
returns-clause-stands c h a =
    word_stands c.args.self.now h c.args.bits.now c.in-Some.track a (is c) (full c)
    (between c.args.self.now c.requires c.in-Some.track (is c)) c.told-bits (after c)
    c.complete-next.result.1 (heard c)

pub returns-clause-step : goal.returns-clause-step
returns-clause-step c h a =
    word_step c.args.self.now h c.args.bits.now c.in-Some.track a (is c) (full c)
    (between c.args.self.now c.requires c.in-Some.track (is c)) c.told-bits (after c)
    c.complete-next.result.1 (heard c)
