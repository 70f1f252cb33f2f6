use Rattle.std.proofs.Common.{◌≡◌, ◌<◌, ◌*◌, ◌/◌, ◌^◌, ◌∙◌, ℕ, List, Bool, true, length, refl, sym, ap, ap₂, subst, arith}
use Rattle.nx_sync.specs.Synchroniser.{Held, StandsAfter, is_at_limit}
use Rattle.nx_sync.specs.declared.step.Role.TheVariants.{Dx}
use Rattle.nx_sync.specs.private.Calls.{track_from}
use Rattle.nx_sync.specs.private.Eight.{after_words}
use Rattle.nx_sync.proofs.lemmas.words.WordLimits.{limit_by}
use Rattle.nx_sync.proofs.lemmas.words.WordsAtOnce.{Kept, WordsHeard, kept, words_heard}
use Rattle.nx_sync.proofs.synchroniser.Synchroniser.accept.Goals as goal

-- what is held after the words, of which the track knows nothing
abbrev after : goal.After-self-1 → Held
after c = record {
  recent = c.window_after_words-self-inside.result;
  seen = c.self.inside.seen;
  track = c.self.inside.track;
  wrong = c.push_words.new.self;
}

heard : (c : goal.After-self-1) (h : List Bool) → StandsAfter c.args.self.now h
    → WordsHeard c.args.self.now c.args.words.now h (after c)
heard c h a =
    let old : Held = c.args.self.now in
    let words : List ℕ = c.args.words.now in
    let view = c.self.view_is in
    let k : Kept old words = kept old words c.requires.keeps in
    let full : old.seen ≡ 28 =
    sym (ap (λ s. s.seen) view)
    ∙ (c.self.invariant.2 (track_from Dx) (ap (λ s. s.track) view ∙ k.is)).1 in
    let within : old.recent < 2 ^ 28 =
    subst (λ r. r < 2 ^ 28) (ap (λ s. s.recent) view) c.self.invariant.0 in
    let pairs : length words ≡ 2 * (length words / 2) = omega (arith, c.requires.pairs.even) in
    words_heard (length words / 2) old words h (after c) a full within c.requires.keeps pairs
    c.window_after_words-self-inside.ensures.small
    (ap₂ (λ r m. record {
      recent = r;
      seen = c.self.inside.seen;
      track = c.self.inside.track;
      wrong = m;
    })
    c.window_after_words-self-inside.ensures.value c.push_words.ensures
    ∙ ap (λ (s : Held). after_words s words) view)

pub returns : goal.returns
returns c =
    let k = kept c.args.self.now c.args.words.now c.requires.keeps in
    record {
      stands = λ h a. (heard c h a).stands;
      limit = λ h a. (limit_by c.args.self.now true (sym (ap is_at_limit k.is)) h a).0 refl;
      quiet = λ h a. (heard c h a).steps;
    }
