use Rattle.std.proofs.Common.{◌≡◌, ◌<◌, ◌+◌, ◌*◌, ◌/◌, ◌%◌, ◌∷◌, ◌++◌, [], ℕ, List, length, take, slice_index, arith, inr}
use Rattle.std.proofs.Common.{◌∙◌, sym, subst, ap, ap₂}
use Rattle.std.proofs.lemmas.Grind.{get_or_default_zero}
use Rattle.std.proofs.lemmas.List.{append_assoc, length-take-le, take_more}
use Rattle.nx_envelope.specs.declared.found.TextEvent.{TextEvent}
use Rattle.nx_copies.specs.LockReader.{LockReading}
use Rattle.nx_copies.specs.ReaderWords.{HearsPairsUpTo, ReadsPlain}
use Rattle.nx_copies.proofs.lemmas.locks.PlainPairs.{plain_up_to, up_to_behind}
use Rattle.nx_copies.proofs.lock_reader.LockReader.hear_pairs.Goals as goal

-- a pair behind those that were heard
pair_behind : {old mid new : LockReading} {event : TextEvent} {dx rx : ℕ} (words : List ℕ)
    (heard : ℕ) → heard % 2 ≡ 0 → heard + 1 < length words → dx ≡ slice_index words heard
    → rx ≡ slice_index words (heard + 1) → ReadsPlain old mid (take heard words)
    → HearsPairsUpTo mid new (dx ∷ rx ∷ []) event
    → HearsPairsUpTo old new (take (heard + 2) words) event
pair_behind {old} {mid} {new} {event} {dx} {rx} words heard even within dx_is rx_is plain pair =
    let size : length (take heard words) ≡ 2 * (heard / 2) =
    omega (arith, length-take-le heard words (omega (arith, within)), even) in
    let next : heard + 2 ≡ heard + 1 + 1 = omega arith in
    let whole : take (heard + 2) words ≡ take heard words ++ dx ∷ rx ∷ [] =
    ap (λ n. take n words) next ∙ take_more words (heard + 1) 0 within
    ∙ ap (λ l. l ++ slice_index words (heard + 1) ∷ [])
    (take_more words heard 0 (omega (arith, within)))
    ∙ append_assoc (take heard words) (slice_index words heard ∷ [])
    (slice_index words (heard + 1) ∷ [])
    ∙ ap₂ (λ x y. take heard words ++ x ∷ y ∷ []) (sym dx_is) (sym rx_is) in
    subst (λ l. HearsPairsUpTo old new l event) (sym whole)
    (up_to_behind (take heard words) (dx ∷ rx ∷ []) (heard / 2) size plain pair)

pub loop-heard-preserved : goal.loop-heard-preserved
loop-heard-preserved c =
    let words : List ℕ = c.args.words.now in
    let heard : ℕ = c.loop-heard.heard in
    let so_far = c.loop-heard.invariant in
    let within : heard + 1 < length words =
    omega (arith, c.loop-heard-test.true, so_far.even, c.requires.even) in
    let pair = pair_behind words heard so_far.even within
    (c.index-words-heard.is ∙ get_or_default_zero words heard _ (omega (arith, within)))
    (c.index-words-heard-in-loop-heard.is ∙ get_or_default_zero words (heard + 1) _ within)
    so_far.plain c.hear_pair-event.ensures in
    record {
      within = omega (arith, within);
      even = omega (arith, so_far.even);
      plain = plain_up_to (subst (HearsPairsUpTo c.args.self.now c.hear_pair-event.new.self
          (take (heard + 2) words)) c.in-Nothing.is pair);
    }

pub returns-in-Header : goal.returns-in-Header
returns-in-Header c =
    let words : List ℕ = c.args.words.now in
    let heard : ℕ = c.loop-heard.heard in
    let so_far = c.loop-heard.invariant in
    let within : heard + 1 < length words =
    omega (arith, c.loop-heard-test.true, so_far.even, c.requires.even) in
    let pair = pair_behind words heard so_far.even within
    (c.index-words-heard.is ∙ get_or_default_zero words heard _ (omega (arith, within)))
    (c.index-words-heard-in-loop-heard.is ∙ get_or_default_zero words (heard + 1) _ within)
    so_far.plain c.hear_pair-event.ensures in
    record {
      within = omega (arith, within);
      even = omega (arith, so_far.even);
      some = omega arith;
      hears = inr pair;
    }
