-- Words of a lock that a taker takes at once, the last of which may begin or end a copy.
use Rattle.std.proofs.Common.{◌≡◌, ℕ, ◌+◌, ◌*◌, ◌<◌, Bool, false, List, [], ◌∷◌, ◌++◌, length, take}
use Rattle.std.proofs.Common.{Option, None, Some, refl, sym, ap, ◌∙◌, subst, subst₂, arith, inl, inr}
use Rattle.std.proofs.Common.{append_assoc, append-nil, length-append, slice_index, add-one}
use Rattle.std.proofs.Math.Seq.{get_or-append_seam, take-length}
use Rattle.std.proofs.lemmas.List.{get_or_append_left, take-append-le}
use Rattle.std.proofs.lemmas.List.Concat.{flat_map-append}
use Rattle.std.specs.List.{flat_map}
use Rattle.nx_code.specs.Word.{elements}
use Rattle.nx_code.proofs.lemmas.Packed.{length-elements}
use Rattle.nx_sync.specs.Steps.{AreQuietWords, IsWordStep, step}
use Rattle.nx_sync.specs.Synchroniser.{Held, StandsAfter}
use Rattle.nx_sync.specs.Ahead.{BringsWords}
use Rattle.nx_sync.specs.Words.{other_role, role_of}
use Rattle.nx_sync.specs.declared.step.Role.{Role}
use Rattle.nx_sync.specs.declared.step.Role.TheVariants.{Dx, Rx}
use Rattle.nx_sync.proofs.lemmas.words.LastSteps.{word_last}
use Rattle.nx_envelope.specs.Finder.{is_over}
use Rattle.nx_envelope.specs.declared.found.TextEvent.{TextEvent}
use Rattle.nx_copies.specs.declared.copy_taker.CopyTaker.{CopyTaker}
use Rattle.nx_copies.specs.Events.{Setting}
use Rattle.nx_copies.specs.copies.FoundCopies.{TaggedCopy}
use Rattle.nx_copies.specs.LockReader.{LockReading}
use Rattle.nx_copies.specs.ReaderWords.{HearsPairsUpTo, HearsPairs}
use Rattle.nx_copies.specs.hearing.CopyTaker.{Hears, hearer_of, setting_of}
use Rattle.nx_copies.specs.private.CopyTaker.{ReadsStep, ReadsWord}
use Rattle.nx_copies.specs.hearing.CopyTaker.{tag_after}
use Rattle.nx_copies.specs.hearing.CopyTakerLaws.{hears_on}
use Rattle.nx_copies.specs.hearing.CopyHearer.{HearerStands, HearsBits, all_in_force, over_with}
use Rattle.nx_copies.proofs.lemmas.copy_hearer.Hears.{step_heard, tag_by}
use Rattle.nx_copies.proofs.lemmas.copy_hearer.PlainWords.{plain_taken, words_read}
use Rattle.nx_copies.proofs.lemmas.locks.ReaderWords.{dx_of_pair}

-- what a taker is whose reader heard words that bring this
abbrev pub taken_by : CopyTaker → LockReading → TextEvent → CopyTaker
taken_by old reader event =
    record old { reader = reader; tag = tag_after (setting_of old) old.tag event }

-- the words before the last one are quiet, as all are
quiet_before : (h : List Bool) (before : List ℕ) (last : ℕ)
    → AreQuietWords h Dx (before ++ last ∷ []) → AreQuietWords h Dx before
quiet_before h before last quiet k lt =
    let one = quiet k (omega (arith, lt, length-append before (last ∷ []))) in
    let word : slice_index (before ++ last ∷ []) k ≡ slice_index before k =
    get_or_append_left before (last ∷ []) 0 k lt in
    let first : take k (before ++ last ∷ []) ≡ take k before =
    take-append-le k before (last ∷ []) (omega (arith, lt)) in
    subst₂ (λ l w. IsWordStep (h ++ flat_map elements l) (elements w)
    (step (Some (w, role_of Dx k)) None)) first word one

quiet_last : (h : List Bool) (before : List ℕ) (last pairs : ℕ) → length before ≡ 2 * pairs + 1
    → AreQuietWords h Dx (before ++ last ∷ [])
    → IsWordStep (h ++ flat_map elements before) (elements last) (step (Some (last, Rx)) None)
unfolding role_of
quiet_last h before last pairs odd quiet =
    let k = length before in
    let one = quiet k (omega (arith, length-append before (last ∷ []))) in
    let word : slice_index (before ++ last ∷ []) k ≡ last = get_or-append_seam before last [] 0 in
    let first : take k (before ++ last ∷ []) ≡ before =
    take-append-le k before (last ∷ []) (omega arith) ∙ take-length before in
    let role : role_of Dx k ≡ Rx =
    ap (role_of Dx) (odd ∙ add-one (2 * pairs))
    ∙ ap other_role (dx_from_none pairs) in
    subst (λ r. IsWordStep (h ++ flat_map elements before) (elements last)
    (step (Some (last, r)) None)) role
    (subst₂ (λ l w. IsWordStep (h ++ flat_map elements l) (elements w)
    (step (Some (w, role_of Dx k)) None)) first word one)
  where
    dx_from_none : (pairs : ℕ) → role_of Dx (2 * pairs) ≡ Dx
    dx_from_none pairs =
        let e : 2 * pairs ≡ 0 + 2 * pairs = omega arith in
        ap (role_of Dx) e ∙ dx_of_pair Dx 0 pairs refl

word_parts : (one word : ℕ) (first role : Role)
    → ◌≡◌ {A = Option (ℕ × Role)} (Some (one, first)) (Some (word, role))
    → (one ≡ word) × (first ≡ role)
word_parts one word first role e =
    let both : ◌≡◌ {A = ℕ × Role} (one, first) (word, role) = cc in
    (ap (λ (x : ℕ × Role). x.0) both, ap (λ (x : ℕ × Role). x.1) both)

-- words up to one that may bring something
up_to_heard : (first : Setting) (old : CopyTaker) (reader : LockReading) (event : TextEvent)
    (words : List ℕ) (before after : Held) (h : List Bool) (s : List Setting)
    (copies : List TaggedCopy) → HearsPairsUpTo old.reader reader words event
    → BringsWords before after words → HearerStands first (hearer_of before old) h s copies
    → HearsBits first (hearer_of before old) (hearer_of after (taken_by old reader event)) h s
    copies (flat_map elements words) (over_with (is_over event) false)
up_to_heard first old reader event words before after h s copies up brings w =
    let ws : List ℕ = up.before in
    let one : ℕ = up.last in
    let quiet : AreQuietWords h Dx (ws ++ one ∷ []) =
    subst (AreQuietWords h Dx) up.whole (brings.quiet h w.synchroniser) in
    let some : 0 < length ws = omega (arith, up.odd) in
    let read = words_read first old before up.mid ws h s copies some up.plain
    (quiet_before h ws one quiet) (brings.limit h w.synchroniser) w.reads in
    let xs : List Bool = flat_map elements ws in
    let ys : List Bool = elements one in
    let bits : flat_map elements words ≡ xs ++ ys =
    ap (flat_map elements) up.whole ∙ flat_map-append elements ws (one ∷ [])
    ∙ ap (λ l. xs ++ l) (append-nil ys) in
    let mid : CopyTaker = record old { reader = up.mid } in
    let stands : StandsAfter after ((h ++ xs) ++ ys) =
    subst (StandsAfter after) (ap (λ l. h ++ l) bits ∙ sym (append_assoc h xs ys))
    (brings.stands h w.synchroniser) in
    let reads : ReadsStep mid (taken_by old reader event) (step (Some (one, Rx)) None)
    (over_with (is_over event) false) = record {
      none = λ e. absurd (cc);
      some = λ word role e.
          let parts = word_parts one word Rx role e in
          subst₂ (λ x r. ReadsWord mid (taken_by old reader event) x r false
          (over_with (is_over event) false)) parts.0 parts.1 (record {
            event = event;
            stands = up.next.stands;
            hears = up.next.hears;
            kept = refl;
            force = refl;
            is = refl;
          });
    } in
    let last = step_heard first mid (taken_by old reader event) before after ys (h ++ xs)
    (s ++ all_in_force (hearer_of before old) xs) copies (step (Some (one, Rx)) None)
    (over_with (is_over event) false) (omega (arith, length-elements one)) stands
    (word_last (h ++ xs) ys (step (Some (one, Rx)) None) (length-elements one)
    (quiet_last h ws one up.pairs up.odd quiet)) reads read.reads in
    subst (λ l. HearsBits first (hearer_of before old)
    (hearer_of after (taken_by old reader event)) h s copies l (over_with (is_over event) false))
    (sym bits)
    (hears_on first (hearer_of before old) (hearer_of before mid)
    (hearer_of after (taken_by old reader event)) h s copies xs ys
    (over_with (is_over event) false) refl (λ k lt. read.none_before k) last)

-- a taker takes words at once
pub words_taken : (old : CopyTaker) (reader : LockReading) (event : TextEvent) (words : List ℕ)
    (before after : Held) → 0 < length words → HearsPairs old.reader reader words event
    → BringsWords before after words
    → Hears before old (flat_map elements words) after (taken_by old reader event)
    (over_with (is_over event) false)
words_taken old reader event words before after some (inl plain) brings =
    subst (λ e. Hears before old (flat_map elements words) after (taken_by old reader e)
    (over_with (is_over e) false)) (sym plain.0)
    (plain_taken old reader words before after some plain.1 brings)
words_taken old reader event words before after some (inr up) brings = record {
  hears = record {
    hears = λ first h s copies w.
        up_to_heard first old reader event words before after h s copies up brings w;
  };
  force = refl;
  kept = tag_by old (taken_by old reader event) before after event refl;
}
