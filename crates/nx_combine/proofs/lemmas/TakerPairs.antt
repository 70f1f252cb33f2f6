-- Two words of a lock that a taker of copies and of their positions takes, where neither brings a
-- change.
use Rattle.std.proofs.Common.{◌≡◌, ℕ, ◌+◌, ◌*◌, ◌≤◌, Bool, List, [], ◌∷◌, ◌++◌, length}
use Rattle.std.proofs.Common.{Option, refl, sym, ap, ◌∙◌, subst, subst₂, arith, inr}
use Rattle.std.proofs.Common.{append-nil, length-append, suc, take, get_or, ap₂}
use Rattle.std.specs.List.{flat_map}
use Rattle.nx_code.specs.Reading.{text}
use Rattle.nx_code.specs.Word.{elements}
use Rattle.nx_code.specs.declared.shifts.Shift.TheVariants.{Letters}
use Rattle.nx_fec.specs.emissions.Pairing.{counts_as, five_before, pairing}
use Rattle.nx_envelope.specs.Finder.{is_over}
use Rattle.nx_envelope.specs.declared.found.TextEvent.{TextEvent}
use Rattle.nx_sync.specs.Ahead.{BringsWords}
use Rattle.nx_sync.specs.Locks.{Lock, Now, hunting, locked, IsNow}
use Rattle.nx_sync.specs.Steps.{AreQuietWords, LimitStands}
use Rattle.nx_sync.specs.Synchroniser.{Held, StandsAfter}
use Rattle.nx_sync.specs.Words.{first_role, other_role, role_of, whole_words, word_of_lock}
use Rattle.nx_sync.specs.declared.step.Role.{Role}
use Rattle.nx_sync.specs.declared.step.Role.TheVariants.{Dx, Rx}
use Rattle.nx_sync.proofs.lemmas.words.LastSteps.{length-of_words}
use Rattle.nx_sync.proofs.lemmas.states.UniqueStates.{now-unique}
use Rattle.nx_copies.specs.LockReader.{LockReading}
use Rattle.nx_copies.specs.ReaderWords.{HearsNext, HearsPairsUpTo, ReadsPlain}
use Rattle.nx_copies.specs.copies.LockText.{positions, taken_at, text_after}
use Rattle.nx_copies.specs.declared.copy_taker.CopyTaker.{CopyTaker}
use Rattle.nx_copies.specs.declared.copy_taker.Over.{Over}
use Rattle.nx_copies.specs.hearing.CopyTaker.{Hears as HearsCopies, setting_of, tag_after}
use Rattle.nx_copies.proofs.lemmas.copy_hearer.WordsTaken.{taken_by, words_taken}
use Rattle.nx_copies.proofs.lemmas.locks.AlikeWords.{if_rx}
use Rattle.nx_copies.proofs.lemmas.locks.StillStands.{still_words}
use Rattle.nx_combine.specs.CombinedTaker.{Hears, TakerOver, TakesLock, TakesNow}
use Rattle.nx_combine.specs.declared.taker.CombinedTaker.{CombinedTaker}
use Rattle.nx_combine.specs.private.TakerSteps.{TakesPair}
use Rattle.nx_combine.proofs.lemmas.TakerBits.{copy_too, stand_on, takes_too}
use Rattle.nx_combine.proofs.lemmas.Taking.{next_is, takes-more, word_taken}

-- a DX word brings nothing
dx_plain : (old new : LockReading) (dx : ℕ) (event : TextEvent) → HearsNext old new dx Dx event
    → ReadsPlain old new (dx ∷ [])
unfolding taken_at
dx_plain old new dx event next = record {
  stands = λ first words n reads all.
      let here : n + 0 ≡ n = omega arith in
      next.stands first words n reads (ap words (sym here) ∙ all.are 0 (omega arith)) (sym all.dx);
  brings = λ first words n reads all.
      let more : positions first words (n + 1) ≡ positions first words n ++ [] =
      next_is first words n
      ∙ ap (λ r. positions first words n
      ++ if_rx r (pairing (five_before words n) (counts_as (words n)))) all.dx in
      record {
        bytes = [];
        grows = ap (λ l. text l Letters) (more ∙ append-nil (positions first words n))
            ∙ sym (append-nil (text_after first words n));
        nothing = λ k lt. absurd (omega (arith, lt));
      };
}

module _ (old new : CombinedTaker) (dx rx : ℕ) (answer : Option Over)
    (pair : TakesPair old new dx rx answer) (before after : Held)
    (brings : BringsWords before after (dx ∷ rx ∷ [])) where
  abbrev words : List ℕ
  words = dx ∷ rx ∷ []

  -- the taker of copies alone takes them
  copies_pair : HearsCopies before old.copies (flat_map elements words) after new.copies answer
  copies_pair =
      let w = pair.second in
      let reader : LockReading = w.mid.copies.reader in
      let up : HearsPairsUpTo old.copies.reader reader words w.event = record {
        mid = pair.mid.copies.reader;
        before = dx ∷ [];
        last = rx;
        pairs = 0;
        whole = refl;
        odd = refl;
        plain = dx_plain old.copies.reader pair.mid.copies.reader dx pair.event pair.first.reads;
        next = w.read.reads;
      } in
      let same : new.copies ≡ taken_by old.copies reader w.event =
      w.copies ∙ ap (λ (k : CopyTaker). record k {
        reader = reader;
        tag = tag_after (setting_of k) k.tag w.event;
      }) pair.kept in
      subst₂
      (λ taker over. HearsCopies before old.copies (flat_map elements words) after taker over)
      (sym same) (sym w.is)
      (words_taken old.copies reader w.event words before after (omega arith) (inr up) brings)

  pair_over : (h : List Bool) → StandsAfter after (h ++ flat_map elements words)
      → AreQuietWords h Dx words → (locks : List Lock) (p t m : ℕ) → IsNow h locks (locked p t)
      → length h ≡ t + 7 * m → TakesNow old h (locked p t)
      → TakerOver after new (h ++ flat_map elements words) answer
  unfolding role_of
  pair_over h synchroniser quiet locks p t m is limit takes =
      let still = still_words words h Dx locks p t m is limit quiet in
      let all : List Bool = h ++ flat_map elements words in
      let role : Role = first_role all t in
      let given : ℕ → ℕ = word_of_lock all t in
      let was : whole_words h t ≡ m = omega (arith, limit) in
      let whole : whole_words all t ≡ m + 1 + 1 =
      omega (arith, limit, length-of_words words, length-append h (flat_map elements words)) in
      let at = takes-more old h (flat_map elements words) t m is.found.here (omega (arith, limit))
      (subst (TakesLock old (first_role h t) (word_of_lock h t)) was takes) in
      let here : m + 0 ≡ m = omega arith in
      let dx_is : given m ≡ dx = ap given (sym here) ∙ still.are 0 (omega arith) in
      let dx_role : Dx ≡ role_of role m = sym (still.role (omega arith)) in
      let next : m + 1 ≡ suc m = omega arith in
      let rx_role : Rx ≡ role_of role (m + 1) =
      ap other_role dx_role ∙ ap (role_of role) (sym next) in
      let one = word_taken old pair.mid role given m dx Dx pair.event pair.first at dx_is dx_role in
      let w = pair.second in
      let two = word_taken pair.mid w.mid role given (m + 1) rx Rx w.event w.read one.takes
      (still.are 1 (omega arith)) rx_role in
      let reader : new.copies.reader ≡ w.mid.copies.reader =
      ap (λ (k : CopyTaker). k.reader) w.copies in
      subst (TakerOver after new all) (sym w.is)
      (stand_on all new after synchroniser locks p t (m + 1) still.stands whole
      (takes_too w.mid new role given (m + 1 + 1) reader w.left two.takes) (is_over w.event)
      (λ over. copy_too w.mid.notes new.notes role given (m + 1) w.left (two.copy over)))

  pair_now : (h : List Bool) → StandsAfter after (h ++ flat_map elements words)
      → AreQuietWords h Dx words → (locks : List Lock) (now : Now) → IsNow h locks now
      → LimitStands h → TakesNow old h now
      → TakerOver after new (h ++ flat_map elements words) answer
  pair_now h synchroniser quiet locks (hunting p) is limit takes =
      absurd (let same = now-unique h locks limit.locks (hunting p) (locked limit.p limit.t) is
      limit.stands in cc)
  pair_now h synchroniser quiet locks (locked p t) is limit takes =
      let same = now-unique h locks limit.locks (locked p t) (locked limit.p limit.t) is
      limit.stands in
      let at : t ≡ limit.t = cc in
      pair_over h synchroniser quiet locks p t limit.whole is (omega (arith, limit.limit, at)) takes

-- a taker takes two words
pub takes_pair : (old new : CombinedTaker) (dx rx : ℕ) (answer : Option Over) (before after : Held)
    → TakesPair old new dx rx answer → BringsWords before after (dx ∷ rx ∷ [])
    → Hears before old (flat_map elements (dx ∷ rx ∷ [])) after new answer
takes_pair old new dx rx answer before after pair brings = record {
  copies = copies_pair old new dx rx answer pair before after brings;
  takes = λ h stands.
      pair_now old new dx rx answer pair before after brings h
      (brings.stands h stands.synchroniser) (brings.quiet h stands.synchroniser) stands.at.locks
      stands.at.now stands.at.stands (brings.limit h stands.synchroniser) stands.at.takes;
}

-- the first two words
pub first_two : (words : List ℕ) (dx rx : ℕ) → 2 ≤ length words → dx ≡ get_or words 0 dx
    → rx ≡ get_or words 1 rx → take 2 words ≡ dx ∷ rx ∷ []
first_two [] dx rx some one two = absurd (omega (arith, some))
first_two (x ∷ []) dx rx some one two = absurd (omega (arith, some))
first_two (x ∷ y ∷ rest) dx rx some one two = ap₂ (λ a b. a ∷ b ∷ []) (sym one) (sym two)
