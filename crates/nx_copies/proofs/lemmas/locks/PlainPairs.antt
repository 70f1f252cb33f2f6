-- Words of a lock that a reader hears behind others, where none of them but the last may bring
-- anything.
use Rattle.std.proofs.Common.{◌≡◌, ℕ, zero, suc, ◌+◌, ◌*◌, List, [], ◌∷◌, ◌++◌, length, take}
use Rattle.std.proofs.Common.{refl, sym, ap, ◌∙◌, subst, subst₂, arith, append_assoc, append-nil}
use Rattle.std.proofs.Common.{inl, inr}
use Rattle.std.proofs.Math.Seq.{get_or-append_seam}
use Rattle.std.proofs.Common.{length-append, slice_index}
use Rattle.std.proofs.lemmas.List.{get_or-append-add, get_or_append_left}
use Rattle.nx_envelope.specs.Finder.{BringNothing, Keeps, StandsAfter}
use Rattle.nx_envelope.specs.declared.finder.Finder.{Finder}
use Rattle.nx_envelope.specs.declared.found.TextEvent.{TextEvent}
use Rattle.nx_envelope.specs.declared.found.TextEvent.TheVariants.{Nothing}
use Rattle.nx_fec.specs.emissions.Pairing.{Counted, IsLatest, counts_as}
use Rattle.nx_envelope.proofs.lemmas.finder.PlainBytes.{first_more}
use Rattle.nx_sync.specs.Words.{other_role, role_of}
use Rattle.nx_sync.specs.declared.step.Role.{Role}
use Rattle.nx_sync.specs.declared.step.Role.TheVariants.{Rx}
use Rattle.nx_copies.specs.private.LockPrinter.{HasPrintedWords}
use Rattle.nx_copies.specs.LockReader.{LockReading}
use Rattle.nx_copies.specs.copies.LockText.{AreNext, text_after}
use Rattle.nx_copies.specs.LockReader.{ReadsLock}
use Rattle.nx_copies.specs.ReaderWords.{HearsNext, HearsPairsUpTo, IsBrought, PrintsPlain}
use Rattle.nx_copies.specs.ReaderWords.{ReadsPlain}
use Rattle.nx_copies.proofs.lemmas.locks.ReaderWords.{dx_of_pair, has_read_dx, printer_of, prints_lock}
use Rattle.nx_copies.proofs.lemmas.locks.ReaderWords.{reads_on}

-- bytes that bring nothing, and others behind them
brings_both : (text xs ys : List ℕ) → BringNothing text xs → BringNothing (text ++ xs) ys
    → BringNothing text (xs ++ ys)
brings_both text [] ys one both = subst (λ l. BringNothing l ys) (append-nil text) both
brings_both text (b ∷ xs) ys one both =
    let first : Keeps text b =
    subst (λ l. Keeps l b) (append-nil text) (one 0 (omega arith)) in
    let whole : text ++ b ∷ xs ≡ (text ++ b ∷ []) ++ xs = sym (append_assoc text (b ∷ []) xs) in
    first_more text (xs ++ ys) b first
    (brings_both (text ++ b ∷ []) xs ys
    (λ k lt. subst (λ l. Keeps l (slice_index xs k)) (sym (append_assoc text (b ∷ []) (take k xs)))
    (one (suc k) (omega arith)))
    (subst (λ l. BringNothing l ys) whole both))

-- pairs of words that come next, and those behind them
next_first : {first : Role} {words : ℕ → ℕ} {n : ℕ} (xs ys : List ℕ)
    → AreNext first words n (xs ++ ys) → AreNext first words n xs
next_first xs ys all = record {
  dx = all.dx;
  are = λ k lt. all.are k (omega (arith, lt, length-append xs ys))
      ∙ get_or_append_left xs ys 0 k lt;
}

next_rest : {first : Role} {words : ℕ → ℕ} {n : ℕ} (xs ys : List ℕ) (pairs : ℕ)
    → length xs ≡ 2 * pairs → AreNext first words n (xs ++ ys)
    → AreNext first words (n + length xs) ys
next_rest {first} {words} {n} xs ys pairs even all = record {
  dx = ap (λ k. role_of first (n + k)) even ∙ dx_of_pair first n pairs all.dx;
  are = λ k lt.
      let e : n + length xs + k ≡ n + (length xs + k) = omega arith in
      ap words e ∙ all.are (length xs + k) (omega (arith, lt, length-append xs ys))
      ∙ get_or-append-add xs ys k 0;
}

-- pairs of words, and others behind them
pub more_words_plain : {old mid new : LockReading} (xs ys : List ℕ) (pairs : ℕ)
    → length xs ≡ 2 * pairs → ReadsPlain old mid xs → ReadsPlain mid new ys
    → ReadsPlain old new (xs ++ ys)
more_words_plain {old} {mid} {new} xs ys pairs even one rest =
    let whole : (n : ℕ) → n + length xs + length ys ≡ n + length (xs ++ ys) =
    λ n. omega (arith, length-append xs ys) in
    record {
      stands = λ first words n reads all.
          subst (ReadsLock new first words) (whole n)
          (rest.stands first words (n + length xs)
          (one.stands first words n reads (next_first xs ys all))
          (next_rest xs ys pairs even all));
      brings = λ first words n reads all.
          let before = next_first xs ys all in
          let after = next_rest xs ys pairs even all in
          let here = one.brings first words n reads before in
          let there = rest.brings first words (n + length xs)
          (one.stands first words n reads before) after in
          let text : List ℕ = text_after first words n in
          record {
            bytes = here.bytes ++ there.bytes;
            grows = ap (text_after first words) (sym (whole n)) ∙ there.grows
                ∙ ap (λ l. l ++ there.bytes) here.grows
                ∙ append_assoc text here.bytes there.bytes;
            nothing = brings_both text here.bytes there.bytes here.nothing
                (subst (λ l. BringNothing l there.bytes) here.grows there.nothing);
          };
    }

-- a word that comes behind pairs and a DX word
last_next : {first : Role} {words : ℕ → ℕ} {n : ℕ} (before : List ℕ) (last pairs : ℕ)
    → length before ≡ 2 * pairs + 1 → AreNext first words n (before ++ last ∷ [])
    → (words (n + length before) ≡ last) × (Rx ≡ role_of first (n + length before))
unfolding role_of
last_next {first} {words} {n} before last pairs odd all =
    let later : n + length before ≡ suc (n + 2 * pairs) = omega (arith, odd) in (
      all.are (length before) (omega (arith, length-append before (last ∷ [])))
          ∙ get_or-append_seam before last [] 0,
      sym (ap (role_of first) later ∙ ap other_role (dx_of_pair first n pairs all.dx)),
    )

-- where the last of some words brings nothing either, none of them does
bytes_of_word : (before after : List ℕ) (finder : Finder)
    → IsBrought before after finder Nothing → PrintsPlain before after
bytes_of_word before after finder (inl none) = record {
  bytes = [];
  grows = none.same ∙ sym (append-nil before);
  nothing = λ k lt. absurd (omega (arith, lt));
}
bytes_of_word before after finder (inr one) =
    record { bytes = one.byte ∷ []; grows = one.grows; nothing = alone one.byte one.hears }
  where
    alone : (byte : ℕ) → Keeps before byte → BringNothing before (byte ∷ [])
    alone byte keeps zero lt = subst (λ l. Keeps l byte) (sym (append-nil before)) keeps
    alone byte keeps (suc k) lt = absurd (omega (arith, lt))

prints_both : (before mid after : List ℕ) → PrintsPlain before mid → PrintsPlain mid after
    → PrintsPlain before after
prints_both before mid after one rest = record {
  bytes = one.bytes ++ rest.bytes;
  grows = rest.grows ∙ ap (λ l. l ++ rest.bytes) one.grows
      ∙ append_assoc before one.bytes rest.bytes;
  nothing = brings_both before one.bytes rest.bytes one.nothing
      (subst (λ l. BringNothing l rest.bytes) one.grows rest.nothing);
}

pub plain_up_to : {old new : LockReading} {next : List ℕ} → HearsPairsUpTo old new next Nothing
    → ReadsPlain old new next
plain_up_to {old} {new} {next} h =
    let one : ℕ = h.last in
    let size : (n : ℕ) → n + length h.before + 1 ≡ n + length next =
    λ n. omega (arith, ap length h.whole, length-append h.before (one ∷ [])) in
    record {
      stands = λ first words n reads all.
          let split = subst (AreNext first words n) h.whole all in
          let mid = h.plain.stands first words n reads (next_first h.before (one ∷ []) split) in
          let last = last_next h.before one h.pairs h.odd split in
          subst (ReadsLock new first words) (size n)
          (h.next.stands first words (n + length h.before) mid last.0 last.1);
      brings = λ first words n reads all.
          let split = subst (AreNext first words n) h.whole all in
          let before = next_first h.before (one ∷ []) split in
          let mid = h.plain.stands first words n reads before in
          let last = last_next h.before one h.pairs h.odd split in
          let text : ℕ → List ℕ = text_after first words in
          let k : ℕ = n + length h.before in
          subst (λ m. PrintsPlain (text n) (text m)) (size n)
          (prints_both (text n) (text k) (text (k + 1)) (h.plain.brings first words n reads before)
          (bytes_of_word (text k) (text (k + 1)) new.finder
          (h.next.hears first words k mid last.0 last.1)));
    }

-- pairs of words that bring nothing, and others behind them, up to one that may
pub up_to_behind : {old mid new : LockReading} {event : TextEvent} (xs ys : List ℕ) (pairs : ℕ)
    → length xs ≡ 2 * pairs → ReadsPlain old mid xs → HearsPairsUpTo mid new ys event
    → HearsPairsUpTo old new (xs ++ ys) event
up_to_behind xs ys pairs even plain h = record {
  mid = h.mid;
  before = xs ++ h.before;
  last = h.last;
  pairs = pairs + h.pairs;
  whole = ap (λ l. xs ++ l) h.whole ∙ sym (append_assoc xs h.before (h.last ∷ []));
  odd = omega (arith, even, h.odd, length-append xs h.before);
  plain = more_words_plain xs h.before pairs even plain h.plain;
  next = h.next;
}

-- a DX word, and an RX word behind it
pub pair_heard : {old mid new : LockReading} {event : TextEvent} {dx rx : ℕ}
    → ((sent : List Counted) → IsLatest old.diversity sent
    → IsLatest mid.diversity (sent ++ counts_as dx ∷ []))
    → mid.printer ≡ old.printer → mid.finder ≡ old.finder → HearsNext mid new rx Rx event
    → HearsPairsUpTo old new (dx ∷ rx ∷ []) event
pair_heard {old} {mid} {new} {event} {dx} {rx} hears same found next = record {
  mid = mid;
  before = dx ∷ [];
  last = rx;
  pairs = 0;
  whole = refl;
  odd = refl;
  plain = record {
    stands = λ first words n reads all.
        let printed = dx_printed first words n reads all in
        reads_on printed (subst₂ StandsAfter (sym found)
        (sym (append-nil (text_after first words n))) reads.finder);
    brings = λ first words n reads all.
        record {
          bytes = [];
          grows = (dx_printed first words n reads all).grows;
          nothing = λ k lt. absurd (omega (arith, lt));
        };
  };
  next = next;
}
  where
    dx_printed : (first : Role) (words : ℕ → ℕ) (n : ℕ) → ReadsLock old first words n
        → AreNext first words n (dx ∷ []) → HasPrintedWords (printer_of mid) first words n 1 []
    dx_printed first words n reads all =
        let here : n + 0 ≡ n = omega arith in
        let is : words n ≡ dx = ap words (sym here) ∙ all.are 0 (omega arith) in
        has_read_dx (prints_lock reads) all.dx (ap counts_as (sym is)) hears same
