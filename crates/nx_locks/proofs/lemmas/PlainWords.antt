-- Words of a lock that a reader reads at once, where none of the bytes that they print begins or
-- ends a copy.
use Rattle.std.proofs.Common.{◌≡◌, ℕ, suc, ◌+◌, ◌-◌, ◌^◌, ◌<◌, ◌≤◌, eqb, not, List, [], ◌∷◌, ◌++◌}
use Rattle.std.proofs.Common.{length, take, get_or, sym, ap, ◌∙◌, subst, append_assoc}
use Rattle.std.proofs.Common.{add-one, append-nil, arith, slice_index}
use Rattle.std.specs.Prelude.{min}
use Rattle.std.proofs.lemmas.Grind.{get_or_default_zero}
use Rattle.std.proofs.lemmas.List.{take_more}
use Rattle.nx_code.specs.Word.{is_wrong, wrong_in}
use Rattle.nx_envelope.specs.Copies.{headers}
use Rattle.nx_envelope.specs.Finder.{BringNothing, Keeps}
use Rattle.nx_sync.specs.declared.step.Role.TheVariants.{Dx}
use Rattle.nx_code.proofs.lemmas.WordCounts.{one_if, wrong_in-add, wrong_in-le}
use Rattle.nx_copies.specs.copies.Log.{is_of_lines}
use Rattle.nx_copies.specs.LockReader.{HasReadWords, ReadsWords}
use Rattle.nx_copies.specs.copies.LockText.{AreNext, text_after}
use Rattle.nx_code.proofs.lemmas.WordCounts.{wrong_in-same}
use Rattle.nx_locks.specs.private.Reader.{HasHeardWords, Reading, ShowsWords}
use Rattle.nx_locks.proofs.lemmas.ReaderWords.{line_pushed}

-- how many of the first words are wrong, with one more
pub wrong_in-next : (words : ℕ → ℕ) (n : ℕ)
    → wrong_in words 0 (n + 1) ≡ wrong_in words 0 n + one_if (is_wrong (words n))
unfolding wrong_in
wrong_in-next words n =
    let e : 0 + n ≡ n = omega arith in
    ap (wrong_in words 0) (add-one n)
    ∙ ap (λ k. wrong_in words 0 n + one_if (is_wrong (words k))) e

headers_plain : (text bytes : List ℕ) → BringNothing text bytes
    → headers (text ++ bytes) ≡ headers text
headers_plain text [] none = ap headers (append-nil text)
headers_plain text (b ∷ bytes) none =
    let one : Keeps text b = subst (λ (l : List ℕ). Keeps l b) (append-nil text)
    (none 0 (omega arith)) in
    let rest = headers_plain (text ++ b ∷ []) bytes
    (λ k lt. subst (λ (l : List ℕ). Keeps l (slice_index bytes k))
    (sym (append_assoc text (b ∷ []) (take k bytes))) (none (suc k) (omega arith))) in
    ap headers (sym (append_assoc text (b ∷ []) bytes)) ∙ rest ∙ one.headers

-- whether the last line of a text is open, by its last byte
pub line_ends : (text bytes : List ℕ) (count d : ℕ) → 0 < count → count ≤ length bytes
    → is_of_lines (text ++ take count bytes) ≡ eqb (get_or bytes (count - 1) d) 10
line_ends text bytes count d some few =
    let n : ℕ = count - 1 in
    let e : n + 1 ≡ count = omega arith in
    let last = get_or bytes n d in
    let whole : text ++ take count bytes ≡ (text ++ take n bytes) ++ last ∷ [] =
    ap (λ k. text ++ take k bytes) (sym e)
    ∙ ap (λ l. text ++ l) (take_more bytes n d (omega arith))
    ∙ sym (append_assoc text (take n bytes) (last ∷ [])) in
    ap is_of_lines whole ∙ line_pushed (text ++ take n bytes) last

pub no_more_lines : (text bytes : List ℕ) (count : ℕ) → count ≡ 0
    → is_of_lines (text ++ take count bytes) ≡ is_of_lines text
no_more_lines text bytes count none =
    ap (λ k. is_of_lines (text ++ take k bytes)) none ∙ ap is_of_lines (append-nil text)

-- a reader that reads so many words at once, and appends what they print
pub plain_shown : (old new : Reading) (bytes next given after : List ℕ) (count : ℕ)
    → length next ≡ count
    → ReadsWords old.lock new.lock next bytes
    → new.words ≡ min (old.words + count) (2 ^ 64 - 1)
    → new.wrong ≡ min (old.wrong + wrong_in (slice_index next) 0 count) (2 ^ 64 - 1)
    → new.copies ≡ old.copies
    → ((text : List ℕ) → old.is_line_open ≡ not (is_of_lines text)
    → new.is_line_open ≡ not (is_of_lines (text ++ bytes)))
    → after ≡ given ++ bytes → ShowsWords old new Dx next given after
plain_shown old new bytes next given after count size plain words_are wrong_are copies_are line
    spelled = record {
      printed = bytes;
      spelled = spelled;
      hears = record {
        few = omega (arith, copies_are);
        hears = λ first words n r is_word is_role few.
            let all : AreNext first words n next = record { dx = sym is_role; are = is_word } in
            let was : List ℕ = text_after first words n in
            let read = subst (λ (m : ℕ). HasReadWords new.lock first words n m bytes) size
            (plain.reads first words n r.reads all) in
            let grows = read.grows in
            let wrong : wrong_in words n count ≡ wrong_in (slice_index next) 0 count =
            wrong_in-same words (slice_index next) n 0 count
            (λ k lt. let same : k ≡ 0 + k = omega arith in
            is_word k (omega (arith, lt, size)) ∙ ap (slice_index next) same) in
            let start : wrong_in words (0 + n) count ≡ wrong_in words n count =
            let e : 0 + n ≡ n = omega arith in ap (λ i. wrong_in words i count) e in
            let some = wrong_in-le (slice_index next) 0 count in
            let headers_stay : length (headers (text_after first words (n + count)))
            ≡ length (headers was) =
            ap (λ l. length (headers l)) grows
            ∙ ap length (headers_plain was bytes (plain.nothing first words n r.reads all)) in
            let made : HasHeardWords new first words n count bytes = record {
              grows = grows;
              reads = record {
                reads = read.stands;
                words_counted = omega (arith, words_are, r.words_counted, few, size);
                wrong_counted = omega (
                  arith,
                  wrong_are,
                  r.wrong_counted,
                  r.wrong_few,
                  few,
                  size,
                  wrong,
                  start,
                  some,
                  wrong_in-add words 0 n count,
                );
                copies_counted = copies_are ∙ r.copies_counted ∙ sym headers_stay;
                wrong_few = omega (arith, wrong_are, r.wrong_few, some);
                copies_few = omega (arith, copies_are, r.copies_few);
                line = line was r.line ∙ ap (λ l. not (is_of_lines l)) (sym grows);
              };
            } in
            subst (λ (m : ℕ). HasHeardWords new first words n m bytes) (sym size) made;
      };
    }
