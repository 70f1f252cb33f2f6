-- The words of a lock: the third last of the DX words before an RX word is the word five before it;
-- and what one word more adds to the positions.
use Rattle.std.proofs.Common.{◌≡◌, ℕ, false, Option, zero, suc, ◌+◌, ◌-◌, ◌*◌, ◌<◌, ◌≤◌}
use Rattle.std.proofs.Common.{cond, List, [], ◌∷◌, ◌++◌, length, get_or, inl, inr, refl, sym, ap}
use Rattle.std.proofs.Common.{◌∙◌, subst, add-one, append_assoc, append-nil, length-append, arith}
use Rattle.std.proofs.lemmas.Bool.{cases_lt}
use Rattle.std.proofs.lemmas.Bool.Decides.{nat_tests}
use Rattle.std.proofs.Math.Seq.{get_or-append_seam}
use Rattle.std.specs.Option.{option_to_list}
use Rattle.nx_code.specs.Reading.{Reception, byte_of, shift_after, shift_after_all, text}
use Rattle.nx_code.specs.declared.shifts.Shift.TheVariants.{Letters}
use Rattle.nx_code.proofs.lemmas.Reading.{reading_push}
use Rattle.nx_envelope.specs.Finder.{ClosesNone, HoldsCopy, StandsAfter}
use Rattle.nx_envelope.specs.declared.found.HeldCopy.{HeldCopy}
use Rattle.nx_envelope.specs.declared.found.HeldCopy.TheVariants as held
use Rattle.nx_envelope.proofs.lemmas.finder.Hearing.{closes_none}
use Rattle.nx_fec.specs.emissions.Pairing.{Counted, IsLatest, nothing, counts_as, pairing, third_last}
use Rattle.nx_fec.specs.emissions.Pairing.{five_before}
use Rattle.nx_fec.proofs.lemmas.emissions.Pairing.{third_last-early, third_last-late}
use Rattle.nx_sync.specs.Words.{role_of, other_role, is_dx}
use Rattle.nx_sync.specs.declared.step.Role.{Role}
use Rattle.nx_sync.specs.declared.step.Role.TheVariants.{Dx, Rx}
use Rattle.nx_copies.specs.private.LockPrinter.{HasPrintedWords, PrintsLock}
use Rattle.nx_copies.specs.copies.LockText.{taken_at, positions}
use Rattle.nx_copies.specs.declared.lock_printer.LockPrinter.{LockPrinter}
use Rattle.nx_copies.specs.LockReader.{ReadsLock}
use Rattle.nx_copies.specs.ReaderWords.{is_open}
use Rattle.nx_copies.specs.copies.LockText.{dx_words, text_after}
use Rattle.nx_copies.specs.LockReader.{LockReading}

-- a word of this role, among the DX words
abbrev if_dx : Role → Counted → List Counted
if_dx role word = cond (is_dx role) (word ∷ []) []

-- the role two words later, which is the same
abbrev twice : Role → Role
twice role = other_role (other_role role)

-- an RX word comes after one DX word more than a DX word does
abbrev one_if_rx : Role → ℕ
one_if_rx Dx = 0
one_if_rx Rx = 1

length-one_more : (xs : List Counted) (role : Role) (word : Counted) (n : ℕ)
    → 2 * length xs ≤ n + one_if_rx role
    → 2 * length (xs ++ if_dx role word) ≤ suc n + one_if_rx (other_role role)
length-one_more xs Dx word n h = simp length-append (omega arith)
length-one_more xs Rx word n h = simp append-nil (omega arith)

-- there are at most half as many DX words as words
length-dx_words : (first : Role) (words : ℕ → ℕ) (n : ℕ)
    → 2 * length (dx_words first words n) ≤ n + one_if_rx (role_of first n)
unfolding dx_words role_of
length-dx_words first words zero = omega arith
length-dx_words first words (suc n) =
    length-one_more (dx_words first words n) (role_of first n) (counts_as (words n)) n
    (length-dx_words first words n)

one_if_rx-small : (role : Role) → one_if_rx role ≤ 1
one_if_rx-small Dx = omega arith
one_if_rx-small Rx = omega arith

third_last-three : (xs : List Counted) (a b c : Counted) → third_last (xs ++ a ∷ b ∷ c ∷ []) ≡ a
third_last-three xs a b c =
    let whole = xs ++ a ∷ b ∷ c ∷ [] in
    let count : length whole - 3 ≡ length xs = omega (arith, length-append xs (a ∷ b ∷ c ∷ [])) in
    third_last-late whole (omega (arith, length-append xs (a ∷ b ∷ c ∷ [])))
    ∙ ap (λ k. get_or whole k nothing) count
    ∙ get_or-append_seam xs a (b ∷ c ∷ []) nothing

-- after five words, of which the first is no RX word, it is the third last DX word
third_last-five : (xs : List Counted) (role : Role) (a b c d e : Counted) → role ≡ Dx
    → third_last (xs ++ if_dx role a ++ if_dx (other_role role) b ++ if_dx (twice role) c
    ++ if_dx (other_role (twice role)) d ++ if_dx (twice (twice role)) e) ≡ a
third_last-five xs Dx a b c d e h = simp (append-nil, append_assoc) (third_last-three xs a c e)
third_last-five xs Rx a b c d e h = cc

-- the word five before an RX word is a DX word
five_on : (role : Role) → other_role (twice (twice role)) ≡ Rx → role ≡ Dx
five_on Dx h = refl
five_on Rx h = cc

abbrev after_five : ℕ → ℕ
after_five m = suc (suc (suc (suc (suc m))))

third_last-after_five : (first : Role) (words : ℕ → ℕ) (m : ℕ) → role_of first (after_five m) ≡ Rx
    → third_last (dx_words first words (after_five m)) ≡ counts_as (words m)
unfolding dx_words role_of
third_last-after_five first words m h =
    let counts = λ (k : ℕ). counts_as (words k) in
    let b = counts (suc m) in
    let c = counts (suc (suc m)) in
    let d = counts (suc (suc (suc m))) in
    let e = counts (suc (suc (suc (suc m)))) in
    third_last-five (dx_words first words m) (role_of first m) (counts m) b c d e
    (five_on (role_of first m) h)

five_before-early : (words : ℕ → ℕ) (n : ℕ) → n < 5 → five_before words n ≡ nothing
five_before-early words n h = grind (arith, nat_tests)

five_before-late : (words : ℕ → ℕ) (n : ℕ) → 5 ≤ n → five_before words n ≡ counts_as (words (n - 5))
five_before-late words n h = grind (arith, nat_tests)

-- the word five before an RX word is the third last DX word
pub third_last-dx_words : (first : Role) (words : ℕ → ℕ) (n : ℕ) → role_of first n ≡ Rx
    → third_last (dx_words first words n) ≡ five_before words n
third_last-dx_words first words n h =
    elim (cases_lt n 5) [
      | inl early ↦
          let few = length-dx_words first words n in
          let one = one_if_rx-small (role_of first n) in
          third_last-early (dx_words first words n) (omega arith)
          ∙ sym (five_before-early words n early)
      | inr late ↦
          let e : n ≡ after_five (n - 5) = omega arith in
          ap (λ k. third_last (dx_words first words k)) e
          ∙ third_last-after_five first words (n - 5) (ap (role_of first) (sym e) ∙ h)
          ∙ sym (five_before-late words n late)
    ]

-- what one word more adds to the DX words, and to the positions
pub dx_words-dx : (first : Role) (words : ℕ → ℕ) (n : ℕ) → role_of first n ≡ Dx
    → dx_words first words (n + 1) ≡ dx_words first words n ++ counts_as (words n) ∷ []
unfolding dx_words
dx_words-dx first words n h =
    ap (dx_words first words) (add-one n)
    ∙ ap (λ role. dx_words first words n ++ if_dx role (counts_as (words n))) h

pub dx_words-rx : (first : Role) (words : ℕ → ℕ) (n : ℕ) → role_of first n ≡ Rx
    → dx_words first words (n + 1) ≡ dx_words first words n
unfolding dx_words
dx_words-rx first words n h =
    ap (dx_words first words) (add-one n)
    ∙ ap (λ role. dx_words first words n ++ if_dx role (counts_as (words n))) h
    ∙ append-nil (dx_words first words n)

-- a position, where the word has the role of one that completes it
abbrev if_rx : Role → Reception → List Reception
if_rx role position = cond (is_dx role) [] (position ∷ [])

pub positions-dx : (first : Role) (words : ℕ → ℕ) (n : ℕ) → role_of first n ≡ Dx
    → positions first words (n + 1) ≡ positions first words n
unfolding positions taken_at
positions-dx first words n h =
    let position = pairing (five_before words n) (counts_as (words n)) in
    ap (positions first words) (add-one n)
    ∙ ap (λ role. positions first words n ++ if_rx role position) h
    ∙ append-nil (positions first words n)

pub positions-rx : (first : Role) (words : ℕ → ℕ) (n : ℕ) → role_of first n ≡ Rx
    → positions first words (n + 1)
    ≡ positions first words n
    ++ pairing (third_last (dx_words first words n)) (counts_as (words n)) ∷ []
unfolding positions taken_at
positions-rx first words n h =
    let rx = counts_as (words n) in
    ap (positions first words) (add-one n)
    ∙ ap (λ role. positions first words n ++ if_rx role (pairing (five_before words n) rx)) h
    ∙ ap (λ dx. positions first words n ++ pairing dx rx ∷ [])
    (sym (third_last-dx_words first words n h))

-- a printer that stands after the words before is given an RX word
pub has_read_rx : {old new : LockPrinter} {word : Counted} {position : Reception}
    {printed : Option ℕ} {first : Role} {words : ℕ → ℕ} {n : ℕ} → PrintsLock old first words n
    → role_of first n ≡ Rx
    → word ≡ counts_as (words n)
    → ((sent : List Counted) → IsLatest old.diversity sent
    → position ≡ pairing (third_last sent) word)
    → new.diversity ≡ old.diversity
    → printed ≡ byte_of position old.printer → new.printer ≡ shift_after position old.printer
    → HasPrintedWords new first words n 1 (option_to_list printed)
has_read_rx {old} {new} {position = position} {printed = printed} {first = first} {words = words}
    {n = n} before rx counts pairs kept prints shifts =
    let sent = dx_words first words n in
    let pair : position ≡ pairing (third_last sent) (counts_as (words n)) =
    pairs sent before.latest ∙ ap (pairing (third_last sent)) counts in
    let more : positions first words n ++ position ∷ [] ≡ positions first words (n + 1) =
    ap (λ p. positions first words n ++ p ∷ []) pair ∙ sym (positions-rx first words n rx) in
    let read = reading_push (positions first words n) position old.printer new.printer printed
    prints shifts before.shift in
    record {
      stands = record {
        latest = subst (IsLatest new.diversity) (sym (dx_words-rx first words n rx))
            (kept ∙ before.latest);
        shift = read.0 ∙ ap (λ l. shift_after_all l Letters) more;
      };
      grows = ap (λ l. text l Letters) (sym more) ∙ read.1;
    }

-- and a DX word, which prints nothing
pub has_read_dx : {old new : LockPrinter} {word : Counted} {first : Role} {words : ℕ → ℕ} {n : ℕ}
    → PrintsLock old first words n → role_of first n ≡ Dx → word ≡ counts_as (words n)
    → ((sent : List Counted) → IsLatest old.diversity sent
    → IsLatest new.diversity (sent ++ word ∷ []))
    → new.printer ≡ old.printer → HasPrintedWords new first words n 1 []
has_read_dx {old} {new} {word = word} {first = first} {words = words} {n = n} before dx counts hears
    kept =
    let same = positions-dx first words n dx in
    let sent : dx_words first words n ++ word ∷ [] ≡ dx_words first words (n + 1) =
    ap (λ x. dx_words first words n ++ x ∷ []) counts ∙ sym (dx_words-dx first words n dx) in
    record {
      stands = record {
        latest = subst (IsLatest new.diversity) sent
            (hears (dx_words first words n) before.latest);
        shift = kept ∙ before.shift ∙ ap (λ l. shift_after_all l Letters) (sym same);
      };
      grows = ap (λ l. text l Letters) same ∙ sym (append-nil (text_after first words n));
    }

-- words that were printed behind others
pub has_printed_more : {mid new : LockPrinter} {first : Role} {words : ℕ → ℕ} {n k m : ℕ}
    {some more : List ℕ} → HasPrintedWords mid first words n k some
    → HasPrintedWords new first words (n + k) m more
    → HasPrintedWords new first words n (k + m) (some ++ more)
has_printed_more {new = new} {first = first} {words = words} {n = n} {k = k} {m = m} {some = some}
    {more = more} one rest =
    let e : n + k + m ≡ n + (k + m) = omega arith in
    record {
      stands = subst (PrintsLock new first words) e rest.stands;
      grows = ap (text_after first words) (sym e)
          ∙ (rest.grows ∙ (ap (λ l. l ++ more) one.grows
          ∙ append_assoc (text_after first words n) some more));
    }

-- a DX word and an RX word, given behind others one after the other
pub has_printed_pair : {old mid new : LockPrinter} {position : Reception} {some more : List ℕ}
    {first : Role} {words : ℕ → ℕ} {n count dx rx : ℕ}
    → HasPrintedWords old first words n count some → role_of first (n + count) ≡ Dx
    → words (n + count) ≡ dx → words (n + count + 1) ≡ rx
    → ((sent : List Counted) → IsLatest old.diversity sent
    → IsLatest mid.diversity (sent ++ counts_as dx ∷ []))
    → mid.printer ≡ old.printer
    → ((sent : List Counted) → IsLatest mid.diversity sent
    → position ≡ pairing (third_last sent) (counts_as rx))
    → new.diversity ≡ mid.diversity
    → more ≡ some ++ option_to_list (byte_of position mid.printer)
    → new.printer ≡ shift_after position mid.printer
    → HasPrintedWords new first words n (count + 2) more
unfolding role_of
has_printed_pair {new = new} {first = first} {words = words} {n = n} {count = count} before is_dx dx
    rx hears kept pairs same prints shifts =
    let is_rx : role_of first (n + count + 1) ≡ Rx =
    ap (role_of first) (add-one (n + count)) ∙ ap other_role is_dx in
    let one = has_read_dx before.stands is_dx (ap counts_as (sym dx)) hears kept in
    let rest = has_read_rx one.stands is_rx (ap counts_as (sym rx)) pairs same refl shifts in
    subst (HasPrintedWords new first words n (count + 2)) (sym prints)
    (has_printed_more before (has_printed_more one rest))

-- a DX word after as many pairs
pub dx_of_pair : (first : Role) (n i : ℕ) → role_of first n ≡ Dx → role_of first (n + 2 * i) ≡ Dx
unfolding role_of
dx_of_pair first n zero dx = let e : n + 2 * 0 ≡ n = omega arith in ap (role_of first) e ∙ dx
dx_of_pair first n (suc i) dx =
    let e : n + 2 * suc i ≡ suc (suc (n + 2 * i)) = omega arith in
    ap (role_of first) e
    ∙ ap (λ role. other_role (other_role role)) (dx_of_pair first n i dx)

-- what prints the words for a reader
abbrev pub printer_of : LockReading → LockPrinter
printer_of reader = record { diversity = reader.diversity; printer = reader.printer }

-- a reader stands after the words that its printer printed
pub prints_lock : {reader : LockReading} {first : Role} {words : ℕ → ℕ} {n : ℕ}
    → ReadsLock reader first words n → PrintsLock (printer_of reader) first words n
prints_lock reads = record { latest = reads.latest; shift = reads.shift }

-- and that its finder heard
pub reads_on : {reader : LockReading} {first : Role} {words : ℕ → ℕ} {n count : ℕ}
    {bytes : List ℕ} → HasPrintedWords (printer_of reader) first words n count bytes
    → StandsAfter reader.finder (text_after first words n ++ bytes)
    → ReadsLock reader first words (n + count)
reads_on {reader = reader} printed found = record {
  latest = printed.stands.latest;
  shift = printed.stands.shift;
  finder = subst (StandsAfter reader.finder) (sym printed.grows) found;
}

-- a reader stands after no word, where its printer does, and its finder after no text
pub fresh_reads : {reader : LockReading}
    → ((first : Role) (words : ℕ → ℕ) → PrintsLock (printer_of reader) first words 0)
    → StandsAfter reader.finder [] → (first : Role) (words : ℕ → ℕ) → ReadsLock reader first words 0
unfolding positions
fresh_reads prints found first words = record {
  latest = (prints first words).latest;
  shift = (prints first words).shift;
  finder = found;
}

-- where the copy that the finder holds isn't open, none stands open
pub not_open : (copy : HeldCopy) (kept text : List ℕ) → is_open copy ≡ false
    → HoldsCopy copy kept text → ClosesNone text
not_open held.Nothing kept text e h = closes_none text h
not_open (held.Open identity fresh) kept text e h = cc
not_open (held.Ready identity how) kept text e h = closes_none text h
