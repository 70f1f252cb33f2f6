-- The lines of a message file, one after the other.
use Rattle.std.proofs.Common.{◌≡◌, ℕ, ◌+◌, ◌/◌, ◌%◌, ◌≤◌, false, List, [], ◌∷◌, ◌++◌, refl, sym}
use Rattle.std.proofs.Common.{◌∙◌, subst, append_assoc, arith}
use Rattle.std.specs.List.{AllByRecursion}
use Rattle.std.specs.Prelude.{All}
use Rattle.std.proofs.lemmas.Bool.{false≢true}
use Rattle.std.proofs.lemmas.List.Elements.{recursion_from_All}
use Rattle.nx_code.specs.Reading.{is_in_code, characters}
use Rattle.nx_envelope.specs.Identity.{two_digits}
use Rattle.nx_envelope.specs.Message.{IsMessageLine, IsLineByte, text_of}
use Rattle.nx_fec.proofs.lemmas.lines.LineLaws.{first_feed, no_feed-not}
use Rattle.nx_station.specs.MessageFile.{FileMessage, IsOneLine, IsInside, IsNamed, IsFileMessage}
use Rattle.nx_station.specs.MessageFile.{IsBegun, heading, closing, opening, file_message_bytes}

-- ---- headings

pub heading-one_line : (subject number : ℕ) → IsNamed subject number
    → IsOneLine (heading subject number)
heading-one_line subject number h = (
  (λ e. absurd (omega (arith, e))),
  (
    (λ e. absurd (omega (arith, e, h.letter.0))),
    ((λ e. absurd (omega (arith, e))), ((λ e. absurd (omega (arith, e))), tt)),
  ),
)

pub digits-same : (m n : ℕ) → m ≤ 99 → n ≤ 99 → two_digits m ≡ two_digits n → m ≡ n
digits-same m n h k e =
    let tens : 48 + m / 10 ≡ 48 + n / 10 = cc in
    let units : 48 + m % 10 ≡ 48 + n % 10 = cc in
    omega (arith, tens, units)

pub heading-same : (s m t n : ℕ) → m ≤ 99 → n ≤ 99 → heading s m ≡ heading t n → (s ≡ t) × (m ≡ n)
heading-same s m t n h k e =
    let letters : s ≡ t = cc in
    let digits : two_digits m ≡ two_digits n = cc in
    (letters, digits-same m n h k digits)

-- ---- lines of text

pub text-cons : (line : List ℕ) (lines : List (List ℕ)) (rest : List ℕ)
    → text_of (line ∷ lines) ++ rest ≡ line ++ (10 ∷ (text_of lines ++ rest))
text-cons line lines rest =
    append_assoc (line ++ (10 ∷ [])) (text_of lines) rest
    ∙ append_assoc line (10 ∷ []) (text_of lines ++ rest)

closing-one_line : IsOneLine closing
closing-one_line = ((λ e. absurd (omega (arith, e))), tt)

-- two ended texts
pub ended-same : (ls ms : List (List ℕ)) (x y : List ℕ) → AllByRecursion IsInside ls
    → AllByRecursion IsInside ms
    → text_of ls ++ (59 ∷ (10 ∷ x)) ≡ text_of ms ++ (59 ∷ (10 ∷ y)) → (ls ≡ ms) × (x ≡ y)
ended-same [] [] x y h k e = (refl, cc)
ended-same [] (m ∷ ms) x y h k e =
    absurd (k.0.goes_on (sym (first_feed closing m x (text_of ms ++ (59 ∷ (10 ∷ y)))
    closing-one_line k.0.one_line (e ∙ text-cons m ms (59 ∷ (10 ∷ y)))).0))
ended-same (l ∷ ls) [] x y h k e =
    absurd (h.0.goes_on (first_feed l closing (text_of ls ++ (59 ∷ (10 ∷ x))) y h.0.one_line
    closing-one_line (sym (text-cons l ls (59 ∷ (10 ∷ x))) ∙ e)).0)
ended-same (l ∷ ls) (m ∷ ms) x y h k e =
    let p = first_feed l m (text_of ls ++ (59 ∷ (10 ∷ x))) (text_of ms ++ (59 ∷ (10 ∷ y)))
    h.0.one_line k.0.one_line
    (sym (text-cons l ls (59 ∷ (10 ∷ x))) ∙ e ∙ text-cons m ms (59 ∷ (10 ∷ y))) in
    let r = ended-same ls ms x y h.1 k.1 p.1 in
    let heads = p.0 in
    (cc (r.0, heads), r.1)

-- an ended text and one that isn't
pub ended-open : (ls ms : List (List ℕ)) (x r : List ℕ) → AllByRecursion IsInside ls
    → AllByRecursion IsInside ms → IsOneLine r
    → text_of ls ++ (59 ∷ (10 ∷ x)) ≡ text_of ms ++ r → ⊥
ended-open [] [] x r h k one e = no_feed-not closing x (subst IsOneLine (sym e) one)
ended-open [] (m ∷ ms) x r h k one e =
    absurd (k.0.goes_on (sym (first_feed closing m x (text_of ms ++ r) closing-one_line k.0.one_line
    (e ∙ text-cons m ms r)).0))
ended-open (l ∷ ls) [] x r h k one e =
    no_feed-not l (text_of ls ++ (59 ∷ (10 ∷ x)))
    (subst IsOneLine (sym e ∙ text-cons l ls (59 ∷ (10 ∷ x))) one)
ended-open (l ∷ ls) (m ∷ ms) x r h k one e =
    let p = first_feed l m (text_of ls ++ (59 ∷ (10 ∷ x))) (text_of ms ++ r) h.0.one_line
    k.0.one_line
    (sym (text-cons l ls (59 ∷ (10 ∷ x))) ∙ e ∙ text-cons m ms r) in
    ended-open ls ms x r h.1 k.1 one p.1

-- two that aren't ended
pub open-same : (ls ms : List (List ℕ)) (r s : List ℕ) → AllByRecursion IsInside ls
    → AllByRecursion IsInside ms → IsOneLine r → IsOneLine s
    → text_of ls ++ r ≡ text_of ms ++ s → (ls ≡ ms) × (r ≡ s)
open-same [] [] r s h k one other e = (refl, e)
open-same [] (m ∷ ms) r s h k one other e =
    absurd (no_feed-not m (text_of ms ++ s) (subst IsOneLine (e ∙ text-cons m ms s) one))
open-same (l ∷ ls) [] r s h k one other e =
    absurd (no_feed-not l (text_of ls ++ r) (subst IsOneLine (sym e ∙ text-cons l ls r) other))
open-same (l ∷ ls) (m ∷ ms) r s h k one other e =
    let p = first_feed l m (text_of ls ++ r) (text_of ms ++ s) h.0.one_line k.0.one_line
    (sym (text-cons l ls r) ∙ e ∙ text-cons m ms s) in
    let t = open-same ls ms r s h.1 k.1 one other p.1 in
    let heads = p.0 in
    (cc (t.0, heads), t.1)

-- ---- the lines of a message go on

closing-not_in_code : is_in_code 59 ≡ false
unfolding is_in_code characters
closing-not_in_code = refl

pub line_bytes : (line : List ℕ) → AllByRecursion IsLineByte line → IsOneLine line
line_bytes [] h = tt
line_bytes (b ∷ line) h = (h.0.1, line_bytes line h.1)

line-IsInside : (line : List ℕ) → IsMessageLine line → IsInside line
line-IsInside line h = record {
  one_line = line_bytes line (recursion_from_All IsLineByte line h.in_code);
  goes_on = λ e. let bad = subst (All IsLineByte) e h.in_code 0 0 (omega arith) in
      false≢true (sym closing-not_in_code ∙ bad.0);
}

lines-inside : (lines : List (List ℕ)) → AllByRecursion IsMessageLine lines
    → AllByRecursion IsInside lines
lines-inside [] h = tt
lines-inside (line ∷ lines) h = (line-IsInside line h.0, lines-inside lines h.1)

pub IsFileMessage-IsBegun : (entry : FileMessage) → IsFileMessage entry → IsBegun entry
IsFileMessage-IsBegun entry h =
    record {
      named = h.named;
      lines =
          lines-inside entry.lines (recursion_from_All IsMessageLine entry.lines h.lines.each);
    }

-- ---- where the bytes of an entry stand

pub opening-line : (entry : FileMessage) (rest : List ℕ)
    → opening entry ++ rest ≡ heading entry.subject entry.number
    ++ (10 ∷ (text_of entry.lines ++ rest))
opening-line entry rest = refl

pub spelling-line : (entry : FileMessage) (rest : List ℕ)
    → file_message_bytes entry ++ rest
    ≡ heading entry.subject entry.number ++ (10 ∷ (text_of entry.lines ++ (59 ∷ (10 ∷ rest))))
spelling-line entry rest =
    append_assoc (opening entry) (59 ∷ (10 ∷ [])) rest ∙ opening-line entry (59 ∷ (10 ∷ rest))
