-- The entries that are read of a log are those among its bytes.
use Rattle.std.proofs.Common.{◌≡◌, ◌≢◌, inl, inr, ℕ, true, false, List, [], ◌∷◌, ◌++◌, get_or, drop, ap, sym, ◌∙◌, refl, subst, arith, append-nil, append_assoc}
use Rattle.std.specs.List.{All, AllZip}
use Rattle.std.proofs.lemmas.Bool.{true≢false}
use Rattle.std.proofs.lemmas.List.Elements.{All-head, All-tail}
use Rattle.std.proofs.lemmas.List.{append_cancel_left}
use Rattle.nx_kept.specs.Kept.{IsBehindOpenGates}
use Rattle.nx_log.specs.Entries.{IsWholeEntry}
use Rattle.nx_log.specs.Logged.{IsLoggedAs}
use Rattle.nx_log.specs.Reading.{AreRead, Head, HoldEntries, HoldEntriesToEnd, IsHead, IsLogRead, IsNoBracket, IsPart, LogRead, begun, entries_of, is_begun, nothing, whole}
use Rattle.nx_log.proofs.lemmas.beginnings.Lists.{one_extends}
use Rattle.nx_log.proofs.lemmas.reading.Brackets.{entry_bracket}
use Rattle.nx_log.proofs.lemmas.reading.Entries.{one_entry}
use Rattle.nx_log.proofs.lemmas.reading.Gaps.{begins}
use Rattle.nx_log.proofs.lemmas.reading.Parts.{none_there, same_head}
use Rattle.nx_copies.specs.copies.Shares.{MarkedCopy}
use Rattle.nx_watch.specs.CutTold.{BeginsWithEntry}
use Rattle.nx_watch.specs.Watch.{StandsForEntries}
use Rattle.nx_left_on.specs.ReadBack.{AreEntriesAmong, AreThenThoseOfTail}

-- ---- where an entry begins

-- it begins only where a bracket stands
begins_bracket : (byte : ℕ) (bytes entry rest : List ℕ) (one : MarkedCopy) → IsLoggedAs one entry
    → byte ∷ bytes ≡ entry ++ rest → byte ≡ 91
begins_bracket byte bytes entry rest one l e =
    let o = entry_bracket one entry l in
    ap (λ (l : List ℕ). get_or l 0 0) (e ∙ ap (λ l. l ++ rest) o.is)

none_begins : (byte : ℕ) (bytes : List ℕ) → byte ≢ 91 → ¬ BeginsWithEntry (byte ∷ bytes)
none_begins byte bytes other b =
    other (begins_bracket byte bytes b.0 b.1 b.2.0 b.2.1 b.3)

-- no bytes without a bracket have one among them
none_among : (bytes : List ℕ) → All IsNoBracket bytes → AreEntriesAmong bytes []
none_among [] h = refl
none_among (x ∷ xs) h = inr (
  none_begins x xs (All-head IsNoBracket x xs h),
  none_among xs (All-tail IsNoBracket x xs h),
)

-- where none begins, none does with a bracket and more behind the bytes
none_more : (x : ℕ) (a b more : List ℕ) → b ≡ 91 ∷ more → ¬ BeginsWithEntry (x ∷ a)
    → ¬ BeginsWithEntry ((x ∷ a) ++ b)
none_more x a b more e none t =
    let entry = t.0 in
    let rest = t.1 in
    elim (one_extends (x ∷ a) entry b rest t.3) [
      | inr f ↦ none (entry, f.more, t.2, f.is)
      | inl f ↦ behind f.more f.is (append_cancel_left (x ∷ a) b (f.more ++ rest)
          (t.3 ∙ ap (λ l. l ++ rest) f.is ∙ append_assoc (x ∷ a) f.more rest))
    ]
  where
    behind : (y : List ℕ) → t.0 ≡ (x ∷ a) ++ y → b ≡ y ++ t.1 → ⊥
    behind [] is at =
        none (t.0, [], t.2, sym (append-nil (x ∷ a)) ∙ sym is ∙ sym (append-nil t.0))
    behind (c ∷ y) is at =
        let o = entry_bracket t.2.0 t.0 t.2.1 in
        let here : c ≡ 91 = ap (λ (l : List ℕ). get_or l 0 0) (sym at ∙ e) in
        let inside : o.more ≡ a ++ (91 ∷ y) =
        ap (drop 1) (sym o.is ∙ is) ∙ ap (λ z. a ++ (z ∷ y)) here in
        none_there a y (subst (All IsNoBracket) inside o.none)

among_append : (a b : List ℕ) (es fs : List MarkedCopy) (more : List ℕ) → b ≡ 91 ∷ more
    → AreEntriesAmong a es → AreEntriesAmong b fs → AreEntriesAmong (a ++ b) (es ++ fs)
among_append [] b es fs more e h k = subst (λ l. AreEntriesAmong b (l ++ fs)) (sym h) k
among_append (x ∷ a) b es fs more e (inl s) k = inl (
  s.0,
  s.1 ++ fs,
  (s.2.0, s.2.1 ++ b, s.2.2, ap (λ l. l ++ b) s.2.3 ∙ append_assoc s.2.0 s.2.1 b),
  ap (λ l. l ++ fs) s.3,
  among_append a b s.1 fs more e s.4 k,
)
among_append (x ∷ a) b es fs more e (inr s) k =
    inr (none_more x a b more e s.0, among_append a b es fs more e s.1 k)

-- ---- what is read is what stands among the bytes

part_among : (head : Head) (front tail : List ℕ) → IsHead false head front tail
    → IsPart false (front ++ tail) → AreEntriesAmong (front ++ tail) (entries_of head)
part_among nothing front tail h part = absurd h
part_among (whole one) front tail h part =
    subst (λ l. AreEntriesAmong l (one ∷ [])) (sym part.1) (inl (
      one,
      [],
      (front, tail, h, sym part.1),
      refl,
      none_among part.0 part.2,
    ))
part_among begun front tail h part =
    subst (λ l. AreEntriesAmong l []) (sym part.1) (inr (
      λ b. not_begun b.2.0 b.0 b.1 b.2.1 (sym b.3 ∙ sym part.1),
      none_among part.0 part.2,
    ))
  where
    not_begun : (one : MarkedCopy) (entry rest : List ℕ) → IsLoggedAs one entry
        → entry ++ rest ≡ front ++ tail → ⊥
    not_begun one entry rest l e =
        let same = same_head false (whole one) begun entry front rest tail l h e in
        true≢false (sym (ap is_begun same.head))

pub read_among : (parts : List (List ℕ)) (read : LogRead) → AreRead parts read
    → AreEntriesAmong read.bytes read.entries
read_among [] read r =
    subst (λ (x : LogRead). AreEntriesAmong x.bytes x.entries) (sym r) refl
read_among (part ∷ []) read r = first r.2.head r.2.front r.2.tail r.2.is_head r.2.entries
  where
    first : (head : Head) (front tail : List ℕ) → IsHead true head front tail
        → read.entries ≡ r.0.entries ++ entries_of head → AreEntriesAmong read.bytes read.entries
    first nothing front tail h entries =
        let none : read.entries ≡ [] =
        entries ∙ append-nil r.0.entries ∙ ap (λ (x : LogRead). x.entries) r.1 in
        let bytes : read.bytes ≡ part =
        r.2.bytes ∙ ap (λ (x : LogRead). x.bytes ++ part) r.1 in
        subst (λ l. AreEntriesAmong l read.entries) (sym bytes)
        (subst (AreEntriesAmong part) (sym none) (none_among part r.2.is_part))
    first (whole one) front tail h entries = absurd h
    first begun front tail h entries = absurd h
read_among (part ∷ next ∷ earlier) read r =
    let n = r.2 in
    let here = subst (λ l. AreEntriesAmong l (entries_of n.head)) (sym n.split)
    (part_among n.head n.front n.tail n.is_head (subst (IsPart false) n.split n.is_part)) in
    let all = among_append r.0.bytes part r.0.entries (entries_of n.head) n.is_part.0 n.is_part.1
    (read_among (next ∷ earlier) r.0 r.1) here in
    subst (λ l. AreEntriesAmong l read.entries) (sym n.bytes)
    (subst (AreEntriesAmong (r.0.bytes ++ part)) (sym n.entries) all)

log_among : (bytes : List ℕ) (entries : List MarkedCopy) (read : LogRead) → IsLogRead bytes read
    → entries ≡ read.entries → AreEntriesAmong bytes entries
log_among bytes entries read is e =
    subst (λ l. AreEntriesAmong l entries) is.all
    (subst (AreEntriesAmong read.bytes) (sym e)
    (read_among (is.part ∷ is.earlier) read is.are))

-- ---- what stands among the bytes of a kept log

-- bytes without a bracket are passed over
skip_plain : (m x : List ℕ) (es : List MarkedCopy) → All IsNoBracket m
    → AreEntriesAmong (m ++ x) es → AreEntriesAmong x es
skip_plain [] x es h k = k
skip_plain (c ∷ m) x es h (inr s) = skip_plain m x es (All-tail IsNoBracket c m h) s.1
skip_plain (c ∷ m) x es h (inl s) =
    absurd (All-head IsNoBracket c m h
    (begins_bracket c (m ++ x) s.2.0 s.2.1 s.0 s.2.2 s.2.3))

-- so is a gate, whatever byte it is: an entry has a letter behind its bracket
skip_gate : (gate : ℕ) (text x : List ℕ) (one : MarkedCopy) (es : List MarkedCopy)
    → IsLoggedAs one text → AreEntriesAmong (gate ∷ (text ++ x)) es → AreEntriesAmong (text ++ x) es
skip_gate gate text x one es l (inr s) = s.1
skip_gate gate text x one es l (inl s) =
    let o = entry_bracket one text l in
    let b = begins s.0 s.2.0 s.2.2 in
    let second : 91 ≡ b.letter =
    ap (λ (l : List ℕ). get_or l 1 0)
    (ap (λ l. gate ∷ (l ++ x)) (sym o.is) ∙ s.2.3 ∙ ap (λ l. l ++ s.2.1) b.is) in
    absurd (omega (arith, second, b.capital))

pub record Taken (one : MarkedCopy) (x : List ℕ) (es : List MarkedCopy) : Type 0 where
  pub more : List MarkedCopy
  pub is : es ≡ one ∷ more
  pub among : AreEntriesAmong x more

take_entry : (text x : List ℕ) (one : MarkedCopy) (es : List MarkedCopy) → IsLoggedAs one text
    → AreEntriesAmong (text ++ x) es → Taken one x es
take_entry text x one es l k =
    let o = entry_bracket one text l in
    go o.more o.is o.none (subst (λ t. AreEntriesAmong (t ++ x) es) o.is k)
  where
    go : (m : List ℕ) → text ≡ 91 ∷ m → All IsNoBracket m → AreEntriesAmong (91 ∷ (m ++ x)) es
        → Taken one x es
    go m is none (inr s) =
        absurd (s.0 (text, x, (one, l), ap (λ t. t ++ x) (sym is)))
    go m is none (inl s) =
        let same = one_entry one s.0 text s.2.0 x s.2.1 l s.2.2 (ap (λ t. t ++ x) is ∙ s.2.3) in
        record {
          more = s.1;
          is = s.3 ∙ ap (λ o. o ∷ s.1) (sym same.entry);
          among = skip_plain m x s.1 none s.4;
        }

pub kept_among : (entries : List MarkedCopy) (texts : List (List ℕ)) (front tail : List ℕ)
    (all : List MarkedCopy) → AllZip IsLoggedAs entries texts
    → IsBehindOpenGates IsWholeEntry texts front → AreEntriesAmong (front ++ tail) all
    → AreThenThoseOfTail entries tail all
kept_among [] [] front tail all each k h =
    record { more = all; joined = refl; among = subst (λ l. AreEntriesAmong (l ++ tail) all) k h }
kept_among [] (t ∷ ts) front tail all each k h = absurd each
kept_among (one ∷ entries) [] front tail all each k h = absurd each
kept_among (one ∷ entries) (t ∷ ts) front tail all each k h =
    let x = k.1 ++ tail in
    let split : front ++ tail ≡ k.0 ∷ (t ++ x) =
    ap (λ l. l ++ tail) k.4 ∙ ap (λ l. k.0 ∷ l) (append_assoc t k.1 tail) in
    let behind = skip_gate k.0 t x one all each.0 (subst (λ l. AreEntriesAmong l all) split h) in
    let first = take_entry t x one all each.0 behind in
    let rest = kept_among entries ts k.1 tail first.more each.1 k.5 first.among in
    record {
      more = rest.more;
      joined = first.is ∙ ap (λ l. one ∷ l) rest.joined;
      among = rest.among;
    }

-- ---- what is read of a log, and of a kept one

pub held_among : (bytes : List ℕ) (entries : List MarkedCopy) (torn : List ℕ)
    → HoldEntries bytes entries torn → AreEntriesAmong bytes entries
held_among bytes entries torn h =
    log_among bytes entries h.read h.is h.are_entries

pub held_to_end_among : (bytes : List ℕ) (entries : List MarkedCopy) (torn : List ℕ)
    → HoldEntriesToEnd bytes entries torn → AreEntriesAmong bytes entries
held_to_end_among bytes entries torn h =
    log_among bytes entries h.read h.is h.are_entries

pub kept_read : (entries all : List MarkedCopy) (file : List ℕ)
    → (kept : StandsForEntries entries file) → AreEntriesAmong file all
    → AreThenThoseOfTail entries kept.stands.tail all
kept_read entries all file kept among =
    kept_among entries kept.texts kept.stands.front kept.stands.tail all kept.each
    kept.stands.kept (subst (λ l. AreEntriesAmong l all) kept.stands.split among)
