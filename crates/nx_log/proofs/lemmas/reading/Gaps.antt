-- How an entry begins, and what newlines and spaces end with.
use Rattle.std.proofs.Common.{◌≡◌, ℕ, ◌≤◌, List, [], ◌∷◌, ◌++◌, get_or, drop, ap, sym, ◌∙◌, refl, subst, append-nil}
use Rattle.std.specs.List.{All}
use Rattle.std.proofs.lemmas.List.Elements.{All-head, All-tail}
use Rattle.nx_copies.specs.copies.Shares.{MarkedCopy}
use Rattle.nx_log.specs.Logged.{IsLoggedAs}
use Rattle.nx_log.specs.Reading.{IsBlank}
use Rattle.nx_log.proofs.lemmas.reading.Entries.{entry_on}

-- how an entry begins: a bracket and a capital
pub record Begins (entry : List ℕ) : Type 0 where
  pub letter : ℕ
  pub more : List ℕ
  pub is : entry ≡ 91 ∷ letter ∷ more
  pub capital : letter ≤ 90

pub begins : (one : MarkedCopy) (entry : List ℕ) → IsLoggedAs one entry → Begins entry
begins one entry l =
    let e = sym (append-nil entry) ∙ entry_on one entry [] l.entry in
    let b1 = one.copy.identity.b1 in
    let range = b1.in_range in
    record { letter = b1.byte; more = _; is = e; capital = range.1 }

-- two splits of one list into blanks and what begins with another byte
pub record SameSplit (a b x y : List ℕ) : Type 0 where
  pub front : a ≡ b
  pub back : x ≡ y

pub same_blanks : (a b : List ℕ) (c d : ℕ) (x y : List ℕ) → All IsBlank a → All IsBlank b
    → ¬ IsBlank c → ¬ IsBlank d → a ++ (c ∷ x) ≡ b ++ (d ∷ y)
    → SameSplit a b (c ∷ x) (d ∷ y)
same_blanks [] [] c d x y h k n m e = record { front = refl; back = e }
same_blanks [] (g ∷ b) c d x y h k n m e =
    let here : g ≡ c = sym (ap (λ (l : List ℕ). get_or l 0 0) e) in
    absurd (n (subst IsBlank here (All-head IsBlank g b k)))
same_blanks (f ∷ a) [] c d x y h k n m e =
    let here : f ≡ d = ap (λ (l : List ℕ). get_or l 0 0) e in
    absurd (m (subst IsBlank here (All-head IsBlank f a h)))
same_blanks (f ∷ a) (g ∷ b) c d x y h k n m e =
    let here : f ≡ g = ap (λ (l : List ℕ). get_or l 0 0) e in
    let rest = same_blanks a b c d x y (All-tail IsBlank f a h) (All-tail IsBlank g b k) n m
    (ap (drop 1) e) in
    record {
      front = ap (λ l. l ∷ a) here ∙ ap (λ l. g ∷ l) rest.front;
      back = rest.back;
    }
