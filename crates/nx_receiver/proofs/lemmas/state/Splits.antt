-- The lines of bytes are told by their line feeds.
use Rattle.std.proofs.Common.{◌≡◌, ◌≢◌, ℕ, ◌≤◌, List, [], ◌∷◌, ◌++◌, length, refl, sym, ap, ◌∙◌}
use Rattle.std.proofs.Common.{append_assoc, append-nil, arith}
use Rattle.std.specs.List.{AllByRecursion}
use Rattle.std.proofs.lemmas.List.Concat.{flat_map-append}
use Rattle.nx_code.specs.Reading.{newline}
use Rattle.nx_memory.specs.StateText.{IsShortLine}
use Rattle.nx_receiver.specs.air_file_runs.State.{ended_lines}

abbrev pub HasNoFeed : List ℕ → Type 0
HasNoFeed bytes = AllByRecursion (λ byte. byte ≢ 10) bytes

-- the bytes of one line more
pub ended-one : (lines : List (List ℕ)) (line : List ℕ)
    → ended_lines (lines ++ line ∷ []) ≡ ended_lines lines ++ (line ++ newline ∷ [])
ended-one lines line =
    flat_map-append (λ (l : List ℕ). l ++ newline ∷ []) lines (line ∷ [])
    ∙ ap (λ l. ended_lines lines ++ l) (append-nil (line ++ newline ∷ []))

pub ended-append : (lines more : List (List ℕ))
    → ended_lines (lines ++ more) ≡ ended_lines lines ++ ended_lines more
ended-append lines more = flat_map-append (λ (l : List ℕ). l ++ newline ∷ []) lines more

-- two lines are the same up to their first line feed
pub same_line : (a b x y : List ℕ) → HasNoFeed a → HasNoFeed b → a ++ 10 ∷ x ≡ b ++ 10 ∷ y
    → (a ≡ b) × (x ≡ y)
same_line [] [] x y none_a none_b e = (refl, cc)
same_line [] (d ∷ b) x y none_a none_b e = absurd (none_b.0 (cc))
same_line (c ∷ a) [] x y none_a none_b e = absurd (none_a.0 (cc))
same_line (c ∷ a) (d ∷ b) x y none_a none_b e =
    let head : c ≡ d = cc in
    let tail : a ++ 10 ∷ x ≡ b ++ 10 ∷ y = cc in
    let rest = same_line a b x y none_a.1 none_b.1 tail in
    (ap (λ (n : ℕ). n ∷ a) head ∙ ap (λ (l : List ℕ). d ∷ l) rest.0, rest.1)

-- bytes without a line feed have no line before them
pub none_ends : (a b x : List ℕ) → HasNoFeed a → a ≡ b ++ 10 ∷ x → ⊥
none_ends [] [] x none e = cc
none_ends [] (d ∷ b) x none e = cc
none_ends (c ∷ a) [] x none e = none.0 (cc)
none_ends (c ∷ a) (d ∷ b) x none e =
    let tail : a ≡ b ++ 10 ∷ x = cc in
    none_ends a b x none.1 tail

-- nor do those of a longer beginning
pub none_so_long : (a b x y : List ℕ) (byte : ℕ) → HasNoFeed a → byte ≢ 10 → length b ≤ length a
    → a ++ byte ∷ x ≡ b ++ 10 ∷ y → ⊥
none_so_long [] [] x y byte none other few e = other (cc)
none_so_long [] (d ∷ b) x y byte none other few e = omega arith
none_so_long (c ∷ a) [] x y byte none other few e = none.0 (cc)
none_so_long (c ∷ a) (d ∷ b) x y byte none other few e =
    let tail : a ++ byte ∷ x ≡ b ++ 10 ∷ y = cc in
    none_so_long a b x y byte none.1 other (omega arith) tail

-- of two readings of the same bytes as lines and what follows, one goes on where the other stops
pub data Compared (ls : List (List ℕ)) (x : List ℕ) (bs : List (List ℕ)) (y : List ℕ) : Type 0 where
  same : ls ≡ bs → x ≡ y → Compared ls x bs y
  longer : (b : List ℕ) (more : List (List ℕ)) → bs ≡ ls ++ b ∷ more
      → x ≡ b ++ 10 ∷ (ended_lines more ++ y) → Compared ls x bs y
  shorter : (a : List ℕ) (more : List (List ℕ)) → ls ≡ bs ++ a ∷ more
      → y ≡ a ++ 10 ∷ (ended_lines more ++ x) → Compared ls x bs y

-- the first line, and what follows it
first_line : (a : List ℕ) (ls : List (List ℕ)) (x : List ℕ)
    → ended_lines (a ∷ ls) ++ x ≡ a ++ 10 ∷ (ended_lines ls ++ x)
first_line a ls x =
    append_assoc (a ++ 10 ∷ []) (ended_lines ls) x
    ∙ append_assoc a (10 ∷ []) (ended_lines ls ++ x)

more_same : (a b : List ℕ) (ls bs : List (List ℕ)) (x y : List ℕ) → a ≡ b → Compared ls x bs y
    → Compared (a ∷ ls) x (b ∷ bs) y
more_same a b ls bs x y e (same f g) = same (cc) g
more_same a b ls bs x y e (longer c more f g) =
    longer c more (ap (λ (l : List ℕ). l ∷ bs) (sym e) ∙ ap (λ (l : List (List ℕ)). a ∷ l) f) g
more_same a b ls bs x y e (shorter c more f g) =
    shorter c more (ap (λ (l : List ℕ). l ∷ ls) e ∙ ap (λ (l : List (List ℕ)). b ∷ l) f) g

pub compare : (ls bs : List (List ℕ)) (x y : List ℕ) → AllByRecursion IsShortLine ls
    → AllByRecursion IsShortLine bs → ended_lines ls ++ x ≡ ended_lines bs ++ y
    → Compared ls x bs y
compare [] [] x y short_a short_b e = same refl e
compare [] (b ∷ bs) x y short_a short_b e = longer b bs refl (e ∙ first_line b bs y)
compare (a ∷ ls) [] x y short_a short_b e = shorter a ls refl (sym e ∙ first_line a ls x)
compare (a ∷ ls) (b ∷ bs) x y short_a short_b e =
    let parts = same_line a b (ended_lines ls ++ x) (ended_lines bs ++ y) short_a.0.one_line
    short_b.0.one_line (sym (first_line a ls x) ∙ e ∙ first_line b bs y) in
    more_same a b ls bs x y parts.0 (compare ls bs x y short_a.1 short_b.1 parts.1)
