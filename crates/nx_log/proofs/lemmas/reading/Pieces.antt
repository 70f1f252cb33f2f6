-- Two spellings of the pieces of an entry that agree from here on are spellings of one piece.
use Rattle.std.proofs.Common.{◌≡◌, ◌⊎◌, ◌^◌, ℕ, ◌<◌, List, [], ◌∷◌, ◌++◌, get_or, drop, length, ap, ◌∙◌, refl, arith}
use Rattle.std.specs.Prelude.{decimal}
use Rattle.std.specs.Str.Parse.{AllDigits}
use Rattle.std.proofs.lemmas.Fmt.{decimal_is_IsNumeral, decimal_injective}
use Rattle.std.proofs.lemmas.Str.Parse.{digit_from_value}
use Rattle.nx_envelope.specs.declared.found.How.{How}
use Rattle.nx_envelope.specs.declared.found.How.TheVariants.{Full, Cut, Long}
use Rattle.nx_fec.specs.declared.air_files.channel.Channel.{Channel}
use Rattle.nx_fec.specs.declared.air_files.channel.Channel.TheVariants.{Zero, One, Two}
use Rattle.nx_copies.specs.copies.Log.{channel_mark, how_name}

-- a piece is the same, and so is what stands behind it
pub record Same {A : Type 0} (a b : A) (x y : List ℕ) : Type 0 where
  pub piece : a ≡ b
  pub rest : x ≡ y

-- marks, each with the space behind it
pub same_mark : (c d : Channel) (x y : List ℕ)
    → channel_mark c ++ (32 ∷ x) ≡ channel_mark d ++ (32 ∷ y) → Same c d x y
same_mark Zero Zero x y e = record { piece = refl; rest = ap (drop 1) e }
same_mark Zero One x y e = absurd (omega (arith, ap (λ (l : List ℕ). get_or l 0 0) e))
same_mark Zero Two x y e = absurd (omega (arith, ap (λ (l : List ℕ). get_or l 0 0) e))
same_mark One Zero x y e = absurd (omega (arith, ap (λ (l : List ℕ). get_or l 0 0) e))
same_mark One One x y e = record { piece = refl; rest = ap (drop 3) e }
same_mark One Two x y e = absurd (omega (arith, ap (λ (l : List ℕ). get_or l 1 0) e))
same_mark Two Zero x y e = absurd (omega (arith, ap (λ (l : List ℕ). get_or l 0 0) e))
same_mark Two One x y e = absurd (omega (arith, ap (λ (l : List ℕ). get_or l 1 0) e))
same_mark Two Two x y e = record { piece = refl; rest = ap (drop 3) e }

-- names of ends, each with the space behind it
pub same_name : (h k : How) (x y : List ℕ)
    → how_name h ++ (32 ∷ x) ≡ how_name k ++ (32 ∷ y) → Same h k x y
same_name Full Full x y e = record { piece = refl; rest = ap (drop 5) e }
same_name Full Cut x y e = absurd (omega (arith, ap (λ (l : List ℕ). get_or l 0 0) e))
same_name Full Long x y e = absurd (omega (arith, ap (λ (l : List ℕ). get_or l 0 0) e))
same_name Cut Full x y e = absurd (omega (arith, ap (λ (l : List ℕ). get_or l 0 0) e))
same_name Cut Cut x y e = record { piece = refl; rest = ap (drop 4) e }
same_name Cut Long x y e = absurd (omega (arith, ap (λ (l : List ℕ). get_or l 0 0) e))
same_name Long Full x y e = absurd (omega (arith, ap (λ (l : List ℕ). get_or l 0 0) e))
same_name Long Cut x y e = absurd (omega (arith, ap (λ (l : List ℕ). get_or l 0 0) e))
same_name Long Long x y e = record { piece = refl; rest = ap (drop 5) e }

-- digits, up to a byte that is none
pub same_digits : (ds es : List ℕ) (s : ℕ) (x y : List ℕ) → AllDigits 10 ds → AllDigits 10 es
    → (s < 48) ⊎ (57 < s) → ds ++ (s ∷ x) ≡ es ++ (s ∷ y) → Same ds es x y
same_digits [] [] s x y d f none e = record { piece = refl; rest = ap (drop 1) e }
same_digits [] (c ∷ es) s x y d f none e =
    let here : s ≡ c = ap (λ (l : List ℕ). get_or l 0 0) e in
    let digit = digit_from_value c f.0 in absurd (omega (arith, digit))
same_digits (c ∷ ds) [] s x y d f none e =
    let here : c ≡ s = ap (λ (l : List ℕ). get_or l 0 0) e in
    let digit = digit_from_value c d.0 in absurd (omega (arith, digit))
same_digits (c ∷ ds) (b ∷ es) s x y d f none e =
    let here : c ≡ b = ap (λ (l : List ℕ). get_or l 0 0) e in
    let more = same_digits ds es s x y d.1 f.1 none (ap (drop 1) e) in
    record { piece = ap (λ h. h ∷ ds) here ∙ ap (λ l. b ∷ l) more.piece; rest = more.rest }

-- numbers, up to a byte that is no digit
pub same_decimal : (m n s : ℕ) (x y : List ℕ) → m < 2 ^ 64 → n < 2 ^ 64 → (s < 48) ⊎ (57 < s)
    → decimal m ++ (s ∷ x) ≡ decimal n ++ (s ∷ y) → Same m n x y
same_decimal m n s x y small_m small_n none e =
    let same = same_digits (decimal m) (decimal n) s x y (decimal_is_IsNumeral m small_m).0.1
    (decimal_is_IsNumeral n small_n).0.1 none e in
    record { piece = decimal_injective m n small_m small_n same.piece; rest = same.rest }

-- texts of one length
pub same_text : (s t x y : List ℕ) → length s ≡ length t → s ++ x ≡ t ++ y → Same s t x y
same_text [] [] x y n e = record { piece = refl; rest = e }
same_text [] (b ∷ t) x y n e = absurd (omega (arith, n))
same_text (a ∷ s) [] x y n e = absurd (omega (arith, n))
same_text (a ∷ s) (b ∷ t) x y n e =
    let here : a ≡ b = ap (λ (l : List ℕ). get_or l 0 0) e in
    let more = same_text s t x y (omega (arith, n)) (ap (drop 1) e) in
    record { piece = ap (λ h. h ∷ s) here ∙ ap (λ l. b ∷ l) more.piece; rest = more.rest }
