-- A text of so many errors and characters: what bytes lack of one.
use Rattle.std.proofs.Common.{◌≡◌, ℕ, suc, ◌+◌, ◌-◌, ◌*◌, ◌<◌, ◌≤◌, true, List, [], ◌∷◌, ◌++◌, ap, append-nil, append_assoc, arith, cond, length, refl, subst, sym, ◌∙◌}
use Rattle.std.specs.Prelude.{◌==◌, All, IsTrue, replicate}
use Rattle.std.proofs.lemmas.List.{length-append, length-replicate}
use Rattle.std.proofs.lemmas.List.Elements.{All-append, All-replicate}
use Rattle.std.proofs.lemmas.List.Folds.{sum_by-replicate}
use Rattle.std.proofs.lemmas.List.Sums.{count_by-le-length}
use Rattle.nx_code.specs.Reading.{asterisk, characters, is_in_code, newline}
use Rattle.nx_envelope.specs.Copies.{errors_of}
use Rattle.nx_log.specs.Logged.{is_text_byte}
use Rattle.nx_log.specs.private.Stages.{BreakOff, CanEnd, IsTextOf, Spells}
use Rattle.nx_log.proofs.lemmas.beginnings.Lists.{shorter_first}
use Rattle.std.proofs.lemmas.List.{nil_from_length}
use Rattle.nx_copies.proofs.lemmas.emissions.Found.{errors-append}

-- one for an asterisk
abbrev one_of : ℕ → ℕ
one_of byte = cond (byte == asterisk) 1 0

asterisks_all : (k : ℕ) → errors_of (replicate k asterisk) ≡ k
asterisks_all k = let e : errors_of (replicate k asterisk) ≡ k * 1 =
    sum_by-replicate one_of k asterisk in omega (arith, e)

newlines_none : (k : ℕ) → errors_of (replicate k newline) ≡ 0
newlines_none k = let e : errors_of (replicate k newline) ≡ k * 0 =
    sum_by-replicate one_of k newline in omega (arith, e)

asterisk_is : is_text_byte asterisk ≡ true
unfolding is_text_byte is_in_code characters
asterisk_is = refl

newline_is : is_text_byte newline ≡ true
unfolding is_text_byte is_in_code characters
newline_is = refl

-- a text goes on to so many errors and characters
pub text_goes_on : (bytes : List ℕ) (errors characters left lacking : ℕ)
    → All (λ byte. IsTrue (is_text_byte byte)) bytes → errors_of bytes + lacking ≡ errors
    → length bytes + left ≡ characters → lacking ≤ left
    → (more : List ℕ) × (length more ≡ left)
    × IsTextOf errors characters (bytes ++ more) (bytes ++ more)
text_goes_on bytes errors characters left lacking letters found have fits =
    let stars = replicate lacking asterisk in
    let lines = replicate (left - lacking) newline in
    let count = errors-append bytes (stars ++ lines) in
    let both = errors-append stars lines in
    let here = asterisks_all lacking in
    let rest = newlines_none (left - lacking) in
    let whole = length-append bytes (stars ++ lines) in
    let parts = length-append stars lines in
    let stars_are = length-replicate lacking asterisk in
    let lines_are = length-replicate (left - lacking) newline in
    let is = λ (byte : ℕ). IsTrue (is_text_byte byte) in (
      stars ++ lines,
      omega (arith, parts, stars_are, lines_are),
      record {
        letters = All-append is bytes (stars ++ lines) letters
            (All-append is stars lines (All-replicate is lacking asterisk asterisk_is)
            (All-replicate is (left - lacking) newline newline_is));
        has_errors = omega (arith, count, both, here, rest);
        has_characters = omega (arith, whole, parts, stars_are, lines_are);
        is_spelled = refl;
      },
    )

abbrev pub AreLetters : List ℕ → Type 0
AreLetters text = All (λ byte. IsTrue (is_text_byte byte)) text

-- so many errors and characters are lacked behind the part of a text that was read
pub record IsRead (bytes rest : List ℕ) (errors characters lacking left : ℕ) : Type 0 where
  pub done : List ℕ
  pub split : bytes ≡ done ++ rest
  pub letters : AreLetters done
  pub has_errors : errors_of done + lacking ≡ errors
  pub has_characters : length done + left ≡ characters
  pub fits : lacking ≤ left

module _ (bytes rest : List ℕ) (errors characters lacking left : ℕ)
    (r : IsRead bytes rest errors characters lacking left) where
  pub next_read : (byte : ℕ) (behind : List ℕ) (lacking_now left_now : ℕ) → rest ≡ byte ∷ behind
      → IsTrue (is_text_byte byte) → errors_of (byte ∷ []) + lacking_now ≡ lacking
      → left_now + 1 ≡ left → lacking_now ≤ left_now
      → IsRead bytes behind errors characters lacking_now left_now
  next_read byte behind lacking_now left_now first letter errs chars fits =
      let count = errors-append r.done (byte ∷ []) in
      let long = length-append r.done (byte ∷ []) in
      let has_errors = r.has_errors in
      let has_characters = r.has_characters in
      record {
        done = r.done ++ byte ∷ [];
        split = r.split ∙ ap (λ l. r.done ++ l) first
            ∙ sym (append_assoc r.done (byte ∷ []) behind);
        letters = All-append (λ b. IsTrue (is_text_byte b)) r.done (byte ∷ []) r.letters
            (All-one byte letter);
        has_errors = omega (arith, count, errs);
        has_characters = omega (arith, long);
        fits = fits;
      }
    where
      All-one : (b : ℕ) → IsTrue (is_text_byte b) → AreLetters (b ∷ [])
      All-one b h = All-replicate (λ b. IsTrue (is_text_byte b)) 1 b h

  text_can : 0 < left → CanEnd (Spells (IsTextOf errors characters)) r.done
  text_can some =
      let more = text_goes_on r.done errors characters left lacking r.letters r.has_errors
      r.has_characters r.fits in
      (more.0, (r.done ++ more.0, more.2), λ n. omega (arith, more.1, ap length n))

  pub text_to_come : 0 < left → length rest ≡ 0
      → CanEnd (Spells (IsTextOf errors characters)) bytes
  text_to_come some none =
      subst (CanEnd (Spells (IsTextOf errors characters)))
      (sym (r.split ∙ ap (λ l. r.done ++ l) (nil_from_length rest none) ∙ append-nil r.done))
      (text_can some)

  pub text_breaks : (byte : ℕ) (behind : List ℕ) → 0 < left → rest ≡ byte ∷ behind
      → (IsTrue (is_text_byte byte) → errors_of (byte ∷ []) ≤ lacking
      → lacking < errors_of (byte ∷ []) + left → ⊥)
      → BreakOff (Spells (IsTextOf errors characters)) bytes rest
  text_breaks byte behind some first never = record {
    front = r.done;
    byte = byte;
    behind = behind;
    split = r.split;
    first = first;
    can = text_can some;
    never = λ more s y h e.
        let text = h.1 in
        let next = r.done ++ byte ∷ [] in
        let has_errors = r.has_errors in
        let has_characters = r.has_characters in
        let same = ap length text.is_spelled ∙ text.has_characters in
        let f = shorter_first next s more y
        (omega (arith, same, length-append r.done (byte ∷ []))) e in
        let whole = sym text.is_spelled ∙ f.is in
        let errs = ap errors_of whole ∙ errors-append next f.more in
        let long = ap length whole ∙ length-append next f.more in
        let most = count_by-le-length (λ b. b == asterisk) f.more in
        let front = errors-append r.done (byte ∷ []) in
        let front_long = length-append r.done (byte ∷ []) in
        let all = text.has_errors in
        let all_long = text.has_characters in
        never (letter_at r.done byte f.more (subst AreLetters (whole ∙ append_assoc r.done
        (byte ∷ []) f.more) text.letters))
        (omega (arith, errs, front, all)) (omega (
          arith,
          errs,
          long,
          most,
          front,
          front_long,
          all,
          all_long,
        ));
  }
    where
      letter_at : (xs : List ℕ) (b : ℕ) (ys : List ℕ) → AreLetters (xs ++ b ∷ ys)
          → IsTrue (is_text_byte b)
      letter_at [] b ys h = h 0 0 (omega arith)
      letter_at (x ∷ xs) b ys h =
          letter_at xs b ys (λ k d small. h (suc k) d (omega (arith, small)))

  -- all of it
  pub text_whole : left ≡ 0 → IsTextOf errors characters r.done r.done
  text_whole none =
      let has_errors = r.has_errors in
      let has_characters = r.has_characters in
      let fits = r.fits in
      record {
        letters = r.letters;
        has_errors = omega arith;
        has_characters = omega arith;
        is_spelled = refl;
      }
