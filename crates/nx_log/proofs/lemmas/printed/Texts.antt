-- What a lock prints is made of bytes of a text.
use Rattle.std.proofs.Common.{◌≡◌, ◌<◌, ◌≤◌, ℕ, zero, suc, Bool, true, false, List, [], ◌∷◌, Option, Some, None, length, take, inl, inr, refl, sym, ap, ◌∙◌, subst, arith}
use Rattle.std.specs.Prelude.{◌==◌, ◌||◌, IsTrue}
use Rattle.std.specs.List.{All}
use Rattle.std.specs.Option.{option_to_list}
use Rattle.std.proofs.lemmas.Bool.{cases_lt, ne_eqb}
use Rattle.std.proofs.lemmas.List.Elements.{All-nil, All-cons, All-append, All-same}
use Rattle.std.proofs.lemmas.Option.{slice_get_past}
use Rattle.nx_code.specs.Reading.{Reception, combination, idle, lost, asterisk, byte_of, character_of, is_in_code, characters, shift_after, text}
use Rattle.nx_code.specs.Table.{row_of, table}
use Rattle.nx_code.specs.declared.shifts.Shift.{Shift}
use Rattle.nx_code.specs.declared.shifts.Shift.TheVariants.{Letters}
use Rattle.nx_code.proofs.lemmas.Character.{in_code-printed}
use Rattle.nx_copies.specs.copies.LockText.{bytes_of, lock_text, positions}
use Rattle.nx_copies.proofs.lemmas.locks.Texts.{bytes_are_reading}
use Rattle.nx_sync.specs.Words.{word_of_lock, first_role}
use Rattle.nx_log.specs.Logged.{is_text_byte}

abbrev pub IsTextByte : ℕ → Type 0
IsTextByte byte = IsTrue (is_text_byte byte)

length-combinations : length (take 32 table) ≡ 32
unfolding table
length-combinations = refl

-- a combination past the last prints nothing
none_past : (n : ℕ) (shift : Shift) → 32 < n → character_of n shift ≡ None
unfolding character_of row_of
none_past zero shift h = absurd (omega arith)
none_past (suc place) shift h =
    let feed : (suc place == 28) ≡ false = ne_eqb (suc place) 28 (λ e. omega arith) in
    let blank : (suc place == 31) ≡ false = ne_eqb (suc place) 31 (λ e. omega arith) in
    let past : length (take 32 table) ≤ place = rw length-combinations (omega arith) in
    rw (feed, blank, slice_get_past (take 32 table) place past) refl

none_first : (shift : Shift) → character_of 0 shift ≡ None
unfolding character_of row_of
none_first shift = refl

in_code : (byte : ℕ) → is_in_code byte ≡ true → IsTextByte byte
unfolding is_text_byte
in_code byte h = ap (λ b. b || (byte == asterisk)) h

star : IsTextByte 42
unfolding is_text_byte is_in_code characters
star = refl

character_is : (n : ℕ) (shift : Shift) (c : ℕ) → character_of n shift ≡ Some c → IsTextByte c
character_is n shift c h =
    elim (cases_lt n 1) [
      | inl less ↦
          let first : n ≡ 0 = omega (arith, less) in
          let none = sym (ap (λ k. character_of k shift) first ∙ none_first shift) ∙ h in
          absurd (let no : ⊥ = cc in no)
      | inr more ↦ elim (cases_lt 32 n) [
        | inl past ↦
            let none = sym (none_past n shift past) ∙ h in absurd (let no : ⊥ = cc in no)
        | inr within ↦ in_code c
            (in_code-printed shift n c (omega (arith, more)) (omega (arith, within)) h)
      ]
    ]

byte_is : (position : Reception) (shift : Shift) (c : ℕ) → byte_of position shift ≡ Some c
    → IsTextByte c
byte_is (combination n) shift c h = character_is n shift c h
byte_is idle shift c h = absurd (let no : ⊥ = cc in no)
byte_is lost shift c h = let e : 42 ≡ c = cc in subst IsTextByte e star

one_byte : (o : Option ℕ) → ((c : ℕ) → o ≡ Some c → IsTextByte c)
    → All IsTextByte (option_to_list o)
one_byte None h = All-nil IsTextByte
one_byte (Some c) h = All-cons IsTextByte c [] (h c refl) (All-nil IsTextByte)

-- whatever the positions are
pub text_is : (those : List Reception) (shift : Shift) → All IsTextByte (text those shift)
text_is [] shift = All-nil IsTextByte
text_is (position ∷ those) shift =
    All-append IsTextByte _ _ (one_byte (byte_of position shift) (byte_is position shift))
    (text_is those (shift_after position shift))

pub lock_text_is : (bits : List Bool) (t n : ℕ) → All IsTextByte (bytes_of (lock_text bits t n))
lock_text_is bits t n =
    All-same IsTextByte _ _ (bytes_are_reading (first_role bits t) (word_of_lock bits t) t n)
    (text_is (positions (first_role bits t) (word_of_lock bits t) n) Letters)
