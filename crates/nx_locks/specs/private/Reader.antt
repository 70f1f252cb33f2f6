-- A reader of the text of a lock, and after which of its words it stands. `first` is the role of
-- word 0 of the lock, and `words` gives each word's number.
use Rattle.std.specs.Prelude.{◌≡◌, ℕ, ◌+◌, ◌-◌, ◌^◌, ◌<◌, ◌≤◌, Bool, if◌then◌else◌, not, List, []}
use Rattle.std.specs.Prelude.{◌∷◌, ◌++◌, length, min, slice_index, Option}
use Rattle.std.specs.Option.{option_to_list}
use Rattle.nx_envelope.specs.Copies.{headers}
use Rattle.nx_code.specs.Word.{is_wrong, wrong_in}
use Rattle.nx_sync.specs.Words.{role_of}
use Rattle.nx_sync.specs.declared.step.Role.{Role}
use Rattle.nx_copies.specs.copies.Log.{is_of_lines}
use Rattle.nx_copies.specs.LockReader as receiver
use Rattle.nx_copies.specs.LockReader.{LockReading}
use Rattle.nx_copies.specs.copies.LockText.{text_after}

-- what contracts see of a reader that counts: what reads the words, three counts, and whether the
-- last line of the text is open
pub record Reading : Type 0 where
  pub lock : LockReading
  pub words : ℕ
  pub wrong : ℕ
  pub copies : ℕ
  pub is_line_open : Bool

-- The reader stands after the first n words of a lock, and counted them, the wrong ones, and the
-- headers in their text.
pub record ReadsLock (reader : Reading) (first : Role) (words : ℕ → ℕ) (n : ℕ) : Type 0 where
  pub reads : receiver.ReadsLock reader.lock first words n
  pub words_counted : reader.words ≡ n
  pub wrong_counted : reader.wrong ≡ wrong_in words 0 n
  pub copies_counted : reader.copies ≡ length (headers (text_after first words n))
  pub wrong_few : reader.wrong ≤ n
  pub copies_few : reader.copies ≤ n
  pub line : reader.is_line_open ≡ not (is_of_lines (text_after first words n))

-- the reader stands after no word of a lock, whichever lock comes
pub record IsFresh (reader : Reading) : Type 0 where
  pub fresh : (first : Role) (words : ℕ → ℕ) → ReadsLock reader first words 0

-- the count after one more, at most the greatest number of 64 bits
abbrev pub one_more : ℕ → ℕ
one_more n = min (n + 1) (2 ^ 64 - 1)

-- a word is counted, and as wrong where it is
abbrev pub counted : Reading → ℕ → Reading
counted reader word = record reader {
  words = one_more reader.words;
  wrong = if is_wrong word then one_more reader.wrong else reader.wrong;
}

-- a byte behind this text was taken: the headers are counted
pub record TakesByte (old new : Reading) (text : List ℕ) (byte : ℕ) : Type 0 where
  pub more : ℕ
  pub few : more ≤ 1
  pub headers : length (headers (text ++ byte ∷ [])) ≡ length (headers text) + more
  pub copies : old.copies + more < 2 ^ 64 → new.copies ≡ old.copies + more

-- a reader that stands after some words of a lock hears so many more: these bytes are printed
pub record HasHeardWords (new : Reading) (first : Role) (words : ℕ → ℕ) (n count : ℕ)
    (printed : List ℕ) : Type 0 where
  pub reads : ReadsLock new first words (n + count)
  pub grows : text_after first words (n + count) ≡ text_after first words n ++ printed

-- the same of the next one
abbrev pub HasHeard : Reading → Role → (ℕ → ℕ) → ℕ → Option ℕ → Type 0
HasHeard new first words n printed =
    HasHeardWords new first words n 1 (option_to_list printed)

-- The next word of a lock was heard, whichever lock it is of, and this was printed.
pub record HearsWord (old new : Reading) (word : ℕ) (role : Role) (printed : Option ℕ)
    : Type 0 where
  pub hears : (first : Role) (words : ℕ → ℕ) (n : ℕ) → ReadsLock old first words n
      → words n ≡ word → role ≡ role_of first n → n + 1 < 2 ^ 64
      → HasHeard new first words n printed
  pub few : new.copies ≤ old.copies + 1

-- The next words of a lock were heard, the first of them with that role, whichever lock they are
-- of, and these bytes were printed.
pub record HearsWords (old new : Reading) (role : Role) (heard printed : List ℕ) : Type 0 where
  pub hears : (first : Role) (words : ℕ → ℕ) (n : ℕ) → ReadsLock old first words n
      → ((k : ℕ) → k < length heard → words (n + k) ≡ slice_index heard k)
      → role ≡ role_of first n → n + length heard < 2 ^ 64
      → HasHeardWords new first words n (length heard) printed
  pub few : new.copies ≤ old.copies + length heard

-- A word was heard, and what it printed was appended.
pub record ShowsWord (old new : Reading) (word : ℕ) (role : Role) (before after : List ℕ) : Type 0
  where
    pub printed : Option ℕ
    pub hears : HearsWord old new word role printed
    pub spelled : after ≡ before ++ option_to_list printed

-- the same of more words
pub record ShowsWords (old new : Reading) (role : Role) (heard before after : List ℕ) : Type 0
  where
    pub printed : List ℕ
    pub hears : HearsWords old new role heard printed
    pub spelled : after ≡ before ++ printed
