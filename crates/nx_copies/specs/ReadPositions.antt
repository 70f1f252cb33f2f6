-- What a reader of a lock's text says of the position that a word completes (ITU-R M.625, mode B).
-- `first` is the role of word 0 of the lock, and `words` gives each word's number.
use Rattle.std.specs.Prelude.{◌≡◌, ℕ, Option}
use Rattle.std.specs.Option.{option_map, option_to_list}
use Rattle.nx_code.specs.Classes.{reception_of_class}
use Rattle.nx_sync.specs.declared.step.Role.{Role}
use Rattle.nx_copies.specs.copies.AlikeWords.{alike_at}
use Rattle.nx_copies.specs.copies.LockText.{taken_at}
use Rattle.nx_copies.specs.declared.lock_printer.ReadPosition.{ReadPosition}

-- what was read is the position that word k completes, if it completes one: what is taken of it,
-- and whether its two words count alike
pub record IsPositionAt (first : Role) (words : ℕ → ℕ) (k : ℕ) (read : Option ReadPosition)
    : Type 0 where
  pub taken : option_to_list (option_map (λ position. reception_of_class position.class) read)
      ≡ taken_at first words k
  pub alike : option_to_list (option_map (λ position. position.is_alike) read)
      ≡ alike_at first words k
