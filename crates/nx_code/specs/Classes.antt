-- Classes: what a word counts as, and what is taken of a position, by one number each (ITU-R M.476
-- and M.625; the numbers are this project's own).
use Rattle.std.specs.Prelude.{ℕ, ◌+◌, ◌==◌, nat_lt, if◌then◌else◌, Option, Some, None}
use Rattle.nx_code.specs.Reading.{Reception, combination, idle, lost}
use Rattle.nx_code.specs.Table.{place_of, combination_count}

-- the class of the service signals
abbrev pub service_class : ℕ
service_class = 33

-- the class of a place of the table: the number of a combination, or that of the service signals; 0
-- where a word has no place
abbrev pub class_at : Option ℕ → ℕ
class_at None = 0
class_at (Some place) = if nat_lt place combination_count then place + 1 else service_class

-- the class of a word, by its number
unfoldable pub class_of : ℕ → ℕ
class_of word = class_at (place_of word)

-- the class of a position, from those of its two words: what both are, or the one that isn't 0
abbrev pub paired : ℕ → ℕ → ℕ
paired dx rx =
    if rx == 0 then dx else (if dx == rx then dx else (if dx == 0 then rx else 0))

-- what is taken of a position of this class
abbrev pub reception_of_class : ℕ → Reception
reception_of_class class =
    if class == 0 then lost else (if class == service_class then idle else combination class)
