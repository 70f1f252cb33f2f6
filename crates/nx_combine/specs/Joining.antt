-- Two lists of positions, one of each of two copies, taken together index by index: whether they
-- are of one text, and the list that they make (this profile: the time diversity of ITU-R M.476,
-- two words for a position, carried on over the sendings of a message).
use Rattle.std.specs.Prelude.{ℕ, ◌*◌, ◌==◌, nat_lt, max, Bool, false, not, if◌then◌else◌}
use Rattle.std.specs.Prelude.{List, [], ◌∷◌, count_by}
use Rattle.std.specs.List.{zip}
use Rattle.nx_code.specs.Reading.{Reception, combination, idle, lost}
use Rattle.nx_copies.specs.copies.Printing.{good_share}

-- both took a combination, and the same one
abbrev pub took_one : Reception → Reception → Bool
took_one (combination m) (combination n) = m == n
took_one first second = false

-- both took a combination, and not the same one
abbrev pub took_two : Reception → Reception → Bool
took_two (combination m) (combination n) = not (m == n)
took_two first second = false

-- at how many indices this holds of the two positions, as far as both lists go
abbrev pub count_of_pairs : (Reception → Reception → Bool) → List Reception → List Reception → ℕ
count_of_pairs test first second = count_by (λ pair. test pair.0 pair.1) (zip first second)

-- at how many indices both took the same combination
unfoldable pub count_of_same : List Reception → List Reception → ℕ
count_of_same first second = count_of_pairs took_one first second

-- at how many indices they took two combinations
unfoldable pub count_of_differing : List Reception → List Reception → ℕ
count_of_differing first second = count_of_pairs took_two first second

-- The two lists are of one text: 25 times the indices at which they differ are fewer than those at
-- which they are the same, as a copy is good. No such index counts as one.
abbrev pub is_of_one_text : List Reception → List Reception → Bool
is_of_one_text first second =
    nat_lt (good_share * count_of_differing first second) (max 1 (count_of_same first second))

-- What two copies give of one position: the combination that one of them or both took; it is lost
-- where they took two, as in a pair of words. Where neither took one, it is idle if both have it
-- so, and else lost.
abbrev pub joined_position : Reception → Reception → Reception
joined_position (combination m) (combination n) = if m == n then combination m else lost
joined_position (combination m) second = combination m
joined_position first (combination n) = combination n
joined_position idle idle = idle
joined_position first second = lost

-- the joined list: what both give at each index, and behind the shorter one what the longer one has
unfoldable pub joined : List Reception → List Reception → List Reception
joined [] second = second
joined first [] = first
joined (x ∷ first) (y ∷ second) = joined_position x y ∷ joined first second
