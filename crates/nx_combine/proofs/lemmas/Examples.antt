-- The definitions, evaluated on worked examples.
use Rattle.std.proofs.Common.{◌≡◌, ℕ, true, false, List, [], ◌∷◌, ◌++◌, map, refl}
use Rattle.std.specs.Prelude.{codes, slice_set}
use Rattle.std.specs.List.{range_with_len}
use Rattle.nx_code.specs.Reading.{Reception, character_of, combination, idle, lost}
use Rattle.nx_code.specs.Table.{row_of, table}
use Rattle.nx_envelope.specs.Copies.{beginnings, ending_by_marker, ending_of}
use Rattle.nx_envelope.specs.private.Reading.{marker_read}
use Rattle.nx_envelope.specs.declared.found.How.TheVariants.{Full}
use Rattle.nx_combine.specs.CopyPositions.{sure_count}
use Rattle.nx_combine.specs.Joining.{count_of_differing, count_of_same, is_of_one_text, joined}
use Rattle.nx_combine.specs.PositionEnds.{end_of, ending_by, raw_text_of}

-- these combinations, each taken
abbrev taken : List ℕ → List Reception
taken numbers = map combination numbers

-- what stands behind a second digit: CR, LF, the letter shift, these, CR, LF and NNNN
abbrev message_of : List ℕ → List Reception
message_of numbers = taken (27 ∷ 28 ∷ 29 ∷ (numbers ++ 27 ∷ 28 ∷ 14 ∷ 14 ∷ 14 ∷ 14 ∷ []))

-- with the position of this index lost
abbrev without : ℕ → List Reception → List Reception
without index positions = slice_set positions index lost

-- A and B, in letters
abbrev ab : List Reception
ab = message_of (1 ∷ 2 ∷ [])

-- how the positions end, with the found text
pub whole_ab : ending_by ab ≡ record { how = Full; text = codes "AB\n" }
unfolding ending_by raw_text_of ending_of beginnings ending_by_marker marker_read character_of
    row_of table
whole_ab = refl

-- of both letters one is lost in each copy: the joined list has both
pub two_halves : joined (without 3 ab) (without 4 ab) ≡ ab
unfolding joined
two_halves = refl

-- idle hides nothing that is lost, and what differs is lost
pub idle_and_lost : joined (idle ∷ idle ∷ []) (lost ∷ idle ∷ idle ∷ []) ≡ lost ∷ idle ∷ idle ∷ []
unfolding joined
idle_and_lost = refl

pub differing : joined (combination 1 ∷ combination 1 ∷ []) (combination 2 ∷ lost ∷ [])
    ≡ lost ∷ combination 1 ∷ []
unfolding joined
differing = refl

-- one that differs of 26 is of one text, and of 25 isn't
abbrev some : ℕ → List Reception
some count = map (λ n. combination 1) (range_with_len 0 count)

pub one_of_26 : is_of_one_text (combination 2 ∷ some 26) (combination 3 ∷ some 26) ≡ true
unfolding count_of_same count_of_differing
one_of_26 = refl

pub one_of_25 : is_of_one_text (combination 2 ∷ some 25) (combination 3 ∷ some 25) ≡ false
unfolding count_of_same count_of_differing
one_of_25 = refl

-- where nothing was taken of both, nothing differs
pub none_in_common : is_of_one_text (idle ∷ lost ∷ []) (combination 3 ∷ combination 4 ∷ []) ≡ true
unfolding count_of_same count_of_differing
none_in_common = refl

-- Idle that another copy has lost is lost, where nothing else differs: so the first full text with
-- no error doesn't stay letter for letter.
pub idle_of_a_whole_text : ending_by (taken (29 ∷ []) ++ idle ∷ taken (14 ∷ 14 ∷ 14 ∷ 14 ∷ []))
    ≡ record { how = Full; text = [] }
unfolding ending_by raw_text_of ending_of beginnings ending_by_marker marker_read character_of
    row_of table
idle_of_a_whole_text = refl

pub lost_in_the_other : ending_by (joined
    (taken (29 ∷ []) ++ idle ∷ taken (14 ∷ 14 ∷ 14 ∷ 14 ∷ []))
    (taken (29 ∷ []) ++ lost ∷ taken (14 ∷ 14 ∷ 14 ∷ 14 ∷ [])))
    ≡ record { how = Full; text = codes "*" }
unfolding joined ending_by raw_text_of ending_of beginnings ending_by_marker marker_read
    character_of row_of table
lost_in_the_other = refl

-- a marker that damage made: four commas behind a lost figure shift are NNNN
pub false_end : ending_by (taken (29 ∷ 1 ∷ []) ++ lost ∷ taken (14 ∷ 14 ∷ 14 ∷ 14 ∷ 2 ∷ []))
    ≡ record { how = Full; text = codes "A*" }
unfolding ending_by raw_text_of ending_of beginnings ending_by_marker marker_read character_of
    row_of table
false_end = refl

pub end_of_it : end_of (taken (29 ∷ 1 ∷ []) ++ lost ∷ taken (14 ∷ 14 ∷ 14 ∷ 14 ∷ 2 ∷ [])) ≡ 7
unfolding end_of raw_text_of ending_of beginnings ending_by_marker marker_read character_of row_of
    table
end_of_it = refl

-- the last two in a row that are of words that count alike: with them four positions stand
pub sure_of_six : sure_count (true ∷ true ∷ true ∷ true ∷ false ∷ true ∷ []) ≡ 4
unfolding sure_count
sure_of_six = refl

pub none_sure : sure_count (true ∷ false ∷ true ∷ []) ≡ 0
unfolding sure_count
none_sure = refl
