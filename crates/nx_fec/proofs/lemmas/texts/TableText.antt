-- The cells of the table are short, and its lines join to its text.
use Rattle.std.proofs.Common.{◌≡◌, ℕ, ◌+◌, ◌<◌, ◌≤◌, true, leb, List, [], ◌∷◌, ◌++◌, length, take}
use Rattle.std.proofs.Common.{get_or, refl, ap, ◌∙◌, append-nil, append_assoc}
use Rattle.std.specs.List.{flat_map}
use Rattle.std.proofs.lemmas.Bool.{agree_below_at, leb-true}
use Rattle.std.proofs.lemmas.List.{take_more, get_or-map}
use Rattle.std.proofs.lemmas.List.Concat.{flat_map-append}
use Rattle.nx_code.specs.declared.shifts.Shift.{Shift}
use Rattle.nx_code.specs.declared.shifts.Shift.TheVariants.{Letters, Figures}
use Rattle.nx_code.specs.declared.signals.Signal.{Signal}
use Rattle.nx_code.specs.Table.{Row, row, table, words, cell}
use Rattle.nx_code.specs.Signal.{place, number_of_signal, row_of_signal, cell_of_signal}
use Rattle.nx_code.proofs.lemmas.Table.{place-lt}
use Rattle.nx_fec.specs.texts.TableText.{table_line, table_text}

cells_short : (shift : Shift) (at : ℕ) → at < 35
    → leb (length (cell shift (get_or table at (row 0x00 [] [])))) 5 ≡ true
unfolding table
cells_short Letters at h =
    agree_below_at (λ k. leb (length (cell Letters (get_or table k (row 0x00 [] [])))) 5)
    (λ _. true) 35 at refl h
cells_short Figures at h =
    agree_below_at (λ k. leb (length (cell Figures (get_or table k (row 0x00 [] [])))) 5)
    (λ _. true) 35 at refl h

-- no cell has more than five characters
pub cell-short : (signal : Signal) (shift : Shift) → length (cell_of_signal signal shift) ≤ 5
cell-short signal shift = leb-true _ 5 (cells_short shift (place signal) (place-lt signal))

pub length-table : length table ≡ 35
unfolding table
length-table = refl

-- one more line
pub lines_more : (at : ℕ) → at < 35
    → flat_map table_line (take (at + 1) table)
    ≡ flat_map table_line (take at table) ++ table_line (get_or table at (row 0x00 [] []))
lines_more at h =
    ap (flat_map table_line) (take_more table at (row 0x00 [] []) (rw length-table h))
    ∙ flat_map-append table_line (take at table) (get_or table at (row 0x00 [] []) ∷ [])
    ∙ ap (λ l. flat_map table_line (take at table) ++ l)
    (append-nil (table_line (get_or table at (row 0x00 [] []))))

pub lines_all : flat_map table_line (take 35 table) ≡ table_text
unfolding table_text table
lines_all = refl

-- the word of a signal is that of its row
pub number-row : (signal : Signal) → number_of_signal signal ≡ (row_of_signal signal).word
unfolding words
number-row signal =
    get_or-map (λ (r : Row). r.word) table (place signal) (row 0x00 [] []) 0
    (rw length-table (place-lt signal))

-- a line of four parts, piece by piece
pub line_parts : (t0 t1 t2 t3 t4 t5 t6 t7 t8 digits letters a b : List ℕ) → t1 ≡ t0 ++ digits
    → t2 ≡ t1 ++ 32 ∷ [] → t3 ≡ t2 ++ letters → t4 ≡ t3 ++ 32 ∷ [] → t5 ≡ t4 ++ a
    → t6 ≡ t5 ++ 32 ∷ []
    → t7 ≡ t6 ++ b → t8 ≡ t7 ++ 10 ∷ []
    → t8 ≡ t0 ++ (digits ++ 32 ∷ letters ++ 32 ∷ a ++ 32 ∷ b ++ 10 ∷ [])
line_parts t0 t1 t2 t3 t4 t5 t6 t7 t8 digits letters a b i1 i2 i3 i4 i5 i6 i7 i8 =
    rw (i8, i7, i6, i5, i4, i3, i2, i1) (simp append_assoc refl)
