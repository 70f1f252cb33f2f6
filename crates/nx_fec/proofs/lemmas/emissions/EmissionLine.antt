-- The lines of an emission, position by position, and the digits of its words.
use Rattle.std.proofs.Common.{◌≡◌, ℕ, ◌+◌, ◌-◌, ◌*◌, ◌<◌, ◌≤◌, min, true, List, [], ◌∷◌, ◌++◌}
use Rattle.std.proofs.Common.{length, map, take, drop, bit_and, bit_or, bytes_eq, refl, sym, ap}
use Rattle.std.proofs.Common.{◌∙◌, append-nil, arith, inl, inr, take-append-drop}
use Rattle.std.specs.List.{flat_map, range_with_len, take-map}
use Rattle.std.specs.Int.{div_ceil, to_le_bytes, w64}
use Rattle.std.proofs.Math.Seq.{take-append-add}
use Rattle.std.proofs.lemmas.Bool.{agree_below_at, cases_lt}
use Rattle.std.proofs.lemmas.List.{drop_at, ext_get_or, get_or-drop, length-drop, length-take-le}
use Rattle.std.proofs.lemmas.List.{map-append, take_all, take_at, take_min, take-take}
use Rattle.std.proofs.lemmas.List.Concat.{flat_map-append}
use Rattle.std.proofs.lemmas.List.FromFn.{get_or-map-range_with_len, length-map-range_with_len}
use Rattle.std.proofs.lemmas.List.FromFn.{map-range_with_len_more, take-map-range_with_len}
use Rattle.std.proofs.lemmas.Slice.{take-put_mid}
use Rattle.std.proofs.lemmas.Slice.Eq.{bytes_eq-Decides}
use borrow.Rule.Slice.PartMut.{put_mid, same_len_mid}
use Rattle.nx_code.specs.Word.{elements, elements_from}
use Rattle.nx_fec.specs.air_files.AirFile.{element_digit}
use Rattle.nx_fec.specs.emissions.Emission.{SentPosition, bits_of, emission, word_sent}
use Rattle.nx_fec.proofs.lemmas.emissions.Emission.{length-emission}
use Rattle.nx_fec.proofs.lemmas.emissions.RoundTrip.{length-bits_of}

-- the elements of the first words, and of those behind them
split-bits_of : (count : ℕ) (sent : List ℕ)
    → bits_of sent ≡ bits_of (take count sent) ++ bits_of (drop count sent)
unfolding bits_of
split-bits_of count sent =
    ap (flat_map elements) (sym (take-append-drop count sent))
    ∙ flat_map-append elements (take count sent) (drop count sent)

length-first : (count : ℕ) (sent : List ℕ) → count ≤ length sent
    → length (bits_of (take count sent)) ≡ 7 * count
length-first count sent within =
    omega (arith, length-bits_of (take count sent), length-take-le count sent within)

take-bits_of : (count : ℕ) (sent : List ℕ)
    → take (7 * count) (bits_of sent) ≡ bits_of (take count sent)
take-bits_of count sent =
    elim (cases_lt count (length sent)) [
      | inl below ↦ ap (take (7 * count)) (split-bits_of count sent)
          ∙ take_at (bits_of (take count sent)) (bits_of (drop count sent)) (7 * count)
          (length-first count sent (omega (arith, below)))
      | inr past ↦ take_all (7 * count) (bits_of sent) (omega (arith, length-bits_of sent, past))
          ∙ ap bits_of (sym (take_all count sent past))
    ]

drop-bits_of : (count : ℕ) (sent : List ℕ) → count ≤ length sent
    → drop (7 * count) (bits_of sent) ≡ bits_of (drop count sent)
drop-bits_of count sent within =
    ap (drop (7 * count)) (split-bits_of count sent)
    ∙ drop_at (bits_of (take count sent)) (bits_of (drop count sent)) (7 * count)
    (length-first count sent within)

-- the words from a slot on
slots-from : (f : ℕ → ℕ) (first all : ℕ)
    → drop first (map f (range_with_len 0 all)) ≡ map f (range_with_len first (all - first))
slots-from f first all =
    let behind = drop first (map f (range_with_len 0 all)) in
    let size : length behind ≡ all - first =
    length-drop first (map f (range_with_len 0 all))
    ∙ ap (λ n. n - first) (length-map-range_with_len f 0 all) in
    ext_get_or 0 behind (map f (range_with_len first (all - first)))
    (size ∙ sym (length-map-range_with_len f first (all - first)))
    (λ i h. get_or-drop first (map f (range_with_len 0 all)) i 0
    ∙ get_or-map-range_with_len f 0 all (first + i) (first + i) 0 (omega (arith, size, h))
    (omega arith)
    ∙ sym (get_or-map-range_with_len f first (all - first) i (first + i) 0 (omega (arith, size, h))
    (omega arith)))

first-slots : (f : ℕ → ℕ) (first count slots : ℕ) → slots ≡ min 70 count
    → take 70 (map f (range_with_len first count)) ≡ map f (range_with_len first slots)
first-slots f first count slots is =
    let all = map f (range_with_len first count) in
    let size : min 70 (length all) ≡ slots =
    omega (arith, is, length-map-range_with_len f first count) in
    sym (take_min 70 all) ∙ ap (λ n. take n all) size
    ∙ take-map-range_with_len f first count slots (omega (arith, is))

-- the elements of a line are those of 70 slots, or of as many as are left
pub line-slots : (positions : List SentPosition) (index slots : ℕ) → 35 * index < length positions
    → slots ≡ min 70 (2 * length positions - 1 - 70 * index)
    → take 490 (drop (490 * index) (bits_of (emission positions)))
    ≡ bits_of (map (word_sent positions) (range_with_len (70 * index) slots))
unfolding emission
line-slots positions index slots some is =
    let all = 2 * length positions - 1 in
    let f = word_sent positions in
    let sent = map f (range_with_len 0 all) in
    let at : 490 * index ≡ 7 * (70 * index) = omega arith in
    ap (λ k. take 490 (drop k (bits_of sent))) at
    ∙ ap (take 490) (drop-bits_of (70 * index) sent
    (omega (arith, some, length-map-range_with_len f 0 all)))
    ∙ take-bits_of 70 (drop (70 * index) sent)
    ∙ ap (λ l. bits_of (take 70 l)) (slots-from f (70 * index) all)
    ∙ ap bits_of (first-slots f (70 * index) (all - 70 * index) slots is)

-- how many lines there are
pub lines-of_positions : (positions : List SentPosition)
    → div_ceil (length (bits_of (emission positions))) 490 ≡ div_ceil (length positions) 35
lines-of_positions positions =
    omega (arith, length-bits_of (emission positions), length-emission positions)

-- one more slot, and one more position
slot-more : (f : ℕ → ℕ) (first count : ℕ)
    → bits_of (map f (range_with_len first (count + 1)))
    ≡ bits_of (map f (range_with_len first count)) ++ elements (f (first + count))
unfolding bits_of
slot-more f first count =
    ap (flat_map elements) (map-range_with_len_more f first count (first + count) refl)
    ∙ flat_map-append elements (map f (range_with_len first count)) (f (first + count) ∷ [])
    ∙ ap (λ l. flat_map elements (map f (range_with_len first count)) ++ l)
    (append-nil (elements (f (first + count))))

-- the digits of the slots so far
abbrev pub slot_digits : (ℕ → ℕ) → ℕ → ℕ → List ℕ
slot_digits f first count = map element_digit (bits_of (map f (range_with_len first count)))

digits-more : (f : ℕ → ℕ) (first count : ℕ)
    → slot_digits f first (count + 1)
    ≡ slot_digits f first count ++ map element_digit (elements (f (first + count)))
digits-more f first count =
    ap (map element_digit) (slot-more f first count)
    ∙ map-append element_digit (bits_of (map f (range_with_len first count)))
    (elements (f (first + count)))

pub position-more : (f : ℕ → ℕ) (first place dx rx : ℕ) → dx ≡ f (first + 2 * place)
    → rx ≡ f (first + 2 * place + 1)
    → slot_digits f first (2 * (place + 1))
    ≡ (slot_digits f first (2 * place) ++ map element_digit (elements dx))
    ++ map element_digit (elements rx)
position-more f first place dx rx d r =
    let e : 2 * (place + 1) ≡ 2 * place + 1 + 1 = omega arith in
    let s : first + (2 * place + 1) ≡ first + 2 * place + 1 = omega arith in
    ap (slot_digits f first) e ∙ digits-more f first (2 * place + 1)
    ∙ ap (λ l. l ++ map element_digit (elements (f (first + (2 * place + 1)))))
    (digits-more f first (2 * place))
    ∙ ap (λ w. (slot_digits f first (2 * place)
    ++ map element_digit (elements (f (first + 2 * place)))) ++ map element_digit (elements w))
    (ap f s ∙ sym r)
    ∙ ap (λ w. (slot_digits f first (2 * place) ++ map element_digit (elements w))
    ++ map element_digit (elements rx)) (sym d)

-- fewer slots
pub slot_digits-fewer : (f : ℕ → ℕ) (first slots count : ℕ) (digits : List ℕ) → slots ≤ count
    → take (7 * count) digits ≡ slot_digits f first count
    → take (7 * slots) digits ≡ slot_digits f first slots
slot_digits-fewer f first slots count digits within same =
    let all = map f (range_with_len first count) in
    sym (take-take (7 * slots) (7 * count) digits (omega (arith, within)))
    ∙ ap (take (7 * slots)) same
    ∙ take-map element_digit (7 * slots) (bits_of all)
    ∙ ap (map element_digit) (take-bits_of slots all
    ∙ ap bits_of (take-map-range_with_len f first count slots within))

-- eight bytes that are put into a list
put-long : (at count : ℕ) (xs ys : List ℕ) → count ≡ 8 → length ys ≡ 8 → at + 8 ≤ length xs
    → length (put_mid at count xs ys) ≡ length xs
put-long at count xs ys eight size within =
    same_len_mid at count xs ys
    (omega (
      arith,
      eight,
      size,
      length-take-le count (drop at xs)
          (omega (arith, eight, within, length-drop at xs)),
    ))

put-seven : (at count : ℕ) (xs ys : List ℕ) → length ys ≡ 8 → at ≤ length xs
    → take (at + 7) (put_mid at count xs ys) ≡ take at xs ++ take 7 ys
put-seven at count xs ys size within =
    let front : length (take at xs) ≡ at = length-take-le at xs within in
    sym (take-take (at + 7) (at + length ys) (put_mid at count xs ys) (omega (arith, size)))
    ∙ ap (take (at + 7)) (take-put_mid at count xs ys (at + length ys) refl within)
    ∙ ap (λ n. take (n + 7) (take at xs ++ ys)) (sym front)
    ∙ take-append-add (take at xs) ys 7

pub position-written-long : (place j k : ℕ) (digits a b : List ℕ) → j ≡ 8 → k ≡ 8 → length a ≡ 8
    → length b ≡ 8 → length digits ≡ 491 → place < 35
    → length (put_mid (14 * place + 7) k (put_mid (14 * place) j digits a) b) ≡ 491
position-written-long place j k digits a b je ke long wide size below =
    let one = put-long (14 * place) j digits a je long (omega (arith, size, below)) in
    put-long (14 * place + 7) k (put_mid (14 * place) j digits a) b ke wide
    (omega (arith, one, size, below)) ∙ one ∙ size

-- the digits of one more position
pub position-written : (f : ℕ → ℕ) (first place j k dx rx : ℕ) (digits a b : List ℕ) → j ≡ 8
    → length a ≡ 8 → length b ≡ 8 → length digits ≡ 491 → place < 35
    → take 7 a ≡ map element_digit (elements dx) → take 7 b ≡ map element_digit (elements rx)
    → dx ≡ f (first + 2 * place) → rx ≡ f (first + 2 * place + 1)
    → take (14 * place) digits ≡ slot_digits f first (2 * place)
    → take (14 * (place + 1)) (put_mid (14 * place + 7) k (put_mid (14 * place) j digits a) b)
    ≡ slot_digits f first (2 * (place + 1))
position-written f first place j k dx rx digits a b je long wide size below ad bd d r before =
    let one = put-long (14 * place) j digits a je long (omega (arith, size, below)) in
    let e : 14 * (place + 1) ≡ 14 * place + 7 + 7 = omega arith in
    ap (λ n. take n (put_mid (14 * place + 7) k (put_mid (14 * place) j digits a) b)) e
    ∙ put-seven (14 * place + 7) k (put_mid (14 * place) j digits a) b wide
    (omega (arith, one, size, below))
    ∙ ap (λ l. l ++ take 7 b) (put-seven (14 * place) j digits a long (omega (arith, size, below)))
    ∙ ap (λ l. (l ++ take 7 a) ++ take 7 b) before
    ∙ ap (λ l. (slot_digits f first (2 * place) ++ l) ++ take 7 b) ad
    ∙ ap (λ l. (slot_digits f first (2 * place) ++ map element_digit (elements dx)) ++ l) bd
    ∙ sym (position-more f first place dx rx d r)

-- the digits of a word, each in a byte of a number
pub digits-spread : (word : ℕ) → word < 128
    → take 7 (to_le_bytes w64
    (bit_or (bit_and (word * 567382630219905) 282578800148737) 13563782407139376))
    ≡ map element_digit (elements word)
unfolding elements elements_from
digits-spread word h =
    (bytes_eq-Decides (take 7
    (to_le_bytes w64 (bit_or (bit_and (word * 567382630219905) 282578800148737)
    13563782407139376))) (map element_digit (elements word))).0
    (agree_below_at (λ k. bytes_eq
    (take 7 (to_le_bytes w64 (bit_or (bit_and (k * 567382630219905) 282578800148737)
    13563782407139376))) (map element_digit (elements k))) (λ _. true) 128 word refl h)
