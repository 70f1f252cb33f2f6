-- Lemmas on what a writer holds while lines of elements are written to it in batches.
use Rattle.std.proofs.Common.{◌≡◌, ℕ, ◌+◌, ◌-◌, ◌*◌, ◌^◌, ◌<◌, ◌≤◌, min, Bool, List, [], ◌∷◌, ◌++◌}
use Rattle.std.proofs.Common.{length, map, take, drop, set, get_or, false, sym, ap, ◌∙◌, subst}
use Rattle.std.proofs.Common.{append_assoc, append-nil, arith, Option, None}
use Rattle.std.specs.List.{range_with_len}
use Rattle.std.specs.Int.{div_ceil}
use Rattle.std.specs.Io.KnownBytes.{Appends}
use Rattle.std.proofs.KnownBytes.{Appends-trans}
use Rattle.std.proofs.Math.Seq.{take-add, take-append-add}
use Rattle.std.proofs.lemmas.List.{take_rest, length-append, take-append-drop, take-append-le}
use Rattle.std.proofs.lemmas.List.{take_min, take_more, take_more_set, map-append}
use Rattle.std.proofs.lemmas.List.Concat.{flat_map-append}
use Rattle.std.proofs.lemmas.List.FromFn.{map-range_with_len_more, take-map-range_with_len}
use Rattle.nx_fec.specs.air_files.AirFile.{Line, element_digit, elements}
use Rattle.nx_fec.specs.air_files.Lines.{line_bytes, file_of}
use Rattle.nx_fec.specs.air_files.BitLines.{bit_line, bit_lines}
use Rattle.nx_fec.specs.Transfers.{HasWritten, WroteSome}
use Rattle.nx_fec.proofs.lemmas.line_runs.LineRun.{file_of-one}

-- the next bytes of a list, after those up to an index
pub Appends-next : (a b c : Option (List ℕ)) (bytes : List ℕ) (at count : ℕ)
    → Appends a b (take at bytes)
    → Appends b c (take count (take (length bytes - at) (drop at bytes)))
    → Appends a c (take (at + count) bytes)
Appends-next a b c bytes at count first second =
    let next : Appends b c (take count (drop at bytes)) =
    subst (λ l. Appends b c (take count l)) (take_rest bytes at) second in
    subst (Appends a c) (sym (take-add at count bytes))
    (Appends-trans a b c (take at bytes) (take count (drop at bytes)) first next)

-- the first lines of elements
abbrev pub first_lines : List Bool → ℕ → List Line
first_lines bits n = map (bit_line bits) (range_with_len 0 n)

-- what was written so far, and what is gathered, are the first lines
pub record Batched (old now : Option (List ℕ)) (bits : List Bool) (index sent : ℕ)
    (batch : List ℕ) : Type 0 where
  pub done : List ℕ
  pub written : HasWritten old now done sent
  pub bytes : done ++ batch ≡ file_of (first_lines bits index)

-- the elements of a line, as the code takes them
pub line-is : (bits : List Bool) (i : ℕ) → let rest =
    take (length bits - 490 * i) (drop (490 * i) bits) in
    elements None (take (min 490 (length rest)) rest) ≡ bit_line bits i
line-is bits i =
    let rest = take (length bits - 490 * i) (drop (490 * i) bits) in
    ap (elements None) (take_min 490 rest ∙ ap (take 490) (take_rest bits (490 * i)))

-- one more line
pub Batched-more : (old now : Option (List ℕ)) (bits : List Bool) (index sent : ℕ)
    (batch more : List ℕ) (line : Line) → Batched old now bits index sent batch
    → more ≡ batch ++ line_bytes line → line ≡ bit_line bits index
    → Batched old now bits (index + 1) sent more
Batched-more old now bits index sent batch more line h added same = record {
  done = h.done;
  written = h.written;
  bytes = ap (λ l. h.done ++ l) added ∙ sym (append_assoc h.done batch (line_bytes line))
      ∙ ap (λ l. l ++ line_bytes line) h.bytes
      ∙ ap (λ x. file_of (first_lines bits index) ++ line_bytes x) same
      ∙ sym (file_of-one (first_lines bits index) (bit_line bits index))
      ∙ sym (ap file_of (map-range_with_len_more (bit_line bits) 0 index index (omega arith)));
}

-- the batch is written
pub Batched-sent : (old now next : Option (List ℕ)) (bits : List Bool) (index sent count : ℕ)
    (batch piece : List ℕ) (h : Batched old now bits index sent batch)
    → piece ≡ batch → HasWritten old next (h.done ++ piece) count
    → Batched old next bits index count []
Batched-sent old now next bits index sent count batch piece h same wrote = record {
  done = h.done ++ batch;
  written = subst (λ l. HasWritten old next (h.done ++ l) count) same wrote;
  bytes = append-nil (h.done ++ batch) ∙ h.bytes;
}

-- the first lines are a front of all
file_of-front : (bits : List Bool) (index : ℕ) → index ≤ div_ceil (length bits) 490
    → (more : List ℕ) × (file_of (bit_lines bits) ≡ file_of (first_lines bits index) ++ more)
file_of-front bits index within =
    let count = div_ceil (length bits) 490 in
    let rest = drop index (bit_lines bits) in (
      file_of rest,
      ap file_of (sym (take-append-drop index (bit_lines bits)))
          ∙ flat_map-append line_bytes (take index (bit_lines bits)) rest
          ∙ ap (λ l. file_of l ++ file_of rest)
          (take-map-range_with_len (bit_line bits) 0 count index within),
    )

-- bytes that were written, and then some that were written in part
pub WroteSome-after : (a b c : Option (List ℕ)) (xs ys : List ℕ) (written : ℕ) → Appends a b xs
    → WroteSome b c ys written
    → WroteSome a c (xs ++ ys) (min (length xs + written) (2 ^ 64 - 1))
WroteSome-after a b c xs ys written before part = record {
  taken = length xs + part.taken;
  fewer = omega (arith, part.fewer, length-append xs ys);
  counted = omega (arith, part.counted);
  appended = subst (Appends a c) (sym (take-append-add xs ys part.taken))
      (Appends-trans a b c xs (take part.taken ys) before part.appended);
}

-- bytes that were written in part, and more that were to follow
pub WroteSome-front : (old new : Option (List ℕ)) (xs ys : List ℕ) (written : ℕ)
    → WroteSome old new xs written → WroteSome old new (xs ++ ys) written
WroteSome-front old new xs ys written part = record {
  taken = part.taken;
  fewer = omega (arith, part.fewer, length-append xs ys);
  counted = part.counted;
  appended = subst (Appends old new)
      (sym (take-append-le part.taken xs ys (omega (arith, part.fewer)))) part.appended;
}

-- the batch is written in part
pub Batched-failed : (old now next : Option (List ℕ)) (bits : List Bool) (index sent written : ℕ)
    (batch piece : List ℕ) (h : Batched old now bits index sent batch)
    → index ≤ div_ceil (length bits) 490 → piece ≡ batch
    → WroteSome old next (h.done ++ piece) written
    → WroteSome old next (file_of (bit_lines bits)) written
Batched-failed old now next bits index sent written batch piece h within same part =
    let front = file_of-front bits index within in
    let all : (h.done ++ piece) ++ front.0 ≡ file_of (bit_lines bits) =
    ap (λ l. (h.done ++ l) ++ front.0) same ∙ ap (λ l. l ++ front.0) h.bytes ∙ sym front.1 in
    subst (λ l. WroteSome old next l written) all
    (WroteSome-front old next (h.done ++ piece) front.0 written part)

-- one more digit of a line of elements
pub digits-more : (digits : List ℕ) (line : List Bool) (place digit : ℕ) → place < length digits
    → place < length line
    → take place digits ≡ map element_digit (take place line)
    → digit ≡ element_digit (get_or line place false)
    → take (place + 1) (set digits place digit) ≡ map element_digit (take (place + 1) line)
digits-more digits line place digit h k same is =
    take_more_set digits place digit h
    ∙ ap (λ l. l ++ digit ∷ []) same
    ∙ ap (λ d. map element_digit (take place line) ++ d ∷ []) is
    ∙ sym (map-append element_digit (take place line) (get_or line place false ∷ []))
    ∙ sym (ap (map element_digit) (take_more line place false k))

-- all lines are written
pub Batched-all : (old now next : Option (List ℕ)) (bits : List Bool) (index sent count : ℕ)
    (batch piece : List ℕ) (h : Batched old now bits index sent batch)
    → index ≡ div_ceil (length bits) 490 → piece ≡ batch
    → HasWritten old next (h.done ++ piece) count → Appends old next (file_of (bit_lines bits))
Batched-all old now next bits index sent count batch piece h whole same wrote =
    subst (Appends old next) (ap (λ l. h.done ++ l) same ∙ h.bytes
    ∙ ap (λ n. file_of (first_lines bits n)) whole) wrote.appended

-- one more line, as the code takes its elements
pub Batched-line : (old now : Option (List ℕ)) (bits : List Bool) (index sent : ℕ)
    (batch more : List ℕ) (count : ℕ) → Batched old now bits index sent batch
    → count ≡ min 490 (length (take (length bits - 490 * index) (drop (490 * index) bits)))
    → more ≡ batch ++ line_bytes
    (elements None (take count (take (length bits - 490 * index) (drop (490 * index) bits))))
    → Batched old now bits (index + 1) sent more
Batched-line old now bits index sent batch more count h is added =
    let rest = take (length bits - 490 * index) (drop (490 * index) bits) in
    Batched-more old now bits index sent batch more (elements None (take count rest)) h added
    (ap (λ n. elements None (take n rest)) is ∙ line-is bits index)
