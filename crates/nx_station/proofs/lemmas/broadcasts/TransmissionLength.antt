-- How many bytes an air file has that sending wrote.
use Rattle.std.proofs.Common.{ℕ, ◌*◌, ◌^◌, ◌<◌, ◌≤◌, Bool, List, [], ◌∷◌, None, map, length}
use Rattle.std.proofs.Common.{take, drop, sym, ap, ◌∙◌, arith}
use Rattle.std.specs.Int.{div_ceil}
use Rattle.std.specs.List.{range_with_len}
use Rattle.std.proofs.lemmas.List.{length-append, length-map, length-take}
use Rattle.std.proofs.lemmas.List.FromFn.{length-map-range_with_len}
use Rattle.nx_fec.specs.air_files.AirFile.{Line, element_digit, elements, moment, spelling}
use Rattle.nx_fec.specs.air_files.BitLines.{bit_lines}
use Rattle.nx_fec.specs.emissions.Emission.{bits_of, emission}
use Rattle.nx_fec.specs.air_files.Lines.{file_of, line_bytes}
use Rattle.nx_fec.specs.Runs.{file_limit}
use Rattle.nx_fec.proofs.lemmas.emissions.Emission.{length-emission}
use Rattle.nx_fec.proofs.lemmas.lines.LineLaws.{spelling-IsBeginning}
use Rattle.nx_fec.proofs.lemmas.emissions.RoundTrip.{length-bits_of}
use Rattle.nx_station.specs.FileSending.{IsTransmission}
use Rattle.nx_station.specs.declared.sending.Sent.{Sent}
use Rattle.nx_station.proofs.lemmas.broadcasts.Broadcast.{broadcast-one}

length-some : (bits : ℕ → List Bool) (indices : List ℕ) → ((i : ℕ) → length (bits i) ≤ 490)
    → length (file_of (map (λ i. elements None (bits i)) indices)) ≤ 493 * length indices
length-some bits [] short = omega arith
length-some bits (i ∷ indices) short =
    let others : List Line = map (λ i. elements None (bits i)) indices in
    let rest = length-some bits indices short in
    let one = length-append (line_bytes (elements None (bits i))) (file_of others) in
    let line = length-append (spelling (elements None (bits i))) (10 ∷ []) in
    let digits = length-map (bits i) element_digit in
    omega (arith, short i)

-- the lines of elements
pub length-bit_lines : (bits : List Bool)
    → length (file_of (bit_lines bits)) ≤ 493 * div_ceil (length bits) 490
length-bit_lines bits =
    let many = div_ceil (length bits) 490 in
    let all : length (file_of (bit_lines bits)) ≤ 493 * length (range_with_len 0 many) =
    length-some (λ i. take 490 (drop (490 * i) bits)) (range_with_len 0 many)
    (λ i. omega (arith, length-take 490 (drop (490 * i) bits))) in
    let indices = sym (length-map (range_with_len 0 many) (λ (i : ℕ). i))
    ∙ length-map-range_with_len (λ (i : ℕ). i) 0 many in
    omega (arith, all, indices)

-- the whole file: a line of the moment, and those of at most 4,286 positions
pub length-transmission : (station from : ℕ) (file air : List ℕ) (sent : Sent)
    → IsTransmission station from file air sent → length air ≤ file_limit
length-transmission station from file air sent h =
    let same = broadcast-one h.messages h.positions h.sendable.positions h.broadcast
    h.sendable.broadcast in
    let few : length h.positions ≤ 4286 = omega (arith, ap length same, h.sendable.fits) in
    let bits : List Bool = bits_of (emission h.positions) in
    let size : length bits ≤ 59997 =
    omega (arith, length-bits_of (emission h.positions), length-emission h.positions, few) in
    let count : div_ceil (length bits) 490 ≤ 123 = omega arith in
    let all = length-bit_lines bits in
    let good : sent.slot < 10 ^ 11 = omega (arith, h.next.in_range) in
    let first = (spelling-IsBeginning (moment sent.slot) good).short in
    let line = length-append (spelling (moment sent.slot)) (10 ∷ []) in
    let whole = ap length h.whole
    ∙ length-append (line_bytes (moment sent.slot)) (file_of (bit_lines bits)) in
    omega arith
