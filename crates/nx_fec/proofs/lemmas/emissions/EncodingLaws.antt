-- Lemmas on what encoding answers, and that decoding gives back what was encoded.
use Rattle.std.proofs.Common.{◌≡◌, ℕ, zero, suc, ◌+◌, ◌*◌, ◌<◌, ◌≤◌, Bool, not, List, [], ◌∷◌, ◌++◌}
use Rattle.std.proofs.Common.{length, map, take, drop, position, Some, Result, Err, refl}
use Rattle.std.proofs.Common.{sym, ap, ◌∙◌, subst, append-nil, arith, add-one}
use Rattle.std.specs.List.{flat_map, AllByRecursion}
use Rattle.std.specs.Int.{div_ceil}
use Rattle.std.proofs.ByRecursion.{All-push}
use Rattle.std.proofs.Math.Seq.{take-add}
use Rattle.std.proofs.lemmas.List.{length-map, length-take, length-drop, take_all}
use Rattle.std.proofs.lemmas.List.Concat.{flat_map-append}
use Rattle.std.proofs.lemmas.List.FromFn.{map-range_with_len_more}
use Rattle.nx_code.specs.Reading.{is_in_code, combination, shift_after}
use Rattle.nx_code.specs.Spelling.{Spells, EachFits}
use Rattle.nx_code.specs.declared.shifts.Shift.{Shift}
use Rattle.nx_code.specs.declared.shifts.Shift.TheVariants.{Letters}
use Rattle.nx_code.specs.declared.signals.Comb.{Comb}
use Rattle.nx_code.specs.declared.spelling.SpellFault.{SpellFault}
use Rattle.nx_code.specs.declared.spelling.SpellFault.TheVariants.{NoSuchCharacter, Memory}
use Rattle.nx_fec.specs.air_files.AirFile.{IsLine}
use Rattle.nx_fec.specs.declared.air_files.channel.Channel.TheVariants.{Zero}
use Rattle.nx_fec.specs.air_files.Lines.{file_of, elements_on, IsBitFile}
use Rattle.nx_fec.specs.air_files.BitLines.{bit_line, bit_lines}
use Rattle.nx_fec.specs.emissions.Aligned.{aligned_text, words_of}
use Rattle.nx_fec.specs.emissions.Emission.{bits_of, emission, framed_positions, sent_position}
use Rattle.nx_fec.specs.emissions.Emission.{AreCombinations}
use Rattle.nx_fec.specs.Runs.{IsEncoded, IsDecoded, ExplainsEncoding, file_limit, spell_fault}
use Rattle.nx_fec.specs.Transfers.{Contents, Extent}
use Rattle.nx_fec.specs.declared.fault.RunFault.{RunFault}
use Rattle.nx_fec.specs.declared.fault.RunFault.TheVariants.{Read, Write}
use Rattle.nx_fec.specs.declared.emissions.positions.Position.{Position}
use Rattle.nx_fec.proofs.lemmas.lines.LineLaws.{IsBitFile-unique}
use Rattle.nx_fec.proofs.lemmas.devices.WritingLaws.{first_lines}
use Rattle.nx_fec.proofs.lemmas.emissions.RoundTrip.{length-bits_of, aligned_text-framed_positions}

-- a text that isn't spelled
pub spelling-explains : (extent : Extent) (bytes text : List ℕ) (contents : Contents)
    (e : SpellFault) → extent.at_end → length bytes ≤ file_limit → text ≡ bytes
    → ((at : ℕ) → e ≡ NoSuchCharacter at → position (λ byte. not (is_in_code byte)) text ≡ Some at)
    → ExplainsEncoding extent bytes contents (spell_fault e)
spelling-explains extent bytes text contents (NoSuchCharacter at) end within same h = (
  end,
  within,
  subst (λ l. position (λ byte. not (is_in_code byte)) l ≡ Some at) same
      (h at refl),
)
spelling-explains extent bytes text contents (Memory error) end within same h = tt

pub spell_fault-not_read : {T : Type 0} (e : SpellFault)
    → ◌≡◌ {A = Result T RunFault} (Err (spell_fault e)) (Err Read) → ⊥
spell_fault-not_read (NoSuchCharacter at) same = cc
spell_fault-not_read (Memory error) same = cc

pub spell_fault-not_write : {T : Type 0} (e : SpellFault) (written : ℕ)
    → ◌≡◌ {A = Result T RunFault} (Err (spell_fault e)) (Err (Write written)) → ⊥
spell_fault-not_write (NoSuchCharacter at) written same = cc
spell_fault-not_write (Memory error) written same = cc

-- what is written is the file of the text
pub IsEncoded-of : (bytes text : List ℕ) (combs : List Comb) (positions : List Position)
    (bits : List Bool) → text ≡ bytes
    → Spells text Letters (map (λ (comb : Comb). comb.number) combs)
    → map sent_position positions ≡ framed_positions (map (λ (comb : Comb). comb.number) combs)
    → bits ≡ bits_of (emission (map sent_position positions))
    → IsEncoded bytes (file_of (bit_lines bits)) (length positions)
IsEncoded-of bytes text combs positions bits same spells framed_positions-is bits-are =
    let numbers = map (λ (comb : Comb). comb.number) combs in
    record {
      numbers = numbers;
      spells = subst (λ l. Spells l Letters numbers) same spells;
      written = ap (λ l. file_of (bit_lines l))
          (bits-are ∙ ap (λ l. bits_of (emission l)) framed_positions-is);
      count = sym (length-map positions sent_position) ∙ ap length framed_positions-is;
    }

-- ---- lines of elements are lines of an air file, and hold these elements

bit_line-IsLine : (bits : List Bool) (i : ℕ) → 490 * i < length bits → IsLine (bit_line bits i)
bit_line-IsLine bits i some =
    let count : length (take 490 (drop (490 * i) bits)) ≡ _ =
    length-take 490 (drop (490 * i) bits) in
    let rest = length-drop (490 * i) bits in
    (omega (arith, count, rest, some), omega (arith, count, rest))

first_lines-more : (bits : List Bool) (n : ℕ)
    → first_lines bits (suc n) ≡ first_lines bits n ++ (bit_line bits n ∷ [])
first_lines-more bits n =
    ap (first_lines bits) (sym (add-one n))
    ∙ map-range_with_len_more (bit_line bits) 0 n n (omega arith)

pub first_lines-each : (bits : List Bool) (n : ℕ) → ((i : ℕ) → i < n → 490 * i < length bits)
    → AllByRecursion IsLine (first_lines bits n)
first_lines-each bits zero h = tt
first_lines-each bits (suc n) h =
    subst (AllByRecursion IsLine) (sym (first_lines-more bits n))
    (All-push IsLine (first_lines bits n) (bit_line bits n)
    (first_lines-each bits n (λ i below. h i (omega arith)))
    (bit_line-IsLine bits n (h n (omega arith))))

pub first_lines-elements : (bits : List Bool) (n : ℕ)
    → flat_map (elements_on Zero) (first_lines bits n) ≡ take (490 * n) bits
first_lines-elements bits zero = refl
first_lines-elements bits (suc n) =
    let size : 490 * n + 490 ≡ 490 * suc n = omega arith in
    ap (flat_map (elements_on Zero)) (first_lines-more bits n)
    ∙ flat_map-append (elements_on Zero) (first_lines bits n) (bit_line bits n ∷ [])
    ∙ ap (λ l. l ++ (take 490 (drop (490 * n) bits) ++ [])) (first_lines-elements bits n)
    ∙ ap (λ l. take (490 * n) bits ++ l) (append-nil (take 490 (drop (490 * n) bits)))
    ∙ sym (take-add (490 * n) 490 bits) ∙ ap (λ m. take m bits) size

pub bit_lines-IsBitFile : (limit : ℕ) (bits : List Bool) → length (file_of (bit_lines bits)) ≤ limit
    → IsBitFile limit (file_of (bit_lines bits)) bits
bit_lines-IsBitFile limit bits within =
    let n = div_ceil (length bits) 490 in
    record {
      lines = bit_lines bits;
      file = record {
        whole = refl;
        each =
            first_lines-each bits n (λ i below. omega (arith, below));
        within = within;
      };
      joined = sym (first_lines-elements bits n ∙ take_all (490 * n) bits (omega arith));
    }

-- ---- the round trip

EachFits-combinations : (shift : Shift) (numbers : List ℕ) → EachFits shift numbers
    → AreCombinations numbers
EachFits-combinations shift [] h i below = absurd (omega arith)
EachFits-combinations shift (n ∷ numbers) h zero below = (h.0.from_one, h.0.to_thirty_two)
EachFits-combinations shift (n ∷ numbers) h (suc i) below =
    EachFits-combinations (shift_after (combination n) shift) numbers h.1 i (omega arith)

pub IsDecoded-encoded : (limit : ℕ) (text file : List ℕ) (positions : ℕ)
    → IsEncoded text file positions → length file ≤ limit → IsDecoded limit file text
IsDecoded-encoded limit text file positions h within =
    let bits = bits_of (emission (framed_positions h.numbers)) in
    let count = length-bits_of (emission (framed_positions h.numbers)) in
    record {
      bits = bits;
      file = subst (λ l. IsBitFile limit l bits) (sym h.written)
          (bit_lines-IsBitFile limit bits (subst (λ l. length l ≤ limit) h.written within));
      whole = omega (arith, count);
      read = sym (aligned_text-framed_positions h.numbers
          (EachFits-combinations Letters h.numbers h.spells.fits) ∙ h.spells.reads);
    }

pub IsDecoded-unique : (limit : ℕ) (file a b : List ℕ) → IsDecoded limit file a
    → IsDecoded limit file b → a ≡ b
IsDecoded-unique limit file a b h k =
    h.read ∙ ap (λ l. aligned_text (words_of l))
    (IsBitFile-unique limit file h.bits k.bits h.file k.file) ∙ sym k.read
