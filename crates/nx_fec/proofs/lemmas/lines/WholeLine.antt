-- A scanner that takes the line that a piece begins with.
use Rattle.std.proofs.Common.{◌≡◌, ℕ, ◌+◌, ◌-◌, ◌^◌, ◌<◌, ◌≤◌, Bool, true, List, [], ◌∷◌, ◌++◌}
use Rattle.std.proofs.Common.{length, map, take, codes, get_or, Option, None, Some, refl, sym, ap}
use Rattle.std.proofs.Common.{◌∙◌, append_assoc, arith}
use Rattle.std.specs.Fmt.{decimal}
use Rattle.std.proofs.lemmas.List.{length-append, length-map, length-take-le, take_more, take-take}
use Rattle.std.proofs.Math.Seq.{take-append-add}
use Rattle.nx_fec.specs.air_files.AirFile.{element_digit, elements, mark_bytes, moment, with_mark}
use Rattle.nx_fec.specs.air_files.Lines.{Scanning, line_bytes}
use Rattle.nx_fec.specs.private.Packing.{are_elements, is_one}
use Rattle.nx_fec.specs.private.ScannerKept.{SpellsLine, line_ended, part_of}
use Rattle.nx_fec.specs.private.WholeLines.{TakesLine}
use Rattle.nx_fec.specs.declared.air_files.lines.LineKind.{LineKind}
use Rattle.nx_fec.specs.declared.air_files.lines.LineKind.TheVariants.{Elements, Moment}
use Rattle.nx_fec.specs.declared.air_files.channel.Channel.{Channel}
use Rattle.nx_fec.proofs.lemmas.packed.Packed.{digits-spelled}
use Rattle.nx_fec.proofs.lemmas.lines.Kept.{kept-open}
use Rattle.nx_fec.proofs.lemmas.lines.LineLaws.{mark-short}

-- ---- the bytes of a line of elements

-- what stands before the digits
front : Option Channel → List ℕ
front mark = 66 ∷ (mark_bytes mark ++ 32 ∷ [])

front-size : (mark : Option Channel) → length (front mark) ≡ 2 + length (mark_bytes mark)
unfolding front
front-size None = refl
front-size (Some channel) = refl

front-first : (mark : Option Channel) (digits : List ℕ)
    → with_mark (codes "B") mark digits ≡ front mark ++ digits
unfolding front
front-first None digits = refl
front-first (Some channel) digits = refl

-- a line begins with the digits of these elements, and so many bytes come before them
pub record Digits (piece : List ℕ) (mark : Option Channel) (digits : List ℕ) (start count : ℕ)
    (bits : List Bool) : Type 0 where
  pub whole : piece ≡ with_mark (codes "B") mark digits
  pub starts : start ≡ length piece - length digits
  pub some : 0 < count
  pub fits : start + count ≤ 514
  pub right : are_elements (take count digits) ≡ true
  pub within : count < length digits
  pub feed : get_or digits count 0 ≡ 10
  pub are : bits ≡ map is_one (take count digits)

-- the digits come behind two bytes, or three where a channel is named
pub digits-behind-front : (piece : List ℕ) (mark : Option Channel) (digits : List ℕ)
    → piece ≡ with_mark (codes "B") mark digits
    → (length digits ≤ length piece) × (length piece ≤ length digits + 3)
digits-behind-front piece mark digits whole =
    let size = front-size mark in
    let few = mark-short mark in
    let long = length-append (front mark) digits in
    let all = ap length (whole ∙ front-first mark digits) in
    (omega (arith, size, long, all), omega (arith, size, few, long, all))

start-front : (piece : List ℕ) (mark : Option Channel) (digits : List ℕ) (start count : ℕ)
    (bits : List Bool) → Digits piece mark digits start count bits → start ≡ length (front mark)
start-front piece mark digits start count bits h =
    omega (
      arith,
      h.starts,
      ap length (h.whole ∙ front-first mark digits),
      length-append (front mark) digits,
    )

digits-are : (piece : List ℕ) (mark : Option Channel) (digits : List ℕ) (start count : ℕ)
    (bits : List Bool) → Digits piece mark digits start count bits
    → take count digits ≡ map element_digit bits
digits-are piece mark digits start count bits h =
    digits-spelled (take count digits) h.right ∙ ap (map element_digit) (sym h.are)

pub digits-spell : (piece : List ℕ) (mark : Option Channel) (digits : List ℕ) (start count : ℕ)
    (bits : List Bool) → Digits piece mark digits start count bits
    → SpellsLine (Elements mark) bits (take (start + count) piece)
digits-spell piece mark digits start count bits h =
    let size : length bits ≡ count = ap length h.are ∙ length-map (take count digits) is_one
    ∙ length-take-le count digits (omega (arith, h.within)) in
    let from = start-front piece mark digits start count bits h in
    record {
      good = (
        omega (arith, size, h.some),
        omega (arith, size, from, front-size mark, h.fits),
      );
      spelled = ap (λ n. take (n + count) piece) from
          ∙ ap (take (length (front mark) + count)) (h.whole ∙ front-first mark digits)
          ∙ take-append-add (front mark) digits count
          ∙ ap (λ l. front mark ++ l) (digits-are piece mark digits start count bits h)
          ∙ sym (front-first mark (map element_digit bits));
      own = refl;
    }

digits-line : (piece : List ℕ) (mark : Option Channel) (digits : List ℕ) (start count : ℕ)
    (bits : List Bool) → Digits piece mark digits start count bits
    → take (start + count + 1) piece ≡ line_bytes (elements mark bits)
digits-line piece mark digits start count bits h =
    let from = start-front piece mark digits start count bits h in
    let next : start + count + 1 ≡ length (front mark) + (count + 1) = omega (arith, from) in
    ap (λ n. take n piece) next
    ∙ ap (take (length (front mark) + (count + 1))) (h.whole ∙ front-first mark digits)
    ∙ take-append-add (front mark) digits (count + 1)
    ∙ ap (λ l. front mark ++ l) (take_more digits count 0 h.within)
    ∙ ap (λ b. front mark ++ (take count digits ++ b ∷ [])) h.feed
    ∙ ap (λ l. front mark ++ (l ++ 10 ∷ [])) (digits-are piece mark digits start count bits h)
    ∙ sym (append_assoc (front mark) (map element_digit bits) (10 ∷ []))
    ∙ ap (λ l. l ++ 10 ∷ []) (sym (front-first mark (map element_digit bits)))

-- a scanner that keeps these bytes and elements took the line
pub takes-digits : (old new : Scanning) (piece : List ℕ) (mark : Option Channel)
    (digits : List ℕ) (start count : ℕ) (bits : List Bool)
    → Digits piece mark digits start count bits → old.part ≡ []
    → new.latest ≡ Some (elements mark bits) → new.part ≡ [] → new.lines ≡ old.lines + 1
    → new.allowance + (start + count + 1) ≡ old.allowance
    → TakesLine old new piece (Elements mark) (start + count + 1)
takes-digits old new piece mark digits start count bits h empty latest part lines left = record {
  line = elements mark bits;
  says = refl;
  good = (digits-spell piece mark digits start count bits h).good;
  front = digits-line piece mark digits start count bits h;
  within = omega (
    arith,
    h.within,
    start-front piece mark digits start count bits h,
    ap length (h.whole ∙ front-first mark digits),
    length-append (front mark) digits,
  );
  empty = empty;
  latest = latest;
  part = part;
  lines = lines;
  allowance = left;
}

-- ---- a moment

two-first : (piece digits : List ℕ) (count : ℕ) → piece ≡ codes "T " ++ digits
    → take (2 + count) piece ≡ codes "T " ++ take count digits
two-first piece digits count whole =
    ap (take (2 + count)) whole ∙ take-append-add (codes "T ") digits count

pub moment-spells : (piece digits : List ℕ) (value count : ℕ) (bits : List Bool)
    → piece ≡ codes "T " ++ digits
    → (value < 10 ^ 11) × (take count digits ≡ decimal value) → bits ≡ []
    → SpellsLine (Moment value) bits (take (2 + count) piece)
moment-spells piece digits value count bits whole found none = record {
  good = found.0;
  spelled = two-first piece digits count whole ∙ ap (λ l. codes "T " ++ l) found.1;
  own = sym none;
}

pub takes-moment : (old new : Scanning) (piece digits : List ℕ) (value count : ℕ)
    → piece ≡ codes "T " ++ digits
    → (value < 10 ^ 11) × (take count digits ≡ decimal value)
    → count < length digits → get_or digits count 0 ≡ 10 → old.part ≡ []
    → new.latest ≡ Some (moment value) → new.part ≡ [] → new.lines ≡ old.lines + 1
    → new.allowance + (2 + count + 1) ≡ old.allowance
    → TakesLine old new piece (Moment value) (2 + count + 1)
takes-moment old new piece digits value count whole found within feed empty latest part lines
    allowance = record {
      line = moment value;
      says = refl;
      good = found.0;
      front = let next : 2 + count + 1 ≡ 2 + (count + 1) = omega arith in
          ap (λ n. take n piece) next ∙ two-first piece digits (count + 1) whole
          ∙ ap (λ l. codes "T " ++ l) (take_more digits count 0 within)
          ∙ ap (λ b. codes "T " ++ (take count digits ++ b ∷ [])) feed
          ∙ ap (λ l. codes "T " ++ (l ++ 10 ∷ [])) found.1
          ∙ sym (append_assoc (codes "T ") (decimal value) (10 ∷ []));
      within = omega (arith, within, ap length whole);
      empty = empty;
      latest = latest;
      part = part;
      lines = lines;
      allowance = allowance;
    }

-- and with them those of the front of a piece that were kept too
pub part-more : (ended : Option LineKind) (bits : List Bool) (kept more piece part : List ℕ)
    (count fitting : ℕ) → line_ended ended bits ≡ None → kept ≡ part
    → more ≡ kept ++ take fitting piece → fitting ≤ count
    → part_of ended more ≡ part ++ take fitting (take count piece)
part-more ended bits kept more piece part count fitting none is longer within =
    kept-open ended bits more none ∙ longer ∙ ap (λ l. l ++ take fitting piece) is
    ∙ ap (λ l. part ++ l) (sym (take-take fitting count piece within))
