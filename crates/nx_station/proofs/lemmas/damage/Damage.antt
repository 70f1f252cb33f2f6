-- Damage of elements and of lines, one more after the others; and twice.
use Rattle.std.proofs.Common.{◌≡◌, ◌≢◌, ℕ, zero, suc, ◌+◌, ◌<◌, ◌≤◌, Bool, true, false, cond, not}
use Rattle.std.proofs.Common.{List, [], ◌∷◌, ◌++◌, length, get_or, set, map, Some, None, refl, sym}
use Rattle.std.proofs.Common.{ap, ◌∙◌, arith, length-append}
use Rattle.std.specs.List.{flat_map}
use Rattle.nx_code.specs.Word.{value_of}
use Rattle.nx_code.proofs.lemmas.Word.{value_of-le}
use Rattle.nx_fec.specs.air_files.AirFile.{Line, moment, elements, refuse_station, accept_station}
use Rattle.nx_fec.specs.air_files.AirFile.{refuse_subject, accept_subject}
use Rattle.nx_fec.specs.air_files.Channels.{channel_of}
use Rattle.nx_fec.specs.air_files.Lines.{elements_on}
use Rattle.nx_fec.specs.air_files.Scanner.{kind_of}
use Rattle.nx_fec.specs.declared.air_files.channel.Channel.{Channel}
use Rattle.nx_fec.specs.declared.air_files.channel.Channel.TheVariants.{Zero, One, Two}
use Rattle.nx_station.specs.private.DamageWalk.{front, front_count}
use Rattle.nx_station.specs.Damage.{Damage, damaged_elements, damaged_element, damaged_line}
use Rattle.nx_station.specs.Damage.{damaged_lines, damaged_on, inverted_count, inverts}

-- ---- elements

pub damaged-append : (damage : Damage) (place : ℕ) (xs ys : List Bool)
    → damaged_elements damage place (xs ++ ys)
    ≡ damaged_elements damage place xs ++ damaged_elements damage (place + length xs) ys
damaged-append damage place [] ys =
    ap (λ p. damaged_elements damage p ys) (let e : place ≡ place + 0 = omega arith in e)
damaged-append damage place (x ∷ xs) ys =
    let e : (place + 1) + length xs ≡ place + length (x ∷ xs) = omega arith in
    ap (λ l. damaged_element damage place x ∷ l)
    (damaged-append damage (place + 1) xs ys
    ∙ ap (λ p. damaged_elements damage (place + 1) xs ++ damaged_elements damage p ys) e)

pub inverted-append : (damage : Damage) (place : ℕ) (xs ys : List Bool)
    → inverted_count damage place (xs ++ ys)
    ≡ inverted_count damage place xs + inverted_count damage (place + length xs) ys
inverted-append damage place [] ys =
    let e : place ≡ place + 0 = omega arith in
    let same = ap (λ p. inverted_count damage p ys) e in
    omega (arith, same)
inverted-append damage place (x ∷ xs) ys =
    let e : (place + 1) + length xs ≡ place + length (x ∷ xs) = omega arith in
    let later = inverted-append damage (place + 1) xs ys
    ∙ ap (λ p. inverted_count damage (place + 1) xs + inverted_count damage p ys) e in
    omega (arith, later)

pub length-damaged : (damage : Damage) (place : ℕ) (xs : List Bool)
    → length (damaged_elements damage place xs) ≡ length xs
length-damaged damage place [] = refl
length-damaged damage place (x ∷ xs) = omega (arith, length-damaged damage (place + 1) xs)

pub inverted-le : (damage : Damage) (place : ℕ) (xs : List Bool)
    → inverted_count damage place xs ≤ length xs
inverted-le damage place [] = omega arith
inverted-le damage place (x ∷ xs) =
    omega (arith, value_of-le (inverts damage place), inverted-le damage (place + 1) xs)

twice-element : (b x : Bool) → cond b (not (cond b (not x) x)) (cond b (not x) x) ≡ x
twice-element true true = refl
twice-element true false = refl
twice-element false x = refl

pub damaged-twice : (damage : Damage) (place : ℕ) (xs : List Bool)
    → damaged_elements damage place (damaged_elements damage place xs) ≡ xs
damaged-twice damage place [] = refl
damaged-twice damage place (x ∷ xs) =
    let heads : damaged_element damage place (damaged_element damage place x) ≡ x =
    twice-element (inverts damage place) x in
    let tails = damaged-twice damage (place + 1) xs in
    cc

-- ---- lines

pub lines-append : (damage : Damage) (place : ℕ) (ls : List Line) (line : Line)
    → damaged_lines damage place (ls ++ (line ∷ []))
    ≡ damaged_lines damage place ls
    ++ (damaged_line damage (place + length (flat_map (elements_on Zero) ls)) line ∷ [])
lines-append damage place [] line =
    ap (λ p. damaged_line damage p line ∷ []) (let e : place ≡ place + 0 = omega arith in e)
lines-append damage place (l ∷ ls) line =
    let long = length-append (elements_on Zero l) (flat_map (elements_on Zero) ls) in
    let e : (place + length (elements_on Zero l)) + length (flat_map (elements_on Zero) ls)
    ≡ place + length (flat_map (elements_on Zero) (l ∷ ls)) = omega (arith, long) in
    ap (λ m. damaged_line damage place l ∷ m)
    (lines-append damage (place + length (elements_on Zero l)) ls line
    ∙ ap (λ p. damaged_lines damage (place + length (elements_on Zero l)) ls
    ++ (damaged_line damage p line ∷ [])) e)

-- on channel 0 the elements of a damaged line are the damaged elements
pub line-elements : (damage : Damage) (place : ℕ) (line : Line)
    → elements_on Zero (damaged_line damage place line)
    ≡ damaged_elements damage place (elements_on Zero line)
line-elements damage place (moment n) = refl
line-elements damage place (elements None bits) = refl
line-elements damage place (elements (Some Zero) bits) = refl
line-elements damage place (elements (Some One) bits) = refl
line-elements damage place (elements (Some Two) bits) = refl
line-elements damage place (refuse_station mark letter) = refl
line-elements damage place (accept_station mark letter) = refl
line-elements damage place (refuse_subject mark letter) = refl
line-elements damage place (accept_subject mark letter) = refl

-- on another channel they are as they were
line-others : (damage : Damage) (place : ℕ) (line : Line) (channel : Channel) → channel ≢ Zero
    → elements_on channel (damaged_line damage place line) ≡ elements_on channel line
line-others damage place (moment n) channel other = refl
line-others damage place (elements None bits) Zero other = absurd (other refl)
line-others damage place (elements None bits) One other = refl
line-others damage place (elements None bits) Two other = refl
line-others damage place (elements (Some Zero) bits) Zero other = absurd (other refl)
line-others damage place (elements (Some Zero) bits) One other = refl
line-others damage place (elements (Some Zero) bits) Two other = refl
line-others damage place (elements (Some One) bits) channel other = refl
line-others damage place (elements (Some Two) bits) channel other = refl
line-others damage place (refuse_station mark letter) channel other = refl
line-others damage place (accept_station mark letter) channel other = refl
line-others damage place (refuse_subject mark letter) channel other = refl
line-others damage place (accept_subject mark letter) channel other = refl

-- a damaged line says what it said, but for its elements
line-kind : (damage : Damage) (place : ℕ) (line : Line)
    → kind_of (damaged_line damage place line) ≡ kind_of line
line-kind damage place (moment n) = refl
line-kind damage place (elements mark bits) = refl
line-kind damage place (refuse_station mark letter) = refl
line-kind damage place (accept_station mark letter) = refl
line-kind damage place (refuse_subject mark letter) = refl
line-kind damage place (accept_subject mark letter) = refl

on-twice : (channel : Channel) (damage : Damage) (place : ℕ) (bits : List Bool)
    → damaged_on channel damage place (damaged_on channel damage place bits) ≡ bits
on-twice Zero damage place bits = damaged-twice damage place bits
on-twice One damage place bits = refl
on-twice Two damage place bits = refl

pub length-on : (channel : Channel) (damage : Damage) (place : ℕ) (bits : List Bool)
    → length (damaged_on channel damage place bits) ≡ length bits
length-on Zero damage place bits = length-damaged damage place bits
length-on One damage place bits = refl
length-on Two damage place bits = refl

line-twice : (damage : Damage) (place : ℕ) (line : Line)
    → damaged_line damage place (damaged_line damage place line) ≡ line
line-twice damage place (moment n) = refl
line-twice damage place (elements mark bits) =
    ap (elements mark) (on-twice (channel_of mark) damage place bits)
line-twice damage place (refuse_station mark letter) = refl
line-twice damage place (accept_station mark letter) = refl
line-twice damage place (refuse_subject mark letter) = refl
line-twice damage place (accept_subject mark letter) = refl

-- the elements of damaged lines on channel 0 are the damaged elements of all lines there
pub lines-elements : (damage : Damage) (place : ℕ) (lines : List Line)
    → flat_map (elements_on Zero) (damaged_lines damage place lines)
    ≡ damaged_elements damage place (flat_map (elements_on Zero) lines)
lines-elements damage place [] = refl
lines-elements damage place (line ∷ lines) =
    ap (λ l. l ++ flat_map (elements_on Zero)
    (damaged_lines damage (place + length (elements_on Zero line)) lines))
    (line-elements damage place line)
    ∙ ap (λ l. damaged_elements damage place (elements_on Zero line) ++ l)
    (lines-elements damage (place + length (elements_on Zero line)) lines)
    ∙ sym (damaged-append damage place (elements_on Zero line) (flat_map (elements_on Zero) lines))

pub lines-twice : (damage : Damage) (place : ℕ) (lines : List Line)
    → damaged_lines damage place (damaged_lines damage place lines) ≡ lines
lines-twice damage place [] = refl
lines-twice damage place (line ∷ lines) =
    let here = line-twice damage place line in
    let same : place + length (elements_on Zero (damaged_line damage place line))
    ≡ place + length (elements_on Zero line) =
    ap (λ l. place + length l) (line-elements damage place line)
    ∙ ap (λ n. place + n) (length-damaged damage place (elements_on Zero line)) in
    let later = ap (λ p. damaged_lines damage p
    (damaged_lines damage (place + length (elements_on Zero line)) lines)) same
    ∙ lines-twice damage (place + length (elements_on Zero line)) lines in
    cc

-- those on another channel are as they were, and no line's name is changed
pub lines-others : (damage : Damage) (place : ℕ) (lines : List Line) (channel : Channel)
    → channel ≢ Zero
    → flat_map (elements_on channel) (damaged_lines damage place lines)
    ≡ flat_map (elements_on channel) lines
lines-others damage place [] channel other = refl
lines-others damage place (line ∷ lines) channel other =
    let after = place + length (elements_on Zero line) in
    ap (λ l. l ++ flat_map (elements_on channel) (damaged_lines damage after lines))
    (line-others damage place line channel other)
    ∙ ap (λ l. elements_on channel line ++ l) (lines-others damage after lines channel other)

pub lines-kinds : (damage : Damage) (place : ℕ) (lines : List Line)
    → map kind_of (damaged_lines damage place lines) ≡ map kind_of lines
lines-kinds damage place [] = refl
lines-kinds damage place (line ∷ lines) =
    let here = line-kind damage place line in
    let later = lines-kinds damage (place + length (elements_on Zero line)) lines in
    cc

-- ---- elements of which the first so many are damaged, and how many of these are inverted

pub front-all : (damage : Damage) (place i : ℕ) (bits : List Bool) → length bits ≤ i
    → front damage place i bits ≡ damaged_elements damage place bits
front-all damage place zero [] long = refl
front-all damage place zero (x ∷ xs) long = absurd (omega (arith, long))
front-all damage place (suc i) [] long = refl
front-all damage place (suc i) (x ∷ xs) long =
    ap (λ l. damaged_element damage place x ∷ l)
    (front-all damage (place + 1) i xs (omega (arith, long)))

pub front_count-all : (damage : Damage) (place i : ℕ) (bits : List Bool) → length bits ≤ i
    → front_count damage place i bits ≡ inverted_count damage place bits
front_count-all damage place zero [] long = refl
front_count-all damage place zero (x ∷ xs) long = absurd (omega (arith, long))
front_count-all damage place (suc i) [] long = refl
front_count-all damage place (suc i) (x ∷ xs) long =
    ap (λ n. value_of (inverts damage place) + n)
    (front_count-all damage (place + 1) i xs (omega (arith, long)))

pub length-front : (damage : Damage) (place i : ℕ) (bits : List Bool)
    → length (front damage place i bits) ≡ length bits
length-front damage place zero bits = refl
length-front damage place (suc i) [] = refl
length-front damage place (suc i) (x ∷ xs) = omega (arith, length-front damage (place + 1) i xs)

-- an element that isn't inverted changes nothing
pub front-quiet : (damage : Damage) (place i : ℕ) (bits : List Bool)
    → (i < length bits → inverts damage (place + i) ≡ false)
    → front damage place (suc i) bits ≡ front damage place i bits
front-quiet damage place zero [] h = refl
front-quiet damage place zero (x ∷ xs) h =
    let e : place + 0 ≡ place = omega arith in
    let quiet : inverts damage place ≡ false = sym (ap (inverts damage) e) ∙ h (omega arith) in
    ap (λ b. cond b (not x) x ∷ xs) quiet
front-quiet damage place (suc i) [] h = refl
front-quiet damage place (suc i) (x ∷ xs) h =
    let e : (place + 1) + i ≡ place + suc i = omega arith in
    ap (λ l. damaged_element damage place x ∷ l)
    (front-quiet damage (place + 1) i xs (λ lt. ap (inverts damage) e ∙ h (omega (arith, lt))))

pub front_count-quiet : (damage : Damage) (place i : ℕ) (bits : List Bool)
    → (i < length bits → inverts damage (place + i) ≡ false)
    → front_count damage place (suc i) bits ≡ front_count damage place i bits
front_count-quiet damage place zero [] h = refl
front_count-quiet damage place zero (x ∷ xs) h =
    let e : place + 0 ≡ place = omega arith in
    let quiet : inverts damage place ≡ false = sym (ap (inverts damage) e) ∙ h (omega arith) in
    ap (λ b. value_of b + 0) quiet
front_count-quiet damage place (suc i) [] h = refl
front_count-quiet damage place (suc i) (x ∷ xs) h =
    let e : (place + 1) + i ≡ place + suc i = omega arith in
    ap (λ n. value_of (inverts damage place) + n)
    (front_count-quiet damage (place + 1) i xs
    (λ lt. ap (inverts damage) e ∙ h (omega (arith, lt))))

-- one that is inverted changes the element at its place, and counts one
pub front-inverted : (damage : Damage) (place i : ℕ) (bits : List Bool) → i < length bits
    → inverts damage (place + i) ≡ true
    → front damage place (suc i) bits
    ≡ set (front damage place i bits) i (not (get_or (front damage place i bits) i false))
front-inverted damage place zero [] lt h = absurd (omega (arith, lt))
front-inverted damage place zero (x ∷ xs) lt h =
    let e : place + 0 ≡ place = omega arith in
    let loud : inverts damage place ≡ true = sym (ap (inverts damage) e) ∙ h in
    ap (λ b. cond b (not x) x ∷ xs) loud
front-inverted damage place (suc i) [] lt h = absurd (omega (arith, lt))
front-inverted damage place (suc i) (x ∷ xs) lt h =
    let e : (place + 1) + i ≡ place + suc i = omega arith in
    ap (λ l. damaged_element damage place x ∷ l)
    (front-inverted damage (place + 1) i xs (omega (arith, lt)) (ap (inverts damage) e ∙ h))

pub front_count-inverted : (damage : Damage) (place i : ℕ) (bits : List Bool) → i < length bits
    → inverts damage (place + i) ≡ true
    → front_count damage place (suc i) bits ≡ front_count damage place i bits + 1
front_count-inverted damage place zero [] lt h = absurd (omega (arith, lt))
front_count-inverted damage place zero (x ∷ xs) lt h =
    let e : place + 0 ≡ place = omega arith in
    let loud : inverts damage place ≡ true = sym (ap (inverts damage) e) ∙ h in
    ap (λ b. value_of b + 0) loud
front_count-inverted damage place (suc i) [] lt h = absurd (omega (arith, lt))
front_count-inverted damage place (suc i) (x ∷ xs) lt h =
    let e : (place + 1) + i ≡ place + suc i = omega arith in
    let later = front_count-inverted damage (place + 1) i xs (omega (arith, lt))
    (ap (inverts damage) e ∙ h) in
    omega (arith, later)

-- inverting nothing is the identity
pub front-same : (damage : Damage) (place i n : ℕ) (bits : List Bool)
    → ((k : ℕ) → i ≤ k → k < i + n → k < length bits → inverts damage (place + k) ≡ false)
    → front damage place (i + n) bits ≡ front damage place i bits
front-same damage place i zero bits h =
    ap (λ k. front damage place k bits) (let e : i + 0 ≡ i = omega arith in e)
front-same damage place i (suc n) bits h =
    let e : i + suc n ≡ suc (i + n) = omega arith in
    ap (λ k. front damage place k bits) e
    ∙ front-quiet damage place (i + n) bits (λ lt. h (i + n) (omega arith) (omega arith) lt)
    ∙ front-same damage place i n bits (λ k from to lt. h k from (omega (arith, to)) lt)

pub front_count-same : (damage : Damage) (place i n : ℕ) (bits : List Bool)
    → ((k : ℕ) → i ≤ k → k < i + n → k < length bits → inverts damage (place + k) ≡ false)
    → front_count damage place (i + n) bits ≡ front_count damage place i bits
front_count-same damage place i zero bits h =
    ap (λ k. front_count damage place k bits) (let e : i + 0 ≡ i = omega arith in e)
front_count-same damage place i (suc n) bits h =
    let e : i + suc n ≡ suc (i + n) = omega arith in
    ap (λ k. front_count damage place k bits) e
    ∙ front_count-quiet damage place (i + n) bits
    (λ lt. h (i + n) (omega arith) (omega arith) lt)
    ∙ front_count-same damage place i n bits (λ k from to lt. h k from (omega (arith, to)) lt)
