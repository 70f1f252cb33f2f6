-- Laws of lines and of files of lines: one spelling for each line, one reading of each file, one
-- outcome.
use Rattle.std.proofs.Common.{◌≡◌, ◌≢◌, ℕ, suc, ◌<◌, ◌≤◌, Bool, true, false, List, [], ◌∷◌, ◌++◌}
use Rattle.std.proofs.Common.{length, map, drop, get_or, if◌then◌else◌, nat_eq, refl, sym, ap, ◌∙◌}
use Rattle.std.proofs.Common.{subst, inl, inr, append_assoc, append-nil, arith, ◌⊎◌, ◌+◌, Option}
use Rattle.std.proofs.Common.{Some, None}
use Rattle.std.specs.List.{flat_map, AllByRecursion}
use Rattle.std.specs.Fmt.{decimal}
use Rattle.std.specs.Str.Parse.{digits_value}
use Rattle.std.proofs.lemmas.Fmt.{decimal_is_IsNumeral, length-decimal-le}
use Rattle.std.proofs.lemmas.List.{length-append, length-map, same_from_push}
use Rattle.std.proofs.lemmas.List.Concat.{flat_map-append}
use Rattle.nx_fec.proofs.lemmas.packed.Digits.{AreDigits, decimal-digits}
use Rattle.nx_fec.specs.air_files.AirFile.{Line, moment, elements, refuse_station, accept_station}
use Rattle.nx_fec.specs.air_files.AirFile.{refuse_subject, accept_subject, element_digit, mark_bytes}
use Rattle.nx_fec.specs.air_files.AirFile.{with_mark, spelling, IsLine}
use Rattle.nx_fec.specs.air_files.Lines.{IsAtByte, line_bytes, file_of, IsBeginning, Splits, IsCause}
use Rattle.nx_fec.specs.air_files.Lines.{HasFault, IsAirFile, IsBitFile, elements_on}
use Rattle.nx_code.specs.Reading.{IsCapital, newline}
use Rattle.nx_code.proofs.lemmas.Each.{each_left}
use Rattle.nx_fec.specs.declared.air_files.channel.Channel.{Channel}
use Rattle.nx_fec.specs.declared.air_files.channel.Channel.TheVariants.{Zero, One, Two}
use Rattle.nx_fec.specs.declared.fault.LineFault.{LineFault}
use Rattle.nx_fec.specs.declared.fault.LineFault.TheVariants.{TooLong, LineLong, LineCut, BadLine}

-- ---- one spelling for each line

-- the channel that the bytes behind a word name, and what follows it and a space
abbrev pub mark_read : List ℕ → Option Channel
mark_read bytes =
    if nat_eq (get_or bytes 0 0) 32 then None
    else (if nat_eq (get_or bytes 0 0) 48 then Some Zero
    else (if nat_eq (get_or bytes 0 0) 49 then Some One else Some Two))

abbrev pub behind : List ℕ → List ℕ
behind bytes = if nat_eq (get_or bytes 0 0) 32 then drop 1 bytes else drop 2 bytes

marked-read : (line : Option Channel → List ℕ → Line) (mark : Option Channel) (rest : List ℕ)
    → line (mark_read (with_mark [] mark rest)) (behind (with_mark [] mark rest)) ≡ line mark rest
marked-read line None rest = refl
marked-read line (Some Zero) rest = refl
marked-read line (Some One) rest = refl
marked-read line (Some Two) rest = refl

abbrev pub command_read : ℕ → ℕ → Option Channel → ℕ → Line
command_read first second mark letter =
    if nat_eq second 83 then
    (if nat_eq first 82 then refuse_station mark letter else accept_station mark letter)
    else (if nat_eq first 82 then refuse_subject mark letter else accept_subject mark letter)

-- what bytes say, if they spell a line
abbrev pub line_read : List ℕ → Line
line_read bytes =
    if nat_eq (get_or bytes 0 0) 84 then moment (digits_value 10 (drop 2 bytes))
    else (if nat_eq (get_or bytes 0 0) 66 then elements (mark_read (drop 1 bytes))
    (map (λ d. nat_eq d 49) (behind (drop 1 bytes)))
    else command_read (get_or bytes 0 0) (get_or bytes 1 0) (mark_read (drop 2 bytes))
    (get_or (behind (drop 2 bytes)) 0 0))

elements-read : (bits : List Bool) → map (λ d. nat_eq d 49) (map element_digit bits) ≡ bits
elements-read [] = refl
elements-read (true ∷ bits) = ap (λ l. true ∷ l) (elements-read bits)
elements-read (false ∷ bits) = ap (λ l. false ∷ l) (elements-read bits)

-- a line is read back from its spelling
pub line_read-spelling : (line : Line) → IsLine line → line_read (spelling line) ≡ line
line_read-spelling (moment n) h = ap moment (decimal_is_IsNumeral n (omega arith)).1
line_read-spelling (elements mark bits) h =
    marked-read (λ m l. elements m (map (λ d. nat_eq d 49) l)) mark (map element_digit bits)
    ∙ ap (elements mark) (elements-read bits)
line_read-spelling (refuse_station mark letter) h =
    marked-read (λ m l. refuse_station m (get_or l 0 0)) mark (letter ∷ [])
line_read-spelling (accept_station mark letter) h =
    marked-read (λ m l. accept_station m (get_or l 0 0)) mark (letter ∷ [])
line_read-spelling (refuse_subject mark letter) h =
    marked-read (λ m l. refuse_subject m (get_or l 0 0)) mark (letter ∷ [])
line_read-spelling (accept_subject mark letter) h =
    marked-read (λ m l. accept_subject m (get_or l 0 0)) mark (letter ∷ [])

pub spelling-injective : (a b : Line) → IsLine a → IsLine b → spelling a ≡ spelling b → a ≡ b
spelling-injective a b h k e =
    sym (line_read-spelling a h) ∙ ap line_read e ∙ line_read-spelling b k

-- ---- a line holds no line feed, and is short

abbrev pub NoFeed : List ℕ → Type 0
NoFeed bytes = AllByRecursion (λ byte. byte ≢ newline) bytes

digits-no_feed : (ds : List ℕ) → AreDigits ds → NoFeed ds
digits-no_feed [] h = tt
digits-no_feed (d ∷ ds) h = (
  (λ e. absurd (omega (arith, h 0 (omega arith)))),
  digits-no_feed ds
      (λ i below. h (suc i) (omega arith)),
)

elements-no_feed : (bits : List Bool) → NoFeed (map element_digit bits)
elements-no_feed [] = tt
elements-no_feed (true ∷ bits) = ((λ e. absurd (omega arith)), elements-no_feed bits)
elements-no_feed (false ∷ bits) = ((λ e. absurd (omega arith)), elements-no_feed bits)

marked-no_feed : (mark : Option Channel) (rest : List ℕ) → NoFeed rest
    → NoFeed (with_mark [] mark rest)
marked-no_feed None rest h = ((λ e. absurd (omega arith)), h)
marked-no_feed (Some channel) rest h =
    ((λ e. absurd (omega arith)), ((λ e. absurd (omega arith)), h))

-- a line that names its channel has one byte more
pub mark-short : (mark : Option Channel) → length (mark_bytes mark) ≤ 1
mark-short None = omega arith
mark-short (Some channel) = omega arith

marked-length : (mark : Option Channel) (rest : List ℕ)
    → length (with_mark [] mark rest) ≡ length (mark_bytes mark) + suc (length rest)
marked-length mark rest = length-append (mark_bytes mark) (32 ∷ rest)

command-IsBeginning : (first second letter : ℕ) (mark : Option Channel) → first ≢ 10 → second ≢ 10
    → IsCapital letter → IsBeginning (first ∷ second ∷ with_mark [] mark (letter ∷ []))
command-IsBeginning first second letter mark f s h = record {
  none =
      (f, (s, marked-no_feed mark (letter ∷ []) ((λ e. absurd (omega (arith, e, h.0))), tt)));
  short = omega (arith, marked-length mark (letter ∷ []), mark-short mark);
}

pub spelling-IsBeginning : (line : Line) → IsLine line → IsBeginning (spelling line)
spelling-IsBeginning (moment n) h =
    let few : length (decimal n) ≤ 11 = length-decimal-le 11 n (omega arith) h (omega arith) in
    record {
      none = (
        (λ e. absurd (omega arith)),
        ((λ e. absurd (omega arith)), digits-no_feed (decimal n) (decimal-digits n (omega arith))),
      );
      short = omega arith;
    }
spelling-IsBeginning (elements mark bits) h =
    let digits = map element_digit bits in
    record {
      none = ((λ e. absurd (omega arith)), marked-no_feed mark digits (elements-no_feed bits));
      short = omega (
        arith,
        marked-length mark digits,
        length-map bits element_digit,
        h.1,
        mark-short mark,
      );
    }
spelling-IsBeginning (refuse_station mark letter) h =
    command-IsBeginning 82 83 letter mark (λ e. absurd (omega arith)) (λ e. absurd (omega arith)) h
spelling-IsBeginning (accept_station mark letter) h =
    command-IsBeginning 65 83 letter mark (λ e. absurd (omega arith)) (λ e. absurd (omega arith)) h
spelling-IsBeginning (refuse_subject mark letter) h =
    command-IsBeginning 82 74 letter mark (λ e. absurd (omega arith)) (λ e. absurd (omega arith)) h
spelling-IsBeginning (accept_subject mark letter) h =
    command-IsBeginning 65 74 letter mark (λ e. absurd (omega arith)) (λ e. absurd (omega arith)) h

-- ---- one reading of each file

pub no_feed-not : (p q : List ℕ) → NoFeed (p ++ (10 ∷ q)) → ⊥
no_feed-not [] q h = h.0 refl
no_feed-not (x ∷ p) q h = no_feed-not p q h.1

no_feed-last : (p : List ℕ) (x : ℕ) → NoFeed (p ++ (x ∷ [])) → x ≢ 10
no_feed-last [] x h = h.0
no_feed-last (y ∷ p) x h = no_feed-last p x h.1

pub first_feed : (p q x y : List ℕ) → NoFeed p → NoFeed q → p ++ (10 ∷ x) ≡ q ++ (10 ∷ y)
    → (p ≡ q) × (x ≡ y)
first_feed [] [] x y h k e = (refl, cc)
first_feed [] (b ∷ q) x y h k e = let same : b ≡ 10 = cc in absurd (k.0 same)
first_feed (a ∷ p) [] x y h k e = let same : a ≡ 10 = cc in absurd (h.0 same)
first_feed (a ∷ p) (b ∷ q) x y h k e =
    let tails : p ++ (10 ∷ x) ≡ q ++ (10 ∷ y) = cc in
    let heads : a ≡ b = cc in
    let r = first_feed p q x y h.1 k.1 tails in
    (cc (r.0, heads), r.1)

pub regroup : (a : Line) (lines : List Line) (rest : List ℕ)
    → file_of (a ∷ lines) ++ rest ≡ spelling a ++ (10 ∷ (file_of lines ++ rest))
regroup a lines rest = append_assoc (line_bytes a) (file_of lines) rest
    ∙ append_assoc (spelling a) (10 ∷ []) (file_of lines ++ rest)

pub reading-unique : (l1 l2 : List Line) (r1 r2 : List ℕ) → AllByRecursion IsLine l1
    → AllByRecursion IsLine l2 → IsBeginning r1 → IsBeginning r2
    → file_of l1 ++ r1 ≡ file_of l2 ++ r2 → (l1 ≡ l2) × (r1 ≡ r2)
reading-unique [] [] r1 r2 g1 g2 b1 b2 e = (refl, e)
reading-unique [] (b ∷ l2) r1 r2 g1 g2 b1 b2 e =
    absurd (no_feed-not (spelling b) (file_of l2 ++ r2)
    (subst NoFeed (e ∙ regroup b l2 r2) b1.none))
reading-unique (a ∷ l1) [] r1 r2 g1 g2 b1 b2 e =
    absurd (no_feed-not (spelling a) (file_of l1 ++ r1)
    (subst NoFeed (sym e ∙ regroup a l1 r1) b2.none))
reading-unique (a ∷ l1) (b ∷ l2) r1 r2 g1 g2 b1 b2 e =
    let parts = first_feed (spelling a) (spelling b) (file_of l1 ++ r1) (file_of l2 ++ r2)
    (spelling-IsBeginning a g1.0).none (spelling-IsBeginning b g2.0).none
    (sym (regroup a l1 r1) ∙ e ∙ regroup b l2 r2) in
    let heads : a ≡ b = spelling-injective a b g1.0 g2.0 parts.0 in
    let r = reading-unique l1 l2 r1 r2 g1.1 g2.1 b1 b2 parts.1 in
    (cc (r.0, heads), r.1)

pub Splits-unique : (bytes : List ℕ) (l1 l2 : List Line) (r1 r2 : List ℕ) → Splits bytes l1 r1
    → Splits bytes l2 r2 → (l1 ≡ l2) × (r1 ≡ r2)
Splits-unique bytes l1 l2 r1 r2 h k =
    reading-unique l1 l2 r1 r2 h.each k.each h.part k.part (sym h.whole ∙ k.whole)

-- ---- the beginnings of a file are beginnings of files

-- of two fronts of one list, one is a front of the other
pub split : (p x q y : List ℕ) → p ++ x ≡ q ++ y
    → ((t : List ℕ) × (q ≡ p ++ t) × (x ≡ t ++ y)) ⊎ ((t : List ℕ) × (p ≡ q ++ t) × (y ≡ t ++ x))
split [] x q y e = inl (q, refl, e)
split (a ∷ p) x [] y e = inr ((a ∷ p), refl, sym e)
split (a ∷ p) x (b ∷ q) y e =
    let heads : a ≡ b = cc in
    let tails : p ++ x ≡ q ++ y = cc in
    elim (split p x q y tails) [
      | inl s ↦ inl (s.0, (cc (heads, s.1)), s.2)
      | inr s ↦ inr (s.0, (cc (heads, s.1)), s.2)
    ]

IsBeginning-front : (p q : List ℕ) → IsBeginning (p ++ q) → IsBeginning p
IsBeginning-front p q h =
    record {
      none = each_left (λ byte. byte ≢ 10) p q h.none;
      short = omega (arith, h.short, length-append p q);
    }

-- a beginning of a file, read as lines
record Begins (front : List ℕ) : Type 0 where
  lines : List Line
  rest : List ℕ
  splits : Splits front lines rest

-- a front that reaches past the first line
Begins-past : (a : Line) (lines : List Line) (rest front more : List ℕ) → IsLine a
    → ((t : List ℕ) → t ++ more ≡ file_of lines ++ rest → Begins t)
    → (t : List ℕ) → front ≡ spelling a ++ t → 10 ∷ (file_of lines ++ rest) ≡ t ++ more
    → Begins front
Begins-past a lines rest front more good later [] is e = record {
  lines = [];
  rest = front;
  splits = record {
    whole = refl;
    each = tt;
    part =
        subst IsBeginning (sym (is ∙ append-nil (spelling a))) (spelling-IsBeginning a good);
  };
}
Begins-past a lines rest front more good later (b ∷ t) is e =
    let head : b ≡ 10 = cc in
    let tail : t ++ more ≡ file_of lines ++ rest = cc in
    let r = later t tail in
    record {
      lines = a ∷ r.lines;
      rest = r.rest;
      splits = record {
        whole = is ∙ ap (λ x. spelling a ++ (x ∷ t)) head
            ∙ ap (λ l. spelling a ++ (10 ∷ l)) r.splits.whole ∙ sym (regroup a r.lines r.rest);
        each = (good, r.splits.each);
        part = r.splits.part;
      };
    }

Begins-in : (lines : List Line) (rest front more : List ℕ) → AllByRecursion IsLine lines
    → IsBeginning rest → front ++ more ≡ file_of lines ++ rest → Begins front
Begins-in [] rest front more good part e = record {
  lines = [];
  rest = front;
  splits = record {
    whole = refl;
    each = tt;
    part =
        IsBeginning-front front more (subst IsBeginning (sym e) part);
  };
}
Begins-in (a ∷ lines) rest front more good part e =
    elim (split front more (spelling a) (10 ∷ (file_of lines ++ rest)) (e ∙ regroup a lines rest)) [
      | inl s ↦ record {
        lines = [];
        rest = front;
        splits = record {
          whole = refl;
          each = tt;
          part =
              IsBeginning-front front s.0 (subst IsBeginning s.1 (spelling-IsBeginning a good.0));
        };
      }
      | inr s ↦ Begins-past a lines rest front more good.0
          (λ t k. Begins-in lines rest t more good.1 part k) s.0 s.1 s.2
    ]

-- ---- one outcome for each file

-- a list with a last element
record EndsWith {X : Type 0} (xs : List X) : Type 0 where
  front : List X
  last : X
  whole : xs ≡ front ++ (last ∷ [])

ends-more : {X : Type 0} (x : X) (xs : List X) → (xs ≡ []) ⊎ EndsWith xs → EndsWith (x ∷ xs)
ends-more x xs (inl e) = record { front = []; last = x; whole = ap (λ l. x ∷ l) e }
ends-more x xs (inr h) = record
    { front = x ∷ h.front; last = h.last; whole = ap (λ l. x ∷ l) h.whole }

ends : {X : Type 0} (xs : List X) → (xs ≡ []) ⊎ EndsWith xs
ends [] = inl refl
ends (x ∷ xs) = inr (ends-more x xs (ends xs))

All-last : (lines : List Line) (line : Line) → AllByRecursion IsLine (lines ++ (line ∷ []))
    → AllByRecursion IsLine lines × IsLine line
All-last [] line h = (tt, h.0)
All-last (a ∷ lines) line h = let r = All-last lines line h.1 in ((h.0, r.0), r.1)

file_of-last : (lines : List Line) (line : Line)
    → file_of (lines ++ (line ∷ [])) ≡ (file_of lines ++ spelling line) ++ (10 ∷ [])
file_of-last lines line =
    flat_map-append line_bytes lines (line ∷ [])
    ∙ ap (λ l. file_of lines ++ l) (append-nil (line_bytes line))
    ∙ sym (append_assoc (file_of lines) (spelling line) (10 ∷ []))

-- one more byte after lines and an open line: it goes on with that line, or ends it
record Goes (rest : List ℕ) (byte : ℕ) : Type 0 where
  other : byte ≢ 10
  room : length rest < 514

record Closes (rest : List ℕ) (byte : ℕ) : Type 0 where
  feed : byte ≡ 10
  line : Line
  good : IsLine line
  spelled : rest ≡ spelling line

goes : (lines ls : List Line) (rest r : List ℕ) (byte : ℕ) → AllByRecursion IsLine lines
    → IsBeginning rest → AllByRecursion IsLine ls → IsBeginning r
    → (file_of lines ++ rest) ++ (byte ∷ []) ≡ file_of ls ++ r → EndsWith r → Goes rest byte
goes lines ls rest r byte good part each begun e k =
    let begun-k : IsBeginning (k.front ++ (k.last ∷ [])) = subst IsBeginning k.whole begun in
    let same = same_from_push (file_of lines ++ rest) (file_of ls ++ k.front) byte k.last
    (e ∙ ap (λ l. file_of ls ++ l) k.whole
    ∙ sym (append_assoc (file_of ls) k.front (k.last ∷ []))) in
    let u = reading-unique lines ls rest k.front good each part
    (IsBeginning-front k.front (k.last ∷ []) begun-k) same.0 in
    record {
      other = λ x. no_feed-last k.front k.last begun-k.none (sym same.1 ∙ x);
      room = omega (arith, begun-k.short, length-append k.front (k.last ∷ []), ap length u.1);
    }

closes : (lines ls : List Line) (rest : List ℕ) (byte : ℕ) → AllByRecursion IsLine lines
    → IsBeginning rest → AllByRecursion IsLine ls
    → (file_of lines ++ rest) ++ (byte ∷ []) ≡ file_of ls → EndsWith ls → Closes rest byte
closes lines ls rest byte good part each e k =
    let all = All-last k.front k.last (subst (AllByRecursion IsLine) k.whole each) in
    let same = same_from_push (file_of lines ++ rest) (file_of k.front ++ spelling k.last) byte 10
    (e ∙ ap file_of k.whole ∙ file_of-last k.front k.last) in
    let u = reading-unique lines k.front rest (spelling k.last) good all.0 part
    (spelling-IsBeginning k.last all.1) same.0 in
    record { feed = same.1; line = k.last; good = all.1; spelled = u.1 }

no_byte : (xs : List ℕ) (byte : ℕ) → xs ++ (byte ∷ []) ≡ [] → ⊥
no_byte [] byte e = cc
no_byte (x ∷ xs) byte e = cc

step : (lines ls : List Line) (rest r : List ℕ) (byte : ℕ) → AllByRecursion IsLine lines
    → IsBeginning rest → AllByRecursion IsLine ls → IsBeginning r
    → (file_of lines ++ rest) ++ (byte ∷ []) ≡ file_of ls ++ r → Goes rest byte ⊎ Closes rest byte
step lines ls rest r byte good part each begun e =
    elim (ends r) [
      | inr k ↦ inl (goes lines ls rest r byte good part each begun e k)
      | inl none ↦
          let whole : (file_of lines ++ rest) ++ (byte ∷ []) ≡ file_of ls =
          e ∙ ap (λ l. file_of ls ++ l) none ∙ append-nil (file_of ls) in
          elim (ends ls) [
            | inr k ↦ inr (closes lines ls rest byte good part each whole k)
            | inl empty ↦ absurd (no_byte (file_of lines ++ rest) byte (whole ∙ ap file_of empty))
          ]
    ]

-- what a byte that goes on or ends a line rules out
IsCause-goes : (limit front : ℕ) (lines : List Line) (rest : List ℕ) (byte : ℕ) (more : List ℕ)
    (why : LineFault) → front < limit
    → Goes rest byte ⊎ Closes rest byte → IsCause limit front lines rest (byte ∷ more) why → ⊥
IsCause-goes limit front lines rest byte more TooLong below s h = absurd (omega (arith, h))
IsCause-goes limit front lines rest byte more (LineLong line) below (inl s) h =
    absurd (omega (arith, s.room, h.2))
IsCause-goes limit front lines rest byte more (LineLong line) below (inr s) h = h.1 s.feed
IsCause-goes limit front lines rest byte more (LineCut line) below s h = h
IsCause-goes limit front lines rest byte more (BadLine line) below (inl s) h = s.other h.1
IsCause-goes limit front lines rest byte more (BadLine line) below (inr s) h =
    h.2 s.line s.good s.spelled

IsCause-within : (limit front : ℕ) (lines : List Line) (rest more : List ℕ) (why : LineFault)
    → IsCause limit front lines rest more why → front ≤ limit
IsCause-within limit front lines rest [] TooLong h = absurd h
IsCause-within limit front lines rest [] (LineLong line) h = absurd h
IsCause-within limit front lines rest [] (LineCut line) h = h.0
IsCause-within limit front lines rest [] (BadLine line) h = absurd h
IsCause-within limit front lines rest (byte ∷ more) TooLong h = omega (arith, h)
IsCause-within limit front lines rest (byte ∷ more) (LineLong line) h = omega (arith, h.0)
IsCause-within limit front lines rest (byte ∷ more) (LineCut line) h = absurd h
IsCause-within limit front lines rest (byte ∷ more) (BadLine line) h = omega (arith, h.0)

-- a fault doesn't stand before the end of a longer beginning
HasFault-last : (limit : ℕ) (lines ls : List Line) (rest r t more : List ℕ) (why : LineFault)
    → AllByRecursion IsLine lines → IsBeginning rest
    → AllByRecursion IsLine ls → IsBeginning r → length (file_of ls ++ r) ≤ limit
    → file_of ls ++ r ≡ (file_of lines ++ rest) ++ t
    → IsCause limit (length (file_of lines ++ rest)) lines rest (t ++ more) why → t ≡ []
HasFault-last limit lines ls rest r [] more why good part each begun within e h = refl
HasFault-last limit lines ls rest r (byte ∷ t) more why good part each begun within e h =
    let front = file_of lines ++ rest in
    let next : (front ++ (byte ∷ [])) ++ t ≡ file_of ls ++ r =
    append_assoc front (byte ∷ []) t ∙ sym e in
    let b = Begins-in ls r (front ++ (byte ∷ [])) t each begun next in
    absurd (IsCause-goes limit (length front) lines rest byte (t ++ more) why
    (omega (arith, within, ap length e, length-append front (byte ∷ t)))
    (step lines b.lines rest b.rest byte good part b.splits.each b.splits.part b.splits.whole) h)

-- one place has one fault
IsCause-unique : (limit front : ℕ) (lines : List Line) (rest more : List ℕ) (v w : LineFault)
    → IsCause limit front lines rest more v → IsCause limit front lines rest more w → v ≡ w
IsCause-unique limit front lines rest [] TooLong w h k = absurd h
IsCause-unique limit front lines rest [] (LineLong n) w h k = absurd h
IsCause-unique limit front lines rest [] (BadLine n) w h k = absurd h
IsCause-unique limit front lines rest [] (LineCut n) TooLong h k = absurd k
IsCause-unique limit front lines rest [] (LineCut n) (LineLong m) h k = absurd k
IsCause-unique limit front lines rest [] (LineCut n) (BadLine m) h k = absurd k
IsCause-unique limit front lines rest [] (LineCut n) (LineCut m) h k = ap LineCut (h.2 ∙ sym k.2)
IsCause-unique limit front lines rest (byte ∷ more) TooLong TooLong h k = refl
IsCause-unique limit front lines rest (byte ∷ more) TooLong (LineLong m) h k =
    absurd (omega (arith, h, k.0))
IsCause-unique limit front lines rest (byte ∷ more) TooLong (LineCut m) h k = absurd k
IsCause-unique limit front lines rest (byte ∷ more) TooLong (BadLine m) h k =
    absurd (omega (arith, h, k.0))
IsCause-unique limit front lines rest (byte ∷ more) (LineLong n) TooLong h k =
    absurd (omega (arith, k, h.0))
IsCause-unique limit front lines rest (byte ∷ more) (LineLong n) (LineLong m) h k =
    ap LineLong (h.3 ∙ sym k.3)
IsCause-unique limit front lines rest (byte ∷ more) (LineLong n) (LineCut m) h k = absurd k
IsCause-unique limit front lines rest (byte ∷ more) (LineLong n) (BadLine m) h k = absurd (h.1 k.1)
IsCause-unique limit front lines rest (byte ∷ more) (LineCut n) w h k = absurd h
IsCause-unique limit front lines rest (byte ∷ more) (BadLine n) TooLong h k =
    absurd (omega (arith, k, h.0))
IsCause-unique limit front lines rest (byte ∷ more) (BadLine n) (LineLong m) h k = absurd (k.1 h.1)
IsCause-unique limit front lines rest (byte ∷ more) (BadLine n) (LineCut m) h k = absurd k
IsCause-unique limit front lines rest (byte ∷ more) (BadLine n) (BadLine m) h k =
    ap BadLine (h.3 ∙ sym k.3)

pair : (a b : List Line) (x y : List ℕ) → a ≡ b → x ≡ y → ◌≡◌ {A = List Line × List ℕ} (a, x) (b, y)
pair a b x y p q = cc

-- two faults at one front
HasFault-same : (limit : ℕ) (bytes t : List ℕ) (v w : LineFault) (h : HasFault limit bytes v)
    (k : HasFault limit bytes w)
    → file_of k.lines ++ k.rest ≡ (file_of h.lines ++ h.rest) ++ t → h.more ≡ t ++ k.more → v ≡ w
HasFault-same limit bytes t v w h k e m =
    let within : length (file_of k.lines ++ k.rest) ≤ limit =
    IsCause-within limit _ k.lines k.rest k.more w k.here in
    let cause : IsCause limit (length (file_of h.lines ++ h.rest)) h.lines h.rest (t ++ k.more) v =
    subst (λ l. IsCause limit (length (file_of h.lines ++ h.rest)) h.lines h.rest l v) m h.here in
    let nothing : t ≡ [] = HasFault-last limit h.lines k.lines h.rest k.rest t k.more v h.each
    h.part k.each k.part within e cause in
    let front : file_of k.lines ++ k.rest ≡ file_of h.lines ++ h.rest =
    e ∙ ap (λ l. (file_of h.lines ++ h.rest) ++ l) nothing
    ∙ append-nil (file_of h.lines ++ h.rest) in
    let u = reading-unique h.lines k.lines h.rest k.rest h.each k.each h.part k.part (sym front) in
    let here : IsCause limit (length (file_of h.lines ++ h.rest)) h.lines h.rest k.more v =
    subst (λ l. IsCause limit (length (file_of h.lines ++ h.rest)) h.lines h.rest (l ++ k.more) v)
    nothing cause in
    let there : IsCause limit (length (file_of h.lines ++ h.rest)) h.lines h.rest k.more w =
    subst (λ (p : List Line × List ℕ). IsCause limit (length (file_of p.0 ++ p.1)) p.0 p.1 k.more w)
    (pair k.lines h.lines k.rest h.rest (sym u.0) (sym u.1)) k.here in
    IsCause-unique limit (length (file_of h.lines ++ h.rest)) h.lines h.rest k.more v w here there

pub HasFault-unique : (limit : ℕ) (bytes : List ℕ) (v w : LineFault) → HasFault limit bytes v
    → HasFault limit bytes w → v ≡ w
HasFault-unique limit bytes v w h k =
    elim (split (file_of h.lines ++ h.rest) h.more (file_of k.lines ++ k.rest) k.more
    (sym h.whole ∙ k.whole)) [
      | inl s ↦ HasFault-same limit bytes s.0 v w h k s.1 s.2
      | inr s ↦ sym (HasFault-same limit bytes s.0 w v k h s.1 s.2)
    ]

-- no fault at a byte stands at the end
IsCause-at_end : (limit front : ℕ) (lines : List Line) (rest more : List ℕ) (why : LineFault)
    → IsAtByte why → more ≡ [] → IsCause limit front lines rest more why → ⊥
IsCause-at_end limit front lines rest [] TooLong at e h = h
IsCause-at_end limit front lines rest [] (LineLong n) at e h = h
IsCause-at_end limit front lines rest [] (LineCut n) at e h = at
IsCause-at_end limit front lines rest [] (BadLine n) at e h = h
IsCause-at_end limit front lines rest (b ∷ more) why at e h = cc

-- a good beginning has no fault at a byte
pub Splits-good : (limit : ℕ) (front : List ℕ) (lines : List Line) (rest : List ℕ) (why : LineFault)
    → Splits front lines rest → length front ≤ limit → IsAtByte why
    → HasFault limit front why → ⊥
Splits-good limit front lines rest why s within at h =
    let cause : IsCause limit (length (file_of h.lines ++ h.rest)) h.lines h.rest (h.more ++ [])
    why =
    subst (λ l. IsCause limit (length (file_of h.lines ++ h.rest)) h.lines h.rest l why)
    (sym (append-nil h.more)) h.here in
    let nothing : h.more ≡ [] =
    HasFault-last limit h.lines lines h.rest rest h.more [] why h.each h.part s.each s.part
    (subst (λ l. length l ≤ limit) s.whole within) (sym s.whole ∙ h.whole) cause in
    IsCause-at_end limit (length (file_of h.lines ++ h.rest)) h.lines h.rest h.more why at nothing
    h.here

-- a good file has no fault
HasFault-past : (limit : ℕ) (lines : List Line) (rest ms : List ℕ) (why : LineFault) → ms ≡ []
    → rest ≡ [] → IsCause limit (length (file_of lines ++ rest)) lines rest ms why → ⊥
HasFault-past limit lines rest [] TooLong e none h = h
HasFault-past limit lines rest [] (LineLong n) e none h = h
HasFault-past limit lines rest [] (LineCut n) e none h = absurd (omega (arith, h.1, ap length none))
HasFault-past limit lines rest [] (BadLine n) e none h = h
HasFault-past limit lines rest (b ∷ ms) why e none h = cc

nil-parts : (t m : List ℕ) → [] ≡ t ++ m → (t ≡ []) × (m ≡ [])
nil-parts [] m e = (refl, sym e)
nil-parts (x ∷ t) m e = cc

pub IsAirFile-good : (limit : ℕ) (bytes : List ℕ) (lines : List Line) (why : LineFault)
    → IsAirFile limit bytes lines → HasFault limit bytes why → ⊥
IsAirFile-good limit bytes lines why h k =
    let nothing : IsBeginning [] = record { none = tt; short = omega arith } in
    let whole : file_of lines ++ [] ≡ bytes = append-nil (file_of lines) ∙ sym h.whole in
    let within : length (file_of lines ++ []) ≤ limit = omega (arith, h.within, ap length whole) in
    let front = file_of k.lines ++ k.rest in
    let here : (ms : List ℕ) → k.more ≡ ms → front ≡ file_of lines ++ [] → ms ≡ [] → ⊥ =
    λ ms e same none.
    let u = reading-unique k.lines lines k.rest [] k.each h.each k.part nothing same in
    HasFault-past limit k.lines k.rest k.more why (e ∙ none) u.1 k.here in
    elim (split front k.more (file_of lines ++ []) []
    (sym k.whole ∙ sym whole ∙ sym (append-nil (file_of lines ++ [])))) [
      | inl s ↦
          let cause : IsCause limit (length front) k.lines k.rest (s.0 ++ []) why =
          subst (λ l. IsCause limit (length front) k.lines k.rest l why) s.2 k.here in
          let none : s.0 ≡ [] = HasFault-last limit k.lines lines k.rest [] s.0 [] why k.each k.part
          h.each nothing within s.1 cause in
          here k.more refl (sym (s.1 ∙ ap (λ l. front ++ l) none ∙ append-nil front))
          (s.2 ∙ append-nil s.0 ∙ none)
      | inr s ↦
          let p = nil-parts s.0 k.more s.2 in
          here k.more refl (s.1 ∙ ap (λ l. (file_of lines ++ []) ++ l) p.0
          ∙ append-nil (file_of lines ++ [])) p.1
    ]

-- a file has one reading of its elements
pub IsAirFile-unique : (limit : ℕ) (bytes : List ℕ) (l1 l2 : List Line) → IsAirFile limit bytes l1
    → IsAirFile limit bytes l2 → l1 ≡ l2
IsAirFile-unique limit bytes l1 l2 h k =
    let nothing : IsBeginning [] = record { none = tt; short = omega arith } in
    (reading-unique l1 l2 [] [] h.each k.each nothing nothing
    (append-nil (file_of l1) ∙ sym h.whole ∙ k.whole ∙ sym (append-nil (file_of l2)))).0

pub IsBitFile-unique : (limit : ℕ) (bytes : List ℕ) (a b : List Bool) → IsBitFile limit bytes a
    → IsBitFile limit bytes b → a ≡ b
IsBitFile-unique limit bytes a b h k =
    h.joined ∙ ap (flat_map (elements_on Zero))
    (IsAirFile-unique limit bytes h.lines k.lines h.file k.file) ∙ sym k.joined
