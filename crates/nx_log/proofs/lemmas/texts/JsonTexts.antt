-- A text as it stands in a string of JSON, and a line of JSON part by part.
use Rattle.std.proofs.Common.{◌≡◌, ℕ, ◌+◌, ◌-◌, ◌/◌, ◌%◌, ◌<◌, Bool, true, false, cond, not, List, [], ◌∷◌, ◌++◌, length, take, drop}
use Rattle.std.proofs.Common.{get_or, refl, sym, ap, ◌∙◌, subst, arith, append_assoc, append-nil, Option, Some, None}
use Rattle.std.specs.Prelude.{IsTrue, ◌==◌, ◌&&◌, ◌||◌, nat_lt, codes, decimal, option_map}
use Rattle.std.specs.List.{All, AllByRecursion}
use Rattle.std.proofs.Math.Seq.{take-add}
use Rattle.std.proofs.lemmas.Bool.{agree_below_at, and_parts}
use Rattle.std.proofs.lemmas.Bool.Decides.{Decides-eqb}
use Rattle.std.proofs.lemmas.List.{get_or-take, length-take-le, take_more, take-append-drop}
use Rattle.std.proofs.lemmas.List.Concat.{flat_map-append}
use Rattle.std.proofs.lemmas.List.Elements.{All-head, All-tail, All-drop, All-from_get_or, All-from_recursion}
use Rattle.json.specs.Print.{escape, escape_byte, escape_letter, quoted, token_text}
use Rattle.json.specs.Token.{boolean}
use Rattle.memchr.specs.Find.{IsFirstByte, is_byte}
use Rattle.nx_code.specs.Reading.{IsCapital, characters, is_in_code, newline}
use Rattle.nx_envelope.specs.Copies.{errors_of}
use Rattle.nx_envelope.specs.Identity.{identity_bytes}
use Rattle.nx_envelope.specs.Moment.{IsShownAs}
use Rattle.nx_envelope.specs.declared.identity.Identity.{Identity}
use Rattle.nx_envelope.specs.declared.found.How.{How}
use Rattle.nx_envelope.specs.declared.found.How.TheVariants.{Full, Cut, Long}
use Rattle.nx_fec.specs.air_files.Channels.{channel_number}
use Rattle.nx_copies.specs.copies.Log.{how_name}
use Rattle.nx_copies.specs.copies.Printing.{is_good}
use Rattle.nx_copies.specs.copies.Shares.{MarkedCopy}
use Rattle.serde_json.specs.Written.{compact_text}
use Rattle.nx_log.proofs.lemmas.texts.Moments.{months_small, year_small}
use Rattle.nx_log.proofs.lemmas.texts.QueryTexts.{text_low}
use Rattle.nx_log.specs.Json.{IsPlacedLine, entry_data}
use Rattle.nx_log.specs.Logged.{is_text_byte}
use Rattle.nx_log.specs.Times.{joined}
use Rattle.nx_log.specs.View.{copy_said}
use Rattle.nx_log.specs.declared.entries.head.LoggedHead.{LoggedHead}
use Rattle.nx_log.specs.declared.writing.places.Places.{Places}
use Rattle.nx_log.specs.private.JsonParts.{counted, json_front, json_middle, json_tail, truth_name}

-- a byte that stands in a string as it is
abbrev is_plain : ℕ → Bool
is_plain byte = not (nat_lt 0 (escape_letter byte)) && not (nat_lt byte 32)

last_of_three : (a b : Bool) (x y z : List ℕ) → not a ≡ true → not b ≡ true
    → cond a x (cond b y z) ≡ z
last_of_three true b x y z h k = cc
last_of_three false true x y z h k = cc
last_of_three false false x y z h k = refl

plain-escaped : (byte : ℕ) → is_plain byte ≡ true → escape_byte byte ≡ byte ∷ []
unfolding escape_byte
plain-escaped byte h =
    let parts = and_parts (not (nat_lt 0 (escape_letter byte))) (not (nat_lt byte 32)) h in
    last_of_three (nat_lt 0 (escape_letter byte)) (nat_lt byte 32) _ _ _ parts.0 parts.1

plain-text : (text : List ℕ) → All (λ byte. is_plain byte ≡ true) text → escape text ≡ text
plain-text [] h = refl
plain-text (byte ∷ text) h =
    ap (λ l. l ++ escape text) (plain-escaped byte (All-head (λ b. is_plain b ≡ true) byte text h))
    ∙ ap (λ l. byte ∷ l) (plain-text text (All-tail (λ b. is_plain b ≡ true) byte text h))

-- of a text's bytes only a newline is escaped
text-test : (byte : ℕ) → byte < 128
    → (not (is_text_byte byte) || ((byte == 10) || is_plain byte)) ≡ true
unfolding is_text_byte is_in_code characters
text-test byte h =
    agree_below_at (λ k. not (is_text_byte k) || ((k == 10) || is_plain k)) (λ _. true) 128 byte
    refl h

third : (a b c : Bool) → (not a || (b || c)) ≡ true → a ≡ true → b ≡ false → c ≡ true
third true false c h a b = h
third true true c h a b = cc
third false b c h a e = cc

text-plain : (byte : ℕ) → IsTrue (is_text_byte byte) → (byte == 10) ≡ false → is_plain byte ≡ true
text-plain byte h other =
    third (is_text_byte byte) (byte == 10) (is_plain byte) (text-test byte (text_low byte h)) h
    other

not-true : (b : Bool) → ¬ (b ≡ true) → b ≡ false
not-true true h = absurd (h refl)
not-true false h = refl

-- the next line of a text, up to its newline
pub escape-line : (text : List ℕ) (at end : ℕ) → All (λ byte. IsTrue (is_text_byte byte)) text
    → IsFirstByte (is_byte 10) (drop at text) (Some end)
    → escape (take (at + (end + 1)) text)
    ≡ (escape (take at text) ++ take end (drop at text)) ++ 92 ∷ 110 ∷ []
unfolding escape_byte
escape-line text at end each found =
    let rest = drop at text in
    let short : end < length rest = found.0.high in
    let here : get_or rest end 0 ≡ 10 = (Decides-eqb (get_or rest end 0) 10).0 found.1 in
    let plain : All (λ byte. is_plain byte ≡ true) (take end rest) =
    All-from_get_or (λ b. is_plain b ≡ true) (take end rest) 0 (λ k less.
    let below : k < end = omega (arith, less, length-take-le end rest (omega (arith, short))) in
    subst (λ b. is_plain b ≡ true) (sym (get_or-take end rest k 0 below))
    (text-plain (get_or rest k 0) (All-drop (λ b. IsTrue (is_text_byte b)) at text each k 0
    (omega (arith, below, short)))
    (not-true (get_or rest k 0 == 10) (found.0.before k (omega arith) below)))) in
    ap escape (take-add at (end + 1) text)
    ∙ flat_map-append escape_byte (take at text) (take (end + 1) rest)
    ∙ ap (λ l. escape (take at text) ++ escape l) (take_more rest end 0 short)
    ∙ ap (λ l. escape (take at text) ++ l)
    (flat_map-append escape_byte (take end rest) (get_or rest end 0 ∷ []))
    ∙ ap (λ l. escape (take at text) ++ (l ++ escape (get_or rest end 0 ∷ [])))
    (plain-text (take end rest) plain)
    ∙ ap (λ b. escape (take at text) ++ (take end rest ++ escape (b ∷ []))) here
    ∙ sym (append_assoc (escape (take at text)) (take end rest) (92 ∷ 110 ∷ []))

-- the last line of a text, where none has a newline
pub escape-last : (text : List ℕ) (at : ℕ) → All (λ byte. IsTrue (is_text_byte byte)) text
    → IsFirstByte (is_byte 10) (drop at text) None
    → escape text ≡ escape (take at text) ++ drop at text
escape-last text at each none =
    let rest = drop at text in
    let plain : All (λ byte. is_plain byte ≡ true) rest =
    All-from_get_or (λ b. is_plain b ≡ true) rest 0 (λ k less.
    text-plain (get_or rest k 0) (All-drop (λ b. IsTrue (is_text_byte b)) at text each k 0 less)
    (not-true (get_or rest k 0 == 10) (none k (omega arith) less))) in
    ap escape (sym (take-append-drop at text))
    ∙ flat_map-append escape_byte (take at text) rest
    ∙ ap (λ l. escape (take at text) ++ l) (plain-text rest plain)

pub whole_line : (before e piece feed : List ℕ)
    → ((before ++ e) ++ piece) ++ feed ≡ before ++ ((e ++ piece) ++ feed)
whole_line before e piece feed = simp append_assoc

-- ---- a line of JSON, part by part

plain-digit : (n : ℕ) → n < 10 → is_plain (48 + n) ≡ true
plain-digit n h = agree_below_at (λ k. is_plain (48 + k)) (λ _. true) 10 n refl h

plain-letter : (n : ℕ) → n < 26 → is_plain (65 + n) ≡ true
plain-letter n h = agree_below_at (λ k. is_plain (65 + k)) (λ _. true) 26 n refl h

letter-escaped : (byte : ℕ) → IsCapital byte → escape (byte ∷ []) ≡ byte ∷ []
letter-escaped byte capital =
    let n = byte - 65 in
    let is : 65 + n ≡ byte = omega (arith, capital.0) in
    subst (λ b. escape (b ∷ []) ≡ b ∷ []) is
    (plain-text ((65 + n) ∷ []) (All-from_recursion (λ b. is_plain b ≡ true) ((65 + n) ∷ [])
    (plain-letter n (omega (arith, capital.0, capital.1)), tt)))

how-escaped : (how : How) → escape (how_name how) ≡ how_name how
unfolding escape_byte
how-escaped Full = refl
how-escaped Cut = refl
how-escaped Long = refl

plain-list : (text : List ℕ) → AllByRecursion (λ b. is_plain b ≡ true) text → escape text ≡ text
plain-list text h = plain-text text (All-from_recursion (λ b. is_plain b ≡ true) text h)

digits-escaped : (a b c d e f g h i j k l m n : ℕ)
    → (a < 10) × (b < 10) × (c < 10) × (d < 10)
    → (e < 10) × (f < 10) × (g < 10) × (h < 10)
    → (i < 10) × (j < 10) × (k < 10) × (l < 10) × (m < 10) × (n < 10)
    → let time = (48 + a) ∷ (48 + b) ∷ (48 + c) ∷ (48 + d) ∷ 45 ∷ (48 + e) ∷ (48 + f) ∷ 45
    ∷ (48 + g) ∷ (48 + h) ∷ 84 ∷ (48 + i) ∷ (48 + j) ∷ 58 ∷ (48 + k) ∷ (48 + l) ∷ 58 ∷ (48 + m)
    ∷ (48 + n) ∷ 90 ∷ [] in escape time ≡ time
digits-escaped a b c d e f g h i j k l m n ys ms ts =
    plain-list ((48 + a) ∷ (48 + b) ∷ (48 + c) ∷ (48 + d) ∷ 45 ∷ (48 + e) ∷ (48 + f) ∷ 45
    ∷ (48 + g) ∷ (48 + h) ∷ 84 ∷ (48 + i) ∷ (48 + j) ∷ 58 ∷ (48 + k) ∷ (48 + l) ∷ 58 ∷ (48 + m)
    ∷ (48 + n) ∷ 90 ∷ []) (
      plain-digit a ys.0,
      (
        plain-digit b ys.1,
        (
          plain-digit c ys.2,
          (
            plain-digit d ys.3,
            (
              refl,
              (
                plain-digit e ms.0,
                (
                  plain-digit f ms.1,
                  (
                    refl,
                    (
                      plain-digit g ms.2,
                      (
                        plain-digit h ms.3,
                        (
                          refl,
                          (
                            plain-digit i ts.0,
                            (
                              plain-digit j ts.1,
                              (
                                refl,
                                (
                                  plain-digit k ts.2,
                                  (
                                    plain-digit l ts.3,
                                    (refl, (plain-digit m ts.4, (plain-digit n ts.5, (refl, tt)))),
                                  ),
                                ),
                              ),
                            ),
                          ),
                        ),
                      ),
                    ),
                  ),
                ),
              ),
            ),
          ),
        ),
      ),
    )

time-escaped : (moment : ℕ) (civil : List ℕ) → IsShownAs moment civil
    → escape (joined civil ++ codes "Z") ≡ joined civil ++ codes "Z"
time-escaped moment civil s =
    let years = year_small moment civil s in
    let days = months_small moment civil s in
    let d = s.day in
    let m = s.month in
    subst (λ l. escape (joined l ++ codes "Z") ≡ joined l ++ codes "Z") (sym s.is_text)
    (digits-escaped (s.year / 100 / 10) (s.year / 100 % 10) (s.year % 100 / 10) (s.year % 100 % 10)
    (m / 10) (m % 10) (d / 10) (d % 10) (moment % 86400 / 3600 / 10) (moment % 86400 / 3600 % 10)
    (moment % 3600 / 60 / 10) (moment % 3600 / 60 % 10) (moment % 60 / 10) (moment % 60 % 10)
    (omega (arith, years), omega arith, omega arith, omega arith)
    (omega (arith, days.0), omega arith, omega (arith, days.1), omega arith)
    (omega arith, omega arith, omega arith, omega arith, omega arith, omega arith))

-- an identity is written in letters and digits
identity-escaped : (i : Identity) → escape (identity_bytes i) ≡ identity_bytes i
identity-escaped i =
    let plain = λ (b : ℕ). is_plain b ≡ true in
    let few = i.two_digits in
    let m = i.b1.byte - 65 in
    let n = i.b2.byte - 65 in
    let first : 65 + m ≡ i.b1.byte = omega (arith, i.b1.in_range.0) in
    let second : 65 + n ≡ i.b2.byte = omega (arith, i.b2.in_range.0) in
    plain-list (identity_bytes i) (
      subst plain first (plain-letter m (omega (arith, i.b1.in_range.0, i.b1.in_range.1))),
      (
        subst plain second (plain-letter n (omega (arith, i.b2.in_range.0, i.b2.in_range.1))),
        (
          plain-digit (i.number / 10) (omega arith),
          (plain-digit (i.number % 10) (omega arith), tt),
        ),
      ),
    )

-- a truth value as it is written
truth : (b : Bool) → token_text (boolean b) ≡ truth_name b
truth true = refl
truth false = refl

in_order : (k1 k2 k3 k4 k5 k6 k7 k8 k9 k10 k11 k12 q z n a b c d v i e f g h x y : List ℕ)
    → (k1 ++ (a ++ (k2 ++ (b ++ (k3 ++ ((c ++ q) ++ (k4 ++ (d ++ (k5 ++ (v ++ (k6 ++ ((i ++ q)
    ++ (k7 ++ (e ++ (k8 ++ (f ++ (k9 ++ ((g ++ q)
    ++ (k10 ++ ((h ++ q) ++ (k11 ++ ((x ++ q) ++ (k12 ++ ((y ++ q) ++ z))))))))))))))))))))))))
    ++ n
    ≡ (((k1 ++ a ++ k2 ++ b ++ k3 ++ c ++ (q ++ k4) ++ d ++ k5 ++ v ++ k6 ++ i)
    ++ ((q ++ k7) ++ e ++ [] ++ k8 ++ f ++ [] ++ k9 ++ (g ++ (q ++ k10)) ++ (h ++ (q ++ k11))))
    ++ x)
    ++ ((q ++ k12) ++ y ++ (q ++ (z ++ n)))
in_order k1 k2 k3 k4 k5 k6 k7 k8 k9 k10 k11 k12 q z n a b c d v i e f g h x y =
    simp (append_assoc, append-nil)

-- the same with both places
in_order_placed : (k1 k2 k3 k4 k5 k6 k7 k8 k9 k10 k11 k12 k13 k14 q z n a b c d v i e f g h x y
    r s : List ℕ)
    → (k1 ++ (a ++ (k2 ++ (b ++ (k3 ++ ((c ++ q) ++ (k4 ++ (d ++ (k5 ++ (v ++ (k6 ++ ((i ++ q)
    ++ (k7 ++ (e ++ (k13 ++ (r ++ (k8 ++ (f ++ (k14 ++ (s ++ (k9 ++ ((g ++ q)
    ++ (k10 ++ ((h ++ q)
    ++ (k11 ++ ((x ++ q) ++ (k12 ++ ((y ++ q) ++ z))))))))))))))))))))))))))))
    ++ n
    ≡ (((k1 ++ a ++ k2 ++ b ++ k3 ++ c ++ (q ++ k4) ++ d ++ k5 ++ v ++ k6 ++ i)
    ++ ((q ++ k7) ++ e ++ (k13 ++ r) ++ k8 ++ f ++ (k14 ++ s) ++ k9 ++ (g ++ (q ++ k10))
    ++ (h ++ (q ++ k11)))) ++ x)
    ++ ((q ++ k12) ++ y ++ (q ++ (z ++ n)))
in_order_placed k1 k2 k3 k4 k5 k6 k7 k8 k9 k10 k11 k12 k13 k14 q z n a b c d v i e f g h x y r s =
    simp append_assoc

-- a string member of an object, and what stands behind it
abbrev text_member : List ℕ → List ℕ → List ℕ → List ℕ
text_member name text more = quoted name ++ 58 ∷ ((34 ∷ (text ++ 34 ∷ [])) ++ more)

-- a member that is a number or a truth value
abbrev plain_member : List ℕ → List ℕ → List ℕ → List ℕ
plain_member name value more = quoted name ++ 58 ∷ (value ++ more)

-- a member that is a number, where there is one
abbrev some_member : List ℕ → Option ℕ → List ℕ → List ℕ
some_member name None more = more
some_member name (Some n) more = 44 ∷ plain_member name (decimal n) more

-- the object of an entry, and a newline, by the texts of its values
abbrev object_of : (places : Option Places) (a b c d v i e f g h x y : List ℕ) → List ℕ
object_of places a b c d v i e f g h x y =
    (123 ∷ plain_member (codes "channel") a (44 ∷ plain_member (codes "characters") b
    (44 ∷ text_member (codes "end") c (44 ∷ plain_member (codes "errors") d
    (44 ∷ plain_member (codes "good") v (44 ∷ text_member (codes "identity") i
    (44 ∷ plain_member (codes "moment") e
    (some_member (codes "next") (option_map (λ p. p.next) places)
    (44 ∷ plain_member (codes "number") f
    (some_member (codes "place") (option_map (λ p. p.place) places)
    (44 ∷ text_member (codes "station") g (44 ∷ text_member (codes "subject") h
    (44 ∷ text_member (codes "text") x (44 ∷ text_member (codes "time") y
    (125 ∷ []))))))))))))))) ++ 10 ∷ []

-- what stands between the identity and the text
abbrev middle_of : (places : Option Places) (e f : List ℕ) (s t : ℕ) → List ℕ
middle_of places e f s t =
    codes "\",\"moment\":" ++ e ++ counted (codes ",\"next\":") (option_map (λ p. p.next) places)
    ++ codes ",\"number\":" ++ f
    ++ counted (codes ",\"place\":") (option_map (λ p. p.place) places)
    ++ codes ",\"station\":\"" ++ s ∷ codes "\",\"subject\":\"" ++ t ∷ codes "\",\"text\":\""

in_parts : (places : Option Places) (a b c d v i e f x y : List ℕ) (s t : ℕ)
    → object_of places a b c d v i e f (s ∷ []) (t ∷ []) x y
    ≡ (((codes "{\"channel\":" ++ a ++ codes ",\"characters\":" ++ b ++ codes ",\"end\":\"" ++ c
    ++ codes "\",\"errors\":" ++ d ++ codes ",\"good\":" ++ v ++ codes ",\"identity\":\"" ++ i)
    ++ middle_of places e f s t)
    ++ x) ++ (codes "\",\"time\":\"" ++ y ++ codes "\"}\n")
unfolding escape_byte
in_parts None a b c d v i e f x y s t =
    in_order (codes "{\"channel\":") (codes ",\"characters\":") (codes ",\"end\":\"")
    (codes ",\"errors\":") (codes ",\"good\":") (codes ",\"identity\":\"")
    (codes ",\"moment\":") (codes ",\"number\":") (codes ",\"station\":\"")
    (codes ",\"subject\":\"") (codes ",\"text\":\"") (codes ",\"time\":\"") (34 ∷ []) (125 ∷ [])
    (10 ∷ []) a b c d v i e f (s ∷ []) (t ∷ []) x y
in_parts (Some p) a b c d v i e f x y s t =
    in_order_placed (codes "{\"channel\":") (codes ",\"characters\":") (codes ",\"end\":\"")
    (codes ",\"errors\":") (codes ",\"good\":") (codes ",\"identity\":\"")
    (codes ",\"moment\":") (codes ",\"number\":") (codes ",\"station\":\"")
    (codes ",\"subject\":\"") (codes ",\"text\":\"") (codes ",\"time\":\"")
    (codes ",\"next\":") (codes ",\"place\":") (34 ∷ []) (125 ∷ [])
    (10 ∷ []) a b c d v i e f (s ∷ []) (t ∷ []) x y (decimal p.next) (decimal p.place)

-- the same, each value by what it is
same_values : (places : Option Places) (a b c d v i e f g h x y b' c' d' v' i' g' h' y' : List ℕ)
    → b ≡ b' → c ≡ c' → d ≡ d' → v ≡ v' → i ≡ i' → g ≡ g' → h ≡ h' → y ≡ y'
    → object_of places a b c d v i e f g h x y ≡ object_of places a b' c' d' v' i' e f g' h' x y'
same_values places a b c d v i e f g h x y b' c' d' v' i' g' h' y' eb ec ed ev ei eg eh ey =
    rw (eb, ec, ed, ev, ei, eg, eh, ey) refl

-- as JSON is written
as_written : (one : MarkedCopy) (places : Option Places) (time : List ℕ)
    → compact_text (entry_data one places time) ++ newline ∷ []
    ≡ object_of places (decimal (channel_number one.channel)) (decimal (length one.copy.text))
    (escape (how_name one.copy.how)) (decimal (errors_of one.copy.text))
    (token_text (boolean (is_good one.copy))) (escape (identity_bytes one.copy.identity))
    (decimal one.copy.moment) (decimal one.copy.identity.number)
    (escape (one.copy.identity.b1.byte ∷ [])) (escape (one.copy.identity.b2.byte ∷ []))
    (escape one.copy.text) (escape time)
as_written one None time = refl
as_written one (Some p) time = refl

pub json-line : (head : LoggedHead) (text : List ℕ) (places : Option Places) (civil : List ℕ)
    → head.errors ≡ errors_of text
    → head.characters ≡ length text → IsShownAs head.moment civil
    → IsPlacedLine (copy_said head text) places
    (((json_front head (is_good (copy_said head text).copy) ++ json_middle head places)
    ++ escape text)
    ++ json_tail (joined civil ++ codes "Z"))
json-line head text places civil e c shown =
    let time = joined civil ++ codes "Z" in
    let i = head.identity in
    let good = is_good (copy_said head text).copy in
    record {
      civil = civil;
      shown = shown;
      spelled = sym (as_written (copy_said head text) places time
          ∙ same_values places (decimal (channel_number head.channel)) (decimal (length text))
          (escape (how_name head.how)) (decimal (errors_of text)) (token_text (boolean good))
          (escape (identity_bytes i)) (decimal head.moment)
          (decimal i.number) (escape (i.b1.byte ∷ [])) (escape (i.b2.byte ∷ [])) (escape text)
          (escape time) (decimal head.characters) (how_name head.how) (decimal head.errors)
          (truth_name good) (identity_bytes i)
          (i.b1.byte ∷ []) (i.b2.byte ∷ []) time (ap decimal (sym c))
          (how-escaped head.how) (ap decimal (sym e)) (truth good) (identity-escaped i)
          (letter-escaped i.b1.byte i.b1.in_range)
          (letter-escaped i.b2.byte i.b2.in_range) (time-escaped head.moment civil shown)
          ∙ in_parts places (decimal (channel_number head.channel)) (decimal head.characters)
          (how_name head.how) (decimal head.errors) (truth_name good) (identity_bytes i)
          (decimal head.moment) (decimal i.number) (escape text) time i.b1.byte i.b2.byte);
    }
