-- What the values of a call hold, as a function of them: at most one station, one kind of
-- damage, and one number of each name; and the call that is made of them.
use Rattle.std.proofs.lemmas.Bool.{leb-false, leb-true}
use Rattle.std.proofs.Common.{◌≡◌, ◌≢◌, ◌∙◌, ◌⊎◌, ℕ, Bool, true, false, nat_le, List, [], ◌∷◌}
use Rattle.std.proofs.Common.{Option, Some, None, IfSome, option_map, option_and_then, codes, refl}
use Rattle.std.proofs.Common.{ap, inl, inr, subst, sym, arith}
use Rattle.std.specs.Str.{bytes_eq}
use Rattle.std.specs.Str.Parse.{digits_value, without_leading_plus}
use Rattle.std.proofs.lemmas.Slice.Eq.{bytes_eq-Decides}
use Rattle.clap.specs.Words.{Row, Text, first_of, one_of}
use Rattle.clap.specs.ValueTests.{accepts}
use Rattle.clap.specs.declared.builder.value_parser.ValueParser.{ValueParser}
use Rattle.clap.specs.declared.builder.value_parser.ValueParser.TheVariants as parser
use Rattle.clap.proofs.ValueTestLemmas.{Accepts-accepts, accepts-Accepts}
use Rattle.nx_envelope.specs.declared.letter.Letter.{Letter}
use Rattle.nx_envelope.proofs.lemmas.headers.LettersAndDigits.{same_letter}
use Rattle.nx_program.specs.declared.arguments.Call.{Call}
use Rattle.nx_station.specs.declared.damaging.DamageKind.{DamageKind}
use Rattle.nx_station.specs.declared.damaging.DamageKind.TheVariants.{Dx, Rx, All}
use Rattle.nx_envelope.specs.Moment.{last_moment}
use Rattle.nx_program.specs.Arguments.{IsFile, IsKind, IsMoment, IsNumber, IsStation, SaysMoment}
use Rattle.nx_program.specs.Arguments.{kind_name}
use Rattle.nx_program.specs.private.Reading.{LacksRange, LacksSlot, LacksWatch}

pub differ : (a b : Text) → bytes_eq a b ≡ false → a ≡ b → ⊥
differ a b unlike e =
    let yes : bytes_eq a b ≡ true = (bytes_eq-Decides a b).1 e in
    absurd (cc)

is_or_not : (a b : Text) → (a ≡ b) ⊎ (a ≢ b)
is_or_not a b = go (bytes_eq a b) refl
  where
    go : (t : Bool) → bytes_eq a b ≡ t → (a ≡ b) ⊎ (a ≢ b)
    go true e = inl ((bytes_eq-Decides a b).0 e)
    go false e = inr (differ a b e)

-- there is one of which this holds, or none
abbrev pub IsDecided : {T : Type 0} → (T → Type 0) → Type 0
IsDecided {T} P = ((x : T) × P x) ⊎ ((x : T) → P x → ⊥)

abbrev pub decided : {T : Type 0} (P : T → Type 0) → IsDecided P → Option T
decided P (inl x) = Some x.0
decided P (inr none) = None

-- the option holds that of which this holds, wherever there is one
pub record Reads {T : Type 0} (P : T → Type 0) (o : Option T) : Type 0 where
  pub is : IfSome o P
  pub only : (x : T) → P x → o ≡ Some x

reads-decided : {T : Type 0} (P : T → Type 0) → ((a b : T) → P a → P b → a ≡ b) → (d : IsDecided P)
    → Reads P (decided P d)
reads-decided P once (inl x) =
    record { is = x.1; only = λ y p. ap (λ z. Some z) (once x.0 y x.1 p) }
reads-decided P once (inr none) = record { is = tt; only = λ y p. absurd (none y p) }

-- the station
station_once : (rows : List Row) (a b : Letter) → IsStation rows a → IsStation rows b → a ≡ b
station_once rows a b first second =
    let same : Some (a.byte ∷ []) ≡ Some (b.byte ∷ []) = sym first ∙ second in
    same_letter a b (cc)

station_of_byte : (b : ℕ) → ((s : Letter) × (b ≡ s.byte)) ⊎ ((s : Letter) → b ≢ s.byte)
station_of_byte b = go (nat_le 65 b) (nat_le b 90) refl refl
  where
    go : (low high : Bool) → nat_le 65 b ≡ low → nat_le b 90 ≡ high
        → ((s : Letter) × (b ≡ s.byte)) ⊎ ((s : Letter)
        → b ≢ s.byte)
    go true true l h = inl (
      record { byte = b; in_range = (leb-true 65 b l, leb-true b 90 h) },
      refl,
    )
    go false high l h = inr (λ s e. let below = leb-false 65 b l in let low = s.in_range.0 in
        absurd (omega arith))
    go true false l h = inr (λ s e. let above = leb-false b 90 h in let high = s.in_range.1 in
        absurd (omega arith))

pub station_of_text : (o : Option Text) → ((s : Letter) × (o ≡ Some (s.byte ∷ []))) ⊎ ((s : Letter)
    → o ≢ Some (s.byte ∷ []))
station_of_text None = inr (λ s e. absurd (cc))
station_of_text (Some []) = inr (λ s e. absurd (cc))
station_of_text (Some (b ∷ c ∷ rest)) = inr (λ s e. absurd (cc))
station_of_text (Some (b ∷ [])) = elim (station_of_byte b) [
  | inl is ↦ inl (is.0, ap (λ (x : ℕ). Some (x ∷ [])) is.1)
  | inr none ↦ inr (λ s e. none s (let same : Some (b ∷ []) ≡ Some (s.byte ∷ []) = e in cc))
]

abbrev pub station_in : List Row → Option Letter
station_in rows = decided (IsStation rows) (station_of_text (first_of (codes "STATION") rows))

station-reads : (rows : List Row) → Reads (IsStation rows) (station_in rows)
station-reads rows = reads-decided (IsStation rows) (station_once rows) (station_of_text (first_of
    (codes "STATION") rows))

-- the kind of damage
same_kind : (a b : DamageKind) → kind_name a ≡ kind_name b → a ≡ b
same_kind Dx Dx e = refl
same_kind Dx Rx e = absurd (differ _ _ refl e)
same_kind Dx All e = absurd (differ _ _ refl e)
same_kind Rx Dx e = absurd (differ _ _ refl e)
same_kind Rx Rx e = refl
same_kind Rx All e = absurd (differ _ _ refl e)
same_kind All Dx e = absurd (differ _ _ refl e)
same_kind All Rx e = absurd (differ _ _ refl e)
same_kind All All e = refl

kind_once : (rows : List Row) (a b : DamageKind) → IsKind rows a → IsKind rows b → a ≡ b
kind_once rows a b first second =
    let same : Some (kind_name a) ≡ Some (kind_name b) = sym first ∙ second in
    same_kind a b (cc)

pub no_kind : (text : Text) → text ≢ codes "dx" → text ≢ codes "rx" → text ≢ codes "all"
    → (kind : DamageKind)
    → Some text ≡ Some (kind_name kind) → ⊥
no_kind text d r a Dx e = d (cc)
no_kind text d r a Rx e = r (cc)
no_kind text d r a All e = a (cc)

pub kind_of_text : (o : Option Text)
    → ((k : DamageKind) × (o ≡ Some (kind_name k))) ⊎ ((k : DamageKind)
    → o ≢ Some (kind_name k))
kind_of_text None = inr (λ k e. absurd (cc))
kind_of_text (Some text) = elim (is_or_not text (codes "dx")) [
  | inl dx ↦ inl (Dx, ap (λ (t : Text). Some t) dx)
  | inr d ↦ elim (is_or_not text (codes "rx")) [
    | inl rx ↦ inl (Rx, ap (λ (t : Text). Some t) rx)
    | inr r ↦ elim (is_or_not text (codes "all")) [
      | inl all ↦ inl (All, ap (λ (t : Text). Some t) all)
      | inr a ↦ inr (no_kind text d r a)
    ]
  ]
]

abbrev pub kind_in : List Row → Option DamageKind
kind_in rows = decided (IsKind rows) (kind_of_text (first_of (codes "KIND") rows))

kind-reads : (rows : List Row) → Reads (IsKind rows) (kind_in rows)
kind-reads rows = reads-decided (IsKind rows) (kind_once rows)
    (kind_of_text (first_of (codes "KIND") rows))

-- a number
pub number_once : (name : Text) (rows : List Row) (a b : ℕ) → IsNumber name rows a
    → IsNumber name rows b → a ≡ b
number_once name rows a b first second =
    let same : Some first.text ≡ Some second.text = sym first.given ∙ second.given in
    let is : first.text ≡ second.text = cc in
    first.value ∙ (ap (λ (t : Text). digits_value 10 (without_leading_plus t)) is
    ∙ sym second.value)

abbrev number : ValueParser
number = parser.Unsigned 0 18446744073709551615

-- the number of a text that is a number of 64 bits
pub number-of : (name : Text) (rows : List Row) (t : Text) → one_of name rows ≡ Some t
    → accepts false number t ≡ true → IsNumber name rows (digits_value 10 (without_leading_plus t))
number-of name rows t is passes =
    let unsigned = accepts-Accepts false number t passes in
    record { text = t; given = is; numeral = unsigned.0; value = refl; fits = unsigned.1 }

pub number_of_text : (name : Text) (rows : List Row) (o : Option Text) → one_of name rows ≡ o
    → IsDecided (IsNumber name rows)
number_of_text name rows None e =
    inr (λ m is. let bad : Some is.text ≡ None = sym is.given ∙ e in absurd (cc))
number_of_text name rows (Some t) e = go (accepts false number t) refl
  where
    go : (b : Bool) → accepts false number t ≡ b → IsDecided (IsNumber name rows)
    go true passes = inl (digits_value 10 (without_leading_plus t), number-of name rows t e passes)
    go false fails = inr (λ m is.
        let same : Some is.text ≡ Some t = sym is.given ∙ e in
        let text_is : is.text ≡ t = cc in
        let fits = is.fits in
        let value = is.value in
        let yes : accepts false number is.text ≡ true =
        Accepts-accepts false number is.text
        (is.numeral, (omega arith), (omega arith), (omega arith)) in
        let yes_too : accepts false number t ≡ true =
        ap (λ (u : Text). accepts false number u) (sym text_is) ∙ yes in
        absurd (cc))

abbrev pub number_in : Text → List Row → Option ℕ
number_in name rows = decided (IsNumber name rows)
    (number_of_text name rows (one_of name rows) refl)

number-reads : (name : Text) (rows : List Row) → Reads (IsNumber name rows) (number_in name rows)
number-reads name rows = reads-decided (IsNumber name rows) (number_once name rows)
    (number_of_text name rows
    (one_of name rows) refl)

-- the moment
abbrev moments : ValueParser
moments = parser.Unsigned 0 last_moment

-- the moment that a text says
pub moment-of : (t : Text) → accepts false moments t ≡ true
    → SaysMoment t (digits_value 10 (without_leading_plus t))
moment-of t passes =
    let unsigned = accepts-Accepts false moments t passes in
    record { numeral = unsigned.0; value = refl; in_range = unsigned.3 }

-- a text that clap would refuse as a number up to the last moment says none
pub moment-none : (t : Text) → accepts false moments t ≡ false → (m : ℕ) → SaysMoment t m → ⊥
moment-none t fails m is =
    let value = is.value in
    let in_range = is.in_range in
    let yes : accepts false moments t ≡ true =
    Accepts-accepts false moments t (is.numeral, (omega arith), (omega arith), (omega arith)) in
    absurd (cc)

pub moment_of_text : (t : Text) → IsDecided (SaysMoment t)
moment_of_text t = go (accepts false moments t) refl
  where
    go : (b : Bool) → accepts false moments t ≡ b → IsDecided (SaysMoment t)
    go true passes = inl (digits_value 10 (without_leading_plus t), moment-of t passes)
    go false fails = inr (moment-none t fails)

-- what a text says is the value of MOMENT, where it is that text
pub moment-given : (rows : List Row) (t : Text) (m : ℕ) → first_of (codes "MOMENT") rows ≡ Some t
    → SaysMoment t m → IsMoment rows m
moment-given rows t m e said = record { text = t; given = e; said = said }

pub moment-said : (rows : List Row) (t : Text) (m : ℕ) → first_of (codes "MOMENT") rows ≡ Some t
    → IsMoment rows m → SaysMoment t m
moment-said rows t m e is =
    let same : Some is.text ≡ Some t = sym is.given ∙ e in
    let text_is : is.text ≡ t = cc in
    subst (λ (u : Text). SaysMoment u m) text_is is.said

moment_once : (rows : List Row) (a b : ℕ) → IsMoment rows a → IsMoment rows b → a ≡ b
moment_once rows a b first second =
    let other = moment-said rows first.text b first.given second in
    first.said.value ∙ sym other.value

pub moment_of_rows : (rows : List Row) (o : Option Text) → first_of (codes "MOMENT") rows ≡ o
    → IsDecided (IsMoment rows)
moment_of_rows rows None e =
    inr (λ m is. let bad : Some is.text ≡ None = sym is.given ∙ e in absurd (cc))
moment_of_rows rows (Some t) e = elim (moment_of_text t) [
  | inl m ↦ inl (m.0, moment-given rows t m.0 e m.1)
  | inr none ↦ inr (λ m is. none m (moment-said rows t m e is))
]

abbrev pub moment_in : List Row → Option ℕ
moment_in rows = decided (IsMoment rows)
    (moment_of_rows rows (first_of (codes "MOMENT") rows) refl)

moment-reads : (rows : List Row) → Reads (IsMoment rows) (moment_in rows)
moment-reads rows = reads-decided (IsMoment rows) (moment_once rows)
    (moment_of_rows rows (first_of (codes "MOMENT") rows) refl)

-- the call of a station and a moment
abbrev pub slot_call : (Letter → ℕ → Call) → List Row → Option Call
slot_call make rows = option_and_then
    (λ s. option_map (λ m. make s m) (moment_in rows))
    (station_in rows)

pub slot_call-only : (make : Letter → ℕ → Call) (rows : List Row) (s : Letter) (m : ℕ)
    → IsStation rows s
    → IsMoment rows m → slot_call make rows ≡ Some (make s m)
slot_call-only make rows s m is_s is_m =
    rw ((station-reads rows).only s is_s, (moment-reads rows).only m is_m) refl

pub slot_call-is : (make : Letter → ℕ → Call) (rows : List Row) (P : Call → Type 0)
    → ((s : Letter) (m : ℕ)
    → IsStation rows s → IsMoment rows m → P (make s m))
    → IfSome (slot_call make rows) P
slot_call-is make rows P has =
    go (station_in rows) (moment_in rows) (station-reads rows).is
    (moment-reads rows).is
  where
    go : (s : Option Letter) (m : Option ℕ) → IfSome s (IsStation rows)
        → IfSome m (IsMoment rows)
        → IfSome (option_and_then (λ s. option_map (λ m. make s m) m) s) P
    go None m is_s is_m = tt
    go (Some s) None is_s is_m = tt
    go (Some s) (Some m) is_s is_m = has s m is_s is_m

-- where there is such a call, there is a station
pub slot_call-station : (make : Letter → ℕ → Call) (rows : List Row) (call : Call)
    → slot_call make rows ≡ Some call
    → (letter : Letter) × IsStation rows letter
slot_call-station make rows call made = go (station_in rows) (station-reads rows).is made
  where
    go : (s : Option Letter) → IfSome s (IsStation rows)
        → option_and_then (λ s. option_map (λ m. make s m) (moment_in rows)) s
        ≡ Some call
        → (letter : Letter) × IsStation rows letter
    go None is e = absurd (cc)
    go (Some s) is e = (s, is)

-- and a moment
pub slot_call-moment : (make : Letter → ℕ → Call) (rows : List Row) (call : Call)
    → slot_call make rows ≡ Some call → (moment : ℕ) × IsMoment rows moment
slot_call-moment make rows call made =
    go (station_in rows) (moment_in rows) (moment-reads rows).is made
  where
    go : (s : Option Letter) (m : Option ℕ) → IfSome m (IsMoment rows)
        → option_and_then (λ s. option_map (λ m. make s m) m) s ≡ Some call
        → (moment : ℕ) × IsMoment rows moment
    go None m is e = absurd (cc)
    go (Some s) None is e = absurd (cc)
    go (Some s) (Some m) is e = (m, is)

-- and where one of the two is absent, there is none
pub slot_call-absent : (make : Letter → ℕ → Call) (rows : List Row) → LacksSlot rows
    → slot_call make rows ≡ None
slot_call-absent make rows absent =
    go (station_in rows) (moment_in rows) (station-reads rows).is
    (moment-reads rows).is
  where
    go : (s : Option Letter) (m : Option ℕ) → IfSome s (IsStation rows)
        → IfSome m (IsMoment rows)
        → option_and_then (λ s. option_map (λ m. make s m) m) s ≡ None
    go None m is_s is_m = refl
    go (Some s) None is_s is_m = refl
    go (Some s) (Some m) is_s is_m = absurd (absent s m is_s is_m)

-- the call of a file and a moment
abbrev pub file_call : (Text → ℕ → Call) → List Row → Option Call
file_call make rows = option_and_then
    (λ n. option_map (λ m. make n m) (moment_in rows))
    (first_of (codes "FILE") rows)

pub file_call-only : (make : Text → ℕ → Call) (rows : List Row) (n : Text) (m : ℕ)
    → IsFile rows n
    → IsMoment rows m → file_call make rows ≡ Some (make n m)
file_call-only make rows n m is_n is_m =
    rw (is_n, (moment-reads rows).only m is_m) refl

itself : (o : Option Text) → IfSome o (λ n. o ≡ Some n)
itself None = tt
itself (Some n) = refl

pub file_call-is : (make : Text → ℕ → Call) (rows : List Row) (P : Call → Type 0)
    → ((n : Text) (m : ℕ)
    → IsFile rows n → IsMoment rows m → P (make n m))
    → IfSome (file_call make rows) P
file_call-is make rows P has =
    go (first_of (codes "FILE") rows) (moment_in rows)
    (itself (first_of (codes "FILE") rows)) (moment-reads rows).is
  where
    go : (n : Option Text) (m : Option ℕ) → IfSome n (IsFile rows)
        → IfSome m (IsMoment rows)
        → IfSome (option_and_then (λ n. option_map (λ m. make n m) m) n) P
    go None m is_n is_m = tt
    go (Some n) None is_n is_m = tt
    go (Some n) (Some m) is_n is_m = has n m is_n is_m

-- where there is such a call, there is a moment
pub file_call-moment : (make : Text → ℕ → Call) (rows : List Row) (call : Call)
    → file_call make rows ≡ Some call → (moment : ℕ) × IsMoment rows moment
file_call-moment make rows call made =
    go (first_of (codes "FILE") rows) (moment_in rows) (moment-reads rows).is made
  where
    go : (n : Option Text) (m : Option ℕ) → IfSome m (IsMoment rows)
        → option_and_then (λ n. option_map (λ m. make n m) m) n ≡ Some call
        → (moment : ℕ) × IsMoment rows moment
    go None m is e = absurd (cc)
    go (Some n) None is e = absurd (cc)
    go (Some n) (Some m) is e = (m, is)

-- where one of the two is absent, there is none
pub file_call-absent : (make : Text → ℕ → Call) (rows : List Row) → LacksWatch rows
    → file_call make rows ≡ None
file_call-absent make rows absent =
    go (first_of (codes "FILE") rows) (moment_in rows)
    (itself (first_of (codes "FILE") rows)) (moment-reads rows).is
  where
    go : (n : Option Text) (m : Option ℕ) → IfSome n (IsFile rows)
        → IfSome m (IsMoment rows)
        → option_and_then (λ n. option_map (λ m. make n m) m) n ≡ None
    go None m is_n is_m = refl
    go (Some n) None is_n is_m = refl
    go (Some n) (Some m) is_n is_m = absurd (absent n m is_n is_m)

-- the call of a kind of damage, the first word and a count of words
abbrev pub range_call : (DamageKind → ℕ → ℕ → Call) → List Row → Option Call
range_call make rows =
    option_and_then (λ k. option_and_then
    (λ f. option_map (λ c. make k f c) (number_in (codes "COUNT") rows))
    (number_in (codes "FROM") rows)) (kind_in rows)

pub range_call-only : (make : DamageKind → ℕ → ℕ → Call) (rows : List Row) (k : DamageKind)
    (f c : ℕ)
    → IsKind rows k → IsNumber (codes "FROM") rows f → IsNumber (codes "COUNT") rows c
    → range_call make rows ≡ Some (make k f c)
range_call-only make rows k f c is_k is_f is_c =
    rw (
      (kind-reads rows).only k is_k,
      (number-reads (codes "FROM") rows).only f is_f,
      (number-reads (codes "COUNT") rows).only c is_c,
    ) refl

pub range_call-is : (make : DamageKind → ℕ → ℕ → Call) (rows : List Row) (P : Call → Type 0)
    → ((k : DamageKind) (f c : ℕ) → IsKind rows k → IsNumber (codes "FROM") rows f
    → IsNumber (codes "COUNT") rows c → P (make k f c))
    → IfSome (range_call make rows) P
range_call-is make rows P has =
    go (kind_in rows) (number_in (codes "FROM") rows) (number_in (codes "COUNT") rows)
    (kind-reads rows).is
    (number-reads (codes "FROM") rows).is (number-reads (codes "COUNT") rows).is
  where
    go : (k : Option DamageKind) (f c : Option ℕ) → IfSome k (IsKind rows)
        → IfSome f (IsNumber (codes "FROM") rows) → IfSome c (IsNumber (codes "COUNT") rows)
        → IfSome (option_and_then (λ k. option_and_then (λ f. option_map (λ c. make k f c) c) f) k)
        P
    go None f c is_k is_f is_c = tt
    go (Some k) None c is_k is_f is_c = tt
    go (Some k) (Some f) None is_k is_f is_c = tt
    go (Some k) (Some f) (Some c) is_k is_f is_c = has k f c is_k is_f is_c

pub range_call-kind : (make : DamageKind → ℕ → ℕ → Call) (rows : List Row) (call : Call)
    → range_call make rows ≡ Some call → (kind : DamageKind) × IsKind rows kind
range_call-kind make rows call made = go (kind_in rows) (kind-reads rows).is made
  where
    go : (k : Option DamageKind) → IfSome k (IsKind rows)
        → option_and_then (λ k. option_and_then
        (λ f. option_map (λ c. make k f c) (number_in (codes "COUNT") rows))
        (number_in (codes "FROM") rows)) k ≡ Some call
        → (kind : DamageKind) × IsKind rows kind
    go None is e = absurd (cc)
    go (Some k) is e = (k, is)

pub range_call-absent : (make : DamageKind → ℕ → ℕ → Call) (rows : List Row) → LacksRange rows
    → range_call make rows ≡ None
range_call-absent make rows absent =
    go (kind_in rows) (number_in (codes "FROM") rows) (number_in (codes "COUNT") rows)
    (kind-reads rows).is
    (number-reads (codes "FROM") rows).is (number-reads (codes "COUNT") rows).is
  where
    go : (k : Option DamageKind) (f c : Option ℕ) → IfSome k (IsKind rows)
        → IfSome f (IsNumber (codes "FROM") rows) → IfSome c (IsNumber (codes "COUNT") rows)
        → option_and_then (λ k. option_and_then (λ f. option_map (λ c. make k f c) c) f) k ≡ None
    go None f c is_k is_f is_c = refl
    go (Some k) None c is_k is_f is_c = refl
    go (Some k) (Some f) None is_k is_f is_c = refl
    go (Some k) (Some f) (Some c) is_k is_f is_c = absurd (absent k f c is_k is_f is_c)
