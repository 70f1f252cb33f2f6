-- What the options of `log` ask for: at most one query, and an option that names nothing where
-- there is none.
use Rattle.std.proofs.Math.Nat.{lt_of_not-le}
use Rattle.std.proofs.Common.{◌≡◌, ◌≢◌, ◌≤◌, ◌∙◌, ◌⊎◌, ◌+◌, arith, ℕ, Bool, true, false, List, [], ◌∷◌, Option}
use Rattle.std.proofs.Common.{IfSome, Some, None, ap, codes, inl, inr, length, refl, subst, sym, unwrap_or}
use Rattle.std.specs.FinSet as set
use Rattle.std.specs.Cmp.{nat_cmp_total}
use Rattle.std.specs.Ordering.{nat_cmp}
use Rattle.std.specs.Prelude.{◌==◌, ◌||◌}
use Rattle.clap.specs.Words.{Row, Text}
use Rattle.nx_code.specs.Reading.{IsCapital, digit_zero}
use Rattle.nx_fec.specs.air_files.Channels.{channel_number}
use Rattle.nx_fec.specs.declared.air_files.channel.Channel.{Channel}
use Rattle.nx_fec.specs.declared.air_files.channel.Channel.TheVariants.{One, Two, Zero}
use Rattle.nx_log.specs.Places.{SaysPlace}
use Rattle.nx_log.specs.Query.{IsSetOf}
use Rattle.nx_log.specs.Times.{IsSince, IsUntil}
use Rattle.nx_log.specs.declared.writing.form.Form.{Form}
use Rattle.nx_log.specs.declared.queries.query.Query.{Query}
use Rattle.nx_memory.proofs.lemmas.Letters.{contains-insert, contains-none}
use Rattle.nx_program.specs.declared.log_arguments.Clash.{Clash}
use Rattle.nx_program.specs.declared.log_arguments.Clash.TheVariants.{FromWithoutKept, JsonAndKeep, KeptAndSalvage, SinceBehindUntil}
use Rattle.nx_program.specs.declared.log_arguments.LogOption.{LogOption}
use Rattle.nx_program.specs.declared.log_arguments.LogOption.TheVariants as option
use Rattle.nx_program.specs.LogArguments.{Asks, HasClash, InOrder, IsForm, IsInOrder, IsQuery}
use Rattle.nx_program.specs.LogArguments.{IsReading, IsSinceBehindUntil, IsUnfit}
use Rattle.nx_program.specs.LogArguments.{NamesChannel, NamesLetters, damaged_of, form_asked}
use Rattle.nx_program.specs.LogArguments.{form_of, given_to, has_flag, reading_of}
use Rattle.nx_program.specs.declared.log_arguments.ReadAs.{ReadAs}
use Rattle.nx_program.specs.declared.log_arguments.ReadAs.TheVariants.{Kept as AsKept, Log as AsLog}
use Rattle.nx_program.specs.declared.arguments.Call.{Call}
use Rattle.nx_program.proofs.lemmas.arguments.CallValues.{IsDecided, differ}
use Rattle.nx_program.proofs.lemmas.Known.{at_most, both, each, same_text}
use Rattle.nx_program.proofs.lemmas.queries.TimesNamed.{place_known, time_known, time_once}

-- letters
abbrev set_of : Text → set.FinSet nat_cmp
set_of [] = set.empty
set_of (b ∷ bs) = set.insert (set_of bs) b

set_of-is : (text : Text) → IsSetOf text (set_of text)
set_of-is [] byte = contains-none byte
set_of-is (b ∷ bs) byte =
    contains-insert (set_of bs) b byte ∙ ap (λ t. (byte == b) || t) (set_of-is bs byte)

letters_known : (text : Text) → IsDecided (NamesLetters text)
letters_known text = elim (both _ _ (at_most 1 (length text)) (each IsCapital
    (λ b. both _ _ (at_most 65 b) (at_most b 90)) text)) [
      | inl is ↦ inl (set_of text, (record { some = is.0; capitals = is.1 }, set_of-is text))
      | inr fails ↦ inr (λ letters named. fails (named.0.some, named.0.capitals))
    ]

letters_once : (text : Text) (a b : set.FinSet nat_cmp) → NamesLetters text a → NamesLetters text b
    → a ≡ b
letters_once text a b one other =
    set.same_set nat_cmp_total set.nat_cmp-IsAntisymmetric a b
    (λ byte. one.1 byte ∙ sym (other.1 byte))

-- channels
no_channel : (text : Text) → text ≢ codes "0" → text ≢ codes "1" → text ≢ codes "2"
    → (channel : Channel) → NamesChannel text channel → ⊥
no_channel text zero one two Zero e = zero e
no_channel text zero one two One e = one e
no_channel text zero one two Two e = two e

channel_known : (text : Text) → IsDecided (NamesChannel text)
channel_known text = elim (same_text text (codes "0")) [
  | inl zero ↦ inl (Zero, zero)
  | inr zero ↦ elim (same_text text (codes "1")) [
    | inl one ↦ inl (One, one)
    | inr one ↦ elim (same_text text (codes "2")) [
      | inl two ↦ inl (Two, two)
      | inr two ↦ inr (no_channel text zero one two)
    ]
  ]
]

same_channels : (a b : Channel) → (digit_zero + channel_number a) ∷ []
    ≡ (digit_zero + channel_number b) ∷ []
    → a ≡ b
same_channels Zero Zero e = refl
same_channels Zero One e = absurd (differ _ _ refl e)
same_channels Zero Two e = absurd (differ _ _ refl e)
same_channels One Zero e = absurd (differ _ _ refl e)
same_channels One One e = refl
same_channels One Two e = absurd (differ _ _ refl e)
same_channels Two Zero e = absurd (differ _ _ refl e)
same_channels Two One e = absurd (differ _ _ refl e)
same_channels Two Two e = refl

channel_once : (text : Text) (a b : Channel) → NamesChannel text a → NamesChannel text b → a ≡ b
channel_once text a b one other = same_channels a b (sym one ∙ other)

-- what an option asks for
module _ {T : Type 0} (Means : Text → T → Type 0) where
  asks-once : ((text : Text) (a b : T) → Means text a → Means text b → a ≡ b)
      → (given : Option Text) (a b : Option T) → Asks Means given a → Asks Means given b → a ≡ b
  asks-once once None None None one other = refl
  asks-once once (Some text) (Some a) (Some b) one other =
      ap (λ (x : T). Some x) (once text a b one other)
  asks-once once None (Some a) b one other = absurd one
  asks-once once None None (Some b) one other = absurd other
  asks-once once (Some text) None b one other = absurd one
  asks-once once (Some text) (Some a) None one other = absurd other

  -- it was given a text that means nothing
  abbrev pub MeansNothing : Option Text → Type 0
  MeansNothing given = (text : Text) × (given ≡ Some text) × ((value : T) → Means text value → ⊥)

  asked : ((text : Text) → IsDecided (Means text)) → (given : Option Text)
      → ((o : Option T) × Asks Means given o) ⊎ MeansNothing given
  asked known None = inl (None, tt)
  asked known (Some text) = elim (known text) [
    | inl is ↦ inl (Some is.0, is.1)
    | inr none ↦ inr (text, refl, none)
  ]

  -- nothing is asked for by a text that means nothing
  asks-nothing : (given : Option Text) (o : Option T) → Asks Means given o → MeansNothing given → ⊥
  asks-nothing None o asks nothing =
      let bad : None ≡ Some nothing.0 = nothing.1 in absurd (cc)
  asks-nothing (Some text) None asks nothing = asks
  asks-nothing (Some text) (Some value) asks nothing =
      let same : Some text ≡ Some nothing.0 = nothing.1 in
      let is : text ≡ nothing.0 = cc in
      nothing.2 value (rw (← is) asks)

-- the query
abbrev make_query : Option (set.FinSet nat_cmp) → Option (set.FinSet nat_cmp) → Option Channel
    → Option ℕ
    → Option ℕ → Bool → Bool → Query
make_query stations subjects channel since until good last = record {
  stations = stations;
  subjects = subjects;
  channel = channel;
  since = since;
  until = until;
  good = good;
  last = last;
}

same_parts : (s t u v : Option (set.FinSet nat_cmp)) (c d : Option Channel) (f g l m : Option ℕ)
    (x y p q : Bool) → s ≡ t → u ≡ v → c ≡ d → f ≡ g → l ≡ m → x ≡ y → p ≡ q
    → make_query s u c f l x p ≡ make_query t v d g m y q
same_parts s t u v c d f g l m x y p q a b e h i j k = cc

since_once : (given : Option Text) (a b : Option ℕ) → Asks IsSince given a → Asks IsSince given b
    → a ≡ b
since_once = asks-once IsSince (λ t. time_once (codes " 00:00:00") (codes ":00") t refl refl)

until_once : (given : Option Text) (a b : Option ℕ) → Asks IsUntil given a → Asks IsUntil given b
    → a ≡ b
until_once = asks-once IsUntil (λ t. time_once (codes " 23:59:59") (codes ":59") t refl refl)

query_once : (rows : List Row) (a b : Query) → IsQuery rows a → IsQuery rows b → a ≡ b
query_once rows a b one other =
    same_parts a.stations b.stations a.subjects b.subjects a.channel b.channel a.since b.since
    a.until b.until a.good b.good a.last b.last
    (asks-once NamesLetters letters_once _ _ _ one.stations other.stations)
    (asks-once NamesLetters letters_once _ _ _ one.subjects other.subjects)
    (asks-once NamesChannel channel_once _ _ _ one.channel other.channel)
    (since_once _ _ _ one.since other.since) (until_once _ _ _ one.until other.until)
    (one.good ∙ sym other.good) (one.last ∙ sym other.last)

-- some option was given a text that names nothing
abbrev pub IsAnyUnfit : List Row → Type 0
IsAnyUnfit rows = (o : LogOption) × (text : Text) × IsUnfit rows o text

-- the options ask for a query, or one of them names nothing
pub query_or_unfit : (rows : List Row) → ((query : Query) × IsQuery rows query) ⊎ IsAnyUnfit rows
query_or_unfit rows = elim (asked NamesLetters letters_known (given_to option.Station rows)) [
  | inr n ↦ inr (option.Station, n.0, record { given = n.1; nothing = n.2 })
  | inl stations ↦ elim (asked NamesLetters letters_known (given_to option.Subject rows)) [
    | inr n ↦ inr (option.Subject, n.0, record { given = n.1; nothing = n.2 })
    | inl subjects ↦ elim (asked NamesChannel channel_known (given_to option.Channel rows)) [
      | inr n ↦ inr (option.Channel, n.0, record { given = n.1; nothing = n.2 })
      | inl channel ↦ elim
          (asked IsSince (time_known (codes " 00:00:00") (codes ":00") refl)
          (given_to option.Since rows)) [
            | inr n ↦ inr (option.Since, n.0, record { given = n.1; nothing = n.2 })
            | inl since ↦ elim
                (asked IsUntil (time_known (codes " 23:59:59") (codes ":59") refl)
                (given_to option.Until rows)) [
                  | inr n ↦ inr (option.Until, n.0, record { given = n.1; nothing = n.2 })
                  | inl until ↦ inl (
                    make_query stations.0 subjects.0 channel.0 since.0 until.0
                        (has_flag (codes "good") rows) (has_flag (codes "last") rows),
                    record {
                      stations = stations.1;
                      subjects = subjects.1;
                      channel = channel.1;
                      since = since.1;
                      until = until.1;
                      good = refl;
                      last = refl;
                    },
                  )
                ]
          ]
    ]
  ]
]

-- options that exclude each other were given
abbrev pub IsAnyClash : List Row → Type 0
IsAnyClash rows = (clash : Clash) × HasClash rows clash

-- the moments of the query are in order, or they aren't
order_or_clash : (rows : List Row) (query : Query) → IsQuery rows query
    → IsInOrder query ⊎ IsAnyClash rows
order_or_clash rows query is = of query.since query.until is.since is.until
  where
    of : (since until : Option ℕ) → Asks IsSince (given_to option.Since rows) since
        → Asks IsUntil (given_to option.Until rows) until → InOrder since until ⊎ IsAnyClash rows
    of None until s u = inl tt
    of (Some first) None s u = inl tt
    of (Some first) (Some last) s u = elim (at_most first last) [
      | inl ordered ↦ inl ordered
      | inr fails ↦ inr (
        SinceBehindUntil,
        record { first = first; since = s; last = last; until = u; behind = lt_of_not-le fails },
      )
    ]

order_not_clash : (rows : List Row) (query : Query) → IsQuery rows query → IsInOrder query
    → IsSinceBehindUntil rows → ⊥
order_not_clash rows query is ordered clash =
    let since = since_once _ query.since (Some clash.first) is.since clash.since in
    let until = until_once _ query.until (Some clash.last) is.until clash.until in
    let le : clash.first ≤ clash.last =
    subst (InOrder (Some clash.first)) until
    (subst (λ o. InOrder o query.until) since ordered) in
    omega (arith, le, clash.behind)

both-forms : (json keep : Bool) → form_of json keep ≡ None → (json ≡ true) × (keep ≡ true)
both-forms true true e = (refl, refl)
both-forms true false e = absurd (cc)
both-forms false true e = absurd (cc)
both-forms false false e = absurd (cc)

form_or_clash : (rows : List Row) → ((form : Form) × IsForm rows form) ⊎ IsAnyClash rows
form_or_clash rows = of (form_asked rows) refl
  where
    of : (asked : Option Form) → form_asked rows ≡ asked
        → ((form : Form) × IsForm rows form) ⊎ IsAnyClash rows
    of (Some form) e = inl (form, e)
    of None e = inr (
      JsonAndKeep,
      both-forms (has_flag (codes "json") rows) (has_flag (codes "keep") rows) e,
    )

form_not_clash : (rows : List Row) (form : Form) → IsForm rows form
    → HasClash rows JsonAndKeep → ⊥
form_not_clash rows form is clash =
    let none : form_asked rows ≡ None = ap (λ b. form_of b (has_flag (codes "keep") rows)) clash.0
    ∙ ap (form_of true) clash.1 in
    let bad : None ≡ Some form = sym none ∙ is in
    absurd (cc)

form_once : (rows : List Row) (a b : Form) → IsForm rows a → IsForm rows b → a ≡ b
form_once rows a b one other =
    let same : Some a ≡ Some b = sym one ∙ other in cc

-- as what the input is read
abbrev IsReadOrNot : List Row → Type 0
IsReadOrNot rows =
    ((reading : ReadAs) × IsReading rows reading) ⊎ (IsAnyUnfit rows ⊎ IsAnyClash rows)

reading_or_not : (rows : List Row) → IsReadOrNot rows
reading_or_not rows = elim (asked SaysPlace place_known (given_to option.From rows)) [
  | inr n ↦ inr (inl (option.From, n.0, record { given = n.1; nothing = n.2 }))
  | inl from ↦ of from.0 from.1 (has_flag (codes "kept") rows) (has_flag (codes "salvage") rows)
      refl refl
]
  where
    given : (asked : Option ℕ) (place : ℕ) (o : Option Text) → asked ≡ Some place
        → Asks SaysPlace o asked → (text : Text) × (o ≡ Some text)
    given (Some place) other (Some text) e asks = (text, refl)
    given (Some place) other None e asks = absurd asks
    given None other o e asks = absurd (cc)

    of : (from : Option ℕ) → Asks SaysPlace (given_to option.From rows) from
        → (kept salvage : Bool) → has_flag (codes "kept") rows ≡ kept
        → has_flag (codes "salvage") rows ≡ salvage → IsReadOrNot rows
    of from asks true true k s = inr (inr (KeptAndSalvage, (k, s)))
    of from asks true false k s = inl (
      AsKept (unwrap_or from 0),
      record {
        from = from;
        said = asks;
        asked = ap (λ b. reading_of b (has_flag (codes "salvage") rows) from) k
            ∙ ap (λ b. reading_of true b from) s;
      },
    )
    of None asks false salvage k s = inl (
      AsLog (damaged_of salvage),
      record {
        from = None;
        said = asks;
        asked = ap (λ b. reading_of b (has_flag (codes "salvage") rows) None) k
            ∙ ap (λ b. reading_of false b None) s;
      },
    )
    of (Some place) asks false salvage k s =
        inr (inr (FromWithoutKept, (k, given (Some place) place _ refl asks)))

place_once : (text : Text) (a b : ℕ) → SaysPlace text a → SaysPlace text b → a ≡ b
place_once text a b one other = one.value ∙ sym other.value

reading_once : (rows : List Row) (a b : ReadAs) → IsReading rows a → IsReading rows b → a ≡ b
reading_once rows a b one other =
    let from = asks-once SaysPlace place_once _ _ _ one.said other.said in
    let same : Some a ≡ Some b =
    sym one.asked
    ∙ ap (reading_of (has_flag (codes "kept") rows) (has_flag (codes "salvage") rows)) from
    ∙ other.asked in
    cc

-- ---- what all options ask for

-- a query, a form and how the input is read
pub record AreAsked (rows : List Row) : Type 0 where
  pub query : Query
  pub form : Form
  pub reading : ReadAs
  pub is_query : IsQuery rows query
  pub in_order : IsInOrder query
  pub is_form : IsForm rows form
  pub is_reading : IsReading rows reading

-- an option names nothing, or two exclude each other
abbrev pub IsNothingAsked : List Row → Type 0
IsNothingAsked rows = IsAnyUnfit rows ⊎ IsAnyClash rows

pub asked_or_not : (rows : List Row) → AreAsked rows ⊎ IsNothingAsked rows
asked_or_not rows = elim (query_or_unfit rows) [
  | inr unfit ↦ inr (inl unfit)
  | inl query ↦ elim (order_or_clash rows query.0 query.1) [
    | inr clash ↦ inr (inr clash)
    | inl in_order ↦ elim (form_or_clash rows) [
      | inr clash ↦ inr (inr clash)
      | inl form ↦ elim (reading_or_not rows) [
        | inr nothing ↦ inr nothing
        | inl reading ↦ inl (record {
          query = query.0;
          form = form.0;
          reading = reading.0;
          is_query = query.1;
          in_order = in_order;
          is_form = form.1;
          is_reading = reading.1;
        })
      ]
    ]
  ]
]

-- not both
pub asked_not_unfit : (rows : List Row) → AreAsked rows → (o : LogOption) (text : Text)
    → IsUnfit rows o text → ⊥
asked_not_unfit rows a option.Station text unfit =
    asks-nothing NamesLetters _ _ a.is_query.stations (text, unfit.given, unfit.nothing)
asked_not_unfit rows a option.Subject text unfit =
    asks-nothing NamesLetters _ _ a.is_query.subjects (text, unfit.given, unfit.nothing)
asked_not_unfit rows a option.Channel text unfit =
    asks-nothing NamesChannel _ _ a.is_query.channel (text, unfit.given, unfit.nothing)
asked_not_unfit rows a option.Since text unfit =
    asks-nothing IsSince _ _ a.is_query.since (text, unfit.given, unfit.nothing)
asked_not_unfit rows a option.Until text unfit =
    asks-nothing IsUntil _ _ a.is_query.until (text, unfit.given, unfit.nothing)
asked_not_unfit rows a option.From text unfit =
    asks-nothing SaysPlace _ _ a.is_reading.said (text, unfit.given, unfit.nothing)

pub asked_not_clash : (rows : List Row) → AreAsked rows → (clash : Clash) → HasClash rows clash
    → ⊥
asked_not_clash rows a SinceBehindUntil clash =
    order_not_clash rows a.query a.is_query a.in_order clash
asked_not_clash rows a JsonAndKeep clash = form_not_clash rows a.form a.is_form clash
asked_not_clash rows a KeptAndSalvage clash =
    let r = a.is_reading in
    let none : reading_of (has_flag (codes "kept") rows) (has_flag (codes "salvage") rows) r.from
    ≡ None =
    ap (λ b. reading_of b (has_flag (codes "salvage") rows) r.from) clash.0
    ∙ ap (λ b. reading_of true b r.from) clash.1 in
    let bad : None ≡ Some a.reading = sym none ∙ r.asked in
    absurd (cc)
asked_not_clash rows a FromWithoutKept clash =
    let r = a.is_reading in
    of r.from refl (subst (λ o. Asks SaysPlace o r.from) clash.1.1 r.said)
  where
    of : (from : Option ℕ) → a.is_reading.from ≡ from
        → Asks SaysPlace (Some clash.1.0) a.is_reading.from → ⊥
    of None e asks = subst (Asks SaysPlace (Some clash.1.0)) e asks
    of (Some place) e asks =
        let none : reading_of (has_flag (codes "kept") rows) (has_flag (codes "salvage") rows)
        a.is_reading.from ≡ None =
        ap (λ b. reading_of b (has_flag (codes "salvage") rows) a.is_reading.from) clash.0
        ∙ ap (reading_of false (has_flag (codes "salvage") rows)) e in
        let bad : None ≡ Some a.reading = sym none ∙ a.is_reading.asked in
        absurd (cc)

-- the call of what is asked for
abbrev made_of : (make : Query → Form → ReadAs → Call) (rows : List Row)
    → AreAsked rows ⊎ IsNothingAsked rows → Option Call
made_of make rows (inl a) = Some (make a.query a.form a.reading)
made_of make rows (inr nothing) = None

abbrev pub query_call : (Query → Form → ReadAs → Call) → List Row → Option Call
query_call make rows = made_of make rows (asked_or_not rows)

pub query_call-only : (make : Query → Form → ReadAs → Call) (rows : List Row) (query : Query)
    (form : Form) (reading : ReadAs) → IsQuery rows query → IsInOrder query → IsForm rows form
    → IsReading rows reading
    → query_call make rows ≡ Some (make query form reading)
query_call-only make rows query form reading is in_order is_form is_reading =
    go (asked_or_not rows)
  where
    all : AreAsked rows
    all = record {
      query = query;
      form = form;
      reading = reading;
      is_query = is;
      in_order = in_order;
      is_form = is_form;
      is_reading = is_reading;
    }

    go : (d : AreAsked rows ⊎ IsNothingAsked rows)
        → made_of make rows d ≡ Some (make query form reading)
    go (inl a) = rw (
      query_once rows a.query query a.is_query is,
      form_once rows a.form form a.is_form is_form,
      reading_once rows a.reading reading a.is_reading is_reading,
    ) refl
    go (inr (inl unfit)) = absurd (asked_not_unfit rows all unfit.0 unfit.1 unfit.2)
    go (inr (inr clash)) = absurd (asked_not_clash rows all clash.0 clash.1)

pub query_call-is : (make : Query → Form → ReadAs → Call) (rows : List Row) (P : Call → Type 0)
    → ((query : Query) (form : Form) (reading : ReadAs) → IsQuery rows query → IsInOrder query
    → IsForm rows form → IsReading rows reading → P (make query form reading))
    → IfSome (query_call make rows) P
query_call-is make rows P has = go (asked_or_not rows)
  where
    go : (d : AreAsked rows ⊎ IsNothingAsked rows) → IfSome (made_of make rows d) P
    go (inl a) = has a.query a.form a.reading a.is_query a.in_order a.is_form a.is_reading
    go (inr nothing) = tt

-- where there is such a call, all is asked for
pub query_call-asked : (make : Query → Form → ReadAs → Call) (rows : List Row) (call : Call)
    → query_call make rows ≡ Some call → AreAsked rows
query_call-asked make rows call made = go (asked_or_not rows) made
  where
    go : (d : AreAsked rows ⊎ IsNothingAsked rows) → made_of make rows d ≡ Some call
        → AreAsked rows
    go (inl a) e = a
    go (inr nothing) e = absurd (cc)
