-- A bracket begins an entry, and stands nowhere else in one.
use Rattle.std.proofs.Common.{◌≡◌, ◌≢◌, ℕ, ◌≤◌, ◌<◌, Bool, true, false, cond, not, List, [], ◌∷◌}
use Rattle.std.proofs.Common.{◌++◌, drop, get_or, length, ap, sym, ◌∙◌, refl, subst, arith}
use Rattle.std.proofs.Common.{append-nil}
use Rattle.std.specs.Prelude.{IsTrue, ◌==◌, ◌||◌, codes, decimal}
use Rattle.std.specs.List.{All}
use Rattle.std.specs.Str.Parse.{AllDigits}
use Rattle.std.proofs.lemmas.Bool.{agree_below_at}
use Rattle.std.proofs.lemmas.Fmt.{decimal_is_IsNumeral}
use Rattle.std.proofs.lemmas.List.Elements.{All-append, All-cons, All-from_recursion, All-nil}
use Rattle.std.proofs.lemmas.List.Elements.{All-take, All-weaker}
use Rattle.std.proofs.lemmas.List.{take-append-le, take_all}
use Rattle.std.proofs.lemmas.Str.Parse.{digit_from_value}
use Rattle.nx_code.specs.Reading.{characters, is_in_code}
use Rattle.nx_envelope.specs.Moment.{IsShownAs}
use Rattle.nx_envelope.specs.Copies.{errors_of}
use Rattle.nx_envelope.specs.declared.identity.Identity.{Identity}
use Rattle.nx_envelope.specs.Identity.{identity_bytes}
use Rattle.nx_envelope.specs.declared.found.How.{How}
use Rattle.nx_envelope.specs.declared.found.How.TheVariants.{Full, Cut, Long}
use Rattle.nx_fec.specs.declared.air_files.channel.Channel.{Channel}
use Rattle.nx_fec.specs.declared.air_files.channel.Channel.TheVariants.{Zero, One, Two}
use Rattle.nx_copies.specs.copies.Log.{channel_mark, how_name, is_of_lines, missing_newline}
use Rattle.nx_copies.specs.copies.Shares.{MarkedCopy}
use Rattle.std.proofs.lemmas.List.Sums.{count_by-le-length}
use Rattle.nx_code.specs.Reading.{asterisk}
use Rattle.nx_log.specs.Entries.{IsUnfinishedEntry}
use Rattle.nx_log.specs.Logged.{IsLoggedAs, is_text_byte}
use Rattle.nx_log.specs.Reading.{IsNoBracket}
use Rattle.nx_log.proofs.lemmas.reading.Entries.{entry_on}
use Rattle.nx_log.proofs.lemmas.texts.Moments.{months_small, time_and, time_on, year_small}
use Rattle.nx_log.proofs.lemmas.texts.QueryTexts.{text_low}

no_text_byte : (byte : ℕ) → byte < 128 → (not (is_text_byte byte) || not (byte == 91)) ≡ true
unfolding is_text_byte is_in_code characters
no_text_byte byte h =
    agree_below_at (λ k. not (is_text_byte k) || not (k == 91)) (λ _. true) 128 byte refl h

or_not : (a b : Bool) → (not a || not b) ≡ true → a ≡ true → b ≡ true → ⊥
or_not true true h a b = cc
or_not true false h a b = cc
or_not false b h a e = cc

text_plain : (byte : ℕ) → IsTrue (is_text_byte byte) → IsNoBracket byte
text_plain byte t =
    λ e. or_not (is_text_byte byte) (byte == 91) (no_text_byte byte (text_low byte t)) t
    (ap (λ n. n == 91) e)

digits_plain : (ds : List ℕ) → AllDigits 10 ds → All IsNoBracket ds
digits_plain [] d = All-nil IsNoBracket
digits_plain (c ∷ ds) d =
    let digit = digit_from_value c d.0 in
    All-cons IsNoBracket c ds (λ e. omega (arith, e, digit)) (digits_plain ds d.1)

number_plain : (n : ℕ) → n ≤ 4100 → All IsNoBracket (decimal n)
number_plain n small = digits_plain (decimal n) (decimal_is_IsNumeral n (omega arith)).0.1

mark_plain : (c : Channel) → All IsNoBracket (channel_mark c)
mark_plain Zero = All-nil IsNoBracket
mark_plain One = All-from_recursion IsNoBracket (channel_mark One) (
  λ e. omega (arith, e),
  (λ e. omega (arith, e), tt),
)
mark_plain Two = All-from_recursion IsNoBracket (channel_mark Two) (
  λ e. omega (arith, e),
  (λ e. omega (arith, e), tt),
)

name_plain : (h : How) → All IsNoBracket (how_name h)
name_plain Full = All-from_recursion IsNoBracket (how_name Full) (
  λ e. omega (arith, e),
  (λ e. omega (arith, e), (λ e. omega (arith, e), (λ e. omega (arith, e), tt))),
)
name_plain Cut = All-from_recursion IsNoBracket (how_name Cut) (
  λ e. omega (arith, e),
  (λ e. omega (arith, e), (λ e. omega (arith, e), tt)),
)
name_plain Long = All-from_recursion IsNoBracket (how_name Long) (
  λ e. omega (arith, e),
  (λ e. omega (arith, e), (λ e. omega (arith, e), (λ e. omega (arith, e), tt))),
)

identity_plain : (i : Identity) → All IsNoBracket (identity_bytes i)
identity_plain i =
    let one = i.b1.in_range in
    let two = i.b2.in_range in
    let small = i.two_digits in
    let b1 : i.b1.byte ≤ 90 = one.1 in
    let b2 : i.b2.byte ≤ 90 = two.1 in
    All-from_recursion IsNoBracket (identity_bytes i) (
      λ e. omega (arith, e, b1),
      (
        λ e. omega (arith, e, b2),
        (
          λ e. omega (arith, e, small),
          (λ e. omega (arith, e, small), tt),
        ),
      ),
    )

time_plain : (m : ℕ) (t : List ℕ) → IsShownAs m t → All IsNoBracket t
time_plain m t s =
    let year = year_small m t s in
    let months = months_small m t s in
    let month = months.0 in
    let day = months.1 in
    subst (All IsNoBracket) (sym (time_on m t [] s) ∙ append-nil t)
    (All-from_recursion IsNoBracket (time_and s.year s.month s.day m []) (
      λ e. omega (arith, e, year),
      (
        λ e. omega (arith, e),
        (
          λ e. omega (arith, e),
          (
            λ e. omega (arith, e),
            (
              λ e. omega (arith, e),
              (
                λ e. omega (arith, e, month),
                (
                  λ e. omega (arith, e),
                  (
                    λ e. omega (arith, e),
                    (
                      λ e. omega (arith, e, day),
                      (
                        λ e. omega (arith, e),
                        (
                          λ e. omega (arith, e),
                          (
                            λ e. omega (arith, e),
                            (
                              λ e. omega (arith, e),
                              (
                                λ e. omega (arith, e),
                                (
                                  λ e. omega (arith, e),
                                  (
                                    λ e. omega (arith, e),
                                    (
                                      λ e. omega (arith, e),
                                      (
                                        λ e. omega (arith, e),
                                        (λ e. omega (arith, e), tt),
                                      ),
                                    ),
                                  ),
                                ),
                              ),
                            ),
                          ),
                        ),
                      ),
                    ),
                  ),
                ),
              ),
            ),
          ),
        ),
      ),
    ))

one_plain : (byte : ℕ) → byte ≢ 91 → All IsNoBracket (byte ∷ [])
one_plain byte other = All-cons IsNoBracket byte [] other (All-nil IsNoBracket)

cond_plain : (b : Bool) → All IsNoBracket (cond b [] (10 ∷ []))
cond_plain true = All-nil IsNoBracket
cond_plain false = one_plain 10 (λ e. omega (arith, e))

missing_plain : (text : List ℕ) → All IsNoBracket (missing_newline text)
unfolding missing_newline
missing_plain text = cond_plain (is_of_lines text)

-- a bracket, and behind it no other
pub record OneBracket (bytes : List ℕ) : Type 0 where
  pub more : List ℕ
  pub is : bytes ≡ 91 ∷ more
  pub none : All IsNoBracket more

pub entry_bracket : (one : MarkedCopy) (bytes : List ℕ) → IsLoggedAs one bytes → OneBracket bytes
entry_bracket one bytes l =
    let e = sym (append-nil bytes) ∙ entry_on one bytes [] l.entry in
    let copy = one.copy in
    let P = IsNoBracket in
    let short = l.logged.short in
    let errors : errors_of copy.text ≤ 4100 =
    omega (arith, short, count_by-le-length (λ byte. byte == asterisk) copy.text) in
    let space = one_plain 32 (λ e. omega (arith, e)) in
    let text = All-weaker (λ byte. IsTrue (is_text_byte byte)) P text_plain copy.text
    l.logged.text in
    let t1 : List ℕ = missing_newline copy.text ++ (10 ∷ []) in
    let t2 : List ℕ = copy.text ++ t1 in
    let t3 : List ℕ = codes "]\n" ++ t2 in
    let t4 : List ℕ = decimal (length copy.text) ++ t3 in
    let t5 : List ℕ = codes "/" ++ t4 in
    let t6 : List ℕ = decimal (errors_of copy.text) ++ t5 in
    let t7 : List ℕ = codes " " ++ t6 in
    let t8 : List ℕ = how_name copy.how ++ t7 in
    let t9 : List ℕ = codes " " ++ t8 in
    let t10 : List ℕ = l.entry.civil ++ t9 in
    let t11 : List ℕ = codes " " ++ t10 in
    let t12 : List ℕ = channel_mark one.channel ++ t11 in
    let last : All P (10 ∷ []) = one_plain 10 (λ e. omega (arith, e)) in
    let p1 : All P t1 = All-append P (missing_newline copy.text) (10 ∷ [])
    (missing_plain copy.text) last in
    let p2 : All P t2 = All-append P copy.text t1 text p1 in
    let p3 : All P t3 = All-append P (93 ∷ 10 ∷ []) t2
    (All-cons P 93 (10 ∷ []) (λ e. omega (arith, e)) last) p2 in
    let p4 : All P t4 = All-append P (decimal (length copy.text)) t3
    (number_plain (length copy.text) short) p3 in
    let p5 : All P t5 = All-append P (47 ∷ []) t4 (one_plain 47 (λ e. omega (arith, e))) p4 in
    let p6 : All P t6 = All-append P (decimal (errors_of copy.text)) t5
    (number_plain (errors_of copy.text) errors) p5 in
    let p7 : All P t7 = All-append P (32 ∷ []) t6 space p6 in
    let p8 : All P t8 = All-append P (how_name copy.how) t7 (name_plain copy.how) p7 in
    let p9 : All P t9 = All-append P (32 ∷ []) t8 space p8 in
    let p10 : All P t10 = All-append P l.entry.civil t9
    (time_plain copy.moment l.entry.civil l.entry.shown) p9 in
    let p11 : All P t11 = All-append P (32 ∷ []) t10 space p10 in
    let p12 : All P t12 = All-append P (channel_mark one.channel) t11 (mark_plain one.channel) p11 in
    record {
      more = identity_bytes copy.identity ++ t12;
      is = e;
      none = All-append P (identity_bytes copy.identity) t12 (identity_plain copy.identity) p12;
    }

-- so is the beginning of an entry
pub unfinished_bracket : (byte : ℕ) (more : List ℕ) → IsUnfinishedEntry (byte ∷ more)
    → OneBracket (byte ∷ more)
unfinished_bracket byte more u =
    let b = entry_bracket u.1.0 ((byte ∷ more) ++ u.0) u.1.1 in
    let rest : more ++ u.0 ≡ b.more = ap (drop 1) b.is in
    record {
      more = more;
      is = ap (λ h. h ∷ more) (ap (λ (l : List ℕ). get_or l 0 0) b.is);
      none = subst (All IsNoBracket) (take-append-le (length more) more u.0 (omega arith)
          ∙ take_all (length more) more (omega arith))
          (All-take IsNoBracket (length more) (more ++ u.0)
          (subst (All IsNoBracket) (sym rest) b.none));
    }
