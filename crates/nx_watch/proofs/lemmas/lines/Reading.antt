-- Any bytes have a reading.
use Rattle.std.proofs.Common.{◌≡◌, ◌≢◌, ℕ, ◌-◌, ◌^◌, ◌<◌, ◌≤◌, List, [], ◌∷◌, ◌++◌, length}
use Rattle.std.proofs.Common.{Option, Some, None, refl, sym, ap, ◌∙◌, subst, arith, ◌⊎◌, inl, inr}
use Rattle.std.specs.List.{AllZip, flat_map}
use Rattle.std.proofs.lemmas.Bool.{cases_eq, cases_lt}
use Rattle.nx_code.specs.Reading.{IsCapital}
use Rattle.nx_fec.specs.air_files.AirFile.{Line, moment, elements, refuse_station, accept_station}
use Rattle.nx_fec.specs.air_files.AirFile.{refuse_subject, accept_subject, mark_bytes, spelling, IsLine}
use Rattle.nx_fec.proofs.lemmas.lines.LineLaws.{line_read, line_read-spelling}
use Rattle.nx_watch.specs.AnyLines.{AreLines, HasNoLineEnd, Says, ended}
use Rattle.nx_watch.proofs.lemmas.lines.Law.{says-no_end}

-- ---- each text says a line or none

same-text : (a b : List ℕ) → (a ≡ b) ⊎ (a ≡ b → ⊥)
same-text [] [] = inl refl
same-text [] (y ∷ b) = inr (λ e. cc)
same-text (x ∷ a) [] = inr (λ e. cc)
same-text (x ∷ a) (y ∷ b) =
    elim (cases_eq x y) [
      | inl heads ↦ elim (same-text a b) [
        | inl tails ↦ inl (cc (heads, tails))
        | inr other ↦ inr (λ e. let tails : a ≡ b = cc in other tails)
      ]
      | inr other ↦ inr (λ e. let heads : x ≡ y = cc in other heads)
    ]

both-or-not : (P Q : Type 0) → P ⊎ (P → ⊥) → Q ⊎ (Q → ⊥) → (P × Q) ⊎ (P × Q → ⊥)
both-or-not P Q (inl p) (inl q) = inl (p, q)
both-or-not P Q (inl p) (inr q) = inr (λ h. q h.1)
both-or-not P Q (inr p) q = inr (λ h. p h.0)

less-or-not : (a b : ℕ) → (a < b) ⊎ (a < b → ⊥)
less-or-not a b = elim (cases_lt a b) [ inl lt ↦ inl lt | inr le ↦ inr (λ lt. omega arith) ]

at_most-or-not : (a b : ℕ) → (a ≤ b) ⊎ (a ≤ b → ⊥)
at_most-or-not a b = elim (cases_lt b a) [ inl lt ↦ inr (λ le. omega arith) | inr le ↦ inl le ]

capital-or-not : (letter : ℕ) → IsCapital letter ⊎ (IsCapital letter → ⊥)
capital-or-not letter = both-or-not (65 ≤ letter) (letter ≤ 90) (at_most-or-not 65 letter)
    (at_most-or-not letter 90)

line-or-not : (line : Line) → IsLine line ⊎ (IsLine line → ⊥)
line-or-not (moment n) = less-or-not n (10 ^ 11)
line-or-not (elements mark bits) =
    both-or-not (0 < length bits) (length bits ≤ 512 - length (mark_bytes mark))
    (less-or-not 0 (length bits)) (at_most-or-not (length bits) (512 - length (mark_bytes mark)))
line-or-not (refuse_station mark letter) = capital-or-not letter
line-or-not (accept_station mark letter) = capital-or-not letter
line-or-not (refuse_subject mark letter) = capital-or-not letter
line-or-not (accept_subject mark letter) = capital-or-not letter

read-of : (text : List ℕ) (line : Line) → IsLine line → text ≡ spelling line → line_read text ≡ line
read-of text line good is = ap line_read is ∙ line_read-spelling line good

says-some : (text : List ℕ) → HasNoLineEnd text → (said : Option Line) × Says text said
says-some text none =
    elim (same-text text (spelling (line_read text))) [
      | inl is ↦ elim (line-or-not (line_read text)) [
        | inl good ↦ (Some (line_read text), (good, is))
        | inr bad ↦ (
          None,
          (
            none,
            λ line good spelled.
                bad (subst IsLine (sym (read-of text line good spelled)) good),
          ),
        )
      ]
      | inr other ↦ (
        None,
        (
          none,
          λ line good spelled.
              other (spelled ∙ ap spelling (sym (read-of text line good spelled))),
        ),
      )
    ]

-- ---- and any bytes are lines

record Reading (bytes : List ℕ) : Type 0 where
  lines : List (Option Line)
  rest : List ℕ
  are : AreLines bytes lines rest

-- one more byte in front of the first line
in-front : (byte : ℕ) (bytes : List ℕ) → byte ≢ 10 → (texts : List (List ℕ))
    (lines : List (Option Line)) (rest : List ℕ) → bytes ≡ flat_map ended texts ++ rest
    → AllZip Says texts lines → HasNoLineEnd rest
    → Reading (byte ∷ bytes)
in-front byte bytes other [] [] rest whole each part = record {
  lines = [];
  rest = byte ∷ rest;
  are = record { texts = []; whole = ap (λ l. byte ∷ l) whole; each = tt; part = (other, part) };
}
in-front byte bytes other [] (l ∷ lines) rest whole each part = absurd each
in-front byte bytes other (t ∷ texts) [] rest whole each part = absurd each
in-front byte bytes other (t ∷ texts) (l ∷ lines) rest whole each part =
    let said = says-some (byte ∷ t) (other, says-no_end t l each.0) in
    record {
      lines = said.0 ∷ lines;
      rest = rest;
      are = record {
        texts = (byte ∷ t) ∷ texts;
        whole = ap (λ l. byte ∷ l) whole;
        each = (said.1, each.1);
        part = part;
      };
    }

reading : (bytes : List ℕ) → Reading bytes
reading [] = record {
  lines = [];
  rest = [];
  are = record { texts = []; whole = refl; each = tt; part = tt };
}
reading (byte ∷ bytes) =
    let r = reading bytes in
    elim (cases_eq byte 10) [
      | inl feed ↦
          let said = says-some [] tt in
          record {
            lines = said.0 ∷ r.lines;
            rest = r.rest;
            are = record {
              texts = [] ∷ r.are.texts;
              whole = ap (λ b. b ∷ bytes) feed ∙ ap (λ l. 10 ∷ l) r.are.whole;
              each = (said.1, r.are.each);
              part = r.are.part;
            };
          }
      | inr other ↦ in-front byte bytes other r.are.texts r.lines r.rest r.are.whole r.are.each
          r.are.part
    ]

pub AreLines-some : (bytes : List ℕ)
    → (lines : List (Option Line)) × (rest : List ℕ) × AreLines bytes lines rest
AreLines-some bytes = let r = reading bytes in (r.lines, r.rest, r.are)
