-- A name, a mark and an end: what bytes lack of one.
use Rattle.std.proofs.Common.{◌≡◌, ◌≢◌, inl, inr, ℕ, ◌≤◌, List, [], ◌∷◌, ◌++◌, ap, append-nil, append_assoc, arith, get_or, lit≤, refl, sym, ◌∙◌}
use Rattle.std.specs.Prelude.{codes}
use Rattle.std.proofs.lemmas.Bool.{cases_lt}
use Rattle.nx_code.specs.Reading.{IsCapital}
use Rattle.nx_envelope.specs.Identity.{identity_bytes, two_digits}
use Rattle.nx_envelope.specs.declared.found.How.{How}
use Rattle.nx_envelope.specs.declared.identity.Identity.{Identity}
use Rattle.nx_envelope.specs.declared.letter.Letter.{Letter}
use Rattle.nx_fec.specs.declared.air_files.channel.Channel.{Channel}
use Rattle.nx_fec.specs.declared.air_files.channel.Channel.TheVariants.{Zero, One, Two}
use Rattle.nx_copies.specs.copies.Log.{channel_mark, how_name}
use Rattle.nx_log.specs.declared.entries.lack.Lack.{Lack}
use Rattle.nx_log.specs.private.Stages.{IsByte, IsEnd, IsMark, IsName, IsNumber, Lacks, Spells}
use Rattle.nx_log.proofs.lemmas.beginnings.Joins.{lacks_at, lacks_chosen}

abbrev pub some_letter : Letter
some_letter = record { byte = 65; in_range = (lit≤ tt, lit≤ tt) }

abbrev pub identity_of : (b1 b2 : Letter) (n : ℕ) → n ≤ 99 → Identity
identity_of b1 b2 n small = record { b1 = b1; b2 = b2; number = n; two_digits = small }

abbrev letter_of : (b : ℕ) → IsCapital b → Letter
letter_of b is = record { byte = b; in_range = is }

module _ (bytes rest : List ℕ) (lack : Lack) where
  -- ---- of a name

  pub name_lacks_bracket : Lacks (λ spelled. spelled ≡ codes "[") bytes lack
      → Lacks (Spells IsName) bytes lack
  name_lacks_bracket =
      lacks_at (λ spelled. spelled ≡ codes "[") (Spells IsName) []
      (λ s h. (
        codes "AA00",
        (identity_of some_letter some_letter 0 (lit≤ tt), ap (λ l. l ++ codes "AA00") h),
      ))
      (λ s x y is e. (codes "[", identity_bytes is.0, refl, is.1))
      bytes bytes lack refl

  pub name_lacks_b1 : bytes ≡ codes "[" ++ rest → Lacks (Spells (IsByte 65 90)) rest lack
      → Lacks (Spells IsName) bytes lack
  name_lacks_b1 =
      lacks_at (Spells (IsByte 65 90)) (Spells IsName) (codes "[")
      (λ s h.
      let b1 = letter_of h.0 (h.1.enough, h.1.few) in (
        codes "A00",
        (
          identity_of b1 some_letter 0 (lit≤ tt),
          ap (λ l. codes "[" ++ (l ++ codes "A00")) h.1.is_spelled,
        ),
      ))
      (λ s x y is e.
      let i = is.0 in (
        i.b1.byte ∷ [],
        i.b2.byte ∷ two_digits i.number,
        (
          i.b1.byte,
          record { enough = i.b1.in_range.0; few = i.b1.in_range.1; is_spelled = refl },
        ),
        is.1,
      ))
      bytes rest lack

  pub name_lacks_b2 : (b1 : ℕ) → IsCapital b1 → bytes ≡ codes "[" ++ b1 ∷ rest
      → Lacks (Spells (IsByte 65 90)) rest lack → Lacks (Spells IsName) bytes lack
  name_lacks_b2 b1 capital =
      lacks_at (Spells (IsByte 65 90)) (Spells IsName) (codes "[" ++ b1 ∷ [])
      (λ s h.
      let b2 = letter_of h.0 (h.1.enough, h.1.few) in (
        codes "00",
        (
          identity_of (letter_of b1 capital) b2 0 (lit≤ tt),
          ap (λ l. codes "[" ++ (b1 ∷ (l ++ codes "00"))) h.1.is_spelled,
        ),
      ))
      (λ s x y is e.
      let i = is.0 in
      let first : b1 ≡ i.b1.byte =
      ap (λ (l : List ℕ). get_or l 1 0) (e ∙ ap (λ l. l ++ y) is.1) in (
        i.b2.byte ∷ [],
        two_digits i.number,
        (
          i.b2.byte,
          record { enough = i.b2.in_range.0; few = i.b2.in_range.1; is_spelled = refl },
        ),
        is.1 ∙ ap (λ b. codes "[" ++ (b ∷ i.b2.byte ∷ two_digits i.number)) (sym first),
      ))
      bytes rest lack

  pub name_lacks_number : (b1 b2 : ℕ) → IsCapital b1 → IsCapital b2
      → bytes ≡ codes "[" ++ b1 ∷ b2 ∷ rest → Lacks (Spells (IsNumber [] 0 99)) rest lack
      → Lacks (Spells IsName) bytes lack
  name_lacks_number b1 b2 capital also =
      lacks_at (Spells (IsNumber [] 0 99)) (Spells IsName) (codes "[" ++ b1 ∷ b2 ∷ [])
      (λ s h. (
        [],
        (
          identity_of (letter_of b1 capital) (letter_of b2 also) h.0 h.1.few,
          ap (λ l. codes "[" ++ (b1 ∷ b2 ∷ l)) (append-nil s ∙ h.1.is_spelled),
        ),
      ))
      (λ s x y is e.
      let i = is.0 in
      let whole = e ∙ ap (λ l. l ++ y) is.1 in
      let first : b1 ≡ i.b1.byte = ap (λ (l : List ℕ). get_or l 1 0) whole in
      let second : b2 ≡ i.b2.byte = ap (λ (l : List ℕ). get_or l 2 0) whole in (
        two_digits i.number,
        [],
        (i.number, record { enough = omega arith; few = i.two_digits; is_spelled = refl }),
        is.1 ∙ ap (λ b. codes "[" ++ (b ∷ i.b2.byte ∷ two_digits i.number)) (sym first)
            ∙ ap (λ b. codes "[" ++ (b1 ∷ b ∷ two_digits i.number)) (sym second),
      ))
      bytes rest lack

  -- ---- of a mark

  -- where they don't begin with a space
  pub mark_lacks_slash : ((l : List ℕ) → bytes ≢ 32 ∷ l)
      → Lacks (λ spelled. spelled ≡ codes "/") bytes lack → Lacks (Spells IsMark) bytes lack
  mark_lacks_slash none =
      lacks_chosen (λ spelled. spelled ≡ codes "/") (Spells IsMark)
      (λ s h. (codes "1 ", (One, ap (λ l. l ++ codes "1 ") h))) bytes
      (λ b l s x y begins is e. slash b l s x y begins is.0 is.1 e) lack
    where
      slash : (b : ℕ) (l s x y : List ℕ) → bytes ≡ b ∷ l → (channel : Channel)
          → s ≡ channel_mark channel ++ 32 ∷ [] → b ∷ x ≡ s ++ y
          → (t : List ℕ) × (r : List ℕ) × (t ≡ codes "/") × (s ≡ t ++ r)
      slash b l s x y begins Zero is e =
          let here : b ≡ 32 = ap (λ (l : List ℕ). get_or l 0 0) (e ∙ ap (λ l. l ++ y) is) in
          absurd (none l (begins ∙ ap (λ b. b ∷ l) here))
      slash b l s x y begins One is e = (codes "/", codes "1 ", refl, is)
      slash b l s x y begins Two is e = (codes "/", codes "2 ", refl, is)

  pub mark_lacks_digit : bytes ≡ codes "/" ++ rest → Lacks (Spells (IsByte 49 50)) rest lack
      → Lacks (Spells IsMark) bytes lack
  mark_lacks_digit =
      lacks_at (Spells (IsByte 49 50)) (Spells IsMark) (codes "/")
      (λ s h.
      let enough = h.1.enough in
      let few = h.1.few in (
        codes " ",
        elim (cases_lt h.0 50) [
          | inl less ↦
              let is : h.0 ≡ 49 = omega arith in (
                One,
                ap (λ l. codes "/" ++ (l ++ codes " "))
                    (h.1.is_spelled ∙ ap (λ b. b ∷ []) is),
              )
          | inr more ↦
              let is : h.0 ≡ 50 = omega arith in (
                Two,
                ap (λ l. codes "/" ++ (l ++ codes " "))
                    (h.1.is_spelled ∙ ap (λ b. b ∷ []) is),
              )
        ],
      ))
      (λ s x y is e. digit s x y is.0 is.1 e)
      bytes rest lack
    where
      digit : (s x y : List ℕ) (channel : Channel) → s ≡ channel_mark channel ++ 32 ∷ []
          → codes "/" ++ x ≡ s ++ y → (t : List ℕ) × (r : List ℕ) × Spells (IsByte 49 50) t
          × (s ≡ codes "/" ++ (t ++ r))
      digit s x y Zero is e =
          let here = ap (λ (l : List ℕ). get_or l 0 0) (e ∙ ap (λ l. l ++ y) is) in
          absurd (omega (arith, here))
      digit s x y One is e =
          let one : IsByte 49 50 49 (codes "1") =
          record { enough = lit≤ tt; few = lit≤ tt; is_spelled = refl } in
          (codes "1", codes " ", (49, one), is)
      digit s x y Two is e =
          let two : IsByte 49 50 50 (codes "2") =
          record { enough = lit≤ tt; few = lit≤ tt; is_spelled = refl } in
          (codes "2", codes " ", (50, two), is)

  pub mark_lacks_space : (digit : ℕ) → (49 ≤ digit) × (digit ≤ 50)
      → bytes ≡ codes "/" ++ digit ∷ rest → Lacks (λ spelled. spelled ≡ codes " ") rest lack
      → Lacks (Spells IsMark) bytes lack
  mark_lacks_space digit range =
      lacks_at (λ spelled. spelled ≡ codes " ") (Spells IsMark) (codes "/" ++ digit ∷ [])
      (λ s h. (
        [],
        elim (cases_lt digit 50) [
          | inl less ↦
              let is : digit ≡ 49 = omega (arith, range.0) in (
                One,
                ap (λ b. codes "/" ++ (b ∷ (s ++ []))) is
                    ∙ ap (λ l. codes "/1" ++ l) (append-nil s ∙ h),
              )
          | inr more ↦
              let is : digit ≡ 50 = omega (arith, range.1) in (
                Two,
                ap (λ b. codes "/" ++ (b ∷ (s ++ []))) is
                    ∙ ap (λ l. codes "/2" ++ l) (append-nil s ∙ h),
              )
        ],
      ))
      (λ s x y is e. space s x y is.0 is.1 e)
      bytes rest lack
    where
      space : (s x y : List ℕ) (channel : Channel) → s ≡ channel_mark channel ++ 32 ∷ []
          → (codes "/" ++ digit ∷ []) ++ x ≡ s ++ y
          → (t : List ℕ) × (r : List ℕ) × (t ≡ codes " ")
          × (s ≡ (codes "/" ++ digit ∷ []) ++ (t ++ r))
      space s x y Zero is e =
          let here = ap (λ (l : List ℕ). get_or l 0 0) (e ∙ ap (λ l. l ++ y) is) in
          absurd (omega (arith, here))
      space s x y One is e =
          let here : digit ≡ 49 = ap (λ (l : List ℕ). get_or l 1 0) (e ∙ ap (λ l. l ++ y) is) in
          (codes " ", [], refl, is ∙ ap (λ b. codes "/" ++ (b ∷ codes " ")) (sym here))
      space s x y Two is e =
          let here : digit ≡ 50 = ap (λ (l : List ℕ). get_or l 1 0) (e ∙ ap (λ l. l ++ y) is) in
          (codes " ", [], refl, is ∙ ap (λ b. codes "/" ++ (b ∷ codes " ")) (sym here))

  -- ---- of an end: the one whose name the first byte can begin

  pub end_lacks : (how : How) (name : List ℕ) → name ≡ how_name how ++ (32 ∷ [])
      → ((other : How) (first : ℕ) (behind x y : List ℕ) → bytes ≡ first ∷ behind
      → first ∷ x ≡ how_name other ++ (32 ∷ y) → other ≡ how)
      → Lacks (λ spelled. spelled ≡ name) bytes lack → Lacks (Spells IsEnd) bytes lack
  end_lacks how name is only =
      lacks_chosen (λ spelled. spelled ≡ name) (Spells IsEnd)
      (λ s h. ([], (how, append-nil s ∙ h ∙ is))) bytes
      (λ b l s x y begins one e. (
        name,
        [],
        refl,
        one.1 ∙ ap (λ h. how_name h ++ (32 ∷ []))
            (only one.0 b l x y begins (e ∙ ap (λ l. l ++ y) one.1
            ∙ append_assoc (how_name one.0) (32 ∷ []) y))
            ∙ sym is ∙ sym (append-nil name),
      ))
      lack
