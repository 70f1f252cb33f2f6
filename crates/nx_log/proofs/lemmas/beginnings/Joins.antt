-- What bytes lack of an entry, by what they lack of a piece of it.
use Rattle.std.proofs.Common.{◌≡◌, ℕ, List, [], ◌∷◌, ◌++◌, ap, sym, ◌∙◌, refl, subst, append-nil, append_assoc}
use Rattle.std.proofs.lemmas.List.{append_cancel_left, append_cancel_right}
use Rattle.nx_log.specs.private.Stages.{CanEnd, Joined, Lacks, NeverBegin, Spells}
use Rattle.nx_log.specs.declared.entries.lack.Lack.{Lack}
use Rattle.nx_log.specs.declared.entries.lack.Lack.TheVariants.{Unfinished, Broken}
use Rattle.nx_log.proofs.lemmas.beginnings.Lists.{left_nil}

-- behind some bytes each piece goes on to one of these, and each of these has a piece there
module _ (piece is : List ℕ → Type 0) (front : List ℕ)
    (goes_on : (s : List ℕ) → piece s → (r : List ℕ) × is (front ++ (s ++ r))) where
  pub can_behind : (bytes : List ℕ) → CanEnd piece bytes → CanEnd is (front ++ bytes)
  can_behind bytes c =
      let on = goes_on (bytes ++ c.0) c.1 in (
        c.0 ++ on.0,
        subst is (simp append_assoc) on.1,
        λ n. c.2 (left_nil c.0 on.0 n),
      )

  module _ (begins : (s x y : List ℕ) → is s → front ++ x ≡ s ++ y
      → (t : List ℕ) × (r : List ℕ) × piece t × (s ≡ front ++ (t ++ r))) where
    never_behind : (bytes : List ℕ) → NeverBegin piece bytes → NeverBegin is (front ++ bytes)
    never_behind bytes never more s y h e =
        let whole = sym (append_assoc front bytes more) ∙ e in
        let b = begins s (bytes ++ more) y h whole in
        never more b.0 (b.1 ++ y) b.2 (append_cancel_left front _ _
        (whole ∙ ap (λ l. l ++ y) b.3 ∙ simp append_assoc))

    -- so what is lacked of a piece there is lacked of these
    pub lacks_at : (bytes rest : List ℕ) (lack : Lack) → bytes ≡ front ++ rest
        → Lacks piece rest lack → Lacks is bytes lack
    lacks_at bytes rest Unfinished e l = subst (CanEnd is) (sym e) (can_behind rest l)
    lacks_at bytes rest (Broken left) e l = record {
      front = front ++ l.front;
      byte = l.byte;
      behind = l.behind;
      split = e ∙ ap (λ b. front ++ b) l.split ∙ sym (append_assoc front l.front left.now);
      first = l.first;
      can = can_behind l.front l.can;
      never = subst (NeverBegin is) (sym (append_assoc front l.front (l.byte ∷ [])))
          (never_behind (l.front ++ l.byte ∷ []) l.never);
    }

-- what is the same is lacked so
pub lacks_same : (is that : List ℕ → Type 0) (bytes : List ℕ) (lack : Lack)
    → ((spelled : List ℕ) → is spelled → that spelled)
    → ((spelled : List ℕ) → that spelled → is spelled)
    → Lacks is bytes lack → Lacks that bytes lack
lacks_same is that bytes lack to from =
    lacks_at is that [] (λ s h. ([], to (s ++ []) (subst is (sym (append-nil s)) h)))
    (λ s x y h e. (s, [], from s h, sym (append-nil s))) bytes bytes lack refl

-- of these the first byte decides: those that the bytes can begin are chosen
module _ (chosen is : List ℕ → Type 0) (goes_on : (s : List ℕ) → chosen s
    → (r : List ℕ) × is (s ++ r)) (bytes : List ℕ)
    (only : (b : ℕ) (l s x y : List ℕ) → bytes ≡ b ∷ l → is s → b ∷ x ≡ s ++ y
    → (t : List ℕ) × (r : List ℕ) × chosen t × (s ≡ t ++ r)) where
  never_chosen : (front behind : List ℕ) (byte : ℕ) → bytes ≡ front ++ byte ∷ behind
      → NeverBegin chosen (front ++ byte ∷ []) → NeverBegin is (front ++ byte ∷ [])
  never_chosen [] behind byte split never more s y h e =
      let o = only byte behind s more y split h e in
      never more o.0 (o.1 ++ y) o.2 (e ∙ ap (λ l. l ++ y) o.3 ∙ append_assoc o.0 o.1 y)
  never_chosen (b ∷ front) behind byte split never more s y h e =
      let o = only b (front ++ byte ∷ behind) s ((front ++ byte ∷ []) ++ more) y split h e in
      never more o.0 (o.1 ++ y) o.2 (e ∙ ap (λ l. l ++ y) o.3 ∙ append_assoc o.0 o.1 y)

  pub lacks_chosen : (lack : Lack) → Lacks chosen bytes lack → Lacks is bytes lack
  lacks_chosen Unfinished l = can_behind chosen is [] goes_on bytes l
  lacks_chosen (Broken left) l = record {
    front = l.front;
    byte = l.byte;
    behind = l.behind;
    split = l.split;
    first = l.first;
    can = can_behind chosen is [] goes_on l.front l.can;
    never = never_chosen l.front l.behind l.byte (l.split ∙ ap (λ b. l.front ++ b) l.first)
        l.never;
  }

module _ {A : Type 0} (piece_is : A → List ℕ → Type 0) (rest_is : A → List ℕ → Type 0)
  where
    -- a piece, and what stands behind it
    pub join : (piece : A) (spelled rest : List ℕ) → piece_is piece spelled → rest_is piece rest
        → Joined piece_is rest_is (spelled ++ rest)
    join piece spelled rest is behind = record {
      piece = piece;
      spelled = spelled;
      rest = rest;
      is_piece = is;
      is_rest = behind;
      split = refl;
    }

    pub some_joined : (piece : A) (spelled : List ℕ) → piece_is piece spelled
        → (rest : List ℕ) × rest_is piece rest → (bytes : List ℕ) × Joined piece_is rest_is bytes
    some_joined piece spelled is behind =
        (spelled ++ behind.0, join piece spelled behind.0 is behind.1)

    -- behind a whole piece the bytes lack what they lack there
    pub lacks_behind : (bytes : List ℕ) (lack : Lack) (piece : A) (spelled rest : List ℕ)
        → piece_is piece spelled → bytes ≡ spelled ++ rest
        → ((other : A) (t x y : List ℕ) → piece_is other t → spelled ++ x ≡ t ++ y
        → (x ≡ y) × ((l : List ℕ) → rest_is other l → rest_is piece l))
        → Lacks (rest_is piece) rest lack → Lacks (Joined piece_is rest_is) bytes lack
    lacks_behind bytes lack piece spelled rest is split same =
        lacks_at (rest_is piece) (Joined piece_is rest_is) spelled
        (λ s h. (
          [],
          join piece spelled (s ++ []) is (subst (rest_is piece) (sym (append-nil s)) h),
        ))
        (λ s x y j e.
        let whole = e ∙ ap (λ b. b ++ y) j.split ∙ append_assoc j.spelled j.rest y in
        let one = same j.piece j.spelled x (j.rest ++ y) j.is_piece whole in
        let spelling = append_cancel_right spelled j.spelled (j.rest ++ y)
        (ap (λ l. spelled ++ l) (sym one.0) ∙ whole) in (
          j.rest,
          [],
          one.1 j.rest j.is_rest,
          j.split ∙ ap (λ l. l ++ j.rest) (sym spelling)
              ∙ ap (λ l. spelled ++ l) (sym (append-nil j.rest)),
        ))
        bytes rest lack split

    -- where no whole piece stands, they lack what they lack of it
    pub lacks_within : (bytes : List ℕ) (lack : Lack)
        → ((piece : A) (spelled : List ℕ) → piece_is piece spelled
        → (rest : List ℕ) × rest_is piece rest)
        → Lacks (Spells piece_is) bytes lack → Lacks (Joined piece_is rest_is) bytes lack
    lacks_within bytes lack some =
        lacks_at (Spells piece_is) (Joined piece_is rest_is) []
        (λ s h. let behind = some h.0 s h.1 in (behind.0, join h.0 s behind.0 h.1 behind.1))
        (λ s x y j e. (j.spelled, j.rest, (j.piece, j.is_piece), j.split))
        bytes bytes lack refl
