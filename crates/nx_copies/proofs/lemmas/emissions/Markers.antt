-- No marker ends in the text of a message or in the first three letters of the marker behind it.
use Rattle.std.proofs.Common.{◌≡◌, ◌≢◌, ℕ, ◌+◌, ◌-◌, ◌<◌, List, [], ◌∷◌, ◌++◌, length, take, drop}
use Rattle.std.proofs.Common.{refl, sym, ap, ◌∙◌, subst, arith, inl, inr, append_assoc, Some}
use Rattle.std.specs.List.{All}
use Rattle.std.proofs.lemmas.Bool.{cases_lt}
use Rattle.std.proofs.lemmas.List.{length-append, length-take, take_at, drop_at, drop-append-le}
use Rattle.std.proofs.lemmas.List.{drop-drop, take-append-drop}
use Rattle.std.proofs.lemmas.List.Elements.{All-head, All-tail}
use Rattle.nx_envelope.specs.Copies.{Ending, ending_of}
use Rattle.nx_envelope.specs.Ending.{MarkerEndsAt}
use Rattle.nx_envelope.specs.Header.{EndsWith, HoldsWord, start_marker, end_marker}
use Rattle.nx_envelope.specs.Message.{AreLines, text_of}
use Rattle.nx_envelope.specs.declared.found.How.{How}
use Rattle.nx_envelope.specs.declared.found.How.TheVariants.{Full, Cut, Long}
use Rattle.nx_envelope.proofs.lemmas.copies.Endings.{ended_both}

-- a word of four letters, none of them a newline
pub record IsWord (word : List ℕ) : Type 0 where
  pub a : ℕ
  pub b : ℕ
  pub c : ℕ
  pub d : ℕ
  pub spelled : word ≡ a ∷ b ∷ c ∷ d ∷ []
  pub first : a ≢ 10
  pub second : b ≢ 10
  pub third : c ≢ 10
  pub fourth : d ≢ 10

pub start_word : IsWord start_marker
start_word =
    record {
      a = 90;
      b = 67;
      c = 90;
      d = 67;
      spelled = refl;
      first =
          λ e. absurd (omega (arith, e));
      second = λ e. absurd (omega (arith, e));
      third =
          λ e. absurd (omega (arith, e));
      fourth = λ e. absurd (omega (arith, e));
    }

end_word : IsWord end_marker
end_word =
    record {
      a = 78;
      b = 78;
      c = 78;
      d = 78;
      spelled = refl;
      first =
          λ e. absurd (omega (arith, e));
      second = λ e. absurd (omega (arith, e));
      third =
          λ e. absurd (omega (arith, e));
      fourth = λ e. absurd (omega (arith, e));
    }

-- where such a word begins before a newline, it ends before it
pub record Begins (word line : List ℕ) : Type 0 where
  pub rest : List ℕ
  pub whole : line ≡ word ++ rest

begins_four : (a b c d : ℕ) (line rest back : List ℕ) → a ≢ 10 → b ≢ 10 → c ≢ 10 → d ≢ 10
    → line ++ 10 ∷ rest ≡ a ∷ b ∷ c ∷ d ∷ back → Begins (a ∷ b ∷ c ∷ d ∷ []) line
begins_four a b c d [] rest back na nb nc nd e = let same : a ≡ 10 = cc in absurd (na same)
begins_four a b c d (w ∷ []) rest back na nb nc nd e = let same : b ≡ 10 = cc in absurd (nb same)
begins_four a b c d (w ∷ x ∷ []) rest back na nb nc nd e = let same : c ≡ 10 = cc in
    absurd (nc same)
begins_four a b c d (w ∷ x ∷ y ∷ []) rest back na nb nc nd e = let same : d ≡ 10 = cc in
    absurd (nd same)
begins_four a b c d (w ∷ x ∷ y ∷ z ∷ line) rest back na nb nc nd e =
    record { rest = line; whole = cc }

pub begins_word : (word line rest back : List ℕ) → IsWord word → line ++ 10 ∷ rest ≡ word ++ back
    → Begins word line
begins_word word line rest back is e =
    let spelled : line ++ 10 ∷ rest ≡ is.a ∷ is.b ∷ is.c ∷ is.d ∷ back =
    e ∙ ap (λ w. w ++ back) is.spelled in
    subst (λ (w : List ℕ). Begins w line) (sym is.spelled)
    (begins_four is.a is.b is.c is.d line rest back is.first is.second is.third is.fourth
    spelled)

-- no line holds the word
abbrev pub LackWord : List ℕ → List (List ℕ) → Type 0
LackWord word lines = All (λ (line : List ℕ). ¬ HoldsWord word line) lines

-- then it begins nowhere in the text of the lines
pub begins_nowhere : (word : List ℕ) → IsWord word → (lines : List (List ℕ)) → LackWord word lines
    → (k : ℕ) (rest back : List ℕ) → k < length (text_of lines)
    → drop k (text_of lines ++ rest) ≡ word ++ back → ⊥
begins_nowhere word is [] lack k rest back lt e = omega arith
begins_nowhere word is (line ∷ lines) lack k rest back lt e =
    let more = text_of lines ++ rest in
    let whole : text_of (line ∷ lines) ++ rest ≡ line ++ 10 ∷ more =
    append_assoc (line ++ 10 ∷ []) (text_of lines) rest
    ∙ append_assoc line (10 ∷ []) more in
    elim (cases_lt (length line) k) [
      | inl beyond ↦
          let over : (length line + 1) + (k - (length line + 1)) ≡ k = omega arith in
          let long : length (text_of (line ∷ lines)) ≡ length line + 1 + length (text_of lines) =
          simp length-append in
          let behind : drop (length line + 1) (line ++ 10 ∷ more) ≡ more =
          ap (drop (length line + 1)) (sym (append_assoc line (10 ∷ []) more))
          ∙ drop_at (line ++ 10 ∷ []) more (length line + 1) (length-append line (10 ∷ [])) in
          let there : drop (k - (length line + 1)) more ≡ word ++ back =
          ap (drop (k - (length line + 1))) (sym behind)
          ∙ drop-drop (k - (length line + 1)) (length line + 1) (line ++ 10 ∷ more)
          ∙ ap (λ j. drop j (line ++ 10 ∷ more)) over ∙ ap (drop k) (sym whole) ∙ e in
          begins_nowhere word is lines
          (All-tail (λ (l : List ℕ). ¬ HoldsWord word l) line lines lack)
          (k - (length line + 1)) rest back (omega arith) there
      | inr within ↦
          let here : drop k line ++ 10 ∷ more ≡ word ++ back =
          sym (drop-append-le k line (10 ∷ more) within)
          ∙ ap (drop k) (sym whole) ∙ e in
          let b = begins_word word (drop k line) more back is here in
          All-head (λ (l : List ℕ). ¬ HoldsWord word l) line lines lack (record {
            front = take k line;
            back = b.rest;
            spelled = sym (take-append-drop k line) ∙ ap (λ l. take k line ++ l) b.whole
                ∙ sym (append_assoc (take k line) word b.rest);
          })
    ]

-- so no beginning of the text and three letters more ends with it
ends_nowhere : (word : List ℕ) → IsWord word → (lines : List (List ℕ)) → LackWord word lines
    → (rest : List ℕ) (place : ℕ) → place < length (text_of lines) + 4
    → ¬ EndsWith (take place (text_of lines ++ rest)) word
ends_nowhere word is lines lack rest place lt h =
    let raw = text_of lines ++ rest in
    let four : length word ≡ 4 = ap length is.spelled in
    let long : length h.front + length word ≡ length (take place raw) =
    sym (length-append h.front word)
    ∙ ap length (sym h.spelled) in
    let short = length-take place raw in
    let whole : raw ≡ h.front ++ (word ++ drop place raw) = sym (take-append-drop place raw)
    ∙ ap (λ l. l ++ drop place raw) h.spelled ∙ append_assoc h.front word (drop place raw) in
    begins_nowhere word is lines lack (length h.front) rest (drop place raw) (omega arith)
    (ap (drop (length h.front)) whole
    ∙ drop_at h.front (word ++ drop place raw) (length h.front) refl)

pub lack_start : (lines : List (List ℕ)) → AreLines lines → LackWord start_marker lines
lack_start lines good k d lt h = (good.each k d lt).unreserved (inl h)

lack_end : (lines : List (List ℕ)) → AreLines lines → LackWord end_marker lines
lack_end lines good k d lt h = (good.each k d lt).unreserved (inr h)

ends_none : (lines : List (List ℕ)) → AreLines lines → (rest : List ℕ) (place : ℕ) (how : How)
    → place < length (text_of lines) + 4 → ¬ MarkerEndsAt (text_of lines ++ rest) place how
ends_none lines good rest place Full lt h =
    ends_nowhere end_marker end_word lines (lack_end lines good) rest place lt h
ends_none lines good rest place Cut lt h =
    ends_nowhere start_marker start_word lines (lack_start lines good) rest place lt h
ends_none lines good rest place Long lt h = h

-- the ending of a copy that is full, with the text of these lines
abbrev pub full_text : List (List ℕ) → Ending
full_text lines = record { how = Full; text = text_of lines }

-- The copy of a message is full, and its text is the message's.
pub full_ending : (lines : List (List ℕ)) → AreLines lines → (rest : List ℕ)
    → ending_of (text_of lines ++ (end_marker ++ rest)) ≡ Some (full_text lines)
full_ending lines good rest =
    let body = text_of lines in
    let raw = body ++ (end_marker ++ rest) in
    let long : length raw ≡ length body + (4 + length rest) = simp length-append in
    let up_to : take (length body + 4) raw ≡ body ++ end_marker =
    ap (take (length body + 4)) (sym (append_assoc body end_marker rest))
    ∙ take_at (body ++ end_marker) rest (length body + 4) (length-append body end_marker) in
    let at : length body + 4 - 4 ≡ length body = omega arith in
    (ended_both raw (full_text lines)).1 (inl (record {
      place = length body + 4;
      within = omega arith;
      in_reach = omega (arith, good.fits);
      marker = record { front = body; spelled = up_to };
      least = λ earlier how lt. ends_none lines good (end_marker ++ rest) earlier how lt;
      text = sym (take_at body (end_marker ++ rest) (length body) refl)
          ∙ ap (λ n. take n raw) (sym at);
    }))
