-- The header and the marker with which a text ends: looked for by their spelling, and read from the
-- back of the text.
use Rattle.std.proofs.Common.{◌≡◌, ℕ, ◌+◌, ◌-◌, ◌≤◌, Bool, true, false, ◌&&◌, nat_le, inl, inr}
use Rattle.std.proofs.Common.{if◌then◌else◌, Option, Some, None, List, [], ◌∷◌, ◌++◌, length, take}
use Rattle.std.proofs.Common.{drop, reverse, refl, sym, ap, ◌∙◌, ◌⊎◌, arith, length-append, subst}
use Rattle.std.specs.Option.{option_or}
use Rattle.std.specs.Prelude.{replicate}
use Rattle.std.specs.Str.{bytes_eq}
use Rattle.std.proofs.Math.Seq.{drop-append_seam}
use Rattle.std.proofs.lemmas.List.{take-append-drop, append_assoc, length-replicate}
use Rattle.std.proofs.lemmas.Bool.{and_parts, leb-true, le-leb}
use Rattle.std.proofs.lemmas.Slice.Eq.{bytes_eq-Decides}
use Rattle.std.specs.Cmp.{both_ways}
use Rattle.nx_code.specs.Lists.{last_of}
use Rattle.nx_envelope.specs.private.Reading.{nearest_identity, read_header, identity_read, ends_with}
use Rattle.nx_envelope.specs.private.Reading.{marker_read}
use Rattle.nx_envelope.specs.Header.{EndsWithHeader, EndsWithMarker, EndsWith, start_marker, end_marker}
use Rattle.nx_envelope.specs.private.Backward.{ends_in, header_back, marker_back}
use Rattle.nx_envelope.specs.Identity.{identity_bytes}
use Rattle.nx_envelope.specs.declared.found.How.{How}
use Rattle.nx_envelope.specs.declared.found.How.TheVariants.{Full, Cut, Long}
use Rattle.nx_envelope.specs.declared.identity.Identity.{Identity}
use Rattle.nx_envelope.proofs.lemmas.headers.LettersAndDigits.{nearest_identity-is}
use Rattle.nx_envelope.proofs.lemmas.headers.SpelledHeaders.{if_some, starts_both, ends_both, header_both, ends_in-true, nnnn_word, zczc_word}

-- Two that are there, or true, for the same.

same_options : {A : Type 0} (o p : Option A) → ((x : A) → o ≡ Some x → p ≡ Some x)
    → ((x : A) → p ≡ Some x → o ≡ Some x) → o ≡ p
same_options (Some x) p forth back = sym (forth x refl)
same_options None (Some y) forth back = back y refl
same_options None None forth back = refl

-- Markers.

word_forth : (word text : List ℕ) → ends_with word text ≡ true → EndsWith text word
word_forth word text e =
    let same : last_of 4 text ≡ word = (bytes_eq-Decides (last_of 4 text) word).0 e in
    record {
      front = take (length text - 4) text;
      spelled =
          sym (take-append-drop (length text - 4) text)
          ∙ ap (λ (xs : List ℕ). take (length text - 4) text ++ xs) same;
    }

word_back : (word text : List ℕ) → length word ≡ 4 → EndsWith text word → ends_with word text ≡ true
word_back word text four h =
    let long : length text - 4 ≡ length h.front =
    omega (arith, ap length h.spelled, length-append h.front word, four) in
    let same : last_of 4 text ≡ word =
    ap (λ (n : ℕ). drop n text) long ∙ ap (drop (length h.front)) h.spelled
    ∙ drop-append_seam h.front word in
    (bytes_eq-Decides (last_of 4 text) word).1 same

starts_same : (text : List ℕ) → ends_with start_marker text ≡ ends_in start_marker (reverse text)
starts_same text =
    both_ways (ends_with start_marker text) (ends_in start_marker (reverse text))
    (λ e. (starts_both text).1 (word_forth start_marker text e))
    (λ e. word_back start_marker text refl ((starts_both text).0 e))

ends_same : (text : List ℕ) → ends_with end_marker text ≡ ends_in end_marker (reverse text)
ends_same text =
    both_ways (ends_with end_marker text) (ends_in end_marker (reverse text))
    (λ e. (ends_both text).1 (word_forth end_marker text e))
    (λ e. word_back end_marker text refl ((ends_both text).0 e))

abbrev mark_of : Bool → Bool → Option How
mark_of full cut = if full then Some Full else (if cut then Some Cut else None)

pub marker_read-back : (text : List ℕ) → marker_read text ≡ marker_back (reverse text)
unfolding marker_read
marker_read-back text =
    ap (λ (full : Bool). mark_of full (ends_with start_marker text)) (ends_same text)
    ∙ ap (mark_of (ends_in end_marker (reverse text))) (starts_same text)

marks_of : (text : List ℕ) (how : How) (full cut : Bool) → ends_in end_marker (reverse text) ≡ full
    → ends_in start_marker (reverse text) ≡ cut → mark_of full cut ≡ Some how
    → EndsWithMarker text how
marks_of text Full true cut f s e = (ends_both text).0 f
marks_of text Cut true cut f s e = absurd (cc)
marks_of text Long true cut f s e = absurd (cc)
marks_of text Full false true f s e = absurd (cc)
marks_of text Cut false true f s e = (starts_both text).0 s
marks_of text Long false true f s e = absurd (cc)
marks_of text how false false f s e = absurd (cc)

pub marks : (text : List ℕ) (how : How) → marker_back (reverse text) ≡ Some how
    → EndsWithMarker text how
marks text how e = marks_of text how _ _ refl refl e

-- ZCZC is not NNNN
abbrev first_byte : List ℕ → ℕ
first_byte [] = 0
first_byte (b ∷ rest) = b

not_both : (text : List ℕ) → ends_in end_marker (reverse text) ≡ true
    → ends_in start_marker (reverse text) ≡ true → ⊥
not_both text f s =
    let n = ends_in-true 78 78 78 78 nnnn_word (reverse text) f in
    let c = ends_in-true 90 67 90 67 zczc_word (reverse text) s in
    let heads : 78 ∷ (78 ∷ 78 ∷ 78 ∷ drop 4 (reverse text))
    ≡ 67 ∷ (90 ∷ 67 ∷ 90 ∷ drop 4 (reverse text)) = sym n ∙ c in
    let same : (◌≡◌ {A = ℕ} 78 67) = ap first_byte heads in
    omega (arith, same)

cut_only : (text : List ℕ) (full : Bool) → ends_in end_marker (reverse text) ≡ full
    → ends_in start_marker (reverse text) ≡ true → marker_back (reverse text) ≡ Some Cut
cut_only text true f s = absurd (not_both text f s)
cut_only text false f s = rw (f, s) refl

pub marker_is : (text : List ℕ) (how : How) → EndsWithMarker text how
    → marker_back (reverse text) ≡ Some how
marker_is text Full h = let end = (ends_both text).1 h in rw end refl
marker_is text Cut h = cut_only text _ refl ((starts_both text).1 h)
marker_is text Long h = absurd h

-- so the marker that is read is the one that is spelled
pub marker_spelled : (text : List ℕ) (how : How)
    → (marker_read text ≡ Some how → EndsWithMarker text how)
    × (EndsWithMarker text how → marker_read text ≡ Some how)
marker_spelled text how =
    let same : marker_read text ≡ marker_back (reverse text) = marker_read-back text in
    (λ e. marks text how (sym same ∙ e), λ h. same ∙ marker_is text how h)

-- Headers: what is read is spelled.

or_cases : {A : Type 0} (o p : Option A) (x : A) → option_or o p ≡ Some x
    → (o ≡ Some x) ⊎ (p ≡ Some x)
or_cases (Some y) p x e = inl e
or_cases None p x e = inr e

header_forth : (text : List ℕ) (i : Identity) → read_header text ≡ Some i → EndsWithHeader text i
unfolding read_header
header_forth text i e =
    let near : Identity = nearest_identity (last_of 4 text) in
    let spelled : List ℕ = start_marker ++ replicate (length text - 8) 32 ++ identity_bytes near in
    let p = if_some (bytes_eq text spelled && nat_le 9 (length text)) (Some near) i e in
    let q = and_parts (bytes_eq text spelled) (nat_le 9 (length text)) p.0 in
    let same : near ≡ i = let r = p.1 in cc in
    let long : 9 ≤ length text = leb-true 9 (length text) q.1 in
    let more : length text - 8 ≡ length text - 9 + 1 = omega arith in
    let is : text ≡ spelled = (bytes_eq-Decides text spelled).0 q.0 in
    let whole : text ≡ start_marker ++ replicate (length text - 9 + 1) 32 ++ identity_bytes i =
    is ∙ ap (λ (n : ℕ). start_marker ++ replicate n 32 ++ identity_bytes near) more
    ∙ ap (λ (j : Identity). start_marker ++ replicate (length text - 9 + 1) 32 ++ identity_bytes j)
    same in
    record { front = []; more_spaces = length text - 9; spelled = whole }

behind : (b : ℕ) (text : List ℕ) (i : Identity) → EndsWithHeader text i
    → EndsWithHeader (b ∷ text) i
behind b text i h = record {
  front = b ∷ h.front;
  more_spaces = h.more_spaces;
  spelled =
      ap (λ (xs : List ℕ). b ∷ xs) h.spelled;
}

forth : (text : List ℕ) (i : Identity) → identity_read text ≡ Some i → EndsWithHeader text i
unfolding identity_read
forth [] i e = absurd (cc)
forth (b ∷ text) i e = elim (or_cases (read_header (b ∷ text)) (identity_read text) i e) [
  | inl here ↦ header_forth (b ∷ text) i here
  | inr later ↦ behind b text i (forth text i later)
]

-- Where a header is spelled one is read, and it is that one.

record Gives {A : Type 0} (o : Option A) : Type 0 where
  it : A
  is : o ≡ Some it

gives_first : {A : Type 0} (o p : Option A) → Gives o → Gives (option_or o p)
gives_first o p g = record { it = g.it; is = rw g.is refl }

gives_second : {A : Type 0} (o p : Option A) → Gives p → Gives (option_or o p)
gives_second (Some x) p g = record { it = x; is = refl }
gives_second None p g = g

last_is : (front back : List ℕ) → length back ≡ 4 → last_of 4 (front ++ back) ≡ back
last_is front back four =
    let long : length (front ++ back) - 4 ≡ length front =
    omega (arith, length-append front back, four) in
    ap (λ (n : ℕ). drop n (front ++ back)) long ∙ drop-append_seam front back

header_spelled : (text spaces : List ℕ) (i : Identity)
    → (text ≡ (start_marker ++ spaces) ++ identity_bytes i) → nearest_identity (last_of 4 text) ≡ i
header_spelled text spaces i e =
    ap (λ (xs : List ℕ). nearest_identity (last_of 4 xs)) e
    ∙ ap nearest_identity (last_is (start_marker ++ spaces) (identity_bytes i) refl)
    ∙ nearest_identity-is i

header_reads : (n : ℕ) (i : Identity)
    → Gives (read_header (start_marker ++ (replicate (n + 1) 32 ++ identity_bytes i)))
unfolding read_header
header_reads n i =
    let spaces : List ℕ = replicate (n + 1) 32 in
    let text : List ℕ = start_marker ++ (spaces ++ identity_bytes i) in
    let joined : text ≡ (start_marker ++ spaces) ++ identity_bytes i =
    sym (append_assoc start_marker spaces (identity_bytes i)) in
    let near : nearest_identity (last_of 4 text) ≡ i = header_spelled text spaces i joined in
    let room : length spaces ≡ n + 1 = length-replicate (n + 1) 32 in
    let long : length text ≡ n + 9 = omega (arith, length-append spaces (identity_bytes i), room) in
    let count : length text - 8 ≡ n + 1 = omega (arith, long) in
    let P : ℕ → Identity → Type 0 =
    λ (k : ℕ) (j : Identity).
    (bytes_eq text (start_marker ++ replicate k 32 ++ identity_bytes j)
    && nat_le 9 (length text)) ≡ true in
    let same : bytes_eq text (start_marker ++ spaces ++ identity_bytes i) ≡ true =
    (bytes_eq-Decides text (start_marker ++ spaces ++ identity_bytes i)).1 joined in
    let enough : nat_le 9 (length text) ≡ true = le-leb 9 (length text) (omega (arith, long)) in
    let here : P (n + 1) i = rw (same, enough) refl in
    let holds : P (length text - 8) (nearest_identity (last_of 4 text)) =
    subst (λ (k : ℕ). P k (nearest_identity (last_of 4 text))) (sym count)
    (subst (P (n + 1)) (sym near) here) in
    record { it = nearest_identity (last_of 4 text); is = rw holds refl }

end_reads : (front : List ℕ) (n : ℕ) (i : Identity)
    → Gives (identity_read (front
    ++ (start_marker ++ (replicate (n + 1) 32 ++ identity_bytes i))))
unfolding identity_read
end_reads [] n i = gives_first _ _ (header_reads n i)
end_reads (b ∷ front) n i = gives_second _ _ (end_reads front n i)

back : (text : List ℕ) (i : Identity) → EndsWithHeader text i → identity_read text ≡ Some i
back text i h =
    let spaces : List ℕ = replicate (h.more_spaces + 1) 32 in
    let joined : text ≡ h.front ++ (start_marker ++ (spaces ++ identity_bytes i)) =
    h.spelled
    ∙ append_assoc (h.front ++ start_marker) spaces (identity_bytes i)
    ∙ append_assoc h.front start_marker (spaces ++ identity_bytes i) in
    let g = end_reads h.front h.more_spaces i in
    let reads : identity_read text ≡ Some g.it = ap identity_read joined ∙ g.is in
    let one : header_back (reverse text) ≡ Some i = (header_both text i).1 h in
    let other : header_back (reverse text) ≡ Some g.it =
    (header_both text g.it).1 (forth text g.it reads) in
    reads ∙ sym other ∙ one

pub identity_spelled_at_end : (text : List ℕ) (i : Identity)
    → (identity_read text ≡ Some i → EndsWithHeader text i)
    × (EndsWithHeader text i → identity_read text ≡ Some i)
identity_spelled_at_end text i = (forth text i, back text i)

pub identity_read-back : (text : List ℕ) → identity_read text ≡ header_back (reverse text)
identity_read-back text =
    same_options (identity_read text) (header_back (reverse text))
    (λ i e. (header_both text i).1 (forth text i e))
    (λ i e. back text i ((header_both text i).0 e))
