-- A whole copy of sendings that arrive as what was sent has the text that was sent.
use Rattle.std.proofs.Common.{◌≡◌, ◌⊎◌, inl, inr, ℕ, Bool, true, false, if◌then◌else◌, Option, Some, None}
use Rattle.std.proofs.Common.{List, [], ◌∷◌, map, refl, sym, ap, ◌∙◌, subst}
use Rattle.std.proofs.lemmas.Option.{slice_get-map}
use Rattle.std.specs.Prelude.{◌==◌, fold, slice_get}
use Rattle.std.specs.List.{AllByRecursion}
use Rattle.std.specs.Option.{option_map}
use Rattle.nx_code.specs.Reading.{Reception, combination, idle, lost}
use Rattle.nx_envelope.specs.Copies.{Ending, errors_of}
use Rattle.nx_envelope.specs.declared.found.How.TheVariants.{Full}
use Rattle.nx_copies.specs.copies.FoundCopies.{TaggedCopy}
use Rattle.nx_combine.specs.CopyPositions.{HeardCopy}
use Rattle.nx_combine.specs.Families.{CombinedCopy, given_by}
use Rattle.nx_combine.specs.Joining.{joined, joined_position}
use Rattle.nx_combine.specs.Laws.{AreAllTakenAlike, AreTakenAlike, Arrives, CameThrough, IsHeardOf}
use Rattle.nx_combine.specs.Laws.{IsNeverIdle, IsWhole, IsWholeCopy, LosesNoIdle, joined_where}
use Rattle.nx_combine.specs.Laws.{text_sent}
use Rattle.nx_combine.specs.PositionEnds.{ending_by, has_ended}
use Rattle.nx_combine.proofs.lemmas.Combine.{how_given, text_given}
use Rattle.nx_combine.proofs.lemmas.Joined.{slice_get-joined}
use Rattle.nx_combine.proofs.lemmas.Together.{heard_joined, together_whole}
use Rattle.nx_combine.proofs.lemmas.Whole.{whole_stays}

-- What is joined of copies that are never idle isn't either.

idle_if : (m : ℕ) (b : Bool) → (if b then combination m else lost) ≡ idle → ⊥
idle_if m true is = let contra : combination m ≡ idle = is in cc
idle_if m false is = let contra : lost ≡ idle = is in cc

idle_position : (x y : Reception) → joined_position x y ≡ idle → (x ≡ idle) ⊎ (y ≡ idle)
idle_position (combination m) (combination n) is = absurd (idle_if m (m == n) is)
idle_position (combination m) idle is = inl is
idle_position (combination m) lost is = inl is
idle_position idle (combination n) is = inr is
idle_position idle idle is = inl is
idle_position idle lost is = inl refl
idle_position lost (combination n) is = inr is
idle_position lost idle is = inr refl
idle_position lost lost is = inl is

idle_where : (o p : Option Reception) → joined_where o p ≡ Some idle
    → (o ≡ Some idle) ⊎ (p ≡ Some idle)
idle_where None p is = inr is
idle_where (Some x) None is = inl is
idle_where (Some x) (Some y) is =
    let inside : joined_position x y ≡ idle = cc in
    elim (idle_position x y inside) [
      | inl one ↦ inl (ap Some one)
      | inr other ↦ inr (ap Some other)
    ]

idle_joined : (sent : List ℕ) (first second : List Reception) → IsNeverIdle sent first
    → IsNeverIdle sent second → IsNeverIdle sent (joined first second)
idle_joined sent first second one other index number there is =
    elim (idle_where (slice_get first index) (slice_get second index)
    (sym (slice_get-joined first second index) ∙ is)) [
      | inl has ↦ one index number there has
      | inr has ↦ other index number there has
    ]

pub idle_all : (sent : List ℕ) (so_far : List Reception) (copies : List (List Reception))
    → IsNeverIdle sent so_far → AllByRecursion (IsNeverIdle sent) copies
    → IsNeverIdle sent (fold joined so_far copies)
idle_all sent so_far [] one each = one
idle_all sent so_far (c ∷ copies) one each =
    idle_all sent (joined so_far c) copies (idle_joined sent so_far c one each.0) each.1

pub heard_all : (sent : List ℕ) (so_far : List Reception) (copies : List (List Reception))
    → IsHeardOf sent so_far → AllByRecursion (IsHeardOf sent) copies
    → IsHeardOf sent (fold joined so_far copies)
heard_all sent so_far [] one each = one
heard_all sent so_far (c ∷ copies) one each =
    heard_all sent (joined so_far c) copies (heard_joined sent so_far c one each.0) each.1

pub none_idle : (sent : List ℕ) → IsNeverIdle sent []
none_idle sent index number there is = let contra : None ≡ Some idle = is in cc

-- What was sent, as positions.

sent_if : (o : Option ℕ) (y : Reception) → option_map combination o ≡ Some y
    → (number : ℕ) × ((o ≡ Some number) × (y ≡ combination number))
sent_if None y is = absurd (let contra : None ≡ Some y = is in cc)
sent_if (Some number) y is =
    let same : combination number ≡ y = cc in (number, (refl, sym same))

sent_at : (sent : List ℕ) (index : ℕ) (y : Reception)
    → slice_get (map combination sent) index ≡ Some y
    → (number : ℕ) × ((slice_get sent index ≡ Some number) × (y ≡ combination number))
sent_at sent index y is =
    sent_if (slice_get sent index) y (sym (slice_get-map combination sent index) ∙ is)

alike_at : (sent : List ℕ) (positions : List Reception) (index number : ℕ) (x : Reception)
    → IsHeardOf sent positions → IsNeverIdle sent positions → slice_get sent index ≡ Some number
    → slice_get positions index ≡ Some x → AreTakenAlike x (combination number)
alike_at sent positions index number (combination m) heard never there has =
    heard index number m there has
alike_at sent positions index number idle heard never there has = never index number there has
alike_at sent positions index number lost heard never there has = tt

-- whole positions that agree with what was sent give its text
pub sent_ending : (sent : List ℕ) (positions : List Reception) → IsHeardOf sent positions
    → IsNeverIdle sent positions → IsWhole positions → has_ended (map combination sent) ≡ true
    → ending_by positions ≡ ending_by (map combination sent)
unfolding joined
sent_ending sent positions heard never whole ended =
    let all : List Reception = map combination sent in
    let alike : AreAllTakenAlike positions all =
    λ index x y has there.
    let at = sent_at sent index y there in
    subst (AreTakenAlike x) (sym at.1.1)
    (alike_at sent positions index at.0 x heard never at.1.0 has) in
    let loses : LosesNoIdle positions all =
    λ index has there.
    let at = sent_at sent index lost there in
    let contra : lost ≡ combination at.0 = at.1.1 in cc in
    let own : IsHeardOf sent all =
    λ index number taken there has.
    let at = sent_at sent index (combination taken) has in
    let one : Some number ≡ Some at.0 = sym there ∙ at.1.0 in
    let two : combination taken ≡ combination at.0 = at.1.1 in cc in
    let came : CameThrough sent (positions ∷ all ∷ []) =
    λ index number there.
    inr (inl (slice_get-map combination sent index ∙ ap (option_map combination) there)) in
    sym (whole_stays positions all alike loses whole)
    ∙ together_whole sent (positions ∷ all ∷ []) ended (heard, (own, tt)) came

text_by : (sent : List ℕ) (positions : List Reception) (copy : TaggedCopy) (one : CombinedCopy)
    → one.copy ≡ given_by positions copy → IsWholeCopy one → IsHeardOf sent positions
    → IsNeverIdle sent positions → has_ended (map combination sent) ≡ true
    → one.copy.text ≡ text_sent sent
text_by sent positions copy one is whole heard never ended =
    let by : IsWhole positions = record {
      full = sym (ap (λ (t : TaggedCopy). t.how) is ∙ how_given positions copy) ∙ whole.full;
      no_error = sym (ap (λ (t : TaggedCopy). errors_of t.text) is
          ∙ ap errors_of (text_given positions copy)) ∙ whole.no_error;
    } in
    ap (λ (t : TaggedCopy). t.text) is
    ∙ text_given positions copy
    ∙ ap (λ (e : Ending). e.text) (sent_ending sent positions heard never by ended)

-- a whole combined copy has the text that was sent
pub letters_if : (sent : List ℕ) (positions : List Reception) (heard : HeardCopy)
    (one : CombinedCopy) (b : Bool)
    → one.copy ≡ (if b then heard.copy else given_by positions heard.copy) → IsWholeCopy one
    → IsHeardOf sent positions → IsNeverIdle sent positions → IsHeardOf sent heard.positions
    → Arrives sent heard → has_ended (map combination sent) ≡ true
    → one.copy.text ≡ text_sent sent
letters_if sent positions heard one true is whole all never own arrives ended =
    let full : heard.copy.how ≡ Full = ap (λ (t : TaggedCopy). t.how) (sym is) ∙ whole.full in
    text_by sent heard.positions heard.copy one (is ∙ arrives.full full) whole own
    arrives.never_idle ended
letters_if sent positions heard one false is whole all never own arrives ended =
    text_by sent positions heard.copy one is whole all never ended
