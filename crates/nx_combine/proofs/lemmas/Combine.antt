-- What a call that combines a copy answers, by what becomes of the copy.
use Rattle.std.proofs.Common.{◌≡◌, ℕ, ◌+◌, ◌-◌, Bool, true, false, if◌then◌else◌, Option, Some}
use Rattle.std.proofs.Common.{None, is_some, not}
use Rattle.std.proofs.Common.{List, [], ◌∷◌, length, take, refl, sym, ap, ap₂, ◌∙◌, arith}
use Rattle.std.specs.Option.{option_map_or}
use Rattle.std.proofs.Math.ListN.{set}
use Rattle.std.proofs.lemmas.List.{length-set}
use Rattle.std.proofs.lemmas.Option.{slice_get_within}
use Rattle.circular_buffer.proofs.Places.{slice_get-set_same}
use Rattle.std.specs.Prelude.{slice_get, IfSome}
use Rattle.nx_code.specs.Reading.{Reception}
use Rattle.nx_envelope.specs.Copies.{Copy, errors_of}
use Rattle.nx_envelope.specs.Finder.{HasReady}
use Rattle.nx_envelope.specs.Found.{IsHeadOf}
use Rattle.nx_envelope.specs.declared.finder.Finder.{Finder}
use Rattle.nx_envelope.specs.declared.found.FoundHead.{FoundHead}
use Rattle.nx_envelope.specs.declared.identity.Identity.{Identity}
use Rattle.nx_copies.specs.copies.FoundCopies.{TaggedCopy, headed_copy}
use Rattle.nx_copies.specs.copies.Printing.{is_better}
use Rattle.nx_copies.specs.declared.entry.EntryHead.{EntryHead}
use Rattle.nx_combine.specs.Combining.{IsCombined, begun_with, meant}
use Rattle.nx_combine.specs.CopyPositions.{HeardCopy}
use Rattle.nx_combine.specs.Families.{CombinedCopy, Family, begun_by, combined}
use Rattle.nx_combine.specs.Families.{combined_copy_holding}
use Rattle.nx_combine.specs.Families.{families_after_holding, given_by}
use Rattle.nx_combine.specs.Families.{has_family, index_joined_holding, joined_at, joined_by}
use Rattle.nx_combine.specs.Families.{sendings_of}
use Rattle.nx_combine.specs.PositionEnds.{HasRead, ending_by}
use Rattle.nx_combine.proofs.lemmas.Held.{begins_one, index_joined-take}
use Rattle.nx_combine.proofs.lemmas.Held.{joined_at-take, joined_at_index, joins_one, no_family}
use Rattle.nx_combine.proofs.lemmas.Held.{take-pushed, there-take}

-- What is given in place of a copy.

-- the head that the finder gives says how the positions ended, and their errors
pub record Gives (found : FoundHead) (positions : List Reception) : Type 0 where
  pub how : found.how ≡ (ending_by positions).how
  pub errors : found.errors ≡ errors_of (ending_by positions).text

pub gives : (finder : Finder) (identity : Identity) (positions : List Reception) (found : FoundHead)
    → HasRead finder identity positions
    → ((copy : Copy) → HasReady finder copy → IsHeadOf copy found) → Gives found positions
gives finder identity positions found read head_of =
    let copy : Copy = record {
      header = record { identity = identity; behind = 0 };
      how = (ending_by positions).how;
      text =
          (ending_by positions).text;
    } in
    let head = head_of copy (record { held = read.held; text = read.text }) in
    record { how = head.how; errors = head.errors }

pub chosen_own : (positions : List Reception) (copy : TaggedCopy) (b : Bool)
    → b ≡ is_better copy (given_by positions copy) → b ≡ true → combined positions copy ≡ copy
chosen_own positions copy b is passes =
    ap (λ c. if c then copy else given_by positions copy) (sym is ∙ passes)

chosen_given : (positions : List Reception) (copy : TaggedCopy) (b : Bool)
    → b ≡ is_better copy (given_by positions copy) → b ≡ false
    → combined positions copy ≡ given_by positions copy
chosen_given positions copy b is fails =
    ap (λ c. if c then copy else given_by positions copy) (sym is ∙ fails)

-- the head that is given
abbrev pub head_given : EntryHead → FoundHead → EntryHead
head_given head found = record {
  identity = head.identity;
  moment = head.moment;
  how = found.how;
  errors = found.errors;
}

given_is : (positions : List Reception) (head : EntryHead) (found : FoundHead) (text read : List ℕ)
    (selected : Bool) → Gives found positions → read ≡ (ending_by positions).text
    → given_by positions (headed_copy head text selected)
    ≡ headed_copy (head_given head found) read selected
unfolding given_by
given_is positions head found text read selected gives is =
    ap₂ (λ h t. headed_copy (record {
      identity = head.identity;
      moment = head.moment;
      how = h;
      errors =
          found.errors;
    }) t selected) (sym gives.how) (sym is)

pub how_given : (positions : List Reception) (copy : TaggedCopy)
    → (given_by positions copy).how ≡ (ending_by positions).how
unfolding given_by
how_given positions copy = refl

pub text_given : (positions : List Reception) (copy : TaggedCopy)
    → (given_by positions copy).text ≡ (ending_by positions).text
unfolding given_by
text_given positions copy = refl

pub given_chosen : (positions : List Reception) (head : EntryHead) (found : FoundHead)
    (text read : List ℕ) (selected b : Bool) → Gives found positions
    → read ≡ (ending_by positions).text
    → b ≡ is_better (headed_copy head text selected)
    (given_by positions (headed_copy head text selected)) → b ≡ false
    → combined positions (headed_copy head text selected)
    ≡ headed_copy (head_given head found) read selected
given_chosen positions head found text read selected b gives read_is is fails =
    chosen_given positions (headed_copy head text selected) b is fails
    ∙ given_is positions head found text read selected gives read_is

-- The three things that may become of a copy. The last of the families are held, so many.

pub record Answers (limit : ℕ) (families held : List Family) (heard : HeardCopy) (read : List ℕ)
    (family : Option ℕ) (begins : Bool) (given : Option EntryHead) (sendings : ℕ)
    : Type 0 where
  pub after : held ≡ take limit (families_after_holding limit families heard)
  pub combined : IsCombined (combined_copy_holding limit families heard)
      (families_after_holding limit families heard) read
      (record { family = family; begins = begins; given = given; sendings = sendings })
  pub count : length (families_after_holding limit families heard)
      ≡ length families + begun_with begins

pub answers_none : (limit : ℕ) (families held : List Family) (heard : HeardCopy) (read : List ℕ)
    → held ≡ take limit families → has_family heard ≡ false
    → Answers limit families held heard read None false None 1
answers_none limit families held heard read stands is =
    let none = no_family limit families heard is in
    record {
      after = stands ∙ ap (take limit) (sym none.after);
      combined = record {
        family = ap (λ (o : CombinedCopy). o.family) none.one;
        copy = ap (λ (o : CombinedCopy). o.copy) none.one
            ∙ ap (λ (o : CombinedCopy). o.own.copy) (sym none.one);
        errors = tt;
        sendings = ap (λ (o : CombinedCopy). o.sendings) none.one;
      };
      count = ap length none.after ∙ omega arith;
    }

pub answers_begun : (limit : ℕ) (families held new : List Family) (heard : HeardCopy)
    (read : List ℕ)
    → held ≡ take limit families → has_family heard ≡ true → index_joined_holding limit held heard
    ≡ None
    → new ≡ take limit (begun_by heard ∷ held)
    → Answers limit families new heard read (Some 0) true None 1
answers_begun limit families held new heard read stands is none begun =
    let joins_none : index_joined_holding limit families heard ≡ None =
    sym (index_joined-take limit families heard)
    ∙ ap (λ l. index_joined_holding limit l heard) (sym stands) ∙ none in
    let begins = begins_one limit families heard is joins_none in
    let count : length families ≡ length (begun_by heard ∷ families) - 1 - 0 = omega arith in
    record {
      after = begun
          ∙ ap (λ l. take limit (begun_by heard ∷ l)) stands
          ∙ take-pushed limit (begun_by heard) families
          ∙ ap (take limit) (sym begins.after);
      combined = record {
        family = ap (λ (o : CombinedCopy). o.family) begins.one
            ∙ ap Some count
            ∙ ap (λ (l : List Family). Some (length l - 1 - 0)) (sym begins.after);
        copy = ap (λ (o : CombinedCopy). o.copy) begins.one
            ∙ ap (λ (o : CombinedCopy). o.own.copy) (sym begins.one);
        errors = tt;
        sendings = ap (λ (o : CombinedCopy). o.sendings) begins.one;
      };
      count = ap length begins.after ∙ omega arith;
    }

joined-length : (held : List Family) (heard : HeardCopy) (index : ℕ) (there : Option Family)
    → length (option_map_or (λ (f : Family). set held index (joined_by heard f)) there held)
    ≡ length held
joined-length held heard index None = refl
joined-length held heard index (Some family) = length-set held index (joined_by heard family)

pub joined_at-length : (held : List Family) (heard : HeardCopy) (index : ℕ)
    → length (joined_at held heard index) ≡ length held
joined_at-length held heard index = joined-length held heard index (slice_get held index)

-- the family that was joined stands where it stood
pub joined_at-there : (held : List Family) (heard : HeardCopy) (index : ℕ) (family : Family)
    → slice_get held index ≡ Some family
    → slice_get (joined_at held heard index) index ≡ Some (joined_by heard family)
joined_at-there held heard index family there =
    let within = slice_get_within held index family there in
    ap (λ o. slice_get (option_map_or (λ (f : Family). set held index (joined_by heard f)) o held)
    index) there
    ∙ slice_get-set_same held index (joined_by heard family) within

-- a copy of this head and these positions
abbrev pub heard_with : EntryHead → List Reception → HeardCopy
heard_with head positions = record { copy = headed_copy head [] true; positions = positions }

pub answers_joined : (limit : ℕ) (families held new : List Family) (heard : HeardCopy)
    (read : List ℕ)
    (index : ℕ) (given : Option EntryHead) (sendings : ℕ) → held ≡ take limit families
    → has_family heard ≡ true
    → index_joined_holding limit held heard ≡ Some index → new ≡ joined_at held heard index
    → ((family : Family) → slice_get held index ≡ Some family
    → (combined (joined_by heard family).positions heard.copy ≡ meant given read heard.copy)
    × IfSome given (λ head. head.errors ≡ errors_of read)
    × (sendings_of (joined_by heard family) heard.copy ≡ sendings))
    → Answers limit families new heard read (Some index) false given sendings
answers_joined limit families held new heard read index given sendings stands is joins joined
    gives =
    let joins_it : index_joined_holding limit families heard ≡ Some index =
    sym (index_joined-take limit families heard)
    ∙ ap (λ l. index_joined_holding limit l heard) (sym stands) ∙ joins in
    let at = joined_at_index limit families heard index joins_it in
    let one = joins_one limit families heard index at.family is joins_it at.there in
    let here : slice_get held index ≡ Some at.family =
    ap (λ (l : List Family). slice_get l index) stands
    ∙ there-take limit families index at.family at.few at.there in
    let what = gives at.family here in
    let long : length families ≡ length (set families index (joined_by heard at.family)) =
    sym (length-set families index (joined_by heard at.family)) in
    record {
      after = joined
          ∙ ap (λ l. joined_at l heard index) stands
          ∙ joined_at-take limit families heard index at.family at.few at.there
          ∙ ap (take limit) (sym one.after);
      combined = record {
        family = ap (λ (o : CombinedCopy). o.family) one.one
            ∙ ap (λ n. Some (n - 1 - index)) long
            ∙ ap (λ (l : List Family). Some (length l - 1 - index)) (sym one.after);
        copy = ap (λ (o : CombinedCopy). o.copy) one.one
            ∙ what.0
            ∙ ap (λ (o : CombinedCopy). meant given read o.own.copy) (sym one.one);
        errors = what.1;
        sendings = ap (λ (o : CombinedCopy). o.sendings) one.one ∙ what.2;
      };
      count = ap length one.after ∙ sym long ∙ omega arith;
    }

-- from how many sendings a copy is put together that joined, by whether its family gives it
pub sendings_by : (family : Family) (copy : TaggedCopy) (given : Option EntryHead) (counted : ℕ)
    → is_some given ≡ not (is_better copy (given_by family.positions copy))
    → counted ≡ (if is_some given then family.sendings else 1)
    → sendings_of family copy ≡ counted
sendings_by family copy given counted is counts =
    elim (is_better copy (given_by family.positions copy)) as (λ b. is_some given ≡ not b
    → (if b then 1 else family.sendings) ≡ counted) [
      | true ↦ λ own. sym (counts ∙ ap (λ b. if b then family.sendings else 1) own)
      | false ↦ λ gives. sym (counts ∙ ap (λ b. if b then family.sendings else 1) gives)
    ] is
