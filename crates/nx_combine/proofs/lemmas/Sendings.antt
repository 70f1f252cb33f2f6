-- The sendings of a message make one family, whatever is heard between them.
use Rattle.std.proofs.Common.{◌≡◌, ◌≢◌, ℕ, zero, suc, ◌+◌, ◌-◌, ◌<◌, ◌≤◌, Bool, true}
use Rattle.std.proofs.Common.{false, not, cond, if◌then◌else◌, ◌&&◌, ◌||◌, nat_lt, Option, Some}
use Rattle.std.proofs.Common.{None}
use Rattle.std.proofs.Common.{List, [], ◌∷◌, ◌++◌, length, map, refl, sym, ap, ap₂, ◌∙◌, subst}
use Rattle.std.proofs.Common.{arith, append_assoc, append-nil, get_or}
use Rattle.std.proofs.Math.ListN.{set}
use Rattle.std.specs.Prelude.{slice_get, fold}
use Rattle.std.specs.List.{AllByRecursion, filter, position_or_len, prefix_len}
use Rattle.std.specs.Option.{option_and_then, option_map}
use Rattle.std.proofs.lemmas.Bool.{le-ltb, lt-ltb, ltb-false, ltb-true}
use Rattle.std.proofs.lemmas.List.{length-set}
use Rattle.std.proofs.lemmas.List.Quantifiers.{position-Some}
use Rattle.std.proofs.lemmas.Option.{slice_get_within, slice_get-get_or}
use Rattle.circular_buffer.proofs.Places.{slice_get-set_same}
use Rattle.nx_code.specs.Reading.{Reception}
use Rattle.nx_envelope.specs.Copies.{Ending, errors_of}
use Rattle.nx_envelope.specs.Identity.{same_identity}
use Rattle.nx_envelope.specs.declared.found.How.TheVariants.{Full}
use Rattle.nx_envelope.specs.declared.identity.Identity.{Identity}
use Rattle.nx_envelope.proofs.lemmas.headers.Identities.{same_identity-true, same_itself}
use Rattle.nx_copies.specs.copies.FoundCopies.{TaggedCopy}
use Rattle.nx_copies.specs.copies.Printing.{has_fewer_errors, is_better, is_full}
use Rattle.nx_combine.specs.CopyPositions.{HeardCopy}
use Rattle.nx_combine.specs.Families.{CombinedCopy, Family, begun_by, combined_copy_holding}
use Rattle.nx_combine.specs.Families.{families_after_holding}
use Rattle.nx_combine.specs.Families.{combined, given_by, has_family}
use Rattle.nx_combine.specs.Families.{index_joined_holding, joined_by, joins_at_holding, last_index}
use Rattle.nx_combine.specs.Families.{takes_in}
use Rattle.nx_combine.specs.Joining.{is_of_one_text, joined}
use Rattle.nx_combine.specs.PositionEnds.{ending_by, up_to_end}
use Rattle.nx_combine.proofs.lemmas.Combine.{how_given, text_given}
use Rattle.nx_combine.specs.Laws.{AreSendings, FewBegunHolding, IsGivenBy, IsHeardOf, IsSending}
use Rattle.nx_combine.specs.Laws.{IsWhole}
use Rattle.nx_combine.specs.Laws.{RunOnAlike, RunsOnAs}
use Rattle.nx_combine.specs.Laws.{bears, families_behind_holding, joined_all, positions_heard}
use Rattle.nx_combine.proofs.lemmas.Held.{begins_one, from_if, if_joins, index_joined-at}
use Rattle.nx_combine.proofs.lemmas.Held.{index_joined-none, joined_at_index, joins_one, no_family}
use Rattle.nx_combine.proofs.lemmas.Invented.{set_other}
use Rattle.nx_combine.proofs.lemmas.Together.{together_of_one_text}

-- The last family of an identity, where one more begins or one is joined.

abbrev is_of : Identity → Family → Bool
is_of identity family = same_identity family.identity identity

-- one of the identity that begins is the last
last_index-begun : (identity : Identity) (family : Family) (families : List Family)
    → is_of identity family ≡ true → last_index identity (family ∷ families) ≡ Some 0
last_index-begun identity family families is =
    rw (is, lt-ltb 0 (suc (length families)) (omega arith)) refl

shifted : (a long : ℕ) (b : Bool) → nat_lt a long ≡ b
    → cond (nat_lt (1 + a) (suc long)) (Some (1 + a)) None
    ≡ option_map (λ n. 1 + n) (cond (nat_lt a long) (Some a) None)
shifted a long true is =
    let below : a < long = ltb-true a long is in
    rw (is, lt-ltb (1 + a) (suc long) (omega arith)) refl
shifted a long false is =
    let past : long ≤ a = ltb-false a long is in
    rw (is, le-ltb (1 + a) (suc long) (omega arith)) refl

-- one of another identity that begins stands before it
last_index-other : (identity : Identity) (family : Family) (families : List Family)
    → is_of identity family ≡ false
    → last_index identity (family ∷ families)
    ≡ option_map (λ n. 1 + n) (last_index identity families)
last_index-other identity family families is =
    rw is (shifted (position_or_len (is_of identity) families) (length families)
    (nat_lt (position_or_len (is_of identity) families) (length families)) refl)

prefix_len-set : (q : Family → Bool) (families : List Family) (at : ℕ) (family new : Family)
    → slice_get families at ≡ Some family → q new ≡ q family
    → prefix_len q (set families at new) ≡ prefix_len q families
prefix_len-set q [] at family new there same = refl
prefix_len-set q (x ∷ families) zero family new there same =
    let first : x ≡ family = (let inside : Some x ≡ Some family = there in cc) in
    ap (λ b. cond b (1 + prefix_len q families) 0) (same ∙ ap q (sym first))
prefix_len-set q (x ∷ families) (suc at) family new there same =
    ap (λ n. cond (q x) (1 + n) 0) (prefix_len-set q families at family new there same)

-- joining leaves it where it is
last_index-joined : (identity : Identity) (families : List Family) (at : ℕ) (family new : Family)
    → slice_get families at ≡ Some family → new.identity ≡ family.identity
    → last_index identity (set families at new) ≡ last_index identity families
last_index-joined identity families at family new there same =
    ap₂ (λ a l. cond (nat_lt a l) (Some a) None)
    (prefix_len-set (λ f. not (is_of identity f)) families at family new there
    (ap (λ i. not (same_identity i identity)) same))
    (length-set families at new)

-- the family there bears the identity
last_bears : (identity : Identity) (families : List Family) (at : ℕ) (family : Family)
    → last_index identity families ≡ Some at → slice_get families at ≡ Some family
    → is_of identity family ≡ true
last_bears identity families at family last there =
    let found = position-Some (is_of identity) families at family last in
    let this = get_or-there families at family there in
    sym (ap (is_of identity) this) ∙ found.1 where
      get_or-there : (xs : List Family) (n : ℕ) (x : Family) → slice_get xs n ≡ Some x
          → get_or xs n x ≡ x
      get_or-there xs n x is =
          let both : Some (get_or xs n x) ≡ Some x =
          sym (slice_get-get_or xs n x (slice_get_within xs n x is)) ∙ is in cc

-- What stands of the sendings so far: one family, with their positions.

pub record Stands (sent : List ℕ) (behind : ℕ → ℕ) (identity : Identity) (moment first : ℕ)
    (families : List Family) (done : List (List Reception)) : Type 0 where
  pub index : ℕ
  pub family : Family
  pub last : last_index identity families ≡ Some index
  pub there : slice_get families index ≡ Some family
  pub positions : family.positions ≡ joined_all done
  pub began : family.moment ≡ moment
  pub count : index + first ≡ length families
  pub as_sent : AllByRecursion (IsHeardOf sent) done
  pub runs_on : AllByRecursion (RunsOnAs sent behind) done

-- Lists with one more at the end.

fold-push : (so_far : List Reception) (xs : List (List Reception)) (y : List Reception)
    → fold joined so_far (xs ++ y ∷ []) ≡ joined (fold joined so_far xs) y
fold-push so_far [] y = refl
fold-push so_far (x ∷ xs) y = fold-push (joined so_far x) xs y

pub all-push : {A : Type 0} (P : A → Type 0) (xs : List A) (y : A) → AllByRecursion P xs → P y
    → AllByRecursion P (xs ++ y ∷ [])
all-push P [] y each last = (last, tt)
all-push P (x ∷ xs) y each last = (each.0, all-push P xs y each.1 last)

run_alike : (sent : List ℕ) (behind : ℕ → ℕ) (done : List (List Reception)) (next : List Reception)
    → AllByRecursion (RunsOnAs sent behind) done → RunsOnAs sent behind next
    → AllByRecursion (λ positions. RunOnAlike sent positions next) done
run_alike sent behind [] next each last = tt
run_alike sent behind (p ∷ done) next each last = (
  λ index m n past has takes. each.0 index m past has ∙ sym (last index n past takes),
  run_alike sent behind done next each.1 last,
)

-- One copy more, of another identity.

joined_last_if : (limit : ℕ) (families : List Family) (heard : HeardCopy) (o : Option ℕ) (index : ℕ)
    → option_and_then (if_joins limit families heard) o ≡ Some index → o ≡ Some index
joined_last_if limit families heard None index is =
    absurd (let contra : None ≡ Some index = is in cc)
joined_last_if limit families heard (Some k) index is =
    ap Some (from_if (joins_at_holding limit families heard k) k index is).1

pub joined_last : (limit : ℕ) (families : List Family) (heard : HeardCopy) (index : ℕ)
    → index_joined_holding limit families heard ≡ Some index
    → last_index heard.copy.identity families ≡ Some index
unfolding index_joined_holding
joined_last limit families heard index is =
    joined_last_if limit families heard (last_index heard.copy.identity families) index is

module _ (limit : ℕ) (sent : List ℕ) (behind : ℕ → ℕ) (identity : Identity) (moment first : ℕ) where
  abbrev pub Now : List Family → List (List Reception) → Type 0
  Now = Stands sent behind identity moment first

  -- one that begins a family of another identity
  other_begins : (families : List Family) (done : List (List Reception)) (family : Family)
      → Now families done → is_of identity family ≡ false → Now (family ∷ families) done
  other_begins families done family stands is =
      let one_more : 1 + stands.index ≡ suc stands.index = omega arith in
      let counted = stands.count in
      record {
        index = suc stands.index;
        family = stands.family;
        last = last_index-other identity family families is
            ∙ ap (option_map (λ n. 1 + n)) stands.last
            ∙ ap Some one_more;
        there = stands.there;
        positions = stands.positions;
        began = stands.began;
        count = omega arith;
        as_sent = stands.as_sent;
        runs_on = stands.runs_on;
      }

  -- one that joins a family which isn't that one
  other_joins : (families : List Family) (done : List (List Reception)) (at : ℕ)
      (family new : Family)
      → (stands : Now families done) → slice_get families at ≡ Some family
      → new.identity ≡ family.identity → stands.index ≢ at → Now (set families at new) done
  other_joins families done at family new stands there same apart = record {
    index = stands.index;
    family = stands.family;
    last = last_index-joined identity families at family new there same ∙ stands.last;
    there = set_other families at stands.index new apart ∙ stands.there;
    positions = stands.positions;
    began = stands.began;
    count = stands.count ∙ sym (length-set families at new);
    as_sent = stands.as_sent;
    runs_on = stands.runs_on;
  }

  -- the family of a copy of another identity isn't that one
  pub stands_apart : (families : List Family) (done : List (List Reception)) (heard : HeardCopy)
      (at : ℕ) (family : Family) → (stands : Now families done) → bears identity heard ≡ false
      → last_index heard.copy.identity families ≡ Some at → slice_get families at ≡ Some family
      → stands.index ≢ at
  stands_apart families done heard at family stands other last there same =
      let both : Some stands.family ≡ Some family =
      sym stands.there ∙ ap (slice_get families) same ∙ there in
      let one : stands.family ≡ family = cc in
      let mine = same_identity-true stands.family.identity identity
      (last_bears identity families stands.index stands.family stands.last stands.there) in
      let its = same_identity-true family.identity heard.copy.identity
      (last_bears heard.copy.identity families at family last there) in
      let equal : heard.copy.identity ≡ identity =
      sym its ∙ ap (λ (f : Family). f.identity) (sym one) ∙ mine in
      let yes : bears identity heard ≡ true =
      ap (λ i. same_identity i identity) equal ∙ same_itself identity in
      let contra : true ≡ false = sym yes ∙ other in cc

  other_by : (families : List Family) (done : List (List Reception)) (heard : HeardCopy)
      (o : Option ℕ) → Now families done → bears identity heard ≡ false → has_family heard ≡ true
      → index_joined_holding limit families heard ≡ o
      → Now (families_after_holding limit families heard) done
  other_by families done heard None stands other has none =
      subst (λ l. Now l done) (sym (begins_one limit families heard has none).after)
      (other_begins families done (begun_by heard) stands other)
  other_by families done heard (Some at) stands other has joins =
      let j = joined_at_index limit families heard at joins in
      let one = joins_one limit families heard at j.family has joins j.there in
      subst (λ l. Now l done) (sym one.after)
      (other_joins families done at j.family (joined_by heard j.family) stands j.there refl
      (stands_apart families done heard at j.family stands other
      (joined_last limit families heard at joins) j.there))

  pub other_if : (families : List Family) (done : List (List Reception)) (heard : HeardCopy) (b :
      Bool)
      → Now families done → bears identity heard ≡ false → has_family heard ≡ b
      → Now (families_after_holding limit families heard) done
  other_if families done heard true stands other has =
      other_by families done heard (index_joined_holding limit families heard) stands other has refl
  other_if families done heard false stands other has =
      subst (λ l. Now l done) (sym (no_family limit families heard has).after) stands

  -- One more sending.

  -- the copy bears the identity
  identity_is : (heard : HeardCopy) → bears identity heard ≡ true → heard.copy.identity ≡ identity
  identity_is heard is = same_identity-true heard.copy.identity identity is

  pub joins_it : (families : List Family) (done : List (List Reception)) (heard : HeardCopy)
      → (stands : Now families done) → bears identity heard ≡ true
      → IsSending sent behind moment heard → length families < first + limit
      → index_joined_holding limit families heard ≡ Some stands.index
  joins_it families done heard stands is sending few =
      let counted = stands.count in
      let low : stands.index < limit = omega arith in
      let last : last_index heard.copy.identity families ≡ Some stands.index =
      ap (λ i. last_index i families) (identity_is heard is) ∙ stands.last in
      let near : nat_lt (heard.copy.moment - stands.family.moment) 237600 ≡ true =
      ap (λ m. nat_lt (heard.copy.moment - m) 237600) stands.began
      ∙ lt-ltb (heard.copy.moment - moment) 237600 sending.near in
      let alike : is_of_one_text (up_to_end stands.family.positions) heard.positions ≡ true =
      ap (λ p. is_of_one_text (up_to_end p) heard.positions) stands.positions
      ∙ together_of_one_text sent done heard.positions stands.as_sent sending.as_sent
      (run_alike sent behind done heard.positions stands.runs_on sending.runs_on) in
      let takes : takes_in stands.family heard ≡ true = ap₂ (λ a b. a && b) near alike in
      index_joined-at limit families heard stands.index stands.family true last stands.there low
      (sym takes)

  pub sending_joins : (families : List Family) (done : List (List Reception)) (heard : HeardCopy)
      → Now families done → bears identity heard ≡ true → IsSending sent behind moment heard
      → length families < first + limit
      → Now (families_after_holding limit families heard) (done ++ heard.positions ∷ [])
  sending_joins families done heard stands is sending few =
      let joins = joins_it families done heard stands is sending few in
      let one = joins_one limit families heard stands.index stands.family sending.family joins
      stands.there in
      let new : Family = joined_by heard stands.family in
      let within = slice_get_within families stands.index stands.family stands.there in
      subst (λ l. Now l (done ++ heard.positions ∷ [])) (sym one.after) (record {
        index = stands.index;
        family = new;
        last = last_index-joined identity families stands.index stands.family new stands.there refl
            ∙ stands.last;
        there = slice_get-set_same families stands.index new within;
        positions = ap (λ p. joined p heard.positions) stands.positions
            ∙ sym (fold-push [] done heard.positions);
        began = stands.began;
        count = stands.count ∙ sym (length-set families stands.index new);
        as_sent = all-push (IsHeardOf sent) done heard.positions stands.as_sent sending.as_sent;
        runs_on =
            all-push (RunsOnAs sent behind) done heard.positions stands.runs_on sending.runs_on;
      })

  pub sending_gives : (families : List Family) (done : List (List Reception)) (heard : HeardCopy)
      → Now families done → bears identity heard ≡ true → IsSending sent behind moment heard
      → length families < first + limit
      → IsGivenBy (joined_all (done ++ heard.positions ∷ []))
      (combined_copy_holding limit families heard)
  sending_gives families done heard stands is sending few =
      let joins = joins_it families done heard stands is sending few in
      let one = joins_one limit families heard stands.index stands.family sending.family joins
      stands.there in
      let all : joined stands.family.positions heard.positions
      ≡ joined_all (done ++ heard.positions ∷ []) =
      ap (λ p. joined p heard.positions) stands.positions ∙ sym (fold-push [] done heard.positions)
      in
      subst (IsGivenBy (joined_all (done ++ heard.positions ∷ []))) (sym one.one)
      (record { joined = all; copy = ap (λ p. combined p heard.copy) all })

  -- one more copy, whichever it is
  pub copy_more : (families : List Family) (done : List (List Reception)) (heard : HeardCopy) (b
      : Bool)
      → Now families done → bears identity heard ≡ b
      → (bears identity heard ≡ true → IsSending sent behind moment heard)
      → (bears identity heard ≡ true → length families < first + limit)
      → Now (families_after_holding limit families heard)
      (if b then done ++ heard.positions ∷ [] else done)
  copy_more families done heard true stands is sending few =
      sending_joins families done heard stands is (sending is) (few is)
  copy_more families done heard false stands is sending few =
      other_if families done heard (has_family heard) stands is refl

  positions_more : (done : List (List Reception)) (heard : HeardCopy) (mid : List HeardCopy)
      (b : Bool)
      → bears identity heard ≡ b
      → (if b then done ++ heard.positions ∷ [] else done) ++ positions_heard identity mid
      ≡ done ++ positions_heard identity (heard ∷ mid)
  positions_more done heard mid true is =
      append_assoc done (heard.positions ∷ []) (positions_heard identity mid)
      ∙ ap (λ c. done ++ map (λ (h : HeardCopy). h.positions)
      (cond c (heard ∷ filter (bears identity) mid) (filter (bears identity) mid))) (sym is)
  positions_more done heard mid false is =
      ap (λ c. done ++ map (λ (h : HeardCopy). h.positions)
      (cond c (heard ∷ filter (bears identity) mid) (filter (bears identity) mid))) (sym is)

  -- what the copies behind give
  gives_all : (families : List Family) (done : List (List Reception)) (copies : List HeardCopy)
      → Now families done → AreSendings sent behind moment identity copies
      → FewBegunHolding limit identity first families copies
      → (mid later : List HeardCopy) (one : HeardCopy) → copies ≡ mid ++ one ∷ later
      → bears identity one ≡ true
      → IsGivenBy (joined_all ((done ++ positions_heard identity mid) ++ one.positions ∷ []))
      (combined_copy_holding limit (families_behind_holding limit families mid) one)
  gives_all families done [] stands sendings few [] later one is bears_it =
      absurd (let contra : [] ≡ one ∷ later = is in cc)
  gives_all families done [] stands sendings few (x ∷ mid) later one is bears_it =
      absurd (let contra : [] ≡ x ∷ (mid ++ one ∷ later) = is in cc)
  gives_all families done (heard ∷ copies) stands sendings few [] later one is bears_it =
      let whole : heard ∷ copies ≡ one ∷ later = is in
      let same : heard ≡ one = cc in
      let this : bears identity heard ≡ true = ap (bears identity) same ∙ bears_it in
      subst (λ l. IsGivenBy (joined_all (l ++ one.positions ∷ []))
      (combined_copy_holding limit families one))
      (sym (append-nil done))
      (subst (λ (h : HeardCopy). IsGivenBy (joined_all (done ++ h.positions ∷ []))
      (combined_copy_holding limit families h)) same
      (sending_gives families done heard stands this (sendings.0 this) (few.0 this)))
  gives_all families done (heard ∷ copies) stands sendings few (x ∷ mid) later one is bears_it =
      let whole : heard ∷ copies ≡ x ∷ (mid ++ one ∷ later) = is in
      let same : heard ≡ x = cc in
      let rest : copies ≡ mid ++ one ∷ later = cc in
      let now = copy_more families done heard (bears identity heard) stands refl sendings.0 few.0 in
      let after = gives_all (families_after_holding limit families heard)
      (if bears identity heard then done ++ heard.positions ∷ [] else done) copies now sendings.1
      few.1 mid later one rest bears_it in
      subst (λ (h : HeardCopy). IsGivenBy
      (joined_all ((done ++ positions_heard identity (h ∷ mid)) ++ one.positions ∷ []))
      (combined_copy_holding limit (families_behind_holding limit
      (families_after_holding limit families h) mid) one)) same
      (subst (λ l. IsGivenBy (joined_all (l ++ one.positions ∷ []))
      (combined_copy_holding limit (families_behind_holding limit
      (families_after_holding limit families heard) mid) one))
      (positions_more done heard mid (bears identity heard) refl) after)

-- the first sending begins the family
pub first_begins : (limit : ℕ) (sent : List ℕ) (behind : ℕ → ℕ) (identity : Identity)
    (families : List Family)
    (heard : HeardCopy) → index_joined_holding limit families heard ≡ None → bears identity heard
    ≡ true
    → IsSending sent behind heard.copy.moment heard
    → Stands sent behind identity heard.copy.moment (length families + 1)
    (families_after_holding limit families heard) (heard.positions ∷ [])
unfolding joined
first_begins limit sent behind identity families heard none is sending =
    let begins = begins_one limit families heard sending.family none in
    subst (λ l. Stands sent behind identity heard.copy.moment (length families + 1) l
    (heard.positions ∷ [])) (sym begins.after) (record {
      index = 0;
      family = begun_by heard;
      last = last_index-begun identity (begun_by heard) families is;
      there = refl;
      positions = refl;
      began = refl;
      count = omega arith;
      as_sent = (sending.as_sent, tt);
      runs_on = (sending.runs_on, tt);
    })

pub family_of_first : (limit : ℕ) (sent : List ℕ) (behind : ℕ → ℕ) (identity : Identity)
    (families : List Family) (heard : HeardCopy) (copies : List HeardCopy)
    → index_joined_holding limit families heard ≡ None → bears identity heard ≡ true
    → IsSending sent behind heard.copy.moment heard
    → AreSendings sent behind heard.copy.moment identity copies
    → FewBegunHolding limit identity (length families + 1)
    (families_after_holding limit families heard) copies
    → (mid later : List HeardCopy) (one : HeardCopy) → copies ≡ mid ++ one ∷ later
    → bears identity one ≡ true
    → IsGivenBy
    (joined_all ((heard.positions ∷ positions_heard identity mid) ++ one.positions ∷ []))
    (combined_copy_holding limit (families_behind_holding limit
    (families_after_holding limit families heard) mid) one)
family_of_first limit sent behind identity families heard copies none is sending sendings few =
    gives_all limit sent behind identity heard.copy.moment (length families + 1)
    (families_after_holding limit families heard) (heard.positions ∷ []) copies
    (first_begins limit sent behind identity families heard none is sending) sendings few

-- so it is where no family of its identity was begun
pub family_of_sendings : (limit : ℕ) (sent : List ℕ) (behind : ℕ → ℕ) (identity : Identity)
    (families : List Family) (heard : HeardCopy) (copies : List HeardCopy)
    → last_index identity families ≡ None → bears identity heard ≡ true
    → IsSending sent behind heard.copy.moment heard
    → AreSendings sent behind heard.copy.moment identity copies
    → FewBegunHolding limit identity (length families + 1)
    (families_after_holding limit families heard) copies
    → (mid later : List HeardCopy) (one : HeardCopy) → copies ≡ mid ++ one ∷ later
    → bears identity one ≡ true
    → IsGivenBy
    (joined_all ((heard.positions ∷ positions_heard identity mid) ++ one.positions ∷ []))
    (combined_copy_holding limit (families_behind_holding limit
    (families_after_holding limit families heard) mid) one)
family_of_sendings limit sent behind identity families heard copies none is sending sendings few =
    let equal = same_identity-true heard.copy.identity identity is in
    family_of_first limit sent behind identity families heard copies
    (index_joined-none limit families heard (ap (λ i. last_index i families) equal ∙ none)) is
    sending
    sendings few

-- What is given whole.

pub and_false : (b : Bool) → (b && false) ≡ false
and_false true = refl
and_false false = refl

-- no copy is better than a full one without an error
pub none_better : (copy given : TaggedCopy) → given.how ≡ Full → errors_of given.text ≡ 0
    → is_better copy given ≡ false
none_better copy given full none =
    let fewer : has_fewer_errors copy given ≡ false =
    ap (λ n. nat_lt (errors_of copy.text) n) none ∙ le-ltb (errors_of copy.text) 0 (omega arith) in
    ap (λ h. if is_full h then is_full copy.how && has_fewer_errors copy given
    else is_full copy.how || has_fewer_errors copy given) full
    ∙ ap (λ b. is_full copy.how && b) fewer
    ∙ and_false (is_full copy.how)

-- what is given depends on how the positions end alone
given_same : (first second : List Reception) (copy : TaggedCopy)
    → ending_by first ≡ ending_by second → given_by first copy ≡ given_by second copy
unfolding given_by
given_same first second copy same =
    ap (λ (e : Ending). record copy { how = e.how; text = e.text }) same

pub whole_copy : (sent : List Reception) (positions : List Reception) (one : CombinedCopy)
    → ending_by positions ≡ ending_by sent → IsWhole sent → IsGivenBy positions one
    → one.copy ≡ given_by sent one.own.copy
whole_copy sent positions one same whole is =
    let copy : TaggedCopy = one.own.copy in
    let full : (given_by positions copy).how ≡ Full =
    how_given positions copy ∙ ap (λ (e : Ending). e.how) same ∙ whole.full in
    let none : errors_of (given_by positions copy).text ≡ 0 =
    ap errors_of (text_given positions copy)
    ∙ ap (λ (e : Ending). errors_of e.text) same ∙ whole.no_error in
    is.copy
    ∙ ap (λ b. if b then copy else given_by positions copy)
    (none_better copy (given_by positions copy) full none)
    ∙ given_same positions sent copy same
