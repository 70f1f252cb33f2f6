-- The families that are held tell all that a copy needs of the families before it.
use Rattle.std.proofs.Common.{◌≡◌, ℕ, zero, suc, ◌+◌, ◌-◌, ◌<◌, ◌≤◌, min, Bool, true, false, not}
use Rattle.std.proofs.Common.{cond}
use Rattle.std.proofs.Common.{◌&&◌, if◌then◌else◌, Option, Some, None, unwrap_or, List, [], ◌∷◌}
use Rattle.std.proofs.Common.{length}
use Rattle.std.proofs.Common.{take, nat_lt, refl, sym, ap, ap₂, ◌∙◌, subst, arith}
use Rattle.std.proofs.Math.ListN.{set}
use Rattle.std.proofs.Math.Seq.{take-set-lt}
use Rattle.std.proofs.lemmas.Bool.{le-ltb, lt-ltb, ltb-false, ltb-true}
use Rattle.std.proofs.lemmas.List.{length-take}
use Rattle.std.proofs.lemmas.Option.{slice_get_within}
use Rattle.std.specs.List.{position_or_len, prefix_len}
use Rattle.std.specs.Prelude.{position, slice_get}
use Rattle.std.specs.Option.{option_and_then, option_map, option_map_or}
use Rattle.circular_buffer.proofs.Places.{slice_get-take}
use Rattle.nx_envelope.specs.Identity.{same_identity}
use Rattle.nx_combine.specs.CopyPositions.{HeardCopy}
use Rattle.nx_combine.specs.Families.{Family, alone, begun_by, combined_copy_holding}
use Rattle.nx_combine.specs.Families.{families_after_holding, has_family, index_joined_holding}
use Rattle.nx_combine.specs.Families.{joined_at, joined_by}
use Rattle.nx_combine.specs.Families.{joins_at_holding, last_index, takes_in, together}

-- The first index at which a test passes, of the first elements of a list.

longer : (b : Bool) (n m a : ℕ) → m ≡ min n a
    → cond b (1 + m) 0 ≡ min (suc n) (cond b (1 + a) 0)
longer true n m a is = omega arith
longer false n m a is = omega arith

prefix_len-take : {X : Type 0} (p : X → Bool) (n : ℕ) (xs : List X)
    → prefix_len p (take n xs) ≡ min n (prefix_len p xs)
prefix_len-take p zero xs = omega arith
prefix_len-take p (suc n) [] = omega arith
prefix_len-take p (suc n) (x ∷ xs) =
    longer (p x) n (prefix_len p (take n xs)) (prefix_len p xs) (prefix_len-take p n xs)

same_below : (a long n : ℕ) (b : Bool) → a < n → nat_lt a long ≡ b
    → cond (nat_lt a (min n long)) (Some a) None ≡ cond (nat_lt a long) (Some a) None
same_below a long n true below passes =
    let short : a < long = ltb-true a long passes in
    rw (passes, lt-ltb a (min n long) (omega arith)) refl
same_below a long n false below fails =
    let past : long ≤ a = ltb-false a long fails in
    rw (fails, le-ltb a (min n long) (omega arith)) refl

position_at : (a long n : ℕ) (b : Bool) → nat_lt a n ≡ b
    → cond (nat_lt (min n a) (min n long)) (Some (min n a)) None
    ≡ cond b (cond (nat_lt a long) (Some a) None) None
position_at a long n true is =
    let below : a < n = ltb-true a n is in
    let this : min n a ≡ a = omega arith in
    rw this (same_below a long n (nat_lt a long) below refl)
position_at a long n false is =
    let above : n ≤ a = ltb-false a n is in
    rw (le-ltb (min n a) (min n long) (omega arith)) refl

position-take : {X : Type 0} (p : X → Bool) (n : ℕ) (xs : List X)
    → position p (take n xs) ≡ cond (nat_lt (position_or_len p xs) n) (position p xs) None
position-take p n xs =
    ap₂ (λ a l. cond (nat_lt a l) (Some a) None) (prefix_len-take (λ x. not (p x)) n xs)
    (length-take n xs)
    ∙ position_at (position_or_len p xs) (length xs) n (nat_lt (position_or_len p xs) n) refl

-- the index, if the family there takes the copy in
abbrev pub if_joins : (limit : ℕ) → List Family → HeardCopy → ℕ → Option ℕ
if_joins limit families heard index = if joins_at_holding limit families heard index then Some index
    else None

none_at : {A B : Type 0} (f : A → Option B) (b : Bool) (a : A) → f a ≡ None
    → option_and_then f (cond b (Some a) None) ≡ None
none_at f true a is = is
none_at f false a is = refl

same_at : {A B : Type 0} (f g : A → Option B) (b : Bool) (a : A) → f a ≡ g a
    → option_and_then f (cond b (Some a) None) ≡ option_and_then g (cond b (Some a) None)
same_at f g true a is = is
same_at f g false a is = refl

join_below : (limit : ℕ) (families : List Family) (heard : HeardCopy) (index : ℕ) → index < limit
    → if_joins limit (take limit families) heard index ≡ if_joins limit families heard index
join_below limit families heard index below =
    ap (λ o. if nat_lt index limit
    && unwrap_or (option_map (λ (family : Family). takes_in family heard) o) false
    then Some index else None) (slice_get-take limit families index below)

pub join_past : (limit : ℕ) (families : List Family) (heard : HeardCopy) (index : ℕ) → limit ≤ index
    → if_joins limit families heard index ≡ None
join_past limit families heard index past = rw (le-ltb index limit past) refl

joined_by_place : (limit : ℕ) (families : List Family) (heard : HeardCopy) (a : ℕ) (b there : Bool)
    → nat_lt a limit ≡ b
    → option_and_then (if_joins limit (take limit families) heard)
    (cond b (cond there (Some a) None) None)
    ≡ option_and_then (if_joins limit families heard) (cond there (Some a) None)
joined_by_place limit families heard a true there is =
    same_at (if_joins limit (take limit families) heard) (if_joins limit families heard) there a
    (join_below limit families heard a (ltb-true a limit is))
joined_by_place limit families heard a false there is =
    sym (none_at (if_joins limit families heard) there a
    (join_past limit families heard a (ltb-false a limit is)))

-- a copy joins the same family, whether all are looked at or the last 200
pub index_joined-take : (limit : ℕ) (families : List Family) (heard : HeardCopy)
    → index_joined_holding limit (take limit families) heard
    ≡ index_joined_holding limit families heard
unfolding index_joined_holding
index_joined-take limit families heard =
    let p : Family → Bool = λ (family : Family). same_identity family.identity heard.copy.identity
    in
    ap (option_and_then (if_joins limit (take limit families) heard))
    (position-take p limit families)
    ∙ joined_by_place limit families heard (position_or_len p families)
    (nat_lt (position_or_len p families) limit)
    (nat_lt (position_or_len p families) (length families)) refl

-- What the index says.

-- the copy joins the family that stands at the index, which is below 200
pub record IsJoinedAt (limit : ℕ) (families : List Family) (heard : HeardCopy)
    (index : ℕ) : Type 0 where
  pub few : index < limit
  pub family : Family
  pub there : slice_get families index ≡ Some family

stands_at : (limit : ℕ) (families : List Family) (heard : HeardCopy) (index : ℕ) (few : Bool)
    (o : Option Family)
    → nat_lt index limit ≡ few → slice_get families index ≡ o
    → (few && unwrap_or (option_map (λ (family : Family). takes_in family heard) o) false) ≡ true
    → IsJoinedAt limit families heard index
stands_at limit families heard index true (Some family) below is passes =
    record { few = ltb-true index limit below; family = family; there = is }
stands_at limit families heard index true None below is passes =
    absurd (let contra : false ≡ true = passes in cc)
stands_at limit families heard index false o below is passes =
    absurd (let contra : false ≡ true = passes in cc)

pub from_if : (b : Bool) (k index : ℕ) → (if b then Some k else None) ≡ Some index
    → (b ≡ true) × (k ≡ index)
from_if true k index is = (refl, (let inside : Some k ≡ Some index = is in cc))
from_if false k index is = absurd (let contra : None ≡ Some index = is in cc)

from_last : (limit : ℕ) (families : List Family) (heard : HeardCopy) (o : Option ℕ) (index : ℕ)
    → option_and_then (if_joins limit families heard) o ≡ Some index
    → IsJoinedAt limit families heard index
from_last limit families heard None index is = absurd (let contra : None ≡ Some index = is in cc)
from_last limit families heard (Some k) index is =
    let parts = from_if (joins_at_holding limit families heard k) k index is in
    subst (IsJoinedAt limit families heard) parts.1
    (stands_at limit families heard k (nat_lt k limit) (slice_get families k) refl refl parts.0)

pub joined_at_index : (limit : ℕ) (families : List Family) (heard : HeardCopy) (index : ℕ)
    → index_joined_holding limit families heard ≡ Some index → IsJoinedAt limit families heard index
unfolding index_joined_holding
joined_at_index limit families heard index is =
    from_last limit families heard (last_index heard.copy.identity families) index is

-- what the search for it answers
pub index_joined-none : (limit : ℕ) (families : List Family) (heard : HeardCopy)
    → last_index heard.copy.identity families ≡ None → index_joined_holding limit families heard
    ≡ None
unfolding index_joined_holding
index_joined-none limit families heard is = ap (option_and_then (if_joins limit families heard)) is

pub index_joined-at : (limit : ℕ) (families : List Family) (heard : HeardCopy) (index : ℕ)
    (family : Family)
    (b : Bool) → last_index heard.copy.identity families ≡ Some index
    → slice_get families index ≡ Some family → index < limit → b ≡ takes_in family heard
    → index_joined_holding limit families heard ≡ (if b then Some index else None)
unfolding index_joined_holding
index_joined-at limit families heard index family b is there few takes =
    ap (option_and_then (if_joins limit families heard)) is
    ∙ ap (λ o. if nat_lt index limit
    && unwrap_or (option_map (λ (family : Family). takes_in family heard) o) false
    then Some index else None) there
    ∙ ap (λ c. if c && takes_in family heard then Some index else None) (lt-ltb index limit few)
    ∙ ap (λ c. if c then Some index else None) (sym takes)

pub index_joined-by : (limit : ℕ) (families : List Family) (heard : HeardCopy) (index : ℕ)
    (family : Family)
    (b : Bool) → last_index heard.copy.identity families ≡ Some index
    → slice_get families index ≡ Some family → length families ≤ limit → b ≡ takes_in family heard
    → index_joined_holding limit families heard ≡ (if b then Some index else None)
index_joined-by limit families heard index family b is there few takes =
    let within = slice_get_within families index family there in
    index_joined-at limit families heard index family b is there (omega arith) takes

-- The families and the combined copy, by what becomes of the copy.

pub record HasNone (limit : ℕ) (families : List Family) (heard : HeardCopy) : Type 0 where
  pub after : families_after_holding limit families heard ≡ families
  pub one : combined_copy_holding limit families heard ≡ alone None heard

pub no_family : (limit : ℕ) (families : List Family) (heard : HeardCopy) → has_family heard ≡ false
    → HasNone limit families heard
unfolding families_after_holding combined_copy_holding
no_family limit families heard is = record { after = rw is refl; one = rw is refl }

pub record Begins (limit : ℕ) (families : List Family) (heard : HeardCopy) : Type 0 where
  pub after : families_after_holding limit families heard ≡ begun_by heard ∷ families
  pub one : combined_copy_holding limit families heard ≡ alone (Some (length families)) heard

pub begins_one : (limit : ℕ) (families : List Family) (heard : HeardCopy) → has_family heard ≡ true
    → index_joined_holding limit families heard ≡ None → Begins limit families heard
unfolding families_after_holding combined_copy_holding
begins_one limit families heard is none = record {
  after = rw (is, none) refl;
  one =
      rw (is, none) refl;
}

pub record Joins (limit : ℕ) (families : List Family) (heard : HeardCopy) (index : ℕ)
    (family : Family)
    : Type 0 where
  pub after : families_after_holding limit families heard
      ≡ set families index (joined_by heard family)
  pub one : combined_copy_holding limit families heard
      ≡ together (length families - 1 - index) (joined_by heard family) heard

pub joins_one : (limit : ℕ) (families : List Family) (heard : HeardCopy) (index : ℕ)
    (family : Family)
    → has_family heard ≡ true → index_joined_holding limit families heard ≡ Some index
    → slice_get families index ≡ Some family → Joins limit families heard index family
unfolding families_after_holding combined_copy_holding
joins_one limit families heard index family is joins there =
    record { after = rw (is, joins, there) refl; one = rw (is, joins, there) refl }

-- of the last 200 the family stands at the same index
pub there-take : (limit : ℕ) (families : List Family) (index : ℕ) (family : Family) → index < limit
    → slice_get families index ≡ Some family → slice_get (take limit families) index ≡ Some family
there-take limit families index family few there = slice_get-take limit families index few ∙ there

pub joined_at-take : (limit : ℕ) (families : List Family) (heard : HeardCopy) (index : ℕ)
    (family : Family)
    → index < limit → slice_get families index ≡ Some family
    → joined_at (take limit families) heard index
    ≡ take limit (set families index (joined_by heard family))
joined_at-take limit families heard index family few there =
    ap (λ o. option_map_or (λ (family : Family). set (take limit families) index
    (joined_by heard family)) o (take limit families))
    (there-take limit families index family few there)
    ∙ sym (take-set-lt limit families index (joined_by heard family) few)

take-take : {X : Type 0} (n : ℕ) (xs : List X) → take n (take (suc n) xs) ≡ take n xs
take-take zero xs = refl
take-take (suc n) [] = refl
take-take (suc n) (x ∷ xs) = ap (λ l. x ∷ l) (take-take n xs)

-- what is pushed before the first elements stands before all
pub take-pushed : {X : Type 0} (n : ℕ) (x : X) (xs : List X)
    → take n (x ∷ take n xs) ≡ take n (x ∷ xs)
take-pushed zero x xs = refl
take-pushed (suc n) x xs = ap (λ l. x ∷ l) (take-take n xs)
