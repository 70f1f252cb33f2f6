-- What the laws of combined copies say. What is named `holding` takes first how many families are
-- held; the same name without that word is its case of 200.
use Rattle.std.specs.Prelude.{◌≡◌, ◌⊎◌, ℕ, ◌+◌, ◌-◌, ◌<◌, ◌≤◌, Bool, true, false, List, [], ◌∷◌, ◌++◌, length, slice_get}
use Rattle.std.specs.Prelude.{Contains, Option, Some, None, fold, map}
use Rattle.std.specs.List.{AllByRecursion, filter, find}
use Rattle.nx_code.specs.Reading.{Reception, combination, idle, lost}
use Rattle.nx_envelope.specs.Copies.{errors_of}
use Rattle.nx_envelope.specs.Identity.{same_identity}
use Rattle.nx_envelope.specs.declared.found.How.TheVariants.{Full}
use Rattle.nx_envelope.specs.declared.identity.Identity.{Identity}
use Rattle.nx_memory.specs.Memory.{most_entries}
use Rattle.nx_memory.specs.declared.memories.entry.MemoryEntry.{MemoryEntry}
use Rattle.nx_copies.specs.copies.Printing.{is_better, is_remembered}
use Rattle.nx_combine.specs.CombinedPrinting.{are_of_one_family}
use Rattle.nx_combine.specs.CopyPositions.{HeardCopy}
use Rattle.nx_combine.specs.Families.{CombinedCopy, Family, families_after_holding, has_family}
use Rattle.nx_combine.specs.Families.{combined, given_by, index_joined_holding, most_families}
use Rattle.nx_combine.specs.Families.{seconds_joined}
use Rattle.nx_combine.specs.Joining.{joined, joined_position}
use Rattle.nx_combine.specs.Judging.{Judged, judged_after_holding}
use Rattle.nx_combine.specs.PositionEnds.{ending_by}

-- what two lists have at an index, where each has something or ends before it
abbrev pub joined_where : Option Reception → Option Reception → Option Reception
joined_where None second = second
joined_where (Some x) None = Some x
joined_where (Some x) (Some y) = Some (joined_position x y)

-- a copy that was heard before and is of the family of this one
pub record IsOfFamily (before : List CombinedCopy) (one by : CombinedCopy) : Type 0 where
  pub heard_before : Contains before by
  pub of_one : are_of_one_family one by ≡ true

-- the combination was taken at the index by the copy itself, or by an earlier one of its family
pub record WasTaken (before : List CombinedCopy) (one : CombinedCopy) (index number : ℕ)
    : Type 0 where
  pub by : CombinedCopy
  pub among : (by ≡ one) ⊎ IsOfFamily before one by
  pub taken : slice_get by.own.positions index ≡ Some (combination number)

-- each combination that a combined copy has was taken at that index by a copy of its family
abbrev pub InventNothing : List CombinedCopy → Type 0
InventNothing copies =
    (before later : List CombinedCopy) (one : CombinedCopy) → copies ≡ before ++ one ∷ later
    → (index number : ℕ) → slice_get one.positions index ≡ Some (combination number)
    → WasTaken before one index number

-- two positions of which not the one is taken otherwise than the other: neither two combinations,
-- nor a combination and idle
abbrev pub AreTakenAlike : Reception → Reception → Type 0
AreTakenAlike (combination m) (combination n) = m ≡ n
AreTakenAlike (combination m) idle = ⊥
AreTakenAlike idle (combination n) = ⊥
AreTakenAlike first second = Unit {0}

-- so are the positions of two lists at each index that both have
abbrev pub AreAllTakenAlike : List Reception → List Reception → Type 0
AreAllTakenAlike first second =
    (index : ℕ) (x y : Reception) → slice_get first index ≡ Some x
    → slice_get second index ≡ Some y → AreTakenAlike x y

-- no index that is idle in the first list is lost in the second
abbrev pub LosesNoIdle : List Reception → List Reception → Type 0
LosesNoIdle first second =
    (index : ℕ) → slice_get first index ≡ Some idle → slice_get second index ≡ Some lost → ⊥

-- its own copy is better than what its positions give
abbrev pub is_own_better : CombinedCopy → Bool
is_own_better one = is_better one.own.copy (given_by one.positions one.own.copy)

-- how many of these copies are of its family
abbrev pub copies_of_family : CombinedCopy → List CombinedCopy → ℕ
copies_of_family one copies = length (filter (are_of_one_family one) copies)

-- the positions give a full text with no error
pub record IsWhole (positions : List Reception) : Type 0 where
  pub full : (ending_by positions).how ≡ Full
  pub no_error : errors_of (ending_by positions).text ≡ 0

-- copies' positions, joined one after the other
abbrev pub joined_all : List (List Reception) → List Reception
joined_all copies = fold joined [] copies

-- each combination that a copy took is the one that was sent, as far as the sent ones go
abbrev pub IsHeardOf : List ℕ → List Reception → Type 0
IsHeardOf sent positions =
    (index number taken : ℕ) → slice_get sent index ≡ Some number
    → slice_get positions index ≡ Some (combination taken) → taken ≡ number

-- behind what was sent two copies took no two combinations at an index
abbrev pub RunOnAlike : List ℕ → List Reception → List Reception → Type 0
RunOnAlike sent first second =
    (index m n : ℕ) → length sent ≤ index → slice_get first index ≡ Some (combination m)
    → slice_get second index ≡ Some (combination n) → m ≡ n

-- one of the copies took the combination at the index
abbrev pub IsTakenByOne : ℕ → ℕ → List (List Reception) → Type 0
IsTakenByOne index number [] = ⊥
IsTakenByOne index number (positions ∷ copies) =
    (slice_get positions index ≡ Some (combination number)) ⊎ IsTakenByOne index number copies

-- each combination that was sent was taken at its index by one of the copies
abbrev pub CameThrough : List ℕ → List (List Reception) → Type 0
CameThrough sent copies =
    (index number : ℕ) → slice_get sent index ≡ Some number → IsTakenByOne index number copies

-- behind what was sent the copy took at each index nothing, or the one combination that `behind`
-- has
abbrev pub RunsOnAs : List ℕ → (ℕ → ℕ) → List Reception → Type 0
RunsOnAs sent behind positions =
    (index number : ℕ) → length sent ≤ index
    → slice_get positions index ≡ Some (combination number) → number ≡ behind index

-- the combined copy has these positions, and it comes to what they give, unless its copy is better
pub record IsGivenBy (positions : List Reception) (one : CombinedCopy) : Type 0 where
  pub joined : one.positions ≡ positions
  pub copy : one.copy ≡ combined positions one.own.copy

-- the families, newest first, behind these copies
abbrev pub families_behind_holding : ℕ → List Family → List HeardCopy → List Family
families_behind_holding held families copies = fold (families_after_holding held) families copies

-- the copy bears the identity
abbrev pub bears : Identity → HeardCopy → Bool
bears identity heard = same_identity heard.copy.identity identity

-- the positions of the copies that bear the identity, in order
abbrev pub positions_heard : Identity → List HeardCopy → List (List Reception)
positions_heard identity copies = map (λ heard. heard.positions) (filter (bears identity) copies)

-- The copy is a sending of what was sent: it has a family, took nothing else than what was sent,
-- runs on as the others, and comes less than 66 hours behind this moment.
pub record IsSending (sent : List ℕ) (behind : ℕ → ℕ) (moment : ℕ) (heard : HeardCopy) : Type 0
  where
    pub family : has_family heard ≡ true
    pub as_sent : IsHeardOf sent heard.positions
    pub runs_on : RunsOnAs sent behind heard.positions
    pub near : heard.copy.moment - moment < seconds_joined

-- so is each of the copies that bears the identity
abbrev pub AreSendings : List ℕ → (ℕ → ℕ) → ℕ → Identity → List HeardCopy → Type 0
AreSendings sent behind moment identity copies =
    AllByRecursion (λ heard. bears identity heard ≡ true → IsSending sent behind moment heard)
    copies

-- where so many families were begun up to a first copy, fewer than are held are begun between it
-- and each of these copies that bears the identity
abbrev pub FewBegunHolding : ℕ → Identity → ℕ → List Family → List HeardCopy → Type 0
FewBegunHolding held identity first families [] = Unit {0}
FewBegunHolding held identity first families (heard ∷ later) =
    (bears identity heard ≡ true → length families < first + held)
    × FewBegunHolding held identity first (families_after_holding held families heard) later

abbrev pub FewBegun : Identity → ℕ → List Family → List HeardCopy → Type 0
FewBegun = FewBegunHolding most_families

-- a combined copy that is full and has no error
pub record IsWholeCopy (one : CombinedCopy) : Type 0 where
  pub full : one.copy.how ≡ Full
  pub no_error : errors_of one.copy.text ≡ 0

-- the last copy of its family that was printed, of these, newest first, is whole
pub record IsLastWhole (before : List CombinedCopy) (one : CombinedCopy) : Type 0 where
  pub last : CombinedCopy
  pub found : find (are_of_one_family one) before ≡ Some last
  pub whole : IsWholeCopy last

-- it is selected, has a family and isn't numbered 00; and where an entry of its identity is live, a
-- copy of its family was printed before
pub record IsOfPrinted (entries : List MemoryEntry) (before : List CombinedCopy)
    (one : CombinedCopy)
    : Type 0 where
  pub selected : one.copy.selected ≡ true
  pub number : ℕ
  pub family : one.family ≡ Some number
  pub numbered : 0 < one.copy.identity.number
  pub printed : is_remembered entries one.copy ≡ true
      → (last : CombinedCopy) × (find (are_of_one_family one) before ≡ Some last)

-- where so many entries were made up to a first copy, fewer than 200 are made between it and each
-- of these copies that bears the identity
abbrev pub FewMadeHolding : ℕ → Identity → ℕ → Judged → List HeardCopy → Type 0
FewMadeHolding held identity first so_far [] = Unit {0}
FewMadeHolding held identity first so_far (heard ∷ later) =
    (bears identity heard ≡ true → length so_far.entries < first + most_entries)
    × FewMadeHolding held identity first (judged_after_holding held so_far heard) later

abbrev pub FewMade : Identity → ℕ → Judged → List HeardCopy → Type 0
FewMade = FewMadeHolding most_families

-- at no index at which something was sent the position is idle
abbrev pub IsNeverIdle : List ℕ → List Reception → Type 0
IsNeverIdle sent positions =
    (index number : ℕ) → slice_get sent index ≡ Some number → slice_get positions index ≡ Some idle
    → ⊥

-- A copy arrives as what was sent: where something was sent, nothing is idle; and where the copy is
-- full, or its positions give a full text, it is what they give.
pub record Arrives (sent : List ℕ) (heard : HeardCopy) : Type 0 where
  pub never_idle : IsNeverIdle sent heard.positions
  pub full : heard.copy.how ≡ Full → heard.copy ≡ given_by heard.positions heard.copy
  pub read : (ending_by heard.positions).how ≡ Full
      → heard.copy ≡ given_by heard.positions heard.copy

-- the text that was sent
abbrev pub text_sent : List ℕ → List ℕ
text_sent sent = (ending_by (map combination sent)).text

-- What has to be met, so that a message is printed whole once, whatever else is heard. These copies
-- were judged so far, then comes the first one that bears its identity, and then these.
pub record AreHeardTogetherHolding (held : ℕ) (sent : List ℕ) (behind : ℕ → ℕ)
    (identity : Identity) (so_far : Judged) (first : HeardCopy) (copies : List HeardCopy)
    : Type 0 where
  -- The first copy begins a family, and no entry of its identity is live.
  pub begins : index_joined_holding held so_far.families first ≡ None
  pub unknown : is_remembered so_far.entries first.copy ≡ false
  -- The first copy and all others of the identity are sendings of the message, which arrive as what
  -- was sent, none before the first one.
  pub first_bears : bears identity first ≡ true
  pub first_sending : IsSending sent behind first.copy.moment first
  pub first_arrives : Arrives sent first
  pub sendings : AreSendings sent behind first.copy.moment identity copies
  pub arrive : AllByRecursion (λ heard. bears identity heard ≡ true → Arrives sent heard) copies
  pub in_turn : AllByRecursion
      (λ heard. bears identity heard ≡ true → first.copy.moment ≤ heard.copy.moment) copies
  -- The families that are held and 200 entries suffice.
  pub few_begun : FewBegunHolding held identity (length so_far.families + 1)
      (families_after_holding held so_far.families first) copies
  pub few_made : FewMadeHolding held identity
      (length (judged_after_holding held so_far first).entries)
      (judged_after_holding held so_far first) copies

-- the combined copy bears the identity
abbrev pub is_named : Identity → CombinedCopy → Bool
is_named identity one = same_identity one.copy.identity identity

-- One of the printed copies is whole, bears the identity, and has this text. Before it no such
-- one was printed, and behind it, also among those that are printed later, none of the identity is.
pub record IsWholeOnce (identity : Identity) (text : List ℕ) (printed later : List CombinedCopy)
    : Type 0 where
  pub before : List CombinedCopy
  pub one : CombinedCopy
  pub after : List CombinedCopy
  pub among : printed ≡ before ++ one ∷ after
  pub named : is_named identity one ≡ true
  pub whole : IsWholeCopy one
  pub letters : one.copy.text ≡ text
  pub not_before : AllByRecursion (λ other. is_named identity other ≡ true → ¬ IsWholeCopy other)
      before
  pub nothing_behind : AllByRecursion (λ other. is_named identity other ≡ false) (after ++ later)
