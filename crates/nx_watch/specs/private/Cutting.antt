-- How it is told what a start cuts of its log.
use Rattle.std.specs.Prelude.{◌≡◌, ◌⊎◌, ℕ, List, [], ◌∷◌, ◌++◌, Option, drop}
use Rattle.nx_fec.specs.Transfers.{CountedDevice}
use Rattle.nx_kept.specs.Kept.{IsBehindOpenGates, IsTail}
use Rattle.nx_kept.specs.Log.{IsAtRest}
use Rattle.nx_kept.specs.Taker.{Took}
use Rattle.nx_kept.specs.declared.log.KeptLog.{KeptLog}
use Rattle.nx_log.specs.Entries.{IsWholeEntry}
use Rattle.nx_watch.specs.CutTold.{AreHeads, BeginsWithEntry, cut_told, first_line}
use Rattle.nx_watch.specs.Watch.{TellsOfCut, longest_entry}
use Rattle.nx_watch.specs.declared.kept_log.log_grammar.LogGrammar.{LogGrammar}
use Rattle.nx_watch.specs.declared.kept_log.log_memory.LogMemory.{LogMemory}
use Rattle.nx_watch.specs.LineRun.{HasTold}
use Rattle.nx_watch.specs.private.Stamp.{note}
use Rattle.nx_watch.specs.Stamps.{notes_of}
use Rattle.nx_watch.specs.declared.kept_log.log_opening.LogOpening.{LogOpening}
use Rattle.nx_watch.specs.private.Remembering.{RemembersMore}

-- behind what was told before, this was told too
abbrev pub TellsMore : {F : Type 0} → (F → Option (List ℕ)) → CountedDevice F → CountedDevice F
    → List ℕ → Type 0
TellsMore contents old new more =
    (before : Option (List ℕ)) (text : List ℕ)
    → HasTold before (contents old.inner) old.failures text
    → HasTold before (contents new.inner) new.failures (text ++ more)

-- the head that stands where these bytes begin, if an entry begins there
abbrev pub IsHeadAt : List ℕ → List (List ℕ) → Type 0
IsHeadAt bytes heads =
    (BeginsWithEntry bytes × (heads ≡ first_line bytes ∷ []))
    ⊎ ((BeginsWithEntry bytes → ⊥) × (heads ≡ []))

-- these are the heads before a place: with those from there on they are all of them
abbrev pub AreHeadsBefore : List ℕ → ℕ → List (List ℕ) → Type 0
AreHeadsBefore bytes at heads =
    (more : List (List ℕ)) → AreHeads (drop at bytes) more → AreHeads bytes (heads ++ more)

-- one entry more is remembered, and nothing is told
pub record TakesEntry {D F : Type 0} (old : LogOpening D F) (bytes : List ℕ) (new : LogOpening D F)
    : Type 0 where
  pub remembers : RemembersMore old.memory.now bytes new.memory.now
  pub same_memory : new.memory.ghost_name ≡ old.memory.ghost_name
  pub same_notices : new.notices.ghost_name ≡ old.notices.ghost_name
  pub same_cuts : new.cuts.ghost_name ≡ old.cuts.ghost_name
  pub untold : new.notices.now ≡ old.notices.now
  pub unnoted : new.cuts.now ≡ old.cuts.now

-- nothing more is remembered, it is told what is cut, and then noted how the file stood
pub record HearsOfCut {D F : Type 0} (contents : F → Option (List ℕ)) (file : D)
    (old : LogOpening D F) (line : ℕ) (bytes : List ℕ) (new : LogOpening D F)
    : Type 0 where
  pub remembers : new.memory.now ≡ old.memory.now
  pub same_memory : new.memory.ghost_name ≡ old.memory.ghost_name
  pub same_notices : new.notices.ghost_name ≡ old.notices.ghost_name
  pub heads : List (List ℕ)
  pub are : AreHeads bytes heads
  pub told : TellsMore contents old.notices.now new.notices.now (cut_told line bytes heads)
  pub same_cuts : new.cuts.ghost_name ≡ old.cuts.ghost_name
  pub noted : notes_of new.cuts.now ≡ note file new.notices.now ∷ notes_of old.cuts.now

-- what a start cuts of this file was told behind what stood there
abbrev pub HasToldCut : {F : Type 0} → (F → Option (List ℕ)) → List ℕ → CountedDevice F
    → CountedDevice F → Type 0
HasToldCut contents file old new =
    (cut : List ℕ) × TellsOfCut file cut × TellsMore contents old new cut

-- The file was entries behind open gates and a tail. The entries were remembered, in order, what is
-- cut of the tail was told, and a closed gate is now in its place.
pub record OpensLog {D F : Type 0} (contents : F → Option (List ℕ)) (seen : D → List ℕ)
    (may_leave : D → List ℕ → Type 0)
    (device : D) (before after : LogMemory) (old new : CountedDevice F)
    (log : KeptLog D LogGrammar)
    : Type 0 where
  pub records : List (List ℕ)
  pub front : List ℕ
  pub tail : List ℕ
  pub kept : IsBehindOpenGates IsWholeEntry records front
  pub end : IsTail longest_entry tail
  pub split : seen device ≡ front ++ tail
  pub taken : Took RemembersMore before records after
  pub told : HasToldCut contents (seen device) old new
  pub at_rest : IsAtRest seen may_leave front log
