-- What the stage of a reader and the bytes that it holds stand for: what came behind the last
-- part that is over.
use Rattle.std.specs.Prelude.{◌≡◌, ◌≢◌, ℕ, ◌-◌, ◌^◌, Bool, true, false, List, [], ◌∷◌, ◌++◌, length, min, Option, None, Some}
use Rattle.std.specs.List.{All}
use Rattle.nx_log.specs.Reading.{Head, IsBlank, IsGap, IsHead, IsInReach, IsNoBracket, IsPart, IsTail, LogRead, begun, is_begun, line_behind, reach_behind}
use Rattle.nx_log.specs.declared.entries.reader.EntryStage.{EntryStage}
use Rattle.nx_log.specs.declared.entries.reader.EntryStage.TheVariants as stages
use Rattle.nx_log.specs.declared.entries.reader.TornLine.{TornLine}
use Rattle.nx_log.specs.declared.entries.tail.Tail.{Tail}
use Rattle.nx_log.specs.declared.entries.tail.Shape.{Shape}
use Rattle.nx_log.specs.declared.entries.tail.Shape.TheVariants as shapes

-- how many bytes more can be torn behind newlines and spaces: behind the beginning of an entry
-- their own spaces don't reach
abbrev pub torn_reach_behind : Bool → ℕ → List ℕ → ℕ
torn_reach_behind true reach blanks = reach - length blanks
torn_reach_behind false reach blanks = reach_behind reach blanks

-- newlines and spaces, one or more
pub record AreBlanks (tail : Tail) (reach : ℕ) (bytes : List ℕ) : Type 0 where
  pub blank : All IsBlank bytes
  pub some : bytes ≢ []
  pub reach_is : tail.reach ≡ reach_behind reach bytes
  pub torn_is : tail.torn_reach ≡ torn_reach_behind tail.is_torn reach bytes

-- one other byte
pub record IsOther (tail : Tail) (reach : ℕ) (bytes : List ℕ) : Type 0 where
  pub byte : ℕ
  pub is : bytes ≡ byte ∷ []
  pub not_blank : ¬ IsBlank byte
  pub reach_is : tail.reach ≡ reach - 1
  pub torn_is : tail.torn_reach ≡ reach - 1

-- torn bytes within reach
pub record AreTorn (tail : Tail) (reach : ℕ) (bytes blanks : List ℕ) : Type 0 where
  pub no_gap : ¬ IsGap bytes
  pub in_reach : IsInReach tail.is_torn reach bytes blanks tail.reach
  pub torn_is : tail.torn_reach ≡ tail.reach

-- the byte goes on with the gap in this shape
abbrev pub StaysGap : Shape → ℕ → Type 0
StaysGap shapes.Nothing byte = Unit {0}
StaysGap shapes.Blanks byte = IsBlank byte
StaysGap shapes.One byte = ⊥
StaysGap shapes.Torn byte = ⊥

-- it doesn't, so it can only be torn
abbrev pub CanTear : Shape → ℕ → Type 0
CanTear shapes.Nothing byte = ⊥
CanTear shapes.Blanks byte = ¬ IsBlank byte
CanTear shapes.One byte = Unit {0}
CanTear shapes.Torn byte = Unit {0}

-- the tail behind one more newline or space of a gap
abbrev pub torn_behind : Bool → ℕ → ℕ → ℕ
torn_behind true torn reach = torn - 1
torn_behind false torn reach = reach

abbrev pub with_blank : Tail → ℕ → Tail
with_blank tail byte = record {
  is_torn = tail.is_torn;
  shape = shapes.Blanks;
  reach = reach_behind tail.reach (byte ∷ []);
  torn_reach =
      torn_behind tail.is_torn tail.torn_reach (reach_behind tail.reach (byte ∷ []));
  torn_line = tail.torn_line;
}

-- behind another byte, which is the gap
abbrev pub with_other : Tail → Tail
with_other tail = record {
  is_torn = tail.is_torn;
  shape = shapes.One;
  reach = tail.reach - 1;
  torn_reach = tail.torn_reach - 1;
  torn_line = tail.torn_line;
}

-- the line of a torn entry that has begun, or begins on this line
abbrev pub line_torn : Bool → Shape → ℕ → ℕ → ℕ
line_torn true shape torn line = torn
line_torn false shapes.Torn torn line = torn
line_torn false shape torn line = line

-- the torn entry of a tail, if it has one
abbrev pub torn_in : Bool → Shape → ℕ → Option TornLine
torn_in true shape line = Some (record { line = line })
torn_in false shapes.Torn line = Some (record { line = line })
torn_in false shape line = None

abbrev pub torn_of : Tail → Option TornLine
torn_of tail = torn_in tail.is_torn tail.shape tail.torn_line

-- behind another byte, which is torn and stands on this line
abbrev pub with_torn : Tail → ℕ → Tail
with_torn tail line = record {
  is_torn = tail.is_torn;
  shape = shapes.Torn;
  reach = tail.torn_reach - 1;
  torn_reach = tail.torn_reach - 1;
  torn_line = line_torn tail.is_torn tail.shape tail.torn_line line;
}

-- in this shape a tail stands for these bytes, of which the torn ones stand behind these blanks
abbrev pub StandsAs : Shape → Tail → ℕ → List ℕ → Option (List ℕ) → Type 0
StandsAs shapes.Nothing tail reach bytes torn =
    (bytes ≡ []) × (torn ≡ None) × (tail.reach ≡ reach) × (tail.torn_reach ≡ reach)
StandsAs shapes.Blanks tail reach bytes torn = (torn ≡ None) × AreBlanks tail reach bytes
StandsAs shapes.One tail reach bytes torn = (torn ≡ None) × IsOther tail reach bytes
StandsAs shapes.Torn tail reach bytes torn =
    (blanks : List ℕ) × (torn ≡ Some blanks) × AreTorn tail reach bytes blanks

-- the line that the tail tells of is that of its torn entry
abbrev pub TellsLine : Tail → List ℕ → List ℕ → Option (List ℕ) → Bool → Type 0
TellsLine tail before front torn true = tail.torn_line ≡ min (line_behind before) (2 ^ 64 - 1)
TellsLine tail before front None false = Unit {0}
TellsLine tail before front (Some blanks) false =
    tail.torn_line ≡ min (line_behind (before ++ (front ++ blanks))) (2 ^ 64 - 1)

-- The tail stands for these bytes behind the front of a part, and behind what was read before.
pub record StandsBehind (tail : Tail) (before front : List ℕ) (reach : ℕ) (bytes : List ℕ)
    (torn : Option (List ℕ)) : Type 0 where
  pub no_bracket : All IsNoBracket bytes
  pub stands : StandsAs tail.shape tail reach bytes torn
  pub tells : TellsLine tail before front torn tail.is_torn

-- the same, wherever the torn bytes begin
abbrev pub StandsSomehow : Tail → List ℕ → List ℕ → ℕ → List ℕ → Type 0
StandsSomehow tail before front reach bytes =
    (torn : Option (List ℕ)) × StandsBehind tail before front reach bytes torn

-- some tail is these bytes
abbrev pub IsSomeTail : Bool → ℕ → List ℕ → Type 0
IsSomeTail is_torn reach bytes =
    (torn : Option (List ℕ)) × (left : ℕ) × IsTail is_torn reach bytes torn left

-- at this stage a reader stands so in a part: its entry goes on, or its tail
abbrev pub StageIs : EntryStage → List ℕ → LogRead → Head → List ℕ → List ℕ → Option (List ℕ)
    → Type 0
StageIs (stages.Begun entry) held before head front behind torn =
    (head ≡ begun) × (held ≡ front) × (behind ≡ []) × (torn ≡ None)
    × (entry.reach ≡ before.reach) × (entry.line ≡ min (line_behind before.bytes) (2 ^ 64 - 1))
StageIs (stages.Behind tail) held before head front behind torn =
    (tail.is_torn ≡ is_begun head) × (is_begun head ≡ true → behind ≢ [])
    × StandsBehind tail before.bytes front (before.reach - length front) behind torn

-- at this stage, with these bytes held, a reader stands for the part behind what was read before
pub record StandsFor (stage : EntryStage) (held : List ℕ) (first : Bool) (before : LogRead)
    (bytes : List ℕ) : Type 0 where
  pub head : Head
  pub front : List ℕ
  pub behind : List ℕ
  pub torn : Option (List ℕ)
  pub split : bytes ≡ before.bytes ++ (front ++ behind)
  pub is_part : IsPart first (front ++ behind)
  pub is_head : IsHead first head front behind
  pub stage_is : StageIs stage held before head front behind torn
