-- Steps of a reader: it goes on, it ends an entry or a torn one, it stops.
use Rattle.std.proofs.Common.{◌≡◌, ◌≢◌, ◌⊎◌, inl, inr, ℕ, zero, suc, ◌+◌, ◌-◌, ◌^◌, ◌≤◌, ◌<◌, min, Bool, true, false, List, [], ◌∷◌, ◌++◌, get_or, take, drop, length, Option, Some, None, ap, sym, ◌∙◌, refl, subst, arith, append_assoc, append-nil, length-append}
use Rattle.std.specs.Prelude.{◌==◌}
use Rattle.std.specs.List.{All}
use Rattle.std.proofs.lemmas.List.{length-drop, length-take, append_cancel_left, take-append-drop, take_all}
use Rattle.std.proofs.lemmas.List.Elements.{All-append, All-nil, All-tail}
use Rattle.nx_copies.specs.copies.Shares.{MarkedCopy}
use Rattle.nx_code.specs.Reading.{space}
use Rattle.nx_log.specs.Entries.{IsUnfinishedEntry, IsWholeEntry}
use Rattle.nx_log.specs.LogReading.{LogReading}
use Rattle.nx_log.specs.Logged.{IsLoggedAs}
use Rattle.nx_log.specs.LogReader.{EndsSo, IsAt, StopAt, Takes, most_lines}
use Rattle.nx_log.specs.Reading.{AreRead, Head, HoldEntries, HoldEntriesToEnd, IsBlank, IsHead, IsLogRead, IsLongest, IsNoBracket, IsOfLog, IsPart, IsTail, LogRead, begun, entries_of, is_begun, is_first, line_behind, nothing, reach_behind, torn_line, whole}
use Rattle.nx_log.specs.Starts.{StartsAs}
use Rattle.nx_log.specs.declared.entries.reader.BadLine.{BadLine}
use Rattle.nx_log.specs.declared.entries.reader.Begun.{Begun as EntryBegun}
use Rattle.nx_log.specs.declared.entries.reader.Pushed.{Pushed}
use Rattle.nx_log.specs.declared.entries.reader.Pushed.TheVariants.{All as TakenAll, Bad, Entry, Torn}
use Rattle.nx_log.specs.declared.entries.reader.EntryStage.{EntryStage}
use Rattle.nx_log.specs.declared.entries.reader.EntryStage.TheVariants.{Begun, Behind}
use Rattle.nx_log.specs.declared.entries.reader.TornLine.{TornLine}
use Rattle.nx_log.specs.declared.entries.start.EntryStart.TheVariants.{Whole, Unfinished, Broken}
use Rattle.nx_log.specs.declared.entries.tail.Shape.{Shape}
use Rattle.nx_log.specs.declared.entries.tail.Shape.TheVariants as shapes
use Rattle.nx_log.specs.declared.entries.tail.Tail.{Tail}
use Rattle.nx_log.specs.declared.entries.tail.TailPassed.{TailPassed}
use Rattle.nx_log.specs.declared.entries.tail.TailEnd.TheVariants as ends
use Rattle.nx_log.specs.private.Standing.{IsSomeTail, StageIs, StandsAs, StandsBehind, StandsFor, StandsSomehow, TellsLine, torn_in, torn_of}
use Rattle.nx_log.specs.private.Steps.{Ends, EndsTail, IsAtTail, Opens, TakesWithin, passed_and}
use Rattle.nx_log.proofs.lemmas.reader.Begun.{bracket_begins, breaks, breaks_behind, whole_behind}
use Rattle.nx_log.proofs.lemmas.reader.Tails.{made, same_line}
use Rattle.nx_log.proofs.lemmas.reading.Fronts.{not_nil}
use Rattle.nx_log.proofs.lemmas.reading.Parts.{unfinished_front}
use Rattle.nx_log.proofs.lemmas.reading.Brackets.{entry_bracket, unfinished_bracket}
use Rattle.nx_log.proofs.lemmas.reading.Parts.{last_bracket, not_in_two, same_head, same_read}
use Rattle.nx_log.proofs.lemmas.beginnings.Lists.{left_nil}
use Rattle.nx_kept.proofs.lemmas.Pieces.{take_past}

-- ---- what a tail stands for is one

no_space : (byte : ℕ) → ¬ IsBlank byte → (byte == space) ≡ false
no_space byte other = other_space byte (λ e. other (inr e))
  where
    other_space : (byte : ℕ) → byte ≢ space → (byte == space) ≡ false
    other_space byte h = grind arith

reach_of_one : (reach byte : ℕ) → ¬ IsBlank byte → reach_behind reach (byte ∷ []) ≡ reach - 1
reach_of_one reach byte other = rw (no_space byte other) refl

tail_is : (is_torn : Bool) (shape : Shape) (r t l reach : ℕ) (bytes : List ℕ)
    (torn : Option (List ℕ)) → StandsAs shape (made is_torn shape r t l) reach bytes torn
    → IsTail is_torn reach bytes torn r
tail_is is_torn shapes.Nothing r t l reach bytes torn s =
    subst (λ o. IsTail is_torn reach bytes o r) (sym s.1) (
      inl (subst (All IsBlank) (sym s.0) (All-nil IsBlank)),
      s.2 ∙ ap (reach_behind reach) (sym s.0),
    )
tail_is is_torn shapes.Blanks r t l reach bytes torn s =
    subst (λ o. IsTail is_torn reach bytes o r) (sym s.0) (inl s.1.blank, s.1.reach_is)
tail_is is_torn shapes.One r t l reach bytes torn s =
    let o = s.1 in
    subst (λ x. IsTail is_torn reach bytes x r) (sym s.0) (
      inr (ap length o.is),
      o.reach_is ∙ sym (reach_of_one reach o.byte o.not_blank)
          ∙ ap (reach_behind reach) (sym o.is),
    )
tail_is is_torn shapes.Torn r t l reach bytes torn s =
    subst (λ o. IsTail is_torn reach bytes o r) (sym s.1) (s.2.no_gap, s.2.in_reach)

pub stands_tail : (tail : Tail) (before front bytes : List ℕ) (reach : ℕ) (torn : Option (List ℕ))
    → StandsBehind tail before front reach bytes torn
    → IsTail tail.is_torn reach bytes torn tail.reach
stands_tail tail before front bytes reach torn s =
    tail_is tail.is_torn tail.shape tail.reach tail.torn_reach tail.torn_line reach bytes torn
    s.stands

-- ---- a part that is over

-- what is read with it
abbrev pub with_part : LogRead → Head → List ℕ → List ℕ → Option (List ℕ) → ℕ → LogRead
with_part before head front behind torn left = record {
  bytes = before.bytes ++ (front ++ behind);
  entries = before.entries ++ entries_of head;
  told = before.told ++ before.last;
  last = torn_line head before.bytes front torn;
  reach = left;
}

pub are_read : (earlier : List (List ℕ)) (before : LogRead) (head : Head) (front behind : List ℕ)
    (torn : Option (List ℕ)) (left : ℕ) → AreRead earlier before
    → IsPart (is_first earlier) (front ++ behind) → IsHead (is_first earlier) head front behind
    → IsTail (is_begun head) (before.reach - length front) behind torn left
    → AreRead ((front ++ behind) ∷ earlier) (with_part before head front behind torn left)
are_read earlier before head front behind torn left are part is_head is_tail = (
  before,
  are,
  record {
    is_part = part;
    head = head;
    front = front;
    tail = behind;
    torn = torn;
    split = refl;
    is_head = is_head;
    is_tail = is_tail;
    bytes = refl;
    entries = refl;
    told = refl;
    last = refl;
  },
)

-- ---- no other tail stands behind the head of a part

begun_is : (a b : Head) (f g t u : List ℕ) (reach : ℕ) (torn : Option (List ℕ)) (left : ℕ)
    → a ≡ b → f ≡ g → t ≡ u → IsTail (is_begun a) (reach - length f) t torn left
    → IsSomeTail (is_begun b) (reach - length g) u
begun_is a b f g t u reach torn left x y z h =
    let at = subst (λ l. IsTail (is_begun b) (reach - length g) l torn left) z
    (subst (λ l. IsTail (is_begun b) (reach - length l) t torn left) y
    (subst (λ l. IsTail (is_begun l) (reach - length f) t torn left) x h)) in
    (torn, left, at)

pub one_tail : (earlier : List (List ℕ)) (before : LogRead) (head : Head) (front tail : List ℕ)
    → AreRead earlier before → IsPart (is_first earlier) (front ++ tail)
    → IsHead (is_first earlier) head front tail → IsOfLog (before.bytes ++ (front ++ tail))
    → IsSomeTail (is_begun head) (before.reach - length front) tail
one_tail earlier before head front tail are part is_head is =
    go earlier is.1.earlier is.1.part before is.0 are part is_head is.1.are is.1.all
  where
    go : (earlier others : List (List ℕ)) (other : List ℕ) (before read : LogRead)
        → AreRead earlier before → IsPart (is_first earlier) (front ++ tail)
        → IsHead (is_first earlier) head front tail → AreRead (other ∷ others) read
        → read.bytes ≡ before.bytes ++ (front ++ tail)
        → IsSomeTail (is_begun head) (before.reach - length front) tail
    go [] [] other before read are part is_head rs all =
        let n = rs.2 in
        let same : rs.0 ≡ before = rs.1 ∙ sym are in
        let split : n.front ++ n.tail ≡ front ++ tail =
        sym n.split ∙ ap (λ l. l ++ other) (sym (ap (λ (r : LogRead). r.bytes) rs.1))
        ∙ sym n.bytes ∙ all ∙ ap (λ (r : LogRead). r.bytes ++ (front ++ tail)) are in
        let h = same_head true n.head head n.front front n.tail tail n.is_head is_head split in
        begun_is n.head head n.front front n.tail tail before.reach n.torn read.reach h.head h.front
        h.tail
        (subst (λ (r : LogRead). IsTail (is_begun n.head) (r.reach - length n.front) n.tail n.torn
        read.reach) same n.is_tail)
    go [] (q ∷ qs) other before read are part is_head rs all =
        let n = rs.2 in
        absurd (not_in_two (with_part before nothing front tail None 0) read rs.0 (front ++ tail)
        other part (ap (λ (r : LogRead). r.bytes ++ (front ++ tail)) are) n.is_part n.bytes
        (sym all))
    go (p ∷ ps) [] other before read are part is_head rs all =
        let n = rs.2 in
        absurd (not_in_two read (with_part before nothing front tail None 0) before other
        (front ++ tail) n.is_part
        (n.bytes ∙ ap (λ (r : LogRead). r.bytes ++ other) rs.1) part refl all)
    go (p ∷ ps) (q ∷ qs) other before read are part is_head rs all =
        let n = rs.2 in
        let split = last_bracket rs.0.bytes before.bytes n.is_part.0 part.0 n.is_part.2 part.2
        (ap (λ l. rs.0.bytes ++ l) (sym n.is_part.1) ∙ sym n.bytes ∙ all
        ∙ ap (λ l. before.bytes ++ l) part.1) in
        let same = same_read q p qs ps rs.0 before rs.1 are split.front in
        let whole : n.front ++ n.tail ≡ front ++ tail =
        sym n.split ∙ n.is_part.1 ∙ ap (λ l. 91 ∷ l) split.back ∙ sym part.1 in
        let h = same_head false n.head head n.front front n.tail tail n.is_head is_head whole in
        begun_is n.head head n.front front n.tail tail before.reach n.torn read.reach h.head h.front
        h.tail
        (subst (λ (r : LogRead). IsTail (is_begun n.head) (r.reach - length n.front) n.tail n.torn
        read.reach) same n.is_tail)

-- ---- the torn entry of a part

pub record TornHere (head : Head) (tail : Tail) (before front : List ℕ) (torn : Option (List ℕ))
    : Type 0 where
  pub line : ℕ
  pub is : torn_line head before front torn ≡ line ∷ []
  pub counted : tail.torn_line ≡ min line most_lines

torn_behind_one : (head : Head) (tail : Tail) (before front bytes : List ℕ) (reach : ℕ)
    (torn : Option (List ℕ)) → is_begun head ≡ false
    → StandsAs shapes.Torn tail reach bytes torn → TellsLine tail before front torn false
    → TornHere head tail before front torn
torn_behind_one nothing tail before front bytes reach torn other s h =
    let t = subst (λ o. TellsLine tail before front o false) s.1 h in
    record {
      line = line_behind (before ++ (front ++ s.0));
      is = ap (torn_line nothing before front) s.1;
      counted = t;
    }
torn_behind_one (whole one) tail before front bytes reach torn is_whole s h =
    let t = subst (λ o. TellsLine tail before front o false) s.1 h in
    record {
      line = line_behind (before ++ (front ++ s.0));
      is = ap (torn_line (whole one) before front) s.1;
      counted = t;
    }
torn_behind_one begun tail before front bytes reach torn is_whole s h = cc

torn_behind_begun : (head : Head) (tail : Tail) (before front : List ℕ) (torn : Option (List ℕ))
    → is_begun head ≡ true → TellsLine tail before front torn true
    → TornHere head tail before front torn
torn_behind_begun nothing tail before front torn is h = cc
torn_behind_begun (whole one) tail before front torn is h = cc
torn_behind_begun begun tail before front torn is h =
    record { line = line_behind before; is = refl; counted = h }

pub torn_here : (head : Head) (tail : Tail) (before front bytes : List ℕ) (reach : ℕ)
    (torn : Option (List ℕ)) → tail.is_torn ≡ is_begun head
    → StandsBehind tail before front reach bytes torn
    → (tail.is_torn ≡ true) ⊎ (tail.shape ≡ shapes.Torn) → TornHere head tail before front torn
torn_here head tail before front bytes reach torn same s has = by_flag tail.is_torn refl
  where
    by_flag : (b : Bool) → tail.is_torn ≡ b → TornHere head tail before front torn
    by_flag true e =
        torn_behind_begun head tail before front torn (sym same ∙ e)
        (subst (TellsLine tail before front torn) e s.tells)
    by_flag false e = elim has [
      | inl f ↦ cc
      | inr f ↦
          torn_behind_one head tail before front bytes reach torn (sym same ∙ e)
          (subst (λ shape. StandsAs shape tail reach bytes torn) f s.stands)
          (subst (TellsLine tail before front torn) e s.tells)
    ]

none_torn : (shape : Shape) (tail : Tail) (bytes : List ℕ) (reach : ℕ) (torn : Option (List ℕ))
    → StandsAs shape tail reach bytes torn → shape ≢ shapes.Torn → torn ≡ None
none_torn shapes.Nothing tail bytes reach torn s h = s.1
none_torn shapes.Blanks tail bytes reach torn s h = s.0
none_torn shapes.One tail bytes reach torn s h = s.0
none_torn shapes.Torn tail bytes reach torn s h = absurd (h refl)

no_line : (head : Head) (before front : List ℕ) (torn : Option (List ℕ)) → is_begun head ≢ true
    → torn ≡ None → torn_line head before front torn ≡ []
no_line nothing before front torn other none = ap (torn_line nothing before front) none
no_line (whole one) before front torn is none = ap (torn_line (whole one) before front) none
no_line begun before front torn is none = absurd (is refl)

pub not_torn : (head : Head) (tail : Tail) (before front bytes : List ℕ) (reach : ℕ)
    (torn : Option (List ℕ)) → tail.is_torn ≡ is_begun head
    → StandsBehind tail before front reach bytes torn
    → ¬ ((tail.is_torn ≡ true) ⊎ (tail.shape ≡ shapes.Torn))
    → torn_line head before front torn ≡ []
not_torn head tail before front bytes reach torn same s none =
    no_line head before front torn (λ e. none (inl (same ∙ e)))
    (none_torn tail.shape tail bytes reach torn s.stands (λ e. none (inr e)))

-- ---- what stands behind a tail that was passed

-- the first bytes of a whole, where they are longer than its front
pub take_over : (front back : List ℕ) (n : ℕ) → length front ≤ n
    → take n (front ++ back) ≡ front ++ take (n - length front) back
take_over front back n longer =
    let e : n ≡ length front + (n - length front) = omega arith in
    ap (λ k. take k (front ++ back)) e ∙ take_past front back (n - length front)

-- the first bytes and the one behind them
pub take_behind : (bytes : List ℕ) (count byte : ℕ) (more : List ℕ)
    → drop count bytes ≡ byte ∷ more → take (count + 1) bytes ≡ take count bytes ++ byte ∷ []
take_behind [] zero byte more e = absurd (not_nil byte more e)
take_behind [] (suc n) byte more e = absurd (not_nil byte more e)
take_behind (x ∷ bytes) zero byte more e =
    ap (λ h. h ∷ []) (ap (λ (l : List ℕ). get_or l 0 0) e)
take_behind (x ∷ bytes) (suc n) byte more e =
    let sum : suc n + 1 ≡ suc (n + 1) = omega arith in
    ap (λ k. take k (x ∷ bytes)) sum ∙ ap (λ l. x ∷ l) (take_behind bytes n byte more e)

more_behind : (behind bytes : List ℕ) (count : ℕ)
    → behind ++ bytes ≡ (behind ++ take count bytes) ++ drop count bytes
more_behind behind bytes count =
    ap (λ l. behind ++ l) (sym (take-append-drop count bytes))
    ∙ sym (append_assoc behind (take count bytes) (drop count bytes))

longest_front : (front tail more : List ℕ) → IsLongest front (tail ++ more) → IsLongest front tail
longest_front front tail more longest =
    λ byte rest e. longest byte (rest ++ more) (ap (λ l. l ++ more) e)

pub head_front : (first : Bool) (head : Head) (front tail more : List ℕ)
    → IsHead first head front (tail ++ more) → IsHead first head front tail
head_front true nothing front tail more h = h
head_front true (whole one) front tail more h = h
head_front true begun front tail more h = h
head_front false nothing front tail more h = h
head_front false (whole one) front tail more h = h
head_front false begun front tail more h = (h.0, longest_front front tail more h.1)

pub part_more : (first : Bool) (part more : List ℕ) → IsPart first part → All IsNoBracket more
    → IsPart first (part ++ more)
part_more true part more h k = All-append IsNoBracket part more h k
part_more false part more h k =
    (h.0 ++ more, ap (λ l. l ++ more) h.1, All-append IsNoBracket h.0 more h.2 k)

part_behind : (first : Bool) (front behind more : List ℕ) → IsPart first (front ++ behind)
    → All IsNoBracket more → IsPart first (front ++ (behind ++ more))
part_behind first front behind more h k =
    subst (IsPart first) (append_assoc front behind more)
    (part_more first (front ++ behind) more h k)

none_in : (behind more : List ℕ) → All IsNoBracket (behind ++ more) → All IsNoBracket more
none_in [] more h = h
none_in (x ∷ behind) more h = none_in behind more (All-tail IsNoBracket x (behind ++ more) h)

module _ (tail : Tail) (line : ℕ) (given : List ℕ) (entries : List MarkedCopy)
    (told bytes : List ℕ) (at : IsAtTail tail line given entries told bytes) (passed : TailPassed)
    (within : passed.count ≤ length bytes)
    (same : passed.tail.is_torn ≡ tail.is_torn)
    (line_is : passed.line ≡ min (line_behind (given ++ take passed.count bytes)) most_lines)
    (stands : StandsSomehow passed.tail at.before.bytes at.front
    (at.before.reach - length at.front) (at.behind ++ take passed.count bytes))
  where
    abbrev behind : List ℕ
    behind = at.behind ++ take passed.count bytes

    abbrev torn : Option (List ℕ)
    torn = stands.0

    given_is : given ++ take passed.count bytes ≡ at.before.bytes ++ (at.front ++ behind)
    given_is =
        ap (λ l. l ++ take passed.count bytes) at.split
        ∙ append_assoc at.before.bytes (at.front ++ at.behind) (take passed.count bytes)
        ∙ ap (λ l. at.before.bytes ++ l)
        (append_assoc at.front at.behind (take passed.count bytes))

    is_part : IsPart (is_first at.earlier) (at.front ++ behind)
    is_part =
        part_behind (is_first at.earlier) at.front at.behind (take passed.count bytes) at.is_part
        (none_in at.behind (take passed.count bytes) stands.1.no_bracket)

    is_head : IsHead (is_first at.earlier) at.head at.front behind
    is_head =
        head_front (is_first at.earlier) at.head at.front behind (drop passed.count bytes)
        (subst (IsHead (is_first at.earlier) at.head at.front)
        (more_behind at.behind bytes passed.count) at.is_head)

    torn_is : passed.tail.is_torn ≡ is_begun at.head
    torn_is = same ∙ at.is_torn

    is_tail : IsTail (is_begun at.head) (at.before.reach - length at.front) behind torn
        passed.tail.reach
    is_tail =
        subst (λ b. IsTail b (at.before.reach - length at.front) behind torn passed.tail.reach)
        torn_is
        (stands_tail passed.tail at.before.bytes at.front behind
        (at.before.reach - length at.front) torn stands.1)

    abbrev read : LogRead
    read = with_part at.before at.head at.front behind torn passed.tail.reach

    are : AreRead ((at.front ++ behind) ∷ at.earlier) read
    are =
        are_read at.earlier at.before at.head at.front behind torn passed.tail.reach at.are is_part
        is_head is_tail

    pub holds : HoldEntries (given ++ take passed.count bytes) entries told
    holds = record {
      read = read;
      is = record
          { part = at.front ++ behind; earlier = at.earlier; are = are; all = sym given_is };
      are_entries = at.are_entries;
      are_torn = at.are_torn;
    }

    -- it has all of the bytes
    pub all_passed : (reader : LogReading) → passed.count ≡ length bytes
        → reader.stage ≡ Behind passed.tail → reader.line ≡ passed.line
        → IsAt reader (given ++ bytes) entries told
    all_passed reader all stage at_line =
        let whole : take passed.count bytes ≡ bytes =
        take_all passed.count bytes (omega (arith, all)) in
        record {
          earlier = at.earlier;
          before = at.before;
          are = at.are;
          last = record {
            head = at.head;
            front = at.front;
            behind = behind;
            torn = torn;
            split = ap (λ l. given ++ l) (sym whole) ∙ given_is;
            is_part = is_part;
            is_head = is_head;
            stage_is = subst (λ st. StageIs st reader.held at.before at.head at.front behind torn)
                (sym stage) (
                  torn_is,
                  (λ b. subst (λ l. at.behind ++ l ≢ []) (sym whole) (at.some b)),
                  stands.1,
                );
          };
          are_entries = at.are_entries;
          are_torn = at.are_torn;
          line = at_line ∙ line_is
              ∙ ap (λ l. min (line_behind (given ++ l)) most_lines) whole;
        }

    -- a bracket stands behind it, and nothing is torn: an entry begins
    pub opens : (entry : EntryBegun) → EndsTail ends.Bracket passed.count bytes
        → ¬ ((passed.tail.is_torn ≡ true) ⊎ (passed.tail.shape ≡ shapes.Torn))
        → entry.reach ≡ passed.tail.reach → entry.line ≡ passed.line
        → Opens entry [] passed.line (given ++ take passed.count bytes) entries told
        (drop passed.count bytes)
    opens entry bracket none reach at_line = record {
      part = at.front ++ behind;
      earlier = at.earlier;
      before = read;
      are = are;
      split = given_is ∙ sym (append-nil (at.before.bytes ++ (at.front ++ behind)));
      unfinished = nothing_begins;
      more = bracket.0;
      begins = bracket.1;
      reach_is = reach;
      entry_line = at_line ∙ line_is ∙ ap (λ l. min (line_behind l) most_lines) given_is;
      are_entries = at.are_entries;
      are_torn = at.are_torn
          ∙ sym (append-nil (at.before.told ++ at.before.last))
          ∙ ap (λ l. (at.before.told ++ at.before.last) ++ l)
          (sym (not_torn at.head passed.tail at.before.bytes at.front behind
          (at.before.reach - length at.front) torn torn_is stands.1 none));
      line_is = line_is;
    }
      where
        nothing_begins : IsUnfinishedEntry []
        nothing_begins = unfinished_front [] (91 ∷ []) bracket_begins

    -- a bracket stands behind it, and something is torn
    pub tears : (reader : LogReading) (taken : ℕ) (told_at : TornLine)
        → EndsTail ends.Bracket passed.count bytes
        → (passed.tail.is_torn ≡ true) ⊎ (passed.tail.shape ≡ shapes.Torn)
        → reader.stage ≡ Begun (record { reach = passed.tail.reach; line = passed.line })
        → reader.held ≡ 91 ∷ [] → reader.line ≡ passed.line → taken ≡ passed.count + 1
        → told_at.line ≡ passed.tail.torn_line
        → Takes given entries told bytes reader (Torn taken told_at)
    tears reader taken told_at bracket has stage held at_line count told_line =
        let here = torn_here at.head passed.tail at.before.bytes at.front behind
        (at.before.reach - length at.front) torn torn_is stands.1 has in
        let size : length (drop passed.count bytes) ≡ suc (length bracket.0) = ap length bracket.1 in
        let fits : passed.count + 1 ≤ length bytes =
        omega (arith, size, length-drop passed.count bytes) in
        let one_more : take taken bytes ≡ take passed.count bytes ++ 91 ∷ [] =
        ap (λ n. take n bytes) count ∙ take_behind bytes passed.count 91 bracket.0 bracket.1 in
        let more : given ++ take taken bytes ≡ read.bytes ++ ((91 ∷ []) ++ []) =
        ap (λ l. given ++ l) one_more
        ∙ sym (append_assoc given (take passed.count bytes) (91 ∷ []))
        ∙ ap (λ l. l ++ 91 ∷ []) given_is in (
          omega (arith, count, fits),
          (
            here.line,
            told_line ∙ here.counted,
            record {
              earlier = (at.front ++ behind) ∷ at.earlier;
              before = read;
              are = are;
              last = record {
                head = begun;
                front = 91 ∷ [];
                behind = [];
                torn = None;
                split = more;
                is_part = ([], refl, All-nil IsNoBracket);
                is_head = (bracket_begins, λ byte rest e. absurd (not_nil byte rest e));
                stage_is = subst
                    (λ st. StageIs st reader.held read begun (91 ∷ []) [] None) (sym stage) (
                      refl,
                      held,
                      refl,
                      refl,
                      refl,
                      line_is ∙ ap (λ l. min (line_behind l) most_lines) given_is,
                    );
              };
              are_entries = at.are_entries ∙ sym (append-nil (at.before.entries
                  ++ entries_of at.head));
              are_torn = ap (λ l. l ++ here.line ∷ []) at.are_torn
                  ∙ ap (λ l. (at.before.told ++ at.before.last) ++ l) (sym here.is);
              line = at_line ∙ line_is
                  ∙ ap (λ n. min n most_lines) (sym (same_line
                  (given ++ take passed.count bytes) 91 (λ e. omega (arith, e))))
                  ∙ ap (λ l. min (line_behind l) most_lines)
                  (append_assoc given (take passed.count bytes) (91 ∷ [])
                  ∙ ap (λ l. given ++ l) (sym one_more));
            },
          ),
        )

    -- a byte stands behind it that is of no log
    pub stops : (bad : BadLine) → EndsTail ends.Bad passed.count bytes
        → bad.line ≡ passed.line
        → (¬ IsSomeTail tail.is_torn (at.before.reach - length at.front)
        (at.behind ++ take (passed.count + 1) bytes))
        → StopAt (given ++ bytes) entries told bad
    stops bad end at_line none =
        let n = length given + passed.count in
        let front : take n (given ++ bytes) ≡ given ++ take passed.count bytes =
        take_past given bytes passed.count in
        let longer : take (n + 1) (given ++ bytes) ≡ given ++ take (passed.count + 1) bytes =
        ap (λ k. take k (given ++ bytes)) (omega arith)
        ∙ take_past given bytes (passed.count + 1) in
        let last = take (passed.count + 1) bytes in
        let whole : given ++ last ≡ at.before.bytes ++ (at.front ++ (at.behind ++ last)) =
        ap (λ l. l ++ last) at.split
        ∙ append_assoc at.before.bytes (at.front ++ at.behind) last
        ∙ ap (λ l. at.before.bytes ++ l) (append_assoc at.front at.behind last) in
        record {
          line = line_behind (take n (given ++ bytes));
          stop = record {
            place = n;
            within = omega (arith, end.0, length-append given bytes);
            good_before = subst (λ l. HoldEntries l entries told) (sym front) holds;
            bad_with_it = λ is. none
                (subst (λ b. IsSomeTail b (at.before.reach - length at.front) (at.behind ++ last))
                (sym at.is_torn)
                (one_tail at.earlier at.before at.head at.front (at.behind ++ last) at.are
                (part_behind (is_first at.earlier) at.front at.behind last at.is_part end.1)
                (head_front (is_first at.earlier) at.head at.front (at.behind ++ last)
                (drop (passed.count + 1) bytes)
                (subst (IsHead (is_first at.earlier) at.head at.front)
                (more_behind at.behind bytes (passed.count + 1)) at.is_head))
                (subst IsOfLog (longer ∙ whole) is)));
            is_line = refl;
          };
          counted = at_line ∙ line_is ∙ ap (λ l. min (line_behind l) most_lines) (sym front);
        }

-- ---- what a tail that was passed brings

pub ends_takes : (tail : Tail) (line : ℕ) (given : List ℕ) (entries : List MarkedCopy)
    (told bytes : List ℕ) (at : IsAtTail tail line given entries told bytes) (passed : TailPassed)
    → passed.count ≤ length bytes → passed.tail.is_torn ≡ tail.is_torn
    → passed.line ≡ min (line_behind (given ++ take passed.count bytes)) most_lines
    → StandsSomehow passed.tail at.before.bytes at.front
    (at.before.reach - length at.front) (at.behind ++ take passed.count bytes)
    → EndsTail passed.end passed.count bytes
    → (passed.end ≡ ends.Bad → ¬ IsSomeTail tail.is_torn (at.before.reach - length at.front)
    (at.behind ++ take (passed.count + 1) bytes))
    → (passed.end ≡ ends.Bracket
    → (passed.tail.is_torn ≡ true) ⊎ (passed.tail.shape ≡ shapes.Torn))
    → (reader : LogReading) (pushed : Pushed) → Ends passed reader pushed
    → (passed.end ≡ ends.Bracket → passed.count < 2 ^ 64 - 1)
    → Takes given entries told bytes reader pushed
ends_takes tail line given entries told bytes at passed within same line_is stands end bad has
    reader TakenAll e small =
    all_passed tail line given entries told bytes at passed within same line_is stands reader
    (subst (λ x. EndsTail x passed.count bytes) e.0 end) e.1 e.2
ends_takes tail line given entries told bytes at passed within same line_is stands end bad has
    reader (Torn taken torn_at) e small =
    tears tail line given entries told bytes at passed within same line_is stands reader taken
    torn_at
    (subst (λ x. EndsTail x passed.count bytes) e.0 end) (has e.0) e.1 e.2 e.3
    (omega (arith, e.4, small e.0)) e.5
ends_takes tail line given entries told bytes at passed within same line_is stands end bad has
    reader (Bad stop) e small =
    stops tail line given entries told bytes at passed within same line_is stands stop
    (subst (λ x. EndsTail x passed.count bytes) e.0 end) e.1 (bad e.0)
ends_takes tail line given entries told bytes at passed within same line_is stands end bad has
    reader (Entry taken) e small = absurd e

-- the bytes that it takes are no more than there are
pub ends_within : (passed : TailPassed) (bytes : List ℕ) (reader : LogReading) (pushed : Pushed)
    → EndsTail passed.end passed.count bytes → Ends passed reader pushed
    → TakesWithin (length bytes) pushed
ends_within passed bytes reader TakenAll end e = tt
ends_within passed bytes reader (Bad stop) end e = tt
ends_within passed bytes reader (Entry taken) end e = absurd e
ends_within passed bytes reader (Torn taken line) end e =
    let b = subst (λ x. EndsTail x passed.count bytes) e.0 end in
    let size : length (drop passed.count bytes) ≡ suc (length b.0) = ap length b.1 in
    omega (arith, e.4, size, length-drop passed.count bytes)

pub within_behind : (bytes : List ℕ) (k : ℕ) (pushed : Pushed) → k ≤ length bytes
    → TakesWithin (length (drop k bytes)) pushed → TakesWithin (length bytes) (passed_and k pushed)
within_behind bytes k TakenAll fits h = tt
within_behind bytes k (Bad stop) fits h = tt
within_behind bytes k (Entry taken) fits h = omega (arith, h, fits, length-drop k bytes)
within_behind bytes k (Torn taken line) fits h = omega (arith, h, fits, length-drop k bytes)

-- ---- a piece of which some bytes were passed over before

take-nothing : (n : ℕ) → take {A = ℕ} n [] ≡ []
take-nothing zero = refl
take-nothing (suc n) = refl

take_sum : (a b : ℕ) (xs : List ℕ) → take (a + b) xs ≡ take a xs ++ take b (drop a xs)
take_sum zero b xs = let e : 0 + b ≡ b = omega arith in ap (λ n. take n xs) e
take_sum (suc a) b [] = take-nothing (suc a + b) ∙ sym (take-nothing b)
take_sum (suc a) b (x ∷ xs) =
    let e : suc a + b ≡ suc (a + b) = omega arith in
    ap (λ n. take n (x ∷ xs)) e ∙ ap (λ l. x ∷ l) (take_sum a b xs)

all_of : (bytes : List ℕ) (passed : ℕ) (piece : List ℕ)
    → (bytes ++ take passed piece) ++ drop passed piece ≡ bytes ++ piece
all_of bytes passed piece =
    append_assoc bytes (take passed piece) (drop passed piece)
    ∙ ap (λ l. bytes ++ l) (take-append-drop passed piece)

first_of : (bytes : List ℕ) (passed taken : ℕ) (piece : List ℕ)
    → (bytes ++ take passed piece) ++ take taken (drop passed piece)
    ≡ bytes ++ take (passed + taken) piece
first_of bytes passed taken piece =
    append_assoc bytes (take passed piece) (take taken (drop passed piece))
    ∙ ap (λ l. bytes ++ l) (sym (take_sum passed taken piece))

pub takes_behind : (reader : LogReading) (bytes piece : List ℕ) (entries : List MarkedCopy)
    (told : List ℕ) (passed : ℕ) (pushed : Pushed) → passed ≤ length piece
    → Takes (bytes ++ take passed piece) entries told (drop passed piece) reader pushed
    → Takes bytes entries told piece reader (passed_and passed pushed)
takes_behind reader bytes piece entries told passed (Entry taken) within takes = (
  omega (arith, takes.0, length-drop passed piece),
  (
    takes.1.0,
    takes.1.1,
    subst (λ l. IsAt reader l (entries ++ takes.1.0 ∷ []) told)
        (first_of bytes passed taken piece) takes.1.2,
  ),
)
takes_behind reader bytes piece entries told passed (Torn taken line) within takes = (
  omega (arith, takes.0, length-drop passed piece),
  (
    takes.1.0,
    takes.1.1,
    subst (λ l. IsAt reader l entries (told ++ takes.1.0 ∷ []))
        (first_of bytes passed taken piece) takes.1.2,
  ),
)
takes_behind reader bytes piece entries told passed TakenAll within takes =
    subst (λ l. IsAt reader l entries told) (all_of bytes passed piece) takes
takes_behind reader bytes piece entries told passed (Bad bad) within takes =
    subst (λ l. StopAt l entries told bad) (all_of bytes passed piece) takes

-- ---- what an entry brings that begins or goes on

module _ (entry : EntryBegun) (held : List ℕ) (line : ℕ) (given : List ℕ)
    (entries : List MarkedCopy) (told bytes : List ℕ)
    (o : Opens entry held line given entries told bytes)
  where
    abbrev whole_of : List ℕ
    whole_of = held ++ bytes

    earlier : List (List ℕ)
    earlier = o.part ∷ o.earlier

    given_more : (n : ℕ) → length held ≤ n
        → given ++ take (n - length held) bytes ≡ o.before.bytes ++ (take n whole_of ++ [])
    given_more n longer =
        ap (λ l. l ++ take (n - length held) bytes) o.split
        ∙ append_assoc o.before.bytes held (take (n - length held) bytes)
        ∙ ap (λ l. o.before.bytes ++ l) (sym (take_over held bytes n longer))
        ∙ ap (λ l. o.before.bytes ++ l) (sym (append-nil (take n whole_of)))

    -- it ends
    pub at_whole : (reader : LogReading) (tail : Tail) (n taken : ℕ)
        → StartsAs whole_of (Whole n) → taken ≡ n - length held
        → reader.held ≡ take n whole_of → reader.stage ≡ Behind tail
        → reader.line ≡ min (line_behind (given ++ take taken bytes)) most_lines
        → ((before front : List ℕ) → StandsBehind tail before front (entry.reach - n) [] None)
        → tail.is_torn ≡ false → Takes given entries told bytes reader (Entry taken)
    at_whole reader tail n taken s is held_is stage line_is stands not_torn =
        let one = s.1.0 in
        let front = take n whole_of in
        let b = entry_bracket one front s.1.1 in
        let longer = whole_behind held bytes n (inr o.unfinished) s in
        let size : length front ≡ n = omega (arith, length-take n whole_of, s.0) in
        let reach : entry.reach - n ≡ o.before.reach - length front =
        omega (arith, o.reach_is, size) in (
          omega (arith, s.0, is, length-append held bytes),
          (
            one,
            subst (IsLoggedAs one) (sym held_is) s.1.1,
            record {
              earlier = o.part ∷ o.earlier;
              before = o.before;
              are = o.are;
              last = record {
                head = whole one;
                front = front;
                behind = [];
                torn = None;
                split = ap (λ k. given ++ take k bytes) is
                    ∙ given_more n (omega (arith, longer));
                is_part = (b.more, append-nil front ∙ b.is, b.none);
                is_head = s.1.1;
                stage_is = subst
                    (λ st. StageIs st reader.held o.before (whole one) front [] None) (sym stage) (
                      not_torn,
                      (λ e. cc),
                      subst (λ r. StandsBehind tail o.before.bytes front r [] None) reach
                          (stands o.before.bytes front),
                    );
              };
              are_entries = ap (λ l. l ++ one ∷ []) o.are_entries;
              are_torn = o.are_torn;
              line = line_is;
            },
          ),
        )

    -- it goes on
    pub at_begun : (reader : LogReading) → StartsAs whole_of Unfinished
        → reader.held ≡ whole_of → reader.stage ≡ Begun entry
        → reader.line ≡ min (line_behind (given ++ bytes)) most_lines
        → IsAt reader (given ++ bytes) entries told
    at_begun reader s held_is stage line_is =
        let b = unfinished_bracket 91 o.more (subst IsUnfinishedEntry o.begins s) in
        let same : b.more ≡ o.more = sym (ap (drop 1) b.is) in
        record {
          earlier = o.part ∷ o.earlier;
          before = o.before;
          are = o.are;
          last = record {
            head = begun;
            front = whole_of;
            behind = [];
            torn = None;
            split = ap (λ l. l ++ bytes) o.split ∙ append_assoc o.before.bytes held bytes
                ∙ ap (λ l. o.before.bytes ++ l) (sym (append-nil whole_of));
            is_part = (
              o.more,
              append-nil whole_of ∙ o.begins,
              subst (All IsNoBracket) same b.none,
            );
            is_head = (s, λ byte rest e. absurd (not_nil byte rest e));
            stage_is = subst (λ st. StageIs st reader.held o.before begun whole_of [] None)
                (sym stage) (refl, held_is, refl, refl, o.reach_is, o.entry_line);
          };
          are_entries = o.are_entries ∙ sym (append-nil o.before.entries);
          are_torn = o.are_torn;
          line = line_is;
        }

    front_bracket : (n : ℕ) → StartsAs whole_of (Broken n) → IsPart false (take n whole_of)
    front_bracket zero s =
        absurd (s.3 (subst (λ l. IsUnfinishedEntry (take 1 l)) (sym o.begins) bracket_begins))
    front_bracket (suc n) s =
        let is : take (suc n) whole_of ≡ 91 ∷ take n o.more = ap (take (suc n)) o.begins in
        let b = unfinished_bracket 91 (take n o.more) (subst IsUnfinishedEntry is s.1) in
        (b.more, is ∙ b.is, b.none)

    -- it breaks
    pub at_broken : (tail : Tail) (line_now n : ℕ) → StartsAs whole_of (Broken n)
        → line_now ≡ min (line_behind (given ++ take (n - length held) bytes)) most_lines
        → ((before front : List ℕ) → entry.line ≡ min (line_behind before) (2 ^ 64 - 1)
        → StandsBehind tail before front (entry.reach - n) [] None)
        → tail.is_torn ≡ true
        → IsAtTail tail line_now (given ++ take (n - length held) bytes) entries told
        (drop (n - length held) bytes)
    at_broken tail line_now n s line_is stands torn =
        let front = take n whole_of in
        let k = n - length held in
        let longer : length held ≤ n = breaks_behind held bytes n o.unfinished
        (breaks whole_of n s) in
        let over : front ≡ held ++ take k bytes = take_over held bytes n longer in
        let rest : drop n whole_of ≡ drop k bytes = append_cancel_left front (drop n whole_of)
        (drop k bytes)
        (take-append-drop n whole_of ∙ ap (λ l. held ++ l) (sym (take-append-drop k bytes))
        ∙ sym (append_assoc held (take k bytes) (drop k bytes))
        ∙ ap (λ l. l ++ drop k bytes) (sym over)) in
        let size : length front ≡ n = omega (arith, length-take n whole_of, s.0) in
        let reach : entry.reach - n ≡ o.before.reach - length front =
        omega (arith, o.reach_is, size) in
        let part = front_bracket n s in
        record {
          earlier = o.part ∷ o.earlier;
          before = o.before;
          are = o.are;
          head = begun;
          front = front;
          behind = [];
          split = given_more n longer;
          is_part = subst (IsPart false) (sym (append-nil front)) part;
          is_head = (
            s.1,
            λ byte more e.
                let next : take (n + 1) whole_of ≡ front ++ byte ∷ [] =
                take_behind whole_of n byte more (rest ∙ e) in (
                  subst (λ l. ¬ IsWholeEntry l) next s.2,
                  subst (λ l. ¬ IsUnfinishedEntry l) next s.3,
                ),
          );
          some = λ b none. omega (
            arith,
            ap length none,
            ap length rest,
            length-drop n whole_of,
            s.0,
          );
          is_torn = torn;
          stands = (
            None,
            subst (λ r. StandsBehind tail o.before.bytes front r [] None) reach
                (stands o.before.bytes front o.entry_line),
          );
          are_entries = o.are_entries ∙ sym (append-nil o.before.entries);
          are_torn = o.are_torn;
          line_is = line_is;
        }

pub broken_fits : (held bytes : List ℕ) (n k : ℕ) → StartsAs (held ++ bytes) (Broken n)
    → k ≡ n - length held → k ≤ length bytes
broken_fits held bytes n k s e = omega (arith, s.0, e, length-append held bytes)

-- ---- where a reader stands

-- behind the beginning of an entry
pub begun_opens : (reader : LogReading) (bytes : List ℕ) (entries : List MarkedCopy)
    (told : List ℕ) (entry : EntryBegun) (piece : List ℕ) → IsAt reader bytes entries told
    → reader.stage ≡ Begun entry → Opens entry reader.held reader.line bytes entries told piece
begun_opens reader bytes entries told entry piece at stage =
    go at.earlier at.are at.last at.are_entries
  where
    go : (earlier : List (List ℕ)) → AreRead earlier at.before
        → (l : StandsFor reader.stage reader.held (is_first earlier) at.before bytes)
        → entries ≡ at.before.entries ++ entries_of l.head
        → Opens entry reader.held reader.line bytes entries told piece
    go [] are l is =
        let st = subst (λ st. StageIs st reader.held at.before l.head l.front l.behind l.torn) stage
        l.stage_is in
        absurd (subst (λ h. IsHead true h l.front l.behind) st.0 l.is_head)
    go (p ∷ ps) are l is =
        let st = subst (λ st. StageIs st reader.held at.before l.head l.front l.behind l.torn) stage
        l.stage_is in
        let front_is : l.front ++ l.behind ≡ reader.held =
        ap (λ b. l.front ++ b) st.2 ∙ append-nil l.front ∙ sym st.1 in
        let h = subst (λ h. IsHead false h l.front l.behind) st.0 l.is_head in
        record {
          part = p;
          earlier = ps;
          before = at.before;
          are = are;
          split = l.split ∙ ap (λ f. at.before.bytes ++ f) front_is;
          unfinished = subst IsUnfinishedEntry (sym st.1) h.0;
          more = l.is_part.0 ++ piece;
          begins = ap (λ f. f ++ piece) (sym front_is ∙ l.is_part.1);
          reach_is = st.4;
          entry_line = st.5;
          are_entries = is ∙ ap (λ h. at.before.entries ++ entries_of h) st.0
              ∙ append-nil at.before.entries;
          are_torn = at.are_torn;
          line_is = at.line;
        }

-- behind an entry, or a torn one
pub behind_at : (reader : LogReading) (bytes : List ℕ) (entries : List MarkedCopy)
    (told : List ℕ) (tail : Tail) (piece : List ℕ) → IsAt reader bytes entries told
    → reader.stage ≡ Behind tail → IsAtTail tail reader.line bytes entries told piece
behind_at reader bytes entries told tail piece at stage =
    let l = at.last in
    let st = subst (λ st. StageIs st reader.held at.before l.head l.front l.behind l.torn) stage
    l.stage_is in
    record {
      earlier = at.earlier;
      before = at.before;
      are = at.are;
      head = l.head;
      front = l.front;
      behind = l.behind;
      split = l.split;
      is_part = l.is_part;
      is_head = more_comes (is_first at.earlier) l.head l.front l.behind st.1 l.is_head;
      some = λ b none. st.1 b (left_nil l.behind piece none);
      is_torn = st.0;
      stands = (l.torn, st.2);
      are_entries = at.are_entries;
      are_torn = at.are_torn;
      line_is = at.line;
    }
  where
    longest_more : (front behind : List ℕ) → behind ≢ [] → IsLongest front behind
        → IsLongest front (behind ++ piece)
    longest_more front [] some longest = absurd (some refl)
    longest_more front (b ∷ behind) some longest = λ byte more e.
        let here : b ≡ byte = ap (λ (l : List ℕ). get_or l 0 0) e in
        longest byte behind (ap (λ h. h ∷ behind) here)

    more_comes : (first : Bool) (head : Head) (front behind : List ℕ)
        → (is_begun head ≡ true → behind ≢ []) → IsHead first head front behind
        → IsHead first head front (behind ++ piece)
    more_comes true nothing front behind some h = h
    more_comes true (whole one) front behind some h = h
    more_comes true begun front behind some h = h
    more_comes false nothing front behind some h = h
    more_comes false (whole one) front behind some h = h
    more_comes false begun front behind some h = (h.0, longest_more front behind (some refl) h.1)

-- ---- what the reader holds, and its end

pub record LastRead (bytes : List ℕ) (entries : List MarkedCopy) (told : List ℕ)
    (last : List ℕ) : Type 0 where
  pub read : LogRead
  pub is : IsLogRead bytes read
  pub are_entries : entries ≡ read.entries
  pub are_torn : told ≡ read.told
  pub last_is : last ≡ read.last

pub last_begun : (reader : LogReading) (bytes : List ℕ) (entries : List MarkedCopy)
    (told : List ℕ) (entry : EntryBegun) (at : IsAt reader bytes entries told)
    → reader.stage ≡ Begun entry
    → LastRead bytes entries told (line_behind at.before.bytes ∷ [])
last_begun reader bytes entries told entry at stage =
    let l = at.last in
    let st = subst (λ st. StageIs st reader.held at.before l.head l.front l.behind l.torn) stage
    l.stage_is in
    let tail : IsTail (is_begun l.head) (at.before.reach - length l.front) l.behind None
    (at.before.reach - length l.front) =
    subst (λ b. IsTail (is_begun l.head) (at.before.reach - length l.front) b None
    (at.before.reach - length l.front)) (sym st.2) (inl (All-nil IsBlank), refl) in
    record {
      read = with_part at.before l.head l.front l.behind None (at.before.reach - length l.front);
      is = record {
        part = l.front ++ l.behind;
        earlier = at.earlier;
        are = are_read at.earlier at.before l.head l.front l.behind None
            (at.before.reach - length l.front) at.are l.is_part l.is_head tail;
        all = sym l.split;
      };
      are_entries = at.are_entries;
      are_torn = at.are_torn;
      last_is = ap (λ h. torn_line h at.before.bytes l.front None) (sym st.0);
    }

pub last_behind : (reader : LogReading) (bytes : List ℕ) (entries : List MarkedCopy)
    (told : List ℕ) (tail : Tail) (at : IsAt reader bytes entries told)
    → reader.stage ≡ Behind tail
    → LastRead bytes entries told
    (torn_line at.last.head at.before.bytes at.last.front at.last.torn)
last_behind reader bytes entries told tail at stage =
    let l = at.last in
    let st = subst (λ st. StageIs st reader.held at.before l.head l.front l.behind l.torn) stage
    l.stage_is in
    let is_tail : IsTail (is_begun l.head) (at.before.reach - length l.front) l.behind l.torn
    tail.reach =
    subst (λ b. IsTail b (at.before.reach - length l.front) l.behind l.torn tail.reach) st.0
    (stands_tail tail at.before.bytes l.front l.behind (at.before.reach - length l.front) l.torn
    st.2) in
    record {
      read = with_part at.before l.head l.front l.behind l.torn tail.reach;
      is = record {
        part = l.front ++ l.behind;
        earlier = at.earlier;
        are = are_read at.earlier at.before l.head l.front l.behind l.torn tail.reach at.are
            l.is_part l.is_head is_tail;
        all = sym l.split;
      };
      are_entries = at.are_entries;
      are_torn = at.are_torn;
      last_is = refl;
    }

pub holds_at : (reader : LogReading) (bytes : List ℕ) (entries : List MarkedCopy)
    (told : List ℕ) → IsAt reader bytes entries told → HoldEntries bytes entries told
holds_at reader bytes entries told at = by_stage reader.stage refl
  where
    by_stage : (stage : EntryStage) → reader.stage ≡ stage → HoldEntries bytes entries told
    by_stage (Begun entry) e =
        let r = last_begun reader bytes entries told entry at e in
        record { read = r.read; is = r.is; are_entries = r.are_entries; are_torn = r.are_torn }
    by_stage (Behind tail) e =
        let r = last_behind reader bytes entries told tail at e in
        record { read = r.read; is = r.is; are_entries = r.are_entries; are_torn = r.are_torn }

pub to_end : (bytes : List ℕ) (entries : List MarkedCopy) (told last : List ℕ)
    → LastRead bytes entries told last → HoldEntriesToEnd bytes entries (told ++ last)
to_end bytes entries told last r = record {
  read = r.read;
  is = r.is;
  are_entries = r.are_entries;
  are_torn = ap (λ l. l ++ last) r.are_torn ∙ ap (λ l. r.read.told ++ l) r.last_is;
}

-- an entry that has begun is torn at the end
pub ends_begun : (reader : LogReading) (bytes : List ℕ) (entries : List MarkedCopy)
    (told : List ℕ) (entry : EntryBegun) (line : TornLine)
    → IsAt reader bytes entries told → reader.stage ≡ Begun entry → line.line ≡ entry.line
    → EndsSo bytes entries told (Some line)
ends_begun reader bytes entries told entry line at stage is =
    let l = at.last in
    let st = subst (λ st. StageIs st reader.held at.before l.head l.front l.behind l.torn) stage
    l.stage_is in (
      line_behind at.before.bytes,
      is ∙ st.5,
      to_end bytes entries told (line_behind at.before.bytes ∷ [])
          (last_begun reader bytes entries told entry at stage),
    )

ends_told : (bytes : List ℕ) (entries : List MarkedCopy) (told last : List ℕ) (none : last ≡ [])
    → LastRead bytes entries told last → HoldEntriesToEnd bytes entries told
ends_told bytes entries told last none r =
    subst (HoldEntriesToEnd bytes entries) (ap (λ l. told ++ l) none ∙ append-nil told)
    (to_end bytes entries told last r)

-- so is what is torn in a tail
pub ends_behind : (reader : LogReading) (bytes : List ℕ) (entries : List MarkedCopy)
    (told : List ℕ) (tail : Tail) → IsAt reader bytes entries told
    → reader.stage ≡ Behind tail → EndsSo bytes entries told (torn_of tail)
ends_behind reader bytes entries told tail at stage =
    by_flag tail.is_torn tail.shape refl refl
  where
    st : StageIs (Behind tail) reader.held at.before at.last.head at.last.front at.last.behind
        at.last.torn
    st =
        subst (λ s. StageIs s reader.held at.before at.last.head at.last.front at.last.behind
        at.last.torn) stage at.last.stage_is

    r : LastRead bytes entries told
        (torn_line at.last.head at.before.bytes at.last.front at.last.torn)
    r = last_behind reader bytes entries told tail at stage

    torn : (tail.is_torn ≡ true) ⊎ (tail.shape ≡ shapes.Torn)
        → EndsSo bytes entries told (Some (record { line = tail.torn_line }))
    torn has =
        let here = torn_here at.last.head tail at.before.bytes at.last.front at.last.behind
        (at.before.reach - length at.last.front) at.last.torn st.0 st.2 has in (
          here.line,
          here.counted,
          subst (λ x. HoldEntriesToEnd bytes entries (told ++ x)) here.is
              (to_end bytes entries told _ r),
        )

    none : ¬ ((tail.is_torn ≡ true) ⊎ (tail.shape ≡ shapes.Torn))
        → HoldEntriesToEnd bytes entries told
    none has =
        ends_told bytes entries told _
        (not_torn at.last.head tail at.before.bytes at.last.front at.last.behind
        (at.before.reach - length at.last.front) at.last.torn st.0 st.2 has) r

    by_flag : (b : Bool) (shape : Shape) → tail.is_torn ≡ b → tail.shape ≡ shape
        → EndsSo bytes entries told (torn_in b shape tail.torn_line)
    by_flag true shape e f = torn (inl e)
    by_flag false shapes.Torn e f = torn (inr f)
    by_flag false shapes.Nothing e f = none (λ h. elim h [ inl x ↦ cc | inr x ↦ cc ])
    by_flag false shapes.Blanks e f = none (λ h. elim h [ inl x ↦ cc | inr x ↦ cc ])
    by_flag false shapes.One e f = none (λ h. elim h [ inl x ↦ cc | inr x ↦ cc ])
