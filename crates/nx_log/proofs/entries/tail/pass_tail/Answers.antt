use Rattle.std.proofs.Common.{◌≡◌, ◌++◌, ◌∷◌, ◌+◌, ◌-◌, ◌^◌, ◌<◌, ◌∙◌, ℕ, List, [], length, min, arith, take, drop, get_or, ap, sym, subst, append_assoc}
use Rattle.std.specs.List.{All}
use Rattle.std.proofs.lemmas.List.{drop_more, take_more}
use Rattle.std.proofs.lemmas.List.Elements.{All-more}
use Rattle.nx_log.specs.Reading.{IsNoBracket, line_behind}
use Rattle.nx_log.specs.private.Standing.{IsSomeTail, StandsSomehow}
use Rattle.nx_log.proofs.entries.tail.pass_tail.Goals as goal

pub returns-then-byte-eq91-clause-stands : goal.returns-then-byte-eq91-clause-stands
returns-then-byte-eq91-clause-stands c = λ before front bytes reach line s.
    let inv = c.loop-byte.invariant in
    subst (λ n. StandsSomehow c.loop-byte.passed.tail before front reach
    (bytes ++ take n c.args.piece.now)) (sym inv.count) (inv.stands before front bytes reach line s)

pub returns-then-byte-eq91-clause-end : goal.returns-then-byte-eq91-clause-end
returns-then-byte-eq91-clause-end c =
    let inv = c.loop-byte.invariant in
    let i = c.loop-byte.byte-index in (
      drop (i + 1) c.args.piece.now,
      ap (λ n. drop n c.args.piece.now) inv.count
          ∙ drop_more c.args.piece.now i 0 c.loop-byte-test.true
          ∙ ap (λ b. b ∷ drop (i + 1) c.args.piece.now) c.if-byte-eq91.true,
    )

pub returns-in_default-clause-stands : goal.returns-in_default-clause-stands
returns-in_default-clause-stands c = λ before front bytes reach line s.
    let inv = c.loop-byte.invariant in
    subst (λ n. StandsSomehow c.loop-byte.passed.tail before front reach
    (bytes ++ take n c.args.piece.now)) (sym inv.count) (inv.stands before front bytes reach line s)

pub returns-in_default-clause-end : goal.returns-in_default-clause-end
returns-in_default-clause-end c =
    let inv = c.loop-byte.invariant in
    let i = c.loop-byte.byte-index in (
      omega (arith, inv.count, c.loop-byte-test.true),
      subst (λ n. All IsNoBracket (take (n + 1) c.args.piece.now)) (sym inv.count)
          (All-more IsNoBracket c.args.piece.now i 0 c.loop-byte-test.true inv.none
          c.if-byte-eq91.false),
    )

-- with the next byte
with_next : (bytes piece : List ℕ) (i : ℕ) → i < length piece
    → (bytes ++ take i piece) ++ get_or piece i 0 ∷ [] ≡ bytes ++ take (i + 1) piece
with_next bytes piece i within =
    append_assoc bytes (take i piece) (get_or piece i 0 ∷ [])
    ∙ ap (λ l. bytes ++ l) (sym (take_more piece i 0 within))

all_behind : (before front bytes some : List ℕ)
    → (before ++ (front ++ bytes)) ++ some ≡ before ++ (front ++ (bytes ++ some))
all_behind before front bytes some =
    append_assoc before (front ++ bytes) some
    ∙ ap (λ l. before ++ l) (append_assoc front bytes some)

pub returns-in_default-clause-bad : goal.returns-in_default-clause-bad
returns-in_default-clause-bad c = λ e before front bytes reach s line.
    let inv = c.loop-byte.invariant in
    let i = c.loop-byte.byte-index in
    let piece = c.args.piece.now in
    subst (λ b. ¬ IsSomeTail b reach (bytes ++ take (c.loop-byte.passed.count + 1) piece)) inv.same
    (subst (λ l. ¬ IsSomeTail c.loop-byte.passed.tail.is_torn reach l)
    (with_next bytes piece i c.loop-byte-test.true
    ∙ ap (λ n. bytes ++ take (n + 1) piece) (sym inv.count))
    (c.in_default.ensures.ends before front (bytes ++ take i piece) reach
    (inv.stands before front bytes reach line s)))

pub loop-byte-preserved : goal.loop-byte-preserved
loop-byte-preserved c =
    let inv = c.loop-byte.invariant in
    let i = c.loop-byte.byte-index in
    let piece = c.args.piece.now in
    let within = c.loop-byte-test.true in
    record {
      count = ap (λ n. n + 1) inv.count;
      none = All-more IsNoBracket piece i 0 within inv.none c.if-byte-eq91.false;
      same = c.in-Some.ensures.same ∙ inv.same;
      end = inv.end;
      line = λ before e.
          c.next_line.ensures (before ++ take i piece) (inv.line before e)
          ∙ ap (λ l. min (line_behind l) (2 ^ 64 - 1)) (with_next before piece i within);
      stands = λ before front bytes reach line s.
          subst (StandsSomehow c.in-Some.next before front reach)
          (with_next bytes piece i within)
          (c.in-Some.ensures.goes_on before front (bytes ++ take i piece) reach
          (inv.line (before ++ (front ++ bytes)) line
          ∙ ap (λ l. min (line_behind l) (2 ^ 64 - 1))
          (all_behind before front bytes (take i piece)))
          (inv.stands before front bytes reach line s));
    }

pub returns-clause-stands : goal.returns-clause-stands
returns-clause-stands c = λ before front bytes reach line s.
    let inv = c.loop-byte.invariant in
    subst (λ n. StandsSomehow c.loop-byte.passed.tail before front reach
    (bytes ++ take n c.args.piece.now)) (sym inv.count) (inv.stands before front bytes reach line s)
