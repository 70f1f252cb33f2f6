-- An input has one answer: reading a state can end in one way alone, unless a read fails.
use Rattle.std.proofs.Common.{◌≡◌, ◌≢◌, ◌⊎◌, ℕ, ◌+◌, ◌<◌, List, [], ◌∷◌, ◌++◌, length, Option, None}
use Rattle.std.proofs.Common.{Some, IfSome, Result, Ok, Err, MatchResult, inl, inr, refl, sym, ap}
use Rattle.std.proofs.Common.{◌∙◌, subst, append_assoc, append-nil, arith}
use Rattle.std.specs.List.{AllByRecursion}
use Rattle.std.proofs.lemmas.List.{length-append}
use Rattle.nx_fec.specs.Transfers.{whole_input}
use Rattle.nx_memory.specs.Saved.{SavedStates, AreSavedStates}
use Rattle.nx_memory.specs.StateText.{BeginsNoText, BeginsText, IsShortLine, IsStateText, text_2}
use Rattle.nx_memory.proofs.lemmas.StateLaws.{none_begins, one_state, text_short}
use Rattle.nx_code.proofs.lemmas.Each.{each_left, each_right}
use Rattle.nx_receiver.specs.air_file_runs.State.{AnswersState, BeginsWithState, IsNotUnderstood, IsStateBytes}
use Rattle.nx_receiver.specs.air_file_runs.State.{ended_lines, state_bytes}
use Rattle.nx_receiver.specs.declared.air_file_runs.state_fault.StateFault.{StateFault}
use Rattle.nx_receiver.specs.declared.air_file_runs.state_fault.StateFault.TheVariants.{Read, StateLine, StateCut}
use Rattle.nx_receiver.proofs.lemmas.state.Bounds.{some_lines}
use Rattle.nx_receiver.proofs.lemmas.state.Splits.{same, longer, shorter, compare, ended-one, none_ends}
use Rattle.nx_receiver.proofs.lemmas.state.Splits.{none_so_long, same_line}

abbrev Answer : Type 0
Answer = Result SavedStates StateFault

-- ---- the bytes of a text

pub lines_short : (lines : List (List ℕ)) → BeginsText lines → AllByRecursion IsShortLine lines
lines_short lines begins =
    each_left IsShortLine lines (begins.next ∷ begins.more)
    (text_short _ begins.states begins.is)

-- no text begins another, in bytes; and the bytes stand for one state
pub no_text_begins : (text more : List ℕ) (states others : SavedStates) → IsStateBytes text states
    → IsStateBytes (text ++ more) others → (more ≡ []) × (states ≡ others)
no_text_begins text more states others is all =
    let e : ended_lines is.lines ++ more ≡ ended_lines all.lines ++ [] =
    ap (λ l. l ++ more) (sym is.spelled) ∙ all.spelled ∙ sym (append-nil (ended_lines all.lines)) in
    elim (compare is.lines all.lines more [] (text_short is.lines states is.text)
    (text_short all.lines others all.text) e) [
      | same f g ↦ (
        g,
        one_state all.lines states others
            (subst (λ (l : List (List ℕ)). IsStateText l states) f is.text) all.text,
      )
      | longer b rest f g ↦
          let none : b ∷ rest ≡ [] = none_begins is.lines (b ∷ rest) states others is.text
          (subst (λ (l : List (List ℕ)). IsStateText l others) f all.text) in
          absurd (omega (arith, ap length none))
      | shorter a rest f g ↦ absurd (none_ends [] a _ tt g)
    ]

pub one_state_bytes : (text : List ℕ) (states others : SavedStates) → IsStateBytes text states
    → IsStateBytes text others → states ≡ others
one_state_bytes text states others is other =
    (no_text_begins text [] states others is
    (subst (λ l. IsStateBytes l others) (sym (append-nil text)) other)).1

-- what is written is a text of what is saved
pub written_stands : (states : SavedStates) → AreSavedStates states
    → IsStateBytes (state_bytes states) states
unfolding state_bytes
written_stands states are = record {
  lines = text_2 states;
  text = inr (record { sound = are; spelled = refl });
  spelled = refl;
}

-- ---- how reading ends

-- behind whole lines, the bytes of the line in which reading ended
record EndsInLine (y : List ℕ) (holds : List ℕ → List ℕ → Type 0) : Type 0 where
  line : List ℕ
  more : List ℕ
  whole : y ≡ line ++ more
  part : IsShortLine line
  here : holds line more

abbrev Ends : List (List ℕ) → List ℕ → Answer → Type 0
Ends lines y (Ok states) =
    EndsInLine y (λ line more. (after : List ℕ) × (more ≡ 10 ∷ after)
    × IsStateText (lines ++ line ∷ []) states)
Ends lines y (Err Read) = ⊥
Ends lines y (Err (StateLine number)) =
    EndsInLine y (λ line more. (number ≡ length lines + 1) × (byte : ℕ) × (after : List ℕ)
    × (more ≡ byte ∷ after)
    × (((byte ≡ 10) × BeginsNoText (lines ++ line ∷ [])) ⊎ ((byte ≢ 10) × (length line ≡ 16))))
Ends lines y (Err (StateCut number)) =
    EndsInLine y (λ line more. (number ≡ length lines + 1) × (more ≡ []))

record HasEnded (input : List ℕ) (answer : Answer) : Type 0 where
  lines : List (List ℕ)
  rest : List ℕ
  begins : BeginsText lines
  whole : input ≡ ended_lines lines ++ rest
  ends : Ends lines rest answer

-- a text that goes on behind a line
joined : (lines more : List (List ℕ)) (next : List ℕ) (begins : BeginsText (lines ++ next ∷ more))
    → IsStateText ((lines ++ next ∷ []) ++ (more ++ begins.next ∷ begins.more)) begins.states
joined lines more next begins =
    subst (λ (l : List (List ℕ)). IsStateText l begins.states)
    (append_assoc lines (next ∷ more) (begins.next ∷ begins.more)
    ∙ sym (append_assoc lines (next ∷ []) (more ++ begins.next ∷ begins.more))) begins.is

whole_goes_on_line : (lines more : List (List ℕ)) (next : List ℕ) (states : SavedStates)
    → IsStateText (lines ++ next ∷ []) states → BeginsText (lines ++ next ∷ more) → ⊥
whole_goes_on_line lines more next states is begins =
    let none = none_begins (lines ++ next ∷ []) (more ++ begins.next ∷ begins.more) states
    begins.states is (joined lines more next begins) in
    let some = length-append more (begins.next ∷ begins.more) in
    omega (arith, ap length none, some)

-- reading doesn't go on behind the line in which it ended
not_beyond : (answer : Answer) (lines more : List (List ℕ)) (next y z : List ℕ)
    → Ends lines y answer → BeginsText (lines ++ next ∷ more) → y ≡ next ++ 10 ∷ z → ⊥
not_beyond (Ok states) lines more next y z ends begins e =
    let short = each_right IsShortLine lines (next ∷ more) (lines_short _ begins) in
    let parts = same_line ends.line next ends.here.0 z ends.part.one_line short.0.one_line
    (ap (λ l. ends.line ++ l) (sym ends.here.1) ∙ sym ends.whole ∙ e) in
    whole_goes_on_line lines more next states
    (subst (λ (l : List ℕ). IsStateText (lines ++ l ∷ []) states) parts.0 ends.here.2) begins
not_beyond (Err Read) lines more next y z ends begins e = ends
not_beyond (Err (StateLine number)) lines more next y z ends begins e =
    let short = each_right IsShortLine lines (next ∷ more) (lines_short _ begins) in
    let h = ends.here in
    let whole : ends.line ++ h.1 ∷ h.2 ≡ next ++ 10 ∷ z =
    ap (λ l. ends.line ++ l) (sym h.3) ∙ sym ends.whole ∙ e in
    elim h.4 [
      | inl bad ↦
          let whole_10 = subst (λ b. ends.line ++ b ∷ h.2 ≡ next ++ 10 ∷ z) bad.0 whole in
          let parts = same_line ends.line next h.2 z ends.part.one_line short.0.one_line whole_10 in
          subst (λ (l : List ℕ). BeginsNoText (lines ++ l ∷ [])) parts.0 bad.1
          (more ++ begins.next ∷ begins.more) begins.states (joined lines more next begins)
      | inr long ↦
          none_so_long ends.line next h.2 z h.1 ends.part.one_line long.0
          (omega (arith, long.1, short.0.short)) whole
    ]
not_beyond (Err (StateCut number)) lines more next y z ends begins e =
    none_ends ends.line next z ends.part.one_line
    (sym (append-nil ends.line) ∙ ap (λ l. ends.line ++ l) (sym ends.here.1) ∙ sym ends.whole ∙ e)

-- where reading ended in the same line, it ended alike
done-done : (lines : List (List ℕ)) (y : List ℕ) (states others : SavedStates)
    → Ends lines y (Ok states) → Ends lines y (Ok others) → states ≡ others
done-done lines y states others is other =
    let parts = same_line is.line other.line is.here.0 other.here.0 is.part.one_line
    other.part.one_line (ap (λ l. is.line ++ l) (sym is.here.1) ∙ sym is.whole ∙ other.whole
    ∙ ap (λ l. other.line ++ l) other.here.1) in
    one_state (lines ++ other.line ∷ []) states others
    (subst (λ (l : List ℕ). IsStateText (lines ++ l ∷ []) states) parts.0 is.here.2) other.here.2

done-line : (lines : List (List ℕ)) (y : List ℕ) (states : SavedStates) (number : ℕ)
    → Ends lines y (Ok states) → Ends lines y (Err (StateLine number)) → ⊥
done-line lines y states number is other =
    let h = other.here in
    let whole : other.line ++ h.1 ∷ h.2 ≡ is.line ++ 10 ∷ is.here.0 =
    ap (λ l. other.line ++ l) (sym h.3) ∙ sym other.whole ∙ is.whole
    ∙ ap (λ l. is.line ++ l) is.here.1 in
    elim h.4 [
      | inl bad ↦
          let whole_10 =
          subst (λ b. other.line ++ b ∷ h.2 ≡ is.line ++ 10 ∷ is.here.0) bad.0 whole in
          let parts = same_line other.line is.line h.2 is.here.0 other.part.one_line
          is.part.one_line whole_10 in
          subst (λ (l : List ℕ). BeginsNoText (lines ++ l ∷ [])) parts.0 bad.1 [] states
          (subst (λ (l : List (List ℕ)). IsStateText l states)
          (sym (append-nil (lines ++ is.line ∷ []))) is.here.2)
      | inr long ↦
          none_so_long other.line is.line h.2 is.here.0 h.1 other.part.one_line long.0
          (omega (arith, long.1, is.part.short)) whole
    ]

done-cut : (lines : List (List ℕ)) (y : List ℕ) (states : SavedStates) (number : ℕ)
    → Ends lines y (Ok states) → Ends lines y (Err (StateCut number)) → ⊥
done-cut lines y states number is other =
    none_ends other.line is.line is.here.0 other.part.one_line
    (sym (append-nil other.line) ∙ ap (λ l. other.line ++ l) (sym other.here.1) ∙ sym other.whole
    ∙ is.whole ∙ ap (λ l. is.line ++ l) is.here.1)

line-cut : (lines : List (List ℕ)) (y : List ℕ) (number count : ℕ)
    → Ends lines y (Err (StateLine number)) → Ends lines y (Err (StateCut count)) → ⊥
line-cut lines y number count is other =
    let h = is.here in
    let whole : other.line ≡ is.line ++ h.1 ∷ h.2 =
    sym (append-nil other.line) ∙ ap (λ l. other.line ++ l) (sym other.here.1) ∙ sym other.whole
    ∙ is.whole ∙ ap (λ l. is.line ++ l) h.3 in
    elim h.4 [
      | inl bad ↦ none_ends other.line is.line h.2 other.part.one_line
          (subst (λ b. other.line ≡ is.line ++ b ∷ h.2) bad.0 whole)
      | inr long ↦ omega (
        arith,
        long.1,
        other.part.short,
        ap length whole,
        length-append is.line (h.1 ∷ h.2),
      )
    ]

same_end : (a b : Answer) (lines : List (List ℕ)) (y : List ℕ) → Ends lines y a → Ends lines y b
    → a ≡ b
same_end (Err Read) b lines y is other = absurd is
same_end (Ok states) (Err Read) lines y is other = absurd other
same_end (Err (StateLine n)) (Err Read) lines y is other = absurd other
same_end (Err (StateCut n)) (Err Read) lines y is other = absurd other
same_end (Ok states) (Ok others) lines y is other =
    ap (λ (s : SavedStates). Ok s) (done-done lines y states others is other)
same_end (Ok states) (Err (StateLine n)) lines y is other =
    absurd (done-line lines y states n is other)
same_end (Ok states) (Err (StateCut n)) lines y is other =
    absurd (done-cut lines y states n is other)
same_end (Err (StateLine n)) (Ok states) lines y is other =
    absurd (done-line lines y states n other is)
same_end (Err (StateCut n)) (Ok states) lines y is other =
    absurd (done-cut lines y states n other is)
same_end (Err (StateLine n)) (Err (StateLine m)) lines y is other =
    ap (λ k. Err (StateLine k)) (is.here.0 ∙ sym other.here.0)
same_end (Err (StateLine n)) (Err (StateCut m)) lines y is other =
    absurd (line-cut lines y n m is other)
same_end (Err (StateCut n)) (Err (StateLine m)) lines y is other =
    absurd (line-cut lines y m n other is)
same_end (Err (StateCut n)) (Err (StateCut m)) lines y is other =
    ap (λ k. Err (StateCut k)) (is.here.0 ∙ sym other.here.0)

same_ended : (input : List ℕ) (a b : Answer) → HasEnded input a → HasEnded input b → a ≡ b
same_ended input a b is other =
    elim (compare is.lines other.lines is.rest other.rest (lines_short is.lines is.begins)
    (lines_short other.lines other.begins) (sym is.whole ∙ other.whole)) [
      | same f g ↦ same_end a b other.lines other.rest
          (subst (λ (l : List (List ℕ)). Ends l other.rest a) f
          (subst (λ y. Ends is.lines y a) g is.ends)) other.ends
      | longer next more f g ↦ absurd (not_beyond a is.lines more next is.rest _ is.ends
          (subst BeginsText f other.begins) g)
      | shorter next more f g ↦ absurd (not_beyond b other.lines more next other.rest _ other.ends
          (subst BeginsText f is.begins) g)
    ]

-- a list that isn't empty ends with something
record HasLast (xs : List (List ℕ)) : Type 0 where
  front : List (List ℕ)
  last : List ℕ
  is : xs ≡ front ++ last ∷ []

last_of_all : (x : List ℕ) (xs : List (List ℕ)) → HasLast (x ∷ xs)
last_of_all x [] = record { front = []; last = x; is = refl }
last_of_all x (y ∷ xs) =
    let rest = last_of_all y xs in
    record {
      front = x ∷ rest.front;
      last = rest.last;
      is = ap (λ (l : List (List ℕ)). x ∷ l) rest.is;
    }

last_line_of : (xs : List (List ℕ)) → 0 < length xs → HasLast xs
last_line_of [] some = absurd (omega arith)
last_line_of (x ∷ xs) some = last_of_all x xs

-- an answer to an input says how reading it ended
abbrev IsTold : Answer → Type 0
IsTold (Ok states) = Unit {0}
IsTold (Err Read) = ⊥
IsTold (Err (StateLine number)) = Unit {0}
IsTold (Err (StateCut number)) = Unit {0}

ended-done : (input : List ℕ) (states : SavedStates) → BeginsWithState input states
    → HasEnded input (Ok states)
ended-done input states h =
    let text = h.stands_for in
    let last = last_line_of text.lines (some_lines text.lines h.states text.text) in
    let is = subst (λ (l : List (List ℕ)). IsStateText l h.states) last.is text.text in
    record {
      lines = last.front;
      rest = last.last ++ 10 ∷ h.more;
      begins = record {
        next = last.last;
        more = [];
        states = h.states;
        is = is;
      };
      whole = h.whole ∙ ap (λ l. l ++ h.more) (text.spelled ∙ ap ended_lines last.is
          ∙ ended-one last.front last.last)
          ∙ append_assoc (ended_lines last.front) (last.last ++ 10 ∷ []) h.more
          ∙ ap (λ l. ended_lines last.front ++ l) (append_assoc last.last (10 ∷ []) h.more);
      ends = record {
        line = last.last;
        more = 10 ∷ h.more;
        whole = refl;
        part = (each_right IsShortLine last.front (last.last ∷ [])
            (text_short _ h.states is)).0;
        here = (
          h.more,
          refl,
          subst (λ (s : SavedStates). IsStateText (last.front
              ++ last.last ∷ []) s) (sym h.here) is,
        );
      };
    }

ended-line : (number : ℕ) {input : List ℕ} (lines : List (List ℕ)) (rest more : List ℕ)
    → BeginsText lines → IsShortLine rest → input ≡ (ended_lines lines ++ rest) ++ more
    → number ≡ length lines + 1 → IsNotUnderstood whole_input lines rest more
    → HasEnded input (Err (StateLine number))
ended-line number lines rest [] begins part whole count h = absurd h
ended-line number lines rest (byte ∷ more) begins part whole count h = record {
  lines = lines;
  rest = rest ++ byte ∷ more;
  begins = begins;
  whole = whole ∙ append_assoc (ended_lines lines) rest (byte ∷ more);
  ends = record {
    line = rest;
    more = byte ∷ more;
    whole = refl;
    part = part;
    here = (count, byte, more, refl, h.1);
  };
}

is_told : (answer : Answer) → answer ≢ Err Read → IsTold answer
is_told (Ok states) other = tt
is_told (Err Read) other = other refl
is_told (Err (StateLine number)) other = tt
is_told (Err (StateCut number)) other = tt

ended-of : (input : List ℕ) (answer : Answer) → IsTold answer
    → AnswersState whole_input input answer → HasEnded input answer
ended-of input (Ok states) told h = ended-done input states (record {
  text = h.text;
  more = h.more;
  states = h.states;
  whole = h.whole;
  stands_for = h.stands_for;
  here = h.here.0;
})
ended-of input (Err Read) told h = absurd told
ended-of input (Err (StateLine number)) told h = ended-line number h.lines h.rest h.more h.begins
    h.part h.whole h.here.0 h.here.1
ended-of input (Err (StateCut number)) told h =
    let s = h.1 in
    record {
      lines = s.lines;
      rest = s.rest ++ s.more;
      begins = s.begins;
      whole = s.whole ∙ append_assoc (ended_lines s.lines) s.rest s.more;
      ends = record {
        line = s.rest;
        more = s.more;
        whole = refl;
        part = s.part;
        here = s.here;
      };
    }

-- an input has one answer, but for a failed read
pub one_answer : (input : List ℕ) (answer other : Answer)
    → AnswersState whole_input input answer
    → AnswersState whole_input input other
    → answer ≢ Err Read → other ≢ Err Read → answer ≡ other
one_answer input answer other h k told also =
    same_ended input answer other (ended-of input answer (is_told answer told) h)
    (ended-of input other (is_told other also) k)

-- so what an input says that begins with a text is the answer
pub good_answer : (o : Option (List ℕ)) (answer : Answer)
    → IfSome o (λ input. AnswersState whole_input input answer)
    → IfSome o (λ input. (states : SavedStates) → BeginsWithState input states
    → MatchResult answer (λ it. it ≡ states) (λ fault. fault ≡ Read))
good_answer None answer h = tt
good_answer (Some input) (Ok found) h = λ states begins.
    let e = same_ended input (Ok found) (Ok states) (ended-of input (Ok found) tt h)
    (ended-done input states begins) in cc
good_answer (Some input) (Err Read) h = λ states begins. refl
good_answer (Some input) (Err (StateLine n)) h = λ states begins.
    let e = same_ended input (Err (StateLine n)) (Ok states)
    (ended-of input (Err (StateLine n)) tt h) (ended-done input states begins) in cc
good_answer (Some input) (Err (StateCut n)) h = λ states begins.
    let e = same_ended input (Err (StateCut n)) (Ok states)
    (ended-of input (Err (StateCut n)) tt h) (ended-done input states begins) in cc
