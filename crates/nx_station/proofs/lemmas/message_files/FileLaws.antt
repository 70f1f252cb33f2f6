-- Laws of message files: one list of messages for each file, or one fault.
use Rattle.std.proofs.Common.{◌≡◌, ◌≢◌, ℕ, ◌+◌, List, [], ◌∷◌, ◌++◌, length, Option, Some, None}
use Rattle.std.proofs.Common.{refl, sym, ap, ◌∙◌, subst, append_assoc, append-nil, arith}
use Rattle.std.specs.List.{AllByRecursion}
use Rattle.nx_envelope.specs.Message.{IsMessageFault, text_of}
use Rattle.nx_envelope.specs.declared.message.MessageFault.{MessageFault}
use Rattle.nx_fec.proofs.lemmas.lines.LineLaws.{first_feed, no_feed-not}
use Rattle.nx_station.specs.MessageFile.{FileMessage, FileFault, bad_line, bad_text, line_cut}
use Rattle.nx_station.specs.MessageFile.{not_ended, IsOneLine, IsNamed, IsFileMessage, IsBegun}
use Rattle.nx_station.specs.MessageFile.{EndsInLine, IsOfLines, IsFirstFault, IsMessageFile}
use Rattle.nx_station.specs.MessageFile.{HasFirstFault, IsBegunIf, bytes_begun, lines_begun}
use Rattle.nx_station.specs.MessageFile.{message_file_bytes, heading, opening, file_message_bytes}
use Rattle.nx_station.specs.MessageFile.{lines_of}
use Rattle.nx_station.proofs.lemmas.message_files.Line.{heading-one_line, heading-same}
use Rattle.nx_station.proofs.lemmas.message_files.Line.{ended-same, ended-open, open-same, IsFileMessage-IsBegun}
use Rattle.nx_station.proofs.lemmas.message_files.Line.{spelling-line}
use Rattle.nx_station.proofs.lemmas.message_files.MessageFault.{one_of_lines, none_of_message}

-- ---- the shape of a front of a file: what its first message is, or why it has none

data Shape : Type 0 where
  strange : List ℕ → List ℕ → Shape
  cut : List ℕ → Shape
  ended : FileMessage → List ℕ → Shape
  broken : FileMessage → List ℕ → Shape

abbrev bytes_of : Shape → List ℕ
bytes_of (strange line more) = line ++ (10 ∷ more)
bytes_of (cut line) = line
bytes_of (ended entry more) = file_message_bytes entry ++ more
bytes_of (broken entry rest) = opening entry ++ rest

abbrev IsShape : Shape → Type 0
IsShape (strange line more) =
    IsOneLine line × ((subject number : ℕ) → IsNamed subject number → line ≢ heading subject number)
IsShape (cut line) = IsOneLine line
IsShape (ended entry more) = IsBegun entry
IsShape (broken entry rest) = IsBegun entry × IsOneLine rest

abbrev entry_with : ℕ → ℕ → List (List ℕ) → FileMessage
entry_with subject number lines = record { subject = subject; number = number; lines = lines }

entry-same : (a b : FileMessage) → a.subject ≡ b.subject → a.number ≡ b.number → a.lines ≡ b.lines
    → a ≡ b
entry-same a b p q r = ap (λ s. entry_with s a.number a.lines) p
    ∙ ap (λ n. entry_with b.subject n a.lines) q ∙ ap (λ l. entry_with b.subject b.number l) r

ended-is : (a b : FileMessage) (x y : List ℕ) → IsBegun a → IsBegun b
    → file_message_bytes a ++ x ≡ file_message_bytes b ++ y → (a ≡ b) × (x ≡ y)
ended-is a b x y h k e =
    let p = first_feed (heading a.subject a.number) (heading b.subject b.number)
    (text_of a.lines ++ (59 ∷ (10 ∷ x))) (text_of b.lines ++ (59 ∷ (10 ∷ y)))
    (heading-one_line a.subject a.number h.named) (heading-one_line b.subject b.number k.named)
    (sym (spelling-line a x) ∙ e ∙ spelling-line b y) in
    let q = heading-same a.subject a.number b.subject b.number h.named.two_digits k.named.two_digits
    p.0 in
    let r = ended-same a.lines b.lines x y h.lines k.lines p.1 in
    (entry-same a b q.0 q.1 r.0, r.1)

broken-is : (a b : FileMessage) (x y : List ℕ) → IsBegun a → IsBegun b → IsOneLine x → IsOneLine y
    → opening a ++ x ≡ opening b ++ y → (a ≡ b) × (x ≡ y)
broken-is a b x y h k one other e =
    let p = first_feed (heading a.subject a.number) (heading b.subject b.number)
    (text_of a.lines ++ x) (text_of b.lines ++ y)
    (heading-one_line a.subject a.number h.named) (heading-one_line b.subject b.number k.named) e in
    let q = heading-same a.subject a.number b.subject b.number h.named.two_digits k.named.two_digits
    p.0 in
    let r = open-same a.lines b.lines x y h.lines k.lines one other p.1 in
    (entry-same a b q.0 q.1 r.0, r.1)

ended-broken : (a b : FileMessage) (x y : List ℕ) → IsBegun a → IsBegun b → IsOneLine y
    → file_message_bytes a ++ x ≡ opening b ++ y → ⊥
ended-broken a b x y h k other e =
    let p = first_feed (heading a.subject a.number) (heading b.subject b.number)
    (text_of a.lines ++ (59 ∷ (10 ∷ x))) (text_of b.lines ++ y)
    (heading-one_line a.subject a.number h.named) (heading-one_line b.subject b.number k.named)
    (sym (spelling-line a x) ∙ e) in
    ended-open a.lines b.lines x y h.lines k.lines other p.1

strange-heading : (line more tail : List ℕ) (subject number : ℕ) → IsShape (strange line more)
    → IsNamed subject number → line ++ (10 ∷ more) ≡ heading subject number ++ (10 ∷ tail) → ⊥
strange-heading line more tail subject number h named e =
    h.1 subject number named (first_feed line (heading subject number) more tail h.0
    (heading-one_line subject number named) e).0

cut-ended : (line p q : List ℕ) → IsOneLine line → line ≡ p ++ (10 ∷ q) → ⊥
cut-ended line p q h e = no_feed-not p q (subst IsOneLine e h)

-- bytes have one shape
one_shape : (a b : Shape) → IsShape a → IsShape b → bytes_of a ≡ bytes_of b → a ≡ b
one_shape (strange l x) (strange m y) h k e = let p = first_feed l m x y h.0 k.0 e in let q = p.0 in
    let r = p.1 in cc
one_shape (strange l x) (cut m) h k e = absurd (cut-ended m l x k (sym e))
one_shape (strange l x) (ended b y) h k e =
    absurd (strange-heading l x (text_of b.lines ++ (59 ∷ (10 ∷ y))) b.subject b.number h k.named
    (e ∙ spelling-line b y))
one_shape (strange l x) (broken b y) h k e =
    absurd (strange-heading l x (text_of b.lines ++ y) b.subject b.number h k.0.named e)
one_shape (cut l) (strange m y) h k e = absurd (cut-ended l m y h e)
one_shape (cut l) (cut m) h k e = ap cut e
one_shape (cut l) (ended b y) h k e =
    absurd (cut-ended l (heading b.subject b.number) (text_of b.lines ++ (59 ∷ (10 ∷ y))) h
    (e ∙ spelling-line b y))
one_shape (cut l) (broken b y) h k e =
    absurd (cut-ended l (heading b.subject b.number) (text_of b.lines ++ y) h e)
one_shape (ended a x) (strange m y) h k e =
    absurd (strange-heading m y (text_of a.lines ++ (59 ∷ (10 ∷ x))) a.subject a.number k h.named
    (sym e ∙ spelling-line a x))
one_shape (ended a x) (cut m) h k e =
    absurd (cut-ended m (heading a.subject a.number) (text_of a.lines ++ (59 ∷ (10 ∷ x))) k
    (sym e ∙ spelling-line a x))
one_shape (ended a x) (ended b y) h k e = let p = ended-is a b x y h k e in let q = p.0 in let r =
    p.1 in cc
one_shape (ended a x) (broken b y) h k e = absurd (ended-broken a b x y h k.0 k.1 e)
one_shape (broken a x) (strange m y) h k e =
    absurd (strange-heading m y (text_of a.lines ++ x) a.subject a.number k h.0.named (sym e))
one_shape (broken a x) (cut m) h k e =
    absurd (cut-ended m (heading a.subject a.number) (text_of a.lines ++ x) k (sym e))
one_shape (broken a x) (ended b y) h k e = absurd (ended-broken b a y x k h.0 h.1 (sym e))
one_shape (broken a x) (broken b y) h k e = let p = broken-is a b x y h.0 k.0 h.1 k.1 e in let q =
    p.0 in let r = p.1 in cc

-- ---- the fault of a shape

abbrev Gives : ℕ → Shape → FileFault → Type 0
Gives before (strange line more) why = why ≡ bad_line (before + 1)
Gives before (cut line) why = (why ≡ line_cut (before + 1)) × (line ≢ [])
Gives before (ended entry more) why =
    (fault : MessageFault) × (why ≡ bad_text (before + 1) fault) × IsMessageFault entry.lines fault
    × IsOfLines fault
Gives before (broken entry []) why = why ≡ not_ended (before + 1)
Gives before (broken entry (b ∷ rest)) why = why ≡ line_cut (before + (1 + length entry.lines) + 1)

one_given : (before : ℕ) (shape : Shape) (v w : FileFault) → Gives before shape v
    → Gives before shape w → v ≡ w
one_given before (strange line more) v w h k = h ∙ sym k
one_given before (cut line) v w h k = h.0 ∙ sym k.0
one_given before (ended entry more) v w h k =
    h.1 ∙ ap (bad_text (before + 1)) (one_of_lines entry.lines h.0 k.0 h.3 k.3 h.2 k.2) ∙ sym k.1
one_given before (broken entry []) v w h k = h ∙ sym k
one_given before (broken entry (b ∷ rest)) v w h k = h ∙ sym k

record Shaped (before : ℕ) (bytes : List ℕ) (why : FileFault) : Type 0 where
  shape : Shape
  sound : IsShape shape
  whole : bytes ≡ bytes_of shape
  gives : Gives before shape why

broken-gives : (before : ℕ) (entry : FileMessage) (rest : List ℕ) → rest ≢ []
    → Gives before (broken entry rest) (line_cut (before + (1 + length entry.lines) + 1))
broken-gives before entry [] h = absurd (h refl)
broken-gives before entry (b ∷ rest) h = refl

cut-shaped : (before behind line : ℕ) (bytes : List ℕ) (h : EndsInLine bytes behind)
    (start : Option FileMessage) → h.before ≡ start → line ≡ before + behind + 1
    → Shaped before bytes (line_cut line)
cut-shaped before behind line bytes h None e is = record {
  shape = cut h.line;
  sound = h.one_line;
  whole = h.whole ∙ ap (λ o. bytes_begun o ++ h.line) e;
  gives = (
    ap line_cut (is ∙ ap (λ n. before + n + 1) (h.counted ∙ ap lines_begun e) ∙ omega arith),
    h.some,
  );
}
cut-shaped before behind line bytes h (Some entry) e is = record {
  shape = broken entry h.line;
  sound = (subst IsBegunIf e h.sound, h.one_line);
  whole = h.whole ∙ ap (λ o. bytes_begun o ++ h.line) e;
  gives =
      subst (λ n. Gives before (broken entry h.line) (line_cut n))
      (sym (is ∙ ap (λ n. before + n + 1) (h.counted ∙ ap lines_begun e)))
      (broken-gives before entry h.line h.some);
}

shaped : (before : ℕ) (bytes : List ℕ) (why : FileFault) → IsFirstFault before bytes why
    → Shaped before bytes why
shaped before bytes (bad_line line) h =
    record {
      shape = strange h.1.line h.1.more;
      sound = (h.1.one_line, h.1.begins_none);
      whole =
          h.1.whole;
      gives = ap bad_line h.0;
    }
shaped before bytes (bad_text line fault) h = record {
  shape = ended h.1.entry h.1.more;
  sound = h.1.begun;
  whole = h.1.whole;
  gives = (fault, ap (λ n. bad_text n fault) h.0, h.1.faulty, h.2);
}
shaped before bytes (line_cut line) h = cut-shaped before h.0 line bytes h.2 h.2.before refl h.1
shaped before bytes (not_ended line) h = record {
  shape = broken h.1.entry [];
  sound = (h.1.begun, tt);
  whole = h.1.whole ∙ sym (append-nil (opening h.1.entry));
  gives = ap not_ended h.0;
}

-- the first fault is one
first_fault-one : (before : ℕ) (bytes : List ℕ) (v w : FileFault) → IsFirstFault before bytes v
    → IsFirstFault before bytes w → v ≡ w
first_fault-one before bytes v w h k =
    let a = shaped before bytes v h in
    let b = shaped before bytes w k in
    let same : a.shape ≡ b.shape =
    one_shape a.shape b.shape a.sound b.sound (sym a.whole ∙ b.whole) in
    one_given before b.shape v w (subst (λ s. Gives before s v) same a.gives) b.gives

ended-good : (before : ℕ) (entry : FileMessage) (more : List ℕ) (why : FileFault)
    → IsFileMessage entry → Gives before (ended entry more) why → ⊥
ended-good before entry more why good h = none_of_message entry.lines h.0 good.lines h.3 h.2

-- a front that is a good message has none
first_fault-none : (before : ℕ) (entry : FileMessage) (more bytes : List ℕ) (why : FileFault)
    → IsFileMessage entry → bytes ≡ file_message_bytes entry ++ more → IsFirstFault before bytes why
    → ⊥
first_fault-none before entry more bytes why good e h =
    let a = shaped before bytes why h in
    let same : a.shape ≡ ended entry more =
    one_shape a.shape (ended entry more) a.sound (IsFileMessage-IsBegun entry good)
    (sym a.whole ∙ e) in
    ended-good before entry more why good (subst (λ s. Gives before s why) same a.gives)

empty-gives : (before : ℕ) (shape : Shape) (why : FileFault) → Gives before shape why
    → [] ≡ bytes_of shape → ⊥
empty-gives before (strange [] more) why h e = cc
empty-gives before (strange (b ∷ line) more) why h e = cc
empty-gives before (cut line) why h e = h.1 (sym e)
empty-gives before (ended entry more) why h e = cc
empty-gives before (broken entry rest) why h e = cc

-- no bytes have none
first_fault-empty : (before : ℕ) (bytes : List ℕ) (why : FileFault) → bytes ≡ []
    → IsFirstFault before bytes why → ⊥
first_fault-empty before bytes why e h =
    let a = shaped before bytes why h in
    empty-gives before a.shape why a.gives (sym e ∙ a.whole)

-- ---- whole files

file-cons : (entry : FileMessage) (entries : List FileMessage) (rest : List ℕ)
    → message_file_bytes (entry ∷ entries) ++ rest
    ≡ file_message_bytes entry ++ (message_file_bytes entries ++ rest)
file-cons entry entries rest =
    append_assoc (file_message_bytes entry) (message_file_bytes entries) rest

pub list-unique : (bytes : List ℕ) (a b : List FileMessage) → IsMessageFile bytes a
    → IsMessageFile bytes b → a ≡ b
list-unique bytes a b h k = go a b h.each k.each (sym h.whole ∙ k.whole)
  where
    go : (a b : List FileMessage) → AllByRecursion IsFileMessage a → AllByRecursion IsFileMessage b
        → message_file_bytes a ≡ message_file_bytes b → a ≡ b
    go [] [] h k e = refl
    go [] (y ∷ b) h k e = cc
    go (x ∷ a) [] h k e = cc
    go (x ∷ a) (y ∷ b) h k e =
        let p = ended-is x y (message_file_bytes a) (message_file_bytes b)
        (IsFileMessage-IsBegun x h.0) (IsFileMessage-IsBegun y k.0) e in
        let heads = p.0 in
        let tails = go a b h.1 k.1 p.1 in
        cc

pub no_fault : (bytes : List ℕ) (entries : List FileMessage) (why : FileFault)
    → IsMessageFile bytes entries → HasFirstFault bytes why → ⊥
no_fault bytes entries why h k =
    go 0 entries k.entries h.each k.each (sym h.whole ∙ k.whole)
    (subst (λ n. IsFirstFault n k.rest why) (omega arith) k.first)
  where
    go : (before : ℕ) (a b : List FileMessage) → AllByRecursion IsFileMessage a
        → AllByRecursion IsFileMessage b → message_file_bytes a ≡ message_file_bytes b ++ k.rest
        → IsFirstFault (before + lines_of b) k.rest why → ⊥
    go before [] [] p q e f = first_fault-empty (before + lines_of []) k.rest why (sym e) f
    go before [] (y ∷ b) p q e f = cc
    go before (x ∷ a) [] p q e f =
        first_fault-none (before + lines_of []) x (message_file_bytes a) k.rest why p.0 (sym e) f
    go before (x ∷ a) (y ∷ b) p q e f =
        let r = ended-is x y (message_file_bytes a) (message_file_bytes b ++ k.rest)
        (IsFileMessage-IsBegun x p.0) (IsFileMessage-IsBegun y q.0)
        (e ∙ file-cons y b k.rest) in
        go (before + (2 + length y.lines)) a b p.1 q.1 r.1
        (subst (λ n. IsFirstFault n k.rest why) (omega arith) f)

pub one_fault : (bytes : List ℕ) (v w : FileFault) → HasFirstFault bytes v → HasFirstFault bytes w
    → v ≡ w
one_fault bytes v w h k =
    go 0 h.entries k.entries h.each k.each (sym h.whole ∙ k.whole)
    (subst (λ n. IsFirstFault n h.rest v) (omega arith) h.first)
    (subst (λ n. IsFirstFault n k.rest w) (omega arith) k.first)
  where
    go : (before : ℕ) (a b : List FileMessage) → AllByRecursion IsFileMessage a
        → AllByRecursion IsFileMessage b
        → message_file_bytes a ++ h.rest ≡ message_file_bytes b ++ k.rest
        → IsFirstFault (before + lines_of a) h.rest v → IsFirstFault (before + lines_of b) k.rest w
        → v ≡ w
    go before [] [] p q e f g =
        first_fault-one (before + lines_of []) k.rest v w
        (subst (λ l. IsFirstFault (before + lines_of []) l v) e f) g
    go before [] (y ∷ b) p q e f g =
        absurd (first_fault-none (before + lines_of []) y (message_file_bytes b ++ k.rest) h.rest v
        q.0 (e ∙ file-cons y b k.rest) f)
    go before (x ∷ a) [] p q e f g =
        absurd (first_fault-none (before + lines_of []) x (message_file_bytes a ++ h.rest) k.rest w
        p.0 (sym e ∙ file-cons x a h.rest) g)
    go before (x ∷ a) (y ∷ b) p q e f g =
        let r = ended-is x y (message_file_bytes a ++ h.rest) (message_file_bytes b ++ k.rest)
        (IsFileMessage-IsBegun x p.0) (IsFileMessage-IsBegun y q.0)
        (sym (file-cons x a h.rest) ∙ e ∙ file-cons y b k.rest) in
        let same : lines_of (x ∷ a) ≡ (2 + length y.lines) + lines_of a =
        ap (λ (n : FileMessage). (2 + length n.lines) + lines_of a) r.0 in
        go (before + (2 + length y.lines)) a b p.1 q.1 r.1
        (subst (λ n. IsFirstFault n h.rest v) (ap (λ n. before + n) same ∙ omega arith) f)
        (subst (λ n. IsFirstFault n k.rest w) (omega arith) g)
