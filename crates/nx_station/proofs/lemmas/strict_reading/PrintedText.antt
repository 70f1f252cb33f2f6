-- A printed text is of one list of messages.
use Rattle.std.proofs.Common.{◌≡◌, ◌≢◌, ℕ, List, [], ◌∷◌, ◌++◌, refl, sym, ap, ◌∙◌, subst}
use Rattle.std.proofs.Common.{append_assoc, arith, inr}
use Rattle.std.specs.List.{flat_map, AllByRecursion}
use Rattle.std.proofs.lemmas.Bool.{and_from, eq-eqb}
use Rattle.std.proofs.lemmas.List.Elements.{recursion_from_All}
use Rattle.nx_envelope.specs.Identity.{two_digits}
use Rattle.nx_envelope.specs.Header.{end_marker}
use Rattle.nx_envelope.specs.Message.{AreLines, IsMessageLine, IsLineByte, IsMessageFault, text_of}
use Rattle.nx_envelope.specs.Message.{MessageView}
use Rattle.nx_envelope.specs.declared.identity.Identity.{Identity}
use Rattle.nx_envelope.specs.declared.message.MessageFault.{MessageFault}
use Rattle.nx_envelope.specs.declared.message.MessageFault.TheVariants as message
use Rattle.nx_envelope.proofs.lemmas.headers.Identities.{same_identity-true}
use Rattle.nx_fec.proofs.lemmas.lines.LineLaws.{first_feed, no_feed-not}
use Rattle.nx_station.specs.Broadcast.{header, printed_text}
use Rattle.nx_station.specs.Faults.{unmade_fault}
use Rattle.nx_station.specs.MessageFile.{IsOneLine}
use Rattle.nx_station.specs.private.PrintedText.{AreSound, ExplainsFirstPrinted}
use Rattle.nx_station.specs.private.PrintedText.{ExplainsPrintedLines, ExplainsPrinted, IsTextLine}
use Rattle.nx_station.specs.private.PrintedText.{ended_lines}
use Rattle.nx_station.specs.declared.fault.EmissionFault.{EmissionFault}
use Rattle.nx_station.specs.declared.fault.EmissionFault.TheVariants.{Ragged, WrongWord, Unpaired}
use Rattle.nx_station.specs.declared.fault.EmissionFault.TheVariants.{BadEnvelope, Memory}
use Rattle.nx_station.proofs.lemmas.message_files.Line.{digits-same, line_bytes}
use Rattle.nx_station.proofs.lemmas.message_files.Line.{text-cons}
use Rattle.nx_station.proofs.lemmas.message_files.MessageFault.{none_of_message}

-- ---- lines that are ended by NNNN

end_marker-one_line : IsOneLine end_marker
end_marker-one_line = (
  (λ e. absurd (omega (arith, e))),
  (
    (λ e. absurd (omega (arith, e))),
    ((λ e. absurd (omega (arith, e))), ((λ e. absurd (omega (arith, e))), tt)),
  ),
)

-- two ended texts
pub marked-same : (ls ms : List (List ℕ)) (x y : List ℕ) → AllByRecursion IsTextLine ls
    → AllByRecursion IsTextLine ms → ended_lines ls x ≡ ended_lines ms y → (ls ≡ ms) × (x ≡ y)
marked-same [] [] x y h k e = (refl, cc)
marked-same [] (m ∷ ms) x y h k e =
    absurd (k.0.goes_on (sym (first_feed end_marker m x (ended_lines ms y) end_marker-one_line
    k.0.one_line (e ∙ text-cons m ms (end_marker ++ (10 ∷ y)))).0))
marked-same (l ∷ ls) [] x y h k e =
    absurd (h.0.goes_on (first_feed l end_marker (ended_lines ls x) y h.0.one_line
    end_marker-one_line (sym (text-cons l ls (end_marker ++ (10 ∷ x))) ∙ e)).0)
marked-same (l ∷ ls) (m ∷ ms) x y h k e =
    let p = first_feed l m (ended_lines ls x) (ended_lines ms y) h.0.one_line k.0.one_line
    (sym (text-cons l ls (end_marker ++ (10 ∷ x))) ∙ e ∙ text-cons m ms (end_marker ++ (10 ∷ y))) in
    let r = marked-same ls ms x y h.1 k.1 p.1 in
    let heads = p.0 in
    (cc (r.0, heads), r.1)

-- an ended text and one that isn't
pub marked-open : (ls ms : List (List ℕ)) (x r : List ℕ) → AllByRecursion IsTextLine ls
    → AllByRecursion IsTextLine ms → IsOneLine r → ended_lines ls x ≡ text_of ms ++ r → ⊥
marked-open [] [] x r h k one e = no_feed-not end_marker x (subst IsOneLine (sym e) one)
marked-open [] (m ∷ ms) x r h k one e =
    absurd (k.0.goes_on (sym (first_feed end_marker m x (text_of ms ++ r) end_marker-one_line
    k.0.one_line (e ∙ text-cons m ms r)).0))
marked-open (l ∷ ls) [] x r h k one e =
    no_feed-not l (ended_lines ls x)
    (subst IsOneLine (sym e ∙ text-cons l ls (end_marker ++ (10 ∷ x))) one)
marked-open (l ∷ ls) (m ∷ ms) x r h k one e =
    let p = first_feed l m (ended_lines ls x) (text_of ms ++ r) h.0.one_line k.0.one_line
    (sym (text-cons l ls (end_marker ++ (10 ∷ x))) ∙ e ∙ text-cons m ms r) in
    marked-open ls ms x r h.1 k.1 one p.1

line-IsUnended : (line : List ℕ) → IsMessageLine line → IsTextLine line
line-IsUnended line h = record {
  one_line = line_bytes line (recursion_from_All IsLineByte line h.in_code);
  goes_on = λ e. h.unreserved (inr (record { front = []; back = []; spelled = e }));
}

lines-unended : (lines : List (List ℕ)) → AllByRecursion IsMessageLine lines
    → AllByRecursion IsTextLine lines
lines-unended [] h = tt
lines-unended (line ∷ lines) h = (line-IsUnended line h.0, lines-unended lines h.1)

pub AreLines-unended : (lines : List (List ℕ)) → AreLines lines → AllByRecursion IsTextLine lines
AreLines-unended lines h = lines-unended lines (recursion_from_All IsMessageLine lines h.each)

-- ---- headers

header-one_line : (identity : Identity) → IsOneLine (header identity)
header-one_line identity =
    let station = identity.b1.in_range in
    let subject = identity.b2.in_range in (
      (λ e. absurd (omega (arith, e))),
      (
        (λ e. absurd (omega (arith, e))),
        (
          (λ e. absurd (omega (arith, e))),
          (
            (λ e. absurd (omega (arith, e))),
            (
              (λ e. absurd (omega (arith, e))),
              (
                (λ e. absurd (omega (arith, e, station.0))),
                (
                  (λ e. absurd (omega (arith, e, subject.0))),
                  ((λ e. absurd (omega (arith, e))), ((λ e. absurd (omega (arith, e))), tt)),
                ),
              ),
            ),
          ),
        ),
      ),
    )

header-same : (a b : Identity) → header a ≡ header b → a ≡ b
header-same a b e =
    let station : a.b1.byte ≡ b.b1.byte = cc in
    let subject : a.b2.byte ≡ b.b2.byte = cc in
    let digits : two_digits a.number ≡ two_digits b.number = cc in
    let number = digits-same a.number b.number a.two_digits b.two_digits digits in
    same_identity-true a b (and_from _ _
    (and_from _ _ (eq-eqb a.b1.byte b.b1.byte station) (eq-eqb a.b2.byte b.b2.byte subject))
    (eq-eqb a.number b.number number))

-- ---- a message

pub printed-line : (message : MessageView) (more : List ℕ)
    → printed_text message ++ more
    ≡ header message.identity ++ (10 ∷ ended_lines message.lines (10 ∷ more))
printed-line message more =
    ap (λ l. header message.identity ++ (10 ∷ l))
    (append_assoc (text_of message.lines) (end_marker ++ (10 ∷ 10 ∷ [])) more)

abbrev view_with : Identity → List (List ℕ) → MessageView
view_with identity lines = record { identity = identity; lines = lines }

view-same : (a b : MessageView) → a.identity ≡ b.identity → a.lines ≡ b.lines → a ≡ b
view-same a b p q = ap (λ i. view_with i a.lines) p ∙ ap (λ l. view_with b.identity l) q

-- where text begins with a line, a message that it begins with has that line as its header
pub printed-header : (text line rest more : List ℕ) (message : MessageView)
    → text ≡ line ++ (10 ∷ rest) → IsOneLine line → text ≡ printed_text message ++ more
    → (line ≡ header message.identity) × (rest ≡ ended_lines message.lines (10 ∷ more))
printed-header text line rest more message h one e =
    first_feed line (header message.identity) rest (ended_lines message.lines (10 ∷ more)) one
    (header-one_line message.identity) (sym h ∙ e ∙ printed-line message more)

pub printed-same : (a b : MessageView) (x y : List ℕ) → AreLines a.lines → AreLines b.lines
    → printed_text a ++ x ≡ printed_text b ++ y → (a ≡ b) × (x ≡ y)
printed-same a b x y h k e =
    let p = first_feed (header a.identity) (header b.identity) (ended_lines a.lines (10 ∷ x))
    (ended_lines b.lines (10 ∷ y)) (header-one_line a.identity) (header-one_line b.identity)
    (sym (printed-line a x) ∙ e ∙ printed-line b y) in
    let r = marked-same a.lines b.lines (10 ∷ x) (10 ∷ y) (AreLines-unended a.lines h)
    (AreLines-unended b.lines k) p.1 in
    let tails = r.1 in
    (view-same a b (header-same a.identity b.identity p.0) r.0, cc)

-- ---- lists of messages

pub printed-one : (a b : List MessageView) → AreSound a → AreSound b
    → flat_map printed_text a ≡ flat_map printed_text b → a ≡ b
printed-one [] [] h k e = refl
printed-one [] (y ∷ b) h k e = cc
printed-one (x ∷ a) [] h k e = cc
printed-one (x ∷ a) (y ∷ b) h k e =
    let p = printed-same x y (flat_map printed_text a) (flat_map printed_text b) h.0 k.0 e in
    let heads = p.0 in
    let tails = printed-one a b h.1 k.1 p.1 in
    cc

-- what is left of a text of messages behind some is that of others
record Left (rest : List ℕ) : Type 0 where
  messages : List MessageView
  sound : AreSound messages
  whole : rest ≡ flat_map printed_text messages

printed-left : (xs ys : List MessageView) (rest : List ℕ) → AreSound xs → AreSound ys
    → flat_map printed_text xs ++ rest ≡ flat_map printed_text ys → Left rest
printed-left [] ys rest h k e = record { messages = ys; sound = k; whole = e }
printed-left (x ∷ xs) [] rest h k e = cc
printed-left (x ∷ xs) (y ∷ ys) rest h k e =
    printed-left xs ys rest h.1 k.1
    (printed-same x y (flat_map printed_text xs ++ rest) (flat_map printed_text ys) h.0 k.0
    (sym (append_assoc (printed_text x) (flat_map printed_text xs) rest) ∙ e)).1

left-begins : (rest : List ℕ) (messages : List MessageView) → AreSound messages
    → rest ≡ flat_map printed_text messages → rest ≢ []
    → ((message : MessageView) (more : List ℕ) → AreLines message.lines
    → rest ≢ printed_text message ++ more) → ⊥
left-begins rest [] h e some none = some e
left-begins rest (m ∷ ms) h e some none = none m (flat_map printed_text ms) h.0 e

pub left-fault : (text rest : List ℕ) (messages : List MessageView) (fault : EmissionFault)
    → text ≡ flat_map printed_text messages ++ rest → AreSound messages → rest ≢ []
    → ExplainsFirstPrinted rest fault → ExplainsPrinted text fault
left-fault text rest messages BadEnvelope h sound some first = λ all each e.
    let left = printed-left messages all rest sound each (sym h ∙ e) in
    left-begins rest left.messages left.sound left.whole some first
left-fault text rest messages (Memory error) h sound some first = tt
left-fault text rest messages (Ragged bits) h sound some first = absurd first
left-fault text rest messages (WrongWord slot) h sound some first = absurd first
left-fault text rest messages (Unpaired position) h sound some first = absurd first

-- ---- a message that isn't read

pub lines-fault : (text line rest : List ℕ) (fault : EmissionFault) → text ≡ line ++ (10 ∷ rest)
    → IsOneLine line → ExplainsPrintedLines rest fault → ExplainsFirstPrinted text fault
lines-fault text line rest BadEnvelope h one none = λ message more sound e.
    none message.lines (10 ∷ more) (AreLines-unended message.lines sound)
    (printed-header text line rest more message h one e).1
lines-fault text line rest (Memory error) h one none = tt
lines-fault text line rest (Ragged bits) h one none = absurd none
lines-fault text line rest (WrongWord slot) h one none = absurd none
lines-fault text line rest (Unpaired position) h one none = absurd none

-- the lines of a message were read: another message has the same, and what is left behind it begins
-- with its empty line
pub lines-read : (text line rest after more : List ℕ) (lines : List (List ℕ))
    (message : MessageView) → text ≡ line ++ (10 ∷ rest) → IsOneLine line
    → rest ≡ ended_lines lines after
    → AllByRecursion IsTextLine lines → AreLines message.lines → text ≡ printed_text message ++ more
    → (lines ≡ message.lines) × (after ≡ 10 ∷ more)
lines-read text line rest after more lines message h one k inside sound e =
    marked-same lines message.lines after (10 ∷ more) inside (AreLines-unended message.lines sound)
    (sym k ∙ (printed-header text line rest more message h one e).1)

unmade : (lines : List (List ℕ)) (fault : MessageFault) (text line rest after : List ℕ)
    → text ≡ line ++ (10 ∷ rest) → IsOneLine line → rest ≡ ended_lines lines after
    → AllByRecursion IsTextLine lines
    → ((given : List (List ℕ)) → AreLines given → lines ≡ given → ⊥)
    → ExplainsFirstPrinted text BadEnvelope
unmade lines fault text line rest after h one k inside none = λ message more sound e.
    none message.lines sound (lines-read text line rest after more lines message h one k inside
    sound e).0

pub unmade-fault : (lines : List (List ℕ)) (fault : MessageFault) (text line rest after : List ℕ)
    → text ≡ line ++ (10 ∷ rest) → IsOneLine line → rest ≡ ended_lines lines after
    → AllByRecursion IsTextLine lines → IsMessageFault lines fault
    → ExplainsFirstPrinted text (unmade_fault fault)
unmade-fault lines (message.Memory error) text line rest after h one k inside faulty = tt
unmade-fault lines (message.LongLine n) text line rest after h one k inside faulty =
    unmade lines (message.LongLine n) text line rest after h one k inside
    (λ given good e. none_of_message given (message.LongLine n) good tt
    (subst (λ l. IsMessageFault l (message.LongLine n)) e faulty))
unmade-fault lines (message.BadCharacter n at) text line rest after h one k inside faulty =
    unmade lines (message.BadCharacter n at) text line rest after h one k inside
    (λ given good e. none_of_message given (message.BadCharacter n at) good tt
    (subst (λ l. IsMessageFault l (message.BadCharacter n at)) e faulty))
unmade-fault lines (message.Reserved n) text line rest after h one k inside faulty =
    unmade lines (message.Reserved n) text line rest after h one k inside
    (λ given good e. none_of_message given (message.Reserved n) good tt
    (subst (λ l. IsMessageFault l (message.Reserved n)) e faulty))
unmade-fault lines message.LongText text line rest after h one k inside faulty =
    unmade lines message.LongText text line rest after h one k inside
    (λ given good e. none_of_message given message.LongText good tt
    (subst (λ l. IsMessageFault l message.LongText) e faulty))
