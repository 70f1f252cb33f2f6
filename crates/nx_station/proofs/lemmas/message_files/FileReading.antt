-- How a message file is read, line by line and message by message.
use Rattle.std.proofs.Common.{◌≡◌, ◌≢◌, ℕ, ◌+◌, ◌<◌, ◌≤◌, List, [], ◌∷◌, ◌++◌, length, Some, refl}
use Rattle.std.proofs.Common.{sym, ap, ◌∙◌, append_assoc, append-nil, arith, length-append}
use Rattle.std.specs.List.{AllByRecursion}
use Rattle.std.proofs.lemmas.List.Concat.{flat_map-append}
use Rattle.nx_envelope.specs.Message.{IsMessageFault, text_of, MessageView}
use Rattle.nx_envelope.specs.declared.message.MessageFault.{MessageFault}
use Rattle.nx_station.specs.MessageFile.{FileMessage, IsOneLine, IsInside, IsNamed, IsFileMessage}
use Rattle.nx_station.specs.MessageFile.{IsOfLines, IsFirstFault, bad_text, line_cut, not_ended}
use Rattle.nx_station.specs.MessageFile.{heading, opening, file_message_bytes, message_file_bytes}
use Rattle.nx_station.specs.MessageFile.{lines_of}
use Rattle.nx_envelope.specs.declared.message.MessageFault.TheVariants as message
use Rattle.nx_station.specs.private.MessageParts.{ExplainsFirst, text_fault}
use Rattle.nx_station.proofs.lemmas.message_files.Line.{spelling-line}

-- ---- the lines of a text

-- the file ends inside a message
pub body-open : (subject number before line : ℕ) (bytes rest : List ℕ) (lines : List (List ℕ))
    → IsNamed subject number → bytes ≡ text_of lines ++ rest → rest ≡ []
    → AllByRecursion IsInside lines
    → line ≡ before + 1 → IsFirstFault before (heading subject number ++ (10 ∷ bytes))
    (not_ended line)
body-open subject number before line bytes rest lines named h none inside e = (
  e,
  record {
    entry = record { subject = subject; number = number; lines = lines };
    whole = ap (λ l. heading subject number ++ (10 ∷ l))
        (h ∙ ap (λ l. text_of lines ++ l) none ∙ append-nil (text_of lines));
    begun = record { named = named; lines = inside };
  },
)

-- the file ends inside a line of a message
pub body-cut : (subject number before line : ℕ) (bytes rest : List ℕ) (lines : List (List ℕ))
    → IsNamed subject number → bytes ≡ text_of lines ++ rest → rest ≢ [] → IsOneLine rest
    → AllByRecursion IsInside lines → line ≡ before + 2 + length lines
    → IsFirstFault before (heading subject number ++ (10 ∷ bytes)) (line_cut line)
body-cut subject number before line bytes rest lines named h some one inside e = (
  1 + length lines,
  omega (arith, e),
  record {
    before = Some (record { subject = subject; number = number; lines = lines });
    line = rest;
    whole = ap (λ l. heading subject number ++ (10 ∷ l)) h;
    sound = record { named = named; lines = inside };
    one_line = one;
    some = some;
    counted = refl;
  },
)

-- ---- the first message

-- a message was read whole, and its lines have a fault
pub message-bad : (before : ℕ) (bytes line rest more : List ℕ) (lines : List (List ℕ))
    (subject number : ℕ) (fault : MessageFault) → bytes ≡ line ++ (10 ∷ rest)
    → line ≡ heading subject number
    → rest ≡ text_of lines ++ (59 ∷ (10 ∷ more)) → IsNamed subject number
    → AllByRecursion IsInside lines → IsMessageFault lines fault → IsOfLines fault
    → IsFirstFault before bytes (bad_text (before + 1) fault)
message-bad before bytes line rest more lines subject number fault h k t named inside faulty
    of_lines =
    let entry : FileMessage = record { subject = subject; number = number; lines = lines } in (
      refl,
      record {
        entry = entry;
        more = more;
        whole = h ∙ ap (λ x. x ++ (10 ∷ rest)) k ∙ ap (λ x. heading subject number ++ (10 ∷ x)) t
            ∙ sym (spelling-line entry more);
        begun = record { named = named; lines = inside };
        faulty = faulty;
      },
      of_lines,
    )

pub text-explains : (before : ℕ) (bytes line rest more : List ℕ) (lines : List (List ℕ))
    (subject number : ℕ) (fault : MessageFault) → bytes ≡ line ++ (10 ∷ rest)
    → line ≡ heading subject number
    → rest ≡ text_of lines ++ (59 ∷ (10 ∷ more)) → IsNamed subject number
    → AllByRecursion IsInside lines → IsMessageFault lines fault
    → ExplainsFirst before bytes (text_fault (before + 1) fault)
text-explains before bytes line rest more lines subject number (message.Memory error) h k t named
    inside faulty = tt
text-explains before bytes line rest more lines subject number (message.LongLine n) h k t named
    inside faulty = message-bad before bytes line rest more lines subject number
    (message.LongLine n) h k t named inside faulty tt
text-explains before bytes line rest more lines subject number (message.BadCharacter n at) h k t
    named inside faulty = message-bad before bytes line rest more lines subject number
    (message.BadCharacter n at) h k t named inside faulty tt
text-explains before bytes line rest more lines subject number (message.Reserved n) h k t named
    inside faulty = message-bad before bytes line rest more lines subject number
    (message.Reserved n) h k t named inside faulty tt
text-explains before bytes line rest more lines subject number message.LongText h k t named inside
    faulty = message-bad before bytes line rest more lines subject number message.LongText h k t
    named inside faulty tt

-- ---- whole files

pub file-more : (file rest more : List ℕ) (entries : List FileMessage) (entry : FileMessage)
    → file ≡ message_file_bytes entries ++ rest → rest ≡ file_message_bytes entry ++ more
    → file ≡ message_file_bytes (entries ++ (entry ∷ [])) ++ more
file-more file rest more entries entry h k =
    h ∙ ap (λ l. message_file_bytes entries ++ l) k
    ∙ sym (append_assoc (message_file_bytes entries) (file_message_bytes entry) more)
    ∙ ap (λ l. l ++ more) (ap (λ l. message_file_bytes entries ++ l)
    (sym (append-nil (file_message_bytes entry)))
    ∙ sym (flat_map-append file_message_bytes entries (entry ∷ [])))

pub entries-more : (entries : List FileMessage) (entry : FileMessage)
    → AllByRecursion IsFileMessage entries → IsFileMessage entry
    → AllByRecursion IsFileMessage (entries ++ (entry ∷ []))
entries-more [] entry h k = (k, tt)
entries-more (e ∷ entries) entry h k = (h.0, entries-more entries entry h.1 k)

pub of_station-more : (station : ℕ) (messages : List MessageView) (message : MessageView)
    → AllByRecursion (λ (m : MessageView). m.identity.b1.byte ≡ station) messages
    → message.identity.b1.byte ≡ station
    → AllByRecursion (λ (m : MessageView). m.identity.b1.byte ≡ station)
    (messages ++ (message ∷ []))
of_station-more station [] message h k = (k, tt)
of_station-more station (m ∷ messages) message h k =
    (h.0, of_station-more station messages message h.1 k)

pub lines-more : (entries : List FileMessage) (entry : FileMessage)
    → lines_of (entries ++ (entry ∷ [])) ≡ lines_of entries + (2 + length entry.lines)
lines-more [] entry = omega arith
lines-more (e ∷ entries) entry = omega (arith, lines-more entries entry)

pub text-long : (lines : List (List ℕ)) → length lines ≤ length (text_of lines)
text-long [] = omega arith
text-long (line ∷ lines) =
    omega (
      arith,
      text-long lines,
      length-append (line ++ (10 ∷ [])) (text_of lines),
      length-append
          line (10 ∷ []),
    )

-- a message has at least as many bytes as lines
pub spelling-long : (entry : FileMessage)
    → 2 + length entry.lines < length (file_message_bytes entry)
spelling-long entry = omega (
  arith,
  text-long entry.lines,
  length-append (opening entry) (59 ∷ (10 ∷ [])),
  length-append
      (heading entry.subject entry.number) (10 ∷ text_of entry.lines),
)

pub some-left : (rest : List ℕ) → length rest ≢ 0 → rest ≢ []
some-left rest h e = h (ap length e)
