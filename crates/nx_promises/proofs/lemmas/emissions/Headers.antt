-- In what is printed of messages the headers are those of the messages, and no other.
use Rattle.std.proofs.Common.{◌≡◌, ◌≢◌, ℕ, true, eqb, eq-eqb, zero, suc, ◌+◌, ◌-◌, ◌<◌, List, []}
use Rattle.std.proofs.Common.{◌∷◌, ◌++◌, length, take, drop, replicate, refl, sym, ap, ◌∙◌, subst}
use Rattle.std.proofs.Common.{arith, inl, inr, append_assoc}
use Rattle.std.specs.List.{Contains, AllByRecursion, flat_map}
use Rattle.std.proofs.lemmas.Bool.{cases_lt}
use Rattle.std.proofs.lemmas.List.{length-append, length-drop, length-take-le, drop_at}
use Rattle.std.proofs.lemmas.List.{drop-append-le, drop-drop, take-append-drop}
use Rattle.std.proofs.lemmas.List.Concat.{flat_map-append}
use Rattle.std.proofs.lemmas.List.Elements.{All-append, All-cons, All-nil}
use Rattle.nx_envelope.specs.Copies.{headers}
use Rattle.nx_envelope.specs.Header.{Header, StandsIn, HoldsWord, start_marker, end_marker}
use Rattle.nx_envelope.specs.Identity.{identity_bytes}
use Rattle.nx_envelope.specs.Message.{AreLines, text_of, MessageView}
use Rattle.nx_envelope.specs.declared.identity.Identity.{Identity}
use Rattle.nx_envelope.proofs.lemmas.headers.Anywhere.{anywhere_both}
use Rattle.nx_envelope.proofs.lemmas.headers.Identities.{same_identity-true, same_from_bytes}
use Rattle.nx_station.specs.Broadcast.{header, printed_text}
use Rattle.nx_copies.specs.laws.Emissions.{IsHeaderOf}
use Rattle.nx_copies.proofs.lemmas.emissions.Copies.{sent_header, header_there}
use Rattle.nx_copies.proofs.lemmas.emissions.Markers.{LackWord, Begins, start_word, begins_word}
use Rattle.nx_copies.proofs.lemmas.emissions.Markers.{begins_nowhere, lack_start}

first_is : {x y : ℕ} {xs ys : List ℕ} → x ∷ xs ≡ y ∷ ys → x ≡ y
first_is e = cc

third_is : {a b x c d y : ℕ} {xs ys : List ℕ} → a ∷ (b ∷ (x ∷ xs)) ≡ c ∷ (d ∷ (y ∷ ys)) → x ≡ y
third_is e = cc

-- ZCZC stands in a header at its beginning alone
header_once : (identity : Identity) (k : ℕ) → 0 < k → Begins start_marker (drop k (header identity))
    → ⊥
header_once identity zero some b = omega (arith, some)
header_once identity (suc zero) some b = omega (arith, first_is b.whole)
header_once identity (suc (suc zero)) some b = omega (arith, third_is b.whole)
header_once identity (suc (suc (suc zero))) some b = omega (arith, first_is b.whole)
header_once identity (suc (suc (suc (suc zero)))) some b = omega (arith, first_is b.whole)
header_once identity (suc (suc (suc (suc (suc zero))))) some b =
    let digits = identity.two_digits in
    omega (arith, third_is b.whole)
header_once identity (suc (suc (suc (suc (suc (suc k)))))) some b =
    let long = ap length b.whole in
    let short = length-drop (suc (suc (suc (suc (suc (suc k)))))) (header identity) in
    omega arith

-- what stands behind the header of a message, as lines, none of which holds ZCZC
abbrev lines_behind : List (List ℕ) → List (List ℕ)
lines_behind lines = lines ++ (end_marker ∷ ([] ∷ []))

not_in_end : ¬ HoldsWord start_marker end_marker
not_in_end h = at_end h.front h.back h.spelled
  where
    at_end : (front back : List ℕ) → end_marker ≡ (front ++ start_marker) ++ back → ⊥
    at_end [] back e = omega (arith, first_is e)
    at_end (x ∷ front) back e = let long = ap length e in omega (arith, simp length-append at long)

not_in_nil : ¬ HoldsWord start_marker []
not_in_nil h = let long = ap length h.spelled in omega (arith, simp length-append at long)

abbrev Lacks : List ℕ → Type 0
Lacks line = ¬ HoldsWord start_marker line

lacks_behind : (lines : List (List ℕ)) → AreLines lines → LackWord start_marker (lines_behind lines)
lacks_behind lines good =
    All-append Lacks lines (end_marker ∷ ([] ∷ [])) (lack_start lines good)
    (All-cons Lacks end_marker ([] ∷ []) not_in_end
    (All-cons Lacks [] [] not_in_nil (All-nil Lacks)))

printed_parts : (message : MessageView)
    → printed_text message ≡ header message.identity ++ 10 ∷ text_of (lines_behind message.lines)
printed_parts message =
    ap (λ l. header message.identity ++ 10 ∷ l)
    (sym (flat_map-append (λ line. line ++ 10 ∷ []) message.lines (end_marker ∷ ([] ∷ []))))

-- the message of the messages whose printed text begins at this index
pub record BeginsAt (messages : List MessageView) (at : ℕ) : Type 0 where
  pub before : List MessageView
  pub message : MessageView
  pub after : List MessageView
  pub whole : messages ≡ before ++ message ∷ after
  pub place : at ≡ length (flat_map printed_text before)

within_message : (message : MessageView) → AreLines message.lines → (rest back : List ℕ) (k : ℕ)
    → k < length (printed_text message)
    → drop k (printed_text message ++ rest) ≡ start_marker ++ back → k ≡ 0
within_message message good rest back k lt e =
    let behind = text_of (lines_behind message.lines) in
    let whole : printed_text message ++ rest ≡ header message.identity ++ 10 ∷ (behind ++ rest) =
    ap (λ l. l ++ rest) (printed_parts message)
    ∙ append_assoc (header message.identity) (10 ∷ behind) rest in
    let long : length (printed_text message) ≡ 10 + length behind =
    ap length (printed_parts message) ∙ omega arith in
    elim (cases_lt 9 k) [
      | inl later ↦
          let over : 10 + (k - 10) ≡ k = omega arith in
          let there : drop (k - 10) (behind ++ rest) ≡ start_marker ++ back =
          drop-drop (k - 10) 10 (header message.identity ++ 10 ∷ (behind ++ rest))
          ∙ ap (λ j. drop j (header message.identity ++ 10 ∷ (behind ++ rest))) over
          ∙ ap (drop k) (sym whole) ∙ e in
          absurd (begins_nowhere start_marker start_word (lines_behind message.lines)
          (lacks_behind message.lines good) (k - 10) rest back (omega arith) there)
      | inr early ↦
          let here : drop k (header message.identity) ++ 10 ∷ (behind ++ rest)
          ≡ start_marker ++ back =
          sym (drop-append-le k (header message.identity) (10 ∷ (behind ++ rest)) early)
          ∙ ap (drop k) (sym whole)
          ∙ e in
          let b = begins_word start_marker (drop k (header message.identity)) (behind ++ rest) back
          start_word here in
          elim (cases_lt 0 k) [
            | inl some ↦ absurd (header_once message.identity k some b)
            | inr none ↦ omega arith
          ]
    ]

pub begins_at : (messages : List MessageView)
    → AllByRecursion (λ (message : MessageView). AreLines message.lines) messages
    → (k : ℕ) (back : List ℕ)
    → k < length (flat_map printed_text messages)
    → drop k (flat_map printed_text messages) ≡ start_marker ++ back → BeginsAt messages k
begins_at [] good k back lt e = absurd (omega arith)
begins_at (m ∷ messages) good k back lt e =
    let rest = flat_map printed_text messages in
    elim (cases_lt k (length (printed_text m))) [
      | inl within ↦ record {
        before = [];
        message = m;
        after = messages;
        whole = refl;
        place =
            within_message m good.0 rest back k within e;
      }
      | inr beyond ↦
          let over : length (printed_text m) + (k - length (printed_text m)) ≡ k = omega arith in
          let there : drop (k - length (printed_text m)) rest ≡ start_marker ++ back =
          ap (drop (k - length (printed_text m)))
          (sym (drop_at (printed_text m) rest (length (printed_text m)) refl))
          ∙ drop-drop (k - length (printed_text m)) (length (printed_text m))
          (printed_text m ++ rest)
          ∙ ap (λ j. drop j (printed_text m ++ rest)) over ∙ e in
          let long : length (printed_text m ++ rest) ≡ length (printed_text m) + length rest =
          length-append (printed_text m) rest in
          let b = begins_at messages good.1 (k - length (printed_text m)) back (omega arith)
          there in
          record {
            before = m ∷ b.before;
            message = b.message;
            after = b.after;
            whole = ap (λ l. m ∷ l) b.whole;
            place = omega (
              arith,
              b.place,
              length-append (printed_text m)
                  (flat_map printed_text b.before),
            );
          }
    ]

-- ---- the headers

behind_five : {a b c d e p q r s t : ℕ} {xs ys : List ℕ}
    → a ∷ (b ∷ (c ∷ (d ∷ (e ∷ xs)))) ≡ p ∷ (q ∷ (r ∷ (s ∷ (t ∷ ys)))) → xs ≡ ys
behind_five e = cc

-- where no space stands next there are no more spaces
record NoMore (more : ℕ) (xs ys : List ℕ) : Type 0 where
  none : more ≡ 0
  rest : xs ≡ ys

no_more_spaces : (more x : ℕ) (xs ys : List ℕ) → x ≢ 32 → x ∷ xs ≡ replicate more 32 ++ ys
    → NoMore more (x ∷ xs) ys
no_more_spaces zero x xs ys apart e = record { none = refl; rest = e }
no_more_spaces (suc more) x xs ys apart e = absurd (apart (first_is e))

-- four bytes that are the same
record SameFour (a b c d p q r s : ℕ) : Type 0 where
  first : a ≡ p
  second : b ≡ q
  third : c ≡ r
  fourth : d ≡ s

same_four : {a b c d p q r s : ℕ} {xs ys : List ℕ}
    → a ∷ (b ∷ (c ∷ (d ∷ xs))) ≡ p ∷ (q ∷ (r ∷ (s ∷ ys)))
    → SameFour a b c d p q r s
same_four e = record { first = cc; second = cc; third = cc; fourth = cc }

module _ (messages : List MessageView)
    (good : AllByRecursion (λ (message : MessageView). AreLines message.lines) messages)
    (h : Header) (s : StandsIn (flat_map printed_text messages) h) where
  abbrev all : List ℕ
  all = flat_map printed_text messages

  abbrev front : List ℕ
  front = s.spelled.front

  abbrev spaces : List ℕ
  spaces = replicate (s.spelled.more_spaces + 1) 32

  abbrev tail : List ℕ
  tail = identity_bytes h.identity ++ drop h.behind all

  whole : all ≡ front ++ (start_marker ++ (spaces ++ tail))
  whole =
      sym (take-append-drop h.behind all) ∙ ap (λ l. l ++ drop h.behind all) s.spelled.spelled
      ∙ append_assoc ((front ++ start_marker) ++ spaces) (identity_bytes h.identity)
      (drop h.behind all)
      ∙ append_assoc (front ++ start_marker) spaces tail
      ∙ append_assoc front start_marker (spaces ++ tail)

  begins : drop (length front) all ≡ start_marker ++ (spaces ++ tail)
  begins = ap (drop (length front)) whole
      ∙ drop_at front (start_marker ++ (spaces ++ tail)) (length front) refl

  inside : length front < length all
  inside = let long = ap length whole ∙ length-append front (start_marker ++ (spaces ++ tail)) in
      omega arith

  at : BeginsAt messages (length front)
  at = begins_at messages good (length front) (spaces ++ tail) inside begins

  abbrev after_text : List ℕ
  after_text = flat_map printed_text at.after

  message_there : drop (length front) all ≡ printed_text at.message ++ after_text
  message_there =
      ap (λ n. drop n all) at.place
      ∙ ap (drop (length (flat_map printed_text at.before)))
      (ap (flat_map printed_text) at.whole
      ∙ flat_map-append printed_text at.before (at.message ∷ at.after))
      ∙ drop_at (flat_map printed_text at.before) (printed_text at.message ++ after_text)
      (length (flat_map printed_text at.before)) refl

  spaces_are : spaces ≡ 32 ∷ replicate s.spelled.more_spaces 32
  spaces_are =
      let e : s.spelled.more_spaces + 1 ≡ suc s.spelled.more_spaces = omega arith in
      ap (λ n. replicate n 32) e

  letters : NoMore s.spelled.more_spaces (drop 5 (printed_text at.message ++ after_text)) tail
  letters =
      let station = at.message.identity.b1.in_range in
      no_more_spaces s.spelled.more_spaces at.message.identity.b1.byte _ tail
      (λ e. absurd (omega (arith, station.0, e)))
      (behind_five (sym message_there ∙ begins ∙ ap (λ l. start_marker ++ (l ++ tail)) spaces_are))

  named : h.identity ≡ at.message.identity
  named =
      let four = same_four letters.rest in
      let one = at.message.identity.two_digits in
      let other = h.identity.two_digits in
      same_from_bytes h.identity at.message.identity (sym four.first) (sym four.second)
      (omega (arith, four.third, four.fourth))

  long_behind : h.behind ≡ length front + 9
  long_behind =
      let up_to : length (take h.behind all) ≡ h.behind = length-take-le h.behind all s.within in
      let spelled = ap length s.spelled.spelled in
      let parts : length (((front ++ start_marker) ++ spaces) ++ identity_bytes h.identity)
      ≡ length front + 4 + length spaces + 4 =
      simp length-append in
      let one : length spaces ≡ 1 =
      ap length spaces_are ∙ ap (λ n. length (32 ∷ replicate n 32)) letters.none in
      omega arith

  pub header_is : IsHeaderOf messages h
  header_is =
      record {
        before = at.before;
        message = at.message;
        after = at.after;
        whole = at.whole;
        named =
            named;
        behind = long_behind ∙ ap (λ n. n + 9) at.place;
      }

-- each header in what is printed of messages is that of one of them
pub headers_of_messages : (messages : List MessageView) (h : Header)
    → AllByRecursion (λ (message : MessageView). AreLines message.lines) messages
    → Contains (headers (flat_map printed_text messages)) h → IsHeaderOf messages h
headers_of_messages messages h good there =
    header_is messages good h ((anywhere_both (flat_map printed_text messages) h).0 there)

lines_of_one : (before : List MessageView) (message : MessageView) (after : List MessageView)
    → AllByRecursion (λ (message : MessageView). AreLines message.lines) (before ++ message ∷ after)
    → AreLines message.lines
lines_of_one [] message after good = good.0
lines_of_one (m ∷ before) message after good = lines_of_one before message after good.1

-- and each message has its header there
pub messages_have_headers : (messages : List MessageView) (h : Header)
    → AllByRecursion (λ (message : MessageView). AreLines message.lines) messages
    → IsHeaderOf messages h → Contains (headers (flat_map printed_text messages)) h
messages_have_headers messages h good is =
    let front = flat_map printed_text is.before in
    let back = flat_map printed_text is.after in
    let lines =
    lines_of_one is.before is.message is.after
    (subst (AllByRecursion (λ (message : MessageView). AreLines message.lines)) is.whole
    good) in
    let all : flat_map printed_text messages ≡ front ++ (printed_text is.message ++ back) =
    ap (flat_map printed_text) is.whole
    ∙ flat_map-append printed_text is.before (is.message ∷ is.after) in
    let same : sent_header (length front) is.message.identity ≡ h =
    ap (λ (identity : Identity). record { identity = identity; behind = length front + 9 })
    (sym is.named)
    ∙ ap (λ (n : ℕ). record { identity = h.identity; behind = n }) (sym is.behind) in
    subst (λ (text : List ℕ). Contains (headers text) h) (sym all)
    (subst (Contains (headers (front ++ (printed_text is.message ++ back)))) same
    (header_there front back is.message lines))
