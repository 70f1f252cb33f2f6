-- The copy of a message in a text that holds all that is printed of it, whatever stands before and
-- behind it.
use Rattle.std.proofs.Common.{◌≡◌, ℕ, ◌+◌, ◌≤◌, List, [], ◌∷◌, ◌++◌, map, length, take, drop}
use Rattle.std.proofs.Common.{Option, Some, None, unwrap_or, refl, sym, ap, ◌∙◌, arith}
use Rattle.std.proofs.Common.{append_assoc}
use Rattle.std.specs.List.{Contains}
use Rattle.std.specs.Option.{option_map}
use Rattle.std.proofs.lemmas.List.{length-append, take_at, drop_at}
use Rattle.std.proofs.lemmas.List.Elements.{All-contains, All-map, All-weaker}
use Rattle.nx_envelope.specs.Copies.{Copy, Ending, headers, raw_text, ended_copies, less_newline}
use Rattle.nx_envelope.specs.Copies.{ending_of, ended_copy, closed_copy, copies, copy_with}
use Rattle.nx_envelope.specs.Header.{Header, StandsIn, start_marker, end_marker}
use Rattle.nx_envelope.specs.Identity.{identity_bytes}
use Rattle.nx_envelope.specs.Message.{AreLines, text_of, MessageView}
use Rattle.nx_envelope.specs.declared.identity.Identity.{Identity}
use Rattle.nx_envelope.specs.declared.found.How.TheVariants.{Full}
use Rattle.nx_envelope.proofs.lemmas.headers.Anywhere.{anywhere_both}
use Rattle.nx_envelope.proofs.lemmas.headers.Rising.{headers_rise_in}
use Rattle.nx_station.specs.Broadcast.{header, printed_text}
use Rattle.nx_copies.proofs.lemmas.emissions.Markers.{full_ending}
use Rattle.nx_copies.proofs.lemmas.once.Rising.{Rises, rises_from, rises_map, contains_filter_map}
use Rattle.nx_copies.proofs.lemmas.locks.Found.{headers_in}

-- the header of a message whose printed text begins at this index
abbrev pub sent_header : ℕ → Identity → Header
sent_header at identity = record { identity = identity; behind = at + 9 }

-- its copy
abbrev pub sent_copy : ℕ → MessageView → Copy
sent_copy at message = record
    { header = sent_header at message.identity; how = Full; text = text_of message.lines }

-- the copy of a header bears the header
kept : (h : Header) (o : Option Ending) (closed : Copy) → closed.header ≡ h
    → (unwrap_or (option_map (copy_with h) o) closed).header ≡ h
kept h None closed e = e
kept h (Some ending) closed e = refl

abbrev pub copy_at : List ℕ → Header → Copy
copy_at text h = unwrap_or (ended_copy text h) (closed_copy text h)

pub header_of : (text : List ℕ) (h : Header) → (copy_at text h).header ≡ h
unfolding ended_copy closed_copy
header_of text h = kept h (ending_of (raw_text text h)) (closed_copy text h) refl

module _ (front back : List ℕ) (message : MessageView) (good : AreLines message.lines) where
  abbrev all : List ℕ
  all = front ++ (printed_text message ++ back)

  abbrev here : Header
  here = sent_header (length front) message.identity

  -- what stands behind the header
  abbrev behind : List ℕ
  behind = text_of message.lines ++ (end_marker ++ 10 ∷ 10 ∷ back)

  parts : all ≡ (front ++ header message.identity) ++ 10 ∷ behind
  parts =
      let ends : (text_of message.lines ++ (end_marker ++ 10 ∷ 10 ∷ [])) ++ back ≡ behind =
      append_assoc (text_of message.lines) (end_marker ++ 10 ∷ 10 ∷ []) back in
      ap (λ l. front ++ l) (append_assoc (header message.identity)
      (10 ∷ (text_of message.lines ++ (end_marker ++ 10 ∷ 10 ∷ []))) back
      ∙ ap (λ l. header message.identity ++ 10 ∷ l) ends)
      ∙ sym (append_assoc front (header message.identity) (10 ∷ behind))

  long : length (front ++ header message.identity) ≡ length front + 9
  long = length-append front (header message.identity)

  stands_here : StandsIn all here
  stands_here =
      let size : length all ≡ length (front ++ header message.identity) + length (10 ∷ behind) =
      ap length parts
      ∙ length-append (front ++ header message.identity) (10 ∷ behind) in
      let spelled_there : front ++ header message.identity
      ≡ ((front ++ start_marker) ++ (32 ∷ [])) ++ identity_bytes message.identity =
      sym (append_assoc front start_marker (32 ∷ identity_bytes message.identity))
      ∙ sym (append_assoc (front ++ start_marker) (32 ∷ []) (identity_bytes message.identity)) in
      record {
        within = omega (arith, long);
        spelled = record {
          front = front;
          more_spaces = 0;
          spelled = ap (take (length front + 9)) parts
              ∙ take_at (front ++ header message.identity) (10 ∷ behind) (length front + 9) long
              ∙ spelled_there;
        };
      }

  pub header_there : Contains (headers all) here
  header_there = (anywhere_both all here).1 stands_here

  pub ended_here : ended_copy all here ≡ Some (sent_copy (length front) message)
  unfolding ended_copy raw_text
  ended_here =
      ap (λ l. option_map (copy_with here) (ending_of (less_newline l)))
      (ap (drop (length front + 9)) parts
      ∙ drop_at (front ++ header message.identity) (10 ∷ behind) (length front + 9) long)
      ∙ ap (option_map (copy_with here)) (full_ending message.lines good (10 ∷ 10 ∷ back))

  pub ended_there : Contains (ended_copies all) (sent_copy (length front) message)
  unfolding ended_copies
  ended_there =
      contains_filter_map (ended_copy all) (headers all) here (sent_copy (length front) message)
      header_there ended_here

-- the headers of a text come in rising order
pub headers_rise : (text : List ℕ) → Rises (λ (h : Header). h.behind) (headers text)
headers_rise text =
    rises_from (λ (h : Header). h.behind) (headers text)
    (λ front between back earlier later e. headers_rise_in text earlier later
    (record {
      front = front;
      between = between;
      back = back;
      listed =
          e ∙ sym (append_assoc front (earlier ∷ between) (later ∷ back));
    }))

-- and so do its copies
pub copies_rise : (text : List ℕ) → Rises (λ (copy : Copy). copy.header.behind) (copies text)
unfolding copies
copies_rise text =
    rises_map (copy_at text) (λ (h : Header). h.behind) (λ (copy : Copy). copy.header.behind)
    (headers text)
    (λ x y _ _ lt. omega (
      arith,
      ap (λ (h : Header). h.behind) (header_of text x),
      ap
          (λ (h : Header). h.behind) (header_of text y),
    ))
    (headers_rise text)

-- and stand behind the letters of their headers, in the text
pub copies_within : (text : List ℕ) (copy : Copy) → Contains (copies text) copy
    → (1 ≤ copy.header.behind) × (copy.header.behind ≤ length text)
unfolding copies
copies_within text copy c =
    All-contains (λ (c : Copy). (1 ≤ c.header.behind) × (c.header.behind ≤ length text))
    (map (copy_at text) (headers text)) copy
    (All-map (λ (c : Copy). (1 ≤ c.header.behind) × (c.header.behind ≤ length text)) (copy_at text)
    (headers text)
    (All-weaker (λ (h : Header). (1 ≤ h.behind) × (h.behind ≤ length text))
    (λ (h : Header). (1 ≤ (copy_at text h).header.behind)
    × ((copy_at text h).header.behind ≤ length text))
    (λ h i. let e = ap (λ (h : Header). h.behind) (header_of text h) in
    (omega (arith, i.0), omega (arith, i.1))) (headers text) (headers_in text))) c
