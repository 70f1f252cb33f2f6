-- The positions of messages: there is one list of them, and how it is built and counted.
use Rattle.std.proofs.Common.{◌≡◌, ◌≢◌, ℕ, ◌+◌, ◌-◌, ◌<◌, ◌≤◌, true, List, [], ◌∷◌, ◌++◌, length}
use Rattle.std.proofs.Common.{map, replicate, take, drop, get_or, not, Some, refl, sym, ap, ◌∙◌}
use Rattle.std.proofs.Common.{subst, arith, append_assoc, append-nil}
use Rattle.std.specs.List.{flat_map, AllByRecursion, list_all, position}
use Rattle.std.proofs.lemmas.List.{length-append, length-map, length-replicate}
use Rattle.std.proofs.lemmas.List.Concat.{flat_map-append}
use Rattle.std.proofs.lemmas.List.Elements.{recursion_from_All}
use Rattle.std.proofs.lemmas.Bool.{and_from, false≢true, not-true}
use Rattle.std.proofs.lemmas.List.{take_more, take_all, take-append-drop, map-append}
use Rattle.std.proofs.lemmas.List.Quantifiers.{position-Some}
use Rattle.std.proofs.lemmas.List.Folds.{list_all_at}
use Rattle.nx_code.specs.declared.spelling.Extent.{Extent}
use Rattle.nx_code.proofs.lemmas.Spelling.{Spells-append, spells_newline, shift_after_all-map_append}
use Rattle.nx_envelope.specs.declared.identity.Identity.{Identity}
use Rattle.nx_code.specs.Reading.{is_in_code, characters, combination, shift_after_all}
use Rattle.nx_code.specs.Spelling.{Spells}
use Rattle.nx_code.specs.declared.shifts.Shift.{Shift}
use Rattle.nx_code.specs.declared.shifts.Shift.TheVariants.{Letters, Figures}
use Rattle.nx_code.proofs.lemmas.OneSpelling.{spelling-exists, spelling-one}
use Rattle.nx_envelope.specs.Message.{AreLines, IsMessageLine, IsLineByte, text_of, MessageView}
use Rattle.nx_fec.specs.emissions.Emission.{SentPosition, phasing_position, traffic_position, end_position, end_positions}
use Rattle.nx_station.specs.Sendable.{HavePositions}
use Rattle.nx_station.specs.private.MessageParts.{IsExtent}
use Rattle.nx_station.specs.Broadcast.{IsSpelled, AreSpelled, IsBroadcast, head, ending}
use Rattle.nx_station.specs.Broadcast.{phasing_and_message, layout, first_phasing, further_phasing}

-- ---- the text of a message is in the code

newline-in_code : is_in_code 10 ≡ true
unfolding is_in_code characters
newline-in_code = refl

and_newline : (line : List ℕ) (rest : List ℕ) → AllByRecursion IsLineByte line
    → list_all is_in_code rest ≡ true → list_all is_in_code ((line ++ (10 ∷ [])) ++ rest) ≡ true
and_newline [] rest h k = and_from _ _ newline-in_code k
and_newline (b ∷ line) rest h k = and_from _ _ h.0.0 (and_newline line rest h.1 k)

lines-in_code : (lines : List (List ℕ)) → AllByRecursion IsMessageLine lines
    → list_all is_in_code (text_of lines) ≡ true
lines-in_code [] h = refl
lines-in_code (line ∷ lines) h =
    and_newline line (text_of lines) (recursion_from_All IsLineByte line h.0.in_code)
    (lines-in_code lines h.1)

pub text-in_code : (lines : List (List ℕ)) → AreLines lines
    → list_all is_in_code (text_of lines) ≡ true
text-in_code lines h = lines-in_code lines (recursion_from_All IsMessageLine lines h.each)

bytes-in_code : (line : List ℕ) → AllByRecursion IsLineByte line → list_all is_in_code line ≡ true
bytes-in_code [] h = refl
bytes-in_code (b ∷ line) h = and_from _ _ h.0.0 (bytes-in_code line h.1)

pub line-in_code : (line : List ℕ) → IsMessageLine line → list_all is_in_code line ≡ true
line-in_code line h = bytes-in_code line (recursion_from_All IsLineByte line h.in_code)

-- where all bytes are in the code, none is found that isn't
pub all-in_code : (bytes : List ℕ) (at : ℕ)
    → position (λ byte. not (is_in_code byte)) bytes ≡ Some at → list_all is_in_code bytes ≡ true
    → ⊥
all-in_code bytes at h all =
    let there = position-Some (λ byte. not (is_in_code byte)) bytes at 0 h in
    false≢true (sym (list_all_at is_in_code bytes at 0 there.0 (not-true _ there.1)) ∙ all)

-- the text of one more line
pub text-line : (lines : List (List ℕ)) (i : ℕ) → i < length lines
    → text_of (take (i + 1) lines) ≡ text_of (take i lines) ++ (get_or lines i [] ++ (10 ∷ []))
text-line lines i lt =
    let next = take_more lines i [] lt in
    ap text_of next ∙ flat_map-append (λ (line : List ℕ). line ++ (10 ∷ [])) (take i lines)
    (get_or lines i [] ∷ []) ∙ ap (λ l. text_of (take i lines) ++ l)
    (append-nil (get_or lines i [] ++ (10 ∷ [])))

pub text-few : (lines : List (List ℕ)) (i : ℕ) → AreLines lines
    → length (text_of (take i lines)) ≤ 4096
text-few lines i h =
    let parts = sym (ap text_of (take-append-drop i lines))
    ∙ flat_map-append (λ (line : List ℕ). line ++ (10 ∷ [])) (take i lines) (drop i lines) in
    omega (
      arith,
      h.fits,
      ap length parts,
      length-append (text_of (take i lines))
          (text_of (drop i lines)),
    )

-- ---- the extent of a text, line by line

pub IsExtent-line : (front line : List ℕ) (before more : Extent) → IsExtent front before
    → list_all is_in_code line ≡ true
    → ((numbers : List ℕ) → Spells line before.shift numbers → more.length ≡ length numbers)
    → ((numbers : List ℕ) → Spells line before.shift numbers
    → more.shift ≡ shift_after_all (map combination numbers) before.shift)
    → IsExtent (front ++ (line ++ (10 ∷ []))) record
    { length = before.length + more.length + 2; shift = more.shift }
IsExtent-line front line before more h in_code long last =
    let ys = spelling-exists line before.shift in_code in
    let whole = Spells-append line (10 ∷ []) before.shift ys.0 (27 ∷ 28 ∷ []) ys.1
    (spells_newline (shift_after_all (map combination ys.0) before.shift)) in
    let numbers = ys.0 ++ (27 ∷ 28 ∷ []) in
    let left : shift_after_all (map combination numbers) before.shift ≡ more.shift =
    shift_after_all-map_append ys.0 (27 ∷ 28 ∷ []) before.shift ∙ sym (last ys.0 ys.1) in
    record {
      numbers = h.numbers ++ numbers;
      spells = Spells-append front (line ++ (10 ∷ [])) Figures h.numbers numbers h.spells
          (subst (λ s. Spells (line ++ (10 ∷ [])) s numbers) h.after whole);
      long = omega (
        arith,
        h.long,
        long ys.0 ys.1,
        length-append h.numbers numbers,
        length-append
            ys.0 (27 ∷ 28 ∷ []),
      );
      after = sym left ∙ ap (shift_after_all (map combination numbers)) h.after
          ∙ sym (shift_after_all-map_append h.numbers numbers Figures);
    }

-- ---- how many combinations

pub length-head : (identity : Identity) → length (head identity) ≡ 13
unfolding head
length-head identity = refl

pub length-ending : (shift : Shift) → length (ending shift) ≤ 8
unfolding ending
length-ending Letters = omega arith
length-ending Figures = omega arith

pub spelled-of : (message : MessageView) (extent : Extent) (end : ℕ)
    → IsExtent (text_of message.lines) extent → end ≡ length (ending extent.shift)
    → (numbers : List ℕ) × IsSpelled message numbers × (13 + extent.length + end ≡ length numbers)
spelled-of message extent end h e =
    let last = ending (shift_after_all (map combination h.numbers) Figures) in
    let same : ending extent.shift ≡ last = ap ending h.after in (
      head message.identity ++ (h.numbers ++ last),
      record { text = h.numbers; spells = h.spells; whole = refl },
      omega (
        arith,
        h.long,
        e,
        ap length same,
        length-head message.identity,
        length-append
            (head message.identity) (h.numbers ++ last),
        length-append h.numbers last,
      ),
    )

-- ---- one broadcast

pub spelled-one : (message : MessageView) (one other : List ℕ) → IsSpelled message one
    → IsSpelled message other → one ≡ other
spelled-one message one other h k =
    h.whole
    ∙ ap (λ t. head message.identity ++ (t ++ ending (shift_after_all (map combination t) Figures)))
    (spelling-one (text_of message.lines) Figures h.text k.text h.spells k.spells)
    ∙ sym k.whole

spelled-exists : (message : MessageView) → AreLines message.lines
    → (numbers : List ℕ) × IsSpelled message numbers
spelled-exists message h =
    let t = spelling-exists (text_of message.lines) Figures (text-in_code message.lines h) in (
      head message.identity ++ (t.0 ++ ending (shift_after_all (map combination t.0) Figures)),
      record { text = t.0; spells = t.1; whole = refl },
    )

pub all_spelled-one : (messages : List MessageView) (one other : List (List ℕ))
    → AreSpelled messages one → AreSpelled messages other → one ≡ other
all_spelled-one [] [] [] h k = refl
all_spelled-one [] [] (y ∷ ys) h k = absurd k
all_spelled-one [] (x ∷ xs) ys h k = absurd h
all_spelled-one (m ∷ ms) [] ys h k = absurd h
all_spelled-one (m ∷ ms) (x ∷ xs) [] h k = absurd k
all_spelled-one (m ∷ ms) (x ∷ xs) (y ∷ ys) h k =
    let heads = spelled-one m x y h.0 k.0 in
    let tails = all_spelled-one ms xs ys h.1 k.1 in
    cc

all_spelled-exist : (messages : List MessageView)
    → AllByRecursion (λ (message : MessageView). AreLines message.lines) messages
    → (spellings : List (List ℕ)) × AreSpelled messages spellings
all_spelled-exist [] h = ([], tt)
all_spelled-exist (m ∷ ms) h =
    let first = spelled-exists m h.0 in
    let others = all_spelled-exist ms h.1 in
    (first.0 ∷ others.0, (first.1, others.1))

pub broadcast-one : (messages : List MessageView) (one other : List SentPosition)
    → IsBroadcast messages one → IsBroadcast messages other → one ≡ other
broadcast-one messages one other h k =
    h.whole ∙ ap layout (all_spelled-one messages h.spellings k.spellings h.each k.each)
    ∙ sym k.whole

pub broadcast-exists : (messages : List MessageView)
    → AllByRecursion (λ (message : MessageView). AreLines message.lines) messages
    → (positions : List SentPosition) × IsBroadcast messages positions
broadcast-exists messages h =
    let all = all_spelled-exist messages h in
    (layout all.0, record { spellings = all.0; each = all.1; whole = refl })

-- ---- one more message

pub all_spelled-push : (messages : List MessageView) (spellings : List (List ℕ))
    (message : MessageView) (numbers : List ℕ) → AreSpelled messages spellings
    → IsSpelled message numbers
    → AreSpelled (messages ++ (message ∷ [])) (spellings ++ (numbers ∷ []))
all_spelled-push [] [] message numbers h k = (k, tt)
all_spelled-push [] (x ∷ xs) message numbers h k = absurd h
all_spelled-push (m ∷ ms) [] message numbers h k = absurd h
all_spelled-push (m ∷ ms) (x ∷ xs) message numbers h k =
    (h.0, all_spelled-push ms xs message numbers h.1 k)

-- ---- how many positions

abbrev pub total : List (List ℕ) → ℕ
total [] = 0
total (numbers ∷ spellings) = (further_phasing + length numbers) + total spellings

pub total-push : (spellings : List (List ℕ)) (numbers : List ℕ)
    → total (spellings ++ (numbers ∷ [])) ≡ total spellings + (further_phasing + length numbers)
total-push [] numbers = omega arith
total-push (x ∷ xs) numbers = omega (arith, total-push xs numbers)

length-phasing_and_message : (count : ℕ) (numbers : List ℕ)
    → length (phasing_and_message count numbers) ≡ count + length numbers
length-phasing_and_message count numbers =
    omega (
      arith,
      length-append (replicate count phasing_position) (map traffic_position numbers),
      length-replicate count phasing_position,
      length-map numbers traffic_position,
    )

length-others : (spellings : List (List ℕ))
    → length (flat_map (phasing_and_message further_phasing) spellings) ≡ total spellings
length-others [] = refl
length-others (x ∷ xs) = omega (
  arith,
  length-append (phasing_and_message further_phasing x)
      (flat_map (phasing_and_message further_phasing) xs),
  length-phasing_and_message further_phasing
      x,
  length-others xs,
)

pub length-layout : (spellings : List (List ℕ)) → spellings ≢ []
    → length (layout spellings)
    ≡ total spellings + (first_phasing - further_phasing + end_positions)
unfolding layout
length-layout [] h = absurd (h refl)
length-layout (x ∷ xs) h =
    let others = flat_map (phasing_and_message further_phasing) xs in
    let ends = replicate end_positions end_position in
    omega (
      arith,
      length-append (phasing_and_message first_phasing x) (others ++ ends),
      length-append others ends,
      length-phasing_and_message first_phasing x,
      length-others xs,
      length-replicate end_positions end_position,
    )

-- ---- how they are built

pub more-spelled : (messages : List MessageView) (i : ℕ) (message : MessageView)
    (spellings : List (List ℕ)) (numbers : List ℕ) → i < length messages
    → message ≡ get_or messages i message
    → AreSpelled (take i messages) spellings → IsSpelled message numbers
    → AreSpelled (take (i + 1) messages) (spellings ++ (numbers ∷ []))
more-spelled messages i message spellings numbers lt here h k =
    subst (λ l. AreSpelled l (spellings ++ (numbers ∷ [])))
    (sym (take_more messages i message lt ∙ ap (λ m. take i messages ++ (m ∷ [])) (sym here)))
    (all_spelled-push (take i messages) spellings message numbers h k)

pub spelled-some : (messages : List MessageView) (spellings : List (List ℕ)) → messages ≢ []
    → AreSpelled messages spellings → spellings ≢ []
spelled-some [] ss some h e = some refl
spelled-some (m ∷ ms) [] some h e = h
spelled-some (m ∷ ms) (s ∷ ss) some h e = cc

pub counted-all : (messages : List MessageView) (i count : ℕ) (spellings : List (List ℕ))
    → messages ≢ [] → length messages ≤ i → AreSpelled (take i messages) spellings
    → count ≡ total spellings
    → HavePositions messages (count + (first_phasing - further_phasing + end_positions))
counted-all messages i count spellings some past h e =
    let all : AreSpelled messages spellings =
    subst (λ l. AreSpelled l spellings) (take_all i messages past) h in (
      layout spellings,
      record { spellings = spellings; each = all; whole = refl },
      omega (arith, e, length-layout spellings (spelled-some messages spellings some all)),
    )

pub empty-broadcast : (messages : List MessageView) (positions : List SentPosition)
    → length messages ≡ 0 → positions ≡ [] → IsBroadcast messages positions
unfolding layout
empty-broadcast [] positions h e = record { spellings = []; each = tt; whole = e }
empty-broadcast (m ∷ ms) positions h e = absurd (omega (arith, h))

pub message-positions : (message : MessageView) (text : List ℕ) (phasing : ℕ)
    (old one two three new : List SentPosition) (numbers : List ℕ) (extent : Extent)
    → one ≡ old ++ replicate phasing phasing_position → two ≡ one ++ map traffic_position numbers
    → numbers ≡ head message.identity → three ≡ two ++ map traffic_position text
    → new ≡ three ++ map traffic_position (ending extent.shift)
    → Spells (text_of message.lines) Figures text → IsExtent (text_of message.lines) extent
    → (all : List ℕ) × IsSpelled message all × (new ≡ old ++ phasing_and_message phasing all)
message-positions message text phasing old one two three new numbers extent a b n c d spells h =
    let last = ending (shift_after_all (map combination text) Figures) in
    let same : h.numbers ≡ text =
    spelling-one (text_of message.lines) Figures h.numbers text h.spells spells in
    let end : ending extent.shift ≡ last =
    ap ending (h.after ∙ ap (λ t. shift_after_all (map combination t) Figures) same) in
    let front = replicate phasing phasing_position in
    let t = map traffic_position in
    let parts : t (head message.identity ++ (text ++ last))
    ≡ t (head message.identity) ++ (t text ++ t last) =
    map-append traffic_position (head message.identity) (text ++ last)
    ∙ ap (λ l. t (head message.identity) ++ l) (map-append traffic_position text last) in
    let built : new ≡ (((old ++ front) ++ t (head message.identity)) ++ t text) ++ t last =
    d ∙ ap (λ e. three ++ t e) end
    ∙ ap (λ l. l ++ t last) (c
    ∙ ap (λ l. l ++ t text) (b ∙ ap (λ l. l ++ t numbers) a
    ∙ ap (λ m. (old ++ front) ++ t m) n)) in
    let joined : (((old ++ front) ++ t (head message.identity)) ++ t text) ++ t last
    ≡ old ++ (front ++ (t (head message.identity) ++ (t text ++ t last))) =
    append_assoc ((old ++ front) ++ t (head message.identity)) (t text) (t last)
    ∙ append_assoc (old ++ front) (t (head message.identity)) (t text ++ t last)
    ∙ append_assoc old front (t (head message.identity) ++ (t text ++ t last)) in (
      head message.identity ++ (text ++ last),
      record { text = text; spells = spells; whole = refl },
      built ∙ joined ∙ ap (λ l. old ++ (front ++ l)) (sym parts),
    )

-- one more message behind the first
pub others-more : (old now new : List SentPosition) (spellings : List (List ℕ)) (numbers : List ℕ)
    → now ≡ old ++ flat_map (phasing_and_message further_phasing) spellings
    → new ≡ now ++ phasing_and_message further_phasing numbers
    → new ≡ old ++ flat_map (phasing_and_message further_phasing) (spellings ++ (numbers ∷ []))
others-more old now new spellings numbers h k =
    k ∙ ap (λ l. l ++ phasing_and_message further_phasing numbers) h
    ∙ append_assoc old (flat_map (phasing_and_message further_phasing) spellings)
    (phasing_and_message further_phasing numbers)
    ∙ ap (λ l. old ++ l) (sym
    (flat_map-append (phasing_and_message further_phasing) spellings (numbers ∷ [])
    ∙ ap (λ l. flat_map (phasing_and_message further_phasing) spellings ++ l)
    (append-nil (phasing_and_message further_phasing numbers))))

pub broadcast-of : (messages : List MessageView) (first : MessageView) (others : List MessageView)
    (i : ℕ) (numbers : List ℕ) (spellings : List (List ℕ)) (one two new : List SentPosition)
    → messages ≡ first ∷ others → IsSpelled first numbers
    → one ≡ [] ++ phasing_and_message first_phasing numbers → length others ≤ i
    → AreSpelled (take i others) spellings
    → two ≡ one ++ flat_map (phasing_and_message further_phasing) spellings
    → new ≡ two ++ replicate end_positions end_position → IsBroadcast messages new
unfolding layout
broadcast-of messages first others i numbers spellings one two new is h a past k b c =
    let all : AreSpelled others spellings =
    subst (λ l. AreSpelled l spellings) (take_all i others past) k in record {
      spellings = numbers ∷ spellings;
      each = subst (λ l. AreSpelled l (numbers ∷ spellings)) (sym is) (h, all);
      whole = c ∙ ap (λ l. l ++ replicate end_positions end_position)
          (b ∙ ap (λ l. l ++ flat_map (phasing_and_message further_phasing) spellings) a)
          ∙ append_assoc (phasing_and_message first_phasing numbers)
          (flat_map (phasing_and_message further_phasing) spellings)
          (replicate end_positions end_position);
    }

-- the lines of all messages
abbrev AreSound : List MessageView → Type 0
AreSound messages = AllByRecursion (λ (message : MessageView). AreLines message.lines) messages

sound-push : (messages : List MessageView) (message : MessageView) → AreSound messages
    → AreLines message.lines → AreSound (messages ++ (message ∷ []))
sound-push [] message h k = (k, tt)
sound-push (m ∷ ms) message h k = (h.0, sound-push ms message h.1 k)

pub more-sound : (messages : List MessageView) (i : ℕ) (message : MessageView) → i < length messages
    → message ≡ get_or messages i message → AreSound (take i messages) → AreLines message.lines
    → AreSound (take (i + 1) messages)
more-sound messages i message lt here h k =
    subst AreSound (sym (take_more messages i message lt
    ∙ ap (λ m. take i messages ++ (m ∷ [])) (sym here)))
    (sound-push (take i messages) message h k)

pub all-sound : (messages : List MessageView) (i : ℕ) → length messages ≤ i
    → AreSound (take i messages) → AreSound messages
all-sound messages i past h = subst AreSound (take_all i messages past) h
