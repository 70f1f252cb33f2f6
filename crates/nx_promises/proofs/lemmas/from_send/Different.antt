-- Of messages no two of which bear one identity all are printed, in order.
use Rattle.std.proofs.Common.{◌≡◌, ℕ, ◌-◌, true, false, not, ◌&&◌, ◌||◌, cond, ltb, List, []}
use Rattle.std.proofs.Common.{◌∷◌, ◌++◌, map, length, refl, ap, ◌∙◌}
use Rattle.std.specs.List.{AllByRecursion}
use Rattle.std.proofs.lemmas.List.Elements.{All-append, All-drop, All-nil, All-weaker}
use Rattle.std.proofs.lemmas.List.Folds.{list_any_none}
use Rattle.std.proofs.Math.Bool.{or-true}
use Rattle.nx_envelope.specs.Identity.{same_identity}
use Rattle.nx_envelope.specs.Message.{MessageView}
use Rattle.nx_envelope.specs.declared.identity.Identity.{Identity}
use Rattle.nx_memory.specs.Memory.{is_recent, most_entries, seconds_known}
use Rattle.nx_memory.specs.declared.memories.entry.MemoryEntry.{MemoryEntry}
use Rattle.nx_copies.specs.copies.Printing.{entry_made, if_printed, is_number_00, is_printed}
use Rattle.nx_copies.specs.copies.Printing.{is_remembered, printed_copies}
use Rattle.nx_promises.specs.laws.FromSend.{AreDifferent, copy_as_sent}
use Rattle.nx_copies.specs.copies.FoundCopies.{TaggedCopy}
use Rattle.nx_copies.proofs.lemmas.once.Repeats.{Lacks, made_lacks}

lacks_recent : (identity : Identity) (moment : ℕ) (entry : MemoryEntry)
    → same_identity entry.identity identity ≡ false
    → is_recent identity moment entry ≡ false
lacks_recent identity moment entry h = ap (λ b. b && ltb (moment - entry.moment) seconds_known) h

-- what bears another identity than all entries is not remembered
not_remembered : (entries : List MemoryEntry) (copy : TaggedCopy) → Lacks copy.identity entries
    → is_remembered entries copy ≡ false
not_remembered entries copy h =
    list_any_none (is_recent copy.identity copy.moment) _
    (All-drop (λ (entry : MemoryEntry). is_recent copy.identity copy.moment entry ≡ false)
    (length entries - most_entries) entries
    (All-weaker (λ (entry : MemoryEntry). same_identity entry.identity copy.identity ≡ false)
    (λ (entry : MemoryEntry). is_recent copy.identity copy.moment entry ≡ false)
    (λ entry e. lacks_recent copy.identity copy.moment entry e) entries h))

-- so it is printed
printed_is : (entries : List MemoryEntry) (slot : ℕ) (m : MessageView) → Lacks m.identity entries
    → if_printed entries (copy_as_sent slot m) ≡ copy_as_sent slot m ∷ []
unfolding if_printed is_printed
printed_is entries slot m h =
    let copy = copy_as_sent slot m in
    ap (λ b. cond (true && (is_number_00 copy || not b)) (copy ∷ []) [])
    (not_remembered entries copy h)
    ∙ ap (λ b. cond (true && b) (copy ∷ []) []) (or-true (is_number_00 copy))

-- no entry of these bears the identity of one of the messages
abbrev AreLacked : List MemoryEntry → List MessageView → Type 0
AreLacked entries messages = AllByRecursion (λ (m : MessageView). Lacks m.identity entries) messages

lacked_on : (entries : List MemoryEntry) (slot : ℕ) (m : MessageView) (messages : List MessageView)
    → AreLacked entries messages
    → AllByRecursion (λ (other : MessageView). same_identity m.identity other.identity ≡ false)
    messages
    → AreLacked (entries ++ entry_made entries (copy_as_sent slot m)) messages
lacked_on entries slot m [] h k = tt
lacked_on entries slot m (other ∷ messages) h k = (
  All-append (λ (entry : MemoryEntry). same_identity entry.identity other.identity ≡ false) entries
      (entry_made entries (copy_as_sent slot m)) h.0
      (made_lacks other.identity entries (copy_as_sent slot m) k.0),
  lacked_on entries slot m messages h.1 k.1,
)

all_from : (entries : List MemoryEntry) (slot : ℕ) (messages : List MessageView)
    → AreDifferent messages
    → AreLacked entries messages
    → printed_copies entries (map (copy_as_sent slot) messages)
    ≡ map (copy_as_sent slot) messages
unfolding printed_copies
all_from entries slot [] different h = refl
all_from entries slot (m ∷ messages) different h =
    let copies = map (copy_as_sent slot) messages in
    ap (λ l. l ++ printed_copies (entries ++ entry_made entries (copy_as_sent slot m)) copies)
    (printed_is entries slot m h.0)
    ∙ ap (λ l. copy_as_sent slot m ∷ l)
    (all_from (entries ++ entry_made entries (copy_as_sent slot m)) slot messages different.1
    (lacked_on entries slot m messages h.1 different.0))

none_lacked : (messages : List MessageView) → AreLacked [] messages
none_lacked [] = tt
none_lacked (m ∷ messages) = (
  All-nil (λ (entry : MemoryEntry). same_identity entry.identity m.identity ≡ false),
  none_lacked
      messages,
)

pub all_printed : (slot : ℕ) (messages : List MessageView) → AreDifferent messages
    → printed_copies [] (map (copy_as_sent slot) messages) ≡ map (copy_as_sent slot) messages
all_printed slot messages different = all_from [] slot messages different (none_lacked messages)
