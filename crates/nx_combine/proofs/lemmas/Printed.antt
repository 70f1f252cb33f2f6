-- Where a combined copy is whole, it is printed or was before, and nothing of its family after it.
use Rattle.std.proofs.Common.{◌≡◌, ℕ, ◌<◌, ◌≤◌, Bool, true, false, not, ◌&&◌, ◌||◌, if◌then◌else◌}
use Rattle.std.proofs.Common.{Some, cond, List, [], ◌∷◌, ◌++◌, refl, sym, ap, ap₂, ◌∙◌}
use Rattle.std.proofs.Common.{arith}
use Rattle.std.specs.List.{find}
use Rattle.std.specs.Option.{option_map_or}
use Rattle.std.proofs.lemmas.Bool.{eq-eqb, ltb-false, ne_eqb}
use Rattle.nx_envelope.specs.Copies.{errors_of}
use Rattle.nx_envelope.specs.declared.found.How.{How}
use Rattle.nx_envelope.specs.declared.found.How.TheVariants.{Cut, Full, Long}
use Rattle.nx_memory.specs.declared.memories.entry.MemoryEntry.{MemoryEntry}
use Rattle.nx_copies.specs.copies.FoundCopies.{TaggedCopy}
use Rattle.nx_copies.specs.copies.Printing.{has_fewer_errors, is_better, is_full, is_number_00, is_printed, is_remembered}
use Rattle.nx_combine.specs.CombinedPrinting.{are_of_one_family, if_printed_combined}
use Rattle.nx_combine.specs.CombinedPrinting.{is_better_than_before, is_printed_combined}
use Rattle.nx_combine.specs.Families.{CombinedCopy}
use Rattle.nx_combine.specs.Laws.{IsLastWhole, IsOfPrinted, IsWholeCopy}
use Rattle.nx_combine.proofs.lemmas.Sendings.{and_false, none_better}

-- it isn't numbered 00
pub not_00 : (copy : TaggedCopy) → 0 < copy.identity.number → is_number_00 copy ≡ false
not_00 copy numbered = ne_eqb copy.identity.number 0 (λ is. omega arith)

-- a full copy is the only one that says so
pub full_is : (how : How) → is_full how ≡ true → how ≡ Full
full_is Full is = refl
full_is Cut is = cc
full_is Long is = cc

-- nothing of the family is printed behind a whole one, while an entry of it is live
printed_again : (entries : List MemoryEntry) (copy : TaggedCopy) (zero_zero remembered : Bool)
    → zero_zero ≡ false → remembered ≡ true
    → (copy.selected && (zero_zero || not remembered)) ≡ false
printed_again entries copy zero_zero remembered none live =
    ap₂ (λ z r. copy.selected && (z || not r)) none live ∙ and_false copy.selected

pub nothing_behind : (entries : List MemoryEntry) (before : List CombinedCopy) (one : CombinedCopy)
    → IsLastWhole before one → 0 < one.copy.identity.number
    → is_remembered entries one.copy ≡ true → is_printed_combined entries before one ≡ false
unfolding is_printed_combined is_printed is_better_than_before
nothing_behind entries before one last numbered live =
    let first : is_printed entries one.copy ≡ false =
    printed_again entries one.copy (is_number_00 one.copy) (is_remembered entries one.copy)
    (not_00 one.copy numbered) live in
    let second : is_better_than_before before one ≡ false =
    ap (λ o. option_map_or (λ (l : CombinedCopy). is_better one.copy l.copy) o false) last.found
    ∙ none_better one.copy last.last.copy last.whole.full last.whole.no_error in
    ap₂ (λ p b. p || (is_remembered entries one.copy && b)) first second
    ∙ and_false (is_remembered entries one.copy)

-- where a whole copy isn't better than another, that is whole
whole_if : (full fewer : Bool) → full ≡ true
    → (b : Bool) → (if b then full && fewer else full || fewer) ≡ false
    → (b ≡ true) × (fewer ≡ false)
whole_if true fewer is true none = (refl, none)
whole_if true fewer is false none = absurd (let contra : true ≡ false = none in cc)
whole_if false fewer is b none = absurd (let contra : false ≡ true = is in cc)

not_better : (copy other : TaggedCopy) → copy.how ≡ Full → errors_of copy.text ≡ 0
    → is_better copy other ≡ false → (other.how ≡ Full) × (errors_of other.text ≡ 0)
not_better copy other full none is =
    let parts = whole_if (is_full copy.how) (has_fewer_errors copy other) (ap is_full full)
    (is_full other.how) is in
    let few : errors_of other.text ≤ errors_of copy.text =
    ltb-false (errors_of copy.text) (errors_of other.text) parts.1 in
    (full_is other.how parts.0, omega arith)

-- a whole copy is printed, or the last one of its family that was printed is whole
of_itself : (one : CombinedCopy) (number : ℕ) → one.family ≡ Some number
    → are_of_one_family one one ≡ true
of_itself one number is = rw is (eq-eqb number number refl)

or_parts : (a b : Bool) → (a || b) ≡ false → (a ≡ false) × (b ≡ false)
or_parts true b is = absurd (let contra : true ≡ false = is in cc)
or_parts false b is = (refl, is)

live_if : (selected zero_zero remembered : Bool) → selected ≡ true → zero_zero ≡ false
    → (selected && (zero_zero || not remembered)) ≡ false → remembered ≡ true
live_if true false true a b is = refl
live_if true false false a b is = absurd (let contra : true ≡ false = is in cc)
live_if true true remembered a b is = absurd (let contra : true ≡ false = b in cc)
live_if false zero_zero remembered a b is = absurd (let contra : false ≡ true = a in cc)

last_if : (entries : List MemoryEntry) (before : List CombinedCopy) (one : CombinedCopy) (b : Bool)
    → is_printed_combined entries before one ≡ b → IsWholeCopy one → IsOfPrinted entries before one
    → IsLastWhole ((if b then one ∷ [] else []) ++ before) one
unfolding is_printed_combined is_printed is_better_than_before
last_if entries before one true is whole of =
    record {
      last = one;
      found = ap (λ c. cond c (Some one) (find (are_of_one_family one) before))
          (of_itself one of.number of.family);
      whole = whole;
    }
last_if entries before one false is whole of =
    let parts = or_parts (is_printed entries one.copy)
    (is_remembered entries one.copy && is_better_than_before before one) is in
    let live : is_remembered entries one.copy ≡ true =
    live_if one.copy.selected (is_number_00 one.copy) (is_remembered entries one.copy) of.selected
    (not_00 one.copy of.numbered) parts.0 in
    let last = of.printed live in
    let worse : is_better one.copy last.0.copy ≡ false =
    sym (ap (λ o. option_map_or (λ (l : CombinedCopy). is_better one.copy l.copy) o false) last.1)
    ∙ sym (ap (λ r. r && is_better_than_before before one) live)
    ∙ parts.1 in
    let other = not_better one.copy last.0.copy whole.full whole.no_error worse in
    record {
      last = last.0;
      found = last.1;
      whole = record { full = other.0; no_error = other.1 };
    }

pub last_whole : (entries : List MemoryEntry) (before : List CombinedCopy) (one : CombinedCopy)
    → IsWholeCopy one → IsOfPrinted entries before one
    → IsLastWhole (if_printed_combined entries before one ++ before) one
unfolding if_printed_combined
last_whole entries before one whole of =
    last_if entries before one (is_printed_combined entries before one) refl whole of
