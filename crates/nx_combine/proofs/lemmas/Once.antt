-- A message is printed whole once, whatever else is heard.
use Rattle.std.proofs.Common.{◌≡◌, ℕ, zero, suc, ◌+◌, ◌-◌, ◌*◌, ◌<◌, ◌≤◌, max, Bool, true, false}
use Rattle.std.proofs.Common.{not, cond}
use Rattle.std.proofs.Common.{◌&&◌, ◌||◌, if◌then◌else◌, nat_lt, Option, Some, None, List, [], ◌∷◌}
use Rattle.std.proofs.Common.{◌++◌}
use Rattle.std.proofs.Common.{length, map, drop, refl, sym, ap, ap₂, ◌∙◌, subst, subst₂, arith}
use Rattle.std.proofs.Common.{append_assoc, append-nil}
use Rattle.std.proofs.lemmas.Bool.{and_parts, eq-eqb, eqb-true, le-leb, leb-true, lt-ltb}
use Rattle.std.proofs.lemmas.List.{drop-append-le, length-append}
use Rattle.std.proofs.lemmas.List.Folds.{list_any-append}
use Rattle.std.proofs.lemmas.Option.{slice_get_within}
use Rattle.std.specs.Prelude.{is_some, nat_le, ◌==◌, slice_get}
use Rattle.std.specs.List.{AllByRecursion, filter, find, list_any}
use Rattle.std.specs.Option.{option_map_or}
use Rattle.nx_code.specs.Lists.{last_of}
use Rattle.nx_code.specs.Reading.{Reception, combination}
use Rattle.nx_envelope.specs.Copies.{Ending, errors_of}
use Rattle.nx_envelope.specs.Identity.{same_identity}
use Rattle.nx_envelope.specs.declared.found.How.TheVariants.{Full}
use Rattle.nx_envelope.specs.declared.identity.Identity.{Identity}
use Rattle.nx_envelope.proofs.lemmas.headers.Identities.{same_identity-true}
use Rattle.nx_memory.specs.Memory.{is_recent, most_entries}
use Rattle.nx_memory.specs.declared.memories.entry.MemoryEntry.{MemoryEntry}
use Rattle.nx_copies.specs.copies.FoundCopies.{TaggedCopy}
use Rattle.nx_copies.specs.copies.Printing.{entry_of, is_better, is_full, is_good, is_number_00}
use Rattle.nx_copies.specs.copies.Printing.{is_printed, is_remembered}
use Rattle.nx_combine.specs.CombinedPrinting.{are_of_one_family, entry_made_combined}
use Rattle.nx_combine.specs.CombinedPrinting.{is_better_than_before, is_entered_combined}
use Rattle.nx_combine.specs.CombinedPrinting.{if_printed_combined, is_printed_combined}
use Rattle.nx_combine.specs.CombinedPrinting.{printed_combined}
use Rattle.nx_combine.specs.CopyPositions.{HeardCopy}
use Rattle.nx_combine.specs.Families.{CombinedCopy, Family, alone, combined_at}
use Rattle.nx_combine.specs.Families.{combined_copies_holding}
use Rattle.nx_combine.specs.Families.{combined_copy_holding, families_after_holding, given_by}
use Rattle.nx_combine.specs.Families.{has_family, index_joined_holding}
use Rattle.nx_combine.specs.Families.{joined_by, most_families}
use Rattle.nx_combine.specs.private.Families.{combined_copies, combined_copy}
use Rattle.nx_combine.specs.Judging.{Judged, all_printed_holding, is_of_number}
use Rattle.nx_combine.specs.Judging.{judged_after_holding, judged_behind_holding}
use Rattle.nx_combine.specs.Judging.{all_printed, printed_by_holding}
use Rattle.nx_combine.specs.Laws.{AreSendings, FewBegunHolding, FewMadeHolding}
use Rattle.nx_combine.specs.Laws.{IsSending, IsWholeCopy, IsWholeOnce, bears}
use Rattle.nx_combine.specs.Laws.{families_behind_holding, is_named}
use Rattle.nx_combine.specs.Laws.{AreHeardTogetherHolding, CameThrough, IsHeardOf, IsWhole}
use Rattle.nx_combine.specs.Laws.{positions_heard}
use Rattle.nx_combine.proofs.lemmas.Held.{Begins, begins_one, joined_at_index, joins_one, no_family}
use Rattle.nx_combine.proofs.lemmas.Judged.{better_alone, find_by_number, is_not, made_printed}
use Rattle.nx_combine.proofs.lemmas.Judged.{or_true, own_is, made_unprinted, printed, unprinted}
use Rattle.nx_combine.proofs.lemmas.Printed.{full_is, last_whole, nothing_behind}
use Rattle.nx_combine.proofs.lemmas.Combine.{how_given, text_given}
use Rattle.nx_combine.proofs.lemmas.Sendings.{family_of_first, first_begins, whole_copy}
use Rattle.nx_combine.proofs.lemmas.Together.{together_whole}
use Rattle.nx_combine.specs.PositionEnds.{ending_by, has_ended}
use Rattle.nx_combine.specs.Joining.{joined}
use Rattle.nx_combine.specs.Laws.{Arrives, IsNeverIdle, joined_all, text_sent}
use Rattle.nx_combine.specs.Families.{combined}
use Rattle.nx_combine.proofs.lemmas.Sent.{heard_all, idle_all, letters_if, none_idle}
use Rattle.nx_combine.proofs.lemmas.Together.{nothing_heard}
use Rattle.nx_combine.proofs.lemmas.Sendings.{all-push, sending_gives}
use Rattle.nx_combine.proofs.lemmas.Sendings.{Stands, and_false, joined_last, joins_it, other_if}
use Rattle.nx_combine.proofs.lemmas.Sendings.{sending_joins, stands_apart}

-- Copies that are judged one after the other.

unselected_by : (entries : List MemoryEntry) (before : List CombinedCopy) (one : CombinedCopy)
    → one.copy.selected ≡ false → one.family ≡ None
    → is_printed_combined entries before one ≡ false
unfolding is_printed_combined is_printed
unselected_by entries before one fails none =
    ap₂ (λ s b. (s && (is_number_00 one.copy || not (is_remembered entries one.copy)))
    || (is_remembered entries one.copy && b)) fails (better_alone before one none)
    ∙ and_false (is_remembered entries one.copy)

pub unselected : (limit : ℕ) (so_far : Judged) (heard : HeardCopy) → heard.copy.selected ≡ false
    → is_printed_combined so_far.entries so_far.printed
    (combined_copy_holding limit so_far.families heard)
    ≡ false
unselected limit so_far heard fails =
    let has : has_family heard ≡ false = rw fails refl in
    let one = (no_family limit so_far.families heard has).one in
    unselected_by so_far.entries so_far.printed (combined_copy_holding limit so_far.families heard)
    (ap (λ (o : CombinedCopy). o.copy.selected) one ∙ fails)
    (ap (λ (o : CombinedCopy). o.family) one)

in_order_if : (limit : ℕ) (so_far : Judged) (heard : HeardCopy) (later : List HeardCopy) (b : Bool)
    → heard.copy.selected ≡ b
    → all_printed_holding limit (judged_after_holding limit so_far heard) later
    ≡ printed_combined (judged_after_holding limit so_far heard).entries
    (judged_after_holding limit so_far heard).printed
    (combined_copies_holding limit (judged_after_holding limit so_far heard).families later)
    → all_printed_holding limit so_far (heard ∷ later)
    ≡ printed_combined so_far.entries so_far.printed
    ((if b then combined_copy_holding limit so_far.families heard ∷ [] else [])
    ++ combined_copies_holding limit (families_after_holding limit so_far.families heard) later)
unfolding printed_combined
in_order_if limit so_far heard later true is rest =
    ap (λ l. printed_by_holding limit so_far heard ++ l) rest
in_order_if limit so_far heard later false is rest =
    let fails = unselected limit so_far heard is in
    let one = combined_copy_holding limit so_far.families heard in
    let none = unprinted so_far.entries so_far.printed one fails in
    ap (λ l. l ++ all_printed_holding limit (judged_after_holding limit so_far heard) later) none
    ∙ rest
    ∙ ap₂ (λ e p. printed_combined e p (combined_copies_holding limit
    (families_after_holding limit so_far.families heard)
    later))
    (ap (λ m. so_far.entries ++ m) (made_unprinted so_far.entries so_far.printed one fails)
    ∙ append-nil so_far.entries)
    (ap (λ l. l ++ so_far.printed) none)

pub in_order_holding : (limit : ℕ) (so_far : Judged) (copies : List HeardCopy)
    → all_printed_holding limit so_far copies
    ≡ printed_combined so_far.entries so_far.printed
    (combined_copies_holding limit so_far.families copies)
unfolding printed_combined combined_copies_holding
in_order_holding limit so_far [] = refl
in_order_holding limit so_far (heard ∷ later) =
    in_order_if limit so_far heard later heard.copy.selected refl
    (in_order_holding limit (judged_after_holding limit so_far heard) later)

pub in_order : (so_far : Judged) (copies : List HeardCopy) → all_printed so_far copies
    ≡ printed_combined so_far.entries so_far.printed (combined_copies so_far.families copies)
in_order = in_order_holding most_families

pub all_printed-append : (limit : ℕ) (so_far : Judged) (xs ys : List HeardCopy)
    → all_printed_holding limit so_far (xs ++ ys)
    ≡ all_printed_holding limit so_far xs ++ all_printed_holding limit
    (judged_behind_holding limit so_far xs) ys
all_printed-append limit so_far [] ys = refl
all_printed-append limit so_far (x ∷ xs) ys =
    ap (λ l. printed_by_holding limit so_far x ++ l)
    (all_printed-append limit (judged_after_holding limit so_far x) xs ys)
    ∙ sym (append_assoc (printed_by_holding limit so_far x)
    (all_printed_holding limit (judged_after_holding limit so_far x) xs)
    (all_printed_holding limit (judged_behind_holding limit
    (judged_after_holding limit so_far x) xs) ys))

-- A combined copy bears what its copy bears.

pub record IsTagged (one : TaggedCopy) (copy : TaggedCopy) : Type 0 where
  pub identity : one.identity ≡ copy.identity
  pub moment : one.moment ≡ copy.moment
  pub selected : one.selected ≡ copy.selected

tagged_same : (copy : TaggedCopy) → IsTagged copy copy
tagged_same copy = record { identity = refl; moment = refl; selected = refl }

tagged_given : (positions : List Reception) (copy : TaggedCopy) (b : Bool)
    → IsTagged (if b then copy else given_by positions copy) copy
unfolding given_by
tagged_given positions copy true = record { identity = refl; moment = refl; selected = refl }
tagged_given positions copy false = record { identity = refl; moment = refl; selected = refl }

tagged_at : (families : List Family) (heard : HeardCopy) (index : ℕ) (there : Option Family)
    → slice_get families index ≡ there → IsTagged (combined_at families heard index).copy heard.copy
tagged_at families heard index None is = rw is (tagged_same heard.copy)
tagged_at families heard index (Some family) is =
    let all = joined_by heard family in
    rw is (tagged_given all.positions heard.copy
    (is_better heard.copy (given_by all.positions heard.copy)))

tagged_if : (families : List Family) (heard : HeardCopy) (b : Bool) (o : Option ℕ)
    → IsTagged (if b then
    option_map_or (combined_at families heard) o
    (alone (Some (length families)) heard)
    else alone None heard).copy heard.copy
tagged_if families heard false o = tagged_same heard.copy
tagged_if families heard true None = tagged_same heard.copy
tagged_if families heard true (Some index) =
    tagged_at families heard index (slice_get families index) refl

pub tagged_as_holding : (limit : ℕ) (families : List Family) (heard : HeardCopy)
    → IsTagged (combined_copy_holding limit families heard).copy heard.copy
unfolding combined_copy_holding
tagged_as_holding limit families heard =
    tagged_if families heard (has_family heard) (index_joined_holding limit families heard)

pub tagged_as : (families : List Family) (heard : HeardCopy)
    → IsTagged (combined_copy families heard).copy heard.copy
tagged_as = tagged_as_holding most_families

pub named_as : (limit : ℕ) (identity : Identity) (families : List Family) (heard : HeardCopy)
    → is_named identity (combined_copy_holding limit families heard) ≡ bears identity heard
named_as limit identity families heard =
    ap (λ i. same_identity i identity) (tagged_as_holding limit families heard).identity

-- What holds behind the first sending: the sendings so far make the family of this number, one of
-- its copies was printed last, and where that is good an entry of it was made behind the first
-- ones.

abbrev pub is_own : Identity → ℕ → MemoryEntry → Bool
is_own identity moment entry =
    same_identity entry.identity identity && nat_le moment entry.moment

pub record Goes (sent : List ℕ) (behind : ℕ → ℕ) (identity : Identity) (moment number : ℕ)
    (first : List MemoryEntry) (so_far : Judged) (done : List (List Reception))
    (last : CombinedCopy) : Type 0 where
  pub stands : Stands sent behind identity moment (number + 1) so_far.families done
  pub found : find (is_of_number number) so_far.printed ≡ Some last
  pub made : List MemoryEntry
  pub entries : so_far.entries ≡ first ++ made
  pub entered : is_good last.copy ≡ true → list_any (is_own identity moment) made ≡ true
  pub never_idle : AllByRecursion (IsNeverIdle sent) done

any_left : (p : MemoryEntry → Bool) (xs ys : List MemoryEntry) → list_any p xs ≡ true
    → list_any p (xs ++ ys) ≡ true
any_left p xs ys is = list_any-append p xs ys ∙ ap (λ b. b || list_any p ys) is

any_right : (p : MemoryEntry → Bool) (xs ys : List MemoryEntry) → list_any p ys ≡ true
    → list_any p (xs ++ ys) ≡ true
any_right p xs ys is =
    list_any-append p xs ys ∙ ap (λ b. list_any p xs || b) is ∙ or_true (list_any p xs)

-- a copy of another identity has another number
none_number : (one : CombinedCopy) (number : ℕ) → one.family ≡ None
    → is_of_number number one ≡ false
none_number one number is = rw is refl

module _ (limit : ℕ) (sent : List ℕ) (behind : ℕ → ℕ) (identity : Identity) (moment number : ℕ)
    (first : List MemoryEntry) where
  other_by : (families : List Family) (done : List (List Reception)) (heard : HeardCopy)
      (o : Option ℕ) → Stands sent behind identity moment (number + 1) families done
      → bears identity heard ≡ false → has_family heard ≡ true
      → index_joined_holding limit families heard ≡ o
      → is_of_number number (combined_copy_holding limit families heard) ≡ false
  other_by families done heard None stands other has none =
      let begins = begins_one limit families heard has none in
      let counted = stands.count in
      is_not (combined_copy_holding limit families heard) (length families) number
      (ap (λ (o : CombinedCopy). o.family) begins.one) (λ same. omega arith)
  other_by families done heard (Some at) stands other has joins =
      let j = joined_at_index limit families heard at joins in
      let one = joins_one limit families heard at j.family has joins j.there in
      let counted = stands.count in
      let within = slice_get_within families at j.family j.there in
      let apart = stands_apart limit sent behind identity moment (number + 1) families done heard at
      j.family stands other (joined_last limit families heard at joins) j.there in
      is_not (combined_copy_holding limit families heard) (length families - 1 - at) number
      (ap (λ (o : CombinedCopy). o.family) one.one)
      (λ same. apart (omega arith))

  other_if_family : (families : List Family) (done : List (List Reception)) (heard : HeardCopy)
      (b : Bool) → Stands sent behind identity moment (number + 1) families done
      → bears identity heard ≡ false → has_family heard ≡ b
      → is_of_number number (combined_copy_holding limit families heard) ≡ false
  other_if_family families done heard true stands other has =
      other_by families done heard (index_joined_holding limit families heard) stands other has refl
  other_if_family families done heard false stands other has =
      none_number (combined_copy_holding limit families heard) number
      (ap (λ (o : CombinedCopy). o.family) (no_family limit families heard has).one)

  find_other : (one : CombinedCopy) (before : List CombinedCopy) (b : Bool)
      → is_of_number number one ≡ false
      → find (is_of_number number) ((if b then one ∷ [] else []) ++ before)
      ≡ find (is_of_number number) before
  find_other one before true other =
      ap (λ c. cond c (Some one) (find (is_of_number number) before)) other
  find_other one before false other = refl

  pub goes_other : (so_far : Judged) (done : List (List Reception)) (last : CombinedCopy)
      (heard : HeardCopy) → Goes sent behind identity moment number first so_far done last
      → bears identity heard ≡ false
      → Goes sent behind identity moment number first
      (judged_after_holding limit so_far heard) done last
  unfolding if_printed_combined
  goes_other so_far done last heard goes other =
      let one = combined_copy_holding limit so_far.families heard in
      let more = entry_made_combined so_far.entries so_far.printed one in
      record {
        stands = other_if limit sent behind identity moment (number + 1) so_far.families done heard
            (has_family heard) goes.stands other refl;
        found = find_other one so_far.printed
            (is_printed_combined so_far.entries so_far.printed one)
            (other_if_family so_far.families done heard (has_family heard) goes.stands other refl)
            ∙ goes.found;
        made = goes.made ++ more;
        entries = ap (λ l. l ++ more) goes.entries ∙ append_assoc first goes.made more;
        entered = λ good. any_left (is_own identity moment) goes.made more (goes.entered good);
        never_idle = goes.never_idle;
      }

  -- a sending has the number
  number_is : (families : List Family) (done : List (List Reception)) (heard : HeardCopy)
      → Stands sent behind identity moment (number + 1) families done
      → bears identity heard ≡ true
      → IsSending sent behind moment heard
      → length families < number + 1 + limit
      → (combined_copy_holding limit families heard).family ≡ Some number
  number_is families done heard stands is sending few =
      let joins = joins_it limit sent behind identity moment
      (number + 1) families done heard stands is
      sending few in
      let one = joins_one limit families heard stands.index stands.family sending.family joins
      stands.there in
      let counted = stands.count in
      let this : length families - 1 - stands.index ≡ number = omega arith in
      ap (λ (o : CombinedCopy). o.family) one.one ∙ ap Some this

  pub goes_unprinted : (so_far : Judged) (done : List (List Reception)) (last : CombinedCopy)
      (heard : HeardCopy) → Goes sent behind identity moment number first so_far done last
      → bears identity heard ≡ true
      → IsSending sent behind moment heard
      → length so_far.families < number + 1 + limit → IsNeverIdle sent heard.positions
      → is_printed_combined so_far.entries so_far.printed
      (combined_copy_holding limit so_far.families heard)
      ≡ false
      → Goes sent behind identity moment number first (judged_after_holding limit so_far heard)
      (done ++ heard.positions ∷ []) last
  goes_unprinted so_far done last heard goes is sending few never fails =
      let one = combined_copy_holding limit so_far.families heard in
      let none = unprinted so_far.entries so_far.printed one fails in
      let unmade = made_unprinted so_far.entries so_far.printed one fails in
      record {
        stands = sending_joins limit sent behind identity moment
            (number + 1) so_far.families done heard
            goes.stands is sending few;
        found = ap (λ l. find (is_of_number number) (l ++ so_far.printed)) none ∙ goes.found;
        made = goes.made;
        entries = ap (λ l. so_far.entries ++ l) unmade ∙ append-nil so_far.entries ∙ goes.entries;
        entered = goes.entered;
        never_idle = all-push (IsNeverIdle sent) done heard.positions goes.never_idle never;
      }

  pub own_entry : (families : List Family) (heard : HeardCopy) → bears identity heard ≡ true
      → moment ≤ heard.copy.moment
      → list_any (is_own identity moment) (entry_of
      (combined_copy_holding limit families heard).copy ∷ []) ≡ true
  own_entry families heard is in_turn =
      let tagged = tagged_as_holding limit families heard in
      let named : same_identity (combined_copy_holding limit families heard).copy.identity identity
      ≡ true =
      ap (λ i. same_identity i identity) tagged.identity ∙ is in
      let late : nat_le moment (combined_copy_holding limit families heard).copy.moment ≡ true =
      ap (nat_le moment) tagged.moment ∙ le-leb moment heard.copy.moment in_turn in
      ap₂ (λ a b. (a && b) || false) named late

  pub goes_printed : (so_far : Judged) (done : List (List Reception)) (last : CombinedCopy)
      (heard : HeardCopy) → Goes sent behind identity moment number first so_far done last
      → bears identity heard ≡ true
      → IsSending sent behind moment heard
      → length so_far.families < number + 1 + limit → moment ≤ heard.copy.moment
      → IsNeverIdle sent heard.positions
      → is_printed_combined so_far.entries so_far.printed
      (combined_copy_holding limit so_far.families heard)
      ≡ true
      → Goes sent behind identity moment number first (judged_after_holding limit so_far heard)
      (done ++ heard.positions ∷ []) (combined_copy_holding limit so_far.families heard)
  goes_printed so_far done last heard goes is sending few in_turn never passes =
      let one = combined_copy_holding limit so_far.families heard in
      let shown = printed so_far.entries so_far.printed one passes in
      let of = number_is so_far.families done heard goes.stands is sending few in
      let more = entry_made_combined so_far.entries so_far.printed one in
      let own : is_of_number number one ≡ true = rw of (eq-eqb number number refl) in
      record {
        stands = sending_joins limit sent behind identity moment
            (number + 1) so_far.families done heard
            goes.stands is sending few;
        found = ap (λ l. find (is_of_number number) (l ++ so_far.printed)) shown
            ∙ ap (λ c. cond c (Some one) (find (is_of_number number) so_far.printed)) own;
        made = goes.made ++ more;
        entries = ap (λ l. l ++ more) goes.entries ∙ append_assoc first goes.made more;
        entered = λ good.
            let made : more ≡ entry_of one.copy ∷ [] =
            made_printed so_far.entries so_far.printed one true passes
            (sym (ap₂ (λ a b. a && b) good (ap is_some of))) in
            any_right (is_own identity moment) goes.made more
            (ap (list_any (is_own identity moment)) made
            ∙ own_entry so_far.families heard is in_turn);
        never_idle = all-push (IsNeverIdle sent) done heard.positions goes.never_idle never;
      }

-- An entry of the family is live.

any_at : (p q : MemoryEntry → Bool) (x : MemoryEntry) (xs : List MemoryEntry) (b : Bool)
    → (p x ≡ true → q x ≡ true) → (list_any p xs ≡ true → list_any q xs ≡ true) → p x ≡ b
    → (p x || list_any p xs) ≡ true → (q x || list_any q xs) ≡ true
any_at p q x xs true follows rest here is = ap (λ c. c || list_any q xs) (follows here)
any_at p q x xs false follows rest here is =
    ap (λ c. q x || c) (rest (sym (ap (λ c. c || list_any p xs) here) ∙ is)) ∙ or_true (q x)

any_as : (p q : MemoryEntry → Bool) (xs : List MemoryEntry)
    → ((x : MemoryEntry) → p x ≡ true → q x ≡ true) → list_any p xs ≡ true → list_any q xs ≡ true
any_as p q [] follows is = absurd (let contra : false ≡ true = is in cc)
any_as p q (x ∷ xs) follows is =
    any_at p q x xs (p x) (follows x) (any_as p q xs follows) refl is

recent_own : (identity : Identity) (moment now : ℕ) (entry : MemoryEntry) → now - moment < 237600
    → is_own identity moment entry ≡ true → is_recent identity now entry ≡ true
recent_own identity moment now entry near is =
    let parts = and_parts (same_identity entry.identity identity) (nat_le moment entry.moment) is in
    let late : moment ≤ entry.moment = leb-true moment entry.moment parts.1 in
    ap₂ (λ a b. a && b) parts.0 (lt-ltb (now - entry.moment) 237600 (omega arith))

live_by : (identity : Identity) (moment : ℕ) (first made entries : List MemoryEntry)
    (copy : TaggedCopy)
    → entries ≡ first ++ made → length made ≤ 200
    → list_any (is_own identity moment) made ≡ true → copy.identity ≡ identity
    → copy.moment - moment < 237600 → is_remembered entries copy ≡ true
live_by identity moment first made entries copy is few own named near =
    let long = length-append first made in
    let n : ℕ = length (first ++ made) - 200 in
    let kept : last_of most_entries entries ≡ drop n first ++ made =
    ap (last_of most_entries) is ∙ drop-append-le n first made (omega arith) in
    ap₂ (λ (i : Identity) l. list_any (is_recent i copy.moment) l) named kept
    ∙ any_right (is_recent identity copy.moment) (drop n first) made
    (any_as (is_own identity moment) (is_recent identity copy.moment) made
    (λ entry. recent_own identity moment copy.moment entry near) own)

-- a whole copy is good
whole_good : (one : CombinedCopy) → IsWholeCopy one → is_good one.copy ≡ true
whole_good one whole =
    ap₂ (λ h n. is_full h && nat_lt (25 * n) (max 1 (length one.copy.text))) whole.full
    whole.no_error
    ∙ lt-ltb 0 (max 1 (length one.copy.text)) (omega arith)

has_zero : (a b : Bool) → (a && false && b) ≡ false
has_zero true b = refl
has_zero false b = refl

has_selected : (a b c : Bool) → (a && b && c) ≡ true → a ≡ true
has_selected true b c is = refl
has_selected false b c is = absurd (let contra : false ≡ true = is in cc)

numbered_by : (heard : HeardCopy) (n : ℕ) → heard.copy.identity.number ≡ n
    → has_family heard ≡ true → 0 < n
numbered_by heard zero is has =
    let none : has_family heard ≡ false =
    ap (λ m. heard.copy.selected && not (m == 0) && nat_le (length heard.positions) 8192) is
    ∙ has_zero heard.copy.selected (nat_le (length heard.positions) 8192) in
    absurd (let contra : false ≡ true = sym none ∙ has in cc)
numbered_by heard (suc n) is has = omega arith

-- Whether a copy is whole.

is_whole : TaggedCopy → Bool
is_whole copy = is_full copy.how && (errors_of copy.text == 0)

whole_if : (one : CombinedCopy) → is_whole one.copy ≡ true → IsWholeCopy one
unfolding is_whole
whole_if one is =
    let parts = and_parts (is_full one.copy.how) (errors_of one.copy.text == 0) is in
    record {
      full = full_is one.copy.how parts.0;
      no_error = eqb-true (errors_of one.copy.text) 0 parts.1;
    }

not_whole_if : (one : CombinedCopy) → is_whole one.copy ≡ false → ¬ IsWholeCopy one
unfolding is_whole
not_whole_if one is whole =
    let yes_it : is_whole one.copy ≡ true =
    ap₂ (λ h n. is_full h && (n == 0)) whole.full whole.no_error in
    let contra : true ≡ false = sym yes_it ∙ is in cc

-- what was printed before, none of which is such a copy
pub once_behind : (identity : Identity) (text : List ℕ) (front printed_now later : List
    CombinedCopy)
    → AllByRecursion (λ other. is_named identity other ≡ true → ¬ IsWholeCopy other) front
    → IsWholeOnce identity text printed_now later → IsWholeOnce identity text (front
    ++ printed_now) later
once_behind identity text front printed_now later none once = record {
  before = front ++ once.before;
  one = once.one;
  after = once.after;
  among = ap (λ l. front ++ l) once.among
      ∙ sym (append_assoc front once.before (once.one ∷ once.after));
  named = once.named;
  whole = once.whole;
  letters = once.letters;
  not_before = both front none;
  nothing_behind = once.nothing_behind;
} where
  both : (xs : List CombinedCopy)
      → AllByRecursion (λ other. is_named identity other ≡ true → ¬ IsWholeCopy other) xs
      → AllByRecursion (λ other. is_named identity other ≡ true → ¬ IsWholeCopy other)
      (xs ++ once.before)
  both [] all = once.not_before
  both (x ∷ xs) all = (all.0, both xs all.1)

pub all_if : (P : CombinedCopy → Type 0) (one : CombinedCopy) (rest : List CombinedCopy) (b : Bool)
    → P one → AllByRecursion P rest → AllByRecursion P ((if b then one ∷ [] else []) ++ rest)
all_if P one rest true here behind = (here, behind)
all_if P one rest false here behind = behind

module _ (limit : ℕ) (sent : List ℕ) (behind : ℕ → ℕ) (identity : Identity)
    (moment number count : ℕ)
    (first : List MemoryEntry) (own_few : count ≤ length first + 1) where
  abbrev Going : Judged → List (List Reception) → CombinedCopy → Type 0
  Going = Goes sent behind identity moment number first

  -- what the copies that come have to meet
  pub record Meets (so_far : Judged) (copies : List HeardCopy) : Type 0 where
    pub sendings : AreSendings sent behind moment identity copies
    pub in_turn : AllByRecursion (λ heard. bears identity heard ≡ true → moment ≤ heard.copy.moment)
        copies
    pub arrive : AllByRecursion (λ heard. bears identity heard ≡ true → Arrives sent heard) copies
    pub few_begun : FewBegunHolding limit identity (number + 1) so_far.families copies
    pub few_made : FewMadeHolding limit identity count so_far copies

  meets_more : (so_far : Judged) (heard : HeardCopy) (copies : List HeardCopy)
      → Meets so_far (heard ∷ copies) → Meets (judged_after_holding limit so_far heard) copies
  meets_more so_far heard copies meets = record {
    sendings = meets.sendings.1;
    in_turn = meets.in_turn.1;
    arrive = meets.arrive.1;
    few_begun = meets.few_begun.1;
    few_made = meets.few_made.1;
  }

  -- nothing is printed of a sending behind a whole one
  printed_no_more : (so_far : Judged) (done : List (List Reception)) (last : CombinedCopy)
      (heard : HeardCopy) (copies : List HeardCopy) → Going so_far done last → IsWholeCopy last
      → Meets so_far (heard ∷ copies) → bears identity heard ≡ true
      → is_printed_combined so_far.entries so_far.printed
      (combined_copy_holding limit so_far.families heard)
      ≡ false
  printed_no_more so_far done last heard copies goes whole meets is =
      let one = combined_copy_holding limit so_far.families heard in
      let sending = meets.sendings.0 is in
      let of = number_is limit sent behind identity moment number first so_far.families done heard
      goes.stands is sending (meets.few_begun.0 is) in
      let tagged = tagged_as_holding limit so_far.families heard in
      let named : one.copy.identity ≡ identity =
      tagged.identity ∙ same_identity-true heard.copy.identity identity is in
      let long = length-append first goes.made in
      let all = ap length goes.entries in
      let few = meets.few_made.0 is in
      let near : one.copy.moment - moment < 237600 =
      subst (λ m. m - moment < 237600) (sym tagged.moment) sending.near in
      nothing_behind so_far.entries so_far.printed one
      (record {
        last = last;
        found = find_by_number so_far.printed one number of ∙ goes.found;
        whole = whole;
      })
      (subst (λ (i : Identity). 0 < i.number) (sym tagged.identity)
      (numbered_by heard heard.copy.identity.number refl sending.family))
      (live_by identity moment first goes.made so_far.entries one.copy goes.entries (omega arith)
      (goes.entered (whole_good last whole)) named near)

  silent_if : (so_far : Judged) (done : List (List Reception)) (last : CombinedCopy)
      (heard : HeardCopy) (copies : List HeardCopy) (b : Bool) → Going so_far done last
      → IsWholeCopy last → Meets so_far (heard ∷ copies) → bears identity heard ≡ b
      → ((next : List (List Reception)) → Going (judged_after_holding limit so_far heard) next last
      → AllByRecursion (λ other. is_named identity other ≡ false)
      (all_printed_holding limit (judged_after_holding limit so_far heard) copies))
      → AllByRecursion (λ other. is_named identity other ≡ false)
      (all_printed_holding limit so_far (heard ∷ copies))
  unfolding if_printed_combined
  silent_if so_far done last heard copies true goes whole meets is rest =
      let fails = printed_no_more so_far done last heard copies goes whole meets is in
      let one = combined_copy_holding limit so_far.families heard in
      subst (λ (l : List CombinedCopy). AllByRecursion (λ other. is_named identity other ≡ false)
      (l ++ all_printed_holding limit (judged_after_holding limit so_far heard) copies))
      (sym (unprinted so_far.entries so_far.printed one fails))
      (rest (done ++ heard.positions ∷ [])
      (goes_unprinted limit sent behind identity moment number first so_far done last heard goes is
      (meets.sendings.0 is) (meets.few_begun.0 is) (meets.arrive.0 is).never_idle fails))
  silent_if so_far done last heard copies false goes whole meets is rest =
      let one = combined_copy_holding limit so_far.families heard in
      all_if (λ other. is_named identity other ≡ false) one
      (all_printed_holding limit (judged_after_holding limit so_far heard) copies)
      (is_printed_combined so_far.entries so_far.printed one)
      (named_as limit identity so_far.families heard ∙ is)
      (rest done
      (goes_other limit sent behind identity moment number first so_far done last heard goes is))

  pub silent : (so_far : Judged) (done : List (List Reception)) (last : CombinedCopy)
      (copies : List HeardCopy)
      → Going so_far done last → IsWholeCopy last → Meets so_far copies
      → AllByRecursion (λ other. is_named identity other ≡ false)
      (all_printed_holding limit so_far copies)
  silent so_far done last [] goes whole meets = tt
  silent so_far done last (heard ∷ copies) goes whole meets =
      silent_if so_far done last heard copies (bears identity heard) goes whole meets refl
      (λ next goes_on. silent (judged_after_holding limit so_far heard) next last copies goes_on
      whole
      (meets_more so_far heard copies meets))

  -- What is printed of a copy with which the message is whole.

  letters_of : (so_far : Judged) (done : List (List Reception)) (last : CombinedCopy)
      (heard : HeardCopy) (copies : List HeardCopy) → has_ended (map combination sent) ≡ true
      → Going so_far done last → Meets so_far (heard ∷ copies) → bears identity heard ≡ true
      → IsWholeCopy (combined_copy_holding limit so_far.families heard)
      → (combined_copy_holding limit so_far.families heard).copy.text ≡ text_sent sent
  letters_of so_far done last heard copies ended goes meets is whole =
      let one = combined_copy_holding limit so_far.families heard in
      let sending = meets.sendings.0 is in
      let arrives = meets.arrive.0 is in
      let all : List (List Reception) = done ++ heard.positions ∷ [] in
      let given = sending_gives limit sent behind identity moment
      (number + 1) so_far.families done heard
      goes.stands is sending (meets.few_begun.0 is) in
      let own = ap (λ (h : HeardCopy). h.copy) (own_is limit so_far.families heard) in
      letters_if sent (joined_all all) heard one
      (is_better heard.copy (given_by (joined_all all) heard.copy))
      (given.copy ∙ ap (combined (joined_all all)) own) whole
      (heard_all sent [] all (nothing_heard sent)
      (all-push (IsHeardOf sent) done heard.positions goes.stands.as_sent sending.as_sent))
      (idle_all sent [] all (none_idle sent)
      (all-push (IsNeverIdle sent) done heard.positions goes.never_idle arrives.never_idle))
      sending.as_sent arrives ended

  at_one : has_ended (map combination sent) ≡ true
      → (so_far : Judged) (done : List (List Reception)) (last : CombinedCopy)
      (heard : HeardCopy) (later : List HeardCopy) (b : Bool) → Going so_far done last
      → ¬ IsWholeCopy last → Meets so_far (heard ∷ later) → bears identity heard ≡ true
      → IsWholeCopy (combined_copy_holding limit so_far.families heard)
      → is_printed_combined so_far.entries so_far.printed
      (combined_copy_holding limit so_far.families heard) ≡ b
      → IsWholeOnce identity (text_sent sent) (all_printed_holding limit so_far (heard ∷ []))
      (all_printed_holding limit (judged_after_holding limit so_far heard) later)
  at_one ended so_far done last heard later true goes not_yet meets is whole passes =
      let one = combined_copy_holding limit so_far.families heard in
      record {
        before = [];
        one = one;
        after = [];
        among = ap (λ l. l ++ []) (printed so_far.entries so_far.printed one passes);
        named = named_as limit identity so_far.families heard ∙ is;
        whole = whole;
        letters = letters_of so_far done last heard later ended goes meets is whole;
        not_before = tt;
        nothing_behind = silent (judged_after_holding limit so_far heard)
            (done ++ heard.positions ∷ []) one later
            (goes_printed limit sent behind identity moment number first so_far done last heard goes
            is
            (meets.sendings.0 is) (meets.few_begun.0 is) (meets.in_turn.0 is) (meets.arrive.0
            is).never_idle passes)
            whole (meets_more so_far heard later meets);
      }
  at_one ended so_far done last heard later false goes not_yet meets is whole fails =
      let one = combined_copy_holding limit so_far.families heard in
      let sending = meets.sendings.0 is in
      let of = number_is limit sent behind identity moment number first so_far.families done heard
      goes.stands is sending (meets.few_begun.0 is) in
      let there = find_by_number so_far.printed one number of ∙ goes.found in
      let tagged = tagged_as_holding limit so_far.families heard in
      let said = last_whole so_far.entries so_far.printed one whole (record {
        selected = tagged.selected
            ∙ has_selected heard.copy.selected (not (is_number_00 heard.copy))
            (nat_le (length heard.positions) 8192) sending.family;
        number = number;
        family = of;
        numbered = subst (λ (i : Identity). 0 < i.number) (sym tagged.identity)
            (numbered_by heard heard.copy.identity.number refl sending.family);
        printed = λ live. (last, there);
      }) in
      let found : find (are_of_one_family one) so_far.printed ≡ Some said.last =
      sym (ap (λ l. find (are_of_one_family one) (l ++ so_far.printed))
      (unprinted so_far.entries so_far.printed one fails))
      ∙ said.found in
      let same : Some said.last ≡ Some last = sym found ∙ there in
      let equal : said.last ≡ last = cc in
      absurd (not_yet (subst IsWholeCopy equal said.whole))

  -- a whole copy that is printed leaves nothing to print; else it goes on
  after_printed : (so_far : Judged) (next : List (List Reception)) (one : CombinedCopy)
      (heard : HeardCopy) (mid : List HeardCopy) (this : HeardCopy) (later : List HeardCopy)
      (b : Bool)
      → printed_by_holding limit so_far heard ≡ one ∷ [] → is_named identity one ≡ true
      → (IsWholeCopy one → one.copy.text ≡ text_sent sent)
      → Going (judged_after_holding limit so_far heard) next one
      → Meets (judged_after_holding limit so_far heard) (mid ++ this ∷ later) → is_whole one.copy
      ≡ b
      → (¬ IsWholeCopy one → IsWholeOnce identity (text_sent sent)
      (all_printed_holding limit (judged_after_holding limit so_far heard) (mid ++ this ∷ []))
      (all_printed_holding limit (judged_behind_holding limit
      (judged_after_holding limit so_far heard) (mid ++ this ∷ [])) later))
      → IsWholeOnce identity (text_sent sent)
      (all_printed_holding limit so_far (heard ∷ (mid ++ this ∷ [])))
      (all_printed_holding limit (judged_behind_holding limit
      (judged_after_holding limit so_far heard) (mid ++ this ∷ [])) later)
  after_printed so_far next one heard mid this later true shown named lettered goes meets is rest =
      let after = judged_after_holding limit so_far heard in
      let up_to : List HeardCopy = mid ++ this ∷ [] in
      let whole = whole_if one is in
      let split : mid ++ this ∷ later ≡ up_to ++ later = sym (append_assoc mid (this ∷ []) later) in
      let all : all_printed_holding limit after (mid ++ this ∷ later)
      ≡ all_printed_holding limit after up_to
      ++ all_printed_holding limit (judged_behind_holding limit after up_to) later =
      ap (all_printed_holding limit after) split ∙ all_printed-append limit after up_to later in
      record {
        before = [];
        one = one;
        after = all_printed_holding limit after up_to;
        among = ap (λ l. l ++ all_printed_holding limit after up_to) shown;
        named = named;
        whole = whole;
        letters = lettered whole;
        not_before = tt;
        nothing_behind =
            subst (AllByRecursion (λ other. is_named identity other ≡ false)) all
            (silent after next one (mid ++ this ∷ later) goes whole meets);
      }
  after_printed so_far next one heard mid this later false shown named lettered goes meets is rest =
      let after = judged_after_holding limit so_far heard in
      let up_to : List HeardCopy = mid ++ this ∷ [] in
      let not_it = not_whole_if one is in
      once_behind identity (text_sent sent) (printed_by_holding limit so_far heard)
      (all_printed_holding limit after up_to)
      (all_printed_holding limit (judged_behind_holding limit after up_to) later)
      (subst (AllByRecursion (λ other. is_named identity other ≡ true → ¬ IsWholeCopy other))
      (sym shown) ((λ _. not_it), tt))
      (rest not_it)

  none_named : (so_far : Judged) (heard : HeardCopy) (b : Bool) → bears identity heard ≡ false
      → AllByRecursion (λ other. is_named identity other ≡ true → ¬ IsWholeCopy other)
      (if b then combined_copy_holding limit so_far.families heard ∷ [] else [])
  none_named so_far heard true other = (
    λ named whole.
        let not_it : is_named identity (combined_copy_holding limit so_far.families heard) ≡ false =
        named_as limit identity so_far.families heard ∙ other in
        let contra : true ≡ false = sym named ∙ not_it in cc,
    tt,
  )
  none_named so_far heard false other = tt

  abbrev Behind : Judged → List HeardCopy → HeardCopy → List HeardCopy → Type 0
  Behind so_far mid this later =
      IsWholeOnce identity (text_sent sent) (all_printed_holding limit so_far (mid ++ this ∷ []))
      (all_printed_holding limit (judged_behind_holding limit so_far (mid ++ this ∷ [])) later)

  one_more_printed : has_ended (map combination sent) ≡ true
      → (so_far : Judged) (done : List (List Reception)) (last : CombinedCopy)
      (heard : HeardCopy) (mid : List HeardCopy) (this : HeardCopy) (later : List HeardCopy)
      (b : Bool) → Going so_far done last → ¬ IsWholeCopy last
      → Meets so_far (heard ∷ (mid ++ this ∷ later)) → bears identity heard ≡ true
      → is_printed_combined so_far.entries so_far.printed
      (combined_copy_holding limit so_far.families heard) ≡ b
      → ((next : List (List Reception)) (one : CombinedCopy)
      → Going (judged_after_holding limit so_far heard) next one → ¬ IsWholeCopy one
      → Behind (judged_after_holding limit so_far heard) mid this later)
      → Behind so_far (heard ∷ mid) this later
  one_more_printed ended so_far done last heard mid this later true goes not_yet meets is passes
      rest =
      let one = combined_copy_holding limit so_far.families heard in
      let next = done ++ heard.positions ∷ [] in
      let goes_on = goes_printed limit sent behind identity moment number first so_far done last
      heard
      goes is (meets.sendings.0 is) (meets.few_begun.0 is) (meets.in_turn.0 is) (meets.arrive.0
      is).never_idle passes in
      after_printed so_far next one heard mid this later (is_whole one.copy)
      (printed so_far.entries so_far.printed one passes)
      (named_as limit identity so_far.families heard ∙ is)
      (letters_of so_far done last heard (mid ++ this ∷ later) ended goes meets is) goes_on
      (meets_more so_far heard (mid ++ this ∷ later) meets) refl
      (λ not_it. rest next one goes_on not_it)
  one_more_printed ended so_far done last heard mid this later false goes not_yet meets is fails
      rest =
      let one = combined_copy_holding limit so_far.families heard in
      let after = judged_after_holding limit so_far heard in
      let up_to : List HeardCopy = mid ++ this ∷ [] in
      once_behind identity (text_sent sent) (printed_by_holding limit so_far heard)
      (all_printed_holding limit after up_to)
      (all_printed_holding limit (judged_behind_holding limit after up_to) later)
      (subst (AllByRecursion (λ other. is_named identity other ≡ true → ¬ IsWholeCopy other))
      (sym (unprinted so_far.entries so_far.printed one fails)) tt)
      (rest (done ++ heard.positions ∷ []) last
      (goes_unprinted limit sent behind identity moment number first so_far done last heard goes is
      (meets.sendings.0 is) (meets.few_begun.0 is) (meets.arrive.0 is).never_idle fails) not_yet)

  one_more : has_ended (map combination sent) ≡ true
      → (so_far : Judged) (done : List (List Reception)) (last : CombinedCopy)
      (heard : HeardCopy) (mid : List HeardCopy) (this : HeardCopy) (later : List HeardCopy)
      (b : Bool) → Going so_far done last → ¬ IsWholeCopy last
      → Meets so_far (heard ∷ (mid ++ this ∷ later)) → bears identity heard ≡ b
      → ((next : List (List Reception)) (one : CombinedCopy)
      → Going (judged_after_holding limit so_far heard) next one → ¬ IsWholeCopy one
      → Behind (judged_after_holding limit so_far heard) mid this later)
      → Behind so_far (heard ∷ mid) this later
  unfolding if_printed_combined
  one_more ended so_far done last heard mid this later true goes not_yet meets is rest =
      one_more_printed ended so_far done last heard mid this later
      (is_printed_combined so_far.entries so_far.printed
      (combined_copy_holding limit so_far.families heard)) goes
      not_yet meets is refl rest
  one_more ended so_far done last heard mid this later false goes not_yet meets is rest =
      let after = judged_after_holding limit so_far heard in
      let up_to : List HeardCopy = mid ++ this ∷ [] in
      once_behind identity (text_sent sent) (printed_by_holding limit so_far heard)
      (all_printed_holding limit after up_to)
      (all_printed_holding limit (judged_behind_holding limit after up_to) later)
      (none_named so_far heard
      (is_printed_combined so_far.entries so_far.printed
      (combined_copy_holding limit so_far.families heard)) is)
      (rest done last
      (goes_other limit sent behind identity moment number first so_far done last heard goes is)
      not_yet)

  pub becomes_whole : has_ended (map combination sent) ≡ true
      → (so_far : Judged) (done : List (List Reception)) (last : CombinedCopy)
      (mid : List HeardCopy) (this : HeardCopy) (later : List HeardCopy) → Going so_far done last
      → ¬ IsWholeCopy last → Meets so_far (mid ++ this ∷ later) → bears identity this ≡ true
      → IsWholeCopy (combined_copy_holding limit
      (families_behind_holding limit so_far.families mid) this)
      → Behind so_far mid this later
  becomes_whole ended so_far done last [] this later goes not_yet meets is whole =
      at_one ended so_far done last this later
      (is_printed_combined so_far.entries so_far.printed
      (combined_copy_holding limit so_far.families this)) goes
      not_yet meets is whole refl
  becomes_whole ended so_far done last (heard ∷ mid) this later goes not_yet meets is whole =
      one_more ended so_far done last heard mid this later (bears identity heard) goes not_yet
      meets refl
      (λ next one goes_on not_it. becomes_whole ended
      (judged_after_holding limit so_far heard) next one mid
      this later
      goes_on not_it (meets_more so_far heard (mid ++ this ∷ later) meets) is whole)

-- The first copy, and all of them.

made_few_if : (one : CombinedCopy) (b : Bool)
    → length (if b then entry_of one.copy ∷ [] else []) ≤ 1
made_few_if one true = omega arith
made_few_if one false = omega arith

made_few : (entries : List MemoryEntry) (before : List CombinedCopy) (one : CombinedCopy)
    → length (entry_made_combined entries before one) ≤ 1
unfolding entry_made_combined
made_few entries before one = made_few_if one (is_entered_combined entries before one)

first_printed : (entries : List MemoryEntry) (before : List CombinedCopy) (one : CombinedCopy)
    → one.copy.selected ≡ true → is_remembered entries one.copy ≡ false
    → is_printed_combined entries before one ≡ true
unfolding is_printed_combined is_printed
first_printed entries before one chosen unknown =
    ap₂ (λ s r. (s && (is_number_00 one.copy || not r)) || (r && is_better_than_before before one))
    chosen unknown
    ∙ ap (λ z. (true && z) || false) (or_true (is_number_00 one.copy))

heard_push : (identity : Identity) (mid : List HeardCopy) (one : HeardCopy)
    → bears identity one ≡ true
    → positions_heard identity (mid ++ one ∷ [])
    ≡ positions_heard identity mid ++ one.positions ∷ []
heard_push identity [] one is =
    ap (λ b. map (λ (h : HeardCopy). h.positions) (cond b (one ∷ []) [])) is
heard_push identity (x ∷ mid) one is =
    heard_push_if identity x mid one (bears identity x) (heard_push identity mid one is) where
      heard_push_if : (identity : Identity) (x : HeardCopy) (mid : List HeardCopy)
          (one : HeardCopy) (b : Bool)
          → positions_heard identity (mid ++ one ∷ [])
          ≡ positions_heard identity mid ++ one.positions ∷ []
          → map (λ (h : HeardCopy). h.positions)
          (cond b (x ∷ filter (bears identity) (mid ++ one ∷ []))
          (filter (bears identity) (mid ++ one ∷ [])))
          ≡ map (λ (h : HeardCopy). h.positions)
          (cond b (x ∷ filter (bears identity) mid) (filter (bears identity) mid))
          ++ one.positions ∷ []
      heard_push_if identity x mid one true rest = ap (λ l. x.positions ∷ l) rest
      heard_push_if identity x mid one false rest = rest

heard_first : (identity : Identity) (heard : HeardCopy) (mid : List HeardCopy)
    → bears identity heard ≡ true
    → positions_heard identity (heard ∷ mid) ≡ heard.positions ∷ positions_heard identity mid
heard_first identity heard mid is =
    ap (λ b. map (λ (h : HeardCopy). h.positions)
    (cond b (heard ∷ filter (bears identity) mid) (filter (bears identity) mid))) is

as_sent_all : (sent : List ℕ) (behind : ℕ → ℕ) (moment : ℕ) (identity : Identity)
    (mid : List HeardCopy) (one : HeardCopy) (later : List HeardCopy)
    → AreSendings sent behind moment identity (mid ++ one ∷ later) → bears identity one ≡ true
    → AllByRecursion (IsHeardOf sent) (positions_heard identity mid ++ one.positions ∷ [])
as_sent_all sent behind moment identity [] one later sendings is = ((sendings.0 is).as_sent, tt)
as_sent_all sent behind moment identity (x ∷ mid) one later sendings is =
    as_sent_if sent behind moment identity x mid one (bears identity x) refl sendings.0
    (as_sent_all sent behind moment identity mid one later sendings.1 is) where
      as_sent_if : (sent : List ℕ) (behind : ℕ → ℕ) (moment : ℕ) (identity : Identity)
          (x : HeardCopy) (mid : List HeardCopy) (one : HeardCopy) (b : Bool)
          → bears identity x ≡ b → (bears identity x ≡ true → IsSending sent behind moment x)
          → AllByRecursion (IsHeardOf sent) (positions_heard identity mid ++ one.positions ∷ [])
          → AllByRecursion (IsHeardOf sent)
          (map (λ (h : HeardCopy). h.positions)
          (cond b (x ∷ filter (bears identity) mid) (filter (bears identity) mid))
          ++ one.positions ∷ [])
      as_sent_if sent behind moment identity x mid one true is sending rest =
          ((sending is).as_sent, rest)
      as_sent_if sent behind moment identity x mid one false is sending rest = rest

-- a copy that is what whole positions give is whole
whole_by : (sent : List Reception) (copy : TaggedCopy) (one : CombinedCopy) → IsWhole sent
    → one.copy ≡ given_by sent copy → IsWholeCopy one
whole_by sent copy one whole is = record {
  full = ap (λ (t : TaggedCopy). t.how) is ∙ how_given sent copy ∙ whole.full;
  no_error = ap (λ (t : TaggedCopy). errors_of t.text) is
      ∙ ap errors_of (text_given sent copy)
      ∙ whole.no_error;
}

module _ (limit : ℕ) (sent : List ℕ) (behind : ℕ → ℕ) (identity : Identity) (so_far : Judged)
    (first : HeardCopy) (copies : List HeardCopy)
    (t : AreHeardTogetherHolding limit sent behind identity so_far first copies) where
  abbrev number_first : ℕ
  number_first = length so_far.families

  abbrev one_first : CombinedCopy
  one_first = combined_copy_holding limit so_far.families first

  begins_first : Begins limit so_far.families first
  begins_first = begins_one limit so_far.families first t.first_sending.family
      t.begins

  shows_first : is_printed_combined so_far.entries so_far.printed one_first ≡ true
  shows_first =
      let tagged = tagged_as_holding limit so_far.families first in
      first_printed so_far.entries so_far.printed one_first
      (tagged.selected
      ∙ has_selected first.copy.selected (not (is_number_00 first.copy))
      (nat_le (length first.positions) 8192) t.first_sending.family)
      (ap (is_remembered so_far.entries)
      (ap (λ (o : CombinedCopy). o.copy) begins_first.one) ∙ t.unknown)

  goes_first : Goes sent behind identity first.copy.moment number_first so_far.entries
      (judged_after_holding limit so_far first) (first.positions ∷ []) one_first
  goes_first =
      let of : one_first.family ≡ Some number_first =
      ap (λ (o : CombinedCopy). o.family) begins_first.one in
      let own : is_of_number number_first one_first ≡ true =
      rw of (eq-eqb number_first number_first refl) in
      let more = entry_made_combined so_far.entries so_far.printed one_first in
      record {
        stands = first_begins limit sent behind identity so_far.families first t.begins
            t.first_bears
            t.first_sending;
        found = ap (λ l. find (is_of_number number_first) (l ++ so_far.printed))
            (printed so_far.entries so_far.printed one_first shows_first)
            ∙ ap (λ c. cond c (Some one_first) (find (is_of_number number_first) so_far.printed))
            own;
        made = more;
        entries = refl;
        never_idle = (t.first_arrives.never_idle, tt);
        entered = λ good.
            let made : more ≡ entry_of one_first.copy ∷ [] =
            made_printed so_far.entries so_far.printed one_first true shows_first
            (sym (ap₂ (λ a b. a && b) good (ap is_some of))) in
            ap (list_any (is_own identity first.copy.moment)) made
            ∙ own_entry limit sent behind identity first.copy.moment number_first so_far.entries
            so_far.families first t.first_bears (omega arith);
      }

  few_first : length (judged_after_holding limit so_far first).entries ≤ length so_far.entries + 1
  few_first =
      let long = length-append so_far.entries
      (entry_made_combined so_far.entries so_far.printed one_first) in
      let few = made_few so_far.entries so_far.printed one_first in
      omega arith

  abbrev After : List HeardCopy → Type 0
  After = Meets limit sent behind identity first.copy.moment number_first
      (length (judged_after_holding limit so_far first).entries) so_far.entries few_first
      (judged_after_holding limit so_far first)

  meets_first : After copies
  meets_first = record {
    sendings = t.sendings;
    in_turn = t.in_turn;
    arrive = t.arrive;
    few_begun = t.few_begun;
    few_made = t.few_made;
  }

  named_first : is_named identity one_first ≡ true
  named_first = named_as limit identity so_far.families first ∙ t.first_bears

  letters_first : has_ended (map combination sent) ≡ true → IsWholeCopy one_first
      → one_first.copy.text ≡ text_sent sent
  letters_first ended whole =
      letters_if sent first.positions first one_first true
      (ap (λ (o : CombinedCopy). o.copy) begins_first.one) whole t.first_sending.as_sent
      t.first_arrives.never_idle t.first_sending.as_sent t.first_arrives ended

  -- the first copy alone
  whole_first : has_ended (map combination sent) ≡ true → IsWhole (map combination sent)
      → CameThrough sent (first.positions ∷ []) → IsWholeCopy one_first
  unfolding joined
  whole_first ended whole came =
      let same : ending_by first.positions ≡ ending_by (map combination sent) =
      together_whole sent (first.positions ∷ []) ended (t.first_sending.as_sent, tt) came in
      let full : (ending_by first.positions).how ≡ Full =
      ap (λ (e : Ending). e.how) same ∙ whole.full in
      whole_by first.positions first.copy one_first
      (record {
        full = full;
        no_error = ap (λ (e : Ending). errors_of e.text) same ∙ whole.no_error;
      })
      (ap (λ (o : CombinedCopy). o.copy) begins_first.one ∙ t.first_arrives.read full)

  once_first : has_ended (map combination sent) ≡ true → IsWhole (map combination sent)
      → CameThrough sent (first.positions ∷ [])
      → IsWholeOnce identity (text_sent sent) (all_printed_holding limit so_far (first ∷ []))
      (all_printed_holding limit (judged_after_holding limit so_far first) copies)
  once_first ended whole came =
      let is_it = whole_first ended whole came in
      record {
        before = [];
        one = one_first;
        after = [];
        among = ap (λ l. l ++ []) (printed so_far.entries so_far.printed one_first shows_first);
        named = named_first;
        whole = is_it;
        letters = letters_first ended is_it;
        not_before = tt;
        nothing_behind = silent limit sent behind identity first.copy.moment number_first
            (length (judged_after_holding limit so_far first).entries) so_far.entries few_first
            (judged_after_holding limit so_far first)
            (first.positions ∷ []) one_first copies goes_first is_it
            meets_first;
      }

  -- the first copy and others
  whole_later : has_ended (map combination sent) ≡ true → IsWhole (map combination sent)
      → (mid later : List HeardCopy) (one : HeardCopy) → copies ≡ mid ++ one ∷ later
      → bears identity one ≡ true
      → CameThrough sent ((first.positions ∷ positions_heard identity mid) ++ one.positions ∷ [])
      → IsWholeCopy
      (combined_copy_holding limit (families_behind_holding limit
      (families_after_holding limit so_far.families first) mid) one)
  whole_later ended whole mid later one is bears_it came =
      let this = combined_copy_holding limit (families_behind_holding limit
      (families_after_holding limit so_far.families first) mid) one in
      let all : List (List Reception) =
      (first.positions ∷ positions_heard identity mid) ++ one.positions ∷ [] in
      let sendings = subst (AreSendings sent behind first.copy.moment identity) is t.sendings in
      let given = family_of_first limit sent behind identity so_far.families first copies t.begins
      t.first_bears t.first_sending t.sendings t.few_begun mid later one is bears_it in
      let same = together_whole sent all ended (
        t.first_sending.as_sent,
        as_sent_all sent behind first.copy.moment identity mid one later sendings bears_it,
      ) came in
      whole_by (map combination sent) this.own.copy this whole
      (whole_copy (map combination sent) (joined_all all) this same whole given)

  once_later : has_ended (map combination sent) ≡ true → IsWhole (map combination sent)
      → (mid later : List HeardCopy) (one : HeardCopy) → copies ≡ mid ++ one ∷ later
      → bears identity one ≡ true
      → CameThrough sent ((first.positions ∷ positions_heard identity mid) ++ one.positions ∷ [])
      → IsWholeOnce identity (text_sent sent)
      (all_printed_holding limit so_far (first ∷ (mid ++ one ∷ [])))
      (all_printed_holding limit (judged_behind_holding limit
      (judged_after_holding limit so_far first) (mid ++ one ∷ [])) later)
  once_later ended whole mid later one is bears_it came =
      let count = length (judged_after_holding limit so_far first).entries in
      let meets = subst After is meets_first in
      after_printed limit sent behind identity first.copy.moment number_first count so_far.entries
      few_first so_far (first.positions ∷ []) one_first first mid one later
      (is_whole one_first.copy)
      (printed so_far.entries so_far.printed one_first shows_first) named_first
      (letters_first ended) goes_first meets refl
      (λ not_it.
      becomes_whole limit sent behind identity first.copy.moment number_first count so_far.entries
      few_first ended (judged_after_holding limit so_far first)
      (first.positions ∷ []) one_first mid one later
      goes_first
      not_it meets bears_it (whole_later ended whole mid later one is bears_it came))

  pub once_all : has_ended (map combination sent) ≡ true → IsWhole (map combination sent)
      → (mid later : List HeardCopy) (one : HeardCopy) → first ∷ copies ≡ mid ++ one ∷ later
      → bears identity one ≡ true
      → CameThrough sent (positions_heard identity (mid ++ one ∷ []))
      → IsWholeOnce identity (text_sent sent) (all_printed_holding limit so_far (mid ++ one ∷ []))
      (all_printed_holding limit (judged_behind_holding limit so_far (mid ++ one ∷ [])) later)
  once_all ended whole [] later one is bears_it came =
      let same : first ≡ one = cc in
      let rest : copies ≡ later = cc in
      subst₂ (λ h l. IsWholeOnce identity (text_sent sent)
      (all_printed_holding limit so_far (h ∷ []))
      (all_printed_holding limit (judged_after_holding limit so_far h) l)) same rest
      (once_first ended whole
      (subst (CameThrough sent) (heard_first identity first [] t.first_bears)
      (subst (λ (h : HeardCopy). CameThrough sent (positions_heard identity (h ∷ []))) (sym same)
      came)))
  once_all ended whole (x ∷ mid) later one is bears_it came =
      let list : first ∷ copies ≡ x ∷ (mid ++ one ∷ later) = is in
      let same : first ≡ x = cc in
      let rest : copies ≡ mid ++ one ∷ later = cc in
      let here : CameThrough sent (positions_heard identity (first ∷ (mid ++ one ∷ []))) =
      subst (λ (h : HeardCopy). CameThrough sent (positions_heard identity (h ∷ (mid ++ one ∷ []))))
      (sym same) came in
      let heard : positions_heard identity (first ∷ (mid ++ one ∷ []))
      ≡ (first.positions ∷ positions_heard identity mid) ++ one.positions ∷ [] =
      heard_first identity first (mid ++ one ∷ []) t.first_bears
      ∙ ap (λ l. first.positions ∷ l) (heard_push identity mid one bears_it) in
      subst (λ (h : HeardCopy). IsWholeOnce identity (text_sent sent)
      (all_printed_holding limit so_far (h ∷
      (mid ++ one ∷ [])))
      (all_printed_holding limit (judged_behind_holding limit (judged_after_holding limit so_far h)
      (mid ++ one ∷ [])) later)) same
      (once_later ended whole mid later one rest bears_it (subst (CameThrough sent) heard here))
