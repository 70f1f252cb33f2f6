-- From the bits of visible sendings to what is printed of them, combined.
use Rattle.std.proofs.Common.{◌≡◌, ℕ, ◌+◌, ◌<◌, Bool, true, false, List, [], ◌∷◌, ◌++◌}
use Rattle.std.proofs.Common.{length, map, None, refl, sym, ap, ap₂, ◌∙◌, subst, subst₂, arith}
use Rattle.std.proofs.Common.{append_assoc, ◌&&◌, not}
use Rattle.std.specs.List.{AllByRecursion, Contains}
use Rattle.std.proofs.lemmas.Bool.{le-leb, ne_eqb}
use Rattle.std.proofs.lemmas.List.Elements.{All-contains_itself, All-map, All-weaker, recursion_from_All}
use Rattle.nx_envelope.specs.Message.{MessageView}
use Rattle.nx_envelope.specs.declared.identity.Identity.{Identity}
use Rattle.nx_envelope.proofs.lemmas.headers.Identities.{same_identity-true}
use Rattle.nx_memory.specs.Selection.{admits}
use Rattle.nx_station.specs.reception.Sendings.{Part}
use Rattle.nx_sync.specs.Locks.{Lock, Now}
use Rattle.nx_copies.specs.Events.{Event, Start, elements_among, first_setting, setting_at}
use Rattle.nx_copies.specs.copies.FoundCopies.{TaggedCopy, tag}
use Rattle.nx_copies.specs.copies.Printing.{is_number_00}
use Rattle.nx_copies.proofs.lemmas.locks.Found.{one_told}
use Rattle.nx_combine.specs.CombinedPrinting.{HasPrintedCombined, PrintsCombinedToEnd}
use Rattle.nx_combine.specs.private.CombinedPrinting.{PrintsCombined}
use Rattle.nx_combine.specs.private.CombinedPrinting.{printed_of_placed}
use Rattle.nx_combine.specs.CopyPositions.{HeardCopy, PlacedCopy, ended_placed, heard_copies}
use Rattle.nx_combine.specs.CopyPositions.{placed_to_end}
use Rattle.nx_combine.specs.Families.{has_family, last_index, most_positions}
use Rattle.nx_combine.specs.Judging.{Judged, all_copies, all_printed, judged_behind}
use Rattle.nx_combine.specs.Laws.{Arrives, IsHeardOf, IsSending}
use Rattle.nx_combine.specs.private.HeardTogether.{AreHeardTogether}
use Rattle.nx_combine.specs.Laws.{IsWholeOnce, RunsOnAs, bears, text_sent}
use Rattle.nx_combine.proofs.lemmas.Held.{index_joined-none}
use Rattle.nx_combine.proofs.lemmas.Once.{all_printed-append, in_order, once_all, once_behind}
use Rattle.nx_promises.specs.laws.Together.{Finding, IsCopyOf, IsHeardTogether, IsPrintedWholeOnce}
use Rattle.nx_promises.specs.laws.Together.{IsThroughWith}
use Rattle.nx_promises.specs.laws.Together.{behind_digit, heard_with, none_judged}
use Rattle.nx_promises.proofs.lemmas.together.Begun.{judged_behind-append, none_begun, none_whole}
use Rattle.nx_promises.proofs.lemmas.together.Found.{ended_within}
use Rattle.nx_promises.proofs.lemmas.together.Heard.{are_heard}
use Rattle.nx_promises.proofs.lemmas.together.Sending.{copy_arrives}
use Rattle.nx_promises.proofs.lemmas.together.Told.{sent-ended, sent-text, sent-whole}

-- a copy that can be taken together with others, as it is heard
record IsGood (sent : List ℕ) (behind : ℕ → ℕ) (heard : HeardCopy) : Type 0 where
  family : has_family heard ≡ true
  as_sent : IsHeardOf sent heard.positions
  runs_on : RunsOnAs sent behind heard.positions
  arrives : Arrives sent heard

family_by : (selected number : Bool) (few : Bool) → selected ≡ true → number ≡ false → few ≡ true
    → (selected && not number && few) ≡ true
family_by selected number few chosen not_00 fits =
    ap₂ (λ s n. s && not n && few) chosen not_00 ∙ fits

-- what is looked at are copies that are found to the end
abbrev AreWithin : Finding → Type 0
AreWithin finding =
    (bits : List Bool) (locks : List Lock) (now : Now) (copy : PlacedCopy)
    → Contains (finding bits locks now) copy → Contains (placed_to_end bits locks now) copy

module _ (finding : Finding) (within : AreWithin finding) (start : Start) (events : List Event)
    (parts : List Part) (message : MessageView) (numbers : List ℕ)
    (t : IsHeardTogether finding start events parts message numbers) where
  abbrev sent : List ℕ
  sent = behind_digit numbers

  abbrev identity : Identity
  identity = message.identity

  abbrev bits : List Bool
  bits = elements_among events

  abbrev at_place : PlacedCopy → HeardCopy
  at_place copy = heard_with (setting_at (first_setting start) events copy.found.place) copy

  good_one : (copy : PlacedCopy) → Contains t.copies copy → bears identity (at_place copy) ≡ true
      → IsGood sent t.behind (at_place copy)
  unfolding tag
  good_one copy there named =
      let same : copy.found.identity ≡ identity =
      same_identity-true copy.found.identity identity named in
      let one = t.together copy there same in
      let of : IsCopyOf bits parts message numbers copy = record {
        cut = t.cut;
        sending = one.sending;
        locks = t.found.locks;
        now = t.found.now;
        stands = t.found.stands;
        found = within bits t.found.locks t.found.now copy
            (subst (λ (l : List PlacedCopy). Contains l copy) t.found.whole there);
      } in
      let setting = setting_at (first_setting start) events copy.found.place in
      record {
        family = family_by (admits setting.refused copy.found.identity)
            (is_number_00 (tag setting copy.found))
            _
            (ap (admits setting.refused) same ∙ one.selected)
            (ne_eqb copy.found.identity.number 0
            (λ e. absurd (omega (arith, t.numbered, e, ap (λ (i : Identity). i.number) same))))
            (le-leb (length copy.positions) most_positions one.few_positions);
        as_sent = are_heard bits parts message numbers copy of;
        runs_on = one.runs_on;
        arrives = copy_arrives bits parts message numbers copy of setting;
      }

  abbrev IsGoodOne : HeardCopy → Type 0
  IsGoodOne heard = bears identity heard ≡ true → IsGood sent t.behind heard

  all_good : AllByRecursion IsGoodOne (t.before ++ t.first ∷ t.later)
  unfolding heard_copies
  all_good =
      subst (AllByRecursion IsGoodOne) t.in_order
      (recursion_from_All IsGoodOne (map at_place t.copies)
      (All-map IsGoodOne at_place t.copies
      (All-weaker (Contains t.copies) (λ copy. IsGoodOne (at_place copy))
      (λ copy there. good_one copy there) t.copies (All-contains_itself t.copies))))

  behind_those : (P : HeardCopy → Type 0) (xs ys : List HeardCopy) → AllByRecursion P (xs ++ ys)
      → AllByRecursion P ys
  behind_those P [] ys all = all
  behind_those P (x ∷ xs) ys all = behind_those P xs ys all.1

  good_later : AllByRecursion IsGoodOne (t.first ∷ t.later)
  good_later = behind_those IsGoodOne t.before (t.first ∷ t.later) all_good

  abbrev so_far : Judged
  so_far = judged_behind (none_judged start) t.before

  first_good : IsGood sent t.behind t.first
  first_good = good_later.0 t.first_bears

  sending_of : (heard : HeardCopy) → IsGood sent t.behind heard
      → heard.copy.moment < t.first.copy.moment + 237600
      → IsSending sent t.behind t.first.copy.moment heard
  sending_of heard good near = record {
    family = good.family;
    as_sent = good.as_sent;
    runs_on = good.runs_on;
    near = omega (arith, near);
  }

  sendings_of : (copies : List HeardCopy) → AllByRecursion IsGoodOne copies
      → AllByRecursion (λ heard. bears identity heard ≡ true
      → heard.copy.moment < t.first.copy.moment + 237600) copies
      → AllByRecursion (λ heard. bears identity heard ≡ true
      → IsSending sent t.behind t.first.copy.moment heard) copies
  sendings_of [] good near = tt
  sendings_of (heard ∷ copies) good near = (
    λ named. sending_of heard (good.0 named) (near.0 named),
    sendings_of copies good.1 near.1,
  )

  arrive_all : (copies : List HeardCopy) → AllByRecursion IsGoodOne copies
      → AllByRecursion (λ heard. bears identity heard ≡ true → Arrives sent heard) copies
  arrive_all [] good = tt
  arrive_all (heard ∷ copies) good = (λ named. (good.0 named).arrives, arrive_all copies good.1)

  pub are_together : AreHeardTogether sent t.behind identity so_far t.first t.later
  are_together =
      let same = same_identity-true t.first.copy.identity identity t.first_bears in
      record {
        begins = index_joined-none 200 so_far.families t.first
            (subst (λ i. last_index i so_far.families ≡ None) (sym same)
            (none_begun identity (none_judged start) t.before t.none_before refl));
        unknown = t.unknown;
        first_bears = t.first_bears;
        first_sending = sending_of t.first first_good (omega arith);
        first_arrives = first_good.arrives;
        sendings = sendings_of t.later good_later.1 t.near;
        arrive = arrive_all t.later good_later.1;
        in_turn = t.in_turn;
        few_begun = t.few_begun;
        few_made = t.few_made;
      }

  -- what is printed is what is judged in order
  printed_all : (log : List TaggedCopy) → PrintsCombined finding start events log
      → log ≡ all_copies (all_printed (none_judged start) (t.before ++ t.first ∷ t.later))
  printed_all log prints =
      prints.printed
      ∙ ap (printed_of_placed start events)
      (one_told (finding bits) bits prints.locks t.found.locks prints.now t.found.now
      prints.stands t.found.stands ∙ sym t.found.whole)
      ∙ ap all_copies (sym (in_order (none_judged start)
      (heard_copies (first_setting start) events t.copies)))
      ∙ ap (λ l. all_copies (all_printed (none_judged start) l)) t.in_order

  pub printed_whole : (came : IsThroughWith sent identity (t.first ∷ t.later))
      (log : List TaggedCopy) → PrintsCombined finding start events log
      → IsPrintedWholeOnce message start (t.before ++ (came.up_to ++ came.one ∷ [])) came.rest log
  printed_whole came log prints =
      let mid = came.up_to in
      let rest = came.rest in
      let one = came.one in
      let up_to = mid ++ one ∷ [] in
      let whole : t.before ++ (t.first ∷ t.later) ≡ (t.before ++ up_to) ++ rest =
      ap (λ l. t.before ++ l) (came.parts ∙ sym (append_assoc mid (one ∷ []) rest))
      ∙ sym (append_assoc t.before up_to rest) in
      let once = once_all 200 sent t.behind identity so_far t.first t.later are_together
      (sent-ended message numbers t.told t.sound) (sent-whole message numbers t.told t.sound) mid
      rest one came.parts came.named came.through in
      let text = sent-text message numbers t.told t.sound in
      let all = once_behind identity (text_sent sent) (all_printed (none_judged start) t.before)
      (all_printed so_far up_to) (all_printed (judged_behind so_far up_to) rest)
      (none_whole identity (none_judged start) t.before t.none_before) once in
      record {
        printed = printed_all log prints
            ∙ ap (λ l. all_copies (all_printed (none_judged start) l)) whole
            ∙ ap all_copies (all_printed-append 200 (none_judged start) (t.before ++ up_to) rest);
        once = subst (λ x. IsWholeOnce identity x (all_printed (none_judged start)
            (t.before ++ up_to)) (all_printed (judged_behind (none_judged start)
            (t.before ++ up_to)) rest)) text
            (subst₂ (λ now after. IsWholeOnce identity (text_sent sent) now after)
            (sym (all_printed-append 200 (none_judged start) t.before up_to))
            (ap (λ j. all_printed j rest)
            (sym (judged_behind-append (none_judged start) t.before up_to))) all);
      }

pub whole_to_end : (start : Start) (events : List Event) (parts : List Part)
    (message : MessageView) (numbers : List ℕ)
    (t : IsHeardTogether placed_to_end start events parts message numbers)
    (came : IsThroughWith (behind_digit numbers) message.identity (t.first ∷ t.later))
    (log : List TaggedCopy) → PrintsCombinedToEnd start events log
    → IsPrintedWholeOnce message start (t.before ++ (came.up_to ++ came.one ∷ [])) came.rest log
whole_to_end start events parts message numbers t =
    printed_whole placed_to_end (λ bits locks now copy there. there) start events parts message
    numbers t

pub whole_so_far : (start : Start) (events : List Event) (parts : List Part)
    (message : MessageView) (numbers : List ℕ)
    (t : IsHeardTogether ended_placed start events parts message numbers)
    (came : IsThroughWith (behind_digit numbers) message.identity (t.first ∷ t.later))
    (log : List TaggedCopy) → HasPrintedCombined start events log
    → IsPrintedWholeOnce message start (t.before ++ (came.up_to ++ came.one ∷ [])) came.rest log
whole_so_far start events parts message numbers t =
    printed_whole ended_placed ended_within start events parts message numbers t
