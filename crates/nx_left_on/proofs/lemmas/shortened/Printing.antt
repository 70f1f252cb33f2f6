-- A watch over a log that was shortened prints what it would print over the whole one.
use Rattle.std.proofs.Common.{◌≡◌, inl, inr, ℕ, ◌<◌, ◌≤◌, Bool, List, [], ◌++◌, length, take}
use Rattle.std.proofs.Common.{Option, refl, sym, ap, ap₂, ◌∙◌, subst, arith, append-nil}
use Rattle.std.specs.Prelude.{◌↔◌}
use Rattle.std.specs.List.{All}
use Rattle.std.proofs.lemmas.Bool.{cases_lt}
use Rattle.std.proofs.lemmas.List.Elements.{All-weaker}
use Rattle.nx_fec.specs.air_files.AirFile.{Line}
use Rattle.nx_fec.specs.declared.air_files.channel.Channel.{Channel}
use Rattle.nx_copies.specs.Events.{Event, Setting, Start, elements_among, first_setting, settings}
use Rattle.nx_copies.specs.copies.FoundCopies.{FoundCopy, TaggedCopy, ended_so_far, found_to_end}
use Rattle.nx_copies.specs.copies.FoundCopies.{tagged_copies}
use Rattle.nx_copies.specs.copies.InTurn.{PrintAllToEnd, PrintsInTurn}
use Rattle.nx_copies.specs.copies.Log.{HasPrinted, Prints, PrintsToEnd, printed_of}
use Rattle.nx_copies.specs.copies.Printing.{printed_copies}
use Rattle.nx_copies.specs.copies.Shares.{Given, MarkedCopy, Starts, copies_on, share, start_on}
use Rattle.nx_copies.proofs.lemmas.channels.Shares.{share-append}
use Rattle.nx_copies.proofs.lemmas.locks.Found.{IsCopyIn}
use Rattle.nx_copies.proofs.lemmas.printing.Logged.{ended_placed}
use Rattle.nx_receiver.specs.air_file_runs.Listen.{events_on, given_by}
use Rattle.nx_sync.specs.Locks.{IsNow, Lock, Now}
use Rattle.nx_watch.specs.Acting.{acting_lines}
use Rattle.nx_watch.specs.Watch.{PrintsUntil, Stop, at_end, back, moments_at, starts_at, unread}
use Rattle.nx_watch.specs.Watch.{unwritten}
use Rattle.nx_left_on.specs.Chain.{acting_at}
use Rattle.nx_left_on.specs.Shortened.{HearsFrom, LeavesOutOld}
use Rattle.nx_left_on.proofs.lemmas.Acting.{acting-act}
use Rattle.nx_left_on.proofs.lemmas.chains.Found.{found-placed}
use Rattle.nx_left_on.proofs.lemmas.entries.Climbing.{IsWithin, Rise, lines-rise}
use Rattle.nx_left_on.proofs.lemmas.shortened.Acting.{acting-same, lines-begun}
use Rattle.nx_left_on.proofs.lemmas.shortened.Heard.{AreHeard, all-late, begun-heard, heard-front, tagged}
use Rattle.nx_left_on.proofs.lemmas.shortened.Knowing.{same-printed}
use Rattle.nx_left_on.proofs.lemmas.shortened.Starting.{AreBehindOld, Agrees, entries-behind}
use Rattle.nx_left_on.proofs.lemmas.shortened.Starting.{moments-agree, refused-same}

-- ---- what is found, and what is printed of it

-- all copies that are found stand at elements
abbrev StandAtElements : (List Bool → List Lock → Now → List FoundCopy) → Type 0
StandAtElements found = (bits : List Bool) (locks : List Lock) (now : Now) → IsNow bits locks now
    → All (IsCopyIn 0 (length bits)) (found bits locks now)

module _ (floor : ℕ) (one other : Start) (events : List Event)
    (behind : AreBehindOld floor one.entries other.entries)
    (heard : AreHeard floor (first_setting one) (first_setting other) events) where
  prints-one : (copies : List FoundCopy) → All (IsWithin events) copies
      → printed_of one events copies ≡ printed_of other events copies
  prints-one copies within =
      let t = tagged floor (first_setting one) (first_setting other) events heard copies within in
      let tags = tagged_copies (first_setting one) events copies in
      ap (λ es. printed_copies es tags) behind.split
      ∙ same-printed floor behind.front behind.old other.entries tags t.late
      ∙ ap (printed_copies other.entries) (sym t.same)

  -- both print one log
  record PrintAlike (found : List Bool → List Lock → Now → List FoundCopy) : Type 0 where
    there : (log : List TaggedCopy) → Prints found one events log → Prints found other events log
    back_again : (log : List TaggedCopy) → Prints found other events log
        → Prints found one events log

  alike : (found : List Bool → List Lock → Now → List FoundCopy) → StandAtElements found
      → PrintAlike found
  alike found stand =
      let bits = elements_among events in
      let same : (locks : List Lock) (now : Now) → IsNow bits locks now
      → printed_of one events (found bits locks now)
      ≡ printed_of other events (found bits locks now) =
      λ locks now is. prints-one (found bits locks now)
      (All-weaker (IsCopyIn 0 (length bits)) (IsWithin events) (λ c h. h.1)
      (found bits locks now) (stand bits locks now is)) in
      record {
        there = λ log p. record {
          locks = p.locks;
          now = p.now;
          stands = p.stands;
          printed = p.printed ∙ same p.locks p.now p.stands;
        };
        back_again = λ log p. record {
          locks = p.locks;
          now = p.now;
          stands = p.stands;
          printed = p.printed ∙ sym (same p.locks p.now p.stands);
        };
      }

-- ---- three receivers

-- what is printed of a beginning of what the one is given is printed of it by the other
pub record PrintsToo (one other : Starts) (given : List Given) : Type 0 where
  pub so_far : (channel : Channel) (log : List TaggedCopy)
      → HasPrinted (start_on one channel) (share channel given) log
      → HasPrinted (start_on other channel) (share channel given) log
  pub to_end : (channel : Channel) (log : List TaggedCopy)
      → PrintsToEnd (start_on one channel) (share channel given) log
      → PrintsToEnd (start_on other channel) (share channel given) log

abbrev pub PrintBeginnings : Starts → Starts → List Given → Type 0
PrintBeginnings one other given =
    (before later : List Given) → given ≡ before ++ later → PrintsToo one other before

module _ (one other : Starts) (given : List Given) (h : PrintBeginnings one other given) where
  all-too : PrintsToo one other given
  all-too = h given [] (sym (append-nil given))

  pub in-turn-too : (copies : List MarkedCopy) → PrintsInTurn one given copies
      → PrintsInTurn other given copies
  in-turn-too copies p = record {
    each = λ channel. all-too.so_far channel (copies_on channel copies) (p.each channel);
    in_turn = λ before later e.
        let so_far = p.in_turn before later e in (
          so_far.0,
          λ channel. (h before later e).so_far channel (copies_on channel (take so_far.0 copies))
              (so_far.1 channel),
        );
  }

  to-end-too : (copies : List MarkedCopy) → PrintAllToEnd one given copies
      → PrintAllToEnd other given copies
  to-end-too copies p = record {
    ended = p.ended;
    in_turn = in-turn-too p.ended p.in_turn;
    closed = p.closed;
    to_end = λ channel. all-too.to_end channel (copies_on channel p.ended ++ p.closed channel)
        (p.to_end channel);
    whole = p.whole;
  }

  pub until-too : (stop : Stop) (copies : List MarkedCopy) → PrintsUntil stop one given copies
      → PrintsUntil stop other given copies
  until-too at_end copies p = to-end-too copies p
  until-too (back line last to) copies p = to-end-too copies p
  until-too unread copies p = in-turn-too copies p
  until-too unwritten copies p = in-turn-too copies p

-- ---- a watch over a shortened log

module _ (floor now : ℕ) (whole shorter : List MarkedCopy) (lines : List (Option Line))
    (left : LeavesOutOld floor whole shorter)
    (hears : HearsFrom floor (moments_at now (starts_at now whole)) lines) where
  abbrev ours : Starts
  ours = starts_at now whole

  abbrev theirs : Starts
  theirs = starts_at now shorter

  abbrev acting : List Line
  acting = acting_at now whole lines

  -- The newest moment isn't left out; or the first that comes into force is this one or later.
  pub newest-stays : floor ≤ ours.moment → theirs.moment ≡ ours.moment
  newest-stays near = of (moments-agree floor now whole shorter left)
    where
      of : Agrees floor ours.moment theirs.moment → theirs.moment ≡ ours.moment
      of (inl same) = same
      of (inr old) = absurd (omega (arith, near, old.1))

  pub no-later : Agrees floor ours.moment theirs.moment → theirs.moment ≤ ours.moment
  no-later (inl same) = omega (arith, same)
  no-later (inr old) = old.0

  pub acts : acting_at now shorter lines ≡ acting
  acts = elim (cases_lt ours.moment floor) [
    | inl below ↦ of below hears
    | inr near ↦
        ap (λ (m : ℕ). acting_lines (record { newest = m; started = now }) lines)
        (newest-stays near)
  ]
    where
      of : ours.moment < floor → HearsFrom floor (moments_at now ours) lines
          → acting_at now shorter lines ≡ acting
      of below (inl near) = absurd (omega (arith, below, near))
      of below (inr late) =
          acting-same now ours.moment theirs.moment floor
          (no-later (moments-agree floor now whole shorter left)) below late.0 lines late.1

  rise : (channel : Channel) → Rise ours.moment (events_on channel acting)
  rise channel =
      lines-rise channel ours.moment acting (acting-act (moments_at now ours) lines acting refl)

  settings-too : (channel : Channel)
      → AreHeard floor (first_setting (start_on ours channel))
      (first_setting (start_on theirs channel)) (events_on channel acting)
  settings-too channel = elim (cases_lt ours.moment floor) [
    | inl below ↦ of below hears
    | inr near ↦ record {
      same = ap₂ (λ (m : ℕ) r. settings-of (record { moment = m; refused = r }))
          (newest-stays near) (refused-same now shorter whole channel);
      late = all-late floor (first_setting (start_on ours channel)) (events_on channel acting) near
          (rise channel);
    }
  ]
    where
      settings-of : Setting → List Setting
      settings-of setting = settings setting (events_on channel acting)

      of : ours.moment < floor → HearsFrom floor (moments_at now ours) lines
          → AreHeard floor (first_setting (start_on ours channel))
          (first_setting (start_on theirs channel)) (events_on channel acting)
      of below (inl near) = absurd (omega (arith, below, near))
      of below (inr late) =
          begun-heard floor (first_setting (start_on ours channel))
          (first_setting (start_on theirs channel)) (events_on channel acting)
          (refused-same now shorter whole channel)
          (lines-begun now ours.moment theirs.moment floor
          (no-later (moments-agree floor now whole shorter left)) below late.0 channel lines late.1)
          (rise channel)

  heard-before : (before later : List Given) → given_by acting ≡ before ++ later
      → (channel : Channel)
      → AreHeard floor (first_setting (start_on ours channel))
      (first_setting (start_on theirs channel)) (share channel before)
  heard-before before later e channel =
      heard-front floor (first_setting (start_on ours channel))
      (first_setting (start_on theirs channel)) (share channel before) (share channel later)
      (subst (AreHeard floor (first_setting (start_on ours channel))
      (first_setting (start_on theirs channel)))
      (ap (share channel) e ∙ share-append channel before later) (settings-too channel))

  alike-before : (before later : List Given) (e : given_by acting ≡ before ++ later)
      → (channel : Channel) (found : List Bool → List Lock → Now → List FoundCopy)
      → StandAtElements found
      → PrintAlike floor (start_on ours channel) (start_on theirs channel) (share channel before)
      (entries-behind floor now whole shorter left channel) (heard-before before later e channel)
      found
  alike-before before later e channel found stand =
      alike floor (start_on ours channel) (start_on theirs channel) (share channel before)
      (entries-behind floor now whole shorter left channel) (heard-before before later e channel)
      found stand

  ended-stand : StandAtElements ended_so_far
  ended-stand = ended_placed

  found-stand : StandAtElements found_to_end
  found-stand = found-placed

  pub prints-there : PrintBeginnings ours theirs (given_by acting)
  prints-there before later e = record {
    so_far = λ channel log.
        (alike-before before later e channel ended_so_far ended-stand).there log;
    to_end = λ channel log.
        (alike-before before later e channel found_to_end found-stand).there log;
  }

  pub prints-back : PrintBeginnings theirs ours (given_by acting)
  prints-back before later e = record {
    so_far = λ channel log.
        (alike-before before later e channel ended_so_far ended-stand).back_again log;
    to_end = λ channel log.
        (alike-before before later e channel found_to_end found-stand).back_again log;
  }

  pub prints : (stop : Stop) (copies : List MarkedCopy)
      → PrintsUntil stop ours (given_by acting) copies
      ↔ PrintsUntil stop theirs (given_by (acting_at now shorter lines)) copies
  prints stop copies = (
    λ p. subst (λ l. PrintsUntil stop theirs (given_by l) copies) (sym acts)
        (until-too ours theirs (given_by acting) prints-there stop copies p),
    λ p. until-too theirs ours (given_by acting) prints-back stop copies
        (subst (λ l. PrintsUntil stop theirs (given_by l) copies) acts p),
  )
