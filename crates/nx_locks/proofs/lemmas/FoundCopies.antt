-- The copies of a log are copies of the texts that a report shows, and these stand in it.
use Rattle.std.proofs.Common.{◌≡◌, ℕ, ◌+◌, Bool, true, false, List, [], ◌∷◌, ◌++◌, All, Contains}
use Rattle.std.proofs.Common.{if◌then◌else◌, inl, inr, refl, sym, ap, ap₂, ◌∙◌, subst, arith}
use Rattle.std.proofs.Common.{append_assoc, append-nil}
use Rattle.std.proofs.lemmas.List.Elements.{All-append, All-cons, All-contains, All-contains_itself}
use Rattle.std.proofs.lemmas.List.Elements.{All-map, All-nil, All-tail, All-weaker}
use Rattle.std.proofs.lemmas.List.Elements.{Contains-append_cases, Contains-append_left}
use Rattle.std.proofs.lemmas.List.Elements.{Contains-append_right, Contains-push}
use Rattle.std.proofs.lemmas.List.Elements.{Contains-push_cases}
use Rattle.nx_envelope.specs.Copies.{Copy, beginnings, copies, header_at_end, headers}
use Rattle.nx_envelope.specs.private.Reading.{identity_read}
use Rattle.nx_fec.specs.air_files.AirFile.{Line}
use Rattle.nx_fec.specs.air_files.Lines.{air_limit}
use Rattle.nx_fec.specs.declared.air_files.channel.Channel.TheVariants.{Zero}
use Rattle.nx_fec.proofs.lemmas.lines.LineLaws.{IsAirFile-unique}
use Rattle.nx_memory.specs.declared.memories.entry.MemoryEntry.{MemoryEntry}
use Rattle.nx_sync.specs.Locks.{IsNow, Lock, Now, hunting, locked}
use Rattle.nx_sync.specs.Words.{whole_words}
use Rattle.nx_sync.specs.declared.step.Change.{Change}
use Rattle.nx_sync.specs.declared.step.Change.TheVariants.{Locked}
use Rattle.nx_sync.proofs.lemmas.states.UniqueStates.{locks-unique, now-unique}
use Rattle.nx_copies.specs.Events.{Event, Setting, elements_among, first_setting, setting_at}
use Rattle.nx_copies.specs.copies.FoundCopies.{FoundCopy, TaggedCopy, all_in, found_copy, found_to_end}
use Rattle.nx_copies.specs.copies.FoundCopies.{past_copies, past_text, standing_text, tag, tagged_copies}
use Rattle.nx_receiver.specs.air_file_runs.Listen.{IsLogOfFile, events_on, given_by}
use Rattle.nx_copies.specs.copies.Log.{missing_newline}
use Rattle.nx_copies.specs.copies.LockText.{PlacedByte, bytes_of, lock_text}
use Rattle.nx_copies.specs.copies.Printing.{entry_made, if_printed, is_printed, printed_copies}
use Rattle.nx_copies.specs.copies.Shares.{MarkedCopy, Starts, copies_on, start_on}
use Rattle.nx_copies.proofs.lemmas.channels.Shares.{to_end-on}
use Rattle.nx_locks.specs.Found.{IsCopyAmong, StandsIn, now_texts, past_texts, shown_texts}
use Rattle.nx_locks.specs.LockText.{shown_text}
use Rattle.nx_locks.specs.Report.{AreShown, IsEndShown, IsReport, IsShown}
use Rattle.nx_locks.specs.Run.{IsReportOfFile, elements_on_0}
use Rattle.nx_copies.proofs.lemmas.once.Repeats.{all_printed}

-- a copy that is found is a copy of one of these texts, whatever is in force
abbrev IsFoundAmong : List (List ℕ) → FoundCopy → Type 0
IsFoundAmong texts copy = (setting : Setting) → IsCopyAmong texts (tag setting copy)

of_text : (texts : List (List ℕ)) (text : List PlacedByte) → Contains texts (bytes_of text)
    → All (IsFoundAmong texts) (all_in text)
unfolding tag found_copy
of_text texts text among =
    All-map (IsFoundAmong texts) (found_copy text) (copies (bytes_of text))
    (All-weaker (Contains (copies (bytes_of text)))
    (λ (copy : Copy). IsFoundAmong texts (found_copy text copy))
    (λ copy here setting. record {
      text = bytes_of text;
      among = among;
      found = copy;
      here = here;
      identity = refl;
      how =
          refl;
      same = refl;
    })
    (copies (bytes_of text)) (All-contains_itself (copies (bytes_of text))))

of_none : (texts : List (List ℕ)) → All (IsFoundAmong texts) (all_in [])
unfolding bytes_of copies headers beginnings header_at_end identity_read
of_none texts = All-nil (IsFoundAmong texts)

of_past : (bits : List Bool) (locks : List Lock) (texts : List (List ℕ))
    → ((text : List ℕ) → Contains (past_texts bits locks) text → Contains texts text)
    → All (IsFoundAmong texts) (past_copies bits locks)
unfolding past_copies past_texts shown_text
of_past bits [] texts into = All-nil (IsFoundAmong texts)
of_past bits (lock ∷ older) texts into =
    All-append (IsFoundAmong texts) (past_copies bits older) (all_in (past_text bits lock))
    (of_past bits older texts
    (λ text there. into text (Contains-append_left (past_texts bits older)
    (shown_text bits lock.at (lock.last + 1) ∷ []) text there)))
    (of_text texts (past_text bits lock)
    (into (shown_text bits lock.at (lock.last + 1))
    (Contains-push (past_texts bits older) (shown_text bits lock.at (lock.last + 1)))))

of_now : (bits : List Bool) (now : Now) (texts : List (List ℕ))
    → ((text : List ℕ) → Contains (now_texts bits now) text → Contains texts text)
    → All (IsFoundAmong texts) (all_in (standing_text bits now))
unfolding shown_text
of_now bits (hunting p) texts into = of_none texts
of_now bits (locked p t) texts into =
    of_text texts (lock_text bits t (whole_words bits t))
    (into (shown_text bits t (whole_words bits t))
    (Contains-push [] (shown_text bits t (whole_words bits t))))

all_found : (bits : List Bool) (locks : List Lock) (now : Now)
    → All (IsFoundAmong (shown_texts bits locks now)) (found_to_end bits locks now)
unfolding found_to_end
all_found bits locks now =
    All-append (IsFoundAmong (shown_texts bits locks now)) (past_copies bits locks)
    (all_in (standing_text bits now))
    (of_past bits locks (shown_texts bits locks now)
    (λ text there. Contains-append_left (past_texts bits locks) (now_texts bits now) text
    there))
    (of_now bits now (shown_texts bits locks now)
    (λ text there. Contains-append_right (past_texts bits locks) (now_texts bits now) text
    there))

all_tagged : (first : Setting) (events : List Event) (texts : List (List ℕ))
    (found : List FoundCopy) → All (IsFoundAmong texts) found
    → All (IsCopyAmong texts) (tagged_copies first events found)
unfolding tagged_copies
all_tagged first events texts found all =
    All-map (IsCopyAmong texts) (λ copy. tag (setting_at first events copy.place) copy) found
    (All-weaker (IsFoundAmong texts)
    (λ (copy : FoundCopy). IsCopyAmong texts (tag (setting_at first events copy.place) copy))
    (λ copy of_each. of_each (setting_at first events copy.place)) found all)

-- each copy of a log on channel 0 is one of the texts of the locks
pub copy-among : (starts : Starts) (file report log : List ℕ) (lines other : List Line)
    (printed : List MarkedCopy) (copy : TaggedCopy) → IsLogOfFile starts file lines printed log
    → (shown : IsReportOfFile file other report) → Contains (copies_on Zero printed) copy
    → IsCopyAmong (shown_texts (elements_on_0 other) shown.report.locks shown.report.now) copy
copy-among starts file report log lines other printed copy heard shown there =
    let p = to_end-on starts (given_by lines) printed Zero heard.printed in
    let first = first_setting (start_on starts Zero) in
    let events = events_on Zero lines in
    let bits = elements_among events in
    let texts = shown_texts bits p.locks p.now in
    let all : All (IsCopyAmong texts) (copies_on Zero printed) =
    subst (All (IsCopyAmong texts)) (sym p.printed)
    (all_printed (IsCopyAmong texts) (start_on starts Zero).entries
    (tagged_copies first events (found_to_end bits p.locks p.now))
    (all_tagged first events texts (found_to_end bits p.locks p.now)
    (all_found bits p.locks p.now))) in
    let same : lines ≡ other = IsAirFile-unique air_limit file lines other heard.file shown.file in
    let stands = subst (λ l. IsNow (elements_on_0 l) p.locks p.now) same p.stands in
    let locks = locks-unique (elements_on_0 other) p.locks shown.report.locks p.now shown.report.now
    stands shown.report.stands in
    let now = now-unique (elements_on_0 other) p.locks shown.report.locks p.now shown.report.now
    stands shown.report.stands in
    subst (λ (t : List (List ℕ)). IsCopyAmong t copy)
    (ap (λ l. shown_texts (elements_on_0 l) p.locks p.now) same
    ∙ ap₂ (shown_texts (elements_on_0 other)) locks now)
    (All-contains (IsCopyAmong texts) (copies_on Zero printed) copy all there)

-- a text that stands in a part stands in the whole
in_part : (text part front back whole : List ℕ) → whole ≡ front ++ part ++ back → StandsIn text part
    → StandsIn text whole
in_part text part front back whole e s = record {
  before = front ++ s.before;
  after = s.after ++ back;
  whole = e ∙ ap (λ p. front ++ p ++ back) s.whole ∙ parts front s.before text s.after back;
}
  where
    parts : (a b c d e : List ℕ) → a ++ (b ++ c ++ d) ++ e ≡ (a ++ b) ++ c ++ (d ++ e)
    parts a b c d e = simp append_assoc

in_shown : (bits : List Bool) (moments : List ℕ) (t n : ℕ) (how : Change) (moment : ℕ)
    (bytes : List ℕ) → IsShown bits moments t n how moment bytes
    → StandsIn (shown_text bits t n) bytes
in_shown bits moments t n how moment bytes s = record {
  before = s.opens.opening;
  after = missing_newline (shown_text bits t n) ++ s.closing;
  whole = s.spelled ∙ ap (λ o. o ++ missing_newline (shown_text bits t n) ++ s.closing)
      s.opens.spelled
      ∙ append_assoc (s.opens.opening ++ shown_text bits t n)
      (missing_newline (shown_text bits t n)) s.closing;
}

in_past : (bits : List Bool) (moments : List ℕ) (locks : List Lock) (bytes text : List ℕ)
    → AreShown bits moments locks bytes → Contains (past_texts bits locks) text
    → StandsIn text bytes
unfolding AreShown past_texts
in_past bits moments [] bytes text shown there = absurd (omega (arith, there.1))
in_past bits moments (lock ∷ older) bytes text shown there =
    elim (Contains-push_cases (past_texts bits older) (shown_text bits lock.at (lock.last + 1)) text
    there) [
      | inl before ↦ in_part text shown.0 [] shown.1 bytes shown.4
          (in_past bits moments older shown.0 text shown.2 before)
      | inr this ↦ in_part text shown.1 shown.0 [] bytes
          (shown.4 ∙ sym (append-nil (shown.0 ++ shown.1)))
          (subst (λ x. StandsIn x shown.1) this
          (in_shown bits moments lock.at (lock.last + 1) lock.how _ shown.1 shown.3))
    ]

in_now : (bits : List Bool) (moments : List ℕ) (ending : ℕ) (now : Now) (bytes text : List ℕ)
    → IsEndShown bits moments ending now bytes → Contains (now_texts bits now) text
    → StandsIn text bytes
in_now bits moments ending (hunting p) bytes text shown there = absurd (omega (arith, there.1))
in_now bits moments ending (locked p t) bytes text shown there =
    elim (Contains-push_cases [] (shown_text bits t (whole_words bits t)) text there) [
      | inl before ↦ absurd (omega (arith, before.1))
      | inr this ↦ subst (λ x. StandsIn x bytes) this
          (in_shown bits moments t (whole_words bits t) Locked ending bytes shown)
    ]

-- each text of the locks stands in the report
pub text-stands : (bits : List Bool) (moments : List ℕ) (ending : ℕ) (report text : List ℕ)
    (shown : IsReport bits moments ending report)
    → Contains (shown_texts bits shown.locks shown.now) text → StandsIn text report
text-stands bits moments ending report text shown there =
    elim (Contains-append_cases (past_texts bits shown.locks) (now_texts bits shown.now) text
    there) [
      | inl past ↦ in_part text shown.past [] _ report
          (shown.spelled ∙ append_assoc shown.past shown.rest _)
          (in_past bits moments shown.locks shown.past text shown.shown past)
      | inr now ↦ in_part text shown.rest shown.past _ report shown.spelled
          (in_now bits moments ending shown.now shown.rest text shown.standing now)
    ]
