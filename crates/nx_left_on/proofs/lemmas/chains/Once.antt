-- Over a chain of watches a message that is heard in time on a channel is put once there.
use Rattle.std.proofs.Common.{◌≡◌, ℕ, zero, suc, ◌+◌, ◌-◌, ◌<◌, ◌==◌, true, false, Bool, ◌&&◌, ◌||◌, List}
use Rattle.std.proofs.Common.{[], ◌∷◌, ◌++◌, length, map, filter, get_or, refl, sym, ap, ap₂, ◌∙◌, subst}
use Rattle.std.proofs.Common.{arith, IsTrue, eq-eqb, nat_lt}
use Rattle.std.specs.List.{All, Contains}
use Rattle.std.proofs.lemmas.List.Elements.{All-append, All-contains, All-contains_itself, All-cons}
use Rattle.std.proofs.lemmas.List.Elements.{All-drop, All-filter, All-head, All-map, All-nil}
use Rattle.std.proofs.lemmas.List.Elements.{All-tail, All-weaker}
use Rattle.std.proofs.lemmas.List.Elements.{Contains-append_left, Contains-append_right}
use Rattle.nx_code.specs.Lists.{Begins, last_of}
use Rattle.nx_envelope.specs.Copies.{errors_of}
use Rattle.nx_envelope.specs.Identity.{same_identity}
use Rattle.nx_envelope.specs.Message.{MessageView, text_of}
use Rattle.nx_envelope.specs.declared.identity.Identity.{Identity}
use Rattle.nx_envelope.proofs.lemmas.headers.Identities.{same_identity-true, same_itself}
use Rattle.nx_fec.specs.declared.air_files.channel.Channel.{Channel}
use Rattle.nx_log.specs.Logged.{memory_entries}
use Rattle.nx_log.proofs.lemmas.runs.Remembering.{made_is_kept}
use Rattle.nx_memory.specs.Memory.{is_known, most_entries, seconds_known}
use Rattle.nx_memory.specs.declared.memories.entry.MemoryEntry.{MemoryEntry}
use Rattle.nx_station.specs.reception.Sendings.{IsCut, IsSentAt, Part, Sending}
use Rattle.nx_sync.specs.Locks.{IsNow}
use Rattle.nx_sync.proofs.lemmas.states.StateChanges.{standing_after}
use Rattle.nx_copies.specs.laws.Emissions.{copies_at, copy_of_sending}
use Rattle.nx_copies.specs.Events.{Event, elements_among}
use Rattle.nx_copies.specs.copies.FoundCopies.{FoundCopy, TaggedCopy, ended_so_far, found_to_end, tag}
use Rattle.nx_copies.specs.copies.FoundCopies.{tagged_copies}
use Rattle.nx_receiver.specs.air_file_runs.Listen.{events_on}
use Rattle.nx_copies.specs.laws.Once.{IsPrintedOnce}
use Rattle.nx_copies.specs.copies.Printing.{copies_of, entries_after, entries_made, is_good}
use Rattle.nx_copies.specs.copies.Printing.{printed_copies}
use Rattle.nx_copies.specs.copies.Shares.{MarkedCopy, copies_on}
use Rattle.nx_copies.proofs.lemmas.emissions.Found.{one_ended, sending_errors, sending_found}
use Rattle.nx_copies.proofs.lemmas.emissions.Places.{found_rise}
use Rattle.nx_copies.proofs.lemmas.locks.Found.{IsCopyIn}
use Rattle.nx_copies.proofs.lemmas.locks.Growing.{ended_go_on}
use Rattle.nx_copies.proofs.lemmas.once.Found.{contains_filter, has_first, no_errors-good}
use Rattle.nx_copies.proofs.lemmas.once.Rising.{contains_map, one_of_key}
use Rattle.nx_copies.proofs.lemmas.printing.Logged.{ended_placed}
use Rattle.nx_memory.specs.Content.{is_last_known, passing}
use Rattle.nx_watch.specs.Start.{is_in_order, is_near}
use Rattle.nx_memory.proofs.lemmas.Renewed.{All-passing}
use Rattle.nx_left_on.specs.Chain.{ClocksAreNear, HadEnded, IsChain, Judges, Watch}
use Rattle.nx_left_on.specs.Chain.{all_copies, all_put, copies_in, events_in}
use Rattle.nx_left_on.specs.LeftOn.{CutWatch, HasEndedAt, IsHeardInTimeOver, IsSentIn}
use Rattle.nx_left_on.specs.LeftOn.{IsUnknownOver, elements_in, in_force_in}
use Rattle.nx_left_on.proofs.lemmas.chains.Chains.{entries_on, start-is}
use Rattle.nx_left_on.proofs.lemmas.chains.First.{IsRecentTo, first-put}
use Rattle.nx_left_on.proofs.lemmas.chains.Found.{ended-begin, ended-found, found-within, some-ended}
use Rattle.nx_left_on.proofs.lemmas.entries.Judging.{events_on-append}
use Rattle.nx_left_on.proofs.lemmas.entries.Keeping.{all-kept, all-other}
use Rattle.nx_left_on.proofs.lemmas.chains.Links.{HasFirst, all-back, chain-back, chain-front}
use Rattle.nx_left_on.proofs.lemmas.chains.Links.{copies-append, copies_of-append, find-first, none-parts}
use Rattle.nx_left_on.proofs.lemmas.chains.Links.{none-put}
use Rattle.nx_copies.proofs.lemmas.printing.Laws.{all-front}
use Rattle.nx_copies.proofs.lemmas.once.Repeats.{before_prints}

-- ---- lists

contains-front : {A : Type 0} (front all : List A) (x : A) → Begins front all → Contains front x
    → Contains all x
contains-front front all x b c =
    subst (λ l. Contains l x) (sym b.1) (Contains-append_left front b.0 x c)

contains-only : {A : Type 0} (one other : A) → Contains (one ∷ []) other → other ≡ one
contains-only one other c = at one other c.0 c.1 c.2
  where
    at : {A : Type 0} (one other : A) (k : ℕ) → k < length (one ∷ [])
        → get_or (one ∷ []) k other ≡ other → other ≡ one
    at one other zero lt e = sym e
    at one other (suc k) lt e = absurd (omega arith)

-- ---- one copy at a place

-- of copies one of which stands alone at its place, another that stands there is that one
only-at : (copies : List FoundCopy) (one other : FoundCopy) (place : ℕ)
    → copies_at place copies ≡ one ∷ [] → Contains copies other → other.place ≡ place
    → other ≡ one
unfolding copies_at
only-at copies one other place alone there here =
    contains-only one other
    (subst (λ l. Contains l other) alone
    (contains_filter (λ (c : FoundCopy). c.place == place) copies other there
    (eq-eqb other.place place here)))

-- a copy that had ended at the place of a sending is the copy of the sending, whatever came later
ended-is : (bits unheard : List Bool) (events : List Event) (parts : List Part)
    (message : MessageView) (ended : List FoundCopy) (copy : FoundCopy) (place : ℕ)
    → elements_among events ≡ bits → HadEnded events ended → IsCut (bits ++ unheard) parts
    → IsSentAt parts message place → Contains ended copy → copy.place ≡ place
    → copy ≡ copy_of_sending (record { message = message; place = place })
ended-is bits unheard events parts message ended copy place are h cut sent there here =
    let all = bits ++ unheard in
    let s = standing_after all in
    let sending : Sending = record { message = message; place = place } in
    let on = ended_go_on bits unheard h.locks s.locks h.now s.now
    (subst (λ (those : List Bool). IsNow those h.locks h.now) are h.stands) s.stands in
    let whole : ended ≡ ended_so_far bits h.locks h.now =
    h.whole ∙ ap (λ those. ended_so_far those h.locks h.now) are in
    only-at (ended_so_far all s.locks s.now) (copy_of_sending sending) copy place
    (one_ended all parts sending s.locks s.now cut sent s.stands)
    (contains-front ended (ended_so_far all s.locks s.now) copy
    (on.rest, on.whole ∙ ap (λ l. l ++ on.rest) (sym whole)) there) here

-- a sending whose emission is heard whole has ended
pub whole-ended : (events : List Event) (parts : List Part) (message : MessageView) (place : ℕ)
    → IsCut (elements_among events) parts → IsSentAt parts message place → HasEndedAt events place
whole-ended events parts message place cut sent =
    let s = some-ended events in
    let sending : Sending = record { message = message; place = place } in
    record {
      copies = s.0;
      ended = s.1;
      copy = copy_of_sending sending;
      there = subst (λ l. Contains l (copy_of_sending sending)) (sym s.1.whole)
          (sending_found (elements_among events) parts sending s.1.locks s.1.now cut sent
          s.1.stands);
      here = refl;
    }

-- ---- the watches of a chain

abbrev watches_of : List CutWatch → List Watch
watches_of cuts = map (λ (cut : CutWatch). cut.watch) cuts

abbrev JudgesOn : Channel → CutWatch → Type 0
JudgesOn channel cut = Judges channel cut.watch

chain-judges : (channel : Channel) (log : List MarkedCopy) (cuts : List CutWatch)
    → IsChain log (watches_of cuts) → All (JudgesOn channel) cuts
chain-judges channel log [] chain = All-nil (JudgesOn channel)
chain-judges channel log (cut ∷ cuts) chain =
    All-cons (JudgesOn channel) cut cuts (chain.0.judges channel)
    (chain-judges channel (log ++ cut.watch.put) cuts chain.1)

-- a copy of one of the watches is among all
in-all : (channel : Channel) (cuts : List CutWatch) (cut : CutWatch) (copy : TaggedCopy)
    → Contains cuts cut → Contains (copies_in channel cut.watch) copy
    → Contains (all_copies channel (watches_of cuts)) copy
in-all channel cuts cut copy c d = at cuts cut copy c.0 c.1 c.2 d
  where
    at : (cuts : List CutWatch) (cut : CutWatch) (copy : TaggedCopy) (k : ℕ) → k < length cuts
        → get_or cuts k cut ≡ cut → Contains (copies_in channel cut.watch) copy
        → Contains (all_copies channel (watches_of cuts)) copy
    at [] cut copy k lt e d = absurd (omega arith)
    at (x ∷ cuts) cut copy zero lt e d =
        Contains-append_left (copies_in channel x.watch) (all_copies channel (watches_of cuts)) copy
        (subst (λ (y : CutWatch). Contains (copies_in channel y.watch) copy) (sym e) d)
    at (x ∷ cuts) cut copy (suc k) lt e d =
        Contains-append_right (copies_in channel x.watch) (all_copies channel (watches_of cuts))
        copy (at cuts cut copy k (omega arith) e d)

-- where the log was empty, no entry is live at the first copy of an identity
known-none : (identity : Identity) (moment : ℕ) (entries : List MemoryEntry)
    → All (λ entry. same_identity entry.identity identity ≡ false) entries
    → is_known identity moment entries ≡ false
known-none identity moment [] all = refl
known-none identity moment (entry ∷ entries) all =
    ap₂ (λ a b. a || b)
    (ap (λ b. b && nat_lt (moment - entry.moment) seconds_known)
    (All-head (λ (it : MemoryEntry). same_identity it.identity identity ≡ false) entry entries all))
    (known-none identity moment entries
    (All-tail (λ (it : MemoryEntry). same_identity it.identity identity ≡ false) entry entries all))

-- no entry of these bears the identity
abbrev Lacks : Identity → MemoryEntry → Type 0
Lacks identity entry = same_identity entry.identity identity ≡ false

lacks-kept : (identity : Identity) (copies : List TaggedCopy) → copies_of identity copies ≡ []
    → All (Lacks identity) (memory_entries copies)
lacks-kept identity copies none =
    all-kept (Lacks identity) copies (all-other identity copies none)

pub unknown-from_nothing : (watches : List Watch) (channel : Channel) (identity : Identity)
    → IsChain [] watches → IsUnknownOver channel watches identity
unknown-from_nothing watches channel identity chain first named none =
    let parts = none-parts (copies_of identity (all_copies channel first.before))
    (copies_of identity first.earlier)
    (sym (copies_of-append identity (all_copies channel first.before) first.earlier) ∙ none) in
    let whole = subst (IsChain []) first.among chain in
    let goes = (chain-back [] first.before (first.watch ∷ first.after) whole).0 in
    let known = first.watch.starts.entries channel in
    let put = all_put first.before in
    let on = entries_on channel put in
    let of_log : All (Lacks identity) on =
    lacks-kept identity (copies_on channel put)
    (none-put channel identity [] first.before
    (chain-front [] first.before (first.watch ∷ first.after) whole) parts.0) in
    let last = last_of most_entries on in
    let near = filter (is_near first.watch.moment) last in
    let of_start : All (Lacks identity) known =
    subst (All (Lacks identity)) (sym (start-is channel put first.watch goes))
    (All-passing (Lacks identity) is_last_known (passing is_in_order near)
    (All-passing (Lacks identity) is_in_order near
    (All-filter (is_near first.watch.moment) (Lacks identity) last
    (All-drop (Lacks identity) (length on - most_entries) on of_log)))) in
    let of_made : All (Lacks identity) (entries_made known first.earlier) =
    subst (All (Lacks identity)) (sym (made_is_kept known first.earlier))
    (lacks-kept identity (printed_copies known first.earlier)
    (before_prints identity known first.earlier parts.1)) in
    let entries = entries_after known first.earlier in
    let same = same_identity-true first.copy.identity identity named in
    ap (λ (x : Identity). is_known x first.copy.moment (last_of most_entries entries)) same
    ∙ known-none identity first.copy.moment (last_of most_entries entries)
    (All-drop (Lacks identity) (length entries - most_entries) entries
    (All-append (Lacks identity) known (entries_made known first.earlier) of_start of_made))

module _ (log : List MarkedCopy) (watches : List Watch) (channel : Channel) (message : MessageView)
    (chain : IsChain log watches) (clocks : ClocksAreNear channel log watches)
    (h : IsHeardInTimeOver channel watches message) where
  each_judges : All (JudgesOn channel) h.cuts
  each_judges = chain-judges channel log h.cuts (subst (IsChain log) h.whole chain)

  judges_in : (cut : CutWatch) → Contains h.cuts cut → JudgesOn channel cut
  judges_in cut there = All-contains (JudgesOn channel) h.cuts cut each_judges there

  abbrev heard : List TaggedCopy
  heard = all_copies channel (watches_of h.cuts)

  heard_is : all_copies channel watches ≡ heard
  heard_is = ap (all_copies channel) h.whole

  -- the copy of a sending of the message at a place
  abbrev sent_copy : ℕ → FoundCopy
  sent_copy place = copy_of_sending (record { message = message; place = place })

  -- and with what is in force there
  abbrev copy_at : CutWatch → ℕ → TaggedCopy
  copy_at cut place = tag (in_force_in channel cut place) (sent_copy place)

  -- each copy that bears the identity is that of a sending of the message in one of the watches
  record IsOfSending (copy : TaggedCopy) : Type 0 where
    cut : CutWatch
    place : ℕ
    sent : IsSentIn channel h.cuts message cut place
    is : copy ≡ copy_at cut place

  abbrev IfNamed : TaggedCopy → Type 0
  IfNamed copy = same_identity copy.identity message.identity ≡ true → IsOfSending copy

  -- a copy that had ended in a watch at the place of a sending
  ended_in : (cut : CutWatch) → Contains h.cuts cut → (ended : List FoundCopy) (copy : FoundCopy)
      (place : ℕ) → HadEnded (events_in channel cut.watch) ended
      → IsSentAt cut.parts message place → Contains ended copy → copy.place ≡ place
      → copy ≡ sent_copy place
  ended_in cut among ended copy place had sent there here =
      ended-is (elements_in channel cut.watch) cut.unheard (events_in channel cut.watch) cut.parts
      message ended copy place refl had (h.cut cut among) sent there here

  -- what has ended at a place of a watch is what is found there
  found_is : (cut : CutWatch) → Contains h.cuts cut → (copy : FoundCopy)
      → Contains (cut.watch.found channel) copy
      → (e : HasEndedAt (events_in channel cut.watch) copy.place) → e.copy ≡ copy
  unfolding copies_at
  found_is cut among copy there e =
      let found = cut.watch.found channel in
      let events = events_in channel cut.watch in
      let bits = elements_in channel cut.watch in
      let j = judges_in cut among in
      let w = found-within cut.watch.ending events found j.found in
      let all = found_to_end bits w.locks w.now in
      only-at all copy e.copy copy.place
      (one_of_key (λ (c : FoundCopy). c.place) all copy (found_rise bits w.locks w.now w.stands)
      (contains-front found all copy w.begins there))
      (contains-front found all e.copy w.begins
      (contains-front e.copies found e.copy
      (ended-found cut.watch.ending events e.copies found e.ended j.found) e.there))
      e.here

  placed_in : (cut : CutWatch) (ended : List FoundCopy) (copy : FoundCopy)
      → HadEnded (events_in channel cut.watch) ended → Contains ended copy
      → copy.place < length (elements_in channel cut.watch)
  placed_in cut ended copy had there =
      let bits = elements_in channel cut.watch in
      (All-contains (IsCopyIn 0 (length bits)) ended copy
      (subst (All (IsCopyIn 0 (length bits))) (sym had.whole)
      (ended_placed bits had.locks had.now had.stands)) there).1

  of_found : (cut : CutWatch) → Contains h.cuts cut → (copy : FoundCopy)
      → Contains (cut.watch.found channel) copy
      → same_identity copy.identity message.identity ≡ true
      → IsOfSending (tag (in_force_in channel cut copy.place) copy)
  of_found cut among copy there named =
      let a = h.alone cut copy among there
      (same_identity-true copy.identity message.identity named) in
      let e = a.1 in
      let same = found_is cut among copy there e in
      let inside : Contains e.copies copy = subst (Contains e.copies) same e.there in
      record {
        cut = cut;
        place = copy.place;
        sent = record {
          among = among;
          sent = a.0;
          heard = placed_in cut e.copies copy e.ended inside;
        };
        is = ap (tag (in_force_in channel cut copy.place))
            (ended_in cut among e.copies copy copy.place e.ended a.0 inside refl);
      }

  of_watch : (cut : CutWatch) → Contains h.cuts cut → All IfNamed (copies_in channel cut.watch)
  unfolding tagged_copies tag
  of_watch cut among =
      let judged = cut.watch.judged channel in
      All-map IfNamed (λ (copy : FoundCopy). tag (in_force_in channel cut copy.place) copy) judged
      (All-weaker (Contains judged)
      (λ (copy : FoundCopy). same_identity copy.identity message.identity ≡ true
      → IsOfSending (tag (in_force_in channel cut copy.place) copy))
      (λ copy there named. of_found cut among copy
      (contains-front judged (cut.watch.found channel) copy (judges_in cut among).begins there)
      named) judged
      (All-contains_itself judged))

  of_watches : (cuts : List CutWatch) → All (Contains h.cuts) cuts
      → All IfNamed (all_copies channel (watches_of cuts))
  of_watches [] among = All-nil IfNamed
  of_watches (cut ∷ cuts) among =
      All-append IfNamed (copies_in channel cut.watch) (all_copies channel (watches_of cuts))
      (of_watch cut (All-head (Contains h.cuts) cut cuts among))
      (of_watches cuts (All-tail (Contains h.cuts) cut cuts among))

  all_named : All IfNamed (all_copies channel watches)
  all_named =
      subst (All IfNamed) (sym heard_is) (of_watches h.cuts (All-contains_itself h.cuts))

  -- the copy of the sending that ends in lines behind which its watch read on was judged
  sure_judged : Contains (h.at.watch.judged channel) (sent_copy h.place)
  sure_judged =
      let watch = h.at.watch in
      let e = h.surely in
      let sure = events_on channel watch.sure in
      let more = events_on channel watch.more in
      let both = events_on-append channel watch.sure watch.more in
      let all = some-ended (events_in channel watch) in
      let front = ended-begin sure more e.copies all.0 e.ended
      (subst (λ events. HadEnded events all.0) both all.1) in
      let is = ended_in h.at h.sent.among all.0 e.copy h.place all.1 h.sent.sent
      (contains-front e.copies all.0 e.copy front e.there) e.here in
      subst (Contains (watch.judged channel)) is
      (contains-front e.copies (watch.judged channel) e.copy
      ((judges_in h.at h.sent.among).surely e.copies e.ended) e.there)

  some_heard : Contains (copies_of message.identity heard) (copy_at h.at h.place)
  unfolding copies_of tagged_copies tag
  some_heard =
      contains_filter (λ (c : TaggedCopy). same_identity c.identity message.identity) heard
      (copy_at h.at h.place)
      (in-all channel h.cuts h.at (copy_at h.at h.place) h.sent.among
      (contains_map (λ (copy : FoundCopy). tag (in_force_in channel h.at copy.place) copy)
      (h.at.watch.judged channel) (sent_copy h.place) sure_judged))
      (same_itself message.identity)

  no_errors : errors_of (text_of message.lines) ≡ 0
  no_errors =
      sending_errors (elements_in channel h.at.watch ++ h.at.unheard) h.at.parts
      (record { message = message; place = h.place }) (h.cut h.at h.sent.among) h.sent.sent

  good_of : (copy : TaggedCopy) → IsOfSending copy → IsTrue (is_good copy)
  unfolding tag
  good_of copy o = ap is_good o.is ∙ no_errors-good (text_of message.lines) no_errors

  selected_of : (copy : TaggedCopy) → IsOfSending copy → IsTrue copy.selected
  unfolding tag
  selected_of copy o = ap (λ (c : TaggedCopy). c.selected) o.is ∙ h.selected o.cut o.place o.sent

  close_of : (one other : TaggedCopy) → IsOfSending one → IsOfSending other
      → one.moment < other.moment + seconds_known
  unfolding tag
  close_of one other o p =
      let near = h.close o.cut p.cut o.place p.place o.sent p.sent in
      let m : one.moment ≡ (in_force_in channel o.cut o.place).moment =
      ap (λ (c : TaggedCopy). c.moment) o.is in
      let n : other.moment ≡ (in_force_in channel p.cut p.place).moment =
      ap (λ (c : TaggedCopy). c.moment) p.is in
      omega arith

  -- the first copy of the identity
  abbrev named_copies : List TaggedCopy
  named_copies = copies_of message.identity heard

  first_of : HasFirst channel watches message.identity
  first_of =
      let some = has_first named_copies (copy_at h.at h.place) some_heard in
      find-first channel watches message.identity some.first some.rest
      (ap (copies_of message.identity) heard_is ∙ some.whole)

  pub put-once : IsPrintedOnce message (copies_on channel (all_put watches))
  unfolding tag
  put-once =
      let f = first_of in
      let at = f.at in
      let parts : All IfNamed (all_copies channel at.before
      ++ (copies_in channel at.watch ++ all_copies channel at.after)) =
      subst (All IfNamed)
      (ap (all_copies channel) at.among ∙ copies-append channel at.before (at.watch ∷ at.after))
      all_named in
      let behind = all-back IfNamed (all_copies channel at.before)
      (copies_in channel at.watch ++ all_copies channel at.after) parts in
      let here : All IfNamed (at.earlier ++ at.copy ∷ at.later) =
      subst (All IfNamed) at.judged
      (all-front IfNamed (copies_in channel at.watch) (all_copies channel at.after) behind) in
      let from = all-back IfNamed at.earlier (at.copy ∷ at.later) here in
      let of : IsOfSending at.copy = All-head IfNamed at.copy at.later from f.named in
      let recent : (copies : List TaggedCopy) → All IfNamed copies
      → All (IsRecentTo message.identity at.copy) copies =
      λ copies all. All-weaker IfNamed (IsRecentTo message.identity at.copy)
      (λ copy is bearing. close_of copy at.copy (is bearing) of) copies all in
      let numbered : 0 < message.identity.number = omega (arith, h.numbered) in
      let one = first-put log watches channel message.identity chain clocks h.unknown h.few
      numbered f (good_of at.copy of) (selected_of at.copy of)
      (recent at.later (All-tail IfNamed at.copy at.later from))
      (recent (all_copies channel at.after)
      (all-back IfNamed (copies_in channel at.watch) (all_copies channel at.after) behind)) in
      let text : at.copy.text ≡ text_of message.lines =
      ap (λ (c : TaggedCopy). c.text) of.is in
      record {
        copy = at.copy;
        one = one;
        full = ap (λ (c : TaggedCopy). c.how) of.is;
        whole = ap errors_of text ∙ no_errors;
        letters = text;
      }
