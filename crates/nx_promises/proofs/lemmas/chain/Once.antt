-- Over a chain of runs a message that is heard in time on a channel is printed once there.
use Rattle.std.proofs.Common.{◌≡◌, ℕ, zero, suc, ◌+◌, ◌<◌, true, List, [], ◌∷◌, length, map, get_or}
use Rattle.std.proofs.Common.{refl, sym, ap, ◌∙◌, subst, arith, IsTrue}
use Rattle.std.specs.List.{All, Contains}
use Rattle.std.proofs.lemmas.List.Elements.{All-append, All-contains, All-contains_itself, All-cons}
use Rattle.std.proofs.lemmas.List.Elements.{All-head, All-map, All-nil, All-tail, All-weaker}
use Rattle.std.proofs.lemmas.List.Elements.{Contains-append_left, Contains-append_right}
use Rattle.nx_envelope.specs.Copies.{errors_of}
use Rattle.nx_envelope.specs.Identity.{same_identity}
use Rattle.nx_envelope.specs.Message.{text_of, MessageView}
use Rattle.nx_envelope.proofs.lemmas.headers.Identities.{same_identity-true, same_itself}
use Rattle.nx_memory.specs.Saved.{SavedStates}
use Rattle.nx_memory.specs.Memory.{seconds_known}
use Rattle.nx_memory.specs.declared.memories.entry.MemoryEntry.{MemoryEntry}
use Rattle.nx_fec.specs.declared.air_files.channel.Channel.{Channel}
use Rattle.nx_fec.specs.declared.air_files.channel.Channel.TheVariants.{Zero, One, Two}
use Rattle.nx_station.specs.reception.Sendings.{Sending}
use Rattle.nx_receiver.specs.air_file_runs.Chain.{IsChain, Run, all_copies, all_printed, copies_in}
use Rattle.nx_receiver.specs.air_file_runs.Chain.{events_in}
use Rattle.nx_promises.specs.laws.ChainOnce.{CutRun, IsHeardInTimeOver, IsSentIn, in_force_in}
use Rattle.nx_copies.specs.Events.{elements_among}
use Rattle.nx_copies.specs.copies.FoundCopies.{AreFoundIn, FoundCopy, found_to_end, TaggedCopy, tag, tagged_copies}
use Rattle.nx_copies.specs.laws.LawTerms.{AreRepeats}
use Rattle.nx_copies.specs.copies.Printing.{copies_of, is_good, printed_copies}
use Rattle.nx_copies.specs.laws.Once.{FewBetween, IsPrintedOnce, IsUnknownAtFirst}
use Rattle.nx_copies.specs.laws.Emissions.{copies_at, copy_of_sending}
use Rattle.nx_copies.specs.copies.Shares.{copies_on, none_saved, saved_of}
use Rattle.nx_receiver.proofs.lemmas.chain.Runs.{chain_prints}
use Rattle.nx_copies.proofs.lemmas.once.Found.{contains_filter, filter_all, has_first}
use Rattle.nx_copies.proofs.lemmas.once.Found.{no_errors-good}
use Rattle.nx_copies.proofs.lemmas.once.Repeats.{none_live, once}
use Rattle.nx_copies.proofs.lemmas.once.Rising.{contains_map, one_of_key}
use Rattle.nx_copies.proofs.lemmas.emissions.Found.{one_found, sending_errors, sending_in_end}
use Rattle.nx_copies.proofs.lemmas.emissions.Places.{found_rise}

-- the copies of each run of a chain on a channel are those that are found in its elements there
abbrev pub IsFound : Channel → CutRun → Type 0
IsFound channel cut = AreFoundIn (events_in channel cut.run) (cut.run.found channel)

abbrev runs_of : List CutRun → List Run
runs_of cuts = map (λ (cut : CutRun). cut.run) cuts

chain_found : (channel : Channel) (first : SavedStates) (cuts : List CutRun) (last : SavedStates)
    → IsChain first (runs_of cuts) last → All (IsFound channel) cuts
chain_found channel first [] last chain = All-nil (IsFound channel)
chain_found channel first (cut ∷ cuts) last chain =
    All-cons (IsFound channel) cut cuts (chain.1.found channel)
    (chain_found channel chain.0 cuts last chain.2)

-- a copy of one of the runs is among all
in_all : (channel : Channel) (cuts : List CutRun) (cut : CutRun) (copy : TaggedCopy)
    → Contains cuts cut → Contains (copies_in channel cut.run) copy
    → Contains (all_copies channel (runs_of cuts)) copy
in_all channel cuts cut copy c d = at cuts cut copy c.0 c.1 c.2 d
  where
    at : (cuts : List CutRun) (cut : CutRun) (copy : TaggedCopy) (k : ℕ) → k < length cuts
        → get_or cuts k cut ≡ cut → Contains (copies_in channel cut.run) copy
        → Contains (all_copies channel (runs_of cuts)) copy
    at [] cut copy k lt e d = absurd (omega arith)
    at (x ∷ cuts) cut copy zero lt e d =
        Contains-append_left (copies_in channel x.run) (all_copies channel (runs_of cuts)) copy
        (subst (λ (y : CutRun). Contains (copies_in channel y.run) copy) (sym e) d)
    at (x ∷ cuts) cut copy (suc k) lt e d =
        Contains-append_right (copies_in channel x.run) (all_copies channel (runs_of cuts)) copy
        (at cuts cut copy k (omega arith) e d)

-- where nothing was saved, no entry is live of those that were saved at first
pub unknown_from_nothing : (channel : Channel) (runs : List Run) (message : MessageView)
    → IsUnknownAtFirst (saved_of none_saved channel).entries message.identity
    (all_copies channel runs)
unknown_from_nothing Zero runs message = none_live message.identity (all_copies Zero runs)
unknown_from_nothing One runs message = none_live message.identity (all_copies One runs)
unknown_from_nothing Two runs message = none_live message.identity (all_copies Two runs)

module _ (channel : Channel) (first last : SavedStates) (runs : List Run) (message : MessageView)
    (chain : IsChain first runs last) (h : IsHeardInTimeOver channel first runs message) where
  abbrev begun : List MemoryEntry
  begun = (saved_of first channel).entries

  each_found : All (IsFound channel) h.cuts
  each_found = chain_found channel first h.cuts last
      (subst (λ (rs : List Run). IsChain first rs last) h.whole chain)

  found_in : (cut : CutRun) → Contains h.cuts cut → IsFound channel cut
  found_in cut there = All-contains (IsFound channel) h.cuts cut each_found there

  abbrev heard : List TaggedCopy
  heard = all_copies channel (runs_of h.cuts)

  heard_is : all_copies channel runs ≡ heard
  heard_is = ap (all_copies channel) h.whole

  -- the copy of a sending of the message, with what is in force there
  abbrev copy_at : CutRun → ℕ → TaggedCopy
  copy_at cut place = tag (in_force_in channel cut place)
      (copy_of_sending (record { message = message; place = place }))

  -- each copy that bears the identity is that of a sending of the message in one of the runs
  record IsOfSending (copy : TaggedCopy) : Type 0 where
    cut : CutRun
    place : ℕ
    sent : IsSentIn h.cuts message cut place
    is : copy ≡ copy_at cut place

  abbrev IfNamed : TaggedCopy → Type 0
  IfNamed copy = same_identity copy.identity message.identity ≡ true → IsOfSending copy

  of_found : (cut : CutRun) → Contains h.cuts cut → (copy : FoundCopy)
      → Contains (cut.run.found channel) copy
      → same_identity copy.identity message.identity ≡ true
      → IsOfSending (tag (in_force_in channel cut copy.place) copy)
  unfolding copies_at
  of_found cut among copy there named =
      let f = found_in cut among in
      let bits = elements_among (events_in channel cut.run) in
      let sent = h.alone cut copy among there
      (same_identity-true copy.identity message.identity named) in
      let sending : Sending = record { message = message; place = copy.place } in
      let inside : Contains (found_to_end bits f.locks f.now) copy =
      subst (λ (cs : List FoundCopy). Contains cs copy) f.whole there in
      let one = one_found bits cut.parts sending f.locks f.now (h.cut cut among) sent f.stands in
      let this = one_of_key (λ (c : FoundCopy). c.place) (found_to_end bits f.locks f.now) copy
      (found_rise bits f.locks f.now f.stands) inside in
      let same : copy ∷ [] ≡ copy_of_sending sending ∷ [] = sym this ∙ one in
      let is : copy ≡ copy_of_sending sending = cc in
      record {
        cut = cut;
        place = copy.place;
        sent = record { among = among; sent = sent };
        is =
            ap (tag (in_force_in channel cut copy.place)) is;
      }

  of_run : (cut : CutRun) → Contains h.cuts cut → All IfNamed (copies_in channel cut.run)
  unfolding tagged_copies tag
  of_run cut among =
      All-map IfNamed (λ (copy : FoundCopy). tag (in_force_in channel cut copy.place) copy)
      (cut.run.found channel)
      (All-weaker (Contains (cut.run.found channel))
      (λ (copy : FoundCopy). same_identity copy.identity message.identity ≡ true
      → IsOfSending (tag (in_force_in channel cut copy.place) copy))
      (λ copy there named. of_found cut among copy there named) (cut.run.found channel)
      (All-contains_itself (cut.run.found channel)))

  of_runs : (cuts : List CutRun) → All (Contains h.cuts) cuts
      → All IfNamed (all_copies channel (runs_of cuts))
  of_runs [] among = All-nil IfNamed
  of_runs (cut ∷ cuts) among =
      All-append IfNamed (copies_in channel cut.run) (all_copies channel (runs_of cuts))
      (of_run cut (All-head (Contains h.cuts) cut cuts among))
      (of_runs cuts (All-tail (Contains h.cuts) cut cuts among))

  all_of_sendings : All IsOfSending (copies_of message.identity heard)
  unfolding copies_of
  all_of_sendings =
      filter_all (λ (c : TaggedCopy). same_identity c.identity message.identity) IsOfSending heard
      (of_runs h.cuts (All-contains_itself h.cuts))

  -- and there is one
  some_heard : Contains (copies_of message.identity heard) (copy_at h.at h.place)
  unfolding copies_of tagged_copies tag
  some_heard =
      let f = found_in h.at h.sent.among in
      let bits = elements_among (events_in channel h.at.run) in
      let sending : Sending = record { message = message; place = h.place } in
      let there : Contains (h.at.run.found channel) (copy_of_sending sending) =
      subst (λ (cs : List FoundCopy). Contains cs (copy_of_sending sending)) (sym f.whole)
      (sending_in_end bits h.at.parts sending f.locks f.now (h.cut h.at h.sent.among) h.sent.sent
      f.stands) in
      contains_filter (λ (c : TaggedCopy). same_identity c.identity message.identity) heard
      (copy_at h.at h.place)
      (in_all channel h.cuts h.at (copy_at h.at h.place) h.sent.among
      (contains_map (λ (copy : FoundCopy). tag (in_force_in channel h.at copy.place) copy)
      (h.at.run.found channel)
      (copy_of_sending sending) there))
      (same_itself message.identity)

  no_errors : errors_of (text_of message.lines) ≡ 0
  no_errors =
      sending_errors (elements_among (events_in channel h.at.run)) h.at.parts
      (record { message = message; place = h.place }) (h.cut h.at h.sent.among) h.sent.sent

  good_of : (copy : TaggedCopy) → IsOfSending copy → IsTrue (is_good copy)
  unfolding tag
  good_of copy o = ap is_good o.is ∙ no_errors-good (text_of message.lines) no_errors

  selected_of : (copy : TaggedCopy) → IsOfSending copy → IsTrue copy.selected
  unfolding tag
  selected_of copy o = ap (λ (c : TaggedCopy). c.selected) o.is ∙ h.selected o.cut o.place o.sent

  close_of : (one other : TaggedCopy) → IsOfSending one → IsOfSending other
      → one.moment < other.moment + seconds_known
  unfolding tag
  close_of one other o p =
      let near = h.close o.cut p.cut o.place p.place o.sent p.sent in
      let m : one.moment ≡ (in_force_in channel o.cut o.place).moment =
      ap (λ (c : TaggedCopy). c.moment) o.is in
      let n : other.moment ≡ (in_force_in channel p.cut p.place).moment =
      ap (λ (c : TaggedCopy). c.moment) p.is in
      omega arith

  repeats : (one : TaggedCopy) (rest : List TaggedCopy)
      → copies_of message.identity heard ≡ one ∷ rest
      → AreRepeats begun message.identity heard one rest
  repeats one rest e =
      let each : All IsOfSending (one ∷ rest) = subst (All IsOfSending) e all_of_sendings in
      record {
        heard = e;
        numbered = h.numbered;
        unknown = subst (IsUnknownAtFirst begun message.identity) heard_is h.unknown;
        good = All-weaker IsOfSending (λ (copy : TaggedCopy). IsTrue (is_good copy)) good_of
            (one ∷ rest) each;
        selected = All-weaker IsOfSending (λ (copy : TaggedCopy). IsTrue copy.selected) selected_of
            (one ∷ rest) each;
        close = λ a b c d. close_of a b (All-contains IsOfSending (one ∷ rest) a each c)
            (All-contains IsOfSending (one ∷ rest) b each d);
        few = subst (FewBetween begun message.identity) heard_is h.few;
      }

  pub chain_once : IsPrintedOnce message (copies_on channel (all_printed runs))
  unfolding tag
  chain_once =
      let start_of = has_first (copies_of message.identity heard) (copy_at h.at h.place)
      some_heard in
      let all = repeats start_of.first start_of.rest start_of.whole in
      let of =
      All-head IsOfSending start_of.first start_of.rest
      (subst (All IsOfSending) start_of.whole all_of_sendings) in
      let log_is : copies_on channel (all_printed runs) ≡ printed_copies begun heard =
      chain_prints channel begun first runs last refl chain
      ∙ ap (printed_copies begun) heard_is in
      let text : start_of.first.text ≡ text_of message.lines =
      ap (λ (c : TaggedCopy). c.text) of.is in
      record {
        copy = start_of.first;
        one = ap (copies_of message.identity) log_is
            ∙ once begun message.identity heard start_of.first start_of.rest all;
        full = ap (λ (c : TaggedCopy). c.how) of.is;
        whole = ap errors_of text ∙ no_errors;
        letters = text;
      }
