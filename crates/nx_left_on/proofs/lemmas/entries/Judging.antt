-- What a watch puts tells which copies were judged.
use Rattle.std.proofs.Common.{◌≡◌, true, false, cond, List, [], ◌∷◌, ◌++◌, map, refl, sym, ap}
use Rattle.std.proofs.Common.{◌∙◌, subst, append_assoc}
use Rattle.std.proofs.lemmas.List.{append_cancel_left, map-append}
use Rattle.nx_code.specs.Lists.{Begins}
use Rattle.nx_fec.specs.air_files.AirFile.{Line}
use Rattle.nx_fec.specs.declared.air_files.channel.Channel.{Channel}
use Rattle.nx_memory.specs.declared.memories.entry.MemoryEntry.{MemoryEntry}
use Rattle.nx_copies.specs.Events.{Event, Setting, Start, elements_among, first_setting, setting_at}
use Rattle.nx_copies.specs.copies.FoundCopies.{FoundCopy, TaggedCopy, ended_so_far, found_to_end, tag}
use Rattle.nx_copies.specs.copies.FoundCopies.{tagged_copies}
use Rattle.nx_receiver.specs.air_file_runs.Listen.{events_on, given_by, given_of}
use Rattle.nx_copies.specs.copies.Log.{Printing, plain, printed_of}
use Rattle.nx_copies.specs.copies.Printing.{entries_after, entry_made, if_printed, is_printed}
use Rattle.nx_copies.specs.copies.Printing.{printed_copies}
use Rattle.nx_copies.specs.copies.Shares.{MarkedCopy, Starts, copies_on, share, start_on}
use Rattle.nx_copies.proofs.lemmas.channels.Shares.{copies_on-append, share-append, to_end-on}
use Rattle.nx_copies.proofs.lemmas.printing.Logged.{ended_placed, printed_copies-append}
use Rattle.nx_copies.proofs.lemmas.printing.Logged.{tagged_copies-more}
use Rattle.nx_left_on.specs.Chain.{AreFoundOf, Ending, GoesOn, HadEnded, Puts, PutsBy}
use Rattle.nx_left_on.specs.private.Chain.{PrintOf}
use Rattle.nx_left_on.specs.Chain.{Watch, answered, events_in, lines_of, start_in, stopped}
use Rattle.nx_left_on.specs.Chain.{stopped_closing, with_copies}
use Rattle.nx_left_on.proofs.lemmas.chains.Found.{begins-more, ended-begin, ended-found, one-ended}
use Rattle.nx_left_on.proofs.lemmas.chains.Found.{some-ended}

-- ---- a list of copies is cut so that just these are printed

-- A beginning of the copies prints just these.
record IsCutTo (tags : FoundCopy → TaggedCopy) (entries : List MemoryEntry)
    (found : List FoundCopy) (put : List TaggedCopy)
    : Type 0 where
  kept : List FoundCopy
  begins : Begins kept found
  prints : printed_copies entries (map tags kept) ≡ put

module _ (tags : FoundCopy → TaggedCopy) where
  -- one more copy in front
  cut-next : (entries : List MemoryEntry) (copy : FoundCopy) (found : List FoundCopy)
      (put : List TaggedCopy)
      → IsCutTo tags (entries ++ entry_made entries (tags copy)) found put
      → IsCutTo tags entries (copy ∷ found) (if_printed entries (tags copy) ++ put)
  unfolding printed_copies
  cut-next entries copy found put c = record {
    kept = copy ∷ c.kept;
    begins = (c.begins.0, ap (λ l. copy ∷ l) c.begins.1);
    prints = ap (λ l. if_printed entries (tags copy) ++ l) c.prints;
  }

  cut-to : (entries : List MemoryEntry) (found : List FoundCopy) (put rest : List TaggedCopy)
      → printed_copies entries (map tags found) ≡ put ++ rest → IsCutTo tags entries found put
  unfolding printed_copies if_printed
  cut-to entries found [] rest e =
      record { kept = []; begins = (found, refl); prints = refl }
  cut-to entries [] (first ∷ put) rest e = cc
  cut-to entries (copy ∷ found) (first ∷ put) rest e =
      let more = entries ++ entry_made entries (tags copy) in
      elim (is_printed entries (tags copy)) as (λ b.
      is_printed entries (tags copy) ≡ b
      → (cond b (tags copy ∷ []) [] ++ printed_copies more (map tags found))
      ≡ first ∷ (put ++ rest)
      → IsCutTo tags entries (copy ∷ found) (first ∷ put)) [
        | true ↦ λ is e.
            let head : tags copy ≡ first = cc in
            let tail : printed_copies more (map tags found) ≡ put ++ rest = cc in
            subst (IsCutTo tags entries (copy ∷ found))
            (ap (λ b. cond b (tags copy ∷ []) [] ++ put) is ∙ ap (λ c. c ∷ put) head)
            (cut-next entries copy found put (cut-to more found put rest tail))
        | false ↦ λ is e.
            subst (IsCutTo tags entries (copy ∷ found))
            (ap (λ b. cond b (tags copy ∷ []) [] ++ first ∷ put) is)
            (cut-next entries copy found (first ∷ put) (cut-to more found (first ∷ put) rest e))
      ] refl e

  -- the same where these first ones are to be in it
  pub record IsCutBehind (entries : List MemoryEntry) (front found : List FoundCopy)
      (put : List TaggedCopy)
      : Type 0 where
    pub kept : List FoundCopy
    pub begins : Begins kept found
    pub prints : printed_copies entries (map tags kept) ≡ put
    pub first : Begins front kept

  pub cut-behind : (entries : List MemoryEntry) (front found : List FoundCopy)
      (put rest : List TaggedCopy) → Begins front found
      → printed_copies entries (map tags found) ≡ put ++ rest
      → Begins (printed_copies entries (map tags front)) put
      → IsCutBehind entries front found put
  cut-behind entries front found put rest b e least =
      let back = b.0 in
      let shown = printed_copies entries (map tags front) in
      let after = entries_after entries (map tags front) in
      let parts : (list : List FoundCopy)
      → printed_copies entries (map tags (front ++ list))
      ≡ shown ++ printed_copies after (map tags list) =
      λ list. ap (printed_copies entries) (map-append tags front list)
      ∙ printed_copies-append entries (map tags front) (map tags list) in
      let tail : printed_copies after (map tags back) ≡ least.0 ++ rest =
      append_cancel_left shown (printed_copies after (map tags back)) (least.0 ++ rest)
      (sym (parts back) ∙ ap (λ l. printed_copies entries (map tags l)) (sym b.1) ∙ e
      ∙ ap (λ l. l ++ rest) least.1
      ∙ append_assoc shown least.0 rest) in
      let c = cut-to after back least.0 rest tail in
      record {
        kept = front ++ c.kept;
        begins = (
          c.begins.0,
          b.1 ∙ ap (λ l. front ++ l) c.begins.1 ∙ sym (append_assoc front c.kept c.begins.0),
        );
        prints = parts c.kept ∙ ap (λ l. shown ++ l) c.prints ∙ sym least.1;
        first = (c.kept, refl);
      }

-- ---- of a watch

-- what is found on a channel, and all that is printed of it
record IsFoundOn (ending : Ending) (start : Start) (events : List Event)
    (printed : List TaggedCopy)
    : Type 0 where
  found : List FoundCopy
  are : AreFoundOf ending events found
  prints : printed ≡ printed_of start events found

found-on : (ending : Ending) (starts : Starts) (lines : List Line) (printed : List MarkedCopy)
    (channel : Channel) → PrintOf ending starts (given_by lines) printed
    → IsFoundOn ending (start_on starts channel) (events_on channel lines)
    (copies_on channel printed)
found-on stopped starts lines printed channel h =
    let p = h.each channel in
    record {
      found = ended_so_far (elements_among (events_on channel lines)) p.locks p.now;
      are = record { locks = p.locks; now = p.now; stands = p.stands; whole = refl };
      prints = p.printed;
    }
found-on answered starts lines printed channel h =
    let p = to_end-on starts (given_by lines) printed channel h in
    record {
      found = found_to_end (elements_among (events_on channel lines)) p.locks p.now;
      are = record { locks = p.locks; now = p.now; stands = p.stands; whole = refl };
      prints = p.printed;
    }
found-on stopped_closing starts lines printed channel h =
    let p = to_end-on starts (given_by lines) printed channel h in
    record {
      found = found_to_end (elements_among (events_on channel lines)) p.locks p.now;
      are = record { locks = p.locks; now = p.now; stands = p.stands; whole = refl };
      prints = p.printed;
    }

pub events_on-append : (channel : Channel) (front back : List Line)
    → events_on channel (front ++ back) ≡ events_on channel front ++ events_on channel back
events_on-append channel front back =
    ap (share channel) (map-append given_of front back)
    ∙ share-append channel (given_by front) (given_by back)

-- those that had ended in the sure lines, tagged as they are among all
ended-tagged : (first : Setting) (front back : List Event) (copies : List FoundCopy)
    → HadEnded front copies
    → tagged_copies first (front ++ back) copies ≡ tagged_copies first front copies
ended-tagged first front back copies h =
    ap (tagged_copies first (front ++ back)) h.whole
    ∙ tagged_copies-more first front back 0
    (ended_so_far (elements_among front) h.locks h.now)
    (ended_placed (elements_among front) h.locks h.now h.stands)
    ∙ ap (tagged_copies first front) (sym h.whole)

begins-on : (channel : Channel) (front all : List MarkedCopy) → Begins front all
    → Begins (copies_on channel front) (copies_on channel all)
begins-on channel front all b =
    (copies_on channel b.0, ap (copies_on channel) b.1 ∙ copies_on-append channel front b.0)

-- what was found and judged on a channel
record HasJudged (channel : Channel) (watch : Watch) : Type 0 where
  found : List FoundCopy
  judged : List FoundCopy
  are : AreFoundOf watch.ending (events_in channel watch) found
  begins : Begins judged found
  put : copies_on channel watch.put
      ≡ printed_of (start_in channel watch) (events_in channel watch) judged
  surely : (ended : List FoundCopy) → HadEnded (events_on channel watch.sure) ended
      → Begins ended judged

has-judged : (log : List MarkedCopy) (watch : Watch) (channel : Channel) → Puts log watch
    → HasJudged channel watch
unfolding tagged_copies
has-judged log watch channel p =
    let start = start_in channel watch in
    let first = first_setting start in
    let sure = events_on channel watch.sure in
    let more = events_on channel watch.more in
    let events = events_in channel watch in
    let both : events ≡ sure ++ more = events_on-append channel watch.sure watch.more in
    let f = found-on watch.ending watch.starts (lines_of watch) p.printed channel p.prints in
    let s = p.in_turn.each channel in
    let ended = ended_so_far (elements_among sure) s.locks s.now in
    let had : HadEnded sure ended =
    record { locks = s.locks; now = s.now; stands = s.stands; whole = refl } in
    let all = some-ended (sure ++ more) in
    let front : Begins ended f.found =
    begins-more ended all.0 f.found (ended-begin sure more ended all.0 had all.1)
    (ended-found watch.ending events all.0 f.found
    (subst (λ es. HadEnded es all.0) (sym both) all.1) f.are) in
    let tags = λ (copy : FoundCopy). tag (setting_at first events copy.place) copy in
    let least = begins-on channel p.surely watch.put p.least in
    let most = begins-on channel watch.put p.printed p.most in
    let surely : copies_on channel p.surely ≡ printed_copies start.entries (map tags ended) =
    s.printed
    ∙ ap (printed_copies start.entries)
    (sym (ended-tagged first sure more ended had)
    ∙ ap (λ es. tagged_copies first es ended) (sym both)) in
    let c = cut-behind tags start.entries ended f.found (copies_on channel watch.put) most.0 front
    (sym f.prints ∙ most.1)
    (subst (λ l. Begins l (copies_on channel watch.put)) surely least) in
    record {
      found = f.found;
      judged = c.kept;
      are = f.are;
      begins = c.begins;
      put = sym c.prints;
      surely = λ others h.
          subst (λ l. Begins l c.kept) (one-ended sure ended others had h) c.first;
    }

-- what is put doesn't tell which copies are found and judged
pub puts-with_by : (printing : Printing) (log : List MarkedCopy) (watch : Watch)
    (found judged : Channel → List FoundCopy) → PutsBy printing log watch
    → PutsBy printing log (with_copies watch found judged)
puts-with_by printing log watch found judged p = record {
  begins = p.begins;
  said = p.said;
  acted = p.acted;
  printed = p.printed;
  prints = p.prints;
  most = p.most;
  surely = p.surely;
  in_turn = p.in_turn;
  least = p.least;
  all = p.all;
  stands = p.stands;
}

pub puts-with : (log : List MarkedCopy) (watch : Watch) (found judged : Channel → List FoundCopy)
    → Puts log watch → Puts log (with_copies watch found judged)
puts-with = puts-with_by plain

pub goes-on : (log : List MarkedCopy) (watch : Watch) → Puts log watch
    → (found judged : Channel → List FoundCopy) × GoesOn log (with_copies watch found judged)
goes-on log watch p =
    let found : Channel → List FoundCopy = λ channel. (has-judged log watch channel p).found in
    let judged : Channel → List FoundCopy = λ channel. (has-judged log watch channel p).judged in (
      found,
      judged,
      record {
        puts = puts-with log watch found judged p;
        judges = λ channel.
            let h = has-judged log watch channel p in
            record { found = h.are; begins = h.begins; put = h.put; surely = h.surely };
      },
    )
