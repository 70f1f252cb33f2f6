-- A run over a log, step by step.
use Rattle.std.specs.declared.alloc.AllocError.{AllocError}
use Rattle.std.proofs.Common.{◌≡◌, ℕ, zero, suc, ◌+◌, ◌-◌, ◌^◌, ◌≤◌, ◌<◌, Bool, true, false, min, List, [], ◌∷◌, ◌++◌, length, take, drop}
use Rattle.std.proofs.Common.{refl, sym, ap, ◌∙◌, subst, arith, append_assoc, append-nil, length-append, take-append-drop, Option, None, Some, Result, Ok, Err, inl}
use Rattle.std.specs.Prelude.{IfOk, IsErrOf, MatchResult, map, ◌==◌}
use Rattle.std.specs.List.{All}
use Rattle.std.proofs.lemmas.List.{length-map, length-take-le, take-take}
use Rattle.std.proofs.lemmas.List.Elements.{All-append, All-cons, All-nil, All-weaker}
use Rattle.std.specs.Io.KnownBytes.{Appends}
use Rattle.std.proofs.KnownBytes.{Appends-nil}
use Rattle.std.proofs.lemmas.List.Sums.{count_by-le-length}
use Rattle.nx_code.specs.Reading.{newline}
use Rattle.nx_fec.specs.Transfers.{Contents, Devices, contents_of}
use Rattle.nx_copies.specs.copies.Shares.{MarkedCopy}
use Rattle.nx_log.specs.LogReading.{LogReading}
use Rattle.nx_log.specs.LogReader.{IsAt, StopAt, Takes, most_lines}
use Rattle.nx_log.specs.LogRun.{AnswersLogRun, AnswersRun, AreAll, BeginSalvage, RanOut, SalvageRanOut, WroteOutput, WrotePart, WroteToEnd, most_read}
use Rattle.nx_log.specs.Logged.{IsLoggedAs}
use Rattle.nx_log.specs.Places.{unplaced}
use Rattle.nx_log.specs.Query.{chosen}
use Rattle.nx_log.specs.Notices.{HaveTold, HaveToldAll, HaveToldTorn, Notice, Notices, damaged_at, notice_texts, notices_of, torn_notice, torn_notices}
use Rattle.nx_log.specs.Reading.{AreRead, Head, HoldEntries, HoldEntriesToEnd, IsHead, IsNoBracket, IsTail, LogRead, StopAtLine, begun, entries_of, is_begun, is_first, line_behind, nothing, torn_line, whole}
use Rattle.nx_log.specs.Salvage.{AreCut, BeginsBehind, IsPassedOver, Salvage, SalvageToEnd, Stretch, bytes_in, entries_in, first_line, first_of, lines_in, told_of, told_torn}
use Rattle.nx_log.specs.View.{IsViewOf, copy_said}
use Rattle.nx_log.specs.declared.damage.Damaged.{Damaged}
use Rattle.nx_log.specs.declared.damage.Damaged.TheVariants.{PassedOver, Refused}
use Rattle.nx_log.specs.declared.entries.entry.EntryView.{EntryView}
use Rattle.nx_log.specs.declared.entries.reader.BadLine.{BadLine}
use Rattle.nx_log.specs.declared.log_runs.LogRun.{LogRun}
use Rattle.nx_log.specs.declared.writing.form.Form.{Form}
use Rattle.nx_log.specs.declared.log_fault.LogFault.{LogFault}
use Rattle.nx_log.specs.declared.log_fault.LogFault.TheVariants.{Read, Write, BadLog, Memory}
use Rattle.nx_log.specs.declared.queries.query.Query.{Query}
use Rattle.nx_log.specs.declared.entries.reader.Pushed.TheVariants.{Entry, Torn}
use Rattle.nx_log.specs.declared.entries.reader.TornLine.{TornLine}
use Rattle.nx_log.specs.private.LogRunning.{EndsAll, EndsRun, EndsUnread, FailsGiving, HasGivenOutput, HasRunOut, HasRunOver, HasSalvaged, HasWrittenPart, IsPassing, IsRunning, StandsIn, StopsRun, WroteNothing}
use Rattle.nx_log.proofs.lemmas.reader.Steps.{holds_at}
use Rattle.nx_log.proofs.lemmas.reader.Tails.{all_front, all_last}
use Rattle.nx_log.proofs.lemmas.reading.Reads.{hold_is_log, same_held}
use Rattle.nx_log.proofs.lemmas.runs.Stretches.{cut_longer, cut_off, cut_on, lines_few, lines_more, longer, none_behind, stop_on, told_over}
use Rattle.nx_log.proofs.lemmas.reading.Entries.{entry_is_some, one_entry}
use Rattle.nx_log.proofs.lemmas.runs.Outputs.{chosen-few}
use Rattle.nx_log.proofs.lemmas.runs.Placing.{chosen-count}

-- what is seen of bytes that are an entry is this entry
pub view-is : (one : MarkedCopy) (bytes : List ℕ) (view : EntryView) → IsLoggedAs one bytes
    → IsViewOf bytes view → copy_said view.head view.text.now ≡ one
view-is one bytes view l v =
    sym (one_entry one (copy_said view.head view.text.now) bytes (take view.len bytes) []
    (drop view.len bytes) l v.entry
    (append-nil bytes ∙ sym (take-append-drop view.len bytes))).entry

-- ---- a piece

-- with an entry some bytes are taken
pub taken-some : (bytes piece : List ℕ) (entries : List MarkedCopy) (torn : List ℕ)
    (old new : LogReading) (taken : ℕ) → IsAt old bytes entries torn
    → Takes bytes entries torn piece new (Entry taken) → 0 < taken
taken-some bytes piece entries torn old new zero at t =
    let next = subst (λ l. IsAt new l (entries ++ t.1.0 ∷ []) torn) (append-nil bytes) t.1.2 in
    let same = same_held entries (entries ++ t.1.0 ∷ []) torn torn bytes
    (holds_at old bytes entries torn at) (holds_at new bytes (entries ++ t.1.0 ∷ []) torn next) in
    let long = ap length same.entries_are ∙ length-append entries (t.1.0 ∷ []) in
    absurd (omega (arith, long))
taken-some bytes piece entries torn old new (suc n) at t = omega arith

-- so they are with a torn one
pub torn-some : (bytes piece : List ℕ) (entries : List MarkedCopy) (torn : List ℕ)
    (old new : LogReading) (taken : ℕ) (line : TornLine) → IsAt old bytes entries torn
    → Takes bytes entries torn piece new (Torn taken line) → 0 < taken
torn-some bytes piece entries torn old new zero line at t =
    let next = subst (λ l. IsAt new l entries (torn ++ t.1.0 ∷ [])) (append-nil bytes) t.1.2 in
    let same = same_held entries entries torn (torn ++ t.1.0 ∷ []) bytes
    (holds_at old bytes entries torn at) (holds_at new bytes entries (torn ++ t.1.0 ∷ []) next) in
    let long = ap length same.torn_are ∙ length-append torn (t.1.0 ∷ []) in
    absurd (omega (arith, long))
torn-some bytes piece entries torn old new (suc n) line at t = omega arith

-- ---- lines and entries are no more than the bytes

line-small : (bytes : List ℕ) → line_behind bytes ≤ length bytes + 1
line-small bytes =
    omega (arith, count_by-le-length (λ byte. byte == newline) bytes)

abbrev IsSmall : ℕ → ℕ → Type 0
IsSmall size line = line ≤ size + 1

torn-small : (head : Head) (before front tail : List ℕ) (torn : Option (List ℕ)) (reach left : ℕ)
    → IsTail (is_begun head) reach tail torn left
    → All (IsSmall (length (before ++ (front ++ tail)))) (torn_line head before front torn)
torn-small begun before front tail torn reach left t =
    All-cons (IsSmall (length (before ++ (front ++ tail)))) (line_behind before) []
    (omega (arith, line-small before, length-append before (front ++ tail))) (All-nil _)
torn-small nothing before front tail None reach left t = All-nil _
torn-small nothing before front tail (Some blanks) reach left t =
    All-cons (IsSmall (length (before ++ (front ++ tail))))
    (line_behind (before ++ (front ++ blanks))) [] (omega (
      arith,
      line-small (before ++ (front ++ blanks)),
      length-append before (front ++ tail),
      length-append front tail,
      length-append before (front ++ blanks),
      length-append front blanks,
      ap length t.1.split,
      length-append blanks t.1.torn,
    )) (All-nil _)
torn-small (whole one) before front tail None reach left t = All-nil _
torn-small (whole one) before front tail (Some blanks) reach left t =
    All-cons (IsSmall (length (before ++ (front ++ tail))))
    (line_behind (before ++ (front ++ blanks))) [] (omega (
      arith,
      line-small (before ++ (front ++ blanks)),
      length-append before (front ++ tail),
      length-append front tail,
      length-append before (front ++ blanks),
      length-append front blanks,
      ap length t.1.split,
      length-append blanks t.1.torn,
    )) (All-nil _)

all-small : (parts : List (List ℕ)) (read : LogRead) → AreRead parts read
    → All (IsSmall (length read.bytes)) (read.told ++ read.last)
all-small [] read r =
    subst (λ (l : LogRead). All (IsSmall (length l.bytes)) (l.told ++ l.last)) (sym r) (All-nil _)
all-small (part ∷ parts) read r =
    let before = r.0 in
    let n = r.2 in
    let bytes_are : read.bytes ≡ before.bytes ++ (n.front ++ n.tail) =
    n.bytes ∙ ap (λ l. before.bytes ++ l) n.split in
    let size : length before.bytes ≤ length read.bytes =
    omega (arith, ap length bytes_are, length-append before.bytes (n.front ++ n.tail)) in
    let early = All-weaker (IsSmall (length before.bytes)) (IsSmall (length read.bytes))
    (λ line h. omega (arith, h, size)) (before.told ++ before.last) (all-small parts before r.1) in
    let late : All (IsSmall (length read.bytes)) (torn_line n.head before.bytes n.front n.torn) =
    subst (λ l. All (IsSmall (length l)) (torn_line n.head before.bytes n.front n.torn))
    (sym bytes_are)
    (torn-small n.head before.bytes n.front n.tail n.torn _ read.reach n.is_tail) in
    subst (λ l. All (IsSmall (length read.bytes)) (l ++ read.last)) (sym n.told)
    (subst (λ l. All (IsSmall (length read.bytes)) ((before.told ++ before.last) ++ l)) (sym n.last)
    (All-append (IsSmall (length read.bytes)) (before.told ++ before.last) _ early late))

last-of : (xs : List ℕ) (x size : ℕ) → All (IsSmall size) (xs ++ x ∷ []) → IsSmall size x
last-of xs x size h = all_last (IsSmall size) xs x h

-- the line of a torn entry is none behind the bytes
pub torn-bound : (log : LogReading) (bytes : List ℕ) (entries : List MarkedCopy) (torn : List ℕ)
    (line : ℕ) → IsAt log bytes entries (torn ++ line ∷ []) → line ≤ length bytes + 1
torn-bound log bytes entries torn line at =
    let h = holds_at log bytes entries (torn ++ line ∷ []) at in
    let lines = all-small (h.is.part ∷ h.is.earlier) h.read h.is.are in
    let told = all_front (IsSmall (length h.read.bytes)) h.read.told h.read.last lines in
    let small = last-of torn line (length h.read.bytes)
    (subst (All (IsSmall (length h.read.bytes))) (sym h.are_torn) told) in
    omega (arith, small, ap length h.is.all)

-- so is one at the end
pub last-bound : (bytes : List ℕ) (entries : List MarkedCopy) (torn : List ℕ) (line : ℕ)
    → HoldEntriesToEnd bytes entries (torn ++ line ∷ []) → line ≤ length bytes + 1
last-bound bytes entries torn line h =
    let lines = all-small (h.is.part ∷ h.is.earlier) h.read h.is.are in
    let small = last-of torn line (length h.read.bytes)
    (subst (All (IsSmall (length h.read.bytes))) (sym h.are_torn) lines) in
    omega (arith, small, ap length h.is.all)

-- and the line at which they stop being a log
stop-bound : (bytes : List ℕ) (entries : List MarkedCopy) (torn : List ℕ) (line : ℕ)
    → StopAtLine bytes entries torn line → line ≤ length bytes + 1
stop-bound bytes entries torn line s =
    omega (
      arith,
      s.is_line,
      line-small (take s.place bytes),
      ap length (take-append-drop s.place bytes),
      length-append (take s.place bytes) (drop s.place bytes),
    )

-- a line behind so many others is told as it is
pub exact-line : (before rest : List ℕ) (ended line counted told : ℕ)
    → length (before ++ rest) ≤ most_read → ended ≡ lines_in before → line ≤ length rest + 1
    → counted ≡ min line most_lines → told ≡ min (ended + counted) most_lines
    → told ≡ lines_in before + line
exact-line before rest ended line counted told within is small count saturated =
    omega (arith, within, is, small, count, saturated, lines_few before, length-append before rest)

one-entry-each : (first : Bool) (head : Head) (front tail : List ℕ)
    → IsHead first head front tail → length (entries_of head) ≤ length (front ++ tail)
one-entry-each first nothing front tail h = omega arith
one-entry-each first begun front tail h = omega arith
one-entry-each true (whole one) front tail h = absurd h
one-entry-each false (whole one) front tail h =
    omega (arith, entry_is_some one front h.entry, length-append front tail)

-- there are no more entries than bytes
few-entries : (parts : List (List ℕ)) (read : LogRead) → AreRead parts read
    → length read.entries ≤ length read.bytes
few-entries [] read r =
    subst (λ (l : LogRead). length l.entries ≤ length l.bytes) (sym r) (omega arith)
few-entries (part ∷ parts) read r =
    let before = r.0 in
    let n = r.2 in
    omega (
      arith,
      few-entries parts before r.1,
      one-entry-each (is_first parts) n.head n.front n.tail n.is_head,
      ap length n.entries,
      ap length n.bytes,
      ap length n.split,
      length-append before.entries (entries_of n.head),
      length-append before.bytes part,
    )

-- ---- a whole run

line-bound : (bytes : List ℕ) (n line : ℕ) → length bytes ≤ most_read
    → line ≡ min (line_behind (take n bytes)) most_lines → line ≡ line_behind (take n bytes)
line-bound bytes n line within is =
    let few = count_by-le-length (λ byte. byte == newline) (take n bytes) in
    let short = length-take-most n bytes in
    omega (arith, is, few, short, within)
  where
    length-take-most : (n : ℕ) (bytes : List ℕ) → length (take n bytes) ≤ length bytes
    length-take-most n bytes =
        omega (
          arith,
          ap length (take-append-drop n bytes),
          length-append (take n bytes)
              (drop n bytes),
        )

pub stop-line : (bytes : List ℕ) (entries : List MarkedCopy) (torn : List ℕ) (line : ℕ)
    → length bytes ≤ most_read → StopAt bytes entries torn (record { line = line })
    → StopAtLine bytes entries torn line
stop-line bytes entries torn line within h =
    let s = h.stop in
    let same : line ≡ h.line = line-bound bytes s.place line within
    (h.counted ∙ ap (λ l. min l most_lines) s.is_line) ∙ sym s.is_line in
    subst (StopAtLine bytes entries torn) (sym same) s

count-exact : (query : Query) (entries : List MarkedCopy) (torn bytes : List ℕ) (count : ℕ)
    → length bytes ≤ most_read → HoldEntriesToEnd bytes entries torn
    → count ≡ min (length (chosen query entries)) (2 ^ 64 - 1)
    → count ≡ length (chosen query entries)
count-exact query entries torn bytes count within h is =
    omega (
      arith,
      is,
      within,
      few-entries (h.is.part ∷ h.is.earlier) h.read h.is.are,
      ap length h.is.all,
      ap length h.are_entries,
      chosen-few query (map unplaced entries),
      chosen-count query entries,
      length-map entries unplaced,
    )

-- nothing is told yet
pub none-told : (old : Option (List ℕ)) (failures : ℕ) → failures ≡ 0
    → HaveToldAll (notices_of old old failures) []
none-told old failures none = inl (none, Appends-nil old)

-- what is told of torn entries alone
torn-texts : (torn : List ℕ) → notice_texts (told_torn 0 torn) ≡ torn_notices torn
torn-texts [] = refl
torn-texts (line ∷ torn) =
    let e : 0 + line ≡ line = omega arith in
    ap (λ n. torn_notice n ++ notice_texts (told_torn 0 torn)) e
    ∙ ap (λ l. torn_notice line ++ l) (torn-texts torn)

all-torn : (n : Notices) (torn : List ℕ) → HaveToldAll n (told_of [] torn) → HaveToldTorn n torn
all-torn n torn told = subst (HaveTold n) (torn-texts torn) told

-- ---- how a run stands

module _ (query : Query) (form : Form) (damaged : Damaged) (old : Option (List ℕ)) where
  module _ (run : LogRun) (new : Option (List ℕ)) (n : Notices) (bytes : List ℕ)
      (h : IsRunning query form damaged old run new n bytes) where
    pub salvage-at : Salvage h.stretches bytes (entries_in h.stretches ++ h.last)
        (told_of h.stretches h.torn)
    salvage-at = record {
      rest = h.rest;
      last = h.last;
      torn = h.torn;
      cut = h.cut;
      hold = holds_at run.log h.rest h.last h.torn h.at;
      are_entries = refl;
      is_told = refl;
    }

    -- what waited was written
    pub salvaged : (after : Option (List ℕ))
        → WroteOutput query form (record { before = old; after = after })
        (entries_in h.stretches ++ h.last)
        → HasSalvaged query form damaged (record { before = old; after = after }) n bytes
    salvaged after wrote = record {
      stretches = h.stretches;
      entries = entries_in h.stretches ++ h.last;
      told = told_of h.stretches h.torn;
      salvage = salvage-at;
      wrote = wrote;
      was_told = h.told;
      stands = h.stands;
    }

    -- or not all of it
    pub part-at : (more : List ℕ) (after : Option (List ℕ)) (written : ℕ)
        → WrotePart query form (record { before = old; after = after })
        (entries_in h.stretches ++ h.last) written
        → HasWrittenPart query form damaged (record { before = old; after = after }) n
        (bytes ++ more) written
    part-at more after written wrote = record {
      stretches = h.stretches;
      entries = entries_in h.stretches ++ h.last;
      told = told_of h.stretches h.torn;
      salvage = record { front = bytes; more = more; split = refl; salvage = salvage-at };
      wrote = wrote;
      was_told = h.told;
      stands = h.stands;
    }

    pub part-all : (after : Option (List ℕ)) (written : ℕ)
        → WrotePart query form (record { before = old; after = after })
        (entries_in h.stretches ++ h.last) written
        → HasWrittenPart query form damaged (record { before = old; after = after }) n bytes written
    part-all after written wrote =
        subst (λ l. HasWrittenPart query form damaged (record { before = old; after = after }) n l
        written) (append-nil bytes) (part-at [] after written wrote)

    -- an entry more, of which not all was written
    pub part-entry : (reader : LogReading) (part : List ℕ) (taken : ℕ) (one : MarkedCopy)
        (after : Option (List ℕ)) (written : ℕ)
        → BeginsBehind h.stretches (h.rest ++ take taken part)
        → IsAt reader (h.rest ++ take taken part) (h.last ++ one ∷ []) h.torn
        → WrotePart query form (record { before = old; after = after })
        ((entries_in h.stretches ++ h.last) ++ one ∷ []) written
        → HasWrittenPart query form damaged (record { before = old; after = after }) n
        (bytes ++ part) written
    part-entry reader part taken one after written begins at wrote = record {
      stretches = h.stretches;
      entries = (entries_in h.stretches ++ h.last) ++ one ∷ [];
      told = told_of h.stretches h.torn;
      salvage = record {
        front = bytes ++ take taken part;
        more = drop taken part;
        split = ap (λ l. bytes ++ l) (sym (take-append-drop taken part))
            ∙ sym (append_assoc bytes (take taken part) (drop taken part));
        salvage = record {
          rest = h.rest ++ take taken part;
          last = h.last ++ one ∷ [];
          torn = h.torn;
          cut = cut_on bytes (take taken part) h.rest h.stretches h.cut begins;
          hold = holds_at reader (h.rest ++ take taken part) (h.last ++ one ∷ []) h.torn at;
          are_entries = append_assoc (entries_in h.stretches) h.last (one ∷ []);
          is_told = refl;
        };
      };
      wrote = wrote;
      was_told = h.told;
      stands = h.stands;
    }

    -- an entry more could not be held, for which memory ran out
    pub runs-out : (more : List ℕ) (after : Option (List ℕ))
        → WroteNothing query (record { before = old; after = after })
        → HasRunOut query damaged (record { before = old; after = after }) n (bytes ++ more)
    runs-out more after wrote = record {
      stretches = h.stretches;
      entries = entries_in h.stretches ++ h.last;
      told = told_of h.stretches h.torn;
      salvage = record { front = bytes; more = more; split = refl; salvage = salvage-at };
      wrote = wrote;
      was_told = h.told;
      stands = h.stands;
    }

    -- an entry more could not be given
    pub fails-entry : (reader : LogReading) (part : List ℕ) (taken : ℕ) (one : MarkedCopy)
        (after : Option (List ℕ)) (fault : LogFault)
        → BeginsBehind h.stretches (h.rest ++ take taken part)
        → IsAt reader (h.rest ++ take taken part) (h.last ++ one ∷ []) h.torn
        → FailsGiving query form (record { before = old; after = after })
        (map unplaced ((entries_in h.stretches ++ h.last) ++ one ∷ [])) fault
        → EndsRun query form damaged (record { before = old; after = after }) n (bytes ++ part)
        fault
    fails-entry reader part taken one after Read begins at f = absurd f
    fails-entry reader part taken one after (Write written) begins at f =
        part-entry reader part taken one after written begins at f
    fails-entry reader part taken one after (BadLog line) begins at f = absurd f
    fails-entry reader part taken one after (Memory error) begins at f = runs-out part after f

    -- a read failed
    pub ends-unread : (after : Option (List ℕ)) (fault : LogFault)
        → EndsUnread query form (record { before = old; after = after })
        (map unplaced (entries_in h.stretches ++ h.last)) fault
        → EndsRun query form damaged (record { before = old; after = after }) n bytes fault
    ends-unread after Read ends = salvaged after ends
    ends-unread after (Write written) ends = part-all after written ends
    ends-unread after (BadLog line) ends = absurd ends
    ends-unread after (Memory error) ends = absurd ends

    -- the bytes stop being a log, which is refused
    pub stops : (part : List ℕ) (line : ℕ) (after : Option (List ℕ)) → run.damaged ≡ Refused
        → StopAt (h.rest ++ part) h.last h.torn (record { line = line })
        → WroteToEnd query form (record { before = old; after = after })
        (entries_in h.stretches ++ h.last)
        → StopsRun query form damaged (record { before = old; after = after }) n (bytes ++ part)
        line
    stops part line after refused stop wrote =
        let mode : damaged ≡ Refused = sym h.mode ∙ refused in
        let none : h.stretches ≡ [] = subst (λ d. StandsIn d h.stretches) mode h.stands in
        let same : bytes ≡ h.rest = h.cut.split ∙ ap (λ ss. bytes_in ss ++ h.rest) none in
        record {
          entries = h.last;
          torn = h.torn;
          stop = subst (λ l. StopAt (l ++ part) h.last h.torn (record { line = line })) (sym same)
              stop;
          wrote = subst (λ ss. WroteToEnd query form (record { before = old; after = after })
              (entries_in ss ++ h.last)) none wrote;
          told = all-torn n h.torn (subst (λ ss. HaveToldAll n (told_of ss h.torn)) none h.told);
          refused = mode;
        }

-- nothing is passed over yet
pub stands-none : (damaged : Damaged) → StandsIn damaged []
stands-none Refused = refl
stands-none PassedOver = tt

stands-other : (damaged : Damaged) (one other : Stretch) (earlier : List Stretch)
    → StandsIn damaged (one ∷ earlier) → StandsIn damaged (other ∷ earlier)
stands-other Refused one other earlier e = let never = e in cc
stands-other PassedOver one other earlier e = tt

-- the last stretch goes on
module _ (query : Query) (form : Form) (damaged : Damaged) (old : Option (List ℕ)) (run : LogRun)
    (new : Option (List ℕ)) (n : Notices) (bytes more : List ℕ) (ended : ℕ) where
  pub goes-by : (h : IsRunning query form damaged old run new n bytes)
      → length (bytes ++ more) ≤ most_read → run.is_passing ≡ true → All IsNoBracket more
      → ended ≡ min (run.ended + lines_in more) most_lines
      → IsRunning query form damaged old (record run { ended = ended }) new n (bytes ++ more)
  goes-by h within is_passing none ended_is = go h.stretches refl
    where
      passing : IsPassing true h.stretches h.rest h.torn
      passing = subst (λ b. IsPassing b h.stretches h.rest h.torn) is_passing h.passing

      go : (stretches : List Stretch) → h.stretches ≡ stretches
          → IsRunning query form damaged old (record run { ended = ended }) new n (bytes ++ more)
      go [] e = absurd (passing.2 e)
      go (stretch ∷ earlier) e =
          let cut : AreCut bytes (stretch ∷ earlier) [] =
          subst (λ l. AreCut bytes (stretch ∷ earlier) l) passing.0
          (subst (λ ss. AreCut bytes ss h.rest) e h.cut) in
          let on = cut_longer bytes more stretch earlier cut none in
          let long = ap length on.split in
          let front : List ℕ = bytes_in earlier ++ stretch.bytes in
          let all : List ℕ = bytes_in earlier ++ (stretch.bytes ++ more) in
          let same : all ≡ front ++ more = sym (append_assoc (bytes_in earlier) stretch.bytes more)
          in
          let lines : lines_in all ≡ lines_in front + lines_in more =
          ap lines_in same ∙ lines_more front more in
          let size = length-append all [] in
          let few = lines_few all in
          let was : run.ended ≡ lines_in front = h.ended ∙ ap (λ ss. lines_in (bytes_in ss)) e in
          record {
            stretches = longer stretch more ∷ earlier;
            rest = [];
            last = h.last;
            torn = [];
            cut = on;
            at = subst (λ l. IsAt run.log l h.last []) passing.0
                (subst (λ l. IsAt run.log h.rest h.last l) passing.1 h.at);
            given = subst (λ ss. HasGivenOutput query form old new run.output
                (map unplaced (entries_in ss ++ h.last))) e h.given;
            told = subst (λ ss. HaveToldAll n (told_of ss [])) e
                (subst (λ l. HaveToldAll n (told_of h.stretches l)) passing.1 h.told);
            ended = omega (arith, ended_is, was, lines, few, long, size, within);
            first = subst (λ ss. first_line ss ≡ run.first_bad) e h.first;
            passing = subst (λ b. IsPassing b (longer stretch more ∷ earlier) [] [])
                (sym is_passing) (refl, refl, (λ none. cc));
            mode = h.mode;
            stands = stands-other damaged stretch (longer stretch more) earlier
                (subst (StandsIn damaged) e h.stands);
          }

-- a stretch more, which is passed over
ended-over : (before rest part : List ℕ) (ended from after : ℕ)
    → length (before ++ (rest ++ part)) ≤ most_read → ended ≡ lines_in before
    → from ≡ min (line_behind rest) most_lines
    → after ≡ min (ended + (from - 1) + lines_in part) most_lines
    → after ≡ lines_in (before ++ (rest ++ part))
ended-over before rest part ended from after size was from_is after_is =
    omega (
      arith,
      size,
      was,
      from_is,
      after_is,
      lines_more before (rest ++ part),
      lines_more rest part,
      lines_few (before ++ (rest ++ part)),
    )

module _ (query : Query) (form : Form) (damaged : Damaged) (old : Option (List ℕ))
    (run next : LogRun) (new : Option (List ℕ)) (n told : Notices) (bytes part : List ℕ)
    (line from : ℕ) where
  pub passes-over : (h : IsRunning query form damaged old run new n bytes)
      → length (bytes ++ part) ≤ most_read → run.damaged ≡ PassedOver
      → BeginsBehind h.stretches (h.rest ++ part) → All IsNoBracket (drop 1 part)
      → StopAt (h.rest ++ part) h.last h.torn (record { line = line }) → from ≡ run.log.line
      → next.damaged ≡ run.damaged → next.output ≡ run.output → next.is_passing ≡ true
      → IsAt next.log [] [] []
      → next.ended ≡ min (run.ended + (from - 1) + lines_in part) most_lines
      → next.first_bad ≡ first_of run.first_bad (min (run.ended + line) most_lines)
      → HaveToldAll told (told_of h.stretches h.torn
      ++ damaged_at (min (run.ended + line) most_lines) ∷ [])
      → IsRunning query form damaged old next new told (bytes ++ part)
  passes-over h within passed begins none stop_at from_is same output passing fresh ended first
      was_told =
      let front = bytes_in h.stretches in
      let all : List ℕ = h.rest ++ part in
      let split : bytes ++ part ≡ front ++ all =
      ap (λ l. l ++ part) h.cut.split ∙ append_assoc front h.rest part in
      let size : length (front ++ all) ≤ most_read =
      subst (λ l. length l ≤ most_read) split within in
      let long = length-append front all in
      let stop = stop-line all h.last h.torn line (omega (arith, size, long)) stop_at in
      let small = stop-bound all h.last h.torn line stop in
      let bad : min (run.ended + line) most_lines ≡ lines_in front + line =
      omega (arith, h.ended, size, long, small, lines_few front) in
      let stretch : Stretch =
      record { bytes = all; entries = h.last; torn = h.torn; line = line } in
      let over : IsPassedOver stretch = record {
        stop = stop;
        no_bracket = none_behind h.rest part h.last h.torn line
            (hold_is_log h.rest h.last h.torn (holds_at run.log h.rest h.last h.torn h.at)) none
            stop;
      } in
      record {
        stretches = stretch ∷ h.stretches;
        rest = [];
        last = [];
        torn = [];
        cut = cut_off bytes part h.rest h.stretches stretch h.cut refl over begins;
        at = fresh;
        given = subst (λ o. HasGivenOutput query form old new o
            (map unplaced (entries_in (stretch ∷ h.stretches) ++ []))) (sym output)
            (subst (λ l. HasGivenOutput query form old new run.output (map unplaced l))
            (sym (append-nil (entries_in h.stretches ++ h.last))) h.given);
        told = subst (HaveToldAll told) (sym (told_over h.stretches stretch))
            (subst (λ k. HaveToldAll told (told_of h.stretches h.torn ++ damaged_at k ∷ [])) bad
            was_told);
        ended = ended-over front h.rest part run.ended from next.ended size h.ended
            (from_is ∙ h.at.line) ended;
        first = sym (first ∙ ap (first_of run.first_bad) bad
            ∙ ap (λ f. first_of f (lines_in front + line)) (sym h.first));
        passing = subst (λ b. IsPassing b (stretch ∷ h.stretches) [] []) (sym passing)
            (refl, refl, (λ none. cc));
        mode = same ∙ h.mode;
        stands = subst (λ d. StandsIn d (stretch ∷ h.stretches)) (sym passed ∙ h.mode) tt;
      }

-- a fault in a front of the bytes
stop-more : (front more : List ℕ) (entries : List MarkedCopy) (torn : List ℕ) (bad : BadLine)
    → StopAt front entries torn bad → StopAt (front ++ more) entries torn bad
stop-more front more entries torn bad s = record {
  line = s.line;
  stop = stop_on front more entries torn s.line s.stop;
  counted = s.counted;
}

pub ends-more : (query : Query) (form : Form) (damaged : Damaged) (contents : Contents)
    (n : Notices) (front more : List ℕ) (fault : LogFault) → (fault ≡ Read → ⊥)
    → EndsRun query form damaged contents n front fault
    → EndsRun query form damaged contents n (front ++ more) fault
ends-more query form damaged contents n front more Read not_read h = absurd (not_read refl)
ends-more query form damaged contents n front more (Write written) not_read h = record {
  stretches = h.stretches;
  entries = h.entries;
  told = h.told;
  salvage = record {
    front = h.salvage.front;
    more = h.salvage.more ++ more;
    split = ap (λ l. l ++ more) h.salvage.split
        ∙ append_assoc h.salvage.front h.salvage.more more;
    salvage = h.salvage.salvage;
  };
  wrote = h.wrote;
  was_told = h.was_told;
  stands = h.stands;
}
ends-more query form damaged contents n front more (BadLog line) not_read h = record {
  entries = h.entries;
  torn = h.torn;
  stop = stop-more front more h.entries h.torn (record { line = line }) h.stop;
  wrote = h.wrote;
  told = h.told;
  refused = h.refused;
}
ends-more query form damaged contents n front more (Memory error) not_read h = record {
  stretches = h.stretches;
  entries = h.entries;
  told = h.told;
  salvage = record {
    front = h.salvage.front;
    more = h.salvage.more ++ more;
    split = ap (λ l. l ++ more) h.salvage.split
        ∙ append_assoc h.salvage.front h.salvage.more more;
    salvage = h.salvage.salvage;
  };
  wrote = h.wrote;
  was_told = h.was_told;
  stands = h.stands;
}

-- what is answered of a front of a piece
pub front-answer : (query : Query) (form : Form) (damaged : Damaged) (contents : Contents)
    (n : Notices) (bytes piece : List ℕ) (count : ℕ) (P : List ℕ → Type 0)
    (r : Result ℕ LogFault) → count ≤ length piece → IfOk r (λ k. k ≤ length (take count piece))
    → (IsErrOf r Read → ⊥)
    → MatchResult r (λ k. P (bytes ++ take k (take count piece)))
    (λ fault. EndsRun query form damaged contents n (bytes ++ take count piece) fault)
    → MatchResult r (λ k. P (bytes ++ take k piece))
    (λ fault. EndsRun query form damaged contents n (bytes ++ piece) fault)
front-answer query form damaged contents n bytes piece count P (Ok k) fits within not_read h =
    let short : k ≤ count = omega (arith, within, fits, length-take-le count piece fits) in
    subst (λ l. P (bytes ++ l)) (take-take k count piece short) h
front-answer query form damaged contents n bytes piece count P (Err fault) fits within not_read h =
    subst (λ l. EndsRun query form damaged contents n l fault)
    (append_assoc bytes (take count piece) (drop count piece)
    ∙ ap (λ l. bytes ++ l) (take-append-drop count piece))
    (ends-more query form damaged contents n (bytes ++ take count piece) (drop count piece) fault
    (λ e. not_read (ap Err e)) h)

-- ---- what it answers

-- bytes of which nothing is passed over are a log
held-salvage : (bytes : List ℕ) (entries : List MarkedCopy) (told : List Notice)
    (s : Salvage [] bytes entries told) → HoldEntries bytes entries s.torn
held-salvage bytes entries told s =
    subst (λ l. HoldEntries bytes l s.torn) (sym s.are_entries)
    (subst (λ l. HoldEntries l s.last s.torn) (sym s.cut.split) s.hold)

held-to-end : (bytes : List ℕ) (entries : List MarkedCopy) (told : List Notice)
    (s : SalvageToEnd [] bytes entries told) → HoldEntriesToEnd bytes entries s.torn
held-to-end bytes entries told s =
    subst (λ l. HoldEntriesToEnd bytes l s.torn) (sym s.are_entries)
    (subst (λ l. HoldEntriesToEnd l s.last s.torn) (sym s.cut.split) s.hold)

-- where no line is bad, nothing is passed over
first-some : (first : Option ℕ) (line : ℕ) → first_of first line ≡ None → ⊥
first-some None line e = cc
first-some (Some first) line e = cc

no-stretch : (stretches : List Stretch) → first_line stretches ≡ None → stretches ≡ []
no-stretch [] e = refl
no-stretch (stretch ∷ earlier) e =
    absurd (first-some (first_line earlier) (lines_in (bytes_in earlier) + stretch.line) e)

module _ {R W : Type 0} (query : Query) (form : Form) (d : Devices R W) (n : Notices)
    (bytes : List ℕ) (within : length bytes ≤ most_read) where
  read-refused : HasSalvaged query form Refused (contents_of d) n bytes
      → AnswersLogRun query form d n (Err Read) bytes
  read-refused h =
      let s = subst (λ ss. Salvage ss bytes h.entries h.told) h.stands h.salvage in (
        h.entries,
        s.torn,
        held-salvage bytes h.entries h.told s,
        h.wrote,
        all-torn n s.torn (subst (HaveToldAll n) s.is_told h.was_told),
      )

  write-refused : (written : ℕ) → HasWrittenPart query form Refused (contents_of d) n bytes written
      → AnswersLogRun query form d n (Err (Write written)) bytes
  write-refused written h =
      let b = subst (λ ss. BeginSalvage ss bytes h.entries h.told) h.stands h.salvage in
      let s = b.salvage in (
        h.entries,
        s.torn,
        record {
          front = b.front;
          more = b.more;
          split = b.split;
          hold = held-salvage b.front h.entries h.told s;
        },
        h.wrote,
        all-torn n s.torn (subst (HaveToldAll n) s.is_told h.was_told),
      )

  memory-refused : HasRunOut query Refused (contents_of d) n bytes
      → RanOut query form d n true bytes
  memory-refused h =
      let b = subst (λ ss. BeginSalvage ss bytes h.entries h.told) h.stands h.salvage in
      let s = b.salvage in (
        h.entries,
        s.torn,
        record {
          front = b.front;
          more = b.more;
          split = b.split;
          hold = held-salvage b.front h.entries h.told s;
        },
        h.wrote.nothing,
        all-torn n s.torn (subst (HaveToldAll n) s.is_told h.was_told),
      )

  pub ends-answer : (damaged : Damaged) (fault : LogFault)
      → EndsRun query form damaged (contents_of d) n bytes fault
      → AnswersRun query form d n damaged (Err fault) bytes
  ends-answer Refused Read h = read-refused h
  ends-answer Refused (Write written) h = write-refused written h
  ends-answer Refused (BadLog line) h =
      (h.entries, h.torn, stop-line bytes h.entries h.torn line within h.stop, h.wrote, h.told)
  ends-answer Refused (Memory error) h =
      subst (λ b. RanOut query form d n b bytes) (sym h.wrote.last) (memory-refused h)
  ends-answer PassedOver Read h =
      (h.stretches, h.entries, h.told, h.salvage, h.wrote, h.was_told)
  ends-answer PassedOver (Write written) h =
      (h.stretches, h.entries, h.told, h.salvage, h.wrote, h.was_told)
  ends-answer PassedOver (BadLog line) h = let never = h.refused in cc
  ends-answer PassedOver (Memory error) h =
      subst (λ b. SalvageRanOut query form d n b bytes) (sym h.wrote.last)
      (h.stretches, h.entries, h.told, h.salvage, h.wrote.nothing, h.was_told)

  all-answer : (entries : List MarkedCopy) (count : ℕ) (damaged : Damaged)
      → AreAll query form d n bytes
      → HasRunOver query form damaged (contents_of d) n bytes entries None
      → count ≡ min (length (chosen query entries)) (2 ^ 64 - 1)
      → AnswersLogRun query form d n (Ok count) bytes
  all-answer entries count damaged all h counted =
      let s = subst (λ ss. SalvageToEnd ss bytes entries h.told) (no-stretch h.stretches h.first)
      h.salvage in
      let hold = held-to-end bytes entries h.told s in (
        all,
        entries,
        s.torn,
        hold,
        h.wrote,
        all-torn n s.torn (subst (HaveToldAll n) s.is_told h.was_told),
        count-exact query entries s.torn bytes count within hold counted,
      )

  pub finished-answer : (damaged : Damaged) (outcome : Result ℕ LogFault)
      → AreAll query form d n bytes
      → EndsAll query form damaged (contents_of d) n bytes outcome
      → AnswersRun query form d n damaged outcome bytes
  finished-answer Refused (Ok count) all h = all-answer h.0 count Refused all h.1 h.2
  finished-answer PassedOver (Ok count) all h = all-answer h.0 count PassedOver all h.1 h.2
  finished-answer Refused (Err (BadLog line)) all h =
      let never : ◌≡◌ {A = Option ℕ} None (Some line) =
      ap first_line (sym h.1.stands) ∙ h.1.first in
      cc
  finished-answer PassedOver (Err (BadLog line)) all h = (
    all,
    h.1.stretches,
    h.0,
    h.1.told,
    h.1.salvage,
    h.1.wrote,
    h.1.was_told,
    h.1.first,
  )
  finished-answer damaged (Err (Write written)) all h = ends-answer damaged (Write written) h
  finished-answer damaged (Err Read) all h = absurd h
  finished-answer damaged (Err (Memory error)) all h = absurd h

-- memory runs out before anything is read
module _ {R W : Type 0} (query : Query) (form : Form) (d : Devices R W) (n : Notices)
    (run : LogRun) (error : AllocError) where
  pub ran-out-first : (damaged : Damaged) → d.reader_after ≡ d.reader
      → d.writer_after ≡ d.writer → HaveToldTorn n []
      → IsRunning query form damaged (contents_of d).before run (contents_of d).after n []
      → Appends (contents_of d).before (contents_of d).after []
      → AnswersRun query form d n damaged (Err (Memory error)) []
  ran-out-first damaged reader writer told h none = of query.last refl damaged h
    where
      of : (b : Bool) → query.last ≡ b → (damaged : Damaged)
          → IsRunning query form damaged (contents_of d).before run (contents_of d).after n []
          → AnswersRun query form d n damaged (Err (Memory error)) []
      of true at_last damaged h =
          ends-answer query form d n [] (omega arith) damaged (Memory error)
          (runs-out query form damaged (contents_of d).before run (contents_of d).after n [] h []
          (contents_of d).after (record { last = at_last; nothing = none }))
      of false at_once Refused h =
          subst (λ b. RanOut query form d n b []) (sym at_once) (refl, reader, writer, told)
      of false at_once PassedOver h =
          subst (λ b. SalvageRanOut query form d n b []) (sym at_once) (refl, reader, writer, told)

pub memory-not-read : {A : Type 0} (error : AllocError)
    → ◌≡◌ {A = Result A LogFault} (Err (Memory error)) (Err Read) → ⊥
memory-not-read error e = cc

pub memory-not-write : {A : Type 0} (error : AllocError) (written : ℕ)
    → ◌≡◌ {A = Result A LogFault} (Err (Memory error)) (Err (Write written)) → ⊥
memory-not-write error written e = cc
