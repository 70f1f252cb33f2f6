-- A run over a kept log, step by step.
use Rattle.std.specs.declared.alloc.AllocError.{AllocError}
use Rattle.std.proofs.Common.{◌≡◌, inl, inr, ℕ, ◌+◌, ◌≤◌, Bool, true, false, min, List, [], ◌∷◌, ◌++◌, length, take, drop, refl, sym, ap, ◌∙◌, subst, arith, append_assoc, append-nil, length-append, take-append-drop, Result, Ok, Err}
use Rattle.std.specs.Io.KnownBytes.{Appends}
use Rattle.std.proofs.lemmas.List.Sums.{count_by-le-length}
use Rattle.std.specs.Prelude.{◌==◌}
use Rattle.nx_code.specs.Reading.{newline}
use Rattle.nx_fec.specs.Transfers.{Contents, Devices, contents_of}
use Rattle.nx_log.specs.KeptLog.{ArePlacedFrom, StopKept}
use Rattle.nx_log.specs.KeptRun.{AnswersKeptRun, AreAllKept, KeptRanOut}
use Rattle.nx_log.specs.LogReader.{most_lines}
use Rattle.nx_log.specs.LogRun.{WrotePlacedPart, most_read}
use Rattle.nx_log.specs.Places.{PlacedCopy}
use Rattle.nx_log.specs.Reading.{line_behind}
use Rattle.nx_log.specs.private.KeptReading.{IsAtKept}
use Rattle.nx_log.specs.private.KeptRunning.{EndsKeptAll, EndsKeptRun, IsKeptRunning}
use Rattle.nx_log.specs.private.LogRunning.{EndsUnread, FailsGiving}
use Rattle.nx_log.specs.declared.entries.kept_reader.KeptReader.{KeptReader}
use Rattle.nx_log.specs.declared.kept_runs.KeptRun.{KeptRun}
use Rattle.nx_log.specs.declared.log_fault.LogFault.{LogFault}
use Rattle.nx_log.specs.declared.log_fault.LogFault.TheVariants.{Read, Write, BadLog, Memory}
use Rattle.nx_log.specs.declared.queries.query.Query.{Query}
use Rattle.nx_log.specs.declared.writing.form.Form.{Form}
use Rattle.nx_log.proofs.lemmas.kept.Standing.{holds_kept}
use Rattle.nx_log.proofs.lemmas.runs.Outputs.{chosen-few}

-- ---- how a run ends

module _ (query : Query) (form : Form) (from : ℕ) (contents : Contents) where
  pub part_ends : (reader : KeptReader) (bytes more : List ℕ) (entries : List PlacedCopy)
      (written : ℕ) → IsAtKept reader from bytes entries
      → WrotePlacedPart query form contents entries written
      → EndsKeptRun query form from contents (bytes ++ more) (Write written)
  part_ends reader bytes more entries written at wrote = (
    entries,
    record {
      front = bytes;
      more = more;
      split = refl;
      hold = holds_kept reader from bytes entries at;
    },
    wrote,
  )

  pub part_all : (reader : KeptReader) (bytes : List ℕ) (entries : List PlacedCopy) (written : ℕ)
      → IsAtKept reader from bytes entries → WrotePlacedPart query form contents entries written
      → EndsKeptRun query form from contents bytes (Write written)
  part_all reader bytes entries written at wrote =
      subst (λ l. EndsKeptRun query form from contents l (Write written)) (append-nil bytes)
      (part_ends reader bytes [] entries written at wrote)

  -- a read failed
  pub unread_ends : (reader : KeptReader) (bytes : List ℕ) (entries : List PlacedCopy)
      (fault : LogFault) → IsAtKept reader from bytes entries
      → EndsUnread query form contents entries fault
      → EndsKeptRun query form from contents bytes fault
  unread_ends reader bytes entries Read at ends =
      (entries, holds_kept reader from bytes entries at, ends)
  unread_ends reader bytes entries (Write written) at ends =
      part_all reader bytes entries written at ends
  unread_ends reader bytes entries (BadLog line) at ends = absurd ends
  unread_ends reader bytes entries (Memory error) at ends = absurd ends

  -- an entry could not be given, with which some first bytes of a piece end
  pub entry_fails : (before reader : KeptReader) (bytes piece : List ℕ) (taken : ℕ)
      (entries : List PlacedCopy) (one : PlacedCopy) (fault : LogFault)
      → IsAtKept before from bytes entries
      → IsAtKept reader from (bytes ++ take taken piece) (entries ++ one ∷ [])
      → FailsGiving query form contents (entries ++ one ∷ []) fault
      → EndsKeptRun query form from contents (bytes ++ piece) fault
  entry_fails before reader bytes piece taken entries one (Write written) was at ends =
      let split : (bytes ++ take taken piece) ++ drop taken piece ≡ bytes ++ piece =
      append_assoc bytes (take taken piece) (drop taken piece)
      ∙ ap (λ l. bytes ++ l) (take-append-drop taken piece) in
      subst (λ l. EndsKeptRun query form from contents l (Write written)) split
      (part_ends reader (bytes ++ take taken piece) (drop taken piece) (entries ++ one ∷ [])
      written at ends)
  entry_fails before reader bytes piece taken entries one (Memory error) was at ends = (
    entries,
    record {
      front = bytes;
      more = piece;
      split = refl;
      hold = holds_kept before from bytes entries was;
    },
    ends,
  )
  entry_fails before reader bytes piece taken entries one Read was at ends = absurd ends
  entry_fails before reader bytes piece taken entries one (BadLog line) was at ends = absurd ends

-- ---- what it answers

line_small : (bytes : List ℕ) (n : ℕ) → length bytes ≤ most_read
    → line_behind (take n bytes) ≤ most_lines
line_small bytes n within =
    omega (
      arith,
      within,
      count_by-le-length (λ byte. byte == newline) (take n bytes),
      ap length (take-append-drop n bytes),
      length-append (take n bytes) (drop n bytes),
    )

exact_line : (from : ℕ) (bytes : List ℕ) (entries : List PlacedCopy) (exact line : ℕ)
    → length bytes ≤ most_read → StopKept from bytes entries exact → line ≡ min exact most_lines
    → line ≡ exact
exact_line from bytes entries exact line within stop is =
    omega (arith, is, stop.is_line, line_small bytes stop.place within)

few_placed : (from : ℕ) (entries : List PlacedCopy) (bytes : List ℕ)
    → ArePlacedFrom from entries bytes → length entries ≤ length bytes
few_placed from [] bytes is = omega arith
few_placed from (first ∷ entries) bytes is =
    omega (
      arith,
      ap length is.6,
      length-append is.1 is.2,
      few_placed (from + 1 + length is.1) entries is.2 is.7,
    )

module _ {R W : Type 0} (query : Query) (form : Form) (from : ℕ) (d : Devices R W)
    (bytes : List ℕ) (within : length bytes ≤ most_read) where
  pub ends_answer : (fault : LogFault)
      → EndsKeptRun query form from (contents_of d) bytes fault
      → AnswersKeptRun query form from d (Err fault) bytes
  ends_answer Read h = h
  ends_answer (Write written) h = h
  ends_answer (BadLog line) h =
      let s = h.1 in
      let same = exact_line from bytes h.0 s.line line within s.stop s.counted in
      subst (λ l. AnswersKeptRun query form from d (Err (BadLog l)) bytes) (sym same)
      (h.0, s.stop, inl s.within, h.2)
  ends_answer (Memory error) h =
      subst (λ b. KeptRanOut query form from d b bytes) (sym h.2.last) (h.0, h.1, h.2.nothing)

  pub finished_answer : (outcome : Result ℕ LogFault) → AreAllKept query form from d bytes
      → EndsKeptAll query form from (contents_of d) bytes outcome
      → AnswersKeptRun query form from d outcome bytes
  finished_answer (Ok count) all h =
      let few = few_placed from h.0 h.1.front h.1.placed in (
        all,
        h.0,
        h.1,
        h.2,
        omega (
          arith,
          h.3,
          within,
          few,
          ap length h.1.split,
          length-append h.1.front h.1.tail,
          chosen-few query h.0,
        ),
      )
  finished_answer (Err (BadLog line)) all h =
      let same = exact_line from bytes h.0 h.1 line within h.2 h.3 in
      subst (λ l. AnswersKeptRun query form from d (Err (BadLog l)) bytes) (sym same)
      (h.0, h.2, inr all, h.4)
  finished_answer (Err (Write written)) all h = ends_answer (Write written) h
  finished_answer (Err Read) all h = absurd h
  finished_answer (Err (Memory error)) all h = absurd h

-- memory runs out before anything is read
module _ {R W : Type 0} (query : Query) (form : Form) (from : ℕ) (d : Devices R W)
    (run : KeptRun) (error : AllocError) where
  pub ran_out_first : d.reader_after ≡ d.reader → d.writer_after ≡ d.writer
      → IsKeptRunning query form from (contents_of d).before run (contents_of d).after []
      → Appends (contents_of d).before (contents_of d).after []
      → AnswersKeptRun query form from d (Err (Memory error)) []
  ran_out_first reader writer h none = of query.last refl
    where
      of : (b : Bool) → query.last ≡ b → AnswersKeptRun query form from d (Err (Memory error)) []
      of true at_last =
          subst (λ b. KeptRanOut query form from d b []) (sym at_last) (
            h.entries,
            record {
              front = [];
              more = [];
              split = refl;
              hold = holds_kept run.log from [] h.entries h.at;
            },
            none,
          )
      of false at_once =
          subst (λ b. KeptRanOut query form from d b []) (sym at_once) (refl, reader, writer)
