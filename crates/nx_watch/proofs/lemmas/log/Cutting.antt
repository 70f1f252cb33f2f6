-- What is told of the bytes that a start cuts.
use Rattle.std.proofs.Common.{◌≡◌, ◌≢◌, ◌⊎◌, ⊎_elim, ◌==◌, Bool, false, true, inl, inr, ℕ, zero, suc, ◌+◌, ◌<◌, ◌≤◌, List, [], ◌∷◌, ◌++◌, length, drop, take}
use Rattle.std.proofs.Common.{Option, Result, Ok, Err, refl, sym, ap, ◌∙◌, subst, arith, append_assoc, append-nil, take-append-drop}
use Rattle.std.specs.Prelude.{IfErr, IfOk, codes, decimal}
use Rattle.std.specs.List.{flat_map}
use Rattle.std.proofs.lemmas.Bool.Decides.{nat_tests}
use Rattle.std.proofs.lemmas.List.Concat.{flat_map-append}
use Rattle.nx_fec.specs.Transfers.{CountedDevice}
use Rattle.nx_kept.specs.Kept.{IsKeptLog, line_behind}
use Rattle.nx_kept.specs.Disk.{OnlyReads}
use Rattle.nx_kept.specs.Open.{Opens}
use Rattle.nx_kept.specs.declared.disk.DiskFile.{Ghosts as TellsOfDisk}
use Rattle.nx_kept.specs.declared.fault.OpenFault.{OpenFault}
use Rattle.nx_kept.specs.declared.log.KeptLog.{KeptLog}
use Rattle.nx_kept.specs.Taker.{HeardOfCut, HearsBeforeCut, Took, TookAll, TookOnly, TookSome, cut_of}
use Rattle.nx_log.specs.Entries.{IsWholeEntry}
use Rattle.nx_log.specs.View.{IsViewOf, copy_said}
use Rattle.nx_log.specs.declared.entries.entry.EntryView.{EntryView}
use Rattle.nx_watch.specs.CutTold.{AreHeads, BeginsWithEntry, TellsOfSomeCut, count_told, count_told_of, cut_told, head_told}
use Rattle.nx_watch.specs.LineRun.{HasTold}
use Rattle.nx_watch.specs.private.Stamp.{note}
use Rattle.nx_watch.specs.Stamps.{notes_of}
use Rattle.nx_watch.specs.ToldFirst.{IsNotedAsTold, TellsBeforeChange, ToldBeforeCut}
use Rattle.nx_watch.specs.Watch.{TellsOfCut, longest_entry}
use Rattle.nx_watch.proofs.lemmas.lines.Run.{nothing}
use Rattle.nx_watch.specs.declared.kept_log.log_grammar.LogGrammar.{LogGrammar}
use Rattle.nx_watch.specs.declared.kept_log.log_opening.LogOpening.{LogOpening}
use Rattle.nx_watch.specs.private.Cutting.{AreHeadsBefore, HasToldCut, HearsOfCut, IsHeadAt, OpensLog, TakesEntry, TellsMore}
use Rattle.nx_watch.specs.private.Remembering.{RemembersMore}

-- ---- the heads among bytes

-- one place more
place-more : (bytes : List ℕ) (at : ℕ) (here more : List (List ℕ)) → at < length bytes
    → IsHeadAt (drop at bytes) here → AreHeads (drop (suc at) bytes) more
    → AreHeads (drop at bytes) (here ++ more)
place-more [] at here more within is all = absurd (omega (arith, within))
place-more (byte ∷ bytes) zero here more within (inl h) all =
    inl (h.0, more, ap (λ (l : List (List ℕ)). l ++ more) h.1, all)
place-more (byte ∷ bytes) zero here more within (inr h) all =
    inr (h.0, subst (AreHeads bytes) (sym (ap (λ (l : List (List ℕ)). l ++ more) h.1)) all)
place-more (byte ∷ bytes) (suc at) here more within is all =
    place-more bytes at here more (omega (arith, within)) is all

pub heads-more : (bytes : List ℕ) (at : ℕ) (heads here : List (List ℕ)) → at < length bytes
    → AreHeadsBefore bytes at heads → IsHeadAt (drop at bytes) here
    → AreHeadsBefore bytes (at + 1) (heads ++ here)
heads-more bytes at heads here within so_far is = λ more all.
    let next : at + 1 ≡ suc at = omega arith in
    subst (AreHeads bytes) (sym (append_assoc heads here more))
    (so_far (here ++ more) (place-more bytes at here more within is
    (subst (λ (n : ℕ). AreHeads (drop n bytes) more) next all)))

none-left : (bytes : List ℕ) (at : ℕ) → length bytes ≤ at → AreHeads (drop at bytes) []
none-left [] zero h = refl
none-left [] (suc at) h = refl
none-left (byte ∷ bytes) zero h = absurd (omega (arith, h))
none-left (byte ∷ bytes) (suc at) h = none-left bytes at (omega (arith, h))

pub heads-all : (bytes : List ℕ) (at : ℕ) (heads : List (List ℕ)) → length bytes ≤ at
    → AreHeadsBefore bytes at heads → AreHeads bytes heads
heads-all bytes at heads end so_far =
    subst (AreHeads bytes) (append-nil heads) (so_far [] (none-left bytes at end))

-- bytes that are seen as an entry begin with one
pub begins : (bytes : List ℕ) (view : EntryView) → IsViewOf bytes view → BeginsWithEntry bytes
begins bytes view seen = (
  take view.len bytes,
  drop view.len bytes,
  (copy_said view.head view.text.now, seen.entry),
  sym (take-append-drop view.len bytes),
)

-- ---- what is told more

module _ {F : Type 0} (contents : F → Option (List ℕ)) where
  pub tells-nothing : (old : CountedDevice F) → TellsMore contents old old []
  tells-nothing old = λ before text h.
      subst (HasTold before (contents old.inner) old.failures) (sym (append-nil text)) h

  pub tells-both : (old mid new : CountedDevice F) (a b : List ℕ) → TellsMore contents old mid a
      → TellsMore contents mid new b → TellsMore contents old new (a ++ b)
  tells-both old mid new a b first second = λ before text h.
      subst (HasTold before (contents new.inner) new.failures) (append_assoc text a b)
      (second before (text ++ a) (first before text h))

  pub tells-same : (old new : CountedDevice F) (a b : List ℕ) → a ≡ b → TellsMore contents old new a
      → TellsMore contents old new b
  tells-same old new a b is tells = subst (TellsMore contents old new) is tells

  -- the heads up to a place, and the one there
  pub tells-heads : (old mid new : CountedDevice F) (heads here : List (List ℕ))
      → TellsMore contents old mid (flat_map head_told heads)
      → TellsMore contents mid new (flat_map head_told here)
      → TellsMore contents old new (flat_map head_told (heads ++ here))
  tells-heads old mid new heads here first second =
      tells-same old new (flat_map head_told heads ++ flat_map head_told here)
      (flat_map head_told (heads ++ here)) (sym (flat_map-append head_told heads here))
      (tells-both old mid new (flat_map head_told heads) (flat_map head_told here) first second)

  -- one head, told in three pieces
  pub tells-head : (old one two new : CountedDevice F) (line : List ℕ)
      → TellsMore contents old one (codes "navtex: cut: ") → TellsMore contents one two line
      → TellsMore contents two new (codes "\n")
      → TellsMore contents old new (flat_map head_told (line ∷ []))
  tells-head old one two new line first second third =
      tells-same old new (codes "navtex: cut: " ++ (line ++ codes "\n"))
      (flat_map head_told (line ∷ [])) (sym (append-nil (head_told line)))
      (tells-both old one new (codes "navtex: cut: ") (line ++ codes "\n") first
      (tells-both one two new line (codes "\n") second third))

  cut-some : (line : ℕ) (bytes : List ℕ) (heads : List (List ℕ)) → 0 < length bytes
      → count_told (length bytes) line ++ flat_map head_told heads ≡ cut_told line bytes heads
  cut-some line [] heads some = absurd (omega (arith, some))
  cut-some line (byte ∷ bytes) heads some = refl

  -- of no bytes nothing is told
  pub cut-none : (old : CountedDevice F) (line : ℕ) (bytes : List ℕ)
      → (length bytes == 0) ≡ true
      → (heads : List (List ℕ)) × AreHeads bytes heads
      × TellsMore contents old old (cut_told line bytes heads)
  cut-none old line [] is = ([], refl, tells-nothing old)
  cut-none old line (byte ∷ bytes) is = absurd (some (suc (length bytes)) (omega arith) is)
    where
      some : (n : ℕ) → 0 < n → (n == 0) ≡ true → ⊥
      some n h e = grind (arith, nat_tests)

  -- of one byte it is told as of one
  pub count-one : (count line : ℕ) → count ≡ 1
      → count_told_of true count line ≡ count_told count line
  count-one count line is =
      sym (ap (λ (one : Bool). count_told_of one count line) (ap (λ (n : ℕ). n == 1) is))

  pub count-other : (count line : ℕ) → (count ≡ 1 → ⊥)
      → count_told_of false count line ≡ count_told count line
  count-other count line other =
      sym (ap (λ (one : Bool). count_told_of one count line) (decided (count == 1) refl))
    where
      decided : (b : Bool) → (count == 1) ≡ b → (count == 1) ≡ false
      decided false is = is
      decided true is = absurd (other (grind (arith, nat_tests)))

  -- how many bytes, and at which line
  pub tells-numbers : (old one two : CountedDevice F) (count line : ℕ) (a b c : List ℕ)
      → TellsMore contents old one (a ++ (decimal count ++ b))
      → TellsMore contents one two (decimal line ++ c)
      → TellsMore contents old two (a ++ (decimal count ++ (b ++ (decimal line ++ c))))
  tells-numbers old one two count line a b c first second =
      let more = decimal line ++ c in
      tells-same old two ((a ++ (decimal count ++ b)) ++ more)
      (a ++ (decimal count ++ (b ++ more)))
      (append_assoc a (decimal count ++ b) more
      ∙ ap (λ (l : List ℕ). a ++ l) (append_assoc (decimal count) b more))
      (tells-both old one two (a ++ (decimal count ++ b)) more first second)

  -- and the heads
  pub tells-cut : (old two new : CountedDevice F) (line count : ℕ) (bytes : List ℕ)
      (heads : List (List ℕ)) → 0 < length bytes → count ≡ length bytes
      → TellsMore contents old two (count_told count line)
      → TellsMore contents two new (flat_map head_told heads)
      → TellsMore contents old new (cut_told line bytes heads)
  tells-cut old two new line count bytes heads some is first second =
      tells-same old new (count_told count line ++ flat_map head_told heads)
      (cut_told line bytes heads)
      (ap (λ (n : ℕ). count_told n line ++ flat_map head_told heads) is
      ∙ cut-some line bytes heads some)
      (tells-both old two new (count_told count line) (flat_map head_told heads) first second)

-- ---- what was told of an opening

-- without the notes
pub but-notes : {A B Q P : Type 0} → A ⊎ (B × Q × P) → A ⊎ (B × P)
but-notes (inl told) = inl told
but-notes (inr same) = inr (same.0, same.2)

module _ {F : Type 0} (contents : F → Option (List ℕ)) where
  -- before anything was told
  pub untold-yet : (device : CountedDevice F) → device.failures ≡ 0
      → HasTold (contents device.inner) (contents device.inner) device.failures []
  untold-yet device none = inl (none, nothing (contents device.inner))

  -- what was told so, of notices of which no write had failed
  pub told-first : (old new : CountedDevice F) (cut : List ℕ) → old.failures ≡ 0
      → TellsMore contents old new cut
      → HasTold (contents old.inner) (contents new.inner) new.failures cut
  told-first old new cut none told = told (contents old.inner) [] (untold-yet old none)

  pub told-behind : (old new : CountedDevice F) (cut : List ℕ) → old.failures ≡ 0
      → TellsMore contents old new cut
      → HasTold (contents old.inner) (contents new.inner) new.failures (cut ++ [])
  told-behind old new cut none told =
      subst (HasTold (contents old.inner) (contents new.inner) new.failures) (sym (append-nil cut))
      (told-first old new cut none told)

  -- where the log couldn't be opened, that was told, or nothing
  pub told-opening : (file : List ℕ) (old new : CountedDevice F) {P : Type 0} → old.failures ≡ 0
      → HasToldCut contents file old new ⊎ ((new ≡ old) × P)
      → ((cut : List ℕ) × TellsOfCut file cut
      × HasTold (contents old.inner) (contents new.inner) new.failures (cut ++ []))
      ⊎ ((new ≡ old) × P)
  told-opening file old new none (inl told) =
      inl (told.0, told.1, told-behind old new told.0 none told.2)
  told-opening file old new none (inr same) = inr same

  -- of a file that is no kept log nothing was told, and nothing noted
  pub untold-foreign : (file : List ℕ) (old new : CountedDevice F) {Q P : Type 0}
      → (IsKeptLog IsWholeEntry longest_entry file → ⊥)
      → HasToldCut contents file old new ⊎ ((new ≡ old) × Q × P) → (new ≡ old) × Q
  untold-foreign file old new none (inl told) =
      absurd (none (told.1.texts, told.1.stands))
  untold-foreign file old new none (inr same) = (same.0, same.1)

-- ---- an opening

module _ {D F : Type 0} (contents : F → Option (List ℕ)) (disk : TellsOfDisk D) (device : D) where
  -- it heard of what is cut while the file was as it had been
  abbrev Hears : LogOpening D F → ℕ → List ℕ → LogOpening D F → Type 0
  Hears = HearsBeforeCut disk (HearsOfCut contents) device

  -- the entries were remembered, and nothing was told
  pub took-entries : (old new : LogOpening D F) (texts : List (List ℕ))
      → Took TakesEntry old texts new
      → Took RemembersMore old.memory.now texts new.memory.now
      × (new.notices.now ≡ old.notices.now)
      × (new.notices.ghost_name ≡ old.notices.ghost_name)
      × (new.memory.ghost_name ≡ old.memory.ghost_name)
      × (new.cuts.ghost_name ≡ old.cuts.ghost_name)
      × (new.cuts.now ≡ old.cuts.now)
  took-entries old new [] took = (
    ap (λ (o : LogOpening D F). o.memory.now) took,
    ap (λ (o : LogOpening D F). o.notices.now) took,
    ap (λ (o : LogOpening D F). o.notices.ghost_name) took,
    ap (λ (o : LogOpening D F). o.memory.ghost_name) took,
    ap (λ (o : LogOpening D F). o.cuts.ghost_name) took,
    ap (λ (o : LogOpening D F). o.cuts.now) took,
  )
  took-entries old new (text ∷ texts) took =
      let rest = took-entries took.0 new texts took.2 in (
        (took.0.memory.now, took.1.remembers, rest.0),
        rest.1 ∙ took.1.untold,
        rest.2 ∙ took.1.same_notices,
        rest.3 ∙ took.1.same_memory,
        rest.4 ∙ took.1.same_cuts,
        rest.5 ∙ took.1.unnoted,
      )

  -- what was heard of was told
  pub record ToldCut (line : ℕ) (bytes : List ℕ) (old new : LogOpening D F) : Type 0 where
    pub remembers : new.memory.now ≡ old.memory.now
    pub same_notices : new.notices.ghost_name ≡ old.notices.ghost_name
    pub same_memory : new.memory.ghost_name ≡ old.memory.ghost_name
    pub same_cuts : new.cuts.ghost_name ≡ old.cuts.ghost_name
    pub heads : List (List ℕ)
    pub are : AreHeads bytes heads
    pub told : TellsMore contents old.notices.now new.notices.now (cut_told line bytes heads)

  pub heard-cut : (line : ℕ) (bytes : List ℕ) (old new : LogOpening D F)
      → HeardOfCut Hears line bytes old new → ToldCut line bytes old new
  heard-cut line [] old new heard =
      let is = heard.nothing refl in record {
        remembers = ap (λ (o : LogOpening D F). o.memory.now) is;
        same_notices = ap (λ (o : LogOpening D F). o.notices.ghost_name) is;
        same_memory = ap (λ (o : LogOpening D F). o.memory.ghost_name) is;
        same_cuts = ap (λ (o : LogOpening D F). o.cuts.ghost_name) is;
        heads = [];
        are = refl;
        told = subst (λ (d : CountedDevice F). TellsMore contents old.notices.now d [])
            (sym (ap (λ (o : LogOpening D F). o.notices.now) is))
            (tells-nothing contents old.notices.now);
      }
  heard-cut line (byte ∷ bytes) old new heard =
      let is = (heard.heard (λ e. absurd (cc))).2 in record {
        remembers = is.remembers;
        same_notices = is.same_notices;
        same_memory = is.same_memory;
        same_cuts = is.same_cuts;
        heads = is.heads;
        are = is.are;
        told = is.told;
      }

  -- the notices are the same ones, and so is the memory
  pub same-notices : (old new : LogOpening D F) → TookOnly TakesEntry Hears old new
      → new.notices.ghost_name ≡ old.notices.ghost_name
  same-notices old new took =
      (heard-cut took.line took.bytes took.given new took.heard).same_notices
      ∙ (took-entries old took.given took.taken.0 took.taken.1).2

  pub same-memory : (old new : LogOpening D F) → TookOnly TakesEntry Hears old new
      → new.memory.ghost_name ≡ old.memory.ghost_name
  same-memory old new took =
      (heard-cut took.line took.bytes took.given new took.heard).same_memory
      ∙ (took-entries old took.given took.taken.0 took.taken.1).3

  -- and the notes of cuts
  pub same-cuts : (old new : LogOpening D F) → TookOnly TakesEntry Hears old new
      → new.cuts.ghost_name ≡ old.cuts.ghost_name
  same-cuts old new took =
      (heard-cut took.line took.bytes took.given new took.heard).same_cuts
      ∙ (took-entries old took.given took.taken.0 took.taken.1).4

  -- whatever the file is, some cut was told, behind what stood there
  pub told-some : (old new : LogOpening D F) → TookOnly TakesEntry Hears old new
      → (cut : List ℕ) × TellsOfSomeCut cut × TellsMore contents old.notices.now new.notices.now cut
  told-some old new took =
      let h = heard-cut took.line took.bytes took.given new took.heard in
      let t = took-entries old took.given took.taken.0 took.taken.1 in (
        cut_told took.line took.bytes h.heads,
        (took.line, took.bytes, h.heads, h.are, refl),
        subst (λ (d : CountedDevice F). TellsMore contents d new.notices.now
            (cut_told took.line took.bytes h.heads)) t.1 h.told,
      )

  -- of a kept log that was read to its end, what is cut was told
  pub told-all : (file : List ℕ) (old new : LogOpening D F)
      → TookAll IsWholeEntry longest_entry TakesEntry Hears file old new
      → HasToldCut contents file old.notices.now new.notices.now
  told-all file old new all =
      let h = heard-cut (line_behind all.front) (cut_of all.tail) all.given new all.heard in
      let t = took-entries old all.given all.records all.taken in
      let cut = cut_told (line_behind all.front) (cut_of all.tail) h.heads in (
        cut,
        record {
          texts = all.records;
          stands = record {
            front = all.front;
            tail = all.tail;
            kept = all.kept;
            end = all.end;
            split = all.split;
          };
          heads = h.heads;
          are = h.are;
          told = refl;
        },
        subst (λ (d : CountedDevice F). TellsMore contents d new.notices.now cut) t.1 h.told,
      )

  -- and its entries were remembered
  remembers-all : (file : List ℕ) (old new : LogOpening D F)
      → (all : TookAll IsWholeEntry longest_entry TakesEntry Hears file old new)
      → Took RemembersMore old.memory.now all.records new.memory.now
  remembers-all file old new all =
      let h = heard-cut (line_behind all.front) (cut_of all.tail) all.given new all.heard in
      subst (Took RemembersMore old.memory.now all.records) (sym h.remembers)
      (took-entries old all.given all.records all.taken).0

  -- what was heard of was noted, once it was told
  noted-cut : (line : ℕ) (bytes : List ℕ) (old given new : LogOpening D F)
      → old.notices.now.failures ≡ 0 → given.notices.now ≡ old.notices.now
      → given.cuts.now ≡ old.cuts.now → HeardOfCut Hears line bytes given new
      → (heads : List (List ℕ)) × AreHeads bytes heads
      × (cut_told line bytes heads ≢ [] → IsNotedAsTold disk contents device old.notices.now
      (notes_of old.cuts.now) (notes_of new.cuts.now) (cut_told line bytes heads))
  noted-cut line [] old given new none untold unnoted heard =
      ([], refl, λ some. absurd (some refl))
  noted-cut line (byte ∷ bytes) old given new none untold unnoted heard =
      let h = heard.heard (λ e. absurd (cc)) in
      let is = h.2 in
      let cut = cut_told line (byte ∷ bytes) is.heads in (
        is.heads,
        is.are,
        λ some. record {
          at = note h.0 new.notices.now;
          one = is.noted ∙ ap (λ c. note h.0 new.notices.now ∷ notes_of c) unnoted;
          untouched = h.1;
          written = told-first contents old.notices.now new.notices.now cut none
              (subst (λ (d : CountedDevice F). TellsMore contents d new.notices.now cut) untold
              is.told);
        },
      )

  -- so it was told before anything was cut
  told-before : (start : List ℕ) (old new : LogOpening D F) → old.notices.now.failures ≡ 0
      → TookAll IsWholeEntry longest_entry TakesEntry Hears (disk.seen start device) old new
      → ToldBeforeCut disk contents device old.notices.now (notes_of old.cuts.now)
      (notes_of new.cuts.now) start
  told-before start old new none all =
      let t = took-entries old all.given all.records all.taken in
      let n = noted-cut (line_behind all.front) (cut_of all.tail) old all.given new none t.1 t.5
      all.heard in
      record {
        text = cut_told (line_behind all.front) (cut_of all.tail) n.0;
        tells_of = record {
          texts = all.records;
          stands = record {
            front = all.front;
            tail = all.tail;
            kept = all.kept;
            end = all.end;
            split = all.split;
          };
          heads = n.0;
          are = n.1;
          told = refl;
        };
        noted = n.2;
      }

  -- a log that was opened
  pub opens-log : (seen : D → List ℕ) (may_leave : D → List ℕ → Type 0) (old new : LogOpening D F)
      (log : KeptLog D LogGrammar)
      → Opens IsWholeEntry longest_entry TakesEntry Hears seen may_leave device old
      new log
      → OpensLog contents seen may_leave device old.memory.now new.memory.now old.notices.now
      new.notices.now log
  opens-log seen may_leave old new log opened = record {
    records = opened.all.records;
    front = opened.all.front;
    tail = opened.all.tail;
    kept = opened.all.kept;
    end = opened.all.end;
    split = opened.all.split;
    taken = remembers-all (seen device) old new opened.all;
    told = told-all (seen device) old new opened.all;
    at_rest = opened.at_rest;
  }

  -- where the log couldn't be opened, what is to be cut was told, or nothing
  pub told-err : (file : List ℕ) (old new : LogOpening D F) {P : Type 0}
      → (TookSome TakesEntry old new × P)
      ⊎ TookAll IsWholeEntry longest_entry TakesEntry Hears file old new
      → HasToldCut contents file old.notices.now new.notices.now
      ⊎ ((new.notices.now ≡ old.notices.now) × (new.cuts.now ≡ old.cuts.now) × P)
  told-err file old new (inl some) =
      let t = took-entries old new some.0.0 some.0.1 in inr (t.1, t.5, some.1)
  told-err file old new (inr all) = inl (told-all file old new all)

  module _ (old new : LogOpening D F) where
    pub opened-ok : (result : Result (KeptLog D LogGrammar) (OpenFault × D))
        → IfOk result (λ log. (start : List ℕ) → disk.explains start log.device
        → Opens IsWholeEntry longest_entry TakesEntry Hears (disk.seen start)
        (disk.may_leave start) device old new log)
        → IfOk result (λ log. (start : List ℕ) → disk.explains start log.device
        → OpensLog contents (disk.seen start) (disk.may_leave start) device old.memory.now
        new.memory.now old.notices.now new.notices.now log)
    opened-ok (Ok log) h = λ start explains.
        opens-log (disk.seen start) (disk.may_leave start) old new log (h start explains)
    opened-ok (Err fault) h = tt

    pub told-errs : (result : Result (KeptLog D LogGrammar) (OpenFault × D))
        → IfErr result (λ e. (start : List ℕ) → disk.explains start e.1
        → (TookSome TakesEntry old new × OnlyReads (disk.seen start) (disk.may_leave start)
        disk.moment (disk.left_since start) device e.1)
        ⊎ TookAll IsWholeEntry longest_entry TakesEntry Hears
        (disk.seen start device) old new)
        → IfErr result (λ e. (start : List ℕ) → disk.explains start e.1
        → HasToldCut contents (disk.seen start device) old.notices.now new.notices.now
        ⊎ ((new.notices.now ≡ old.notices.now) × (new.cuts.now ≡ old.cuts.now)
        × OnlyReads (disk.seen start) (disk.may_leave start) disk.moment (disk.left_since start)
        device e.1))
    told-errs (Ok log) h = tt
    told-errs (Err fault) h = λ start explains.
        told-err (disk.seen start device) old new (h start explains)

    -- it was told before anything was cut
    pub told-firsts : (result : Result (KeptLog D LogGrammar) (OpenFault × D))
        → IfOk result (λ log. (start : List ℕ) → disk.explains start log.device
        → Opens IsWholeEntry longest_entry TakesEntry Hears (disk.seen start)
        (disk.may_leave start) device old new log)
        → IfOk result (λ log. (start : List ℕ) → disk.explains start log.device
        → old.notices.now.failures ≡ 0 → ToldBeforeCut disk contents device old.notices.now
        (notes_of old.cuts.now) (notes_of new.cuts.now) start)
    told-firsts (Ok log) h = λ start explains none.
        told-before start old new none (h start explains).all
    told-firsts (Err fault) h = tt

    -- or the file was only read
    pub told-first-errs : (result : Result (KeptLog D LogGrammar) (OpenFault × D))
        → IfErr result (λ e. (start : List ℕ) → disk.explains start e.1
        → (TookSome TakesEntry old new × OnlyReads (disk.seen start) (disk.may_leave start)
        disk.moment (disk.left_since start) device e.1)
        ⊎ TookAll IsWholeEntry longest_entry TakesEntry Hears
        (disk.seen start device) old new)
        → IfErr result (λ e. (start : List ℕ) → disk.explains start e.1
        → old.notices.now.failures ≡ 0 → TellsBeforeChange disk contents device old.notices.now
        (notes_of old.cuts.now) (notes_of new.cuts.now) start e.1)
    told-first-errs (Ok log) h = tt
    told-first-errs (Err fault) h = λ start explains none.
        ⊎_elim (λ some. inl some.1) (λ all. inr (told-before start old new none all))
        (h start explains)
