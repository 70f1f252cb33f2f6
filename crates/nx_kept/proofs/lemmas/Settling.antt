-- What an opening gives to who takes the records, and how it leaves the file.
use Rattle.std.proofs.Common.{◌≡◌, ℕ, ◌≤◌, List, [], ◌∷◌, ◌++◌, length, take, refl, sym, ◌∙◌, ap, subst, arith, length-append, IsTrue}
use Rattle.std.proofs.lemmas.List.{take_at}
use Rattle.nx_kept.specs.Disk.{Only}
use Rattle.nx_kept.specs.Kept.{closed_gate, IsKeptLog}
use Rattle.nx_kept.specs.Taker.{HeardOfCut, HearsBeforeCut, IsUntouched, TookAll, cut_of}
use Rattle.nx_kept.specs.declared.disk.DiskFile.{Ghosts as TellsOfDisk}
use Rattle.nx_kept.specs.private.Scan.{Ends, Settles}
use Rattle.nx_kept.specs.declared.scan.Rest.{Rest}
use Rattle.nx_kept.proofs.lemmas.Calls.{File, Reads}
use Rattle.nx_kept.proofs.lemmas.Stages.{reads_both}

-- ---- what was heard before the file was touched

module _ {D T : Type 0} (tells : TellsOfDisk D) (hears : D → T → ℕ → List ℕ → T → Type 0)
    {old now : D} (untouched : IsUntouched tells old now) {line : ℕ} {bytes : List ℕ}
    {before after : T}
  where
    -- as the file stands now
    pub heard_now : HeardOfCut (hears now) line bytes before after
        → HeardOfCut (HearsBeforeCut tells hears old) line bytes before after
    heard_now heard = record {
      nothing = heard.nothing;
      heard = λ some. (now, untouched, heard.heard some);
    }

    -- later than now, but still before that
    pub heard_later : HeardOfCut (HearsBeforeCut tells hears now) line bytes before after
        → HeardOfCut (HearsBeforeCut tells hears old) line bytes before after
    heard_later heard = record {
      nothing = heard.nothing;
      heard = λ some.
          let was = heard.heard some in (
            was.0,
            λ start. reads_both tells.moment (tells.left_since start) (tells.may_leave start)
                (tells.seen start) old now was.0 (untouched start) (was.1 start),
            was.2,
          );
    }

-- ---- how the opening leaves the file

module _ {D T : Type 0} (f : File D) (is_record : List ℕ → Type 0) (longest : ℕ)
    (takes : T → List ℕ → T → Type 0) (hears_of_cut : T → ℕ → List ℕ → T → Type 0)
    {old mid read : D} (first : Reads f old mid) (only : Only (f.seen old) (f.may_leave mid))
    (second : Reads f mid read) (shown : List ℕ) (before given : T) (end : Rest)
    (ends : Ends is_record longest takes (f.seen mid) shown before given end) where
  -- the same, said of the file before it was brought to the disk, once what is cut was heard of
  abbrev pub all_of : {after : T}
      → HeardOfCut hears_of_cut end.line (cut_of (take end.count shown)) given after
      → TookAll is_record longest takes hears_of_cut (f.seen old) before after
  all_of {after} heard = record {
    records = ends.all.records;
    front = ends.all.front;
    tail = ends.all.tail;
    kept = ends.all.kept;
    end = ends.all.end;
    split = sym first.same ∙ ends.all.split;
    given = given;
    taken = ends.all.taken;
    heard =
        subst (λ (l : ℕ). HeardOfCut hears_of_cut l (cut_of ends.all.tail) given after) ends.line
        (subst (λ (t : List ℕ). HeardOfCut hears_of_cut end.line (cut_of t) given after) ends.shown
        heard);
  }

  -- of a closed gate nothing is cut
  nothing_cut : IsTrue end.is_closed
      → HeardOfCut hears_of_cut end.line (cut_of (take end.count shown)) given given
  nothing_cut is = record {
    nothing = λ e. refl;
    heard = λ some. absurd (some (ap cut_of (ends.shown ∙ ends.closed.0 is)));
  }

  -- a log at rest
  pub settled_closed : IsTrue end.is_closed
      → Settles is_record longest takes hears_of_cut f.seen f.may_leave old read before given
      end.gate
  settled_closed is = record {
    all = all_of (nothing_cut is);
    place = ends.gate;
    closed = second.same ∙ ends.all.split
        ∙ ap (λ (l : List ℕ). ends.all.front ++ l) (ends.closed.0 is);
    durable = λ c left. only c (second.crash c left) ∙ sym (second.same ∙ first.same);
  }

  -- a log that was repaired
  pub settled_repaired : {now : D} {after : T}
      → HeardOfCut hears_of_cut end.line (cut_of (take end.count shown)) given after
      → (end.gate ≤ length (f.seen read)
      → f.seen now ≡ take end.gate (f.seen read) ++ closed_gate ∷ [])
      → Only (f.seen now) (f.may_leave now)
      → Settles is_record longest takes hears_of_cut f.seen f.may_leave old now before after
      end.gate
  settled_repaired {now} {after} heard repaired durable =
      let file_is : f.seen read ≡ ends.all.front ++ ends.all.tail = second.same ∙ ends.all.split in
      let there : end.gate ≤ length (f.seen read) =
      omega (arith, ends.gate, ap length file_is, length-append ends.all.front ends.all.tail) in
      let before_it : take end.gate (f.seen read) ≡ ends.all.front =
      ap (λ (l : List ℕ). take end.gate l) file_is
      ∙ take_at ends.all.front ends.all.tail end.gate (sym ends.gate) in
      record {
        all = all_of heard;
        place = ends.gate;
        closed = repaired there ∙ ap (λ (l : List ℕ). l ++ closed_gate ∷ []) before_it;
        durable = durable;
      }

-- a file that was read to its end is a kept log
pub is_kept_log : {T : Type 0} {is_record : List ℕ → Type 0} {longest : ℕ}
    {takes : T → List ℕ → T → Type 0} {file read shown : List ℕ} {before after : T} {end : Rest}
    → read ≡ file → Ends is_record longest takes read shown before after end
    → IsKeptLog is_record longest file
is_kept_log {T} {is_record} {longest} {takes} {file} {read} {shown} {before} {after} {end}
    same ends = (
      ends.all.records,
      record {
        front = ends.all.front;
        tail = ends.all.tail;
        kept = ends.all.kept;
        end = ends.all.end;
        split = sym same ∙ ends.all.split;
      },
    )
