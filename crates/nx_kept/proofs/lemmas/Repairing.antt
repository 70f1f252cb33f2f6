-- What a crash leaves while the end of a log is put right.
use Rattle.std.proofs.Common.{◌≡◌, ◌⊎◌, inl, inr, ⊎_elim, ℕ, suc, ◌+◌, ◌-◌, ◌<◌, ◌≤◌, List, [], ◌∷◌, ◌++◌, length, take, drop, refl, sym, ◌∙◌, ap, subst, arith, length-append, length-drop, length-take, take-append-drop}
use Rattle.std.proofs.lemmas.List.{append-nil, take_at, take_all, drop_at}
use Rattle.nx_kept.specs.Disk.{Cut, LeavesOnly, Only, Torn}
use Rattle.nx_kept.specs.Kept.{closed_gate, IsBehindOpenGates, IsTail, StandsFor, StandsForEither}
use Rattle.nx_kept.specs.private.Scan.{Ends, IsCutThere, ReadsUpTo}
use Rattle.nx_kept.specs.declared.scan.Rest.{Rest}
use Rattle.nx_kept.specs.Open.{HasCause, KeepsEither, KeepsRecords, SyncsFirst}
use Rattle.nx_kept.specs.declared.fault.OpenFault.{OpenFault}
use Rattle.nx_kept.specs.declared.fault.OpenFault.TheVariants.{Read, Disk, Damaged, Memory}
use Rattle.nx_kept.proofs.lemmas.KeptLaws.{more_behind, one_list, only_tail, short_tail, tail_begins}
use Rattle.nx_kept.proofs.lemmas.Calls.{Cuts, File, IsOnlyNow, Leaves, Reads, Syncs, Writes, begun, cut, durable, reads_leave, wrote}
use Rattle.nx_kept.proofs.lemmas.Stages.{joined, weaker}
use Rattle.nx_kept.proofs.lemmas.Pieces.{take_past}

-- the file itself
pub all_there : (place : ℕ) (file c : List ℕ) → c ≡ file → IsCutThere place file c
all_there place file c is = record {
  rest = drop place file;
  split = is ∙ sym (take-append-drop place file);
  behind = inl (
    length (drop place file),
    sym (take_all (length (drop place file)) (drop place file) (omega arith)),
  );
}

-- each outcome of the cut
pub cut_there : (place : ℕ) (file d c : List ℕ) → place ≤ length file → d ≡ file → Cut place d c
    → IsCutThere place file c
cut_there place file d c within is cut =
    let long : place ≤ length c = omega (arith, cut.no_shorter, ap length is) in
    let n = length c - place in
    let size : length (take place file) ≡ place = omega (arith, length-take place file) in
    let at : length c ≡ length (take place file) + n = omega (arith, size, long) in
    let parts : file ≡ take place file ++ drop place file = sym (take-append-drop place file) in
    record {
      rest = take n (drop place file);
      split = sym cut.front ∙ ap (λ (l : List ℕ). take (length c) l) (is ∙ parts)
          ∙ ap (λ (k : ℕ). take k (take place file ++ drop place file)) at
          ∙ take_past (take place file) (drop place file) n;
      behind = inl (n, refl);
    }

-- what is cut
pub is_cut : (place : ℕ) (file c : List ℕ) → c ≡ take place file → IsCutThere place file c
is_cut place file c is = record {
  rest = [];
  split = is ∙ sym (append-nil (take place file));
  behind = inr (omega arith);
}

-- each outcome of a byte written behind it
pub torn_there : (place : ℕ) (file d c : List ℕ) → place ≤ length file → d ≡ take place file
    → Torn place 1 d c → IsCutThere place file c
torn_there place file d c within is torn =
    let size : length d ≡ place = omega (arith, ap length is, length-take place file) in
    let front : take place c ≡ take place file = torn.before
    ∙ take_all place d (omega (arith, size)) ∙ is in
    record {
      rest = drop place c;
      split = sym (take-append-drop place c) ∙ ap (λ (l : List ℕ). l ++ drop place c) front;
      behind = inr (omega (arith, length-drop place c, torn.no_longer, size));
    }

-- behind the records, all that a crash leaves is a tail
pub cut_keeps : (is_record : List ℕ → Type 0) (longest : ℕ) (records : List (List ℕ))
    (front tail : List ℕ) (place : ℕ) (file c : List ℕ)
    → IsBehindOpenGates is_record records front → IsTail longest tail → file ≡ front ++ tail
    → place ≡ length front → IsCutThere place file c → StandsFor is_record longest records c
cut_keeps is_record longest records front tail place file c kept end split at cut =
    let before : take place file ≡ front = ap (λ (l : List ℕ). take place l) split
    ∙ take_at front tail place (sym at) in
    let behind : drop place file ≡ tail = ap (λ (l : List ℕ). drop place l) split
    ∙ drop_at front tail place (sym at) in
    let is_tail : IsTail longest cut.rest = elim cut.behind [
      | inl part ↦ subst (IsTail longest) (sym (part.1 ∙ ap (λ (l : List ℕ). take part.0 l) behind))
          (tail_begins is_record longest part.0 tail end)
      | inr short ↦ short_tail is_record longest cut.rest short
    ] in
    let stands = more_behind is_record longest records [] front cut.rest kept
    (only_tail is_record longest cut.rest is_tail) in
    let whole : front ++ cut.rest ≡ c =
    sym (cut.split ∙ ap (λ (l : List ℕ). l ++ cut.rest) before) in
    subst (StandsFor is_record longest records) whole
    (subst (λ (l : List (List ℕ)). StandsFor is_record longest l (front ++ cut.rest))
    (append-nil records) stands)

-- from old to now a crash leaves the file, cut there
abbrev pub IsRepairing : {D : Type 0} → File D → ℕ → D → D → Type 0
IsRepairing f place old now =
    Leaves f (IsCutThere place (f.seen old)) (IsCutThere place (f.seen old)) old now

module _ {D : Type 0} (f : File D) (place : ℕ) {old : D}
    (within : place ≤ length (f.seen old)) where
  -- the file is cut
  pub is_cutting : {now : D} → IsOnlyNow f old → Only (f.seen old) (f.may_leave old)
      → Cuts f place old now → IsRepairing f place old now
  is_cutting only_now only cuts =
      cut f (IsCutThere place (f.seen old))
      (begun f only_now only (λ c is. all_there place (f.seen old) c is)) within cuts
      (λ d c is cut. cut_there place (f.seen old) d c within is cut) (λ c is. is)

  -- once the cut is on the disk, a gate is written
  pub is_shutting : {mid synced now : D} → IsRepairing f place old mid
      → f.seen mid ≡ take place (f.seen old) → Syncs f mid synced
      → Only (f.seen mid) (f.may_leave synced) → Writes f place (closed_gate ∷ []) synced now
      → IsRepairing f place old now
  is_shutting stage is syncs only writes =
      wrote f (IsCutThere place (f.seen old))
      (durable f (take place (f.seen old)) stage syncs only is
      (is_cut place (f.seen old) (take place (f.seen old)) refl))
      (omega (arith, within, ap length (syncs.seen ∙ is), length-take place (f.seen old))) writes
      (λ d c is torn. torn_there place (f.seen old) d c within is torn) (λ c is. is)

module _ {D : Type 0} (f : File D) (is_record : List ℕ → Type 0) (longest : ℕ) where
  -- the file was brought to the disk, and since then a crash leaves the records
  abbrev pub SyncedFirst : List (List ℕ) → D → D → Type 0
  SyncedFirst records old new =
      SyncsFirst is_record longest f.seen f.may_leave f.moment f.left_since records old new

  -- and was read
  pub read_since : (records : List (List ℕ)) {old mid read : D}
      → StandsFor is_record longest records (f.seen old) → Only (f.seen old) (f.may_leave mid)
      → Reads f mid read → LeavesOnly f.moment f.left_since mid read
      (StandsFor is_record longest records)
  read_since records {old} {mid} {read} stands only second =
      weaker f.moment f.left_since f.may_leave (StandsFor is_record longest records)
      (f.may_leave mid) mid read second.any_moment
      (λ c left. subst (StandsFor is_record longest records) (sym (only c left)) stands)

  pub read_first : (records : List (List ℕ)) {old mid read : D}
      → StandsFor is_record longest records (f.seen old) → Reads f old mid
      → Only (f.seen old) (f.may_leave mid) → Reads f mid read → SyncedFirst records old read
  read_first records {old} {mid} {read} stands first only second = record {
    synced = mid;
    only_read = first;
    durable = only;
    since = read_since records stands only second;
  }

  -- and was repaired behind its records
  pub repaired : (some : (bytes : List ℕ) → is_record bytes → 0 < length bytes)
      (one : (bytes more : List ℕ) → is_record bytes → is_record (bytes ++ more) → more ≡ [])
      {T : Type 0} {takes : T → List ℕ → T → Type 0} {shown : List ℕ} {before after : T}
      (records : List (List ℕ))
      (end : Rest) {old mid read now : D} → StandsFor is_record longest records (f.seen old)
      → Reads f old mid → Only (f.seen old) (f.may_leave mid) → Reads f mid read
      → Ends is_record longest takes (f.seen mid) shown before after end
      → (end.gate ≤ length (f.seen read) → Only (f.seen read) (f.may_leave read)
      → LeavesOnly f.moment f.left_since read now (IsCutThere end.gate (f.seen read)))
      → SyncedFirst records old now
  repaired some one records end {old} {mid} {read} {now} stands first only second ends repairs =
      let same : f.seen read ≡ f.seen old = second.same ∙ first.same in
      let file_is : f.seen read ≡ ends.all.front ++ ends.all.tail = second.same ∙ ends.all.split in
      let found : StandsFor is_record longest ends.all.records (f.seen old) = record {
        front = ends.all.front;
        tail = ends.all.tail;
        kept = ends.all.kept;
        end = ends.all.end;
        split = sym first.same ∙ ends.all.split;
      } in
      let same_records =
      one_list is_record longest some one ends.all.records records (f.seen old) found stands in
      record {
        synced = mid;
        only_read = first;
        durable = only;
        since =
            joined f.moment f.left_since f.may_leave (StandsFor is_record longest records)
            (IsCutThere end.gate (f.seen read)) mid read now
            (read_since records stands only second)
            (repairs
            (omega (
              arith,
              ends.gate,
              ap length file_is,
              length-append ends.all.front
                  ends.all.tail,
            ))
            (λ c left. only c (second.crash c left) ∙ sym same))
            (λ c cut. subst (λ (r : List (List ℕ)). StandsFor is_record longest r c) same_records
            (cut_keeps is_record longest ends.all.records ends.all.front ends.all.tail end.gate
            (f.seen read) c
            ends.all.kept ends.all.end file_is ends.gate cut));
      }

  -- so a crash leaves the records, or what it could leave before
  pub keeps_records : (records : List (List ℕ)) {old new : D} → SyncedFirst records old new
      → KeepsRecords is_record longest f.may_leave f.moment f.left_since records old new
  keeps_records records {old} {new} synced =
      joined f.moment f.left_since f.may_leave
      (λ c. f.may_leave old c ⊎ StandsFor is_record longest records c)
      (StandsFor is_record longest records) old synced.synced new
      (reads_leave f (StandsFor is_record longest records) synced.only_read) synced.since
      (λ c stands. inr stands)

  pub keeps_records_err : (records : List (List ℕ)) {old new : D}
      → SyncedFirst records old new ⊎ Reads f old new
      → KeepsRecords is_record longest f.may_leave f.moment f.left_since records old new
  keeps_records_err records {old} {new} steps = elim steps [
    | inl synced ↦ keeps_records records synced
    | inr reads ↦ reads_leave f (StandsFor is_record longest records) reads
  ]

  -- and others only where it could before
  pub keeps_either : (records others : List (List ℕ)) {old new : D}
      → KeepsRecords is_record longest f.may_leave f.moment f.left_since records old new
      → KeepsEither is_record longest f.may_leave f.moment f.left_since records others old new
  keeps_either records others {old} {new} keeps before =
      weaker f.moment f.left_since f.may_leave (StandsForEither is_record longest records others)
      (λ c. f.may_leave old c ⊎ StandsFor is_record longest records c) old new keeps
      (λ c left. ⊎_elim (before c) (λ stands. inl stands) left)

-- why a reading failed is why the opening failed
pub read_cause : {D : Type 0} → (faults : D → ℕ) (to_read to_write : D → Type 0) (fault : OpenFault)
    (old mid new : D) → faults mid ≡ faults old → ReadsUpTo faults to_read fault mid new
    → HasCause faults to_read to_write fault old new
read_cause faults to_read to_write Read old mid new same failed =
    record { once = failed.once ∙ ap (λ (n : ℕ). suc n) same; last = failed.last }
read_cause faults to_read to_write (Damaged line first) old mid new same none = none ∙ same
read_cause faults to_read to_write Disk old mid new same never = absurd never
read_cause faults to_read to_write Memory old mid new same never = absurd never
