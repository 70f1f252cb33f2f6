-- What a crash leaves in each kind of call of a disk file.
use Rattle.std.proofs.Common.{inl, ◌⊎◌, ◌≡◌, ℕ, ◌≤◌, List, length, ◌∙◌, sym, subst}
use Rattle.nx_kept.specs.Disk.{Cut, Elapses, Follows, LeavesOnly, Only, OnlyReads, Torn}
use Rattle.nx_kept.proofs.lemmas.Stages.{Stage, begins, knows, reads_on, rests, stays, steps, weaker}

-- A disk file that had some bytes at first: what a read finds, and what a crash leaves.
pub record File (D : Type 0) : Type 1 where
  pub seen : D → List ℕ
  pub may_leave : D → List ℕ → Type 0
  pub moment : D → ℕ
  pub left_since : D → ℕ → List ℕ → Type 0

abbrev pub file_of : {D : Type 0} → (D → List ℕ) → (D → List ℕ → Type 0) → (D → ℕ)
    → (D → ℕ → List ℕ → Type 0) → File D
file_of seen may_leave moment left_since = record {
  seen = seen;
  may_leave = may_leave;
  moment = moment;
  left_since = left_since;
}

module _ {D : Type 0} (f : File D) where
  -- since this moment there is no other
  abbrev pub IsOnlyNow : D → Type 0
  IsOnlyNow old = (c : List ℕ) → f.left_since old (f.moment old) c → f.may_leave old c

  -- time went on
  abbrev pub Passes : D → D → Type 0
  Passes old now =
      Elapses (f.moment old) (f.moment now) (f.left_since old) (f.left_since now) (f.may_leave now)

  -- bytes are written at a place
  pub record Writes (at : ℕ) (bytes : List ℕ) (old now : D) : Type 0 where
    pub time : Passes old now
    pub crash : at ≤ length (f.seen old)
        → Follows (Torn at (length bytes)) (f.may_leave old) (f.may_leave now)

  -- the file is cut to this many bytes
  pub record Cuts (size : ℕ) (old now : D) : Type 0 where
    pub time : Passes old now
    pub crash : size ≤ length (f.seen old)
        → Follows (Cut size) (f.may_leave old) (f.may_leave now)

  -- the file is brought to the disk
  pub record Syncs (old now : D) : Type 0 where
    pub time : Passes old now
    pub crash : (c : List ℕ) → f.may_leave now c → f.may_leave old c
    pub seen : f.seen now ≡ f.seen old

  -- from old to now a crash leaves what has P, and now what has Q
  abbrev pub Leaves : (List ℕ → Type 0) → (List ℕ → Type 0) → D → D → Type 0
  Leaves P Q old now = Stage f.moment f.left_since f.may_leave P Q old now

  -- before the first call
  pub begun : {P Q : List ℕ → Type 0} {old : D} → IsOnlyNow old
      → ((c : List ℕ) → f.may_leave old c → Q c) → ((c : List ℕ) → Q c → P c) → Leaves P Q old old
  begun {P} {Q} {old} only_now leaves fine =
      begins f.moment f.left_since f.may_leave P Q old only_now leaves fine

  -- a write
  pub wrote : {P Q : List ℕ → Type 0} (next : List ℕ → Type 0) {at : ℕ} {bytes : List ℕ}
      {old mid now : D} → Leaves P Q old mid → at ≤ length (f.seen mid) → Writes at bytes mid now
      → ((d c : List ℕ) → Q d → Torn at (length bytes) d c → next c)
      → ((c : List ℕ) → next c → P c) → Leaves P next old now
  wrote {P} {Q} next {at} {bytes} {old} {mid} {now} stage there writes leads fine =
      steps f.moment f.left_since f.may_leave P Q next (Torn at (length bytes)) old mid now stage
      writes.time (writes.crash there) leads fine

  -- a cut
  pub cut : {P Q : List ℕ → Type 0} (next : List ℕ → Type 0) {size : ℕ} {old mid now : D}
      → Leaves P Q old mid → size ≤ length (f.seen mid) → Cuts size mid now
      → ((d c : List ℕ) → Q d → Cut size d c → next c)
      → ((c : List ℕ) → next c → P c) → Leaves P next old now
  cut {P} {Q} next {size} {old} {mid} {now} stage there cuts leads fine =
      steps f.moment f.left_since f.may_leave P Q next (Cut size) old mid now stage cuts.time
      (cuts.crash there) leads fine

  -- a sync, also one that fails
  pub synced : {P Q : List ℕ → Type 0} {old mid now : D} → Leaves P Q old mid → Syncs mid now
      → Leaves P Q old now
  synced {P} {Q} {old} {mid} {now} stage syncs =
      stays f.moment f.left_since f.may_leave P Q old mid now stage syncs.time syncs.crash

  -- behind a sync that didn't fail, what a read found before it
  pub durable : {P Q : List ℕ → Type 0} (file : List ℕ) {old mid now : D} → Leaves P Q old mid
      → Syncs mid now → Only (f.seen mid) (f.may_leave now) → f.seen mid ≡ file → P file
      → Leaves P (λ c. c ≡ file) old now
  durable {P} {Q} file {old} {mid} {now} stage syncs only is fine =
      knows f.moment f.left_since f.may_leave P Q (λ c. c ≡ file) old now (synced stage syncs)
      (λ c left. only c left ∙ is) (λ c same. subst P (sym same) fine)

  -- the file isn't touched
  abbrev pub Reads : D → D → Type 0
  Reads old now = OnlyReads f.seen f.may_leave f.moment f.left_since old now

  -- by a sync it isn't
  pub sync_reads : {old now : D} → IsOnlyNow old → Syncs old now → Reads old now
  sync_reads {old} {now} only_now syncs =
      reads_on f.moment f.left_since f.may_leave f.seen old old now
      (rests f.moment f.left_since f.may_leave f.seen old only_now) syncs.seen syncs.crash
      syncs.time

  -- so a crash leaves what it could leave before, whatever else it may leave later
  pub reads_leave : (Q : List ℕ → Type 0) {old now : D} → Reads old now
      → LeavesOnly f.moment f.left_since old now (λ c. f.may_leave old c ⊎ Q c)
  reads_leave Q {old} {now} reads =
      weaker f.moment f.left_since f.may_leave (λ c. f.may_leave old c ⊎ Q c) (f.may_leave old) old
      now reads.any_moment (λ c left. inl left)
