-- What stands before the closed gate of a log stays.
use Rattle.std.proofs.Common.{◌≡◌, ◌⊎◌, inr, ℕ, ◌<◌, ◌≤◌, List, [], ◌∷◌, ◌++◌, length, take, drop, refl, sym, ◌∙◌, ap, ap₂, subst, arith, append_assoc, length-append, take-append-drop}
use Rattle.std.proofs.lemmas.List.{take-take, take_at}
use Rattle.nx_kept.specs.Disk.{LeavesOnly, Only, Torn}
use Rattle.nx_kept.specs.Kept.{BeginsWith, IsBehindOpenGates, IsTail, StandsFor}
use Rattle.nx_kept.specs.Open.{KeepsFront}
use Rattle.nx_kept.specs.private.Scan.{Ends, IsCutThere}
use Rattle.nx_kept.specs.declared.scan.Rest.{Rest}
use Rattle.nx_kept.proofs.lemmas.Calls.{File, IsOnlyNow, Leaves, Reads, Writes, begun, reads_leave, wrote}
use Rattle.nx_kept.proofs.lemmas.KeptLaws.{not_a_tail, same_record}
use Rattle.nx_kept.proofs.lemmas.Stages.{joined, reads_both}

-- ---- in each file that begins with it

module _ (is_record : List ℕ → Type 0) (longest : ℕ)
    (some : (bytes : List ℕ) → is_record bytes → 0 < length bytes)
    (one : (bytes more : List ℕ) → is_record bytes → is_record (bytes ++ more) → more ≡ []) where
  -- the records there, and what stands before the tail
  pub record Both (records others : List (List ℕ)) (front all : List ℕ) : Type 0 where
    pub listed : BeginsWith records others
    pub there : BeginsWith front all

  pub begins_both : (records others : List (List ℕ)) (front file : List ℕ)
      → IsBehindOpenGates is_record records front → BeginsWith front file
      → (stands : StandsFor is_record longest others file)
      → Both records others front stands.front
  begins_both [] others front file kept begins stands =
      record {
        listed = (others, refl);
        there = (stands.front, ap (λ (l : List ℕ). l ++ stands.front) (sym kept));
      }
  begins_both (first ∷ records) [] front file kept begins stands =
      let whole : file ≡ kept.0 ∷ (first ++ (kept.1 ++ begins.0)) =
      begins.1 ∙ ap (λ (l : List ℕ). l ++ begins.0) kept.4
      ∙ ap (λ (l : List ℕ). kept.0 ∷ l) (append_assoc first kept.1 begins.0) in
      let none : kept.0 ∷ (first ++ (kept.1 ++ begins.0)) ≡ stands.tail =
      sym whole ∙ stands.split ∙ ap (λ (l : List ℕ). l ++ stands.tail) stands.kept in
      absurd (not_a_tail is_record longest some one kept.0 first (kept.1 ++ begins.0) kept.2
      (some first kept.3) (subst (IsTail longest) (sym none) stands.end))
  begins_both (first ∷ records) (other ∷ others) front file kept begins stands =
      let its = stands.kept in
      let same : kept.0 ∷ (first ++ (kept.1 ++ begins.0))
      ≡ its.0 ∷ (other ++ (its.1 ++ stands.tail)) =
      sym (begins.1 ∙ ap (λ (l : List ℕ). l ++ begins.0) kept.4
      ∙ ap (λ (l : List ℕ). kept.0 ∷ l) (append_assoc first kept.1 begins.0))
      ∙ stands.split ∙ ap (λ (l : List ℕ). l ++ stands.tail) its.4
      ∙ ap (λ (l : List ℕ). its.0 ∷ l) (append_assoc other its.1 stands.tail) in
      let gates : kept.0 ≡ its.0 = cc in
      let tails : first ++ (kept.1 ++ begins.0) ≡ other ++ (its.1 ++ stands.tail) = cc in
      let both = same_record is_record longest some one first other (kept.1 ++ begins.0)
      (its.1 ++ stands.tail) kept.3 its.3 tails in
      let rest = begins_both records others kept.1 (kept.1 ++ begins.0) kept.5 (begins.0, refl)
      (record {
        front = its.1;
        tail = stands.tail;
        kept = its.5;
        end = stands.end;
        split = both.1;
      }) in
      record {
        listed = (rest.listed.0, ap₂ (λ r rs. r ∷ rs) (sym both.0) rest.listed.1);
        there = (
          rest.there.0,
          its.4 ∙ ap₂ (λ (g : ℕ) (l : List ℕ). g ∷ l) (sym gates)
              (ap₂ (λ (a b : List ℕ). a ++ b) (sym both.0) rest.there.1
              ∙ sym (append_assoc first kept.1 rest.there.0))
              ∙ ap (λ (l : List ℕ). l ++ rest.there.0) (sym kept.4),
        );
      }

-- ---- in a put

begins_take : (front file : List ℕ) → take (length front) file ≡ front → BeginsWith front file
begins_take front file same = (
  drop (length front) file,
  sym (take-append-drop (length front) file)
      ∙ ap (λ (l : List ℕ). l ++ drop (length front) file) same,
)

take_begins : (front file : List ℕ) → BeginsWith front file → take (length front) file ≡ front
take_begins front file begins =
    ap (λ (l : List ℕ). take (length front) l) begins.1
    ∙ take_at front begins.0 (length front) refl

-- a write behind it leaves it
torn_begins : (front : List ℕ) (at n : ℕ) (d c : List ℕ) → length front ≤ at
    → BeginsWith front d → Torn at n d c → BeginsWith front c
torn_begins front at n d c behind begins torn =
    begins_take front c
    (sym (take-take (length front) at c behind)
    ∙ ap (λ (l : List ℕ). take (length front) l) torn.before
    ∙ take-take (length front) at d behind
    ∙ take_begins front d begins)

-- from old to now a crash leaves what begins with it
abbrev pub IsStaying : {D : Type 0} → File D → List ℕ → D → D → Type 0
IsStaying f front old now = Leaves f (BeginsWith front) (BeginsWith front) old now

module _ {D : Type 0} (f : File D) (front : List ℕ) where
  pub begun_staying : {old : D} (rest : List ℕ) → IsOnlyNow f old → f.seen old ≡ front ++ rest
      → Only (f.seen old) (f.may_leave old) → IsStaying f front old old
  begun_staying {old} rest only_now is only =
      begun f only_now (λ c left. (rest, only c left ∙ is)) (λ c begins. begins)

  pub wrote_staying : (bytes : List ℕ) {at : ℕ} {old mid now : D} → IsStaying f front old mid
      → length front ≤ at → at ≤ length (f.seen mid) → Writes f at bytes mid now
      → IsStaying f front old now
  wrote_staying bytes {at} {old} {mid} {now} stage behind there writes =
      wrote f (BeginsWith front) stage there writes
      (λ d c begins torn. torn_begins front at (length bytes) d c behind begins torn)
      (λ c begins. begins)

-- ---- in an opening

module _ {D : Type 0} (f : File D) where
  -- the file is only read
  pub reads_stay : (front : List ℕ) {old now : D} → Reads f old now
      → KeepsFront f.may_leave f.moment f.left_since front old now
  reads_stay front reads = reads_leave f (BeginsWith front) reads

  -- it is put right behind its records
  pub repairs_stay : (is_record : List ℕ → Type 0) (longest : ℕ)
      (some : (bytes : List ℕ) → is_record bytes → 0 < length bytes)
      (one : (bytes more : List ℕ) → is_record bytes → is_record (bytes ++ more) → more ≡ [])
      {T : Type 0} {takes : T → List ℕ → T → Type 0} {shown : List ℕ} {before after : T}
      (records : List (List ℕ)) (end : Rest) {old mid read now : D}
      → (stands : StandsFor is_record longest records (f.seen old))
      → Reads f old mid → Only (f.seen old) (f.may_leave mid) → Reads f mid read
      → Ends is_record longest takes (f.seen mid) shown before after end
      → (end.gate ≤ length (f.seen read) → Only (f.seen read) (f.may_leave read)
      → LeavesOnly f.moment f.left_since read now (IsCutThere end.gate (f.seen read)))
      → KeepsFront f.may_leave f.moment f.left_since stands.front old now
  repairs_stay is_record longest some one records end {old} {mid} {read} {now} stands first only
      second ends repairs =
      let same : f.seen read ≡ f.seen old = second.same ∙ first.same in
      let file_is : f.seen read ≡ ends.all.front ++ ends.all.tail = second.same ∙ ends.all.split in
      let there = (begins_both is_record longest some one records ends.all.records stands.front
      (f.seen old) stands.kept (stands.tail, stands.split)
      (record {
        front = ends.all.front;
        tail = ends.all.tail;
        kept = ends.all.kept;
        end = ends.all.end;
        split = sym first.same ∙ ends.all.split;
      })).there in
      let before_it : take end.gate (f.seen read) ≡ ends.all.front =
      ap (λ (l : List ℕ). take end.gate l) file_is
      ∙ take_at ends.all.front ends.all.tail end.gate (sym ends.gate) in
      joined f.moment f.left_since f.may_leave
      (λ c. f.may_leave old c ⊎ BeginsWith stands.front c)
      (IsCutThere end.gate (f.seen read)) old read now
      (reads_leave f (BeginsWith stands.front) (reads_on_both first second))
      (repairs
      (omega (arith, ends.gate, ap length file_is, length-append ends.all.front ends.all.tail))
      (λ c left. only c (second.crash c left) ∙ sym same))
      (λ c cut. inr (
        there.0 ++ cut.rest,
        cut.split ∙ ap (λ (l : List ℕ). l ++ cut.rest) (before_it ∙ there.1)
            ∙ append_assoc stands.front there.0 cut.rest,
      ))
    where
      reads_on_both : Reads f old mid → Reads f mid read → Reads f old read
      reads_on_both = reads_both f.moment f.left_since f.may_leave f.seen old mid read
