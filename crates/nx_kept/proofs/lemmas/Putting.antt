-- What a crash leaves in each step of a put.
use Rattle.std.proofs.Common.{◌≡◌, inl, inr, ℕ, ◌+◌, ◌≤◌, List, [], ◌∷◌, ◌++◌, length, get_or, take, drop, refl, sym, ◌∙◌, ap, subst, arith, append_assoc, length-append, length-drop, take-append-drop}
use Rattle.std.proofs.lemmas.Bool.{cases_eq}
use Rattle.std.proofs.lemmas.List.{append-nil, take_at, take-take, take_all, drop_at, drop_all, drop_more}
use Rattle.nx_kept.specs.Disk.{Holds, Only, Torn}
use Rattle.nx_kept.specs.Kept.{closed_gate, open_gate, IsBehindOpenGates, StandsFor, WithOrWithout}
use Rattle.nx_kept.specs.Log.{IsAtRest, Keeps}
use Rattle.nx_kept.specs.declared.log.KeptLog.{KeptLog}
use Rattle.nx_kept.proofs.lemmas.Calls.{File, IsOnlyNow, Leaves, Syncs, Writes, begun, durable, wrote}
use Rattle.nx_kept.proofs.lemmas.KeptLaws.{closed_tail, more_behind, only_tail, one_behind}

-- bytes written at the end
pub written_behind : (old : List ℕ) (at : ℕ) (bytes new : List ℕ) → at ≡ length old
    → Holds old at bytes new → new ≡ old ++ bytes
written_behind old at bytes new end holds =
    holds
    ∙ ap (λ (l : List ℕ). l ++ bytes ++ drop (at + length bytes) old)
    (take_all at old (omega arith))
    ∙ ap (λ (l : List ℕ). old ++ bytes ++ l) (drop_all (at + length bytes) old (omega arith))
    ∙ append-nil (old ++ bytes)

-- one byte written over another
pub written_over : (front : List ℕ) (at was is : ℕ) (behind new : List ℕ) → at ≡ length front
    → Holds (front ++ was ∷ behind) at (is ∷ []) new → new ≡ front ++ is ∷ behind
written_over front at was is behind new end holds =
    let split : front ++ was ∷ behind ≡ (front ++ was ∷ []) ++ behind =
    sym (append_assoc front (was ∷ []) behind) in
    holds
    ∙ ap (λ (l : List ℕ). l ++ (is ∷ []) ++ drop (at + 1) (front ++ was ∷ behind))
    (take_at front (was ∷ behind) at (sym end))
    ∙ ap (λ (l : List ℕ). front ++ (is ∷ []) ++ drop (at + 1) l) split
    ∙ ap (λ (l : List ℕ). front ++ (is ∷ []) ++ l)
    (drop_at (front ++ was ∷ []) behind (at + 1)
    (omega (arith, end, length-append front (was ∷ []))))
    ∙ append_assoc front (is ∷ []) behind

module _ (front : List ℕ) where
  -- a closed gate, and at most so many bytes of any kind behind it
  pub record Behind (n : ℕ) (c : List ℕ) : Type 0 where
    pub rest : List ℕ
    pub split : c ≡ front ++ closed_gate ∷ rest
    pub short : length rest ≤ n

  -- any gate, and behind it these bytes
  pub record Gated (bytes c : List ℕ) : Type 0 where
    pub gate : ℕ
    pub split : c ≡ front ++ gate ∷ bytes

  pub at_rest : (n : ℕ) (c : List ℕ) → c ≡ front ++ closed_gate ∷ [] → Behind n c
  at_rest n c is = record { rest = []; split = is; short = omega arith }

  -- the closed gate stands in each outcome of a write behind it
  pub torn_behind : (m n at k : ℕ) (d c : List ℕ) → Behind m d → Torn at k d c
      → length front + 1 ≤ at → at + k ≤ length front + 1 + n → m ≤ n → Behind n c
  torn_behind m n at k d c was torn behind within more =
      let gate = front ++ closed_gate ∷ [] in
      let size : length gate ≡ length front + 1 =
      omega (arith, length-append front (closed_gate ∷ [])) in
      let old : d ≡ gate ++ was.rest = was.split
      ∙ sym (append_assoc front (closed_gate ∷ []) was.rest) in
      let same : take (length front + 1) c ≡ gate =
      sym (take-take (length front + 1) at c behind)
      ∙ ap (λ (l : List ℕ). take (length front + 1) l) torn.before
      ∙ take-take (length front + 1) at d behind
      ∙ ap (λ (l : List ℕ). take (length front + 1) l) old
      ∙ take_at gate was.rest (length front + 1) size in
      record {
        rest = drop (length front + 1) c;
        split = sym (take-append-drop (length front + 1) c)
            ∙ ap (λ (l : List ℕ). l ++ drop (length front + 1) c) same
            ∙ append_assoc front (closed_gate ∷ []) (drop (length front + 1) c);
        short = omega (
          arith,
          length-drop (length front + 1) c,
          torn.no_longer,
          ap length old,
          length-append gate was.rest,
          size,
          was.short,
        );
      }

  -- all but the gate stands in each outcome of a write over it
  pub torn_gate : (at was : ℕ) (bytes d c : List ℕ) → at ≡ length front → d ≡ front ++ was ∷ bytes
      → Torn at 1 d c → Gated bytes c
  torn_gate at was bytes d c here is torn =
      let old : d ≡ (front ++ was ∷ []) ++ bytes = is ∙ sym (append_assoc front (was ∷ []) bytes) in
      let size : length d ≡ length front + 1 + length bytes =
      omega (arith, ap length is, length-append front (was ∷ bytes)) in
      let front_same : take at c ≡ front = torn.before ∙ ap (λ (l : List ℕ). take at l) is
      ∙ take_at front (was ∷ bytes) at (sym here) in
      let back_same : drop (at + 1) c ≡ bytes = torn.after
      ∙ ap (λ (l : List ℕ). drop (at + 1) l) old
      ∙ drop_at (front ++ was ∷ []) bytes (at + 1)
      (omega (arith, here, length-append front (was ∷ []))) in
      let back : drop at c ≡ get_or c at 0 ∷ bytes =
      drop_more c at 0 (omega (arith, torn.no_shorter, size, here))
      ∙ ap (λ (l : List ℕ). get_or c at 0 ∷ l) back_same in
      record {
        gate = get_or c at 0;
        split = sym (take-append-drop at c) ∙ ap (λ (l : List ℕ). l ++ drop at c) front_same
            ∙ ap (λ (l : List ℕ). front ++ l) back;
      }

  module _ (is_record : List ℕ → Type 0) (longest : ℕ) (records : List (List ℕ))
      (kept : IsBehindOpenGates is_record records front) where
    -- behind a closed gate nothing counts
    pub closed_keeps : (c : List ℕ) → Behind (longest + 1) c → StandsFor is_record longest records c
    closed_keeps c behind =
        let stands = more_behind is_record longest records [] front (closed_gate ∷ behind.rest) kept
        (only_tail is_record longest (closed_gate ∷ behind.rest)
        (closed_tail is_record longest behind.rest behind.short)) in
        subst (StandsFor is_record longest records) (sym behind.split)
        (subst (λ (l : List (List ℕ)). StandsFor is_record longest l
        (front ++ closed_gate ∷ behind.rest)) (append-nil records) stands)

    -- behind any gate a whole record and a closed gate stand for the record or for nothing
    pub any_gate_keeps : (bytes c : List ℕ) → is_record bytes → length bytes ≤ longest
        → Gated (bytes ++ closed_gate ∷ []) c → WithOrWithout is_record longest records bytes c
    any_gate_keeps bytes c is_one short gated = elim (cases_eq gated.gate closed_gate) [
      | inl closed ↦ inl (closed_keeps c (record {
        rest = bytes ++ closed_gate ∷ [];
        split = gated.split ∙ ap (λ (g : ℕ). front ++ g ∷ (bytes ++ closed_gate ∷ [])) closed;
        short = omega (arith, length-append bytes (closed_gate ∷ []));
      }))
      | inr is_open ↦ inr (record {
        front = front ++ gated.gate ∷ bytes;
        tail = closed_gate ∷ [];
        kept = one_behind is_record longest records front gated.gate bytes kept is_open is_one;
        end = tt;
        split = gated.split ∙ sym (append_assoc front (gated.gate ∷ bytes) (closed_gate ∷ []));
      })
    ]

-- ---- what a read finds after each call of a put

module _ {D G : Type 0} (f : File D) (front bytes : List ℕ) (log : KeptLog D G)
    (rest : IsAtRest f.seen f.may_leave front log) where
  -- the bytes that are found once the record stands behind the closed gate
  abbrev pub with_record : List ℕ
  with_record = front ++ closed_gate ∷ bytes

  -- and once a closed gate stands behind the record
  abbrev pub with_gate : List ℕ
  with_gate = front ++ closed_gate ∷ (bytes ++ closed_gate ∷ [])

  -- the record's place is there
  pub record_there : log.gate + 1 ≤ length (f.seen log.device)
  record_there =
      omega (arith, rest.gate, ap length rest.file, length-append front (closed_gate ∷ []))

  pub found_record : (now : D)
      → (log.gate + 1 ≤ length (f.seen log.device)
      → Holds (f.seen log.device) (log.gate + 1) bytes (f.seen now))
      → f.seen now ≡ with_record
  found_record now written =
      written_behind (f.seen log.device) (log.gate + 1) bytes (f.seen now)
      (omega (arith, rest.gate, ap length rest.file, length-append front (closed_gate ∷ [])))
      (written record_there)
      ∙ ap (λ (l : List ℕ). l ++ bytes) rest.file ∙ append_assoc front (closed_gate ∷ []) bytes

  -- so is the place of the gate behind it
  pub gate_there : (mid : D) → f.seen mid ≡ with_record
      → log.gate + 1 + length bytes ≤ length (f.seen mid)
  gate_there mid is =
      omega (arith, rest.gate, ap length is, length-append front (closed_gate ∷ bytes))

  pub found_gate : (mid now : D) → f.seen mid ≡ with_record
      → (log.gate + 1 + length bytes ≤ length (f.seen mid)
      → Holds (f.seen mid) (log.gate + 1 + length bytes) (closed_gate ∷ []) (f.seen now))
      → f.seen now ≡ with_gate
  found_gate mid now is written =
      written_behind (f.seen mid) (log.gate + 1 + length bytes) (closed_gate ∷ []) (f.seen now)
      (omega (arith, rest.gate, ap length is, length-append front (closed_gate ∷ bytes)))
      (written (gate_there mid is))
      ∙ ap (λ (l : List ℕ). l ++ closed_gate ∷ []) is
      ∙ append_assoc front (closed_gate ∷ bytes) (closed_gate ∷ [])

  -- the gate that is opened is there
  pub open_there : (mid : D) → f.seen mid ≡ with_gate → log.gate ≤ length (f.seen mid)
  open_there mid is =
      omega (
        arith,
        rest.gate,
        ap length is,
        length-append front
            (closed_gate ∷ (bytes ++ closed_gate ∷ [])),
      )

  -- the log is at rest again
  pub rests_again : (mid now : D) (after : KeptLog D G) → f.seen mid ≡ with_gate
      → (log.gate ≤ length (f.seen mid)
      → Holds (f.seen mid) log.gate (open_gate ∷ []) (f.seen now))
      → after.gate ≡ log.gate + 1 + length bytes → f.seen after.device ≡ f.seen now
      → Only (f.seen now) (f.may_leave after.device)
      → IsAtRest f.seen f.may_leave (front ++ open_gate ∷ bytes) after
  rests_again mid now after is written gate same only = record {
    file = same
        ∙ written_over front log.gate closed_gate open_gate (bytes ++ closed_gate ∷ [])
        (f.seen now) rest.gate
        (subst (λ (l : List ℕ). Holds l log.gate (open_gate ∷ []) (f.seen now)) is
        (written (open_there mid is)))
        ∙ sym (append_assoc front (open_gate ∷ bytes) (closed_gate ∷ []));
    gate = omega (arith, gate, rest.gate, length-append front (open_gate ∷ bytes));
    durable = subst (λ (l : List ℕ). Only l (f.may_leave after.device)) (sym same) only;
  }

-- ---- what a crash leaves in each call of a put

-- A record of these bytes is put into a log that keeps these records.
pub record Putting {D G : Type 0} (f : File D) (is_record : List ℕ → Type 0) (longest : ℕ)
    (records : List (List ℕ)) (bytes : List ℕ) (log : KeptLog D G) : Type 0 where
  pub keeps : Keeps f.seen f.may_leave is_record records log
  pub is_one : is_record bytes
  pub short : length bytes ≤ longest
  pub only_now : IsOnlyNow f log.device

module _ {D G : Type 0} (f : File D) {is_record : List ℕ → Type 0} {longest : ℕ}
    {records : List (List ℕ)} {bytes : List ℕ} {log : KeptLog D G}
    (p : Putting f is_record longest records bytes log) where
  abbrev front : List ℕ
  front = p.keeps.front

  abbrev rest : IsAtRest f.seen f.may_leave p.keeps.front log
  rest = p.keeps.at_rest

  abbrev BeforeOrAfter : List ℕ → Type 0
  BeforeOrAfter = WithOrWithout is_record longest records bytes

  -- a closed gate still stands before the record
  abbrev pub IsStaging : D → Type 0
  IsStaging now = Leaves f BeforeOrAfter (Behind p.keeps.front (longest + 1)) log.device now

  -- or any gate does
  abbrev pub IsOpening : D → Type 0
  IsOpening now =
      Leaves f BeforeOrAfter (Gated p.keeps.front (bytes ++ closed_gate ∷ [])) log.device now

  still : (c : List ℕ) → Behind p.keeps.front (longest + 1) c → BeforeOrAfter c
  still c behind = inl (closed_keeps p.keeps.front is_record longest records p.keeps.kept c behind)

  -- the record is written
  pub wrote_record : (now : D) → Writes f (log.gate + 1) bytes log.device now → IsStaging now
  wrote_record now writes =
      let here = rest.gate in
      let short = p.short in
      wrote f (Behind front (longest + 1))
      (begun f p.only_now
      (λ c left. at_rest front (longest + 1) c (rest.durable c left ∙ rest.file)) still)
      (record_there f front bytes log rest) writes
      (λ d c was torn. torn_behind front (longest + 1) (longest + 1) (log.gate + 1) (length bytes)
      d c was torn (omega arith) (omega arith) (omega arith)) still

  -- the closed gate is written behind it
  pub wrote_gate : (mid now : D) → IsStaging mid → f.seen mid ≡ front ++ closed_gate ∷ bytes
      → Writes f (log.gate + 1 + length bytes) (closed_gate ∷ []) mid now → IsStaging now
  wrote_gate mid now stage is writes =
      let here = rest.gate in
      let short = p.short in
      wrote f (Behind front (longest + 1)) stage (gate_there f front bytes log rest mid is) writes
      (λ d c was torn. torn_behind front (longest + 1) (longest + 1) (log.gate + 1 + length bytes) 1
      d c was torn (omega arith) (omega arith) (omega arith)) still

  -- once both are on the disk, the gate before the record is opened
  pub opened_gate : (mid synced now : D) → IsStaging mid
      → f.seen mid ≡ front ++ closed_gate ∷ (bytes ++ closed_gate ∷ []) → Syncs f mid synced
      → Only (f.seen mid) (f.may_leave synced)
      → Writes f log.gate (open_gate ∷ []) synced now → IsOpening now
  opened_gate mid synced now stage is syncs only writes =
      let whole = front ++ closed_gate ∷ (bytes ++ closed_gate ∷ []) in
      let short = p.short in
      let behind : Behind front (longest + 1) whole = record {
        rest = bytes ++ closed_gate ∷ [];
        split = refl;
        short = omega (arith, length-append bytes (closed_gate ∷ []));
      } in
      wrote f (Gated front (bytes ++ closed_gate ∷ []))
      (durable f whole stage syncs only is (still whole behind))
      (open_there f front bytes log rest synced (syncs.seen ∙ is)) writes
      (λ d c was torn. torn_gate front log.gate closed_gate (bytes ++ closed_gate ∷ []) d c
      rest.gate was torn)
      (λ c gated. any_gate_keeps front is_record longest records p.keeps.kept bytes c p.is_one
      p.short gated)
