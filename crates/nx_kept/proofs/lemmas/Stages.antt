-- How a run of calls of a disk goes on.
use Rattle.std.proofs.Common.{◌≡◌, inl, inr, ⊎_elim, ℕ, List, ◌∙◌, arith}
use Rattle.nx_kept.specs.Disk.{Elapses, Follows, LeavesOnly, OnlyReads}

module _ {D : Type 0} (moment : D → ℕ) (left_since : D → ℕ → List ℕ → Type 0)
    (may_leave : D → List ℕ → Type 0) where
  -- From old to now a crash leaves what has P. Now it leaves what has Q, which is a kind of P.
  pub record Stage (P Q : List ℕ → Type 0) (old now : D) : Type 0 where
    pub so_far : LeavesOnly moment left_since old now P
    pub leaves : (c : List ℕ) → may_leave now c → Q c
    pub fine : (c : List ℕ) → Q c → P c

  -- before the first call
  pub begins : (P Q : List ℕ → Type 0) (old : D)
      → ((c : List ℕ) → left_since old (moment old) c → may_leave old c)
      → ((c : List ℕ) → may_leave old c → Q c) → ((c : List ℕ) → Q c → P c) → Stage P Q old old
  begins P Q old only_now leaves fine = record {
    so_far = record {
      later = omega arith;
      each = λ c left. fine c (leaves c (only_now c left));
      before = λ t c le left. inl left;
    };
    leaves = leaves;
    fine = fine;
  }

  goes_on : (P : List ℕ → Type 0) (old mid now : D) → LeavesOnly moment left_since old mid P
      → Elapses (moment mid) (moment now) (left_since mid) (left_since now) (may_leave now)
      → ((c : List ℕ) → may_leave now c → P c) → LeavesOnly moment left_since old now P
  goes_on P old mid now so_far time here = record {
    later = omega (arith, so_far.later, time.later);
    each = λ c left. ⊎_elim (so_far.each c) (here c)
        (time.nothing_else (moment old) c so_far.later left);
    before = λ t c le left. ⊎_elim (so_far.before t c le) (λ leaves. inr (here c leaves))
        (time.nothing_else t c (omega (arith, le, so_far.later)) left);
  }

  -- a call that a crash may cut short
  pub steps : (P Q : List ℕ → Type 0) (next : List ℕ → Type 0) (step : List ℕ → List ℕ → Type 0)
      (old mid now : D) → Stage P Q old mid
      → Elapses (moment mid) (moment now) (left_since mid) (left_since now) (may_leave now)
      → Follows step (may_leave mid) (may_leave now)
      → ((d c : List ℕ) → Q d → step d c → next c) → ((c : List ℕ) → next c → P c)
      → Stage P next old now
  steps P Q next step old mid now stage time follows leads fine = record {
    so_far = goes_on P old mid now stage.so_far time (λ c left. fine c (led c left));
    leaves = led;
    fine = fine;
  }
    where
      led : (c : List ℕ) → may_leave now c → next c
      led c left = let from = follows c left in leads from.0 c (stage.leaves from.0 from.1) from.2

  -- a call that leaves nothing new
  pub stays : (P Q : List ℕ → Type 0) (old mid now : D) → Stage P Q old mid
      → Elapses (moment mid) (moment now) (left_since mid) (left_since now) (may_leave now)
      → ((c : List ℕ) → may_leave now c → may_leave mid c) → Stage P Q old now
  stays P Q old mid now stage time same = record {
    so_far = goes_on P old mid now stage.so_far time
        (λ c left. stage.fine c (stage.leaves c (same c left)));
    leaves = λ c left. stage.leaves c (same c left);
    fine = stage.fine;
  }

  -- what a crash leaves now is known
  pub knows : (P Q next : List ℕ → Type 0) (old now : D) → Stage P Q old now
      → ((c : List ℕ) → may_leave now c → next c) → ((c : List ℕ) → next c → P c)
      → Stage P next old now
  knows P Q next old now stage leaves fine = record {
    so_far = stage.so_far;
    leaves = leaves;
    fine = fine;
  }

  -- one run behind another
  pub joined : (P Q : List ℕ → Type 0) (old mid now : D) → LeavesOnly moment left_since old mid P
      → LeavesOnly moment left_since mid now Q
      → ((c : List ℕ) → Q c → P c) → LeavesOnly moment left_since old now P
  joined P Q old mid now first second fine = record {
    later = omega (arith, first.later, second.later);
    each = λ c left. ⊎_elim (first.each c) (fine c) (second.before (moment old) c first.later left);
    before = λ t c le left. ⊎_elim (first.before t c le) (λ has. inr (fine c has))
        (second.before t c (omega (arith, le, first.later)) left);
  }

  pub weaker : (P Q : List ℕ → Type 0) (old now : D) → LeavesOnly moment left_since old now Q
      → ((c : List ℕ) → Q c → P c) → LeavesOnly moment left_since old now P
  weaker P Q old now run fine = record {
    later = run.later;
    each = λ c left. fine c (run.each c left);
    before = λ t c le left. ⊎_elim (λ was. inl was) (λ has. inr (fine c has))
        (run.before t c le left);
  }

  module _ (seen : D → List ℕ) where
    -- nothing is called
    pub rests : (old : D) → ((c : List ℕ) → left_since old (moment old) c → may_leave old c)
        → OnlyReads seen may_leave moment left_since old old
    rests old only_now = record {
      same = λ i. seen old;
      crash = λ c left. left;
      any_moment = record {
        later = omega arith;
        each = only_now;
        before = λ t c le left. inl left;
      };
    }

    -- one call more that changes nothing
    pub reads_on : (old mid now : D) → OnlyReads seen may_leave moment left_since old mid
        → seen now ≡ seen mid
        → ((c : List ℕ) → may_leave now c → may_leave mid c)
        → Elapses (moment mid) (moment now) (left_since mid) (left_since now) (may_leave now)
        → OnlyReads seen may_leave moment left_since old now
    reads_on old mid now run same crash time = record {
      same = same ∙ run.same;
      crash = λ c left. run.crash c (crash c left);
      any_moment = goes_on (may_leave old) old mid now run.any_moment time
          (λ c left. run.crash c (crash c left));
    }

    pub reads_both : (old mid now : D) → OnlyReads seen may_leave moment left_since old mid
        → OnlyReads seen may_leave moment left_since mid now
        → OnlyReads seen may_leave moment left_since old now
    reads_both old mid now first second = record {
      same = second.same ∙ first.same;
      crash = λ c left. first.crash c (second.crash c left);
      any_moment = joined (may_leave old) (may_leave mid) old mid now first.any_moment
          second.any_moment first.crash;
    }
