-- What stands after a list of bits is unique.
use Rattle.std.proofs.Common.{◌≡◌, ℕ, ◌⊎◌, List, [], ◌∷◌, Bool, refl, sym, ap, subst, ◌∙◌, inl, inr}
use Rattle.std.proofs.lemmas.Bool.{cases_order}
use Rattle.nx_sync.specs.declared.step.Change.{Change}
use Rattle.nx_sync.specs.Locks.{Finds, IsReleased, Lock, Past, Now, hunting, locked, IsNow}
use Rattle.nx_sync.proofs.lemmas.words.Computed.{released-word, released-how}
use Rattle.nx_sync.specs.Laws.{Extends, same, newer}

pub Extends-nil : (ls : List Lock) → Extends ls []
Extends-nil [] = same
Extends-nil (l ∷ ls) = newer (Extends-nil ls)

-- a longer list has a next lock after the older part
pub data NextLock (ls ks : List Lock) : Type 0 where
  equal : ls ≡ ks → NextLock ls ks
  next : (x : Lock) → Extends ls (x ∷ ks) → NextLock ls ks

pub next_lock : {ls ks : List Lock} → Extends ls ks → NextLock ls ks
next_lock same = equal refl
next_lock (newer {lock} {locks} {older} e) = elim (next_lock e) [
  | equal h ↦ next lock (subst (λ xs. Extends (lock ∷ locks) (lock ∷ xs)) h same)
  | next x f ↦ next x (newer f)
]

module _ (bits : List Bool) where
  pub Finds-unique : (p s t : ℕ) → Finds bits p s → Finds bits p t → s ≡ t
  Finds-unique p s t f g = elim (cases_order s t) [
    | inl e ↦ e
    | inr (inl before) ↦ absurd (g.least s f.after before f.here)
    | inr (inr before) ↦ absurd (f.least t g.after before g.here)
  ]

  -- the bit count that a list of past locks leads to
  pub Past-unique : (locks : List Lock) (p q : ℕ) → Past bits locks p → Past bits locks q → p ≡ q
  unfolding Past
  Past-unique [] p q a b = a ∙ sym b
  Past-unique (l ∷ ls) p q a b = a.0.next ∙ sym b.0.next

  -- two locks that follow the same past ones are equal
  pub next-unique : (x y : Lock) (ls : List Lock) (p q : ℕ) → Past bits (x ∷ ls) p
      → Past bits (y ∷ ls) q → x ≡ y
  unfolding Past
  next-unique x y ls p q a b =
      let from : x.from ≡ y.from = Past-unique ls x.from y.from a.1 b.1 in
      let found : Finds bits x.from y.at = subst (λ n. Finds bits n y.at) (sym from) b.0.found in
      let at : x.at ≡ y.at = Finds-unique x.from x.at y.at a.0.found found in
      let released : IsReleased bits x.at y.last y.how =
      subst (λ n. IsReleased bits n y.last y.how) (sym at) b.0.released in
      let last : x.last ≡ y.last =
      released-word bits x.at x.last y.last x.how y.how a.0.released released in
      let how : x.how ≡ y.how =
      released-how bits x.at x.last y.last x.how y.how a.0.released released in
      let make : ℕ → ℕ → ℕ → Change → Lock =
      λ f t w h. record { from = f; at = t; last = w; how = h } in
      ap (λ n. make n x.at x.last x.how) from
      ∙ (ap (λ n. make y.from n x.last x.how) at
      ∙ (ap (λ n. make y.from y.at n x.how) last ∙ ap (λ h. make y.from y.at y.last h) how))

  -- an older part of past locks is past locks too
  pub Past-part : {ls ks : List Lock} → Extends ls ks → (p : ℕ) → Past bits ls p
      → (q : ℕ) × Past bits ks q
  unfolding Past
  Past-part same p past = (p, past)
  Past-part (newer {lock} {locks} {older} e) p past = Past-part e lock.from past.1

  -- of two lists of past locks one has the other as its oldest part
  pub compare : (ls ks : List Lock) (p q : ℕ) → Past bits ls p → Past bits ks q
      → Extends ls ks ⊎ Extends ks ls
  unfolding Past
  compare ls [] p q a b = inl (Extends-nil ls)
  compare ls (k ∷ ks) p q a b = elim (compare ls ks p k.from a b.1) [
    | inr e ↦ inr (newer e)
    | inl e ↦ elim (next_lock e) [
      | equal h ↦ inr (newer (subst (λ xs. Extends ks xs) (sym h) same))
      | next x f ↦
          let part = Past-part f p a in
          let xk : x ≡ k = next-unique x k ks part.0 q part.1 b in
          inl (subst (λ y. Extends ls (y ∷ ks)) xk f)
    ]
  ]

  -- a search that goes on from past locks that are not the newest finds the next one
  pub past_next : (ls ks : List Lock) (x : Lock) (p q : ℕ) → Past bits ks p → Extends ls (x ∷ ks)
      → Past bits ls q → Finds bits p x.at × IsReleased bits x.at x.last x.how
  unfolding Past
  past_next ls ks x p q a e b =
      let part = Past-part e q b in
      let from : x.from ≡ p = Past-unique ks x.from p part.1.1 a in
      (subst (λ n. Finds bits n x.at) from part.1.0.found, part.1.0.released)

  -- so nothing that stands now has newer past locks
  pub now-newest : (ls ks : List Lock) (now : Now) (x : Lock) (q : ℕ) → IsNow bits ks now
      → Extends ls (x ∷ ks) → Past bits ls q → ⊥
  now-newest ls ks (hunting p) x q n e b =
      let found = past_next ls ks x p q n.past e b in
      n.none x.at found.0.after found.0.here
  now-newest ls ks (locked p t) x q n e b =
      let found = past_next ls ks x p q n.past e b in
      let at : x.at ≡ t = Finds-unique p x.at t found.0 n.found in
      n.holds x.last x.how (subst (λ s. IsReleased bits s x.last x.how) at found.1)

  pub IsNow-past : (ls : List Lock) (now : Now) → IsNow bits ls now → (p : ℕ) × Past bits ls p
  IsNow-past ls (hunting p) n = (p, n.past)
  IsNow-past ls (locked p t) n = (p, n.past)

  pub locks-unique : (ls ks : List Lock) (m n : Now) → IsNow bits ls m → IsNow bits ks n → ls ≡ ks
  locks-unique ls ks m n a b =
      let past = IsNow-past ls m a in
      let older = IsNow-past ks n b in
      elim (compare ls ks past.0 older.0 past.1 older.1) [
        | inl e ↦ elim (next_lock e) [
          | equal h ↦ h
          | next x f ↦
              absurd (now-newest ls ks n x past.0 b f past.1)
        ]
        | inr e ↦ elim (next_lock e) [
          | equal h ↦ sym h
          | next x f ↦
              absurd (now-newest ks ls m x older.0 a f older.1)
        ]
      ]

  pub now-same : (ls : List Lock) (m n : Now) → IsNow bits ls m → IsNow bits ls n → m ≡ n
  now-same ls (hunting p) (hunting q) a b = ap hunting (Past-unique ls p q a.past b.past)
  now-same ls (hunting p) (locked q t) a b =
      let from : q ≡ p = Past-unique ls q p b.past a.past in
      let f : Finds bits p t = subst (λ n. Finds bits n t) from b.found in
      absurd (a.none t f.after f.here)
  now-same ls (locked q t) (hunting p) b a =
      let from : q ≡ p = Past-unique ls q p b.past a.past in
      let f : Finds bits p t = subst (λ n. Finds bits n t) from b.found in
      absurd (a.none t f.after f.here)
  now-same ls (locked p s) (locked q t) a b =
      let from : q ≡ p = Past-unique ls q p b.past a.past in
      let f : Finds bits p t = subst (λ n. Finds bits n t) from b.found in
      ap (λ n. locked n s) (sym from) ∙ ap (locked q) (Finds-unique p s t a.found f)

  pub now-unique : (ls ks : List Lock) (m n : Now) → IsNow bits ls m → IsNow bits ks n → m ≡ n
  now-unique ls ks m n a b =
      now-same ls m n a (subst (λ xs. IsNow bits xs n) (sym (locks-unique ls ks m n a b)) b)
