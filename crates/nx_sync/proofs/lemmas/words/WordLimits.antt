-- Whether the next bit is the first of a word, by what is held.
use Rattle.std.specs.Prelude.{◌↔◌, IsTrue}
use Rattle.std.proofs.Common.{◌≡◌, ◌==◌, List, Bool, true, false, sym, ap, ◌∙◌, arith, Option}
use Rattle.std.proofs.Common.{eqb-true, eq-eqb}
use Rattle.nx_sync.specs.declared.track.Track.{Track}
use Rattle.nx_sync.specs.Locks.{Lock, Now, hunting, locked, IsNow}
use Rattle.nx_sync.specs.Steps.{LimitStands}
use Rattle.nx_sync.specs.Synchroniser.{Held, is_at_limit, Tracks, StandsAfter}
use Rattle.nx_sync.proofs.lemmas.states.UniqueStates.{now-unique}

limit_iff : (bits : List Bool) (locks : List Lock) (now : Now) (wrong : List Bool)
    (track : Option Track) → IsNow bits locks now → Tracks bits now wrong track
    → (is_at_limit track ≡ true → LimitStands bits) × (LimitStands bits → is_at_limit track ≡ true)
limit_iff bits locks (hunting p) wrong track n t = (
  λ h. let e : is_at_limit track ≡ false = ap is_at_limit t in cc,
  λ l. let e : hunting p ≡ locked l.p l.t =
      now-unique bits locks l.locks (hunting p) (locked l.p l.t) n l.stands in cc,
)
limit_iff bits locks (locked p t) wrong track n f =
    let is : is_at_limit track ≡ (f.one.filled == 0) = ap is_at_limit f.is in (
      λ h.
          let none : f.one.filled ≡ 0 = eqb-true f.one.filled 0 (sym is ∙ h) in
          record {
            locks = locks;
            p = p;
            t = t;
            stands = n;
            whole = f.follows.whole;
            limit =
                omega (arith, f.follows.place, none);
          },
      λ l.
          let e : locked p t ≡ locked l.p l.t =
          now-unique bits locks l.locks (locked p t) (locked l.p l.t) n l.stands in
          let same : t ≡ l.t = cc in
          is ∙ eq-eqb f.one.filled 0
          (omega (arith, f.follows.place, f.follows.short, l.limit, same)),
    )

pub limit_by : (s : Held) (answer : Bool) → answer ≡ is_at_limit s.track → (bits : List Bool)
    → StandsAfter s bits → (IsTrue answer ↔ LimitStands bits)
limit_by s answer e bits a =
    let limit = limit_iff bits a.locks a.now s.wrong s.track a.stands a.tracks in
    (λ h. limit.0 (sym e ∙ h), λ l. e ∙ limit.1 l)
