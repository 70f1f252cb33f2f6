-- The laws of a taker that shows locks: no elements bring nothing, and elements after others bring
-- what both do.
use Rattle.std.specs.Prelude.{◌≡◌, ℕ, ◌+◌, ◌≤◌, Bool, List, [], ◌++◌, length}
use Rattle.std.proofs.Common.{refl, sym, ap, ◌∙◌, subst, subst₂, arith, append_assoc, append-nil}
use Rattle.std.proofs.Common.{length-append}
use Rattle.std.proofs.lemmas.List.{map-append}
use Rattle.nx_sync.specs.Synchroniser.{Held, StandsAfter}
use Rattle.nx_locks.specs.private.Reader.{Reading}
use Rattle.nx_locks.specs.private.Taker.{HasRoom, Hears, Shows, TakerShows, Taking, all_at}

pub all_at-nil : (moment : ℕ) → all_at moment [] ≡ []
unfolding all_at
all_at-nil moment = refl

pub all_at-append : (moment : ℕ) (xs ys : List Bool)
    → all_at moment (xs ++ ys) ≡ all_at moment xs ++ all_at moment ys
unfolding all_at
all_at-append moment xs ys = map-append (λ bit. moment) xs ys

-- the moments at elements after others
moments_both : (moments : List ℕ) (m now : ℕ) (xs ys : List Bool) → now ≡ m
    → (moments ++ all_at m xs) ++ all_at now ys ≡ moments ++ all_at m (xs ++ ys)
moments_both moments m now xs ys same =
    append_assoc moments (all_at m xs) (all_at now ys)
    ∙ ap (λ k. moments ++ (all_at m xs ++ all_at k ys)) same
    ∙ ap (λ l. moments ++ l) (sym (all_at-append m xs ys))

-- bytes after others
grown_both : (first between last xs ys : List ℕ) → between ≡ first ++ xs → last ≡ between ++ ys
    → last ≡ first ++ (xs ++ ys)
grown_both first between last xs ys one two =
    two ∙ ap (λ l. l ++ ys) one ∙ append_assoc first xs ys

-- what a taker shows of these bits, written otherwise
shows_same : (taker : Taking) (bits bits' : List Bool) (moments moments' given given' : List ℕ)
    → bits ≡ bits' → moments ≡ moments' → given ≡ given' → TakerShows taker bits moments given
    → TakerShows taker bits' moments' given'
shows_same taker bits bits' moments moments' given given' b m g shows =
    subst (TakerShows taker bits' moments') g
    (subst₂ (λ (x : List Bool) (y : List ℕ). TakerShows taker x y given) b m shows)

-- what is shown is the same where nothing comes
pub nothing_heard : (reader : Reading) (began copies : ℕ) (bits : List Bool) (moments : List ℕ)
    (m : ℕ) (given : List ℕ) → Shows reader began copies bits moments given
    → Shows reader began copies (bits ++ []) (moments ++ all_at m []) given
nothing_heard reader began copies bits moments m given s =
    subst₂ (λ (x : List Bool) (y : List ℕ). Shows reader began copies x y given)
    (sym (append-nil bits)) (sym (ap (λ l. moments ++ l) (all_at-nil m) ∙ append-nil moments)) s

pub hears_none : (held : Held) (taker : Taking) → Hears held taker [] held taker
hears_none held taker = record {
  stands = λ bits s. subst (StandsAfter held) (sym (append-nil bits)) s;
  shows = λ bits moments given s w few. record {
    more = [];
    grown = sym (append-nil taker.shown);
    shows = subst (TakerShows taker (bits ++ []) (moments ++ all_at taker.moment []))
        (sym (append-nil given)) (record {
          elements = w.elements ∙ ap length (sym (append-nil bits));
          room = omega (arith, w.room, ap length (append-nil bits));
          shows = nothing_heard taker.reader taker.locks taker.copies bits moments taker.moment
              given w.shows;
        });
  };
  moment = refl;
  few = omega arith;
}

pub hears_both : (old mid new : Held) (first between last : Taking) (xs ys : List Bool)
    → Hears old first xs mid between → Hears mid between ys new last
    → Hears old first (xs ++ ys) new last
hears_both old mid new first between last xs ys one rest = record {
  stands = λ bits s. subst (StandsAfter new) (append_assoc bits xs ys)
      (rest.stands (bits ++ xs) (one.stands bits s));
  shows = λ bits moments given s w few.
      let sizes = length-append xs ys in
      let f = one.shows bits moments given s w (omega (arith, few, sizes)) in
      let g = rest.shows (bits ++ xs) (moments ++ all_at first.moment xs) (given ++ f.more)
      (one.stands bits s) f.shows (omega (arith, few, sizes, length-append bits xs)) in
      record {
        more = f.more ++ g.more;
        grown = grown_both first.shown between.shown last.shown f.more g.more f.grown g.grown;
        shows = shows_same last ((bits ++ xs) ++ ys) (bits ++ (xs ++ ys))
            ((moments ++ all_at first.moment xs) ++ all_at between.moment ys)
            (moments ++ all_at first.moment (xs ++ ys)) ((given ++ f.more) ++ g.more)
            (given ++ (f.more ++ g.more)) (append_assoc bits xs ys)
            (moments_both moments first.moment between.moment xs ys one.moment)
            (append_assoc given f.more g.more) g.shows;
      };
  moment = rest.moment ∙ one.moment;
  few = omega (arith, one.few, rest.few, length-append xs ys);
}

-- where elements and more have room, the more have room behind them
pub room_behind : (old new : Held) (before after : Taking) (bits : List Bool) (count more : ℕ)
    → Hears old before bits new after → length bits + more ≤ count → HasRoom before count
    → HasRoom after more
room_behind old new before after bits count more hears within room =
    omega (arith, hears.few, within, room)
