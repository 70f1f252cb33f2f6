-- Words of a lock that are heard at once, where none of them brings a change.
use Rattle.std.proofs.Common.{◌≡◌, ℕ, ◌+◌, ◌-◌, ◌*◌, ◌^◌, ◌<◌, ◌≤◌, Bool, List, ◌++◌}
use Rattle.std.proofs.Common.{length, refl, sym, subst, arith}
use Rattle.std.proofs.Common.{length-append}
use Rattle.std.specs.Prelude.{min}
use Rattle.std.specs.List.{flat_map}
use Rattle.std.proofs.lemmas.List.{length-map}
use Rattle.nx_code.specs.Word.{elements}
use Rattle.nx_sync.specs.Locks.{locked, IsNow}
use Rattle.nx_sync.specs.Synchroniser.{Held}
use Rattle.nx_sync.specs.Ahead.{BringsWords}
use Rattle.nx_sync.specs.Words.{first_role, word_of_lock}
use Rattle.nx_sync.specs.declared.step.Role.TheVariants.{Dx}
use Rattle.nx_sync.proofs.lemmas.words.LastSteps.{length-of_words}
use Rattle.nx_sync.proofs.lemmas.states.UniqueStates.{locks-unique, now-unique}
use Rattle.nx_locks.specs.private.Reader.{Reading}
use Rattle.nx_locks.specs.private.Reader.{ShowsWords}
use Rattle.nx_copies.proofs.lemmas.locks.StillStands.{still_words}
use Rattle.nx_locks.specs.private.Taker.{Hears, Taking, all_at}
use Rattle.nx_locks.proofs.lemmas.Bits.{words_on}

length-all_at : (moment : ℕ) (bits : List Bool) → length (all_at moment bits) ≡ length bits
unfolding all_at
length-all_at moment bits = length-map bits (λ bit. moment)

-- words of a lock were taken, and what they print was shown
pub words_taken : (old : Taking) (before after : Held) (count : ℕ) (reader : Reading)
    (heard shown : List ℕ) → 0 < length heard → BringsWords before after heard
    → count ≡ min (old.elements + 7 * length heard) (2 ^ 64 - 1)
    → ShowsWords old.reader reader Dx heard old.shown shown
    → length shown ≤ length old.shown + 8
    → Hears before old (flat_map elements heard) after
    (record old { reader = reader; elements = count; shown = shown })
words_taken old before after count reader heard shown some brings counted shows short = record {
  stands = brings.stands;
  moment = refl;
  few = omega (arith, short, some, length-of_words heard);
  shows = λ bits moments given stands w few.
      let s = w.shows in
      let xs = flat_map elements heard in
      let size = length-of_words heard in
      let long : length (bits ++ xs) ≡ length bits + length xs = length-append bits xs in
      let limit = brings.limit bits stands in
      let now : locked limit.p limit.t ≡ s.now =
      now-unique bits limit.locks s.locks (locked limit.p limit.t) s.now limit.stands s.stands
      in
      let locks : limit.locks ≡ s.locks =
      locks-unique bits limit.locks s.locks (locked limit.p limit.t) s.now limit.stands s.stands
      in
      let p = limit.p in
      let t = limit.t in
      let n = limit.whole in
      let kept = still_words heard bits Dx s.locks p t n
      (subst (λ l. IsNow bits l (locked p t)) locks limit.stands) limit.limit
      (brings.quiet bits stands) in
      let moments' = all_at old.moment xs in
      let on = words_on bits xs moments moments' (length-all_at old.moment xs) old.reader reader
      old.locks old.copies given shows.printed p t n (length heard) s (sym now)
      limit.stands.found.here (omega (arith, limit.limit))
      (omega (arith, limit.limit, long, size)) (omega (arith, size)) kept.stands
      (λ reads. shows.hears.hears (first_role (bits ++ xs) t) (word_of_lock (bits ++ xs) t) n
      reads kept.are (sym (kept.role some)) (omega (arith, few, size, limit.limit)))
      shows.hears.few in
      record {
        more = shows.printed;
        grown = shows.spelled;
        shows = record {
          elements = omega (arith, counted, w.elements, few, size, long);
          room = omega (arith, few, long);
          shows = on;
        };
      };
}
