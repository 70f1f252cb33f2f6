-- What is shown of elements that a synchroniser heard for its taker, and of their end.
use Rattle.std.proofs.Common.{◌≡◌, ℕ, ◌-◌, Bool, true, false, List, [], ◌++◌, length, take}
use Rattle.std.proofs.Common.{refl, sym, ap, ◌∙◌, subst, arith}
use Rattle.std.specs.Prelude.{◌↔◌, IsTrue}
use Rattle.nx_code.specs.Packed.{elements_of_numbers, packed_part}
use Rattle.nx_sync.specs.Steps.{LockStands}
use Rattle.nx_sync.specs.Synchroniser.{Held, StandsAfter}
use Rattle.nx_sync.specs.declared.step.Change.TheVariants.{Locked}
use Rattle.nx_copies.proofs.lemmas.copy_hearer.Packed.{all_is}
use Rattle.nx_locks.specs.ReportText.{last_line}
use Rattle.nx_locks.specs.private.Taker.{Closes, Hears, TakerShows, Taking, all_at}
use Rattle.nx_locks.specs.private.Showing.{EndsShown, HearsAll, Showing}
use Rattle.nx_locks.proofs.lemmas.Ends.{ended_hunting, ended_locked}

abbrev showing : Held → Taking → Bool → Showing
showing held taker has_moment =
    record { synchroniser = held; taker = taker; has_moment = has_moment }

-- elements that are packed in these numbers
pub all_packed : (bits : List Bool) (numbers : List ℕ) (count : ℕ)
    → bits ≡ take (length bits) (elements_of_numbers numbers) → count ≡ length bits
    → packed_part numbers 0 count ≡ bits
all_packed bits numbers count is counted =
    let many : count ≡ length bits - 0 = omega (arith, counted) in
    ap (packed_part numbers 0) many ∙ all_is bits numbers 0 is (omega arith)

-- what a synchroniser hears for its taker is shown, where nothing was shown before
pub hears_all : (before after : Held) (old new : Taking) (has_moment : Bool)
    (heard bits : List Bool) → old.shown ≡ [] → heard ≡ bits → Hears before old heard after new
    → HearsAll (showing before old has_moment) (showing after new has_moment) bits
hears_all before after old new has_moment heard bits empty all h =
    let hears : Hears before old bits after new =
    subst (λ xs. Hears before old xs after new) all h in
    record {
      moment = hears.moment;
      has_moment = refl;
      hears = λ bits' moments given w few.
          let goes = hears.shows bits' moments given w.synchroniser w.taker few in
          record {
            synchroniser = hears.stands bits' w.synchroniser;
            taker = subst (λ l. TakerShows new (bits' ++ bits)
                (moments ++ all_at old.moment bits) (given ++ l))
                (sym (goes.grown ∙ ap (λ l. l ++ goes.more) empty)) goes.shows;
          };
    }

-- the report is ended, whether a lock stands or not, once the taker was cleared
pub ends_shown : (held after : Held) (old cleared closed new : Taking) (has_moment : Bool)
    (counts : ℕ × ℕ) (is_locked : Bool) → cleared ≡ record old { shown = [] }
    → ((bits : List Bool) → StandsAfter held bits → IsTrue is_locked ↔ LockStands bits)
    → (is_locked ≡ true → Closes cleared closed Locked) → (is_locked ≡ false → closed ≡ cleared)
    → new.shown ≡ closed.shown ++ last_line closed.elements closed.locks closed.copies
    → counts ≡ (closed.locks, closed.copies)
    → EndsShown (showing held old has_moment) (showing after new has_moment) counts
ends_shown held after old cleared closed new has_moment counts true clear stands locked hunts ends
    counted = λ bits moments given w.
    ended_locked (record old { shown = [] }) closed bits moments given new.shown counts
    (record { elements = w.taker.elements; room = w.taker.room; shows = w.taker.shows })
    ((stands bits w.synchroniser).0 refl) refl
    (subst (λ t. Closes t closed Locked) clear (locked refl)) ends counted
ends_shown held after old cleared closed new has_moment counts false clear stands locked hunts ends
    counted = λ bits moments given w.
    let same : closed ≡ record old { shown = [] } = hunts refl ∙ clear in
    ended_hunting (record old { shown = [] }) bits moments given new.shown counts
    (record { elements = w.taker.elements; room = w.taker.room; shows = w.taker.shows })
    (λ l. let both : false ≡ true = (stands bits w.synchroniser).1 l in cc)
    (ends ∙ ap (λ (t : Taking). t.shown ++ last_line t.elements t.locks t.copies) same)
    (counted ∙ ap (λ (t : Taking). (t.locks, t.copies)) same)
