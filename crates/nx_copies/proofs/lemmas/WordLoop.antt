-- Packed elements that are heard part by part, for whatever taker.
use Rattle.std.proofs.Common.{◌≡◌, ℕ, ◌+◌, ◌-◌, ◌*◌, ◌<◌, ◌≤◌, Bool, List, [], ◌++◌, length, Option}
use Rattle.std.proofs.Common.{None, sym, subst, arith}
use Rattle.nx_code.specs.Packed.{packed_elements, packed_part}
use Rattle.nx_sync.proofs.lemmas.hunting.PackedParts.{length-part, more_parts}
use Rattle.nx_sync.specs.Ahead.{BringsStep}
use Rattle.nx_sync.specs.Synchroniser.{Held}
use Rattle.nx_sync.specs.declared.step.Step.{Step}
use Rattle.nx_copies.specs.WordLoop.{HearsPart}

module _ {T O : Type 0} (hearing : Held → T → List Bool → Held → T → Option O → Type 0) where
  -- a part behind those that were heard, with which nothing was over
  pub part_behind : ((old mid new : Held) (first between last : T) (xs ys : List Bool)
      (over : Option O) → hearing old first xs mid between None
      → hearing mid between ys new last over → hearing old first (xs ++ ys) new last over)
      → (old mid new : Held) (first between last : T) (numbers : List ℕ) (from count at : ℕ)
      (heard : ℕ × Option O) → at < count
      → hearing old first (packed_part numbers from at) mid between None
      → HearsPart hearing mid between numbers (from + at) (count - at) new last heard
      → HearsPart hearing old first numbers from count new last (at + heard.0, heard.1)
  part_behind both old mid new first between last numbers from count at heard left so_far part =
      record {
        within = omega (arith, part.within, left);
        some = λ _. omega (arith, part.some (omega arith));
        hears = subst (λ bits. hearing old first bits new last heard.1)
            (sym (more_parts numbers from at heard.0))
            (both old mid new first between last (packed_part numbers from at)
            (packed_part numbers (from + at) heard.0) heard.1 so_far part.hears);
      }

  -- a taker takes the step that a part brings
  pub part_taken : (old new : Held) (before after : T) (numbers : List ℕ) (from count : ℕ)
      (heard : ℕ × Step) (over : Option O) → from + count ≤ packed_elements * length numbers
      → heard.0 ≤ count → 0 < heard.0
      → ((held next : Held) (bits : List Bool) → length bits ≡ heard.0
      → BringsStep held next bits heard.1 → hearing held before bits next after over)
      → BringsStep old new (packed_part numbers from heard.0) heard.1
      → HearsPart hearing old before numbers from count new after (heard.0, over)
  part_taken old new before after numbers from count heard over room within some takes brings =
      record {
        within = within;
        some = λ _. some;
        hears = takes old new (packed_part numbers from heard.0)
            (length-part numbers from heard.0 (omega (arith, within, room))) brings;
      }

  module _ (has_room : T → ℕ → Type 0)
      (room : (old new : Held) (before after : T) (bits : List Bool) (over : Option O)
      (count more : ℕ) → hearing old before bits new after over → length bits + more ≤ count
      → has_room before count → has_room after more) where
    -- the elements behind a part have room
    pub room_behind : (old new : Held) (before after : T) (numbers : List ℕ) (from count at : ℕ)
        → from + count ≤ packed_elements * length numbers → at ≤ count
        → hearing old before (packed_part numbers from at) new after None
        → has_room before count → has_room after (count - at)
    room_behind old new before after numbers from count at fits within hears has =
        room old new before after (packed_part numbers from at) None count (count - at) hears
        (omega (arith, within, length-part numbers from at (omega (arith, within, fits)))) has

    -- fewer elements have room too
    pub room_for_fewer : ((held : Held) (taker : T) → hearing held taker [] held taker None)
        → (held : Held) (taker : T) (count fewer : ℕ) → fewer ≤ count → has_room taker count
        → has_room taker fewer
    room_for_fewer none held taker count fewer within has =
        room held held taker taker [] None count fewer (none held taker) (omega (arith, within)) has
