-- Which entries make an identity known.
use Rattle.std.proofs.Common.{◌≡◌, ℕ, ◌+◌, ◌-◌, ◌<◌, Bool, true, false, ◌||◌, List, [], ◌∷◌, ◌++◌}
use Rattle.std.proofs.Common.{length, take, drop, ltb, refl, sym, ap, ◌∙◌, subst, arith}
use Rattle.std.specs.List.{list_any}
use Rattle.std.proofs.lemmas.Bool.{and_parts, and_from, or_left, or_right, ltb-true, lt-ltb}
use Rattle.std.proofs.lemmas.List.{take-append-drop, drop-append-le, length-drop, length-append}
use Rattle.std.proofs.lemmas.List.{append_assoc}
use Rattle.std.proofs.lemmas.List.Folds.{list_any-append}
use Rattle.nx_code.specs.Lists.{last_of}
use Rattle.nx_envelope.specs.declared.identity.Identity.{Identity}
use Rattle.nx_envelope.specs.Identity.{same_identity}
use Rattle.nx_envelope.proofs.lemmas.headers.Identities.{same_identity-true, same_itself}
use Rattle.nx_memory.specs.declared.memories.entry.MemoryEntry.{MemoryEntry}
use Rattle.nx_memory.specs.Memory.{IsLive, most_entries, seconds_known, is_recent, is_known}

-- an element that passes, with what stands before and after it
record Found {A : Type 0} (p : A → Bool) (xs : List A) : Type 0 where
  before : List A
  it : A
  after : List A
  whole : xs ≡ before ++ it ∷ after
  passes : p it ≡ true

found : {A : Type 0} (p : A → Bool) (xs : List A) → list_any p xs ≡ true → Found p xs
found p [] e = cc
found p (x ∷ xs) e =
    elim (p x) as (λ b. p x ≡ b → (b || list_any p xs) ≡ true → Found p (x ∷ xs)) [
      | true ↦ λ passes _. record { before = []; it = x; after = xs; whole = refl; passes = passes }
      | false ↦ λ _ others. let rest = found p xs others in
          record {
            before = x ∷ rest.before;
            it = rest.it;
            after = rest.after;
            whole =
                ap (λ ys. x ∷ ys) rest.whole;
            passes = rest.passes;
          }
    ] refl e

any_from : {A : Type 0} (p : A → Bool) (before after : List A) (x : A) → p x ≡ true
    → list_any p (before ++ x ∷ after) ≡ true
any_from p before after x passes =
    list_any-append p before (x ∷ after)
    ∙ or_right (list_any p before) (p x || list_any p after)
    (or_left (p x) (list_any p after) passes)

-- of all the entries made so far, one among the last 200 that makes the identity known is live
pub live_from_known : (identity : Identity) (moment : ℕ) (entries : List MemoryEntry)
    → is_known identity moment (last_of most_entries entries) ≡ true
    → IsLive identity moment entries
live_from_known identity moment entries known =
    let it = found (is_recent identity moment) (last_of most_entries entries) known in
    let n : ℕ = length entries - most_entries in
    let lengths : length (drop n entries) ≡ length it.before + (1 + length it.after) =
    ap length it.whole ∙ length-append it.before (it.it ∷ it.after) ∙ omega arith in
    let parts = and_parts _ _ it.passes in
    let age : moment - it.it.moment < seconds_known = ltb-true _ _ parts.1 in
    record {
      before = take n entries ++ it.before;
      entry = it.it;
      after = it.after;
      made =
          sym (take-append-drop n entries)
          ∙ ap (λ ys. take n entries ++ ys) it.whole
          ∙ sym (append_assoc (take n entries) it.before (it.it ∷ it.after));
      same = same_identity-true it.it.identity identity parts.0;
      recent = omega arith;
      few_after = omega (arith, length-drop n entries);
    }

-- a live entry is among the last 200, and makes the identity known
pub known_from_live : (identity : Identity) (moment : ℕ) (entries : List MemoryEntry)
    → IsLive identity moment entries
    → is_known identity moment (last_of most_entries entries) ≡ true
known_from_live identity moment entries live =
    let n : ℕ = length entries - most_entries in
    let lengths : length entries ≡ length live.before + (1 + length live.after) =
    ap length live.made ∙ length-append live.before (live.entry ∷ live.after) ∙ omega arith in
    let kept : drop n entries ≡ drop n live.before ++ live.entry ∷ live.after =
    ap (drop n) live.made ∙ drop-append-le n live.before (live.entry ∷ live.after)
    (omega arith) in
    let same : same_identity live.entry.identity identity ≡ true =
    subst (λ (it : Identity). same_identity it identity ≡ true) (sym live.same)
    (same_itself identity) in
    let recent : ltb (moment - live.entry.moment) seconds_known ≡ true =
    lt-ltb (moment - live.entry.moment) seconds_known (omega arith) in
    ap (list_any (is_recent identity moment)) kept
    ∙ any_from (is_recent identity moment) (drop n live.before) live.after live.entry
    (and_from _ _ same recent)
