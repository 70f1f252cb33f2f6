-- What a read finds is among what a crash may leave.
use Rattle.std.proofs.Common.{◌≡◌, inl, inr, ℕ, zero, suc, ◌+◌, ◌≤◌, Bool, true, false, List, [], ◌∷◌, ◌++◌, length, take, drop, refl, sym, ◌∙◌, ap, subst, arith, append_assoc, length-append, length-take, length-drop}
use Rattle.std.proofs.lemmas.List.{take_at, take_all, drop_at}
use Rattle.nx_kept.specs.Disk.{Torn, Cut, Follows}
use Rattle.nx_disk.specs.Events.{DiskEvent, seen_after, seen_of, LeftAfter, MayLeave}
use Rattle.nx_disk.specs.declared.history.DiskCall.{DiskCall}
use Rattle.nx_disk.specs.declared.history.DiskCall.TheVariants as call

-- a whole write is one that a crash may leave
torn_whole : (at : ℕ) (bytes old : List ℕ) → at ≤ length old
    → Torn at (length bytes) old (take at old ++ bytes ++ drop (at + length bytes) old)
torn_whole at bytes old within =
    let size : length (take at old) ≡ at = omega (arith, length-take at old) in
    let both : length (take at old ++ bytes) ≡ at + length bytes =
    omega (arith, size, length-append (take at old) bytes) in
    let whole = length-append (take at old ++ bytes) (drop (at + length bytes) old) in
    let behind = length-drop (at + length bytes) old in
    record {
      before = ap (λ (l : List ℕ). take at l)
          (append_assoc (take at old) bytes (drop (at + length bytes) old))
          ∙ take_at (take at old) (bytes ++ drop (at + length bytes) old) at size;
      after = drop_at (take at old ++ bytes) (drop (at + length bytes) old) (at + length bytes)
          both;
      no_shorter = omega (arith, both, whole, behind);
      no_longer = omega (arith, both, whole, behind);
    }

torn_none : (at n : ℕ) (old : List ℕ) → Torn at n old old
torn_none at n old = record {
  before = refl;
  after = refl;
  no_shorter = omega arith;
  no_longer = omega arith;
}

cut_whole : (size : ℕ) (old : List ℕ) → Cut size old (take size old)
cut_whole size old = record {
  no_shorter = omega (arith, length-take size old);
  front = cut_again size old;
}
  where
    cut_again : (n : ℕ) (l : List ℕ) → take (length (take n l)) l ≡ take n l
    cut_again zero l = refl
    cut_again (suc n) [] = refl
    cut_again (suc n) (x ∷ l) = ap (λ (r : List ℕ). x ∷ r) (cut_again n l)

cut_none : (size : ℕ) (old : List ℕ) → Cut size old old
cut_none size old =
    record { no_shorter = omega arith; front = take_all (length old) old (omega arith) }

left_after : (made : DiskCall) (succeeded : Bool) (bytes seen : List ℕ) (left : List ℕ → Type 0)
    → left seen
    → LeftAfter made succeeded bytes seen left (seen_after made succeeded bytes seen)
left_after (call.Read at room) succeeded bytes seen left is = is
left_after (call.Written at) true bytes seen left is = inr refl
left_after (call.Written at) false bytes seen left is = inr refl
left_after (call.Cut size) true bytes seen left is = (seen, is, cut_whole size seen)
left_after (call.Cut size) false bytes seen left is = (seen, is, cut_none size seen)
left_after call.Synced true bytes seen left is = refl
left_after call.Synced false bytes seen left is = is

pub seen_is_left : (start : List ℕ) (first : List (List ℕ)) (events : List DiskEvent)
    → MayLeave start first events (seen_of start events)
seen_is_left start first [] = inl refl
seen_is_left start first (event ∷ earlier) =
    left_after event.call event.has_succeeded event.bytes (seen_of start earlier)
    (MayLeave start first earlier) (seen_is_left start first earlier)

-- each outcome of a write, whole or torn
pub write_follows : (start : List ℕ) (first : List (List ℕ)) (events : List DiskEvent) (at : ℕ)
    (succeeded : Bool) (bytes : List ℕ)
    → at ≤ length (seen_of start events)
    → Follows (Torn at (length bytes)) (MayLeave start first events)
    (LeftAfter (call.Written at) succeeded bytes (seen_of start events)
    (MayLeave start first events))
write_follows start first events at succeeded bytes within c (inl torn) = torn
write_follows start first events at true bytes within c (inr is) = (
  seen_of start events,
  seen_is_left start first events,
  subst (Torn at (length bytes) (seen_of start events)) (sym is)
      (torn_whole at bytes (seen_of start events) within),
)
write_follows start first events at false bytes within c (inr is) = (
  seen_of start events,
  seen_is_left start first events,
  subst (Torn at (length bytes) (seen_of start events)) (sym is)
      (torn_none at (length bytes) (seen_of start events)),
)

pub sync_follows : (start : List ℕ) (first : List (List ℕ)) (events : List DiskEvent) (c : List ℕ)
    → c
    ≡ seen_of start events
    → MayLeave start first events c
sync_follows start first events c is = subst (MayLeave start first events) (sym is)
    (seen_is_left start first events)
