-- The lines of a message, one after another.
use Rattle.std.proofs.Common.{◌≡◌, ℕ, ◌+◌, ◌<◌, List, [], ◌∷◌, ◌++◌, map, get_or, length, take}
use Rattle.std.proofs.Common.{arith, length-append}
use Rattle.std.specs.Prelude.{All}
use Rattle.std.proofs.lemmas.List.{map_push, map_more, take-map, take_more, flat_map_more}
use Rattle.nx_envelope.specs.Message.{IsMessageLine, IsLineFault, IsMessageFault, text_of}
use Rattle.nx_envelope.specs.declared.message.MessageFault.{MessageFault}
use Rattle.nx_envelope.specs.declared.message.MessageFault.TheVariants.{LongLine, BadCharacter}
use Rattle.nx_envelope.specs.declared.message.MessageFault.TheVariants.{Reserved, LongText, Memory}

-- one more item of two lists that are alike under what they show
pub map_more_alike : {V W : Type 0} (f : V → List ℕ) (g : W → List ℕ) (kept : List V)
    (lines : List W) (i : ℕ) (d : W) (x : V) → i < length lines → map f kept ≡ take i (map g lines)
    → f x ≡ g (get_or lines i d) → map f (kept ++ x ∷ []) ≡ take (i + 1) (map g lines)
map_more_alike f g kept lines i d x lt same new =
    let pushed = map_push f kept x in
    let more = map_more g lines i d lt in
    let here = take-map g i lines in
    let there = take-map g (i + 1) lines in
    cc

-- the text of one more line
pub text_more : (lines : List (List ℕ)) (i : ℕ) → i < length lines
    → length (text_of (take (i + 1) lines))
    ≡ length (text_of (take i lines)) + (length (get_or lines i []) + 1)
text_more lines i lt =
    let next = take_more lines i [] lt in
    let joined = flat_map_more (λ (line : List ℕ). line ++ 10 ∷ []) [] (take i lines)
    (get_or lines i []) in
    rw (next, ← joined) (omega (arith, length-append {A = ℕ}))

-- the fault of a line before which all are good is the fault of the lines
pub first_fault : (lines : List (List ℕ)) (i n : ℕ) (fault : MessageFault) → n ≡ i
    → i < length lines → All IsMessageLine (take i lines)
    → IsLineFault (n + 1) (get_or lines i []) fault → IsMessageFault lines fault
first_fault lines i n (LongLine m) e lt good h =
    record { at = i; within = lt; good_before = good; here = rw e at h }
first_fault lines i n (BadCharacter m at) e lt good h =
    record { at = i; within = lt; good_before = good; here = rw e at h }
first_fault lines i n (Reserved m) e lt good h =
    record { at = i; within = lt; good_before = good; here = rw e at h }
first_fault lines i n LongText e lt good h = absurd h
first_fault lines i n (Memory f) e lt good h = absurd h
