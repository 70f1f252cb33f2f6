-- Lists of copies with their channels, told by the copies of each channel.
use Rattle.std.proofs.Common.{◌≡◌, ◌⊎◌, inl, inr, Bool, true, false, List, [], ◌∷◌, ◌++◌, map}
use Rattle.std.proofs.Common.{length, refl, sym, ap, ap₂, ◌∙◌, subst, append-nil, arith}
use Rattle.std.proofs.Common.{length-append}
use Rattle.std.specs.List.{All}
use Rattle.std.proofs.lemmas.List.{append_cancel_left, nil_from_length}
use Rattle.std.proofs.lemmas.List.Elements.{All-nil, All-cons, All-head, All-tail, All-same}
use Rattle.nx_fec.specs.air_files.Channels.{same_channel}
use Rattle.nx_fec.specs.declared.air_files.channel.Channel.{Channel}
use Rattle.nx_copies.specs.copies.FoundCopies.{TaggedCopy}
use Rattle.nx_copies.specs.copies.Shares.{MarkedCopy, copies_on, marked}
use Rattle.nx_copies.proofs.lemmas.channels.Shares.{copies_on-append, copies_on-marked, same_channel-is}
use Rattle.nx_copies.proofs.lemmas.locks.Texts.{GoesOnAs}

-- a copy stands first among those of its channel
on-own : (one : MarkedCopy) (copies : List MarkedCopy)
    → copies_on one.channel (one ∷ copies) ≡ one.copy ∷ copies_on one.channel copies
on-own one copies =
    copies_on-append one.channel (one ∷ []) copies
    ∙ ap (λ those. those ++ copies_on one.channel copies)
    (copies_on-marked one.channel (one.copy ∷ []))

-- what has no copy on any channel is empty
pub none-on : (copies : List MarkedCopy) → ((channel : Channel) → copies_on channel copies ≡ [])
    → copies ≡ []
none-on [] h = refl
none-on (one ∷ copies) h =
    let some : one.copy ∷ copies_on one.channel copies ≡ [] =
    sym (on-own one copies) ∙ h one.channel in
    cc

of-next : (channel : Channel) (one : MarkedCopy) (copies : List MarkedCopy)
    → copies ≡ map (marked channel) (copies_on channel copies)
    → (same_channel channel one.channel ≡ false → copies_on one.channel (one ∷ copies) ≡ [])
    → (b : Bool) → same_channel channel one.channel ≡ b
    → one ∷ copies ≡ map (marked channel) (copies_on channel (one ∷ copies))
of-next channel one copies more own true e =
    let is : channel ≡ one.channel = same_channel-is channel one.channel e in
    let first : copies_on channel (one ∷ copies) ≡ one.copy ∷ copies_on channel copies =
    subst (λ other. copies_on other (one ∷ copies) ≡ one.copy ∷ copies_on other copies) (sym is)
    (on-own one copies) in
    ap₂ (λ x xs. x ∷ xs) (ap (λ other. marked other one.copy) (sym is)) more
    ∙ sym (ap (map (marked channel)) first)
of-next channel one copies more own false e =
    let some : one.copy ∷ copies_on one.channel copies ≡ [] =
    sym (on-own one copies) ∙ own e in
    cc

back-none : {A : Type 0} (front back : List A) → front ++ back ≡ [] → back ≡ []
back-none [] back e = e
back-none (x ∷ front) back e = cc

-- what has copies on one channel alone is those copies, marked
pub of-one : (channel : Channel) (copies : List MarkedCopy)
    → ((other : Channel) → same_channel channel other ≡ false → copies_on other copies ≡ [])
    → copies ≡ map (marked channel) (copies_on channel copies)
of-one channel [] h = refl
of-one channel (one ∷ copies) h =
    let more = of-one channel copies (λ other e. back-none (copies_on other (one ∷ [])) _
    (sym (copies_on-append other (one ∷ []) copies) ∙ h other e)) in
    of-next channel one copies more (h one.channel) (same_channel channel one.channel) refl

back-all : (P : TaggedCopy → Type 0) (front back : List TaggedCopy) → All P (front ++ back)
    → All P back
back-all P [] back h = h
back-all P (x ∷ front) back h = back-all P front back (All-tail P x (front ++ back) h)

-- what holds of the copies of each channel holds of all copies
pub all-on : (P : TaggedCopy → Type 0) (copies : List MarkedCopy)
    → ((channel : Channel) → All P (copies_on channel copies))
    → All (λ (one : MarkedCopy). P one.copy) copies
all-on P [] h = All-nil (λ (one : MarkedCopy). P one.copy)
all-on P (one ∷ copies) h =
    All-cons (λ (other : MarkedCopy). P other.copy) one copies
    (All-head P one.copy (copies_on one.channel copies)
    (All-same P _ _ (sym (on-own one copies)) (h one.channel)))
    (all-on P copies (λ channel. back-all P (copies_on channel (one ∷ []))
    (copies_on channel copies)
    (All-same P _ _ (sym (copies_on-append channel (one ∷ []) copies)) (h channel))))

-- of two beginnings of a list one goes on as the other
one-begins : {A : Type 0} (front more other rest : List A) → front ++ more ≡ other ++ rest
    → GoesOnAs front other ⊎ GoesOnAs other front
one-begins [] more other rest e = inl (record { rest = other; whole = refl })
one-begins (x ∷ front) more [] rest e = inr (record { rest = x ∷ front; whole = refl })
one-begins (x ∷ front) more (y ∷ other) rest e =
    let head : x ≡ y = cc in
    let tail : front ++ more ≡ other ++ rest = cc in
    elim (one-begins front more other rest tail) [
      | inl on ↦ inl (record
          { rest = on.rest; whole = ap₂ (λ a as'. a ∷ as') (sym head) on.whole })
      | inr on ↦ inr (record { rest = on.rest; whole = ap₂ (λ a as'. a ∷ as') head on.whole })
    ]

both-ways : {A : Type 0} (one other more rest : List A) → one ≡ other ++ more
    → other ≡ one ++ rest → more ≡ []
both-ways one other more rest e f =
    nil_from_length more (omega (
      arith,
      ap length e,
      ap length f,
      length-append other more,
      length-append one rest,
    ))

-- Of two beginnings of a list one goes on as the other, where it does so on each channel.
pub goes-on-each : (front more other rest : List MarkedCopy) → front ++ more ≡ other ++ rest
    → ((channel : Channel) → GoesOnAs (copies_on channel front) (copies_on channel other))
    → GoesOnAs front other
goes-on-each front more other rest e h =
    elim (one-begins front more other rest e) [
      | inl on ↦ on
      | inr on ↦
          let none : on.rest ≡ [] =
          none-on on.rest (λ channel. both-ways (copies_on channel front) (copies_on channel other)
          (copies_on channel on.rest) (h channel).rest
          (ap (copies_on channel) on.whole ∙ copies_on-append channel other on.rest)
          (h channel).whole) in
          record {
            rest = [];
            whole = sym (append-nil other) ∙ ap (λ l. other ++ l) (sym none) ∙ sym on.whole
                ∙ sym (append-nil front);
          }
    ]

-- and they are one where they are alike on each channel
pub one-each : (front more other rest : List MarkedCopy) → front ++ more ≡ other ++ rest
    → ((channel : Channel) → copies_on channel front ≡ copies_on channel other)
    → front ≡ other
one-each front more other rest e h =
    let on = goes-on-each front more other rest e
    (λ channel. record
    { rest = []; whole = sym (h channel) ∙ sym (append-nil (copies_on channel front)) }) in
    let none : on.rest ≡ [] =
    none-on on.rest (λ channel. append_cancel_left (copies_on channel front) _ []
    (sym (copies_on-append channel front on.rest) ∙ sym (ap (copies_on channel) on.whole)
    ∙ sym (h channel) ∙ sym (append-nil (copies_on channel front)))) in
    sym (append-nil front) ∙ ap (λ l. front ++ l) (sym none) ∙ sym on.whole
