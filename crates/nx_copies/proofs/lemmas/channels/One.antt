-- What is given has one log in turn, and more that is given adds to its end.
use Rattle.std.proofs.Common.{◌≡◌, List, [], ◌∷◌, ◌++◌, map, refl, sym, ap, ap₂, ◌∙◌, subst}
use Rattle.std.proofs.Common.{append-nil, append_assoc}
use Rattle.std.specs.List.{flat_map}
use Rattle.std.proofs.lemmas.List.{append_cancel_left}
use Rattle.nx_fec.specs.declared.air_files.channel.Channel.{Channel}
use Rattle.nx_fec.specs.declared.air_files.channel.Channel.TheVariants.{Zero, One, Two}
use Rattle.nx_copies.specs.copies.InTurn.{HavePrintedBy, PrintAllToEnd, PrintAllToEndBy}
use Rattle.nx_copies.specs.copies.InTurn.{PrintsInTurn, PrintsInTurnBy}
use Rattle.nx_copies.specs.copies.Log.{IsPrinting, Printing, plain}
use Rattle.nx_copies.specs.copies.Shares.{Given, MarkedCopy, Starts, copies_on, marked, share, start_on}
use Rattle.nx_copies.proofs.lemmas.locks.Texts.{GoesOnAs}
use Rattle.nx_copies.proofs.lemmas.printing.Laws.{plain-laws}
use Rattle.nx_copies.proofs.lemmas.channels.Added.{adds-same, grown, nothing-given_by}
use Rattle.nx_copies.proofs.lemmas.channels.Marked.{goes-on-each, one-each}
use Rattle.nx_copies.proofs.lemmas.channels.Shares.{BeginsInTurn, PrintsFirst, all_channels, begins-in_turn}

module _ (printing : Printing) (laws : IsPrinting printing) where
  -- of two beginnings that are printed of the same, one is the other
  one-first : (starts : Starts) (given same : List Given) (front more other rest : List MarkedCopy)
      → given ≡ same → front ++ more ≡ other ++ rest → HavePrintedBy printing starts given front
      → HavePrintedBy printing starts same other → front ≡ other
  one-first starts given same front more other rest e whole h k =
      let there = subst (λ all. HavePrintedBy printing starts all front) e h in
      one-each front more other rest whole
      (λ channel. laws.one (start_on starts channel) (share channel same) _ _ (there channel)
      (k channel))

  -- what one more that is given adds to the first copies
  next-first : (starts : Starts) (before : List Given) (one : Given) (copies : List MarkedCopy)
      (a : PrintsFirst printing starts before copies)
      (b : PrintsFirst printing starts (before ++ one ∷ []) copies)
      → GoesOnAs a.first b.first
  next-first starts before one copies a b =
      goes-on-each a.first a.rest b.first b.rest (sym a.whole ∙ b.whole)
      (grown printing laws starts before (one ∷ []) a.first b.first a.printed b.printed)

  same-next : (starts : Starts) (before : List Given) (one : Given) (xs ys : List MarkedCopy)
      (a : PrintsFirst printing starts before xs) (b : PrintsFirst printing starts before ys)
      → a.first ≡ b.first
      → (c : PrintsFirst printing starts (before ++ one ∷ []) xs)
      (d : PrintsFirst printing starts (before ++ one ∷ []) ys)
      → c.first ≡ d.first
  same-next starts before one xs ys a b e c d =
      let on = next-first starts before one xs a c in
      let other = next-first starts before one ys b d in
      let whole : d.first ≡ a.first ++ other.rest =
      other.whole ∙ ap (λ l. l ++ other.rest) (sym e) in
      on.whole
      ∙ ap (λ l. a.first ++ l)
      (adds-same printing laws starts before one a.first on.rest other.rest a.printed
      (subst (HavePrintedBy printing starts (before ++ one ∷ [])) on.whole c.printed)
      (subst (HavePrintedBy printing starts (before ++ one ∷ [])) whole d.printed))
      ∙ sym whole

  -- two lists whose beginnings are printed in turn have the same first copies
  same-firsts : (starts : Starts) (before later given : List Given) (xs ys : List MarkedCopy)
      → given ≡ before ++ later → BeginsInTurn printing starts given xs
      → BeginsInTurn printing starts given ys
      → (a : PrintsFirst printing starts before xs) (b : PrintsFirst printing starts before ys)
      → a.first ≡ b.first
      → (p : PrintsFirst printing starts given xs) (q : PrintsFirst printing starts given ys)
      → p.first ≡ q.first
  same-firsts starts before [] given xs ys e h k a b same p q =
      let is : given ≡ before = e ∙ append-nil before in
      one-first starts given before p.first p.rest a.first a.rest is (sym p.whole ∙ a.whole)
      p.printed a.printed
      ∙ same
      ∙ sym (one-first starts given before q.first q.rest b.first b.rest is (sym q.whole ∙ b.whole)
      q.printed b.printed)
  same-firsts starts before (one ∷ later) given xs ys e h k a b same p q =
      let more : given ≡ (before ++ one ∷ []) ++ later =
      e ∙ sym (append_assoc before (one ∷ []) later) in
      let c = h (before ++ one ∷ []) later more in
      let d = k (before ++ one ∷ []) later more in
      same-firsts starts (before ++ one ∷ []) later given xs ys more h k c d
      (same-next starts before one xs ys a b same c d) p q

  none-first : (starts : Starts) (copies : List MarkedCopy)
      (a : PrintsFirst printing starts [] copies)
      → a.first ≡ []
  none-first starts copies a =
      one-first starts [] [] a.first a.rest [] copies refl (sym a.whole) a.printed
      (nothing-given_by printing laws starts).each

  -- the first copies that are printed in turn are one
  pub one-beginning : (starts : Starts) (given : List Given) (xs ys : List MarkedCopy)
      → BeginsInTurn printing starts given xs → BeginsInTurn printing starts given ys
      → (p : PrintsFirst printing starts given xs) (q : PrintsFirst printing starts given ys)
      → p.first ≡ q.first
  one-beginning starts given xs ys h k p q =
      let a = h [] given refl in
      let b = k [] given refl in
      same-firsts starts [] given given xs ys refl h k a b
      (none-first starts xs a ∙ sym (none-first starts ys b)) p q

  abbrev all-first : (starts : Starts) (given : List Given) (copies : List MarkedCopy)
      → HavePrintedBy printing starts given copies → PrintsFirst printing starts given copies
  all-first starts given copies h =
      record { first = copies; rest = []; whole = sym (append-nil copies); printed = h }

  -- there is one log in turn
  pub one-in_turn_by : (starts : Starts) (given : List Given) (xs ys : List MarkedCopy)
      → PrintsInTurnBy printing starts given xs → PrintsInTurnBy printing starts given ys → xs ≡ ys
  one-in_turn_by starts given xs ys h k =
      one-beginning starts given xs ys (begins-in_turn starts given xs h)
      (begins-in_turn starts given ys k) (all-first starts given xs h.each)
      (all-first starts given ys k.each)

  -- there is one log to the end
  pub one-to_end_by : (starts : Starts) (given : List Given) (xs ys : List MarkedCopy)
      → PrintAllToEndBy printing starts given xs → PrintAllToEndBy printing starts given ys
      → xs ≡ ys
  one-to_end_by starts given xs ys h k =
      let ended : h.ended ≡ k.ended =
      one-in_turn_by starts given h.ended k.ended h.in_turn k.in_turn in
      let closed : (channel : Channel) → h.closed channel ≡ k.closed channel =
      λ channel.
      append_cancel_left (copies_on channel k.ended) (h.closed channel) (k.closed channel)
      (ap (λ those. copies_on channel those ++ h.closed channel) (sym ended)
      ∙ laws.one_to_end (start_on starts channel) (share channel given) _ _ (h.to_end channel)
      (k.to_end channel)) in
      let all : flat_map (λ channel. map (marked channel) (h.closed channel)) all_channels
      ≡ flat_map (λ channel. map (marked channel) (k.closed channel)) all_channels =
      ap₂ (λ a b. map (marked Zero) a ++ b) (closed Zero)
      (ap₂ (λ a b. map (marked One) a ++ (map (marked Two) b ++ [])) (closed One) (closed Two)) in
      h.whole ∙ ap₂ (λ a b. a ++ b) ended all ∙ sym k.whole

-- the same where each copy is judged alone
pub one-in_turn : (starts : Starts) (given : List Given) (xs ys : List MarkedCopy)
    → PrintsInTurn starts given xs → PrintsInTurn starts given ys → xs ≡ ys
one-in_turn = one-in_turn_by plain plain-laws

pub one-to_end : (starts : Starts) (given : List Given) (xs ys : List MarkedCopy)
    → PrintAllToEnd starts given xs → PrintAllToEnd starts given ys → xs ≡ ys
one-to_end = one-to_end_by plain plain-laws
