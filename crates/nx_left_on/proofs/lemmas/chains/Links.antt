-- Chains of watches, cut into parts; and the first copy of an identity that one of them judged.
use Rattle.std.proofs.Common.{◌≡◌, true, List, [], ◌∷◌, ◌++◌, refl, sym, ap}
use Rattle.std.proofs.Common.{ap₂, ◌∙◌, subst, append-nil, append_assoc}
use Rattle.std.specs.List.{All}
use Rattle.std.proofs.lemmas.List.Concat.{flat_map-append}
use Rattle.std.proofs.lemmas.List.Elements.{All-cons, All-head, All-nil, All-tail, filter-append}
use Rattle.nx_envelope.specs.declared.identity.Identity.{Identity}
use Rattle.nx_fec.specs.declared.air_files.channel.Channel.{Channel}
use Rattle.nx_copies.specs.copies.FoundCopies.{TaggedCopy}
use Rattle.nx_copies.specs.copies.Printing.{copies_of}
use Rattle.nx_copies.specs.copies.Shares.{MarkedCopy, copies_on}
use Rattle.nx_copies.proofs.lemmas.channels.Shares.{copies_on-append}
use Rattle.nx_copies.proofs.lemmas.once.Repeats.{split, before_prints, bears}
use Rattle.nx_left_on.specs.Chain.{ClocksAreNear, IsChain, Watch, all_copies, all_put, copies_in}
use Rattle.nx_left_on.specs.LeftOn.{JudgedCopy, judged_before}

-- ---- lists

pub all-back : {A : Type 0} (P : A → Type 0) (front back : List A) → All P (front ++ back)
    → All P back
all-back P [] back h = h
all-back P (x ∷ front) back h = all-back P front back (All-tail P x (front ++ back) h)

pub none-parts : {A : Type 0} (front back : List A) → front ++ back ≡ []
    → (front ≡ []) × (back ≡ [])
none-parts [] back e = (refl, e)
none-parts (x ∷ front) back e = cc

pub copies_of-append : (identity : Identity) (front back : List TaggedCopy)
    → copies_of identity (front ++ back) ≡ copies_of identity front ++ copies_of identity back
unfolding copies_of
copies_of-append identity front back = filter-append (bears identity) front back

-- ---- chains

pub put-append : (front back : List Watch) → all_put (front ++ back) ≡ all_put front ++ all_put back
put-append front back = flat_map-append (λ (watch : Watch). watch.put) front back

pub copies-append : (channel : Channel) (front back : List Watch)
    → all_copies channel (front ++ back) ≡ all_copies channel front ++ all_copies channel back
copies-append channel front back = flat_map-append (copies_in channel) front back

pub chain-front : (log : List MarkedCopy) (front back : List Watch) → IsChain log (front ++ back)
    → IsChain log front
chain-front log [] back chain = tt
chain-front log (watch ∷ front) back chain =
    (chain.0, chain-front (log ++ watch.put) front back chain.1)

pub chain-back : (log : List MarkedCopy) (front back : List Watch) → IsChain log (front ++ back)
    → IsChain (log ++ all_put front) back
chain-back log [] back chain = subst (λ l. IsChain l back) (sym (append-nil log)) chain
chain-back log (watch ∷ front) back chain =
    subst (λ l. IsChain l back) (append_assoc log watch.put (all_put front))
    (chain-back (log ++ watch.put) front back chain.1)

pub clocks-back : (channel : Channel) (log : List MarkedCopy) (front back : List Watch)
    → ClocksAreNear channel log (front ++ back) → ClocksAreNear channel (log ++ all_put front) back
clocks-back channel log [] back clocks =
    subst (λ l. ClocksAreNear channel l back) (sym (append-nil log)) clocks
clocks-back channel log (watch ∷ front) back clocks =
    subst (λ l. ClocksAreNear channel l back) (append_assoc log watch.put (all_put front))
    (clocks-back channel (log ++ watch.put) front back clocks.1)

-- where no copy of an identity is judged, none is put
pub none-put : (channel : Channel) (identity : Identity) (log : List MarkedCopy)
    (watches : List Watch) → IsChain log watches
    → copies_of identity (all_copies channel watches) ≡ []
    → copies_of identity (copies_on channel (all_put watches)) ≡ []
unfolding copies_of
none-put channel identity log [] chain none = refl
none-put channel identity log (watch ∷ watches) chain none =
    let copies = copies_in channel watch in
    let parts = none-parts (copies_of identity copies)
    (copies_of identity (all_copies channel watches))
    (sym (copies_of-append identity copies (all_copies channel watches)) ∙ none) in
    ap (copies_of identity) (copies_on-append channel watch.put (all_put watches))
    ∙ copies_of-append identity (copies_on channel watch.put) (copies_on channel (all_put watches))
    ∙ ap₂ (λ a b. a ++ b)
    (ap (copies_of identity) (chain.0.judges channel).put
    ∙ before_prints identity (watch.starts.entries channel) copies parts.0)
    (none-put channel identity (log ++ watch.put) watches chain.1 parts.1)

-- ---- the first copy of an identity

pub record HasFirst (channel : Channel) (watches : List Watch) (identity : Identity) : Type 0 where
  pub at : JudgedCopy channel watches
  pub named : bears identity at.copy ≡ true
  pub none : copies_of identity (judged_before at) ≡ []

first-behind : (channel : Channel) (watch : Watch) (watches : List Watch) (identity : Identity)
    → copies_of identity (copies_in channel watch) ≡ [] → HasFirst channel watches identity
    → HasFirst channel (watch ∷ watches) identity
first-behind channel watch watches identity none f =
    let copies = copies_in channel watch in
    let before = all_copies channel f.at.before in
    record {
      at = record {
        before = watch ∷ f.at.before;
        watch = f.at.watch;
        after = f.at.after;
        among = ap (λ l. watch ∷ l) f.at.among;
        earlier = f.at.earlier;
        copy = f.at.copy;
        later = f.at.later;
        judged = f.at.judged;
      };
      named = f.named;
      none = ap (copies_of identity) (append_assoc copies before f.at.earlier)
          ∙ copies_of-append identity copies (before ++ f.at.earlier)
          ∙ ap₂ (λ a b. a ++ b) none f.none;
    }

pub find-first : (channel : Channel) (watches : List Watch) (identity : Identity)
    (first : TaggedCopy) (rest : List TaggedCopy)
    → copies_of identity (all_copies channel watches) ≡ first ∷ rest
    → HasFirst channel watches identity
unfolding copies_of
find-first channel [] identity first rest e = cc
find-first channel (watch ∷ watches) identity first rest e =
    let copies = copies_in channel watch in
    let others = all_copies channel watches in
    let both = sym (copies_of-append identity copies others) ∙ e in
    elim (copies_of identity copies) as (λ l. copies_of identity copies ≡ l
    → HasFirst channel (watch ∷ watches) identity) [
      | [] ↦ λ none.
          first-behind channel watch watches identity none
          (find-first channel watches identity first rest
          (ap (λ l. l ++ copies_of identity others) (sym none) ∙ both))
      | one ∷ more ↦ λ some.
          let s = split identity copies one more some in
          record {
            at = record {
              before = [];
              watch = watch;
              after = watches;
              among = refl;
              earlier = s.before;
              copy = one;
              later = s.after;
              judged = s.whole;
            };
            named = s.named;
            none = s.none;
          }
    ] refl
