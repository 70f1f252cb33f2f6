use Rattle.std.proofs.Common.{◌≡◌, ◌-◌, ◌<◌, ◌++◌, ◌∷◌, [], ℕ, List, length, take, drop, ap, sym, subst, ◌∙◌, append_assoc, arith}
use Rattle.std.proofs.Math.ListN.{set}
use Rattle.std.proofs.lemmas.List.{set_split, take_rest}
use Rattle.nx_envelope.specs.Moment.{IsShownAs}
use Rattle.nx_log.proofs.lemmas.texts.TimeTexts.{joined-back, joined-length, told}
use Rattle.nx_log.proofs.queries.time.moment_joined.Goals as goal

-- the pieces of a civil time, with a space between its date and its time of day
pieces : (text rest : List ℕ) → 10 < length text
    → ((take 10 text ++ 32 ∷ []) ++ drop 11 text) ++ rest ≡ set text 10 32 ++ rest
pieces text rest long =
    ap (λ l. l ++ rest)
    (append_assoc (take 10 text) (32 ∷ []) (drop 11 text) ∙ sym (set_split text 10 32 long))

-- with a space there the text and the rest are the civil time
pub returns-clause-found : goal.returns-clause-found
returns-clause-found c = λ moment civil between small shown is e.
    let text = c.args.text.now in
    let rest = c.args.rest.now in
    let first : c.append.new.text.items ≡ take 10 text =
    c.append.ensures.items ∙ ap (λ l. l ++ take 10 text) c.new-civil.ensures in
    let behind : c.append-2.new.text.items ≡ (take 10 text ++ 32 ∷ []) ++ drop 11 text =
    c.append-2.ensures.items
    ∙ ap (λ l. l ++ take (length text - 11) (drop 11 text))
    (c.push.ensures.items ∙ ap (λ l. l ++ 32 ∷ []) first)
    ∙ ap (λ l. (take 10 text ++ 32 ∷ []) ++ l) (take_rest text 11) in
    let long : 10 < length civil =
    omega (arith, c.requires.long, ap length e, joined-length between civil) in
    let same : c.deref.result.now ≡ civil ++ rest =
    c.deref.ensures.0 ∙ c.append-3.ensures.items ∙ ap (λ l. l ++ rest) behind
    ∙ pieces text rest (omega (arith, c.requires.long))
    ∙ ap (λ l. set l 10 32 ++ rest) e
    ∙ ap (λ l. l ++ rest) (joined-back moment between civil rest shown long) in
    told c.moment_of.result c.deref.result.now moment
    c.moment_of.ensures.shown c.moment_of.ensures.none small
    (subst (IsShownAs moment) (sym same) shown)
