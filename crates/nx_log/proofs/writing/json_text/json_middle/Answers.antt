use Rattle.std.proofs.Common.{◌≡◌, ◌++◌, ◌∷◌, [], ℕ, List, codes, append_assoc, ◌∙◌, ap, rules}
use Rattle.std.specs.Fmt.{decimal}
use Rattle.std.specs.Prelude.{option_map}
use Rattle.nx_log.specs.private.JsonParts.{counted}
use Rattle.nx_log.proofs.writing.json_text.json_middle.Goals as goal

-- the pieces, in order
pieces : (k1 k2 k3 k4 k5 moment next number place : List ℕ) (station subject : ℕ)
    → (((((((((k1 ++ moment) ++ next) ++ k2) ++ number) ++ place) ++ k3) ++ station ∷ []) ++ k4)
    ++ subject ∷ []) ++ k5
    ≡ k1 ++ moment ++ next ++ k2 ++ number ++ place ++ k3 ++ station ∷ k4 ++ subject ∷ k5
pieces k1 k2 k3 k4 k5 moment next number place station subject = simp append_assoc

-- the same, each piece by what it is
same_pieces : (k1 k2 k3 k4 k5 a n b p a' n' b' p' : List ℕ) (s t s' t' : ℕ) → a ≡ a' → n ≡ n'
    → b ≡ b' → p ≡ p' → s ≡ s' → t ≡ t'
    → k1 ++ a ++ n ++ k2 ++ b ++ p ++ k3 ++ s ∷ k4 ++ t ∷ k5
    ≡ k1 ++ a' ++ n' ++ k2 ++ b' ++ p' ++ k3 ++ s' ∷ k4 ++ t' ∷ k5
same_pieces k1 k2 k3 k4 k5 a n b p a' n' b' p' s t s' t' ea en eb ep es et = cc

pub returns : goal.returns
returns c =
    let head = c.args.head.now in
    let places = c.args.places in
    let k1 = codes "\",\"moment\":" in
    let k2 = codes ",\"number\":" in
    let k3 = codes ",\"station\":\"" in
    let k4 = codes "\",\"subject\":\"" in
    let k5 = codes "\",\"text\":\"" in
    let next = counted (codes ",\"next\":") c.map-next.result in
    let place = counted (codes ",\"place\":") c.map-place.result in
    let next_is : c.map-next.result ≡ option_map (λ p. p.next) places = search rules in
    let place_is : c.map-place.result ≡ option_map (λ p. p.place) places = search rules in
    let first = c.append_count.ensures.items ∙ ap (λ xs. xs ++ next)
    (c.append-2.ensures.items ∙ ap (λ xs. xs ++ c.as_bytes.result.now)
    (c.append.ensures.items ∙ ap (λ xs. xs ++ k1) c.new-line.ensures)) in
    let second = c.append-5.ensures.items ∙ ap (λ xs. xs ++ k3)
    (c.append_count-2.ensures.items ∙ ap (λ xs. xs ++ place)
    (c.append-4.ensures.items ∙ ap (λ xs. xs ++ c.as_bytes-2.result.now)
    (c.append-3.ensures.items ∙ ap (λ xs. xs ++ k2) first))) in
    let all = c.append-7.ensures.items ∙ ap (λ xs. xs ++ k5)
    (c.push-2.ensures.items ∙ ap (λ xs. xs ++ c.byte-2.result ∷ [])
    (c.append-6.ensures.items ∙ ap (λ xs. xs ++ k4)
    (c.push.ensures.items ∙ ap (λ xs. xs ++ c.byte.result ∷ []) second))) in
    all
    ∙ pieces k1 k2 k3 k4 k5 c.as_bytes.result.now next c.as_bytes-2.result.now place
    c.byte.result c.byte-2.result
    ∙ same_pieces k1 k2 k3 k4 k5 c.as_bytes.result.now next c.as_bytes-2.result.now place
    (decimal head.moment) (counted (codes ",\"next\":") (option_map (λ p. p.next) places))
    (decimal head.identity.number)
    (counted (codes ",\"place\":") (option_map (λ p. p.place) places))
    c.byte.result c.byte-2.result head.identity.b1.byte head.identity.b2.byte
    (c.as_bytes.ensures.value ∙ c.format.ensures.text)
    (ap (counted (codes ",\"next\":")) next_is)
    (c.as_bytes-2.ensures.value ∙ c.format-2.ensures.text ∙ ap decimal c.number.ensures.value)
    (ap (counted (codes ",\"place\":")) place_is)
    (c.byte.ensures.value ∙ ap (λ l. l.byte) c.b1.ensures)
    (c.byte-2.ensures.value ∙ ap (λ l. l.byte) c.b2.ensures)
