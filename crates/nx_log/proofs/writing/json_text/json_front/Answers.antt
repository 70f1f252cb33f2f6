use Rattle.std.proofs.Common.{◌≡◌, ◌++◌, ℕ, List, codes, append_assoc, ◌∙◌, ap}
use Rattle.std.specs.Fmt.{decimal}
use Rattle.nx_envelope.specs.Identity.{identity_bytes}
use Rattle.nx_fec.specs.air_files.Channels.{channel_number}
use Rattle.nx_copies.specs.copies.Log.{how_name}
use Rattle.nx_log.specs.private.JsonParts.{truth_name}
use Rattle.nx_log.proofs.writing.json_text.json_front.Goals as goal

-- the pieces, in order
pieces : (k1 k2 k3 k4 k5 k6 channel characters end errors good identity : List ℕ)
    → ((((((((((k1 ++ channel) ++ k2) ++ characters) ++ k3) ++ end) ++ k4) ++ errors) ++ k5)
    ++ good) ++ k6) ++ identity
    ≡ k1 ++ channel ++ k2 ++ characters ++ k3 ++ end ++ k4 ++ errors ++ k5 ++ good ++ k6
    ++ identity
pieces k1 k2 k3 k4 k5 k6 channel characters end errors good identity = simp append_assoc

-- the same, each piece by what it is
same_pieces : (k1 k2 k3 k4 k5 k6 a b c d e f a' b' c' d' e' f' : List ℕ)
    → a ≡ a' → b ≡ b' → c ≡ c' → d ≡ d' → e ≡ e' → f ≡ f'
    → k1 ++ a ++ k2 ++ b ++ k3 ++ c ++ k4 ++ d ++ k5 ++ e ++ k6 ++ f
    ≡ k1 ++ a' ++ k2 ++ b' ++ k3 ++ c' ++ k4 ++ d' ++ k5 ++ e' ++ k6 ++ f'
same_pieces k1 k2 k3 k4 k5 k6 a b c d e f a' b' c' d' e' f' ea eb ec ed ee ef = cc

pub returns : goal.returns
returns c =
    let head = c.args.head.now in
    let k1 = codes "{\"channel\":" in
    let k2 = codes ",\"characters\":" in
    let k3 = codes ",\"end\":\"" in
    let k4 = codes "\",\"errors\":" in
    let k5 = codes ",\"good\":" in
    let k6 = codes ",\"identity\":\"" in
    let first = c.append-5.ensures.items ∙ ap (λ xs. xs ++ k3)
    (c.append-4.ensures.items ∙ ap (λ xs. xs ++ c.as_bytes-2.result.now)
    (c.append-3.ensures.items ∙ ap (λ xs. xs ++ k2)
    (c.append-2.ensures.items ∙ ap (λ xs. xs ++ c.as_bytes.result.now)
    (c.append.ensures.items ∙ ap (λ xs. xs ++ k1) c.new-line.ensures)))) in
    let all = c.append-12.ensures.items ∙ ap (λ xs. xs ++ c.bytes.result)
    (c.append-11.ensures.items ∙ ap (λ xs. xs ++ k6)
    (c.append-10.ensures.items ∙ ap (λ xs. xs ++ c.as_bytes-5.result.now)
    (c.append-9.ensures.items ∙ ap (λ xs. xs ++ k5)
    (c.append-8.ensures.items ∙ ap (λ xs. xs ++ c.as_bytes-4.result.now)
    (c.append-7.ensures.items ∙ ap (λ xs. xs ++ k4)
    (c.append-6.ensures.items ∙ ap (λ xs. xs ++ c.as_bytes-3.result.now) first)))))) in
    all
    ∙ pieces k1 k2 k3 k4 k5 k6 c.as_bytes.result.now c.as_bytes-2.result.now
    c.as_bytes-3.result.now c.as_bytes-4.result.now c.as_bytes-5.result.now c.bytes.result
    ∙ same_pieces k1 k2 k3 k4 k5 k6 c.as_bytes.result.now c.as_bytes-2.result.now
    c.as_bytes-3.result.now c.as_bytes-4.result.now c.as_bytes-5.result.now c.bytes.result
    (decimal (channel_number head.channel)) (decimal head.characters) (how_name head.how)
    (decimal head.errors) (truth_name c.args.good) (identity_bytes head.identity)
    (c.as_bytes.ensures.value ∙ c.format.ensures.text ∙ ap decimal c.number.ensures)
    (c.as_bytes-2.ensures.value ∙ c.format-2.ensures.text)
    (c.as_bytes-3.ensures.value ∙ c.how_name.ensures)
    (c.as_bytes-4.ensures.value ∙ c.format-3.ensures.text)
    (c.as_bytes-5.ensures.value ∙ c.truth_name.ensures)
    c.bytes.ensures
