use Rattle.std.proofs.Common.{◌≡◌, ◌++◌, ◌∷◌, [], ℕ, List, length, append_assoc, ◌∙◌, ap}
use Rattle.std.specs.Fmt.{decimal}
use Rattle.nx_envelope.specs.Copies.{errors_of}
use Rattle.nx_envelope.specs.Identity.{identity_bytes}
use Rattle.nx_copies.specs.copies.Log.{channel_mark, entry_head, how_name}
use Rattle.nx_copies.proofs.writing.head_line.Goals as goal

-- the pieces, in order
pieces : (name mark civil how errors count last : List ℕ) →
    ((((((((((91 ∷ []) ++ name) ++ mark) ++ 32 ∷ []) ++ civil) ++ 32 ∷ []) ++ how) ++ 32 ∷ [])
    ++ errors) ++ 47 ∷ []) ++ count ++ last
    ≡ 91 ∷ name ++ mark ++ 32 ∷ civil ++ 32 ∷ how ++ 32 ∷ errors ++ 47 ∷ count ++ last
pieces name mark civil how errors count last = simp append_assoc

-- the same, with the name and the numbers by what they are
same_pieces : (name mark civil how errors count name' errors' count' last : List ℕ)
    → name ≡ name' → errors ≡ errors' → count ≡ count' →
    91 ∷ name ++ mark ++ 32 ∷ civil ++ 32 ∷ how ++ 32 ∷ errors ++ 47 ∷ count ++ last
    ≡ 91 ∷ name' ++ mark ++ 32 ∷ civil ++ 32 ∷ how ++ 32 ∷ errors' ++ 47 ∷ count' ++ last
same_pieces name mark civil how errors count name' errors' count' last en ee ec =
    cc

pub returns : goal.returns
unfolding entry_head
returns c =
    let head = c.args.head.now in
    let text = c.args.text.now in
    let start = c.append-2.ensures.items
    ∙ ap (λ xs. xs ++ c.in-Some.time)
    (c.push-2.ensures.items ∙ ap (λ xs. xs ++ 32 ∷ [])
    (c.append_mark.ensures.mark ∙ ap (λ xs. xs ++ channel_mark c.args.channel)
    (c.append.ensures.items ∙ ap (λ xs. xs ++ c.bytes-name.result)
    (c.push.ensures.items ∙ ap (λ xs. xs ++ 91 ∷ []) c.new-bytes.ensures)))) in
    let middle = c.push-5.ensures.items
    ∙ ap (λ xs. xs ++ 47 ∷ [])
    (c.append-3.ensures.items
    ∙ ap (λ xs. xs ++ c.as_bytes.result.now)
    (c.push-4.ensures.items ∙ ap (λ xs. xs ++ 32 ∷ [])
    (c.append_how.ensures.name
    ∙ ap (λ xs. xs ++ how_name head.how)
    (c.push-3.ensures.items ∙ ap (λ xs. xs ++ 32 ∷ []) start)))) in
    let all = c.append-5.ensures.items
    ∙ ap (λ xs. xs ++ 93 ∷ 10 ∷ [])
    (c.append-4.ensures.items ∙ ap (λ xs. xs ++ c.as_bytes-2.result.now) middle) in
    let ordered = pieces c.bytes-name.result (channel_mark c.args.channel) c.in-Some.time
    (how_name head.how) c.as_bytes.result.now c.as_bytes-2.result.now (93 ∷ 10 ∷ []) in
    let spelled = same_pieces c.bytes-name.result (channel_mark c.args.channel) c.in-Some.time
    (how_name head.how) c.as_bytes.result.now c.as_bytes-2.result.now
    (identity_bytes head.identity) (decimal (errors_of text)) (decimal (length text))
    (93 ∷ 10 ∷ []) c.bytes-name.ensures
    (c.as_bytes.ensures.value ∙ c.format.ensures.text ∙ ap decimal c.requires.errors)
    (c.as_bytes-2.ensures.value ∙ c.format-2.ensures.text) in
    (c.in-Some.time, c.in-Some.ensures.shown, all ∙ ordered ∙ spelled)
