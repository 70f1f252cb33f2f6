-- A piece of a file, up to an index and from it on.
use Rattle.std.proofs.Common.{◌≡◌, ℕ, ◌+◌, ◌-◌, length, take, drop, List, ◌++◌, sym, ap, ◌∙◌}
use Rattle.std.proofs.Common.{append_assoc, take-append-drop}
use Rattle.std.proofs.lemmas.List.{take_rest}
use Rattle.std.proofs.Math.Seq.{take-add}

-- a piece, up to an index and from it on
pub piece-parts : (bytes piece more : List ℕ) (count : ℕ)
    → (bytes ++ piece) ++ more ≡ (bytes ++ take count piece) ++ (drop count piece ++ more)
piece-parts bytes piece more count =
    ap (λ l. (bytes ++ l) ++ more) (sym (take-append-drop count piece))
    ∙ ap (λ l. l ++ more) (sym (append_assoc bytes (take count piece) (drop count piece)))
    ∙ append_assoc (bytes ++ take count piece) (drop count piece) more

pub piece-whole : (bytes piece : List ℕ) (at : ℕ)
    → (bytes ++ take at piece) ++ take (length piece - at) (drop at piece) ≡ bytes ++ piece
piece-whole bytes piece at =
    append_assoc bytes (take at piece) (take (length piece - at) (drop at piece))
    ∙ ap (λ l. bytes ++ l) (ap (λ l. take at piece ++ l) (take_rest piece at)
    ∙ take-append-drop at piece)

-- the next bytes of a piece
pub piece-next : (bytes piece : List ℕ) (at count : ℕ)
    → (bytes ++ take at piece) ++ take count (take (length piece - at) (drop at piece))
    ≡ bytes ++ take (at + count) piece
piece-next bytes piece at count =
    append_assoc bytes (take at piece) (take count (take (length piece - at) (drop at piece)))
    ∙ ap (λ l. bytes ++ l) (ap (λ l. take at piece ++ take count l) (take_rest piece at)
    ∙ sym (take-add at count piece))
