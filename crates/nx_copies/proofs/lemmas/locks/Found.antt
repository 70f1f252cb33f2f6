-- The copies in the text of a lock: those that have ended stay, and each stands at a place of its
-- lock.
use Rattle.std.proofs.Common.{◌≡◌, ℕ, zero, suc, ◌+◌, ◌-◌, ◌*◌, ◌<◌, ◌≤◌, List, [], ◌∷◌, ◌++◌, map}
use Rattle.std.proofs.Common.{length, refl, sym, ap, ◌∙◌, subst, arith, Option, Some, None, get_or}
use Rattle.std.proofs.Common.{unwrap_or, Bool}
use Rattle.std.specs.List.{All, Contains, filter_map, cons_option}
use Rattle.std.specs.Option.{option_map}
use Rattle.std.proofs.lemmas.List.{get_or_append_left, map-append, length-append, length-map}
use Rattle.std.proofs.lemmas.List.{length-take}
use Rattle.std.proofs.lemmas.List.Elements.{All-nil, All-cons, All-head, All-tail, All-append}
use Rattle.std.proofs.lemmas.List.Elements.{All-map, All-weaker, All-get_or, All-filter}
use Rattle.std.proofs.lemmas.List.Elements.{All-contains_itself}
use Rattle.std.proofs.lemmas.Option.{slice_get-get_or}
use Rattle.nx_envelope.specs.Header.{Header}
use Rattle.nx_envelope.specs.Copies.{Copy, Ending, headers, ended_copies, ended_copy, open_headers}
use Rattle.nx_envelope.specs.Copies.{is_open, closed_copy, copies, copy_with, ending_of, raw_text}
use Rattle.nx_envelope.specs.Header.{StandsIn}
use Rattle.nx_envelope.specs.Laws.{Grows}
use Rattle.nx_envelope.proofs.lemmas.headers.Anywhere.{anywhere_both}
use Rattle.nx_envelope.proofs.lemmas.copies.OneOpenCopy.{grown, copies_parts, one_at_most}
use Rattle.nx_sync.specs.Locks.{IsNow, Lock, Now}
use Rattle.nx_sync.specs.declared.step.Role.{Role}
use Rattle.nx_sync.proofs.lemmas.states.UniqueStates.{locks-unique, now-unique}
use Rattle.nx_copies.specs.private.ReaderWords.{word_place}
use Rattle.nx_copies.specs.copies.LockText.{PlacedByte, printed_by, text_by, bytes_of}
use Rattle.nx_copies.specs.copies.FoundCopies.{place_of_header}
use Rattle.nx_copies.specs.copies.FoundCopies.{FoundCopy, place_in, found_copy, ended_in, open_in}
use Rattle.nx_copies.specs.copies.FoundCopies.{all_in}
use Rattle.nx_copies.proofs.lemmas.locks.Texts.{GoesOnAs, bytes_of-append}

-- after the same bits one thing is told of the locks and of the state
pub one_told : {A : Type 0} (told : List Lock → Now → A) (bits : List Bool)
    (locks others : List Lock) (now other : Now) → IsNow bits locks now → IsNow bits others other
    → told locks now ≡ told others other
one_told told bits locks others now other is are =
    ap (λ ls. told ls now) (locks-unique bits locks others now other is are)
    ∙ ap (told others) (now-unique bits locks others now other is are)

abbrev pub IsByteIn : ℕ → ℕ → PlacedByte → Type 0
IsByteIn low high b = (low ≤ b.place) × (b.place < high)

abbrev pub IsCopyIn : ℕ → ℕ → FoundCopy → Type 0
IsCopyIn low high c = (low ≤ c.place) × (c.place < high)

-- each byte of the text of a lock stands at one of its bits
all_at : (place : ℕ) (low high : ℕ) → low ≤ place → place < high → (bs : List ℕ)
    → All (IsByteIn low high) (map (λ b. record { byte = b; place = place }) bs)
all_at place low high l h [] = All-nil (IsByteIn low high)
all_at place low high l h (b ∷ bs) =
    All-cons (IsByteIn low high) _ _ (l, h) (all_at place low high l h bs)

pub text_placed : (first : Role) (f : ℕ → ℕ) (t n : ℕ)
    → All (IsByteIn t (t + 7 * n)) (text_by first f t n)
unfolding text_by printed_by
text_placed first f t zero = All-nil (IsByteIn t (t + 7 * 0))
text_placed first f t (suc n) =
    All-append (IsByteIn t (t + 7 * suc n)) (text_by first f t n) _
    (All-weaker (IsByteIn t (t + 7 * n)) (IsByteIn t (t + 7 * suc n)) (λ b h. (h.0, omega arith))
    (text_by first f t n) (text_placed first f t n))
    (all_at (word_place t n) t (t + 7 * suc n) (omega arith) (omega arith) _)

-- a header stands behind its letters
abbrev pub IsHeaderIn : List ℕ → Header → Type 0
IsHeaderIn text h = (1 ≤ h.behind) × (h.behind ≤ length text)

stands : (text : List ℕ) (h : Header) → StandsIn text h → IsHeaderIn text h
stands text h s =
    let long = ap length s.spelled.spelled in
    (omega (arith, simp (length-append, length-take) at long), s.within)

pub headers_in : (text : List ℕ) → All (IsHeaderIn text) (headers text)
headers_in text = All-weaker (Contains (headers text)) (IsHeaderIn text)
    (λ h m. stands text h ((anywhere_both text h).0 m)) (headers text)
    (All-contains_itself (headers text))

-- what is made of items with P has Q
pub filter_map-all : {X Y : Type 0} (P : X → Type 0) (Q : Y → Type 0) (f : X → Option Y)
    → ((x : X) (y : Y) → P x → f x ≡ Some y → Q y) → (xs : List X) → All P xs
    → All Q (filter_map f xs)
filter_map-all P Q f makes [] k = All-nil Q
filter_map-all {Y = Y} P Q f makes (x ∷ xs) k =
    let rest = filter_map-all P Q f makes xs (All-tail P x xs k) in
    elim (f x) as (λ (o : Option Y). f x ≡ o → All Q (cons_option o (filter_map f xs))) [
      | None ↦ λ _. rest
      | Some y ↦ λ e. All-cons Q y (filter_map f xs) (makes x y (All-head P x xs k) e) rest
    ] refl

header_kept : (h : Header) (o : Option Ending) (c : Copy) → option_map (copy_with h) o ≡ Some c
    → h ≡ c.header
header_kept h None c e = cc
header_kept h (Some ending) c e = cc

pub ended_header : (text : List ℕ) (h : Header) (c : Copy) → ended_copy text h ≡ Some c → h
    ≡ c.header
unfolding ended_copy
ended_header text h c e = header_kept h (ending_of (raw_text text h)) c e

pub ended_headers_in : (text : List ℕ)
    → All (λ (c : Copy). IsHeaderIn text c.header) (ended_copies text)
unfolding ended_copies
ended_headers_in text =
    filter_map-all (IsHeaderIn text) (λ (c : Copy). IsHeaderIn text c.header) (ended_copy text)
    (λ h c i e. subst (IsHeaderIn text) (ended_header text h c e) i) (headers text)
    (headers_in text)

pub open_headers_in : (text : List ℕ) → All (IsHeaderIn text) (open_headers text)
unfolding open_headers
open_headers_in text = All-filter (is_open text) (IsHeaderIn text) (headers text) (headers_in text)

-- the place of a byte, by its index
pub place_in-get_or : (text : List PlacedByte) (i : ℕ) (d : PlacedByte) → i < length text
    → place_in text i ≡ (get_or text i d).place
unfolding place_in
place_in-get_or text i d h =
    ap (λ o. unwrap_or (option_map (λ (b : PlacedByte). b.place) o) 0) (slice_get-get_or text i d h)

pub length-bytes_of : (text : List PlacedByte) → length (bytes_of text) ≡ length text
unfolding bytes_of
length-bytes_of text = length-map text (λ b. b.byte)

-- text that comes later leaves the place of a byte
pub place_in-append : (text more : List PlacedByte) (i : ℕ) → i < length text
    → place_in (text ++ more) i ≡ place_in text i
place_in-append text more i h =
    let d : PlacedByte = record { byte = 0; place = 0 } in
    let later : i < length (text ++ more) = omega (arith, length-append text more) in
    place_in-get_or (text ++ more) i d later
    ∙ ap (λ b. b.place) (get_or_append_left text more d i h) ∙ sym (place_in-get_or text i d h)

-- a header in the text of a lock stands at a bit of the lock
pub header_placed : (low high : ℕ) (text : List PlacedByte) (h : Header)
    → All (IsByteIn low high) text → IsHeaderIn (bytes_of text) h
    → IsByteIn low high (record { byte = 0; place = place_of_header text h })
header_placed low high text h k i =
    let d : PlacedByte = record { byte = 0; place = 0 } in
    let within : h.behind - 1 < length text = omega (arith, length-bytes_of text, i.0, i.1) in
    let at = All-get_or (IsByteIn low high) text (h.behind - 1) d within k in
    subst (λ (p : ℕ). (low ≤ p) × (p < high)) (sym (place_in-get_or text (h.behind - 1) d within))
    at

pub ended_in_placed : (low high : ℕ) (text : List PlacedByte) → All (IsByteIn low high) text
    → All (IsCopyIn low high) (ended_in text)
unfolding found_copy
ended_in_placed low high text k =
    All-map (IsCopyIn low high) (found_copy text) (ended_copies (bytes_of text))
    (All-weaker (λ (c : Copy). IsHeaderIn (bytes_of text) c.header)
    (λ (c : Copy). IsCopyIn low high (found_copy text c))
    (λ c i. header_placed low high text c.header k i) (ended_copies (bytes_of text))
    (ended_headers_in (bytes_of text)))

pub open_in_placed : (low high : ℕ) (text : List PlacedByte) → All (IsByteIn low high) text
    → All (IsCopyIn low high) (open_in text)
unfolding found_copy closed_copy
open_in_placed low high text k =
    All-map (IsCopyIn low high) (λ header. found_copy text (closed_copy (bytes_of text) header))
    (open_headers (bytes_of text))
    (All-weaker (IsHeaderIn (bytes_of text))
    (λ (h : Header). IsCopyIn low high (found_copy text (closed_copy (bytes_of text) h)))
    (λ h i. header_placed low high text h k i) (open_headers (bytes_of text))
    (open_headers_in (bytes_of text)))

-- what is found in a text, and is over or stands open there
pub all_in-parts : (text : List PlacedByte) → all_in text ≡ ended_in text ++ open_in text
all_in-parts text =
    ap (map (found_copy text)) (copies_parts (bytes_of text))
    ∙ map-append (found_copy text) (ended_copies (bytes_of text))
    (map (closed_copy (bytes_of text)) (open_headers (bytes_of text)))
    ∙ ap (λ xs. ended_in text ++ xs)
    (map-map (found_copy text) (closed_copy (bytes_of text)) (open_headers (bytes_of text)))
  where
    map-map : {A B C : Type 0} (g : B → C) (f : A → B) (xs : List A)
        → map g (map f xs) ≡ map (λ x. g (f x)) xs
    map-map g f [] = refl
    map-map g f (x ∷ xs) = ap (λ ys. g (f x) ∷ ys) (map-map g f xs)

pub all_in_placed : (low high : ℕ) (text : List PlacedByte) → All (IsByteIn low high) text
    → All (IsCopyIn low high) (all_in text)
all_in_placed low high text k =
    rw (all_in-parts text) (All-append (IsCopyIn low high) (ended_in text) (open_in text)
    (ended_in_placed low high text k) (open_in_placed low high text k))

-- text that comes later leaves a copy that stands in it
pub same_found : (text more : List PlacedByte) (c : Copy) → c.header.behind - 1 < length text
    → found_copy (text ++ more) c ≡ found_copy text c
unfolding found_copy
same_found text more c h =
    ap (λ p. record { identity = c.header.identity; how = c.how; text = c.text; place = p })
    (place_in-append text more (c.header.behind - 1) h)

-- text that comes later leaves the copies that have ended as they are, and adds others behind them
pub found-same : (text more : List PlacedByte) (copies : List Copy)
    → All (λ (c : Copy). IsHeaderIn (bytes_of text) c.header) copies
    → map (found_copy (text ++ more)) copies ≡ map (found_copy text) copies
unfolding found_copy
found-same text more [] k = refl
found-same text more (c ∷ copies) k =
    let i = All-head (λ (c : Copy). IsHeaderIn (bytes_of text) c.header) c copies k in
    let rest = found-same text more copies
    (All-tail (λ (c : Copy). IsHeaderIn (bytes_of text) c.header) c copies k) in
    let here : found_copy (text ++ more) c ≡ found_copy text c =
    same_found text more c (omega (arith, length-bytes_of text, i.0, i.1)) in
    ap (λ f. f ∷ map (found_copy (text ++ more)) copies) here
    ∙ ap (λ fs. found_copy text c ∷ fs) rest

pub ended_in-grows : (text whole : List PlacedByte) → GoesOnAs text whole
    → GoesOnAs (ended_in text) (ended_in whole)
ended_in-grows text whole g =
    subst (λ (w : List PlacedByte). GoesOnAs (ended_in text) (ended_in w)) (sym g.whole) (record {
      rest = map (found_copy (text ++ g.rest)) grows.later_copies;
      whole = ap (λ bs. map (found_copy (text ++ g.rest)) (ended_copies bs))
          (bytes_of-append text g.rest)
          ∙ ap (map (found_copy (text ++ g.rest))) grows.ended
          ∙ map-append (found_copy (text ++ g.rest)) (ended_copies (bytes_of text))
          grows.later_copies
          ∙ ap (λ xs. xs ++ map (found_copy (text ++ g.rest)) grows.later_copies)
          (found-same text g.rest (ended_copies (bytes_of text))
          (ended_headers_in (bytes_of text)));
    })
  where
    grows : Grows (bytes_of text) (bytes_of g.rest)
    grows = grown (bytes_of text) (bytes_of g.rest)

-- at most one copy stands open
pub one_open : (text : List PlacedByte) → length (open_in text) ≤ 1
one_open text = rw (length-map (open_headers (bytes_of text))
    (λ header. found_copy text (closed_copy (bytes_of text) header))) (one_at_most (bytes_of text))
