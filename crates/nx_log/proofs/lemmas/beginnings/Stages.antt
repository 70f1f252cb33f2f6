-- An entry stage by stage: what bytes lack of one, by the piece with which they begin.
use Rattle.std.proofs.Common.{◌≡◌, inl, inr, ℕ, ◌≤◌, List, [], ◌∷◌, ◌++◌, length, drop, ap, sym, ◌∙◌, refl, subst, arith, lit<, lit≤, append_assoc}
use Rattle.std.specs.Prelude.{IsTrue, decimal}
use Rattle.std.proofs.lemmas.List.Elements.{All-nil}
use Rattle.nx_code.specs.Reading.{characters}
use Rattle.nx_code.specs.Reading.{newline}
use Rattle.nx_envelope.specs.Identity.{identity_bytes}
use Rattle.nx_envelope.specs.Moment.{IsShownAs, last_moment}
use Rattle.nx_envelope.specs.declared.found.How.{How}
use Rattle.nx_envelope.specs.declared.found.How.TheVariants.{Full}
use Rattle.nx_envelope.specs.declared.identity.Identity.{Identity}
use Rattle.nx_fec.specs.declared.air_files.channel.Channel.{Channel}
use Rattle.nx_fec.specs.declared.air_files.channel.Channel.TheVariants.{Zero}
use Rattle.nx_copies.specs.copies.Log.{channel_mark, how_name, missing_newline}
use Rattle.nx_log.specs.Logged.{is_text_byte}
use Rattle.nx_log.specs.private.Stages.{FromCharacters, FromEnd, FromErrors, FromMark, FromName, FromNewline, FromText, FromTime, IsBehindText, IsCount, IsEnd, IsMark, IsName, IsNewline, IsTextOf, IsTime, CanEnd, Lacks, Spells}
use Rattle.nx_log.proofs.lemmas.texts.Moments.{same_time}
use Rattle.nx_log.proofs.lemmas.beginnings.Heads.{identity_of, some_letter}
use Rattle.nx_log.proofs.lemmas.beginnings.Texts.{text_goes_on}
use Rattle.nx_log.proofs.lemmas.beginnings.Times.{some_time}
use Rattle.nx_log.specs.declared.entries.head.LoggedHead.{LoggedHead}
use Rattle.nx_log.specs.declared.entries.lack.Lack.{Lack}
use Rattle.nx_log.specs.private.Heads.{BeginsWithHead, IsHead}
use Rattle.nx_log.proofs.lemmas.beginnings.Joins.{join, lacks_behind, lacks_same, lacks_within, some_joined}
use Rattle.nx_log.proofs.lemmas.reading.Heads.{characters_and, errors_and, how_and, mark_and, time_and_rest}
use Rattle.nx_log.proofs.lemmas.reading.Pieces.{same_mark, same_name, same_decimal, same_text}

-- ---- each stage can be begun, so that a part of a piece can go on

pub some_text : (errors characters : ℕ) → errors ≤ characters
    → (rest : List ℕ) × FromText errors characters rest
some_text errors characters enough =
    let text = text_goes_on [] errors characters characters errors
    (All-nil (λ byte. IsTrue (is_text_byte byte))) (omega arith) (omega arith) enough in
    some_joined (IsTextOf errors characters) IsBehindText text.0 text.0 text.2
    (missing_newline text.0 ++ newline ∷ [], refl)

pub some_newline : (errors characters : ℕ) → errors ≤ characters
    → (rest : List ℕ) × FromNewline errors characters rest
some_newline errors characters enough =
    some_joined IsNewline (λ none. FromText errors characters) tt (newline ∷ []) refl
    (some_text errors characters enough)

pub some_characters : (errors : ℕ) → errors ≤ 4100 → (rest : List ℕ) × FromCharacters errors rest
some_characters errors few =
    some_joined (IsCount errors 93) (FromNewline errors) errors (decimal errors ++ 93 ∷ [])
    (record { enough = omega arith; few = few; is_spelled = refl })
    (some_newline errors errors (omega arith))

pub some_errors : (rest : List ℕ) × FromErrors rest
some_errors = some_joined (IsCount 0 47) FromCharacters 0 (decimal 0 ++ 47 ∷ [])
    (record { enough = lit≤ tt; few = lit≤ tt; is_spelled = refl }) (some_characters 0 (lit≤ tt))

pub some_end : (rest : List ℕ) × FromEnd rest
some_end =
    some_joined IsEnd (λ how. FromErrors) Full (how_name Full ++ 32 ∷ []) refl some_errors

pub first_time : (rest : List ℕ) × FromTime rest
first_time =
    let time = some_time.1.1 in
    some_joined IsTime (λ moment. FromEnd) some_time.1.0 (some_time.0 ++ 32 ∷ []) (record {
      civil = some_time.0;
      in_range = time.in_range;
      shown = time.shown;
      is_spelled = refl;
    }) some_end

pub some_mark : (rest : List ℕ) × FromMark rest
some_mark =
    some_joined IsMark (λ channel. FromTime) Zero (channel_mark Zero ++ 32 ∷ []) refl first_time

-- no bytes are the beginning of an entry
pub nothing_lacks : CanEnd FromName []
nothing_lacks =
    let identity = identity_of some_letter some_letter 0 (lit≤ tt) in (
      (91 ∷ identity_bytes identity) ++ some_mark.0,
      join IsName (λ i. FromMark) identity (91 ∷ identity_bytes identity) some_mark.0 refl
          some_mark.1,
      λ n. omega (arith, ap length n),
    )

-- ---- the pieces

-- a piece that ends with one byte
pub with_end : (bytes piece rest : List ℕ) (x : ℕ) → bytes ≡ piece ++ (x ∷ rest)
    → bytes ≡ (piece ++ x ∷ []) ++ rest
with_end bytes piece rest x e = e ∙ sym (append_assoc piece (x ∷ []) rest)

-- two spellings with an end, of which one list begins with both
both_ends : (piece other t x y : List ℕ) (c d : ℕ) → t ≡ other ++ d ∷ []
    → (piece ++ c ∷ []) ++ x ≡ t ++ y → piece ++ (c ∷ x) ≡ other ++ (d ∷ y)
both_ends piece other t x y c d is e =
    sym (append_assoc piece (c ∷ []) x) ∙ e ∙ ap (λ l. l ++ y) is ∙ append_assoc other (d ∷ []) y

-- ---- the stages: what is lacked of an entry from a piece on

module _ (bytes : List ℕ) (lack : Lack) where
  pub behind_name : (identity : Identity) (rest : List ℕ)
      → bytes ≡ (91 ∷ identity_bytes identity) ++ rest → Lacks FromMark rest lack
      → Lacks FromName bytes lack
  behind_name identity rest e =
      lacks_behind IsName (λ i. FromMark) bytes lack identity (91 ∷ identity_bytes identity) rest
      refl e
      (λ other t x y is same. (ap (drop 5) (same ∙ ap (λ l. l ++ y) is), λ l f. f))

  pub behind_mark : (channel : Channel) (rest : List ℕ)
      → bytes ≡ channel_mark channel ++ (32 ∷ rest) → Lacks FromTime rest lack
      → Lacks FromMark bytes lack
  behind_mark channel rest e =
      lacks_behind IsMark (λ c. FromTime) bytes lack channel (channel_mark channel ++ 32 ∷ []) rest
      refl
      (with_end bytes (channel_mark channel) rest 32 e)
      (λ other t x y is same. (
        (same_mark channel other x y
            (both_ends (channel_mark channel) (channel_mark other) t x y 32 32 is same)).rest,
        λ l f. f,
      ))

  pub behind_time : (moment : ℕ) (civil rest : List ℕ) → moment ≤ last_moment
      → IsShownAs moment civil → bytes ≡ civil ++ (32 ∷ rest) → Lacks FromEnd rest lack
      → Lacks FromTime bytes lack
  behind_time moment civil rest small shown e =
      lacks_behind IsTime (λ m. FromEnd) bytes lack moment (civil ++ 32 ∷ []) rest
      (record { civil = civil; in_range = small; shown = shown; is_spelled = refl })
      (with_end bytes civil rest 32 e)
      (λ other t x y is same. (
        ap (drop 1) (same_time moment other civil is.civil (32 ∷ x) (32 ∷ y)
            shown is.shown (both_ends civil is.civil t x y 32 32 is.is_spelled same)).rest,
        λ l f. f,
      ))

  pub behind_end : (how : How) (rest : List ℕ) → bytes ≡ how_name how ++ (32 ∷ rest)
      → Lacks FromErrors rest lack → Lacks FromEnd bytes lack
  behind_end how rest e =
      lacks_behind IsEnd (λ h. FromErrors) bytes lack how (how_name how ++ 32 ∷ []) rest refl
      (with_end bytes (how_name how) rest 32 e)
      (λ other t x y is same. (
        (same_name how other x y
            (both_ends (how_name how) (how_name other) t x y 32 32 is same)).rest,
        λ l f. f,
      ))

  pub behind_errors : (n : ℕ) (rest : List ℕ) → n ≤ 4100 → bytes ≡ decimal n ++ (47 ∷ rest)
      → Lacks (FromCharacters n) rest lack → Lacks FromErrors bytes lack
  behind_errors n rest few e =
      lacks_behind (IsCount 0 47) FromCharacters bytes lack n (decimal n ++ 47 ∷ []) rest
      (record { enough = omega arith; few = few; is_spelled = refl })
      (with_end bytes (decimal n) rest 47 e)
      (λ other t x y is same.
      let small = is.few in
      let one = same_decimal n other 47 x y (omega arith) (omega arith) (inl (lit< tt))
      (both_ends (decimal n) (decimal other) t x y 47 47 is.is_spelled same) in
      (one.rest, λ l f. subst (λ k. FromCharacters k l) (sym one.piece) f))

  pub behind_characters : (errors n : ℕ) (rest : List ℕ) → errors ≤ n → n ≤ 4100
      → bytes ≡ decimal n ++ (93 ∷ rest) → Lacks (FromNewline errors n) rest lack
      → Lacks (FromCharacters errors) bytes lack
  behind_characters errors n rest enough few e =
      lacks_behind (IsCount errors 93) (FromNewline errors) bytes lack n (decimal n ++ 93 ∷ []) rest
      (record { enough = enough; few = few; is_spelled = refl })
      (with_end bytes (decimal n) rest 93 e)
      (λ other t x y is same.
      let small = is.few in
      let one = same_decimal n other 93 x y (omega arith) (omega arith) (inr (lit< tt))
      (both_ends (decimal n) (decimal other) t x y 93 93 is.is_spelled same) in
      (one.rest, λ l f. subst (λ k. FromNewline errors k l) (sym one.piece) f))

  pub behind_newline : (errors n : ℕ) (rest : List ℕ) → bytes ≡ newline ∷ rest
      → Lacks (FromText errors n) rest lack → Lacks (FromNewline errors n) bytes lack
  behind_newline errors n rest e =
      lacks_behind IsNewline (λ none. FromText errors n) bytes lack tt (newline ∷ []) rest refl e
      (λ other t x y is same. (ap (drop 1) (same ∙ ap (λ l. l ++ y) is), λ l f. f))

  pub behind_text : (errors n : ℕ) (text rest : List ℕ) → IsTextOf errors n text text
      → bytes ≡ text ++ rest → Lacks (IsBehindText text) rest lack
      → Lacks (FromText errors n) bytes lack
  behind_text errors n text rest is_text e =
      lacks_behind (IsTextOf errors n) IsBehindText bytes lack text text rest is_text e
      (λ other t x y is same.
      let one = same_text text other x y (is_text.has_characters ∙ sym is.has_characters)
      (same ∙ ap (λ l. l ++ y) is.is_spelled) in
      (one.rest, λ l f. subst (λ k. IsBehindText k l) (sym one.piece) f))

  -- where the piece isn't whole

  pub within_newline : (errors n : ℕ) → errors ≤ n
      → Lacks (λ spelled. spelled ≡ newline ∷ []) bytes lack
      → Lacks (FromNewline errors n) bytes lack
  within_newline errors n enough l =
      lacks_within IsNewline (λ none. FromText errors n) bytes lack
      (λ piece t is. some_text errors n enough)
      (lacks_same (λ spelled. spelled ≡ newline ∷ []) (Spells IsNewline) bytes lack
      (λ spelled is. (tt, is)) (λ spelled is. is.1) l)

-- behind a head
pub behind_head : (bytes rest : List ℕ) (head : LoggedHead) (lack : Lack)
    → BeginsWithHead bytes head rest → IsHead head
    → Lacks (FromText head.errors head.characters) rest lack → Lacks FromName bytes lack
behind_head bytes rest head lack h is l =
    behind_name bytes lack head.identity (mark_and head h.civil rest) h.spelled
    (behind_mark (mark_and head h.civil rest) lack head.channel
    (time_and_rest head h.civil rest) refl
    (behind_time (time_and_rest head h.civil rest) lack head.moment h.civil (how_and head rest)
    is.in_range h.shown refl
    (behind_end (how_and head rest) lack head.how (errors_and head rest) refl
    (behind_errors (errors_and head rest) lack head.errors (characters_and head rest) is.few refl
    (behind_characters (characters_and head rest) lack head.errors head.characters (10 ∷ rest)
    is.enough is.short refl
    (behind_newline (10 ∷ rest) lack head.errors head.characters rest refl l))))))
