-- An entry is told by its bytes, whatever stands behind them.
use Rattle.std.proofs.Common.{◌≡◌, ℕ, ◌<◌, ◌≤◌, true, List, [], ◌∷◌, ◌++◌, get_or, drop, length, ap, sym, ◌∙◌, refl, arith, append_assoc}
use Rattle.std.proofs.Common.{inl, inr}
use Rattle.nx_envelope.specs.Copies.{errors_of}
use Rattle.nx_code.specs.Reading.{newline}
use Rattle.nx_fec.specs.declared.air_files.channel.Channel.{Channel}
use Rattle.nx_copies.specs.copies.Log.{IsEntry, entry_head, channel_mark, how_name, is_of_lines, missing_newline}
use Rattle.nx_copies.specs.copies.Shares.{MarkedCopy}
use Rattle.std.proofs.Common.{false, lit<, lit≤}
use Rattle.std.specs.Prelude.{if◌then◌else◌, codes, decimal}
use Rattle.nx_envelope.specs.Identity.{identity_bytes}
use Rattle.std.proofs.lemmas.Fmt.{length-decimal-le}
use Rattle.nx_envelope.specs.declared.found.How.TheVariants.{Full, Cut, Long}
use Rattle.nx_fec.specs.declared.air_files.channel.Channel.TheVariants.{Zero, One, Two}
use Rattle.std.proofs.Common.{Bool}
use Rattle.std.specs.Prelude.{◌==◌}
use Rattle.std.proofs.lemmas.List.Sums.{count_by-le-length}
use Rattle.nx_code.specs.Reading.{asterisk}
use Rattle.nx_envelope.specs.declared.found.How.{How}
use Rattle.std.proofs.lemmas.List.{append_cancel_left}
use Rattle.nx_envelope.specs.declared.identity.Identity.{Identity}
use Rattle.nx_envelope.proofs.lemmas.headers.Identities.{same_from_bytes}
use Rattle.nx_log.proofs.lemmas.texts.Moments.{same_number, same_time}
use Rattle.nx_log.specs.declared.entries.head.LoggedHead.{LoggedHead}
use Rattle.nx_log.specs.private.Heads.{BeginsWithHead, IsHead, head_and}
use Rattle.nx_log.proofs.lemmas.reading.Pieces.{Same, same_mark, same_name, same_decimal, same_text}
use Rattle.std.specs.List.{All, AllZip, concat}
use Rattle.std.proofs.Common.{append-nil}
use Rattle.std.proofs.lemmas.List.{length-append}
use Rattle.std.proofs.lemmas.List.Elements.{All-head, All-tail}
use Rattle.nx_log.specs.Logged.{IsLogged, IsLoggedAs, IsLogOfLogged}

-- what the head of a copy says
abbrev pub head_of : MarkedCopy → LoggedHead
head_of one = record {
  channel = one.channel;
  identity = one.copy.identity;
  moment = one.copy.moment;
  how = one.copy.how;
  errors = errors_of one.copy.text;
  characters = length one.copy.text;
}

-- what stands behind the head of an entry, and behind the entry
abbrev pub body_and : List ℕ → List ℕ → List ℕ
body_and text more = text ++ (missing_newline text ++ (newline ∷ more))

-- the bytes of an entry and what stands behind it, from left to right
abbrev pub entry_and : MarkedCopy → List ℕ → List ℕ → List ℕ
entry_and one civil more = head_and (head_of one) civil (body_and one.copy.text more)

-- the pieces of an entry and what stands behind it, as they are put together and in turn
pub in_order : (bracket name mark space civil how errors slash characters last text missing end
    more : List ℕ)
    → ((bracket ++ name ++ mark ++ (space ++ civil) ++ (space ++ how) ++ (space ++ errors)
    ++ (slash ++ characters) ++ last) ++ text ++ missing ++ end) ++ more
    ≡ (bracket ++ name) ++ (mark ++ (space ++ (civil ++ (space ++ (how ++ (space ++ (errors
    ++ (slash ++ (characters ++ (last ++ (text ++ (missing ++ (end ++ more)))))))))))))
in_order bracket name mark space civil how errors slash characters last text missing end more =
    simp append_assoc

pub entry_on : (one : MarkedCopy) (bytes more : List ℕ) → (entry : IsEntry one bytes)
    → bytes ++ more ≡ entry_and one entry.civil more
unfolding entry_head
entry_on one bytes more entry =
    ap (λ l. l ++ more) entry.spelled
    ∙ in_order (codes "[") (identity_bytes one.copy.identity) (channel_mark one.channel) (codes " ")
    entry.civil (how_name one.copy.how) (decimal (errors_of one.copy.text)) (codes "/")
    (decimal (length one.copy.text)) (codes "]\n") one.copy.text (missing_newline one.copy.text)
    (newline ∷ []) more

-- two logged entries that begin alike are one
pub record SameEntry (a b : MarkedCopy) (x y : List ℕ) : Type 0 where
  pub entry : a ≡ b
  pub rest : x ≡ y

-- a copy by its parts
abbrev made : Channel → Identity → How → List ℕ → ℕ → Bool → MarkedCopy
made channel identity how text moment selected = record {
  channel = channel;
  copy = record
      { identity = identity; how = how; text = text; moment = moment; selected = selected };
}

pub same_copy : (a b : MarkedCopy) → a.channel ≡ b.channel → a.copy.identity ≡ b.copy.identity
    → a.copy.how ≡ b.copy.how → a.copy.text ≡ b.copy.text → a.copy.moment ≡ b.copy.moment
    → a.copy.selected ≡ b.copy.selected → a ≡ b
same_copy a b channel identity how text moment selected =
    let same : made a.channel a.copy.identity a.copy.how a.copy.text a.copy.moment a.copy.selected
    ≡ made b.channel b.copy.identity b.copy.how b.copy.text b.copy.moment b.copy.selected =
    rw (channel, identity, how, text, moment, selected) refl in same

-- a head by its parts
abbrev said : Channel → Identity → ℕ → How → ℕ → ℕ → LoggedHead
said channel identity moment how errors characters = record {
  channel = channel;
  identity = identity;
  moment = moment;
  how = how;
  errors = errors;
  characters = characters;
}

-- a head is told by its bytes, whatever stands behind it
same_head : (a b : LoggedHead) → a.channel ≡ b.channel → a.identity ≡ b.identity
    → a.moment ≡ b.moment → a.how ≡ b.how → a.errors ≡ b.errors → a.characters ≡ b.characters
    → a ≡ b
same_head a b channel identity moment how errors characters =
    let same : said a.channel a.identity a.moment a.how a.errors a.characters
    ≡ said b.channel b.identity b.moment b.how b.errors b.characters =
    rw (channel, identity, moment, how, errors, characters) refl in same

pub one_head : (bytes : List ℕ) (a b : LoggedHead) (x y : List ℕ) → IsHead a → IsHead b
    → BeginsWithHead bytes a x → BeginsWithHead bytes b y → Same a b x y
one_head bytes a b x y l m s o =
    let e = sym s.spelled ∙ o.spelled in
    let station = ap (λ (l : List ℕ). get_or l 1 0) e in
    let subject = ap (λ (l : List ℕ). get_or l 2 0) e in
    let number = same_number a.identity.number b.identity.number
    (ap (λ (l : List ℕ). get_or l 3 0) e) (ap (λ (l : List ℕ). get_or l 4 0) e) in
    let identity = same_from_bytes a.identity b.identity station subject number in
    let mark = same_mark a.channel b.channel _ _ (ap (drop 5) e) in
    let time = same_time a.moment b.moment s.civil o.civil _ _ s.shown o.shown mark.rest in
    let name = same_name a.how b.how _ _ (ap (drop 1) time.rest) in
    let few = l.few in
    let few_too = m.few in
    let short = l.short in
    let short_too = m.short in
    let errors = same_decimal a.errors b.errors 47 _ _ (omega arith) (omega arith)
    (inl (lit< tt)) name.rest in
    let characters = same_decimal a.characters b.characters 93 _ _ (omega arith) (omega arith)
    (inr (lit< tt)) errors.rest in
    record {
      piece = same_head a b mark.piece identity time.moment name.piece errors.piece
          characters.piece;
      rest = ap (drop 1) characters.rest;
    }

-- the head of a logged entry, and what stands behind it
pub head_is : (one : MarkedCopy) → IsLogged one → IsHead (head_of one)
head_is one l = record {
  in_range = l.in_range;
  few = let short = l.short in
      omega (arith, count_by-le-length (λ b. b == asterisk) one.copy.text);
  short = l.short;
  enough = count_by-le-length (λ b. b == asterisk) one.copy.text;
}

pub begins_with_head : (one : MarkedCopy) (entry more bytes : List ℕ) → (l : IsLoggedAs one entry)
    → bytes ≡ entry ++ more
    → BeginsWithHead bytes (head_of one) (body_and one.copy.text more)
begins_with_head one entry more bytes l e = record {
  civil = l.entry.civil;
  shown = l.entry.shown;
  spelled = e ∙ entry_on one entry more l.entry;
}

-- no bytes begin with two logged entries, and none of them begins another's
pub one_entry : (a b : MarkedCopy) (u v x y : List ℕ) → IsLoggedAs a u → IsLoggedAs b v
    → u ++ x ≡ v ++ y → SameEntry a b x y
one_entry a b u v x y l m e =
    let head = one_head (u ++ x) (head_of a) (head_of b) _ _ (head_is a l.logged)
    (head_is b m.logged) (begins_with_head a u x (u ++ x) l refl)
    (begins_with_head b v y (u ++ x) m e) in
    let text = same_text a.copy.text b.copy.text _ _
    (ap (λ (h : LoggedHead). h.characters) head.piece) head.rest in
    let rest = append_cancel_left (missing_newline a.copy.text) _ _
    (text.rest ∙ ap (λ t. missing_newline t ++ (newline ∷ y)) (sym text.piece)) in
    record {
      entry = same_copy a b (ap (λ (h : LoggedHead). h.channel) head.piece)
          (ap (λ (h : LoggedHead). h.identity) head.piece)
          (ap (λ (h : LoggedHead). h.how) head.piece) text.piece
          (ap (λ (h : LoggedHead). h.moment) head.piece)
          (l.logged.selected ∙ sym m.logged.selected);
      rest = ap (drop 1) rest;
    }

-- an entry has bytes
pub entry_is_some : (one : MarkedCopy) (bytes : List ℕ) → IsEntry one bytes → 0 < length bytes
unfolding entry_head
entry_is_some one bytes e =
    let n = ap length (sym (append-nil bytes) ∙ entry_on one bytes [] e) in omega (arith, n)

-- a log is that of one list of logged entries
pub one_reading : (entries others : List MarkedCopy) (bytes : List ℕ)
    → IsLogOfLogged entries bytes → IsLogOfLogged others bytes → entries ≡ others
one_reading entries others bytes l m =
    same_all entries others l.log.entries m.log.entries l.logged m.logged l.log.each m.log.each
    (sym l.log.joined ∙ m.log.joined)
  where
    same_all : (as' bs : List MarkedCopy) (es fs : List (List ℕ)) → All IsLogged as'
        → All IsLogged bs → AllZip IsEntry as' es → AllZip IsEntry bs fs → concat es ≡ concat fs
        → as' ≡ bs
    same_all [] [] es fs l m h k e = refl
    same_all [] (b ∷ bs) [] [] l m h k e = absurd k
    same_all [] (b ∷ bs) [] (f ∷ fs) l m h k e =
        let some = entry_is_some b f k.0 in
        absurd (omega (arith, some, ap length e, length-append f (concat fs)))
    same_all [] (b ∷ bs) (x ∷ es) fs l m h k e = absurd h
    same_all (a ∷ as') [] [] fs l m h k e = absurd h
    same_all (a ∷ as') [] (x ∷ es) [] l m h k e =
        let some = entry_is_some a x h.0 in
        absurd (omega (arith, some, ap length e, length-append x (concat es)))
    same_all (a ∷ as') [] (x ∷ es) (f ∷ fs) l m h k e = absurd k
    same_all (a ∷ as') (b ∷ bs) [] fs l m h k e = absurd h
    same_all (a ∷ as') (b ∷ bs) (x ∷ es) [] l m h k e = absurd k
    same_all (a ∷ as') (b ∷ bs) (x ∷ es) (f ∷ fs) l m h k e =
        let first = one_entry a b x f (concat es) (concat fs)
        (record { logged = All-head IsLogged a as' l; entry = h.0 })
        (record { logged = All-head IsLogged b bs m; entry = k.0 }) e in
        ap (λ c. c ∷ as') first.entry
        ∙ ap (λ cs. b ∷ cs)
        (same_all as' bs es fs (All-tail IsLogged a as' l) (All-tail IsLogged b bs m) h.1 k.1
        first.rest)

mark_short : (channel : Channel) → length (channel_mark channel) ≤ 2
mark_short Zero = lit≤ tt
mark_short One = lit≤ tt
mark_short Two = lit≤ tt

name_short : (how : How) → length (how_name how) ≤ 4
name_short Full = lit≤ tt
name_short Cut = lit≤ tt
name_short Long = lit≤ tt

newline_short : (text : List ℕ) → length (missing_newline text) ≤ 1
unfolding missing_newline
newline_short text = elim (is_of_lines text) as (λ b. length (if b then [] else newline ∷ []) ≤ 1)
    [ true ↦ lit≤ tt | false ↦ lit≤ tt ]

-- the longest entry has 4,146 bytes
pub entry_bounded : (one : MarkedCopy) (bytes : List ℕ) → IsLoggedAs one bytes
    → length bytes ≤ 4146
entry_bounded one bytes l =
    let s = l.entry.shown in
    let short = l.logged.short in
    let e = ap length (sym (append-nil bytes) ∙ entry_on one bytes [] l.entry) in
    let f = simp length-append at e in
    let mark = mark_short one.channel in
    let name = name_short one.copy.how in
    let civil : length l.entry.civil ≡ 19 = ap length s.is_text in
    let few : errors_of one.copy.text ≤ 4100 =
    omega (arith, count_by-le-length (λ b. b == asterisk) one.copy.text) in
    let errors = length-decimal-le 4 (errors_of one.copy.text) (lit< tt) (omega arith) (omega arith)
    in
    let characters = length-decimal-le 4 (length one.copy.text) (lit< tt) (omega arith)
    (omega arith)
    in
    let newline = newline_short one.copy.text in
    omega (arith, f)
