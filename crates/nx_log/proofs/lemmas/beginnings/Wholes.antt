-- All of an entry, by its pieces and by what it says.
use Rattle.std.proofs.Common.{◌≡◌, ◌≢◌, ℕ, ◌+◌, ◌-◌, List, [], ◌∷◌, ◌++◌, take, ap, length, subst, sym, ◌∙◌, refl, arith, append-nil, append_assoc}
use Rattle.std.specs.Prelude.{◌==◌, decimal}
use Rattle.std.proofs.lemmas.List.Sums.{count_by-le-length}
use Rattle.nx_code.specs.Reading.{asterisk}
use Rattle.std.proofs.lemmas.List.{length-append, take-append-le, take_all, nil_from_length}
use Rattle.nx_code.specs.Reading.{newline}
use Rattle.nx_envelope.specs.Identity.{identity_bytes}
use Rattle.nx_copies.specs.copies.Log.{channel_mark, how_name, missing_newline}
use Rattle.nx_copies.specs.copies.Shares.{MarkedCopy}
use Rattle.nx_log.specs.Entries.{IsWholeEntry, IsUnfinishedEntry}
use Rattle.nx_log.specs.Logged.{IsLoggedAs}
use Rattle.nx_log.specs.Starts.{StartsAs}
use Rattle.nx_log.specs.declared.entries.start.EntryStart.TheVariants.{Broken as EntryBroken}
use Rattle.nx_log.specs.View.{copy_said}
use Rattle.nx_log.specs.declared.entries.head.LoggedHead.{LoggedHead}
use Rattle.nx_log.specs.private.Heads.{head_and}
use Rattle.nx_log.specs.private.Stages.{BreakOff, CanEnd, FromName, Lacks}
use Rattle.nx_log.specs.declared.entries.lack.Lack.{Lack}
use Rattle.nx_log.specs.declared.entries.lack.Lack.TheVariants.{Unfinished, Broken}
use Rattle.nx_log.proofs.lemmas.reading.Entries.{body_and, entry_on, head_of, one_entry}
use Rattle.nx_log.proofs.lemmas.reading.Views.{is_entry}
use Rattle.nx_log.proofs.lemmas.beginnings.Lists.{joined}

ended : (bytes spelled rest s r : List ℕ) (x : ℕ) → bytes ≡ spelled ++ rest → spelled ≡ s ++ x ∷ []
    → rest ≡ r → bytes ≡ s ++ (x ∷ r)
ended bytes spelled rest s r x e is rest_is =
    joined bytes spelled rest (s ++ x ∷ []) r e is rest_is ∙ append_assoc s (x ∷ []) r

pub to_entry : (bytes : List ℕ) → FromName bytes → IsWholeEntry bytes
to_entry bytes name =
    let mark = name.is_rest in
    let time = mark.is_rest in
    let end = time.is_rest in
    let errors = end.is_rest in
    let characters = errors.is_rest in
    let line = characters.is_rest in
    let text = line.is_rest in
    let words = text.is_piece in
    let few = characters.is_piece.few in
    let head : LoggedHead = record {
      channel = mark.piece;
      identity = name.piece;
      moment = time.piece;
      how = end.piece;
      errors = errors.piece;
      characters = characters.piece;
    } in
    let civil = time.is_piece.civil in
    let body : line.rest ≡ body_and text.piece [] =
    joined line.rest text.spelled text.rest text.piece (missing_newline text.piece ++ newline ∷ [])
    text.split words.is_spelled text.is_rest in
    let from_line = joined characters.rest line.spelled line.rest (newline ∷ [])
    (body_and text.piece []) line.split line.is_piece body in
    let from_characters = ended errors.rest characters.spelled characters.rest
    (decimal characters.piece) (newline ∷ body_and text.piece []) 93 characters.split
    characters.is_piece.is_spelled from_line in
    let from_errors = ended end.rest errors.spelled errors.rest (decimal errors.piece)
    (decimal characters.piece ++ (93 ∷ newline ∷ body_and text.piece [])) 47 errors.split
    errors.is_piece.is_spelled from_characters in
    let from_end = ended time.rest end.spelled end.rest (how_name end.piece)
    (decimal errors.piece
    ++ (47 ∷ (decimal characters.piece ++ (93 ∷ newline ∷ body_and text.piece []))))
    32 end.split end.is_piece from_errors in
    let from_time = ended mark.rest time.spelled time.rest civil
    (how_name end.piece ++ (32 ∷ (decimal errors.piece ++ (47 ∷ (decimal characters.piece
    ++ (93 ∷ newline ∷ body_and text.piece [])))))) 32 time.split time.is_piece.is_spelled
    from_end in
    let from_mark = ended name.rest mark.spelled mark.rest (channel_mark mark.piece)
    (civil ++ (32 ∷ (how_name end.piece ++ (32 ∷ (decimal errors.piece
    ++ (47 ∷ (decimal characters.piece ++ (93 ∷ newline ∷ body_and text.piece [])))))))) 32
    mark.split mark.is_piece from_time in
    let whole : bytes ≡ head_and head civil (body_and text.piece []) =
    joined bytes name.spelled name.rest (91 ∷ identity_bytes name.piece) _ name.split name.is_piece
    from_mark in (
      copy_said head text.piece,
      record {
        logged = record {
          in_range = time.is_piece.in_range;
          short = omega (arith, words.has_characters);
          text = words.letters;
          selected = refl;
        };
        entry = rw whole (is_entry head text.piece bytes (body_and text.piece []) (record {
          civil = civil;
          shown = time.is_piece.shown;
          spelled = whole;
        }) (sym words.has_errors) (sym words.has_characters));
      },
    )

pub from_entry : (bytes : List ℕ) → IsWholeEntry bytes → FromName bytes
from_entry bytes whole =
    let one = whole.0 in
    let l = whole.1 in
    let head = head_of one in
    let text = one.copy.text in
    let civil = l.entry.civil in
    let short = l.logged.short in
    let few = count_by-le-length (λ b. b == asterisk) text in
    let e : bytes ≡ head_and head civil (body_and text []) =
    sym (append-nil bytes) ∙ entry_on one bytes [] l.entry in
    let from_text = text ++ (missing_newline text ++ newline ∷ []) in
    let from_line = newline ∷ from_text in
    let from_characters = (decimal head.characters ++ 93 ∷ []) ++ from_line in
    let from_errors = (decimal head.errors ++ 47 ∷ []) ++ from_characters in
    let from_end = (how_name head.how ++ 32 ∷ []) ++ from_errors in
    let from_time = (civil ++ 32 ∷ []) ++ from_end in
    let from_mark = (channel_mark head.channel ++ 32 ∷ []) ++ from_time in
    record {
      piece = head.identity;
      spelled = 91 ∷ identity_bytes head.identity;
      rest = from_mark;
      is_piece = refl;
      split = e ∙ simp append_assoc;
      is_rest = record {
        piece = head.channel;
        spelled = channel_mark head.channel ++ 32 ∷ [];
        rest = from_time;
        is_piece = refl;
        split = refl;
        is_rest = record {
          piece = head.moment;
          spelled = civil ++ 32 ∷ [];
          rest = from_end;
          is_piece = record {
            civil = civil;
            in_range = l.logged.in_range;
            shown = l.entry.shown;
            is_spelled = refl;
          };
          split = refl;
          is_rest = record {
            piece = head.how;
            spelled = how_name head.how ++ 32 ∷ [];
            rest = from_errors;
            is_piece = refl;
            split = refl;
            is_rest = record {
              piece = head.errors;
              spelled = decimal head.errors ++ 47 ∷ [];
              rest = from_characters;
              is_piece = record { enough = omega arith; few = omega arith; is_spelled = refl };
              split = refl;
              is_rest = record {
                piece = head.characters;
                spelled = decimal head.characters ++ 93 ∷ [];
                rest = from_line;
                is_piece = record { enough = omega arith; few = omega arith; is_spelled = refl };
                split = refl;
                is_rest = record {
                  piece = tt;
                  spelled = newline ∷ [];
                  rest = from_text;
                  is_piece = refl;
                  split = refl;
                  is_rest = record {
                    piece = text;
                    spelled = text;
                    rest = missing_newline text ++ newline ∷ [];
                    is_piece = record {
                      letters = l.logged.text;
                      has_errors = refl;
                      has_characters = refl;
                      is_spelled = refl;
                    };
                    is_rest = refl;
                    split = refl;
                  };
                };
              };
            };
          };
        };
      };
    }

-- bytes that lack something of an entry begin with none
pub none_begins : (bytes : List ℕ) (lack : Lack) → Lacks FromName bytes lack → (one : MarkedCopy)
    (entry more : List ℕ) → IsLoggedAs one entry → bytes ≢ entry ++ more
none_begins bytes Unfinished l one entry more is e =
    let whole = to_entry (bytes ++ l.0) l.1 in
    let rest = (one_entry one whole.0 entry (bytes ++ l.0) (more ++ l.0) [] is whole.1
    (sym (append_assoc entry more l.0) ∙ ap (λ b. b ++ l.0) (sym e)
    ∙ sym (append-nil (bytes ++ l.0)))).rest in
    l.2 (nil_from_length l.0 (omega (arith, ap length rest, length-append more l.0)))
none_begins bytes (Broken left) l one entry more is e =
    l.never l.behind entry more (from_entry entry (one, is)) (append_assoc l.front (l.byte ∷ [])
    l.behind ∙ ap (λ b. l.front ++ b) (sym l.first) ∙ sym l.split ∙ e)

pub unfinished : (bytes : List ℕ) → CanEnd FromName bytes → IsUnfinishedEntry bytes
unfinished bytes l = (l.0, to_entry (bytes ++ l.0) l.1, l.2)

-- where bytes break off, they stop being the beginning of an entry
pub broken : (bytes left : List ℕ) (n : ℕ) → BreakOff FromName bytes left
    → n ≡ length bytes - length left → StartsAs bytes (EntryBroken n)
broken bytes left n b e =
    let split = ap length b.split ∙ length-append b.front left in
    let some = ap length b.first in
    let count : n ≡ length b.front = omega arith in
    let next = b.front ++ b.byte ∷ [] in
    let whole : bytes ≡ next ++ b.behind =
    b.split ∙ ap (λ l. b.front ++ l) b.first ∙ sym (append_assoc b.front (b.byte ∷ []) b.behind) in
    let long : n + 1 ≡ length next = omega (arith, count, length-append b.front (b.byte ∷ [])) in
    let front : take n bytes ≡ b.front = ap (λ k. take k bytes) count
    ∙ ap (take (length b.front)) b.split ∙ take_front b.front left in
    let behind : take (n + 1) bytes ≡ next = ap (λ k. take k bytes) long
    ∙ ap (take (length next)) whole ∙ take_front next b.behind in (
      omega arith,
      subst IsUnfinishedEntry (sym front) (unfinished b.front b.can),
      λ entry. b.never [] next [] (from_entry next (subst IsWholeEntry behind entry)) refl,
      λ part. let u = subst IsUnfinishedEntry behind part in
          b.never u.0 (next ++ u.0) [] (from_entry (next ++ u.0) u.1)
          (sym (append-nil (next ++ u.0))),
    )
  where
    take_front : (xs ys : List ℕ) → take (length xs) (xs ++ ys) ≡ xs
    take_front xs ys =
        take-append-le (length xs) xs ys (omega arith) ∙ take_all (length xs) xs (omega arith)
