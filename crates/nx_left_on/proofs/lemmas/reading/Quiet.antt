-- Of logs that no write tore nothing is told.
use Rattle.std.proofs.Common.{◌≡◌, inl, ℕ, ◌-◌, false, List, [], ◌∷◌, ◌++◌, length, None, ap, sym, ◌∙◌, refl, subst, arith, append-nil, append_assoc}
use Rattle.std.specs.List.{All, AllZip, concat, flat_map}
use Rattle.std.proofs.lemmas.Bool.{true≢false}
use Rattle.std.proofs.lemmas.List.Elements.{All-append, All-cons, All-nil}
use Rattle.nx_log.specs.Logged.{IsLoggedAs}
use Rattle.nx_log.specs.Reading.{Head, HoldEntriesToEnd, IsBlank, IsNoBracket, IsPart, IsTail, begun, is_begun, is_first, nothing, reach_behind, torn_line, whole}
use Rattle.nx_log.proofs.lemmas.reader.Steps.{are_read, with_part, part_more}
use Rattle.nx_log.proofs.lemmas.reading.Brackets.{entry_bracket}
use Rattle.nx_copies.specs.copies.Shares.{MarkedCopy}
use Rattle.nx_left_on.specs.ReadBack.{IsAsPut, all_of}
use Rattle.nx_left_on.proofs.lemmas.reading.Rests.{IsSpace, Rests, blanks_of, head_more, reach_most, rest_space, rests_first}

-- a log at rest of which nothing was told
pub record Quiet (bytes : List ℕ) (entries : List MarkedCopy) : Type 0 where
  pub rests : Rests bytes entries
  pub told : rests.before.told ≡ []
  pub last : rests.before.last ≡ []

pub quiet_first : Quiet [] []
unfolding rests_first
quiet_first = record { rests = rests_first; told = refl; last = refl }

no_line : (head : Head) (before front : List ℕ) → is_begun head ≡ false
    → torn_line head before front None ≡ []
no_line nothing before front h = refl
no_line (whole one) before front h = refl
no_line begun before front h = absurd (true≢false h)

-- a newline and an entry more
quiet_entry : (bytes text : List ℕ) (entries : List MarkedCopy) (one : MarkedCopy)
    → Quiet bytes entries → IsLoggedAs one text
    → Quiet (bytes ++ (10 ∷ text)) (entries ++ one ∷ [])
quiet_entry bytes text entries one q l =
    let r = q.rests in
    let reach = r.before.reach - length r.front in
    let tail = r.tail ++ 10 ∷ [] in
    let blank : All IsBlank tail =
    All-append IsBlank r.tail (10 ∷ []) (blanks_of r.tail r.spaces)
    (All-cons IsBlank 10 [] (inl refl) (All-nil IsBlank)) in
    let part : IsPart (is_first r.earlier) (r.front ++ tail) =
    subst (IsPart (is_first r.earlier)) (append_assoc r.front r.tail (10 ∷ []))
    (part_more (is_first r.earlier) (r.front ++ r.tail) (10 ∷ []) r.is_part
    (All-cons IsNoBracket 10 [] (λ e. omega (arith, e)) (All-nil IsNoBracket))) in
    let head = head_more (is_first r.earlier) r.head r.front r.tail tail r.not_begun r.is_head in
    let is_tail : IsTail (is_begun r.head) reach tail None (reach_behind reach tail) =
    (inl blank, refl) in
    let o = entry_bracket one text l in
    let same = sym (append-nil text) in
    let whole_of : r.before.bytes ++ (r.front ++ tail) ≡ bytes ++ 10 ∷ [] =
    ap (λ l. r.before.bytes ++ l) (sym (append_assoc r.front r.tail (10 ∷ [])))
    ∙ sym (append_assoc r.before.bytes (r.front ++ r.tail) (10 ∷ []))
    ∙ ap (λ l. l ++ 10 ∷ []) (sym r.split) in
    record {
      rests = record {
        earlier = (r.front ++ tail) ∷ r.earlier;
        before = with_part r.before r.head r.front tail None (reach_behind reach tail);
        are = are_read r.earlier r.before r.head r.front tail None (reach_behind reach tail) r.are
            part head is_tail;
        short = reach_most tail reach (omega (arith, r.short));
        head = whole one;
        front = text;
        tail = [];
        split = sym (append_assoc bytes (10 ∷ []) text) ∙ ap (λ l. l ++ text) (sym whole_of)
            ∙ ap (λ l. (r.before.bytes ++ (r.front ++ tail)) ++ l) same;
        is_part = subst (IsPart false) same (o.more, o.is, o.none);
        is_head = l;
        not_begun = refl;
        spaces = All-nil IsSpace;
        are_entries = ap (λ l. l ++ one ∷ []) r.are_entries;
      };
      told = ap (λ l. l ++ r.before.last) q.told ∙ q.last;
      last = no_line r.head r.before.bytes r.front r.not_begun;
    }

quiet_space : (bytes : List ℕ) (entries : List MarkedCopy) → Quiet bytes entries
    → Quiet (bytes ++ 32 ∷ []) entries
unfolding rest_space
quiet_space bytes entries q =
    record { rests = rest_space bytes entries q.rests; told = q.told; last = q.last }

quiet_texts : (entries : List MarkedCopy) (texts : List (List ℕ)) (bytes : List ℕ)
    (so_far : List MarkedCopy) → AllZip IsLoggedAs entries texts → Quiet bytes so_far
    → Quiet (bytes ++ flat_map (λ text. 10 ∷ text) texts) (so_far ++ entries)
quiet_texts [] [] bytes so_far each q =
    subst (λ l. Quiet l (so_far ++ [])) (sym (append-nil bytes))
    (subst (Quiet bytes) (sym (append-nil so_far)) q)
quiet_texts [] (t ∷ ts) bytes so_far each q = absurd each
quiet_texts (one ∷ entries) [] bytes so_far each q = absurd each
quiet_texts (one ∷ entries) (t ∷ ts) bytes so_far each q =
    let rest = flat_map (λ text. 10 ∷ text) ts in
    let first = quiet_entry bytes t so_far one q each.0 in
    let all = quiet_texts entries ts (bytes ++ (10 ∷ t)) (so_far ++ one ∷ []) each.1 first in
    subst (λ l. Quiet l (so_far ++ (one ∷ entries))) (append_assoc bytes (10 ∷ t) rest)
    (subst (Quiet ((bytes ++ (10 ∷ t)) ++ rest)) (append_assoc so_far (one ∷ []) entries) all)

quiet_file : (entries so_far : List MarkedCopy) (file bytes : List ℕ) → IsAsPut entries file
    → Quiet bytes so_far → Quiet (bytes ++ file) (so_far ++ entries)
quiet_file entries so_far file bytes w q =
    let texts = flat_map (λ text. 10 ∷ text) w.texts in
    let all = quiet_texts entries w.texts bytes so_far w.each q in
    subst (λ l. Quiet l (so_far ++ entries))
    (append_assoc bytes texts (32 ∷ []) ∙ ap (λ l. bytes ++ l) (sym w.whole))
    (quiet_space (bytes ++ texts) (so_far ++ entries) all)

pub quiet_files : (logs : List (List MarkedCopy)) (files : List (List ℕ))
    (so_far : List MarkedCopy) (bytes : List ℕ) → AllZip IsAsPut logs files → Quiet bytes so_far
    → Quiet (bytes ++ concat files) (so_far ++ all_of logs)
quiet_files [] [] so_far bytes each q =
    subst (λ l. Quiet l (so_far ++ [])) (sym (append-nil bytes))
    (subst (Quiet bytes) (sym (append-nil so_far)) q)
quiet_files [] (f ∷ files) so_far bytes each q = absurd each
quiet_files (es ∷ logs) [] so_far bytes each q = absurd each
quiet_files (es ∷ logs) (f ∷ files) so_far bytes each q =
    let first = quiet_file es so_far f bytes each.0 q in
    let all = quiet_files logs files (so_far ++ es) (bytes ++ f) each.1 first in
    subst (λ l. Quiet l (so_far ++ all_of (es ∷ logs))) (append_assoc bytes f (concat files))
    (subst (Quiet ((bytes ++ f) ++ concat files)) (append_assoc so_far es (all_of logs)) all)

-- at the end nothing is told either
pub quiet_end : (bytes : List ℕ) (entries : List MarkedCopy) → Quiet bytes entries
    → HoldEntriesToEnd bytes entries []
quiet_end bytes entries q =
    let r = q.rests in
    let reach = r.before.reach - length r.front in
    let is_tail : IsTail (is_begun r.head) reach r.tail None (reach_behind reach r.tail) =
    (inl (blanks_of r.tail r.spaces), refl) in
    let read = with_part r.before r.head r.front r.tail None (reach_behind reach r.tail) in
    record {
      read = read;
      is = record {
        part = r.front ++ r.tail;
        earlier = r.earlier;
        are = are_read r.earlier r.before r.head r.front r.tail None (reach_behind reach r.tail)
            r.are r.is_part r.is_head is_tail;
        all = sym r.split;
      };
      are_entries = r.are_entries;
      are_torn = sym (ap (λ l. (l ++ r.before.last) ++ read.last) q.told
          ∙ ap (λ l. l ++ read.last) q.last
          ∙ no_line r.head r.before.bytes r.front r.not_begun);
    }
