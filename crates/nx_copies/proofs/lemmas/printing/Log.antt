-- The bytes of a log.
use Rattle.std.proofs.Common.{◌≡◌, ℕ, true, ◌≤◌, List, [], ◌∷◌, ◌++◌, refl, sym, ap, ◌∙◌}
use Rattle.std.proofs.Common.{append_assoc, append-nil}
use Rattle.std.specs.List.{All, concat, AllZip}
use Rattle.std.proofs.lemmas.List.Folds.{concat-append}
use Rattle.std.proofs.lemmas.List.Elements.{All-head, All-tail}
use Rattle.nx_envelope.specs.Moment.{last_moment}
use Rattle.nx_envelope.proofs.lemmas.moments.EveryMoment.{every_moment}
use Rattle.nx_envelope.proofs.lemmas.moments.OneText.{one_text}
use Rattle.nx_code.specs.Lists.{Begins}
use Rattle.nx_code.specs.Reading.{newline}
use Rattle.nx_envelope.specs.Moment.{IsShownAs}
use Rattle.nx_fec.specs.declared.air_files.channel.Channel.{Channel}
use Rattle.nx_copies.specs.copies.FoundCopies.{TaggedCopy, headed_copy}
use Rattle.nx_copies.specs.copies.Log.{IsEntry, IsLog, entry_head, missing_newline}
use Rattle.nx_copies.specs.copies.Shares.{MarkedCopy, marked}
use Rattle.nx_copies.specs.declared.entry.EntryHead.{EntryHead}

-- the entry of a copy with this civil time
abbrev pub entry_with : Channel → TaggedCopy → List ℕ → List ℕ
entry_with channel copy civil =
    entry_head channel copy civil ++ copy.text ++ missing_newline copy.text ++ newline ∷ []

-- an entry by its parts
pub entry_of_parts : (head : EntryHead) (text : List ℕ) (channel : Channel)
    (civil line end : List ℕ) → IsShownAs head.moment civil
    → line ≡ entry_head channel (headed_copy head text true) civil
    → end ≡ missing_newline text ++ newline ∷ []
    → IsEntry (marked channel (headed_copy head text true)) (line ++ text ++ end)
entry_of_parts head text channel civil line end shown first last = record {
  civil = civil;
  shown = shown;
  spelled = ap (λ xs. xs ++ text ++ end) first
      ∙ ap (λ xs. entry_head channel (headed_copy head text true) civil ++ text ++ xs) last
      ∙ sym (append_assoc (entry_head channel (headed_copy head text true) civil ++ text)
      (missing_newline text) (newline ∷ []));
}

-- a copy has one entry
pub one_entry : (one : MarkedCopy) (xs ys : List ℕ) → IsEntry one xs → IsEntry one ys → xs ≡ ys
one_entry one xs ys e f =
    e.spelled
    ∙ ap (entry_with one.channel one.copy)
    (one_text one.copy.moment e.civil f.civil e.shown f.shown)
    ∙ sym f.spelled

one_list : (copies : List MarkedCopy) (es fs : List (List ℕ)) → AllZip IsEntry copies es
    → AllZip IsEntry copies fs → es ≡ fs
one_list [] [] [] h k = refl
one_list [] [] (f ∷ fs) h k = absurd k
one_list [] (e ∷ es) fs h k = absurd h
one_list (c ∷ cs) [] fs h k = absurd h
one_list (c ∷ cs) (e ∷ es) [] h k = absurd k
one_list (c ∷ cs) (e ∷ es) (f ∷ fs) h k =
    ap (λ x. x ∷ es) (one_entry c e f h.0 k.0) ∙ ap (λ xs. f ∷ xs) (one_list cs es fs h.1 k.1)

pub one_log : (copies : List MarkedCopy) (xs ys : List ℕ) → IsLog copies xs → IsLog copies ys
    → xs ≡ ys
one_log copies xs ys l m =
    l.joined ∙ ap concat (one_list copies l.entries m.entries l.each m.each) ∙ sym m.joined

-- the log of one copy
pub one-log : (copy : MarkedCopy) (bytes : List ℕ) → IsEntry copy bytes → IsLog (copy ∷ []) bytes
one-log copy bytes h = record
    { entries = bytes ∷ []; each = (h, tt); joined = sym (append-nil bytes) }

-- the log of none
pub no-log : IsLog [] []
no-log = record { entries = []; each = tt; joined = refl }

zip_join : (as' bs : List MarkedCopy) (es fs : List (List ℕ)) → AllZip IsEntry as' es
    → AllZip IsEntry bs fs → AllZip IsEntry (as' ++ bs) (es ++ fs)
zip_join [] bs [] fs h k = k
zip_join [] bs (e ∷ es) fs h k = absurd h
zip_join (c ∷ cs) bs [] fs h k = absurd h
zip_join (c ∷ cs) bs (e ∷ es) fs h k = (h.0, zip_join cs bs es fs h.1 k)

-- a log and then another are the log of both
pub logs_join : (front back : List MarkedCopy) (xs ys : List ℕ) → IsLog front xs → IsLog back ys
    → IsLog (front ++ back) (xs ++ ys)
logs_join front back xs ys l m = record {
  entries = l.entries ++ m.entries;
  each = zip_join front back l.entries m.entries l.each m.each;
  joined = ap (λ bs. bs ++ ys) l.joined ∙ ap (λ bs. concat l.entries ++ bs) m.joined
      ∙ sym (concat-append l.entries m.entries);
}

record Cut (front back : List MarkedCopy) (es : List (List ℕ)) : Type 0 where
  left : List (List ℕ)
  right : List (List ℕ)
  whole : es ≡ left ++ right
  front_each : AllZip IsEntry front left
  back_each : AllZip IsEntry back right

cut : (front back : List MarkedCopy) (es : List (List ℕ)) → AllZip IsEntry (front ++ back) es
    → Cut front back es
cut [] back es h = record { left = []; right = es; whole = refl; front_each = tt; back_each = h }
cut (c ∷ cs) back [] h = absurd h
cut (c ∷ cs) back (e ∷ es) h =
    let rest = cut cs back es h.1 in
    record {
      left = e ∷ rest.left;
      right = rest.right;
      whole =
          ap (λ xs. e ∷ xs) rest.whole;
      front_each = (h.0, rest.front_each);
      back_each =
          rest.back_each;
    }

-- the log of a beginning is a beginning of the log
pub log_begins : (front back : List MarkedCopy) (bytes whole : List ℕ) → IsLog front bytes
    → IsLog (front ++ back) whole → Begins bytes whole
log_begins front back bytes whole l m =
    let c = cut front back m.entries m.each in (
      concat c.right,
      m.joined ∙ ap concat c.whole ∙ concat-append c.left c.right
          ∙ ap (λ xs. xs ++ concat c.right)
          (ap concat (one_list front c.left l.entries c.front_each l.each) ∙ sym l.joined),
    )

-- copies whose moments are in range have a log
pub some_log : (copies : List MarkedCopy)
    → All (λ (one : MarkedCopy). one.copy.moment ≤ last_moment) copies
    → (bytes : List ℕ) × IsLog copies bytes
some_log [] k = ([], record { entries = []; each = tt; joined = refl })
some_log (c ∷ cs) k =
    let shown = every_moment c.copy.moment
    (All-head (λ (one : MarkedCopy). one.copy.moment ≤ last_moment) c cs k) in
    let rest = some_log cs
    (All-tail (λ (one : MarkedCopy). one.copy.moment ≤ last_moment) c cs k) in
    let here = entry_with c.channel c.copy shown.text in
    let entry : IsEntry c here =
    record { civil = shown.text; shown = shown.is_shown; spelled = refl } in (
      here ++ rest.0,
      record {
        entries = here ∷ rest.1.entries;
        each = (entry, rest.1.each);
        joined = ap (λ bs. here ++ bs) rest.1.joined;
      },
    )
