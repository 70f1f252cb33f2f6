-- The text of a state: how far it was read, and what stands next.
use Rattle.std.proofs.Common.{◌≡◌, ◌≢◌, ◌⊎◌, ℕ, ◌<◌, ◌≤◌, Bool, true, false, cond, List, [], ◌∷◌}
use Rattle.std.proofs.Common.{◌++◌, length, map, get_or, codes, Some, None, inl, inr, refl, sym, ap}
use Rattle.std.proofs.Common.{◌∙◌, subst, append_assoc, arith}
use Rattle.std.specs.List.{AllByRecursion}
use Rattle.std.specs.Str.{bytes_eq}
use Rattle.std.specs.FinSet as set
use Rattle.std.specs.Ordering.{nat_cmp}
use Rattle.std.proofs.lemmas.Bool.{true≢false}
use Rattle.std.proofs.lemmas.Option.{cond_some, none-some}
use Rattle.std.proofs.lemmas.Slice.Eq.{bytes_eq-Decides}
use Rattle.nx_memory.specs.declared.state.saved_line.SavedLine.{SavedLine}
use Rattle.nx_memory.specs.declared.state.saved_line.SavedLine.TheVariants.{Station, Subject, Entry}
use Rattle.nx_memory.specs.declared.state.state_reader.StateStage.{StateStage}
use Rattle.nx_memory.specs.declared.state.state_reader.StateStage.TheVariants.{Start, Version1, Version2}
use Rattle.nx_memory.specs.declared.state.state_reader.StateStage.TheVariants.{Channel0, Channel1, Channel2}
use Rattle.nx_memory.specs.Saved.{SavedState, SavedStates, IsSavedState, AreSavedStates}
use Rattle.nx_memory.specs.Saved.{nothing_saved, on_channel_0}
use Rattle.nx_memory.specs.StateText.{spelling, said, section, last_line, text_1, text_2}
use Rattle.nx_memory.specs.StateText.{IsStateText, BeginsText, BeginsNoText}
use Rattle.nx_memory.specs.private.StateReading.{IsRefused, IsRefusedAt, IsReading, IsAhead, lines_read}
use Rattle.nx_memory.specs.private.StateReading.{opened, may_end}
use Rattle.nx_memory.proofs.lemmas.Content.{content-nil}
use Rattle.nx_memory.proofs.lemmas.Rising.{rising-empty}
use Rattle.nx_code.proofs.lemmas.Each.{each_right}
use Rattle.nx_memory.proofs.lemmas.StateLines.{each, each_map}

-- nothing has no lines, and can be saved
pub section_nothing : section nothing_saved ≡ []
section_nothing = ap (λ (l : List ℕ). map spelling (map Station l ++ (map Subject l ++ [])))
    rising-empty

pub nothing_sound : IsSavedState nothing_saved
nothing_sound = record {
  refused = record {
    stations = λ q there. absurd (true≢false (sym there ∙ set.contains-empty nat_cmp q));
    subjects = λ q there. absurd (true≢false (sym there ∙ set.contains-empty nat_cmp q));
    without_vital = λ q _. set.contains-empty nat_cmp q;
  };
  entries = record { content = content-nil; in_range = omega arith };
}

-- what a line opens
pub record Opens (stage : StateStage) (states : SavedStates) (line : List ℕ)
    (next : StateStage) : Type 0
  where
    pub lines : lines_read next states ≡ lines_read stage states ++ line ∷ []
    pub reading : IsReading next states

is_line : (line word : List ℕ) → bytes_eq line word ≡ true → line ≡ word
is_line line word h = (bytes_eq-Decides line word).0 h

one_line_text : (head : List ℕ) (saved : SavedState) (line : List ℕ) → saved ≡ nothing_saved
    → line ≡ head → head ∷ section saved ≡ line ∷ []
one_line_text head saved line new is =
    ap (λ (s : SavedState). head ∷ section s) new
    ∙ ap (λ (l : List (List ℕ)). head ∷ l) section_nothing
    ∙ ap (λ (l : List ℕ). l ∷ []) (sym is)

opens_version : (b c : Bool) (next : StateStage)
    → cond b (Some Version1) (cond c (Some Version2) None) ≡ Some next
    → ((b ≡ true) × (Version1 ≡ next)) ⊎ ((c ≡ true) × (Version2 ≡ next))
opens_version true c next e = inl (refl, cc)
opens_version false true next e = inr (refl, cc)
opens_version false false next e = absurd (none-some next e)

reads_with : (stage next : StateStage) (states : SavedStates) → IsReading stage states
    → IsAhead next states → IsReading next states
reads_with stage next states is ahead =
    record { on_0 = is.on_0; on_1 = is.on_1; on_2 = is.on_2; ahead = ahead }

pub opens : (stage : StateStage) (states : SavedStates) (line : List ℕ) (next : StateStage)
    → IsReading stage states → Some next ≡ opened stage line → Opens stage states line next
opens Start states line next is e =
    elim (opens_version (bytes_eq line (codes "STATE 1")) (bytes_eq line (codes "STATE 2")) next
    (sym e)) [
      | inl p ↦ subst (Opens Start states line) p.1 (record {
        lines = one_line_text (codes "STATE 1") states.on_0 line is.ahead.0
            (is_line line (codes "STATE 1") p.0);
        reading = reads_with Start Version1 states is (is.ahead.1, is.ahead.2);
      })
      | inr p ↦ subst (Opens Start states line) p.1 (record {
        lines = ap (λ (l : List ℕ). l ∷ []) (sym (is_line line (codes "STATE 2") p.0));
        reading = reads_with Start Version2 states is is.ahead;
      })
    ]
opens Version1 states line next is e = absurd (none-some next (sym e))
opens Version2 states line next is e =
    let p = cond_some (bytes_eq line (codes "C0")) Channel0 next (sym e) in
    subst (Opens Version2 states line) p.1 (record {
      lines = ap (λ (l : List (List ℕ)). codes "STATE 2" ∷ l)
          (one_line_text (codes "C0") states.on_0 line is.ahead.0 (is_line line (codes "C0") p.0));
      reading = reads_with Version2 Channel0 states is (is.ahead.1, is.ahead.2);
    })
opens Channel0 states line next is e =
    let p = cond_some (bytes_eq line (codes "C1")) Channel1 next (sym e) in
    subst (Opens Channel0 states line) p.1 (record {
      lines = ap (λ (l : List (List ℕ)). codes "STATE 2" ∷ codes "C0" ∷ (section states.on_0 ++ l))
          (one_line_text (codes "C1") states.on_1 line is.ahead.0 (is_line line (codes "C1") p.0));
      reading = reads_with Channel0 Channel1 states is is.ahead.1;
    })
opens Channel1 states line next is e =
    let p = cond_some (bytes_eq line (codes "C2")) Channel2 next (sym e) in
    subst (Opens Channel1 states line) p.1 (record {
      lines =
          ap (λ (l : List (List ℕ)). codes "STATE 2" ∷ codes "C0"
          ∷ (section states.on_0 ++ codes "C1" ∷ (section states.on_1 ++ l)))
          (one_line_text (codes "C2") states.on_2 line is.ahead (is_line line (codes "C2") p.0))
          ∙ ap (λ (l : List (List ℕ)). codes "STATE 2" ∷ codes "C0" ∷ l)
          (sym (append_assoc (section states.on_0) (codes "C1" ∷ section states.on_1)
          (line ∷ [])));
      reading = reads_with Channel1 Channel2 states is tt;
    })
opens Channel2 states line next is e = absurd (none-some next (sym e))

-- a text begins with what was read
sound_states : (stage : StateStage) (states : SavedStates) → IsReading stage states
    → AreSavedStates states
sound_states stage states is = record { on_0 = is.on_0; on_1 = is.on_1; on_2 = is.on_2 }

all_read : (states : SavedStates) (rest : List (List ℕ))
    → lines_read Channel2 states ++ rest
    ≡ codes "STATE 2" ∷ codes "C0"
    ∷ (section states.on_0 ++ codes "C1"
    ∷ (section states.on_1 ++ codes "C2" ∷ (section states.on_2 ++ rest)))
all_read states rest =
    ap (λ (l : List (List ℕ)). codes "STATE 2" ∷ codes "C0" ∷ l)
    (append_assoc (section states.on_0)
    (codes "C1" ∷ (section states.on_1 ++ codes "C2" ∷ section states.on_2)) rest
    ∙ ap (λ (l : List (List ℕ)). section states.on_0 ++ codes "C1" ∷ l)
    (append_assoc (section states.on_1) (codes "C2" ∷ section states.on_2) rest))

pub begins : (stage : StateStage) (states : SavedStates) → IsReading stage states
    → BeginsText (lines_read stage states)
begins Start states is = record {
  next = codes "STATE 1";
  more = section nothing_saved ++ last_line;
  states = on_channel_0 nothing_saved;
  is = inl (record {
    saved = nothing_saved;
    sound = nothing_sound;
    spelled = refl;
    stands_for =
        refl;
  });
}
begins Version1 states is = record {
  next = codes "END";
  more = [];
  states = on_channel_0 states.on_0;
  is = inl (record { saved = states.on_0; sound = is.on_0; spelled = refl; stands_for = refl });
}
begins Version2 states is = record {
  next = codes "C0";
  more = section states.on_0
      ++ codes "C1" ∷ (section states.on_1 ++ codes "C2" ∷ (section states.on_2 ++ last_line));
  states = states;
  is = inr (record { sound = sound_states Version2 states is; spelled = refl });
}
begins Channel0 states is = record {
  next = codes "C1";
  more = section states.on_1 ++ codes "C2" ∷ (section states.on_2 ++ last_line);
  states = states;
  is = inr (record { sound = sound_states Channel0 states is; spelled = refl });
}
begins Channel1 states is = record {
  next = codes "C2";
  more = section states.on_2 ++ last_line;
  states = states;
  is = inr (record {
    sound = sound_states Channel1 states is;
    spelled = ap (λ (l : List (List ℕ)). codes "STATE 2" ∷ codes "C0" ∷ l)
        (append_assoc (section states.on_0) (codes "C1" ∷ section states.on_1)
        (codes "C2" ∷ (section states.on_2 ++ last_line)));
  });
}
begins Channel2 states is = record {
  next = codes "END";
  more = [];
  states = states;
  is = inr (record {
    sound = sound_states Channel2 states is;
    spelled =
        all_read states last_line;
  });
}

-- and with its last line it is one
pub whole : (stage : StateStage) (states : SavedStates) (line : List ℕ) → IsReading stage states
    → may_end stage ≡ true → line ≡ codes "END"
    → IsStateText (lines_read stage states ++ line ∷ []) states
whole Start states line is may end = absurd (true≢false (sym may))
whole Version1 states line is may end = inl (record {
  saved = states.on_0;
  sound = is.on_0;
  spelled = ap (λ (l : List ℕ). codes "STATE 1" ∷ (section states.on_0 ++ l ∷ [])) end;
  stands_for =
      ap (λ (s : SavedState). record { on_0 = states.on_0; on_1 = s; on_2 = states.on_2 })
      is.ahead.0
      ∙ ap (λ (s : SavedState). record { on_0 = states.on_0; on_1 = nothing_saved; on_2 = s })
      is.ahead.1;
})
whole Version2 states line is may end = absurd (true≢false (sym may))
whole Channel0 states line is may end = absurd (true≢false (sym may))
whole Channel1 states line is may end = absurd (true≢false (sym may))
whole Channel2 states line is may end = inr (record {
  sound = sound_states Channel2 states is;
  spelled = ap (λ (l : List ℕ). lines_read Channel2 states ++ l ∷ []) end
      ∙ all_read states last_line;
})

-- the lines of a channel are longer than the others
abbrev pub IsLong : List ℕ → Type 0
IsLong line = 3 < length line

spelled_long : (it : SavedLine) → IsLong (spelling it)
spelled_long (Station x) = omega arith
spelled_long (Subject x) = omega arith
spelled_long (Entry e) = omega arith

pub section_long : (saved : SavedState) → AllByRecursion IsLong (section saved)
section_long saved = each_map IsLong spelling (said saved) (each _ spelled_long (said saved))

-- where long lines and a short one begin as other long lines and one more do, that is the short
-- one, or it is among the first
pub cut : (xs ys : List (List ℕ)) (c l : List ℕ) (r m : List (List ℕ)) → AllByRecursion IsLong ys
    → length c ≤ 3 → xs ++ c ∷ r ≡ ys ++ l ∷ m
    → ((xs ≡ ys) × (l ≡ c) × (m ≡ r)) ⊎ ((more : List (List ℕ)) × (xs ≡ ys ++ l ∷ more))
cut [] [] c l r m long short e = inl (refl, cc, cc)
cut [] (y ∷ ys) c l r m long short e = let same : c ≡ y = cc in
    absurd (omega (arith, long.0, ap length same))
cut (x ∷ xs) [] c l r m long short e = let same : x ≡ l = cc in
    inr (xs, ap (λ (it : List ℕ). it ∷ xs) same)
cut (x ∷ xs) (y ∷ ys) c l r m long short e =
    let same : x ≡ y = cc in
    let rest : xs ++ c ∷ r ≡ ys ++ l ∷ m = cc in
    elim (cut xs ys c l r m long.1 short rest) [
      | inl p ↦ inl (
        ap (λ (it : List ℕ). it ∷ xs) same
            ∙ ap (λ (them : List (List ℕ)). y ∷ them) p.0,
        p.1,
        p.2,
      )
      | inr p ↦ inr (
        p.0,
        ap (λ (it : List ℕ). it ∷ xs) same
            ∙ ap (λ (them : List (List ℕ)). y ∷ them) p.1,
      )
    ]

-- both are short
pub split : (xs ys : List (List ℕ)) (c d : List ℕ) (r m : List (List ℕ)) → AllByRecursion IsLong xs
    → AllByRecursion IsLong ys → length c ≤ 3 → length d ≤ 3 → xs ++ c ∷ r ≡ ys ++ d ∷ m
    → (xs ≡ ys) × (d ≡ c) × (m ≡ r)
split xs ys c d r m long_xs long_ys short_c short_d e = elim (cut xs ys c d r m long_ys short_c e) [
  | inl p ↦ p
  | inr p ↦ absurd (omega (
    arith,
    (each_right IsLong ys (d ∷ p.0) (subst (AllByRecursion IsLong) p.1 long_xs)).0,
  ))
]

-- a line that opens nothing isn't this one
not_opened : (line word : List ℕ) (next : StateStage)
    → cond (bytes_eq line word) (Some next) None ≡ None
    → line ≢ word
not_opened line word next none e =
    none-some next (sym none ∙ ap (λ b. cond b (Some next) None) ((bytes_eq-Decides line word).1 e))

not_version : (b c : Bool) → cond b (Some Version1) (cond c (Some Version2) None) ≡ None
    → (b ≡ false) × (c ≡ false)
not_version true c none = absurd (none-some Version1 (sym none))
not_version false true none = absurd (none-some Version2 (sym none))
not_version false false none = (refl, refl)

differs : (line word : List ℕ) → bytes_eq line word ≡ false → line ≢ word
differs line word differ e = true≢false (sym ((bytes_eq-Decides line word).1 e) ∙ differ)

-- what the lines of a channel, and one more that is refused, are not
not_next : (later saved : SavedState) (line c : List ℕ) (r m : List (List ℕ)) → IsSavedState later
    → length c ≤ 3 → line ≢ c
    → ((more : List (List ℕ)) → section later ≢ section saved ++ line ∷ more)
    → section later ++ c ∷ r ≢ section saved ++ line ∷ m
not_next later saved line c r m sound short other refused e =
    elim (cut (section later) (section saved) c line r m (section_long saved) short e) [
      | inl p ↦ other p.1
      | inr p ↦ refused p.0 p.1
    ]

pub versions_differ : (xs ys : List (List ℕ)) → codes "STATE 1" ∷ xs ≡ codes "STATE 2" ∷ ys → ⊥
versions_differ xs ys e = let one : codes "STATE 1" ≡ codes "STATE 2" = cc in
    absurd (omega (arith, ap (λ (l : List ℕ). get_or l 6 0) one))

-- what the first two lines of a text of version 2 are, and what follows them
behind_heads : (line : List ℕ) (xs ys : List (List ℕ))
    → codes "STATE 2" ∷ line ∷ xs ≡ codes "STATE 2" ∷ codes "C0" ∷ ys
    → (line ≡ codes "C0") × (xs ≡ ys)
behind_heads line xs ys e = (cc, cc)

-- the lines of a channel, with what is before them
in_channel_1 : (states : SavedStates) (line : List ℕ) (more : List (List ℕ))
    → ((section states.on_0 ++ codes "C1" ∷ section states.on_1) ++ line ∷ []) ++ more
    ≡ section states.on_0 ++ codes "C1" ∷ (section states.on_1 ++ line ∷ more)
in_channel_1 states line more =
    append_assoc (section states.on_0 ++ codes "C1" ∷ section states.on_1) (line ∷ []) more
    ∙ append_assoc (section states.on_0) (codes "C1" ∷ section states.on_1) (line ∷ more)

in_channel_2 : (states : SavedStates) (line : List ℕ) (more : List (List ℕ))
    → ((section states.on_0 ++ codes "C1"
    ∷ (section states.on_1 ++ codes "C2" ∷ section states.on_2)) ++ line ∷ []) ++ more
    ≡ section states.on_0 ++ codes "C1"
    ∷ (section states.on_1 ++ codes "C2" ∷ (section states.on_2 ++ line ∷ more))
in_channel_2 states line more =
    append_assoc (section states.on_0
    ++ codes "C1" ∷ (section states.on_1 ++ codes "C2" ∷ section states.on_2)) (line ∷ []) more
    ∙ append_assoc (section states.on_0)
    (codes "C1" ∷ (section states.on_1 ++ codes "C2" ∷ section states.on_2)) (line ∷ more)
    ∙ ap (λ (l : List (List ℕ)). section states.on_0 ++ codes "C1" ∷ l)
    (append_assoc (section states.on_1) (codes "C2" ∷ section states.on_2) (line ∷ more))

-- no text of version 1 begins so
no_text_1 : (stage : StateStage) (states : SavedStates) (line : List ℕ) (more : List (List ℕ))
    (saved : SavedState) → IsSavedState saved → opened stage line ≡ None
    → (may_end stage ≡ true → line ≢ codes "END") → IsRefusedAt stage states line
    → (lines_read stage states ++ line ∷ []) ++ more ≢ text_1 saved
no_text_1 Start states line more saved sound unopened not_end refused e =
    let neither = not_version (bytes_eq line (codes "STATE 1")) (bytes_eq line (codes "STATE 2"))
    unopened in
    differs line (codes "STATE 1") neither.0 (cc)
no_text_1 Version1 states line more saved sound unopened not_end refused e =
    let rest : (section states.on_0 ++ line ∷ []) ++ more ≡ section saved ++ last_line = cc in
    not_next saved states.on_0 line (codes "END") [] more sound (omega arith) (not_end refl)
    (λ tail. refused saved tail sound)
    (sym rest ∙ append_assoc (section states.on_0) (line ∷ []) more)
no_text_1 Version2 states line more saved sound unopened not_end refused e =
    versions_differ _ _ (sym e)
no_text_1 Channel0 states line more saved sound unopened not_end refused e =
    versions_differ _ _ (sym e)
no_text_1 Channel1 states line more saved sound unopened not_end refused e =
    versions_differ _ _ (sym e)
no_text_1 Channel2 states line more saved sound unopened not_end refused e =
    versions_differ _ _ (sym e)

-- nor one of version 2
no_text_2 : (stage : StateStage) (states : SavedStates) (line : List ℕ) (more : List (List ℕ))
    (all : SavedStates) → AreSavedStates all → opened stage line ≡ None
    → (may_end stage ≡ true → line ≢ codes "END") → IsRefusedAt stage states line
    → (lines_read stage states ++ line ∷ []) ++ more ≢ text_2 all
no_text_2 Start states line more all sound unopened not_end refused e =
    let neither = not_version (bytes_eq line (codes "STATE 1")) (bytes_eq line (codes "STATE 2"))
    unopened in
    differs line (codes "STATE 2") neither.1 (cc)
no_text_2 Version1 states line more all sound unopened not_end refused e = versions_differ _ _ e
no_text_2 Version2 states line more all sound unopened not_end refused e =
    not_opened line (codes "C0") Channel0 unopened (behind_heads line more _ e).0
no_text_2 Channel0 states line more all sound unopened not_end refused e =
    let rest = (behind_heads (codes "C0") _ _ e).1 in
    not_next all.on_0 states.on_0 line (codes "C1") _ more sound.on_0 (omega arith)
    (not_opened line (codes "C1") Channel1 unopened) (λ tail. refused all.on_0 tail sound.on_0)
    (sym rest ∙ append_assoc (section states.on_0) (line ∷ []) more)
no_text_2 Channel1 states line more all sound unopened not_end refused e =
    let rest = (behind_heads (codes "C0") _ _ e).1 in
    let regrouped : section states.on_0 ++ codes "C1" ∷ (section states.on_1 ++ line ∷ more)
    ≡ section all.on_0 ++ codes "C1"
    ∷ (section all.on_1 ++ codes "C2" ∷ (section all.on_2 ++ last_line)) =
    sym (in_channel_1 states line more) ∙ rest in
    let one = split (section states.on_0) (section all.on_0) (codes "C1") (codes "C1") _ _
    (section_long states.on_0) (section_long all.on_0) (omega arith) (omega arith) regrouped in
    not_next all.on_1 states.on_1 line (codes "C2") _ more sound.on_1 (omega arith)
    (not_opened line (codes "C2") Channel2 unopened) (λ tail. refused all.on_1 tail sound.on_1)
    one.2
no_text_2 Channel2 states line more all sound unopened not_end refused e =
    let rest = (behind_heads (codes "C0") _ _ e).1 in
    let regrouped : section states.on_0
    ++ codes "C1" ∷ (section states.on_1 ++ codes "C2" ∷ (section states.on_2 ++ line ∷ more))
    ≡ section all.on_0 ++ codes "C1"
    ∷ (section all.on_1 ++ codes "C2" ∷ (section all.on_2 ++ last_line)) =
    sym (in_channel_2 states line more) ∙ rest in
    let one = split (section states.on_0) (section all.on_0) (codes "C1") (codes "C1") _ _
    (section_long states.on_0) (section_long all.on_0) (omega arith) (omega arith) regrouped in
    let two = split (section states.on_1) (section all.on_1) (codes "C2") (codes "C2") _ _
    (section_long states.on_1) (section_long all.on_1) (omega arith) (omega arith)
    (sym one.2) in
    not_next all.on_2 states.on_2 line (codes "END") [] more sound.on_2 (omega arith) (not_end refl)
    (λ tail. refused all.on_2 tail sound.on_2) two.2

-- a line that opens nothing, ends nothing and is refused begins no text
pub no_text : (stage : StateStage) (states : SavedStates) (line : List ℕ) → opened stage line ≡ None
    → (may_end stage ≡ true → line ≢ codes "END") → IsRefusedAt stage states line
    → BeginsNoText (lines_read stage states ++ line ∷ [])
no_text stage states line unopened not_end refused more all is = elim is [
  | inl one ↦ no_text_1 stage states line more one.saved one.sound unopened not_end refused
      one.spelled
  | inr two ↦ no_text_2 stage states line more all two.sound unopened not_end refused two.spelled
]

-- a short line is none of a channel
short_refused : (saved : SavedState) (line : List ℕ) → length line ≤ 3 → IsRefused saved line
short_refused saved line short later more sound e =
    let long = subst (AllByRecursion IsLong) e (section_long later) in
    absurd (omega (arith, short, (each_right IsLong (section saved) (line ∷ more) long).0))

-- the last line begins no text where it may not stand
end_refused : (stage : StateStage) (states : SavedStates) → may_end stage ≡ false
    → (opened stage (codes "END") ≡ None) × IsRefusedAt stage states (codes "END")
end_refused Start states may = (refl, tt)
end_refused Version1 states may = absurd (true≢false may)
end_refused Version2 states may = (refl, tt)
end_refused Channel0 states may = (refl, short_refused states.on_0 (codes "END") (omega arith))
end_refused Channel1 states may = (refl, short_refused states.on_1 (codes "END") (omega arith))
end_refused Channel2 states may = absurd (true≢false may)

pub no_end : (stage : StateStage) (states : SavedStates) (line : List ℕ) → may_end stage ≡ false
    → line ≡ codes "END" → BeginsNoText (lines_read stage states ++ line ∷ [])
no_end stage states line may end =
    let refused = end_refused stage states may in
    subst (λ (l : List ℕ). BeginsNoText (lines_read stage states ++ l ∷ [])) (sym end)
    (no_text stage states (codes "END") refused.0
    (λ may_not. absurd (true≢false (sym may_not ∙ may))) refused.1)

-- a reader that is new
pub new_reading : IsReading Start (on_channel_0 nothing_saved)
new_reading = record {
  on_0 = nothing_sound;
  on_1 = nothing_sound;
  on_2 = nothing_sound;
  ahead =
      (refl, refl, refl);
}

pub new_begins : BeginsText []
new_begins = begins Start (on_channel_0 nothing_saved) new_reading
