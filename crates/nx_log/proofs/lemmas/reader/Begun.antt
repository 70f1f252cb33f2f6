-- Bytes that begin with an entry, that are the beginning of one, and that aren't.
use Rattle.std.proofs.Common.{◌≡◌, ◌⊎◌, inl, inr, ℕ, ◌+◌, ◌≤◌, ◌<◌, List, [], ◌∷◌, ◌++◌, take, drop, length, ap, sym, ◌∙◌, refl, subst, arith, append_assoc, append-nil, length-append}
use Rattle.std.proofs.lemmas.Bool.{cases_lt}
use Rattle.std.proofs.lemmas.List.{take-append-drop, take-append-le, length-take}
use Rattle.nx_copies.specs.copies.Shares.{MarkedCopy}
use Rattle.nx_log.specs.Entries.{IsUnfinishedEntry, IsWholeEntry}
use Rattle.nx_log.specs.Logged.{IsLoggedAs}
use Rattle.nx_log.specs.Starts.{StartsAs}
use Rattle.nx_log.specs.declared.entries.start.EntryStart.{EntryStart}
use Rattle.nx_log.specs.declared.entries.start.EntryStart.TheVariants.{Whole, Unfinished, Broken}
use Rattle.nx_log.proofs.lemmas.beginnings.Lists.{some_elements}
use Rattle.nx_log.proofs.lemmas.beginnings.Stages.{nothing_lacks}
use Rattle.nx_log.proofs.lemmas.beginnings.Wholes.{to_entry}
use Rattle.nx_log.proofs.lemmas.reading.Gaps.{begins}
use Rattle.nx_log.proofs.lemmas.reading.Entries.{entry_bounded, entry_is_some, one_entry}

-- the bytes begin with an entry
pub record BeginsEntry (bytes : List ℕ) : Type 0 where
  pub one : MarkedCopy
  pub entry : List ℕ
  pub rest : List ℕ
  pub is_entry : IsLoggedAs one entry
  pub split : bytes ≡ entry ++ rest

-- the beginning of an entry, which lacks its end, begins with none
pub unfinished_begins_none : (bytes : List ℕ) → IsUnfinishedEntry bytes → ¬ BeginsEntry bytes
unfinished_begins_none bytes lacking b =
    let more = lacking.0 in
    let whole = lacking.1 in
    let same = one_entry b.one whole.0 b.entry (bytes ++ more) (b.rest ++ more) [] b.is_entry
    whole.1
    (sym (append_assoc b.entry b.rest more) ∙ ap (λ l. l ++ more) (sym b.split)
    ∙ sym (append-nil (bytes ++ more))) in
    let some = some_elements more lacking.2 in
    omega (arith, ap length same.rest, length-append b.rest more)

-- a beginning of an entry is shorter than the longest
pub unfinished_short : (bytes : List ℕ) → IsUnfinishedEntry bytes → length bytes < 4146
unfinished_short bytes lacking =
    let bounded = entry_bounded lacking.1.0 (bytes ++ lacking.0) lacking.1.1 in
    let some = some_elements lacking.0 lacking.2 in
    omega (arith, length-append bytes lacking.0)

-- so many bytes begin an entry, and with the next they don't
pub record Breaks (bytes : List ℕ) (place : ℕ) : Type 0 where
  pub within : place < length bytes
  pub good : IsUnfinishedEntry (take place bytes)
  pub no_whole : ¬ IsWholeEntry (take (place + 1) bytes)
  pub no_more : ¬ IsUnfinishedEntry (take (place + 1) bytes)

pub breaks : (bytes : List ℕ) (place : ℕ) → StartsAs bytes (Broken place) → Breaks bytes place
breaks bytes place s =
    record { within = s.0; good = s.1; no_whole = s.2; no_more = s.3 }

-- what begins an entry is a whole one or lacks its end
pub whole_or_more : (bytes rest : List ℕ) (one : MarkedCopy) → IsLoggedAs one (bytes ++ rest)
    → IsWholeEntry bytes ⊎ IsUnfinishedEntry bytes
whole_or_more bytes [] one l = inl (one, subst (IsLoggedAs one) (append-nil bytes) l)
whole_or_more bytes (x ∷ rest) one l =
    inr (x ∷ rest, (one, l), λ e. omega (arith, ap length e))

-- a beginning of an entry breaks nowhere in it
pub breaks_behind : (held bytes : List ℕ) (place : ℕ) → IsUnfinishedEntry held
    → Breaks (held ++ bytes) place → length held ≤ place
breaks_behind held bytes place lacking broken =
    let within = broken.within in
    by_cases (length held) refl
  where
    by_cases : (n : ℕ) → length held ≡ n → length held ≤ place
    by_cases n e = elim (cases_lt place (length held)) [
      | inr behind ↦ behind
      | inl inside ↦
          let less : take (place + 1) (held ++ bytes) ≡ take (place + 1) held =
          take-append-le (place + 1) held bytes (omega arith) in
          let whole : held ++ lacking.0
          ≡ take (place + 1) held ++ (drop (place + 1) held ++ lacking.0) =
          ap (λ l. l ++ lacking.0) (sym (take-append-drop (place + 1) held))
          ∙ append_assoc (take (place + 1) held) (drop (place + 1) held) lacking.0 in
          let some = some_elements lacking.0 lacking.2 in
          absurd (broken.no_more (subst IsUnfinishedEntry (sym less) (
            drop (place + 1) held ++ lacking.0,
            (lacking.1.0, subst (IsLoggedAs lacking.1.0) whole lacking.1.1),
            λ n. omega (arith, ap length n, length-append (drop (place + 1) held) lacking.0),
          )))
    ]

-- a bracket is the beginning of an entry
pub bracket_begins : IsUnfinishedEntry (91 ∷ [])
bracket_begins =
    let whole = to_entry nothing_lacks.0 nothing_lacks.1 in
    let b = begins whole.0 nothing_lacks.0 whole.1 in (
      b.letter ∷ b.more,
      (whole.0, subst (IsLoggedAs whole.0) b.is whole.1),
      λ n. omega (arith, ap length n),
    )

-- what the first bytes of a window say is said of all of it, where these are all or as many as the
-- longest entry has
pub said_of_all : (front more : List ℕ) (start : EntryStart) → StartsAs front start
    → (more ≡ []) ⊎ (length front ≡ 4146) → StartsAs (front ++ more) start
said_of_all front more (Whole n) s full =
    let within = s.0 in (
      omega (arith, length-append front more),
      subst IsWholeEntry (sym (take-append-le n front more within)) s.1,
    )
said_of_all front more (Broken n) s full =
    let within = s.0 in (
      omega (arith, length-append front more),
      subst IsUnfinishedEntry (sym (take-append-le n front more (omega arith))) s.1,
      subst (λ l. ¬ IsWholeEntry l) (sym (take-append-le (n + 1) front more (omega arith))) s.2,
      subst (λ l. ¬ IsUnfinishedEntry l) (sym (take-append-le (n + 1) front more (omega arith)))
          s.3,
    )
said_of_all front more Unfinished s (inl none) =
    subst IsUnfinishedEntry (sym (ap (λ l. front ++ l) none ∙ append-nil front)) s
said_of_all front more Unfinished s (inr full) =
    absurd (omega (arith, unfinished_short front s))

-- a whole entry ends behind what is the beginning of one
pub whole_behind : (held bytes : List ℕ) (n : ℕ) → (held ≡ []) ⊎ IsUnfinishedEntry held
    → StartsAs (held ++ bytes) (Whole n) → length held < n
whole_behind held bytes n (inl none) s =
    let some = entry_is_some s.1.0 (take n (held ++ bytes)) s.1.1.entry in
    omega (arith, ap length none, length-take n (held ++ bytes))
whole_behind held bytes n (inr lacking) s = elim (cases_lt (length held) n) [
  | inl behind ↦ behind
  | inr inside ↦
      let less : take n (held ++ bytes) ≡ take n held = take-append-le n held bytes inside in
      absurd (unfinished_begins_none held lacking (record {
        one = s.1.0;
        entry = take n held;
        rest = drop n held;
        is_entry = subst (IsLoggedAs s.1.0) less s.1.1;
        split = sym (take-append-drop n held);
      }))
]
