-- The output of entries: what of it is given, and what is held.
use Rattle.std.proofs.Common.{◌≡◌, ℕ, ◌+◌, ◌-◌, ◌^◌, ◌≤◌, Bool, true, false, cond, min, List, [], ◌∷◌, ◌++◌, length}
use Rattle.std.proofs.Common.{refl, sym, ap, ◌∙◌, subst, arith, append-nil, length-append, Option, Result, Ok, Err}
use Rattle.std.specs.Prelude.{MatchResult, OnOk, map}
use Rattle.std.specs.List.{AllZip, concat}
use Rattle.std.specs.Io.KnownBytes.{Appends}
use Rattle.std.proofs.lemmas.List.Elements.{filter-append}
use Rattle.std.proofs.lemmas.List.Folds.{concat-append}
use Rattle.std.proofs.lemmas.List.Sums.{count_by-le-length, length-filter}
use Rattle.std.proofs.lemmas.Slice.Zip.{AllZip-long}
use Rattle.nx_fec.specs.Transfers.{WroteSome}
use Rattle.nx_fec.specs.air_files.LineRuns.{HasGiven, Waiting}
use Rattle.nx_fec.specs.declared.fault.WriteFault.{WriteFault}
use Rattle.nx_copies.specs.copies.Shares.{MarkedCopy}
use Rattle.nx_log.specs.LogRun.{IsInForm, IsOutput, WrotePlaced, WrotePlacedPart, WrotePlacedToEnd, end_of}
use Rattle.nx_log.specs.Places.{PlacedCopy, chosen_placed as chosen, copy_of}
use Rattle.nx_log.specs.Query.{admits, admitted_by, chosen_so as chosen_so_by}
use Rattle.nx_envelope.specs.Copies.{errors_of}
use Rattle.nx_log.specs.View.{copy_said}
use Rattle.nx_log.specs.declared.entries.entry.EntryView.{EntryView}
use Rattle.nx_log.specs.private.Held.{AreHeld, IsHeldAs, SaysHead, held_text}
use Rattle.nx_log.specs.private.LogRunning.{HasGivenOutput, IsDivided, WroteNothing}
use Rattle.nx_log.specs.declared.queries.query.Query.{Query}
use Rattle.nx_log.specs.declared.writing.form.Form.{Form}
use Rattle.nx_log.specs.declared.writing.last_entries.HeldEntry.{HeldEntry}
use Rattle.nx_log.specs.declared.writing.output.Output.{Output}
use Rattle.nx_log.proofs.lemmas.runs.Replacing.{last-few, last_entries}
use Rattle.nx_log.proofs.lemmas.beginnings.Lists.{left_nil}
use Rattle.nx_fec.proofs.lemmas.devices.WritingLaws.{WroteSome-front}

pub AllZip-append : {A B : Type 0} (R : A → B → Type 0) (xs zs : List A) (ys ws : List B)
    → AllZip R xs ys → AllZip R zs ws → AllZip R (xs ++ zs) (ys ++ ws)
AllZip-append R [] zs [] ws h k = k
AllZip-append R [] zs (y ∷ ys) ws h k = absurd h
AllZip-append R (x ∷ xs) zs [] ws h k = absurd h
AllZip-append R (x ∷ xs) zs (y ∷ ys) ws h k = (h.0, AllZip-append R xs zs ys ws h.1 k)

abbrev admitted : Query → List PlacedCopy → List PlacedCopy
admitted query entries = admitted_by copy_of query entries

abbrev chosen_so : Bool → List PlacedCopy → List PlacedCopy
chosen_so b entries = chosen_so_by copy_of b entries

one-kept : (b : Bool) (one : PlacedCopy) → b ≡ true → cond b (one ∷ []) [] ≡ one ∷ []
one-kept true one e = refl
one-kept false one e = cc

none-kept : (b : Bool) (one : PlacedCopy) → b ≡ false
    → ◌≡◌ {A = List PlacedCopy} (cond b (one ∷ []) []) []
none-kept true one e = cc
none-kept false one e = refl

pub admitted-more : (query : Query) (entries : List PlacedCopy) (one : PlacedCopy)
    → admits query one.one ≡ true → admitted query (entries ++ one ∷ [])
    ≡ admitted query entries ++ one
    ∷ []
admitted-more query entries one sure =
    filter-append (λ (p : PlacedCopy). admits query p.one) entries (one ∷ [])
    ∙ ap (λ l. admitted query entries ++ l) (one-kept (admits query one.one) one sure)

pub admitted-same : (query : Query) (entries : List PlacedCopy) (one : PlacedCopy)
    → admits query one.one ≡ false → admitted query (entries ++ one ∷ []) ≡ admitted query entries
admitted-same query entries one never =
    filter-append (λ (p : PlacedCopy). admits query p.one) entries (one ∷ [])
    ∙ ap (λ l. admitted query entries ++ l) (none-kept (admits query one.one) one never)
    ∙ append-nil (admitted query entries)

-- of what is chosen there is no more than of entries
few-so : (b : Bool) (entries : List PlacedCopy) → length (chosen_so b entries) ≤ length entries
few-so true entries = last-few entries
few-so false entries = omega arith

pub chosen-few : (query : Query) (entries : List PlacedCopy)
    → length (chosen query entries) ≤ length entries
chosen-few query entries =
    omega (
      arith,
      few-so query.last (admitted query entries),
      length-filter (λ (p : PlacedCopy). admits query p.one) entries,
      count_by-le-length (λ (p : PlacedCopy). admits query p.one) entries,
    )

-- at once, and at last
at-once : (b : Bool) (entries : List PlacedCopy) → b ≡ false → chosen_so b entries ≡ entries
at-once true entries e = absurd (cc)
at-once false entries e = refl

at-last : (b : Bool) (entries : List PlacedCopy) → b ≡ true
    → chosen_so b entries ≡ last_entries entries
at-last true entries e = refl
at-last false entries e = absurd (cc)

nothing-held : (b : Bool) (passed held : List PlacedCopy) → b ≡ false → IsDivided b passed held
    → held ≡ []
nothing-held true passed held e d = absurd (cc)
nothing-held false passed held e d = d

nothing-passed : (b : Bool) (passed held : List PlacedCopy) → b ≡ true → IsDivided b passed held
    → passed ≡ []
nothing-passed true passed held e d = d
nothing-passed false passed held e d = absurd (cc)

divided-at-once : (b : Bool) (passed : List PlacedCopy) → b ≡ false → IsDivided b passed []
divided-at-once true passed e = absurd (cc)
divided-at-once false passed e = refl

divided-at-last : (b : Bool) (held : List PlacedCopy) → b ≡ true → IsDivided b [] held
divided-at-last true held e = refl
divided-at-last false held e = absurd (cc)

-- of nothing there are no texts
no-texts : (form : Form) (passed : List PlacedCopy) (texts : List (List ℕ))
    → AllZip (IsInForm form) passed texts → passed ≡ [] → texts ≡ []
no-texts form [] [] h e = refl
no-texts form [] (text ∷ texts) h e = absurd h
no-texts form (one ∷ passed) [] h e = refl
no-texts form (one ∷ passed) (text ∷ texts) h e = absurd (cc)

-- what is held has its texts
held-texts : (form : Form) (entries : List PlacedCopy) (held : List HeldEntry)
    → AreHeld form entries held → AllZip (IsInForm form) entries (map held_text held)
held-texts form [] [] h = tt
held-texts form [] (x ∷ held) h = absurd h
held-texts form (one ∷ entries) [] h = absurd h
held-texts form (one ∷ entries) (x ∷ held) h = (h.0.text, held-texts form entries held h.1)

-- what is seen of an entry says its head
pub head-said : (view : EntryView) (one : MarkedCopy)
    → copy_said view.head view.text.now ≡ one → view.head.errors ≡ errors_of view.text.now
    → SaysHead view.head one
head-said view one same errors =
    let text : view.text.now ≡ one.copy.text = ap (λ (o : MarkedCopy). o.copy.text) same in
    record {
      said = ap (copy_said view.head) (sym text) ∙ same;
      errors = errors ∙ ap errors_of text;
    }

-- nothing is given yet
pub nothing-given : (query : Query) (form : Form) (old : Option (List ℕ)) (output : Output)
    → HasGiven old old output.batch [] → output.passed ≡ 0 → output.held.entries.items ≡ []
    → HasGivenOutput query form old old output []
nothing-given query form old output given none empty = record {
  passed = [];
  held = [];
  split = nothing query.last;
  divided = both query.last;
  texts = [];
  each = tt;
  given = given;
  counted = none;
  are_held = subst (AreHeld form []) (sym empty) tt;
}
  where
    nothing : (b : Bool) → ◌≡◌ {A = List PlacedCopy} (chosen_so b []) []
    nothing true = refl
    nothing false = refl

    both : (b : Bool) → IsDivided b [] []
    both true = refl
    both false = refl

module _ (query : Query) (form : Form) (old now : Option (List ℕ)) (before : Output)
    (entries : List PlacedCopy) (h : HasGivenOutput query form old now before entries) where
  -- an entry that isn't admitted is given no bytes
  pub given-same : (one : PlacedCopy) → admits query one.one ≡ false
      → HasGivenOutput query form old now before (entries ++ one ∷ [])
  given-same one never = record {
    passed = h.passed;
    held = h.held;
    split = ap (chosen_so query.last) (admitted-same query entries one never) ∙ h.split;
    divided = h.divided;
    texts = h.texts;
    each = h.each;
    given = h.given;
    counted = h.counted;
    are_held = h.are_held;
  }

  -- all that is chosen was given, where it is given at once
  all-passed : query.last ≡ false → chosen query entries ≡ h.passed
  all-passed at_once =
      h.split ∙ ap (λ l. h.passed ++ l)
      (nothing-held query.last h.passed h.held at_once h.divided)
      ∙ append-nil h.passed

  chosen-more : (one : PlacedCopy) → query.last ≡ false → admits query one.one ≡ true
      → chosen query (entries ++ one ∷ []) ≡ h.passed ++ one ∷ []
  chosen-more one at_once sure =
      at-once query.last (admitted query (entries ++ one ∷ [])) at_once
      ∙ admitted-more query entries one sure
      ∙ ap (λ l. l ++ one ∷ [])
      (sym (at-once query.last (admitted query entries) at_once) ∙ all-passed at_once)

  -- one that is admitted is given its text
  pub given-more : (new : Option (List ℕ)) (after : Output) (one : PlacedCopy) (text : List ℕ)
      → query.last ≡ false → admits query one.one ≡ true → IsInForm form one text
      → after.passed ≡ min (before.passed + 1) (2 ^ 64 - 1) → after.held ≡ before.held
      → HasGiven old new after.batch (concat h.texts ++ text)
      → HasGivenOutput query form old new after (entries ++ one ∷ [])
  given-more new after one text at_once sure is count same gave =
      let none = nothing-held query.last h.passed h.held at_once h.divided in
      let longer = length-append h.passed (one ∷ []) in
      record {
        passed = h.passed ++ one ∷ [];
        held = [];
        split = chosen-more one at_once sure ∙ sym (append-nil (h.passed ++ one ∷ []));
        divided = divided-at-once query.last (h.passed ++ one ∷ []) at_once;
        texts = h.texts ++ text ∷ [];
        each = AllZip-append (IsInForm form) h.passed (one ∷ []) h.texts (text ∷ []) h.each
            (is, tt);
        given = subst (HasGiven old new after.batch)
            (ap (λ l. concat h.texts ++ l) (sym (append-nil text))
            ∙ sym (concat-append h.texts (text ∷ []))) gave;
        counted = omega (arith, count, h.counted, longer);
        are_held = subst (λ x. AreHeld form [] x.entries.items) (sym same)
            (subst (λ l. AreHeld form l before.held.entries.items) none h.are_held);
      }

  -- or not all of it
  pub part-more : (new : Option (List ℕ)) (one : PlacedCopy) (text : List ℕ) (written : ℕ)
      → query.last ≡ false → admits query one.one ≡ true → IsInForm form one text
      → WroteSome old new (concat h.texts ++ text) written
      → WrotePlacedPart query form (record { before = old; after = new }) (entries
      ++ one ∷ []) written
  part-more new one text written at_once sure is part = record {
    output = concat h.texts ++ text;
    is_output = record {
      texts = h.texts ++ text ∷ [];
      each = subst (λ l. AllZip (IsInForm form) l (h.texts ++ text ∷ []))
          (sym (chosen-more one at_once sure))
          (AllZip-append (IsInForm form) h.passed (one ∷ []) h.texts (text ∷ []) h.each (is, tt));
      joined = ap (λ l. concat h.texts ++ l) (sym (append-nil text))
          ∙ sym (concat-append h.texts (text ∷ []));
    };
    part = WroteSome-front old new (concat h.texts ++ text)
        (end_of form (chosen query (entries ++ one ∷ []))) written part;
  }

  nothing-written : query.last ≡ true → concat h.texts ≡ []
  nothing-written at_last =
      ap concat (no-texts form h.passed h.texts h.each
      (nothing-passed query.last h.passed h.held at_last h.divided))

  -- one that is held
  pub given-held : (after : Output) (one : PlacedCopy) → query.last ≡ true
      → admits query one.one ≡ true → after.passed ≡ before.passed → after.batch ≡ before.batch
      → (AreHeld form (last_entries (admitted query entries)) before.held.entries.items
      → AreHeld form (last_entries (admitted query entries ++ one ∷ [])) after.held.entries.items)
      → HasGivenOutput query form old now after (entries ++ one ∷ [])
  given-held after one at_last sure count batch more =
      let none = nothing-passed query.last h.passed h.held at_last h.divided in
      let all : last_entries (admitted query entries) ≡ h.held =
      sym (at-last query.last (admitted query entries) at_last) ∙ h.split
      ∙ ap (λ l. l ++ h.held) none in
      record {
        passed = [];
        held = last_entries (admitted query entries ++ one ∷ []);
        split = at-last query.last (admitted query (entries ++ one ∷ [])) at_last
            ∙ ap last_entries (admitted-more query entries one sure);
        divided = divided-at-last query.last (last_entries (admitted query entries ++ one ∷ []))
            at_last;
        texts = [];
        each = tt;
        given = subst (λ b. HasGiven old now b []) (sym batch)
            (subst (HasGiven old now before.batch) (nothing-written at_last) h.given);
        counted = omega (arith, count, h.counted, ap length none);
        are_held = more
            (subst (λ l. AreHeld form l before.held.entries.items) (sym all) h.are_held);
      }

  -- where all is held nothing was written
  pub wrote-nothing : query.last ≡ true
      → WroteNothing query (record { before = old; after = now })
  wrote-nothing at_last =
      let whole = sym h.given.whole ∙ nothing-written at_last in
      record {
        last = at_last;
        nothing = subst (Appends old now) (left_nil h.given.done before.batch.bytes whole)
            h.given.written.appended;
      }

  -- what waits is sent
  pub given-sent : {R : Type 0} (r : Result R WriteFault) (new : Option (List ℕ)) (after : Output)
      → after.passed ≡ before.passed → after.held ≡ before.held
      → MatchResult r (λ _. HasGiven old new after.batch (concat h.texts))
      (λ fault. WroteSome old new (concat h.texts) fault.written)
      → OnOk r (after.batch.bytes ≡ [])
      → MatchResult r
      (λ _. HasGivenOutput query form old new after entries
      × (query.last ≡ false
      → WrotePlaced query form (record { before = old; after = new }) entries))
      (λ fault. WrotePlacedPart query form (record { before = old; after = new }) entries
      fault.written)
  given-sent (Ok a) new after count same k empty = (
    record {
      passed = h.passed;
      held = h.held;
      split = h.split;
      divided = h.divided;
      texts = h.texts;
      each = h.each;
      given = k;
      counted = count ∙ h.counted;
      are_held = subst (λ x. AreHeld form h.held x.entries.items) (sym same) h.are_held;
    },
    λ at_once. record {
      output = concat h.texts;
      is_output = record {
        texts = h.texts;
        each = subst (λ l. AllZip (IsInForm form) l h.texts) (sym (all-passed at_once)) h.each;
        joined = refl;
      };
      written = subst (Appends old new)
          (sym (k.whole ∙ ap (λ l. k.done ++ l) empty ∙ append-nil k.done)) k.written.appended;
    },
  )
  given-sent (Err fault) new after count same k empty = of query.last refl
    where
      of : (b : Bool) → query.last ≡ b
          → WrotePlacedPart query form (record { before = old; after = new }) entries fault.written
      of true at_last =
          let less = k.fewer in
          absurd (omega (arith, less, ap length (nothing-written at_last)))
      of false at_once = record {
        output = concat h.texts;
        is_output = record {
          texts = h.texts;
          each = subst (λ l. AllZip (IsInForm form) l h.texts) (sym (all-passed at_once)) h.each;
          joined = refl;
        };
        part = WroteSome-front old new (concat h.texts) (end_of form (chosen query entries))
            fault.written k;
      }

  -- all that waits and all that is held
  abbrev pub last_texts : List ℕ
  last_texts = concat h.texts ++ concat (map held_text before.held.entries.items)

  all-output : IsOutput query form entries last_texts
  all-output =
      let held = held-texts form h.held before.held.entries.items h.are_held in
      record {
        texts = h.texts ++ map held_text before.held.entries.items;
        each = subst (λ l. AllZip (IsInForm form) l
            (h.texts ++ map held_text before.held.entries.items)) (sym h.split)
            (AllZip-append (IsInForm form) h.passed h.held h.texts
            (map held_text before.held.entries.items) h.each held);
        joined = sym (concat-append h.texts (map held_text before.held.entries.items));
      }

  pub part-finished : (new : Option (List ℕ)) (written : ℕ) → WroteSome old new last_texts written
      → WrotePlacedPart query form (record { before = old; after = new }) entries written
  part-finished new written part = record {
    output = last_texts;
    is_output = all-output;
    part = WroteSome-front old new last_texts (end_of form (chosen query entries)) written part;
  }

  pub finished : {R : Type 0} (r : Result R WriteFault) (new : Option (List ℕ)) (batch : Waiting)
      → MatchResult r (λ _. HasGiven old new batch last_texts)
      (λ fault. WroteSome old new last_texts fault.written)
      → OnOk r (batch.bytes ≡ [])
      → MatchResult r
      (λ _. WrotePlaced query form (record { before = old; after = new }) entries)
      (λ fault. WrotePlacedPart query form (record { before = old; after = new }) entries
      fault.written)
  finished (Ok a) new batch k empty = record {
    output = last_texts;
    is_output = all-output;
    written = subst (Appends old new)
        (sym (k.whole ∙ ap (λ l. k.done ++ l) empty ∙ append-nil k.done)) k.written.appended;
  }
  finished (Err fault) new batch k empty = part-finished new fault.written k

  -- and what stands behind it
  pub part-closed : (new : Option (List ℕ)) (end : List ℕ) (written : ℕ)
      → end ≡ end_of form (chosen query entries) → WroteSome old new (last_texts ++ end) written
      → WrotePlacedPart query form (record { before = old; after = new }) entries written
  part-closed new end written is part = record {
    output = last_texts;
    is_output = all-output;
    part = subst (λ e. WroteSome old new (last_texts ++ e) written) is part;
  }

  pub closed : {R : Type 0} (r : Result R WriteFault) (new : Option (List ℕ)) (batch : Waiting)
      (end : List ℕ) → end ≡ end_of form (chosen query entries)
      → MatchResult r (λ _. HasGiven old new batch (last_texts ++ end))
      (λ fault. WroteSome old new (last_texts ++ end) fault.written)
      → OnOk r (batch.bytes ≡ [])
      → MatchResult r
      (λ _. WrotePlacedToEnd query form (record { before = old; after = new }) entries)
      (λ fault. WrotePlacedPart query form (record { before = old; after = new }) entries
      fault.written)
  closed (Ok a) new batch end is k empty = record {
    output = last_texts;
    is_output = all-output;
    written = subst (Appends old new)
        (sym (k.whole ∙ ap (λ l. k.done ++ l) empty ∙ append-nil k.done)
        ∙ ap (λ l. last_texts ++ l) is) k.written.appended;
  }
  closed (Err fault) new batch end is k empty = part-closed new end fault.written is k

  pub counted-all : (passed : ℕ) → passed ≡ before.passed
      → min (passed + length before.held.entries.items) (2 ^ 64 - 1)
      ≡ min (length (chosen query entries)) (2 ^ 64 - 1)
  counted-all passed same =
      let long = AllZip-long (IsHeldAs form) h.held before.held.entries.items h.are_held in
      let all = ap length h.split in
      let both = length-append h.passed h.held in
      omega (arith, same, h.counted, long, all, both)
