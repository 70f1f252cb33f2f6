-- Entries that are kept one behind the other.
use Rattle.std.proofs.Common.{◌≡◌, inl, inr, ⊎_elim, ℕ, ◌+◌, ◌≤◌, suc, true, false, List}
use Rattle.std.proofs.Common.{[], ◌∷◌, ◌++◌, length, take, drop, Option, refl, sym, ◌∙◌, ap, subst, arith}
use Rattle.std.proofs.Common.{append_assoc, append-nil, length-append, length-drop}
use Rattle.std.specs.List.{concat}
use Rattle.std.proofs.lemmas.List.Folds.{concat-append}
use Rattle.std.proofs.lemmas.List.{take_all, take_at, take-append-le, drop_all, drop_at, drop-append-le}
use Rattle.nx_fec.specs.Transfers.{CountedDevice, count_of}
use Rattle.nx_kept.specs.Disk.{FailedOnce, LeavesOnly}
use Rattle.nx_kept.specs.Kept.{closed_gate, WithOrWithout}
use Rattle.nx_kept.proofs.lemmas.Stages.{joined, weaker}
use Rattle.nx_log.specs.Entries.{IsWholeEntry}
use Rattle.nx_receiver.proofs.lemmas.listening.Listener.{counts-on}
use Rattle.nx_watch.specs.Watch.{longest_entry}
use Rattle.nx_watch.specs.LineRun.{HasTold}
use Rattle.nx_watch.specs.private.LineRun.{WereGiven}
use Rattle.nx_watch.specs.private.Entries.{entry_some}
use Rattle.nx_watch.specs.private.Keeping.{AllKept, HasKept, HasKeptSo, KeepsTexts, LeavesFirst, SomeKept, StandsForFirst, StandsForTexts, keeper_since}
use Rattle.nx_kept.specs.declared.log.KeptLog.{KeptLog}
use Rattle.nx_kept.specs.declared.disk.DiskFile.{Ghosts as TellsOfDisk}
use Rattle.nx_watch.specs.declared.kept_log.keeper.Keeper.{Keeper}
use Rattle.nx_watch.specs.declared.kept_log.log_grammar.LogGrammar.{LogGrammar}

-- a keeper that was given nothing
abbrev pub fresh-keeper : {D : Type 0} → KeptLog D LogGrammar → Keeper D
fresh-keeper log = record { log = log; put = 0; has_failed = false }

one-more : (texts : List (List ℕ)) (entry : List ℕ)
    → length (texts ++ entry ∷ []) ≡ length texts + 1
one-more texts entry = length-append texts (entry ∷ [])

-- what stands for the first of some texts stands for the first of more
pub first-of-more : (before texts : List (List ℕ)) (entry file : List ℕ)
    → StandsForFirst before texts file → StandsForFirst before (texts ++ entry ∷ []) file
first-of-more before texts entry file h = (
  h.0,
  omega (arith, h.1, one-more texts entry),
  subst (λ l. StandsForTexts (before ++ l) file)
      (sym (take-append-le h.0 texts (entry ∷ []) h.1)) h.2,
)

-- so many of them, and one more
all-of : (before texts : List (List ℕ)) (entry file : List ℕ)
    → StandsForTexts (before ++ texts) file
    → StandsForTexts (before ++ take (length texts) (texts ++ entry ∷ [])) file
all-of before texts entry file h =
    subst (λ l. StandsForTexts (before ++ l) file)
    (sym (take_at texts (entry ∷ []) (length texts) refl)) h

one-over : (before texts : List (List ℕ)) (entry file : List ℕ)
    → StandsForTexts ((before ++ texts) ++ entry ∷ []) file
    → StandsForTexts (before ++ take (length texts + 1) (texts ++ entry ∷ [])) file
one-over before texts entry file h =
    let few : length (texts ++ entry ∷ []) ≤ length texts + 1 =
    omega (arith, one-more texts entry) in
    subst (λ l. StandsForTexts l file)
    (append_assoc before texts (entry ∷ [])
    ∙ ap (λ l. before ++ l) (sym (take_all (length texts + 1) (texts ++ entry ∷ []) few))) h

put-more : (before texts : List (List ℕ)) (entry file : List ℕ)
    → WithOrWithout IsWholeEntry longest_entry (before ++ texts) entry file
    → StandsForFirst before (texts ++ entry ∷ []) file
put-more before texts entry file (inl h) =
    (length texts, omega (arith, one-more texts entry), all-of before texts entry file h)
put-more before texts entry file (inr h) =
    (length texts + 1, omega (arith, one-more texts entry), one-over before texts entry file h)

module _ {D : Type 0} (disk : TellsOfDisk D) where
  -- what is kept is left
  pub keeps-stands : (content : List ℕ) (texts : List (List ℕ)) (keeper : Keeper D)
      → KeepsTexts disk content texts keeper → (file : List ℕ)
      → disk.may_leave content keeper.log.device file → StandsForTexts texts file
  keeps-stands content texts keeper k file left = record {
    front = k.front;
    tail = closed_gate ∷ [];
    kept = k.kept;
    end = tt;
    split = k.at_rest.durable file left ∙ k.at_rest.file;
  }

  -- a keeper that was given nothing since
  pub kept-none : (keeper : Keeper D) (count : ℕ) → keeper.has_failed ≡ false
      → keeper.put ≡ count_of count
      → ((content file : List ℕ)
      → disk.left_since content keeper.log.device (disk.moment keeper.log.device) file
      → disk.may_leave content keeper.log.device file)
      → HasKeptSo disk keeper.has_failed (keeper_since keeper count) keeper [] []
  kept-none keeper count well put only_now =
      subst (λ b. HasKeptSo disk b (keeper_since keeper count) keeper [] []) (sym well)
      (record {
        put = put ∙ ap count_of (omega arith);
        none = refl;
        well = refl;
        explained = λ content e. e;
        kept = λ content before k. subst (λ l. KeepsTexts disk content l keeper)
            (sym (append-nil before)) k;
        any_moment = λ content before k. record {
          later = omega arith;
          each = λ file left. here content before k file left;
          before = λ t file le left. inl left;
        };
      })
    where
      here : (content : List ℕ) (before : List (List ℕ)) → KeepsTexts disk content before keeper
          → (file : List ℕ)
          → disk.left_since content keeper.log.device (disk.moment keeper.log.device) file
          → StandsForFirst before [] file
      here content before k file left = (
        0,
        omega arith,
        subst (λ l. StandsForTexts l file) (sym (append-nil before))
            (keeps-stands content before keeper k file (only_now content file left)),
      )

  -- nothing was put before the first
  pub all-new : (start now : Keeper D) (texts : List (List ℕ)) (given : List ℕ) → start.put ≡ 0
      → HasKept disk start now texts given
      → HasKeptSo disk now.has_failed start now texts given
  all-new start now texts given none h =
      let all : drop start.put texts ≡ texts = ap (λ n. drop n texts) none in
      subst (λ l. HasKeptSo disk now.has_failed start now l given) all h.since

  -- one that begins with what was put so far
  pub kept-since : (start past : Keeper D) (texts : List (List ℕ)) (given : List ℕ)
      → past.has_failed ≡ false
      → ((content file : List ℕ)
      → disk.left_since content past.log.device (disk.moment past.log.device) file
      → disk.may_leave content past.log.device file)
      → HasKept disk start past texts given
      → HasKept disk (keeper_since past (length texts)) past texts []
  kept-since start past texts given well only_now h =
      let all : AllKept disk start past (drop start.put texts) given =
      subst (λ b. HasKeptSo disk b start past (drop start.put texts) given) well h.since in
      let size : start.put + length (drop start.put texts) ≡ length texts =
      omega (arith, length-drop start.put texts, h.before) in
      record {
        before = omega arith;
        since = subst (λ l. HasKeptSo disk past.has_failed (keeper_since past (length texts)) past l
            []) (sym (drop_all (length texts) texts (omega arith)))
            (kept-none past (length texts) well (all.put ∙ ap count_of size) only_now);
      }

  -- one more, behind those that had been put at the start
  pub kept-behind : (start now : Keeper D) (texts : List (List ℕ)) (entry given : List ℕ)
      → start.put ≤ length texts
      → HasKeptSo disk now.has_failed start now (drop start.put texts ++ entry ∷ []) given
      → HasKept disk start now (texts ++ entry ∷ []) given
  kept-behind start now texts entry given fits h = record {
    before = omega (arith, fits, one-more texts entry);
    since = subst (λ l. HasKeptSo disk now.has_failed start now l given)
        (sym (drop-append-le start.put texts (entry ∷ []) fits)) h;
  }

  -- one entry more was put, or its put failed: what a crash leaves meanwhile
  moments-more : (start old now : Keeper D) (texts : List (List ℕ)) (entry given : List ℕ)
      → ((content : List ℕ) (records : List (List ℕ)) → KeepsTexts disk content records old
      → LeavesOnly disk.moment (disk.left_since content) old.log.device now.log.device
      (WithOrWithout IsWholeEntry longest_entry records entry))
      → AllKept disk start old texts given
      → (content : List ℕ) (before : List (List ℕ)) → KeepsTexts disk content before start
      → LeavesFirst disk content before (texts ++ entry ∷ []) start now
  moments-more start old now texts entry given moments all content before k =
      joined disk.moment (disk.left_since content) (disk.may_leave content)
      (StandsForFirst before (texts ++ entry ∷ []))
      (WithOrWithout IsWholeEntry longest_entry (before ++ texts) entry)
      start.log.device old.log.device now.log.device
      (weaker disk.moment (disk.left_since content) (disk.may_leave content)
      (StandsForFirst before (texts ++ entry ∷ [])) (StandsForFirst before texts)
      start.log.device old.log.device (all.any_moment content before k)
      (first-of-more before texts entry))
      (moments content (before ++ texts) (all.kept content before k))
      (put-more before texts entry)

  pub put-kept : (start old now : Keeper D) (texts : List (List ℕ)) (entry given : List ℕ)
      → now.has_failed ≡ false → now.put ≡ count_of (old.put + 1)
      → disk.faults now.log.device ≡ disk.faults old.log.device
      → ((content : List ℕ) → disk.explains content now.log.device
      → disk.explains content old.log.device)
      → ((content : List ℕ) (records : List (List ℕ)) → KeepsTexts disk content records old
      → KeepsTexts disk content (records ++ entry ∷ []) now)
      → ((content : List ℕ) (records : List (List ℕ)) → KeepsTexts disk content records old
      → LeavesOnly disk.moment (disk.left_since content) old.log.device now.log.device
      (WithOrWithout IsWholeEntry longest_entry records entry))
      → AllKept disk start old texts given
      → HasKeptSo disk now.has_failed start now (texts ++ entry ∷ []) (given ++ [])
  put-kept start old now texts entry given well put same explained kept moments all =
      subst (λ b. HasKeptSo disk b start now (texts ++ entry ∷ []) (given ++ [])) (sym well)
      (record {
        put = counts-on old.put now.put (start.put + length texts) 1
            (start.put + length (texts ++ entry ∷ [])) all.put put
            (omega (arith, one-more texts entry));
        none = append-nil given ∙ all.none;
        well = same ∙ all.well;
        explained = λ content e. all.explained content (explained content e);
        kept = λ content before k.
            subst (λ l. KeepsTexts disk content l now) (append_assoc before texts (entry ∷ []))
            (kept content (before ++ texts) (all.kept content before k));
        any_moment = moments-more start old now texts entry given moments all;
      })

  pub put-failed : (start old now : Keeper D) (texts : List (List ℕ)) (entry given : List ℕ)
      → now.has_failed ≡ true
      → FailedOnce (disk.faults old.log.device) (disk.faults now.log.device)
      (disk.has_failed_to_write now.log.device)
      → ((content : List ℕ) (records : List (List ℕ)) → KeepsTexts disk content records old
      → disk.has_failed_within content now.log.device)
      → ((content : List ℕ) → disk.explains content now.log.device
      → disk.explains content old.log.device)
      → ((content : List ℕ) (t : ℕ) (file : List ℕ) → t ≤ disk.moment now.log.device
      → disk.may_leave content now.log.device file → disk.left_since content now.log.device t file)
      → ((content : List ℕ) (records : List (List ℕ)) → KeepsTexts disk content records old
      → LeavesOnly disk.moment (disk.left_since content) old.log.device now.log.device
      (WithOrWithout IsWholeEntry longest_entry records entry))
      → AllKept disk start old texts given
      → HasKeptSo disk now.has_failed start now (texts ++ entry ∷ []) (given ++ entry)
  put-failed start old now texts entry given failed once within explained counts_now moments all =
      subst (λ b. HasKeptSo disk b start now (texts ++ entry ∷ []) (given ++ entry)) (sym failed)
      (record {
        count = length texts;
        fewer = omega (arith, one-more texts entry);
        rest = ap (λ l. l ++ entry) all.none
            ∙ sym (append-nil entry)
            ∙ ap concat (sym (drop_at texts (entry ∷ []) (length texts) refl));
        failed = record { once = once.once ∙ ap suc all.well; last = once.last };
        within = λ content before k. within content (before ++ texts) (all.kept content before k);
        explained = λ content e. all.explained content (explained content e);
        left = λ content before k file left.
            let run = moments content (before ++ texts) (all.kept content before k) in
            ⊎_elim (λ h. inl (all-of before texts entry file h))
            (λ h. inr (one-over before texts entry file h))
            (run.each file (counts_now content (disk.moment old.log.device) file run.later left));
        any_moment = moments-more start old now texts entry given moments all;
      })

  pub kept-more : (start now : Keeper D) (texts : List (List ℕ)) (entry given : List ℕ)
      → SomeKept disk start now texts given
      → SomeKept disk start now (texts ++ entry ∷ []) (given ++ entry)
  kept-more start now texts entry given h =
      let few : h.count ≤ length texts = omega (arith, h.fewer) in
      let fewer : h.count + 1 ≤ length texts = omega (arith, h.fewer) in record {
        count = h.count;
        fewer = omega (arith, h.fewer, one-more texts entry);
        rest = ap (λ l. l ++ entry) h.rest
            ∙ ap (λ l. concat (drop h.count texts) ++ l) (sym (append-nil entry))
            ∙ sym (concat-append (drop h.count texts) (entry ∷ []))
            ∙ ap concat (sym (drop-append-le h.count texts (entry ∷ []) few));
        failed = h.failed;
        within = h.within;
        explained = h.explained;
        left = λ content before k file left.
            ⊎_elim (λ s. inl (subst (λ l. StandsForTexts (before ++ l) file)
            (sym (take-append-le h.count texts (entry ∷ []) few)) s))
            (λ s. inr (subst (λ l. StandsForTexts (before ++ l) file)
            (sym (take-append-le (h.count + 1) texts (entry ∷ []) fewer)) s))
            (h.left content before k file left);
        any_moment = λ content before k.
            weaker disk.moment (disk.left_since content) (disk.may_leave content)
            (StandsForFirst before (texts ++ entry ∷ [])) (StandsForFirst before texts)
            start.log.device now.log.device (h.any_moment content before k)
            (first-of-more before texts entry);
      }

-- more was given to a writer
pub given-more : {W : Type 0} (contents : W → Option (List ℕ)) (first old new : CountedDevice W)
    (given entry : List ℕ) → IsWholeEntry entry
    → (HasTold (contents first.inner) (contents old.inner) old.failures given
    → HasTold (contents first.inner) (contents new.inner) new.failures (given ++ entry))
    → WereGiven contents first old given → WereGiven contents first new (given ++ entry)
given-more contents first old new given entry is told h = record {
  written = told h.written;
  uncalled = λ none. absurd (omega (
    arith,
    entry_some entry is,
    length-append given entry,
    ap length none,
  ));
}
