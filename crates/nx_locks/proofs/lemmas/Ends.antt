-- What the end of the elements shows, and what a taker shows that has taken nothing.
use Rattle.std.proofs.Common.{◌≡◌, ℕ, not, ◌+◌, Bool, List, [], ◌++◌, length, refl, sym}
use Rattle.std.proofs.Common.{ap, ◌∙◌, subst, arith, append_assoc}
use Rattle.nx_envelope.specs.Copies.{headers}
use Rattle.nx_sync.specs.Locks.{Now, hunting, locked, IsNow, Past}
use Rattle.nx_sync.specs.Steps.{LockStands}
use Rattle.nx_sync.specs.Words.{word_of_lock, first_role, whole_words}
use Rattle.nx_sync.specs.declared.step.Change.TheVariants.{Locked}
use Rattle.nx_sync.proofs.lemmas.states.UniqueStates.{now-unique}
use Rattle.nx_copies.specs.copies.Log.{is_of_lines, missing_newline}
use Rattle.nx_locks.specs.LockText.{headers_shown, shown_text, wrong_words}
use Rattle.nx_locks.specs.Report.{AreShown, IsNowShown, IsOpened, IsShown, now_headers}
use Rattle.nx_locks.specs.Report.{now_locks, past_headers}
use Rattle.nx_locks.specs.ReportText.{closing_lines, last_line}
use Rattle.nx_locks.specs.private.Reader.{IsFresh, ReadsLock}
use Rattle.nx_locks.specs.private.Taker.{Closes, ReadsNow, TakerShows, Taking, closing_of}
use Rattle.nx_locks.specs.private.Showing.{HasEnded}
use Rattle.nx_locks.proofs.lemmas.Growing.{missing_is, shown_is}

-- a taker that was made
pub nothing_taken_yet : (taker : Taking) → IsFresh taker.reader → taker.elements ≡ 0
    → taker.locks ≡ 0 → taker.copies ≡ 0 → TakerShows taker [] [] []
unfolding Past AreShown past_headers
nothing_taken_yet taker fresh elements locks copies = record {
  elements = elements;
  room = omega arith;
  shows = record {
    locks = [];
    now = hunting 0;
    stands = record {
      past = refl;
      none =
          λ s after here. absurd (omega (arith, here.enough, here.heard));
    };
    many = refl;
    past = [];
    shown = refl;
    rest = [];
    standing = refl;
    spelled = refl;
    reads = fresh;
    locks_counted = locks;
    copies_counted = copies;
    few_locks = omega arith;
    few_copies = omega arith;
  };
}

joined : (a b m l z : List ℕ) → (a ++ b) ++ ((m ++ l) ++ z) ≡ (a ++ ((b ++ m) ++ l)) ++ z
joined a b m l z = simp append_assoc

last-same : (a b c a' b' c' : ℕ) → a ≡ a' → b ≡ b' → c ≡ c' → last_line a b c ≡ last_line a' b' c'
last-same a b c a' b' c' x y z = cc

-- a lock stands where the elements end
pub ended_locked : (taker closed : Taking) (bits : List Bool) (moments given shown : List ℕ)
    (counts : ℕ × ℕ) → TakerShows taker bits moments given → LockStands bits → taker.shown ≡ []
    → Closes taker closed Locked
    → shown ≡ closed.shown ++ last_line closed.elements closed.locks closed.copies
    → counts ≡ (closed.locks, closed.copies)
    → HasEnded bits moments taker.moment (given ++ shown) counts
unfolding wrong_words headers_shown
ended_locked taker closed bits moments given shown counts w l empty closes ends counted =
    let s = w.shows in
    let t = l.t in
    let n = whole_words bits t in
    let e : s.now ≡ locked l.p t =
    now-unique bits s.locks l.locks s.now (locked l.p t) s.stands l.stands in
    let reads : ReadsLock taker.reader (first_role bits t) (word_of_lock bits t) n =
    subst (ReadsNow taker.reader bits) e s.reads in
    let opened : IsOpened bits moments t n s.rest =
    subst (λ k. IsNowShown bits moments k s.rest) e s.standing in
    let text = shown_text bits t n in
    let is = shown_is bits t n in
    let headers' : headers_shown bits t n ≡ taker.reader.copies =
    ap (λ k. length (headers k)) is ∙ sym reads.copies_counted in
    let missing = missing_is taker.reader.is_line_open text
    (reads.line ∙ ap (λ k. not (is_of_lines k)) (sym is)) in
    let civil = closes.civil in
    let lines = closing_lines civil Locked taker.reader.words taker.reader.wrong
    taker.reader.copies in
    let rest = (s.rest ++ missing_newline text) ++ lines in
    let copies_is : closed.copies ≡ past_headers bits s.locks + headers_shown bits t n =
    omega (
      arith,
      ap (λ k. k.copies) closes.kept,
      s.copies_counted,
      headers',
      s.few_copies,
      ap (now_headers bits) e,
      w.room,
    ) in
    let locks_is : closed.locks ≡ length s.locks + 1 =
    omega (arith, ap (λ k. k.locks) closes.kept, s.locks_counted, ap now_locks e) in
    let elements_is : closed.elements ≡ length bits =
    ap (λ k. k.elements) closes.kept ∙ w.elements in
    let last = last_line closed.elements closed.locks closed.copies in
    let closing = closing_of taker.reader civil Locked in
    let whole : shown ≡ closing ++ last =
    ends ∙ ap (λ k. k ++ last) (ap (λ k. k.shown) closes.kept ∙ ap (λ k. k ++ closing) empty) in
    let block : IsShown bits moments t n Locked taker.moment rest = record {
      opened = s.rest;
      opens = opened;
      closing = lines;
      closes = record {
        civil = civil;
        shown = closes.shown;
        spelled = cc (reads.words_counted, reads.wrong_counted, headers');
      };
      spelled = refl;
    } in
    record {
      report = record {
        locks = s.locks;
        now = locked l.p t;
        stands = subst (IsNow bits s.locks) e s.stands;
        past = s.past;
        shown = s.shown;
        rest = rest;
        standing = block;
        spelled = ap (λ k. given ++ k) whole ∙ ap (λ k. k ++ (closing ++ last)) s.spelled
            ∙ ap (λ k. (s.past ++ s.rest) ++ ((k ++ lines) ++ last)) missing
            ∙ joined s.past s.rest (missing_newline text) lines last
            ∙ ap (λ k. (s.past ++ rest) ++ k)
            (last-same closed.elements closed.locks closed.copies (length bits)
            (length s.locks + 1) (past_headers bits s.locks + headers_shown bits t n) elements_is
            locks_is copies_is);
      };
      locks = ap (λ k. k.0) counted ∙ locks_is;
      copies = ap (λ k. k.1) counted ∙ copies_is;
    }

-- none stands
pub ended_hunting : (taker : Taking) (bits : List Bool) (moments given shown : List ℕ)
    (counts : ℕ × ℕ) → TakerShows taker bits moments given → (LockStands bits → ⊥)
    → shown ≡ last_line taker.elements taker.locks taker.copies
    → counts ≡ (taker.locks, taker.copies)
    → HasEnded bits moments taker.moment (given ++ shown) counts
ended_hunting taker bits moments given shown counts w none ends counted =
    ends_with w.shows.now refl
  where
    ends_with : (now : Now) → w.shows.now ≡ now
        → HasEnded bits moments taker.moment (given ++ shown) counts
    ends_with (locked p t) e =
        absurd (none (record {
          locks = w.shows.locks;
          p = p;
          t = t;
          stands =
              subst (IsNow bits w.shows.locks) e w.shows.stands;
        }))
    ends_with (hunting p) e =
        let s = w.shows in
        let empty : s.rest ≡ [] = subst (λ k. IsNowShown bits moments k s.rest) e s.standing in
        let copies_is : taker.copies ≡ past_headers bits s.locks + 0 =
        omega (arith, s.copies_counted) in
        let locks_is : taker.locks ≡ length s.locks + 0 =
        omega (arith, s.locks_counted, ap now_locks e) in
        let last = last_line taker.elements taker.locks taker.copies in
        record {
          report = record {
            locks = s.locks;
            now = hunting p;
            stands = subst (IsNow bits s.locks) e s.stands;
            past = s.past;
            shown = s.shown;
            rest = [];
            standing = refl;
            spelled = ap (λ k. given ++ k) ends ∙ ap (λ k. k ++ last) s.spelled
                ∙ ap (λ k. (s.past ++ k) ++ last) empty
                ∙ ap (λ k. (s.past ++ []) ++ k)
                (last-same taker.elements taker.locks taker.copies (length bits)
                (length s.locks + 0) (past_headers bits s.locks + 0) w.elements locks_is
                copies_is);
          };
          locks = ap (λ k. k.0) counted ∙ locks_is;
          copies = ap (λ k. k.1) counted ∙ copies_is;
        }
