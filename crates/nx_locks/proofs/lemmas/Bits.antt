-- What one more element does to what is shown.
use Rattle.std.proofs.Common.{◌≡◌, ℕ, not, ◌+◌, ◌-◌, ◌*◌, ◌^◌, ◌<◌, ◌≤◌, Bool, List, [], ◌∷◌, ◌++◌}
use Rattle.std.proofs.Common.{length, Option, get_or, refl, sym, ap, ◌∙◌, subst, arith}
use Rattle.std.proofs.Common.{append_assoc, append-nil, length-append}
use Rattle.std.specs.Prelude.{min}
use Rattle.std.specs.Option.{option_to_list}
use Rattle.std.proofs.lemmas.List.{length_push}
use Rattle.nx_envelope.specs.Copies.{headers}
use Rattle.nx_envelope.specs.Moment.{IsShownAs}
use Rattle.nx_sync.specs.Locks.{Lock, Now, hunting, locked, IsNow, Past, IsPattern}
use Rattle.nx_sync.specs.Words.{word_of_lock, first_role, whole_words, heard_word}
use Rattle.nx_sync.specs.declared.step.Role.{Role}
use Rattle.nx_sync.proofs.lemmas.states.UniqueStates.{IsNow-past}
use Rattle.nx_copies.specs.copies.Log.{is_of_lines, missing_newline}
use Rattle.nx_copies.specs.private.ReaderWords.{word_place}
use Rattle.nx_copies.proofs.lemmas.locks.Growing.{whole_heard}
use Rattle.nx_locks.specs.LockText.{headers_shown, shown_text, wrong_words}
use Rattle.nx_locks.specs.Report.{AreShown, IsNowShown, IsOpened, IsPastShown, moment_at}
use Rattle.nx_locks.specs.Report.{now_headers, now_locks, past_headers}
use Rattle.nx_locks.specs.ReportText.{closing_lines, opening_line}
use Rattle.nx_locks.specs.private.Reader.{HasHeardWords, HearsWord, IsFresh, Reading, ReadsLock}
use Rattle.nx_locks.specs.private.Taker.{ReadsNow, Shows, closing_of}
use Rattle.nx_locks.proofs.lemmas.Growing.{headers-more, missing_is, no_headers, none_shown, opened-more}
use Rattle.nx_locks.proofs.lemmas.Growing.{past-more, past_headers-more, reads-on, shown_is}

get_or-pushed : (xs : List ℕ) (x d : ℕ) → get_or (xs ++ x ∷ []) (length xs) d ≡ x
get_or-pushed [] x d = refl
get_or-pushed (y ∷ xs) x d = get_or-pushed xs x d

joined : (a b c d e : List ℕ) → (a ++ b) ++ (c ++ (d ++ e)) ≡ a ++ (((b ++ c) ++ d) ++ e)
joined a b c d e = simp append_assoc

-- so many elements more, each with the moment in force at it
module _ (bits xs : List Bool) (moments later : List ℕ) (as_many : length later ≡ length xs) where
  -- no lock is released: the one that stands is shown on
  goes_more : (reader reader' : Reading) (began began' copies : ℕ) (given more rest' : List ℕ)
      (next : Now) (s : Shows reader began copies bits moments given)
      → IsNow (bits ++ xs) s.locks next
      → IsNowShown (bits ++ xs) (moments ++ later) next rest' → rest' ≡ s.rest ++ more
      → ReadsNow reader' (bits ++ xs) next
      → began' ≡ length s.locks + now_locks next
      → now_locks next ≤ now_locks s.now + length xs
      → now_headers (bits ++ xs) next ≤ now_headers bits s.now + length xs
      → Shows reader' began' copies (bits ++ xs) (moments ++ later) (given ++ more)
  goes_more reader reader' began began' copies given more rest' next s on standing e reads counted
      few headers' =
      let past = IsNow-past bits s.locks s.now s.stands in
      let same = past_headers-more bits xs s.locks past.0 past.1 in
      let longer : length (bits ++ xs) ≡ length bits + length xs = length-append bits xs in
      record {
        locks = s.locks;
        now = next;
        stands = on;
        many = omega (arith, longer, length-append moments later, as_many, s.many);
        past = s.past;
        shown = past-more bits xs moments later s.many s.locks past.0 past.1 s.past s.shown;
        rest = rest';
        standing = standing;
        spelled = ap (λ l. l ++ more) s.spelled ∙ append_assoc s.past s.rest more
            ∙ ap (λ l. s.past ++ l) (sym e);
        reads = reads;
        locks_counted = counted;
        copies_counted = s.copies_counted ∙ sym same;
        few_locks = omega (arith, s.few_locks, few, longer);
        few_copies = omega (arith, s.few_copies, headers', longer, same);
      }

  -- the words of the lock at t up to word n + count are heard, and what they print
  record WordsShown (reader' : Reading) (printed rest : List ℕ) (t n count : ℕ) : Type 0 where
    opened : IsOpened (bits ++ xs) (moments ++ later) t (n + count) (rest ++ printed)
    reads : ReadsLock reader' (first_role (bits ++ xs) t) (word_of_lock (bits ++ xs) t) (n + count)

  words_shown : (reader reader' : Reading) (printed rest : List ℕ) (t n count : ℕ)
      → length moments ≡ length bits → IsPattern bits t → t + 7 * n ≤ length bits
      → IsOpened bits moments t n rest
      → ReadsLock reader (first_role bits t) (word_of_lock bits t) n
      → (ReadsLock reader (first_role (bits ++ xs) t) (word_of_lock (bits ++ xs) t) n
      → HasHeardWords reader' (first_role (bits ++ xs) t) (word_of_lock (bits ++ xs) t) n count
      printed)
      → WordsShown reader' printed rest t n count
  words_shown reader reader' printed rest t n count many here heard was reads hears =
      let has = hears (reads-on bits xs t n here heard reader reads) in
      let all = bits ++ xs in
      let grows : shown_text all t (n + count) ≡ shown_text all t n ++ printed =
      shown_is all t (n + count) ∙ has.grows
      ∙ ap (λ l. l ++ printed) (sym (shown_is all t n)) in
      let on = opened-more bits xs t n here heard moments later many rest was in
      record {
        opened = record {
          opening = on.opening;
          opens = on.opens;
          spelled = ap (λ l. l ++ printed) on.spelled
              ∙ append_assoc on.opening (shown_text all t n) printed
              ∙ ap (λ l. on.opening ++ l) (sym grows);
        };
        reads = has.reads;
      }

headers_read : (reader : Reading) (t n : ℕ) (bits : List Bool)
    → ReadsLock reader (first_role bits t) (word_of_lock bits t) n
    → headers_shown bits t n ≡ reader.copies
unfolding headers_shown
headers_read reader t n bits reads =
    ap (λ l. length (headers l)) (shown_is bits t n) ∙ sym reads.copies_counted

-- with these elements so many more words of the lock are complete, from word n on
pub words_on : (bits xs : List Bool) (moments later : List ℕ) → length later ≡ length xs
    → (reader reader' : Reading) (began copies : ℕ) (given printed : List ℕ) (p t n count : ℕ)
    (s : Shows reader began copies bits moments given) → s.now ≡ locked p t → IsPattern bits t
    → whole_words bits t ≡ n → whole_words (bits ++ xs) t ≡ n + count → count ≤ length xs
    → IsNow (bits ++ xs) s.locks (locked p t)
    → (ReadsLock reader (first_role (bits ++ xs) t) (word_of_lock (bits ++ xs) t) n
    → HasHeardWords reader' (first_role (bits ++ xs) t) (word_of_lock (bits ++ xs) t) n count
    printed)
    → reader'.copies ≤ reader.copies + count
    → Shows reader' began copies (bits ++ xs) (moments ++ later) (given ++ printed)
words_on bits xs moments later as_many reader reader' began copies given printed p t n count s e
    here whole whole' enough on hears few =
    let all = bits ++ xs in
    let heard : t + 7 * n ≤ length bits = omega (arith, whole, here.heard) in
    let was : IsOpened bits moments t n s.rest =
    subst (λ k. IsOpened bits moments t k s.rest) whole
    (subst (λ k. IsNowShown bits moments k s.rest) e s.standing) in
    let reads : ReadsLock reader (first_role bits t) (word_of_lock bits t) n =
    subst (ReadsLock reader (first_role bits t) (word_of_lock bits t)) whole
    (subst (ReadsNow reader bits) e s.reads) in
    let w = words_shown bits xs moments later as_many reader reader' printed s.rest t n count s.many
    here heard was reads hears in
    goes_more bits xs moments later as_many reader reader' began began copies given printed
    (s.rest ++ printed) (locked p t) s on
    (subst (λ k. IsOpened all (moments ++ later) t k (s.rest ++ printed)) (sym whole') w.opened)
    refl
    (subst (ReadsLock reader' (first_role all t) (word_of_lock all t)) (sym whole') w.reads)
    (s.locks_counted ∙ ap (λ k. length s.locks + now_locks k) e) (omega (arith, ap now_locks e))
    (omega (
      arith,
      ap (headers_shown all t) whole',
      headers_read reader' t (n + count) all w.reads,
      headers_read reader t n bits reads,
      ap (headers_shown bits t) whole,
      ap (now_headers bits) e,
      few,
      enough,
    ))

module _ (bits : List Bool) (b : Bool) (moments : List ℕ) (m : ℕ) where
  abbrev bits' : List Bool
  bits' = bits ++ b ∷ []

  abbrev moments' : List ℕ
  moments' = moments ++ m ∷ []

  longer : length bits' ≡ length bits + 1
  longer = length_push bits b

  module _ (reader : Reading) (began copies : ℕ) (given : List ℕ) where
    -- an element with which nothing comes
    pub still_hunting : (p : ℕ) (s : Shows reader began copies bits moments given)
        → s.now ≡ hunting p → IsNow bits' s.locks (hunting p)
        → Shows reader began copies bits' moments' (given ++ [])
    still_hunting p s e on =
        goes_more bits (b ∷ []) moments (m ∷ []) refl reader reader began began copies given [] []
        (hunting p) s on refl
        (sym (append-nil s.rest ∙ subst (λ n. IsNowShown bits moments n s.rest) e s.standing))
        (subst (ReadsNow reader bits) e s.reads)
        (s.locks_counted ∙ ap (λ n. length s.locks + now_locks n) e) (omega arith) (omega arith)

    pub still_inside : (p t : ℕ) (s : Shows reader began copies bits moments given)
        → s.now ≡ locked p t → IsPattern bits t → whole_words bits' t ≡ whole_words bits t
        → IsNow bits' s.locks (locked p t)
        → Shows reader began copies bits' moments' (given ++ [])
    still_inside p t s e here same on =
        let n = whole_words bits t in
        let heard = whole_heard bits t here.heard in
        let was : IsOpened bits moments t n s.rest =
        subst (λ k. IsNowShown bits moments k s.rest) e s.standing in
        let reads : ReadsLock reader (first_role bits t) (word_of_lock bits t) n =
        subst (ReadsNow reader bits) e s.reads in
        let headers' : headers_shown bits' t n ≡ headers_shown bits t n =
        headers-more bits (b ∷ []) t n here heard in
        goes_more bits (b ∷ []) moments (m ∷ []) refl reader reader began began copies given []
        s.rest
        (locked p t) s on
        (subst (λ k. IsOpened bits' moments' t k s.rest) (sym same)
        (opened-more bits (b ∷ []) t n here heard moments (m ∷ []) s.many s.rest was))
        (sym (append-nil s.rest))
        (subst (ReadsLock reader (first_role bits' t) (word_of_lock bits' t)) (sym same)
        (reads-on bits (b ∷ []) t n here heard reader reads))
        (s.locks_counted ∙ ap (λ k. length s.locks + now_locks k) e) (omega (arith, ap now_locks e))
        (omega (arith, headers', ap (headers_shown bits' t) same, ap (now_headers bits) e))

    -- an element with which a lock is found
    pub now_found : (p t : ℕ) (s : Shows reader began copies bits moments given) → s.now ≡ hunting p
        → length bits' ≡ t → IsNow bits' s.locks (locked p t) → (civil : List ℕ) → IsShownAs m civil
        → Shows reader (began + 1) copies bits' moments' (given ++ opening_line civil t)
    now_found p t s e at on civil shown =
        let whole : whole_words bits' t ≡ 0 = omega (arith, at) in
        let fresh : IsFresh reader = subst (ReadsNow reader bits) e s.reads in
        let empty : s.rest ≡ [] = subst (λ n. IsNowShown bits moments n s.rest) e s.standing in
        let place : t - 1 ≡ length moments = omega (arith, at, longer, s.many) in
        let moment : moment_at moments' (t - 1) ≡ m =
        ap (λ k. get_or moments' k 0) place ∙ get_or-pushed moments m 0 in
        let opening = opening_line civil t in
        let opened : IsOpened bits' moments' t 0 opening = record {
          opening = opening;
          opens = record {
            civil = civil;
            shown =
                subst (λ k. IsShownAs k civil) (sym moment) shown;
            spelled = refl;
          };
          spelled = sym (ap (λ l. opening ++ l) (none_shown bits' t) ∙ append-nil opening);
        } in
        goes_more bits (b ∷ []) moments (m ∷ []) refl reader reader began (began + 1) copies given
        opening opening (locked p t) s on
        (subst (λ k. IsOpened bits' moments' t k opening) (sym whole) opened)
        (ap (λ l. l ++ opening) (sym empty))
        (subst (ReadsLock reader (first_role bits' t) (word_of_lock bits' t)) (sym whole)
        (fresh.fresh (first_role bits' t) (word_of_lock bits' t)))
        (omega (arith, s.locks_counted, ap now_locks e)) (omega arith)
        (omega (arith, ap (headers_shown bits' t) whole, no_headers bits' t))

    -- an element with which word n of the lock at t is complete
    pub word_on : (reader' : Reading) (printed : Option ℕ) (w : ℕ) (role : Role) (p t n : ℕ)
        (s : Shows reader began copies bits moments given) → s.now ≡ locked p t → IsPattern bits t
        → length bits' ≡ t + 7 * (n + 1)
        → length bits' < 2 ^ 64 → IsNow bits' s.locks (locked p t)
        → heard_word bits' t n ≡ (w, role) → HearsWord reader reader' w role printed
        → Shows reader' began copies bits' moments' (given ++ option_to_list printed)
    word_on reader' printed w role p t n s e here at few on pair hears =
        words_on bits (b ∷ []) moments (m ∷ []) refl reader reader' began copies given
        (option_to_list printed) p t n 1 s e here (omega (arith, at, longer)) (omega (arith, at))
        (omega arith) on
        (λ before. hears.hears (first_role bits' t) (word_of_lock bits' t) n before
        (ap (λ x. x.0) pair) (sym (ap (λ x. x.1) pair)) (omega (arith, at, few))) hears.few

    -- an element with which the lock is over
    pub word_over : (reader' last : Reading) (printed : Option ℕ) (w : ℕ) (role : Role)
        (copies' p q : ℕ) (lock : Lock) (s : Shows reader began copies bits moments given)
        → s.now ≡ locked p lock.at → IsNow bits s.locks (locked p lock.at)
        → length bits' ≡ q → length bits' < 2 ^ 64 → IsNow bits' (lock ∷ s.locks) (hunting q)
        → heard_word bits' lock.at lock.last ≡ (w, role)
        → HearsWord reader reader' w role printed
        → (civil : List ℕ) → IsShownAs m civil → IsFresh last
        → copies' ≡ min (copies + reader'.copies) (2 ^ 64 - 1)
        → Shows last began copies' bits' moments'
        (given ++ (option_to_list printed ++ closing_of reader' civil lock.how))
    unfolding Past AreShown past_headers wrong_words
    word_over reader' last printed w role copies' p q lock s e is end few on pair hears civil shown
        fresh counted =
        let t = lock.at in
        let n = lock.last in
        let here = is.found.here in
        let at : length bits' ≡ t + 7 * (n + 1) = end ∙ on.past.0.next in
        let whole : whole_words bits t ≡ n = omega (arith, at, longer) in
        let was : IsOpened bits moments t n s.rest =
        subst (λ k. IsOpened bits moments t k s.rest) whole
        (subst (λ k. IsNowShown bits moments k s.rest) e s.standing) in
        let reads : ReadsLock reader (first_role bits t) (word_of_lock bits t) n =
        subst (ReadsLock reader (first_role bits t) (word_of_lock bits t)) whole
        (subst (ReadsNow reader bits) e s.reads) in
        let w' = words_shown bits (b ∷ []) moments (m ∷ []) refl reader reader'
        (option_to_list printed) s.rest t n 1 s.many here (omega (arith, at, longer)) was reads
        (λ before. hears.hears (first_role bits' t) (word_of_lock bits' t) n before
        (ap (λ x. x.0) pair) (sym (ap (λ x. x.1) pair)) (omega (arith, at, few))) in
        let text = shown_text bits' t (n + 1) in
        let place : word_place t n ≡ length moments = omega (arith, at, longer, s.many) in
        let moment : moment_at moments' (word_place t n) ≡ m =
        ap (λ k. get_or moments' k 0) place ∙ get_or-pushed moments m 0 in
        let headers' : headers_shown bits' t (n + 1) ≡ reader'.copies =
        headers_read reader' t (n + 1) bits' w'.reads in
        let headers'' : headers_shown bits t n ≡ reader.copies =
        headers_read reader t n bits reads in
        let front = s.rest ++ option_to_list printed in
        let lines = closing_lines civil lock.how reader'.words reader'.wrong reader'.copies in
        let missing = missing_is reader'.is_line_open text
        (w'.reads.line ∙ ap (λ l. not (is_of_lines l)) (sym (shown_is bits' t (n + 1)))) in
        let this = front ++ missing_newline text ++ lines in
        let past = IsNow-past bits s.locks s.now s.stands in
        let same = past_headers-more bits (b ∷ []) s.locks past.0 past.1 in
        let block : IsPastShown bits' moments' lock this = record {
          opened = front;
          opens = w'.opened;
          closing = lines;
          closes = record {
            civil = civil;
            shown = subst (λ k. IsShownAs k civil) (sym moment) shown;
            spelled = cc (w'.reads.words_counted, w'.reads.wrong_counted, headers');
          };
          spelled = refl;
        } in
        record {
          locks = lock ∷ s.locks;
          now = hunting q;
          stands = on;
          many = omega (arith, length_push bits b, length_push moments m, s.many);
          past = s.past ++ this;
          shown = (
            s.past,
            this,
            past-more bits (b ∷ []) moments (m ∷ []) s.many s.locks past.0
                past.1 s.past s.shown,
            block,
            refl,
          );
          rest = [];
          standing = refl;
          spelled = ap (λ l. l ++ (option_to_list printed ++ closing_of reader' civil lock.how))
              s.spelled
              ∙ ap (λ l. (s.past ++ s.rest) ++ (option_to_list printed ++ (l ++ lines))) missing
              ∙ joined s.past s.rest (option_to_list printed) (missing_newline text) lines
              ∙ sym (append-nil (s.past ++ this));
          reads = fresh;
          locks_counted = omega (arith, s.locks_counted, ap now_locks e);
          copies_counted = omega (
            arith,
            counted,
            s.copies_counted,
            same,
            headers',
            headers'',
            hears.few,
            s.few_copies,
            ap (now_headers bits) e,
            ap (headers_shown bits t) whole,
            few,
            longer,
          );
          few_locks = omega (arith, s.few_locks, ap now_locks e, longer);
          few_copies = omega (
            arith,
            s.few_copies,
            same,
            headers',
            headers'',
            hears.few,
            ap
                (now_headers bits) e,
            ap (headers_shown bits t) whole,
            longer,
          );
        }
