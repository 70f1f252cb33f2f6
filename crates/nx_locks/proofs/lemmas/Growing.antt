-- More elements leave what is shown of the locks before them.
use Rattle.std.proofs.Common.{◌≡◌, ℕ, ◌+◌, ◌-◌, ◌*◌, ◌<◌, ◌≤◌, Bool, true, false, cond, not, List}
use Rattle.std.proofs.Common.{[], ◌∷◌, ◌++◌, length, refl, sym, ap, ap₂, ◌∙◌, subst, arith}
use Rattle.std.proofs.lemmas.List.{get_or_append_left}
use Rattle.nx_envelope.specs.Copies.{headers, beginnings, header_at_end}
use Rattle.nx_envelope.specs.private.Reading.{identity_read}
use Rattle.nx_envelope.specs.Moment.{IsShownAs}
use Rattle.nx_sync.specs.Locks.{Lock, IsPattern, Past}
use Rattle.nx_sync.specs.Words.{word_of_lock, first_role}
use Rattle.nx_sync.specs.declared.step.Change.{Change}
use Rattle.nx_sync.proofs.lemmas.states.KeptPast.{word_at-more, wrong_in-same}
use Rattle.nx_copies.specs.copies.Log.{is_of_lines, missing_newline}
use Rattle.nx_copies.specs.copies.LockText.{bytes_of, text_by}
use Rattle.nx_copies.specs.private.ReaderWords.{word_place}
use Rattle.nx_copies.specs.copies.LockText.{text_after}
use Rattle.nx_copies.proofs.lemmas.locks.Texts.{bytes_are_reading, lock_text-more}
use Rattle.nx_copies.proofs.lemmas.copy_hearer.Bits as watching
use Rattle.nx_locks.specs.LockText.{headers_shown, shown_text, wrong_words}
use Rattle.nx_locks.specs.Report.{AreShown, IsClosing, IsOpened, IsOpening, IsShown, moment_at}
use Rattle.nx_locks.specs.Report.{past_headers}
use Rattle.nx_locks.specs.ReportText.{closing_lines}
use Rattle.nx_locks.specs.private.Reader.{Reading, ReadsLock}

pub shown_is : (bits : List Bool) (t n : ℕ)
    → shown_text bits t n ≡ text_after (first_role bits t) (word_of_lock bits t) n
unfolding shown_text
shown_is bits t n = bytes_are_reading (first_role bits t) (word_of_lock bits t) t n

pub none_shown : (bits : List Bool) (t : ℕ) → shown_text bits t 0 ≡ []
unfolding shown_text text_by bytes_of
none_shown bits t = refl

pub no_headers : (bits : List Bool) (t : ℕ) → headers_shown bits t 0 ≡ 0
unfolding headers_shown headers beginnings header_at_end identity_read
no_headers bits t = ap (λ l. length (headers l)) (none_shown bits t)

-- what is counted of a lock whose words were heard, and its text
module _ (bits more : List Bool) (t n : ℕ) (here : IsPattern bits t) (h : t + 7 * n ≤ length bits)
  where
    pub text-more : shown_text (bits ++ more) t n ≡ shown_text bits t n
    unfolding shown_text
    text-more = ap bytes_of (lock_text-more bits more t n here h)

    pub wrong-more : wrong_words (bits ++ more) t n ≡ wrong_words bits t n
    unfolding wrong_words
    wrong-more = wrong_in-same (word_of_lock (bits ++ more) t) (word_of_lock bits t) 0 n
        (λ j lt. word_at-more bits more t j (omega (arith, lt, h)))

    pub headers-more : headers_shown (bits ++ more) t n ≡ headers_shown bits t n
    unfolding headers_shown
    headers-more = ap (λ l. length (headers l)) text-more

    -- the reader stays where it stands
    pub reads-on : (reader : Reading) → ReadsLock reader (first_role bits t) (word_of_lock bits t) n
        → ReadsLock reader (first_role (bits ++ more) t) (word_of_lock (bits ++ more) t) n
    unfolding wrong_words
    reads-on reader r =
        let same : text_after (first_role bits t) (word_of_lock bits t) n
        ≡ text_after (first_role (bits ++ more) t) (word_of_lock (bits ++ more) t) n =
        sym (shown_is bits t n) ∙ sym text-more ∙ shown_is (bits ++ more) t n in
        record {
          reads = watching.reads-more reader.lock bits more t n here h r.reads;
          words_counted = r.words_counted;
          wrong_counted = r.wrong_counted ∙ sym wrong-more;
          copies_counted = r.copies_counted ∙ ap (λ l. length (headers l)) same;
          wrong_few = r.wrong_few;
          copies_few = r.copies_few;
          line = r.line ∙ ap (λ l. not (is_of_lines l)) same;
        }

    module _ (moments later : List ℕ) (many : length moments ≡ length bits) where
      opening-more : (bytes : List ℕ) → IsOpening moments t bytes
          → IsOpening (moments ++ later) t bytes
      opening-more bytes o = record {
        civil = o.civil;
        shown = subst (λ k. IsShownAs k o.civil)
            (sym (get_or_append_left moments later 0 (t - 1)
            (omega (arith, here.enough, here.heard, many)))) o.shown;
        spelled = o.spelled;
      }

      pub opened-more : (bytes : List ℕ) → IsOpened bits moments t n bytes
          → IsOpened (bits ++ more) (moments ++ later) t n bytes
      opened-more bytes o = record {
        opening = o.opening;
        opens = opening-more o.opening o.opens;
        spelled = o.spelled ∙ ap (λ l. o.opening ++ l) (sym text-more);
      }

      closing-more : (how : Change) (moment : ℕ) (bytes : List ℕ)
          → IsClosing bits t n how moment bytes → IsClosing (bits ++ more) t n how moment bytes
      closing-more how moment bytes c = record {
        civil = c.civil;
        shown = c.shown;
        spelled = c.spelled ∙ ap₂ (λ w k. closing_lines c.civil how n w k) (sym wrong-more)
            (sym headers-more);
      }

      pub shown-more : (how : Change) (moment : ℕ) (bytes : List ℕ)
          → IsShown bits moments t n how moment bytes
          → IsShown (bits ++ more) (moments ++ later) t n how moment bytes
      shown-more how moment bytes s = record {
        opened = s.opened;
        opens = opened-more s.opened s.opens;
        closing = s.closing;
        closes = closing-more how moment s.closing s.closes;
        spelled = s.spelled ∙ ap (λ l. s.opened ++ missing_newline l ++ s.closing) (sym text-more);
      }

-- the locks that were released
pub past-more : (bits more : List Bool) (moments later : List ℕ) → length moments ≡ length bits
    → (locks : List Lock) (p : ℕ) → Past bits locks p
    → (bytes : List ℕ) → AreShown bits moments locks bytes
    → AreShown (bits ++ more) (moments ++ later) locks bytes
unfolding AreShown Past
past-more bits more moments later many [] p past bytes h = h
past-more bits more moments later many (lock ∷ older) p past bytes h =
    let heard : lock.at + 7 * (lock.last + 1) ≤ length bits = past.0.released.heard in
    let place : word_place lock.at lock.last < length moments = omega (arith, heard, many) in
    let there = shown-more bits more lock.at (lock.last + 1) past.0.found.here heard moments later
    many lock.how (moment_at moments (word_place lock.at lock.last)) h.1 h.3 in (
      h.0,
      h.1,
      past-more bits more moments later many older lock.from past.1 h.0 h.2,
      subst (λ m. IsShown (bits ++ more) (moments ++ later) lock.at (lock.last + 1) lock.how m h.1)
          (sym (get_or_append_left moments later 0 (word_place lock.at lock.last) place)) there,
      h.4,
    )

pub past_headers-more : (bits more : List Bool) (locks : List Lock) (p : ℕ) → Past bits locks p
    → past_headers (bits ++ more) locks ≡ past_headers bits locks
unfolding past_headers Past
past_headers-more bits more [] p past = refl
past_headers-more bits more (lock ∷ older) p past =
    ap₂ (λ a b. a + b) (past_headers-more bits more older lock.from past.1)
    (headers-more bits more lock.at (lock.last + 1) past.0.found.here past.0.released.heard)

-- the newline that a text misses, by whether its last line is open
pub missing_is : (left : Bool) (text : List ℕ) → left ≡ not (is_of_lines text)
    → cond {A = List ℕ} left (10 ∷ []) [] ≡ missing_newline text
unfolding missing_newline
missing_is left text e =
    elim (is_of_lines text) as (λ (lines : Bool). left ≡ not lines
    → cond {A = List ℕ} left (10 ∷ []) [] ≡ cond {A = List ℕ} lines [] (10 ∷ [])) [
      | true ↦ λ f. ap (λ o. cond {A = List ℕ} o (10 ∷ []) []) f
      | false ↦ λ f. ap (λ o. cond {A = List ℕ} o (10 ∷ []) []) f
    ] e
