-- There is one report of what was heard.
use Rattle.std.proofs.Common.{◌≡◌, ℕ, ◌+◌, ◌-◌, Bool, List, [], ◌∷◌, ◌++◌, length, sym, ap, ap₂}
use Rattle.std.proofs.Common.{◌∙◌, subst}
use Rattle.nx_envelope.proofs.lemmas.moments.OneText.{one_text}
use Rattle.nx_sync.specs.Locks.{Lock, Now, hunting, locked}
use Rattle.nx_sync.specs.Words.{whole_words}
use Rattle.nx_sync.specs.declared.step.Change.{Change}
use Rattle.nx_sync.specs.declared.step.Change.TheVariants.{Locked}
use Rattle.nx_sync.proofs.lemmas.states.UniqueStates.{locks-unique, now-unique}
use Rattle.nx_fec.specs.air_files.AirFile.{Line}
use Rattle.nx_fec.specs.air_files.Lines.{air_limit}
use Rattle.nx_fec.proofs.lemmas.lines.LineLaws.{IsAirFile-unique}
use Rattle.nx_copies.specs.copies.Log.{missing_newline}
use Rattle.nx_copies.specs.private.ReaderWords.{word_place}
use Rattle.nx_locks.specs.LockText.{headers_shown, shown_text, wrong_words}
use Rattle.nx_locks.specs.Report.{AreShown, IsClosing, IsEndShown, IsNowShown, IsOpened, IsOpening}
use Rattle.nx_locks.specs.Report.{IsReport, IsReportSoFar, IsShown, moment_at, now_headers}
use Rattle.nx_locks.specs.Report.{now_locks, past_headers}
use Rattle.nx_locks.specs.ReportText.{closing_lines, last_line, opening_line}
use Rattle.nx_locks.specs.Run.{IsReportOf, IsReportOfLines, elements_on_0, ending_of, moments_on_0}

one_opening : (moments : List ℕ) (t : ℕ) (a b : List ℕ) → IsOpening moments t a
    → IsOpening moments t b → a ≡ b
one_opening moments t a b x y =
    x.spelled ∙ ap (λ c. opening_line c t)
    (one_text (moment_at moments (t - 1)) x.civil y.civil x.shown y.shown) ∙ sym y.spelled

one_opened : (bits : List Bool) (moments : List ℕ) (t n : ℕ) (a b : List ℕ)
    → IsOpened bits moments t n a → IsOpened bits moments t n b → a ≡ b
one_opened bits moments t n a b x y =
    x.spelled ∙ ap (λ o. o ++ shown_text bits t n)
    (one_opening moments t x.opening y.opening x.opens y.opens) ∙ sym y.spelled

one_closing : (bits : List Bool) (t n : ℕ) (how : Change) (moment : ℕ) (a b : List ℕ)
    → IsClosing bits t n how moment a → IsClosing bits t n how moment b → a ≡ b
one_closing bits t n how moment a b x y =
    x.spelled ∙ ap (λ c. closing_lines c how n (wrong_words bits t n) (headers_shown bits t n))
    (one_text moment x.civil y.civil x.shown y.shown) ∙ sym y.spelled

one_shown : (bits : List Bool) (moments : List ℕ) (t n : ℕ) (how : Change) (moment : ℕ)
    (a b : List ℕ) → IsShown bits moments t n how moment a → IsShown bits moments t n how moment b
    → a ≡ b
one_shown bits moments t n how moment a b x y =
    x.spelled
    ∙ ap₂ (λ o c. o ++ missing_newline (shown_text bits t n) ++ c)
    (one_opened bits moments t n x.opened y.opened x.opens y.opens)
    (one_closing bits t n how moment x.closing y.closing x.closes y.closes)
    ∙ sym y.spelled

one_past : (bits : List Bool) (moments : List ℕ) (locks : List Lock) (a b : List ℕ)
    → AreShown bits moments locks a → AreShown bits moments locks b → a ≡ b
unfolding AreShown
one_past bits moments [] a b x y = x ∙ sym y
one_past bits moments (lock ∷ older) a b x y =
    x.4
    ∙ ap₂ (λ o c. o ++ c) (one_past bits moments older x.0 y.0 x.2 y.2)
    (one_shown bits moments lock.at (lock.last + 1) lock.how
    (moment_at moments (word_place lock.at lock.last)) x.1 y.1 x.3 y.3)
    ∙ sym y.4

one_now : (bits : List Bool) (moments : List ℕ) (now : Now) (a b : List ℕ)
    → IsNowShown bits moments now a → IsNowShown bits moments now b → a ≡ b
one_now bits moments (hunting p) a b x y = x ∙ sym y
one_now bits moments (locked p t) a b x y = one_opened bits moments t (whole_words bits t) a b x y

one_end : (bits : List Bool) (moments : List ℕ) (ending : ℕ) (now : Now) (a b : List ℕ)
    → IsEndShown bits moments ending now a → IsEndShown bits moments ending now b → a ≡ b
one_end bits moments ending (hunting p) a b x y = x ∙ sym y
one_end bits moments ending (locked p t) a b x y =
    one_shown bits moments t (whole_words bits t) Locked ending a b x y

pub one_so_far : (bits : List Bool) (moments a b : List ℕ) → IsReportSoFar bits moments a
    → IsReportSoFar bits moments b → a ≡ b
one_so_far bits moments a b x y =
    let locks = locks-unique bits x.locks y.locks x.now y.now x.stands y.stands in
    let now = now-unique bits x.locks y.locks x.now y.now x.stands y.stands in
    x.spelled
    ∙ ap₂ (λ o c. o ++ c) (one_past bits moments y.locks x.past y.past
    (subst (λ k. AreShown bits moments k x.past) locks x.shown) y.shown)
    (one_now bits moments y.now x.rest y.rest
    (subst (λ k. IsNowShown bits moments k x.rest) now x.standing) y.standing)
    ∙ sym y.spelled

pub one_report : (bits : List Bool) (moments : List ℕ) (ending : ℕ) (a b : List ℕ)
    → IsReport bits moments ending a → IsReport bits moments ending b → a ≡ b
one_report bits moments ending a b x y =
    let locks = locks-unique bits x.locks y.locks x.now y.now x.stands y.stands in
    let now = now-unique bits x.locks y.locks x.now y.now x.stands y.stands in
    x.spelled
    ∙ ap₂ (λ o c. o ++ c ++ last_line (length bits) (length x.locks + now_locks x.now)
    (past_headers bits x.locks + now_headers bits x.now))
    (one_past bits moments y.locks x.past y.past
    (subst (λ k. AreShown bits moments k x.past) locks x.shown) y.shown)
    (one_end bits moments ending y.now x.rest y.rest
    (subst (λ k. IsEndShown bits moments ending k x.rest) now x.standing) y.standing)
    ∙ ap₂ (λ k n. y.past ++ y.rest
    ++ last_line (length bits) (length k + now_locks n)
    (past_headers bits k + now_headers bits n)) locks now
    ∙ sym y.spelled

pub one_of_lines : (lines : List Line) (a b : List ℕ) → IsReportOfLines lines a
    → IsReportOfLines lines b → a ≡ b
one_of_lines lines a b x y =
    one_so_far (elements_on_0 lines) (moments_on_0 lines) a b x.report y.report

pub one_of_file : (file a b : List ℕ) → IsReportOf file a → IsReportOf file b → a ≡ b
one_of_file file a b x y =
    let lines = IsAirFile-unique air_limit file x.0 y.0 x.1.file y.1.file in
    one_report (elements_on_0 y.0) (moments_on_0 y.0) (ending_of y.0) a b
    (subst (λ l. IsReport (elements_on_0 l) (moments_on_0 l) (ending_of l) a) lines x.1.report)
    y.1.report
