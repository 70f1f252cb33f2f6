-- The definitions, evaluated on worked examples.
use Rattle.std.proofs.Common.{◌≡◌, ℕ, List, [], ◌∷◌, ◌++◌, Some, None, map, pos, arith, refl, rules}
use Rattle.std.specs.Prelude.{codes}
use Rattle.jiff_core.proofs.CalendarLemmas.{days_from_civil-day_count}
use Rattle.jiff_core.proofs.MarchLemmas.{day_count-early}
use Rattle.jiff_core.proofs.SignedLemmas.{signed_arith}
use Rattle.nx_envelope.specs.Header.{Header}
use Rattle.nx_envelope.specs.private.Reading.{read_header, identity_read, marker_read}
use Rattle.nx_envelope.specs.Copies.{Copy, beginnings, closed_copy, copies, ended_copy, ending_of}
use Rattle.nx_envelope.specs.Copies.{header_at_end, headers, is_open, ending_by_marker}
use Rattle.nx_envelope.specs.Copies.{open_headers, raw_text, errors_of}
use Rattle.nx_envelope.specs.private.Within.{ending_within, long_within}
use Rattle.nx_envelope.specs.Identity.{identity_bytes}
use Rattle.nx_envelope.specs.Moment.{IsShownAs}
use Rattle.nx_envelope.specs.declared.found.How.{How}
use Rattle.nx_envelope.specs.declared.found.How.TheVariants.{Full, Cut, Long}

-- a header as its identity is written, and the index behind it
abbrev pub shown_header : Header → List ℕ × ℕ
shown_header h = (identity_bytes h.identity, h.behind)

-- a copy as its identity is written, how it ended and its text
abbrev pub shown_copy : Copy → List ℕ × How × List ℕ
shown_copy c = (identity_bytes c.header.identity, c.how, c.text)

-- the letters ZC before the header's own ZCZC
pub behind_zc : map shown_header (headers (codes "ZCZCZC EA01")) ≡ (codes "EA01", 11) ∷ []
unfolding headers beginnings header_at_end identity_read read_header
behind_zc = refl

-- ZC may be a station and a subject: two headers, of which the second begins in the first
pub of_zc : map shown_header (headers (codes "ZCZC  ZC12ZCZC EA01"))
    ≡ (codes "ZC12", 10) ∷ (codes "EA01", 19) ∷ []
unfolding headers beginnings header_at_end identity_read read_header
of_zc = refl

-- no space, a digit for the subject, an asterisk for a digit
pub no_space : map shown_header (headers (codes "ZCZCEA01")) ≡ []
unfolding headers beginnings header_at_end identity_read read_header
no_space = refl

pub no_subject : map shown_header (headers (codes "ZCZC E101")) ≡ []
unfolding headers beginnings header_at_end identity_read read_header
no_subject = refl

pub lost_digit : map shown_header (headers (codes "ZCZC EA*1")) ≡ []
unfolding headers beginnings header_at_end identity_read read_header
lost_digit = refl

-- one newline (10) behind the header is no part of the text, a second is
pub full_copy : map shown_copy (copies (codes "ZCZC EA01" ++ 10 ∷ 10 ∷ codes "A*NNNN"))
    ≡ (codes "EA01", Full, 10 ∷ codes "A*") ∷ []
unfolding headers beginnings header_at_end identity_read read_header copies ended_copy closed_copy
    raw_text ending_of ending_by_marker marker_read
full_copy = refl

-- cut by a ZCZC, which begins another header, whose copy the end of the text cuts
pub cut_copies : map shown_copy (copies (codes "ZCZC EA01NNZCZC FB02X*"))
    ≡ (codes "EA01", Cut, codes "NN") ∷ (codes "FB02", Cut, codes "X*") ∷ []
unfolding headers beginnings header_at_end identity_read read_header copies ended_copy closed_copy
    raw_text ending_of ending_by_marker marker_read
cut_copies = refl

-- the second of these stands open before the end of the text
pub one_is_open : map shown_header (open_headers (codes "ZCZC EA01NNZCZC FB02X*"))
    ≡ (codes "FB02", 20) ∷ []
unfolding headers beginnings header_at_end identity_read read_header open_headers is_open raw_text
    ending_of ending_by_marker marker_read
one_is_open = refl

-- with a limit of 5 characters in place of 4,100: a marker that is complete at the limit wins, and
-- else the copy is long
pub marker_at_the_limit : ending_within 5 (codes "ANNNN")
    ≡ Some (record { how = Full; text = codes "A" })
unfolding beginnings ending_within long_within ending_by_marker marker_read
marker_at_the_limit = refl

pub long_at_the_limit : ending_within 5 (codes "ABNNNN")
    ≡ Some (record { how = Long; text = codes "ABNNN" })
unfolding beginnings ending_within long_within ending_by_marker marker_read
long_at_the_limit = refl

pub below_the_limit : ending_within 5 (codes "ABNN") ≡ None
unfolding beginnings ending_within long_within ending_by_marker marker_read
below_the_limit = refl

pub two_errors : errors_of (codes "*A*") ≡ 2
two_errors = refl

-- 20,089 days and 2,400 seconds after 1970-01-01 00:00:00
pub slot_of_e : IsShownAs 1735692000 (codes "2025-01-01 00:40:00")
slot_of_e = record {
  year = 2025;
  month = 1;
  day = 1;
  date = (search rules, search rules, search rules);
  is_day = omega (
    arith,
    signed_arith,
    days_from_civil-day_count (pos 2025) 1 1,
    day_count-early
        (pos 2025) 12024 1 1 refl (search rules) (search rules) (search rules),
  );
  is_text = refl;
}
