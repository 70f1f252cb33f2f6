-- The definitions of the memory, evaluated on worked examples.
use Rattle.std.specs.Prelude.{◌≡◌, ℕ, true, false, List, [], ◌∷◌, ◌++◌, map, codes, Some, None}
use Rattle.std.specs.Prelude.{refl}
use Rattle.std.specs.Fmt.{digits}
use Rattle.std.specs.FinSet as set
use Rattle.std.proofs.Common.{lit≤, ap}
use Rattle.nx_envelope.specs.declared.identity.Identity.{Identity}
use Rattle.nx_memory.specs.declared.memories.entry.MemoryEntry.{MemoryEntry}
use Rattle.nx_memory.specs.declared.state.saved_line.SavedLine.TheVariants.{Station, Subject, Entry}
use Rattle.nx_memory.specs.Saved.{SavedState, nothing_saved}
use Rattle.nx_memory.specs.StateText.{spelling, last_line, text_1, text_2}
use Rattle.nx_memory.proofs.lemmas.Rising.{rising-empty}
use Rattle.nx_memory.specs.Memory.{content_after, newest_of, is_known}
use Rattle.nx_memory.specs.Table.{index_of, moment_of_last}
use Rattle.nx_memory.specs.Selection.{is_vital}

-- the message 01 of station E (69) and subject A (65), and the message 02
abbrev pub ea01 : Identity
ea01 = record {
  b1 = record { byte = 69; in_range = (lit≤ tt, lit≤ tt) };
  b2 = record { byte = 65; in_range = (lit≤ tt, lit≤ tt) };
  number = 1;
  two_digits = lit≤ tt;
}

abbrev pub ea02 : Identity
ea02 = record {
  b1 = record { byte = 69; in_range = (lit≤ tt, lit≤ tt) };
  b2 = record { byte = 65; in_range = (lit≤ tt, lit≤ tt) };
  number = 2;
  two_digits = lit≤ tt;
}

abbrev pub entry_at : Identity → ℕ → MemoryEntry
entry_at identity moment = record { identity = identity; moment = moment }

-- entered at 0: known to the last second before 66 hours have passed, and no longer
pub known_below_66_hours : is_known ea01 237599 (content_after [] ea01 0) ≡ true
known_below_66_hours = refl

pub unknown_at_66_hours : is_known ea01 237600 (content_after [] ea01 0) ≡ false
unknown_at_66_hours = refl

pub another_unknown : is_known ea02 0 (content_after [] ea01 0) ≡ false
another_unknown = refl

-- entered again, it is known by the later entry
pub known_again : is_known ea01 237600 (content_after (content_after [] ea01 0) ea01 237600) ≡ true
known_again = refl

pub newest_is_last : newest_of (content_after (content_after [] ea01 5) ea02 9) ≡ Some 9
newest_is_last = refl

pub newest_of_none : newest_of [] ≡ None
newest_of_none = refl

-- EA01 has the place 4 stations and its own number behind AA00, and the last moment of an identity
-- is that of its last entry
pub place_of_ea01 : index_of ea01 ≡ 10401
place_of_ea01 = refl

pub last_of_two : moment_of_last ea01
    (entry_at ea01 0 ∷ entry_at ea02 5 ∷ entry_at ea01 237600 ∷ entry_at ea02 237700 ∷ [])
    ≡ Some 237600
last_of_two = refl

pub last_of_none : moment_of_last ea01 (entry_at ea02 5 ∷ []) ≡ None
last_of_none = refl

-- D (68) and L (76) are vital, C (67) isn't
pub d_is_vital : is_vital 68 ≡ true
d_is_vital = refl

pub l_is_vital : is_vital 76 ≡ true
l_is_vital = refl

pub c_is_not_vital : is_vital 67 ≡ false
c_is_not_vital = refl

-- the text of version 1 of one entry of EA01, and that of version 2 where channel 1 has another
pub one_entry : ℕ → SavedState
one_entry moment = record {
  refused = record { stations = set.empty; subjects = set.empty };
  entries = entry_at ea01 moment ∷ [];
}

pub text_of_one : text_1 (one_entry 1735692000)
    ≡ codes "STATE 1" ∷ codes "EA01 1735692000" ∷ codes "END" ∷ []
unfolding one_entry digits
text_of_one = ap (λ (l : List ℕ). codes "STATE 1"
    ∷ (map spelling (map Station l ++ (map Subject l ++ Entry (entry_at ea01 1735692000) ∷ []))
    ++ last_line)) rising-empty

pub text_of_two : text_2 (record
    { on_0 = one_entry 1735692000; on_1 = one_entry 1735706400; on_2 = nothing_saved })
    ≡ codes "STATE 2" ∷ codes "C0" ∷ codes "EA01 1735692000" ∷ codes "C1" ∷ codes "EA01 1735706400"
    ∷ codes "C2" ∷ codes "END" ∷ []
unfolding one_entry digits
text_of_two = ap (λ (l : List ℕ).
    codes "STATE 2" ∷ codes "C0"
    ∷ (map spelling (map Station l ++ (map Subject l ++ Entry (entry_at ea01 1735692000) ∷ []))
    ++ codes "C1" ∷ (map spelling
    (map Station l ++ (map Subject l ++ Entry (entry_at ea01 1735706400) ∷ []))
    ++ codes "C2" ∷ (map spelling (map Station l ++ (map Subject l ++ [])) ++ last_line))))
    rising-empty
