-- A query: which logged entries it chooses (this profile).
use Rattle.std.specs.Prelude.{◌≡◌, ℕ, ◌<◌, ◌==◌, nat_le, Bool, true, false, not, ◌&&◌, ◌||◌}
use Rattle.std.specs.Prelude.{List, filter, length, Option, None, Some}
use Rattle.std.specs.FinSet as set
use Rattle.std.specs.List.{All, list_any}
use Rattle.std.specs.Ordering.{nat_cmp}
use Rattle.nx_code.specs.Reading.{IsCapital}
use Rattle.nx_fec.specs.air_files.Channels.{same_channel}
use Rattle.nx_fec.specs.declared.air_files.channel.Channel.{Channel}
use Rattle.nx_log.specs.Last.{last_by}
use Rattle.nx_log.specs.declared.queries.query.Query.{Query}
use Rattle.nx_copies.specs.copies.Printing.{is_good}
use Rattle.nx_copies.specs.copies.Shares.{MarkedCopy}

-- a text that names letters: one letter A to Z, or more
pub record AreLetters (text : List ℕ) : Type 0 where
  pub some : 0 < length text
  pub capitals : All IsCapital text

-- the set has the letters of the text, and nothing else
abbrev pub IsSetOf : List ℕ → set.FinSet nat_cmp → Type 0
IsSetOf text letters =
    (byte : ℕ) → set.contains letters byte ≡ list_any (λ letter. byte == letter) text

-- the letter is one of these, where letters are named
abbrev pub is_among : Option (set.FinSet nat_cmp) → ℕ → Bool
is_among None letter = true
is_among (Some letters) letter = set.contains letters letter

-- the channel is this one, where one is named
abbrev pub is_heard_on : Option Channel → Channel → Bool
is_heard_on None channel = true
is_heard_on (Some named) channel = same_channel named channel

-- the moment is this one or later, where one is named
abbrev pub is_since : Option ℕ → ℕ → Bool
is_since None moment = true
is_since (Some first) moment = nat_le first moment

-- the moment is this one or earlier, where one is named
abbrev pub is_until : Option ℕ → ℕ → Bool
is_until None moment = true
is_until (Some last) moment = nat_le moment last

-- Admitted: the query admits the entry, by its station, its subject, its channel and its moment,
-- and where good ones alone are asked for, it is good.
unfoldable pub admits : Query → MarkedCopy → Bool
admits query one =
    is_among query.stations one.copy.identity.b1.byte
    && is_among query.subjects one.copy.identity.b2.byte
    && is_heard_on query.channel one.channel
    && is_since query.since one.copy.moment
    && is_until query.until one.copy.moment
    && (not query.good || is_good one.copy)

-- of what has copies that which the query admits, in order
abbrev pub admitted_by : {A : Type 0} → (A → MarkedCopy) → Query → List A → List A
admitted_by copy_of query entries = filter (λ one. admits query (copy_of one)) entries

-- Chosen: what the query admits; and where the last of each message alone is asked for, of this the
-- last.
abbrev pub chosen_so : {A : Type 0} → (A → MarkedCopy) → Bool → List A → List A
chosen_so copy_of true entries = last_by copy_of entries
chosen_so copy_of false entries = entries

abbrev pub chosen_by : {A : Type 0} → (A → MarkedCopy) → Query → List A → List A
chosen_by copy_of query entries =
    chosen_so copy_of query.last (admitted_by copy_of query entries)

-- of entries those that the query chooses
abbrev pub chosen : Query → List MarkedCopy → List MarkedCopy
chosen query entries = chosen_by (λ one. one) query entries
