-- What the positions behind a header give: their text, how it ended, and where (the form of a
-- message is that of ITU-R M.540; what is printed of positions, of M.476).
use Rattle.std.specs.Prelude.{◌≡◌, ℕ, Bool, is_some, List, length, take, unwrap_or}
use Rattle.std.specs.List.{find, range_with_len}
use Rattle.nx_code.specs.Reading.{Reception, text}
use Rattle.nx_code.specs.declared.shifts.Shift.TheVariants.{Figures}
use Rattle.nx_envelope.specs.Copies.{Ending, ending_of, less_newline}
use Rattle.nx_envelope.specs.declared.finder.Finder.{Finder}
use Rattle.nx_envelope.specs.declared.found.HeldCopy.TheVariants.{Ready}
use Rattle.nx_envelope.specs.declared.found.How.TheVariants.{Cut}
use Rattle.nx_envelope.specs.declared.identity.Identity.{Identity}

-- the raw text of the positions: they are read from figures, since the digit before them is one,
-- and it begins behind a newline that stands directly there
unfoldable pub raw_text_of : List Reception → List ℕ
raw_text_of positions = less_newline (text positions Figures)

-- how a text that has no end is closed: it is cut, all of it
abbrev pub closed : List ℕ → Ending
closed raw = record { how = Cut; text = raw }

-- how the text of the positions ended, and what is found of it: by the first marker or the 4,100th
-- byte, or else closed
unfoldable pub ending_by : List Reception → Ending
ending_by positions = unwrap_or (ending_of (raw_text_of positions)) (closed (raw_text_of positions))

-- a marker or the 4,100th byte ends the text of the positions
abbrev pub has_ended : List Reception → Bool
has_ended positions = is_some (ending_of (raw_text_of positions))

-- The end of a list of positions: so many of them, the fewest, have a text that has ended. It is
-- behind all of them where there are none such.
unfoldable pub end_of : List Reception → ℕ
end_of positions =
    unwrap_or (find (λ n. has_ended (take n positions)) (range_with_len 0 (length positions)))
    (length positions)

-- the positions up to their end
abbrev pub up_to_end : List Reception → List Reception
up_to_end positions = take (end_of positions) positions

-- the finder has what the positions give, as a copy of this identity
pub record HasRead (finder : Finder) (identity : Identity) (positions : List Reception) : Type 0
  where
    pub held : finder.copy ≡ Ready identity (ending_by positions).how
    pub text : finder.text ≡ (ending_by positions).text
