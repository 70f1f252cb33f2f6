-- The header and the marker with which a text ends, if it ends with one (ITU-R M.540). What looks
-- for them is private: which they are, two laws say by the relations of Header.antt.
use Rattle.std.specs.Prelude.{ℕ, List, Option}
use Rattle.nx_envelope.specs.private.Reading.{identity_read, marker_read}
use Rattle.nx_envelope.specs.declared.identity.Identity.{Identity}
use Rattle.nx_envelope.specs.declared.found.How.{How}

-- the identity of the header with which a text ends, if it ends with one: the law
-- `header_is_spelled` says that it is the one of `EndsWithHeader`
abbrev pub identity_at_end : List ℕ → Option Identity
identity_at_end text = identity_read text

-- how the marker with which a text ends ends a copy, if it ends with one: the law
-- `markers_are_spelled` says that it is the way of `EndsWithMarker`
abbrev pub marker_at_end : List ℕ → Option How
marker_at_end text = marker_read text
