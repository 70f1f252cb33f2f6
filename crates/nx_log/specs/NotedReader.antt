-- What contracts see of a reader that notes what had been told as each read was asked for (this
-- profile).
use Rattle.std.specs.Prelude.{◌≡◌}
use Rattle.nx_fec.specs.Transfers.{CountedDevice}
use Rattle.nx_log.specs.declared.noted_reader.NotedReader.{NotedReader}

module _ {R N : Type 0} where
  -- the counted reader that it reads from
  abbrev pub counted_of : NotedReader R N → CountedDevice R
  counted_of reader = reader.reader

  -- that reader and the notices, as they stood when the last read was asked for; before the first,
  -- as it was made
  abbrev pub as_asked : NotedReader R N → CountedDevice R
  as_asked reader = reader.asked.value

  abbrev pub told_as_asked : NotedReader R N → CountedDevice N
  told_as_asked reader = reader.told.value

  -- Told before: where a read has failed, the notices stand as when it was asked for. None had
  -- failed then, so nothing was told behind it.
  abbrev pub HasToldBefore : NotedReader R N → CountedDevice N → Type 0
  HasToldBefore reader notices = (counted_of reader).failures ≡ 1
      → ((as_asked reader).failures ≡ 0) × (told_as_asked reader ≡ notices)
