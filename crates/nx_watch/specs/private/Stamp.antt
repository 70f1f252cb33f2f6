-- What only private contracts and proofs cite, beside Stamp (this profile).
use Rattle.nx_watch.specs.Stamp.{stamp, CutNote}

-- a note of a cut: the disk, and the notices as they stood then
abbrev pub note : {D N : Type 0} → D → N → CutNote D N
note disk notices = stamp 0 0 disk tt notices
