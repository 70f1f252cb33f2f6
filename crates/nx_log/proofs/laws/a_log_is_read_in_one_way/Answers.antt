use Rattle.std.proofs.Common.{[], ◌++◌, refl, sym, append-nil}
use Rattle.nx_log.proofs.lemmas.reading.Entries.{entry_bounded, entry_is_some, one_entry, one_reading}
use Rattle.nx_log.proofs.laws.a_log_is_read_in_one_way.Goals as goal

pub returns : goal.returns
returns c = record {
  one_list = one_reading;
  one_entry = λ one other bytes l m. (one_entry one other bytes bytes [] [] l m refl).entry;
  none_begins = λ one other bytes more l m.
      (one_entry one other bytes (bytes ++ more) more [] l m
      (sym (append-nil (bytes ++ more)))).rest;
  some = λ one bytes l. entry_is_some one bytes l.entry;
  short = entry_bounded;
}
