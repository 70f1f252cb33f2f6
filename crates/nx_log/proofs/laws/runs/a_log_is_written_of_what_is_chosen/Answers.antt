use Rattle.std.proofs.Common.{append-nil, subst}
use Rattle.std.specs.Io.KnownBytes.{Appends, Consumes}
use Rattle.nx_fec.specs.Transfers.{WroteSome, contents_of}
use Rattle.nx_log.proofs.lemmas.runs.Laws.{output_is_log}
use Rattle.nx_log.proofs.laws.runs.a_log_is_written_of_what_is_chosen.Goals as goal

pub returns : goal.returns
returns g c = record {
  whole = λ query d n count h.
      let is = h.answer in
      let wrote = is.4 in (
        h.bytes,
        is.1,
        is.2,
        wrote.output,
        h.consumed,
        is.3,
        output_is_log query is.1 wrote.output wrote.is_output,
        subst (Appends (contents_of d).before (contents_of d).after) (append-nil wrote.output)
            wrote.written,
      );
  unread = λ query d n h.
      let is = h.answer in
      let wrote = is.3 in (
        h.bytes,
        is.0,
        is.1,
        wrote.output,
        h.consumed,
        is.2,
        output_is_log query is.0 wrote.output wrote.is_output,
        wrote.written,
      );
  unwritten = λ query d n written h.
      let is = h.answer in
      let begin = is.2 in
      let wrote = is.3 in (
        begin.front,
        begin.more,
        is.0,
        is.1,
        wrote.output,
        subst (Consumes (d.remaining d.reader.inner) (d.remaining d.reader_after.inner))
            begin.split h.consumed,
        begin.hold,
        output_is_log query is.0 wrote.output wrote.is_output,
        subst (λ bytes. WroteSome (contents_of d).before (contents_of d).after bytes written)
            (append-nil wrote.output) wrote.part,
      );
}
