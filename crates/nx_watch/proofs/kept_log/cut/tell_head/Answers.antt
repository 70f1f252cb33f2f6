use Rattle.std.proofs.Common.{[], ◌∷◌, inl, inr, refl}
use Rattle.nx_watch.proofs.lemmas.log.Cutting.{begins, tells-head, tells-nothing}
use Rattle.nx_watch.proofs.kept_log.cut.tell_head.Goals as goal

pub returns-in-Some : goal.returns-in-Some
returns-in-Some g c = (
  c.line_at.result.now ∷ [],
  inl (begins c.args.bytes.now c.in-Some._entry c.in-Some.ensures.found, cc c.line_at.ensures),
  tells-head g.F.Write.contents c.args.notices.now c.write_more.new.writer
      c.write_more-in-Some.new.writer c.write_more-in-Some-2.new.writer c.line_at.result.now
      c.write_more.ensures.written c.write_more-in-Some.ensures.written
      c.write_more-in-Some-2.ensures.written,
)

pub returns-in_default : goal.returns-in_default
returns-in_default g c = (
  [],
  inr ((λ b. c.in_default.ensures.none b.2.0 b.0 b.1 b.2.1 b.3), refl),
  tells-nothing g.F.Write.contents c.args.notices.now,
)
