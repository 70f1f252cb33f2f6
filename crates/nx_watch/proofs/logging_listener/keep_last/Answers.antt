use Rattle.std.proofs.Common.{◌++◌, ◌∷◌, ◌∙◌, [], ap, append-nil, append_assoc, refl, subst, sym}
use Rattle.std.specs.List.{All, AllZip}
use Rattle.std.proofs.lemmas.List.Elements.{All-head, All-tail}
use Rattle.nx_copies.specs.copies.FoundCopies.{copy_of}
use Rattle.nx_log.specs.Logged.{IsLogged, IsLoggedAs}
use Rattle.nx_receiver.specs.Listener.{last_copies}
use Rattle.nx_copies.specs.copies.Log.{IsEntry}
use Rattle.nx_copies.specs.copies.Shares.{marked}
use Rattle.nx_watch.specs.private.Keeping.{KeepsWith}
use Rattle.nx_watch.specs.private.LoggingListener.{IsCopyInRange}
use Rattle.nx_watch.proofs.lemmas.log.LoggingListener.{back-logged, zip-push}
use Rattle.nx_watch.proofs.logging_listener.keep_last.Goals as goal

pub entries-init : goal.entries-init
entries-init g c = record {
  once = c.requires.once;
  range = c.requires.range;
  failed = λ h. h;
  kept = λ start first texts logged kept. (
    [],
    [],
    refl,
    tt,
    subst (KeepsWith g.D.DiskFile g.W.Write.contents start c.args.keeper first c.args.writer.now)
        (sym (append-nil texts)) kept,
  );
}

pub entries-preserved : goal.entries-preserved
entries-preserved g c =
    let one = marked c.in-Some.channel (copy_of c.in-Some.entry) in
    let rest = last_copies c.take_next.new.self in
    let next = c.in-Some.ensures.next in
    let text = c.deref.result.now in
    record {
      once = c.keep.ensures.once;
      failed = λ h. c.keep.ensures.failed (c.entries.invariant.failed h);
      range = All-tail IsCopyInRange one rest
          (subst (All IsCopyInRange) next c.entries.invariant.range);
      kept = λ start first texts logged kept.
          let r = c.entries.invariant.kept start first texts logged kept in
          let whole = r.2 ∙ ap (λ l. r.0 ++ l) next in
          let is : IsLoggedAs one text = record {
            logged = All-head IsLogged one rest
                (back-logged r.0 (one ∷ rest) (subst (All IsLogged) whole logged));
            entry = subst (IsEntry one) (sym c.deref.ensures.0) c.entry_bytes.ensures;
          } in (
            r.0 ++ one ∷ [],
            r.1 ++ text ∷ [],
            whole ∙ sym (append_assoc r.0 (one ∷ []) rest),
            zip-push r.0 r.1 one text r.3 is,
            subst (KeepsWith g.D.DiskFile g.W.Write.contents start c.keep.new.self first
                c.keep.new.writer) (append_assoc texts r.1 (text ∷ []))
                (c.keep.ensures.kept start first (texts ++ r.1) (one, is) r.4),
          );
    }

pub returns-in_default-clause-kept : goal.returns-in_default-clause-kept
returns-in_default-clause-kept g c = λ start first texts logged kept.
    let r = c.entries.invariant.kept start first texts logged kept in (
      r.1,
      subst (λ l. AllZip IsLoggedAs l r.1)
          (sym (r.2 ∙ ap (λ l. r.0 ++ l) c.in_default.ensures.next ∙ append-nil r.0)) r.3,
      r.4,
    )
