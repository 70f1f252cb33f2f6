use Rattle.std.proofs.Common.{◌≡◌, ◌<◌, ◌&&◌, ℕ, List, false, length, take, reverse, refl, sym, ap, subst, ◌∙◌, arith, rules}
use Rattle.std.specs.Int.{to_le_bytes, w32}
use Rattle.nx_envelope.specs.Finder.{StandsAfter}
use Rattle.nx_envelope.specs.FinderView.{FinderView}
use Rattle.nx_envelope.specs.private.HeaderStage.{IsStageOf}
use Rattle.nx_envelope.specs.declared.found.HeldCopy.{HeldCopy}
use Rattle.nx_envelope.specs.declared.found.HeldCopy.TheVariants.{Open}
use Rattle.nx_envelope.proofs.lemmas.finder.EightBytes.{four_on}
use Rattle.nx_envelope.proofs.lemmas.finder.Hearing.{held}
use Rattle.nx_envelope.proofs.lemmas.finder.PlainBytes.{PlainHeard, begins_no_text, clear, plain_four}
use Rattle.nx_envelope.proofs.lemmas.finder.PlainBytes.{unmarked, stage_stays, text_begins}
use Rattle.nx_envelope.proofs.finder.Finder.hear_plain.Goals as goal
use Rattle.nx_envelope.proofs.finder.Finder.hear_plain.Goals.{then-fresh+else-count-bytes, else-fresh}
use Rattle.std.proofs.lemmas.Bool.{and_right}

-- the bytes go to the open copy
heard : (c : goal.After-self-2-1) (text : List ℕ) → StandsAfter c.args.self.now text
    → PlainHeard c.args.self.now.text text (take c.args.count c.args.bytes) c.in-Open.identity
heard c text h =
    let copy = ap (λ (v : FinderView). v.copy) c.self.view_is in
    let kept = ap (λ (v : FinderView). v.text) c.self.view_is in
    let recent = ap (λ (v : FinderView). v.recent) c.self.view_is ∙ h.recent in
    let t = clear c.ends_marker.result c.len.result c.if-ends_marker-len.false in
    let m = unmarked c.ends_marker.result c.eight_of-eight.result t.ends c.ends_marker.ensures.one
    c.ends_marker.ensures.two c.ends_marker.ensures.three c.ends_marker.ensures.four in
    let short : length c.args.self.now.text < 4096 =
    omega (arith, c.len.ensures.value, t.room, ap length kept) in
    let begun : (c.in-Open.fresh && begins_no_text (take c.args.count c.args.bytes)) ≡ false =
    elim c.if-fresh.branch [
      | then-fresh+else-count-bytes w ↦ and_right c.in-Open.fresh _
          (text_begins c.args.count c.args.bytes (search rules) w.if-count-bytes.false)
      | else-fresh w ↦ rw w.if-fresh.false refl
    ] in
    plain_four c.eight_of-eight.result c.args.count c.in-Open.fresh c.args.self.now.text text
    c.args.bytes c.in-Open.identity (rw (← copy, c.in-Open.is) at h.copy) begun
    (c.eight_of-eight.ensures (reverse text) recent) m c.requires short

-- behind its header something stands then
grown : (c : goal.After-self-2-1) → c.if-fresh.self-inside
    ≡ record c.self.inside { copy = Open c.in-Open.identity false }
grown c = elim c.if-fresh.branch [
  | then-fresh+else-count-bytes w ↦ w.self-inside-is
  | else-fresh w ↦ w.self-inside-is
      ∙ ap (λ (k : HeldCopy). record c.self.inside { copy = k })
      (c.in-Open.is ∙ ap (Open c.in-Open.identity) w.if-fresh.false)
]

pub returns-clause-stands : goal.returns-clause-stands
returns-clause-stands c = λ yes text h.
    let copy = ap (λ (v : FinderView). v.copy) c.self.view_is in
    let kept = ap (λ (v : FinderView). v.text) c.self.view_is in
    let stage = ap (λ (v : FinderView). v.stage) c.self.view_is in
    let w = c.eight_of-eight.ensures (reverse text)
    (ap (λ (v : FinderView). v.recent) c.self.view_is ∙ h.recent) in
    let opened = rw (← copy, c.in-Open.is) at h.copy in
    let p = heard c text h in
    record {
      recent = c.to_le_bytes-self-inside.ensures ∙ ap (to_le_bytes w32) c.four_behind.ensures
          ∙ four_on c.eight_of-eight.result text c.args.bytes w c.args.count c.requires;
      stage = rw (grown c) (stage_stays c.self.inside.stage (reverse text) _
          (subst (λ s. IsStageOf s (reverse text)) (sym stage) h.stage)
          (held _ _ text _ opened).one.stage (held _ _ _ _ p.holds).one.stage);
      copy = rw (c.append.ensures, grown c, kept) p.holds;
    }

pub returns-clause-brings : goal.returns-clause-brings
returns-clause-brings c = λ yes text h. (heard c text h).brings
