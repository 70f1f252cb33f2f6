use Rattle.std.proofs.Common.{◌≡◌, ◌≤◌, ◌/◌, ◌^◌, List, Bool, false, length, sym, ap, subst, ◌∙◌}
use Rattle.std.proofs.Common.{arith}
use Rattle.nx_sync.specs.private.Windows.{is_in_phasing}
use Rattle.nx_sync.specs.Synchroniser.{Held}
use Rattle.nx_sync.specs.private.Calls.{Skips}
use Rattle.nx_sync.proofs.lemmas.hunting.Strides.{stride_skips}
use Rattle.nx_sync.proofs.synchroniser.Synchroniser.skip_part.Goals as goal

-- the seven elements before the stride stand in no pattern
pub returns : goal.returns
returns c =
    let part : List Bool = c.args.part.now in
    let held : Held = record {
      recent = c.self-2.inside.recent;
      seen = c.self-2.inside.seen;
      track =
          c.self-2.inside.track;
      wrong = c.self-2.inside.marks;
    } in
    let view : held ≡ c.args.self.now = c.self-2.view_is in
    let late : 27 ≤ held.seen = omega (arith, c.requires.seen, ap (λ h. h.seen) view) in
    let stride : length part ≡ 21 = omega (arith, c.requires.few, c.if-part-lt-STRIDE.false) in
    let recent : c.self.inside.recent ≡ held.recent =
    ap (λ h. h.recent) c.self.view_is ∙ sym (ap (λ h. h.recent) view) in
    let out : is_in_phasing (held.recent / 2 ^ 21) ≡ false =
    ap (λ w. is_in_phasing (w / 2 ^ 21)) (sym recent)
    ∙ (sym c.may_lock.ensures ∙ c.if-may_lock.false) in
    subst (λ h. Skips h part 21
    (record held { recent = c.window_after_stride-self-inside.result; seen = 28 })) view
    (subst (λ w. Skips held part 21 (record held { recent = w; seen = 28 }))
    (sym c.window_after_stride-self-inside.ensures.value)
    (stride_skips held part late c.self-2.invariant.0 stride out))
