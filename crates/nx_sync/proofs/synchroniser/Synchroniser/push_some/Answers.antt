use Rattle.std.proofs.Common.{◌≡◌, ◌+◌, ◌-◌, ◌<◌, ◌∙◌, ◌∷◌, ◌++◌, [], List, Bool, Some, arith, ap, false, get_or, length, subst, sym, take, take_all}
use Rattle.std.proofs.lemmas.List.{length-take-le, take_more}
use Rattle.nx_code.specs.Packed.{packed_part}
use Rattle.nx_sync.specs.Synchroniser.{Held}
use Rattle.nx_sync.specs.Ahead.{BringsStep}
use Rattle.nx_sync.specs.declared.track.Track.{Track}
use Rattle.nx_sync.specs.private.Windows.{window_after}
use Rattle.nx_sync.proofs.lemmas.hunting.PackedParts.{length-part}
use Rattle.nx_sync.proofs.lemmas.states.Pushes.{Followed}
use Rattle.nx_sync.proofs.lemmas.words.PartWords.{filled_by, part_brings}
use Rattle.nx_sync.proofs.synchroniser.Synchroniser.push_some.Goals as goal

pub returns-clause-brings : goal.returns-clause-brings
returns-clause-brings c =
    let old : Held = c.args.self.now in
    let track : Track = c.in-Some.track in
    let n = c.min-heard.result in
    let part : List Bool = packed_part c.args.numbers.now c.args.from n in
    let size : length part ≡ n =
    length-part c.args.numbers.now c.args.from n
    (omega (arith, c.requires.part.room, c.min-heard.ensures)) in
    let some : 0 < n = omega (arith, c.requires.some, c.min-heard.ensures) in
    let front : List Bool = take (n - 1) part in
    let last : Bool = get_or part (n - 1) false in
    let all : front ++ last ∷ [] ≡ part =
    sym (take_more part (n - 1) false (omega (arith, size, some)))
    ∙ take_all (n - 1 + 1) part (omega (arith, size, some)) in
    let front_size : length front ≡ n - 1 = length-take-le (n - 1) part (omega (arith, size)) in
    let is : old.track ≡ Some track = sym (ap (λ s. s.track) c.self.view_is) ∙ c.in-Some.is in
    let short = (c.self.invariant.2 track c.in-Some.is).0 in
    let full : old.seen ≡ 28 =
    sym (ap (λ s. s.seen) c.self.view_is) ∙ (c.self.invariant.2 track c.in-Some.is).1 in
    let window : c.window_after_few-self-inside.result
    ≡ window_after old.recent (front ++ last ∷ []) =
    c.window_after_few-self-inside.ensures.value
    ∙ ap (window_after c.self.inside.recent) (c.elements_at-number.ensures.elements ∙ sym all)
    ∙ ap (λ (s : Held). window_after s.recent (front ++ last ∷ [])) c.self.view_is in
    let heard : Held = record old { recent = window_after old.recent (front ++ last ∷ []) } in
    let followed : Followed heard (filled_by track (length front)) c.follow.new.self
    c.follow.result =
    subst (λ y. Followed y (filled_by track (length front)) c.follow.new.self c.follow.result)
    (ap (λ (s : Held). record s { recent = c.window_after_few-self-inside.result })
    c.self.view_is
    ∙ ap (λ w. record old { recent = w }) window)
    (subst (λ k. Followed (record (record {
      recent = c.self.inside.recent;
      seen = c.self.inside.seen;
      track = c.self.inside.track;
      wrong = c.self.inside.marks;
    }) { recent = c.window_after_few-self-inside.result }) (filled_by track k) c.follow.new.self
    c.follow.result) (sym front_size)
    (record { inner = c.follow.ensures.inside; whole = c.follow.ensures.whole })) in
    subst (λ l. BringsStep old c.follow.new.self l c.follow.result) all
    (part_brings old front last track is full
    (omega (arith, front_size, some, c.min-heard.ensures, short))
    c.follow.new.self c.follow.result followed)
