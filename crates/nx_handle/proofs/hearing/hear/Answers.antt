use Rattle.std.proofs.Common.{◌≡◌, ◌<◌, ◌∙◌, ap, arith, get_or, length, refl, slice_set, subst, sym, take, true}
use Rattle.nx_fec.specs.air_files.Channels.{channel_number}
use Rattle.nx_handle.specs.Hearing.{HearsElements, elements_of, hearing_status}
use Rattle.nx_handle.specs.Places.{KeepsRoom, all_hear}
use Rattle.nx_handle.specs.Status.{number_of}
use Rattle.nx_handle.proofs.lemmas.Heard.{elements-in}
use Rattle.nx_handle.proofs.lemmas.Places.{all-set, each-is, read-at, room-set, set-long}
use Rattle.nx_handle.proofs.hearing.hear.Goals as goal

pub hear_all-requires : goal.hear_all-requires
hear_all-requires g c =
    let old = c.args.places.now in
    let on = c.in-Ok.channel in
    let i : c.from.result ≡ channel_number on = c.from.ensures ∙ c.number.ensures in
    each-is g.P.KeptPlace.kind.is_hearing old (channel_number on)
    (get_or old c.from.result c.index-places-from.result)
    (sym c.all_hear.ensures ∙ c.if-not-all_hear.false)
    (read-at old c.from.result c.index-places-from.result on
    (omega (arith, i, c.in-Ok.ensures.ok.0, c.in-Ok.ensures.within)) i)

pub returns : goal.returns
returns g c =
    let kind = g.P.KeptPlace.kind in
    let old = c.args.places.now in
    let on = c.in-Ok.channel in
    let out = c.hear_all.ensures in
    let place = c.hear_all.new.place in
    let was = get_or old c.from.result c.index-places-from.result in
    let hear : all_hear kind old ≡ true = sym c.all_hear.ensures ∙ c.if-not-all_hear.false in
    let i : c.from.result ≡ channel_number on = c.from.ensures ∙ c.number.ensures in
    let has : c.from.result < length old =
    omega (arith, i, c.in-Ok.ensures.ok.0, c.in-Ok.ensures.within) in
    let at = read-at old c.from.result c.index-places-from.result on has i in
    let new : slice_set old c.from.result place ≡ slice_set old (channel_number on) place =
    ap (λ n. slice_set old n place) i in
    record {
      cause = sym (ap (λ b. number_of (hearing_status b c.args.channel (length old)
          c.args.elements.now (length c.args.log.now))) hear
          ∙ ap number_of c.in-Ok.ensures.ok.1);
      text = out.text;
      copied = out.copied;
      fits = omega (arith, out.short, c.in-Ok.ensures.room);
      done = λ _. record {
        on = on;
        is = c.in-Ok.ensures.ok.0;
        has_channel = c.in-Ok.ensures.within;
        was = hear;
        now = ap (all_hear kind) new
            ∙ all-set kind.is_hearing old (channel_number on) place hear out.hears.now;
        within = out.within;
        hears = subst (λ places. HearsElements kind on old places
            (elements_of (take c.hear_all.result c.args.elements.now)) out.text) (sym new)
            (elements-in kind g.met.P.KeptPlace.laws old on was place _ out.text at out.hears);
        all = out.all;
      };
      refused = λ no. absurd (no refl);
      channels = set-long old c.from.result place;
      rooms = subst (KeepsRoom kind old) (sym new)
          (room-set kind old (channel_number on) place was at out.hears.room);
    }
