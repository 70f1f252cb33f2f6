use Rattle.std.proofs.Common.{◌≡◌, ◌≤◌, ◌∙◌, ap, arith, length, map, subst, sym, take}
use Rattle.std.proofs.lemmas.List.{take_all, length-map}
use Rattle.nx_fec.specs.air_files.AirFile.{element_digit}
use Rattle.nx_fec.proofs.lemmas.packed.Packed.{packed-bits}
use Rattle.nx_handle.specs.Hearing.{element_of, elements_of}
use Rattle.nx_handle.proofs.pieces.pack.Goals as goal

pub returns : goal.returns
returns c =
    let bytes = c.args.bytes.now in
    let all : c.loop-place.place ≡ length bytes =
    omega (arith, c.loop-place-test.false, c.loop-place.auto.place-end) in
    let spelled : take (length bytes) c.loop-place.digits ≡ map element_digit (elements_of bytes) =
    subst (λ n. take n c.loop-place.digits ≡ map element_digit (elements_of (take n bytes))) all
    c.loop-place.invariant.same
    ∙ ap (λ bs. map element_digit (elements_of bs)) (take_all (length bytes) bytes (omega arith)) in
    packed-bits _ (elements_of bytes) c.read.new.self c.read.result spelled
    (subst (λ n. n ≤ 512) (sym (length-map bytes element_of)) c.requires) c.read.ensures.found
    c.read.ensures.none c.read.ensures.unread
