use Rattle.std.proofs.Common.{rules, ◌≡◌, ◌<◌, ℕ, Bool, true, false, length, get_or, take, ap, sym, refl, subst, ◌∙◌, arith}
use Rattle.std.specs.Prelude.{◌==◌, ◌||◌}
use Rattle.std.specs.FinSet as set
use Rattle.std.specs.List.{list_any}
use Rattle.std.proofs.lemmas.List.Elements.{All-nil, All-more}
use Rattle.std.proofs.lemmas.List.Folds.{list_any_more}
use Rattle.nx_code.specs.Reading.{IsCapital}
use Rattle.nx_memory.proofs.lemmas.Letters.{contains-insert, contains-none}
use Rattle.nx_log.proofs.queries.letters.Letters.of.Goals as goal

or_swap : (a b : Bool) → (a || b) ≡ (b || a)
or_swap true true = refl
or_swap true false = refl
or_swap false true = refl
or_swap false false = refl

pub loop-byte-init : goal.loop-byte-init
loop-byte-init c = record {
  capitals = All-nil IsCapital;
  these = λ byte. ap (λ s. set.contains s byte) c.new-letters.ensures ∙ contains-none byte;
}

pub loop-byte-preserved : goal.loop-byte-preserved
loop-byte-preserved c =
    let text = c.args.text.now in
    let i : ℕ = c.loop-byte.byte-index in
    let within : i < length text = omega arith in
    let letter = c.in_ok-new.field-0 in
    let here : letter.byte ≡ get_or text i 0 = search rules in
    record {
      capitals = All-more IsCapital text i 0 within c.loop-byte.invariant.capitals
          (subst IsCapital here letter.in_range);
      these = λ q.
          ap (λ s. set.contains s q) c.insert.ensures
          ∙ contains-insert c.loop-byte.letters letter.byte q
          ∙ or_swap (q == letter.byte) (set.contains c.loop-byte.letters q)
          ∙ ap (λ b. b || (q == letter.byte)) (c.loop-byte.invariant.these q)
          ∙ ap (λ (l : ℕ). list_any (λ one. q == one) (take i text) || (q == l)) here
          ∙ sym (list_any_more (λ one. q == one) text i 0 within);
    }
