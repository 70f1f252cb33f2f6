-- Two words of a lock that are heard one by one.
use Rattle.std.proofs.Common.{◌≡◌, ℕ, ◌+◌, List, [], ◌∷◌, ◌++◌, ap, sym, subst, ◌∙◌, arith}
use Rattle.std.proofs.Common.{add-one, append_assoc}
use Rattle.std.specs.Option.{option_to_list}
use Rattle.nx_sync.specs.Words.{other_role, role_of}
use Rattle.nx_sync.specs.declared.step.Role.{Role}
use Rattle.nx_sync.specs.declared.step.Role.TheVariants.{Dx, Rx}
use Rattle.nx_copies.specs.copies.LockText.{text_after}
use Rattle.nx_locks.specs.private.Reader.{Reading, ReadsLock, ShowsWord, ShowsWords}

-- behind a DX word stands an RX word
rx_behind : (first : Role) (n : ℕ) → Dx ≡ role_of first n → Rx ≡ role_of first (n + 1)
unfolding role_of
rx_behind first n dx = sym (ap (role_of first) (add-one n) ∙ ap other_role (sym dx))

-- a DX word, and an RX word behind it
pub pair_shown : (old mid new : Reading) (dx rx : ℕ) (before between after : List ℕ)
    → ShowsWord old mid dx Dx before between → ShowsWord mid new rx Rx between after
    → ShowsWords old new Dx (dx ∷ rx ∷ []) before after
pair_shown old mid new dx rx before between after one rest = record {
  printed = option_to_list one.printed ++ option_to_list rest.printed;
  spelled = rest.spelled ∙ ap (λ l. l ++ option_to_list rest.printed) one.spelled
      ∙ append_assoc before (option_to_list one.printed) (option_to_list rest.printed);
  hears = record {
    few = omega (arith, one.hears.few, rest.hears.few);
    hears = λ first words n reads are dx_is few.
        let here : n + 0 ≡ n = omega arith in
        let two : n + 1 + 1 ≡ n + 2 = omega arith in
        let is_dx : words n ≡ dx = ap words (sym here) ∙ are 0 (omega arith) in
        let first_word = one.hears.hears first words n reads is_dx dx_is (omega (arith, few)) in
        let rest_word = rest.hears.hears first words (n + 1) first_word.reads
        (are 1 (omega arith)) (rx_behind first n dx_is) (omega (arith, few)) in
        record {
          reads = subst (ReadsLock new first words) two rest_word.reads;
          grows = ap (text_after first words) (sym two) ∙ rest_word.grows
              ∙ ap (λ l. l ++ option_to_list rest.printed) first_word.grows
              ∙ append_assoc (text_after first words n) (option_to_list one.printed)
              (option_to_list rest.printed);
        };
  };
}
