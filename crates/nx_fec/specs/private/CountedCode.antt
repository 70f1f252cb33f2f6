-- How a counted reader or writer is stored.
use Rattle.std.specs.Prelude.{ℕ, refl}
use Rattle.std.specs.Coded.{Coded, code_by, coded×, coded_ℕ}
use Rattle.nx_fec.specs.Transfers.{CountedDevice}

-- as the pair of its parts
abbrev pub counted_code : {T : Type 0} → Coded T → Coded (CountedDevice T)
counted_code {T} code =
    code_by (T × ℕ) (coded× code coded_ℕ) (λ c. (c.inner, c.failures))
    (λ p. record { inner = p.0; failures = p.1 }) (λ _. refl)
