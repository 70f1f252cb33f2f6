-- Calls in a walk: a fact that a callee asks for, and a call that is a block's last statement.
-- Assumes `Logic`.
use Rattle.std.proofs.Common.{List, ◌∷◌}
use seplogic.Ra.Ura.{Ura}
use base.Logic.{emp}
use mir.Syntax.{Body}
use prog.Wp.{Calls, Env, Loops, Wp, after_block, after_seq}
use types.Logic.{Logic}
use contract.Monad.{fact, fact_i}
use types.Kit.{Item, Goal, Post, Step, any_q, post, raw, use0}

module _ {M : Type 1} {𝓤 : Ura M} {𝓛 : Logic 𝓤} {K : Type 0} {Γ : List (Item 𝓤)} {G : Goal 𝓤 𝓛.H}
  where
    -- the fact is had for nothing
    pub is_so : K → (P : Type 0) → P → Step K 𝓛 (raw (fact 𝓤 P) ∷ Γ) G Γ G
    is_so t P x = use0 𝓛 (raw (fact 𝓤 P)) (fact_i 𝓤 P (emp 𝓤) x)

module _ {M : Type 1} {𝓤 : Ura M} (𝓛 : Logic 𝓤) where
  open 𝓛 use {H}

  -- what is left to show behind a block, behind which this runs
  abbrev pub out_of_block : Calls 𝓤 H → Loops 𝓤 H → Env 𝓤 H → Body → Post 𝓤 H → Post 𝓤 H
  out_of_block C Λ E b q =
      any_q (after_block 𝓤 H (after_seq 𝓤 H (Wp 𝓤 H C Λ E b (post 𝓤 H q)) (post 𝓤 H q)))
