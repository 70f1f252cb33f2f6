-- The words of signals.
use Rattle.std.proofs.Common.{◌<◌, refl, true, ltb, get_or}
use Rattle.std.proofs.lemmas.Bool.{agree_below_at, ltb-true}
use Rattle.nx_code.specs.Table.{table, words}
use Rattle.nx_code.specs.Signal.{number_of_signal, place}
use Rattle.nx_code.specs.declared.signals.Signal.{Signal}
use Rattle.nx_code.proofs.lemmas.Table.{place-lt}

-- the word of a signal has seven elements
pub number-lt : (signal : Signal) → number_of_signal signal < 128
unfolding table words
number-lt signal =
    ltb-true (number_of_signal signal) 128
    (agree_below_at (λ k. ltb (get_or words k 0) 128) (λ _. true) 35 (place signal) refl
    (place-lt signal))
