-- The two words of a position that is sent.
use Rattle.std.proofs.Common.{◌≡◌, ℕ, ◌≤◌, Option, Some, None, refl, sym, ◌∙◌}
use Rattle.nx_code.specs.Table.{phasing_1}
use Rattle.nx_code.specs.Signal.{number_of_signal}
use Rattle.nx_code.specs.declared.signals.Comb.{Comb}
use Rattle.nx_code.specs.declared.signals.Signal.{Signal}
use Rattle.nx_code.specs.declared.signals.Signal.TheVariants.{Traffic, Alpha, Beta, Repeat}
use Rattle.nx_code.proofs.lemmas.Table.{traffic_word-is}
use Rattle.nx_fec.specs.emissions.Emission.{SentPosition, IsInCode, phasing_position, traffic_position}
use Rattle.nx_fec.specs.emissions.Emission.{end_position, dx_word, rx_word}
use Rattle.nx_fec.proofs.lemmas.emissions.Emission.{phasing_1-words, phasing_2-words}
use Rattle.nx_station.specs.StrictReading.{IsPair}

-- whatever signal stands for the word, it is the one that was found
abbrev pub IsFound : Option Signal → ℕ → Type 0
IsFound found word = (signal : Signal) → number_of_signal signal ≡ word → found ≡ Some signal

comb_of : (number : ℕ) → 1 ≤ number → number ≤ 32 → Comb
comb_of number low high = record { number = number; from_one = low; to_thirty_two = high }

-- what is found of the first word of a position, and what its second word is then
pub found-traffic : (found : Option Signal) (dx : ℕ) (position : SentPosition) (comb : Comb)
    → IsFound found dx → found ≡ Some (Traffic comb) → IsInCode position → dx ≡ dx_word position
    → rx_word position ≡ dx
found-traffic found dx phasing_position comb only is h e =
    let clash : Some (Traffic comb) ≡ Some Repeat =
    sym is ∙ only Repeat (phasing_2-words ∙ sym e) in cc
found-traffic found dx (traffic_position number) comb only is h e = sym e
found-traffic found dx end_position comb only is h e = sym e

pub found-repeat : (found : Option Signal) (dx : ℕ) (position : SentPosition) → IsFound found dx
    → found ≡ Some Repeat → IsInCode position → dx ≡ dx_word position → rx_word position ≡ phasing_1
unfolding comb_of
found-repeat found dx phasing_position only is h e = refl
found-repeat found dx (traffic_position number) only is h e =
    let clash : Some Repeat ≡ Some (Traffic (comb_of number h.0 h.1)) =
    sym is ∙ only (Traffic (comb_of number h.0 h.1))
    (sym (traffic_word-is number h.0 h.1) ∙ sym e) in cc
found-repeat found dx end_position only is h e = refl

pub found-alpha : (found : Option Signal) (dx : ℕ) (position : SentPosition) → IsFound found dx
    → found ≡ Some Alpha → IsInCode position → dx ≡ dx_word position → rx_word position ≡ dx
found-alpha found dx phasing_position only is h e = let clash : Some Alpha ≡ Some Repeat =
    sym is ∙ only Repeat (phasing_2-words ∙ sym e) in cc
found-alpha found dx (traffic_position number) only is h e = sym e
found-alpha found dx end_position only is h e = sym e

pub found-beta : (found : Option Signal) (dx : ℕ) (position : SentPosition) → IsFound found dx
    → found ≡ Some Beta → IsInCode position → dx ≡ dx_word position → ⊥
unfolding comb_of
found-beta found dx phasing_position only is h e = let clash : Some Beta ≡ Some Repeat =
    sym is ∙ only Repeat (phasing_2-words ∙ sym e) in cc
found-beta found dx (traffic_position number) only is h e =
    let clash : Some Beta ≡ Some (Traffic (comb_of number h.0 h.1)) =
    sym is ∙ only (Traffic (comb_of number h.0 h.1))
    (sym (traffic_word-is number h.0 h.1) ∙ sym e) in cc
found-beta found dx end_position only is h e = let clash : Some Beta ≡ Some Alpha =
    sym is ∙ only Alpha (phasing_1-words ∙ sym e) in cc

pub found-none : (found : Option Signal) (dx : ℕ) (position : SentPosition) → IsFound found dx
    → found ≡ None → IsInCode position → dx ≡ dx_word position → ⊥
unfolding comb_of
found-none found dx phasing_position only is h e = let clash : None ≡ Some Repeat =
    sym is ∙ only Repeat (phasing_2-words ∙ sym e) in cc
found-none found dx (traffic_position number) only is h e =
    let clash : None ≡ Some (Traffic (comb_of number h.0 h.1)) =
    sym is ∙ only (Traffic (comb_of number h.0 h.1))
    (sym (traffic_word-is number h.0 h.1) ∙ sym e) in cc
found-none found dx end_position only is h e = let clash : None ≡ Some Alpha =
    sym is ∙ only Alpha (phasing_1-words ∙ sym e) in cc

-- the pairs
pub pair-traffic : (comb : Comb) (dx rx : ℕ) → number_of_signal (Traffic comb) ≡ dx → rx ≡ dx
    → IsPair dx rx
pair-traffic comb dx rx is same =
    let word = sym is ∙ sym (traffic_word-is comb.number comb.from_one comb.to_thirty_two) in
    record {
      position = traffic_position comb.number;
      in_code =
          (comb.from_one, comb.to_thirty_two);
      first = word;
      second = same ∙ word;
    }

pub pair-repeat : (dx rx : ℕ) → number_of_signal Repeat ≡ dx → rx ≡ number_of_signal Alpha
    → IsPair dx rx
pair-repeat dx rx is same =
    record {
      position = phasing_position;
      in_code = tt;
      first = sym is ∙ phasing_2-words;
      second =
          same ∙ phasing_1-words;
    }

pub pair-alpha : (dx rx : ℕ) → number_of_signal Alpha ≡ dx → rx ≡ dx → IsPair dx rx
pair-alpha dx rx is same =
    record {
      position = end_position;
      in_code = tt;
      first = sym is ∙ phasing_1-words;
      second =
          same ∙ sym is ∙ phasing_1-words;
    }
