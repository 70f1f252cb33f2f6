-- Worked examples of the definitions of air files.
use Rattle.std.proofs.Common.{◌≡◌, true, false, [], ◌∷◌, ◌++◌, codes, refl, arith, None, Some}
use Rattle.std.proofs.lemmas.Fmt.{decimal_digit}
use Rattle.nx_fec.specs.air_files.AirFile.{moment, elements, refuse_station, accept_subject, spelling}
use Rattle.nx_fec.specs.air_files.Lines.{file_of, HasFault, IsBitFile}
use Rattle.nx_fec.specs.air_files.BitLines.{bit_lines}
use Rattle.nx_fec.specs.declared.air_files.channel.Channel.TheVariants.{Zero, One}
use Rattle.nx_fec.specs.declared.fault.LineFault.TheVariants.{TooLong, LineCut}

-- a line of elements, and a command
pub elements-spelled : spelling (elements None (false ∷ true ∷ true ∷ [])) ≡ codes "B 011"
elements-spelled = refl

pub refusal-spelled : spelling (refuse_station None 69) ≡ codes "RS E"
refusal-spelled = refl

-- lines that name their channels
pub marked-elements : spelling (elements (Some Zero) (true ∷ [])) ≡ codes "B0 1"
marked-elements = refl

pub marked-refusal : spelling (refuse_station (Some One) 69) ≡ codes "RS1 E"
marked-refusal = refl

pub moment-spelled : spelling (moment 5) ≡ codes "T 5"
moment-spelled = rw (decimal_digit 5 (omega arith)) refl

-- two lines, each with its end
pub two-lines : file_of (elements None (true ∷ []) ∷ accept_subject None 65 ∷ [])
    ≡ codes "B 1" ++ (10 ∷ (codes "AJ A" ++ (10 ∷ [])))
two-lines = refl

-- the elements of these lines
pub two-lines-elements : IsBitFile 9 (codes "B 1" ++ (10 ∷ (codes "AJ A" ++ (10 ∷ [])))) (true ∷ [])
two-lines-elements = record {
  lines = elements None (true ∷ []) ∷ accept_subject None 65 ∷ [];
  file = record {
    whole = refl;
    each =
        ((omega arith, omega arith), ((omega arith, omega arith), tt));
    within = omega arith;
  };
  joined = refl;
}

-- only lines of channel 0 count
pub mixed-elements : IsBitFile 17
    (codes "B 1" ++ (10 ∷ (codes "B1 0" ++ (10 ∷ (codes "B0 01" ++ (10 ∷ []))))))
    (true ∷ false ∷ true ∷ [])
mixed-elements = record {
  lines = elements None (true ∷ []) ∷ elements (Some One) (false ∷ [])
      ∷ elements (Some Zero) (false ∷ true ∷ []) ∷ [];
  file = record {
    whole = refl;
    each = (
      (omega arith, omega arith),
      ((omega arith, omega arith), ((omega arith, omega arith), tt)),
    );
    within = omega arith;
  };
  joined = refl;
}

-- the first file with a limit of 8 bytes is too long
pub two-lines-too-long : HasFault 8 (codes "B 1" ++ (10 ∷ (codes "AJ A" ++ (10 ∷ [])))) TooLong
two-lines-too-long = record {
  lines = elements None (true ∷ []) ∷ [];
  rest = codes "AJ A";
  more = 10 ∷ [];
  whole = refl;
  each = ((omega arith, omega arith), tt);
  part = record {
    none = (
      (λ e. absurd (omega arith)),
      (
        (λ e. absurd (omega arith)),
        ((λ e. absurd (omega arith)), ((λ e. absurd (omega arith)), tt)),
      ),
    );
    short = omega arith;
  };
  here = refl;
}

-- a line that isn't ended
pub cut-line : HasFault 9 (codes "B 1" ++ (10 ∷ codes "AJ")) (LineCut 2)
cut-line = record {
  lines = elements None (true ∷ []) ∷ [];
  rest = codes "AJ";
  more = [];
  whole = refl;
  each = ((omega arith, omega arith), tt);
  part = record {
    none = ((λ e. absurd (omega arith)), ((λ e. absurd (omega arith)), tt));
    short =
        omega arith;
  };
  here = (omega arith, omega arith, refl);
}

-- no elements are no line, and two are one line
pub no-elements : bit_lines [] ≡ []
no-elements = refl

pub two-elements : bit_lines (true ∷ false ∷ []) ≡ elements None (true ∷ false ∷ []) ∷ []
two-elements = refl
