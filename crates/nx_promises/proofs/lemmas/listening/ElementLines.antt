-- Lines of elements: they are lines of an air file and hold these elements, they are taken, and
-- what they give to the receiver of each channel.
use Rattle.std.proofs.Common.{◌≡◌, ℕ, ◌*◌, Bool, true, false, List, [], ◌∷◌, ◌++◌, None, map}
use Rattle.std.proofs.Common.{length, take, drop, sym, ap, ◌∙◌, arith, refl, take_all}
use Rattle.std.specs.Int.{div_ceil}
use Rattle.std.specs.Prelude.{if◌then◌else◌}
use Rattle.std.specs.List.{AllByRecursion, flat_map, range_with_len}
use Rattle.std.proofs.lemmas.List.{map-append}
use Rattle.nx_fec.specs.air_files.AirFile.{Line, IsLine, elements}
use Rattle.nx_fec.specs.air_files.BitLines.{bit_lines}
use Rattle.nx_fec.specs.air_files.Channels.{same_channel}
use Rattle.nx_fec.specs.declared.air_files.channel.Channel.{Channel}
use Rattle.nx_fec.specs.declared.air_files.channel.Channel.TheVariants.{Zero}
use Rattle.nx_fec.specs.air_files.Lines.{elements_of, elements_on}
use Rattle.nx_fec.proofs.lemmas.emissions.EncodingLaws.{first_lines-each, first_lines-elements}
use Rattle.nx_copies.specs.Events.{element}
use Rattle.nx_receiver.specs.air_file_runs.Listen.{events_on, has_moment}
use Rattle.nx_receiver.specs.private.Taken.{AreTakenAfter}
use Rattle.nx_copies.specs.copies.Shares.{Starts}
use Rattle.nx_copies.specs.Events as fed
use Rattle.nx_receiver.proofs.lemmas.listening.Listener.{moment-other}

abbrev lines_of : (ℕ → List Bool) → List ℕ → List Line
lines_of bits indices = map (λ i. elements None (bits i)) indices

pub good-lines : (bits : List Bool) → AllByRecursion IsLine (bit_lines bits)
good-lines bits = first_lines-each bits (div_ceil (length bits) 490)
    (λ i below. omega (arith, below))

-- their elements are those of channel 0
elements-alone : (bits : ℕ → List Bool) (indices : List ℕ)
    → flat_map elements_of (lines_of bits indices)
    ≡ flat_map (elements_on Zero) (lines_of bits indices)
elements-alone bits [] = refl
elements-alone bits (i ∷ indices) = ap (λ l. bits i ++ l) (elements-alone bits indices)

-- they hold these elements
pub joined-lines : (bits : List Bool) → flat_map elements_of (bit_lines bits) ≡ bits
joined-lines bits =
    let n = div_ceil (length bits) 490 in
    elements-alone (λ i. take 490 (drop (490 * i) bits)) (range_with_len 0 n)
    ∙ first_lines-elements bits n ∙ take_all (490 * n) bits (omega arith)

-- they are taken once there was a moment
taken-some : (starts : Starts) (first : List Line) (bits : ℕ → List Bool) (indices : List ℕ)
    → has_moment first ≡ true
    → AreTakenAfter starts first (lines_of bits indices)
unfolding AreTakenAfter
taken-some starts first bits [] h = tt
taken-some starts first bits (i ∷ indices) h = (
  h,
  taken-some starts (first ++ elements None (bits i) ∷ []) bits indices
      (sym (moment-other first (elements None (bits i)) true (sym h) refl)),
)

pub taken-lines : (starts : Starts) (first : List Line) (bits : List Bool) → has_moment first ≡ true
    → AreTakenAfter starts first (bit_lines bits)
taken-lines starts first bits h =
    taken-some starts first (λ i. take 490 (drop (490 * i) bits))
    (range_with_len 0 (div_ceil (length bits) 490)) h

-- what they give to the receiver of their channel
events-some : (bits : ℕ → List Bool) (indices : List ℕ)
    → events_on Zero (lines_of bits indices)
    ≡ fed.elements (flat_map elements_of (lines_of bits indices))
events-some bits [] = refl
events-some bits (i ∷ indices) =
    ap (λ l. fed.elements (bits i) ++ l) (events-some bits indices)
    ∙ sym (map-append element (bits i) (flat_map elements_of (lines_of bits indices)))

pub events-lines : (bits : List Bool) → events_on Zero (bit_lines bits) ≡ fed.elements bits
events-lines bits =
    events-some (λ i. take 490 (drop (490 * i) bits))
    (range_with_len 0 (div_ceil (length bits) 490))
    ∙ ap fed.elements (joined-lines bits)

-- they give nothing to the receivers of the others
others-some : (channel : Channel) → same_channel Zero channel ≡ false
    → (bits : ℕ → List Bool) (indices : List ℕ) → events_on channel (lines_of bits indices) ≡ []
others-some channel h bits [] = refl
others-some channel h bits (i ∷ indices) =
    ap (λ (b : Bool). (if b then fed.elements (bits i) else [])
    ++ events_on channel (lines_of bits indices)) h
    ∙ others-some channel h bits indices

pub events-others : (channel : Channel) → same_channel Zero channel ≡ false → (bits : List Bool)
    → events_on channel (bit_lines bits) ≡ []
events-others channel h bits =
    others-some channel h (λ i. take 490 (drop (490 * i) bits))
    (range_with_len 0 (div_ceil (length bits) 490))
