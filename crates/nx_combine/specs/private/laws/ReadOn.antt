-- Positions that are read one after the other, as those behind a header.
use Rattle.std.proofs.Common.{◌≡◌, ◌≢◌, ℕ, ◌+◌, ◌<◌, ◌≤◌, inl, inr, true, false}
use Rattle.std.proofs.Common.{Some, None, List, [], ◌∷◌, ◌++◌, length, take, drop, get_or}
use Rattle.std.proofs.Common.{refl, sym, ap, ap₂, ◌∙◌, subst, arith, add-one, append_assoc, append-nil}
use Rattle.std.proofs.Common.{is_some, unwrap_or}
use Rattle.std.proofs.Math.Seq.{take-suc}
use Rattle.std.proofs.lemmas.Bool.Decides.{leb_tells}
use Rattle.std.proofs.lemmas.List.{take_all, take-append-drop}
use Rattle.std.specs.Option.{option_to_list}
use Rattle.nx_code.specs.Reading.{Reception, byte_of, shift_after, shift_after_all, text}
use Rattle.nx_code.specs.declared.shifts.Shift.{Shift}
use Rattle.nx_code.specs.declared.shifts.Shift.TheVariants.{Figures}
use Rattle.nx_code.proofs.lemmas.Reading.{shift_after_all-append, text-append, text-push}
use Rattle.nx_envelope.specs.Copies.{Ending, closed_copy, ending_of, less_newline, raw_text}
use Rattle.nx_envelope.specs.Finder.{ClosesHeld, EndsReady, HappensAt}
use Rattle.nx_envelope.specs.Finder.{Keeps, StandsAfter, is_ready}
use Rattle.nx_envelope.specs.Header.{Header}
use Rattle.nx_envelope.specs.declared.finder.Finder.{Finder}
use Rattle.nx_envelope.specs.declared.found.HeldCopy.TheVariants.{Ready}
use Rattle.nx_envelope.specs.declared.found.How.TheVariants.{Cut}
use Rattle.nx_envelope.specs.declared.found.TextEvent.{TextEvent}
use Rattle.nx_envelope.specs.declared.found.TextEvent.TheVariants as events
use Rattle.nx_envelope.specs.declared.identity.Identity.{Identity}
use Rattle.nx_envelope.proofs.lemmas.copies.RawTexts.{ended_stays}
use Rattle.nx_station.specs.Broadcast.{header}
use Rattle.nx_combine.specs.PositionEnds.{HasRead, closed, end_of, ending_by, has_ended, raw_text_of}
use Rattle.nx_combine.specs.private.laws.AfterHeader.{IsOpenBehind, ending-behind, first_header}
use Rattle.nx_combine.specs.private.laws.AfterHeader.{open_behind-keeps, open_behind-nil, raw-behind}
use Rattle.nx_combine.specs.private.laws.AfterHeader.{unended_behind}
use Rattle.nx_combine.specs.private.laws.Ends.{end_of-first, end_of-none}

-- the text of the first positions
abbrev pub text_of : List Reception → ℕ → List ℕ
text_of positions count = text (take count positions) Figures

-- So many of the positions were read: the finder stands after a header and their text, which has
-- not ended, and the printer has the shift that they leave.
pub record HasReadOn (finder : Finder) (identity : Identity) (printer : Shift)
    (positions : List Reception) (count : ℕ) : Type 0 where
  pub stands : StandsAfter finder (header identity ++ text_of positions count)
  pub shift : printer ≡ shift_after_all (take count positions) Figures
  pub still_open : IsOpenBehind identity (text_of positions count)
  pub none_before : (n : ℕ) → n ≤ count → has_ended (take n positions) ≡ false

-- positions whose text is open have not ended
not_ended : (identity : Identity) (positions : List Reception)
    → IsOpenBehind identity (text positions Figures) → has_ended positions ≡ false
unfolding raw_text_of
not_ended identity positions is = ap is_some (unended_behind identity (text positions Figures) is)

pub begins_reading : (finder : Finder) (identity : Identity) (printer : Shift)
    (positions : List Reception) → StandsAfter finder (header identity) → printer ≡ Figures
    → HasReadOn finder identity printer positions 0
begins_reading finder identity printer positions stands shift =
    let is = open_behind-nil identity in
    record {
      stands = stands;
      shift = shift;
      still_open = is;
      none_before = λ n low. let nil : n ≡ 0 = omega arith in
          rw nil (not_ended identity [] is);
    }

none_more : (identity : Identity) (positions : List Reception) (count : ℕ)
    → ((n : ℕ) → n ≤ count → has_ended (take n positions) ≡ false)
    → IsOpenBehind identity (text_of positions (count + 1))
    → (n : ℕ) → n ≤ count + 1 → has_ended (take n positions) ≡ false
none_more identity positions count before is n low =
    elim (leb_tells n count) [
      | inl p ↦ before n p.1
      | inr p ↦
          let last : n ≡ count + 1 = omega (arith, p.1) in
          rw last (not_ended identity (take (count + 1) positions) is)
    ]

-- one more position
take-more : (positions : List Reception) (count : ℕ) (x : Reception) → count < length positions
    → x ≡ get_or positions count x
    → take (count + 1) positions ≡ take count positions ++ x ∷ []
take-more positions count x there is =
    ap (λ n. take n positions) (add-one count)
    ∙ take-suc positions count x there
    ∙ ap (λ y. take count positions ++ y ∷ []) (sym is)

text-more : (positions : List Reception) (count : ℕ) (x : Reception) (printer : Shift)
    → count < length positions → x ≡ get_or positions count x
    → printer ≡ shift_after_all (take count positions) Figures
    → text_of positions (count + 1)
    ≡ text_of positions count ++ option_to_list (byte_of x printer)
text-more positions count x printer there is shift =
    ap (λ l. text l Figures) (take-more positions count x there is)
    ∙ text-push (take count positions) x Figures
    ∙ ap (λ s. text_of positions count ++ option_to_list (byte_of x s)) (sym shift)

shift-more : (positions : List Reception) (count : ℕ) (x : Reception) (printer : Shift)
    → count < length positions → x ≡ get_or positions count x
    → printer ≡ shift_after_all (take count positions) Figures
    → shift_after x printer ≡ shift_after_all (take (count + 1) positions) Figures
shift-more positions count x printer there is shift =
    ap (shift_after x) shift
    ∙ sym (shift_after_all-append (take count positions) (x ∷ []) Figures)
    ∙ sym (ap (λ l. shift_after_all l Figures) (take-more positions count x there is))

-- one that prints nothing
pub reads_silent : (finder : Finder) (identity : Identity) (printer next : Shift)
    (positions : List Reception) (count : ℕ) (x : Reception)
    → HasReadOn finder identity printer positions count → count < length positions
    → x ≡ get_or positions count x → byte_of x printer ≡ None → next ≡ shift_after x printer
    → HasReadOn finder identity next positions (count + 1)
reads_silent finder identity printer next positions count x read there is silent after =
    let same : text_of positions (count + 1) ≡ text_of positions count =
    text-more positions count x printer there is read.shift
    ∙ ap (λ o. text_of positions count ++ option_to_list o) silent
    ∙ append-nil (text_of positions count) in
    let open_still = subst (IsOpenBehind identity) (sym same) read.still_open in
    record {
      stands = subst (λ t. StandsAfter finder (header identity ++ t)) (sym same) read.stands;
      shift = after ∙ shift-more positions count x printer there is read.shift;
      still_open = open_still;
      none_before = none_more identity positions count read.none_before open_still;
    }

-- the text with one more byte
byte-more : (positions : List Reception) (count byte : ℕ) (x : Reception) (printer : Shift)
    → count < length positions → x ≡ get_or positions count x
    → printer ≡ shift_after_all (take count positions) Figures → byte_of x printer ≡ Some byte
    → text_of positions (count + 1) ≡ text_of positions count ++ byte ∷ []
byte-more positions count byte x printer there is shift printed =
    text-more positions count x printer there is shift
    ∙ ap (λ o. text_of positions count ++ option_to_list o) printed

-- where a copy is open, a byte that doesn't end it brings nothing
keeps_if : (identity : Identity) (more : List ℕ) (byte : ℕ) (finder : Finder) (event : TextEvent)
    → IsOpenBehind identity more → HappensAt (header identity ++ more) byte finder event
    → event ≢ events.CopyOver → Keeps (header identity ++ more) byte
keeps_if identity more byte finder events.Nothing is happens other = happens
keeps_if identity more byte finder (events.Header name) is happens other =
    absurd (let contra : first_header identity ∷ [] ≡ [] =
    sym is.one_open ∙ happens.begins.was_none in cc)
keeps_if identity more byte finder events.CopyOver is happens other = absurd (other refl)

-- one that prints a byte, which doesn't end the copy
pub reads_byte : (finder new : Finder) (identity : Identity) (printer next : Shift)
    (positions : List Reception) (count byte : ℕ) (x : Reception) (event : TextEvent)
    → HasReadOn finder identity printer positions count → count < length positions
    → x ≡ get_or positions count x → byte_of x printer ≡ Some byte → next ≡ shift_after x printer
    → ((text : List ℕ) → StandsAfter finder text → StandsAfter new (text ++ byte ∷ []))
    → ((text : List ℕ) → StandsAfter finder text → HappensAt text byte new event)
    → event ≢ events.CopyOver → HasReadOn new identity next positions (count + 1)
reads_byte finder new identity printer next positions count byte x event read there is printed after
    stands hears other =
    let before : List ℕ = header identity ++ text_of positions count in
    let grown = byte-more positions count byte x printer there is read.shift printed in
    let keeps = keeps_if identity (text_of positions count) byte new event read.still_open
    (hears before read.stands) other in
    let open_still = subst (IsOpenBehind identity) (sym grown)
    (open_behind-keeps identity (text_of positions count) byte read.still_open keeps) in
    let whole = append_assoc (header identity) (text_of positions count) (byte ∷ []) in
    record {
      stands = subst (StandsAfter new) (whole ∙ ap (λ t. header identity ++ t) (sym grown))
          (stands before read.stands);
      shift = after ∙ shift-more positions count x printer there is read.shift;
      still_open = open_still;
      none_before = none_more identity positions count read.none_before open_still;
    }

-- a text that has ended stays so when more comes
pub ending-more : (identity : Identity) (raw more : List ℕ) (ending : Ending)
    → ending_of (less_newline raw) ≡ Some ending
    → ending_of (less_newline (raw ++ more)) ≡ Some ending
unfolding raw_text
ending-more identity raw [] ending is =
    ap (λ t. ending_of (less_newline t)) (append-nil raw) ∙ is
ending-more identity raw (byte ∷ more) ending is =
    let h : Header = record { identity = identity; behind = 0 } in
    let one = ended_stays raw byte h ending is in
    ap (λ t. ending_of (less_newline t)) (sym (append_assoc raw (byte ∷ []) more))
    ∙ ending-more identity (raw ++ byte ∷ []) more ending one

-- and so of positions
pub ending-positions : (identity : Identity) (positions : List Reception) (count : ℕ)
    (ending : Ending)
    → ending_of (less_newline (text_of positions count)) ≡ Some ending
    → ending_by positions ≡ ending
unfolding ending_by raw_text_of
ending-positions identity positions count ending is =
    let parts : text positions Figures
    ≡ text_of positions count
    ++ text (drop count positions) (shift_after_all (take count positions) Figures) =
    ap (λ l. text l Figures) (sym (take-append-drop count positions))
    ∙ text-append (take count positions) (drop count positions) Figures in
    ap (λ t. unwrap_or (ending_of (less_newline t)) (closed (raw_text_of positions))) parts
    ∙ ap (λ o. unwrap_or o (closed (raw_text_of positions)))
    (ending-more identity (text_of positions count)
    (text (drop count positions) (shift_after_all (take count positions) Figures)) ending is)

-- what the end of reading answers
pub record IsRead (finder : Finder) (identity : Identity) (positions : List Reception) (end : ℕ)
    : Type 0 where
  pub end_is : end ≡ end_of positions
  pub copy : HasRead finder identity positions

ended_if : (identity : Identity) (positions : List Reception) (count : ℕ) (ending : Ending)
    → ending_of (less_newline (text_of positions count)) ≡ Some ending
    → has_ended (take count positions) ≡ true
unfolding raw_text_of
ended_if identity positions count ending is = ap is_some is

ends_if : (identity : Identity) (more : List ℕ) (byte : ℕ) (finder : Finder) (event : TextEvent)
    → HappensAt (header identity ++ more) byte finder event → event ≡ events.CopyOver
    → EndsReady (header identity ++ more) byte finder
ends_if identity more byte finder event happens over =
    subst (HappensAt (header identity ++ more) byte finder) over happens

-- one that prints the byte that ends the copy
pub reads_last : (finder new : Finder) (identity : Identity) (printer : Shift)
    (positions : List Reception) (count byte : ℕ) (x : Reception) (event : TextEvent)
    → HasReadOn finder identity printer positions count → count < length positions
    → x ≡ get_or positions count x → byte_of x printer ≡ Some byte
    → ((text : List ℕ) → StandsAfter finder text → HappensAt text byte new event)
    → event ≡ events.CopyOver → IsRead new identity positions (count + 1)
reads_last finder new identity printer positions count byte x event read there is printed hears over
    =
    let more : List ℕ = text_of positions count in
    let grown = byte-more positions count byte x printer there is read.shift printed in
    let ready = ends_if identity more byte new event (hears (header identity ++ more)
    read.stands) over in
    let ended = ending-behind identity more byte ready.copy read.still_open ready.ends in
    let ending : Ending = record { how = ready.copy.how; text = ready.copy.text } in
    let here : ending_of (less_newline (text_of positions (count + 1))) ≡ Some ending =
    ap (λ t. ending_of (less_newline t)) grown ∙ ended.1 in
    let by : ending_by positions ≡ ending =
    ending-positions identity positions (count + 1) ending here in
    record {
      end_is = sym (end_of-first positions (count + 1) (omega arith)
          (ended_if identity positions (count + 1) ending here)
          (λ n low. read.none_before n (omega arith)));
      copy = record {
        held = ready.ready.held
            ∙ ap₂ (λ (h : Header) (e : Ending). Ready h.identity e.how) ended.0 (sym by);
        text = ready.ready.text ∙ ap (λ (e : Ending). e.text) (sym by);
      };
    }

unended-by : (positions : List Reception) → ending_of (less_newline (text positions Figures)) ≡ None
    → ending_by positions ≡ closed (less_newline (text positions Figures))
unfolding ending_by raw_text_of
unended-by positions none =
    ap (λ o. unwrap_or o (closed (less_newline (text positions Figures)))) none

-- a closed copy that a finder has
ready_held : (finder : Finder) (text : List ℕ) (h : Header)
    → finder.copy ≡ Ready (closed_copy text h).header.identity (closed_copy text h).how
    → finder.copy ≡ Ready h.identity Cut
unfolding closed_copy
ready_held finder text h is = is

ready_text : (finder : Finder) (text : List ℕ) (h : Header)
    → finder.text ≡ (closed_copy text h).text → finder.text ≡ raw_text text h
unfolding closed_copy
ready_text finder text h is = is

-- the end of the positions, where none of them ended the copy
pub reads_all : (finder new : Finder) (identity : Identity) (printer : Shift)
    (positions : List Reception) (count : ℕ) → HasReadOn finder identity printer positions count
    → length positions ≤ count
    → ((text : List ℕ) → StandsAfter finder text → ClosesHeld text new)
    → IsRead new identity positions (length positions)
reads_all finder new identity printer positions count read all closes =
    let shut = closes (header identity ++ text_of positions count) read.stands in
    elim (is_ready new) as (λ b. is_ready new ≡ b → IsRead new identity positions
    (length positions)) [
      | false ↦ λ none. absurd (let contra : first_header identity ∷ [] ≡ [] =
          sym read.still_open.one_open ∙ (shut.none none).none in cc)
      | true ↦ λ some.
          let ready = shut.some some in
          let whole : take count positions ≡ positions = take_all count positions all in
          let head : first_header identity ≡ ready.header =
          let one : first_header identity ∷ [] ≡ ready.header ∷ [] =
          sym read.still_open.one_open ∙ ready.was_open in cc in
          let raw : raw_text (header identity ++ text_of positions count) ready.header
          ≡ less_newline (text positions Figures) =
          ap (raw_text (header identity ++ text_of positions count)) (sym head)
          ∙ raw-behind identity (text_of positions count)
          ∙ ap (λ l. less_newline (text l Figures)) whole in
          let none : ending_of (less_newline (text positions Figures)) ≡ None =
          ap (λ l. ending_of (less_newline (text l Figures))) (sym whole)
          ∙ unended_behind identity (text_of positions count) read.still_open in
          let by : ending_by positions ≡ closed (less_newline (text positions Figures)) =
          unended-by positions none in
          record {
            end_is = sym (end_of-none positions (λ n low. read.none_before n (omega arith)));
            copy = record {
              held = ready_held new (header identity ++ text_of positions count) ready.header
                  ready.ready.held
                  ∙ ap₂ (λ (h : Header) (e : Ending). Ready h.identity e.how) (sym head) (sym by);
              text = ready_text new (header identity ++ text_of positions count) ready.header
                  ready.ready.text ∙ raw ∙ ap (λ (e : Ending). e.text) (sym by);
            };
          }
    ] refl
