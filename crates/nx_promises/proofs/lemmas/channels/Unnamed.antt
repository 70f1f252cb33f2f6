-- Lines that name no channel: what they give belongs to channel 0, so one receiver makes their log.
use Rattle.std.proofs.Common.{◌≡◌, ℕ, Bool, false, true, cond, List, [], ◌∷◌, ◌++◌, Option, None}
use Rattle.std.proofs.Common.{map, refl, ap, ◌∙◌, subst}
use Rattle.std.specs.List.{AllByRecursion, flat_map}
use Rattle.nx_fec.specs.air_files.AirFile.{Line, moment, elements, refuse_station, accept_station}
use Rattle.nx_fec.specs.air_files.AirFile.{refuse_subject, accept_subject}
use Rattle.nx_fec.specs.air_files.Channels.{channel_of, same_channel}
use Rattle.nx_fec.specs.declared.air_files.channel.Channel.{Channel}
use Rattle.nx_fec.specs.declared.air_files.channel.Channel.TheVariants.{Zero}
use Rattle.nx_copies.specs.Events as events
use Rattle.nx_copies.specs.Events.{Event, at_moment, command, element, elements_among}
use Rattle.nx_copies.specs.copies.FoundCopies.{TaggedCopy}
use Rattle.nx_copies.specs.laws.LawTerms.{events_said, named_by}
use Rattle.nx_receiver.specs.air_file_runs.Listen.{IsLogOfFile, events_on, given_by, given_of}
use Rattle.nx_copies.specs.copies.Log.{PrintsToEnd}
use Rattle.nx_copies.specs.copies.Shares.{MarkedCopy, Starts, copies_on, events_for, marked, start_on}
use Rattle.nx_copies.proofs.lemmas.channels.Shares.{to_end-on}
use Rattle.nx_promises.proofs.lemmas.chain.Alone.{HearsAlone, all-alone}
use Rattle.nx_copies.proofs.lemmas.printing.Logged.{bits_of-append}

-- what belongs to the channel that a line names, where it names none
given-one : (channel : Channel) (mark : Option Channel) (said : List Event) (b : Bool)
    → mark ≡ None → same_channel Zero channel ≡ b
    → (cond (same_channel (channel_of mark) channel) said []) ≡ cond b said []
given-one channel mark said b e h =
    ap (λ (m : Option Channel). cond (same_channel (channel_of m) channel) said []) e
    ∙ ap (λ (c : Bool). cond c said []) h

line-on_0 : (line : Line) → named_by line ≡ None
    → events_for Zero (given_of line) ≡ events_said line
line-on_0 (moment n) e = refl
line-on_0 (elements mark bits) e = given-one Zero mark (map element bits) true e refl
line-on_0 (refuse_station mark letter) e =
    given-one Zero mark (command (events.refuse_station letter) ∷ []) true e refl
line-on_0 (accept_station mark letter) e =
    given-one Zero mark (command (events.accept_station letter) ∷ []) true e refl
line-on_0 (refuse_subject mark letter) e =
    given-one Zero mark (command (events.refuse_subject letter) ∷ []) true e refl
line-on_0 (accept_subject mark letter) e =
    given-one Zero mark (command (events.accept_subject letter) ∷ []) true e refl

-- the share of channel 0 is all that is said
said-on_0 : (lines : List Line) → AllByRecursion (λ line. named_by line ≡ None) lines
    → events_on Zero lines ≡ flat_map events_said lines
said-on_0 [] h = refl
said-on_0 (line ∷ lines) h =
    ap (λ es. es ++ events_on Zero lines) (line-on_0 line h.0)
    ∙ ap (λ es. events_said line ++ es) (said-on_0 lines h.1)

pub no-elements : elements_among [] ≡ []
unfolding elements_among
no-elements = refl

line-on-other : (channel : Channel) (line : Line) → same_channel Zero channel ≡ false
    → named_by line ≡ None → elements_among (events_for channel (given_of line)) ≡ []
unfolding elements_among
line-on-other channel (moment n) h e = refl
line-on-other channel (elements mark bits) h e =
    ap elements_among (given-one channel mark (map element bits) false e h)
line-on-other channel (refuse_station mark letter) h e =
    ap elements_among
    (given-one channel mark (command (events.refuse_station letter) ∷ []) false e h)
line-on-other channel (accept_station mark letter) h e =
    ap elements_among
    (given-one channel mark (command (events.accept_station letter) ∷ []) false e h)
line-on-other channel (refuse_subject mark letter) h e =
    ap elements_among
    (given-one channel mark (command (events.refuse_subject letter) ∷ []) false e h)
line-on-other channel (accept_subject mark letter) h e =
    ap elements_among
    (given-one channel mark (command (events.accept_subject letter) ∷ []) false e h)

-- and no other channel is given elements
alone : (lines : List Line) → AllByRecursion (λ line. named_by line ≡ None) lines
    → HearsAlone Zero (given_by lines)
alone [] h channel other = no-elements
alone (line ∷ lines) h channel other =
    bits_of-append (events_for channel (given_of line)) (events_on channel lines)
    ∙ ap (λ b. b ++ elements_among (events_on channel lines))
    (line-on-other channel line other h.0)
    ∙ alone lines h.1 channel other

pub one-receiver : (starts : Starts) (file log : List ℕ) (lines : List Line)
    (copies : List MarkedCopy) → AllByRecursion (λ line. named_by line ≡ None) lines
    → IsLogOfFile starts file lines copies log
    → (printed : List TaggedCopy) × (copies ≡ map (marked Zero) printed)
    × PrintsToEnd (start_on starts Zero) (flat_map events_said lines) printed
one-receiver starts file log lines copies h is = (
  copies_on Zero copies,
  all-alone Zero starts (given_by lines) copies (alone lines h) is.printed,
  subst (λ es. PrintsToEnd (start_on starts Zero) es (copies_on Zero copies)) (said-on_0 lines h)
      (to_end-on starts (given_by lines) copies Zero is.printed),
)
