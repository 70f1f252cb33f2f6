-- The steps of a receiver's life, and its closing.
use Rattle.std.proofs.Common.{◌≡◌, ◌<◌, ◌≤◌, inl, inr, Bool, ℕ, List, [], ◌∷◌, ◌++◌, length, map, take, drop, min, arith, refl, sym, ap, ◌∙◌, subst, true, false}
use Rattle.std.proofs.lemmas.List.{append_assoc, append-nil, take_all}
use Rattle.std.proofs.lemmas.Bool.{true≢false}
use Rattle.std.proofs.Math.Seq.{take-append_seam}
use Rattle.std.specs.List.{concat}
use Rattle.nx_fec.specs.air_files.Channels.{channel_number}
use Rattle.nx_fec.specs.declared.air_files.channel.Channel.{Channel}
use Rattle.nx_copies.specs.Events as events
use Rattle.nx_copies.specs.Events.{Command, command}
use Rattle.nx_copies.specs.copies.InTurn.{PrintAllToEndBy}
use Rattle.nx_copies.specs.copies.Log.{IsLog}
use Rattle.nx_copies.specs.copies.Shares.{Given, MarkedCopy, Starts, all_at_zero, marked, to_all, to_one}
use Rattle.nx_copies.proofs.lemmas.printing.Log.{logs_join, no-log, one-log}
use Rattle.nx_handle.specs.Closing.{HandsOut, HasEnded}
use Rattle.nx_handle.specs.Hearing.{AnswersHearing, elements_of}
use Rattle.nx_handle.specs.Life.{EndsWith}
use Rattle.nx_handle.specs.PlaceKinds.{IsPlaceKind, PlaceKind}
use Rattle.nx_handle.specs.Places.{HaveRoom, all_closed, all_hear}
use Rattle.nx_handle.specs.Opening.{AnswersMoment, AnswersOpening}
use Rattle.nx_handle.specs.Selecting.{AnswersSelecting}
use Rattle.nx_handle.specs.CallerRoom.{IsCopiedOut, Room}
use Rattle.nx_handle.specs.WholeLife.{AreCloses, AreSteps, HasLogged, IsStep, LifeStep, given_in, step, texts_of}
use Rattle.nx_handle.specs.declared.status.Status.{Status}
use Rattle.nx_handle.proofs.lemmas.Closing.{closed-gone, ends-all}
use Rattle.nx_handle.proofs.lemmas.Heard.{none-in}

-- what was copied into a room that holds it
copied-taken : (text : List ℕ) (r : Room) → IsCopiedOut text r → length text ≤ length r.old
    → take r.written r.new ≡ text
copied-taken text r copied fits =
    let all : min (length text) (length r.old) ≡ length text = omega (arith, fits) in
    ap (λ k. take k r.new) copied.counted
    ∙ ap (take (length text))
    (copied.copied ∙ ap (λ k. take k text ++ drop k r.old) all
    ∙ ap (λ t. t ++ drop (length text) r.old) (take_all (length text) text (omega arith)))
    ∙ take-append_seam text (drop (length text) r.old)

-- ---- each call is a step

pub step-hears : {P : Type 0} (kind : PlaceKind P) → IsPlaceKind kind → (channel heard : ℕ)
    (bytes : List ℕ) (old new : List P) (log : Room)
    → AnswersHearing kind channel bytes old new heard log 0
    → (on : Channel) × (channel_number on ≡ channel)
    × IsStep kind old (step (to_one on (events.elements (elements_of (take heard bytes))))
    (take log.written log.new)) new
step-hears kind laws channel heard bytes old new log a =
    let h = a.done refl in
    let has : channel_number h.on < length old = omega (arith, h.is, h.has_channel) in (
      h.on,
      h.is,
      λ held starts given before stood.
          let none = none-in kind laws held starts old given h.on stood.copies has stood.heard in
          let next = map (marked h.on) h.hears.next in record {
            copies = stood.copies ++ next;
            heard = h.hears.heard held starts given [] stood.copies none;
            spelled = subst (λ text. IsLog (stood.copies ++ next) (before ++ text))
                (sym (copied-taken a.text log a.copied a.fits))
                (logs_join stood.copies next before a.text stood.spelled h.hears.spelled);
          },
    )

-- a moment that is set is set of a receiver that hears
set-where : {P : Type 0} (kind : PlaceKind P) (moment : ℕ) (old new : List P) (hear : Bool)
    → AnswersMoment kind moment old new 0 hear → AnswersMoment kind moment old new 0 true
set-where kind moment old new false a = absurd (omega (arith, a.0))
set-where kind moment old new true a = a

pub step-moment : {P : Type 0} (kind : PlaceKind P) (moment : ℕ) (old new : List P)
    → AnswersMoment kind moment old new 0 (all_hear kind old)
    → IsStep kind old (step (to_all moment) []) new
step-moment kind moment old new a held starts given before stood =
    let set = set-where kind moment old new (all_hear kind old) a held starts given stood.copies
    stood.heard in
    record {
      copies = stood.copies;
      heard = set.done refl;
      spelled = subst (IsLog stood.copies) (sym (append-nil before)) stood.spelled;
    }

pub step-selects : {P : Type 0} (kind : PlaceKind P) (asked : Status) (one : Command)
    (channel : ℕ) (old new : List P) → AnswersSelecting kind asked one channel old new 0
    → (on : Channel) × (channel_number on ≡ channel)
    × IsStep kind old (step (to_one on (command one ∷ [])) []) new
step-selects kind asked one channel old new a =
    let h = a.done refl in (
      h.on,
      h.is,
      λ held starts given before stood. record {
        copies = stood.copies;
        heard = h.heard held starts given stood.copies stood.heard;
        spelled = subst (IsLog stood.copies) (sym (append-nil before)) stood.spelled;
      },
    )

-- ---- steps one after another

pub steps-logged : {P : Type 0} (kind : PlaceKind P) (held : ℕ) (starts : Starts)
    (given : List Given) (before : List ℕ) (steps : List LifeStep) (first last : List P)
    → HasLogged kind held starts first given before → AreSteps kind first steps last
    → HasLogged kind held starts last (given ++ given_in steps) (before ++ texts_of steps)
steps-logged kind held starts given before [] first last stood h =
    subst (λ g. HasLogged kind held starts last g (before ++ [])) (sym (append-nil given))
    (subst (λ b. HasLogged kind held starts last given b) (sym (append-nil before))
    (subst (λ r. HasLogged kind held starts r given before) (sym h) stood))
steps-logged kind held starts given before (one ∷ steps) first last stood h =
    subst (λ g. HasLogged kind held starts last g (before ++ texts_of (one ∷ steps)))
    (append_assoc given (one.given ∷ []) (given_in steps))
    (subst (λ b. HasLogged kind held starts last
    ((given ++ one.given ∷ []) ++ given_in steps) b)
    (append_assoc before one.text (texts_of steps))
    (steps-logged kind held starts (given ++ one.given ∷ []) (before ++ one.text) steps h.0 last
    (h.1 held starts given before stood) h.2))

-- ---- closing

not-open : (b : Bool) → b ≡ true → b ≡ false → ⊥
not-open true e f = true≢false f
not-open false e f = true≢false (sym e)

closes-none : {P : Type 0} (kind : PlaceKind P) (places end : List P) (texts : List (List ℕ))
    → all_closed kind places ≡ true → AreCloses kind places texts end → concat texts ≡ []
closes-none kind places end [] closed h = refl
closes-none kind places end (text ∷ texts) closed h =
    absurd (not-open (all_closed kind places) closed h.1.was_open)

-- what the calls hand out that close a receiver is the log of what its ends print
pub record HandOutAll {P : Type 0} (kind : PlaceKind P) (places : List P)
    (texts : List (List ℕ)) : Type 0 where
  pub left : List MarkedCopy
  pub ends : EndsWith kind places left
  pub spelled : IsLog left (concat texts)

hands-last : {P : Type 0} (kind : PlaceKind P) (old mid end : List P) (text : List ℕ)
    (texts : List (List ℕ)) → HasEnded kind old mid text → AreCloses kind mid texts end
    → HandOutAll kind old (text ∷ texts)
hands-last kind old mid end text texts ended h = record {
  left = [];
  ends = ended.none;
  spelled = subst (λ bytes. IsLog [] bytes)
      (sym (ap (λ t. t ++ concat texts) ended.nothing
      ∙ closes-none kind mid end texts ended.closed h)) no-log;
}

hands-one : {P : Type 0} (kind : PlaceKind P) (old mid : List P) (text : List ℕ)
    (texts : List (List ℕ)) (out : HandsOut kind old mid text) → HandOutAll kind mid texts
    → HandOutAll kind old (text ∷ texts)
hands-one kind old mid text texts out h = record {
  left = out.copy ∷ h.left;
  ends = out.behind h.left h.ends;
  spelled = logs_join (out.copy ∷ []) h.left text (concat texts)
      (one-log out.copy text out.entry) h.spelled;
}

hands-all : {P : Type 0} (kind : PlaceKind P) → IsPlaceKind kind → (places end : List P)
    (texts : List (List ℕ)) → AreCloses kind places texts end → all_closed kind end ≡ true
    → HandOutAll kind places texts
hands-all kind laws places end [] h closed = record {
  left = [];
  ends = closed-gone kind laws places (ap (all_closed kind) (sym h) ∙ closed);
  spelled = no-log;
}
hands-all kind laws places end (text ∷ texts) h closed = elim h.1.goes [
  | inl out ↦ hands-one kind places h.0 text texts out
      (hands-all kind laws h.0 end texts h.2 closed)
  | inr ended ↦ hands-last kind places h.0 end text texts ended h.2
]

pub closed-logged : {P : Type 0} (kind : PlaceKind P) → IsPlaceKind kind → (held : ℕ)
    (starts : Starts) (given : List Given) (log : List ℕ) (last end : List P)
    (texts : List (List ℕ)) → HasLogged kind held starts last given log
    → AreCloses kind last texts end → all_closed kind end ≡ true
    → (copies : List MarkedCopy) × PrintAllToEndBy (kind.printing held) starts given copies
    × IsLog copies (log ++ concat texts)
closed-logged kind laws held starts given log last end texts stood h closed =
    let out = hands-all kind laws last end texts h closed in (
      stood.copies ++ out.left,
      ends-all kind laws held starts last given stood.copies out.left stood.heard out.ends,
      logs_join stood.copies out.left log (concat texts) stood.spelled out.spelled,
    )

pub life-from : {P : Type 0} (kind : PlaceKind P) → IsPlaceKind kind → (held : ℕ)
    (starts : Starts) (given : List Given) (first last end : List P) (steps : List LifeStep)
    (before : List ℕ) (texts : List (List ℕ)) → HasLogged kind held starts first given before
    → AreSteps kind first steps last → AreCloses kind last texts end
    → all_closed kind end ≡ true
    → (copies : List MarkedCopy)
    × PrintAllToEndBy (kind.printing held) starts (given ++ given_in steps) copies
    × IsLog copies ((before ++ texts_of steps) ++ concat texts)
life-from kind laws held starts given first last end steps before texts stood goes closes closed =
    closed-logged kind laws held starts (given ++ given_in steps) (before ++ texts_of steps) last
    end texts (steps-logged kind held starts given before steps first last stood goes) closes
    closed

pub life-log : {P : Type 0} (kind : PlaceKind P) → IsPlaceKind kind → (held moment : ℕ)
    (closed first last end : List P) (steps : List LifeStep) (texts : List (List ℕ))
    → HaveRoom kind held closed → AnswersOpening kind moment closed first 0
    → AreSteps kind first steps last → AreCloses kind last texts end
    → all_closed kind end ≡ true
    → (copies : List MarkedCopy)
    × PrintAllToEndBy (kind.printing held) all_at_zero (to_all moment ∷ given_in steps) copies
    × IsLog copies (texts_of steps ++ concat texts)
life-log kind laws held moment closed first last end steps texts room opens goes closes shut =
    life-from kind laws held all_at_zero (to_all moment ∷ []) first last end steps [] texts
    (record { copies = []; heard = opens.done refl held room; spelled = no-log }) goes closes shut
