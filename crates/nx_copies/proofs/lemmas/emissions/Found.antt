-- What is found of sendings in a list of bits that is cut into gaps and received emissions.
use Rattle.std.proofs.Common.{◌≡◌, ℕ, ◌+◌, Bool, false, eqb, cond, List, [], ◌∷◌, ◌++◌, take, drop}
use Rattle.std.proofs.Common.{refl, sym, ap, ap₂, ◌∙◌, subst, append_assoc}
use Rattle.std.specs.List.{All, Contains, flat_map}
use Rattle.std.proofs.lemmas.Bool.{ne_eqb, true≢false}
use Rattle.std.proofs.lemmas.List.{take-append-drop, take-take}
use Rattle.std.proofs.lemmas.List.Concat.{flat_map-append}
use Rattle.std.proofs.lemmas.List.Elements.{All-head, All-tail, Contains-append_left}
use Rattle.std.proofs.lemmas.List.Sums.{sum_by-cons, sum_by-append}
use Rattle.nx_code.specs.Reading.{is_in_code, characters}
use Rattle.nx_envelope.specs.Copies.{errors_of}
use Rattle.nx_envelope.specs.Message.{AreLines, IsMessageLine, IsLineByte, text_of}
use Rattle.nx_envelope.specs.declared.found.How.TheVariants.{Full}
use Rattle.nx_fec.specs.emissions.Emission.{bits_of}
use Rattle.nx_station.specs.reception.Sendings.{Part, received, part_bits, IsCut, IsReceived}
use Rattle.nx_station.specs.reception.Sendings.{ReceivedEmission, Sending, IsSending}
use Rattle.nx_sync.specs.Laws.{phasing}
use Rattle.nx_sync.specs.Locks.{Lock, Now, IsNow, IsLocked}
use Rattle.nx_sync.proofs.lemmas.states.KeptPast.{Finds-more, Past-more, IsReleased-more}
use Rattle.nx_copies.specs.copies.FoundCopies.{FoundCopy, ended_so_far, open_so_far, found_to_end}
use Rattle.nx_copies.specs.laws.Emissions.{HoldsThrough, copies_at, copy_of_sending}
use Rattle.nx_copies.proofs.lemmas.printing.Logged.{end_adds}
use Rattle.nx_copies.proofs.lemmas.once.Rising.{Above, Rises, one_of_key}
use Rattle.nx_copies.proofs.lemmas.emissions.Emissions.{message_copied}
use Rattle.nx_copies.proofs.lemmas.emissions.Places.{found_rise}
use Rattle.nx_copies.proofs.lemmas.emissions.Texts.{lines_at}

pub is_received : (bits : List Bool) (parts : List Part) (sending : Sending) → IsCut bits parts
    → (s : IsSending parts sending) → IsReceived s.emission
is_received bits parts sending cut s = cut.each s.before s.emission s.after s.among

-- the bits up to the emission, of it, and behind it
cut_at : (bits : List Bool) (parts : List Part) (sending : Sending) → IsCut bits parts
    → (s : IsSending parts sending)
    → bits ≡ (flat_map part_bits s.before ++ bits_of s.emission.heard) ++ flat_map part_bits s.after
cut_at bits parts sending cut s =
    cut.whole ∙ ap (flat_map part_bits) s.among
    ∙ flat_map-append part_bits s.before (received s.emission ∷ s.after)
    ∙ sym (append_assoc (flat_map part_bits s.before) (bits_of s.emission.heard)
    (flat_map part_bits s.after))

-- the copy of a sending is there
pub sending_found : (bits : List Bool) (parts : List Part) (sending : Sending) (locks : List Lock)
    (now : Now)
    → IsCut bits parts → IsSending parts sending → IsNow bits locks now
    → Contains (ended_so_far bits locks now) (copy_of_sending sending)
sending_found bits parts sending locks now cut s stands =
    let e = s.emission in
    let before = flat_map part_bits s.before in
    let after = flat_map part_bits s.after in
    let at = cut_at bits parts sending cut s in
    let there =
    message_copied before after e.messages e.spellings e.heard
    (is_received bits parts sending cut s) s.index sending.message s.message locks now
    (subst (λ (b : List Bool). IsNow b locks now) at stands) in
    subst (λ (b : List Bool). Contains (ended_so_far b locks now) (copy_of_sending sending))
    (sym at)
    (subst (λ (p : ℕ). Contains (ended_so_far ((before ++ bits_of e.heard) ++ after) locks now)
    (record {
      identity = sending.message.identity;
      how = Full;
      text =
          text_of sending.message.lines;
      place = p;
    })) (sym s.place) there)

-- a beginning of a list with rising keys has them too
above_front : {A : Type 0} (key : A → ℕ) (n : ℕ) (xs ys : List A) → Above key n (xs ++ ys)
    → Above key n xs
above_front key n [] ys h = tt
above_front key n (x ∷ xs) ys h = (h.0, above_front key n xs ys h.1)

rises_front : {A : Type 0} (key : A → ℕ) (xs ys : List A) → Rises key (xs ++ ys) → Rises key xs
rises_front key [] ys h = tt
rises_front key (x ∷ xs) ys h = (above_front key (key x) xs ys h.0, rises_front key xs ys h.1)

pub sending_in_end : (bits : List Bool) (parts : List Part) (sending : Sending) (locks : List Lock)
    (now : Now)
    → IsCut bits parts → IsSending parts sending → IsNow bits locks now
    → Contains (found_to_end bits locks now) (copy_of_sending sending)
sending_in_end bits parts sending locks now cut s stands =
    subst (λ (cs : List FoundCopy). Contains cs (copy_of_sending sending))
    (sym (end_adds bits locks now))
    (Contains-append_left (ended_so_far bits locks now) (open_so_far bits now)
    (copy_of_sending sending) (sending_found bits parts sending locks now cut s stands))

-- and no other stands at its place
pub one_found : (bits : List Bool) (parts : List Part) (sending : Sending) (locks : List Lock)
    (now : Now)
    → IsCut bits parts → IsSending parts sending → IsNow bits locks now
    → copies_at sending.place (found_to_end bits locks now) ≡ copy_of_sending sending ∷ []
unfolding copies_at
one_found bits parts sending locks now cut s stands =
    one_of_key (λ (c : FoundCopy). c.place) (found_to_end bits locks now) (copy_of_sending sending)
    (found_rise bits locks now stands)
    (sending_in_end bits parts sending locks now cut s stands)

pub one_ended : (bits : List Bool) (parts : List Part) (sending : Sending) (locks : List Lock)
    (now : Now)
    → IsCut bits parts → IsSending parts sending → IsNow bits locks now
    → copies_at sending.place (ended_so_far bits locks now) ≡ copy_of_sending sending ∷ []
unfolding copies_at
one_ended bits parts sending locks now cut s stands =
    one_of_key (λ (c : FoundCopy). c.place) (ended_so_far bits locks now) (copy_of_sending sending)
    (rises_front (λ (c : FoundCopy). c.place) (ended_so_far bits locks now) (open_so_far bits now)
    (subst (Rises (λ (c : FoundCopy). c.place)) (end_adds bits locks now)
    (found_rise bits locks now stands)))
    (sending_found bits parts sending locks now cut s stands)

-- ---- a message's text has no errors

star_is_none : is_in_code 42 ≡ false
unfolding is_in_code characters
star_is_none = refl

abbrev star_count : ℕ → ℕ
star_count b = cond (eqb b 42) 1 0

pub errors-append : (xs ys : List ℕ) → errors_of (xs ++ ys) ≡ errors_of xs + errors_of ys
errors-append xs ys = sum_by-append star_count xs ys

no_star : (b : ℕ) → IsLineByte b → star_count b ≡ 0
no_star b h =
    ap (λ t. cond {A = ℕ} t 1 0)
    (ne_eqb b 42 (λ e. let star : is_in_code b ≡ false = ap is_in_code e ∙ star_is_none in
    absurd (true≢false (sym h.0 ∙ star))))

line_errors : (line : List ℕ) → All IsLineByte line → errors_of line ≡ 0
line_errors [] h = refl
line_errors (b ∷ line) h =
    sum_by-cons star_count b line
    ∙ ap₂ ◌+◌ (no_star b (All-head IsLineByte b line h))
    (line_errors line (All-tail IsLineByte b line h))

pub text_errors : (lines : List (List ℕ)) → All IsMessageLine lines → errors_of (text_of lines) ≡ 0
text_errors [] h = refl
text_errors (line ∷ lines) h =
    errors-append (line ++ 10 ∷ []) (text_of lines)
    ∙ ap₂ ◌+◌ (errors-append line (10 ∷ [])
    ∙ ap (λ n. n + errors_of (10 ∷ []))
    (line_errors line (All-head IsMessageLine line lines h).in_code))
    (text_errors lines (All-tail IsMessageLine line lines h))

pub sending_errors : (bits : List Bool) (parts : List Part) (sending : Sending) → IsCut bits parts
    → IsSending parts sending → errors_of (text_of sending.message.lines) ≡ 0
sending_errors bits parts sending cut s =
    let lines : AreLines sending.message.lines =
    lines_at s.emission.messages s.index sending.message
    (is_received bits parts sending cut s).sound s.message in
    text_errors sending.message.lines lines.each

-- ---- the lock holds

-- between a time when a lock stands and a later one when it stands still, it stands
pub stands_between : (bits more rest : List Bool) (locks : List Lock) (p t : ℕ)
    → IsLocked bits locks p t
    → IsLocked ((bits ++ more) ++ rest) locks p t → IsLocked (bits ++ more) locks p t
stands_between bits more rest locks p t before after = record {
  past = Past-more bits more locks p before.past;
  found = Finds-more bits more p t before.found;
  holds = λ w how r. after.holds w how
      (IsReleased-more (bits ++ more) rest t w before.found.here.enough r);
}
