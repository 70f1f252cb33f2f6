-- Over gaps and received emissions a message is printed once.
use Rattle.std.proofs.Common.{◌≡◌, ℕ, zero, suc, ◌+◌, ◌*◌, ◌<◌, Bool, true, false, ltb, cond, max}
use Rattle.std.proofs.Common.{List, [], ◌∷◌, length, filter, get_or, refl, sym, ap, ◌∙◌}
use Rattle.std.proofs.Common.{subst, arith, IsTrue, lt-ltb}
use Rattle.std.specs.List.{All, Contains}
use Rattle.std.proofs.lemmas.List.Elements.{All-head, All-tail, All-cons, All-nil, All-map}
use Rattle.std.proofs.lemmas.List.Elements.{All-weaker, All-contains, All-contains_itself}
use Rattle.nx_envelope.specs.Copies.{errors_of}
use Rattle.nx_envelope.specs.Identity.{same_identity}
use Rattle.nx_envelope.specs.Message.{text_of, MessageView}
use Rattle.nx_envelope.proofs.lemmas.headers.Identities.{same_identity-true, same_itself}
use Rattle.nx_memory.specs.Memory.{seconds_known}
use Rattle.nx_station.specs.reception.Sendings.{Part, Sending, IsSentAt}
use Rattle.nx_copies.specs.Events.{Event, Start, elements_among, first_setting, setting_at}
use Rattle.nx_copies.specs.copies.FoundCopies.{FoundCopy, found_to_end, TaggedCopy, tag, tagged_copies}
use Rattle.nx_copies.specs.laws.LawTerms.{AreRepeats}
use Rattle.nx_copies.specs.copies.Printing.{copies_of, is_good}
use Rattle.nx_copies.specs.copies.Printing.{printed_copies}
use Rattle.nx_copies.specs.copies.Log.{PrintsToEnd, printed_of}
use Rattle.nx_copies.specs.laws.Once.{FewBetween, IsHeardInTime, IsPrintedOnce, IsUnknownAtFirst}
use Rattle.nx_copies.specs.laws.Emissions.{copies_at, copy_of_sending}
use Rattle.nx_copies.proofs.lemmas.locks.Found.{one_told}
use Rattle.nx_copies.proofs.lemmas.once.Repeats.{once}
use Rattle.nx_copies.proofs.lemmas.once.Rising.{one_of_key, contains_map}
use Rattle.nx_copies.proofs.lemmas.emissions.Found.{one_found, sending_in_end, sending_errors}
use Rattle.nx_copies.proofs.lemmas.emissions.Places.{found_rise}

-- what passes a test is kept
contains_kept : {A : Type 0} (p : A → Bool) (y : A) (ys : List A) (x : A) → Contains (filter p ys) x
    → Contains (filter p (y ∷ ys)) x
contains_kept p y ys x c =
    elim (p y) as (λ b. Contains (cond b (y ∷ filter p ys) (filter p ys)) x) [
      | true ↦
          (suc c.0, omega (arith, c.1), c.2)
      | false ↦ c
    ]

pub contains_filter : {A : Type 0} (p : A → Bool) (xs : List A) (x : A) → Contains xs x → p x ≡ true
    → Contains (filter p xs) x
contains_filter p xs x c passes = contains_at p xs x c.0 c.1 c.2 passes
  where
    contains_at : {A : Type 0} (p : A → Bool) (xs : List A) (x : A) (k : ℕ) → k < length xs
        → get_or xs k x ≡ x
        → p x ≡ true → Contains (filter p xs) x
    contains_at p [] x k lt e passes = absurd (omega arith)
    contains_at p (y ∷ xs) x zero lt e passes =
        subst (λ b. Contains (cond b (y ∷ filter p xs) (filter p xs)) x) (sym (ap p e ∙ passes))
        (0, omega arith, e)
    contains_at p (y ∷ xs) x (suc k) lt e passes =
        contains_kept p y xs x (contains_at p xs x k (omega arith) e passes)

-- what holds of each that passes the test holds of all that are kept
pub filter_all : {A : Type 0} (p : A → Bool) (Q : A → Type 0) (xs : List A)
    → All (λ x. p x ≡ true → Q x) xs
    → All Q (filter p xs)
filter_all p Q [] h = All-nil Q
filter_all p Q (x ∷ xs) h =
    let rest = filter_all p Q xs (All-tail (λ x. p x ≡ true → Q x) x xs h) in
    elim (p x) as (λ b. p x ≡ b → All Q (cond b (x ∷ filter p xs) (filter p xs))) [
      | true ↦ λ e. All-cons Q x (filter p xs) (All-head (λ x. p x ≡ true → Q x) x xs h e) rest
      | false ↦ λ e. rest
    ] refl

-- a list that contains something has a first item
pub record HasFirst {A : Type 0} (xs : List A) : Type 0 where
  pub first : A
  pub rest : List A
  pub whole : xs ≡ first ∷ rest

pub has_first : {A : Type 0} (xs : List A) (x : A) → Contains xs x → HasFirst xs
has_first [] x c = absurd (omega (arith, c.1))
has_first (y ∷ ys) x c = record { first = y; rest = ys; whole = refl }

pub no_errors-good : (text : List ℕ) → errors_of text ≡ 0
    → ltb (25 * errors_of text) (max 1 (length text)) ≡ true
no_errors-good text none = lt-ltb (25 * errors_of text) (max 1 (length text)) (omega arith)

module _ (start : Start) (events : List Event) (parts : List Part) (message : MessageView)
    (h : IsHeardInTime start events parts message) where
  abbrev found : List FoundCopy
  found = found_to_end (elements_among events) h.found.locks h.found.now

  abbrev heard : List TaggedCopy
  heard = tagged_copies (first_setting start) events found

  heard_is : tagged_copies (first_setting start) events h.copies ≡ heard
  heard_is = ap (tagged_copies (first_setting start) events) h.found.whole

  -- the copy of a sending of the message, with what is in force there
  abbrev copy_at : ℕ → TaggedCopy
  copy_at place = tag (setting_at (first_setting start) events place)
      (copy_of_sending (record { message = message; place = place }))

  -- each copy that bears the identity is that of a sending of the message
  record IsOfSending (copy : TaggedCopy) : Type 0 where
    place : ℕ
    sent : IsSentAt parts message place
    is : copy ≡ copy_at place

  of_found : (copy : FoundCopy) → Contains found copy
      → same_identity copy.identity message.identity ≡ true
      → IsOfSending (tag (setting_at (first_setting start) events copy.place) copy)
  unfolding copies_at
  of_found copy there named =
      let sent = h.alone copy (subst (λ cs. Contains cs copy) (sym h.found.whole) there)
      (same_identity-true copy.identity message.identity named) in
      let sending : Sending = record { message = message; place = copy.place } in
      let one = one_found (elements_among events) parts sending h.found.locks h.found.now h.cut sent
      h.found.stands in
      let this =
      one_of_key (λ (c : FoundCopy). c.place) found copy
      (found_rise (elements_among events) h.found.locks h.found.now h.found.stands) there in
      let same : copy ∷ [] ≡ copy_of_sending sending ∷ [] = sym this ∙ one in
      let is : copy ≡ copy_of_sending sending = cc in
      record {
        place = copy.place;
        sent = sent;
        is =
            ap (tag (setting_at (first_setting start) events copy.place)) is;
      }

  all_of_sendings : All IsOfSending (copies_of message.identity heard)
  unfolding copies_of tagged_copies tag
  all_of_sendings =
      filter_all (λ (c : TaggedCopy). same_identity c.identity message.identity) IsOfSending heard
      (All-map (λ (c : TaggedCopy). same_identity c.identity message.identity ≡ true
      → IsOfSending c) (λ (copy : FoundCopy). tag
      (setting_at (first_setting start) events copy.place) copy) found
      (All-weaker (Contains found)
      (λ (copy : FoundCopy). same_identity copy.identity message.identity ≡ true
      → IsOfSending (tag (setting_at (first_setting start) events copy.place) copy))
      (λ copy there named. of_found copy there named) found (All-contains_itself found)))

  -- and there is one
  some_heard : Contains (copies_of message.identity heard) (copy_at h.place)
  unfolding copies_of tagged_copies tag
  some_heard =
      let there : Contains found (copy_of_sending (record { message = message; place = h.place })) =
      sending_in_end (elements_among events) parts (record { message = message; place = h.place })
      h.found.locks h.found.now h.cut h.sent h.found.stands in
      contains_filter (λ (c : TaggedCopy). same_identity c.identity message.identity) heard
      (copy_at h.place)
      (contains_map (λ (copy : FoundCopy). tag (setting_at (first_setting start) events copy.place)
      copy) found (copy_of_sending (record { message = message; place = h.place })) there)
      (same_itself message.identity)

  no_errors : errors_of (text_of message.lines) ≡ 0
  no_errors = sending_errors (elements_among events) parts
      (record { message = message; place = h.place }) h.cut h.sent

  good_of : (copy : TaggedCopy) → IsOfSending copy → IsTrue (is_good copy)
  unfolding tag
  good_of copy o = ap is_good o.is ∙ no_errors-good (text_of message.lines) no_errors

  selected_of : (copy : TaggedCopy) → IsOfSending copy → IsTrue copy.selected
  unfolding tag
  selected_of copy o = ap (λ (c : TaggedCopy). c.selected) o.is ∙ h.selected o.place o.sent

  close_of : (one other : TaggedCopy) → IsOfSending one → IsOfSending other
      → one.moment < other.moment + seconds_known
  unfolding tag
  close_of one other o p =
      let near = h.close o.place p.place o.sent p.sent in
      let m : one.moment ≡ (setting_at (first_setting start) events o.place).moment =
      ap (λ (c : TaggedCopy). c.moment) o.is in
      let n : other.moment ≡ (setting_at (first_setting start) events p.place).moment =
      ap (λ (c : TaggedCopy). c.moment) p.is in
      omega arith

  repeats : (first : TaggedCopy) (rest : List TaggedCopy)
      → copies_of message.identity heard ≡ first ∷ rest
      → AreRepeats start.entries message.identity heard first rest
  repeats first rest e =
      let each : All IsOfSending (first ∷ rest) = subst (All IsOfSending) e all_of_sendings in
      record {
        heard = e;
        numbered = h.numbered;
        unknown = subst (IsUnknownAtFirst start.entries message.identity) heard_is h.unknown;
        good = All-weaker IsOfSending (λ (copy : TaggedCopy). IsTrue (is_good copy)) good_of
            (first ∷ rest) each;
        selected = All-weaker IsOfSending (λ (copy : TaggedCopy). IsTrue copy.selected) selected_of
            (first ∷ rest) each;
        close = λ one other a b. close_of one other
            (All-contains IsOfSending (first ∷ rest) one each a)
            (All-contains IsOfSending (first ∷ rest) other each b);
        few = subst (FewBetween start.entries message.identity) heard_is h.few;
      }

  pub printed_once : (log : List TaggedCopy) → PrintsToEnd start events log
      → IsPrintedOnce message log
  unfolding tag
  printed_once log prints =
      let start_of = has_first (copies_of message.identity heard) (copy_at h.place) some_heard in
      let all = repeats start_of.first start_of.rest start_of.whole in
      let of =
      All-head IsOfSending start_of.first start_of.rest
      (subst (All IsOfSending) start_of.whole all_of_sendings) in
      let log_is : log ≡ printed_copies start.entries heard =
      prints.printed
      ∙ ap (printed_of start events)
      (one_told (found_to_end (elements_among events)) (elements_among events) prints.locks
      h.found.locks prints.now h.found.now prints.stands h.found.stands) in
      let text : start_of.first.text ≡ text_of message.lines =
      ap (λ (c : TaggedCopy). c.text) of.is in
      record {
        copy = start_of.first;
        one = ap (copies_of message.identity) log_is
            ∙ once start.entries message.identity heard start_of.first start_of.rest all;
        full = ap (λ (c : TaggedCopy). c.how) of.is;
        whole = ap errors_of text ∙ no_errors;
        letters = text;
      }
