-- In the text of the messages of an emission one copy alone bears the identity of a message that
-- bears it alone.
use Rattle.std.proofs.Common.{◌≡◌, ℕ, suc, ◌+◌, ◌<◌, Bool, true, false, cond, List, [], ◌∷◌, ◌++◌}
use Rattle.std.proofs.Common.{map, filter, length, get_or, Some, slice_get, refl, sym, ap, ap₂, ◌∙◌}
use Rattle.std.proofs.Common.{subst, arith, inl, inr, append_assoc}
use Rattle.std.specs.List.{All, AllByRecursion, Contains, flat_map}
use Rattle.std.proofs.lemmas.Bool.{cases_Bool}
use Rattle.std.proofs.lemmas.List.{get_or_at, get_or-map, length-append, length-map}
use Rattle.std.proofs.lemmas.List.Elements.{All-contains, All-contains_itself, All-map, All-weaker}
use Rattle.std.proofs.lemmas.List.Elements.{Contains-get_or, filter-append}
use Rattle.nx_envelope.specs.Copies.{Copy, copies, headers}
use Rattle.nx_envelope.specs.Header.{Header}
use Rattle.nx_envelope.specs.Identity.{same_identity}
use Rattle.nx_envelope.specs.Message.{AreLines, MessageView}
use Rattle.nx_envelope.specs.declared.identity.Identity.{Identity}
use Rattle.nx_envelope.proofs.lemmas.headers.Identities.{same_identity_both}
use Rattle.nx_station.specs.Broadcast.{printed_text}
use Rattle.nx_copies.specs.copies.FoundCopies.{FoundCopy, all_in, found_copy}
use Rattle.nx_copies.specs.copies.LockText.{PlacedByte, bytes_of}
use Rattle.nx_copies.specs.laws.Emissions.{IsHeaderOf}
use Rattle.nx_promises.specs.laws.FromSend.{BearsAlone}
use Rattle.nx_copies.proofs.lemmas.once.Rising.{Rises}
use Rattle.nx_copies.proofs.lemmas.emissions.Copies.{copy_at, header_of}
use Rattle.nx_promises.proofs.lemmas.emissions.Headers.{headers_of_messages}
use Rattle.nx_copies.proofs.lemmas.emissions.Places.{rises_at}
use Rattle.std.proofs.lemmas.List.{nil_from_length}

-- ---- lists of which one item passes a test

kept_first : {A : Type 0} (p : A → Bool) (x : A) (xs : List A) → p x ≡ true
    → filter p (x ∷ xs) ≡ x ∷ filter p xs
kept_first p x xs h = ap (λ b. cond b (x ∷ filter p xs) (filter p xs)) h

kept_rest : {A : Type 0} (p : A → Bool) (x : A) (xs : List A) → p x ≡ false
    → filter p (x ∷ xs) ≡ filter p xs
kept_rest p x xs h = ap (λ b. cond b (x ∷ filter p xs) (filter p xs)) h

-- none passes before the one
none_before : {A : Type 0} (p : A → Bool) (before : List A) (x : A) (after : List A) (one : A)
    → filter p (before ++ x ∷ after) ≡ one ∷ [] → p x ≡ true → filter p before ≡ []
none_before p before x after one h passes =
    let parts : filter p (before ++ x ∷ after) ≡ filter p before ++ x ∷ filter p after =
    filter-append p before (x ∷ after)
    ∙ ap (λ l. filter p before ++ l) (kept_first p x after passes) in
    let count = length-append (filter p before) (x ∷ filter p after) in
    nil_from_length (filter p before) (omega (arith, ap length h, ap length parts))

some_kept : {A : Type 0} (p : A → Bool) (x : A) (xs : List A) → p x ≡ true → filter p (x ∷ xs) ≡ []
    → ⊥
some_kept p x xs h none = let clash : x ∷ filter p xs ≡ [] = sym (kept_first p x xs h) ∙ none in cc

none_kept : {A : Type 0} (p : A → Bool) (x : A) (xs : List A) → filter p (x ∷ xs) ≡ []
    → filter p xs ≡ []
none_kept p x xs none = elim (cases_Bool (p x)) [
  | inl kept ↦ absurd (some_kept p x xs kept none)
  | inr left ↦ sym (kept_rest p x xs left) ∙ none
]

-- so what stands before it is told by the list
one_front : {A : Type 0} (p : A → Bool) (before other : List A) (x y : A) (after rest : List A)
    → before ++ x ∷ after ≡ other ++ y ∷ rest → filter p before ≡ [] → filter p other ≡ []
    → p x ≡ true → p y ≡ true
    → before ≡ other
one_front p [] [] x y after rest e none empty passes is = refl
one_front p [] (z ∷ other) x y after rest e none empty passes is =
    let same : x ≡ z = cc in absurd (some_kept p z other (ap p (sym same) ∙ passes) empty)
one_front p (z ∷ before) [] x y after rest e none empty passes is =
    let same : z ≡ y = cc in absurd (some_kept p z before (ap p same ∙ is) none)
one_front p (z ∷ before) (w ∷ other) x y after rest e none empty passes is =
    let first : z ≡ w = cc in
    let tails : before ++ x ∷ after ≡ other ++ y ∷ rest = cc in
    ap₂ (λ a l. a ∷ l) first (one_front p before other x y after rest tails
    (none_kept p z before none) (none_kept p w other empty) passes is)

-- the index of the one
pub record HasIndex (messages : List MessageView) (message : MessageView) : Type 0 where
  pub index : ℕ
  pub at : slice_get messages index ≡ Some message

pub has_index : (p : MessageView → Bool) (messages : List MessageView) (message : MessageView)
    → filter p messages ≡ message ∷ [] → HasIndex messages message
has_index p [] message h = absurd (let long = ap length h in omega (arith, long))
has_index p (m ∷ messages) message h = elim (cases_Bool (p m)) [
  | inl kept ↦
      let all : m ∷ filter p messages ≡ message ∷ [] = sym (kept_first p m messages kept) ∙ h in
      let same : m ≡ message = cc in record { index = 0; at = ap Some same }
  | inr left ↦
      let rest = has_index p messages message (sym (kept_rest p m messages left) ∙ h) in
      record { index = suc rest.index; at = rest.at }
]

-- ---- two items of a list in the order of rising keys

-- two items with these images, the key of the first below that of the other
pub record HasTwo {A B : Type 0} (f : A → B) (key : A → ℕ) (xs : List A) (first later : B) : Type 0
  where
    pub one : A
    pub other : A
    pub one_in : Contains xs one
    pub other_in : Contains xs other
    pub first_is : f one ≡ first
    pub later_is : f other ≡ later
    pub below : key one < key other

pub has_two : {A B : Type 0} (f : A → B) (key : A → ℕ) (xs : List A) (d : A)
    (before between after : List B) (first later : B) → Rises key xs
    → map f xs ≡ before ++ first ∷ (between ++ later ∷ after) → HasTwo f key xs first later
has_two f key xs d before between after first later rises e =
    let i : ℕ = length before in
    let front = before ++ first ∷ between in
    let j : ℕ = length front in
    let e' : map f xs ≡ front ++ later ∷ after =
    e ∙ sym (append_assoc before (first ∷ between) (later ∷ after)) in
    let long = ap length e' ∙ length-append front (later ∷ after) in
    let size = length-map xs f in
    let count = length-append before (first ∷ between) in
    let i_in : i < length xs = omega arith in
    let j_in : j < length xs = omega arith in
    record {
      one = get_or xs i d;
      other = get_or xs j d;
      one_in = Contains-get_or xs i d i_in;
      other_in = Contains-get_or xs j d j_in;
      first_is = sym (get_or-map f xs i d first i_in) ∙ ap (λ l. get_or l i first) e
          ∙ get_or_at before first (between ++ later ∷ after) first i refl;
      later_is = sym (get_or-map f xs j d first j_in) ∙ ap (λ l. get_or l j first) e'
          ∙ get_or_at front later after first j refl;
      below = rises_at key xs i j d rises (omega arith) j_in;
    }

-- ---- the copies of the messages

module _ (messages : List MessageView) (message : MessageView) (alone : BearsAlone messages message)
    (good : AllByRecursion (λ (message : MessageView). AreLines message.lines) messages)
    (text : List PlacedByte) (reads : bytes_of text ≡ flat_map printed_text messages) where
  abbrev named : MessageView → Bool
  named one = same_identity one.identity message.identity

  -- each copy is that of the header of a message
  record IsOfHeader (copy : FoundCopy) : Type 0 where
    header : Header
    is : IsHeaderOf messages header
    copied : copy ≡ found_copy text (copy_at (bytes_of text) header)

  all_of_headers : All IsOfHeader (all_in text)
  unfolding copies
  all_of_headers =
      All-map IsOfHeader (found_copy text) (copies (bytes_of text))
      (All-map (λ (copy : Copy). IsOfHeader (found_copy text copy)) (copy_at (bytes_of text))
      (headers (bytes_of text))
      (All-weaker (Contains (headers (bytes_of text)))
      (λ (h : Header). IsOfHeader (found_copy text (copy_at (bytes_of text) h)))
      (λ h there. record {
        header = h;
        is = headers_of_messages messages h good
            (subst (λ (l : List ℕ). Contains (headers l) h) reads there);
        copied = refl;
      })
      (headers (bytes_of text)) (All-contains_itself (headers (bytes_of text)))))

  identity_is : (copy : FoundCopy) (o : IsOfHeader copy) → copy.identity ≡ o.header.identity
  unfolding found_copy
  identity_is copy o =
      ap (λ (c : FoundCopy). c.identity) o.copied
      ∙ ap (λ (h : Header). h.identity) (header_of (bytes_of text) o.header)

  -- the message of such a header, where it bears the identity, is the one
  is_named : (h : Header) (is : IsHeaderOf messages h) → h.identity ≡ message.identity
      → named is.message ≡ true
  is_named h is e = (same_identity_both is.message.identity message.identity).1 (sym is.named ∙ e)

  nothing_before : (h : Header) (is : IsHeaderOf messages h) → h.identity ≡ message.identity
      → filter named is.before ≡ []
  nothing_before h is e =
      none_before named is.before is.message is.after message
      (ap (filter named) (sym is.whole) ∙ alone) (is_named h is e)

  one_header : (a b : Header) → IsHeaderOf messages a → IsHeaderOf messages b
      → a.identity ≡ message.identity
      → b.identity ≡ message.identity → a ≡ b
  one_header a b of_a of_b is_a is_b =
      let fronts : of_a.before ≡ of_b.before =
      one_front named of_a.before of_b.before of_a.message of_b.message of_a.after of_b.after
      (sym of_a.whole ∙ of_b.whole) (nothing_before a of_a is_a) (nothing_before b of_b is_b)
      (is_named a of_a is_a) (is_named b of_b is_b) in
      let behind : a.behind ≡ b.behind =
      of_a.behind ∙ ap (λ (l : List MessageView). length (flat_map printed_text l) + 9) fronts
      ∙ sym of_b.behind in
      ap₂ (λ (identity : Identity) (n : ℕ). record { identity = identity; behind = n })
      (is_a ∙ sym is_b) behind

  pub one_copy : (a b : FoundCopy) → Contains (all_in text) a → Contains (all_in text) b
      → a.identity ≡ message.identity
      → b.identity ≡ message.identity → a ≡ b
  one_copy a b in_a in_b is_a is_b =
      let of_a = All-contains IsOfHeader (all_in text) a all_of_headers in_a in
      let of_b = All-contains IsOfHeader (all_in text) b all_of_headers in_b in
      let same =
      one_header of_a.header of_b.header of_a.is of_b.is (sym (identity_is a of_a) ∙ is_a)
      (sym (identity_is b of_b) ∙ is_b) in
      of_a.copied ∙ ap (λ (h : Header). found_copy text (copy_at (bytes_of text) h)) same
      ∙ sym of_b.copied
