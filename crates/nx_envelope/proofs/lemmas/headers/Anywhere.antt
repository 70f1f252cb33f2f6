-- The headers of a text are those that stand in it.
use Rattle.std.proofs.Common.{◌≡◌, ℕ, zero, suc, ◌+◌, inl, inr, Option, Some, None, List, [], ◌∷◌}
use Rattle.std.proofs.Common.{◌++◌, length, take, reverse, refl, sym, ap, subst, ◌∙◌, arith}
use Rattle.std.proofs.Common.{length-append}
use Rattle.std.specs.Prelude.{Contains}
use Rattle.std.specs.Option.{option_to_list}
use Rattle.std.proofs.lemmas.Bool.Decides.{leb_tells}
use Rattle.std.proofs.lemmas.List.{take-append-le, take_all, reverse-append, reverse-reverse}
use Rattle.std.proofs.lemmas.List.Elements.{Contains-append_left, Contains-append_right}
use Rattle.std.proofs.lemmas.List.Elements.{Contains-append_cases}
use Rattle.nx_envelope.specs.private.Backward.{header_back}
use Rattle.nx_envelope.specs.Copies.{header_at_end, headers}
use Rattle.nx_envelope.specs.Header.{Header, EndsWithHeader, StandsIn}
use Rattle.nx_envelope.specs.declared.identity.Identity.{Identity}
use Rattle.nx_envelope.proofs.lemmas.copies.Beginnings.{headers-push, header_at_end-push, reverse-push}
use Rattle.nx_envelope.proofs.lemmas.copies.OneOpenCopy.{headers-nil}
use Rattle.nx_envelope.proofs.lemmas.headers.SpelledHeaders.{header_both}

abbrev header_named : Identity → ℕ → Header
header_named identity behind = record { identity = identity; behind = behind }

-- no header ends the empty text
empty_none : (text : List ℕ) (i : Identity) → text ≡ [] → ¬ EndsWithHeader text i
unfolding header_back
empty_none text i e h =
    let back = (header_both text i).1 h in
    let none : header_back (reverse text) ≡ None = rw e refl in
    cc

empty_in : (h : Header) → ¬ StandsIn [] h
empty_in h s = empty_none (take h.behind []) h.identity (take_all h.behind [] (omega arith))
    s.spelled

none_in : (h : Header) → ¬ Contains [] h
none_in h (k, lt, is) = omega arith

only_in : (x h : Header) → Contains (x ∷ []) h → x ≡ h
only_in x h (zero, lt, is) = is
only_in x h (suc k, lt, is) = absurd (omega arith)

in_only : (x h : Header) → x ≡ h → Contains (x ∷ []) h
in_only x h e = (0, omega arith, e)

-- the header that the last byte completes
completed : (text : List ℕ) (b : ℕ) (i : Identity) → header_back (b ∷ reverse text) ≡ Some i
    → StandsIn (text ++ b ∷ []) (record { identity = i; behind = length text + 1 })
completed text b i e =
    let long : length (text ++ b ∷ []) ≡ length text + 1 =
    omega (arith, length-append text (b ∷ [])) in
    let whole : take (length text + 1) (text ++ b ∷ []) ≡ text ++ b ∷ [] =
    take_all (length text + 1) (text ++ b ∷ []) (omega arith) in
    let ends : EndsWithHeader (text ++ b ∷ []) i =
    (header_both (text ++ b ∷ []) i).0 (ap header_back (reverse-push text b) ∙ e) in
    record { within = omega arith; spelled = rw whole ends }

last_forth : (text : List ℕ) (b : ℕ) (h : Header) (o : Option Identity)
    → header_back (b ∷ reverse text) ≡ o
    → Contains (option_to_list (header_at_end (text ++ b ∷ []))) h → StandsIn (text ++ b ∷ []) h
last_forth text b h None e c =
    let last = header_at_end-push text b in
    absurd (none_in h (rw (last, e) at c))
last_forth text b h (Some i) e c =
    let last = header_at_end-push text b in
    let P : Header → Type 0 = λ (x : Header). StandsIn (text ++ b ∷ []) x in
    subst P (only_in _ h (rw (last, e) at c)) (completed text b i e)

earlier : (text : List ℕ) (b : ℕ) (h : Header) → StandsIn text h → StandsIn (text ++ b ∷ []) h
earlier text b h s =
    let same = take-append-le h.behind text (b ∷ []) s.within in
    record {
      within = omega (arith, s.within, length-append text (b ∷ []));
      spelled =
          rw same s.spelled;
    }

push_forth : (text : List ℕ) (b : ℕ) (h : Header) → (Contains (headers text) h → StandsIn text h)
    → Contains (headers (text ++ b ∷ [])) h → StandsIn (text ++ b ∷ []) h
push_forth text b h before c =
    let push = headers-push text b in
    elim (Contains-append_cases (headers text) (option_to_list (header_at_end (text ++ b ∷ []))) h
    (rw push at c)) [
      | inl old ↦ earlier text b h (before old)
      | inr new ↦ last_forth text b h _ refl new
    ]

at_the_end : (text : List ℕ) (b : ℕ) (h : Header) → h.behind ≡ length text + 1
    → StandsIn (text ++ b ∷ []) h → Contains (option_to_list (header_at_end (text ++ b ∷ []))) h
at_the_end text b h e s =
    let long : length (text ++ b ∷ []) ≡ length text + 1 =
    omega (arith, length-append text (b ∷ [])) in
    let whole : take h.behind (text ++ b ∷ []) ≡ text ++ b ∷ [] =
    take_all h.behind (text ++ b ∷ []) (omega arith) in
    let ends : EndsWithHeader (text ++ b ∷ []) h.identity = rw whole at s.spelled in
    let is : header_back (b ∷ reverse text) ≡ Some h.identity =
    ap header_back (sym (reverse-push text b))
    ∙ (header_both (text ++ b ∷ []) h.identity).1 ends in
    let last = header_at_end-push text b in
    let same : header_named h.identity (length text + 1) ≡ h =
    ap (header_named h.identity) (sym e) in
    rw (last, is) (in_only _ h same)

push_back : (text : List ℕ) (b : ℕ) (h : Header) → (StandsIn text h → Contains (headers text) h)
    → StandsIn (text ++ b ∷ []) h → Contains (headers (text ++ b ∷ [])) h
push_back text b h before s =
    let push = headers-push text b in
    let long : length (text ++ b ∷ []) ≡ length text + 1 =
    omega (arith, length-append text (b ∷ [])) in
    rw push (elim (leb_tells h.behind (length text)) [
      | inl p ↦ let same = take-append-le h.behind text (b ∷ []) p.1 in let old : StandsIn text h =
          record { within = p.1; spelled = rw same at s.spelled } in
          Contains-append_left (headers text) (option_to_list (header_at_end (text ++ b ∷ []))) h
          (before old)
      | inr p ↦ Contains-append_right (headers text)
          (option_to_list (header_at_end (text ++ b ∷ []))) h
          (at_the_end text b h (omega (arith, p.1, s.within)) s)
    ])

pub record Anywhere (text : List ℕ) (h : Header) : Type 0 where
  pub forth : Contains (headers text) h → StandsIn text h
  pub back : StandsIn text h → Contains (headers text) h

anywhere_back : (back : List ℕ) (h : Header) → Anywhere (reverse back) h
anywhere_back [] h =
    let nil = headers-nil in
    record { forth = λ c. absurd (none_in h (rw nil at c)); back = λ s. absurd (empty_in h s) }
anywhere_back (b ∷ back) h =
    let whole : reverse (b ∷ back) ≡ reverse back ++ b ∷ [] = reverse-append (b ∷ []) back in
    let before = anywhere_back back h in
    rw whole (record {
      forth = push_forth (reverse back) b h before.forth;
      back =
          push_back (reverse back) b h before.back;
    })

anywhere : (text : List ℕ) (h : Header) → Anywhere text h
anywhere text h = rw (← reverse-reverse text) (anywhere_back (reverse text) h)

pub anywhere_both : (text : List ℕ) (h : Header)
    → (Contains (headers text) h → StandsIn text h) × (StandsIn text h → Contains (headers text) h)
anywhere_both text h = let a = anywhere text h in (a.forth, a.back)
