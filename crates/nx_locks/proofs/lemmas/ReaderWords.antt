-- What a word does to the reader of a lock.
use Rattle.std.proofs.Common.{◌≡◌, ℕ, ◌+◌, ◌-◌, ◌^◌, ◌<◌, ◌≤◌, Bool, true, false, cond, eqb, not}
use Rattle.std.proofs.Common.{List, [], ◌∷◌, ◌++◌, length, Option, Some, None, unwrap_or, refl, sym}
use Rattle.std.proofs.Common.{ap, ◌∙◌, subst, arith, add-one, append-nil, length-append}
use Rattle.std.specs.Prelude.{slice_get}
use Rattle.std.specs.Option.{option_map, option_to_list}
use Rattle.nx_envelope.specs.private.Reading.{identity_read}
use Rattle.nx_envelope.specs.Copies.{headers, beginnings, header_at_end}
use Rattle.nx_envelope.specs.Finder as finders
use Rattle.nx_envelope.specs.declared.finder.Finder.{Finder}
use Rattle.nx_envelope.specs.declared.found.TextEvent.{TextEvent}
use Rattle.nx_envelope.specs.declared.found.TextEvent.TheVariants as events
use Rattle.nx_envelope.specs.declared.identity.Identity.{Identity}
use Rattle.nx_code.specs.Word.{is_wrong, wrong_in}
use Rattle.nx_code.proofs.lemmas.WordCounts.{one_if}
use Rattle.nx_sync.specs.declared.step.Role.{Role}
use Rattle.nx_copies.specs.copies.Log.{is_of_lines}
use Rattle.nx_copies.specs.LockReader.{LockReading}
use Rattle.nx_copies.specs.LockReader.{HasReadWords}
use Rattle.nx_copies.specs.LockReader as receiver
use Rattle.nx_copies.specs.copies.LockText.{positions}
use Rattle.nx_copies.specs.copies.LockText.{text_after}
use Rattle.nx_locks.specs.private.Reader.{HasHeard, IsFresh, Reading, ReadsLock, TakesByte, counted}
use Rattle.nx_locks.specs.private.Reader.{one_more}

no_text : (first : Role) (words : ℕ → ℕ) → text_after first words 0 ≡ []
unfolding positions
no_text first words = refl

no_headers : length (headers []) ≡ 0
unfolding headers beginnings header_at_end identity_read
no_headers = refl

no_line : is_of_lines [] ≡ true
unfolding is_of_lines
no_line = refl

pub fresh_reader : (lock : LockReading)
    → ((first : Role) (words : ℕ → ℕ) → receiver.ReadsLock lock first words 0)
    → IsFresh (record { lock = lock; words = 0; wrong = 0; copies = 0; is_line_open = false })
unfolding wrong_in
fresh_reader lock reads = record {
  fresh = λ first words. record {
    reads = reads first words;
    words_counted = refl;
    wrong_counted = refl;
    copies_counted = sym (ap (λ l. length (headers l)) (no_text first words) ∙ no_headers);
    wrong_few = omega arith;
    copies_few = omega arith;
    line = sym (ap (λ l. not (is_of_lines l)) (no_text first words) ∙ ap not no_line);
  };
}

-- a reader that counted a word, and has yet to read it
pub record IsCounted (mid : Reading) (first : Role) (words : ℕ → ℕ) (n : ℕ) : Type 0 where
  pub reads : receiver.ReadsLock mid.lock first words n
  pub words_counted : mid.words ≡ n + 1
  pub wrong_counted : mid.wrong ≡ wrong_in words 0 (n + 1)
  pub wrong_few : mid.wrong ≤ n + 1
  pub copies_counted : mid.copies ≡ length (headers (text_after first words n))
  pub copies_few : mid.copies ≤ n
  pub line : mid.is_line_open ≡ not (is_of_lines (text_after first words n))

wrong_on : (b : Bool) (was total n : ℕ) → was ≡ total → was ≤ n → n + 1 < 2 ^ 64
    → (cond b (one_more was) was ≡ total + one_if b) × (cond b (one_more was) was ≤ n + 1)
wrong_on true was total n e h few = (omega (arith, e, h, few), omega (arith, e, h, few))
wrong_on false was total n e h few = (omega (arith, e, h, few), omega (arith, e, h, few))

zero_plus : (n : ℕ) → 0 + n ≡ n
zero_plus n = omega arith

pub is_counted : (old mid : Reading) (word : ℕ) (first : Role) (words : ℕ → ℕ) (n : ℕ)
    → mid ≡ counted old word → ReadsLock old first words n → words n ≡ word → n + 1 < 2 ^ 64
    → IsCounted mid first words n
unfolding wrong_in
is_counted old mid word first words n mid_is r is_word few =
    let wrong = wrong_on (is_wrong word) old.wrong (wrong_in words 0 n) n r.wrong_counted
    r.wrong_few few in
    let more : wrong_in words 0 (n + 1) ≡ wrong_in words 0 n + one_if (is_wrong word) =
    ap (wrong_in words 0) (add-one n)
    ∙ ap (λ k. wrong_in words 0 n + one_if (is_wrong (words k))) (zero_plus n)
    ∙ ap (λ w. wrong_in words 0 n + one_if (is_wrong w)) is_word in
    subst (λ (k : Reading). IsCounted k first words n) (sym mid_is) (record {
      reads = r.reads;
      words_counted = omega (arith, r.words_counted, few);
      wrong_counted = wrong.0 ∙ sym more;
      wrong_few = wrong.1;
      copies_counted = r.copies_counted;
      copies_few = r.copies_few;
      line = r.line;
    })

-- a word that prints nothing
pub heard_none : (mid : Reading) (lock : LockReading) (printed : Option ℕ) (first : Role)
    (words : ℕ → ℕ) (n : ℕ) → IsCounted mid first words n
    → HasReadWords lock first words n 1 (option_to_list printed) → printed ≡ None
    → HasHeard (record mid { lock = lock }) first words n None
heard_none mid lock printed first words n c read none =
    let grows : text_after first words (n + 1) ≡ text_after first words n ++ [] =
    read.grows ∙ ap (λ o. text_after first words n ++ option_to_list o) none in
    let same = grows ∙ append-nil (text_after first words n) in
    record {
      reads = record {
        reads = read.stands;
        words_counted = c.words_counted;
        wrong_counted = c.wrong_counted;
        copies_counted = c.copies_counted ∙ ap (λ l. length (headers l)) (sym same);
        wrong_few = c.wrong_few;
        copies_few = omega (arith, c.copies_few);
        line = c.line ∙ ap (λ l. not (is_of_lines l)) (sym same);
      };
      grows = grows;
    }

get_pushed : (xs : List ℕ) (x : ℕ) → slice_get (xs ++ x ∷ []) (length xs) ≡ Some x
get_pushed [] x = refl
get_pushed (y ∷ xs) x = get_pushed xs x

-- whether the last line of a text is open, by its last byte
pub line_pushed : (text : List ℕ) (byte : ℕ) → is_of_lines (text ++ byte ∷ []) ≡ eqb byte 10
unfolding is_of_lines
line_pushed text byte =
    let place : length (text ++ byte ∷ []) - 1 ≡ length text =
    omega (arith, length-append text (byte ∷ [])) in
    ap (λ k. unwrap_or (option_map (λ b. eqb b 10) (slice_get (text ++ byte ∷ []) k)) true) place
    ∙ ap (λ (o : Option ℕ). unwrap_or (option_map (λ b. eqb b 10) o) true) (get_pushed text byte)

-- a word that prints a byte
pub heard_some : (mid new : Reading) (lock : LockReading) (printed : Option ℕ) (byte : ℕ)
    (first : Role) (words : ℕ → ℕ) (n : ℕ) → IsCounted mid first words n → n + 1 < 2 ^ 64
    → HasReadWords lock first words n 1 (option_to_list printed) → printed ≡ Some byte
    → TakesByte (record mid { lock = lock }) new (text_after first words n) byte
    → new ≡ record mid {
      lock = lock;
      copies = new.copies;
      is_line_open = not (eqb byte 10);
    } → HasHeard new first words n (Some byte)
heard_some mid new lock printed byte first words n c few read some takes kept =
    let so_far = text_after first words n in
    let grows : text_after first words (n + 1) ≡ so_far ++ byte ∷ [] =
    read.grows ∙ ap (λ o. so_far ++ option_to_list o) some in
    let now = takes.copies (omega (arith, c.copies_few, takes.few, few)) in
    let copies : new.copies ≡ length (headers (text_after first words (n + 1))) =
    omega (
      arith,
      now,
      takes.headers,
      c.copies_counted,
      c.copies_few,
      takes.few,
      few,
      ap
          (λ l. length (headers l)) grows,
    ) in
    let made : ReadsLock (record mid {
      lock = lock;
      copies = new.copies;
      is_line_open = not (eqb byte 10);
    }) first words (n + 1) = record {
      reads = read.stands;
      words_counted = c.words_counted;
      wrong_counted = c.wrong_counted;
      copies_counted = copies;
      wrong_few = c.wrong_few;
      copies_few = omega (arith, now, takes.few, c.copies_few, few);
      line = sym (ap (λ l. not (is_of_lines l)) grows ∙ ap not (line_pushed so_far byte));
    } in
    record {
      reads = subst (λ (k : Reading). ReadsLock k first words (n + 1)) (sym kept) made;
      grows = grows;
    }

-- a byte that completes no header leaves the headers
pub headers_kept : (text : List ℕ) (byte : ℕ) (finder : Finder) (event : TextEvent)
    → finders.HappensAt text byte finder event → ((i : Identity) → event ≡ events.Header i → ⊥)
    → headers (text ++ byte ∷ []) ≡ headers text
headers_kept text byte finder events.Nothing h none = h.headers
headers_kept text byte finder (events.Header i) h none = absurd (none i refl)
headers_kept text byte finder events.CopyOver h none = h.ends.headers
