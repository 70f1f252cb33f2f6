-- What a taker of copies and of their positions does with a word, and with a step.
use Rattle.std.proofs.Common.{◌≡◌, ℕ, ◌+◌, ◌*◌, ◌<◌, ◌≤◌, ◌∷◌, ◌++◌, [], List, ap, ap₂}
use Rattle.std.proofs.Common.{sym, ◌∙◌, add-one, Option, Bool, true, inl, inr, length}
use Rattle.std.proofs.Common.{arith, subst, length-append, drop, append-nil}
use Rattle.nx_code.specs.declared.shifts.Shift.TheVariants.{Letters}
use Rattle.nx_code.specs.Reading.{text}
use Rattle.nx_envelope.specs.Copies.{open_headers}
use Rattle.nx_envelope.specs.Finder.{is_over}
use Rattle.nx_envelope.specs.Header.{Header}
use Rattle.nx_envelope.specs.declared.finder.Finder.{Finder}
use Rattle.nx_envelope.specs.declared.found.TextEvent.{TextEvent}
use Rattle.nx_envelope.specs.declared.found.TextEvent.TheVariants as events
use Rattle.nx_envelope.proofs.lemmas.copies.OneOpenCopy.{open_headers-nil}
use Rattle.nx_sync.specs.Words.{role_of, word_of_lock, first_role}
use Rattle.nx_sync.specs.Locks.{IsPattern}
use Rattle.nx_sync.proofs.lemmas.states.KeptPast.{word_at-more, first_role-more}
use Rattle.nx_copies.specs.LockReader.{ReadsLock}
use Rattle.nx_copies.specs.ReaderWords.{IsBrought}
use Rattle.nx_copies.specs.copies.LockText.{text_after, taken_at}
use Rattle.nx_copies.proofs.lemmas.locks.AlikeWords.{alike-same}
use Rattle.nx_copies.proofs.lemmas.locks.Texts.{positions-same}
use Rattle.nx_copies.proofs.lemmas.locks.Found.{IsHeaderIn, open_headers_in}
use Rattle.nx_copies.proofs.lemmas.copy_hearer.Bits.{reads-more}
use Rattle.std.specs.List.{All}
use Rattle.std.proofs.lemmas.List.Elements.{All-head}
use Rattle.nx_combine.specs.CopyPositions.{positions_for}
use Rattle.nx_combine.specs.CombinedTaker.{CopyNoted, NotesLock, TakesLock}
use Rattle.nx_combine.specs.Notes.{IsNoted, Noting, noted}
use Rattle.nx_combine.specs.private.TakerSteps.{NotesWord, from_after}
use Rattle.nx_combine.proofs.lemmas.Noted.{none_read}
use Rattle.nx_combine.specs.private.laws.PositionsFor.{positions_for-last, positions_for-more}
use Rattle.nx_code.specs.Reading.{Reception}
use Rattle.nx_sync.specs.declared.step.Role.{Role}
use Rattle.nx_sync.specs.declared.step.Role.TheVariants.{Dx, Rx}
use Rattle.nx_fec.specs.emissions.Pairing.{counts_as, five_before, pairing}
use Rattle.nx_copies.proofs.lemmas.locks.AlikeWords.{if_rx}
use Rattle.nx_copies.specs.ReadPositions.{IsPositionAt}
use Rattle.nx_copies.specs.copies.AlikeWords.{alike}
use Rattle.nx_copies.specs.copies.LockText.{positions}
use Rattle.nx_copies.specs.declared.lock_printer.ReadPosition.{ReadPosition}
use Rattle.nx_combine.specs.CombinedTaker.{positions_after}
use Rattle.nx_combine.specs.declared.taker.CombinedTaker.{CombinedTaker}
use Rattle.nx_combine.specs.private.TakerSteps.{with_read}

-- the positions of a lock with that of the next word are those of one word more
pub one_read : (first : Role) (words : ℕ → ℕ) (n : ℕ) (read : Option ReadPosition)
    → IsPositionAt first words n read
    → with_read (positions_after first words n) read ≡ positions_after first words (n + 1)
unfolding positions alike
one_read first words n read is =
    ap₂ (λ (x : List Reception) (y : List Bool). record { taken = x; alike = y })
    (ap (λ l. positions first words n ++ l) is.taken
    ∙ ap (positions first words) (sym (add-one n)))
    (ap (λ l. alike first words n ++ l) is.alike ∙ ap (alike first words) (sym (add-one n)))

-- a header of a text stands behind letters of it
header_within : (text : List ℕ) (header : Header) → open_headers text ≡ header ∷ []
    → header.behind ≤ length text
header_within text header is =
    (All-head (IsHeaderIn text) header []
    (subst (All (IsHeaderIn text)) is (open_headers_in text))).1

-- what one more word adds to the positions
pub next_is : (first : Role) (words : ℕ → ℕ) (n : ℕ)
    → positions first words (n + 1) ≡ positions first words n ++ taken_at first words n
unfolding positions
next_is first words n = ap (positions first words) (add-one n)

module _ (first : Role) (words : ℕ → ℕ) (n : ℕ) where
  abbrev earlier : List Reception
  earlier = positions first words n

  abbrev later : List Reception
  later = positions first words (n + 1)

  abbrev before : List ℕ
  before = text_after first words n

  abbrev after : List ℕ
  after = text_after first words (n + 1)

  -- more positions leave those that a header wants
  header_stays : (header : Header) → header.behind ≤ length before
      → positions_for later header.behind ≡ positions_for earlier header.behind
  header_stays header within =
      ap (λ l. positions_for l header.behind) (next_is first words n)
      ∙ positions_for-more earlier (taken_at first words n) header.behind within

  -- a byte is printed by the last position
  last_printed : (byte : ℕ) → after ≡ before ++ byte ∷ []
      → positions_for later (length before + 1) ≡ length later
  unfolding taken_at
  last_printed byte grows =
      by (role_of first n) (pairing (five_before words n) (counts_as (words n)))
      (next_is first words n)
    where
      by : (role : Role) (x : Reception) → later ≡ earlier ++ if_rx role x
          → positions_for later (length before + 1) ≡ length later
      by Dx x is =
          let same : after ≡ before = ap (λ l. text l Letters) (is ∙ append-nil earlier) in
          let longer = length-append before (byte ∷ []) in
          absurd (omega (arith, ap length same, ap length grows, longer))
      by Rx x is =
          let prints : text (earlier ++ x ∷ []) Letters ≡ before ++ byte ∷ [] =
          ap (λ l. text l Letters) (sym is) ∙ grows in
          subst (λ l. positions_for l (length before + 1) ≡ length l) (sym is)
          (positions_for-last earlier x byte prints)

  -- what a word brings, where the notes of the words before it began there
  module _ (from : ℕ)
      (was : (header : Header) → open_headers before ≡ header ∷ []
      → from ≡ positions_for earlier header.behind) where
    -- a copy that stood open before, and stands open still
    stays : (header : Header) → open_headers before ≡ header ∷ []
        → from ≡ positions_for later header.behind
    stays header is = was header is ∙ sym (header_stays header (header_within before header is))

    -- the place where the notes begin after the word
    begun_at : (finder : Finder) (event : TextEvent) → IsBrought before after finder event
        → (header : Header) → open_headers after ≡ header ∷ []
        → from_after event (length later) from ≡ positions_for later header.behind
    begun_at finder events.Nothing (inl h) header is =
        stays header (ap open_headers (sym h.same) ∙ is)
    begun_at finder (events.Header identity) (inl h) header is =
        absurd (let wrong : events.Header identity ≡ events.Nothing = h.nothing in cc)
    begun_at finder events.CopyOver (inl h) header is =
        absurd (let wrong : events.CopyOver ≡ events.Nothing = h.nothing in cc)
    begun_at finder events.Nothing (inr h) header is =
        stays header (sym h.hears.still_open ∙ ap open_headers (sym h.grows) ∙ is)
    begun_at finder (events.Header identity) (inr h) header is =
        let begins = h.hears.begins in
        let both : h.hears.header ∷ [] ≡ header ∷ [] =
        sym begins.now_open ∙ ap open_headers (sym h.grows) ∙ is in
        let one : h.hears.header ≡ header = cc in
        sym (ap (λ (k : Header). positions_for later k.behind) (sym one)
        ∙ ap (positions_for later) begins.behind ∙ last_printed h.byte h.grows)
    begun_at finder events.CopyOver (inr h) header is =
        absurd (let none : header ∷ [] ≡ [] =
        sym is ∙ ap open_headers h.grows ∙ h.hears.ends.none in cc)

-- a word was read where the reader and the notes stood after those before it
pub record WordTaken (old new : CombinedTaker) (first : Role) (words : ℕ → ℕ) (n : ℕ)
    (event : TextEvent) : Type 0 where
  pub takes : TakesLock new first words (n + 1)
  pub copy : is_over event ≡ true → CopyNoted new.notes first words n

word_noted : (old new : CombinedTaker) (first : Role) (words : ℕ → ℕ) (n word : ℕ) (role : Role)
    (event : TextEvent) → NotesWord old new word role event → TakesLock old first words n
    → words n ≡ word → role ≡ role_of first n → TakesLock new first words (n + 1)
word_noted old new first words n word role event read takes is is_role =
    let notes = takes.notes in record {
      reads = read.reads.stands first words n takes.reads is is_role;
      notes = record {
        from = from_after event (length (positions first words (n + 1))) notes.from;
        noted = read.notes first words n notes.from takes.reads is is_role notes.noted;
        behind = begun_at first words n notes.from notes.behind new.copies.reader.finder event
            (read.reads.hears first words n takes.reads is is_role);
      };
    }

-- the positions of a copy that ended with the word
copy_noted : (new : CombinedTaker) (first : Role) (words : ℕ → ℕ) (n from : ℕ) (event : TextEvent)
    → ((header : Header) → open_headers (text_after first words n) ≡ header ∷ []
    → from ≡ positions_for (positions first words n) header.behind)
    → IsBrought (text_after first words n) (text_after first words (n + 1))
    new.copies.reader.finder event
    → IsNoted new.notes (positions_after first words (n + 1))
    (from_after event (length (positions first words (n + 1))) from)
    → is_over event ≡ true → CopyNoted new.notes first words n
copy_noted new first words n from events.Nothing was brought stands over = absurd (cc)
copy_noted new first words n from (events.Header identity) was brought stands over = absurd (cc)
copy_noted new first words n from events.CopyOver was (inl h) stands over =
    absurd (let wrong : events.CopyOver ≡ events.Nothing = h.nothing in cc)
copy_noted new first words n from events.CopyOver was (inr h) stands over =
    let copy = h.hears.copy in
    let ends = h.hears.ends in
    let at = stays first words n from was copy.header ends.was_open in
    record {
      copy = copy;
      byte = h.byte;
      grows = h.grows;
      ends = ends;
      noted = stands.positions
          ∙ ap (λ k. noted (drop k (positions first words (n + 1)))) at;
    }

pub word_taken : (old new : CombinedTaker) (first : Role) (words : ℕ → ℕ) (n word : ℕ) (role : Role)
    (event : TextEvent) → NotesWord old new word role event → TakesLock old first words n
    → words n ≡ word → role ≡ role_of first n → WordTaken old new first words n event
word_taken old new first words n word role event read takes is is_role = record {
  takes = word_noted old new first words n word role event read takes is is_role;
  copy = copy_noted new first words n takes.notes.from event takes.notes.behind
      (read.reads.hears first words n takes.reads is is_role)
      (read.notes first words n takes.notes.from takes.reads is is_role takes.notes.noted);
}

-- notes that begin anew stand after no word of a lock
pub takes_none : (taker : CombinedTaker) (first : Role) (words : ℕ → ℕ)
    → ReadsLock taker.copies.reader first words 0 → IsNoted taker.notes none_read 0
    → TakesLock taker first words 0
unfolding positions alike
takes_none taker first words reads noted = record {
  reads = reads;
  notes = record {
    from = 0;
    noted = noted;
    behind = λ header is.
        absurd (let none : header ∷ [] ≡ [] = sym is ∙ open_headers-nil in cc);
  };
}

-- words that are the same up to a word leave the notes
notes-same : (notes : Noting) (first other : Role) (f g : ℕ → ℕ) (n : ℕ) → first ≡ other
    → ((j : ℕ) → j < n → f j ≡ g j) → NotesLock notes first f n → NotesLock notes other g n
notes-same notes first other f g n e same s =
    let taken = positions-same first f g n same in
    let lock : positions_after first f n ≡ positions_after first g n =
    ap₂ (λ (x : List Reception) (y : List Bool). record { taken = x; alike = y }) taken
    (alike-same first f g n same) in
    subst (λ (role : Role). NotesLock notes role g n) e (record {
      from = s.from;
      noted = subst (λ l. IsNoted notes l s.from) lock s.noted;
      behind = λ header is.
          s.behind header (ap (λ l. open_headers (text l Letters)) taken ∙ is)
          ∙ ap (λ l. positions_for l header.behind) taken;
    })

-- more elements leave the reader and the notes where they stand in a lock
pub takes-more : (taker : CombinedTaker) (bits more : List Bool) (t n : ℕ) → IsPattern bits t
    → t + 7 * n ≤ length bits
    → TakesLock taker (first_role bits t) (word_of_lock bits t) n
    → TakesLock taker (first_role (bits ++ more) t) (word_of_lock (bits ++ more) t) n
takes-more taker bits more t n here h takes = record {
  reads = reads-more taker.copies.reader bits more t n here h takes.reads;
  notes = notes-same taker.notes (first_role bits t) (first_role (bits ++ more) t)
      (word_of_lock bits t) (word_of_lock (bits ++ more) t) n
      (sym (first_role-more bits more t here.enough here.heard))
      (λ j lt. sym (word_at-more bits more t j (omega arith))) takes.notes;
}
