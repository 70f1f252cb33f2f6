-- An air file has one outcome: one first fault, or a log.
use Rattle.std.proofs.Common.{◌≡◌, inl, inr, ℕ, ◌+◌, ◌<◌, ◌≤◌, List, [], ◌∷◌, ◌++◌, length}
use Rattle.std.proofs.Common.{refl, sym, ap, ◌∙◌, subst, append-nil, append_assoc, arith}
use Rattle.std.proofs.Common.{length-append}
use Rattle.std.specs.List.{AllByRecursion}
use Rattle.std.proofs.lemmas.Bool.{true≢false}
use Rattle.nx_envelope.proofs.lemmas.headers.LettersAndDigits.{same_letter}
use Rattle.nx_fec.specs.air_files.AirFile.{Line, IsLine, spelling, moment, elements, refuse_station}
use Rattle.nx_fec.specs.air_files.AirFile.{accept_station, refuse_subject, accept_subject}
use Rattle.nx_fec.specs.air_files.Lines.{IsLineRefused, StopsAt, air_limit, HasFault, IsAirFile, IsCause}
use Rattle.nx_fec.specs.air_files.Lines.{file_of, line_bytes}
use Rattle.nx_fec.specs.declared.fault.LineFault.{LineFault}
use Rattle.nx_fec.specs.declared.fault.LineFault.TheVariants as file
use Rattle.nx_fec.proofs.lemmas.lines.LineLaws.{HasFault-unique, IsAirFile-good, NoFeed, first_feed, no_feed-not}
use Rattle.nx_fec.proofs.lemmas.lines.LineLaws.{reading-unique, regroup, spelling-IsBeginning}
use Rattle.nx_fec.proofs.lemmas.lines.LineLaws.{spelling-injective, split}
use Rattle.nx_fec.proofs.lemmas.line_runs.LineRun.{StopsAt-map, file_of-one}
use Rattle.nx_fec.specs.Transfers.{Contents}
use Rattle.nx_receiver.specs.Moments.{Refuses}
use Rattle.nx_receiver.specs.air_file_runs.Listen.{AreTaken, HasListenFault, HasLogged, IsLogOf, RefusesAfter}
use Rattle.nx_receiver.specs.private.Taken.{IsTakenAfter}
use Rattle.nx_receiver.proofs.lemmas.listening.Taken.{taken-at, taken-each}
use Rattle.nx_copies.specs.copies.Shares.{Starts}
use Rattle.nx_receiver.specs.private.Listener.{RefusesLine}
use Rattle.nx_receiver.specs.air_file_runs.Listen.{file_fault, refusal_fault}
use Rattle.nx_receiver.specs.declared.fault.MomentFault.{MomentFault}
use Rattle.nx_receiver.specs.declared.fault.MomentFault.TheVariants.{Range, Back}
use Rattle.nx_receiver.specs.declared.air_file_runs.listen_fault.ListenFault.{ListenFault}
use Rattle.nx_receiver.specs.declared.air_file_runs.listen_fault.ListenFault.TheVariants.{Memory, Read, Write}
use Rattle.nx_receiver.specs.declared.air_file_runs.listen_fault.ListenFault.TheVariants.{AirTooLong, LineLong}
use Rattle.nx_receiver.specs.declared.air_file_runs.listen_fault.ListenFault.TheVariants.{LineCut, BadLine}
use Rattle.nx_receiver.specs.declared.air_file_runs.listen_fault.ListenFault.TheVariants.{NoMoment, Moment, Vital}
use Rattle.nx_receiver.specs.declared.air_file_runs.listen_fault.LineRefusal.{LineRefusal}
use Rattle.nx_receiver.specs.declared.air_file_runs.listen_fault.LineRefusal.TheVariants as refusal

-- why a file stops by its bytes alone: its own fault, or the line of this number is refused
data FirstStop : Type 0 where
  by_file : LineFault → FirstStop
  by_line : ℕ → LineRefusal → FirstStop

stop_fault : FirstStop → ListenFault
stop_fault (by_file why) = file_fault why
stop_fault (by_line number why) = refusal_fault number why

-- a line is refused for one reason
one-moment : (last n : ℕ) (a b : MomentFault) → Refuses last n a → Refuses last n b → a ≡ b
one-moment last n (Range x) (Range y) h k = let e : x ≡ y = h.0 ∙ sym k.0 in ap Range e
one-moment last n (Range x) (Back l y) h k = absurd (omega (arith, h.1, k.2))
one-moment last n (Back l x) (Range y) h k = absurd (omega (arith, h.2, k.1))
one-moment last n (Back l x) (Back m y) h k =
    let e : l ≡ m = h.0 ∙ sym k.0 in
    let f : x ≡ y = h.1 ∙ sym k.1 in
    cc

-- ---- lines at the front of a file

-- where the bytes of lines begin with those of others, the lines do
front-lines : (xs ys : List Line) (x r : List ℕ) → AllByRecursion IsLine xs
    → AllByRecursion IsLine ys → NoFeed r → file_of xs ++ x ≡ file_of ys ++ r
    → (rest : List Line) × (ys ≡ xs ++ rest)
front-lines [] ys x r g k none e = (ys, refl)
front-lines (a ∷ xs) [] x r g k none e =
    absurd (no_feed-not (spelling a) (file_of xs ++ x) (subst NoFeed (sym e ∙ regroup a xs x) none))
front-lines (a ∷ xs) (b ∷ ys) x r g k none e =
    let parts = first_feed (spelling a) (spelling b) (file_of xs ++ x) (file_of ys ++ r)
    (spelling-IsBeginning a g.0).none (spelling-IsBeginning b k.0).none
    (sym (regroup a xs x) ∙ e ∙ regroup b ys r) in
    let heads : a ≡ b = spelling-injective a b g.0 k.0 parts.0 in
    let more = front-lines xs ys x r g.1 k.1 none parts.1 in
    (more.0, cc (heads, more.1))

good-more : (lines : List Line) (line : Line) → AllByRecursion IsLine lines → IsLine line
    → AllByRecursion IsLine (lines ++ line ∷ [])
good-more [] line g h = (h, tt)
good-more (x ∷ lines) line g h = (g.0, good-more lines line g.1 h)

ended : (lines : List Line) (line : Line) (after : List ℕ)
    → (file_of lines ++ spelling line) ++ (10 ∷ after) ≡ file_of (lines ++ line ∷ []) ++ after
ended lines line after =
    append_assoc (file_of lines) (spelling line) (10 ∷ after)
    ∙ sym (ap (λ b. b ++ after) (file_of-one lines line)
    ∙ append_assoc (file_of lines) (line_bytes line) after
    ∙ ap (λ b. file_of lines ++ b) (append_assoc (spelling line) (10 ∷ []) after))

record Beyond (front : List ℕ) (upto more after : List ℕ) : Type 0 where
  next : ℕ
  between : List ℕ
  reaches : upto ≡ front ++ next ∷ between
  rest_is : more ≡ next ∷ between ++ after

between-of : (front upto more after t : List ℕ) → upto ≡ front ++ t → more ≡ t ++ after
    → (t ≡ [] → ⊥) → Beyond front upto more after
between-of front upto more after [] e f none = absurd (none refl)
between-of front upto more after (x ∷ t) e f none =
    record { next = x; between = t; reaches = e; rest_is = f }

cause-same : (front : ℕ) (lines : List Line) (rest : List ℕ) (x : ℕ) (t u : List ℕ)
    (why : LineFault) → IsCause air_limit front lines rest (x ∷ t) why
    → IsCause air_limit front lines rest (x ∷ u) why
cause-same front lines rest x t u file.TooLong h = h
cause-same front lines rest x t u (file.LineLong line) h = h
cause-same front lines rest x t u (file.LineCut line) h = h
cause-same front lines rest x t u (file.BadLine line) h = h

line-longer : (lines : List Line) (line : Line)
    → length (file_of (lines ++ line ∷ [])) ≡ length (file_of lines ++ spelling line) + 1
line-longer lines line =
    ap length (file_of-one lines line
    ∙ sym (append_assoc (file_of lines) (spelling line) (10 ∷ [])))
    ∙ length-append (file_of lines ++ spelling line) (10 ∷ [])

same-front : (p x q y : List ℕ) → p ++ x ≡ q ++ y → length p ≡ length q → p ≡ q
same-front [] x [] y e h = refl
same-front [] x (b ∷ q) y e h = absurd (omega (arith, h))
same-front (a ∷ p) x [] y e h = absurd (omega (arith, h))
same-front (a ∷ p) x (b ∷ q) y e h =
    let heads : a ≡ b = cc in
    let tails : p ++ x ≡ q ++ y = cc in
    cc (heads, same-front p x q y tails (omega (arith, h)))

-- with whatever three receivers start
module _ (starts : Starts) where
  -- a line that is taken isn't refused
  taken-not_refused : (lines : List Line) (line : Line) (why : LineRefusal)
      → IsTakenAfter starts lines line → RefusesLine starts lines line why → ⊥
  taken-not_refused lines (moment n) refusal.NoMoment h k = k
  taken-not_refused lines (moment n) (refusal.Moment (Range given)) h k = omega (arith, h.1, k.1)
  taken-not_refused lines (moment n) (refusal.Moment (Back last given)) h k =
      omega (arith, h.0, k.3)
  taken-not_refused lines (moment n) (refusal.Vital subject) h k = k
  taken-not_refused lines (elements mark bits) refusal.NoMoment h k = true≢false (sym h ∙ k)
  taken-not_refused lines (elements mark bits) (refusal.Moment why) h k = k
  taken-not_refused lines (elements mark bits) (refusal.Vital subject) h k = k
  taken-not_refused lines (refuse_subject mark letter) refusal.NoMoment h k = k
  taken-not_refused lines (refuse_subject mark letter) (refusal.Moment why) h k = k
  taken-not_refused lines (refuse_subject mark letter) (refusal.Vital subject) h k =
      true≢false (sym k.0 ∙ h)
  taken-not_refused lines (refuse_station mark letter) refusal.NoMoment h k = k
  taken-not_refused lines (refuse_station mark letter) (refusal.Moment why) h k = k
  taken-not_refused lines (refuse_station mark letter) (refusal.Vital subject) h k = k
  taken-not_refused lines (accept_station mark letter) refusal.NoMoment h k = k
  taken-not_refused lines (accept_station mark letter) (refusal.Moment why) h k = k
  taken-not_refused lines (accept_station mark letter) (refusal.Vital subject) h k = k
  taken-not_refused lines (accept_subject mark letter) refusal.NoMoment h k = k
  taken-not_refused lines (accept_subject mark letter) (refusal.Moment why) h k = k
  taken-not_refused lines (accept_subject mark letter) (refusal.Vital subject) h k = k

  one-refusal : (lines : List Line) (line : Line) (a b : LineRefusal)
      → RefusesLine starts lines line a → RefusesLine starts lines line b → a ≡ b
  one-refusal lines (moment n) (refusal.Moment x) (refusal.Moment y) h k =
      ap refusal.Moment (one-moment _ n x y h k)
  one-refusal lines (moment n) (refusal.Moment x) refusal.NoMoment h k = absurd k
  one-refusal lines (moment n) (refusal.Moment x) (refusal.Vital s) h k = absurd k
  one-refusal lines (elements mark bits) refusal.NoMoment refusal.NoMoment h k = refl
  one-refusal lines (elements mark bits) refusal.NoMoment (refusal.Moment y) h k = absurd k
  one-refusal lines (elements mark bits) refusal.NoMoment (refusal.Vital s) h k = absurd k
  one-refusal lines (refuse_subject mark letter) (refusal.Vital s) (refusal.Vital t) h k =
      ap refusal.Vital (same_letter s t (h.1 ∙ sym k.1))
  one-refusal lines (refuse_subject mark letter) (refusal.Vital s) refusal.NoMoment h k = absurd k
  one-refusal lines (refuse_subject mark letter) (refusal.Vital s) (refusal.Moment y) h k = absurd k
  one-refusal lines (refuse_station mark letter) refusal.NoMoment b h k = absurd h
  one-refusal lines (refuse_station mark letter) (refusal.Moment x) b h k = absurd h
  one-refusal lines (refuse_station mark letter) (refusal.Vital s) b h k = absurd h
  one-refusal lines (accept_station mark letter) refusal.NoMoment b h k = absurd h
  one-refusal lines (accept_station mark letter) (refusal.Moment x) b h k = absurd h
  one-refusal lines (accept_station mark letter) (refusal.Vital s) b h k = absurd h
  one-refusal lines (accept_subject mark letter) refusal.NoMoment b h k = absurd h
  one-refusal lines (accept_subject mark letter) (refusal.Moment x) b h k = absurd h
  one-refusal lines (accept_subject mark letter) (refusal.Vital s) b h k = absurd h
  one-refusal lines (moment n) refusal.NoMoment b h k = absurd h
  one-refusal lines (moment n) (refusal.Vital s) b h k = absurd h
  one-refusal lines (elements mark bits) (refusal.Moment x) b h k = absurd h
  one-refusal lines (elements mark bits) (refusal.Vital s) b h k = absurd h
  one-refusal lines (refuse_subject mark letter) refusal.NoMoment b h k = absurd h
  one-refusal lines (refuse_subject mark letter) (refusal.Moment x) b h k = absurd h

  -- ---- a refused line among others

  -- lines that are taken don't go on past a line that is refused after those before it
  overlap : (before : List Line) (line : Line) (why : LineRefusal) (lines : List Line)
      (rest t : List ℕ) → AllByRecursion IsLine before → IsLine line
      → RefusesLine starts before line why
      → AllByRecursion IsLine lines → NoFeed rest → AreTaken starts lines
      → file_of lines ++ rest ≡ file_of (before ++ line ∷ []) ++ t → ⊥
  overlap before line why lines rest t g h refused k none taken e =
      let front = front-lines (before ++ line ∷ []) lines t rest (good-more before line g h) k none
      (sym e) in
      taken-not_refused before line why
      (taken-at starts [] before line front.0
      (taken-each starts (before ++ line ∷ front.0)
      (subst (AreTaken starts) (front.1 ∙ append_assoc before (line ∷ []) front.0) taken)))
      refused

  -- so what stands at the end of taken lines stands before the end of the refused line
  beyond : (before : List Line) (line : Line) (why : LineRefusal) (after : List ℕ)
      (lines : List Line) (rest more : List ℕ) → AllByRecursion IsLine before → IsLine line
      → RefusesLine starts before line why
      → AllByRecursion IsLine lines → NoFeed rest → AreTaken starts lines
      → file_of (before ++ line ∷ []) ++ after ≡ (file_of lines ++ rest) ++ more
      → Beyond (file_of lines ++ rest) (file_of (before ++ line ∷ [])) more after
  beyond before line why after lines rest more g h refused k none taken e =
      elim (split (file_of (before ++ line ∷ [])) after (file_of lines ++ rest) more e) [
        | inl s ↦ absurd (overlap before line why lines rest s.0 g h refused k none taken s.1)
        | inr s ↦ between-of (file_of lines ++ rest) (file_of (before ++ line ∷ [])) more after s.0
            s.1 s.2
            (λ same. overlap before line why lines rest [] g h refused k none taken
            (sym (append-nil (file_of lines ++ rest))
            ∙ ap (λ t. (file_of lines ++ rest) ++ t) (sym same) ∙ sym s.1
            ∙ sym (append-nil (file_of (before ++ line ∷ [])))))
      ]

  -- ---- one outcome

  -- where a run stops, and why, of the bytes alone
  StopsWith : List ℕ → FirstStop → Type 0
  StopsWith bytes (by_file why) =
      StopsAt bytes (λ lines rest more. IsCause air_limit (length (file_of lines ++ rest)) lines
      rest more why × AreTaken starts lines)
  StopsWith bytes (by_line number why) =
      StopsAt bytes (λ lines rest more. IsLineRefused
      (λ before line. RefusesLine starts before line why) air_limit lines rest more number
      × AreTaken starts lines)

  -- a line that isn't taken, as a fault says, is refused
  says : (number : ℕ) (lines : List Line) (line : Line) (why : LineRefusal)
      → RefusesAfter starts (refusal_fault number why) lines line
      → (number ≡ length lines + 1) × RefusesLine starts lines line why
  says number lines (moment n) refusal.NoMoment h = absurd h
  says number lines (elements mark bits) refusal.NoMoment h = h
  says number lines (refuse_subject mark letter) refusal.NoMoment h = absurd h
  says number lines (refuse_station mark letter) refusal.NoMoment h = absurd h
  says number lines (accept_station mark letter) refusal.NoMoment h = absurd h
  says number lines (accept_subject mark letter) refusal.NoMoment h = absurd h
  says number lines (moment n) (refusal.Moment why) h = h
  says number lines (elements mark bits) (refusal.Moment why) h = absurd h
  says number lines (refuse_subject mark letter) (refusal.Moment why) h = absurd h
  says number lines (refuse_station mark letter) (refusal.Moment why) h = absurd h
  says number lines (accept_station mark letter) (refusal.Moment why) h = absurd h
  says number lines (accept_subject mark letter) (refusal.Moment why) h = absurd h
  says number lines (moment n) (refusal.Vital subject) h = absurd h
  says number lines (elements mark bits) (refusal.Vital subject) h = absurd h
  says number lines (refuse_subject mark letter) (refusal.Vital subject) h = (h.0, (h.1, h.2))
  says number lines (refuse_station mark letter) (refusal.Vital subject) h = absurd h
  says number lines (accept_station mark letter) (refusal.Vital subject) h = absurd h
  says number lines (accept_subject mark letter) (refusal.Vital subject) h = absurd h

  refused-stops : (bytes : List ℕ) (number : ℕ) (why : LineRefusal)
      → StopsAt bytes (λ lines rest more. IsLineRefused
      (RefusesAfter starts (refusal_fault number why)) air_limit lines rest more
      (length lines + 1) × AreTaken starts lines)
      → StopsWith bytes (by_line number why)
  unfolding StopsWith
  refused-stops bytes number why h =
      let r = h.here.0 in
      let s = says number h.lines r.line why r.refused in
      record {
        lines = h.lines;
        rest = h.rest;
        more = h.more;
        whole = h.whole;
        each = h.each;
        part = h.part;
        here = (
          record {
            line = r.line;
            after = r.after;
            good = r.good;
            spelled = r.spelled;
            ended =
                r.ended;
            within = r.within;
            counted = s.0;
            refused = s.1;
          },
          h.here.1,
        );
      }

  record HasStopped (bytes : List ℕ) (why : ListenFault) : Type 0 where
    fault : FirstStop
    is : why ≡ stop_fault fault
    stops : StopsWith bytes fault

  has-stopped : (bytes : List ℕ) (why : ListenFault)
      → HasListenFault starts (AreTaken starts) bytes why → HasStopped bytes why
  unfolding StopsWith stop_fault
  has-stopped bytes Read h = absurd h.here.0.refused
  has-stopped bytes (Write written) h = absurd h.here.0.refused
  has-stopped bytes (Memory error) h = absurd h.here.0.refused
  has-stopped bytes AirTooLong h = record { fault = by_file file.TooLong; is = refl; stops = h }
  has-stopped bytes (LineLong line) h =
      record { fault = by_file (file.LineLong line); is = refl; stops = h }
  has-stopped bytes (LineCut line) h =
      record { fault = by_file (file.LineCut line); is = refl; stops = h }
  has-stopped bytes (BadLine line) h =
      record { fault = by_file (file.BadLine line); is = refl; stops = h }
  has-stopped bytes (NoMoment line) h =
      record {
        fault = by_line line refusal.NoMoment;
        is = refl;
        stops =
            refused-stops bytes line refusal.NoMoment h;
      }
  has-stopped bytes (Moment line why) h =
      record {
        fault = by_line line (refusal.Moment why);
        is = refl;
        stops =
            refused-stops bytes line (refusal.Moment why) h;
      }
  has-stopped bytes (Vital line subject) h =
      record {
        fault = by_line line (refusal.Vital subject);
        is = refl;
        stops =
            refused-stops bytes line (refusal.Vital subject) h;
      }

  as-fault : (bytes : List ℕ) (why : LineFault) → StopsWith bytes (by_file why)
      → HasFault air_limit bytes why
  unfolding StopsWith
  as-fault bytes why h = StopsAt-map bytes _ _ (λ lines rest more here. here.0) h

  -- a stop at a line that is refused
  record AtLine (bytes : List ℕ) (number : ℕ) (why : LineRefusal) : Type 0 where
    lines : List Line
    line : Line
    after : List ℕ
    each : AllByRecursion IsLine lines
    good : IsLine line
    taken : AreTaken starts lines
    whole : bytes ≡ (file_of lines ++ spelling line) ++ (10 ∷ after)
    within : length (file_of lines ++ spelling line) < air_limit
    counted : number ≡ length lines + 1
    refused : RefusesLine starts lines line why

  at-line : (bytes : List ℕ) (number : ℕ) (why : LineRefusal)
      → StopsWith bytes (by_line number why) → AtLine bytes number why
  unfolding StopsWith
  at-line bytes number why h =
      let r = h.here.0 in
      record {
        lines = h.lines;
        line = r.line;
        after = r.after;
        each = h.each;
        good = r.good;
        taken = h.here.1;
        whole = h.whole ∙ ap (λ b. (file_of h.lines ++ b) ++ h.more) r.spelled
            ∙ ap (λ b. (file_of h.lines ++ spelling r.line) ++ b) r.ended;
        within = subst (λ b. length (file_of h.lines ++ b) < air_limit) r.spelled r.within;
        counted = r.counted;
        refused = r.refused;
      }

  -- a refused line and a fault of the file exclude each other
  mixed : (bytes : List ℕ) (number : ℕ) (why : LineRefusal) (fault : LineFault)
      → StopsWith bytes (by_line number why) → StopsWith bytes (by_file fault) → ⊥
  unfolding StopsWith
  mixed bytes number why fault h k =
      let a = at-line bytes number why h in
      let all = a.lines ++ a.line ∷ [] in
      let b = beyond a.lines a.line why a.after k.lines k.rest k.more a.each a.good a.refused k.each
      k.part.none k.here.1 (sym (a.whole ∙ ended a.lines a.line a.after) ∙ k.whole) in
      let cause = cause-same _ k.lines k.rest b.next (b.between ++ a.after) b.between fault
      (subst (λ m. IsCause air_limit (length (file_of k.lines ++ k.rest)) k.lines k.rest m
      fault) b.rest_is k.here.0) in
      IsAirFile-good air_limit (file_of all) all fault
      (record {
        whole = refl;
        each = good-more a.lines a.line a.each a.good;
        within =
            omega (arith, a.within, line-longer a.lines a.line);
      })
      (record {
        lines = k.lines;
        rest = k.rest;
        more = b.next ∷ b.between;
        whole = b.reaches;
        each =
            k.each;
        part = k.part;
        here = cause;
      })

  -- it stands before the end of the other
  not-after : (bytes : List ℕ) (n m : ℕ) (v w : LineRefusal) (a : AtLine bytes n v)
      (b : AtLine bytes m w) → length (file_of b.lines ++ spelling b.line) ≤ length
      (file_of a.lines ++ spelling a.line)
  not-after bytes n m v w a b =
      let c = beyond a.lines a.line v a.after b.lines (spelling b.line) (10 ∷ b.after) a.each a.good
      a.refused b.each (spelling-IsBeginning b.line b.good).none b.taken
      (sym (a.whole ∙ ended a.lines a.line a.after) ∙ b.whole) in
      omega (
        arith,
        ap length c.reaches,
        length-append (file_of b.lines ++ spelling b.line)
            (c.next ∷ c.between),
        line-longer a.lines a.line,
      )

  one-line : (bytes : List ℕ) (n m : ℕ) (v w : LineRefusal) → AtLine bytes n v → AtLine bytes m w
      → (n ≡ m) × (v ≡ w)
  one-line bytes n m v w a b =
      let long : length (file_of a.lines ++ spelling a.line)
      ≡ length (file_of b.lines ++ spelling b.line) =
      omega (arith, not-after bytes n m v w a b, not-after bytes m n w v b a) in
      let front = same-front (file_of a.lines ++ spelling a.line) (10 ∷ a.after)
      (file_of b.lines ++ spelling b.line) (10 ∷ b.after) (sym a.whole ∙ b.whole) long in
      let read = reading-unique a.lines b.lines (spelling a.line) (spelling b.line) a.each b.each
      (spelling-IsBeginning a.line a.good) (spelling-IsBeginning b.line b.good) front in
      let line = spelling-injective a.line b.line a.good b.good read.1 in (
        a.counted ∙ ap (λ l. length l + 1) read.0 ∙ sym b.counted,
        one-refusal b.lines b.line v w
            (subst (λ x. RefusesLine starts b.lines x v) line
            (subst (λ l. RefusesLine starts l a.line v) read.0 a.refused)) b.refused,
      )

  one-stop : (bytes : List ℕ) (f g : FirstStop) → StopsWith bytes f → StopsWith bytes g
      → f ≡ g
  unfolding StopsWith
  one-stop bytes (by_file v) (by_file w) h k =
      ap by_file (HasFault-unique air_limit bytes v w (as-fault bytes v h) (as-fault bytes w k))
  one-stop bytes (by_file v) (by_line m w) h k = absurd (mixed bytes m w v k h)
  one-stop bytes (by_line n v) (by_file w) h k = absurd (mixed bytes n v w h k)
  one-stop bytes (by_line n v) (by_line m w) h k = let e =
      one-line bytes n m v w (at-line bytes n v h) (at-line bytes m w k) in cc (e.0, e.1)

  pub one-first_fault : (bytes : List ℕ) (a b : ListenFault)
      → HasListenFault starts (AreTaken starts) bytes a
      → HasListenFault starts (AreTaken starts) bytes b → a ≡ b
  one-first_fault bytes a b h k =
      let s = has-stopped bytes a h in
      let t = has-stopped bytes b k in
      s.is ∙ ap stop_fault (one-stop bytes s.fault t.fault s.stops t.stops) ∙ sym t.is

  -- a file that has a log has no fault
  no-stop : (bytes : List ℕ) (lines : List Line) (f : FirstStop)
      → IsAirFile air_limit bytes lines → AreTaken starts lines → StopsWith bytes f → ⊥
  unfolding StopsWith
  no-stop bytes lines (by_file v) good taken h =
      IsAirFile-good air_limit bytes lines v good (as-fault bytes v h)
  no-stop bytes lines (by_line n v) good taken h =
      let a = at-line bytes n v h in
      overlap a.lines a.line v lines [] a.after a.each a.good a.refused good.each tt taken
      (append-nil (file_of lines) ∙ sym good.whole ∙ a.whole ∙ ended a.lines a.line a.after)

  pub no-first_fault : (bytes log : List ℕ) (why : ListenFault) → IsLogOf starts bytes log
      → HasListenFault starts (AreTaken starts) bytes why → ⊥
  no-first_fault bytes log why l h =
      let s = has-stopped bytes why h in
      no-stop bytes l.0 s.fault l.2.file l.2.taken s.stops

  stop-taken : (bytes : List ℕ) (P : List Line → List ℕ → List ℕ → Type 0)
      (holds : List Line → Type 0) → ((lines : List Line) → holds lines → AreTaken starts lines)
      → StopsAt bytes (λ lines rest more. P lines rest more × holds lines)
      → StopsAt bytes (λ lines rest more. P lines rest more × AreTaken starts lines)
  stop-taken bytes P holds f h =
      StopsAt-map bytes _ _ (λ lines rest more here. (here.0, f lines here.1)) h

  -- whatever was written, the lines before a fault were taken
  pub first_fault-taken : (contents : Contents) (bytes : List ℕ) (why : ListenFault)
      → HasListenFault starts (HasLogged starts contents) bytes why
      → HasListenFault starts (AreTaken starts) bytes why
  first_fault-taken contents bytes Read h = absurd h.here.0.refused
  first_fault-taken contents bytes (Write written) h = absurd h.here.0.refused
  first_fault-taken contents bytes (Memory error) h = absurd h.here.0.refused
  first_fault-taken contents bytes AirTooLong h = stop-taken bytes _ _ (λ lines l. l.1.taken) h
  first_fault-taken contents bytes (LineLong line) h = stop-taken bytes _ _ (λ lines l. l.1.taken) h
  first_fault-taken contents bytes (LineCut line) h = stop-taken bytes _ _ (λ lines l. l.1.taken) h
  first_fault-taken contents bytes (BadLine line) h = stop-taken bytes _ _ (λ lines l. l.1.taken) h
  first_fault-taken contents bytes (NoMoment line) h = stop-taken bytes _ _ (λ lines l. l.1.taken) h
  first_fault-taken contents bytes (Moment line why) h =
      stop-taken bytes _ _ (λ lines l. l.1.taken) h
  first_fault-taken contents bytes (Vital line subject) h =
      stop-taken bytes _ _ (λ lines l. l.1.taken) h
