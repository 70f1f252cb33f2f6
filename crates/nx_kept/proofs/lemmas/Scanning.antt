-- How far a log has been read.
use Rattle.std.proofs.Common.{◌≡◌, ◌↔◌, Bool, IsTrue, ℕ, Option, zero, suc, ◌+◌, ◌<◌, ◌≤◌, List, [], ◌∷◌, ◌++◌, length, take, drop, refl, sym, ◌∙◌, ap, subst, arith, append_assoc, length-append, length-take, count_by, ◌==◌}
use Rattle.std.proofs.lemmas.List.{drop_at, drop-take, take_all, take_at, take-take}
use Rattle.nx_kept.specs.Kept.{closed_gate, first_byte, line_feed, line_behind, IsTail, IsBehindOpenGates, IsDamaged, IsDamagedBehind}
use Rattle.nx_kept.specs.Taker.{Took, TookOnly, TookSome}
use Rattle.nx_kept.specs.private.Scan.{Ends, IsAtRecord}
use Rattle.nx_kept.proofs.lemmas.Pieces.{count_by-append, take_past}
use Rattle.nx_kept.proofs.lemmas.KeptLaws.{one_behind, damaged_behind, tail_short}

-- one record more was taken
pub took_one : {T : Type 0} (takes : T → List ℕ → T → Type 0) (records : List (List ℕ))
    (last : List ℕ) (old mid new : T) → Took takes old records mid → takes mid last new
    → Took takes old (records ++ last ∷ []) new
took_one takes [] last old mid new took then_one =
    (new, subst (λ t. takes t last new) took then_one, refl)
took_one takes (first ∷ records) last old mid new took then_one =
    (took.0, took.1, took_one takes records last took.0 mid new took.2 then_one)

pub some_more : {T : Type 0} (takes : T → List ℕ → T → Type 0) (last : List ℕ) (old mid new : T)
    → TookSome takes old mid → takes mid last new → TookSome takes old new
some_more takes last old mid new some then_one =
    (some.0 ++ last ∷ [], took_one takes some.0 last old mid new some.1 then_one)

-- it heard of nothing
pub nothing_heard : {T : Type 0} (takes : T → List ℕ → T → Type 0)
    (hears : T → ℕ → List ℕ → T → Type 0) (old new : T) → TookSome takes old new
    → TookOnly takes hears old new
nothing_heard takes hears old new some = record {
  given = new;
  taken = some;
  line = 0;
  bytes = [];
  heard = record { nothing = λ e. refl; heard = λ some. absurd (some refl) };
}

first_taken : (n : ℕ) (file : List ℕ) → first_byte (take (suc n) file) ≡ first_byte file
first_taken n [] = refl
first_taken n (byte ∷ file) = refl

-- the first byte of a file, by what was read of it
pub first_known : (file bytes : List ℕ) (gate size : ℕ) (known now : Option ℕ)
    → (gate ≡ 0 → now ≡ first_byte bytes) → (0 < gate → now ≡ known)
    → bytes ≡ take (size + 3) (drop gate file) → (0 < gate → known ≡ first_byte file)
    → now ≡ first_byte file
first_known file bytes zero size known now begins later shown was =
    let next : size + 3 ≡ suc (size + 2) = omega arith in
    begins refl ∙ ap (λ (l : List ℕ). first_byte l) (shown ∙ ap (λ (n : ℕ). take n file) next)
    ∙ first_taken (size + 2) file
first_known file bytes (suc gate) size known now begins later shown was =
    later (omega arith) ∙ was (omega arith)

-- the gate and the record at the front
first_of : (gate n : ℕ) (first rest : List ℕ) → n ≡ length first
    → take (n + 1) (gate ∷ (first ++ rest)) ≡ gate ∷ first
first_of gate n first rest size =
    let next : n + 1 ≡ suc n = omega arith in
    ap (λ (k : ℕ). take k (gate ∷ (first ++ rest))) next
    ∙ ap (λ (l : List ℕ). gate ∷ l) (take_at first rest n (sym size))

behind_first : (n : ℕ) (buffer : List ℕ) → drop 1 (take (n + 1) buffer) ≡ take n (drop 1 buffer)
behind_first n buffer =
    let turned : n + 1 ≡ 1 + n = omega arith in
    ap (λ (k : ℕ). drop 1 (take k buffer)) turned ∙ drop-take 1 n buffer

module _ (is_record : List ℕ → Type 0) {T : Type 0} (takes : T → List ℕ → T → Type 0) where
  -- The file is read up to a gate: before it are records behind open gates, which were taken.
  pub record Reached (file : List ℕ) (gate line : ℕ) (old now : T) : Type 0 where
    pub records : List (List ℕ)
    pub front : List ℕ
    pub rest : List ℕ
    pub kept : IsBehindOpenGates is_record records front
    pub split : file ≡ front ++ rest
    pub place : gate ≡ length front
    pub at_line : line ≡ line_behind front
    pub taken : Took takes old records now

  -- what is left of the file
  pub left_is : (file : List ℕ) (gate line : ℕ) (old now : T)
      (reached : Reached file gate line old now) → drop gate file ≡ reached.rest
  left_is file gate line old now reached = ap (λ (l : List ℕ). drop gate l) reached.split
      ∙ drop_at reached.front reached.rest gate (sym reached.place)

  module _ (longest : ℕ) (file : List ℕ) (gate line : ℕ) (old : T) where
    -- a record behind an open gate is taken
    pub reached_more : (now next : T) (n : ℕ) (buffer : List ℕ) (lines : ℕ)
        → Reached file gate line old now → buffer ≡ take (longest + 3) (drop gate file)
        → IsAtRecord is_record longest n (drop gate file) → n + 1 ≤ length buffer
        → takes now (take n (drop 1 buffer)) next
        → lines ≡ count_by (λ byte. byte == line_feed) (take (n + 1) buffer)
        → Reached file (gate + (n + 1)) (line + lines) old next
    reached_more now next n buffer lines reached shown at within took counted =
        let rest_is = left_is file gate line old now reached in
        let all = at.gate ∷ (at.first ++ at.rest) in
        let buffer_is : buffer ≡ take (longest + 3) all = shown
        ∙ ap (λ (l : List ℕ). take (longest + 3) l) at.split in
        let inside : n + 1 ≤ longest + 3 =
        omega (arith, within, ap length buffer_is, length-take (longest + 3) all) in
        let shown_first : take (n + 1) buffer ≡ at.gate ∷ at.first =
        ap (λ (l : List ℕ). take (n + 1) l) buffer_is ∙ take-take (n + 1) (longest + 3) all inside
        ∙ first_of at.gate n at.first at.rest at.size in
        let given : take n (drop 1 buffer) ≡ at.first = sym (behind_first n buffer)
        ∙ ap (λ (l : List ℕ). drop 1 l) shown_first in
        record {
          records = reached.records ++ at.first ∷ [];
          front = reached.front ++ at.gate ∷ at.first;
          rest = at.rest;
          kept = one_behind is_record longest reached.records reached.front at.gate at.first
              reached.kept at.is_open at.is_one;
          split = reached.split ∙ ap (λ (l : List ℕ). reached.front ++ l) (sym rest_is ∙ at.split)
              ∙ sym (append_assoc reached.front (at.gate ∷ at.first) at.rest);
          place = omega
              (arith, reached.place, at.size, length-append reached.front (at.gate ∷ at.first));
          at_line =
              let count = counted
              ∙ ap (λ (l : List ℕ). count_by (λ byte. byte == line_feed) l) shown_first in
              omega (
                arith,
                reached.at_line,
                count,
                count_by-append (λ byte. byte == line_feed)
                    reached.front (at.gate ∷ at.first),
              );
          taken = took_one takes reached.records at.first old now next reached.taken
              (subst (λ (l : List ℕ). takes now l next) given took);
        }

    -- the bytes are damaged
    pub reached_damage : (now : T) (place : ℕ) (buffer : List ℕ) (lines : ℕ)
        (some : (bytes : List ℕ) → is_record bytes → 0 < length bytes)
        (one : (bytes more : List ℕ) → is_record bytes → is_record (bytes ++ more) → more ≡ [])
        → Reached file gate line old now → buffer ≡ take (longest + 3) (drop gate file)
        → place ≤ length buffer → IsDamagedBehind is_record longest place (drop gate file)
        → lines ≡ count_by (λ byte. byte == line_feed) (take place buffer)
        → IsDamaged is_record longest (line + lines) file
    reached_damage now place buffer lines some one reached shown within damage counted =
        let rest_is = left_is file gate line old now reached in
        let inside : place ≤ longest + 3 =
        omega (arith, within, ap length shown, length-take (longest + 3) (drop gate file)) in
        let shown_same : take place buffer ≡ take place reached.rest =
        ap (λ (l : List ℕ). take place l) shown
        ∙ take-take place (longest + 3) (drop gate file) inside
        ∙ ap (λ (l : List ℕ). take place l) rest_is in
        let whole = damaged_behind is_record longest some one reached.records reached.front
        reached.rest place reached.kept
        (subst (IsDamagedBehind is_record longest place) rest_is damage) in
        let begin : take (length reached.front + place) file ≡ reached.front
        ++ take place reached.rest =
        ap (λ (l : List ℕ). take (length reached.front + place) l) reached.split
        ∙ take_past reached.front reached.rest place in
        let count = counted
        ∙ ap (λ (l : List ℕ). count_by (λ byte. byte == line_feed) l) shown_same in
        let both = ap (λ (l : List ℕ). count_by (λ byte. byte == line_feed) l) begin
        ∙ count_by-append (λ byte. byte == line_feed) reached.front (take place reached.rest) in (
          length reached.front + place,
          subst (IsDamagedBehind is_record longest (length reached.front + place))
              (sym reached.split) whole,
          omega (arith, reached.at_line, count, both),
        )

    -- what is left is a tail
    pub reached_end : (now : T) (read : List ℕ) (count : ℕ) (is_closed : Bool)
        → Reached file gate line old now
        → take count read ≡ take (longest + 3) (drop gate file) → IsTail longest (drop gate file)
        → (IsTrue is_closed ↔ (take count read ≡ closed_gate ∷ []))
        → Ends is_record longest takes file read old now
        (record { gate = gate; line = line; count = count; is_closed = is_closed })
    reached_end now read count is_closed reached shown is closed =
        let rest_is = left_is file gate line old now reached in
        let short = tail_short is_record longest (drop gate file) is in
        let all : take count read ≡ reached.rest = shown
        ∙ take_all (longest + 3) (drop gate file) (omega (arith, short)) ∙ rest_is in
        record {
          all = record {
            records = reached.records;
            front = reached.front;
            tail = reached.rest;
            kept = reached.kept;
            end = subst (IsTail longest) rest_is is;
            split = reached.split;
            taken = reached.taken;
          };
          gate = reached.place;
          line = reached.at_line;
          shown = all;
          closed = ((λ is_true. sym all ∙ closed.0 is_true), (λ same. closed.1 (all ∙ same)));
        }
