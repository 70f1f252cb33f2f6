-- Bytes that an open copy takes in one after the other, where none of them ends it, and bytes that
-- complete no header where no copy is open.
use Rattle.std.proofs.Common.{◌≡◌, ℕ, ◌+◌, ◌<◌, ◌≤◌, zero, suc, ◌==◌, ◌&&◌, ◌||◌, nat_le, Bool, true, false, None}
use Rattle.std.proofs.Common.{List, [], ◌∷◌, ◌++◌, length, take, reverse, refl, sym, ap, ◌∙◌, subst}
use Rattle.std.proofs.Common.{arith, below_more, length-append, append_assoc}
use Rattle.std.specs.Prelude.{slice_index}
use Rattle.std.proofs.lemmas.Bool.{leb-false, or_parts}
use Rattle.std.proofs.lemmas.List.{append-nil, get_or-take, length-take, length-take-le, take-take, take_more}
use Rattle.nx_code.specs.Reading.{newline}
use Rattle.nx_envelope.specs.private.Backward.{header_back, marker_back}
use Rattle.nx_envelope.specs.Copies.{open_headers}
use Rattle.nx_envelope.specs.Finder.{BringNothing, HoldsOpen, Keeps}
use Rattle.nx_envelope.specs.private.HeaderStage.{IsStageOf}
use Rattle.nx_envelope.specs.private.FourBytes.{IsEight, IsUnmarked}
use Rattle.nx_envelope.specs.declared.identity.Identity.{Identity}
use Rattle.nx_envelope.specs.declared.header_stage.HeaderStage.{HeaderStage}
use Rattle.nx_envelope.specs.declared.header_stage.HeaderStage.TheVariants.{Nowhere}
use Rattle.nx_envelope.proofs.lemmas.copies.Beginnings.{reverse-push}
use Rattle.nx_envelope.proofs.lemmas.finder.EightBytes.{all_four}
use Rattle.nx_envelope.proofs.lemmas.finder.Hearing.{goes_on, held}
use Rattle.nx_envelope.proofs.lemmas.copies.OneMoreByte.{still_none}
use Rattle.nx_envelope.proofs.lemmas.headers.Stages.{quiet_more}

-- no marker ends with one of these bytes behind that text
abbrev pub NoMarkers : List ℕ → List ℕ → Type 0
NoMarkers back [] = Unit {0}
NoMarkers back (b ∷ bytes) = (marker_back (b ∷ back) ≡ None) × NoMarkers (b ∷ back) bytes

-- no text of a copy begins with these bytes, directly behind its header: there are none, or a
-- newline comes first, which is no part of it
abbrev pub begins_no_text : List ℕ → Bool
begins_no_text [] = true
begins_no_text (b ∷ bytes) = b == newline

-- they go to the open copy
pub record PlainHeard (kept text bytes : List ℕ) (identity : Identity) : Type 0 where
  pub holds : HoldsOpen false (kept ++ bytes) (text ++ bytes) identity
  pub brings : BringNothing text bytes

pub first_more : (text bytes : List ℕ) (b : ℕ) → Keeps text b → BringNothing (text ++ b ∷ []) bytes
    → BringNothing text (b ∷ bytes)
first_more text bytes b now later zero lt = rw (append-nil text) now
first_more text bytes b now later (suc k) lt =
    subst (λ (t : List ℕ). Keeps t (slice_index bytes k))
    (append_assoc text (b ∷ []) (take k bytes)) (later k (omega arith))

-- the first byte begins the text of a copy
pub text_begins : (count : ℕ) (bytes : List ℕ) → length bytes ≡ 4
    → ((count == 0) || (slice_index bytes 0 == newline)) ≡ false
    → begins_no_text (take count bytes) ≡ false
text_begins zero bytes all e = absurd (cc)
text_begins (suc count) [] all e = absurd (cc)
text_begins (suc count) (b ∷ bytes) all e = (or_parts (suc count == 0) (b == newline) e).1

pub plain_heard : (fresh : Bool) (kept text bytes : List ℕ) (identity : Identity)
    → HoldsOpen fresh kept text identity → (fresh && begins_no_text bytes) ≡ false
    → NoMarkers (reverse text) bytes → length kept + length bytes < 4100
    → PlainHeard kept text bytes identity
plain_heard true kept text [] identity h begins none short = absurd (cc)
plain_heard false kept text [] identity h begins none short = record {
  holds = rw (append-nil kept, append-nil text) h;
  brings = λ k lt. absurd (omega arith);
}
plain_heard fresh kept text (b ∷ bytes) identity h begins none short =
    let g = goes_on fresh kept text b identity h begins none.0 (omega arith) in
    let back = reverse-push text b in
    let p = plain_heard false (kept ++ b ∷ []) (text ++ b ∷ []) bytes identity g.holds refl
    (rw back none.1) (omega (arith, length-append kept (b ∷ []))) in
    record {
      holds = rw (← append_assoc kept (b ∷ []) bytes, ← append_assoc text (b ∷ []) bytes) p.holds;
      brings = first_more text bytes b g.keeps p.brings;
    }

no_markers : (a b c d : ℕ) (back : List ℕ) → marker_back (a ∷ back) ≡ None
    → marker_back (b ∷ a ∷ back) ≡ None → marker_back (c ∷ b ∷ a ∷ back) ≡ None
    → marker_back (d ∷ c ∷ b ∷ a ∷ back) ≡ None → (count : ℕ) → count ≤ 4
    → NoMarkers back (take count (a ∷ b ∷ c ∷ d ∷ []))
no_markers a b c d back m1 m2 m3 m4 zero few = tt
no_markers a b c d back m1 m2 m3 m4 (suc zero) few = (m1, tt)
no_markers a b c d back m1 m2 m3 m4 (suc (suc zero)) few = (m1, (m2, tt))
no_markers a b c d back m1 m2 m3 m4 (suc (suc (suc zero))) few = (m1, (m2, (m3, tt)))
no_markers a b c d back m1 m2 m3 m4 (suc (suc (suc (suc zero)))) few = (m1, (m2, (m3, (m4, tt))))
no_markers a b c d back m1 m2 m3 m4 (suc (suc (suc (suc (suc count))))) few = absurd (omega arith)

-- so many of these bytes went by where no copy is open, and the header at the end has this stage
pub record WentBy (reached : HeaderStage) (text bytes : List ℕ) (count : ℕ) : Type 0 where
  pub none : open_headers (text ++ take count bytes) ≡ []
  pub stage : IsStageOf reached (reverse (text ++ take count bytes))
  pub brings : (k : ℕ) → k < count → Keeps (text ++ take k bytes) (slice_index bytes k)

-- the next byte completes no header
pub one_by : (stage next : HeaderStage) (text bytes : List ℕ) (k b : ℕ) → k < length bytes
    → b ≡ slice_index bytes k → WentBy stage text bytes k
    → header_back (b ∷ reverse (text ++ take k bytes)) ≡ None
    → IsStageOf next (b ∷ reverse (text ++ take k bytes)) → WentBy next text bytes (k + 1)
one_by stage next text bytes k b lt is w none stands =
    let before = text ++ take k bytes in
    let keeps = still_none before b w.none none in
    let longer : before ++ b ∷ [] ≡ text ++ take (k + 1) bytes =
    append_assoc text (take k bytes) (b ∷ [])
    ∙ ap (λ bs. text ++ bs)
    (ap (λ x. take k bytes ++ x ∷ []) is ∙ sym (take_more bytes k 0 lt)) in
    record {
      none = subst (λ t. open_headers t ≡ []) longer (keeps.still_open ∙ w.none);
      stage = subst (λ t. IsStageOf next (reverse t)) longer (rw (reverse-push before b) stands);
      brings = below_more (λ i. Keeps (text ++ take i bytes) (slice_index bytes i)) k w.brings
          (subst (λ x. Keeps before x) is keeps);
    }

pub all_by : (stage : HeaderStage) (text bytes : List ℕ) (count : ℕ) → count ≤ length bytes
    → WentBy stage text bytes count → BringNothing text (take count bytes)
all_by stage text bytes count fits w = λ k lt.
    let below : k < count = omega (arith, length-take-le count bytes fits) in
    subst (λ bs. Keeps (text ++ bs) (slice_index (take count bytes) k))
    (sym (take-take k count bytes (omega (arith, below))))
    (subst (λ x. Keeps (text ++ take k bytes) x) (sym (get_or-take count bytes k 0 below))
    (w.brings k below))

-- nothing stands in the way of four bytes
pub record Clear (has_end : Bool) (count : ℕ) : Type 0 where
  pub ends : has_end ≡ false
  pub room : count < 4096

pub clear : (ends : Bool) (count : ℕ) → (ends || nat_le 4096 count) ≡ false → Clear ends count
clear ends count e =
    let both = or_parts ends (nat_le 4096 count) e in
    record { ends = both.0; room = leb-false 4096 count both.1 }

-- none of the fours of eight is a marker
pub record AllUnmarked (eight : ℕ) : Type 0 where
  pub one : IsUnmarked eight 1
  pub two : IsUnmarked eight 2
  pub three : IsUnmarked eight 3
  pub four : IsUnmarked eight 4

pub unmarked : (result : Bool) (eight : ℕ) → result ≡ false → (result ≡ false → IsUnmarked eight 1)
    → (result ≡ false → IsUnmarked eight 2) → (result ≡ false → IsUnmarked eight 3)
    → (result ≡ false → IsUnmarked eight 4) → AllUnmarked eight
unmarked result eight none m1 m2 m3 m4 =
    record { one = m1 none; two = m2 none; three = m3 none; four = m4 none }

-- some of four bytes, that come next
four_unmarked : (eight count : ℕ) (back bytes : List ℕ) → IsEight eight back bytes
    → AllUnmarked eight → count ≤ 4 → NoMarkers back (take count bytes)
four_unmarked eight count back bytes w m few =
    let four = all_four eight back bytes w in
    let none = no_markers w.new.first w.new.second w.new.third w.new.last back
    (m.one (w.new.first ∷ back) four.one w.one)
    (m.two (w.new.second ∷ w.new.first ∷ back) four.two w.two)
    (m.three (w.new.third ∷ w.new.second ∷ w.new.first ∷ back) four.three w.three)
    (m.four (w.new.last ∷ w.new.third ∷ w.new.second ∷ w.new.first ∷ back) four.four w.four) count
    few in
    rw w.new.spelled none

pub plain_four : (eight count : ℕ) (fresh : Bool) (kept text bytes : List ℕ) (identity : Identity)
    → HoldsOpen fresh kept text identity → (fresh && begins_no_text (take count bytes)) ≡ false
    → IsEight eight (reverse text) bytes → AllUnmarked eight → count ≤ 4 → length kept < 4096
    → PlainHeard kept text (take count bytes) identity
plain_four eight count fresh kept text bytes identity h begins w m few short =
    plain_heard fresh kept text (take count bytes) identity h begins
    (four_unmarked eight count (reverse text) bytes w m few)
    (omega (arith, length-take count bytes))

-- where a copy stands open, before and after, no header has come anywhere
pub stage_stays : (stage : HeaderStage) (back more : List ℕ) → IsStageOf stage back
    → IsStageOf Nowhere back → IsStageOf Nowhere more → IsStageOf stage more
stage_stays stage back more is before after = record {
  spaces = after.spaces ∙ sym before.spaces ∙ is.spaces;
  station = after.station ∙ sym before.station ∙ is.station;
  subject = after.subject ∙ sym before.subject ∙ is.subject;
  tens = after.tens ∙ sym before.tens ∙ is.tens;
}

-- nor does one begin with the next byte
pub stage_open : (stage : HeaderStage) (fresh : Bool) (kept text : List ℕ) (identity : Identity)
    (b : ℕ)
    → HoldsOpen fresh kept text identity → IsStageOf stage (reverse text)
    → IsStageOf stage (reverse (text ++ b ∷ []))
stage_open stage fresh kept text identity b h is =
    let one = (held fresh kept text identity h).one in
    let back = reverse-push text b in
    let next = quiet_more b (reverse text) (record { is = one.stage; flag = sym one.no_start }) in
    rw back (stage_stays stage (reverse text) (b ∷ reverse text) is one.stage next)
