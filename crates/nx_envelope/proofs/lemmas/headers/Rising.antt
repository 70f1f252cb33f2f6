-- The headers of a text come in rising order, each once.
use Rattle.std.proofs.Common.{◌≡◌, ℕ, ◌+◌, ◌<◌, ◌≤◌, Option, Some, None, List, [], ◌∷◌, ◌++◌}
use Rattle.std.proofs.Common.{length, reverse, refl, arith, length-append}
use Rattle.std.proofs.lemmas.List.{reverse-append, reverse-reverse}
use Rattle.nx_envelope.specs.private.Backward.{header_back}
use Rattle.nx_envelope.specs.Copies.{headers}
use Rattle.nx_envelope.specs.Header.{ComesBefore, Header}
use Rattle.nx_envelope.specs.declared.identity.Identity.{Identity}
use Rattle.nx_envelope.proofs.lemmas.copies.OneMoreByte.{no_more_headers, one_more_header}
use Rattle.nx_envelope.proofs.lemmas.copies.OneOpenCopy.{headers-nil}

-- all of them stand behind the place, and all of them before it or at it
abbrev pub AllBehind : ℕ → List Header → Type 0
AllBehind place [] = Unit {0}
AllBehind place (h ∷ hs) = (place < h.behind) × AllBehind place hs

abbrev pub AllWithin : ℕ → List Header → Type 0
AllWithin place [] = Unit {0}
AllWithin place (h ∷ hs) = (h.behind ≤ place) × AllWithin place hs

-- each stands behind those before it
abbrev pub IsRising : List Header → Type 0
IsRising [] = Unit {0}
IsRising (h ∷ hs) = AllBehind h.behind hs × IsRising hs

behind-push : (place : ℕ) (hs : List Header) (h : Header) → AllBehind place hs → place < h.behind
    → AllBehind place (hs ++ h ∷ [])
behind-push place [] h all lt = (lt, tt)
behind-push place (x ∷ hs) h all lt = (all.0, behind-push place hs h all.1 lt)

within-push : (place more : ℕ) (hs : List Header) (h : Header) → AllWithin place hs → place ≤ more
    → h.behind ≤ more → AllWithin more (hs ++ h ∷ [])
within-push place more [] h all le last = (last, tt)
within-push place more (x ∷ hs) h all le last =
    (omega (arith, all.0), within-push place more hs h all.1 le last)

within-more : (place more : ℕ) (hs : List Header) → AllWithin place hs → place ≤ more
    → AllWithin more hs
within-more place more [] all le = tt
within-more place more (x ∷ hs) all le = (omega (arith, all.0), within-more place more hs all.1 le)

rising-push : (place : ℕ) (hs : List Header) (h : Header) → IsRising hs → AllWithin place hs
    → place < h.behind → IsRising (hs ++ h ∷ [])
rising-push place [] h rising all lt = (tt, tt)
rising-push place (x ∷ hs) h rising all lt = (
  behind-push x.behind hs h rising.0 (omega (arith, all.0)),
  rising-push place hs h rising.1
      all.1 lt,
)

-- those of a text
pub record Ordered (text : List ℕ) : Type 0 where
  pub rising : IsRising (headers text)
  pub within : AllWithin (length text) (headers text)

step : (text : List ℕ) (b : ℕ) (o : Option Identity) → header_back (b ∷ reverse text) ≡ o
    → Ordered text → Ordered (text ++ b ∷ [])
step text b None is before =
    let same = no_more_headers text b is in
    let long : length (text ++ b ∷ []) ≡ length text + 1 =
    omega (arith, length-append text (b ∷ [])) in
    record {
      rising = rw same before.rising;
      within =
          rw (same, long) (within-more (length text) (length text + 1) (headers text) before.within
          (omega arith));
    }
step text b (Some i) is before =
    let more = one_more_header text b i is in
    let h : Header = record { identity = i; behind = length text + 1 } in
    let long : length (text ++ b ∷ []) ≡ length text + 1 =
    omega (arith, length-append text (b ∷ [])) in
    record {
      rising = rw more (rising-push (length text) (headers text) h before.rising before.within
          (omega arith));
      within = rw (more, long) (within-push (length text) (length text + 1) (headers text) h
          before.within (omega arith) (omega arith));
    }

ordered_back : (back : List ℕ) → Ordered (reverse back)
ordered_back [] =
    let nil = headers-nil in
    record { rising = rw nil tt; within = rw nil tt }
ordered_back (b ∷ back) =
    let whole : reverse (b ∷ back) ≡ reverse back ++ b ∷ [] = reverse-append (b ∷ []) back in
    rw whole (step (reverse back) b _ refl (ordered_back back))

ordered : (text : List ℕ) → Ordered text
ordered text = rw (← reverse-reverse text) (ordered_back (reverse text))

-- one that comes later in such a list stands behind
behind_one : (place : ℕ) (between back : List Header) (later : Header)
    → AllBehind place (between ++ later ∷ back) → place < later.behind
behind_one place [] back later all = all.0
behind_one place (x ∷ between) back later all = behind_one place between back later all.1

behind_all : (front between back : List Header) (earlier later : Header)
    → IsRising (front ++ earlier ∷ between ++ later ∷ back) → earlier.behind < later.behind
behind_all [] between back earlier later rising =
    behind_one earlier.behind between back later rising.0
behind_all (x ∷ front) between back earlier later rising =
    behind_all front between back earlier later rising.1

pub headers_rise_in : (text : List ℕ) (earlier later : Header)
    → ComesBefore (headers text) earlier later → earlier.behind < later.behind
headers_rise_in text earlier later c =
    let rising : IsRising (c.front ++ earlier ∷ c.between ++ later ∷ c.back) =
    rw (← c.listed) (ordered text).rising in
    behind_all c.front c.between c.back earlier later rising
