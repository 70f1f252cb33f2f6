-- The line feeds of a piece.
use Rattle.std.proofs.Common.{◌≡◌, ◌≢◌, ◌↔◌, ℕ, zero, suc, ◌<◌, ◌≤◌, ◌==◌, Bool, true, false, cond}
use Rattle.std.proofs.Common.{eqb, length, map, take, get_or, Some, List, [], ◌∷◌, refl, sym, ap}
use Rattle.std.proofs.Common.{◌∙◌, arith}
use Rattle.std.specs.Int.{bit_at}
use Rattle.std.specs.Simd.Lanes.{mask_l}
use Rattle.std.proofs.lemmas.Bool.{cases_lt, eqb-true}
use Rattle.std.proofs.lemmas.List.{get_or-take, get_or_past, length-take-le}
use Rattle.std.proofs.lemmas.Simd.{bit_mask_l}
use Rattle.std.proofs.Math.ListN.{get_or-map}
use Rattle.std.proofs.Math.Logic.{⊎_elim}
use Rattle.memchr.specs.Find.{IsFirstByte, Nowhere, Passes, is_byte}
use Rattle.nx_fec.proofs.lemmas.lines.LineLaws.{NoFeed}

-- the bytes before an index, of which none is a line feed
NoFeed-take : (bytes : List ℕ) (n : ℕ)
    → ((k : ℕ) → k < n → k < length bytes → get_or bytes k 0 ≢ 10) → NoFeed (take n bytes)
NoFeed-take [] zero h = tt
NoFeed-take [] (suc n) h = tt
NoFeed-take (b ∷ bytes) zero h = tt
NoFeed-take (b ∷ bytes) (suc n) h = (
  h 0 (omega arith) (omega arith),
  NoFeed-take bytes n
      (λ k below within. h (suc k) (omega arith) (omega arith)),
)

-- what a search for the first line feed says
pub NoFeed-all : (piece : List ℕ) → Nowhere (Passes (is_byte 10) piece) 0 (length piece)
    → NoFeed (take (length piece) piece)
NoFeed-all piece nowhere =
    NoFeed-take piece (length piece)
    (λ k below within feed. nowhere k (omega arith) below (ap (λ b. b == 10) feed))

pub NoFeed-before : (piece : List ℕ) (at : ℕ) → Nowhere (Passes (is_byte 10) piece) 0 at
    → NoFeed (take at piece)
NoFeed-before piece at nowhere =
    NoFeed-take piece at (λ k below within feed. nowhere k (omega arith) below
    (ap (λ b. b == 10) feed))

pub feed-found : (piece : List ℕ) (at : ℕ) → Passes (is_byte 10) piece at → get_or piece at 0 ≡ 10
feed-found piece at found = eqb-true (get_or piece at 0) 10 found

-- a bit of the mask of the bytes that are line feeds
bit-tells : (byte : ℕ) (b : Bool) → eqb byte 10 ≡ b → (cond {A = ℕ} b 1 0 ≡ 1) ↔ (byte ≡ 10)
bit-tells byte true e = (λ h. eqb-true byte 10 e, λ h. refl)
bit-tells byte false e = (
  λ h. absurd (omega arith),
  λ h. absurd
      (let both : false ≡ true = sym e ∙ ap (λ x. eqb x 10) h in cc),
)

pub feed-bit : (piece : List ℕ) (k : ℕ) → 32 ≤ length piece
    → (bit_at (mask_l (map (λ byte. eqb byte 10) (take 32 piece))) k ≡ 1)
    ↔ ((k < 32) × (get_or piece k 0 ≡ 10))
feed-bit piece k long =
    let front = take 32 piece in
    let bit : bit_at (mask_l (map (λ byte. eqb byte 10) front)) k
    ≡ cond (eqb (get_or front k 0) 10) 1 0 =
    bit_mask_l (map (λ byte. eqb byte 10) front) k
    ∙ ap (λ b. cond b 1 0) (get_or-map (λ byte. eqb byte 10) front k 0) in
    let tells = bit-tells (get_or front k 0) _ refl in
    ⊎_elim (λ below. let same : get_or front k 0 ≡ get_or piece k 0 =
    get_or-take 32 piece k 0 below in (
      λ h. (below, sym same ∙ tells.0 (sym bit ∙ h)),
      λ h. bit ∙ tells.1 (same ∙ h.1),
    ))
    (λ past. (
      λ h. absurd (omega (
        arith,
        tells.0 (sym bit ∙ h),
        get_or_past front k 0
            (omega (arith, past, length-take-le 32 piece long)),
      )),
      λ h. absurd (omega (arith, past, h.0)),
    ))
    (cases_lt k 32)

-- the lowest bit stands for the first line feed
pub first-feed : (piece : List ℕ) (near at : ℕ) → 32 ≤ length piece
    → ((k : ℕ) → (bit_at near k ≡ 1) ↔ ((k < 32) × (get_or piece k 0 ≡ 10)))
    → bit_at near at ≡ 1 → ((i : ℕ) → i < at → bit_at near i ≡ 0)
    → IsFirstByte (is_byte 10) piece (Some at)
first-feed piece near at long each here before =
    let found = (each at).0 here in (
      record {
        low = omega arith;
        high = omega (arith, found.0, long);
        before = λ k low below passes. absurd
            (omega (
              arith,
              before k below,
              (each k).1
                  (omega (arith, below, found.0), feed-found piece k passes),
            ));
      },
      ap (λ b. b == 10) found.1,
    )
