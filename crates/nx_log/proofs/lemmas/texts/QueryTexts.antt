-- What a query asks, and which bytes a text has.
use Rattle.std.proofs.Common.{◌≡◌, ℕ, ◌<◌, Bool, true, false, refl, arith, Some, None}
use Rattle.std.specs.Prelude.{IsTrue, ◌==◌, ◌&&◌, ◌||◌, if◌then◌else◌}
use Rattle.std.proofs.lemmas.Bool.Decides.{Decides-eqb}
use Rattle.nx_code.proofs.lemmas.Character.{in_code-low}
use Rattle.nx_code.specs.Reading.{asterisk, is_in_code}
use Rattle.nx_log.specs.Logged.{is_text_byte}

-- the last two parts of a query, where the others are known
pub last-then : (v p n g : Bool) → v ≡ p → v ≡ true → n ≡ true → n ≡ (p && (n || g))
last-then v true true g a b e = refl
last-then v true false g a b e = cc
last-then v false n g a b e = cc

pub last-else : (v p n g r : Bool) → v ≡ p → v ≡ true → n ≡ false → r ≡ g → r ≡ (p && (n || g))
last-else v true true g r a b e f = cc
last-else v true false g r a b e f = f
last-else v false n g r a b e f = cc

pub none-before : (v p x : Bool) → v ≡ p → v ≡ false → v ≡ (p && x)
none-before v true x a b = cc
none-before v false x a b = a

-- the last part, where the part before it is known
pub last-known : (b x y : Bool) → b ≡ true → x ≡ y → x ≡ (b && y)
last-known true x y a e = e
last-known false x y a e = cc

pub kept-none : {T : Type 0} (b : Bool) (x : T) → b ≡ false → None ≡ (if b then Some x else None)
kept-none true x e = cc
kept-none false x e = refl

-- a text is ASCII
either_low : (byte : ℕ) (b : Bool) → is_in_code byte ≡ b → (b || (byte == asterisk)) ≡ true
    → byte < 128
either_low byte true e t = in_code-low byte e
either_low byte false e t =
    let same = (Decides-eqb byte asterisk).0 t in omega (arith, same)

pub text_low : (byte : ℕ) → IsTrue (is_text_byte byte) → byte < 128
unfolding is_text_byte
text_low byte t = either_low byte (is_in_code byte) refl t
