-- Elements and words of a lock that bring no change: the lock still stands after them.
use Rattle.std.proofs.Common.{◌≡◌, ℕ, zero, suc, ◌+◌, ◌*◌, ◌<◌, ◌≤◌, Bool, false, List, [], ◌∷◌}
use Rattle.std.proofs.Common.{◌++◌, length, take, get_or, Some, None, refl, sym, ap, ◌∙◌, subst, arith}
use Rattle.std.proofs.Common.{append_assoc, append-nil, slice_index}
use Rattle.std.specs.List.{flat_map}
use Rattle.std.proofs.lemmas.List.{length-append, take_all, take_more}
use Rattle.nx_code.specs.Word.{elements}
use Rattle.nx_code.proofs.lemmas.Packed.{length-elements}
use Rattle.nx_sync.specs.Locks.{Lock, Now, hunting, locked, IsNow}
use Rattle.nx_sync.specs.Steps.{AreQuietWords, IsStep, IsWordStep, step}
use Rattle.nx_sync.specs.Words.{word_of_lock, first_role, heard_word, other_role, role_of}
use Rattle.nx_sync.specs.declared.step.Role.{Role}
use Rattle.nx_sync.specs.declared.step.Step.{Step}
use Rattle.nx_sync.proofs.lemmas.words.WordsAtOnce.{quiet_first, quiet_rest}
use Rattle.nx_sync.proofs.lemmas.states.KeptPast.{word_at-more, first_role-more}
use Rattle.nx_copies.proofs.lemmas.QuietElements.{no_word, quiet_bits}
use Rattle.nx_copies.proofs.lemmas.locks.Moves.{Moves, ends_word, goes_on, one_move, releases}

-- an element with no change, after which the lock still stands, and the word that it completes
record StillStands (bits : List Bool) (r : Step) (locks : List Lock) (p t : ℕ) : Type 0 where
  stands : IsNow bits locks (locked p t)
  completes : (w : ℕ) (role : Role) → r.word ≡ Some (w, role)
      → (k : ℕ) × (length bits ≡ t + 7 * (k + 1)) × (heard_word bits t k ≡ (w, role))

still_case : (before bits : List Bool) (locks : List Lock) (p t : ℕ) (r : Step) → r.change ≡ None
    → (newer : List Lock) (next : Now) → IsNow bits newer next
    → Moves before bits r locks (locked p t) newer next → StillStands bits r locks p t
still_case before bits locks p t r same newer (locked q u) on (ends_word k e f) = record {
  stands = on;
  completes = λ w role one.
      let both : Some (heard_word bits t k) ≡ Some (w, role) = sym (ap (λ x. x.word) f) ∙ one in
      (k, e, cc);
}
still_case before bits locks p t r same newer (locked q u) on (goes_on whole f) = record {
  stands = on;
  completes = λ w role one. absurd (no_word r (w, role) (ap (λ x. x.word) f) one);
}
still_case before bits locks p t r same newer (hunting q) on (releases lock y z f) =
    absurd (let change = ap (λ x. x.change) f in cc)

still_bit : (bits : List Bool) (b : Bool) (locks : List Lock) (p t : ℕ) (r : Step)
    → IsNow bits locks (locked p t) → IsStep (bits ++ b ∷ []) r → r.change ≡ None
    → StillStands (bits ++ b ∷ []) r locks p t
still_bit bits b locks p t r now is same =
    still_case bits (bits ++ b ∷ []) locks p t r same is.locks is.now is.stands
    (one_move bits b r locks (locked p t) now is)

still_bits : (h bits : List Bool) (locks : List Lock) (p t n : ℕ) → n ≤ length bits
    → ((k : ℕ) → k < n → IsStep (h ++ take (k + 1) bits) (step None None))
    → IsNow h locks (locked p t) → IsNow (h ++ take n bits) locks (locked p t)
still_bits h bits locks p t n within quiet now =
    let stands : List Bool → List (Unit {0}) → Type 0 = λ x marks. IsNow x locks (locked p t) in
    quiet_bits stands tt (λ x b marks is stood.
    (still_bit x b locks p t (step None None) stood is refl).stands) h bits [] n within quiet now

still_word : (h bits : List Bool) (locks : List Lock) (p t : ℕ) (r : Step) → length bits ≡ 7
    → IsWordStep h bits r → r.change ≡ None → IsNow h locks (locked p t)
    → StillStands (h ++ bits) r locks p t
still_word h bits locks p t r long is same now =
    let x = get_or bits 6 false in
    let whole : h ++ bits ≡ (h ++ take 6 bits) ++ x ∷ [] =
    ap (λ l. h ++ l) (sym (take_all 7 bits (omega arith)) ∙ take_more bits 6 false (omega arith))
    ∙ sym (append_assoc h (take 6 bits) (x ∷ [])) in
    let six = still_bits h bits locks p t 6 (omega arith) is.inside now in
    subst (λ (l : List Bool). StillStands l r locks p t) (sym whole)
    (still_bit (h ++ take 6 bits) x locks p t r six
    (subst (λ (l : List Bool). IsStep l r) whole is.last) same)

-- after words that bring no change the lock still stands, and these are its words
pub record StillWords (bits : List Bool) (role_of_first : Role) (locks : List Lock) (p t m : ℕ)
    (words : List ℕ) : Type 0 where
  pub stands : IsNow (bits ++ flat_map elements words) locks (locked p t)
  pub are : (k : ℕ) → k < length words
      → word_of_lock (bits ++ flat_map elements words) t (m + k) ≡ slice_index words k
  pub role : 0 < length words
      → role_of (first_role (bits ++ flat_map elements words) t) m ≡ role_of_first

pub still_words : (words : List ℕ) (bits : List Bool) (role : Role) (locks : List Lock) (p t m : ℕ)
    → IsNow bits locks (locked p t) → length bits ≡ t + 7 * m → AreQuietWords bits role words
    → StillWords bits role locks p t m words
still_words [] bits role locks p t m now limit quiet = record {
  stands = subst (λ (l : List Bool). IsNow l locks (locked p t)) (sym (append-nil bits)) now;
  are = λ k lt. absurd (omega arith);
  role = λ some. absurd (omega arith);
}
still_words (w ∷ words) bits role locks p t m now limit quiet =
    let here : List Bool = bits ++ elements w in
    let long : length here ≡ t + 7 * (m + 1) =
    omega (arith, limit, length-append bits (elements w), length-elements w) in
    let one = still_word bits (elements w) locks p t (step (Some (w, role)) None)
    (length-elements w) (quiet_first bits role w words quiet) refl now in
    let this = one.completes w role refl in
    let place : this.0 ≡ m = omega (arith, this.1, long) in
    let is : word_of_lock here t m ≡ w =
    ap (word_of_lock here t) (sym place) ∙ ap (λ (x : ℕ × Role). x.0) this.2 in
    let rest = still_words words here (other_role role) locks p t (m + 1) one.stands long
    (quiet_rest bits role w words quiet) in
    let whole : here ++ flat_map elements words ≡ bits ++ (elements w ++ flat_map elements words) =
    append_assoc bits (elements w) (flat_map elements words) in
    record {
      stands = subst (λ (l : List Bool). IsNow l locks (locked p t)) whole rest.stands;
      are = λ k lt. subst (λ (l : List Bool). word_of_lock l t (m + k)
          ≡ slice_index (w ∷ words) k) whole (each here words w t m long is rest.are k lt);
      role = λ some. ap (λ l. role_of (first_role l t) m) (sym whole)
          ∙ ap (λ (first : Role). role_of first m)
          (first_role-more here (flat_map elements words) t one.stands.found.here.enough
          one.stands.found.here.heard)
          ∙ ap (role_of (first_role here t)) (sym place)
          ∙ ap (λ (x : ℕ × Role). x.1) this.2;
    }
  where
    each : (here : List Bool) (words : List ℕ) (w t m : ℕ) → length here ≡ t + 7 * (m + 1)
        → word_of_lock here t m ≡ w
        → ((k : ℕ) → k < length words
        → word_of_lock (here ++ flat_map elements words) t (m + 1 + k) ≡ slice_index words k)
        → (k : ℕ) → k < length (w ∷ words)
        → word_of_lock (here ++ flat_map elements words) t (m + k) ≡ slice_index (w ∷ words) k
    each here words w t m long is are zero lt =
        let e : m + 0 ≡ m = omega arith in
        ap (word_of_lock (here ++ flat_map elements words) t) e
        ∙ word_at-more here (flat_map elements words) t m (omega (arith, long)) ∙ is
    each here words w t m long is are (suc k) lt =
        let e : m + suc k ≡ m + 1 + k = omega arith in
        ap (word_of_lock (here ++ flat_map elements words) t) e ∙ are k (omega arith)
