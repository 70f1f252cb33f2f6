-- One reading of any bytes.
use Rattle.std.proofs.Common.{◌≡◌, ℕ, List, [], ◌∷◌, ◌++◌, Option, Some, None, refl, sym, ap, ◌∙◌}
use Rattle.std.proofs.Common.{subst, append_assoc}
use Rattle.std.specs.List.{AllZip, flat_map}
use Rattle.nx_fec.specs.air_files.AirFile.{Line}
use Rattle.nx_fec.proofs.lemmas.lines.LineLaws.{first_feed, no_feed-not, spelling-IsBeginning}
use Rattle.nx_fec.proofs.lemmas.lines.LineLaws.{spelling-injective}
use Rattle.nx_watch.specs.AnyLines.{AreLines, HasNoLineEnd, Says, ended}

pub says-no_end : (text : List ℕ) (said : Option Line) → Says text said → HasNoLineEnd text
says-no_end text None h = h.0
says-no_end text (Some line) h = subst HasNoLineEnd (sym h.1) (spelling-IsBeginning line h.0).none

pub says-one : (text : List ℕ) (a b : Option Line) → Says text a → Says text b → a ≡ b
says-one text None None h k = refl
says-one text None (Some line) h k = absurd (h.1 line k.0 k.1)
says-one text (Some line) None h k = absurd (k.1 line h.0 h.1)
says-one text (Some one) (Some other) h k =
    ap Some (spelling-injective one other h.0 k.0 (sym h.1 ∙ k.1))

pub regroup : (text : List ℕ) (texts : List (List ℕ)) (rest : List ℕ)
    → flat_map ended (text ∷ texts) ++ rest ≡ text ++ (10 ∷ (flat_map ended texts ++ rest))
regroup text texts rest = append_assoc (ended text) (flat_map ended texts) rest
    ∙ append_assoc text (10 ∷ []) (flat_map ended texts ++ rest)

reading-one : (t1 t2 : List (List ℕ)) (l1 l2 : List (Option Line)) (r1 r2 : List ℕ)
    → AllZip Says t1 l1 → AllZip Says t2 l2 → HasNoLineEnd r1 → HasNoLineEnd r2
    → flat_map ended t1 ++ r1 ≡ flat_map ended t2 ++ r2 → (l1 ≡ l2) × (r1 ≡ r2)
reading-one [] [] [] [] r1 r2 s1 s2 n1 n2 e = (refl, e)
reading-one [] [] (a ∷ l1) l2 r1 r2 s1 s2 n1 n2 e = absurd s1
reading-one [] [] [] (b ∷ l2) r1 r2 s1 s2 n1 n2 e = absurd s2
reading-one [] (t ∷ t2) l1 l2 r1 r2 s1 s2 n1 n2 e =
    absurd (no_feed-not t (flat_map ended t2 ++ r2) (subst HasNoLineEnd (e ∙ regroup t t2 r2) n1))
reading-one (t ∷ t1) [] l1 l2 r1 r2 s1 s2 n1 n2 e =
    absurd (no_feed-not t (flat_map ended t1 ++ r1)
    (subst HasNoLineEnd (sym e ∙ regroup t t1 r1) n2))
reading-one (t ∷ t1) (u ∷ t2) [] l2 r1 r2 s1 s2 n1 n2 e = absurd s1
reading-one (t ∷ t1) (u ∷ t2) (a ∷ l1) [] r1 r2 s1 s2 n1 n2 e = absurd s2
reading-one (t ∷ t1) (u ∷ t2) (a ∷ l1) (b ∷ l2) r1 r2 s1 s2 n1 n2 e =
    let parts = first_feed t u (flat_map ended t1 ++ r1) (flat_map ended t2 ++ r2)
    (says-no_end t a s1.0) (says-no_end u b s2.0) (sym (regroup t t1 r1) ∙ e ∙ regroup u t2 r2) in
    let heads : a ≡ b = says-one u a b (subst (λ l. Says l a) parts.0 s1.0) s2.0 in
    let r = reading-one t1 t2 l1 l2 r1 r2 s1.1 s2.1 n1 n2 parts.1 in
    (cc (r.0, heads), r.1)

pub AreLines-one : (bytes : List ℕ) (a b : List (Option Line)) (x y : List ℕ) → AreLines bytes a x
    → AreLines bytes b y → (a ≡ b) × (x ≡ y)
AreLines-one bytes a b x y h k =
    reading-one h.texts k.texts a b x y h.each k.each h.part k.part (sym h.whole ∙ k.whole)
