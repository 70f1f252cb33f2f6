-- A kept log that is written of entries stands for them.
use Rattle.std.proofs.Common.{◌≡◌, ℕ, List, [], ◌∷◌, ◌++◌, ap, ap₂, sym, ◌∙◌, refl, subst, arith, append-nil}
use Rattle.std.specs.Prelude.{map}
use Rattle.std.specs.List.{AllZip, concat, flat_map}
use Rattle.std.specs.Io.KnownBytes.{Appends}
use Rattle.nx_copies.specs.copies.Shares.{MarkedCopy}
use Rattle.nx_fec.specs.Transfers.{Contents}
use Rattle.nx_kept.specs.Kept.{IsBehindOpenGates}
use Rattle.nx_kept.proofs.lemmas.KeptLaws.{one_list}
use Rattle.nx_log.specs.Entries.{IsWholeEntry}
use Rattle.nx_log.specs.LogRun.{IsInForm, WroteToEnd, end_of}
use Rattle.nx_log.specs.Places.{chosen_placed, unplaced}
use Rattle.nx_log.specs.Logged.{IsLoggedAs}
use Rattle.nx_log.specs.Query.{chosen}
use Rattle.nx_log.specs.declared.queries.query.Query.{Query}
use Rattle.nx_log.specs.declared.writing.form.Form.TheVariants.{Kept}
use Rattle.nx_log.proofs.lemmas.reading.Entries.{one_entry}
use Rattle.nx_log.proofs.lemmas.runs.Placing.{chosen-unplaced}
use Rattle.nx_watch.specs.Watch.{RestsWithEntries, StandsForEntries, longest_entry}
use Rattle.nx_watch.specs.private.Entries.{entry_one, entry_some}
use Rattle.nx_left_on.specs.ReadBack.{IsAsPut}
use Rattle.nx_left_on.specs.Written.{IsWrittenOf}

abbrev gated : List (List ℕ) → List ℕ
gated texts = flat_map (λ text. 10 ∷ text) texts

-- what entries are behind open gates
record AreGated (entries : List MarkedCopy) (output : List ℕ) : Type 0 where
  texts : List (List ℕ)
  each : AllZip IsLoggedAs entries texts
  whole : output ≡ gated texts

are-gated : (entries : List MarkedCopy) (texts : List (List ℕ))
    → AllZip (IsInForm Kept) (map unplaced entries) texts → AreGated entries (concat texts)
are-gated [] [] each = record { texts = []; each = tt; whole = refl }
are-gated [] (t ∷ ts) each = absurd each
are-gated (one ∷ entries) [] each = absurd each
are-gated (one ∷ entries) (t ∷ ts) each =
    let rest = are-gated entries ts each.1 in
    record {
      texts = each.0.0 ∷ rest.texts;
      each = (each.0.1, rest.each);
      whole = ap₂ (λ l m. l ++ m) each.0.2 rest.whole;
    }

written-of : (entries : List MarkedCopy) (output : List ℕ) → AreGated entries output
    → IsWrittenOf entries (output ++ end_of Kept entries)
written-of [] output g = none g.texts g.each
  where
    none : (texts : List (List ℕ)) → AllZip IsLoggedAs [] texts → output ++ [] ≡ []
    none texts each = append-nil output ∙ g.whole ∙ of texts g.texts each g.each
      where
        of : (texts others : List (List ℕ)) → AllZip IsLoggedAs [] texts
            → AllZip IsLoggedAs [] others → gated others ≡ []
        of texts [] each more = refl
        of texts (t ∷ ts) each more = absurd more
written-of (one ∷ entries) output g = record {
  texts = g.texts;
  each = g.each;
  whole = ap (λ l. l ++ 32 ∷ []) g.whole;
}

end-unplaced : (entries : List MarkedCopy)
    → end_of Kept (map unplaced entries) ≡ end_of Kept entries
end-unplaced [] = refl
end-unplaced (one ∷ entries) = refl

pub written : (query : Query) (contents : Contents) (entries : List MarkedCopy)
    → WroteToEnd query Kept contents entries
    → (file : List ℕ) × Appends contents.before contents.after file
    × IsWrittenOf (chosen query entries) file
written query contents entries w =
    let o = w.is_output in
    let same = chosen-unplaced query entries in
    let each = subst (λ l. AllZip (IsInForm Kept) l o.texts) same o.each in
    let end : end_of Kept (chosen_placed query (map unplaced entries))
    ≡ end_of Kept (chosen query entries) =
    ap (λ l. end_of Kept l) same ∙ end-unplaced (chosen query entries) in (
      w.output ++ end_of Kept (chosen query entries),
      subst (λ l. Appends contents.before contents.after (w.output ++ l)) end w.written,
      written-of (chosen query entries) w.output
          (subst (AreGated (chosen query entries)) (sym o.joined)
          (are-gated (chosen query entries) o.texts each)),
    )

-- entries behind open gates are records
gated-records : (entries : List MarkedCopy) (texts : List (List ℕ))
    → AllZip IsLoggedAs entries texts → IsBehindOpenGates IsWholeEntry texts (gated texts)
gated-records [] [] each = refl
gated-records [] (t ∷ ts) each = absurd each
gated-records (one ∷ entries) [] each = absurd each
gated-records (one ∷ entries) (t ∷ ts) each =
    (10, gated ts, (λ e. omega (arith, e)), (one, each.0), refl, gated-records entries ts each.1)

pub rests : (entries : List MarkedCopy) (file : List ℕ) → IsAsPut entries file
    → RestsWithEntries entries file
rests entries file w = record {
  texts = w.texts;
  each = w.each;
  front = gated w.texts;
  kept = gated-records entries w.texts w.each;
  whole = w.whole;
}

pub stands : (entries : List MarkedCopy) (file : List ℕ) → IsWrittenOf entries file
    → StandsForEntries entries file
stands [] file w = record {
  texts = [];
  each = tt;
  stands = record { front = []; tail = []; kept = refl; end = tt; split = w };
}
stands (one ∷ entries) file w =
    let r = rests (one ∷ entries) file w in
    record {
      texts = r.texts;
      each = r.each;
      stands = record { front = r.front; tail = 32 ∷ []; kept = r.kept; end = tt; split = r.whole };
    }

-- texts are those of one list of entries
same-entries : (entries others : List MarkedCopy) (texts : List (List ℕ))
    → AllZip IsLoggedAs entries texts → AllZip IsLoggedAs others texts → others ≡ entries
same-entries [] [] [] each more = refl
same-entries [] [] (t ∷ ts) each more = absurd each
same-entries [] (o ∷ os) [] each more = absurd more
same-entries [] (o ∷ os) (t ∷ ts) each more = absurd each
same-entries (e ∷ es) others [] each more = absurd each
same-entries (e ∷ es) [] (t ∷ ts) each more = absurd more
same-entries (e ∷ es) (o ∷ os) (t ∷ ts) each more =
    ap₂ (λ a b. a ∷ b) (one_entry o e t t [] [] more.0 each.0 refl).entry
    (same-entries es os ts each.1 more.1)

pub only : (entries others : List MarkedCopy) (file : List ℕ) → IsWrittenOf entries file
    → StandsForEntries others file → others ≡ entries
only entries others file w s =
    let own = stands entries file w in
    let same = one_list IsWholeEntry longest_entry entry_some entry_one s.texts own.texts file
    s.stands own.stands in
    same-entries entries others own.texts own.each
    (subst (AllZip IsLoggedAs others) same s.each)
