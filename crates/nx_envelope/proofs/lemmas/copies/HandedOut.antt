-- Over a whole text, what the steps and the end hand out are the copies of the text.
use Rattle.std.proofs.Common.{◌≡◌, ℕ, Option, Some, None, List, [], ◌∷◌, ◌++◌, refl, ap}
use Rattle.std.proofs.Common.{append_assoc}
use Rattle.std.specs.List.{AllZip, filter_map}
use Rattle.std.specs.Option.{option_to_list}
use Rattle.std.proofs.lemmas.List.{append-nil}
use Rattle.nx_envelope.specs.Copies.{Copy, copies, ended_copies}
use Rattle.nx_envelope.specs.Finder.{Brings, Closes}
use Rattle.nx_envelope.specs.Found.{IsFound}
use Rattle.nx_envelope.specs.Laws.{AreAnswers, found_in, copies_handed_out}
use Rattle.nx_envelope.specs.declared.found.FinderStep.{FinderStep}
use Rattle.nx_envelope.specs.declared.found.FinderStep.TheVariants as steps
use Rattle.nx_envelope.specs.declared.found.Found.{Found}
use Rattle.nx_envelope.proofs.lemmas.copies.OneOpenCopy.{headers-nil}

ended-nil : ended_copies [] ≡ []
unfolding ended_copies
ended-nil = rw headers-nil refl

-- one more of both
zip-push : (cs : List Copy) (fs : List Found) (c : Copy) (f : Found) → AllZip IsFound cs fs
    → IsFound c f → AllZip IsFound (cs ++ c ∷ []) (fs ++ f ∷ [])
zip-push [] [] c f h is = (is, tt)
zip-push [] (g ∷ fs) c f h is = absurd h
zip-push (d ∷ cs) [] c f h is = absurd h
zip-push (d ∷ cs) (g ∷ fs) c f h is = (h.0, zip-push cs fs c f h.1 is)

-- one step
one : (before : List ℕ) (b : ℕ) (step : FinderStep) (fs : List Found) → Brings before b step
    → AllZip IsFound (ended_copies before) fs
    → AllZip IsFound (ended_copies (before ++ b ∷ [])) (fs ++ option_to_list (found_in step))
one before b steps.Nothing fs k h = rw (k.ended, append-nil fs) h
one before b (steps.Header identity) fs k h = let same = k.begins.ended in
    rw (same, append-nil fs) h
one before b (steps.Over found) fs k h =
    let more = k.ends.ended in
    rw more (zip-push (ended_copies before) fs k.copy found h k.is_found)

joined : (fs : List Found) (step : FinderStep) (answers : List FinderStep)
    → (fs ++ option_to_list (found_in step)) ++ filter_map found_in answers
    ≡ fs ++ filter_map found_in (step ∷ answers)
joined fs steps.Nothing answers =
    ap (λ (gs : List Found). gs ++ filter_map found_in answers) (append-nil fs)
joined fs (steps.Header identity) answers =
    ap (λ (gs : List Found). gs ++ filter_map found_in answers) (append-nil fs)
joined fs (steps.Over found) answers = append_assoc fs (found ∷ []) (filter_map found_in answers)

-- all steps
runs : (before text : List ℕ) (answers : List FinderStep) (fs : List Found)
    → AreAnswers before text answers → AllZip IsFound (ended_copies before) fs
    → AllZip IsFound (ended_copies (before ++ text)) (fs ++ filter_map found_in answers)
runs before [] [] fs a h = rw (append-nil before, append-nil fs) h
runs before [] (step ∷ answers) fs a h = absurd a
runs before (b ∷ text) [] fs a h = absurd a
runs before (b ∷ text) (step ∷ answers) fs a h =
    let whole = append_assoc before (b ∷ []) text in
    let rest = runs (before ++ b ∷ []) text answers (fs ++ option_to_list (found_in step)) a.1
    (one before b step fs a.0 h) in
    let tail = joined fs step answers in
    rw (← whole, ← tail) rest

all_found : (text : List ℕ) (answers : List FinderStep) → AreAnswers [] text answers
    → AllZip IsFound (ended_copies text) (filter_map found_in answers)
all_found text answers a = let nil = ended-nil in runs [] text answers [] a (rw nil tt)

-- and the end
pub all_handed_out : (text : List ℕ) (answers : List FinderStep) (last : Option Found)
    → AreAnswers [] text answers → Closes text last
    → AllZip IsFound (copies text) (copies_handed_out answers last)
all_handed_out text answers None a c =
    let whole = c.whole in
    rw (whole, append-nil (filter_map found_in answers)) (all_found text answers a)
all_handed_out text answers (Some found) a c =
    let whole = c.whole in
    rw whole (zip-push (ended_copies text) (filter_map found_in answers) _ found
    (all_found text answers a) c.is_found)
