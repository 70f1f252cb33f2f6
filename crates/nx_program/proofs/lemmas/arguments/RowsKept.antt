-- A predicate of rows that each use of a rule keeps holds of all rows that clap gives where it
-- takes the arguments. In the definitions of clap's walk, and so here, a word is one of these
-- arguments.
use Rattle.std.proofs.Common.{◌≡◌, ℕ, zero, suc, ◌&&◌, Bool, true, false, List, [], ◌∷◌, ◌++◌}
use Rattle.std.proofs.Common.{Option, Some, None, IfSome, is_some, refl, drop, length, slice_get}
use Rattle.std.proofs.Common.{encode_utf8, fold, if◌then◌else◌}
use Rattle.std.specs.Option.{option_map_or}
use Rattle.std.specs.Str.{bytes_eq, chars}
use Rattle.clap.specs.Lexer.{long_of, short_of}
use Rattle.clap.specs.Kinds.{or_else}
use Rattle.clap.specs.Words.{Kinds, Row, Rule, Shape, Text}
use Rattle.clap.specs.Walk.{Held, Outcome, Step, Waiting, Walk, after_flag, after_step, arg_by_id}
use Rattle.clap.specs.Walk.{arg_by_index, arg_by_long, arg_by_short, at_row, attached_value}
use Rattle.clap.specs.Walk.{bundle_met, bundle_step, finished, flag_met, is_pending, long_met}
use Rattle.clap.specs.Walk.{long_or_other, nothing_held, option_met, option_word, plain_word}
use Rattle.clap.specs.Walk.{reacted, settled, settled_rows, short_met, short_or_plain}
use Rattle.clap.specs.Walk.{subcommand_met, subcommand_or_other, takes_several, takes_values}
use Rattle.clap.specs.Walk.{to_positional, used, used_by_id, walk, walk_from, walked, walked_from}
use Rattle.clap.specs.Walk.{without, word_met, done, idle, next, option, plain, positional, refused}
use Rattle.clap.specs.Walk.{subcommand, trailing, value, waits}
use Rattle.clap.specs.Faults.{bundle_step_fault, check_fault, defaults_fault, flag_word_fault}
use Rattle.clap.specs.Faults.{flags_fault, level_fault, long_fault, option_fault, other_fault}
use Rattle.clap.specs.Faults.{positional_fault, react_fault, settle_fault, short_fault, step_fault}
use Rattle.clap.specs.Faults.{stray_fault, turn_fault, use_fault, walk_fault, word_fault}
use Rattle.clap.specs.declared.error.kind.ErrorKind.TheVariants as kind
use Rattle.nx_program.proofs.lemmas.EachFound.{Each, found_is}

pub or-first : (a b : Kinds) → or_else a b ≡ [] → a ≡ []
or-first [] b e = refl
or-first (k ∷ ks) b e = absurd (cc)

pub or-second : (a b : Kinds) → or_else a b ≡ [] → b ≡ []
or-second [] b e = e
or-second (k ∷ ks) b e = absurd (cc)

module _ (IsGood : Row → Type 0) where
  good-append : (xs ys : List Row) → Each IsGood xs → Each IsGood ys → Each IsGood (xs ++ ys)
  good-append [] ys front back = back
  good-append (x ∷ xs) ys front back = (front.0, good-append xs ys front.1 back)

  pub good-at_row : (id : Text) (change : Row → List Row) (missing rows : List Row)
      → ((r : Row) → IsGood r
      → Each IsGood (change r)) → Each IsGood missing
      → Each IsGood rows → Each IsGood (at_row id change missing rows)
  good-at_row id change missing [] changes new good = new
  good-at_row id change missing (r ∷ rs) changes new good =
      elim (bytes_eq r.id id) as (λ b. Each IsGood
      (if b then change r ++ rs else r ∷ at_row id change missing rs)) [
        | true ↦ good-append (change r) rs (changes r good.0) good.1
        | false ↦ (good.0, good-at_row id change missing rs changes new good.1)
      ]

  pub good-without : (id : Text) (rows : List Row) → Each IsGood rows
      → Each IsGood (without id rows)
  good-without id rows good = good-at_row id (λ r. []) [] rows (λ r is_good. tt) tt good

  -- a use of the rule that has no fault keeps good rows good
  abbrev pub UsesWell : Rule → Type 0
  UsesWell a = (again : Bool) (vs : List Text) (rows : List Row) → use_fault again a vs rows ≡ []
      → Each IsGood rows → Each IsGood (used a vs rows)

  module _ (c : List Rule) (again : Bool) (each : Each UsesWell c) where
    by_id : (o : Option Rule) (vs : List Text) (rows : List Row) → IfSome o UsesWell
        → option_map_or (λ a. use_fault again a vs rows) o [] ≡ [] → Each IsGood rows
        → Each IsGood (used_by_id o vs rows)
    by_id None vs rows well e good = good
    by_id (Some a) vs rows well e good = well again vs rows e good

    good-settled_rows : (p : Option (Text × List Text)) (rows : List Row)
        → option_map_or (λ p. option_map_or (λ a. use_fault again a p.1 rows) (arg_by_id c p.0) [])
        p [] ≡ []
        → Each IsGood rows → Each IsGood (settled_rows c p rows)
    good-settled_rows None rows e good = good
    good-settled_rows (Some p) rows e good = by_id (arg_by_id c p.0) p.1 rows (found_is UsesWell
        (λ a. bytes_eq a.id p.0) c each) e good

    good-settled : (h : Held) → settle_fault c again h ≡ [] → Each IsGood h.rows
        → Each IsGood (settled c h).rows
    good-settled h e good = good-settled_rows h.pending h.rows e good

    good-reacted : (a : Rule) → UsesWell a → (vs : List Text) (h : Held)
        → react_fault c again a vs h ≡ []
        → Each IsGood h.rows → Each IsGood (reacted c a vs h).rows
    good-reacted a well vs h e good =
        well again vs (settled c h).rows (or-second _ _ e) (good-settled h
        (or-first _ _ e) good)

    good-option : (a : Rule) → UsesWell a → (v : Option Text) (h : Held)
        → option_fault c again a v h ≡ []
        → Each IsGood h.rows → Each IsGood (option_met c a v h).0.rows
    good-option a well (Some v) h e good = good-reacted a well (v ∷ []) h e good
    good-option a well None h e good = good-settled h e good

    good-long_at : (a : Rule) → UsesWell a → (t : Bool) (v : Option Text) (h : Held)
        → (if t then option_fault c again a v h else
        (if is_some v then kind.TooManyValues ∷ [] else react_fault c again a [] h)) ≡ []
        → Each IsGood h.rows → Each IsGood
        (if t then option_met c a v h else flag_met c a v h).0.rows
    good-long_at a well true v h e good = good-option a well v h e good
    good-long_at a well false (Some v) h e good = good
    good-long_at a well false None h e good = good-reacted a well [] h e good

    good-long : (o : Option Rule) → IfSome o UsesWell → (v : Option Text) (h : Held)
        → long_fault c again o v h ≡ [] → Each IsGood h.rows → Each IsGood (long_met c o v h).0.rows
    good-long None well v h e good = good
    good-long (Some a) well v h e good = good-long_at a well (takes_values a) v h e good

    good-short_at : (a : Rule) → UsesWell a → (t : Bool) (rest : Text) (h : Held) (more : Held
        → Kinds) (after : Held → Held × Outcome)
        → ((g : Held) → more g ≡ [] → Each IsGood g.rows → Each IsGood (after g).0.rows)
        → (if t then option_fault c again a (attached_value rest) h else or_else
        (react_fault c again a [] h) (more
        (reacted c a [] h))) ≡ []
        → Each IsGood h.rows → Each IsGood
        (if t then option_met c a (attached_value rest) h else after
        (reacted c a [] h)).0.rows
    good-short_at a well true rest h more after goes e good =
        good-option a well (attached_value rest) h e good
    good-short_at a well false rest h more after goes e good =
        goes (reacted c a [] h) (or-second _ _ e)
        (good-reacted a well [] h (or-first _ _ e) good)

    good-short : (o : Option Rule) → IfSome o UsesWell → (rest : Text) (h : Held) (more : Held
        → Kinds) (after : Held → Held × Outcome)
        → ((g : Held) → more g ≡ [] → Each IsGood g.rows → Each IsGood (after g).0.rows)
        → short_fault c again o rest h more ≡ [] → Each IsGood h.rows
        → Each IsGood (short_met c o rest h after).0.rows
    good-short None well rest h more after goes e good = good
    good-short (Some a) well rest h more after goes e good = good-short_at a well
        (takes_values a) rest h more after goes e good

    good-bundle_step : (x : Option ℕ) (flags : Text) (skip : ℕ) (so_far : Outcome) (h : Held)
        (more : Text → ℕ
        → Held → Kinds) (after : Text → ℕ → Outcome → Held → Held × Outcome)
        → ((t : Text) (n : ℕ) (o : Outcome) (g : Held) → more t n g ≡ [] → Each IsGood g.rows
        → Each IsGood (after t n o g).0.rows)
        → bundle_step_fault c again x flags skip h more ≡ [] → Each IsGood h.rows
        → Each IsGood (bundle_step c x flags skip so_far h after).0.rows
    good-bundle_step None flags skip so_far h more after goes e good = good
    good-bundle_step (Some x) flags zero so_far h more after goes e good =
        let rest = drop (length (encode_utf8 x)) flags in
        good-short (arg_by_short c x) (found_is UsesWell _ c each) rest h (more rest 0)
        (after rest 0 done)
        (goes rest 0 done) e good
    good-bundle_step (Some x) flags (suc skip) so_far h more after goes e good = goes (drop (length
        (encode_utf8 x)) flags) skip so_far h e good

    good-bundle : (k : ℕ) (flags : Text) (skip : ℕ) (so_far : Outcome) (h : Held)
        → flags_fault c again k flags skip h ≡ [] → Each IsGood h.rows
        → Each IsGood (bundle_met c k flags skip so_far h).0.rows
    unfolding flags_fault bundle_met
    good-bundle zero flags skip so_far h e good = good
    good-bundle (suc k) flags skip so_far h e good =
        good-bundle_step (slice_get (chars flags) 0) flags skip so_far h (flags_fault c again k)
        (bundle_met c k)
        (λ t n o g. good-bundle k t n o g) e good

    good-option_word : (o : Option Rule) (id word : Text) (h : Held) → Each IsGood h.rows
        → Each IsGood (option_word o id word h).0.rows
    good-option_word None id word h good = good
    good-option_word (Some a) id word h good = good

    good-plain_word : (waiting : Waiting) (word : Text) (h : Held) → Each IsGood h.rows
        → Each IsGood (plain_word c waiting word h).0.rows
    good-plain_word idle word h good = good
    good-plain_word (option id) word h good = good-option_word (arg_by_id c id) id word h good
    good-plain_word positional word h good = good

    good-after_flag : (waiting : Waiting) (word : Text) (h : Held) (o : Outcome)
        → Each IsGood h.rows
        → Each IsGood (after_flag c waiting word h o).0.rows
    good-after_flag waiting word h done good = good
    good-after_flag waiting word h (waits id) good = good
    good-after_flag waiting word h plain good = good-plain_word waiting word h good
    good-after_flag waiting word h refused good = good-plain_word waiting word h good

    good-short_or_plain : (waiting : Waiting) (word : Text) (flags : Option Text) (h : Held)
        → option_map_or (λ flags. flags_fault c again (length flags) flags h.skip
        (record h { skip = 0 })) flags [] ≡ [] → Each IsGood h.rows
        → Each IsGood (short_or_plain c waiting word flags h).0.rows
    good-short_or_plain waiting word None h e good = good-plain_word waiting word h good
    good-short_or_plain waiting word (Some flags) h e good =
        good-after_flag waiting word _ _
        (good-bundle (length flags) flags h.skip plain (record h { skip = 0 }) e good)

    good-long_or_other : (waiting : Waiting) (word : Text) (p : Option (Text × Option Text))
        (h : Held)
        → flag_word_fault c again p word h ≡ [] → Each IsGood h.rows
        → Each IsGood (long_or_other c waiting word p h).0.rows
    good-long_or_other waiting word (Some p) h e good =
        good-after_flag waiting word _ _
        (good-long (arg_by_long c p.0) (found_is UsesWell _ c each) p.1 h e good)
    good-long_or_other waiting word None h e good =
        good-short_or_plain waiting word (short_of word) h e good

    good-other_at : (t : Bool) (waiting : Waiting) (at : ℕ) (word : Text) (h : Held)
        → (if t then [] else flag_word_fault c again (long_of word) word h) ≡ []
        → Each IsGood h.rows
        → Each IsGood (if t then (h, trailing at) else long_or_other c waiting word (long_of word)
        h).0.rows
    good-other_at true waiting at word h e good = good
    good-other_at false waiting at word h e good =
        good-long_or_other waiting word (long_of word) h e good

    good-positional_at : (t : Bool) (h : Held) → (if t then [] else settle_fault c again h) ≡ []
        → Each IsGood h.rows → Each IsGood (if t then h else settled c h).rows
    good-positional_at true h e good = good
    good-positional_at false h e good = good-settled h e good

    good-to_positional : (stray : Kinds) (o : Option Rule) (word : Text) (w : Walk) (h : Held)
        → option_map_or (λ a. positional_fault c again a h) o stray ≡ [] → Each IsGood h.rows
        → Each IsGood (to_positional c o word w h).held.rows
    good-to_positional stray None word w h e good = good
    good-to_positional stray (Some a) word w h e good = good-positional_at
        (is_pending a h.pending && takes_several a) h e good

  module _ (s : Shape) (each : Each UsesWell s.rules) where
    good-step : (word : Text) (w : Walk) (h : Held) (step : Step)
        → step_fault s w.position h step ≡ []
        → Each IsGood h.rows → Each IsGood (after_step s.rules word w h step).held.rows
    good-step word w h (next waiting) e good = good
    good-step word w h (trailing at) e good = good
    good-step word w h (subcommand name) e good = good
    good-step word w h value e good =
        good-to_positional s.rules s.args_override_self each (stray_fault s)
        (arg_by_index s.rules w.position) word w h e good

    good-other : (o : Option Text) (waiting : Waiting) (at : ℕ) (word : Text) (h : Held) → o ≡ None
        → other_fault s o word h ≡ [] → Each IsGood h.rows
        → Each IsGood (subcommand_or_other s.rules o waiting at word h).0.rows
    good-other None waiting at word h none e good =
        good-other_at s.rules s.args_override_self each (bytes_eq word (45 ∷ 45 ∷ [])) waiting at
        word h e good
    good-other (Some name) waiting at word h none e good = good

    no_subcommand : (waiting : Waiting) (word : Text) → subcommand_met [] waiting word ≡ None
    no_subcommand idle word = refl
    no_subcommand (option id) word = refl
    no_subcommand positional word = refl

    good-met : (is_trailing : Bool) (waiting : Waiting) (at : ℕ) (word : Text) (h : Held)
        → word_fault s [] is_trailing waiting word h ≡ [] → Each IsGood h.rows
        → Each IsGood (word_met s.rules [] is_trailing waiting at word h).0.rows
    good-met true waiting at word h e good = good
    good-met false waiting at word h e good =
        good-other (subcommand_met [] waiting word) waiting at word h
        (no_subcommand waiting word) e good

    good-turn_from : (stopped : Option (Text × List Text)) (w : Walk) (word : Text)
        → (if is_some stopped then [] else or_else
        (word_fault s [] w.is_trailing w.waiting word w.held)
        (step_fault s w.position (word_met s.rules [] w.is_trailing w.waiting w.position word
        w.held).0
        (word_met s.rules [] w.is_trailing w.waiting w.position word w.held).1)) ≡ []
        → Each IsGood w.held.rows → Each IsGood (walked_from s.rules [] stopped w word).held.rows
    good-turn_from (Some p) w word e good = good
    good-turn_from None w word e good =
        let met = word_met s.rules [] w.is_trailing w.waiting w.position word w.held in
        good-step word w met.0 met.1 (or-second _ _ e)
        (good-met w.is_trailing w.waiting w.position word w.held
        (or-first _ _ e) good)

    good-turn : (w : Walk) (word : Text) → turn_fault s [] w word ≡ [] → Each IsGood w.held.rows
        → Each IsGood (walked s.rules [] w word).held.rows
    unfolding walked
    good-turn w word e good = good-turn_from w.stopped w word e good

    good-walk : (words : List Text) (w : Walk) → walk_fault s [] w words ≡ []
        → Each IsGood w.held.rows
        → Each IsGood (fold (walked s.rules []) w words).held.rows
    unfolding walk_fault
    good-walk [] w e good = good
    good-walk (word ∷ rest) w e good =
        good-walk rest (walked s.rules [] w word) (or-second _ _ e) (good-turn w word
        (or-first _ _ e) good)

    pub good-settled_end : (words : List Text) (below : Kinds)
        → level_fault s [] nothing_held words false below ≡ []
        → Each IsGood (settled s.rules (walk s.rules [] nothing_held words).held).rows
    good-settled_end words below e =
        let end = (walk s.rules [] nothing_held words).held in
        let walked_end = good-walk words (walk_from nothing_held) (or-first _ _ e) tt in
        good-settled s.rules s.args_override_self each end
        (or-first _ _ (or-second _ _ (or-second _ _ e))) walked_end

pub level-check : (s : Shape) → (words : List Text) (below : Kinds)
    → level_fault s [] nothing_held words false below ≡ []
    → check_fault s (finished s.rules (walk s.rules [] nothing_held words).held) false ≡ []
level-check s words below e =
    let end = (walk s.rules [] nothing_held words).held in
    let last = check_fault s (finished s.rules end) false in
    let defaults = defaults_fault (settled s.rules end).rows s.rules in
    let settling = settle_fault s.rules s.args_override_self end in
    or-second defaults last
    (or-second settling (or_else defaults last)
    (or-second below (or_else settling (or_else defaults last))
    (or-second (walk_fault s [] (walk_from nothing_held) words) (or_else below (or_else settling
    (or_else defaults last))) e)))
