-- A head from each piece on.
use Rattle.std.proofs.Common.{List, ℕ, ◌∷◌, ◌++◌}
use Rattle.std.specs.Prelude.{decimal}
use Rattle.nx_copies.specs.copies.Log.{channel_mark, how_name}
use Rattle.nx_log.specs.declared.entries.head.LoggedHead.{LoggedHead}

abbrev pub characters_and : LoggedHead → List ℕ → List ℕ
characters_and head more = decimal head.characters ++ (93 ∷ 10 ∷ more)

abbrev pub errors_and : LoggedHead → List ℕ → List ℕ
errors_and head more = decimal head.errors ++ (47 ∷ characters_and head more)

abbrev pub how_and : LoggedHead → List ℕ → List ℕ
how_and head more = how_name head.how ++ (32 ∷ errors_and head more)

abbrev pub time_and_rest : LoggedHead → List ℕ → List ℕ → List ℕ
time_and_rest head civil more = civil ++ (32 ∷ how_and head more)

abbrev pub mark_and : LoggedHead → List ℕ → List ℕ → List ℕ
mark_and head civil more = channel_mark head.channel ++ (32 ∷ time_and_rest head civil more)
