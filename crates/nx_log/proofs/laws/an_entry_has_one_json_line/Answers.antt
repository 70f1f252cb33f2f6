use Rattle.std.proofs.Common.{[], ◌∷◌, ◌++◌, ap, sym, ◌∙◌}
use Rattle.std.specs.Prelude.{codes}
use Rattle.serde_json.specs.Written.{compact_text}
use Rattle.nx_code.specs.Reading.{newline}
use Rattle.nx_envelope.proofs.lemmas.moments.OneText.{one_text}
use Rattle.nx_log.specs.Json.{entry_data}
use Rattle.nx_log.specs.Times.{joined}
use Rattle.nx_log.proofs.laws.an_entry_has_one_json_line.Goals as goal

pub returns : goal.returns
returns c = λ one places line other is that.
    is.spelled
    ∙ ap (λ civil. compact_text (entry_data one places (joined civil ++ codes "Z")) ++ newline ∷ [])
    (one_text one.copy.moment is.civil that.civil is.shown that.shown)
    ∙ sym that.spelled
