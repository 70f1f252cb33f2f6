use Rattle.std.proofs.Common.{◌≡◌, ◌++◌, [], get_or, take, sym, ap, ◌∙◌, arith}
use Rattle.std.specs.List.{flat_map}
use Rattle.nx_code.specs.Table.{row, table}
use Rattle.nx_code.specs.Signal.{row_of_signal}
use Rattle.nx_fec.specs.texts.TableText.{table_line}
use Rattle.nx_fec.proofs.lemmas.texts.TableText.{lines_more, lines_all}
use Rattle.nx_fec.proofs.texts.table_text.lines.Goals as goal

pub loop-at-preserved : goal.loop-at-preserved
loop-at-preserved c =
    let at = c.loop-at.at in
    let i = c.loop-at.invariant in
    let same : row_of_signal c.signal_at.result ≡ get_or table at (row 0x00 [] []) =
    ap (λ k. get_or table k (row 0x00 [] [])) c.signal_at.ensures in (
      c.push_line.ensures.line ∙ ap (λ l. l ++ table_line (row_of_signal c.signal_at.result)) i.0
          ∙ ap (λ r. flat_map table_line (take at table) ++ table_line r) same
          ∙ sym (lines_more at c.loop-at-test.true),
      omega (arith, c.push_line.ensures.grows, i.1),
    )

pub returns : goal.returns
returns c =
    let all : c.loop-at.at ≡ 35 = omega (arith, c.loop-at-test.false, c.loop-at.auto.at-end) in
    c.loop-at.invariant.0 ∙ ap (λ k. flat_map table_line (take k table)) all ∙ lines_all
