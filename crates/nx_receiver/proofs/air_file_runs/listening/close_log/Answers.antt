use Rattle.std.proofs.Common.{◌++◌}
use Rattle.std.proofs.lemmas.Result.{err_from_is_err_and}
use Rattle.nx_receiver.proofs.lemmas.listening.Ends.{closed-all, closed-part-0, closed-part-1}
use Rattle.nx_receiver.proofs.lemmas.listening.Ends.{closed-part-2}
use Rattle.nx_receiver.proofs.air_file_runs.listening.close_log.Goals as goal

pub returns-in_err-at_end-clause-closed : goal.returns-in_err-at_end-clause-closed
returns-in_err-at_end-clause-closed g c = λ starts old given bytes h w.
    let last = c.close-last in
    let printed = last.ensures.printed starts given h.log h.hears in
    let p = err_from_is_err_and c.from_residual.result c.from_residual.ensures.1 in
    let one = c.in_err-at_end.ensures.bytes in
    rw p.1 (rw p.2 (closed-part-0 starts c.args.listener last.result old _ given bytes one.0 _ h
    printed
    last.ensures.range one.1
    (one.2 old bytes w)))

pub returns-in_err-at_end-2-clause-closed : goal.returns-in_err-at_end-2-clause-closed
returns-in_err-at_end-2-clause-closed g c = λ starts old given bytes h w.
    let last = c.close-last in
    let printed = last.ensures.printed starts given h.log h.hears in
    let p = err_from_is_err_and c.from_residual-in_err-at_end-2.result
    c.from_residual-in_err-at_end-2.ensures.1 in
    let one = c.in_ok-at_end.ensures.bytes in
    let two = c.in_err-at_end-2.ensures.bytes in
    rw p.1 (rw p.2 (closed-part-1 starts c.args.listener last.result old _ given bytes one.0 two.0 _
    h printed
    last.ensures.range one.1
    two.1 (two.2 old (bytes ++ one.0) (one.2 old bytes w))))

pub returns-in_err-at_end-3-clause-closed : goal.returns-in_err-at_end-3-clause-closed
returns-in_err-at_end-3-clause-closed g c = λ starts old given bytes h w.
    let last = c.close-last in
    let printed = last.ensures.printed starts given h.log h.hears in
    let p = err_from_is_err_and c.from_residual-in_err-at_end-3.result
    c.from_residual-in_err-at_end-3.ensures.1 in
    let one = c.in_ok-at_end.ensures.bytes in
    let two = c.in_ok-at_end-2.ensures.bytes in
    let three = c.in_err-at_end-3.ensures.bytes in
    rw p.1 (rw p.2 (closed-part-2 starts c.args.listener last.result old _ given bytes one.0 two.0
    three.0 _ h
    printed last.ensures.range one.1 two.1 three.1
    (three.2 old ((bytes ++ one.0) ++ two.0) (two.2 old (bytes ++ one.0) (one.2 old bytes w)))))

pub returns-clause-closed : goal.returns-clause-closed
returns-clause-closed g c = λ starts old given bytes h w.
    let last = c.close-last in
    let printed = last.ensures.printed starts given h.log h.hears in
    let one = c.in_ok-at_end.ensures.bytes in
    let two = c.in_ok-at_end-2.ensures.bytes in
    let three = c.in_ok-at_end-3.ensures.bytes in
    closed-all starts c.args.listener last.result old _ given bytes one.0 two.0 three.0 _ _ _ _ h
    printed
    one.1
    two.1 three.1
    (three.2 old ((bytes ++ one.0) ++ two.0)
    (two.2 old (bytes ++ one.0) (one.2 old bytes w))).appended
    c.elements-bits.ensures c.entries.ensures
    c.in_ok-at_end.ensures.entries c.in_ok-at_end-2.ensures.entries c.in_ok-at_end-3.ensures.entries
