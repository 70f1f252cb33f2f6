use Rattle.std.proofs.lemmas.Result.{err_from_is_err_and}
use Rattle.nx_log.proofs.lemmas.beginnings.Joins.{lacks_within}
use Rattle.nx_log.proofs.lemmas.beginnings.Stages.{behind_characters, behind_end, behind_errors, behind_mark, behind_name, behind_time, first_time, some_characters, some_end, some_errors, some_mark, some_newline, within_newline}
use Rattle.nx_log.proofs.entries.head.head_at.Goals as goal

pub returns-in_err-identity-clause-lacks : goal.returns-in_err-identity-clause-lacks
returns-in_err-identity-clause-lacks c =
    let p = err_from_is_err_and c.from_residual.result c.from_residual.ensures.1 in
    rw p.1 (rw p.2 (lacks_within _ _ _ _ (λ i t is. some_mark) c.in_err-identity.ensures.lacks))

pub returns-in_err-channel-clause-lacks : goal.returns-in_err-channel-clause-lacks
returns-in_err-channel-clause-lacks c =
    let p = err_from_is_err_and c.from_residual-in_err-channel.result
    c.from_residual-in_err-channel.ensures.1 in
    rw p.1 (rw p.2 (behind_name _ _ c.in_ok-identity.identity _ c.in_ok-identity.ensures.found
    (lacks_within _ _ _ _ (λ n t is. first_time) c.in_err-channel.ensures.lacks)))

pub returns-in_err-moment-clause-lacks : goal.returns-in_err-moment-clause-lacks
returns-in_err-moment-clause-lacks c =
    let p = err_from_is_err_and c.from_residual-in_err-moment.result
    c.from_residual-in_err-moment.ensures.1 in
    rw p.1 (rw p.2 (behind_name _ _ c.in_ok-identity.identity _ c.in_ok-identity.ensures.found
    (behind_mark _ _ c.in_ok-channel.channel _ c.in_ok-channel.ensures.found
    (lacks_within _ _ _ _ (λ m t is. some_end) c.in_err-moment.ensures.lacks))))

pub returns-in_err-how-clause-lacks : goal.returns-in_err-how-clause-lacks
returns-in_err-how-clause-lacks c =
    let p = err_from_is_err_and c.from_residual-in_err-how.result
    c.from_residual-in_err-how.ensures.1 in
    let time = c.in_ok-moment.ensures.found in
    rw p.1 (rw p.2 (behind_name _ _ c.in_ok-identity.identity _ c.in_ok-identity.ensures.found
    (behind_mark _ _ c.in_ok-channel.channel _ c.in_ok-channel.ensures.found
    (behind_time _ _ c.in_ok-moment.moment time.0 _ c.in_ok-moment.ensures.in_range time.1 time.2
    (lacks_within _ _ _ _ (λ h t is. some_errors) c.in_err-how.ensures.lacks)))))

pub returns-in_err-errors-clause-lacks : goal.returns-in_err-errors-clause-lacks
returns-in_err-errors-clause-lacks c =
    let p = err_from_is_err_and c.from_residual-in_err-errors.result
    c.from_residual-in_err-errors.ensures.1 in
    let time = c.in_ok-moment.ensures.found in
    rw p.1 (rw p.2 (behind_name _ _ c.in_ok-identity.identity _ c.in_ok-identity.ensures.found
    (behind_mark _ _ c.in_ok-channel.channel _ c.in_ok-channel.ensures.found
    (behind_time _ _ c.in_ok-moment.moment time.0 _ c.in_ok-moment.ensures.in_range time.1 time.2
    (behind_end _ _ c.in_ok-how.how _ c.in_ok-how.ensures.found
    (lacks_within _ _ _ _ (λ n t is. some_characters n is.few) c.in_err-errors.ensures.lacks))))))

pub returns-in_err-characters-clause-lacks : goal.returns-in_err-characters-clause-lacks
returns-in_err-characters-clause-lacks c =
    let p = err_from_is_err_and c.from_residual-in_err-characters.result
    c.from_residual-in_err-characters.ensures.1 in
    let time = c.in_ok-moment.ensures.found in
    let errors = c.in_ok-errors.ensures in
    rw p.1 (rw p.2 (behind_name _ _ c.in_ok-identity.identity _ c.in_ok-identity.ensures.found
    (behind_mark _ _ c.in_ok-channel.channel _ c.in_ok-channel.ensures.found
    (behind_time _ _ c.in_ok-moment.moment time.0 _ c.in_ok-moment.ensures.in_range time.1 time.2
    (behind_end _ _ c.in_ok-how.how _ c.in_ok-how.ensures.found
    (behind_errors _ _ c.in_ok-errors.errors _ errors.in_range.1 errors.found
    (lacks_within _ _ _ _ (λ n t is. some_newline c.in_ok-errors.errors n is.enough)
    c.in_err-characters.ensures.lacks)))))))

pub returns-in_err-rest-clause-lacks : goal.returns-in_err-rest-clause-lacks
returns-in_err-rest-clause-lacks c =
    let p = err_from_is_err_and c.from_residual-in_err-rest.result
    c.from_residual-in_err-rest.ensures.1 in
    let time = c.in_ok-moment.ensures.found in
    let errors = c.in_ok-errors.ensures in
    let characters = c.in_ok-characters.ensures in
    rw p.1 (rw p.2 (behind_name _ _ c.in_ok-identity.identity _ c.in_ok-identity.ensures.found
    (behind_mark _ _ c.in_ok-channel.channel _ c.in_ok-channel.ensures.found
    (behind_time _ _ c.in_ok-moment.moment time.0 _ c.in_ok-moment.ensures.in_range time.1 time.2
    (behind_end _ _ c.in_ok-how.how _ c.in_ok-how.ensures.found
    (behind_errors _ _ c.in_ok-errors.errors _ errors.in_range.1 errors.found
    (behind_characters _ _ c.in_ok-errors.errors c.in_ok-characters.characters _
    characters.in_range.0 characters.in_range.1 characters.found
    (within_newline _ _ c.in_ok-errors.errors c.in_ok-characters.characters
    characters.in_range.0 c.in_err-rest.ensures.lacks))))))))
