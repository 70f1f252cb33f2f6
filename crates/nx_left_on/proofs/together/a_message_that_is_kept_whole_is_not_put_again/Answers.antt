use Rattle.nx_left_on.proofs.together.a_message_that_is_kept_whole_is_not_put_again.Goals as goal

pub returns : goal.returns
returns c = record {
  answered = λ log watch after channel parts message numbers kept is heard came.
      (kept.answered_whole is heard came).0;
  last = λ log watch after channel parts message numbers kept is heard came.
      let stands = (kept.answered_whole is heard came).1 in
      (stands.entry, stands.named, stands.last, stands.not_again);
  surely = λ log watch after channel parts message numbers kept heard came.
      kept.surely_whole heard came;
}
