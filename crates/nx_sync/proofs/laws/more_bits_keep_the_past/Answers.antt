use Rattle.nx_sync.proofs.lemmas.states.KeptPast.{Past-more, Finds-more, IsReleased-more, word_at-more}
use Rattle.nx_sync.proofs.lemmas.states.KeptPast.{first_role-more, wrong_until-more, IsSecondPhasing1-more}
use Rattle.nx_sync.proofs.lemmas.states.KeptPast.{IsSecondPhasing1-less}
use Rattle.nx_sync.proofs.laws.more_bits_keep_the_past.Goals as goal

pub returns : goal.returns
returns c = record {
  past = Past-more;
  found = Finds-more;
  released = λ bits more t w how here r. IsReleased-more bits more t w here.enough r;
  words = word_at-more;
  roles = λ bits more t here. first_role-more bits more t here.enough here.heard;
  seconds = λ bits more t k here h. (
    IsSecondPhasing1-less bits more t k here.enough h,
    IsSecondPhasing1-more bits more t k
        here.enough h,
  );
  wrong = wrong_until-more;
}
