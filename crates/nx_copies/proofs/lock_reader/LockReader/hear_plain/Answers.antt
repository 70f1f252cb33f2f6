use Rattle.nx_copies.proofs.lock_reader.LockReader.hear_plain.Goals as goal

pub returns-in-Some-clause-plain : goal.returns-in-Some-clause-plain
returns-in-Some-clause-plain c is =
    let read = c.read_words.ensures.reads c.in-Some.field-0 c.in-Some.is in
    record {
      stands = λ first words n reads all. (read.reads first words n reads all).stands;
      brings = λ first words n reads all. record {
        bytes = _;
        grows = (read.reads first words n reads all).grows;
        nothing = read.nothing first words n reads all;
      };
    }
