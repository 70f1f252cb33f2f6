use Rattle.nx_code.proofs.lemmas.Packed.{elements_of-words}
use Rattle.nx_code.proofs.packed.words_of.Goals as goal

pub returns : goal.returns
returns c = rw (
  c.nth_word.ensures,
  c.nth_word-2.ensures,
  c.nth_word-3.ensures,
  c.nth_word-4.ensures,
  c.nth_word-5.ensures,
  c.nth_word-6.ensures,
  c.nth_word-7.ensures,
  c.nth_word-8.ensures,
)
    (elements_of-words c.args.elements)
