-- `hex_digits::word` is `word_of`. Assumes nothing.
use Rattle.hex_digits.proofs.Numbers.{word_said}
use Rattle.hex_digits.proofs.word.Goals as goal

pub returns : goal.returns
returns c = word_said c.args.line.now c.args.at c.number.result c.requires c.number.ensures
