-- `has_lengths`: the three tests are the model's, since the letter has as many ages.
use Rattle.std.proofs.Common.{arith}
use Rattle.model.proofs.Ages.{ages_small}
use Rattle.year_rows.proofs.questions.has_lengths.Goals as goal

pub overflow_add-rows : goal.overflow_add-rows
overflow_add-rows c = omega (arith, ages_small c.args.letter)
