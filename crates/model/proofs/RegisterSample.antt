-- F-4's run with a register, computed by the definition of the whole run, from the input's bytes to the output's.
-- Assumes nothing.
use mathlib.Core.Path.{◌≡◌, refl}
use Rattle.model.specs.Input.{lines_of}
use Rattle.model.specs.Field.{fields}
use Rattle.model.specs.Number.{natural, is_plain, is_written, integer, digits_before, decimal}
use Rattle.model.specs.Record.{word_of, all_written, call_from}
use Rattle.model.specs.Question.{line_questions, book_questions}
use Rattle.model.specs.Answer.{text, done_text}
use Rattle.model.specs.Step.{questions, refuse, accept, step}
use Rattle.model.specs.Run.{output, run}
use Rattle.model.specs.RegisterSample.{register_input, register_output}

pub register_sample : run register_input ≡ register_output
unfolding run output step questions refuse accept line_questions book_questions word_of all_written call_from natural is_plain is_written integer digits_before decimal fields lines_of text done_text
register_sample = refl
