-- `record::read::read` meets its contract: the goals that the check leaves. Assumes nothing.
use mathlib.Core.Path.{refl}
use Rattle.std.proofs.lemmas.Result.{err_from_is_err_and}
use Rattle.record.proofs.Questions.{too_long, unknown_word, uncovered_letter, letter_there, all_asked}
use Rattle.record.proofs.read.read.Goals as goal

pub returns-then-line-gt-LONGEST : goal.returns-then-line-gt-LONGEST
returns-then-line-gt-LONGEST c = search too_long

pub returns-in_err-word : goal.returns-in_err-word
returns-in_err-word c =
    let p = err_from_is_err_and c.from_residual.result c.from_residual.ensures.1 in
    rw (p.1, p.2) (unknown_word _ _ _ _ c.if-line-gt-LONGEST.false refl _ c.first.ensures _ c.word_of.ensures c.in_err-word.ensures.ok_part _ c.in_err-word.ensures.value)

pub returns-in_err-request : goal.returns-in_err-request
returns-in_err-request c =
    let p = err_from_is_err_and c.from_residual-in_err-request.result c.from_residual-in_err-request.ensures.1 in
    rw (p.1, p.2) (uncovered_letter _ _ _ _ c.if-line-gt-LONGEST.false refl _ c.first.ensures _ c.word_of.ensures _ c.in_ok-word.ensures.ok_part _ c.request_of.ensures c.in_err-request.ensures.ok_part _ c.in_err-request.ensures.value)

pub ask_numbers-requires : goal.ask_numbers-requires
ask_numbers-requires c =
    letter_there _ c.args.minus.now c.args.sizes.now _ c.if-line-gt-LONGEST.false refl _ c.first.ensures _ c.word_of.ensures _ c.in_ok-word.ensures.ok_part _ c.request_of.ensures _ c.in_ok-request.ensures.ok_part

pub returns : goal.returns
returns c =
    all_asked _ _ _ _ c.if-line-gt-LONGEST.false refl _ c.first.ensures _ c.word_of.ensures _ c.in_ok-word.ensures.ok_part _ c.request_of.ensures _ c.in_ok-request.ensures.ok_part _ _ _ c.ask_numbers.ensures
