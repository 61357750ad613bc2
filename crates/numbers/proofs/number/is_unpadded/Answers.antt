-- `numbers::number::is_unpadded` meets its contract: the goals that the check leaves. Assumes nothing.
use native.Mathlib.Omega.{arith}
use Rattle.numbers.proofs.Digits.{unpadded_none, unpadded_one, unpadded_more}
use Rattle.numbers.proofs.number.is_unpadded.Goals as goal

pub returns-in-0 : goal.returns-in-0
returns-in-0 c = search unpadded_none

pub returns-in-1 : goal.returns-in-1
returns-in-1 c = unpadded_one c.args.rest.now _ c.requires (omega arith) (omega arith)

pub returns-in_default : goal.returns-in_default
returns-in_default c = search unpadded_more
