-- `journal::apply::apply` meets its contract: the goals that the check leaves. Assumes nothing.
use Rattle.journal.proofs.LineRead.{closes_low, refuses, sums, declares, sets_rate, registers_month, sets_rate_alone, adds_pattern, closes_year}
use Rattle.journal.proofs.apply.apply.Goals as goal

pub apply_year-requires : goal.apply_year-requires
apply_year-requires c = search closes_low

pub returns-in-Err : goal.returns-in-Err
returns-in-Err c = search refuses

pub returns-in-Ok-Declare : goal.returns-in-Ok-Declare
returns-in-Ok-Declare c = search declares

pub returns-in-Ok-SetRate : goal.returns-in-Ok-SetRate
returns-in-Ok-SetRate c = search sets_rate

pub returns-in-Ok-AddPattern : goal.returns-in-Ok-AddPattern
returns-in-Ok-AddPattern c = search adds_pattern

pub returns-in-Ok-CloseYear : goal.returns-in-Ok-CloseYear
returns-in-Ok-CloseYear c = search closes_year

pub returns-in-Ok-Totals : goal.returns-in-Ok-Totals
returns-in-Ok-Totals c = search sums

pub returns-in-Ok-RegisterMonth : goal.returns-in-Ok-RegisterMonth
returns-in-Ok-RegisterMonth c = search registers_month

pub returns-in-Ok-SetRateFromRegister : goal.returns-in-Ok-SetRateFromRegister
returns-in-Ok-SetRateFromRegister c = search sets_rate_alone
