-- `mid_term::set_rate_from_register::set_rate_from_register` meets its contract: the goals that the check leaves. Assumes nothing.
use Rattle.mid_term.proofs.FromRegister.{year_on, year_refused}
use Rattle.mid_term.proofs.set_rate_from_register.set_rate_from_register.Goals as goal

pub returns-in-Some : goal.returns-in-Some
returns-in-Some c = search year_on

pub returns-in-None : goal.returns-in-None
returns-in-None c = search year_refused
