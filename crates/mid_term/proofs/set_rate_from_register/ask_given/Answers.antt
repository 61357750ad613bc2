-- `mid_term::set_rate_from_register::ask_given` meets its contract: the goals that the check leaves. Assumes nothing.
use Rattle.mid_term.proofs.FromRegister.{rate_given}
use Rattle.mid_term.proofs.set_rate_from_register.ask_given.Goals as goal

pub returns-in-Some : goal.returns-in-Some
returns-in-Some c = search rate_given
