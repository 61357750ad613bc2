-- `mid_term::register_month::register_month` meets its contract: the goals that the check leaves. Assumes nothing.
use Rattle.mid_term.proofs.Registered.{month_on, date_refused, rate_refused}
use Rattle.mid_term.proofs.register_month.register_month.Goals as goal
use Rattle.mid_term.proofs.register_month.register_month.Goals.{in_default-via-in-Some+else-is_date, in_default-via-in_default}

pub returns-in-Some : goal.returns-in-Some
returns-in-Some c = search month_on

pub returns-in_default : goal.returns-in_default
returns-in_default c =
    elim c.in_default.branch [
      | in_default-via-in-Some+else-is_date w ↦ search date_refused
      | in_default-via-in_default w ↦ search rate_refused
    ]
