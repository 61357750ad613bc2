-- A request is the one of its kind and its letter.
-- Assumes nothing.
use Rattle.std.specs.Prelude.{Some}
use mathlib.Core.Path.{◌≡◌, refl}
use Rattle.form.specs.declared.request.Request.{Request}
use Rattle.form.specs.declared.request.Request.TheVariants.{Declare, SetRate, SetRateFromRegister, AddPattern, CloseYear, Totals, RegisterMonth}
use Rattle.form.specs.Request.{kind, letter, request}

pub of_its_kind_and_letter : (asks : Request) → request (kind asks) (letter asks) ≡ Some asks
of_its_kind_and_letter (Declare l) = refl
of_its_kind_and_letter (SetRate l) = refl
of_its_kind_and_letter (SetRateFromRegister l) = refl
of_its_kind_and_letter (AddPattern l) = refl
of_its_kind_and_letter (CloseYear l) = refl
of_its_kind_and_letter (Totals l) = refl
of_its_kind_and_letter (RegisterMonth l) = refl
