-- What a record asks, by its word and its letter.
-- Assumes nothing: these are definitions.
use Rattle.std.specs.Prelude.{Bool, true, false, ℕ, Option, None, Some, if◌then◌else◌}
use Rattle.model.specs.Letter.{covered}
use Rattle.model.specs.Record as model
use Rattle.form.specs.declared.request.Request.{Request}
use Rattle.form.specs.declared.request.Request.TheVariants.{Declare, SetRate, SetRateFromRegister, AddPattern, CloseYear, Totals, RegisterMonth}

-- the kind of the record that makes a request
abbrev pub kind : Request → model.Word
kind (Declare l) = model.LINE
kind (SetRate l) = model.RATE
kind (SetRateFromRegister l) = model.RATE_ALONE
kind (AddPattern l) = model.PATT
kind (CloseYear l) = model.YEAR
kind (Totals l) = model.SUM
kind (RegisterMonth l) = model.MIDT

-- the byte that its second field is; 0, which is no letter, where that is not one byte
abbrev pub letter : Request → ℕ
letter (Declare l) = l
letter (SetRate l) = l
letter (SetRateFromRegister l) = l
letter (AddPattern l) = l
letter (CloseYear l) = l
letter (Totals l) = l
letter (RegisterMonth l) = l

-- "But for RATE: is the second field a covered letter?": MIDT has none either (F-4)
abbrev pub is_lettered : model.Word → ℕ → Bool
is_lettered model.LINE l = covered l
is_lettered model.RATE l = true
is_lettered model.RATE_ALONE l = true
is_lettered model.PATT l = covered l
is_lettered model.YEAR l = covered l
is_lettered model.SUM l = covered l
is_lettered model.MIDT l = true
is_lettered model.OTHER l = false

-- the request of a kind of record, with the byte of its letter; another word asks nothing
abbrev pub request : model.Word → ℕ → Option Request
request model.LINE l = Some (Declare l)
request model.RATE l = Some (SetRate l)
request model.RATE_ALONE l = Some (SetRateFromRegister l)
request model.PATT l = Some (AddPattern l)
request model.YEAR l = Some (CloseYear l)
request model.SUM l = Some (Totals l)
request model.MIDT l = Some (RegisterMonth l)
request model.OTHER l = None

-- what a record asks, if its letter is covered where it must have one
abbrev pub requested : model.Word → ℕ → Option Request
requested word l = if is_lettered word l then request word l else None
