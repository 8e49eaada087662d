-- Answers as document 01 numbers them.
-- Assumes nothing.
use Rattle.std.specs.Prelude.{ℕ, List, [], ◌∷◌, Result, Ok, Err, Option, Some, None}
use Rattle.card.specs.declared.DeviceError.{DeviceError}
use Rattle.card.specs.declared.DeviceError.TheVariants.{Interrupted as CutOff, Error as Fails}
use Rattle.card.specs.declared.Failure.{Failure}
use Rattle.card.specs.declared.Failure.TheVariants.{Interrupted, Zero, Whole, Error, Refused}

-- An answer as document 01 numbers it: its number, and then its values. 0 to 3 are the numbers that a trace gives an
-- answer; 4, whole, and 5, refused with the refusal's number, are answers that no trace can claim.
abbrev pub Said : Type 0
Said = List ℕ

abbrev pub ok : ℕ → Said
ok n = 0 ∷ n ∷ []

abbrev pub done : Said
done = 0 ∷ []

abbrev pub interrupted : Said
interrupted = 1 ∷ []

abbrev pub zero_taken : Said
zero_taken = 2 ∷ []

abbrev pub error : ℕ → Said
error code = 3 ∷ code ∷ []

abbrev pub whole : Said
whole = 4 ∷ []

abbrev pub refused : ℕ → Said
refused number = 5 ∷ number ∷ []

-- what each failure says
abbrev pub failed : Failure → Said
failed Interrupted = interrupted
failed Zero = zero_taken
failed Whole = whole
failed (Error code) = error code
failed (Refused number) = refused number

-- What a call answers: ok with its count, a bare ok, or a failure
abbrev pub Answer : Type 0
Answer = Result (Option ℕ) Failure

-- what each says
abbrev pub said : Answer → Said
said (Ok (Some n)) = ok n
said (Ok None) = done
said (Err f) = failed f

-- the same of a call that answers a count, and of one that answers nothing more than ok
abbrev pub said_count : Result ℕ Failure → Said
said_count (Ok n) = ok n
said_count (Err f) = failed f

abbrev pub said_done : Result Unit Failure → Said
said_done (Ok nothing) = done
said_done (Err f) = failed f

-- what the device says no with is handed up
abbrev pub failure_by : DeviceError → Failure
failure_by CutOff = Interrupted
failure_by (Fails code) = Error code
