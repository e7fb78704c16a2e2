-- The numbers of reasons. (npapi.h, NPReason.)
use Rattle.std.specs.Prelude.{ℕ, ◌==◌, List, [], ◌∷◌, Option, Some, None, if◌then◌else◌}
use Rattle.np_values.specs.declared.reason.NpReason.{NpReason}
use Rattle.np_values.specs.declared.reason.NpReason.TheVariants.{Done, NetworkErr, UserBreak}

-- the number of the header
abbrev pub reason_code : NpReason → ℕ
reason_code Done = 0
reason_code NetworkErr = 1
reason_code UserBreak = 2

abbrev pub reasons : List NpReason
reasons = Done ∷ NetworkErr ∷ UserBreak ∷ []

abbrev pub reason_among : List NpReason → ℕ → Option NpReason
reason_among [] code = None
reason_among (reason ∷ others) code = if code == reason_code reason then Some reason else reason_among others code

-- the reason with this number, if there is one
abbrev pub reason_of : ℕ → Option NpReason
reason_of code = reason_among reasons code
