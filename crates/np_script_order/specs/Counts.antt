-- How much there is, as the code counts it and as the grammar does.
use Rattle.std.specs.Prelude.{ℕ, ◌*◌, List, length, Option, Some, None}
use Rattle.np_script_grammar.specs.declared.line.Field.{Field}
use Rattle.np_script_grammar.specs.Order.{Counts}
use Rattle.np_script_order.specs.declared.count.Tally.{Tally}

-- the counts of the code as those of the grammar
abbrev pub counts_of : Tally → Counts
counts_of t = record { classes = t.classes; members = t.members; actions = t.actions; tasks = t.tasks; creates = t.creates; bytes = t.bytes }

-- a piece that many times, where both are there
abbrev pub times_piece : Option ℕ → Option (List ℕ) → ℕ
times_piece (Some times) (Some piece) = times * length piece
times_piece times piece = 0

-- what a field holds, if it is there
abbrev pub held : {A : Type 0} → (Field → Option A) → Option Field → Option A
held holds None = None
held holds (Some field) = holds field
