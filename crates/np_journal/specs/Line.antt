-- The bytes of a journal's lines. (This project's own.)
use Rattle.std.specs.Prelude.{ℕ, List, [], ◌∷◌, ◌++◌, codes}
use Rattle.std.specs.Fmt.{decimal, signed_decimal}
use Rattle.std.specs.List.{flat_map}
use Rattle.np_values.specs.Handler.{handler_word}
use Rattle.np_values.specs.NpError.{code_of}
use Rattle.np_values.specs.NpReason.{reason_code}
use Rattle.np_values.specs.Quoted.{quoted}
use Rattle.np_values.specs.Value.{printed, printed_name}
use Rattle.np_idents.specs.IdKey.{printed_key}
use Rattle.np_idents.specs.declared.key.IdKey.{IdKey}
use Rattle.np_idents.specs.declared.op.Op.{Op}
use Rattle.np_idents.specs.declared.op.Op.TheVariants as ops
use Rattle.np_journal.specs.declared.streamed.Streamed.{Streamed}
use Rattle.np_journal.specs.declared.streamed.Streamed.TheVariants as streams
use Rattle.np_journal.specs.declared.printed.Printed.{Printed}
use Rattle.np_journal.specs.declared.printed.Printed.TheVariants.{Code, Yes, No, Threw, Ids, Pumped}
use Rattle.np_journal.specs.declared.line.Line.{Line}
use Rattle.np_journal.specs.declared.line.Line.TheVariants.{Created, Entered, HandlerRun, TaskBegun, ProxyGone, Invalidated, Deallocated, Noted, QueueFull, StreamAnswered, CommandResult}

-- an operation: its word, and its identifier after a space where it has one
abbrev pub printed_op : Op → List ℕ
printed_op (ops.Invoke key) = codes "invoke " ++ printed_key key
printed_op ops.Default = codes "default"
printed_op ops.Construct = codes "construct"
printed_op (ops.Get key) = codes "get " ++ printed_key key
printed_op (ops.Put key) = codes "set " ++ printed_key key
printed_op (ops.Remove key) = codes "remove " ++ printed_key key
printed_op (ops.HasMethod key) = codes "hasmethod " ++ printed_key key
printed_op (ops.HasProperty key) = codes "hasproperty " ++ printed_key key
printed_op ops.Enumerate = codes "enumerate"

-- a stream call: its word, what it was called with, and the number that it was answered
abbrev pub printed_stream : Streamed → List ℕ
printed_stream (streams.New number) = codes "new " ++ signed_decimal number
printed_stream (streams.Ready number) = codes "ready " ++ signed_decimal number
printed_stream (streams.Write offset length taken) =
    codes "write " ++ (decimal offset ++ (32 ∷ (decimal length ++ (32 ∷ signed_decimal taken))))
printed_stream streams.File = codes "file"
printed_stream (streams.Destroy reason) = codes "destroy " ++ decimal (reason_code reason)
printed_stream (streams.Notify reason) = codes "notify " ++ decimal (reason_code reason)

-- an identifier after a space
abbrev pub spaced_key : IdKey → List ℕ
spaced_key key = 32 ∷ printed_key key

-- the result of a command
abbrev pub printed_result : Printed → List ℕ
printed_result (Code error) = codes "error " ++ decimal (code_of error)
printed_result (Yes value dead) = codes "true " ++ printed dead value
printed_result No = codes "false"
printed_result (Threw text) = codes "threw " ++ quoted text
printed_result (Ids keys) = codes "ids" ++ flat_map spaced_key keys
printed_result (Pumped number) = codes "pumped " ++ decimal number

-- what a line says, before the byte that ends it
abbrev pub line_words : Line → List ℕ
line_words (Created name) = codes "+ " ++ printed_name name
line_words (Entered name op) = codes "> " ++ (printed_name name ++ (32 ∷ printed_op op))
line_words (HandlerRun instance handler) = codes "> inst:" ++ (decimal instance ++ (32 ∷ handler_word handler))
line_words (TaskBegun instance text) = codes "> inst:" ++ (decimal instance ++ (codes " task " ++ quoted text))
line_words (ProxyGone name) = codes "x " ++ printed_name name
line_words (Invalidated name) = codes "! " ++ printed_name name
line_words (Deallocated name) = codes "- " ++ printed_name name
line_words (Noted value dead) = codes "n " ++ printed dead value
line_words (QueueFull instance text) = codes "q inst:" ++ (decimal instance ++ (32 ∷ quoted text))
line_words (StreamAnswered stream call) = codes "s " ++ (decimal stream ++ (32 ∷ printed_stream call))
line_words (CommandResult number result) = decimal number ++ (codes ": " ++ printed_result result)

-- the bytes of a line: what it says, and a line feed
abbrev pub line_text : Line → List ℕ
line_text line = line_words line ++ 10 ∷ []

-- the bytes of a journal: those of its lines, one after another
abbrev pub journal_text : List Line → List ℕ
journal_text lines = flat_map line_text lines
