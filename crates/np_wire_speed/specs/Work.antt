-- What is measured. (This project's own.)
use Rattle.std.specs.Prelude.{◌≡◌, ℕ, List}
use Rattle.np_message.specs.Message.{Message}
use Rattle.np_message.specs.Encoding.{encoding}
use Rattle.np_message.specs.Rules.{KeepsFormat, IsTyped}
use Rattle.np_wire.specs.Feed.{IsEncoded}

-- the bytes of one message of the format
abbrev pub IsOneMessage : List ℕ → Type 0
IsOneMessage bytes = (m : Message) × KeepsFormat m × IsTyped m × (bytes ≡ encoding m)

-- this message and the bytes after it
abbrev pub HasFront : Message → List ℕ → Type 0
HasFront m bytes = (rest : List ℕ) × IsEncoded m bytes rest

-- a message and the bytes after it
abbrev pub BeginsWithMessage : List ℕ → Type 0
BeginsWithMessage bytes = (m : Message) × HasFront m bytes
