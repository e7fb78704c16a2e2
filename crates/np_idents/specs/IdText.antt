-- The bytes of an identifier's text. (This project's own limit.)
use Rattle.std.specs.Prelude.{ℕ, List, length, Bool, nat_le, ◌&&◌}
use Rattle.std.specs.Str.{is_utf8}

-- at most 256 bytes of UTF-8
unfoldable pub is_id_text : List ℕ → Bool
is_id_text bytes = nat_le (length bytes) 256 && is_utf8 bytes
