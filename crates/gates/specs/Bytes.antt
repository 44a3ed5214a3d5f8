-- Parts of a string of bytes. Assumes nothing.
use Rattle.std.specs.Prelude.{ℕ, ◌+◌, List, ◌++◌, length, take, drop}

-- the bytes with those from a place on replaced
abbrev pub laid : ℕ → List ℕ → List ℕ → List ℕ
laid place new bytes = take place bytes ++ (new ++ drop (place + length new) bytes)

-- so many bytes from a place on
abbrev pub bytes_at : ℕ → ℕ → List ℕ → List ℕ
bytes_at place size bytes = take size (drop place bytes)
