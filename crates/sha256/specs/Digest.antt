-- SHA-256 of a message of bytes (FIPS 180-4, 6.2). Assumes nothing.
use Rattle.std.specs.Prelude.{ℕ, zero, suc, ◌*◌, ◌/◌, List, ◌++◌, length, take, drop}
use Rattle.sha256.specs.declared.state.State.{State}
use Rattle.sha256.specs.Words.{four}
use Rattle.sha256.specs.Constants.{initial}
use Rattle.sha256.specs.Compression.{compressed}
use Rattle.sha256.specs.Padding.{padded}

-- M(i): block i, counted from 0
abbrev pub block : List ℕ → ℕ → List ℕ
block bytes i = take 64 (drop (64 * i) bytes)

-- H(i): the hash value after i blocks
abbrev pub hashed : State → List ℕ → ℕ → State
hashed start bytes zero = start
hashed start bytes (suc i) = compressed (hashed start bytes i) (block bytes i)

-- the 32 bytes of a hash value
unfoldable pub output : State → List ℕ
output s =
    four s.a ++ (four s.b ++ (four s.c ++ (four s.d ++ (four s.e ++ (four s.f ++ (four s.g ++ four s.h))))))

unfoldable pub digest : List ℕ → List ℕ
digest message = output (hashed initial (padded message) (length (padded message) / 64))
