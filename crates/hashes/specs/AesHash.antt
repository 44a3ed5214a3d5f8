-- The AES hash over long labels. Assumes nothing.
use Rattle.std.specs.Prelude.{ℕ, bit_xor}
use Rattle.aes.specs.Cipher.{cipher, fixed_key}
use Rattle.labels.specs.declared.long.Long.{Long}
use Rattle.labels.specs.Longs.{long, of_words}

-- Y, of high word u ⊕ v and low word u ⊕ t, for the label's high word u, its low word v and the tweak t
abbrev pub tweaked : Long → ℕ → Long
tweaked x t = of_words (bit_xor x.high t) (bit_xor x.high x.low)

-- AES-128 of a label's bytes under the key 00, 01, .., 0F
unfoldable pub enciphered : Long → Long
enciphered y = long.from (cipher fixed_key (long.bytes y))

abbrev pub aes_hash : Long → ℕ → Long
aes_hash x t = long.xor (enciphered (tweaked x t)) (tweaked x t)
