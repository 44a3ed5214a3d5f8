-- A long label's bytes are those of its two words. Assumes nothing.
use Rattle.std.proofs.Common.{◌≡◌, ℕ, ◌/◌, ◌%◌, ◌^◌, ◌<◌, List, ◌++◌, sym, ap, ◌∙◌, arith}
use Rattle.aes.specs.Bytes.{byte, bytes8}
use Rattle.aes.specs.Cipher.{cipher, fixed_key}
use Rattle.hashes.specs.AesHash.{enciphered}
use Rattle.labels.specs.Longs.{long, of_words}
use Rattle.labels.specs.Words.{eight}

same_bytes : (n : ℕ) → n < 2 ^ 64 → eight n ≡ bytes8 n
unfolding byte bytes8
same_bytes n h =
    let first : n % 256 ≡ n / 1 % 256 = omega arith in
    let last : n / 72057594037927936 ≡ n / 72057594037927936 % 256 = omega arith in
    cc

pub label_bytes : (l h : ℕ) → l < 2 ^ 64 → h < 2 ^ 64 → long.bytes (of_words l h) ≡ bytes8 l ++ bytes8 h
label_bytes l h p q = let e = same_bytes l p in let f = same_bytes h q in cc

-- the label that the bytes of two words read as
pub label_from : (l h : ℕ) → l < 2 ^ 64 → h < 2 ^ 64 → long.from (bytes8 l ++ bytes8 h) ≡ of_words l h
label_from l h p q = sym (ap long.from (label_bytes l h p q)) ∙ long.back (of_words l h)

-- the cipher on blocks, as the cipher on labels
pub on_labels : (l h p q : ℕ) (B R : List ℕ) → l < 2 ^ 64 → h < 2 ^ 64 → p < 2 ^ 64 → q < 2 ^ 64
    → B ≡ bytes8 l ++ bytes8 h → R ≡ cipher fixed_key B → bytes8 p ++ bytes8 q ≡ R → of_words p q ≡ enciphered (of_words l h)
unfolding enciphered
on_labels l h p q B R hl hh hp hq b e w =
    sym (label_from p q hp hq) ∙ ap long.from (w ∙ (e ∙ ap (cipher fixed_key) (b ∙ sym (label_bytes l h hl hh))))
