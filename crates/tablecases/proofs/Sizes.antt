-- How much a case's material is at most. Assumes nothing.
use Rattle.std.proofs.Common.{ℕ, ◌*◌, ◌^◌, ◌≤◌, mul-le-mul, arith, pow_mono}
use Rattle.material.specs.Size.{labels_of, bytes_of}

-- a product of two factors within their bounds
within : (a b c d : ℕ) → a ≤ c → b ≤ d → a * b ≤ c * d
within a b c d p q = mul-le-mul p q

pub few_bytes : (width n m : ℕ) → width ≤ 16 → n ≤ 8 → m ≤ 16 → bytes_of width n m ≤ 4096
few_bytes width n m narrow inputs outputs =
    let few : n * m ≤ 8 * 16 = within _ _ 8 16 inputs outputs in
    let labels : labels_of n m * width ≤ 135 * 16 = within _ _ 135 16 (omega arith) narrow in
    let rows : 2 ^ n ≤ 2 ^ 8 = pow_mono {i = n} {j = 8} inputs in
    let packed : 2 ^ n * m ≤ 256 * 16 = within _ _ 256 16 rows outputs in
    omega arith
