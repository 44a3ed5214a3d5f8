-- A table's material in whole bytes, and how much it is at most. Assumes nothing.
use Rattle.std.proofs.Common.{ℕ, ◌-◌, ◌*◌, ◌^◌, ◌≤◌, add-mul, mul-le-mul, mul_left_comm, arith}
use Rattle.std.proofs.Math.Nat.{pow-le-pow_right}
use Rattle.labels.specs.Kind.{widest}
use Rattle.material.specs.Size.{table_bits, WholeBytes}

pub whole_bytes : WholeBytes
whole_bytes width n m =
    let e = add-mul (n - 1) (n * m) width in
    let a = mul_left_comm (n - 1) 8 width in
    let b = mul_left_comm (n * m) 8 width in
    omega arith

-- a product of two factors within their bounds
within : (a b c d : ℕ) → a ≤ c → b ≤ d → a * b ≤ c * d
within a b c d p q = mul-le-mul p q

pub few_bits : (κ n m : ℕ) → κ ≤ 8 * widest → n ≤ 8 → m ≤ 16 → table_bits κ n m ≤ 2 ^ 23
few_bits κ n m narrow inputs outputs =
    let hot : (n - 1) * κ ≤ 7 * 32768 = within _ _ 7 32768 (omega arith) (omega arith) in
    let few : n * m ≤ 8 * 16 = within _ _ 8 16 (omega arith) (omega arith) in
    let masks : n * m * κ ≤ 128 * 32768 = within _ _ 128 32768 few (omega arith) in
    let rows : 2 ^ n ≤ 2 ^ 8 = pow-le-pow_right {n = 2} (omega arith) {i = n} {j = 8} (omega arith) in
    let packed : 2 ^ n * m ≤ 256 * 16 = within _ _ 256 16 rows (omega arith) in
    omega arith
