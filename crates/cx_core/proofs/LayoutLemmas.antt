-- The words of replicas lie within the table.
use Rattle.std.proofs.Common.{◌+◌, ◌*◌, ◌<◌, ◌≤◌, ℕ, suc, arith}
use Rattle.std.proofs.Math.Nat.{mul-le-mul_left, mul-suc}
use Rattle.cx_core.specs.Layout.{per_at, vol_at, word_count}

-- a whole replica does, and so do the words of the medium behind
pub replica_within : (callers region replica : ℕ) → replica < 2 * callers → vol_at callers region replica 0 + region + region * (2 * callers) ≤ word_count callers region
replica_within callers region replica few =
    let m = mul-le-mul_left {m = suc replica} {n = 2 * callers} region (omega (arith, few)) in
    let e = mul-suc region replica in
    omega (arith, m, e)

pub vol_within : (callers region replica i : ℕ) → replica < 2 * callers → i < region → vol_at callers region replica i + region * (2 * callers) < word_count callers region
vol_within callers region replica i few below = omega (arith, replica_within callers region replica few, below)

pub per_within : (callers region replica i : ℕ) → replica < 2 * callers → i < region → per_at callers region replica i < word_count callers region
per_within callers region replica i few below = omega (arith, vol_within callers region replica i few below)
