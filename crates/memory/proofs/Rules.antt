-- The rules of the regions, as the code tests them.
-- Assumes nothing.
use Rattle.std.proofs.Common.{◌≡◌, ℕ, ◌+◌, ◌-◌, ◌*◌, ◌%◌, ◌^◌, ◌<◌, ◌≤◌, Bool, ◌&&◌, eqb, leb, ap, arith, pow_pos, pow_mono, le-leb}
use lib.Bits.{bit_and, and_mask}
use Rattle.std.proofs.lemmas.Nat.{one_shl}
use Rattle.model.specs.Regions.{implicit_rule_at}
use Rattle.memory.proofs.Truth.{same_order}

-- `!((1 << k) - 1)`
not_low : (k : ℕ) → k < 64 → (2 ^ 64 - 1) - (1 * 2 ^ k % 2 ^ 64 - 1) ≡ 2 ^ 64 - 2 ^ k
not_low k h = rw (one_shl k 64 h) (omega (arith, pow_pos k))

-- the tests by shifts and masks are the rule
pub implicit_law : (k base mask : ℕ) → k ≤ 48
    → (eqb mask ((2 ^ 64 - 1) - (1 * 2 ^ k % 2 ^ 64 - 1))
    && (eqb (bit_and base (1 * 2 ^ k % 2 ^ 64 - 1)) 0 && leb base (2 ^ 48 - ((1 * 2 ^ k % 2 ^ 64 - 1) + 1)))) ≡ implicit_rule_at k base mask
implicit_law k base mask h =
    let l : k < 64 = omega arith in
    let p = pow_mono h in
    let o = pow_pos k in
    rw (not_low k l, one_shl k 64 l, and_mask base k, le-leb k 48 h)
    (ap (λ (b : Bool). eqb mask (2 ^ 64 - 2 ^ k) && (eqb (base % 2 ^ k) 0 && b))
    (same_order base (2 ^ 48 - (2 ^ k - 1 + 1)) (base + 2 ^ k) (2 ^ 48) (λ t. omega arith) (λ t. omega arith)))
