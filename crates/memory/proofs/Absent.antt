-- The first absent byte of an access, without a search: memory is one piece from 0 on.
-- Assumes nothing.
use Rattle.std.proofs.Common.{◌≡◌, ℕ, zero, suc, ◌+◌, ◌-◌, ◌^◌, ◌<◌, ◌≤◌, min, Bool, true, false, ltb, ap, sym, ◌∙◌, arith, le-ltb, lt-ltb}
use Rattle.model.specs.Bytes.{byte_of}
use Rattle.model.specs.Access.{scan, first_absent}

-- a search that passes k tests and fails the next, if there is one, ends there
scan_at : (ok : ℕ → Bool) (k i n : ℕ) → k ≤ n → ((j : ℕ) → i ≤ j → j < i + k → ok j ≡ true) → (k < n → ok (i + k) ≡ false) → scan ok i n ≡ i + k
unfolding scan
scan_at ok zero i zero l p q = omega arith
scan_at ok zero i (suc n) l p q =
    let e : i + 0 ≡ i = omega arith in
    let f : ok i ≡ false = ap ok (sym e) ∙ q (omega arith) in
    rw f (sym e)
scan_at ok (suc k) i zero l p q = absurd (omega arith)
scan_at ok (suc k) i (suc n) l p q =
    let e : i + suc k ≡ suc i + k = omega arith in
    rw (p i (omega arith) (omega arith), e)
    (scan_at ok k (suc i) n (omega arith) (λ j a b. p j (omega arith) (omega arith)) (λ b. ap ok (sym e) ∙ q (omega arith)))

module _ (len a n : ℕ) (la : a < 2 ^ 64) (ll : len < 2 ^ 64) where
  pub absent_past : a < len → min n (len - a) ≡ first_absent len a n
  unfolding first_absent
  absent_past h =
      sym (scan_at (λ i. ltb (byte_of a i) len) (min n (len - a)) 0 n (omega arith)
      (λ j b c. lt-ltb (byte_of a j) len (omega arith)) (λ c. le-ltb (byte_of a (0 + min n (len - a))) len (omega arith)) ∙ omega arith)

  pub absent_first : len ≤ a → 0 ≡ first_absent len a n
  unfolding first_absent
  absent_first h =
      sym (scan_at (λ i. ltb (byte_of a i) len) 0 0 n (omega arith) (λ j b c. absurd (omega arith)) (λ c. le-ltb (byte_of a (0 + 0)) len (omega arith)))
