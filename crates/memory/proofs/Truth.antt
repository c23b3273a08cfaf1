-- Laws of the code's tests as Bools.
-- Assumes nothing.
use Rattle.std.proofs.Common.{◌≡◌, ℕ, ◌≤◌, Bool, true, false, cond, ◌&&◌, ◌||◌, leb, sym, refl, ◌∙◌, le-leb, leb-true}

-- two orders that say the same
pub same_order : (m n p q : ℕ) → (m ≤ n → p ≤ q) → (p ≤ q → m ≤ n) → leb m n ≡ leb p q
same_order m n p q f g = go (leb m n) (leb p q) refl refl
  where
    go : (a b : Bool) → leb m n ≡ a → leb p q ≡ b → leb m n ≡ leb p q
    go true b e d = e ∙ sym (le-leb p q (f (leb-true m n e)))
    go false true e d = le-leb m n (g (leb-true p q d)) ∙ sym d
    go false false e d = e ∙ sym d

-- the rule and the permission are asked once, before the loop over the bytes
pub explicit_once : (m rule permitted near here inside : Bool) → (rule ≡ true → (near && here) ≡ inside)
    → (m || (((rule && permitted) && near) && here)) ≡ cond m true (rule && (permitted && inside))
explicit_once true rule permitted near here inside h = refl
explicit_once false false permitted near here inside h = refl
explicit_once false true true near here inside h = h refl
explicit_once false true false near here inside h = refl
