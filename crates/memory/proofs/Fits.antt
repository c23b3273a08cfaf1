-- The bytes of a passed access lie in memory, one after another.
-- Assumes nothing.
use Rattle.std.proofs.Common.{◌≡◌, ℕ, ◌+◌, ◌^◌, ◌<◌, ◌≤◌, sym, ◌∙◌}
use Rattle.model.specs.Access.{Access, Verdict, passed, verdict}
use Rattle.model.proofs.Cleared.{cleared, fits_memory}
use Rattle.memory.specs.Width.{IsWidth}
use Rattle.memory.proofs.Widths.{width_bounds}

pub passed_fits : (mode length : ℕ) (a : Access) {v : Verdict} → IsWidth a.count → a.first < 2 ^ 64 → length < 2 ^ 64
    → v ≡ verdict mode length a → v ≡ passed → a.first + a.count ≤ length
passed_fits mode length a w f l e p =
    fits_memory length a.first a.count (width_bounds a.count w).0 f l (cleared mode length a (sym e ∙ p)).present
