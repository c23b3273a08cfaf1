-- The total is the sum of the counts, modulo 2^64.
-- Assumes nothing.
use mathlib.Core.Path.{◌≡◌, refl, ap, sym, ◌∙◌}
use mathlib.Core.List.{List, [], ◌∷◌}
use Prim.Native.Nat.{ℕ, ◌%◌, ◌<◌, ◌^◌}
use native.Mathlib.Omega.{arith}
use Rattle.model.specs.Machine.{sum}
use Rattle.scheduler.specs.Turn.{Left}
use Rattle.scheduler.specs.Turns.{Given, left, State, after, after_all, in_turn}
use Rattle.scheduler.specs.Total.{SameTotal, counts, Total}
use Rattle.scheduler.specs.declared.Slot.{Slot}
use Rattle.scheduler.proofs.Turns.{in_turn_follows}
use Rattle.scheduler.proofs.Turn.{Turn, turn_is}
use Rattle.scheduler.proofs.Turn.Turn.{none, took}

-- one turn adds its count
added : (g : Given) → g.scheduler.total < 2 ^ 64 → (after g).scheduler.total ≡ sum g.scheduler.total (left g).result.count
added g h = go (turn_is g.scheduler g.memory g.allowance)
  where
    go : Turn g.scheduler g.memory g.allowance → (after g).scheduler.total ≡ sum g.scheduler.total (left g).result.count
    go (none stop e) =
        let t : (after g).scheduler.total ≡ g.scheduler.total = ap (λ (l : Left). l.result.scheduler.total) e in
        let c : (left g).result.count ≡ 0 = ap (λ (l : Left). l.result.count) e in
        omega (arith, h, t, c)
    go (took n t) = ap (λ (l : Left). l.result.scheduler.total) t.left ∙ ap (λ (l : Left). sum g.scheduler.total l.result.count) (sym t.left)

pub total : Total
total p [] h f = omega (arith, h)
total p (g ∷ gs) h f =
    let same = f.0.total in
    let low : g.scheduler.total < 2 ^ 64 = rw same h in
    let one = added g low in
    let rest = total (after g) gs (omega (arith, one)) f.1 in
    rest ∙ omega (arith, one, same)

-- "The reported total starts at 0": of a main loop that changes nothing, whatever the allowances
pub total_in_turn : (p : State) (allowances : List ℕ) → p.scheduler.total ≡ 0
    → (after_all p (in_turn p allowances)).scheduler.total ≡ counts (in_turn p allowances) % 2 ^ 64
total_in_turn p allowances z =
    let e = total p (in_turn p allowances) (omega (arith, z)) (in_turn_follows SameTotal (λ q. record { total = refl }) p allowances) in
    e ∙ omega (arith, z)

-- all that the main loop may change: everything else
pub same_total_else : (p : State) (ds : List Slot) (count place : ℕ) (mem : List ℕ) → SameTotal p (record {
  scheduler = record { slots = ds; count = count; place = place; total = p.scheduler.total };
  memory = mem;
})
same_total_else p ds count place mem = record { total = refl }
