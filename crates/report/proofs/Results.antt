-- Results that print the same bytes agree in all that is printed (stop, count, pc, reason, exit pc, fault record, registers),
-- and no result prints as a refusal.
use mathlib.Core.Path.{◌≡◌, refl, ap, sym, ◌∙◌}
use mathlib.Core.Bool.{Bool, true, false, cond}
use mathlib.Core.List.{List, [], ◌∷◌, ◌++◌}
use Prim.Native.Nat.{ℕ, suc, ◌+◌, ◌^◌, ◌<◌}
use native.Mathlib.Omega.{arith}
use lib.Dec.{eqb, lit≤}
use lib.ListN.{length, get_or}
use borrow.Author.Tests.{eqb-true}
use Rattle.text.specs.Number.{decimal, hexadecimal}
use Rattle.text.proofs.RoundTrip.{Clean, lines_same, decimal_free, hexadecimal_free, decimal_same, hexadecimal_same}
use Rattle.model.specs.declared.Fault.{Fault}
use Rattle.model.specs.Run.{RunAnswer}
use Rattle.sheet.specs.Sheet.{refusal_text}
use Rattle.sheet.proofs.Refusals.{row, row_clean, refusal_line}
use Rattle.report.specs.Report.{result_line, register_lines, result_text}

-- ---- what code can hold: 64 bits in each number, 32 registers
pub record Held (r : RunAnswer) : Type 0 where
  pub stop : r.stop < 2 ^ 64
  pub count : r.count < 2 ^ 64
  pub pc : r.machine.pc < 2 ^ 64
  pub reason : r.machine.hfi.reason < 2 ^ 64
  pub epc : r.machine.hfi.epc < 2 ^ 64
  pub occurred : r.machine.hfi.fault.occurred < 2 ^ 64
  pub region : r.machine.hfi.fault.region < 2 ^ 64
  pub op : r.machine.hfi.fault.op < 2 ^ 64
  pub address : r.machine.hfi.fault.address < 2 ^ 64
  pub registers_count : length r.machine.x ≡ 32
  pub registers : (i : ℕ) → get_or r.machine.x i 0 < 2 ^ 64

-- ---- everything that is printed of two results is the same
pub record Same (r q : RunAnswer) : Type 0 where
  pub stop : r.stop ≡ q.stop
  pub count : r.count ≡ q.count
  pub pc : r.machine.pc ≡ q.machine.pc
  pub reason : r.machine.hfi.reason ≡ q.machine.hfi.reason
  pub epc : r.machine.hfi.epc ≡ q.machine.hfi.epc
  pub fault : r.machine.hfi.fault ≡ q.machine.hfi.fault
  pub registers : r.machine.x ≡ q.machine.x

-- ---- registers

-- no line of a later register has the number i
later : (i k : ℕ) (x : List ℕ) (v : List ℕ) (rs : List (List (List ℕ))) → i < k → k + length x < 2 ^ 64
    → register_lines k x ≡ (decimal i ∷ v ∷ []) ∷ rs → ⊥
unfolding register_lines
later i k [] v rs h f e = let z : 0 ≡ suc (length rs) = ap length e in omega (arith, z)
later i k (w ∷ ws) v rs h f e = by (eqb w 0) (λ g. later i (k + 1) ws v rs (omega arith) (omega arith) g) e
  where
    by : (t : Bool) → (register_lines (k + 1) ws ≡ (decimal i ∷ v ∷ []) ∷ rs → ⊥)
        → cond t [] ((decimal k ∷ hexadecimal w ∷ []) ∷ []) ++ register_lines (k + 1) ws ≡ (decimal i ∷ v ∷ []) ∷ rs → ⊥
    by true g d = g d
    by false g d =
        let a : decimal k ≡ decimal i = cc in
        let b : k ≡ i = decimal_same k i (omega arith) (omega arith) a in
        omega (arith, b)

registers_same : (i : ℕ) (x y : List ℕ) → length x ≡ length y → i + length x < 2 ^ 64
    → ((k : ℕ) → get_or x k 0 < 2 ^ 64) → ((k : ℕ) → get_or y k 0 < 2 ^ 64)
    → register_lines i x ≡ register_lines i y → x ≡ y
unfolding register_lines
registers_same i [] [] l f hx hy e = refl
registers_same i [] (w ∷ ws) l f hx hy e = let z : ⊥ = omega (arith, l) in absurd z
registers_same i (v ∷ vs) [] l f hx hy e = let z : ⊥ = omega (arith, l) in absurd z
registers_same i (v ∷ vs) (w ∷ ws) l f hx hy e =
    by (eqb v 0) (eqb w 0) (eqb-true v 0) (eqb-true w 0)
    (λ g. registers_same (i + 1) vs ws (omega (arith, l)) (omega arith) (λ k. hx (suc k)) (λ k. hy (suc k)) g) e
  where
    by : (s t : Bool) → (s ≡ true → v ≡ 0) → (t ≡ true → w ≡ 0) → (register_lines (i + 1) vs ≡ register_lines (i + 1) ws → vs ≡ ws)
        → cond s [] ((decimal i ∷ hexadecimal v ∷ []) ∷ []) ++ register_lines (i + 1) vs
        ≡ cond t [] ((decimal i ∷ hexadecimal w ∷ []) ∷ []) ++ register_lines (i + 1) ws
        → v ∷ vs ≡ w ∷ ws
    by true true p q g d = let a : v ≡ w = p refl ∙ sym (q refl) in ap (λ u. u ∷ vs) a ∙ ap (λ us. w ∷ us) (g d)
    by true false p q g d = absurd (later i (i + 1) vs (hexadecimal w) (register_lines (i + 1) ws) (omega arith) (omega arith) d)
    by false true p q g d = absurd (later i (i + 1) ws (hexadecimal v) (register_lines (i + 1) vs) (omega arith) (omega (arith, l)) (sym d))
    by false false p q g d =
        let a : hexadecimal v ≡ hexadecimal w = cc in
        let b : register_lines (i + 1) vs ≡ register_lines (i + 1) ws = cc in
        let c : v ≡ w = hexadecimal_same v w (hx 0) (hy 0) a in
        ap (λ u. u ∷ vs) c ∙ ap (λ us. w ∷ us) (g b)

registers_clean : (i : ℕ) (x : List ℕ) → Clean (register_lines i x)
unfolding register_lines
registers_clean i [] = tt
registers_clean i (v ∷ vs) = by (eqb v 0) (registers_clean (i + 1) vs)
  where
    by : (t : Bool) → Clean (register_lines (i + 1) vs) → Clean (cond t [] ((decimal i ∷ hexadecimal v ∷ []) ∷ []) ++ register_lines (i + 1) vs)
    by true g = g
    by false g =
        let a = decimal_free i in
        let b = hexadecimal_free v in
        (lit≤ tt, (a.0, (b.0, tt)), (a.1, (b.1, tt)), g)

-- ---- the whole result
result_clean : (r : RunAnswer) → Clean (result_line r ∷ register_lines 0 r.machine.x)
result_clean r =
    let m = r.machine in
    let h = m.hfi in
    let f = h.fault in
    let n = decimal_free r.stop in
    let a = hexadecimal_free r.count in
    let b = hexadecimal_free m.pc in
    let c = hexadecimal_free h.reason in
    let d = hexadecimal_free h.epc in
    let o = hexadecimal_free f.occurred in
    let g = hexadecimal_free f.region in
    let p = hexadecimal_free f.op in
    let q = hexadecimal_free f.address in (
      lit≤ tt,
      (n.0, (a.0, (b.0, (c.0, (d.0, (o.0, (g.0, (p.0, (q.0, tt))))))))),
      (n.1, (a.1, (b.1, (c.1, (d.1, (o.1, (g.1, (p.1, (q.1, tt))))))))),
      registers_clean 0 m.x,
    )

fault_same : (f g : Fault) → f.occurred ≡ g.occurred → f.region ≡ g.region → f.op ≡ g.op → f.address ≡ g.address → f ≡ g
fault_same f g o r p a =
    ap (λ k. record { occurred = k; region = f.region; op = f.op; address = f.address }) o
    ∙ ap (λ k. record { occurred = g.occurred; region = k; op = f.op; address = f.address }) r
    ∙ ap (λ k. record { occurred = g.occurred; region = g.region; op = k; address = f.address }) p
    ∙ ap (λ k. record { occurred = g.occurred; region = g.region; op = g.op; address = k }) a

-- field k of a row
abbrev at : ℕ → List (List ℕ) → List ℕ
at k r = get_or r k []

pub results_same : (r q : RunAnswer) → Held r → Held q → result_text r ≡ result_text q → Same r q
results_same r q h k e =
    let rows : result_line r ∷ register_lines 0 r.machine.x ≡ result_line q ∷ register_lines 0 q.machine.x =
    lines_same (result_line r ∷ register_lines 0 r.machine.x) (result_line q ∷ register_lines 0 q.machine.x) (result_clean r) (result_clean q) e in
    let row : result_line r ≡ result_line q = ap (λ l. get_or l 0 []) rows in
    let others : register_lines 0 r.machine.x ≡ register_lines 0 q.machine.x = cc in
    let occurred = hexadecimal_same r.machine.hfi.fault.occurred q.machine.hfi.fault.occurred h.occurred k.occurred (ap (at 5) row) in
    let region = hexadecimal_same r.machine.hfi.fault.region q.machine.hfi.fault.region h.region k.region (ap (at 6) row) in
    let op = hexadecimal_same r.machine.hfi.fault.op q.machine.hfi.fault.op h.op k.op (ap (at 7) row) in
    let address = hexadecimal_same r.machine.hfi.fault.address q.machine.hfi.fault.address h.address k.address (ap (at 8) row) in
    record {
      stop = decimal_same r.stop q.stop h.stop k.stop (ap (at 0) row);
      count = hexadecimal_same r.count q.count h.count k.count (ap (at 1) row);
      pc = hexadecimal_same r.machine.pc q.machine.pc h.pc k.pc (ap (at 2) row);
      reason = hexadecimal_same r.machine.hfi.reason q.machine.hfi.reason h.reason k.reason (ap (at 3) row);
      epc = hexadecimal_same r.machine.hfi.epc q.machine.hfi.epc h.epc k.epc (ap (at 4) row);
      fault = fault_same r.machine.hfi.fault q.machine.hfi.fault occurred region op address;
      registers =
          registers_same 0 r.machine.x q.machine.x (h.registers_count ∙ sym k.registers_count) (omega (arith, h.registers_count)) h.registers k.registers others;
    }

-- ---- and no result prints as a refusal: the first line of a result has nine fields, that of a refusal has three
pub result_no_refusal : (r : RunAnswer) (n l : ℕ) → result_text r ≡ refusal_text n l → ⊥
result_no_refusal r n l e =
    let rows : result_line r ∷ register_lines 0 r.machine.x ≡ row n l ∷ [] =
    lines_same (result_line r ∷ register_lines 0 r.machine.x) (row n l ∷ []) (result_clean r) (row_clean n l) (e ∙ refusal_line n l) in
    let z : length (result_line r) ≡ length (row n l) = ap (λ l. length (get_or l 0 [])) rows in
    omega (arith, z)
