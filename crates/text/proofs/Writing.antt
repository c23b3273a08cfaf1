-- Writing one text after another.
use mathlib.Core.Path.{◌≡◌, refl, ap, sym, subst, ◌∙◌}
use mathlib.Core.List.{List, [], ◌∷◌, ◌++◌, append_assoc}
use Prim.Native.Nat.{ℕ, suc, ◌+◌, ◌≤◌}
use native.Mathlib.Omega.{arith}
use lib.ListN.{length, drop, take, set, length-append}
use lib.Seq.{drop-drop, sets, sets-eq, length-sets}
use borrow.Rule.Slice.PartMut.{put_mid}
use Rattle.text.specs.declared.writer.Writer.{Writer}
use Rattle.text.specs.Write.{Wrote, Put}

-- a text copied into its place
pub wrote_mid : (old text new : List ℕ) (at k : ℕ) → k ≡ length text → new ≡ text → at + length text ≤ length old
    → Wrote old at text (put_mid at k old new) (at + length text)
wrote_mid old text new at k e f h =
    record {
      stored =
          rw (e, f)
          (sym (append_assoc (take at old) text (drop (length text) (drop at old)))
          ∙ ap (λ d. take at old ++ text ++ d) (drop-drop (length text) at old)
          ∙ sym (sets-eq text old at h));
      after = refl;
    }

-- ---- texts
pub stores_append : (old : List ℕ) (at : ℕ) (s t : List ℕ) → sets (sets old at s) (at + length s) t ≡ sets old at (s ++ t)
stores_append old at [] t = let z : at + 0 ≡ at = omega arith in ap (λ k. sets old k t) z
stores_append old at (b ∷ bs) t =
    let e : at + suc (length bs) ≡ suc at + length bs = omega arith in
    ap (λ k. sets (sets old at (b ∷ bs)) k t) e ∙ stores_append (set old at b) (suc at) bs t

-- Where s is written, writing t after it comes to writing both. With this law a loop that writes keeps "writing the rest here
-- comes to writing all of it there" as its invariant.
pub wrote_on : {old s new : List ℕ} {at end : ℕ} → Wrote old at s new end → (t : List ℕ) → sets new end t ≡ sets old at (s ++ t)
wrote_on {old} {s} {new} {at} {end} w t =
    ap (λ l. sets l end t) w.stored ∙ ap (λ k. sets (sets old at s) k t) w.after ∙ stores_append old at s t

pub wrote_none : {old : List ℕ} {at : ℕ} → Wrote old at [] old at
wrote_none = record { stored = refl; after = omega arith }

pub wrote_then : {a b c s t : List ℕ} {at middle end : ℕ} → Wrote a at s b middle → Wrote b middle t c end → Wrote a at (s ++ t) c end
wrote_then {t = t} v w = record { stored = w.stored ∙ wrote_on v t; after = rw length-append (omega (arith, v.after, w.after)) }

-- what a text leaves where it fits: what stood before it, the text, what stood after it
pub wrote_parts : (old : List ℕ) (at : ℕ) (text new : List ℕ) (end : ℕ) → at + length text ≤ length old → Wrote old at text new end
    → new ≡ take at old ++ text ++ drop end old
wrote_parts old at text new end h w =
    w.stored ∙ sets-eq text old at h ∙ ap (λ k. take at old ++ text ++ drop k old) (sym w.after)

-- a text keeps the buffer's length
pub wrote_length : {old text new : List ℕ} {at end : ℕ} → Wrote old at text new end → length new ≡ length old
wrote_length {old} {text} {at = at} w = ap length w.stored ∙ length-sets old at text

-- ---- the same of a writer
pub put_none : (w : Writer) → Put w [] w
put_none w = record { same_buffer = refl; same_length = refl; wrote = wrote_none }

pub put_then : {a b c : Writer} {s t : List ℕ} → Put a s b → Put b t c → Put a (s ++ t) c
put_then v w =
    record { same_buffer = w.same_buffer ∙ v.same_buffer; same_length = w.same_length ∙ v.same_length; wrote = wrote_then v.wrote w.wrote }

pub put_as : {a b : Writer} {s t : List ℕ} → s ≡ t → Put a s b → Put a t b
put_as {a} {b} e w = subst (λ text. Put a text b) e w

-- what a new writer's buffer is left with
pub put_last : {a b : Writer} {text old last : List ℕ} → Put a text b → (a.buffer.now ≡ old) × (a.at ≡ 0) → last ≡ b.buffer.now → Wrote old 0 text last b.at
put_last {a} {b} {text} p start e = rw (e, ← start.0, ← start.1) p.wrote
