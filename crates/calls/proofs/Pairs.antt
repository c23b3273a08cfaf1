-- The fields of a line by twos, as `next` gives them.
use Rattle.std.proofs.Common.{◌≡◌, true, false, cond, eqb, List, [], ◌∷◌, ℕ, length, drop, refl, sym, ap, ◌∙◌, subst, Option, None, Some}
use Rattle.std.specs.List.{slice_split}
use Rattle.std.proofs.lemmas.Iterator.{YieldsList}
use denote.Ref.{Bor}
use Rattle.text.specs.Number.{number}
use Rattle.text.specs.Scan.{is, comma}
use Rattle.text.proofs.Rows.{fields_are}
use Rattle.calls.specs.Stored.{pairs, pairs_of, put_all}

-- the pairs of the fields that are still to come from s, put into x, make the whole
pub record StillToPut {S : Type 0} (steps : S → Option (Bor (List ℕ)) → S → Type 0) (put : List ℕ → ℕ → ℕ → List ℕ) (base : ℕ) (x : List ℕ) (s : S) (whole : List ℕ) : Type 0 where
  pub fields : List (List ℕ)
  pub come : YieldsList steps (λ f. f.now) s fields
  pub makes : put_all put x (pairs base fields) ≡ whole

module _ {S : Type 0} {steps : S → Option (Bor (List ℕ)) → S → Type 0} where
  module _ {s t u : S} {p q : Option (Bor (List ℕ))} where
    two_come : (f g : Bor (List ℕ)) (fs : List (List ℕ)) → YieldsList steps (λ f. f.now) s fs → steps s p t → steps t q u → p ≡ Some f → q ≡ Some g → (more : List (List ℕ)) × (fs ≡ f.now ∷ g.now ∷ more) × YieldsList steps (λ f. f.now) u more
    two_come f g [] all one other e d = absurd (all.runs f t (subst (λ o. steps s o t) e one))
    two_come f g (a ∷ []) all one other e d = absurd ((all.runs.1 f t (subst (λ o. steps s o t) e one)).1 g u (subst (λ o. steps t o u) d other))
    two_come f g (a ∷ b ∷ more) all one other e d =
        let first = all.runs.1 f t (subst (λ o. steps s o t) e one) in
        let second = first.1.1 g u (subst (λ o. steps t o u) d other) in
        (more, rw (first.0, second.0) refl, record { runs = second.1 })

    one_comes : (f : Bor (List ℕ)) (fs : List (List ℕ)) → YieldsList steps (λ f. f.now) s fs → steps s p t → steps t q u → p ≡ Some f → q ≡ None → fs ≡ f.now ∷ []
    one_comes f [] all one other e d = absurd (all.runs f t (subst (λ o. steps s o t) e one))
    one_comes f (a ∷ []) all one other e d = let first = all.runs.1 f t (subst (λ o. steps s o t) e one) in rw first.0 refl
    one_comes f (a ∷ b ∷ fs) all one other e d = absurd ((all.runs.1 f t (subst (λ o. steps s o t) e one)).1.0 u (subst (λ o. steps t o u) d other))

  none_comes : {s t : S} {p : Option (Bor (List ℕ))} (base : ℕ) (fs : List (List ℕ)) → YieldsList steps (λ f. f.now) s fs → steps s p t → p ≡ None → pairs base fs ≡ []
  unfolding pairs
  none_comes base [] all one e = refl
  none_comes {s} {t} base (a ∷ fs) all one e = absurd (all.runs.0 t (subst (λ o. steps s o t) e one))

  module _ {put : List ℕ → ℕ → ℕ → List ℕ} {base : ℕ} where
    -- the fields after a line's first one
    pub put_start : {s : S} (x line : List ℕ) → YieldsList steps (λ f. f.now) s (drop 1 (slice_split (is comma) line)) → StillToPut steps put base x s (put_all put x (pairs_of base line))
    put_start x line all = record { fields = drop 1 (slice_split (is comma) line); come = all; makes = ap (λ fs. put_all put x (pairs base (drop 1 fs))) (sym (fields_are line)) }

    module _ {x whole : List ℕ} {s t : S} {p : Option (Bor (List ℕ))} (still : StillToPut steps put base x s whole) (one : steps s p t) where
      -- two fields, one without another, or none
      pub put_two : {u : S} {q : Option (Bor (List ℕ))} {f g : Bor (List ℕ)} → steps t q u → p ≡ Some f → q ≡ Some g → StillToPut steps put base (put x (number base f.now) (number 16 g.now)) u whole
      unfolding pairs put_all
      put_two {u} {q} {f} {g} other e d =
          let on = two_come f g still.fields still.come one other e d in
          record { fields = on.0; come = on.2; makes = ap (λ fs. put_all put x (pairs base fs)) (sym on.1) ∙ still.makes }

      -- a last field without another: nothing if it is empty, else a number whose value is 0
      put_one : {u : S} {q : Option (Bor (List ℕ))} {f : Bor (List ℕ)} → steps t q u → p ≡ Some f → q ≡ None → put_all put x (pairs base (f.now ∷ [])) ≡ whole
      put_one {u} {q} {f} other e d = ap (λ fs. put_all put x (pairs base fs)) (sym (one_comes f still.fields still.come one other e d)) ∙ still.makes

      pub put_lone : {u : S} {q : Option (Bor (List ℕ))} {f : Bor (List ℕ)} → steps t q u → p ≡ Some f → q ≡ None → eqb (length f.now) 0 ≡ false → put x (number base f.now) 0 ≡ whole
      unfolding pairs put_all
      put_lone {u} {q} {f} other e d k = ap (λ b. put_all put x (cond b [] ((number base f.now, 0) ∷ []))) (sym k) ∙ put_one other e d

      pub put_empty : {u : S} {q : Option (Bor (List ℕ))} {f : Bor (List ℕ)} → steps t q u → p ≡ Some f → q ≡ None → eqb (length f.now) 0 ≡ true → x ≡ whole
      unfolding pairs put_all
      put_empty {u} {q} {f} other e d k = ap (λ b. put_all put x (cond b [] ((number base f.now, 0) ∷ []))) (sym k) ∙ put_one other e d

      pub put_none : p ≡ None → x ≡ whole
      unfolding put_all
      put_none e = ap (put_all put x) (sym (none_comes base still.fields still.come one e)) ∙ still.makes
