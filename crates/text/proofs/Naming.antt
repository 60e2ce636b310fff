-- Laws of words.
use Rattle.std.proofs.Common.{◌≡◌, ℕ, Bool, true, false, cond, List, [], ◌∷◌, Some, sym, refl, ap, ◌∙◌, arith}
use Rattle.std.proofs.lemmas.Bool.{cond-true, cond-false}
use Rattle.std.proofs.lemmas.Slice.Eq.{bytes_eq-Decides}
use Rattle.std.specs.List.{find}
use Rattle.std.specs.Str.{bytes_eq}
use Rattle.text.specs.Words.{named}

module _ {W : Type 0} (spelling : W → List ℕ) where
  pub named_found : (bs : List ℕ) (ws : List W) → find (λ w. bytes_eq bs (spelling w)) ws ≡ named spelling ws bs
  named_found bs [] = refl
  named_found bs (w ∷ ws) = ap (cond (bytes_eq bs (spelling w)) (Some w)) (named_found bs ws)

  -- a word that is found is written so
  pub named_is : (ws : List W) (bs : List ℕ) (w : W) → named spelling ws bs ≡ Some w → bs ≡ spelling w
  named_is [] bs w e = grind arith
  named_is (v ∷ ws) bs w e = pick (bytes_eq bs (spelling v)) refl (named_is ws bs w)
    where
      pick : (t : Bool) → bytes_eq bs (spelling v) ≡ t → (named spelling ws bs ≡ Some w → bs ≡ spelling w) → bs ≡ spelling w
      pick true t rec =
          let q : Some v ≡ Some w = sym (cond-true _ _ _ t) ∙ e in
          let p : v ≡ w = cc in
          (bytes_eq-Decides bs (spelling v)).0 t ∙ ap spelling p
      pick false t rec = rec (sym (cond-false _ _ _ t) ∙ e)
