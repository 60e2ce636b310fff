-- Numbers that are refused.
use Rattle.std.proofs.Common.{◌≡◌, ℕ, ◌&&◌, ltb, leb, List, length, None, sym, refl}
use Rattle.std.proofs.lemmas.Bool.{cond_both}
use Rattle.text.specs.Number.{read_on, plain, number_of}

pub number_bad : (s : List ℕ) → read_on 0 s ≡ None → None ≡ number_of s
number_bad s e = cond_both (ltb 0 (length s) && leb (length s) 10 && plain s) (read_on 0 s) None (λ o. None ≡ o) (λ _. sym e) (λ _. refl)
