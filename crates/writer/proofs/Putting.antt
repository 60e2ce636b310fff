-- Bytes that are put, and then others.
use Rattle.std.proofs.Common.{◌≡◌, ℕ, ◌+◌, ◌<◌, ◌≤◌, List, ◌++◌, length, get_or, drop, Some, None, Option, sym, ap, subst, ◌∙◌, arith}
use Rattle.std.proofs.lemmas.List.{length-append, at_drop_more, drop_all}
use Rattle.text.proofs.Writing.{Joins}
use Rattle.writer.specs.Sinks.{Puts, InOrder}

module _ {S : Type 0} {room : S → ℕ} {Takes : List ℕ → S → S → Type 0} (o : InOrder room Takes) where
  -- what follows is put or refused
  pub puts_then : {a b : List ℕ} {s t u : S} {x : Unit {0}} {r : Option (Unit {0})} → Puts room Takes a s (Some x) t → Puts room Takes b t r u → Puts room Takes (a ++ b) s r u
  puts_then {a = a} {b = b} {s = s} {t = t} {u = u} {r = Some y} p q = record { taken = o.both a b s t u p.taken q.taken; refused = tt }
  puts_then {a = a} {b = b} {s = s} {t = t} {u = u} {r = None} p q = record { taken = tt; refused = omega (arith, o.left a s t p.taken, length-append a b, q.refused) }

  -- what comes first is refused
  pub puts_none : {a : List ℕ} (b : List ℕ) {s t : S} → Puts room Takes a s None t → Puts room Takes (a ++ b) s None t
  puts_none {a = a} b p = record { taken = tt; refused = omega (arith, length-append a b, p.refused) }

  pub puts_same : {a b : List ℕ} {s t : S} {r : Option (Unit {0})} → a ≡ b → Puts room Takes b s r t → Puts room Takes a s r t
  puts_same {s = s} {t = t} {r = r} e p = subst (λ bs. Puts room Takes bs s r t) (sym e) p

  -- the rest of a list of things that are put one after another
  module _ {X : Type 0} {all : List X → List ℕ} {one : X → List ℕ} (j : Joins all one) (xs : List X) (i : ℕ) where
    module _ (d : X) (h : i < length xs) where
      step : one (get_or xs i d) ++ all (drop (i + 1) xs) ≡ all (drop i xs)
      step = sym (at_drop_more all xs i d h ∙ j.more (get_or xs i d) (drop (i + 1) xs))

      pub rest_then : {s t u : S} {x : Unit {0}} {r : Option (Unit {0})} → Puts room Takes (one (get_or xs i d)) s (Some x) t → Puts room Takes (all (drop (i + 1) xs)) t r u → Puts room Takes (all (drop i xs)) s r u
      rest_then p q = puts_same (sym step) (puts_then p q)

      pub rest_none : {s t : S} → Puts room Takes (one (get_or xs i d)) s None t → Puts room Takes (all (drop i xs)) s None t
      rest_none p = puts_same (sym step) (puts_none (all (drop (i + 1) xs)) p)

    pub rest_all : {s : S} → length xs ≤ i → Puts room Takes (all (drop i xs)) s (Some tt) s
    rest_all {s = s} h = puts_same (ap all (drop_all i xs h) ∙ j.none) (record { taken = o.none s; refused = tt })
