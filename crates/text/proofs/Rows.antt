-- The lines that a text gives, and the fields that a line gives, one after another.
use Rattle.std.proofs.Common.{◌≡◌, ℕ, ◌<◌, List, [], ◌∷◌, ◌++◌, map, length, Some, None, Ok, Err, Option, Result, MatchResult, OnErr, sym, refl, ap, ◌∙◌, subst, arith, length-append}
use Rattle.std.specs.Result.{result_ok}
use Rattle.std.proofs.lemmas.List.{append-nil, length-map}
use Rattle.std.proofs.lemmas.Iterator.Consumers.{count_from_yields_List, YieldsList-from_shown}
use Rattle.std.specs.Iterator.{Yields, YieldsThen, Drains}
use Rattle.text.specs.declared.fields.Field.{Field}
use Rattle.text.specs.declared.lines.Fields.{Fields}
use Rattle.text.specs.Fields.{shape, shape_of, bytes, start_of, starts}
use Rattle.text.specs.declared.lines.Line.{Line}
use Rattle.text.specs.declared.lines.Lines.{Lines}
use Rattle.text.specs.Lines.{lines_left, LineSteps, fields_left, FieldSteps}

yielded : (s : Fields) (xs : List Field) (t : Fields) → Yields FieldSteps s xs t → (map bytes xs ++ fields_left t ≡ fields_left s) × (map shape xs ≡ map shape_of (map bytes xs)) × (map start_of xs ++ starts t.start (fields_left t) ≡ starts s.start (fields_left s))
yielded s [] t e = (ap fields_left (sym e), refl, ap (λ (u : Fields). starts u.start (fields_left u)) (sym e))
yielded s (x ∷ xs) t (j, step, y) =
    let more = yielded j xs t y in (
      ap (λ l. bytes x ∷ l) more.0 ∙ sym step.0,
      (λ i. step.1 i ∷ more.1 i),
      (λ i. step.2 i ∷ more.2 i) ∙ ap (λ k. s.start ∷ starts k (fields_left j)) step.3 ∙ ap (starts s.start) (sym step.0),
    )

-- all fields of a line are given
pub all_yielded : (s : Fields) (xs : List Field) → Drains FieldSteps s xs → (map bytes xs ≡ fields_left s) × (map shape xs ≡ map shape_of (fields_left s)) × (map start_of xs ≡ starts s.start (fields_left s))
all_yielded s xs (u, (t, y, end)) =
    let all = yielded s xs t y in
    let same : map bytes xs ≡ fields_left s = sym (append-nil _) ∙ ap (λ l. map bytes xs ++ l) (sym end.0) ∙ all.0 in (
      same,
      all.1 ∙ ap (map shape_of) same,
      sym (append-nil _) ∙ ap (λ l. map start_of xs ++ starts t.start l) (sym end.0) ∙ all.2,
    )

-- there is a field besides those that are given
pub one_more : (s : Fields) (xs : List Field) (x : Field) (u : Fields) → YieldsThen FieldSteps s xs (Some x) u → length xs < length (fields_left s)
one_more s xs x u (t, y, step) = omega (arith, ap length (yielded s xs t y).0, length-append (map bytes xs) (fields_left t), length-map xs bytes, ap length step.0)

-- a row that the fields are put into, by what the library says of it
module _ {E : Type 0} (f : Fields) (was new : List Field) (empty : was ≡ []) where
  pub row_read : (r : Result (Unit {0}) E) (o : Option (Unit {0})) (u : Unit {0}) → o ≡ result_ok r → o ≡ Some u → (it : Fields) × (xs : List Field) × (it ≡ f) × (new ≡ was ++ xs) × MatchResult r (λ _. Drains FieldSteps it xs) (λ _. (t : Fields) × Yields FieldSteps it xs t)
      → (map bytes new ≡ fields_left f) × (map shape new ≡ map shape_of (fields_left f)) × (map start_of new ≡ starts f.start (fields_left f))
  row_read (Err e) o u is some ran = let z : ◌≡◌ {A = Option (Unit {0})} None (Some u) = sym is ∙ some in grind arith
  row_read (Ok v) o u is some (it, xs, same, items, all) =
      let here : xs ≡ new = ap (λ l. l ++ xs) (sym empty) ∙ sym items in
      all_yielded f new (subst (λ l. Drains FieldSteps f l) here (subst (λ i. Drains FieldSteps i xs) same all))

  pub row_full : (r : Result (Unit {0}) E) (o : Option (Unit {0})) (n : ℕ) → o ≡ result_ok r → o ≡ None → OnErr r (length new ≡ n)
      → OnErr r ((it : Fields) × (xs : List Field) × (x : Field) × (u : Fields) × (it ≡ f) × YieldsThen FieldSteps it xs (Some x) u × (new ≡ was ++ xs)) → n < length (fields_left f)
  row_full (Ok v) o n is none long more = let z : ◌≡◌ {A = Option (Unit {0})} (Some v) None = sym is ∙ none in grind arith
  row_full (Err e) o n is none long (it, xs, x, u, same, ran, items) =
      let here : xs ≡ new = ap (λ l. l ++ xs) (sym empty) ∙ sym items in
      omega (arith, ap length here, long, one_more f xs x u (subst (λ i. YieldsThen FieldSteps i xs (Some x) u) same ran))

-- as many lines are counted as are left
pub lines_counted : (s : Lines) (n : ℕ) → (xs : List Line) × Drains LineSteps s xs × (n ≡ length xs) → n ≡ length (lines_left s)
lines_counted s n ran = count_from_yields_List s n ran (YieldsList-from_shown LineSteps (λ l. l.bytes.now) lines_left (λ s t e. ap length e.0) (λ s l t e. e.0) s)

-- as many fields are counted as are left
pub fields_counted : (s : Fields) (n : ℕ) → (xs : List Field) × Drains FieldSteps s xs × (n ≡ length xs) → n ≡ length (fields_left s)
fields_counted s n ran = count_from_yields_List s n ran (YieldsList-from_shown FieldSteps bytes fields_left (λ s t e. ap length e.0) (λ s f t e. e.0) s)
