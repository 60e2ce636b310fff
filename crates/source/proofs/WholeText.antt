-- Laws of reading the lines one after another.
use Rattle.std.proofs.Common.{◌≡◌, ℕ, ◌+◌, min, true, false, List, [], ◌∷◌, ◌++◌, length, Some, None, Ok, Err, Option, Result, MatchResult, MatchOption, sym, refl, ap, ◌∙◌, arith}
use Rattle.std.proofs.lemmas.List.{append_assoc, append-nil}
use Rattle.std.proofs.lemmas.Bool.{cond-true, cond-false, eq-eqb, ne_eqb}
use Rattle.text.specs.Parts.{lines_of, sized}
use Rattle.text.specs.Fields.{shapes_of}
use Rattle.text.specs.Lines.{lines_left, LineSteps}
use Rattle.text.specs.declared.lines.Line.{Line}
use Rattle.text.specs.declared.lines.Lines.{Lines}
use Rattle.text.specs.declared.fields.Fault.{Fault}
use Rattle.refusal.specs.declared.Refusal.{Refusal}
use Rattle.refusal.specs.declared.Refusal.TheVariants.{SourceSize, SourceHeading, SourceLength}
use Rattle.source.specs.declared.heading.Heading.{Heading}
use Rattle.source.specs.declared.node.Node.{Node}
use Rattle.source.specs.Reading.{heading_of, node_of, refused, with_first, then_read, read_nodes, sourced, counted, headed, read_source}

-- nodes in front of those that are read
abbrev pub after : List Node → Result (List Node) Refusal → Result (List Node) Refusal
after ns (Ok ms) = Ok (ns ++ ms)
after ns (Err e) = Err e

pub after_none : (r : Result (List Node) Refusal) → after [] r ≡ r
after_none (Ok ms) = refl
after_none (Err e) = refl

after_more : (ns : List Node) (n : Node) (r : Result (List Node) Refusal) → after ns (with_first n r) ≡ after (ns ++ n ∷ []) r
after_more ns n (Ok ms) = ap Ok (sym (append_assoc ns (n ∷ []) ms))
after_more ns n (Err e) = refl

module _ (h : Heading) (k : ℕ) {ls rest : List (List ℕ)} {l : List ℕ} (cut : ls ≡ l ∷ rest) where
  pub read_on : (ns : List Node) (n : Node) → Ok n ≡ node_of h l → after ns (read_nodes h k ls) ≡ after (ns ++ n ∷ []) (read_nodes h (k + 1) rest)
  unfolding read_nodes
  read_on ns n is = ap (λ x. after ns (read_nodes h k x)) cut ∙ ap (λ r. after ns (then_read k r (read_nodes h (k + 1) rest))) (sym is) ∙ after_more ns n (read_nodes h (k + 1) rest)

  -- the fault of a line that is refused, as the reader hands it on
  pub read_stops : (ns : List Node) (r : Result Node Fault) (m : Result Node Refusal) (n : ℕ) (e : Refusal) → r ≡ node_of h l → n ≡ k → MatchResult r (λ x. m ≡ Ok x) (λ f. m ≡ Err (refused n f)) → m ≡ Err e → after ns (read_nodes h k ls) ≡ Err e
  unfolding read_nodes
  read_stops ns (Ok x) m n e is same went fails = let z : ◌≡◌ {A = Result Node Refusal} (Ok x) (Err e) = sym went ∙ fails in grind arith
  read_stops ns (Err f) m n e is same went fails =
      let q : ◌≡◌ {A = Result Node Refusal} (Err (refused n f)) (Err e) = sym went ∙ fails in
      let p : refused n f ≡ e = cc in
      ap (λ x. after ns (read_nodes h k x)) cut ∙ ap (λ r. after ns (then_read k r (read_nodes h (k + 1) rest))) (sym is) ∙ ap (λ i. Err (refused i f)) (sym same) ∙ ap Err p

pub read_ends : (h : Heading) (k : ℕ) (ns : List Node) (ls : List (List ℕ)) → ls ≡ [] → after ns (read_nodes h k ls) ≡ Ok ns
unfolding read_nodes
read_ends h k ns ls e = ap (λ x. after ns (read_nodes h k x)) e ∙ ap Ok (append-nil ns)

-- a whole text
module _ (bs : List ℕ) where
  pub not-sized : sized bs ≡ false → read_source bs ≡ Err SourceSize
  unfolding read_source
  not-sized e = cond-false _ _ _ e

  -- the first line, as the reader takes it
  module _ (good : sized bs ≡ true) (s t : Lines) (all : lines_left s ≡ lines_of bs) where
    pub no_heading : (n : Option Line) (o : Option Heading) → LineSteps s n t → MatchOption n (o ≡ None) (λ l. o ≡ heading_of (shapes_of l.bytes.now)) → o ≡ None → read_source bs ≡ Err SourceHeading
    unfolding read_source
    no_heading None o step read none = cond-true _ _ _ good ∙ ap headed (sym all ∙ step.0)
    no_heading (Some l) o step read none = cond-true _ _ _ good ∙ ap headed (sym all ∙ step.0) ∙ ap (counted (lines_left t)) (sym read ∙ none)

    pub with_heading : (n : Option Line) (o : Option Heading) (h : Heading) → LineSteps s n t → MatchOption n (o ≡ None) (λ l. o ≡ heading_of (shapes_of l.bytes.now)) → o ≡ Some h → s.number ≡ 1 → (line : List ℕ) × (lines_of bs ≡ line ∷ lines_left t) × (Some h ≡ heading_of (shapes_of line)) × (t.number ≡ 2)
    with_heading None o h step read some one = let z : ◌≡◌ {A = Option Heading} None (Some h) = sym read ∙ some in grind arith
    with_heading (Some l) o h step read some one = (l.bytes.now, sym all ∙ step.0, sym some ∙ read, omega (arith, step.3))

  module _ (good : sized bs ≡ true) {line : List ℕ} {rest : List (List ℕ)} (cut : lines_of bs ≡ line ∷ rest) where
    start : (o : Option Heading) → heading_of (shapes_of line) ≡ o → read_source bs ≡ counted rest o
    unfolding read_source
    start o e = cond-true _ _ _ good ∙ ap headed cut ∙ ap (counted rest) e

    module _ (h : Heading) (is : Some h ≡ heading_of (shapes_of line)) where
      pub wrong_length : (length rest ≡ h.nodes → ⊥) → read_source bs ≡ Err (SourceLength (min (length rest) h.nodes + 2))
      wrong_length ne = start (Some h) (sym is) ∙ cond-false _ _ _ (ne_eqb (length rest) h.nodes ne)

      pub right_length : (k : ℕ) (r : Result (List Node) Refusal) → length rest ≡ h.nodes → k ≡ 2 → read_nodes h k rest ≡ r → read_source bs ≡ sourced h r
      right_length k r long two e = start (Some h) (sym is) ∙ cond-true _ _ _ (eq-eqb (length rest) h.nodes long) ∙ ap (λ j. sourced h (read_nodes h j rest)) (sym two) ∙ ap (sourced h) e
