-- Published lines have the words of their nodes, and fit their source.
use Rattle.std.proofs.Common.{ℕ, Bool, List, length, sym, subst}
use Rattle.std.proofs.lemmas.List.{get_or-map, length-map}
use Rattle.source.specs.Nodes.{node_at}
use Rattle.source.specs.Reading.{Source}
use Rattle.allocation.specs.Allocations.{Line}
use Rattle.allocation.specs.Lines.{line_of}
use Rattle.equations.specs.Questions.{Matches}
use Rattle.equations.specs.Verdict.{Fits, MatchesBelow}
use Rattle.places.specs.declared.place.Place.{Place}
use Rattle.places.specs.Places.{locations}
use Rattle.places.specs.Publish.{published_line, published_allocation}
use Rattle.places.specs.Laws.{Loadable}
use Rattle.places.proofs.Accept.{main_matches}

module _ (s : Source) (L : ℕ → ℕ → Bool) (R : ℕ) (ps : List Place) where
  pub all_match : MatchesBelow s.nodes (line_of (published_allocation s L R ps)) (length s.nodes)
  all_match n h =
      subst (λ (l : Line). Matches (node_at s.nodes n) l.main) (sym (get_or-map (published_line R (locations R ps)) s.nodes n _ _ h)) (main_matches R (locations R ps) (node_at s.nodes n))

  pub fits : Loadable s L → Fits s (published_allocation s L R ps)
  fits ok = record {
    sound = ok.sound;
    few = ok.few;
    some = ok.some;
    lines = length-map s.nodes (published_line R (locations R ps));
    slots = ok.within;
  }
