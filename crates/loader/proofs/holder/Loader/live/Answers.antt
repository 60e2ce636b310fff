use Rattle.std.proofs.Common.{ℕ, List, sym, ap, ◌∙◌, subst}
use mathlib.Core.Bool.{Bool-set}
use mathlib.Core.Logic.{∥∥₁_elim}
use Rattle.std.proofs.lemmas.Bool.{ltb-true, lt-ltb}
use Rattle.source.specs.Tables.{nodes_in}
use Rattle.loader.specs.Live.{Liveness, live_sets}
use Rattle.loader.proofs.holder.Loader.live.Goals as goal

pub returns : goal.returns
returns c = record {
  words = c.as_slice.ensures.value;
  entry = λ h e v q.
      let is = c.args.self.now.stands h e in
      ltb-true v h.parameters (∥∥₁_elim is (Bool-set _ _) (λ at. lt-ltb v h.parameters (at.entry v (sym (ap (λ (ws : List ℕ). live_sets ws 0 v) c.as_slice.ensures.value) ∙ q))));
  live = λ h e.
      let is = c.args.self.now.stands h e in
      subst (λ (ws : List ℕ). Liveness (nodes_in c.args.self.now.tables.nodes) (live_sets ws)) (sym c.as_slice.ensures.value)
      (record { solves = λ n l v. ∥∥₁_elim is (Bool-set _ _) (λ at. at.live.solves n l v); least = λ Y s n l v q. ∥∥₁_elim is (Bool-set _ _) (λ at. at.live.least Y s n l v q) });
}
