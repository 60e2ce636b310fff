use Rattle.std.proofs.Common.{◌≡◌, length, List, Some, sym, ap, ◌∙◌, subst, arith, rules}
use Rattle.source.specs.declared.node.Node.{Node}
use Rattle.loader.specs.Live.{Liveness, live_sets}
use Rattle.loader.proofs.holder.Loader.source.Goals as goal

pub invariant_of-result : goal.invariant_of-result
invariant_of-result c =
    let l = c.args.self.now in
    let h = c.in_ok-heading.heading in
    let e : l.loaded ≡ Some h = sym c.heading.ensures ∙ c.in_ok-heading.was in
    let nodes = ap length c.nodes.ensures.nodes in
    record {
      few = l.few h e;
      within = omega (arith, l.within h e);
      some = omega (arith, l.some h e, l.long h e, nodes);
      sound = c.nodes.ensures.sound h e;
      words = ap length c.live.ensures.words ∙ (l.words h e ∙ sym (l.long h e)) ∙ sym nodes;
    }

pub returns : goal.returns
returns c =
    let l = c.args.self.now in
    let h = c.in_ok-heading.heading in
    let e : l.loaded ≡ Some h = sym c.heading.ensures ∙ c.in_ok-heading.was in
    record {
      heading = search rules;
      nodes = c.nodes.ensures.nodes;
      words = c.live.ensures.words;
      live = subst (λ (ns : List Node). Liveness ns (live_sets c.live.result.now)) (sym c.nodes.ensures.nodes) (c.live.ensures.live h e);
      entry = c.live.ensures.entry h e;
      long = ap length c.nodes.ensures.nodes ∙ l.long h e;
      few_nodes = l.few_nodes h e;
      few_parameters = l.few_parameters h e;
    }
