use Rattle.std.proofs.Common.{◌≡◌, ◌<◌, ◌≤◌, length, Some, vec_items, refl, ap, ◌∙◌, subst, arith}
use Rattle.std.proofs.lemmas.Result.{MatchResult-at_ok, IfOk-at_ok}
use Rattle.source.specs.declared.heading.Heading.{Heading}
use Rattle.source.specs.Tables.{nodes_in, source_in}
use Rattle.source.proofs.Soundness.{sound-at}
use Rattle.loader.specs.Live.{Loaded}
use Rattle.loader.specs.declared.holder.Tables.{Tables}
use Rattle.loader.proofs.Loading.{loaded, counted, granted}
use Rattle.loader.proofs.holder.Loader.load.Goals as goal

pub find_live-requires : goal.find_live-requires
find_live-requires c =
    let w = (MatchResult-at_ok _ _ _ c.in_ok-h.was c.read.ensures.exact).0 in
    record { sound = sound-at _ _ _ w.sound; few = w.temporaries_few; some = omega (arith, w.nodes_some); room = w.nodes_few }

pub invariant_of-self-2 : goal.invariant_of-self-2
invariant_of-self-2 c =
    let exact = MatchResult-at_ok _ _ _ c.in_ok-h.was c.read.ensures.exact in
    let w = exact.0 in
    let count = IfOk-at_ok _ c.in_ok-h.was c.read.ensures.count in
    let found = MatchResult-at_ok _ _ _ c.in_ok-most.was c.find_live.ensures.live in
    let long = counted c.in_ok-h.h c.args.text.now c.read.new.self c.find_live.new.self c.swap.new.x c.in_ok-most.most count c.find_live.ensures.same c.swap.ensures.x_after in
    let is = loaded c.in_ok-h.h c.args.text.now c.read.new.self c.find_live.new.self c.swap.new.x c.in_ok-most.most exact found c.find_live.ensures.same c.swap.ensures.x_after in
    let words : length (vec_items c.swap.new.x.live) ≡ c.in_ok-h.h.nodes = ap (λ (t : Tables). length (vec_items t.live)) c.swap.ensures.x_after ∙ (c.find_live.ensures.words ∙ count) in
    let at : (h : Heading) → Some c.in_ok-h.h ≡ Some h → c.in_ok-h.h ≡ h = λ h e. cc in
    record {
      few = λ h e. subst (λ (x : Heading). x.temporaries ≤ 48) (at h e) w.temporaries_few;
      some = λ h e. subst (λ (x : Heading). 0 < x.nodes) (at h e) (omega (arith, w.nodes_some, count));
      few_nodes = λ h e. subst (λ (x : Heading). x.nodes ≤ 256) (at h e) (omega (arith, w.nodes_few, count));
      few_parameters = λ h e. subst (λ (x : Heading). x.parameters ≤ 8) (at h e) w.parameters_few;
      within = λ h e. subst (λ (x : Heading). x.parameters ≤ x.temporaries) (at h e) w.parameters_within;
      long = λ h e. subst (λ (x : Heading). length (nodes_in c.swap.new.x.nodes) ≡ x.nodes) (at h e) long;
      words = λ h e. subst (λ (x : Heading). length (vec_items c.swap.new.x.live) ≡ x.nodes) (at h e) words;
      stands = λ h e. ∣ subst (λ (x : Heading). Loaded x (nodes_in c.swap.new.x.nodes) (vec_items c.swap.new.x.live)) (at h e) is ∣₁;
    }

pub returns : goal.returns
returns c = record {
  answer = (
    source_in c.in_ok-h.h c.swap.new.x.nodes,
    granted c.in_ok-h.h c.args.text.now c.read.new.self c.find_live.new.self c.swap.new.x c.in_ok-most.most c.counts.result c.counts.ensures
        (MatchResult-at_ok _ _ _ c.in_ok-h.was c.read.ensures.read) (IfOk-at_ok _ c.in_ok-h.was c.read.ensures.count) (MatchResult-at_ok _ _ _ c.in_ok-most.was c.find_live.ensures.live) c.find_live.ensures.same c.swap.ensures.x_after,
    refl,
  );
}
