use Rattle.std.proofs.Common.{◌≡◌, ℕ, ◌<◌, List, length, vec_len, sym, refl, ap, ◌∙◌, subst, subst₂, rules}
use Rattle.std.proofs.lemmas.List.{with_items_is}
use Rattle.source.specs.Nodes.{AllSound}
use Rattle.source.specs.declared.node.Node.{Node}
use Rattle.loader.specs.Live.{Surveyed}
use Rattle.loader.proofs.holder.Tables.find_live.Goals as goal

pub survey-requires : goal.survey-requires
survey-requires c =
    let same = c.nodes-2.ensures in
    let long : vec_len c.resize.new.self ≡ length c.nodes-2.result.now = search rules in
    record {
      sound = subst (AllSound c.args.h.temporaries) (sym same) c.requires.sound;
      few = c.requires.few;
      some = subst (λ (ns : List Node). 0 < length ns) (sym same) c.requires.some;
      len = c.as_mut_slice.ensures.len ∙ long;
    }

pub returns : goal.returns
returns c =
    let all = with_items_is c.resize.new.self c.survey.new.live (search rules) in
    let kept : length c.survey.new.live ≡ length c.nodes-2.result.now = search rules in
    record {
      live = subst₂ (λ (ns : List Node) (ws : List ℕ). Surveyed ns c.args.h.parameters c.args.h.temporaries ws c.survey.result) c.nodes-2.ensures (sym all) c.survey.ensures;
      same = refl;
      words = ap length all ∙ (kept ∙ ap length c.nodes-2.ensures);
    }
