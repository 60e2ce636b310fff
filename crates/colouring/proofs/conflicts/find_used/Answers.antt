use Rattle.std.proofs.Common.{ℕ, ◌||◌, length, Option, sym, ap, ◌∙◌, ap₂, rules}
use Rattle.std.proofs.lemmas.List.{length_push}
use Rattle.std.proofs.lemmas.Slice.Zip.{zip_turn}
use Rattle.sets.specs.Masks.{bit, names}
use Rattle.source.specs.Nodes.{node_at, result_of}
use Rattle.source.specs.declared.node.Node.TheVariants.{Const}
use Rattle.loader.specs.Live.{live_sets, is_result}
use Rattle.colouring.specs.Colouring.{some}
use Rattle.colouring.proofs.Rows.{some_more}
use Rattle.colouring.proofs.conflicts.find_used.Goals as goal

pub loop-node-preserved : goal.loop-node-preserved
loop-node-preserved c v =
    let nodes = c.args.source.now.nodes.now in
    let words = c.args.source.now.live.now in
    let n = length c.loop-node.yielded in
    let p : ℕ → _ = λ k. live_sets words k v || is_result (node_at nodes k) v in
    let at = zip_turn nodes words c.loop-node.yielded c.into_iter-node-iterator.result c.loop-node.node-iterator c.next.new.self _ (search rules) (search rules) c.loop-node.yielded_by (c.in-Some.node, c.in-Some.live) c.in-Some.is c.next.ensures.steps in
    c.union-set.ensures v ∙ some_more n p (bit c.loop-node.set v) (bit c.union.result v) (c.loop-node.invariant v)
    (c.union.ensures v ∙ ap₂ ◌||◌ (ap (λ (w : ℕ). bit w v) (at.3 0)) (c.mask_of.ensures v ∙ ap (λ (o : Option ℕ). names o v) (c.assigned.ensures ∙ ap result_of (at.2 (Const 0 0 0)))))
    ∙ ap (λ (k : ℕ). some k p) (sym (length_push c.loop-node.yielded (c.in-Some.node, c.in-Some.live)))
