use Rattle.colouring.proofs.graph.Graph.+colour.Given as goal

abbrev pub decreases-colour : goal.decreases-colour
decreases-colour l = l.turns
