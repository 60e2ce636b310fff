-- What a table holds.
use Rattle.std.specs.Prelude.{List, vec_items}
use Rattle.source.specs.declared.node.Node.{Node}
use Rattle.source.specs.declared.heading.Heading.{Heading}
use Rattle.source.specs.declared.table.Table.{Table}
use Rattle.source.specs.Reading.{Source}

abbrev pub nodes_in : Table → List Node
nodes_in t = vec_items t.nodes

-- the source of a heading and the nodes of a table
abbrev pub source_in : Heading → Table → Source
source_in h t = record { parameters = h.parameters; temporaries = h.temporaries; nodes = nodes_in t }
