use Rattle.std.proofs.Common.{ap, ◌∙◌}
use Rattle.std.specs.Option.{option_map}
use Rattle.source.specs.Tables.{nodes_in, source_in}
use Rattle.loader.specs.Load.{live_words}
use Rattle.engine.specs.Held.{held}
use Rattle.engine.proofs.Settling.{none_placed, stands, place_stands}
use Rattle.engine.proofs.state.Engine.place.Goals as goal

pub returns-in_default : goal.returns-in_default
returns-in_default g c =
    none_placed (g.P.Placer.places c.args.placer.now) (held c.args.self.now) c.args.registers c.args.memory.now (ap (option_map (λ h. source_in h c.args.self.now.loader.tables.nodes)) c.in_default.ensures)

pub invariant_of-self-2 : goal.invariant_of-self-2
invariant_of-self-2 g c =
    let e = c.args.self.now in
    let shows = c.in-Some.ensures in
    let h = c.in-Some.loaded.heading in record {
      accepted = stands h e.loader.tables.nodes c.copy_from.new.self c.place.new.spare c.swap.new.y _ (c.copy_from.ensures ∙ ap nodes_in c.table.ensures.table) c.swap.ensures.y_after
          (place_stands (g.P.Placer.places c.args.placer.now) e.loader.loaded h e.loader.tables.nodes (live_words e.loader) c.args.registers c.args.memory.now _ _ c.in_ok-count.count shows.heading c.in_ok-count.ensures);
    }
