use Rattle.std.proofs.Common.{ap, ◌∙◌}
use Rattle.std.specs.Option.{option_map}
use Rattle.source.specs.Tables.{nodes_in, source_in}
use Rattle.engine.specs.Held.{held}
use Rattle.engine.proofs.Settling.{none_offered, stands, offer_stands}
use Rattle.engine.proofs.state.Engine.offer.Goals as goal

pub returns-in_default : goal.returns-in_default
returns-in_default c = none_offered (held c.args.self.now) c.args.text.now c.args.memory.now (ap (option_map (λ h. source_in h c.args.self.now.loader.tables.nodes)) c.in_default.ensures)

pub invariant_of-self-2 : goal.invariant_of-self-2
invariant_of-self-2 c =
    let e = c.args.self.now in
    let shows = c.in-Some.ensures in
    let h = c.in-Some.loaded.heading in record {
      accepted = stands h e.loader.tables.nodes c.copy_from.new.self c.offer.new.spare.tables c.exchange.new.tables _
          (c.copy_from.ensures ∙ ap nodes_in c.table.ensures.table) c.exchange.ensures.given
          (offer_stands e.loader.loaded h e.loader.tables.nodes c.args.text.now c.args.memory.now _ _ c.in_ok-count.count shows.heading c.in_ok-count.ensures.answer);
    }
