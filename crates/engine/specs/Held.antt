-- What an engine holds.
use Rattle.std.specs.Option.{option_map}
use Rattle.source.specs.Tables.{source_in}
use Rattle.loader.specs.Load.{loaded_source}
use Rattle.allocation.specs.Allocations.{allocation_of}
use Rattle.engine.specs.declared.state.Engine.{Engine}
use Rattle.engine.specs.Plain.{Plain}

abbrev pub held : Engine → Plain
held e = record {
  loaded = loaded_source e.loader;
  standing = option_map (λ h. record { source = source_in h.source e.source; allocation = allocation_of e.tables; placed = h.placed }) e.standing;
}
