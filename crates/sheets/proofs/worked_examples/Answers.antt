use Rattle.std.proofs.Common.{refl}
use Rattle.sheets.proofs.Loads.{loads_a}
use Rattle.sheets.proofs.Checked.{reads_b, reads_source_c, reads_c, accepted_b, before_b, elsewhere_b, foreign_b, never_set_b, overwritten_c}
use Rattle.sheets.proofs.Coloured.{colours_a}
use Rattle.sheets.proofs.Runs.{worked_runs}
use Rattle.sheets.proofs.worked_examples.Goals as goal

pub returns : goal.returns
returns c = record {
  loads = loads_a;
  reads = reads_b;
  accepted = accepted_b;
  moves = refl;
  before = before_b;
  elsewhere = elsewhere_b;
  foreign = foreign_b;
  never_set = never_set_b;
  reads_source_c = reads_source_c;
  reads_c = reads_c;
  overwritten = overwritten_c;
  colours = colours_a;
  runs = worked_runs;
}
