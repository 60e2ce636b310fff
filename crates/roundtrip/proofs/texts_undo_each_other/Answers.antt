use Rattle.reading.proofs.ReadLaws.{writes_back, reads_well}
use Rattle.roundtrip.proofs.WriteLaws.{reads_back}
use Rattle.roundtrip.proofs.texts_undo_each_other.Goals as goal

pub returns : goal.returns
returns c = record { written = writes_back; formed = reads_well; read = reads_back }
