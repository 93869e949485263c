use Rattle.arrow_ipc.proofs.WrittenBatch.{written_streams_hold}
use Rattle.arrow_ipc.proofs.laws.written_streams_hold.Goals as goal

pub returns : goal.returns
returns c = written_streams_hold c.object_sizes_add_up.ensures c.built_objects_are_read.ensures
