use Rattle.response_buffer.proofs.BatchLemmas.{batch_ends-IsCutting}
use Rattle.response_buffer.proofs.batches.rows_are_cut_in_one_way.Goals as goal

pub returns : goal.returns
returns c = batch_ends-IsCutting
