use Rattle.std.proofs.Common.{◌∙◌, ap, arith}
use Rattle.std.specs.Int.{w128, to_be_bytes}
use Rattle.response_buffer.proofs.response_id.ResponseId.to_uuid.Goals as goal

pub returns : goal.returns
returns c = c.from_u64_pair.ensures ∙ ap (to_be_bytes w128) (omega arith)
