use Rattle.proto_fields.proofs.ScalarLemmas.{int32_returns, int64_returns, bool_returns}
use Rattle.proto_fields.proofs.laws.scalars_return.Goals as goal

pub returns : goal.returns
returns c = record { int32 = int32_returns; int64 = int64_returns; boolean = bool_returns }
