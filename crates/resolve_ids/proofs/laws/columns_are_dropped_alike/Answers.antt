use Rattle.resolve_ids.proofs.Dropping.{drop_alike}
use Rattle.resolve_ids.proofs.laws.columns_are_dropped_alike.Goals as goal

pub returns : goal.returns
returns g c = record { drop = λ name same same_too tells. drop_alike name same same_too tells }
