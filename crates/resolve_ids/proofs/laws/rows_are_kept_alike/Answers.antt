use Rattle.resolve_ids.proofs.Keeping.{alias_alike, deduplicate_alike, filter_alike, limit_alike, offset_alike, sort_alike}
use Rattle.resolve_ids.proofs.laws.rows_are_kept_alike.Goals as goal

pub returns : goal.returns
returns g c = record {
  limit = λ name. limit_alike name;
  offset = λ name. offset_alike name;
  alias = λ name. alias_alike name;
  deduplicate = λ name. deduplicate_alike name;
  filter = λ name same same_too tells. filter_alike name same same_too tells;
  sort = λ name same same_too tells. sort_alike name same same_too tells;
}
