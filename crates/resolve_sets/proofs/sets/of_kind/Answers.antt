use Rattle.std.proofs.Common.{rules}
use Rattle.resolve_relations.specs.Columns as columns_of
use Rattle.resolve_sets.proofs.OfKind.{of_kind_result}
use Rattle.resolve_sets.proofs.sets.of_kind.Goals as goal

pub returns-clause-ok : goal.returns-clause-ok
returns-clause-ok c =
    of_kind_result c.args.case_sensitive (columns_of.ids_from c.args.base) c.args.kind c.args.left c.args.right c.args.options.all c.args.options.by_name
    c.args.options.allow_missing c.in_ok-places.places c.in_ok-columns.columns c.combined.result (search rules) (search rules) (search rules)
