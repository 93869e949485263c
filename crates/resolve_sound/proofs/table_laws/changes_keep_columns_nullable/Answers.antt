use Rattle.resolve_sound.proofs.NullableTables.{changes_keep}
use Rattle.resolve_sound.proofs.table_laws.changes_keep_columns_nullable.Goals as goal

pub returns : goal.returns
returns c = changes_keep
