use Rattle.resolve_sound.proofs.NullableTables.{nullable_are_safe}
use Rattle.resolve_sound.proofs.table_laws.nullable_tables_are_safe.Goals as goal

pub returns : goal.returns
returns c = nullable_are_safe
