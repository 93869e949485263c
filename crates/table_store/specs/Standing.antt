-- Which tables may stand together.
use Rattle.std.specs.Prelude.{All, map}
use Rattle.std.specs.List.{IsDistinct}
use Rattle.std.specs.Str.{bytes_eq}
use Rattle.cn_types.specs.Fit.{Fits}
use Rattle.table_store.specs.declared.tables.Tables.{Tables}
use Rattle.table_store.specs.Names.{folded_name}

-- no two names fold to one, and the rows of each table fit its schema
pub record AreTables (tables : Tables) : Type 0 where
  pub names_differ : IsDistinct bytes_eq (map folded_name tables.named)
  pub rows_fit : All (λ table. All (Fits table.schema) table.rows) tables.named
