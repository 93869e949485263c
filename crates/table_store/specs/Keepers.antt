-- What the keepers in memory hold, as contracts see them.
use Rattle.std.specs.Prelude.{◌≡◌, ℕ, List, Contains}
use Rattle.cn_base.specs.Outside.{counted}
use Rattle.table_store.specs.declared.change.TableChange.{TableChange}
use Rattle.table_store.specs.declared.rule.Ruling.{Ruling}
use Rattle.table_store.specs.declared.tables.Tables.{Tables}
use Rattle.table_store.specs.Rule.{ruling}

-- the tables, the numbers (from 1) of the commits that are to fail, how many commits were called and how many of them failed
pub record MemoryState : Type 0 where
  pub tables : Tables
  pub failing : List ℕ
  pub calls : ℕ
  pub faults : ℕ

-- the store is to fail at the next commit: the rule applies its change, and its number is listed
abbrev pub IsToFail : MemoryState → TableChange → Type 0
IsToFail state change = (ruling change state.tables ≡ Ruling.Applies) × Contains state.failing (counted state.calls)
