-- How many messages are nested in the spelling of a message, the message itself among them.
use Rattle.std.specs.Prelude.{ℕ, Option, Some, None}
use Rattle.relation_parts.specs.declared.read.NamedTable.{NamedTable}
use Rattle.relation_parts.specs.declared.read.Read.{Read}

abbrev named_table_depth : Option NamedTable → ℕ
named_table_depth None = 1
named_table_depth (Some table) = 2

-- a read and its table; every other message here nests none
abbrev pub read_depth : Read → ℕ
read_depth read = named_table_depth read.named_table
