use Rattle.std.proofs.Common.{◌≡◌}
use Rattle.web_heads.proofs.FieldLemmas.{values_from}
use Rattle.web_heads.proofs.fields.first_value.Given as goal

abbrev pub invariant-loop-header : goal.invariant-loop-header
invariant-loop-header l = values_from l.name l.head l.headers l.header-index ≡ values_from l.name l.head l.headers 0
