use Rattle.std.proofs.Common.{◌≡◌, ◌+◌, ◌≤◌, length}
use Rattle.web_heads.proofs.FieldLemmas.{values_from}
use Rattle.web_heads.proofs.fields.is_repeated.Given as goal

abbrev pub invariant-loop-header : goal.invariant-loop-header
invariant-loop-header l = record {
  counted : l.count + length (values_from l.name l.head l.headers l.header-index) ≡ length (values_from l.name l.head l.headers 0);
  few : l.count ≤ l.header-index;
}
