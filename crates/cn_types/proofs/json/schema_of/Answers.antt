use Rattle.std.proofs.Common.{sym, ap, ◌∙◌}
use Rattle.std.specs.Prelude.{Result, Ok, List}
use Rattle.serde_json.specs.View.{view}
use Rattle.cn_types.specs.declared.schema.Field.{Field}
use Rattle.cn_types.specs.declared.schema.Schema.{Schema}
use Rattle.cn_types.specs.declared.fault.SchemaFault.{SchemaFault}
use Rattle.cn_types.proofs.JsonFacts.{not_all_fields, unknown_type, all_columns}
use Rattle.cn_types.proofs.json.schema_of.Goals as goal

pub returns-then-not-are_fields-clause-refused : goal.returns-then-not-are_fields-clause-refused
returns-then-not-are_fields-clause-refused c =
    λ other. not_all_fields (view c.args.value.now) c.in-Some.fields.now c.in-Some.ensures (sym c.if-not-are_fields.ensures)

pub returns-in-Some-unknown_type_in-clause-refused : goal.returns-in-Some-unknown_type_in-clause-refused
returns-in-Some-unknown_type_in-clause-refused c =
    λ other. unknown_type (view c.args.value.now) c.in-Some.fields.now c.in-Some.ensures c.in-Some-unknown_type_in.place (sym c.if-not-are_fields.ensures) (sym c.in-Some-unknown_type_in.ensures)

pub returns-clause-ok : goal.returns-clause-ok
returns-clause-ok c =
    all_columns (view c.args.value.now) c.in-Some.fields.now c.in-Some.ensures (sym c.if-not-are_fields.ensures) (sym c.in_default-unknown_type_in.ensures)
    ∙ ap (λ (columns : List Field). let r : Result Schema SchemaFault = Ok (record { 0 = columns }) in r) (sym c.in_ok-columns_of.ensures)
