use Rattle.proto_fields.specs.declared.kind.MessageKind.TheVariants as kinds
use Rattle.proto_fields.specs.Fields.{fields_of}
use Rattle.expression_messages.proofs.Agreement.{fields_sound}
use Rattle.expression_messages.proofs.SameTypes.{type_agrees}
use Rattle.expression_messages.proofs.SameExprs.{expr_agrees, alias_agrees, sort_order_agrees}
use Rattle.expression_messages.proofs.laws.levels_agree.Goals as goal

pub returns : goal.returns
returns c = record {
  types = type_agrees;
  exprs = expr_agrees;
  aliases = λ level more bytes upper sound. alias_agrees level more (fields_of bytes) upper (fields_sound level kinds.Alias bytes sound);
  sort_orders = λ level more bytes upper sound. sort_order_agrees level more (fields_of bytes) upper (fields_sound level kinds.SortOrder bytes sound);
}
