-- The texts of relations are those of the fault table.
use Rattle.std.proofs.Common.{refl}
use Rattle.proto_fields.specs.declared.kind.MessageKind.TheVariants as kinds
use Rattle.proto_fields.specs.Kinds.{payload_of}
use Rattle.proto_fields.proofs.TextReadings.{keeps_text, keeps_texts}
use Rattle.relation_messages.specs.Laws.{RelationTextsAreKept}

pub relation_texts : RelationTextsAreKept
unfolding payload_of
relation_texts = record {
  alias = λ input. keeps_text kinds.SubqueryAlias 2 refl;
  qualifier = λ input. keeps_texts kinds.SubqueryAlias 3 refl;
  new_names = λ input. keeps_texts kinds.ToDf 2 refl;
  keys = λ input. keeps_texts kinds.Deduplicate 2 refl;
  old_name = keeps_text kinds.RenameEntry 1 refl;
  new_name = keeps_text kinds.RenameEntry 2 refl;
  using_columns = λ level left right. keeps_texts kinds.Join 5 refl;
  dropped = λ level input. keeps_texts kinds.Drop 3 refl;
}
