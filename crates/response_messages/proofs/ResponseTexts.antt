-- The texts of responses are those of the fault table.
use Rattle.std.proofs.Common.{◌≡◌, ℕ, List, [], refl, ap}
use Rattle.std.specs.Prelude.{unwrap_or}
use Rattle.proto_fields.specs.declared.kind.MessageKind.TheVariants as kinds
use Rattle.proto_fields.specs.Fields.{Field}
use Rattle.proto_fields.specs.Kinds.{payload_of}
use Rattle.proto_fields.specs.Readings.{last_payload}
use Rattle.proto_fields.specs.Texts.{AreSoundFields}
use Rattle.proto_fields.proofs.TextReadings.{keeps_text, keeps_optional_text, keeps_texts}
use Rattle.expression_messages.specs.Messages.{message_at}
use Rattle.expression_messages.specs.Types.{type_at}
use Rattle.response_messages.specs.declared.answers.AnalyzeResult.TheVariants as said
use Rattle.response_messages.specs.Responses.{analyze_member}
use Rattle.response_messages.specs.Laws.{ResponseTextsAreKept}

version_kept : (level levels : ℕ) (since : List Field) → AreSoundFields levels kinds.SparkVersionAnswer (message_at 8 since) →
    analyze_member (type_at level) (record { number = 8; since = since }) ≡ said.SparkVersion (unwrap_or (last_payload 1 (message_at 8 since)) [])
unfolding payload_of
version_kept level levels since sound = ap (λ (text : List ℕ). said.SparkVersion text) (keeps_text kinds.SparkVersionAnswer 1 refl levels (message_at 8 since) sound)

pub response_texts : ResponseTextsAreKept
unfolding payload_of
response_texts = record {
  key = keeps_text kinds.KeyValue 1 refl;
  value = keeps_optional_text kinds.KeyValue 2 refl;
  execute_session = λ level. keeps_text kinds.ExecutePlanResponse 1 refl;
  execute_operation = λ level. keeps_text kinds.ExecutePlanResponse 12 refl;
  response_id = λ level. keeps_text kinds.ExecutePlanResponse 13 refl;
  analyze_session = λ level. keeps_text kinds.AnalyzePlanResponse 1 refl;
  spark_version = version_kept;
  config_session = keeps_text kinds.ConfigResponse 1 refl;
  interrupt_session = keeps_text kinds.InterruptResponse 1 refl;
  interrupted_ids = keeps_texts kinds.InterruptResponse 2 refl;
  release_session = keeps_text kinds.ReleaseExecuteResponse 1 refl;
  release_operation = keeps_optional_text kinds.ReleaseExecuteResponse 2 refl;
}
