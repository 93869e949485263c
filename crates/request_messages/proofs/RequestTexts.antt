-- The texts of requests are those of the fault table.
use Rattle.std.proofs.Common.{◌≡◌, ℕ, List, [], refl, ap}
use Rattle.std.specs.Prelude.{unwrap_or}
use Rattle.proto_fields.specs.declared.kind.MessageKind.TheVariants as kinds
use Rattle.proto_fields.specs.Fields.{Field}
use Rattle.proto_fields.specs.Kinds.{payload_of}
use Rattle.proto_fields.specs.Readings.{last_payload}
use Rattle.proto_fields.specs.Texts.{AreSoundFields}
use Rattle.proto_fields.proofs.TextReadings.{keeps_text, keeps_optional_text, keeps_texts}
use Rattle.expression_messages.specs.Messages.{message_at}
use Rattle.request_messages.specs.declared.release.Release.TheVariants as release
use Rattle.request_messages.specs.declared.interrupt.InterruptTarget.TheVariants as target
use Rattle.request_messages.specs.Requests.{release_member, interrupt_target_member}
use Rattle.request_messages.specs.Laws.{RequestTextsAreKept}

until_kept : (levels : ℕ) (since : List Field) → AreSoundFields levels kinds.ReleaseUntil (message_at 6 since) →
    release_member (record { number = 6; since = since }) ≡ release.Until (unwrap_or (last_payload 1 (message_at 6 since)) [])
unfolding payload_of
until_kept levels since sound = ap (λ (text : List ℕ). release.Until text) (keeps_text kinds.ReleaseUntil 1 refl levels (message_at 6 since) sound)

tag_kept : (levels : ℕ) (since : List Field) → AreSoundFields levels kinds.InterruptRequest since →
    interrupt_target_member (record { number = 5; since = since }) ≡ target.OperationTag (unwrap_or (last_payload 5 since) [])
unfolding payload_of
tag_kept levels since sound = ap (λ (text : List ℕ). target.OperationTag text) (keeps_text kinds.InterruptRequest 5 refl levels since sound)

id_kept : (levels : ℕ) (since : List Field) → AreSoundFields levels kinds.InterruptRequest since →
    interrupt_target_member (record { number = 6; since = since }) ≡ target.OperationId (unwrap_or (last_payload 6 since) [])
unfolding payload_of
id_kept levels since sound = ap (λ (text : List ℕ). target.OperationId text) (keeps_text kinds.InterruptRequest 6 refl levels since sound)

pub request_texts : RequestTextsAreKept
unfolding payload_of
request_texts = record {
  user_id = keeps_text kinds.UserContext 1 refl;
  reattach_session = keeps_text kinds.ReattachExecuteRequest 1 refl;
  reattach_operation = keeps_text kinds.ReattachExecuteRequest 3 refl;
  last_response = keeps_optional_text kinds.ReattachExecuteRequest 5 refl;
  release_session = keeps_text kinds.ReleaseExecuteRequest 1 refl;
  release_operation = keeps_text kinds.ReleaseExecuteRequest 3 refl;
  release_until = until_kept;
  interrupt_session = keeps_text kinds.InterruptRequest 1 refl;
  operation_tag = tag_kept;
  operation_id = id_kept;
  config_session = keeps_text kinds.ConfigRequest 1 refl;
  keys = λ levels number member sound. keeps_texts kinds.ConfigKeys 1 refl levels (message_at number member.since) sound;
  prefix = λ levels number member sound. keeps_optional_text kinds.ConfigPrefix 1 refl levels (message_at number member.since) sound;
}
