-- What is read of any fields is valid.
use Rattle.std.proofs.Common.{◌==◌, List}
use Rattle.proto_fields.specs.declared.kind.MessageKind.TheVariants as kinds
use Rattle.proto_fields.specs.Fields.{Field}
use Rattle.proto_fields.specs.Readings.{text_field, merged, Member, latest}
use Rattle.proto_fields.proofs.TextReadings.{int32_valid, text_valid, optional_text_valid, texts_valid}
use Rattle.expression_messages.specs.Messages.{message_at}
use Rattle.expression_messages.proofs.Valid.{either, one_of, if_there, each_read}
use Rattle.response_messages.specs.KeyValues.{key_value_of, HasKeyValueBits}
use Rattle.response_messages.proofs.ResponsesValid.{key_value_valid}
use Rattle.request_messages.specs.declared.release.Release.TheVariants as release
use Rattle.request_messages.specs.declared.interrupt.InterruptTarget.TheVariants as target
use Rattle.request_messages.specs.declared.config.ConfigOperation.TheVariants as operation
use Rattle.request_messages.specs.Requests.{user_context_of, context_of, reattach_request_of, release_member, release_in, release_request_of, interrupt_target_member, target_in, interrupt_request_of}
use Rattle.request_messages.specs.Configs.{pairs_in, keys_in, prefix_in, operation_member, operation_in, config_request_of, HasOperationBits, HasConfigBits}
use Rattle.request_messages.specs.Bits.{HasUserContextBits, HasContextBits, HasReattachBits, HasReleaseMemberBits, HasReleaseBits, HasInterruptTargetBits, HasInterruptBits}

pub user_context_valid : (fields : List Field) → HasUserContextBits (user_context_of fields)
user_context_valid fields = text_valid 1 fields

pub context_valid : (fields : List Field) → HasContextBits (context_of fields)
context_valid fields = if_there HasUserContextBits user_context_of user_context_valid (merged 2 fields)

pub reattach_valid : (fields : List Field) → HasReattachBits (reattach_request_of fields)
reattach_valid fields = record {
  session_id = text_valid 1 fields;
  user_context = context_valid fields;
  operation_id = text_valid 3 fields;
  last_response_id = optional_text_valid 5 fields;
}

release_in_valid : (fields : List Field) → HasReleaseMemberBits (release_in fields)
release_in_valid fields =
    one_of HasReleaseMemberBits release_member release.Absent
    (λ member. either HasReleaseMemberBits (member.number == 5) release.All (release.Until (text_field 1 (message_at 6 member.since))) tt (text_valid 1 (message_at 6 member.since)))
    tt (latest kinds.ReleaseExecuteRequest fields)

pub release_valid : (fields : List Field) → HasReleaseBits (release_request_of fields)
release_valid fields = record {
  session_id = text_valid 1 fields;
  user_context = context_valid fields;
  operation_id = text_valid 3 fields;
  release = release_in_valid fields;
}

target_valid : (fields : List Field) → HasInterruptTargetBits (target_in fields)
target_valid fields =
    one_of HasInterruptTargetBits interrupt_target_member target.Absent
    (λ member. either HasInterruptTargetBits (member.number == 5) (target.OperationTag (text_field 5 member.since)) (target.OperationId (text_field 6 member.since))
    (text_valid 5 member.since) (text_valid 6 member.since))
    tt (latest kinds.InterruptRequest fields)

pub interrupt_valid : (fields : List Field) → HasInterruptBits (interrupt_request_of fields)
interrupt_valid fields = record {
  session_id = text_valid 1 fields;
  user_context = context_valid fields;
  interrupt_type = int32_valid 4 fields;
  target = target_valid fields;
}

operation_valid : (fields : List Field) → HasOperationBits (operation_in fields)
operation_valid fields = one_of HasOperationBits operation_member operation.Absent each tt (latest kinds.ConfigOperation (message_at 3 fields))
  where
    each : (member : Member) → HasOperationBits (operation_member member)
    each member =
        either HasOperationBits (member.number == 1) (operation.Set (pairs_in 1 member)) _ (each_read HasKeyValueBits key_value_of key_value_valid 1 (message_at 1 member.since))
        (either HasOperationBits (member.number == 2) (operation.Get (keys_in 2 member)) _ (texts_valid 1 (message_at 2 member.since))
        (either HasOperationBits (member.number == 3) (operation.GetWithDefault (pairs_in 3 member)) _ (each_read HasKeyValueBits key_value_of key_value_valid 1 (message_at 3 member.since))
        (either HasOperationBits (member.number == 4) (operation.GetOption (keys_in 4 member)) _ (texts_valid 1 (message_at 4 member.since))
        (either HasOperationBits (member.number == 5) (operation.GetAll (prefix_in 5 member)) _ (optional_text_valid 1 (message_at 5 member.since))
        (either HasOperationBits (member.number == 6) (operation.Unset (keys_in 6 member)) (operation.IsModifiable (keys_in 7 member)) (texts_valid 1 (message_at 6 member.since))
        (texts_valid 1 (message_at 7 member.since)))))))

pub config_valid : (fields : List Field) → HasConfigBits (config_request_of fields)
config_valid fields = record { session_id = text_valid 1 fields; user_context = context_valid fields; operation = operation_valid fields }
