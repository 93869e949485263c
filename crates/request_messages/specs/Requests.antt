-- Requests that hold no plan, read of the fields of their messages (`base.proto`). The oneof of each is the member that was set last.
use Rattle.std.specs.Prelude.{ℕ, ◌==◌, Bool, false, if◌then◌else◌, List, Option, option_map, unwrap_or}
use Rattle.proto_fields.specs.declared.kind.MessageKind.TheVariants as kinds
use Rattle.proto_fields.specs.Fields.{Field, fields_of}
use Rattle.proto_fields.specs.Readings.{bool_field, int32_field, text_field, optional_text, last_some, payloads, merged, Member, latest}
use Rattle.expression_messages.specs.Messages.{message_at}
use Rattle.request_messages.specs.declared.user_context.UserContext.{UserContext}
use Rattle.request_messages.specs.declared.reattach.ReattachRequest.{ReattachRequest}
use Rattle.request_messages.specs.declared.release.Release.{Release}
use Rattle.request_messages.specs.declared.release.Release.TheVariants as release
use Rattle.request_messages.specs.declared.release.ReleaseRequest.{ReleaseRequest}
use Rattle.request_messages.specs.declared.interrupt.InterruptTarget.{InterruptTarget}
use Rattle.request_messages.specs.declared.interrupt.InterruptTarget.TheVariants as target
use Rattle.request_messages.specs.declared.interrupt.InterruptRequest.{InterruptRequest}

-- ---- what several requests hold

-- user_id 1
abbrev pub user_context_of : List Field → UserContext
user_context_of fields = record { user_id = text_field 1 fields }

-- the field user_context 2 of a request; none where it is absent
abbrev pub context_of : List Field → Option UserContext
context_of fields = option_map user_context_of (merged 2 fields)

-- reattach_options 1 of a request option, and its reattachable 1; none where the option hasn't these
abbrev pub option_flag : List ℕ → Option Bool
option_flag payload = option_map (bool_field 1) (merged 1 (fields_of payload))

-- request_options 5 of a request: the flag of the last option that has one, else false
abbrev pub reattachable_of : List Field → Bool
reattachable_of fields = unwrap_or (last_some option_flag (payloads 5 fields)) false

-- ---- requests

-- session_id 1, user_context 2, operation_id 3, last_response_id 5
abbrev pub reattach_request_of : List Field → ReattachRequest
reattach_request_of fields = record {
  session_id = text_field 1 fields;
  user_context = context_of fields;
  operation_id = text_field 3 fields;
  last_response_id = optional_text 5 fields;
}

-- release_all 5, whose fields say nothing; release_until 6 with its response_id 1
abbrev pub release_member : Member → Release
release_member member =
    if member.number == 5 then release.All else release.Until (text_field 1 (message_at 6 member.since))

abbrev pub release_in : List Field → Release
release_in fields = unwrap_or (option_map release_member (latest kinds.ReleaseExecuteRequest fields)) release.Absent

-- session_id 1, user_context 2, operation_id 3
abbrev pub release_request_of : List Field → ReleaseRequest
release_request_of fields = record {
  session_id = text_field 1 fields;
  user_context = context_of fields;
  operation_id = text_field 3 fields;
  release = release_in fields;
}

-- operation_tag 5, operation_id 6
abbrev pub interrupt_target_member : Member → InterruptTarget
interrupt_target_member member =
    if member.number == 5 then target.OperationTag (text_field 5 member.since) else target.OperationId (text_field 6 member.since)

abbrev pub target_in : List Field → InterruptTarget
target_in fields = unwrap_or (option_map interrupt_target_member (latest kinds.InterruptRequest fields)) target.Absent

-- session_id 1, user_context 2, interrupt_type 4
abbrev pub interrupt_request_of : List Field → InterruptRequest
interrupt_request_of fields = record {
  session_id = text_field 1 fields;
  user_context = context_of fields;
  interrupt_type = int32_field 4 fields;
  target = target_in fields;
}
