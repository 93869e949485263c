-- Requests as fields, in one spelling: by ascending number, a scalar left out at its default, a present optional and a set member of a oneof
-- written, a message where it is present.
use Rattle.std.specs.Prelude.{Bool, true, if◌then◌else◌, List, [], ◌++◌, Option, option_map}
use Rattle.proto_fields.specs.Fields.{Field}
use Rattle.proto_fields.specs.Spelling.{spell, payload_fields, int_fields, bool_fields, text_fields, optional_payload_fields}
use Rattle.request_messages.specs.declared.user_context.UserContext.{UserContext}
use Rattle.request_messages.specs.declared.reattach.ReattachRequest.{ReattachRequest}
use Rattle.request_messages.specs.declared.release.Release.{Release}
use Rattle.request_messages.specs.declared.release.Release.TheVariants as release
use Rattle.request_messages.specs.declared.release.ReleaseRequest.{ReleaseRequest}
use Rattle.request_messages.specs.declared.interrupt.InterruptTarget.{InterruptTarget}
use Rattle.request_messages.specs.declared.interrupt.InterruptTarget.TheVariants as target
use Rattle.request_messages.specs.declared.interrupt.InterruptRequest.{InterruptRequest}

-- ---- what several requests hold

-- user_id 1
abbrev pub user_context_fields : UserContext → List Field
user_context_fields context = text_fields 1 context.user_id

-- the field user_context 2 of a request
abbrev pub context_fields : Option UserContext → List Field
context_fields context = optional_payload_fields 2 (option_map (λ present. spell (user_context_fields present)) context)

-- a request option with its reattach_options 1, whose reattachable 1 is true
abbrev pub option_fields : List Field
option_fields = payload_fields 1 (spell (bool_fields 1 true))

-- request_options 5 of a request: one option where the flag is true, else none
abbrev pub reattachable_fields : Bool → List Field
reattachable_fields flag = if flag then payload_fields 5 (spell option_fields) else []

-- ---- requests

-- session_id 1, user_context 2, operation_id 3, last_response_id 5
abbrev pub reattach_fields : ReattachRequest → List Field
reattach_fields request =
    text_fields 1 request.session_id ++ context_fields request.user_context ++ text_fields 3 request.operation_id
    ++ optional_payload_fields 5 request.last_response_id

-- release_all 5, release_until 6 with its response_id 1
abbrev pub release_member_fields : Release → List Field
release_member_fields release.All = payload_fields 5 []
release_member_fields (release.Until response_id) = payload_fields 6 (spell (text_fields 1 response_id))
release_member_fields release.Absent = []

-- session_id 1, user_context 2, operation_id 3
abbrev pub release_fields : ReleaseRequest → List Field
release_fields request =
    text_fields 1 request.session_id ++ context_fields request.user_context ++ text_fields 3 request.operation_id
    ++ release_member_fields request.release

-- operation_tag 5, operation_id 6
abbrev pub interrupt_target_fields : InterruptTarget → List Field
interrupt_target_fields (target.OperationTag tag) = payload_fields 5 tag
interrupt_target_fields (target.OperationId id) = payload_fields 6 id
interrupt_target_fields target.Absent = []

-- session_id 1, user_context 2, interrupt_type 4
abbrev pub interrupt_fields : InterruptRequest → List Field
interrupt_fields request =
    text_fields 1 request.session_id ++ context_fields request.user_context ++ int_fields 4 request.interrupt_type
    ++ interrupt_target_fields request.target
