-- Laws over the definitions, for all requests. What a request is spelled as is a sound message wherever its depth is allowed, and is read as
-- the request; what is read of any fields can be written again; texts are read as they stand.
use Rattle.std.specs.Prelude.{◌≡◌, ◌≤◌, ℕ, Bool, List, [], unwrap_or}
use Rattle.proto_fields.specs.declared.kind.MessageKind.TheVariants as kinds
use Rattle.proto_fields.specs.Fields.{Field}
use Rattle.proto_fields.specs.Readings.{last_payload, payloads, Member}
use Rattle.proto_fields.specs.Texts.{AreSoundFields, KeepsText, KeepsOptionalText}
use Rattle.expression_messages.specs.Messages.{message_at}
use Rattle.request_messages.specs.declared.release.Release.TheVariants as release
use Rattle.request_messages.specs.declared.interrupt.InterruptTarget.TheVariants as target
use Rattle.expression_messages.specs.Laws.{IsShort, IsReadBack}
use Rattle.request_messages.specs.declared.user_context.UserContext.{UserContext}
use Rattle.request_messages.specs.declared.reattach.ReattachRequest.{ReattachRequest}
use Rattle.request_messages.specs.declared.release.ReleaseRequest.{ReleaseRequest}
use Rattle.request_messages.specs.declared.interrupt.InterruptRequest.{InterruptRequest}
use Rattle.request_messages.specs.declared.config.ConfigRequest.{ConfigRequest}
use Rattle.request_messages.specs.Requests.{user_context_of, reattachable_of, reattach_request_of, release_member, release_request_of, interrupt_target_member, interrupt_request_of}
use Rattle.request_messages.specs.Spelled.{user_context_fields, reattachable_fields, reattach_fields, release_fields, interrupt_fields}
use Rattle.request_messages.specs.Depths.{reattach_depth, release_depth, interrupt_depth, config_depth}
use Rattle.request_messages.specs.Bits.{HasUserContextBits, HasReattachBits, HasReleaseBits, HasInterruptBits}
use Rattle.request_messages.specs.Configs.{keys_in, prefix_in, config_request_of, config_fields, HasConfigBits}

abbrev pub UserContextsAreReadBack : Type 0
UserContextsAreReadBack = (level : ℕ) (context : UserContext) → HasUserContextBits context → IsShort (user_context_fields context) → 1 ≤ level →
    IsReadBack level kinds.UserContext (user_context_fields context) user_context_of context

-- the options of a request alone
abbrev pub ReattachableIsReadBack : Type 0
ReattachableIsReadBack = (flag : Bool) → reattachable_of (reattachable_fields flag) ≡ flag

abbrev pub ReattachRequestsAreReadBack : Type 0
ReattachRequestsAreReadBack = (level : ℕ) (request : ReattachRequest) → HasReattachBits request → IsShort (reattach_fields request) → reattach_depth request ≤ level →
    IsReadBack level kinds.ReattachExecuteRequest (reattach_fields request) reattach_request_of request

abbrev pub ReleaseRequestsAreReadBack : Type 0
ReleaseRequestsAreReadBack = (level : ℕ) (request : ReleaseRequest) → HasReleaseBits request → IsShort (release_fields request) → release_depth request ≤ level →
    IsReadBack level kinds.ReleaseExecuteRequest (release_fields request) release_request_of request

abbrev pub InterruptRequestsAreReadBack : Type 0
InterruptRequestsAreReadBack = (level : ℕ) (request : InterruptRequest) → HasInterruptBits request → IsShort (interrupt_fields request) → interrupt_depth request ≤ level →
    IsReadBack level kinds.InterruptRequest (interrupt_fields request) interrupt_request_of request

abbrev pub ConfigRequestsAreReadBack : Type 0
ConfigRequestsAreReadBack = (level : ℕ) (request : ConfigRequest) → HasConfigBits request → IsShort (config_fields request) → config_depth request ≤ level →
    IsReadBack level kinds.ConfigRequest (config_fields request) config_request_of request

-- whatever fields are read, the numbers have the bits of their types and the texts are UTF-8, so that what was read can be written again
pub record RequestsAreValid : Type 0 where
  pub user_contexts : (fields : List Field) → HasUserContextBits (user_context_of fields)
  pub reattach_requests : (fields : List Field) → HasReattachBits (reattach_request_of fields)
  pub release_requests : (fields : List Field) → HasReleaseBits (release_request_of fields)
  pub interrupt_requests : (fields : List Field) → HasInterruptBits (interrupt_request_of fields)
  pub config_requests : (fields : List Field) → HasConfigBits (config_request_of fields)

-- every text of a sound request is read as it stands
pub record RequestTextsAreKept : Type 0 where
  pub user_id : KeepsText kinds.UserContext 1 (λ fields. (user_context_of fields).user_id)
  pub reattach_session : KeepsText kinds.ReattachExecuteRequest 1 (λ fields. (reattach_request_of fields).session_id)
  pub reattach_operation : KeepsText kinds.ReattachExecuteRequest 3 (λ fields. (reattach_request_of fields).operation_id)
  pub last_response : KeepsOptionalText kinds.ReattachExecuteRequest 5 (λ fields. (reattach_request_of fields).last_response_id)
  pub release_session : KeepsText kinds.ReleaseExecuteRequest 1 (λ fields. (release_request_of fields).session_id)
  pub release_operation : KeepsText kinds.ReleaseExecuteRequest 3 (λ fields. (release_request_of fields).operation_id)
  pub release_until : (levels : ℕ) (since : List Field) → AreSoundFields levels kinds.ReleaseUntil (message_at 6 since) →
      release_member (record { number = 6; since = since }) ≡ release.Until (unwrap_or (last_payload 1 (message_at 6 since)) [])
  pub interrupt_session : KeepsText kinds.InterruptRequest 1 (λ fields. (interrupt_request_of fields).session_id)
  pub operation_tag : (levels : ℕ) (since : List Field) → AreSoundFields levels kinds.InterruptRequest since →
      interrupt_target_member (record { number = 5; since = since }) ≡ target.OperationTag (unwrap_or (last_payload 5 since) [])
  pub operation_id : (levels : ℕ) (since : List Field) → AreSoundFields levels kinds.InterruptRequest since →
      interrupt_target_member (record { number = 6; since = since }) ≡ target.OperationId (unwrap_or (last_payload 6 since) [])
  pub config_session : KeepsText kinds.ConfigRequest 1 (λ fields. (config_request_of fields).session_id)
  pub keys : (levels number : ℕ) (member : Member) → AreSoundFields levels kinds.ConfigKeys (message_at number member.since) →
      keys_in number member ≡ payloads 1 (message_at number member.since)
  pub prefix : (levels number : ℕ) (member : Member) → AreSoundFields levels kinds.ConfigPrefix (message_at number member.since) →
      prefix_in number member ≡ last_payload 1 (message_at number member.since)
