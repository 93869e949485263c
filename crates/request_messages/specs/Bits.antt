-- That the numbers in a request have the bits of their types, and that its texts are UTF-8.
use Rattle.std.specs.Prelude.{IfSome, FitsSigned, IsUtf8, Option}
use Rattle.std.specs.Int.{w32}
use Rattle.request_messages.specs.declared.user_context.UserContext.{UserContext}
use Rattle.request_messages.specs.declared.reattach.ReattachRequest.{ReattachRequest}
use Rattle.request_messages.specs.declared.release.Release.{Release}
use Rattle.request_messages.specs.declared.release.Release.TheVariants as release
use Rattle.request_messages.specs.declared.release.ReleaseRequest.{ReleaseRequest}
use Rattle.request_messages.specs.declared.interrupt.InterruptTarget.{InterruptTarget}
use Rattle.request_messages.specs.declared.interrupt.InterruptTarget.TheVariants as target
use Rattle.request_messages.specs.declared.interrupt.InterruptRequest.{InterruptRequest}

abbrev pub HasUserContextBits : UserContext → Type 0
HasUserContextBits context = IsUtf8 context.user_id

abbrev pub HasContextBits : Option UserContext → Type 0
HasContextBits context = IfSome context HasUserContextBits

pub record HasReattachBits (request : ReattachRequest) : Type 0 where
  pub session_id : IsUtf8 request.session_id
  pub user_context : HasContextBits request.user_context
  pub operation_id : IsUtf8 request.operation_id
  pub last_response_id : IfSome request.last_response_id IsUtf8

abbrev pub HasReleaseMemberBits : Release → Type 0
HasReleaseMemberBits release.All = Unit {0}
HasReleaseMemberBits (release.Until response_id) = IsUtf8 response_id
HasReleaseMemberBits release.Absent = Unit {0}

pub record HasReleaseBits (request : ReleaseRequest) : Type 0 where
  pub session_id : IsUtf8 request.session_id
  pub user_context : HasContextBits request.user_context
  pub operation_id : IsUtf8 request.operation_id
  pub release : HasReleaseMemberBits request.release

abbrev pub HasInterruptTargetBits : InterruptTarget → Type 0
HasInterruptTargetBits (target.OperationTag tag) = IsUtf8 tag
HasInterruptTargetBits (target.OperationId id) = IsUtf8 id
HasInterruptTargetBits target.Absent = Unit {0}

pub record HasInterruptBits (request : InterruptRequest) : Type 0 where
  pub session_id : IsUtf8 request.session_id
  pub user_context : HasContextBits request.user_context
  pub interrupt_type : FitsSigned w32 request.interrupt_type
  pub target : HasInterruptTargetBits request.target
