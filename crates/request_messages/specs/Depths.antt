-- How many messages are nested in the spelling of a request, the request itself among them. An empty message is a message.
use Rattle.std.specs.Prelude.{ℕ, ◌+◌, Bool, if◌then◌else◌, List, [], ◌∷◌, Option, Some, None, max}
use Rattle.response_messages.specs.declared.key_value.KeyValue.{KeyValue}
use Rattle.request_messages.specs.declared.user_context.UserContext.{UserContext}
use Rattle.request_messages.specs.declared.reattach.ReattachRequest.{ReattachRequest}
use Rattle.request_messages.specs.declared.release.Release.{Release}
use Rattle.request_messages.specs.declared.release.Release.TheVariants as release
use Rattle.request_messages.specs.declared.release.ReleaseRequest.{ReleaseRequest}
use Rattle.request_messages.specs.declared.interrupt.InterruptRequest.{InterruptRequest}
use Rattle.request_messages.specs.declared.config.ConfigOperation.{ConfigOperation}
use Rattle.request_messages.specs.declared.config.ConfigOperation.TheVariants as operation
use Rattle.request_messages.specs.declared.config.ConfigRequest.{ConfigRequest}

-- what a request's user adds
abbrev pub context_depth : Option UserContext → ℕ
context_depth None = 0
context_depth (Some context) = 1

-- what a request's options add: an option and its reattach_options
abbrev pub reattachable_depth : Bool → ℕ
reattachable_depth flag = if flag then 2 else 0

abbrev pub reattach_depth : ReattachRequest → ℕ
reattach_depth request = 1 + context_depth request.user_context

abbrev pub release_member_depth : Release → ℕ
release_member_depth release.All = 1
release_member_depth (release.Until response_id) = 1
release_member_depth release.Absent = 0

abbrev pub release_depth : ReleaseRequest → ℕ
release_depth request = 1 + max (context_depth request.user_context) (release_member_depth request.release)

abbrev pub interrupt_depth : InterruptRequest → ℕ
interrupt_depth request = 1 + context_depth request.user_context

-- an operation, its member and a pair in that
abbrev pub pairs_operation_depth : List KeyValue → ℕ
pairs_operation_depth [] = 2
pairs_operation_depth (pair ∷ pairs) = 3

-- what a request's operation adds
abbrev pub operation_depth : ConfigOperation → ℕ
operation_depth (operation.Set pairs) = pairs_operation_depth pairs
operation_depth (operation.Get keys) = 2
operation_depth (operation.GetWithDefault pairs) = pairs_operation_depth pairs
operation_depth (operation.GetOption keys) = 2
operation_depth (operation.GetAll prefix) = 2
operation_depth (operation.Unset keys) = 2
operation_depth (operation.IsModifiable keys) = 2
operation_depth operation.Absent = 0

abbrev pub config_depth : ConfigRequest → ℕ
config_depth request = 1 + max (context_depth request.user_context) (operation_depth request.operation)
