-- Requests on settings, read of the fields of their messages and written as fields (`base.proto`, ConfigRequest).
use Rattle.std.specs.Prelude.{ℕ, ◌==◌, if◌then◌else◌, IfSome, IsUtf8, List, [], ◌++◌, Option, option_map, unwrap_or}
use Rattle.std.specs.List.{AllByRecursion}
use Rattle.proto_fields.specs.declared.kind.MessageKind.TheVariants as kinds
use Rattle.proto_fields.specs.Fields.{Field}
use Rattle.proto_fields.specs.Readings.{text_field, optional_text, texts, Member, latest}
use Rattle.proto_fields.specs.Spelling.{spell, payload_fields, text_fields, optional_payload_fields}
use Rattle.expression_messages.specs.Messages.{message_at, messages_at, repeated_fields, messages_fields}
use Rattle.response_messages.specs.declared.key_value.KeyValue.{KeyValue}
use Rattle.response_messages.specs.KeyValues.{key_value_of, key_value_fields, HasKeyValueBits}
use Rattle.request_messages.specs.declared.config.ConfigOperation.{ConfigOperation}
use Rattle.request_messages.specs.declared.config.ConfigOperation.TheVariants as operation
use Rattle.request_messages.specs.declared.config.ConfigRequest.{ConfigRequest}
use Rattle.request_messages.specs.Requests.{context_of}
use Rattle.request_messages.specs.Spelled.{context_fields}
use Rattle.request_messages.specs.Bits.{HasContextBits}

-- ---- reading

-- the message of a member has pairs 1, keys 1 or a prefix 1
abbrev pub pairs_in : ℕ → Member → List KeyValue
pairs_in number member = messages_at key_value_of 1 (message_at number member.since)

abbrev pub keys_in : ℕ → Member → List (List ℕ)
keys_in number member = texts 1 (message_at number member.since)

abbrev pub prefix_in : ℕ → Member → Option (List ℕ)
prefix_in number member = optional_text 1 (message_at number member.since)

-- set 1, get 2, get_with_default 3, get_option 4, get_all 5, unset 6, is_modifiable 7
abbrev pub operation_member : Member → ConfigOperation
operation_member member =
    if member.number == 1 then operation.Set (pairs_in 1 member)
    else if member.number == 2 then operation.Get (keys_in 2 member)
    else if member.number == 3 then operation.GetWithDefault (pairs_in 3 member)
    else if member.number == 4 then operation.GetOption (keys_in 4 member)
    else if member.number == 5 then operation.GetAll (prefix_in 5 member)
    else if member.number == 6 then operation.Unset (keys_in 6 member)
    else operation.IsModifiable (keys_in 7 member)

-- operation 3 of a request; one without a member is absent
abbrev pub operation_in : List Field → ConfigOperation
operation_in fields = unwrap_or (option_map operation_member (latest kinds.ConfigOperation (message_at 3 fields))) operation.Absent

-- session_id 1, user_context 2, operation 3
abbrev pub config_request_of : List Field → ConfigRequest
config_request_of fields = record { session_id = text_field 1 fields; user_context = context_of fields; operation = operation_in fields }

-- ---- writing

-- operation 3 of a request, with its one member
abbrev pub operation_of_member : ℕ → List Field → List Field
operation_of_member number member = payload_fields 3 (spell (payload_fields number (spell member)))

abbrev pub pairs_operation : ℕ → List KeyValue → List Field
pairs_operation number pairs = operation_of_member number (messages_fields key_value_fields 1 pairs)

abbrev pub keys_operation : ℕ → List (List ℕ) → List Field
keys_operation number keys = operation_of_member number (repeated_fields 1 keys)

abbrev pub prefix_operation : ℕ → Option (List ℕ) → List Field
prefix_operation number prefix = operation_of_member number (optional_payload_fields 1 prefix)

-- operation 3 of a request; an absent one isn't written
abbrev pub operation_fields : ConfigOperation → List Field
operation_fields (operation.Set pairs) = pairs_operation 1 pairs
operation_fields (operation.Get keys) = keys_operation 2 keys
operation_fields (operation.GetWithDefault pairs) = pairs_operation 3 pairs
operation_fields (operation.GetOption keys) = keys_operation 4 keys
operation_fields (operation.GetAll prefix) = prefix_operation 5 prefix
operation_fields (operation.Unset keys) = keys_operation 6 keys
operation_fields (operation.IsModifiable keys) = keys_operation 7 keys
operation_fields operation.Absent = []

-- session_id 1, user_context 2, operation 3
abbrev pub config_fields : ConfigRequest → List Field
config_fields request = text_fields 1 request.session_id ++ context_fields request.user_context ++ operation_fields request.operation

-- ---- texts are UTF-8

abbrev pub HasOperationBits : ConfigOperation → Type 0
HasOperationBits (operation.Set pairs) = AllByRecursion HasKeyValueBits pairs
HasOperationBits (operation.Get keys) = AllByRecursion IsUtf8 keys
HasOperationBits (operation.GetWithDefault pairs) = AllByRecursion HasKeyValueBits pairs
HasOperationBits (operation.GetOption keys) = AllByRecursion IsUtf8 keys
HasOperationBits (operation.GetAll prefix) = IfSome prefix IsUtf8
HasOperationBits (operation.Unset keys) = AllByRecursion IsUtf8 keys
HasOperationBits (operation.IsModifiable keys) = AllByRecursion IsUtf8 keys
HasOperationBits operation.Absent = Unit {0}

pub record HasConfigBits (request : ConfigRequest) : Type 0 where
  pub session_id : IsUtf8 request.session_id
  pub user_context : HasContextBits request.user_context
  pub operation : HasOperationBits request.operation
