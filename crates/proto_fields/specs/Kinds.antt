-- Which payloads of a message are texts and which are messages, and which records set a member of its oneof: a line a message, as the
-- service's public message files have them. A number that stands in no line is skipped, and so is a payload of plain bytes.
use Rattle.std.specs.Prelude.{ℕ, ◌==◌, ◌||◌, Bool, true, false, nat_lt, if◌then◌else◌, List, [], ◌∷◌, Option, Some, None, unwrap_or}
use Rattle.std.specs.Option.{option_or}
use Rattle.proto_fields.specs.declared.kind.MessageKind.{MessageKind}
use Rattle.proto_fields.specs.declared.kind.MessageKind.TheVariants as kinds
use Rattle.proto_fields.specs.declared.kind.PayloadKind.{PayloadKind}
use Rattle.proto_fields.specs.declared.kind.PayloadKind.TheVariants.{Message, Text, Other}
use Rattle.proto_fields.specs.Fields.{Content, Number, Eight, Payload, Four}

-- the payloads of requests and answers, and of the messages that only these hold
abbrev pub request_payloads : MessageKind → List (ℕ × PayloadKind)
request_payloads kinds.UserContext = (1, Text) ∷ []
request_payloads kinds.KeyValue = (1, Text) ∷ (2, Text) ∷ []
request_payloads kinds.ExecutePlanRequest =
    (1, Text) ∷ (2, Message kinds.UserContext) ∷ (3, Message kinds.Plan) ∷ (5, Message kinds.RequestOption) ∷ (6, Text) ∷ (7, Text) ∷ []
request_payloads kinds.RequestOption = (1, Message kinds.ReattachOptions) ∷ []
request_payloads kinds.ExecutePlanResponse =
    (1, Text) ∷ (2, Message kinds.ArrowBatch) ∷ (7, Message kinds.DataType) ∷ (12, Text) ∷ (13, Text) ∷ (14, Message kinds.Empty) ∷ []
request_payloads kinds.ReattachExecuteRequest = (1, Text) ∷ (2, Message kinds.UserContext) ∷ (3, Text) ∷ (5, Text) ∷ []
request_payloads kinds.ReleaseExecuteRequest =
    (1, Text) ∷ (2, Message kinds.UserContext) ∷ (3, Text) ∷ (5, Message kinds.Empty) ∷ (6, Message kinds.ReleaseUntil) ∷ []
request_payloads kinds.ReleaseUntil = (1, Text) ∷ []
request_payloads kinds.ReleaseExecuteResponse = (1, Text) ∷ (2, Text) ∷ []
request_payloads kinds.AnalyzePlanRequest =
    (1, Text) ∷ (2, Message kinds.UserContext) ∷ (4, Message kinds.AnalyzedPlan) ∷ (8, Message kinds.AnalyzedPlan) ∷ (10, Message kinds.Empty) ∷ []
request_payloads kinds.AnalyzedPlan = (1, Message kinds.Plan) ∷ []
request_payloads kinds.AnalyzePlanResponse =
    (1, Text) ∷ (2, Message kinds.SchemaAnswer) ∷ (6, Message kinds.IsStreamingAnswer) ∷ (8, Message kinds.SparkVersionAnswer) ∷ []
request_payloads kinds.SchemaAnswer = (1, Message kinds.DataType) ∷ []
request_payloads kinds.SparkVersionAnswer = (1, Text) ∷ []
request_payloads kinds.ConfigRequest = (1, Text) ∷ (2, Message kinds.UserContext) ∷ (3, Message kinds.ConfigOperation) ∷ []
request_payloads kinds.ConfigOperation =
    (1, Message kinds.ConfigPairs) ∷ (2, Message kinds.ConfigKeys) ∷ (3, Message kinds.ConfigPairs) ∷ (4, Message kinds.ConfigKeys)
    ∷ (5, Message kinds.ConfigPrefix) ∷ (6, Message kinds.ConfigKeys) ∷ (7, Message kinds.ConfigKeys) ∷ []
request_payloads kinds.ConfigPairs = (1, Message kinds.KeyValue) ∷ []
request_payloads kinds.ConfigKeys = (1, Text) ∷ []
request_payloads kinds.ConfigPrefix = (1, Text) ∷ []
request_payloads kinds.ConfigResponse = (1, Text) ∷ (2, Message kinds.KeyValue) ∷ []
request_payloads kinds.InterruptRequest = (1, Text) ∷ (2, Message kinds.UserContext) ∷ (5, Text) ∷ (6, Text) ∷ []
request_payloads kinds.InterruptResponse = (1, Text) ∷ (2, Text) ∷ []
request_payloads _ = []

-- the payloads of plans and relations, and of the messages that only these hold
abbrev pub relation_payloads : MessageKind → List (ℕ × PayloadKind)
relation_payloads kinds.Plan = (1, Message kinds.Relation) ∷ (2, Message kinds.Command) ∷ []
relation_payloads kinds.Relation =
    (1, Message kinds.RelationCommon) ∷ (2, Message kinds.Read) ∷ (3, Message kinds.Project) ∷ (4, Message kinds.Filter)
    ∷ (5, Message kinds.Join) ∷ (6, Message kinds.SetOperation) ∷ (7, Message kinds.Sort) ∷ (8, Message kinds.Limit)
    ∷ (9, Message kinds.Aggregate) ∷ (11, Message kinds.LocalRelation) ∷ (13, Message kinds.Offset) ∷ (14, Message kinds.Deduplicate)
    ∷ (15, Message kinds.Range) ∷ (16, Message kinds.SubqueryAlias) ∷ (18, Message kinds.ToDf)
    ∷ (19, Message kinds.WithColumnsRenamed) ∷ (21, Message kinds.Drop) ∷ (23, Message kinds.WithColumns) ∷ []
relation_payloads kinds.Read = (1, Message kinds.NamedTable) ∷ []
relation_payloads kinds.NamedTable = (1, Text) ∷ []
relation_payloads kinds.Project = (1, Message kinds.Relation) ∷ (3, Message kinds.Expression) ∷ []
relation_payloads kinds.Filter = (1, Message kinds.Relation) ∷ (2, Message kinds.Expression) ∷ []
relation_payloads kinds.Join = (1, Message kinds.Relation) ∷ (2, Message kinds.Relation) ∷ (3, Message kinds.Expression) ∷ (5, Text) ∷ []
relation_payloads kinds.SetOperation = (1, Message kinds.Relation) ∷ (2, Message kinds.Relation) ∷ []
relation_payloads kinds.Sort = (1, Message kinds.Relation) ∷ (2, Message kinds.SortOrder) ∷ []
relation_payloads kinds.Limit = (1, Message kinds.Relation) ∷ []
relation_payloads kinds.Offset = (1, Message kinds.Relation) ∷ []
relation_payloads kinds.Aggregate = (1, Message kinds.Relation) ∷ (3, Message kinds.Expression) ∷ (4, Message kinds.Expression) ∷ []
relation_payloads kinds.LocalRelation = (2, Text) ∷ []
relation_payloads kinds.SubqueryAlias = (1, Message kinds.Relation) ∷ (2, Text) ∷ (3, Text) ∷ []
relation_payloads kinds.ToDf = (1, Message kinds.Relation) ∷ (2, Text) ∷ []
relation_payloads kinds.WithColumnsRenamed = (1, Message kinds.Relation) ∷ (2, Message kinds.RenameEntry) ∷ []
relation_payloads kinds.RenameEntry = (1, Text) ∷ (2, Text) ∷ []
relation_payloads kinds.Drop = (1, Message kinds.Relation) ∷ (2, Message kinds.Expression) ∷ (3, Text) ∷ []
relation_payloads kinds.WithColumns = (1, Message kinds.Relation) ∷ (2, Message kinds.Alias) ∷ []
relation_payloads kinds.Deduplicate = (1, Message kinds.Relation) ∷ (2, Text) ∷ []
relation_payloads _ = []

-- the payloads of expressions, types and commands, and of the messages that only these hold
abbrev pub expression_payloads : MessageKind → List (ℕ × PayloadKind)
expression_payloads kinds.Expression =
    (1, Message kinds.Literal) ∷ (2, Message kinds.UnresolvedAttribute) ∷ (3, Message kinds.UnresolvedFunction)
    ∷ (5, Message kinds.UnresolvedStar) ∷ (6, Message kinds.Alias) ∷ (7, Message kinds.Cast) ∷ (9, Message kinds.SortOrder) ∷ []
expression_payloads kinds.Literal = (1, Message kinds.DataType) ∷ (13, Text) ∷ []
expression_payloads kinds.UnresolvedAttribute = (1, Text) ∷ []
expression_payloads kinds.UnresolvedFunction = (1, Text) ∷ (2, Message kinds.Expression) ∷ []
expression_payloads kinds.UnresolvedStar = (1, Text) ∷ []
expression_payloads kinds.Alias = (1, Message kinds.Expression) ∷ (2, Text) ∷ []
expression_payloads kinds.Cast = (1, Message kinds.Expression) ∷ (2, Message kinds.DataType) ∷ (3, Text) ∷ []
expression_payloads kinds.SortOrder = (1, Message kinds.Expression) ∷ []
expression_payloads kinds.DataType =
    (1, Message kinds.Empty) ∷ (3, Message kinds.Empty) ∷ (4, Message kinds.Empty) ∷ (5, Message kinds.Empty) ∷ (6, Message kinds.Empty)
    ∷ (7, Message kinds.Empty) ∷ (11, Message kinds.Empty) ∷ (14, Message kinds.Empty) ∷ (21, Message kinds.StructType) ∷ []
expression_payloads kinds.StructType = (1, Message kinds.StructField) ∷ []
expression_payloads kinds.StructField = (1, Text) ∷ (2, Message kinds.DataType) ∷ []
expression_payloads kinds.Command = (2, Message kinds.WriteOperation) ∷ []
expression_payloads kinds.WriteOperation = (1, Message kinds.Relation) ∷ (2, Text) ∷ (4, Message kinds.SaveTable) ∷ []
expression_payloads kinds.SaveTable = (1, Text) ∷ []
expression_payloads _ = []

-- what stands beside this number
abbrev pub payload_at : ℕ → List (ℕ × PayloadKind) → Option PayloadKind
payload_at number [] = None
payload_at number (entry ∷ entries) = if entry.0 == number then Some entry.1 else payload_at number entries

-- what a payload of this number is in a message of this kind; each kind has entries in one of the three tables at most
unfoldable pub payload_of : MessageKind → ℕ → PayloadKind
payload_of kind number =
    unwrap_or (option_or (payload_at number (request_payloads kind))
    (option_or (payload_at number (relation_payloads kind)) (payload_at number (expression_payloads kind)))) Other

-- the numbers whose payloads are members of the message's oneof. Of relations, expressions, types, commands and analyses every number
-- but those of the fields outside the oneof is a member.
abbrev pub is_payload_member : MessageKind → ℕ → Bool
is_payload_member kinds.Plan number = number == 1 || number == 2
is_payload_member kinds.ExecutePlanResponse number = number == 2 || number == 14
is_payload_member kinds.ReleaseExecuteRequest number = number == 5 || number == 6
is_payload_member kinds.AnalyzePlanRequest number = nat_lt 3 number
is_payload_member kinds.AnalyzePlanResponse number = number == 2 || number == 6 || number == 8
is_payload_member kinds.ConfigOperation number = nat_lt number 8
is_payload_member kinds.InterruptRequest number = number == 5 || number == 6
is_payload_member kinds.Relation number = nat_lt 1 number
is_payload_member kinds.Expression number = true
is_payload_member kinds.Literal number = number == 1 || number == 13
is_payload_member kinds.Cast number = number == 2 || number == 3
is_payload_member kinds.DataType number = true
is_payload_member kinds.Command number = true
is_payload_member _ number = false

-- the numbers whose varints are members of the message's oneof: the scalars of a literal
abbrev pub is_number_member : MessageKind → ℕ → Bool
is_number_member kinds.Literal number = number == 3 || number == 6 || number == 7 || number == 16
is_number_member _ number = false

-- whether a record of this number sets a member of the message's oneof
unfoldable pub is_member : MessageKind → ℕ → Content → Bool
is_member kind number (Number value) = is_number_member kind number
is_member kind number (Eight value) = false
is_member kind number (Payload bytes) = is_payload_member kind number
is_member kind number (Four value) = false
