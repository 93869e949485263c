-- Records of the code as fields: what clauses see of them.
use Rattle.std.specs.Prelude.{List, map}
use Rattle.proto_fields.specs.declared.record.Content.{Content as RecordContent}
use Rattle.proto_fields.specs.declared.record.Content.TheVariants as code
use Rattle.proto_fields.specs.declared.record.Record.{Record}
use Rattle.proto_fields.specs.declared.oneof.Member.{Member as RecordMember}
use Rattle.proto_fields.specs.Fields.{Content, Number, Eight, Payload, Four, Field}
use Rattle.proto_fields.specs.Readings.{Member}

-- what a record holds
abbrev pub content_of : RecordContent → Content
content_of (code.Number value) = Number value
content_of (code.Eight value) = Eight value
content_of (code.Payload bytes) = Payload bytes.now
content_of (code.Four value) = Four value

-- a record as a field
abbrev pub field_of : Record → Field
field_of item = record { number = item.number; content = content_of item.content }

-- records as fields
abbrev pub seen : List Record → List Field
seen items = map field_of items

-- a member of a oneof with its records as fields
abbrev pub member_of : RecordMember → Member
member_of found = record { number = found.number; since = seen found.since.now }
