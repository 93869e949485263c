-- Laws over the definitions, for all types and expressions.
use Rattle.std.specs.Prelude.{◌≡◌, ℕ, ◌<◌, ◌≤◌, ◌^◌, List, [], length, unwrap_or}
use Rattle.proto_fields.specs.declared.kind.MessageKind.{MessageKind}
use Rattle.proto_fields.specs.declared.kind.MessageKind.TheVariants as kinds
use Rattle.proto_fields.specs.Fields.{Field, fields_of}
use Rattle.proto_fields.specs.Faults.{IsSound}
use Rattle.proto_fields.specs.Spelling.{spell}
use Rattle.proto_fields.specs.Readings.{last_payload}
use Rattle.proto_fields.specs.Texts.{AreSoundFields, KeepsText, KeepsOptionalText, KeepsTexts}
use Rattle.expression_messages.specs.declared.data_type.TypeMessage.{TypeMessage}
use Rattle.expression_messages.specs.declared.literal.Literal.TheVariants as literal
use Rattle.expression_messages.specs.declared.expression.CastTarget.TheVariants as target
use Rattle.expression_messages.specs.declared.expression.Alias.{Alias}
use Rattle.expression_messages.specs.declared.expression.SortOrder.{SortOrder}
use Rattle.expression_messages.specs.declared.expression.Expr.{Expr}
use Rattle.expression_messages.specs.Types.{struct_field_of, type_at}
use Rattle.expression_messages.specs.Expressions.{literal_member, attribute_of, star_of, target_member, function_of, expr_at, alias_at, sort_order_at}
use Rattle.expression_messages.specs.Spelled.{type_fields, expr_fields, alias_fields, sort_order_fields}
use Rattle.expression_messages.specs.Depths.{type_depth, expr_depth, alias_depth, sort_order_depth}
use Rattle.expression_messages.specs.Known.{IsKnownType, IsKnownExpr, IsKnownAlias, IsKnownSortOrder, HasTypeBits, HasExprBits, HasAliasBits, HasSortOrderBits}

-- the fields have a spelling that memory can hold
abbrev pub IsShort : List Field → Type 0
IsShort fields = length (spell fields) < 2 ^ 64

-- the bytes are a sound message of this kind, nested at most so deep, and are read as the value
pub record IsReadAs {A : Type 0} (level : ℕ) (kind : MessageKind) (bytes : List ℕ) (read : List Field → A) (value : A) : Type 0 where
  pub sound : IsSound level kind bytes
  pub same : read (fields_of bytes) ≡ value

-- so is what the fields are spelled as
abbrev pub IsReadBack : {A : Type 0} → ℕ → MessageKind → List Field → (List Field → A) → A → Type 0
IsReadBack level kind fields read value = IsReadAs level kind (spell fields) read value

-- what a type, an expression, an alias or a sort order is spelled as is sound and read back wherever its depth is allowed
abbrev pub TypesAreReadBack : Type 0
TypesAreReadBack = (level : ℕ) (kind : TypeMessage) → IsKnownType kind → HasTypeBits kind → IsShort (type_fields kind) → type_depth kind ≤ level →
    IsReadBack level kinds.DataType (type_fields kind) (type_at level) kind

abbrev pub ExprsAreReadBack : Type 0
ExprsAreReadBack = (level : ℕ) (expr : Expr) → IsKnownExpr expr → HasExprBits expr → IsShort (expr_fields expr) → expr_depth expr ≤ level →
    IsReadBack level kinds.Expression (expr_fields expr) (expr_at level) expr

abbrev pub AliasesAreReadBack : Type 0
AliasesAreReadBack = (level : ℕ) (alias : Alias Expr) → IsKnownAlias alias → HasAliasBits alias → IsShort (alias_fields alias) → alias_depth alias ≤ level →
    IsReadBack level kinds.Alias (alias_fields alias) (alias_at level) alias

abbrev pub SortOrdersAreReadBack : Type 0
SortOrdersAreReadBack = (level : ℕ) (order : SortOrder Expr) → IsKnownSortOrder order → HasSortOrderBits order → IsShort (sort_order_fields order) → sort_order_depth order ≤ level →
    IsReadBack level kinds.SortOrder (sort_order_fields order) (sort_order_at level) order

-- what is read of a sound message is the same at every level that suffices
pub record LevelsAgree : Type 0 where
  pub types : (level more : ℕ) (bytes : List ℕ) → level ≤ more → IsSound level kinds.DataType bytes → type_at more (fields_of bytes) ≡ type_at level (fields_of bytes)
  pub exprs : (level more : ℕ) (bytes : List ℕ) → level ≤ more → IsSound level kinds.Expression bytes → expr_at more (fields_of bytes) ≡ expr_at level (fields_of bytes)
  pub aliases : (level more : ℕ) (bytes : List ℕ) → level ≤ more → IsSound level kinds.Alias bytes → alias_at more (fields_of bytes) ≡ alias_at level (fields_of bytes)
  pub sort_orders : (level more : ℕ) (bytes : List ℕ) → level ≤ more → IsSound level kinds.SortOrder bytes → sort_order_at more (fields_of bytes) ≡ sort_order_at level (fields_of bytes)

-- whatever fields are read, the numbers have the bits of their types and the texts are UTF-8, so that what was read can be written again
pub record ExprsAreValid : Type 0 where
  pub types : (level : ℕ) (fields : List Field) → HasTypeBits (type_at level fields)
  pub exprs : (level : ℕ) (fields : List Field) → HasExprBits (expr_at level fields)
  pub aliases : (level : ℕ) (fields : List Field) → HasAliasBits (alias_at level fields)
  pub sort_orders : (level : ℕ) (fields : List Field) → HasSortOrderBits (sort_order_at level fields)

-- every text of a sound message is read as it stands
pub record ExprTextsAreKept : Type 0 where
  pub field_name : (level : ℕ) → KeepsText kinds.StructField 1 (λ fields. (struct_field_of (type_at level) fields).name)
  pub string : (level levels : ℕ) (since : List Field) → AreSoundFields levels kinds.Literal since →
      literal_member (type_at level) (record { number = 13; since = since }) ≡ literal.String (unwrap_or (last_payload 13 since) [])
  pub unparsed_identifier : KeepsText kinds.UnresolvedAttribute 1 (λ fields. (attribute_of fields).unparsed_identifier)
  pub function_name : (level : ℕ) → KeepsText kinds.UnresolvedFunction 1 (λ fields. (function_of (expr_at level) fields).function_name)
  pub unparsed_target : KeepsOptionalText kinds.UnresolvedStar 1 (λ fields. (star_of fields).unparsed_target)
  pub alias_name : (level : ℕ) → KeepsTexts kinds.Alias 2 (λ fields. (alias_at level fields).name)
  pub cast_type : (level levels : ℕ) (since : List Field) → AreSoundFields levels kinds.Cast since →
      target_member (type_at level) (record { number = 3; since = since }) ≡ target.KindText (unwrap_or (last_payload 3 since) [])
