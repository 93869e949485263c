-- The fields and the depth of a type, variant by variant.
use Rattle.std.proofs.Common.{◌≡◌, ℕ, ◌+◌, Bool, true, false, List, [], ◌∷◌, map, refl, sym, ap, ◌∙◌}
use Rattle.std.specs.Prelude.{◌&&◌}
use Rattle.std.specs.List.{list_all}
use Rattle.proto_fields.specs.Fields.{Field}
use Rattle.proto_fields.specs.Spelling.{spell, payload_fields}
use Rattle.expression_messages.specs.declared.data_type.StructField.{StructField}
use Rattle.expression_messages.specs.declared.data_type.TypeMessage.{TypeMessage}
use Rattle.expression_messages.specs.declared.data_type.TypeMessage.TheVariants as V
use Rattle.expression_messages.specs.declared.data_type.TypeMessage.TheOpen as O
use Rattle.expression_messages.specs.declared.data_type.TypeMessage.TheOpen.{TypeMessage-F}
use Rattle.expression_messages.specs.declared.data_type.TypeMessage.TheFolds.{fold-roll-TypeMessage, map-TypeMessage}
use Rattle.expression_messages.specs.Messages.{repeated_fields}
use Rattle.expression_messages.specs.Spelled.{struct_field_fields, struct_type_fields, type_fields_step, type_fields}
use Rattle.expression_messages.specs.Depths.{largest, deepest_field, type_depth_step, type_depth}
use Rattle.expression_messages.specs.Known.{is_known_type_step, is_known_type}

-- a list that is mapped twice
pub map_twice : {A B C : Type 0} (g : B → C) (f : A → B) (xs : List A) → map g (map f xs) ≡ map (λ x. g (f x)) xs
map_twice g f [] = refl
map_twice g f (x ∷ xs) = ap (λ ys. g (f x) ∷ ys) (map_twice g f xs)

-- ---- the fields

pub type_fields-Null : type_fields V.Null ≡ payload_fields 1 []
unfolding type_fields
type_fields-Null = ap type_fields (sym V.rolls-Null) ∙ fold-roll-TypeMessage (List Field) type_fields_step O.Null

pub type_fields-Boolean : type_fields V.Boolean ≡ payload_fields 3 []
unfolding type_fields
type_fields-Boolean = ap type_fields (sym V.rolls-Boolean) ∙ fold-roll-TypeMessage (List Field) type_fields_step O.Boolean

pub type_fields-Byte : type_fields V.Byte ≡ payload_fields 4 []
unfolding type_fields
type_fields-Byte = ap type_fields (sym V.rolls-Byte) ∙ fold-roll-TypeMessage (List Field) type_fields_step O.Byte

pub type_fields-Short : type_fields V.Short ≡ payload_fields 5 []
unfolding type_fields
type_fields-Short = ap type_fields (sym V.rolls-Short) ∙ fold-roll-TypeMessage (List Field) type_fields_step O.Short

pub type_fields-Integer : type_fields V.Integer ≡ payload_fields 6 []
unfolding type_fields
type_fields-Integer = ap type_fields (sym V.rolls-Integer) ∙ fold-roll-TypeMessage (List Field) type_fields_step O.Integer

pub type_fields-Long : type_fields V.Long ≡ payload_fields 7 []
unfolding type_fields
type_fields-Long = ap type_fields (sym V.rolls-Long) ∙ fold-roll-TypeMessage (List Field) type_fields_step O.Long

pub type_fields-String : type_fields V.String ≡ payload_fields 11 []
unfolding type_fields
type_fields-String = ap type_fields (sym V.rolls-String) ∙ fold-roll-TypeMessage (List Field) type_fields_step O.String

pub type_fields-Date : type_fields V.Date ≡ payload_fields 14 []
unfolding type_fields
type_fields-Date = ap type_fields (sym V.rolls-Date) ∙ fold-roll-TypeMessage (List Field) type_fields_step O.Date

pub type_fields-Struct : (fields : List (StructField TypeMessage)) → type_fields (V.Struct fields) ≡ payload_fields 21 (spell (struct_type_fields type_fields fields))
unfolding type_fields
type_fields-Struct fields =
    ap type_fields (sym (V.rolls-Struct fields)) ∙ fold-roll-TypeMessage (List Field) type_fields_step (O.Struct fields)
    ∙ ap (λ (payloads : List (List ℕ)). payload_fields 21 (spell (repeated_fields 1 payloads)))
    (map_twice (λ (field : StructField (List Field)). spell (struct_field_fields (λ inner. inner) field)) _ fields)

pub type_fields-Other : (number : ℕ) → type_fields (V.Other number) ≡ []
unfolding type_fields
type_fields-Other number = ap type_fields (sym (V.rolls-Other number)) ∙ fold-roll-TypeMessage (List Field) type_fields_step (O.Other number)

-- ---- the depth

pub type_depth-Null : type_depth V.Null ≡ 2
unfolding type_depth
type_depth-Null = ap type_depth (sym V.rolls-Null) ∙ fold-roll-TypeMessage ℕ type_depth_step O.Null

pub type_depth-Boolean : type_depth V.Boolean ≡ 2
unfolding type_depth
type_depth-Boolean = ap type_depth (sym V.rolls-Boolean) ∙ fold-roll-TypeMessage ℕ type_depth_step O.Boolean

pub type_depth-Byte : type_depth V.Byte ≡ 2
unfolding type_depth
type_depth-Byte = ap type_depth (sym V.rolls-Byte) ∙ fold-roll-TypeMessage ℕ type_depth_step O.Byte

pub type_depth-Short : type_depth V.Short ≡ 2
unfolding type_depth
type_depth-Short = ap type_depth (sym V.rolls-Short) ∙ fold-roll-TypeMessage ℕ type_depth_step O.Short

pub type_depth-Integer : type_depth V.Integer ≡ 2
unfolding type_depth
type_depth-Integer = ap type_depth (sym V.rolls-Integer) ∙ fold-roll-TypeMessage ℕ type_depth_step O.Integer

pub type_depth-Long : type_depth V.Long ≡ 2
unfolding type_depth
type_depth-Long = ap type_depth (sym V.rolls-Long) ∙ fold-roll-TypeMessage ℕ type_depth_step O.Long

pub type_depth-String : type_depth V.String ≡ 2
unfolding type_depth
type_depth-String = ap type_depth (sym V.rolls-String) ∙ fold-roll-TypeMessage ℕ type_depth_step O.String

pub type_depth-Date : type_depth V.Date ≡ 2
unfolding type_depth
type_depth-Date = ap type_depth (sym V.rolls-Date) ∙ fold-roll-TypeMessage ℕ type_depth_step O.Date

pub type_depth-Struct : (fields : List (StructField TypeMessage)) → type_depth (V.Struct fields) ≡ 2 + deepest_field type_depth fields
unfolding type_depth
type_depth-Struct fields =
    ap type_depth (sym (V.rolls-Struct fields)) ∙ fold-roll-TypeMessage ℕ type_depth_step (O.Struct fields)
    ∙ ap (λ (depths : List ℕ). 2 + largest depths) (map_twice (λ (field : StructField ℕ). 1 + field.data_type) _ fields)

pub type_depth-Other : (number : ℕ) → type_depth (V.Other number) ≡ 1
unfolding type_depth
type_depth-Other number = ap type_depth (sym (V.rolls-Other number)) ∙ fold-roll-TypeMessage ℕ type_depth_step (O.Other number)

-- ---- what is known

pub is_known_type-Null : is_known_type V.Null ≡ true
unfolding is_known_type
is_known_type-Null = ap is_known_type (sym V.rolls-Null) ∙ fold-roll-TypeMessage Bool is_known_type_step O.Null

pub is_known_type-Boolean : is_known_type V.Boolean ≡ true
unfolding is_known_type
is_known_type-Boolean = ap is_known_type (sym V.rolls-Boolean) ∙ fold-roll-TypeMessage Bool is_known_type_step O.Boolean

pub is_known_type-Byte : is_known_type V.Byte ≡ true
unfolding is_known_type
is_known_type-Byte = ap is_known_type (sym V.rolls-Byte) ∙ fold-roll-TypeMessage Bool is_known_type_step O.Byte

pub is_known_type-Short : is_known_type V.Short ≡ true
unfolding is_known_type
is_known_type-Short = ap is_known_type (sym V.rolls-Short) ∙ fold-roll-TypeMessage Bool is_known_type_step O.Short

pub is_known_type-Integer : is_known_type V.Integer ≡ true
unfolding is_known_type
is_known_type-Integer = ap is_known_type (sym V.rolls-Integer) ∙ fold-roll-TypeMessage Bool is_known_type_step O.Integer

pub is_known_type-Long : is_known_type V.Long ≡ true
unfolding is_known_type
is_known_type-Long = ap is_known_type (sym V.rolls-Long) ∙ fold-roll-TypeMessage Bool is_known_type_step O.Long

pub is_known_type-String : is_known_type V.String ≡ true
unfolding is_known_type
is_known_type-String = ap is_known_type (sym V.rolls-String) ∙ fold-roll-TypeMessage Bool is_known_type_step O.String

pub is_known_type-Date : is_known_type V.Date ≡ true
unfolding is_known_type
is_known_type-Date = ap is_known_type (sym V.rolls-Date) ∙ fold-roll-TypeMessage Bool is_known_type_step O.Date

-- a test of all of a list that is mapped
pub list_all-map : {A B : Type 0} (p : B → Bool) (f : A → B) (xs : List A) → list_all p (map f xs) ≡ list_all (λ x. p (f x)) xs
list_all-map p f [] = refl
list_all-map p f (x ∷ xs) = ap (λ (b : Bool). p (f x) && b) (list_all-map p f xs)

pub is_known_type-Struct : (fields : List (StructField TypeMessage)) → is_known_type (V.Struct fields) ≡ list_all (λ field. is_known_type field.data_type) fields
unfolding is_known_type
is_known_type-Struct fields =
    ap is_known_type (sym (V.rolls-Struct fields)) ∙ fold-roll-TypeMessage Bool is_known_type_step (O.Struct fields)
    ∙ list_all-map (λ (field : StructField Bool). field.data_type) _ fields

pub is_known_type-Other : (number : ℕ) → is_known_type (V.Other number) ≡ false
unfolding is_known_type
is_known_type-Other number = ap is_known_type (sym (V.rolls-Other number)) ∙ fold-roll-TypeMessage Bool is_known_type_step (O.Other number)

-- of each variant: the fields, the depth, and whether it is known
pub ruleset type_spellings = (type_fields-Null, type_fields-Boolean, type_fields-Byte, type_fields-Short, type_fields-Integer, type_fields-Long, type_fields-String, type_fields-Date, type_fields-Struct, type_fields-Other)

pub ruleset type_depths = (type_depth-Null, type_depth-Boolean, type_depth-Byte, type_depth-Short, type_depth-Integer, type_depth-Long, type_depth-String, type_depth-Date, type_depth-Struct, type_depth-Other)

pub ruleset known_types = (is_known_type-Null, is_known_type-Boolean, is_known_type-Byte, is_known_type-Short, is_known_type-Integer, is_known_type-Long, is_known_type-String, is_known_type-Date, is_known_type-Struct, is_known_type-Other)
