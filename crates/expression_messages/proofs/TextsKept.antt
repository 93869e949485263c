-- The texts of types and expressions are those of the fault table.
use Rattle.std.proofs.Common.{◌≡◌, ℕ, List, [], refl, ap}
use Rattle.std.specs.Prelude.{unwrap_or}
use Rattle.proto_fields.specs.declared.kind.MessageKind.TheVariants as kinds
use Rattle.proto_fields.specs.Fields.{Field}
use Rattle.proto_fields.specs.Kinds.{payload_of}
use Rattle.proto_fields.specs.Readings.{last_payload}
use Rattle.proto_fields.specs.Texts.{AreSoundFields, KeepsText, KeepsOptionalText, KeepsTexts}
use Rattle.proto_fields.proofs.TextReadings.{keeps_text, keeps_optional_text, keeps_texts}
use Rattle.expression_messages.specs.declared.literal.Literal.TheVariants as literal
use Rattle.expression_messages.specs.declared.expression.CastTarget.TheVariants as target
use Rattle.expression_messages.specs.Types.{struct_field_of, type_at}
use Rattle.expression_messages.specs.Expressions.{literal_member, attribute_of, star_of, target_member, function_of, expr_at, alias_at}
use Rattle.expression_messages.specs.Laws.{ExprTextsAreKept}

string_kept : (level levels : ℕ) (since : List Field) → AreSoundFields levels kinds.Literal since →
    literal_member (type_at level) (record { number = 13; since = since }) ≡ literal.String (unwrap_or (last_payload 13 since) [])
unfolding payload_of
string_kept level levels since sound = ap (λ (text : List ℕ). literal.String text) (keeps_text kinds.Literal 13 refl levels since sound)

cast_kept : (level levels : ℕ) (since : List Field) → AreSoundFields levels kinds.Cast since →
    target_member (type_at level) (record { number = 3; since = since }) ≡ target.KindText (unwrap_or (last_payload 3 since) [])
unfolding payload_of
cast_kept level levels since sound = ap (λ (text : List ℕ). target.KindText text) (keeps_text kinds.Cast 3 refl levels since sound)

pub expr_texts : ExprTextsAreKept
unfolding payload_of
expr_texts = record {
  field_name = λ level. keeps_text kinds.StructField 1 refl;
  string = string_kept;
  unparsed_identifier = keeps_text kinds.UnresolvedAttribute 1 refl;
  function_name = λ level. keeps_text kinds.UnresolvedFunction 1 refl;
  unparsed_target = keeps_optional_text kinds.UnresolvedStar 1 refl;
  alias_name = λ level. keeps_texts kinds.Alias 2 refl;
  cast_type = cast_kept;
}
