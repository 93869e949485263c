-- What literals, columns, stars and targets of casts are spelled as is read as they are.
use Rattle.std.proofs.Common.{◌≡◌, ◌≢◌, ℕ, ℤ, ◌+◌, ◌-◌, ◌^◌, ◌<◌, ◌≤◌, Bool, true, List, [], ◌∷◌, ◌++◌, length, Option, None, Some, refl, sym, ap, ◌∙◌, subst, arith}
use Rattle.std.specs.Prelude.{IsTrue, IfSome, FitsSigned, IsUtf8, option_map, unwrap_or}
use Rattle.std.specs.Int.{w32, w64}
use Rattle.std.specs.Str.Lossy.{utf8_lossy}
use Rattle.std.proofs.lemmas.Str.{utf8_lossy-IsUtf8}
use Rattle.proto_fields.specs.declared.kind.MessageKind.TheVariants as kinds
use Rattle.proto_fields.specs.declared.kind.PayloadKind.TheVariants.{Message, Text}
use Rattle.proto_fields.specs.Fields.{Field, fields_of}
use Rattle.proto_fields.specs.Kinds.{is_member, payload_of}
use Rattle.proto_fields.specs.Readings.{last_some, last_number, payloads, latest, bool_of, int32_of, int64_of, text_field, optional_int64}
use Rattle.proto_fields.specs.Spelling.{spell, bit_of, bits_of, number_fields, payload_fields, text_fields, optional_payload_fields, optional_int_fields}
use Rattle.proto_fields.proofs.ScalarLemmas.{int32_returns, int64_returns, bool_returns}
use Rattle.proto_fields.proofs.ReturnLemmas.{text_back, optional_text_back, optional_int64_back}
use Rattle.expression_messages.specs.declared.literal.Literal.{Literal}
use Rattle.expression_messages.specs.declared.literal.Literal.TheVariants as literal
use Rattle.expression_messages.specs.declared.expression.UnresolvedAttribute.{UnresolvedAttribute}
use Rattle.expression_messages.specs.declared.expression.UnresolvedStar.{UnresolvedStar}
use Rattle.expression_messages.specs.declared.expression.CastTarget.{CastTarget}
use Rattle.expression_messages.specs.declared.expression.CastTarget.TheVariants as target
use Rattle.expression_messages.specs.Messages.{message_at}
use Rattle.expression_messages.specs.Types.{type_at}
use Rattle.expression_messages.specs.Expressions.{literal_of, attribute_of, star_of, target_of}
use Rattle.expression_messages.specs.Spelled.{type_fields, literal_fields, attribute_fields, star_fields, target_fields}
use Rattle.expression_messages.specs.Depths.{literal_depth, target_depth}
use Rattle.expression_messages.specs.Known.{is_known_literal, is_known_target, HasLiteralBits, HasAttributeBits, HasTargetBits}
use Rattle.expression_messages.specs.Laws.{IsShort, IsReadBack}
use Rattle.expression_messages.proofs.Pieces.{Stands, nothing_stands, two_stand, read_back, short_two, short_payload, is_numbered, Piece, payload_piece, text_piece, optional_text_piece, bit_piece, bits_piece, optional_int_piece, wider, number_back, payload_front, payloads_back, payloads_one, message_at-one}
use Rattle.expression_messages.proofs.TypeBack.{type_read_back}

-- ---- literals

literal_of-null : (level : ℕ) (payload : List ℕ) → literal_of (type_at level) (payload_fields 1 payload) ≡ literal.Null (type_at level (message_at 1 (payload_fields 1 payload)))
unfolding latest last_some is_member
literal_of-null level payload = refl

literal_of-boolean : (level value : ℕ) → literal_of (type_at level) (number_fields 3 value) ≡ literal.Boolean (bool_of value)
unfolding latest last_some is_member
literal_of-boolean level value = refl

literal_of-integer : (level value : ℕ) → literal_of (type_at level) (number_fields 6 value) ≡ literal.Integer (int32_of value)
unfolding latest last_some is_member
literal_of-integer level value = refl

literal_of-long : (level value : ℕ) → literal_of (type_at level) (number_fields 7 value) ≡ literal.Long (int64_of value)
unfolding latest last_some is_member
literal_of-long level value = refl

literal_of-string : (level : ℕ) (text : List ℕ) → literal_of (type_at level) (payload_fields 13 text) ≡ literal.String (utf8_lossy text)
unfolding latest last_some is_member
literal_of-string level text = refl

literal_of-date : (level value : ℕ) → literal_of (type_at level) (number_fields 16 value) ≡ literal.Date (int32_of value)
unfolding latest last_some is_member
literal_of-date level value = refl

literal_of-absent : (level : ℕ) → literal_of (type_at level) [] ≡ literal.Absent
unfolding latest last_some is_member
literal_of-absent level = refl

abbrev LiteralBack : ℕ → Literal → Type 0
LiteralBack level it = IsReadBack level kinds.Literal (literal_fields it) (literal_of (type_at (level - 1))) it

pub literal_back : (level : ℕ) (it : Literal) → IsTrue (is_known_literal it) → HasLiteralBits it → IsShort (literal_fields it) → literal_depth it ≤ level → LiteralBack level it
unfolding payload_of
literal_back level (literal.Null kind) known bits short deep =
    let payload = spell (type_fields kind) in
    let short_kind = short_payload 1 payload short in
    let kind_back = type_read_back (level - 1) kind known bits short_kind (omega arith) in
    let piece = payload_piece (level - 1) kinds.Literal 1 (Message kinds.DataType) payload (is_numbered 1 (omega arith) (omega arith)) refl kind_back.sound short_kind in
    read_back level kinds.Literal (payload_fields 1 payload) (literal_of (type_at (level - 1))) (literal.Null kind) (omega arith) piece.stands
    (literal_of-null (level - 1) payload
    ∙ ap (λ (fields : List Field). literal.Null (type_at (level - 1) fields)) (message_at-one 1 (payload_fields 1 payload) payload (payloads_one 1 payload))
    ∙ ap (λ k. literal.Null k) kind_back.same)
literal_back level (literal.Boolean value) known bits short deep =
    let piece = bit_piece (level - 1) kinds.Literal 3 value (is_numbered 3 (omega arith) (omega arith)) in
    read_back level kinds.Literal (number_fields 3 (bit_of value)) (literal_of (type_at (level - 1))) (literal.Boolean value) (omega arith) piece.stands
    (literal_of-boolean (level - 1) (bit_of value) ∙ ap (λ (b : Bool). literal.Boolean b) (bool_returns value))
literal_back level (literal.Integer value) known bits short deep =
    let piece = bits_piece (level - 1) kinds.Literal 6 value (is_numbered 6 (omega arith) (omega arith)) (wider value bits) in
    read_back level kinds.Literal (number_fields 6 (bits_of value)) (literal_of (type_at (level - 1))) (literal.Integer value) (omega arith) piece.stands
    (literal_of-integer (level - 1) (bits_of value) ∙ ap (λ (z : ℤ). literal.Integer z) (int32_returns value bits))
literal_back level (literal.Long value) known bits short deep =
    let piece = bits_piece (level - 1) kinds.Literal 7 value (is_numbered 7 (omega arith) (omega arith)) bits in
    read_back level kinds.Literal (number_fields 7 (bits_of value)) (literal_of (type_at (level - 1))) (literal.Long value) (omega arith) piece.stands
    (literal_of-long (level - 1) (bits_of value) ∙ ap (λ (z : ℤ). literal.Long z) (int64_returns value bits))
literal_back level (literal.String text) known bits short deep =
    let piece = payload_piece (level - 1) kinds.Literal 13 Text text (is_numbered 13 (omega arith) (omega arith)) refl bits (short_payload 13 text short) in
    read_back level kinds.Literal (payload_fields 13 text) (literal_of (type_at (level - 1))) (literal.String text) (omega arith) piece.stands
    (literal_of-string (level - 1) text ∙ ap (λ (t : List ℕ). literal.String t) (utf8_lossy-IsUtf8 text bits))
literal_back level (literal.Date days) known bits short deep =
    let piece = bits_piece (level - 1) kinds.Literal 16 days (is_numbered 16 (omega arith) (omega arith)) (wider days bits) in
    read_back level kinds.Literal (number_fields 16 (bits_of days)) (literal_of (type_at (level - 1))) (literal.Date days) (omega arith) piece.stands
    (literal_of-date (level - 1) (bits_of days) ∙ ap (λ (z : ℤ). literal.Date z) (int32_returns days bits))
literal_back level literal.Absent known bits short deep =
    read_back level kinds.Literal [] (literal_of (type_at (level - 1))) literal.Absent (omega arith) (nothing_stands (level - 1) kinds.Literal) (literal_of-absent (level - 1))

-- ---- columns

same_attribute : {name name2 : List ℕ} {plan plan2 : Option ℤ} → name ≡ name2 → plan ≡ plan2 →
    ◌≡◌ {A = UnresolvedAttribute} (record { unparsed_identifier = name; plan_id = plan }) (record { unparsed_identifier = name2; plan_id = plan2 })
same_attribute name_is plan_is = rw name_is (rw plan_is refl)

pub attribute_back : (level : ℕ) (attribute : UnresolvedAttribute) → 0 < level → HasAttributeBits attribute → IsShort (attribute_fields attribute) →
    IsReadBack level kinds.UnresolvedAttribute (attribute_fields attribute) attribute_of attribute
unfolding payload_of
attribute_back level attribute some bits short = read_back level kinds.UnresolvedAttribute (name ++ plan) attribute_of attribute some stands same
  where
    name : List Field
    name = text_fields 1 attribute.unparsed_identifier

    plan : List Field
    plan = optional_int_fields 2 attribute.plan_id

    name_piece : Piece (level - 1) kinds.UnresolvedAttribute 1 name
    name_piece = text_piece (level - 1) kinds.UnresolvedAttribute 1 attribute.unparsed_identifier (is_numbered 1 (omega arith) (omega arith)) refl bits.unparsed_identifier (short_two name plan short).0

    plan_piece : Piece (level - 1) kinds.UnresolvedAttribute 2 plan
    plan_piece = optional_int_piece (level - 1) kinds.UnresolvedAttribute 2 attribute.plan_id (is_numbered 2 (omega arith) (omega arith)) bits.plan_id

    stands : Stands (level - 1) kinds.UnresolvedAttribute (name ++ plan)
    stands = two_stand (level - 1) kinds.UnresolvedAttribute name plan name_piece.stands plan_piece.stands

    same : attribute_of (name ++ plan) ≡ attribute
    same = same_attribute
        (ap (λ (p : Option (List ℕ)). unwrap_or (option_map utf8_lossy p) []) (payload_front 1 2 name plan plan_piece.numbered (omega arith)) ∙ text_back 1 attribute.unparsed_identifier bits.unparsed_identifier)
        (ap (option_map int64_of) (number_back 2 1 name plan name_piece.numbered (omega arith)) ∙ optional_int64_back 2 attribute.plan_id bits.plan_id)

-- ---- stars

same_star : {text text2 : Option (List ℕ)} → text ≡ text2 → ◌≡◌ {A = UnresolvedStar} (record { unparsed_target = text }) (record { unparsed_target = text2 })
same_star text_is = rw text_is refl

pub star_back : (level : ℕ) (star : UnresolvedStar) → 0 < level → IfSome star.unparsed_target IsUtf8 → IsShort (star_fields star) →
    IsReadBack level kinds.UnresolvedStar (star_fields star) star_of star
unfolding payload_of
star_back level star some bits short =
    let piece = optional_text_piece (level - 1) kinds.UnresolvedStar 1 star.unparsed_target (is_numbered 1 (omega arith) (omega arith)) refl bits short in
    read_back level kinds.UnresolvedStar (star_fields star) star_of star some piece.stands
    (same_star (optional_text_back 1 star.unparsed_target bits))

-- ---- targets of casts, behind the expression

target_of-kind : (level : ℕ) (expr payload : List ℕ) → target_of (type_at level) (payload_fields 1 expr ++ payload_fields 2 payload) ≡ target.Kind (type_at level (message_at 2 (payload_fields 1 expr ++ payload_fields 2 payload)))
unfolding latest last_some is_member
target_of-kind level expr payload = refl

target_of-text : (level : ℕ) (expr text : List ℕ) → target_of (type_at level) (payload_fields 1 expr ++ payload_fields 3 text) ≡ target.KindText (utf8_lossy text)
unfolding latest last_some is_member
target_of-text level expr text = refl

target_of-absent : (level : ℕ) (expr : List ℕ) → target_of (type_at level) (payload_fields 1 expr ++ []) ≡ target.Absent
unfolding latest last_some is_member
target_of-absent level expr = refl

-- a target stands, and is read behind the expression
pub record TargetBack (level : ℕ) (it : CastTarget) : Type 0 where
  pub stands : Stands level kinds.Cast (target_fields it)
  pub others : (expr : List ℕ) → payloads 1 (payload_fields 1 expr ++ target_fields it) ≡ expr ∷ []
  pub same : (expr : List ℕ) → target_of (type_at level) (payload_fields 1 expr ++ target_fields it) ≡ it

pub target_back : (level : ℕ) (it : CastTarget) → IsTrue (is_known_target it) → HasTargetBits it → IsShort (target_fields it) → target_depth it ≤ level → TargetBack level it
unfolding payload_of payloads
target_back level (target.Kind kind) known bits short deep =
    let payload = spell (type_fields kind) in
    let short_kind = short_payload 2 payload short in
    let kind_back = type_read_back level kind known bits short_kind deep in
    let piece = payload_piece level kinds.Cast 2 (Message kinds.DataType) payload (is_numbered 2 (omega arith) (omega arith)) refl kind_back.sound short_kind in
    let one : (expr : List ℕ) → payloads 2 (payload_fields 1 expr ++ payload_fields 2 payload) ≡ payload ∷ [] = λ expr. refl in
    record {
      stands = piece.stands;
      others = λ expr. refl;
      same = λ expr.
          target_of-kind level expr payload
          ∙ ap (λ (fields : List Field). target.Kind (type_at level fields)) (message_at-one 2 (payload_fields 1 expr ++ payload_fields 2 payload) payload (one expr))
          ∙ ap (λ k. target.Kind k) kind_back.same;
    }
target_back level (target.KindText text) known bits short deep =
    let piece = payload_piece level kinds.Cast 3 Text text (is_numbered 3 (omega arith) (omega arith)) refl bits (short_payload 3 text short) in
    record {
      stands = piece.stands;
      others = λ expr. refl;
      same = λ expr. target_of-text level expr text ∙ ap (λ (t : List ℕ). target.KindText t) (utf8_lossy-IsUtf8 text bits);
    }
target_back level target.Absent known bits short deep = record {
  stands = nothing_stands level kinds.Cast;
  others = λ expr. refl;
  same = target_of-absent level;
}
