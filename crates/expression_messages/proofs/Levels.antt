-- What is read at one level, by what is read at the levels further in.
use Rattle.std.proofs.Common.{◌≡◌, ◌≢◌, ℕ, zero, suc, ◌-◌, ◌<◌, ◌==◌, List, Option, None, Some, refl, ap, ◌∙◌, arith}
use Rattle.std.specs.Prelude.{if◌then◌else◌, option_map, unwrap_or}
use Rattle.std.proofs.lemmas.Bool.{eq-eqb, ne_eqb}
use Rattle.proto_fields.specs.declared.kind.MessageKind.TheVariants as kinds
use Rattle.proto_fields.specs.Fields.{Field}
use Rattle.proto_fields.specs.Readings.{Member, latest}
use Rattle.expression_messages.specs.declared.data_type.TypeMessage.{TypeMessage}
use Rattle.expression_messages.specs.declared.data_type.TypeMessage.TheVariants.{Struct, Other}
use Rattle.expression_messages.specs.declared.expression.Expr.{Expr}
use Rattle.expression_messages.specs.declared.expression.Expr.TheVariants as expr
use Rattle.expression_messages.specs.Messages.{message_at}
use Rattle.expression_messages.specs.Types.{struct_fields_of, plain_type, type_member, data_type_of, type_at}
use Rattle.expression_messages.specs.Expressions.{expr_member, expr_of, expr_at}

-- ---- a choice by a number

pub at_same : {A : Type 0} (a b : ℕ) (x y : A) → a ≡ b → (if a == b then x else y) ≡ x
at_same a b x y same = rw (eq-eqb a b same) refl

pub at_other : {A : Type 0} (a b : ℕ) (x y : A) → a ≢ b → (if a == b then x else y) ≡ y
at_other a b x y other = rw (ne_eqb a b other) refl

-- ---- types

pub type_at-level : (level : ℕ) (fields : List Field) → 0 < level → type_at level fields ≡ data_type_of (type_at (level - 3)) fields
unfolding type_at
type_at-level zero fields some = absurd (omega arith)
type_at-level (suc zero) fields some = refl
type_at-level (suc (suc zero)) fields some = refl
type_at-level (suc (suc (suc level))) fields some =
    let left : level ≡ suc (suc (suc level)) - 3 = omega arith in ap (λ (n : ℕ). data_type_of (type_at n) fields) left

pub type_at-zero : (level : ℕ) (fields : List Field) → level ≡ 0 → type_at level fields ≡ Other 0
unfolding type_at
type_at-zero level fields none = rw none refl

pub type_at-None : (level : ℕ) (fields : List Field) → 0 < level → latest kinds.DataType fields ≡ None → type_at level fields ≡ Other 0
type_at-None level fields some found =
    type_at-level level fields some ∙ ap (λ (m : Option Member). unwrap_or (option_map (type_member (type_at (level - 3))) m) (Other 0)) found

type_at-Some : (level : ℕ) (fields : List Field) (member : Member) → 0 < level → latest kinds.DataType fields ≡ Some member → type_at level fields ≡ type_member (type_at (level - 3)) member
type_at-Some level fields member some found =
    type_at-level level fields some ∙ ap (λ (m : Option Member). unwrap_or (option_map (type_member (type_at (level - 3))) m) (Other 0)) found

pub type_at-plain : (level : ℕ) (fields : List Field) (member : Member) → 0 < level → latest kinds.DataType fields ≡ Some member → member.number ≢ 21 → type_at level fields ≡ plain_type member.number
type_at-plain level fields member some found other =
    type_at-Some level fields member some found
    ∙ at_other member.number 21 (Struct (struct_fields_of (type_at (level - 3)) (message_at 21 member.since))) (plain_type member.number) other

pub type_at-struct : (level : ℕ) (fields : List Field) (member : Member) → 0 < level → latest kinds.DataType fields ≡ Some member → member.number ≡ 21 → type_at level fields ≡ Struct (struct_fields_of (type_at (level - 3)) (message_at 21 member.since))
type_at-struct level fields member some found same =
    type_at-Some level fields member some found
    ∙ at_same member.number 21 (Struct (struct_fields_of (type_at (level - 3)) (message_at 21 member.since))) (plain_type member.number) same

-- ---- expressions

pub expr_at-level : (level : ℕ) (fields : List Field) → 0 < level → expr_at level fields ≡ expr_of (type_at (level - 2)) (expr_at (level - 2)) fields
unfolding expr_at
expr_at-level zero fields some = absurd (omega arith)
expr_at-level (suc zero) fields some = refl
expr_at-level (suc (suc level)) fields some =
    let left : level ≡ suc (suc level) - 2 = omega arith in ap (λ (n : ℕ). expr_of (type_at n) (expr_at n) fields) left

pub expr_at-zero : (level : ℕ) (fields : List Field) → level ≡ 0 → expr_at level fields ≡ expr.Other 0
unfolding expr_at
expr_at-zero level fields none = rw none refl

pub expr_at-None : (level : ℕ) (fields : List Field) → 0 < level → latest kinds.Expression fields ≡ None → expr_at level fields ≡ expr.Other 0
expr_at-None level fields some found =
    expr_at-level level fields some ∙ ap (λ (m : Option Member). unwrap_or (option_map (expr_member (type_at (level - 2)) (expr_at (level - 2))) m) (expr.Other 0)) found

pub expr_at-Some : (level : ℕ) (fields : List Field) (member : Member) → 0 < level → latest kinds.Expression fields ≡ Some member → expr_at level fields ≡ expr_member (type_at (level - 2)) (expr_at (level - 2)) member
expr_at-Some level fields member some found =
    expr_at-level level fields some ∙ ap (λ (m : Option Member). unwrap_or (option_map (expr_member (type_at (level - 2)) (expr_at (level - 2))) m) (expr.Other 0)) found
