-- The name of each form of expression, and names piece by piece.
use Rattle.std.proofs.Common.{◌≡◌, ℕ, zero, suc, ◌+◌, Bool, true, false, cond, List, [], ◌∷◌, ◌++◌, map, length, take, get_or, refl, sym, ap, ◌∙◌, subst, arith, append_assoc, Option, Some, None, ◌<◌}
use Rattle.std.specs.Prelude.{codes, nat_eq, ◌&&◌, if◌then◌else◌, option_map}
use Rattle.std.proofs.lemmas.Bool.{ne_eqb}
use Rattle.std.proofs.lemmas.List.{append-nil, append_cancel_right, length-map, length-take-le, map-append, take_more}
use Rattle.cn_types.specs.declared.value.Value.{Value}
use Rattle.cn_types.specs.Printed.{printed, row_line}
use Rattle.expression_messages.specs.declared.literal.Literal.{Literal}
use Rattle.expression_messages.specs.declared.expression.UnresolvedAttribute.{UnresolvedAttribute}
use Rattle.expression_messages.specs.declared.expression.UnresolvedFunction.{UnresolvedFunction}
use Rattle.expression_messages.specs.declared.expression.UnresolvedStar.{UnresolvedStar}
use Rattle.expression_messages.specs.declared.expression.Alias.{Alias}
use Rattle.expression_messages.specs.declared.expression.Cast.{Cast}
use Rattle.expression_messages.specs.declared.expression.SortOrder.{SortOrder}
use Rattle.expression_messages.specs.declared.expression.Expr.{Expr}
use Rattle.expression_messages.specs.declared.expression.Expr.TheVariants as V
use Rattle.expression_messages.specs.declared.expression.Expr.TheOpen as O
use Rattle.expression_messages.specs.declared.expression.Expr.TheFolds.{fold-roll-Expr}
use Rattle.resolve_expressions.specs.Titles.{call_title, gap, is_negated, is_negation, joined, literal_title, negation_title, operator_between, operator_of, operator_title, plain_title, spaced, title, title_step}

module _ (column_name : UnresolvedAttribute → List ℕ) where
  abbrev name : Expr → List ℕ
  name = title column_name

  abbrev step : O.Expr-F (List ℕ) → List ℕ
  step = title_step column_name

  pub title-Literal : (literal : Literal) → name (V.Literal literal) ≡ literal_title literal
  unfolding title
  title-Literal literal = ap name (sym (V.rolls-Literal literal)) ∙ fold-roll-Expr (List ℕ) step (O.Literal literal)

  pub title-UnresolvedAttribute : (attribute : UnresolvedAttribute) → name (V.UnresolvedAttribute attribute) ≡ column_name attribute
  unfolding title
  title-UnresolvedAttribute attribute = ap name (sym (V.rolls-UnresolvedAttribute attribute)) ∙ fold-roll-Expr (List ℕ) step (O.UnresolvedAttribute attribute)

  pub title-UnresolvedFunction : (f : UnresolvedFunction Expr) →
      name (V.UnresolvedFunction f) ≡ call_title (record { function_name = f.function_name; arguments = map name f.arguments; is_distinct = f.is_distinct })
  unfolding title
  title-UnresolvedFunction f = ap name (sym (V.rolls-UnresolvedFunction f)) ∙ fold-roll-Expr (List ℕ) step (O.UnresolvedFunction f)

  pub title-UnresolvedStar : (star : UnresolvedStar) → name (V.UnresolvedStar star) ≡ codes "1"
  unfolding title
  title-UnresolvedStar star = ap name (sym (V.rolls-UnresolvedStar star)) ∙ fold-roll-Expr (List ℕ) step (O.UnresolvedStar star)

  pub title-Alias : (alias : Alias Expr) → name (V.Alias alias) ≡ name alias.expr
  unfolding title
  title-Alias alias = ap name (sym (V.rolls-Alias alias)) ∙ fold-roll-Expr (List ℕ) step (O.Alias alias)

  pub title-Cast : (cast : Cast Expr) → name (V.Cast cast) ≡ name cast.expr
  unfolding title
  title-Cast cast = ap name (sym (V.rolls-Cast cast)) ∙ fold-roll-Expr (List ℕ) step (O.Cast cast)

  pub title-SortOrder : (order : SortOrder Expr) → name (V.SortOrder order) ≡ name order.child
  unfolding title
  title-SortOrder order = ap name (sym (V.rolls-SortOrder order)) ∙ fold-roll-Expr (List ℕ) step (O.SortOrder order)

  pub title-Other : (number : ℕ) → name (V.Other number) ≡ []
  unfolding title
  title-Other number = ap name (sym (V.rolls-Other number)) ∙ fold-roll-Expr (List ℕ) step (O.Other number)

pub ruleset title_forms = (title-Literal, title-UnresolvedAttribute, title-UnresolvedFunction, title-UnresolvedStar, title-Alias, title-Cast, title-SortOrder, title-Other)

-- ---- calls by their operators

plain_of : (o : Option (List ℕ)) (name : List ℕ) (distinct : Bool) (x : List ℕ) → operator_title o name distinct (x ∷ []) ≡ plain_title name distinct (x ∷ [])
plain_of None name distinct x = refl
plain_of (Some operator) name distinct x = refl

-- without one side a negation is any other call
not_one : (b : Bool) (name : List ℕ) (distinct : Bool) (x y : List ℕ) (xs : List (List ℕ)) →
    negation_title b name distinct (x ∷ y ∷ xs) ≡ operator_title (operator_of name) name distinct (x ∷ y ∷ xs)
not_one true name distinct x y xs = refl
not_one false name distinct x y xs = refl

abbrev called : {X : Type 0} → List ℕ → Bool → List X → UnresolvedFunction X
called name distinct xs = record { function_name = name; arguments = xs; is_distinct = distinct }

module _ {X : Type 0} (t : X → List ℕ) (name : List ℕ) (distinct : Bool) where
  abbrev titled : List X → UnresolvedFunction (List ℕ)
  titled xs = called name distinct (map t xs)

  negated_one : (b : Bool) (x : X) → b ≡ true → negation_title b name distinct (t x ∷ []) ≡ codes "(NOT " ++ joined [] (t x ∷ []) ++ codes ")"
  negated_one true x is = refl
  negated_one false x is = cc

  pub title_negated : (xs : List X) → is_negated (called name distinct xs) ≡ true →
      call_title (titled xs) ≡ codes "(NOT " ++ joined [] (map t xs) ++ codes ")"
  unfolding call_title
  title_negated [] is = cc
  title_negated (x ∷ []) is = negated_one (is_negation name) x is
  title_negated (x ∷ y ∷ xs) is =
      let e : nat_eq (length (x ∷ y ∷ xs)) 1 ≡ false = ne_eqb (length (x ∷ y ∷ xs)) 1 (λ same. omega arith) in
      let f : false ≡ true = sym (ap (λ (b : Bool). b && is_negation name) e) ∙ is in
      cc

  between_two : (o : Option (List ℕ)) (operator : List ℕ) (x y : X) → option_map spaced o ≡ Some operator →
      operator_title o name distinct (t x ∷ t y ∷ []) ≡ codes "(" ++ joined operator (t x ∷ t y ∷ []) ++ codes ")"
  between_two None operator x y is = cc
  between_two (Some o) operator x y is =
      let e : spaced o ≡ operator = cc in
      ap (λ (b : List ℕ). codes "(" ++ (t x ++ (b ++ t y)) ++ codes ")") e

  pub title_between : (xs : List X) (operator : List ℕ) → operator_between (called name distinct xs) ≡ Some operator →
      call_title (titled xs) ≡ codes "(" ++ joined operator (map t xs) ++ codes ")"
  unfolding call_title
  title_between [] operator is = cc
  title_between (x ∷ []) operator is = cc
  title_between (x ∷ y ∷ []) operator is = not_one (is_negation name) name distinct (t x) (t y) [] ∙ between_two (operator_of name) operator x y is
  title_between (x ∷ y ∷ z ∷ xs) operator is =
      let e : nat_eq (length (x ∷ y ∷ z ∷ xs)) 2 ≡ false = ne_eqb (length (x ∷ y ∷ z ∷ xs)) 2 (λ same. omega arith) in
      let f : ◌≡◌ {A = Option (List ℕ)} None (Some operator) = sym (ap (λ (b : Bool). if b then option_map spaced (operator_of name) else None) e) ∙ is in
      cc

  plain_one : (b : Bool) (x : X) → b ≡ false → negation_title b name distinct (t x ∷ []) ≡ plain_title name distinct (t x ∷ [])
  plain_one true x is = cc
  plain_one false x is = plain_of (operator_of name) name distinct (t x)

  plain_two : (o : Option (List ℕ)) (x y : X) → option_map spaced o ≡ None → operator_title o name distinct (t x ∷ t y ∷ []) ≡ plain_title name distinct (t x ∷ t y ∷ [])
  plain_two None x y is = refl
  plain_two (Some o) x y is = cc

  plain_none : (b : Bool) → negation_title b name distinct [] ≡ operator_title (operator_of name) name distinct []
  plain_none true = refl
  plain_none false = refl

  no_operator : (o : Option (List ℕ)) → operator_title o name distinct [] ≡ plain_title name distinct []
  no_operator None = refl
  no_operator (Some o) = refl

  many : (o : Option (List ℕ)) (x y z : X) (xs : List (List ℕ)) → operator_title o name distinct (t x ∷ t y ∷ t z ∷ xs) ≡ plain_title name distinct (t x ∷ t y ∷ t z ∷ xs)
  many None x y z xs = refl
  many (Some o) x y z xs = refl

  pub title_plain : (xs : List X) → is_negated (called name distinct xs) ≡ false → operator_between (called name distinct xs) ≡ None →
      call_title (titled xs) ≡ plain_title name distinct (map t xs)
  unfolding call_title
  title_plain [] one two = plain_none (is_negation name) ∙ no_operator (operator_of name)
  title_plain (x ∷ []) one two = plain_one (is_negation name) x one
  title_plain (x ∷ y ∷ []) one two = not_one (is_negation name) name distinct (t x) (t y) [] ∙ plain_two (operator_of name) x y two
  title_plain (x ∷ y ∷ z ∷ xs) one two = not_one (is_negation name) name distinct (t x) (t y) (t z ∷ map t xs) ∙ many (operator_of name) x y z (map t xs)

pub ruleset call_forms = (title_negated, title_between, title_plain)

-- ---- names with a text between

pub joined_more : (between : List ℕ) (texts : List (List ℕ)) (text : List ℕ) →
    joined between (texts ++ text ∷ []) ≡ (joined between texts ++ gap (length texts) between) ++ text
joined_more between [] text = refl
joined_more between (first ∷ []) text = sym (append_assoc first between text)
joined_more between (first ∷ next ∷ texts) text =
    ap (λ (rest : List ℕ). first ++ (between ++ rest)) (joined_more between (next ∷ texts) text)
    ∙ sym (regroup first between (joined between (next ∷ texts)) between text)
  where
    regroup : (a b c d e : List ℕ) → ((a ++ (b ++ c)) ++ d) ++ e ≡ a ++ (b ++ ((c ++ d) ++ e))
    regroup a b c d e = simp append_assoc

pub joined_next : (between : List ℕ) (t : Expr → List ℕ) (exprs : List Expr) (at : ℕ) (expr : Expr) → at < length exprs → expr ≡ get_or exprs at expr →
    joined between (map t (take (at + 1) exprs)) ≡ (joined between (map t (take at exprs)) ++ gap at between) ++ t expr
joined_next between t exprs at expr within is =
    let front = map t (take at exprs) in
    let one : take (at + 1) exprs ≡ take at exprs ++ expr ∷ [] = take_more exprs at expr within ∙ ap (λ (e : Expr). take at exprs ++ e ∷ []) (sym is) in
    let many : length front ≡ at = length-map (take at exprs) t ∙ length-take-le at exprs (omega arith) in
    ap (λ (l : List Expr). joined between (map t l)) one
    ∙ ap (joined between) (map-append t (take at exprs) (expr ∷ []))
    ∙ joined_more between front (t expr)
    ∙ ap (λ (n : ℕ). (joined between front ++ gap n between) ++ t expr) many

pub joined_step : (between : List ℕ) (t : Expr → List ℕ) (exprs : List Expr) (at : ℕ) (expr : Expr) (start out gapped new : List ℕ) →
    at < length exprs → expr ≡ get_or exprs at expr → out ≡ start ++ joined between (map t (take at exprs)) →
    gapped ≡ out ++ gap at between → new ≡ gapped ++ t expr → new ≡ start ++ joined between (map t (take (at + 1) exprs))
joined_step between t exprs at expr start out gapped new within is so_far behind more =
    more
    ∙ ap (λ (bytes : List ℕ). bytes ++ t expr) (behind ∙ ap (λ (bytes : List ℕ). bytes ++ gap at between) so_far)
    ∙ regroup start (joined between (map t (take at exprs))) (gap at between) (t expr)
    ∙ ap (λ (bytes : List ℕ). start ++ bytes) (sym (joined_next between t exprs at expr within is))
  where
    regroup : (a b c d : List ℕ) → ((a ++ b) ++ c) ++ d ≡ a ++ ((b ++ c) ++ d)
    regroup a b c d = simp append_assoc

pub nothing_more : (column_name : UnresolvedAttribute → List ℕ) (number : ℕ) (expr : Expr) (out : List ℕ) →
    expr ≡ V.Other number → out ≡ out ++ title column_name expr
nothing_more column_name number expr out is =
    sym (ap (λ (bytes : List ℕ). out ++ bytes) (ap (title column_name) is ∙ title-Other column_name number) ∙ append-nil out)

-- ---- the line of one value

pub line_of_one : (value : Value) (line rest : List ℕ) → line ≡ row_line (record { 0 = value ∷ [] }) → line ≡ rest ++ 10 ∷ [] → rest ≡ printed value
line_of_one value line rest is ends = append_cancel_right rest (printed value) (10 ∷ []) (sym ends ∙ is)
