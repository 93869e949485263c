-- What holds of a relation where it holds of its inputs holds of all.
use Rattle.std.proofs.Common.{◌≡◌, Option, None, Some, sym, subst}
use Rattle.std.specs.Prelude.{IfSome, option_map}
use Rattle.relation_members.specs.Inputs.{first_of, second_of}
use Rattle.relation_messages.specs.declared.relation.Relation.{Relation}
use Rattle.relation_messages.specs.declared.relation.Relation.TheOpen.{Relation-F}
use Rattle.relation_messages.specs.declared.relation.Relation.TheViews.{out-Relation, roll-Relation, out-roll-Relation}
use Rattle.relation_messages.specs.declared.relation.Relation.TheFolds.{ind-Relation, map-Relation}
use Rattle.relation_messages.proofs.Folds.{mapped_first, mapped_second}

module _ (P : Relation → Type 0)
    (step : (relation : Relation) → IfSome (first_of (out-Relation relation).member) P → IfSome (second_of (out-Relation relation).member) P → P relation) where
  abbrev With : Type 0
  With = (relation : Relation) × P relation

  abbrev bare : With → Relation
  bare held = held.0

  holds_inside : (input : Option With) → IfSome (option_map bare input) P
  holds_inside None = tt
  holds_inside (Some input) = input.1

  abbrev plain : Relation-F With → Relation-F Relation
  plain layer = map-Relation With Relation bare layer

  first_holds : (layer : Relation-F With) → IfSome (first_of (out-Relation (roll-Relation (plain layer))).member) P
  first_holds layer =
      subst (λ (l : Relation-F Relation). IfSome (first_of l.member) P) (sym (out-roll-Relation (plain layer)))
      (subst (λ (o : Option Relation). IfSome o P) (sym (mapped_first bare layer.common layer.member)) (holds_inside (first_of layer.member)))

  second_holds : (layer : Relation-F With) → IfSome (second_of (out-Relation (roll-Relation (plain layer))).member) P
  second_holds layer =
      subst (λ (l : Relation-F Relation). IfSome (second_of l.member) P) (sym (out-roll-Relation (plain layer)))
      (subst (λ (o : Option Relation). IfSome o P) (sym (mapped_second bare layer.common layer.member)) (holds_inside (second_of layer.member)))

  pub by_inputs : (relation : Relation) → P relation
  by_inputs = ind-Relation P (λ x y is. subst (λ (z : Relation-F Relation). P (roll-Relation z)) is (step (roll-Relation (plain y)) (first_holds y) (second_holds y)))
