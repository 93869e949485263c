-- What each kind of relation and each form of expression means, by its inputs or parts.
use Rattle.std.proofs.Common.{◌≡◌, sym, subst}
use Rattle.std.proofs.lemmas.List.Elements.{All-from_recursion, recursion_from_All}
use Rattle.plan_model.specs.declared.expression.TypedExpr.TheOpen as F
use Rattle.plan_model.specs.declared.expression.TypedExpr.TheVariants as E
use Rattle.plan_model.specs.declared.node.Node.TheOpen as O
use Rattle.plan_model.specs.declared.node.Node.TheVariants as V
use Rattle.plan_model.specs.KindLaws.{AllowsAs, OutcomesOfKinds, TypesOfKinds, ConditionsOfKinds, ConditionsOfForms}
use Rattle.plan_model.specs.Outcomes.{Allowed}
use Rattle.plan_model.specs.WellFormed.{IsFormOver, IsOver, IsSound}
use Rattle.plan_model.proofs.AllowsFacts.{Allows-Rows, Allows-Range, Allows-Project, Allows-Filter, Allows-Join, Allows-SetOp, Allows-Aggregate, Allows-DistinctOn, Allows-Sort, Allows-Slice}
use Rattle.plan_model.proofs.ExpressionFacts as X
use Rattle.plan_model.proofs.NodeFacts.{every_here, every_input, made-Rows, made-Range, made-Project, made-Filter, made-Join, made-SetOp, made-Aggregate, made-DistinctOn, made-Sort, made-Slice}
use Rattle.plan_model.proofs.TypesFacts.{types-Rows, types-Range, types-Project, types-Filter, types-Join, types-SetOp, types-Aggregate, types-DistinctOn, types-Sort, types-Slice}

allows_as : (P Q : Allowed) → P ≡ Q → AllowsAs P Q
allows_as P Q e outcome = (subst (λ (R : Allowed). R outcome) e, subst (λ (R : Allowed). R outcome) (sym e))

pub outcomes_of_kinds : OutcomesOfKinds
outcomes_of_kinds = record {
  rows = λ schema rows. allows_as _ _ (Allows-Rows schema rows);
  range = λ start end step. allows_as _ _ (Allows-Range start end step);
  project = λ input items. allows_as _ _ (Allows-Project input items);
  filter = λ input condition. allows_as _ _ (Allows-Filter input condition);
  join = λ left right kind condition. allows_as _ _ (Allows-Join left right kind condition);
  set_op = λ left right kind all. allows_as _ _ (Allows-SetOp left right kind all);
  aggregate = λ input keys calls items. allows_as _ _ (Allows-Aggregate input keys calls items);
  distinct_on = λ input columns. allows_as _ _ (Allows-DistinctOn input columns);
  sort = λ input keys. allows_as _ _ (Allows-Sort input keys);
  slice = λ input skip most. allows_as _ _ (Allows-Slice input skip most);
}

pub types_of_kinds : TypesOfKinds
types_of_kinds = record {
  rows = types-Rows;
  range = types-Range;
  project = types-Project;
  filter = types-Filter;
  join = types-Join;
  set_op = types-SetOp;
  aggregate = types-Aggregate;
  distinct_on = types-DistinctOn;
  sort = types-Sort;
  slice = types-Slice;
}

pub conditions_of_kinds : ConditionsOfKinds
conditions_of_kinds = record {
  rows = λ schema rows. ((λ h. every_here IsSound (V.Rows schema rows) (O.Rows schema rows) (V.outs-Rows schema rows) h), λ h. made-Rows IsSound schema rows h);
  range = λ start end step. ((λ h. every_here IsSound (V.Range start end step) (O.Range start end step) (V.outs-Range start end step) h), λ h. made-Range IsSound start end step h);
  project = λ input items. ((λ h. (every_here IsSound (V.Project input items) (O.Project input items) (V.outs-Project input items) h, (every_input IsSound (V.Project input items) (O.Project input items) (V.outs-Project input items) h).0)), λ h. made-Project IsSound input items h.0 h.1);
  filter = λ input condition. ((λ h. (every_here IsSound (V.Filter input condition) (O.Filter input condition) (V.outs-Filter input condition) h, (every_input IsSound (V.Filter input condition) (O.Filter input condition) (V.outs-Filter input condition) h).0)), λ h. made-Filter IsSound input condition h.0 h.1);
  join = λ left right kind condition. ((λ h. (every_here IsSound (V.Join left right kind condition) (O.Join left right kind condition) (V.outs-Join left right kind condition) h, (every_input IsSound (V.Join left right kind condition) (O.Join left right kind condition) (V.outs-Join left right kind condition) h).0, (every_input IsSound (V.Join left right kind condition) (O.Join left right kind condition) (V.outs-Join left right kind condition) h).1.0)), λ h. made-Join IsSound left right kind condition h.0 h.1 h.2);
  set_op = λ left right kind all. ((λ h. (every_here IsSound (V.SetOp left right kind all) (O.SetOp left right kind all) (V.outs-SetOp left right kind all) h, (every_input IsSound (V.SetOp left right kind all) (O.SetOp left right kind all) (V.outs-SetOp left right kind all) h).0, (every_input IsSound (V.SetOp left right kind all) (O.SetOp left right kind all) (V.outs-SetOp left right kind all) h).1.0)), λ h. made-SetOp IsSound left right kind all h.0 h.1 h.2);
  aggregate = λ input keys calls items. ((λ h. (every_here IsSound (V.Aggregate input keys calls items) (O.Aggregate input keys calls items) (V.outs-Aggregate input keys calls items) h, (every_input IsSound (V.Aggregate input keys calls items) (O.Aggregate input keys calls items) (V.outs-Aggregate input keys calls items) h).0)), λ h. made-Aggregate IsSound input keys calls items h.0 h.1);
  distinct_on = λ input columns. ((λ h. (every_here IsSound (V.DistinctOn input columns) (O.DistinctOn input columns) (V.outs-DistinctOn input columns) h, (every_input IsSound (V.DistinctOn input columns) (O.DistinctOn input columns) (V.outs-DistinctOn input columns) h).0)), λ h. made-DistinctOn IsSound input columns h.0 h.1);
  sort = λ input keys. ((λ h. (every_here IsSound (V.Sort input keys) (O.Sort input keys) (V.outs-Sort input keys) h, (every_input IsSound (V.Sort input keys) (O.Sort input keys) (V.outs-Sort input keys) h).0)), λ h. made-Sort IsSound input keys h.0 h.1);
  slice = λ input skip most. ((λ h. (every_input IsSound (V.Slice input skip most) (O.Slice input skip most) (V.outs-Slice input skip most) h).0), λ h. made-Slice IsSound input skip most tt h);
}

pub conditions_of_forms : ConditionsOfForms
conditions_of_forms = record {
  column = λ columns place kind. ((λ h. X.every_here (IsFormOver columns) (E.Column place kind) (F.Column place kind) (E.outs-Column place kind) h), λ h. X.made-Column (IsFormOver columns) place kind h);
  literal = λ columns value kind. ((λ h. X.every_here (IsFormOver columns) (E.Literal value kind) (F.Literal value kind) (E.outs-Literal value kind) h), λ h. X.made-Literal (IsFormOver columns) value kind h);
  call_form = λ columns function arguments kind. (
    (λ h. (
      X.every_here (IsFormOver columns) (E.Call function arguments kind) (F.Call function arguments kind) (E.outs-Call function arguments kind) h,
      All-from_recursion (IsOver columns) arguments (X.every_part (IsFormOver columns) (E.Call function arguments kind) (F.Call function arguments kind) (E.outs-Call function arguments kind) h),
    )),
    λ h. X.made-Call (IsFormOver columns) function arguments kind h.0 (recursion_from_All (IsOver columns) arguments h.1),
  );
  cast = λ columns child kind. (
    (λ h. (
      X.every_here (IsFormOver columns) (E.Cast child kind) (F.Cast child kind) (E.outs-Cast child kind) h,
      (X.every_part (IsFormOver columns) (E.Cast child kind) (F.Cast child kind) (E.outs-Cast child kind) h).0,
    )),
    λ h. X.made-Cast (IsFormOver columns) child kind h.0 h.1,
  );
}
