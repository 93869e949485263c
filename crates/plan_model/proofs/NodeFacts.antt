-- Relations by their kind: induction, and the facts of a relation and of its inputs.
use Rattle.std.proofs.Common.{◌≡◌, ℕ, ℤ, Bool, Option, List, [], ◌∷◌, map, refl, sym, ap, ◌∙◌, subst}
use Rattle.std.specs.List.{AllByRecursion}
use Rattle.cn_types.specs.declared.row.Row.{Row}
use Rattle.cn_types.specs.declared.schema.Schema.{Schema}
use Rattle.plan_model.specs.declared.expression.TypedExpr.{TypedExpr}
use Rattle.plan_model.specs.declared.node.AggregateCall.{AggregateCall}
use Rattle.plan_model.specs.declared.node.JoinKind.{JoinKind}
use Rattle.plan_model.specs.declared.node.Node.{Node}
use Rattle.plan_model.specs.declared.node.Node.TheFolds.{map-Node, ind-Node, every-Node, every_here-Node, every_held-Node, every_made-Node}
use Rattle.plan_model.specs.declared.node.Node.TheOpen as O
use Rattle.plan_model.specs.declared.node.Node.TheOpen.{Node-F}
use Rattle.plan_model.specs.declared.node.Node.TheVariants as V
use Rattle.plan_model.specs.declared.node.Node.TheViews.{out-Node, roll-Node}
use Rattle.plan_model.specs.declared.node.SetKind.{SetKind}
use Rattle.plan_model.specs.declared.node.SortKey.{SortKey}

-- a fact of each kind of relation, given it of the inputs
pub record Cases (P : Node → Type 0) : Type 0 where
  pub rows : (schema : Schema) (rows : List Row) → P (V.Rows schema rows)
  pub range : (start end step : ℤ) → P (V.Range start end step)
  pub project : (input : Node) (items : List TypedExpr) → P input → P (V.Project input items)
  pub filter : (input : Node) (condition : TypedExpr) → P input → P (V.Filter input condition)
  pub join : (left right : Node) (kind : JoinKind) (condition : Option TypedExpr) → P left → P right → P (V.Join left right kind condition)
  pub set_op : (left right : Node) (kind : SetKind) (all : Bool) → P left → P right → P (V.SetOp left right kind all)
  pub aggregate : (input : Node) (keys : List TypedExpr) (calls : List AggregateCall) (items : List TypedExpr) → P input → P (V.Aggregate input keys calls items)
  pub distinct_on : (input : Node) (columns : List ℕ) → P input → P (V.DistinctOn input columns)
  pub sort : (input : Node) (keys : List SortKey) → P input → P (V.Sort input keys)
  pub slice : (input : Node) (skip : ℕ) (most : Option ℕ) → P input → P (V.Slice input skip most)

abbrev With : (Node → Type 0) → Type 0
With P = (node : Node) × P node

at_layer : (P : Node → Type 0) → Cases P → (y : Node-F (With P)) → P (roll-Node (map-Node (With P) Node (λ e. e.0) y))
at_layer P c (O.Rows schema rows) = subst P (sym (V.rolls-Rows schema rows)) (c.rows schema rows)
at_layer P c (O.Range start end step) = subst P (sym (V.rolls-Range start end step)) (c.range start end step)
at_layer P c (O.Project input items) = subst P (sym (V.rolls-Project input.0 items)) (c.project input.0 items input.1)
at_layer P c (O.Filter input condition) = subst P (sym (V.rolls-Filter input.0 condition)) (c.filter input.0 condition input.1)
at_layer P c (O.Join left right kind condition) =
    subst P (sym (V.rolls-Join left.0 right.0 kind condition)) (c.join left.0 right.0 kind condition left.1 right.1)
at_layer P c (O.SetOp left right kind all) = subst P (sym (V.rolls-SetOp left.0 right.0 kind all)) (c.set_op left.0 right.0 kind all left.1 right.1)
at_layer P c (O.Aggregate input keys calls items) =
    subst P (sym (V.rolls-Aggregate input.0 keys calls items)) (c.aggregate input.0 keys calls items input.1)
at_layer P c (O.DistinctOn input columns) = subst P (sym (V.rolls-DistinctOn input.0 columns)) (c.distinct_on input.0 columns input.1)
at_layer P c (O.Sort input keys) = subst P (sym (V.rolls-Sort input.0 keys)) (c.sort input.0 keys input.1)
at_layer P c (O.Slice input skip most) = subst P (sym (V.rolls-Slice input.0 skip most)) (c.slice input.0 skip most input.1)

pub induct : (P : Node → Type 0) → Cases P → (node : Node) → P node
induct P c = ind-Node P (λ x y is. subst (λ (z : Node-F Node). P (roll-Node z)) is (at_layer P c y))

-- ---- a fact of each layer, of a relation and of its inputs

abbrev pub inputs : {A : Type 0} → Node-F A → List A
inputs (O.Rows schema rows) = []
inputs (O.Range start end step) = []
inputs (O.Project input items) = input ∷ []
inputs (O.Filter input condition) = input ∷ []
inputs (O.Join left right kind condition) = left ∷ right ∷ []
inputs (O.SetOp left right kind all) = left ∷ right ∷ []
inputs (O.Aggregate input keys calls items) = input ∷ []
inputs (O.DistinctOn input columns) = input ∷ []
inputs (O.Sort input keys) = input ∷ []
inputs (O.Slice input skip most) = input ∷ []

inputs-map : {A B : Type 0} (f : A → B) (x : Node-F A) → inputs (map-Node A B f x) ≡ map f (inputs x)
inputs-map f (O.Rows schema rows) = refl
inputs-map f (O.Range start end step) = refl
inputs-map f (O.Project input items) = refl
inputs-map f (O.Filter input condition) = refl
inputs-map f (O.Join left right kind condition) = refl
inputs-map f (O.SetOp left right kind all) = refl
inputs-map f (O.Aggregate input keys calls items) = refl
inputs-map f (O.DistinctOn input columns) = refl
inputs-map f (O.Sort input keys) = refl
inputs-map f (O.Slice input skip most) = refl

module _ (Q : Node-F Node → Type 0) where
  all_held : (held : List (With (every-Node Q))) → AllByRecursion (every-Node Q) (map (λ e. e.0) held)
  all_held [] = tt
  all_held (h ∷ held) = (h.1, all_held held)

  -- the fact of each input, and of the relation's own layer
  pub every_input : (node : Node) (x : Node-F Node) → out-Node node ≡ x → every-Node Q node → AllByRecursion (every-Node Q) (inputs x)
  every_input node x out h =
      let held = every_held-Node Q node h in
      let same : map (λ e. e.0) (inputs held.0) ≡ inputs x = sym (inputs-map (λ e. e.0) held.0) ∙ ap inputs (held.1 ∙ out) in
      subst (AllByRecursion (every-Node Q)) same (all_held (inputs held.0))

  pub every_here : (node : Node) (x : Node-F Node) → out-Node node ≡ x → every-Node Q node → Q x
  every_here node x out h = subst Q out (every_here-Node Q node h)

  -- the fact of a relation, from that of its own layer and of its inputs
  pub made-Rows : (schema : Schema) (rows : List Row) → Q (O.Rows schema rows) → every-Node Q (V.Rows schema rows)
  made-Rows schema rows here = subst (every-Node Q) (V.rolls-Rows schema rows) (every_made-Node Q (O.Rows schema rows) (O.Rows schema rows) refl here)

  pub made-Range : (start end step : ℤ) → Q (O.Range start end step) → every-Node Q (V.Range start end step)
  made-Range start end step here = subst (every-Node Q) (V.rolls-Range start end step) (every_made-Node Q (O.Range start end step) (O.Range start end step) refl here)

  pub made-Project : (input : Node) (items : List TypedExpr) → Q (O.Project input items) → every-Node Q input → every-Node Q (V.Project input items)
  made-Project input items here in_input = subst (every-Node Q) (V.rolls-Project input items) (every_made-Node Q (O.Project input items) (O.Project (input, in_input) items) refl here)

  pub made-Filter : (input : Node) (condition : TypedExpr) → Q (O.Filter input condition) → every-Node Q input → every-Node Q (V.Filter input condition)
  made-Filter input condition here in_input = subst (every-Node Q) (V.rolls-Filter input condition) (every_made-Node Q (O.Filter input condition) (O.Filter (input, in_input) condition) refl here)

  pub made-Join : (left right : Node) (kind : JoinKind) (condition : Option TypedExpr) → Q (O.Join left right kind condition) → every-Node Q left → every-Node Q right → every-Node Q (V.Join left right kind condition)
  made-Join left right kind condition here in_left in_right = subst (every-Node Q) (V.rolls-Join left right kind condition) (every_made-Node Q (O.Join left right kind condition) (O.Join (left, in_left) (right, in_right) kind condition) refl here)

  pub made-SetOp : (left right : Node) (kind : SetKind) (all : Bool) → Q (O.SetOp left right kind all) → every-Node Q left → every-Node Q right → every-Node Q (V.SetOp left right kind all)
  made-SetOp left right kind all here in_left in_right = subst (every-Node Q) (V.rolls-SetOp left right kind all) (every_made-Node Q (O.SetOp left right kind all) (O.SetOp (left, in_left) (right, in_right) kind all) refl here)

  pub made-Aggregate : (input : Node) (keys : List TypedExpr) (calls : List AggregateCall) (items : List TypedExpr) → Q (O.Aggregate input keys calls items) → every-Node Q input → every-Node Q (V.Aggregate input keys calls items)
  made-Aggregate input keys calls items here in_input = subst (every-Node Q) (V.rolls-Aggregate input keys calls items) (every_made-Node Q (O.Aggregate input keys calls items) (O.Aggregate (input, in_input) keys calls items) refl here)

  pub made-DistinctOn : (input : Node) (columns : List ℕ) → Q (O.DistinctOn input columns) → every-Node Q input → every-Node Q (V.DistinctOn input columns)
  made-DistinctOn input columns here in_input = subst (every-Node Q) (V.rolls-DistinctOn input columns) (every_made-Node Q (O.DistinctOn input columns) (O.DistinctOn (input, in_input) columns) refl here)

  pub made-Sort : (input : Node) (keys : List SortKey) → Q (O.Sort input keys) → every-Node Q input → every-Node Q (V.Sort input keys)
  made-Sort input keys here in_input = subst (every-Node Q) (V.rolls-Sort input keys) (every_made-Node Q (O.Sort input keys) (O.Sort (input, in_input) keys) refl here)

  pub made-Slice : (input : Node) (skip : ℕ) (most : Option ℕ) → Q (O.Slice input skip most) → every-Node Q input → every-Node Q (V.Slice input skip most)
  made-Slice input skip most here in_input = subst (every-Node Q) (V.rolls-Slice input skip most) (every_made-Node Q (O.Slice input skip most) (O.Slice (input, in_input) skip most) refl here)
