-- The walk, a step at a time.
use Rattle.std.proofs.Common.{◌≡◌, ℕ, ◌+◌, ◌*◌, Bool, List, Option, None, Some, Ok, Err, refl, sym, ap, ◌∙◌, arith}
use Rattle.std.specs.Prelude.{OnOk, Result, nat_eq, option_map}
use Rattle.table_store.specs.declared.tables.NamedTable.{NamedTable}
use Rattle.relation_parts.specs.declared.common.RelationCommon.{RelationCommon}
use Rattle.relation_members.specs.declared.member.RelationMember.{RelationMember}
use Rattle.relation_members.specs.declared.member.RelationMember.TheVariants as V
use Rattle.relation_members.specs.Inputs.{first_of, second_of}
use Rattle.relation_messages.specs.declared.relation.Relation.{Relation}
use Rattle.relation_messages.specs.declared.relation.Relation.TheViews.{out-Relation, roll-Relation, roll-out-Relation}
use Rattle.relation_messages.specs.declared.relation.Relation.TheFolds.{map-Relation, fold-roll-Relation}
use Rattle.relation_messages.proofs.Folds.{mapped, mapped_first, mapped_second}
use Rattle.resolve_names.specs.declared.error.ResolveStop.{ResolveStop}
use Rattle.resolve_names.specs.Checks.{Checked, ◌>>=◌}
use Rattle.resolve_relations.specs.declared.found.FoundOf.{FoundOf}
use Rattle.resolve_relations.specs.Columns.{ids_from}
use Rattle.plan_resolve.specs.Drawing.{Counted, all_inputs, behind, counted, counted_step, first_relations, left_from, relations_in}
use Rattle.plan_resolve.specs.Given.{behind_first, behind_inputs, given, input_found, input_relations, over_inputs, walked}
use Rattle.plan_resolve.specs.Members.{limited, member_rule}

-- ---- chains

one_input : {R F G : Type 0} (input : R) (r : Checked F) (g : F → Checked G) → (r >>= g) ≡ ((r >>= λ x. Ok (Some x)) >>= λ first. given first input >>= g)
one_input input (Ok x) g = refl
one_input input (Err e) g = refl

two_inputs : {R F G : Type 0} (left right : R) (r s : Checked F) (g : F → F → Checked G) →
    (r >>= λ one. s >>= λ other. g one other)
    ≡ ((r >>= λ x. Ok (Some x)) >>= λ first. (s >>= λ y. Ok (Some y)) >>= λ second. given first left >>= λ one. given second right >>= λ other. g one other)
two_inputs left right (Ok x) (Ok y) g = refl
two_inputs left right (Ok x) (Err e) g = refl
two_inputs left right (Err e) s g = refl

limited_after : {A I : Type 0} (common : Option RelationCommon) (r : Checked A) (g : A → Checked (FoundOf I)) → limited common (r >>= g) ≡ (r >>= λ x. limited common (g x))
unfolding limited
limited_after common (Ok x) g = refl
limited_after common (Err e) g = refl

pub limited_error : {I : Type 0} (common : Option RelationCommon) (stop : ResolveStop) → limited {I = I} common (Err stop) ≡ Err stop
unfolding limited
limited_error common stop = refl

limited_twice : {A B I : Type 0} (common : Option RelationCommon) (r : Checked A) (s : Checked B) (g : A → B → Checked (FoundOf I)) →
    limited common (r >>= λ x. s >>= λ y. g x y) ≡ (r >>= λ x. s >>= λ y. limited common (g x y))
unfolding limited
limited_twice common (Ok x) s g = limited_after common s (g x)
limited_twice common (Err e) s g = refl

pub twice_behind : (base one other : ℕ) → behind base (one + other) ≡ behind (behind base one) other
twice_behind base one other = omega arith

pub always_ok : {T E P : Type 0} (r : Result T E) → P → OnOk r P
always_ok (Ok x) fact = fact
always_ok (Err e) fact = tt

-- ---- a member over its inputs, whatever stands for them

module _ {I A : Type 0} (inner : Relation → A) where
  -- an input, where there is one
  abbrev pub got : (A → Checked (FoundOf I)) → Option Relation → Checked (Option (FoundOf I))
  got resolver (Some input) = resolver (inner input) >>= λ found. Ok (Some found)
  got resolver None = Ok None

  module _ (same : I → I → Bool) (exact : Bool) (tables : List NamedTable) (fresh : ℕ → I) (left right : A → Checked (FoundOf I)) (common : Option RelationCommon) where
    abbrev chained : RelationMember Relation → Checked (FoundOf I)
    chained member = got left (first_of member) >>= λ first. got right (second_of member) >>= λ second. member_rule same exact tables fresh (given first) (given second) member

    -- the rule over what stands for the inputs, and over the inputs that are resolved first
    pub rule_over : (member : RelationMember Relation) → member_rule same exact tables fresh left right (mapped inner common member) ≡ chained member
    unfolding member_rule
    rule_over (V.Read it) = refl
    rule_over (V.Project it) = one_input it.input (left (inner it.input)) _
    rule_over (V.Filter it) = one_input it.input (left (inner it.input)) _
    rule_over (V.Join it) = two_inputs it.left it.right (left (inner it.left)) (right (inner it.right)) _
    rule_over (V.SetOperation it) = two_inputs it.left_input it.right_input (left (inner it.left_input)) (right (inner it.right_input)) _
    rule_over (V.Sort it) = one_input it.input (left (inner it.input)) _
    rule_over (V.Limit it) = one_input it.input (left (inner it.input)) _
    rule_over (V.Aggregate it) = one_input it.input (left (inner it.input)) _
    rule_over (V.LocalRelation it) = refl
    rule_over (V.Offset it) = one_input it.input (left (inner it.input)) _
    rule_over (V.Deduplicate it) = one_input it.input (left (inner it.input)) _
    rule_over (V.Range it) = refl
    rule_over (V.SubqueryAlias it) = one_input it.input (left (inner it.input)) _
    rule_over (V.ToDf it) = one_input it.input (left (inner it.input)) _
    rule_over (V.WithColumnsRenamed it) = one_input it.input (left (inner it.input)) _
    rule_over (V.DropColumns it) = one_input it.input (left (inner it.input)) _
    rule_over (V.WithColumns it) = one_input it.input (left (inner it.input)) _
    rule_over (V.Other number) = refl

    pub limited_over : (member : RelationMember Relation) →
        limited common (member_rule same exact tables fresh left right (mapped inner common member))
        ≡ (got left (first_of member) >>= λ first. got right (second_of member) >>= λ second. limited common (member_rule same exact tables fresh (given first) (given second) member))
    limited_over member = ap (limited common) (rule_over member) ∙ limited_twice common (got left (first_of member)) (got right (second_of member)) _

-- ---- with numbers for ids

module _ (exact : Bool) (tables : List NamedTable) where
  abbrev inner : Relation → Counted
  inner = counted exact tables

  got_is : (base : ℕ) (input : Option Relation) → got inner (left_from base) input ≡ input_found exact tables input base
  got_is base (Some input) = refl
  got_is base None = refl

  input_count : (input : Option Relation) → relations_in (option_map inner input) ≡ input_relations exact tables input
  input_count (Some input) = refl
  input_count None = refl

  first_count : (common : Option RelationCommon) (member : RelationMember Relation) → first_relations (mapped inner common member) ≡ input_relations exact tables (first_of member)
  first_count common member = ap relations_in (mapped_first inner common member) ∙ input_count (first_of member)

  second_count : (common : Option RelationCommon) (member : RelationMember Relation) → relations_in (second_of (mapped inner common member)) ≡ input_relations exact tables (second_of member)
  second_count common member = ap relations_in (mapped_second inner common member) ∙ input_count (second_of member)

  -- ---- a relation

  abbrev from_to : Relation → ℕ → ℕ → ℕ → Checked (FoundOf ℕ)
  from_to relation base one own =
      limited (out-Relation relation).common
      (member_rule nat_eq exact tables (ids_from own) (left_from base) (left_from one) (mapped inner (out-Relation relation).common (out-Relation relation).member))

  unrolled : (relation : Relation) → counted exact tables relation ≡ counted_step exact tables (map-Relation Relation Counted inner (out-Relation relation))
  unfolding counted
  unrolled relation = ap (counted exact tables) (sym (roll-out-Relation relation)) ∙ fold-roll-Relation Counted (counted_step exact tables) (out-Relation relation)

  own_is : (common : Option RelationCommon) (member : RelationMember Relation) (base : ℕ) →
      behind base (all_inputs (mapped inner common member)) ≡ behind_inputs exact tables member base
  own_is common member base =
      ap (λ (n : ℕ). behind base (n + relations_in (second_of (mapped inner common member)))) (first_count common member)
      ∙ ap (λ (n : ℕ). behind base (input_relations exact tables (first_of member) + n)) (second_count common member)
      ∙ twice_behind base (input_relations exact tables (first_of member)) (input_relations exact tables (second_of member))

  pub is_walked : (relation : Relation) (base : ℕ) → (counted exact tables relation).found base ≡ walked exact tables relation base
  unfolding walked
  is_walked relation base =
      let layer = out-Relation relation in
      ap (λ (c : Counted). c.found base) (unrolled relation)
      ∙ ap (λ (n : ℕ). from_to relation base (behind base n) (behind base (all_inputs (mapped inner layer.common layer.member)))) (first_count layer.common layer.member)
      ∙ ap (λ (n : ℕ). from_to relation base (behind_first exact tables layer.member base) n) (own_is layer.common layer.member base)
      ∙ limited_over inner nat_eq exact tables (ids_from (behind_inputs exact tables layer.member base)) (left_from base) (left_from (behind_first exact tables layer.member base)) layer.common layer.member
      ∙ ap (λ (r : Checked (Option (FoundOf ℕ))). r >>= λ first. got inner (left_from (behind_first exact tables layer.member base)) (second_of layer.member) >>= λ second.
      over_inputs exact tables relation (behind_inputs exact tables layer.member base) first second) (got_is base (first_of layer.member))
      ∙ ap (λ (r : Checked (Option (FoundOf ℕ))). input_found exact tables (first_of layer.member) base >>= λ first. r >>= λ second.
      over_inputs exact tables relation (behind_inputs exact tables layer.member base) first second) (got_is (behind_first exact tables layer.member base) (second_of layer.member))

  -- a relation is one more than those of its inputs
  pub relations_are : (relation : Relation) →
      (counted exact tables relation).relations ≡ input_relations exact tables (first_of (out-Relation relation).member) + input_relations exact tables (second_of (out-Relation relation).member) + 1
  relations_are relation =
      let layer = out-Relation relation in
      ap (λ (c : Counted). c.relations) (unrolled relation)
      ∙ ap (λ (n : ℕ). n + relations_in (second_of (mapped inner layer.common layer.member)) + 1) (first_count layer.common layer.member)
      ∙ ap (λ (n : ℕ). input_relations exact tables (first_of layer.member) + n + 1) (second_count layer.common layer.member)

  -- the ids of a relation end behind those of its inputs and its own
  relations_behind : (relation : Relation) (base : ℕ) →
      behind (behind_inputs exact tables (out-Relation relation).member base) 1 ≡ behind base (counted exact tables relation).relations
  relations_behind relation base =
      let layer = out-Relation relation in
      ap (λ (n : ℕ). behind n 1) (sym (own_is layer.common layer.member base))
      ∙ sym (twice_behind base (all_inputs (mapped inner layer.common layer.member)) 1)
      ∙ ap (λ (c : Counted). behind base c.relations) (sym (unrolled relation))

  -- the same, an input after the other
  pub drawn_behind : (relation : Relation) (base one two next : ℕ) → one ≡ behind_first exact tables (out-Relation relation).member base →
      two ≡ behind one (input_relations exact tables (second_of (out-Relation relation).member)) → next ≡ behind two 1 → next ≡ behind base (counted exact tables relation).relations
  drawn_behind relation base one two next first second own =
      own
      ∙ ap (λ (n : ℕ). behind n 1) (second ∙ ap (λ (n : ℕ). behind n (input_relations exact tables (second_of (out-Relation relation).member))) first)
      ∙ relations_behind relation base
