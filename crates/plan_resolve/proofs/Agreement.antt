-- A relation is resolved alike with numbers for ids and with places.
use Rattle.std.proofs.Common.{◌≡◌, ℕ, suc, ◌+◌, ◌*◌, ◌<◌, Bool, List, [], ◌∷◌, ◌++◌, length, Option, None, Some, Ok, Err, refl, sym, ap, subst, subst₂, ◌∙◌, arith}
use Rattle.std.proofs.Math.Seq.{get_or-append_seam}
use Rattle.std.proofs.lemmas.List.{append-nil, append_assoc, length-append}
use Rattle.std.specs.List.{AllZip}
use Rattle.std.specs.Prelude.{IfSome, get_or, nat_eq, unwrap_or, ℤ, pos}
use Rattle.table_store.specs.declared.tables.NamedTable.{NamedTable}
use Rattle.relation_parts.specs.declared.common.RelationCommon.{RelationCommon}
use Rattle.relation_members.specs.declared.member.RelationMember.{RelationMember}
use Rattle.relation_members.specs.declared.member.RelationMember.TheVariants as V
use Rattle.relation_members.specs.Inputs.{first_of, second_of}
use Rattle.relation_messages.specs.declared.relation.Relation.{Relation}
use Rattle.relation_messages.specs.declared.relation.Relation.TheViews.{out-Relation, roll-out-Relation}
use Rattle.relation_messages.specs.declared.relation.Relation.TheFolds.{fold-roll-Relation}
use Rattle.plan_model.specs.declared.node.Node.TheVariants as node
use Rattle.resolve_names.specs.declared.scope.Tagged.{Tagged}
use Rattle.resolve_names.specs.Checks.{Checked, ◌>>=◌}
use Rattle.resolve_relations.specs.declared.found.FoundOf.{FoundOf}
use Rattle.resolve_relations.specs.Columns.{fresh_column, ids_from, within_limits}
use Rattle.resolve_ids.specs.Renaming.{Alike, DrawnAlike, limited as within}
use Rattle.resolve_ids.specs.Together.{DrawnTogether, SameAnswer, SameFound, SameTagged, TellsTogether}
use Rattle.resolve_ids.specs.TogetherLaws.{ColumnsStaySame, NamesStaySame, RowsStaySame, TestsStaySame}
use Rattle.resolve_ids.proofs.Pairs.{draws_left, draws_right, fresh_pair, from_pairs, left, right}
use Rattle.resolve_ids.proofs.Steps.{numbered_alike, then_alike}
use Rattle.resolve_ids.proofs.TogetherRules.{rules_stay_same}
use Rattle.plan_resolve.specs.declared.local.Local.{Local}
use Rattle.plan_resolve.specs.Drawing.{behind, counted}
use Rattle.plan_resolve.specs.Given.{behind_first, behind_inputs, given, input_found, input_relations, walked}
use Rattle.plan_resolve.specs.Local.{local_column, local_of, local_rule}
use Rattle.plan_resolve.specs.Members.{identifier_of, is_set, limited, member_rule, plan_id_of, tagged}
use Rattle.plan_resolve.specs.Walk.{Id, Path, Resolver, left_of, made_at, resolved, resolved_step, right_of, same_id}
use Rattle.plan_resolve.proofs.Distinct.{NoTwice}
use Rattle.plan_resolve.proofs.Induction.{by_inputs}
use Rattle.plan_resolve.proofs.Numbering.{Belongs, draws, tells}
use Rattle.plan_resolve.proofs.Paths.{first_places, no_place_twice, places, places_are, places_in, second_places}
use Rattle.plan_resolve.proofs.Walked.{got, is_walked, limited_over, relations_are, twice_behind}

-- ---- rows that come with a plan

module _ {I J : Type 0} (name : I → J) (fresh : ℕ → I) (fresh_too : ℕ → J) (drawn : DrawnAlike name fresh fresh_too) where
  local_alike : (payload schema : Option (List ℕ)) → Alike name (local_rule fresh payload schema) (local_rule fresh_too payload schema)
  unfolding local_rule
  local_alike payload schema =
      then_alike name (local_of payload schema) (local_of payload schema) _ _ refl
      (λ local. numbered_alike name (node.Rows local.schema local.rows) [] (local_column fresh) (local_column fresh_too)
      (λ n field few. ap (λ (id : J). fresh_column id field.name field.kind field.nullable) (drawn.drawn n few)) local.schema.0)

module _ (Belong : ℕ → Id → Type 0) where
  -- ---- limits and plan ids

  after_limits : {I : Type 0} (common : Option RelationCommon) (answer : Checked (FoundOf I)) →
      limited common answer ≡ (within answer >>= λ found. Ok (tagged found (plan_id_of common)))
  unfolding limited
  after_limits common (Ok found) = kept_through (within_limits found.columns)
    where
      kept_through : (r : Checked (Unit {0})) → (r >>= λ w. Ok (tagged found (plan_id_of common))) ≡ ((r >>= λ fine. Ok found) >>= λ f. Ok (tagged f (plan_id_of common)))
      kept_through (Ok w) = refl
      kept_through (Err e) = refl
  after_limits common (Err e) = refl

  one_more : (xs : List (Tagged ℕ)) (ys : List (Tagged Id)) (x : Tagged ℕ) (y : Tagged Id) → AllZip (SameTagged Belong) xs ys → SameTagged Belong x y →
      AllZip (SameTagged Belong) (xs ++ x ∷ []) (ys ++ y ∷ [])
  one_more [] [] x y all one = (one, tt)
  one_more [] (z ∷ zs) x y all one = absurd all
  one_more (z ∷ zs) [] x y all one = absurd all
  one_more (w ∷ ws) (z ∷ zs) x y all one = (all.0, one_more ws zs x y all.1 one)

  tagged_same : (found : FoundOf ℕ) (other : FoundOf Id) (plan : Option ℤ) → SameFound Belong found other → SameFound Belong (tagged found plan) (tagged other plan)
  tagged_same found other None same = same
  tagged_same found other (Some plan) same = record {
    node = same.node;
    columns = same.columns;
    relations = one_more found.relations other.relations (record { plan_id = plan; columns = found.columns }) (record { plan_id = plan; columns = other.columns })
        same.relations (record { plan_id = refl; columns = same.columns });
  }

  both_tagged : (answer : Checked (FoundOf ℕ)) (other : Checked (FoundOf Id)) (plan : Option ℤ) → SameAnswer Belong answer other →
      SameAnswer Belong (answer >>= λ f. Ok (tagged f plan)) (other >>= λ f. Ok (tagged f plan))
  both_tagged (Ok found) (Ok other) plan same = tagged_same found other plan same
  both_tagged (Ok found) (Err stop) plan same = absurd same
  both_tagged (Err stop) (Ok other) plan same = absurd same
  both_tagged (Err stop) (Err stop_too) plan same = same

  limits_same : (common : Option RelationCommon) (answer : Checked (FoundOf ℕ)) (other : Checked (FoundOf Id)) → SameAnswer Belong (within answer) (within other) →
      SameAnswer Belong (limited common answer) (limited common other)
  limits_same common answer other same =
      subst₂ (SameAnswer Belong) (sym (after_limits common answer)) (sym (after_limits common other))
      (both_tagged (within answer) (within other) (plan_id_of common) same)

  -- ---- inputs

  abbrev pub SameInput : Option (FoundOf ℕ) → Option (FoundOf Id) → Type 0
  SameInput (Some found) (Some other) = SameFound Belong found other
  SameInput (Some found) None = ⊥
  SameInput None (Some other) = ⊥
  SameInput None None = Unit {0}

  abbrev pub SameInputs : Checked (Option (FoundOf ℕ)) → Checked (Option (FoundOf Id)) → Type 0
  SameInputs (Ok input) (Ok other) = SameInput input other
  SameInputs (Ok input) (Err stop) = ⊥
  SameInputs (Err stop) (Ok other) = ⊥
  SameInputs (Err stop) (Err stop_too) = stop_too ≡ stop

  pub as_input : (answer : Checked (FoundOf ℕ)) (other : Checked (FoundOf Id)) → SameAnswer Belong answer other →
      SameInputs (answer >>= λ f. Ok (Some f)) (other >>= λ f. Ok (Some f))
  as_input (Ok found) (Ok other) same = same
  as_input (Ok found) (Err stop) same = absurd same
  as_input (Err stop) (Ok other) same = absurd same
  as_input (Err stop) (Err stop_too) same = same

  pub after_input : (input : Checked (Option (FoundOf ℕ))) (other : Checked (Option (FoundOf Id)))
      (next : Option (FoundOf ℕ) → Checked (FoundOf ℕ)) (next_too : Option (FoundOf Id) → Checked (FoundOf Id)) →
      SameInputs input other → ((f : Option (FoundOf ℕ)) (g : Option (FoundOf Id)) → SameInput f g → SameAnswer Belong (next f) (next_too g)) →
      SameAnswer Belong (input >>= next) (other >>= next_too)
  after_input (Ok input) (Ok other) next next_too same then = then input other same
  after_input (Ok input) (Err stop) next next_too same then = absurd same
  after_input (Err stop) (Ok other) next next_too same then = absurd same
  after_input (Err stop) (Err stop_too) next next_too same then = same

  module _ {R : Type 0} (common : Option RelationCommon) where
    over_one : (input : R) (f : Option (FoundOf ℕ)) (g : Option (FoundOf Id)) (rule : FoundOf ℕ → Checked (FoundOf ℕ)) (rule_too : FoundOf Id → Checked (FoundOf Id)) →
        SameInput f g → ((x : FoundOf ℕ) (y : FoundOf Id) → SameFound Belong x y → SameAnswer Belong (within (rule x)) (within (rule_too y))) →
        SameAnswer Belong (limited common (given f input >>= rule)) (limited common (given g input >>= rule_too))
    unfolding limited
    over_one input (Some x) (Some y) rule rule_too same keeps = limits_same common (rule x) (rule_too y) (keeps x y same)
    over_one input (Some x) None rule rule_too same keeps = absurd same
    over_one input None (Some y) rule rule_too same keeps = absurd same
    over_one input None None rule rule_too same keeps = refl

    over_two : (one two : R) (f s : Option (FoundOf ℕ)) (g t : Option (FoundOf Id))
        (rule : FoundOf ℕ → FoundOf ℕ → Checked (FoundOf ℕ)) (rule_too : FoundOf Id → FoundOf Id → Checked (FoundOf Id)) →
        SameInput f g → SameInput s t →
        ((x : FoundOf ℕ) (y : FoundOf Id) → SameFound Belong x y → (z : FoundOf ℕ) (w : FoundOf Id) → SameFound Belong z w → SameAnswer Belong (within (rule x z)) (within (rule_too y w))) →
        SameAnswer Belong (limited common (given f one >>= λ x. given s two >>= λ z. rule x z)) (limited common (given g one >>= λ y. given t two >>= λ w. rule_too y w))
    unfolding limited
    over_two one two (Some x) s (Some y) t rule rule_too first second keeps =
        over_one two s t (rule x) (rule_too y) second (λ z w same. keeps x y first z w same)
    over_two one two (Some x) s None t rule rule_too first second keeps = absurd first
    over_two one two None s (Some y) t rule rule_too first second keeps = absurd first
    over_two one two None s None t rule rule_too first second keeps = refl

-- ---- a member over inputs

module _ (Belong : ℕ → Id → Type 0) (tells_together : TellsTogether Belong nat_eq same_id) (fresh : ℕ → ℕ) (fresh_too : ℕ → Id) (drawn : DrawnTogether Belong fresh fresh_too) where
  local_same : (payload schema : Option (List ℕ)) → SameAnswer Belong (within (local_rule fresh payload schema)) (within (local_rule fresh_too payload schema))
  local_same payload schema =
      from_pairs Belong (local_rule (fresh_pair Belong fresh fresh_too drawn) payload schema) (local_rule fresh payload schema) (local_rule fresh_too payload schema)
      (local_alike (left Belong) (fresh_pair Belong fresh fresh_too drawn) fresh (draws_left Belong fresh fresh_too drawn) payload schema)
      (local_alike (right Belong) (fresh_pair Belong fresh fresh_too drawn) fresh_too (draws_right Belong fresh fresh_too drawn) payload schema)

  module _ (exact : Bool) (tables : List NamedTable) (common : Option RelationCommon) where
    abbrev rows : RowsStaySame Belong
    rows = (rules_stay_same Belong).rows

    abbrev tests : TestsStaySame Belong nat_eq same_id
    tests = (rules_stay_same Belong).tests nat_eq same_id tells_together

    abbrev names : NamesStaySame Belong fresh fresh_too
    names = (rules_stay_same Belong).names fresh fresh_too drawn

    abbrev columns : ColumnsStaySame Belong nat_eq same_id fresh fresh_too
    columns = (rules_stay_same Belong).columns nat_eq same_id tells_together fresh fresh_too drawn

    abbrev by_number : RelationMember Relation → Option (FoundOf ℕ) → Option (FoundOf ℕ) → Checked (FoundOf ℕ)
    by_number member f s = limited common (member_rule nat_eq exact tables fresh (given f) (given s) member)

    abbrev by_place : RelationMember Relation → Option (FoundOf Id) → Option (FoundOf Id) → Checked (FoundOf Id)
    by_place member g t = limited common (member_rule same_id exact tables fresh_too (given g) (given t) member)

    pub member_same : (member : RelationMember Relation) (f : Option (FoundOf ℕ)) (g : Option (FoundOf Id)) → SameInput Belong f g →
        (s : Option (FoundOf ℕ)) (t : Option (FoundOf Id)) → SameInput Belong s t → SameAnswer Belong (by_number member f s) (by_place member g t)
    unfolding member_rule
    member_same (V.Read it) f g first s t second = limits_same Belong common _ _ (names.read tables (identifier_of it))
    member_same (V.Project it) f g first s t second = over_one Belong common it.input f g _ _ first (λ x y same. columns.project x y same exact it.expressions)
    member_same (V.Filter it) f g first s t second = over_one Belong common it.input f g _ _ first (λ x y same. tests.filter x y same exact it.condition)
    member_same (V.Join it) f g first s t second = over_two Belong common it.left it.right f s g t _ _ first second
        (λ x y one z w other. columns.join x y one z w other exact it.join_type it.join_condition it.using_columns)
    member_same (V.SetOperation it) f g first s t second = over_two Belong common it.left_input it.right_input f s g t _ _ first second
        (λ x y one z w other. names.set_op x y one z w other exact it.set_op_type (is_set it.is_all) (is_set it.by_name) (is_set it.allow_missing_columns))
    member_same (V.Sort it) f g first s t second = over_one Belong common it.input f g _ _ first (λ x y same. tests.sort x y same exact it.order)
    member_same (V.Limit it) f g first s t second = over_one Belong common it.input f g _ _ first (λ x y same. rows.limit x y same it.number)
    member_same (V.Aggregate it) f g first s t second = over_one Belong common it.input f g _ _ first
        (λ x y same. columns.aggregate x y same exact it.group_type it.grouping_expressions it.aggregate_expressions)
    member_same (V.LocalRelation it) f g first s t second = limits_same Belong common _ _ (local_same it.payload it.schema)
    member_same (V.Offset it) f g first s t second = over_one Belong common it.input f g _ _ first (λ x y same. rows.offset x y same it.number)
    member_same (V.Deduplicate it) f g first s t second = over_one Belong common it.input f g _ _ first
        (λ x y same. rows.deduplicate x y same exact (is_set it.all_columns_as_keys) it.column_names)
    member_same (V.Range it) f g first s t second = limits_same Belong common _ _ (names.range (unwrap_or it.start (pos 0)) it.end it.step)
    member_same (V.SubqueryAlias it) f g first s t second = over_one Belong common it.input f g _ _ first (λ x y same. rows.alias x y same it.alias)
    member_same (V.ToDf it) f g first s t second = over_one Belong common it.input f g _ _ first (λ x y same. names.to_df x y same it.column_names)
    member_same (V.WithColumnsRenamed it) f g first s t second = over_one Belong common it.input f g _ _ first
        (λ x y same. names.with_columns_renamed x y same exact it.rename_map.entries)
    member_same (V.DropColumns it) f g first s t second = over_one Belong common it.input f g _ _ first (λ x y same. tests.drop x y same exact it.columns it.column_names)
    member_same (V.WithColumns it) f g first s t second = over_one Belong common it.input f g _ _ first (λ x y same. columns.with_columns x y same exact it.aliases)
    member_same (V.Other number) f g first s t second = limits_same Belong common _ _ refl

-- ---- a relation, with all that is below it

module _ (exact : Bool) (tables : List NamedTable) where
  abbrev by_places : Relation → Resolver
  by_places = resolved exact tables

  -- by its inputs
  abbrev placed : Relation → Path → Checked (FoundOf Id)
  placed relation path =
      got by_places (left_of path) (first_of (out-Relation relation).member) >>= λ first.
      got by_places (right_of path) (second_of (out-Relation relation).member) >>= λ second.
      limited (out-Relation relation).common (member_rule same_id exact tables (made_at path) (given first) (given second) (out-Relation relation).member)

  is_placed : (relation : Relation) (path : Path) → resolved exact tables relation path ≡ placed relation path
  unfolding resolved
  is_placed relation path =
      let layer = out-Relation relation in
      ap (λ (r : Relation). resolved exact tables r path) (sym (roll-out-Relation relation))
      ∙ ap (λ (f : Resolver). f path) (fold-roll-Relation Resolver (resolved_step exact tables) layer)
      ∙ limited_over by_places same_id exact tables (made_at path) (left_of path) (right_of path) layer.common layer.member

  -- as many places as there are relations
  abbrev HasAsMany : Relation → Type 0
  HasAsMany relation = (path : Path) → length (places relation path) ≡ (counted exact tables relation).relations

  in_as_many : (path : Path) (input : Option Relation) → IfSome input HasAsMany → length (places_in path input) ≡ input_relations exact tables input
  in_as_many path (Some input) held = held path
  in_as_many path None held = refl

  three_long : (xs ys : List Path) (path : Path) → length (xs ++ (ys ++ path ∷ [])) ≡ length xs + length ys + 1
  three_long xs ys path =
      length-append xs (ys ++ path ∷ []) ∙ ap (λ (n : ℕ). length xs + n) (length-append ys (path ∷ [])) ∙ sum_of_three (length xs) (length ys)
    where
      sum_of_three : (n m : ℕ) → n + (m + 1) ≡ n + m + 1
      sum_of_three n m = omega arith

  as_many : (relation : Relation) → HasAsMany relation
  as_many = by_inputs HasAsMany (λ relation first second path.
      ap length (places_are relation path) ∙ three_long (first_places relation path) (second_places relation path) path
      ∙ ap (λ (n : ℕ). n + length (second_places relation path) + 1) (in_as_many (0 ∷ path) (first_of (out-Relation relation).member) first)
      ∙ ap (λ (n : ℕ). input_relations exact tables (first_of (out-Relation relation).member) + n + 1) (in_as_many (1 ∷ path) (second_of (out-Relation relation).member) second)
      ∙ sym (relations_are exact tables relation))

  count_in : (path : Path) (input : Option Relation) → length (places_in path input) ≡ input_relations exact tables input
  count_in path (Some input) = as_many input path
  count_in path None = refl

  module _ (all : List Path) (once : NoTwice all) where
    abbrev Belong : ℕ → Id → Type 0
    Belong = Belongs all

    abbrev Agree : Relation → Type 0
    Agree relation = (before after : List Path) (path : Path) → all ≡ before ++ (places relation path ++ after) →
        SameAnswer Belong ((counted exact tables relation).found (behind 0 (length before))) (resolved exact tables relation path)

    input_same : (base : ℕ) (before after : List Path) (path : Path) (input : Option Relation) → IfSome input Agree → all ≡ before ++ (places_in path input ++ after) →
        base ≡ behind 0 (length before) → SameInputs Belong (input_found exact tables input base) (got by_places (λ (f : Resolver). f path) input)
    input_same base before after path (Some input) agree is at =
        as_input Belong _ _ (subst (λ (b : ℕ). SameAnswer Belong ((counted exact tables input).found b) (resolved exact tables input path)) (sym at) (agree before after path is))
    input_same base before after path None agree is at = tt

    -- where the parts of a relation's places stand
    at_first : (before xs ys after : List Path) (path : Path) → before ++ ((xs ++ (ys ++ path ∷ [])) ++ after) ≡ before ++ (xs ++ ((ys ++ path ∷ []) ++ after))
    at_first before xs ys after path = ap (λ (l : List Path). before ++ l) (append_assoc xs (ys ++ path ∷ []) after)

    at_second : (before xs ys after : List Path) (path : Path) → before ++ (xs ++ ((ys ++ path ∷ []) ++ after)) ≡ (before ++ xs) ++ (ys ++ path ∷ after)
    at_second before xs ys after path = ap (λ (l : List Path). before ++ (xs ++ l)) (append_assoc ys (path ∷ []) after) ∙ sym (append_assoc before xs (ys ++ path ∷ after))

    at_own : (before xs ys after : List Path) (path : Path) → (before ++ xs) ++ (ys ++ path ∷ after) ≡ ((before ++ xs) ++ ys) ++ path ∷ after
    at_own before xs ys after path = sym (append_assoc (before ++ xs) ys (path ∷ after))

    own_place : (before xs ys after : List Path) (path : Path) → get_or (((before ++ xs) ++ ys) ++ path ∷ after) (length before + length xs + length ys) [] ≡ path
    own_place before xs ys after path =
        ap (λ (n : ℕ). get_or (((before ++ xs) ++ ys) ++ path ∷ after) n []) (sym (length-append (before ++ xs) ys ∙ ap (λ (n : ℕ). n + length ys) (length-append before xs)))
        ∙ get_or-append_seam ((before ++ xs) ++ ys) path after []

    own_within : (before xs ys after : List Path) (path : Path) → length before + length xs + length ys < length (((before ++ xs) ++ ys) ++ path ∷ after)
    own_within before xs ys after path =
        let long : length (((before ++ xs) ++ ys) ++ path ∷ after) ≡ length before + length xs + length ys + suc (length after) =
        length-append ((before ++ xs) ++ ys) (path ∷ after) ∙ ap (λ (n : ℕ). n + suc (length after)) (length-append (before ++ xs) ys ∙ ap (λ (n : ℕ). n + length ys) (length-append before xs)) in
        omega arith

    walked_same : (relation : Relation) (base : ℕ) (path : Path) →
        DrawnTogether Belong (ids_from (behind_inputs exact tables (out-Relation relation).member base)) (made_at path) →
        SameInputs Belong (input_found exact tables (first_of (out-Relation relation).member) base) (got by_places (left_of path) (first_of (out-Relation relation).member)) →
        SameInputs Belong (input_found exact tables (second_of (out-Relation relation).member) (behind_first exact tables (out-Relation relation).member base)) (got by_places (right_of path) (second_of (out-Relation relation).member)) →
        SameAnswer Belong (walked exact tables relation base) (placed relation path)
    unfolding walked
    walked_same relation base path drawn first second =
        after_input Belong _ _ _ _ first (λ f g one. after_input Belong _ _ _ _ second (λ s t other.
        member_same Belong (tells all once) (ids_from (behind_inputs exact tables (out-Relation relation).member base)) (made_at path) drawn
        exact tables (out-Relation relation).common (out-Relation relation).member f g one s t other))

    agrees : (relation : Relation) → Agree relation
    agrees = by_inputs Agree (λ relation first second before after path is.
        let layer = out-Relation relation in
        let xs = first_places relation path in
        let ys = second_places relation path in
        let here : all ≡ before ++ (xs ++ ((ys ++ path ∷ []) ++ after)) = is ∙ ap (λ (l : List Path). before ++ (l ++ after)) (places_are relation path) ∙ at_first before xs ys after path in
        let next : all ≡ (before ++ xs) ++ (ys ++ path ∷ after) = here ∙ at_second before xs ys after path in
        let own : all ≡ ((before ++ xs) ++ ys) ++ path ∷ after = next ∙ at_own before xs ys after path in
        let base = behind 0 (length before) in
        let base_two : behind_first exact tables layer.member base ≡ behind 0 (length (before ++ xs)) =
        ap (λ (n : ℕ). behind base n) (sym (count_in (0 ∷ path) (first_of layer.member))) ∙ sym (twice_behind 0 (length before) (length xs)) ∙ ap (behind 0) (sym (length-append before xs)) in
        let base_own : behind 0 (length before + length xs + length ys) ≡ behind_inputs exact tables layer.member base =
        twice_behind 0 (length before + length xs) (length ys)
        ∙ ap (λ (n : ℕ). behind (behind 0 n) (length ys)) (sym (length-append before xs))
        ∙ ap (λ (n : ℕ). behind n (length ys)) (sym base_two)
        ∙ ap (behind (behind_first exact tables layer.member base)) (count_in (1 ∷ path) (second_of layer.member)) in
        let drawn : DrawnTogether Belong (ids_from (behind_inputs exact tables layer.member base)) (made_at path) =
        subst (λ (b : ℕ). DrawnTogether Belong (ids_from b) (made_at path)) base_own
        (draws all (length before + length xs + length ys) path
        (subst (λ (l : List Path). length before + length xs + length ys < length l) (sym own) (own_within before xs ys after path))
        (ap (λ (l : List Path). get_or l (length before + length xs + length ys) []) own ∙ own_place before xs ys after path)) in
        subst₂ (SameAnswer Belong) (sym (is_walked exact tables relation base)) (sym (is_placed relation path))
        (walked_same relation base path drawn
        (input_same base before ((ys ++ path ∷ []) ++ after) (0 ∷ path) (first_of layer.member) first here refl)
        (input_same (behind_first exact tables layer.member base) (before ++ xs) (path ∷ after) (1 ∷ path) (second_of layer.member) second next base_two)))

-- ---- a plan

pub resolved_same : (exact : Bool) (tables : List NamedTable) (relation : Relation) →
    SameAnswer (Belongs (places relation [])) ((counted exact tables relation).found 0) (resolved exact tables relation [])
resolved_same exact tables relation =
    agrees exact tables (places relation []) (no_place_twice relation []) relation [] [] [] (sym (append-nil (places relation [])))
