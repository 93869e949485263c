-- What one relation under two ids for each column is from above, at the end, and where more ids belong together.
use Rattle.std.proofs.Common.{◌≡◌, ℤ, List, [], ◌∷◌, ◌++◌, map, refl}
use Rattle.std.specs.List.{AllZip}
use Rattle.resolve_names.specs.declared.scope.ColumnOf.{ColumnOf}
use Rattle.resolve_names.specs.declared.scope.Tagged.{Tagged}
use Rattle.resolve_relations.specs.declared.found.FoundOf.{FoundOf}
use Rattle.resolve_ids.specs.Together.{SameColumn, SameFound, SameTagged, shown_column, with_plan_id}
use Rattle.resolve_ids.specs.TogetherLaws.{SameIsPassedOn, SameWhereMoreBelong}

zip-push : {A B : Type 0} (R : A → B → Type 0) (xs : List A) (ys : List B) (x : A) (y : B) → AllZip R xs ys → R x y →
    AllZip R (xs ++ x ∷ []) (ys ++ y ∷ [])
zip-push R [] [] x y all here = (here, tt)
zip-push R [] (b ∷ ys) x y all here = absurd all
zip-push R (a ∷ xs) [] x y all here = absurd all
zip-push R (a ∷ xs) (b ∷ ys) x y all here = (all.0, zip-push R xs ys x y all.1 here)

zip-wider : {A B : Type 0} (R S : A → B → Type 0) → ((a : A) (b : B) → R a b → S a b) → (xs : List A) (ys : List B) → AllZip R xs ys →
    AllZip S xs ys
zip-wider R S wider [] [] all = tt
zip-wider R S wider [] (b ∷ ys) all = absurd all
zip-wider R S wider (a ∷ xs) [] all = absurd all
zip-wider R S wider (a ∷ xs) (b ∷ ys) all = (wider a b all.0, zip-wider R S wider xs ys all.1)

module _ {I J : Type 0} (Belong : I → J → Type 0) where
  tagged_same : (found : FoundOf I) (other : FoundOf J) → SameFound Belong found other →
      (plan : ℤ) → SameFound Belong (with_plan_id found plan) (with_plan_id other plan)
  tagged_same found other same plan = record {
    node = same.node;
    columns = same.columns;
    relations = zip-push (SameTagged Belong) found.relations other.relations
        (record { plan_id = plan; columns = found.columns }) (record { plan_id = plan; columns = other.columns })
        same.relations (record { plan_id = refl; columns = same.columns });
  }

  columns_shown : (columns : List (ColumnOf I)) (others : List (ColumnOf J)) → AllZip (SameColumn Belong) columns others →
      map shown_column others ≡ map shown_column columns
  columns_shown [] [] all = refl
  columns_shown [] (other ∷ others) all = absurd all
  columns_shown (column ∷ columns) [] all = absurd all
  columns_shown (column ∷ columns) (other ∷ others) all =
      λ i. record { name = all.0.name i; kind = all.0.kind i; nullable = all.0.nullable i } ∷ columns_shown columns others all.1 i

  pub passed_on : SameIsPassedOn Belong
  passed_on = record {
    tagged = tagged_same;
    node = λ found other same. same.node;
    schema = λ found other same. columns_shown found.columns other.columns same.columns;
  }

module _ {I J : Type 0} (Belong More : I → J → Type 0) (wider : (a : I) (b : J) → Belong a b → More a b) where
  column_wider : (column : ColumnOf I) (other : ColumnOf J) → SameColumn Belong column other → SameColumn More column other
  column_wider column other same = record {
    qualifier = same.qualifier;
    name = same.name;
    id = wider column.id other.id same.id;
    kind = same.kind;
    nullable = same.nullable;
  }

  tagged_wider : (relation : Tagged I) (other : Tagged J) → SameTagged Belong relation other → SameTagged More relation other
  tagged_wider relation other same = record {
    plan_id = same.plan_id;
    columns = zip-wider (SameColumn Belong) (SameColumn More) column_wider relation.columns other.columns same.columns;
  }

  found_wider : (found : FoundOf I) (other : FoundOf J) → SameFound Belong found other → SameFound More found other
  found_wider found other same = record {
    node = same.node;
    columns = zip-wider (SameColumn Belong) (SameColumn More) column_wider found.columns other.columns same.columns;
    relations = zip-wider (SameTagged Belong) (SameTagged More) tagged_wider found.relations other.relations same.relations;
  }

pub more_belong : {I J : Type 0} (Belong More : I → J → Type 0) → SameWhereMoreBelong Belong More
more_belong Belong More wider found other same = found_wider Belong More wider found other same
