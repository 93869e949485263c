-- Which rows match in a join, and how often rows stand in it.
use Rattle.std.proofs.Common.{◌≡◌, ◌+◌, ◌*◌, ℕ, Bool, true, false, not, ◌&&◌, cond, List, [], ◌∷◌, ◌++◌, map, filter, length, refl, sym, ap, ◌∙◌, subst, arith}
use Rattle.std.specs.Cmp.{both_ways}
use Rattle.std.specs.List.{AllByRecursion}
use Rattle.std.proofs.lemmas.Bool.{and_parts, and_from}
use Rattle.std.proofs.lemmas.List.Elements.{recursion_from_All}
use Rattle.cn_types.specs.declared.row.Row.{Row}
use Rattle.cn_types.specs.declared.value.Value.{Value}
use Rattle.cn_types.specs.declared.value.Value.TheVariants.{Null, Boolean, Integer, Long, Text, Date}
use Rattle.cn_types.specs.Order.{count, row_eq}
use Rattle.plan_model.specs.declared.node.JoinKind.{JoinKind}
use Rattle.plan_model.specs.declared.node.Node.TheVariants as V
use Rattle.plan_model.specs.Allows.{Allows}
use Rattle.plan_model.specs.JoinCounts.{JoinsGoByConditions, HasBothSides, copies_as_pair, copies_left_alone, copies_right_alone, copies_of_both, JoinsCountTheirRows}
use Rattle.plan_model.specs.Joins.{Joining, beside, pairs, has_right, has_left, left_alone, right_alone, joined}
use Rattle.plan_model.specs.Outcomes.{Allowed}
use Rattle.plan_model.specs.Truth.{is_true}
use Rattle.plan_model.specs.Val.{val}
use Rattle.plan_model.proofs.AllowsFacts.{Allows-Join}
use Rattle.plan_model.proofs.JoinFacts.{same_left, same_right, count-beside, count-other}
use Rattle.plan_model.proofs.Multisets.{AllByRecursion-filter, copies-cons, count_of_rest}
use Rattle.plan_model.proofs.RowCounts.{row_exact, count-filter, count-append}

-- ---- what a join goes by

pub true-is : (v : Value) → is_true v ≡ true → v ≡ Boolean true
true-is (Boolean b) e = ap Boolean e
true-is Null e = cc
true-is (Integer n) e = cc
true-is (Long n) e = cc
true-is (Text t) e = cc
true-is (Date d) e = cc

pub joins_go_by_conditions : JoinsGoByConditions
joins_go_by_conditions = record {
  with_condition = λ condition left right a b. (true-is (val condition (beside a b)), λ e. ap is_true e);
  without = λ left right a b. refl;
  left_nulls = λ condition left right. refl;
  right_nulls = λ condition left right. refl;
  cross = λ left right condition outcome.
      let same : Allows (V.Join left right JoinKind.Cross condition) ≡ Allows (V.Join left right JoinKind.Inner condition) =
      Allows-Join left right JoinKind.Cross condition ∙ sym (Allows-Join left right JoinKind.Inner condition) in
      ((λ h. subst (λ (P : Allowed). P outcome) same h), λ h. subst (λ (P : Allowed). P outcome) (sym same) h);
}

-- ---- how often rows stand in a join

no_copies : (b : Bool) → ◌≡◌ {A = ℕ} 0 (cond b 0 0)
no_copies true = refl
no_copies false = refl

-- the copies of a pair among those of one left row
pair_of_one : (joining : Joining) (b : List Row) (x l r : Row) (c : Bool) → length x.0 ≡ length l.0 → row_eq l x ≡ c
    → count (map (beside x) (filter (joining.matching x) b)) (beside l r) ≡ cond c (cond (joining.matching l r) (count b r) 0) 0
pair_of_one joining b x l r true w e =
    ap (λ (z : Row). count (map (beside z) (filter (joining.matching z) b)) (beside l r)) (sym ((row_exact l x).0 e))
    ∙ count-beside l r (filter (joining.matching l) b)
    ∙ count-filter (joining.matching l) b r
pair_of_one joining b x l r false w e = count-other x l r (filter (joining.matching x) b) w e

one_more : (c m : Bool) (k n : ℕ) → cond c (cond m n 0) 0 + cond m (k * n) 0 ≡ cond m ((cond c 1 0 + k) * n) 0
one_more true true k n = omega arith
one_more true false k n = refl
one_more false true k n = omega arith
one_more false false k n = refl

none_of_pair : (m : Bool) (n : ℕ) → ◌≡◌ {A = ℕ} 0 (cond m (0 * n) 0)
none_of_pair true n = omega arith
none_of_pair false n = refl

count-pair : (joining : Joining) (a b : List Row) (l r : Row) → AllByRecursion (λ row. length row.0 ≡ length l.0) a → count (pairs joining a b) (beside l r) ≡ cond (joining.matching l r) (count a l * count b r) 0
count-pair joining [] b l r all = none_of_pair (joining.matching l r) (count b r)
count-pair joining (x ∷ a) b l r all =
    count-append (map (beside x) (filter (joining.matching x) b)) (pairs joining a b) (beside l r)
    ∙ ap (λ n. n + count (pairs joining a b) (beside l r)) (pair_of_one joining b x l r (row_eq l x) all.0 refl)
    ∙ ap (λ n. cond (row_eq l x) (cond (joining.matching l r) (count b r) 0) 0 + n) (count-pair joining a b l r all.1)
    ∙ one_more (row_eq l x) (joining.matching l r) (count a l) (count b r)
    ∙ ap (λ n. cond (joining.matching l r) (n * count b r) 0) (sym (copies-cons row_eq row_exact x a l))

-- two rows side by side are the same where both are
beside_eq : (l r x n : Row) → length x.0 ≡ length l.0 → row_eq (beside l r) (beside x n) ≡ (row_eq l x && row_eq r n)
beside_eq l r x n w = both_ways (row_eq (beside l r) (beside x n)) (row_eq l x && row_eq r n)
    (λ e.
    let same = (row_exact (beside l r) (beside x n)).0 e in
    let left = same_left x n l r w same in
    and_from (row_eq l x) (row_eq r n) ((row_exact l x).1 left) ((row_exact r n).1 (same_right l r n (same ∙ ap (λ (z : Row). beside z n) (sym left)))))
    (λ e.
    let parts = and_parts (row_eq l x) (row_eq r n) e in
    (row_exact (beside l r) (beside x n)).1 (ap (λ (z : Row). beside z r) ((row_exact l x).0 parts.0) ∙ ap (beside x) ((row_exact r n).0 parts.1)))

left_more : (p q : Bool) (k : ℕ) → cond (p && q) 1 0 + cond q k 0 ≡ cond q (cond p 1 0 + k) 0
left_more true true k = refl
left_more true false k = refl
left_more false true k = refl
left_more false false k = refl

count-beside_nulls : (n l r : Row) (rows : List Row) → AllByRecursion (λ row. length row.0 ≡ length l.0) rows → count (map (λ x. beside x n) rows) (beside l r) ≡ cond (row_eq r n) (count rows l) 0
count-beside_nulls n l r [] all = no_copies (row_eq r n)
count-beside_nulls n l r (x ∷ rows) all =
    count_of_rest row_eq row_exact (beside x n) (map (λ y. beside y n) rows) (beside l r) (row_eq l x && row_eq r n) (beside_eq l r x n all.0)
    ∙ ap (λ k. cond (row_eq l x && row_eq r n) 1 0 + k) (count-beside_nulls n l r rows all.1)
    ∙ left_more (row_eq l x) (row_eq r n) (count rows l)
    ∙ ap (λ k. cond (row_eq r n) k 0) (sym (copies-cons row_eq row_exact x rows l))

both_tests : (p q : Bool) (k : ℕ) → cond p (cond q k 0) 0 ≡ cond (p && q) k 0
both_tests true q k = refl
both_tests false q k = refl

count-left_alone : (joining : Joining) (a b : List Row) (l r : Row) → AllByRecursion (λ row. length row.0 ≡ length l.0) a → count (left_alone joining a b) (beside l r) ≡ copies_left_alone joining a b l r
count-left_alone joining a b l r all =
    count-beside_nulls joining.right_nulls l r (filter (λ left. not (has_right joining b left)) a) (AllByRecursion-filter (λ row. length row.0 ≡ length l.0) (λ left. not (has_right joining b left)) a all)
    ∙ ap (λ k. cond (row_eq r joining.right_nulls) k 0) (count-filter (λ left. not (has_right joining b left)) a l)
    ∙ both_tests (row_eq r joining.right_nulls) (not (has_right joining b l)) (count a l)

count-nulls_beside : (n l r : Row) (rows : List Row) (c : Bool) → length n.0 ≡ length l.0 → row_eq l n ≡ c → count (map (beside n) rows) (beside l r) ≡ cond c (count rows r) 0
count-nulls_beside n l r rows true w e = ap (λ (z : Row). count (map (beside z) rows) (beside l r)) (sym ((row_exact l n).0 e)) ∙ count-beside l r rows
count-nulls_beside n l r rows false w e = count-other n l r rows w e

count-right_alone : (joining : Joining) (a b : List Row) (l r : Row) → length joining.left_nulls.0 ≡ length l.0 → count (right_alone joining a b) (beside l r) ≡ copies_right_alone joining a b l r
count-right_alone joining a b l r w =
    count-nulls_beside joining.left_nulls l r (filter (λ right. not (has_left joining a right)) b) (row_eq l joining.left_nulls) w refl
    ∙ ap (λ k. cond (row_eq l joining.left_nulls) k 0) (count-filter (λ right. not (has_left joining a right)) b r)
    ∙ both_tests (row_eq l joining.left_nulls) (not (has_left joining a r)) (count b r)

module _ (joining : Joining) (a b : List Row) (l r : Row) (widths : AllByRecursion (λ row. length row.0 ≡ length l.0) a) (nulls : length joining.left_nulls.0 ≡ length l.0) where
  pair_copies : count (pairs joining a b) (beside l r) ≡ copies_as_pair joining a b l r
  pair_copies = count-pair joining a b l r widths

  left_copies : count (left_alone joining a b) (beside l r) ≡ copies_left_alone joining a b l r
  left_copies = count-left_alone joining a b l r widths

  right_copies : count (right_alone joining a b) (beside l r) ≡ copies_right_alone joining a b l r
  right_copies = count-right_alone joining a b l r nulls

  count-joined : (kind : JoinKind) → HasBothSides kind → count (joined kind joining a b) (beside l r) ≡ copies_of_both kind joining a b l r
  count-joined JoinKind.Inner h = pair_copies
  count-joined JoinKind.Cross h = pair_copies
  count-joined JoinKind.Left h = count-append (pairs joining a b) (left_alone joining a b) (beside l r) ∙ (λ i. pair_copies i + left_copies i)
  count-joined JoinKind.Right h = count-append (pairs joining a b) (right_alone joining a b) (beside l r) ∙ (λ i. pair_copies i + right_copies i)
  count-joined JoinKind.Full h =
      count-append (pairs joining a b ++ left_alone joining a b) (right_alone joining a b) (beside l r)
      ∙ ap (λ k. k + count (right_alone joining a b) (beside l r)) (count-append (pairs joining a b) (left_alone joining a b) (beside l r))
      ∙ (λ i. pair_copies i + left_copies i + right_copies i)
  count-joined JoinKind.Semi h = absurd h
  count-joined JoinKind.Anti h = absurd h

turned : (b : Bool) (k : ℕ) → cond (not b) k 0 ≡ cond b 0 k
turned true k = refl
turned false k = refl

pub joins_count_their_rows : JoinsCountTheirRows
joins_count_their_rows = record {
  both_sides = λ kind joining a b rows left right both widths nulls h.
      h (beside left right) ∙ count-joined joining a b left right (recursion_from_All (λ row. length row.0 ≡ length left.0) a widths) nulls kind both;
  semi = λ joining a b rows left h. h left ∙ count-filter (has_right joining b) a left;
  anti = λ joining a b rows left h. h left ∙ count-filter (λ row. not (has_right joining b row)) a left ∙ turned (has_right joining b left) (count a left);
}
