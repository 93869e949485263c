-- What projections, filters, slices, set operations and sorts hold of their rows.
use Rattle.std.proofs.Common.{◌≡◌, ◌≢◌, ◌<◌, ◌≤◌, ◌+◌, min, ◌==◌, ℕ, zero, suc, Bool, true, false, cond, if◌then◌else◌, None, List, [], ◌∷◌, take, drop, slice_get, ◌⊎◌, refl, sym, ap, ◌∙◌, subst, inl, inr, arith}
use Rattle.std.specs.declared.cmp.Ordering.{Ordering}
use Rattle.std.specs.declared.cmp.Ordering.TheVariants.{Less, Equal, Greater}
use Rattle.std.specs.Ordering.{bool_cmp, ordering_then}
use Rattle.std.proofs.lemmas.Bool.{eqb-true}
use Rattle.std.proofs.lemmas.List.Elements.{filter-append}
use Rattle.std.proofs.lemmas.Option.{slice_get-map}
use Rattle.cn_types.specs.declared.row.Row.{Row}
use Rattle.cn_types.specs.declared.value.Value.{Value}
use Rattle.cn_types.specs.declared.value.Value.TheVariants.{Null, Boolean, Integer, Long, Text, Date}
use Rattle.cn_types.specs.Order.{count}
use Rattle.plan_model.specs.declared.node.SortKey.{SortKey}
use Rattle.plan_model.specs.SelectionLaws.{SelectionsKeepPlaces, SetOperationsHoldTheirRows, SortsGoByTheFirstKey}
use Rattle.plan_model.specs.Selections.{image}
use Rattle.plan_model.specs.Sorting.{nulls_order, values_order, key_order, rows_order}
use Rattle.plan_model.specs.Truth.{is_true, is_present}
use Rattle.plan_model.specs.Val.{val}
use Rattle.plan_model.proofs.CallFacts.{present-is}
use Rattle.plan_model.proofs.RowCounts.{count-filter}

-- ---- filters and slices

not-true_value : (v : Value) → v ≢ Boolean true → is_true v ≡ false
not-true_value Null h = refl
not-true_value (Boolean true) h = absurd (h refl)
not-true_value (Boolean false) h = refl
not-true_value (Integer n) h = refl
not-true_value (Long n) h = refl
not-true_value (Text t) h = refl
not-true_value (Date d) h = refl

skipped : (skip : ℕ) (rows : List Row) (place : ℕ) → slice_get (drop skip rows) place ≡ slice_get rows (skip + place)
skipped zero rows place = ap (slice_get rows) (omega arith)
skipped (suc skip) [] place = refl
skipped (suc skip) (row ∷ rows) place =
    let e : suc skip + place ≡ suc (skip + place) = omega arith in
    skipped skip rows place ∙ ap (slice_get (row ∷ rows)) (sym e)

taken : (most : ℕ) (rows : List Row) (place : ℕ) → place < most → slice_get (take most rows) place ≡ slice_get rows place
taken zero rows place h = absurd (omega arith)
taken (suc most) [] place h = refl
taken (suc most) (row ∷ rows) zero h = refl
taken (suc most) (row ∷ rows) (suc place) h = taken most rows place (omega arith)

not_taken : (most : ℕ) (rows : List Row) (place : ℕ) → most ≤ place → slice_get (take most rows) place ≡ None
not_taken zero rows place h = refl
not_taken (suc most) [] place h = refl
not_taken (suc most) (row ∷ rows) zero h = absurd (omega arith)
not_taken (suc most) (row ∷ rows) (suc place) h = not_taken most rows place (omega arith)

pub selections_keep_places : SelectionsKeepPlaces
selections_keep_places = record {
  filtered = λ condition rows row e. count-filter (λ r. is_true (val condition r)) rows row ∙ ap (λ v. cond (is_true v) (count rows row) 0) e;
  left_out = λ condition rows row h. count-filter (λ r. is_true (val condition r)) rows row ∙ ap (λ (b : Bool). cond b (count rows row) 0) (not-true_value (val condition row) h);
  in_order = λ condition xs ys. filter-append (λ r. is_true (val condition r)) xs ys;
  projected_at = λ items rows place. slice_get-map (image items) rows place;
  image_at = λ items row place. slice_get-map (λ item. val item row) items place;
  skipped_at = λ skip rows place. skipped skip rows place;
  taken_at = λ skip most rows place h. taken most (drop skip rows) place h ∙ skipped skip rows place;
  not_taken = λ skip most rows place h. not_taken most (drop skip rows) place h;
}

-- ---- set operations

in_either : (m n : ℕ) → 0 < min (m + n) 1 → (0 < m) ⊎ (0 < n)
in_either zero n h = inr (omega arith)
in_either (suc m) n h = inl (omega arith)

either_in : (m n : ℕ) → (0 < m) ⊎ (0 < n) → 0 < min (m + n) 1
either_in m n (inl h) = omega arith
either_in m n (inr h) = omega arith

alone_of : (m n : ℕ) (b : Bool) → (n == 0) ≡ b → 0 < (if b then min m 1 else 0) → (0 < m) × (n ≡ 0)
alone_of m n true e h = (omega arith, eqb-true n 0 e)
alone_of m n false e h = absurd (omega arith)

alone_in : (m n : ℕ) → (0 < m) × (n ≡ 0) → 0 < (if n == 0 then min m 1 else 0)
alone_in m n h =
    let some : 0 < m = h.0 in
    subst (λ k. 0 < (if k == 0 then min m 1 else 0)) (sym h.1) (omega arith)

pub set_operations_hold_their_rows : SetOperationsHoldTheirRows
set_operations_hold_their_rows = record {
  union = λ a b rows h row. (
    (λ more. in_either (count a row) (count b row) (subst (λ n. 0 < n) (h row) more)),
    λ some. subst (λ n. 0 < n) (sym (h row)) (either_in (count a row) (count b row) some),
  );
  intersect = λ a b rows h row. (
    (λ more. let both : 0 < min (min (count a row) (count b row)) 1 = subst (λ n. 0 < n) (h row) more in (omega arith, omega arith)),
    λ some. let left : 0 < count a row = some.0 in let right : 0 < count b row = some.1 in subst (λ n. 0 < n) (sym (h row)) (omega arith),
  );
  except = λ a b rows h row. (
    (λ more. alone_of (count a row) (count b row) (count b row == 0) refl (subst (λ n. 0 < n) (h row) more)),
    λ some. subst (λ n. 0 < n) (sym (h row)) (alone_in (count a row) (count b row) some),
  );
  intersect_all = λ a b rows h row. h row;
  except_all = λ a b rows h row. omega (arith, h row);
}

-- ---- sorts

then-first : (o p : Ordering) → o ≢ Equal → ordering_then o p ≡ o
then-first Less p h = refl
then-first Equal p h = absurd (h refl)
then-first Greater p h = refl

-- of two values that both are null, or both aren't, no null stands first
nulls-alike : (last : Bool) (a b : Value) (c : Bool) → is_present a ≡ c → is_present b ≡ c → nulls_order last a b ≡ Equal
nulls-alike true a b true p q = λ i. bool_cmp (q i) (p i)
nulls-alike true a b false p q = λ i. bool_cmp (q i) (p i)
nulls-alike false a b true p q = λ i. bool_cmp (p i) (q i)
nulls-alike false a b false p q = λ i. bool_cmp (p i) (q i)

both_present : (key : SortKey) (x y : Row) → val key.expr x ≢ Null → val key.expr y ≢ Null → key_order key x y ≡ values_order key.descending (val key.expr x) (val key.expr y)
both_present key x y p q =
    ap (λ (o : Ordering). ordering_then o (values_order key.descending (val key.expr x) (val key.expr y)))
    (nulls-alike key.nulls_last (val key.expr x) (val key.expr y) true (present-is (val key.expr x) p) (present-is (val key.expr y) q))

-- where one of two values is null, its key alone says how they stand
abbrev null_first : Bool → Ordering
null_first last = if last then Greater else Less

abbrev null_second : Bool → Ordering
null_second last = if last then Less else Greater

nulls-first : (last : Bool) (a b : Value) → is_present a ≡ false → is_present b ≡ true → nulls_order last a b ≡ null_first last
nulls-first true a b p q = λ i. bool_cmp (q i) (p i)
nulls-first false a b p q = λ i. bool_cmp (p i) (q i)

nulls-second : (last : Bool) (a b : Value) → is_present a ≡ true → is_present b ≡ false → nulls_order last a b ≡ null_second last
nulls-second true a b p q = λ i. bool_cmp (q i) (p i)
nulls-second false a b p q = λ i. bool_cmp (p i) (q i)

decided_first : (last : Bool) (p : Ordering) → ordering_then (null_first last) p ≡ null_first last
decided_first true p = refl
decided_first false p = refl

decided_second : (last : Bool) (p : Ordering) → ordering_then (null_second last) p ≡ null_second last
decided_second true p = refl
decided_second false p = refl

-- a null stands where its key says, and the other value on its other side
null_stands : (key : SortKey) (x y : Row) (last : Bool) → key.nulls_last ≡ last → val key.expr x ≡ Null → val key.expr y ≢ Null → (key_order key x y ≡ null_first last) × (key_order key y x ≡ null_second last)
null_stands key x y last e n p =
    let vx = val key.expr x in
    let vy = val key.expr y in
    let absent : is_present vx ≡ false = ap is_present n in
    let there : is_present vy ≡ true = present-is vy p in (
      ap (λ (o : Ordering). ordering_then o (values_order key.descending vx vy)) (nulls-first key.nulls_last vx vy absent there ∙ ap null_first e) ∙ decided_first last (values_order key.descending vx vy),
      ap (λ (o : Ordering). ordering_then o (values_order key.descending vy vx)) (nulls-second key.nulls_last vy vx there absent ∙ ap null_second e) ∙ decided_second last (values_order key.descending vy vx),
    )

values-null : (descending : Bool) → values_order descending Null Null ≡ Equal
values-null true = refl
values-null false = refl

both_null : (key : SortKey) (x y : Row) → val key.expr x ≡ Null → val key.expr y ≡ Null → key_order key x y ≡ Equal
both_null key x y m n =
    ap (λ (o : Ordering). ordering_then o (values_order key.descending (val key.expr x) (val key.expr y)))
    (nulls-alike key.nulls_last (val key.expr x) (val key.expr y) false (ap is_present m) (ap is_present n))
    ∙ (λ i. values_order key.descending (m i) (n i))
    ∙ values-null key.descending

pub sorts_go_by_the_first_key : SortsGoByTheFirstKey
sorts_go_by_the_first_key = record {
  first_key = λ key keys x y h. then-first (key_order key x y) (rows_order keys x y) h;
  next_keys = λ key keys x y e. ap (λ (o : Ordering). ordering_then o (rows_order keys x y)) e;
  no_key = λ x y. refl;
  ascending = λ key x y e p q. both_present key x y p q ∙ ap (λ (d : Bool). values_order d (val key.expr x) (val key.expr y)) e;
  descending = λ key x y e p q. both_present key x y p q ∙ ap (λ (d : Bool). values_order d (val key.expr x) (val key.expr y)) e;
  null_before = λ key x y e n p. null_stands key x y false e n p;
  null_behind = λ key x y e n p. null_stands key x y true e n p;
  both_null = both_null;
}
