-- The batch that is written is read as such.
use Rattle.std.proofs.Common.{◌≡◌, ℕ, zero, suc, ◌+◌, ◌-◌, ◌^◌, ◌<◌, List, [], ◌∷◌, ◌++◌, length, Some, Ok, arith, ap, sym, subst}
use Rattle.std.specs.Prelude.{pos, slice_get}
use Rattle.std.specs.Int.{next_multiple_of}
use Rattle.flat_tables.specs.declared.object.FlatPair.{FlatPair}
use Rattle.flat_tables.specs.Views.{TableView, VectorView}
use Rattle.flat_tables.specs.Reading.{vector_field, item_bytes}
use Rattle.flat_tables.specs.Layout.{i64_bytes, padded, zeros}
use Rattle.flat_tables.specs.Found.{PairsRead}
use Rattle.arrow_ipc.specs.Columns.{body_of, spans_from}
use Rattle.arrow_ipc.specs.Holds.{PairIs}
use Rattle.flat_tables.proofs.Standing.{Stands, first, second}
use Rattle.arrow_ipc.proofs.Standing.{whole, n64_there}

second_number : (buffer : List ℕ) (a b : ℕ) → Stands buffer 0 (i64_bytes (pos a) ++ i64_bytes (pos b)) → Stands buffer 8 (i64_bytes (pos b))
unfolding i64_bytes
second_number buffer a b s = second buffer 0 (i64_bytes (pos a)) (i64_bytes (pos b)) s

-- an item of a vector of pairs is read
pub pair_is : (t : TableView) (slot : ℕ) (v : VectorView) (pairs : List FlatPair) (place a b : ℕ) → vector_field t slot 16 ≡ Ok (Some v) → PairsRead v pairs → slice_get pairs place ≡ Some (record { first = pos a; second = pos b })
    → a < 2 ^ 63 → b < 2 ^ 63 → PairIs (vector_field t slot 16) place a b
pair_is t slot v pairs place a b e r g fits_a fits_b =
    let bytes : item_bytes v place ≡ i64_bytes (pos a) ++ i64_bytes (pos b) = r.each place (record { first = pos a; second = pos b }) g in
    let there : Stands (item_bytes v place) 0 (i64_bytes (pos a) ++ i64_bytes (pos b)) = subst (λ (xs : List ℕ). Stands xs 0 (i64_bytes (pos a) ++ i64_bytes (pos b))) (sym bytes) (whole (i64_bytes (pos a) ++ i64_bytes (pos b))) in (
      v,
      e,
      subst (λ (n : ℕ). place < n) (sym r.count) (below pairs place (record { first = pos a; second = pos b }) g),
      n64_there (item_bytes v place) 0 a fits_a (first (item_bytes v place) 0 (i64_bytes (pos a)) (i64_bytes (pos b)) there),
      n64_there (item_bytes v place) 8 b fits_b (second_number (item_bytes v place) a b there),
    )
  where
    below : {X : Type 0} (xs : List X) (i : ℕ) (x : X) → slice_get xs i ≡ Some x → i < length xs
    below [] i x e = absurd (cc)
    below (y ∷ ys) zero x e = omega arith
    below (y ∷ ys) (suc i) x e = omega (arith, below ys i x e)

-- where a buffer stands in the body, and what its span says
pub record Placed (at : ℕ) (buffers : List (List ℕ)) (body : List ℕ) (number : ℕ) (buffer : List ℕ) : Type 0 where
  pub offset : ℕ
  pub span : slice_get (spans_from at buffers) number ≡ Some (record { first = pos offset; second = pos (length buffer) })
  pub stands : Stands body offset buffer

pub placed : (at : ℕ) (buffers : List (List ℕ)) (body : List ℕ) (number : ℕ) (buffer : List ℕ) → Stands body at (body_of buffers) → slice_get buffers number ≡ Some buffer → Placed at buffers body number buffer
placed at [] body number buffer s e = absurd (cc)
placed at (x ∷ xs) body zero buffer s e =
    let same : x ≡ buffer = cc in
    record {
      offset = at;
      span = ap (λ (b : List ℕ). Some (record { first = pos at; second = pos (length b) })) same;
      stands = subst (λ (b : List ℕ). Stands body at b) same (first body at x (zeros (next_multiple_of (length x) 8 - length x)) (first body at (padded x) (body_of xs) s));
    }
placed at (x ∷ xs) body (suc number) buffer s e =
    let next = placed (at + length (padded x)) xs body number buffer (second body at (padded x) (body_of xs) s) e in
    record { offset = next.offset; span = next.span; stands = next.stands }
