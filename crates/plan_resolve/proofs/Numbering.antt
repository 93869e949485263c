-- Numbers and places tell the same columns apart: a number of a relation's room belongs to the relation's place with the column's number.
use Rattle.std.proofs.Common.{◌≡◌, ℕ, ◌+◌, ◌*◌, ◌<◌, Bool, true, List, [], length, refl, sym, ap, ◌∙◌, arith}
use Rattle.std.proofs.lemmas.Bool.{and_parts}
use Rattle.std.proofs.lemmas.Bool.Decides.{Decides-eqb}
use Rattle.std.proofs.lemmas.Slice.Eq.{bytes_eq-Decides}
use Rattle.std.specs.Bool.{Decides, one_answer}
use Rattle.std.specs.Prelude.{◌&&◌, bytes_eq, get_or, nat_eq}
use Rattle.resolve_relations.specs.Columns.{ids_from}
use Rattle.resolve_ids.specs.Together.{DrawnTogether, TellsTogether}
use Rattle.plan_resolve.specs.Drawing.{behind}
use Rattle.plan_resolve.specs.Walk.{Id, Path, made_at, same_id}
use Rattle.plan_resolve.proofs.Distinct.{NoTwice, same_place}

-- the columns of two relations with room for 1,000 each have one number only where they are one
split_same : (p q n m : ℕ) → n < 1000 → m < 1000 → p * 1000 + n ≡ q * 1000 + m → (p ≡ q) × (n ≡ m)
split_same p q n m few less is = (omega arith, omega arith)

both_true : (x y : Bool) → x ≡ true → y ≡ true → (x && y) ≡ true
both_true x y one other = rw (one, other) refl

abbrev IsOne : Id → Id → Type 0
IsOne c d = (c.relation ≡ d.relation) × (c.number ≡ d.number)

ids_decide : (c d : Id) → Decides (same_id c d) (IsOne c d)
ids_decide c d = (
  λ e. let parts = and_parts (bytes_eq c.relation d.relation) (nat_eq c.number d.number) e in
      ((bytes_eq-Decides c.relation d.relation).0 parts.0, (Decides-eqb c.number d.number).0 parts.1),
  λ one. both_true (bytes_eq c.relation d.relation) (nat_eq c.number d.number)
      ((bytes_eq-Decides c.relation d.relation).1 one.0) ((Decides-eqb c.number d.number).1 one.1),
)

module _ (all : List Path) where
  pub record Belongs (number : ℕ) (id : Id) : Type 0 where
    pub place : ℕ
    pub within : place < length all
    pub path : get_or all place [] ≡ id.relation
    pub few : id.number < 1000
    pub is : number ≡ place * 1000 + id.number

  numbers_decide : NoTwice all → (a b : ℕ) (c d : Id) → Belongs a c → Belongs b d → Decides (nat_eq a b) (IsOne c d)
  numbers_decide once a b c d one other = (
    λ e. let parts = split_same one.place other.place c.number d.number one.few other.few (sym one.is ∙ (Decides-eqb a b).0 e ∙ other.is) in
        (sym one.path ∙ ap (λ (k : ℕ). get_or all k []) parts.0 ∙ other.path, parts.1),
    λ same. let places = same_place all one.place other.place [] once one.within other.within (one.path ∙ same.0 ∙ sym other.path) in
        (Decides-eqb a b).1 (one.is ∙ ap (λ (k : ℕ). k * 1000 + c.number) places ∙ ap (λ (k : ℕ). other.place * 1000 + k) same.1 ∙ sym other.is),
  )

  pub tells : NoTwice all → TellsTogether Belongs nat_eq same_id
  tells once = record { told = λ a b c d one other. one_answer (same_id c d) (nat_eq a b) (ids_decide c d) (numbers_decide once a b c d one other) }

  room_is : (place number : ℕ) → ids_from (behind 0 place) number ≡ place * 1000 + number
  room_is place number = omega arith

  pub draws : (place : ℕ) (path : Path) → place < length all → get_or all place [] ≡ path →
      DrawnTogether Belongs (ids_from (behind 0 place)) (made_at path)
  draws place path within is = record { drawn = λ number few. record { place = place; within = within; path = is; few = few; is = room_is place number } }
