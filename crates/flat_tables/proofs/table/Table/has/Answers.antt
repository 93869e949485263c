use Rattle.std.proofs.Common.{◌≡◌, ℕ, Some, None, Ok, Err, Option, List, refl, sym}
use Rattle.std.specs.Prelude.{IsTrue, is_some, true, false, ◌↔◌}
use Rattle.flat_tables.specs.declared.fault.FlatFault.{FlatFault}
use Rattle.flat_tables.specs.Reading.{field_at}
use Rattle.flat_tables.specs.Fields.{FieldAt}
use Rattle.flat_tables.proofs.FieldLemmas.{finds, field_inside}
use Rattle.flat_tables.proofs.table.Table.has.Goals as goal

-- a look-up that found a place, or that the field is absent
found : (b : List ℕ) (t s : ℕ) (o : Option ℕ) → Ok o ≡ field_at b t s → IsTrue (is_some o) ↔ ((place : ℕ) × FieldAt b t s (Some place))
found b t s (Some p) e = ((λ _. (p, (finds b t s (Some p)).0 (sym e))), λ _. refl)
found b t s None e = ((λ h. absurd (let f : false ≡ true = h in cc)), λ h. absurd (let f = field_inside b t s (Some h.0) h.1 in cc))

-- a look-up that failed
failed : (b : List ℕ) (t s : ℕ) (x : FlatFault) → Err x ≡ field_at b t s → IsTrue false ↔ ((place : ℕ) × FieldAt b t s (Some place))
failed b t s x e = ((λ h. absurd (let f : false ≡ true = h in cc)), λ h. absurd (let f = field_inside b t s (Some h.0) h.1 in cc))

pub returns-in-Ok : goal.returns-in-Ok
returns-in-Ok c = rw c.is_some.ensures (found _ _ _ c.in-Ok.place c.in-Ok.ensures)

pub returns-in-Err : goal.returns-in-Err
returns-in-Err c = failed _ _ _ _ c.in-Err.ensures
