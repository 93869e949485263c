-- Whether a table has a slot.
use Rattle.std.proofs.Common.{◌≡◌, ℕ, true, Option, None, Some, Result, Ok, Err, refl}
use Rattle.std.specs.Prelude.{is_some, option_map}
use Rattle.std.specs.Result.{result_ok}
use Rattle.flat_tables.specs.declared.fault.FlatFault.{FlatFault}
use Rattle.flat_tables.specs.Views.{TableView}
use Rattle.flat_tables.specs.Reading.{at_field, u8_at, field_at, u8_field}
use Rattle.arrow_read.specs.Tables.{presence}

pub there : (t : TableView) (slot place : ℕ) → field_at t.buffer t.place slot ≡ Ok (Some place) → presence t slot ≡ Some true
unfolding presence
there t slot place e = rw e refl

pub outside : (t : TableView) (slot : ℕ) → ((place : ℕ) → field_at t.buffer t.place slot ≡ Ok (Some place) → ⊥) → (u8_field t slot ≡ Ok None → ⊥) → presence t slot ≡ None
unfolding presence
outside t slot absent read = by_field (field_at t.buffer t.place slot) absent read
  where
    by_field : (r : Result (Option ℕ) FlatFault) → ((place : ℕ) → r ≡ Ok (Some place) → ⊥) → (at_field (u8_at t.buffer) r ≡ Ok None → ⊥) → option_map is_some (result_ok r) ≡ None
    by_field (Ok None) a u = absurd (u refl)
    by_field (Ok (Some place)) a u = absurd (a place refl)
    by_field (Err e) a u = refl

pub not_none : {A : Type 0} (r s : Result (Option A) FlatFault) (o : Option A) (x : A) → r ≡ s → r ≡ Ok o → o ≡ Some x → s ≡ Ok None → ⊥
not_none r s o x e f g h = cc

pub not_fault : {A : Type 0} (r s : Result (Option A) FlatFault) (f : FlatFault) → r ≡ s → r ≡ Err f → s ≡ Ok None → ⊥
not_fault r s f e g h = cc
