-- the row fits exactly where the values that are left have the types of the fields that are left
use Rattle.std.proofs.Common.{◌≡◌, length, drop, map}
use Rattle.cn_types.specs.Fit.{HaveTypes}
use Rattle.arrow_ipc.proofs.fit.fits.Given as goal

abbrev pub invariant-loop-place : goal.invariant-loop-place
invariant-loop-place l = record {
  same_length : length l.fields ≡ length l.values;
  left : HaveTypes (map (λ field. field.kind) l.fields) l.values → HaveTypes (map (λ field. field.kind) (drop l.place l.fields)) (drop l.place l.values);
  all : HaveTypes (map (λ field. field.kind) (drop l.place l.fields)) (drop l.place l.values) → HaveTypes (map (λ field. field.kind) l.fields) l.values;
}
