use Rattle.std.proofs.Common.{◌≡◌, ◌||◌, ℕ, List, drop, bytes_eq}
use Rattle.std.specs.List.{list_any}
use Rattle.session_core.specs.Places.{is_in}
use Rattle.session_core.proofs.changes.set_of.Given as goal

abbrev pub invariant-loop-key : goal.invariant-loop-key
invariant-loop-key l = (key : List ℕ) → (is_in l.set key || list_any (λ named. bytes_eq named key) (drop l.key-index l.keys)) ≡ list_any (λ named. bytes_eq named key) l.keys
