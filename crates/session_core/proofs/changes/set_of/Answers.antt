-- One key more is in the map.
use Rattle.std.proofs.Common.{◌≡◌, ◌+◌, ◌<◌, ◌∷◌, ℕ, List, drop, sym, ap, ◌∙◌, length, cond, Some}
use Rattle.std.proofs.lemmas.Grind.{common_steps}
use Rattle.std.proofs.Common.{arith}
use Rattle.std.specs.Prelude.{bytes_eq, ◌||◌, is_some}
use Rattle.std.specs.BTreeMap.{get_by}
use Rattle.std.specs.Cmp.Lexicographic.{slice_cmp}
use Rattle.std.specs.Ordering.{nat_cmp}
use Rattle.std.specs.List.{list_any}
use Rattle.std.proofs.lemmas.Map.Text.{btree_map_updates_str}
use Rattle.session_core.specs.Places.{is_in}
use Rattle.session_core.proofs.PlaceLemmas.{is_in-next}
use Rattle.session_core.proofs.changes.set_of.Goals as goal

pub loop-key-preserved : goal.loop-key-preserved
loop-key-preserved c = λ key.
    let here : c.loop-key.key-index < length c.args.keys.now = c.loop-key-test.true in
    let split : drop c.loop-key.key-index c.args.keys.now ≡ c.key-item.result ∷ drop (c.loop-key.key-index + 1) c.args.keys.now = grind (arith, common_steps) in
    is_in-next (get_by (λ held. slice_cmp nat_cmp key held.now) c.loop-key.set) (is_in c.insert.new.self key) (bytes_eq c.key-item.result key) _ _
    (ap is_some (ap (λ (k : List ℕ). cond (bytes_eq k key) (Some tt) (get_by (λ held. slice_cmp nat_cmp key held.now) c.loop-key.set)) (sym c.as_str.ensures)
    ∙ sym (btree_map_updates_str c.as_str.result.now c.loop-key.set c.insert.new.self _ c.in_ok-insert.ensures.updates key)))
    (ap (λ (l : List (List ℕ)). is_in c.loop-key.set key || list_any (λ named. bytes_eq named key) l) (sym split) ∙ c.loop-key.invariant key)
