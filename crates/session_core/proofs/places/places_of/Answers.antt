-- A key that is new stands at the place of its pair; one that is there keeps its first place.
use Rattle.std.proofs.Common.{◌∙◌, sym}
use Rattle.std.proofs.lemmas.Map.Text.{btree_map_updates_str}
use Rattle.session_core.proofs.PlaceLemmas.{AreFirst-next_new, AreFirst-next_kept}
use Rattle.session_core.proofs.places.places_of.Goals as goal
use Rattle.session_core.proofs.places.places_of.Goals.{then-not-contains_key+in_ok-insert, else-not-contains_key}

pub loop-place-preserved : goal.loop-place-preserved
loop-place-preserved c =
    elim c.if-not-contains_key.branch [
      | then-not-contains_key+in_ok-insert w ↦
          AreFirst-next_new c.loop-place.places c.if-not-contains_key.places c.args.settings.now c.loop-place.place c.index-settings-place.result
          c.as_str-key.result.now c.loop-place-test.true c.index-settings-place.is c.as_str-key.ensures c.loop-place.invariant
          (sym c.contains_key.ensures ∙ w.if-not-contains_key.true)
          (λ other. rw w.places-is
          (btree_map_updates_str c.as_str-key.result.now c.loop-place.places w.insert.new.self _ w.in_ok-insert.ensures.updates other))
      | else-not-contains_key w ↦
          rw w.places-is (AreFirst-next_kept c.loop-place.places c.args.settings.now c.loop-place.place c.index-settings-place.result
          c.as_str-key.result.now c.loop-place-test.true c.index-settings-place.is c.as_str-key.ensures c.loop-place.invariant
          (sym c.contains_key.ensures ∙ w.if-not-contains_key.false))
    ]
