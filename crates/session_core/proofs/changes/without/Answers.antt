-- One pair more: what is left of it is added.
use Rattle.std.proofs.Common.{◌∙◌, sym}
use Rattle.session_core.proofs.UnsetLemmas.{without-named, without-kept}
use Rattle.session_core.proofs.changes.without.Goals as goal
use Rattle.session_core.proofs.changes.without.Goals.{then-contains_key+in_ok-put_preset, else-contains_key+in_ok-copy+in_ok-push}

pub loop-pair-preserved : goal.loop-pair-preserved
loop-pair-preserved c =
    elim c.if-contains_key.branch [
      | then-contains_key+in_ok-put_preset w ↦
          rw w.pairs-is (without-named c.in_ok-unset.unset c.args.keys.now c.args.settings.now c.as_str.result.now w.as_str-then-contains_key.result.now
          c.loop-pair.pair-index c.pair-item.result c.loop-pair.pairs _ _ c.in_ok-unset.ensures
          (sym w.if-contains_key.true ∙ c.contains_key.ensures) c.as_str.ensures w.as_str-then-contains_key.ensures c.loop-pair-test.true c.pair-item.is
          w.in_ok-put_preset.ensures c.loop-pair.invariant)
      | else-contains_key+in_ok-copy+in_ok-push w ↦
          rw w.pairs-is (without-kept c.in_ok-unset.unset c.args.keys.now c.args.settings.now c.as_str.result.now
          c.loop-pair.pair-index c.pair-item.result w.in_ok-copy.field-0 c.loop-pair.pairs _ _ c.in_ok-unset.ensures
          (sym w.if-contains_key.false ∙ c.contains_key.ensures) c.as_str.ensures w.in_ok-copy.ensures c.loop-pair-test.true c.pair-item.is
          w.in_ok-push.ensures.ok c.loop-pair.invariant)
    ]
