-- Offsets to an object point into it.
use Rattle.std.proofs.Common.{◌≤◌, [], ◌∷◌, ◌++◌, length, map, arith, sym, ap, ◌∙◌, subst}
use Rattle.std.specs.List.{flat_map}
use Rattle.flat_tables.specs.declared.object.FlatObject.{FlatObject}
use Rattle.flat_tables.specs.declared.object.FlatObject.TheVariants as V
use Rattle.flat_tables.specs.declared.object.FlatObject.TheOpen as O
use Rattle.flat_tables.specs.declared.object.FlatObject.TheOpen.{FlatObject-F}
use Rattle.flat_tables.specs.declared.object.FlatObject.TheViews.{out-FlatObject, roll-FlatObject, roll-out-FlatObject}
use Rattle.flat_tables.specs.Layout.{block, pairs_block, text_block, slot_map, pair_bytes}
use Rattle.flat_tables.specs.ObjectLaws.{block-Table, block-Tables, block-Pairs, block-Text}
use Rattle.flat_tables.proofs.Sizes.{length-vector, table_inside, tables_inside}

roll_inside : (x : FlatObject-F FlatObject) → (block (roll-FlatObject x)).entry ≤ length (block (roll-FlatObject x)).bytes
unfolding pairs_block text_block
roll_inside (O.Table slots) = subst (λ b. b.entry ≤ length b.bytes) (sym (ap block (V.rolls-Table slots) ∙ block-Table slots)) (table_inside (map (slot_map block) slots))
roll_inside (O.Tables tables) = subst (λ b. b.entry ≤ length b.bytes) (sym (ap block (V.rolls-Tables tables) ∙ block-Tables tables)) (tables_inside (map block tables))
roll_inside (O.Pairs pairs) = subst (λ b. b.entry ≤ length b.bytes) (sym (ap block (V.rolls-Pairs pairs) ∙ block-Pairs pairs)) (omega (arith, length-vector (length pairs) (flat_map pair_bytes pairs)))
roll_inside (O.Text text) = subst (λ b. b.entry ≤ length b.bytes) (sym (ap block (V.rolls-Text text) ∙ block-Text text)) (omega (arith, length-vector (length text) (text ++ 0 ∷ [])))

pub entry_inside : (o : FlatObject) → (block o).entry ≤ length (block o).bytes
entry_inside o = subst (λ p. (block p).entry ≤ length (block p).bytes) (roll-out-FlatObject o) (roll_inside (out-FlatObject o))
