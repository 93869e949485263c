-- The copied items are the items so far.
use Rattle.std.proofs.Common.{◌≡◌, take}
use Rattle.cn_base.proofs.copied.ListCopied.copy.Given as goal

abbrev pub invariant-loop-item : goal.invariant-loop-item
invariant-loop-item g l = l.items ≡ take l.item-index l.item-items
