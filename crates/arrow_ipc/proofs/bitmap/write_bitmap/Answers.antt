use Rattle.arrow_ipc.proofs.Bits.{bitmap_step}
use Rattle.arrow_ipc.proofs.bitmap.write_bitmap.Goals as goal

pub loop-at-preserved : goal.loop-at-preserved
loop-at-preserved c =
    bitmap_step c.args.bits.now c.args.out.now.items c.loop-at.out.items c.push.new.self.items c.loop-at.at c.min-end.result c.byte_of.result
    c.min-end.ensures c.loop-at.invariant c.byte_of.ensures.number c.in_ok-push.ensures.items
