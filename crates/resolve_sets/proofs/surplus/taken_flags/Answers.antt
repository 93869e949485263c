use Rattle.std.proofs.Common.{rules, ◌<◌, length}
use Rattle.resolve_sets.proofs.Flags.{flag_more}
use Rattle.resolve_sets.proofs.surplus.taken_flags.Goals as goal

pub loop-partner-preserved : goal.loop-partner-preserved
loop-partner-preserved c =
    let within : c.loop-partner.partner-index < length c.args.partners.now = search rules in
    flag_more c.args.partners.now c.args.right.now c.loop-partner.partner-index c.loop-partner.flags.items c.set_flag.new.flags.items _ within
    c.loop-partner.invariant c.set_flag.ensures
