-- The numbers of an ask fit their types.
use Rattle.std.proofs.Common.{SFits, w64, rules}
use Rattle.std.proofs.lemmas.Int.{to_z-of_z}
use Rattle.connect_replay.proofs.Messages.{asked_bits}
use Rattle.connect_replay.proofs.message.plan_of_ask.Goals as goal

pub returns-clause-bits : goal.returns-clause-bits
returns-clause-bits c =
    let start : SFits w64 c.args.ask.now.start = search rules in
    let end : SFits w64 c.args.ask.now.end = search rules in
    let step : SFits w64 c.args.ask.now.step = search rules in
    simp to_z-of_z (asked_bits c.args.ask.now start end step)
