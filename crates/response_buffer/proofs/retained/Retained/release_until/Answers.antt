use Rattle.std.proofs.Common.{arith, ap, ◌≤◌, ◌+◌, ◌-◌, length}
use Rattle.response_buffer.specs.Window.{high_of}
use Rattle.response_buffer.proofs.WindowLemmas.{IsWindow-drop}
use Rattle.response_buffer.proofs.retained.Retained.release_until.Goals as goal

pub invariant_of-self : goal.invariant_of-self
invariant_of-self c =
    let r = c.self.inside in
    let within : c.args.place ≤ r.first + length r.responses.items - 1 = omega (arith, c.high.ensures.high, ap high_of c.self.view_is) in
    IsWindow-drop r.buffer r.first r.after_oldest c.drop_count-self-inside.result c.args.place r.responses.items
    c.drop_count-self-inside.new.responses.items c.self.invariant c.if-place-self.false within
    c.drop_count-self-inside.ensures.responses c.drop_count-self-inside.ensures.weight
