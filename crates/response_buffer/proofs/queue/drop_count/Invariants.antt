use Rattle.std.proofs.Common.{◌≡◌, drop}
use Rattle.response_buffer.specs.Window.{weight_after_oldest}
use Rattle.response_buffer.proofs.queue.drop_count.Given as goal

-- so many of the oldest are dropped, and the weight is that of those after the new oldest
abbrev pub invariant-loop : goal.invariant-loop
invariant-loop l = record {
  dropped : l.responses.items ≡ drop l.counter l.initial.responses.items;
  weighed : l.after_oldest ≡ weight_after_oldest l.responses.items;
}
