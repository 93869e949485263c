use Rattle.std.proofs.Common.{◌≡◌, ◌+◌, ◌-◌, ◌<◌, ◌≤◌, ℕ, drop, length}
use Rattle.response_buffer.specs.Window.{weight_of, weight_after_oldest}
use Rattle.response_buffer.proofs.queue.drop_surplus.Given as goal

-- so many of the oldest are dropped, each since those after it weigh at least the buffer, and the weight is that of those after the
-- new oldest
abbrev pub invariant-loop-after_oldest : goal.invariant-loop-after_oldest
invariant-loop-after_oldest l = record {
  kept : l.responses.items ≡ drop l.dropped l.initial.responses.items;
  weighed : l.after_oldest ≡ weight_after_oldest l.responses.items;
  within : l.dropped ≤ length l.initial.responses.items - 1;
  surplus : (n : ℕ) → n < l.dropped → l.buffer ≤ weight_of (drop (n + 1) l.initial.responses.items);
}

abbrev pub decreases-loop-after_oldest : goal.decreases-loop-after_oldest
decreases-loop-after_oldest l = length l.responses.items
