use Rattle.std.proofs.Common.{◌≡◌, ℕ, ◌+◌, ◌<◌, get_or}
use Rattle.web_frames.specs.Lines.{carriage_return, line_feed}
use Rattle.web_frames.proofs.lines.line_end.Given as goal

abbrev pub invariant-loop-place : goal.invariant-loop-place
invariant-loop-place l = (k : ℕ) → k < l.place → get_or l.text k 0 ≡ carriage_return → get_or l.text (k + 1) 0 ≡ line_feed → ⊥
