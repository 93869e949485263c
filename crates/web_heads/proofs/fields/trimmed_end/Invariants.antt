use Rattle.std.proofs.Common.{◌≡◌, ◌≤◌, length, take, reverse}
use Rattle.httparse.specs.Grammar.{skip_ows}
use Rattle.web_heads.proofs.fields.trimmed_end.Given as goal

abbrev pub invariant-loop-stop : goal.invariant-loop-stop
invariant-loop-stop l = record {
  within : l.stop ≤ length l.text;
  same : skip_ows (reverse (take l.stop l.text)) ≡ skip_ows (reverse l.text);
}

abbrev pub decreases-loop-stop : goal.decreases-loop-stop
decreases-loop-stop l = l.stop
