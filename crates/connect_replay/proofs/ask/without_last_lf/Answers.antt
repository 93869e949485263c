use Rattle.std.proofs.Common.{List, ℕ, subst, sym, lit<}
use Rattle.std.specs.Borrow.{Bor}
use Rattle.std.proofs.lemmas.Str.Pattern.{strip_suffix_char}
use Rattle.connect_replay.specs.Ask.{IsLineOf}
use Rattle.connect_replay.proofs.Lines.{IsLine-from_strip}
use Rattle.connect_replay.proofs.ask.without_last_lf.Goals as goal

pub returns : goal.returns
returns c =
    subst (λ (line : Bor (List ℕ)). IsLineOf c.args.text.now line.now) (sym c.unwrap_or.ensures)
    (IsLine-from_strip c.args.text c.strip_suffix.result (strip_suffix_char 10 c.args.text.now c.strip_suffix.result c.strip_suffix.ensures.cases (lit< tt)))
