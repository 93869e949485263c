use Rattle.std.proofs.Common.{◌≡◌, ◌≢◌, ℕ, List, lit<}
use Rattle.std.specs.Borrow.{Bor}
use Rattle.std.proofs.lemmas.List.Elements.{All-get_or}
use Rattle.std.proofs.lemmas.Str.Pattern.{split_after}
use Rattle.connect_replay.proofs.Lines.{IsSomeAnd-from_match}
use Rattle.connect_replay.proofs.ask.next_word.Goals as goal

pub returns : goal.returns
returns c = λ word rest plain is.
    IsSomeAnd-from_match {A = Bor (List ℕ) × Bor (List ℕ)} c.split_once.result (λ p. (p.0.now ≡ word) × (p.1.now ≡ rest))
    (split_after 32 c.args.text.now word rest c.split_once.result c.split_once.ensures.cases (lit< tt) is (λ i within. All-get_or (λ (b : ℕ). b ≢ 32) word i 0 within plain))
