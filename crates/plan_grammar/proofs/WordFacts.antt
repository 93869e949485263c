-- Two words of the grammar are spelled alike only where they are one.
use Rattle.std.proofs.Common.{◌≡◌, Bool, refl, sym, ap, ◌∙◌}
use Rattle.std.specs.Prelude.{bytes_eq, Decides}
use Rattle.std.specs.Bool.{one_answer}
use Rattle.std.proofs.lemmas.Option.{same_Some}
use Rattle.std.proofs.lemmas.Slice.Eq.{bytes_eq-Decides}
use Rattle.plan_tokens.specs.declared.keyword.Keyword.{Keyword}
use Rattle.plan_tokens.specs.Words.{spelled_word}
use Rattle.plan_tokens.proofs.WordFacts.{keyword_found}
use Rattle.plan_grammar.specs.Tests.{is_same_word}

spelled_alike : (one other : Keyword) → spelled_word one ≡ spelled_word other → one ≡ other
spelled_alike one other e = same_Some one other (sym (keyword_found one (spelled_word other) e) ∙ keyword_found other (spelled_word other) refl)

pub same_word : (one other : Keyword) (same : Bool) → Decides same (one ≡ other) → same ≡ is_same_word one other
unfolding is_same_word
same_word one other same decides =
    let spelled = bytes_eq-Decides (spelled_word one) (spelled_word other) in
    one_answer same (bytes_eq (spelled_word one) (spelled_word other)) decides ((λ t. spelled_alike one other (spelled.0 t)), (λ e. spelled.1 (ap spelled_word e)))
