use Rattle.std.proofs.Common.{rules, ◌≡◌, ℕ, ◌<◌, drop, length, arith, sym, subst, ◌∙◌}
use Rattle.std.specs.Prelude.{IsCharBoundary}
use Rattle.std.specs.List.{prefix_len}
use Rattle.plan_tokens.specs.Bytes.{is_space}
use Rattle.plan_tokens.specs.declared.token.Token.{Token}
use Rattle.plan_tokens.specs.Tokens.{first_token}
use Rattle.plan_tokens.proofs.TokenFacts.{none_left, next_is}
use Rattle.plan_tokens.proofs.Boundaries.{after_spaces}
use Rattle.plan_tokens.proofs.tokens.Tokens.next.Goals as goal

pub range_from-rest-requires : goal.range_from-rest-requires
range_from-rest-requires c = λ some.
    let bytes = rw c.as_bytes.ensures.value at c.spaces_end-spaces.ensures.run in
    let run : c.spaces_end-spaces.result ≡ prefix_len is_space c.self.inside.rest.now = omega (arith, bytes) in
    let utf8 = rw c.as_bytes.ensures.value at c.as_bytes.ensures.utf8 in
    subst (λ (n : ℕ). IsCharBoundary c.self.inside.rest.now n) (sym run) (after_spaces c.self.inside.rest.now utf8)

pub returns-then-is_empty-clause-none : goal.returns-then-is_empty-clause-none
returns-then-is_empty-clause-none c = λ none.
    let bytes = rw c.as_bytes.ensures.value at c.spaces_end-spaces.ensures.run in
    let run : c.spaces_end-spaces.result ≡ prefix_len is_space c.self.inside.rest.now = omega (arith, bytes) in
    let left : c.range_from-rest.result.now ≡ drop (prefix_len is_space c.self.inside.rest.now) c.self.inside.rest.now = search (rules, run) in
    let empty : length c.range_from-rest.result.now ≡ 0 = search rules in
    sym c.self.view_is ∙ none_left c.self.inside.at c.self.inside.rest.now c.range_from-rest.result.now left empty

pub returns-clause-next : goal.returns-clause-next
returns-clause-next c =
    let bytes = rw c.as_bytes.ensures.value at c.spaces_end-spaces.ensures.run in
    let run : c.spaces_end-spaces.result ≡ prefix_len is_space c.self.inside.rest.now = omega (arith, bytes) in
    let left : c.range_from-rest.result.now ≡ drop (prefix_len is_space c.self.inside.rest.now) c.self.inside.rest.now = search (rules, run) in
    let some : 0 < length c.range_from-rest.result.now = search rules in
    let token : ◌≡◌ {A = Token × ℕ} (c.in_ok-token.token, c.in_ok-token.size) (first_token c.range_from-rest.result.now) = c.in_ok-token.ensures.token in
    let next = next_is c.self.inside.at c.in_ok-token.size c.self.inside.rest.now c.range_from-rest.result.now c.in_ok-token.token left some c.in_ok-token.ensures.some token in
    let behind : c.range_from-self-inside.result.now ≡ drop c.in_ok-token.size c.range_from-rest.result.now = search rules in
    sym c.self.view_is ∙ rw (behind, run) next
