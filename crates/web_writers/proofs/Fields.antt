-- The fields of a written head.
use Rattle.std.proofs.Common.{◌≡◌, ℕ, true, List, refl, codes}
use Rattle.std.specs.List.{list_all}
use Rattle.std.proofs.lemmas.List.Sums.{AllPass-from_list_all}
use Rattle.httparse.specs.Grammar as grammar
use Rattle.web_heads.specs.Texts.{without_trailing_ows}
use Rattle.web_heads.specs.Fields.{media_type}
use Rattle.web_heads.proofs.TreeLemmas.{IsToken-is_token}

pub is_field : (name raw : List ℕ) → grammar.is_token name ≡ true → list_all grammar.is_value_byte raw ≡ true
    → grammar.IsField (record { name = name; raw = raw; end = grammar.crlf })
is_field name raw token plain =
    record { name = IsToken-is_token name token; raw = AllPass-from_list_all grammar.is_value_byte raw plain }

pub grpc_type : media_type (codes "application/grpc-web+proto") ≡ codes "application/grpc-web+proto"
unfolding media_type without_trailing_ows
grpc_type = refl
