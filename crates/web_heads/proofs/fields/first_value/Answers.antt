use Rattle.std.proofs.Common.{◌≡◌, ℕ, List, get_or, true, false, Some, sym, ap, ◌∙◌, arith}
use Rattle.std.specs.Prelude.{slice_get}
use Rattle.std.specs.Str.{bytes_eq, str_to_ascii_lowercase}
use Rattle.httparse.specs.Spans.{header_bytes}
use Rattle.web_heads.specs.Fields.{is_named}
use Rattle.web_heads.proofs.FieldLemmas.{values_from-named, values_from-other, values_from-end, no_header}
use Rattle.web_heads.proofs.fields.first_value.Goals as goal

pub returns-then-equals_ignoring_case : goal.returns-then-equals_ignoring_case
returns-then-equals_ignoring_case c =
    let named : is_named c.args.name.now (header_bytes c.args.head.now (get_or c.args.headers.now c.loop-header.header-index no_header)) ≡ true =
    sym (ap (λ (text : List ℕ). bytes_eq (str_to_ascii_lowercase text) c.args.name.now) c.of.ensures) ∙ sym c.equals_ignoring_case.ensures ∙ c.if-equals_ignoring_case.true in
    let at = values_from-named c.args.name.now c.args.head.now c.args.headers.now c.loop-header.header-index no_header (omega arith) named in
    ap (λ (value : List ℕ). Some value) c.of-then-equals_ignoring_case.ensures
    ∙ sym (ap (λ (found : List (List ℕ)). slice_get found 0) (sym c.loop-header.invariant ∙ at))

pub loop-header-preserved : goal.loop-header-preserved
loop-header-preserved c =
    let other : is_named c.args.name.now (header_bytes c.args.head.now (get_or c.args.headers.now c.loop-header.header-index no_header)) ≡ false =
    sym (ap (λ (text : List ℕ). bytes_eq (str_to_ascii_lowercase text) c.args.name.now) c.of.ensures) ∙ sym c.equals_ignoring_case.ensures ∙ c.if-equals_ignoring_case.false in
    sym (values_from-other c.args.name.now c.args.head.now c.args.headers.now c.loop-header.header-index no_header (omega arith) other)
    ∙ c.loop-header.invariant

pub returns : goal.returns
returns c =
    sym (ap (λ (found : List (List ℕ)). slice_get found 0)
    (sym c.loop-header.invariant ∙ values_from-end c.args.name.now c.args.head.now c.args.headers.now c.loop-header.header-index (omega arith)))
