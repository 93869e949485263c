use Rattle.std.proofs.Common.{◌≡◌, ℕ, List, length, get_or, sym, ap, ◌∙◌, arith}
use Rattle.std.specs.Prelude.{nat_lt}
use Rattle.std.specs.Str.{bytes_eq, str_to_ascii_lowercase}
use Rattle.httparse.specs.Spans.{header_bytes}
use Rattle.web_heads.specs.Fields.{is_named}
use Rattle.web_heads.proofs.FieldLemmas.{values_from, values_from-named, values_from-other, values_from-end, no_header}
use Rattle.web_heads.proofs.fields.is_repeated.Goals as goal
use Rattle.web_heads.proofs.fields.is_repeated.Goals.{then-equals_ignoring_case, else-equals_ignoring_case}

pub loop-header-preserved : goal.loop-header-preserved
loop-header-preserved c =
    let name = c.args.name.now in
    let head = c.args.head.now in
    let headers = c.args.headers.now in
    let i = c.loop-header.header-index in
    let test : is_named name (header_bytes head (get_or headers i no_header)) ≡ c.equals_ignoring_case.result =
    sym (ap (λ (text : List ℕ). bytes_eq (str_to_ascii_lowercase text) name) c.of.ensures) ∙ sym c.equals_ignoring_case.ensures in
    elim c.if-equals_ignoring_case.branch [
      | then-equals_ignoring_case w ↦
          let at = values_from-named name head headers i no_header (omega arith) (test ∙ w.if-equals_ignoring_case.true) in
          record { counted = omega (arith, ap length at, c.loop-header.invariant.counted); few = omega arith }
      | else-equals_ignoring_case w ↦
          let at = values_from-other name head headers i no_header (omega arith) (test ∙ w.if-equals_ignoring_case.false) in
          record { counted = omega (arith, ap length at, c.loop-header.invariant.counted); few = omega arith }
    ]

pub returns : goal.returns
returns c =
    let none = values_from-end c.args.name.now c.args.head.now c.args.headers.now c.loop-header.header-index (omega arith) in
    let all : c.loop-header.count ≡ length (values_from c.args.name.now c.args.head.now c.args.headers.now 0) =
    omega (arith, ap length none, c.loop-header.invariant.counted) in
    ap (nat_lt 1) all
