-- How a function is evaluated: over one value, over two, or over the values of a list in turn.
use Rattle.std.specs.Prelude.{List}
use Rattle.cn_types.specs.declared.value.DataType.{DataType}
use Rattle.cn_types.specs.declared.value.Value.{Value}
use Rattle.cn_types.specs.declared.value.Value.TheVariants.{Null}
use Rattle.plan_model.specs.Comparisons.{member_of}
use Rattle.plan_model.specs.Conditionals.{coalesce, when, widened}
use Rattle.plan_model.specs.Functions.{of_one, of_two, of_first}
use Rattle.plan_model.specs.Texts.{concat}
use Rattle.expr_eval.specs.declared.forms.Form.{Form}
use Rattle.expr_eval.specs.Operations.{unary_of, binary_of}

abbrev pub form_value : Form → DataType → List Value → Value
form_value (Form.One function) kind = of_one (unary_of function)
form_value (Form.Two function) kind = of_two (binary_of function)
form_value Form.Coalesce kind = λ values. widened kind (coalesce values)
form_value Form.When kind = λ values. widened kind (when values)
form_value Form.In kind = of_first member_of
form_value Form.Concat kind = concat
form_value Form.Aggregate kind = λ values. Null
