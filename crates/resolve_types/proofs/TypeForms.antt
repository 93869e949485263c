-- Each form of a type.
use Rattle.expression_messages.specs.declared.data_type.TypeMessage.TheVariants.{outs-Null, outs-Boolean, outs-Byte, outs-Short, outs-Integer, outs-Long, outs-String, outs-Date, outs-Struct, outs-Other}

pub ruleset forms = (outs-Null, outs-Boolean, outs-Byte, outs-Short, outs-Integer, outs-Long, outs-String, outs-Date, outs-Struct, outs-Other)
