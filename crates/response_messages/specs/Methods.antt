-- The methods of the service, by their paths (`base.proto`, SparkConnectService; gRPC over HTTP2, "Path").
use Rattle.std.specs.Prelude.{ℕ, List, ◌++◌, codes}
use Rattle.response_messages.specs.declared.method.Method.{Method}
use Rattle.response_messages.specs.declared.method.Method.TheVariants as methods

-- a method's name
abbrev pub name_of : Method → List ℕ
name_of methods.ExecutePlan = codes "ExecutePlan"
name_of methods.AnalyzePlan = codes "AnalyzePlan"
name_of methods.Config = codes "Config"
name_of methods.Interrupt = codes "Interrupt"
name_of methods.ReattachExecute = codes "ReattachExecute"
name_of methods.ReleaseExecute = codes "ReleaseExecute"

-- a method's path: the service's name between two slashes, and the method's name
abbrev pub path_of : Method → List ℕ
path_of method = codes "/spark.connect.SparkConnectService/" ++ name_of method
