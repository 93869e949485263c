-- An answer that is given is one that is said.
use Rattle.std.proofs.Common.{subst, Result, Ok, Err}
use Rattle.web_heads.specs.declared.fault.HeadFault.{HeadFault}
use Rattle.web_heads.specs.declared.fault.HeadFault.TheVariants.{TooManyHeaders, BadHead, BadMethod, BadType, BadLength, OutOfMemory}
use Rattle.web_heads.specs.Fields.{Gives}
use Rattle.web_heads.specs.Standard.{Answers}

pub Answers-Gives : {A : Type 0} (r : Result A HeadFault) (read : Result A HeadFault) (Says : Result A HeadFault → Type 0)
    → Gives r read → Says read → Answers r Says
Answers-Gives (Ok head) read Says is said = subst Says is said
Answers-Gives (Err TooManyHeaders) read Says is said = subst Says is said
Answers-Gives (Err BadHead) read Says is said = subst Says is said
Answers-Gives (Err BadMethod) read Says is said = subst Says is said
Answers-Gives (Err BadType) read Says is said = subst Says is said
Answers-Gives (Err BadLength) read Says is said = subst Says is said
Answers-Gives (Err OutOfMemory) read Says is said = tt
