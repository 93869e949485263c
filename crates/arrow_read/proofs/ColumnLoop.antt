-- The columns of a batch, read one after another, and its batches.
use Rattle.std.proofs.Common.{Result, Ok, Err, List, ◌++◌}
use Rattle.arrow_read.specs.declared.fault.ArrowFault.{ArrowFault}

-- those that were read, and then the others
abbrev pub after : {A : Type 0} → List A → Result (List A) ArrowFault → Result (List A) ArrowFault
after done (Ok more) = Ok (done ++ more)
after done (Err e) = Err e
