-- What is said of a refusal, by its cause.
use Rattle.std.proofs.Common.{◌≡◌, ◌⊎◌, inl, inr, refl}
use Rattle.web_contents.specs.declared.fault.WebFault.{WebFault}
use Rattle.web_contents.specs.declared.fault.WebFault.TheVariants as web
use Rattle.web_contents.specs.Faults.{ByCause}

-- the bytes settle the fault, or it is want of memory
pub cause_of : (A B : Type 0) (fault : WebFault) → ByCause fault A B → A ⊎ ((fault ≡ web.OutOfMemory) × B)
cause_of A B web.HeadTooLong x = inl x
cause_of A B web.TooManyHeaders x = inl x
cause_of A B web.BadHead x = inl x
cause_of A B web.BadMethod x = inl x
cause_of A B web.BadType x = inl x
cause_of A B web.BadLength x = inl x
cause_of A B (web.BadChunk at) x = inl x
cause_of A B (web.FrameTooLong count) x = inl x
cause_of A B web.Compressed x = inl x
cause_of A B web.AfterMessage x = inl x
cause_of A B web.NoMessage x = inl x
cause_of A B web.AfterTrailers x = inl x
cause_of A B web.BadTrailer x = inl x
cause_of A B web.Truncated x = inl x
cause_of A B web.OutOfMemory x = inr (refl, x)

-- what is said of the bytes and of want of memory, whichever the cause is
pub by_cause : (A B : Type 0) (fault : WebFault) → A → (fault ≡ web.OutOfMemory → B) → ByCause fault A B
by_cause A B web.HeadTooLong x spent = x
by_cause A B web.TooManyHeaders x spent = x
by_cause A B web.BadHead x spent = x
by_cause A B web.BadMethod x spent = x
by_cause A B web.BadType x spent = x
by_cause A B web.BadLength x spent = x
by_cause A B (web.BadChunk at) x spent = x
by_cause A B (web.FrameTooLong count) x spent = x
by_cause A B web.Compressed x spent = x
by_cause A B web.AfterMessage x spent = x
by_cause A B web.NoMessage x spent = x
by_cause A B web.AfterTrailers x spent = x
by_cause A B web.BadTrailer x spent = x
by_cause A B web.Truncated x spent = x
by_cause A B web.OutOfMemory x spent = spent refl

-- another thing that follows for either cause
pub for_cause : (A B C D : Type 0) (fault : WebFault) → (A → C) → (fault ≡ web.OutOfMemory → B → D) → ByCause fault A B → ByCause fault C D
for_cause A B C D web.HeadTooLong settled spent x = settled x
for_cause A B C D web.TooManyHeaders settled spent x = settled x
for_cause A B C D web.BadHead settled spent x = settled x
for_cause A B C D web.BadMethod settled spent x = settled x
for_cause A B C D web.BadType settled spent x = settled x
for_cause A B C D web.BadLength settled spent x = settled x
for_cause A B C D (web.BadChunk at) settled spent x = settled x
for_cause A B C D (web.FrameTooLong count) settled spent x = settled x
for_cause A B C D web.Compressed settled spent x = settled x
for_cause A B C D web.AfterMessage settled spent x = settled x
for_cause A B C D web.NoMessage settled spent x = settled x
for_cause A B C D web.AfterTrailers settled spent x = settled x
for_cause A B C D web.BadTrailer settled spent x = settled x
for_cause A B C D web.Truncated settled spent x = settled x
for_cause A B C D web.OutOfMemory settled spent x = spent refl x
