-- Want of memory is not the fault of too many regions.
use Rattle.std.proofs.Common.{◌≡◌, Result, Ok, Err, IfErr}
use Rattle.std.specs.Result.{IsErrAnd}
use Rattle.plan_slab.specs.declared.fault.SlabFault.{SlabFault}
use Rattle.plan_slab.specs.declared.fault.SlabFault.TheVariants.{TooManyRegions, NoMemory}

not_both : (e : SlabFault) → e ≡ NoMemory → ¬ (e ≡ TooManyRegions)
not_both e h f = cc

pub only_memory : {T : Type 0} (P : Type 0) (r : Result T SlabFault) → IsErrAnd r (λ e. e ≡ NoMemory) → IfErr r (λ e. e ≡ TooManyRegions → P)
only_memory P (Ok a) h = tt
only_memory P (Err e) h = λ f. absurd (not_both e h f)
