-- What a reader answers where a reader of a part answered a fault.
use Rattle.std.proofs.Common.{◌≡◌, sym, subst}
use Rattle.std.specs.Prelude.{Result, Ok, Err, IfOk, IsErrAnd}
use Rattle.dns_wire.specs.Reads.{Reads, read_as}
use Rattle.dns_wire.specs.declared.fault.WireFault.{WireFault}
use Rattle.dns_wire.specs.declared.fault.WireFault.TheVariants as fault

-- a whole of which this is a part isn't there either
pub fault_of : {A B : Type 0} {IsPart : A → Type 0} {IsWhole : B → Type 0} → ((whole : B) → IsWhole whole → (part : A) × IsPart part)
    → (f : WireFault) → Reads IsPart (Err f) → Reads IsWhole (Err f)
fault_of part_of fault.Bad none = λ whole h. let p = part_of whole h in none p.0 p.1
fault_of part_of fault.NoMemory any = any

pub fails : {A B : Type 0} {IsPart : A → Type 0} {IsWhole : B → Type 0} → (f : WireFault) → Reads IsPart (Err f) → (r : Result B WireFault) → IsErrAnd r (λ e. e ≡ f)
    → ((whole : B) → IsWhole whole → (part : A) × IsPart part) → Reads IsWhole r
fails {IsWhole} f none (Ok x) bad part_of = absurd bad
fails {IsWhole} f none (Err e) same part_of = subst (λ (g : WireFault). Reads IsWhole (Err g)) (sym same) (fault_of part_of f none)

-- where a part is read, what follows from it
pub if_read : {A : Type 0} {P Q : A → Type 0} (r : Result A WireFault) → ((part : A) → P part → Q part) → Reads P r → IfOk r Q
if_read (Ok part) f p = f part p
if_read (Err fault.Bad) f p = tt
if_read (Err fault.NoMemory) f p = tt

-- the same where what is read is made whole by what the reader wrote elsewhere
pub fails_as : {A B C : Type 0} {IsPart : A → Type 0} {IsWhole : C → Type 0} (whole : B → C) → (f : WireFault) → Reads IsPart (Err f) → (r : Result B WireFault) → IsErrAnd r (λ e. e ≡ f)
    → ((w : C) → IsWhole w → (part : A) × IsPart part) → Reads IsWhole (read_as whole r)
fails_as {IsWhole} whole f none (Ok x) bad part_of = absurd bad
fails_as {IsWhole} whole f none (Err e) same part_of = subst (λ (g : WireFault). Reads IsWhole (Err g)) (sym same) (fault_of part_of f none)
