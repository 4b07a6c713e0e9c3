-- What a field reads as, by the tests of its bytes.
use Rattle.std.proofs.Common.{◌≡◌, ◌⊎◌, ℕ, Bool, true, false, nat_eq, List, [], codes, length, Option, Some, None, Result, Ok, Err, refl, ap, inl, inr}
use Rattle.std.specs.Cmp.Lexicographic.{pointwise}
use Rattle.hex.specs.declared.error.FromHexError.{FromHexError}
use Rattle.hex.specs.declared.error.FromHexError.TheVariants.{OutOfMemory}
use Rattle.hex.specs.Hex.{decode_of}
use Rattle.case_fields.specs.Fields.{decoded, field_bytes}

pub of_dash : (field : List ℕ) → pointwise nat_eq field (codes "-") ≡ true → field_bytes field ≡ Some []
unfolding field_bytes
of_dash field e = rw e refl

pub of_none : (field : List ℕ) → pointwise nat_eq field (codes "-") ≡ false → nat_eq (length field) 0 ≡ true → field_bytes field ≡ None
unfolding field_bytes
of_none field e f = rw (e, f) refl

pub of_digits : (field : List ℕ) (r : Result (List ℕ) FromHexError) → pointwise nat_eq field (codes "-") ≡ false → nat_eq (length field) 0 ≡ false → decode_of field ≡ r → field_bytes field ≡ decoded r
unfolding field_bytes
of_digits field r e f is = rw (e, f) (ap decoded is)

pub of_fault : (field : List ℕ) (fault : FromHexError) → pointwise nat_eq field (codes "-") ≡ false → nat_eq (length field) 0 ≡ false → (fault ≡ OutOfMemory) ⊎ (decode_of field ≡ Err fault)
    → (fault ≡ OutOfMemory → ⊥) → field_bytes field ≡ None
of_fault field fault e f (inl memory) other = absurd (other memory)
of_fault field fault e f (inr is) other = of_digits field (Err fault) e f is
