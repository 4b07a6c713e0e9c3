-- What is no query asks nothing, and what is one has the lines of that.
use Rattle.std.proofs.Common.{◌≡◌, ◌∙◌, ℕ, ◌<◌, ◌≤◌, List, Option, Some, Err, sym, refl, arith, slice_get, length}
use Rattle.dns_wire.specs.Asked.{QueriesThis}
use Rattle.dns_wire.specs.Spells.{ReadsBy}
use Rattle.dns_wire.specs.declared.asked.Asked.{Asked}
use Rattle.dns_wire.specs.declared.fault.QueryFault.{QueryFault}
use Rattle.dns_wire.specs.declared.fault.QueryFault.TheVariants as fault
use Rattle.std.specs.Prelude.{get_or, IfSome, MatchOption, option_map}
use Rattle.std.specs.List.{HoldsAt}
use Rattle.std.proofs.lemmas.Option.{slice_get_past, slice_get_read}
use Rattle.std.proofs.Common.{Bor, None}

pub no_query : (bytes : List ℕ) (why : QueryFault) → ReadsBy (QueriesThis bytes) bytes (Err why)
    → (why ≡ fault.NoMemory → ⊥) → (asked : Asked) → QueriesThis bytes asked → ⊥
no_query bytes fault.Short h other asked q = omega (arith, h, q.spells.message.header.long)
no_query bytes fault.Response h other asked q =
    let e = sym q.spells.qr ∙ q.spells.message.header.qr ∙ h.1 in cc
no_query bytes (fault.NotImp head) h other asked q =
    h.opcode (h.head_is.opcode ∙ sym q.spells.message.header.opcode ∙ q.spells.opcode)
no_query bytes (fault.FormErr head) h other asked q = h.unspelt q.message q.spells.message
no_query bytes fault.NoMemory h other asked q = other refl

-- an element of a slice, as a value
pub found_at : {X : Type 0} (o : Option (Bor X)) (xs : List X) (n : ℕ)
    → IfSome o (λ x. x.now ≡ get_or xs n x.now)
    → MatchOption o (length xs ≤ n) (λ x. (n < length xs) × HoldsAt (λ y. x.now ≡ y) xs n)
    → option_map (λ x. x.now) o ≡ slice_get xs n
found_at None xs n some either = sym (slice_get_past xs n either)
found_at (Some x) xs n some either =
    sym (slice_get_read xs (length xs) n x.now refl either.0 some)
