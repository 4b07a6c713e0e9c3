-- An ask has no records that a limit could cut.
use Rattle.std.proofs.Common.{◌≡◌, ◌-◌, ℕ, zero, suc, false, List, [], Option, take, arith, refl, subst}
use Rattle.dns_data.specs.Record.{RecordData}
use Rattle.std.specs.Prelude.{nat_lt}
use Rattle.std.proofs.lemmas.Bool.Decides.{nat_tests}
use Rattle.dns_data.specs.declared.limit.TheConstants as limits
use Rattle.dns_data.specs.declared.message.Opt.{Opt}
use Rattle.dns_data.specs.declared.query.Query.{Query}
use Rattle.dns_wire.specs.Spells.{Spells}
use Rattle.dns_write.specs.Writes.{Writes}
use Rattle.dns_write.specs.Written.{kept, truncated}
use Rattle.forward_plugin.specs.Forward.{ask_of, opt_of}

none_below : (n : ℕ) → nat_lt n 0 ≡ false
none_below n = grind (arith, nat_tests)

no_more : (n : ℕ) → take {A = RecordData} n [] ≡ []
no_more zero = refl
no_more (suc n) = refl

uncut : (word : ℕ) (q : Query) (count : ℕ) → truncated (ask_of word q) count ≡ ask_of word q
unfolding truncated
uncut word q count = λ i. record (ask_of word q) {
  tc = none_below count i;
  answer = no_more count i;
  authority = no_more (count - 0) i;
  additional = no_more (count - 0 - 0) i;
}

-- so its bytes spell it whole
pub spelt_whole : (word : ℕ) (q : Query) (opt : Option Opt) → opt ≡ opt_of q → (bytes : List ℕ)
    → Writes (record (ask_of word q) { opt = opt }) limits.UDP_BYTES bytes → Spells bytes (ask_of word q)
spelt_whole word q opt e bytes w =
    let same : Writes (ask_of word q) limits.UDP_BYTES bytes =
    subst (λ (o : Option Opt). Writes (record (ask_of word q) { opt = o }) limits.UDP_BYTES bytes) e w in
    subst (Spells bytes) (uncut word q (kept (ask_of word q) limits.UDP_BYTES)) same.spelt
