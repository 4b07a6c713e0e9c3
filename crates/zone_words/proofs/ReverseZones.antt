-- How many labels a reverse name has.
use Rattle.std.proofs.Common.{◌≡◌, ℕ, zero, suc, ◌+◌, ◌/◌, List, length, arith}
use Rattle.dns_names.specs.ReverseNames.{v6_reverse, nibbles, ip6_arpa}

length-nibbles : (count number : ℕ) (others : List (List ℕ)) → length (nibbles count number others) ≡ count + length others
length-nibbles zero number others = omega arith
length-nibbles (suc count) number others = omega (arith, length-nibbles count (number / 16) others)

pub v6_labels : (addr : ℕ) → length (v6_reverse addr) ≡ 34
unfolding v6_reverse
v6_labels addr = length-nibbles 32 addr ip6_arpa
