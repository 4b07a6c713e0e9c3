use Rattle.std.proofs.Common.{◌≡◌, ℕ, suc, ◌+◌, get_or, subst, arith}
use Rattle.std.proofs.lemmas.Option.{slice_get-get_or}
use Rattle.dns_data.specs.{reverse_of}
use Rattle.hosts_plugin.specs.declared.listing.Listing.{Listing}
use Rattle.hosts_plugin.specs.Index.{IsIndexOf}
use Rattle.hosts_plugin.proofs.Indexing.{index_more}
use Rattle.hosts_plugin.proofs.index.by_address.Goals as goal

pub loop-number-preserved : goal.loop-number-preserved
loop-number-preserved c =
    let listings = c.args.listings.now in
    let n = c.loop-number.number in
    let l : Listing = get_or listings n c.index-listings-number.result in
    let stands = slice_get-get_or listings n c.index-listings-number.result c.loop-number-test.true in
    let next : suc n ≡ n + 1 = omega arith in
    let adds = rw c.in_ok-name.ensures at c.in_ok-index-2.ensures in
    subst (λ (k : ℕ). IsIndexOf c.in_ok-index-2.index (λ (x : Listing). reverse_of x.addr) listings k) next
    (index_more c.loop-number.index c.in_ok-index-2.index (λ (x : Listing). reverse_of x.addr) listings n l stands c.loop-number.invariant adds)
