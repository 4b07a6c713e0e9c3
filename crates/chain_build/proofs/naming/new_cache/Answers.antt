use Rattle.std.proofs.Common.{◌≡◌, arith}
use Rattle.block_readings.specs.Readings.{block_reading}
use Rattle.lent_caches.specs.Held.{caches_data}
use Rattle.lent_caches.specs.Named.{IsHeldBy, named_data}
use Rattle.chain_build.specs.Naming.{BeginsCache, name_at}
use Rattle.chain_build.proofs.Namings.{adds_one, begins, if_both, made_named}
use Rattle.chain_build.proofs.naming.new_cache.Goals as goal

pub which-requires : goal.which-requires
which-requires c = made_named (name_at c.args.naming.now.serial c.args.to_name.now.at) _ _ (caches_data c.args.caches.now) (caches_data c.make.new.self) c.in_ok-make.ensures.made

pub returns-clause-adds : goal.returns-clause-adds
returns-clause-adds c = adds_one c.args.naming.now.serial c.args.to_name.now.at _ _ (caches_data c.args.caches.now) (caches_data c.make.new.self) c.in_ok-make.ensures.made c.requires.absent c.requires.apart

pub returns-clause-begins : goal.returns-clause-begins
returns-clause-begins c =
    let name = name_at c.args.naming.now.serial c.args.to_name.now.at in
    let files = c.args.to_name.now.files.now in
    let block = c.args.to_name.now.block.now in
    let before = caches_data c.args.caches.now in
    let after = caches_data c.make.new.self in
    if_both c.which.result (λ n. (named_data n).name ≡ name) (λ n. IsHeldBy (named_data n) after) (λ n. BeginsCache name (block_reading files block) (named_data n) before after)
    (λ n named by. begins name files block c.args.plan.now _ (named_data n) before after c.in_ok-make.ensures.made (λ i. block_reading (c.of.ensures i) (c.of-2.ensures i)) c.requires.plan (c.requires.absent c.args.to_name.now.at (omega arith)) named by)
    c.which.ensures.name c.which.ensures.held
