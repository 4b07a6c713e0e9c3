use Rattle.std.proofs.Common.{◌≡◌, ◌∙◌, List, [], Result, subst, rules}
use Rattle.dns_lists.specs.declared.memory.NoMemory.{NoMemory}
use Rattle.lent_caches.specs.Held.{caches_data}
use Rattle.chain_build.specs.Lending.{Lends}
use Rattle.chain_build.specs.declared.block_uses.BlockUses.{BlockUses}
use Rattle.chain_build.proofs.Lendings.{lends_apart, lent_all, undone}
use Rattle.chain_build.proofs.lending.lend_uses.Goals as goal

pub give_uses-requires-clause-held : goal.give_uses-requires-clause-held
give_uses-requires-clause-held c =
    let none : c.in_ok-all.all.items ≡ [] = search rules in
    let l = subst (λ (old : List BlockUses). Lends c.args.chains.now (caches_data c.args.caches.now) (caches_data c.lend_more.new.caches) old c.lend_more.new.all.items c.lend_more.result) none c.lend_more.ensures.lends in
    (undone c.args.chains.now (caches_data c.args.caches.now) (caches_data c.lend_more.new.caches) c.lend_more.new.all.items c.lend_more.result l).0

pub give_uses-requires-clause-apart : goal.give_uses-requires-clause-apart
give_uses-requires-clause-apart c =
    lends_apart c.args.chains.now (caches_data c.args.caches.now) (caches_data c.lend_more.new.caches) c.in_ok-all.all.items c.lend_more.new.all.items c.lend_more.result c.lend_more.ensures.lends c.requires.apart

pub returns-in-Err-clause-fails : goal.returns-in-Err-clause-fails
returns-in-Err-clause-fails c =
    let none : c.in_ok-all.all.items ≡ [] = search rules in
    let l = subst (λ (old : List BlockUses). Lends c.args.chains.now (caches_data c.args.caches.now) (caches_data c.lend_more.new.caches) old c.lend_more.new.all.items c.lend_more.result) none c.lend_more.ensures.lends in
    c.give_uses.ensures ∙ (undone c.args.chains.now (caches_data c.args.caches.now) (caches_data c.lend_more.new.caches) c.lend_more.new.all.items c.lend_more.result l).1

pub returns-in-Ok-clause-lent : goal.returns-in-Ok-clause-lent
returns-in-Ok-clause-lent c =
    let none : c.in_ok-all.all.items ≡ [] = search rules in
    let l = subst (λ (old : List BlockUses). Lends c.args.chains.now (caches_data c.args.caches.now) (caches_data c.lend_more.new.caches) old c.lend_more.new.all.items c.lend_more.result) none c.lend_more.ensures.lends in
    let ok = subst (λ (r : Result (Unit {0}) NoMemory). Lends c.args.chains.now (caches_data c.args.caches.now) (caches_data c.lend_more.new.caches) [] c.lend_more.new.all.items r) c.in-Ok.is l in
    (lent_all c.args.chains.now (caches_data c.args.caches.now) (caches_data c.lend_more.new.caches) c.lend_more.new.all.items tt ok).1.1.0

pub returns-in-Ok-clause-new : goal.returns-in-Ok-clause-new
returns-in-Ok-clause-new c =
    let none : c.in_ok-all.all.items ≡ [] = search rules in
    let l = subst (λ (old : List BlockUses). Lends c.args.chains.now (caches_data c.args.caches.now) (caches_data c.lend_more.new.caches) old c.lend_more.new.all.items c.lend_more.result) none c.lend_more.ensures.lends in
    let ok = subst (λ (r : Result (Unit {0}) NoMemory). Lends c.args.chains.now (caches_data c.args.caches.now) (caches_data c.lend_more.new.caches) [] c.lend_more.new.all.items r) c.in-Ok.is l in
    (lent_all c.args.chains.now (caches_data c.args.caches.now) (caches_data c.lend_more.new.caches) c.lend_more.new.all.items tt ok).1.1.1
