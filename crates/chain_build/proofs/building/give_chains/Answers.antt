use Rattle.std.proofs.Common.{◌≡◌, ◌∙◌, ◌+◌, ℕ, List, [], ap, append-nil, reverse, rules, subst, sym, vec_len, arith}
use Rattle.std.proofs.lemmas.List.{reverse-reverse}
use Rattle.std.proofs.lemmas.List.Sorted.{sum_by-IsPermutation}
use Rattle.dns_data.specs.declared.directive.Directive.{Directive}
use Rattle.extra_stock.specs.{asked_by, in_chains, names_weigh, seats_in, seats_of_chains}
use Rattle.lent_caches.specs.Held.{LentData, caches_data, given_all}
use Rattle.lent_caches.specs.Ledger.{AllHeld}
use Rattle.chain_build.specs.Lending.{uses_lents}
use Rattle.chain_build.specs.Workers.{chain_extras, chain_lents, chains_lents}
use Rattle.chain_build.proofs.Coming.{moved, none_left, one_gone}
use Rattle.chain_build.proofs.Lendings.{given_apart}
use Rattle.chain_build.proofs.LentChains.{first_home, others_given, others_home}
use Rattle.chain_build.proofs.building.give_chains.Goals as goal

pub loop-chain-init : goal.loop-chain-init
loop-chain-init g c =
    let old = c.args.chains.now.items in
    let new = c.reverse.new.self.items in
    let same = c.reverse.ensures.permutation in
    let hs = caches_data c.args.caches.now in
    let lents : chains_lents (reverse new) ≡ chains_lents old = ap (λ cs. chains_lents (reverse cs)) c.reverse.ensures.items ∙ ap (λ cs. chains_lents cs) (reverse-reverse old) in
    record {
      obey = c.requires.obey;
      weighs = λ w. ap (λ (n : ℕ). names_weigh g.E.Extra.title w c.args.stock.now.spare.items + n) (sum_by-IsPermutation (λ k. asked_by w (chain_extras k)) old new same);
      len = ap (λ (n : ℕ). vec_len c.args.stock.now.spare + n) (sum_by-IsPermutation (λ k. seats_in (chain_extras k)) old new same);
      capacity = search rules;
      kept = search rules;
      judges = search rules;
      given = ap (λ (us : List LentData). given_all us hs) lents;
      held = subst (λ (us : List LentData). AllHeld us hs) (sym lents) c.requires.held;
      apart = c.requires.apart;
    }

pub give_blocks-requires-clause-room : goal.give_blocks-requires-clause-room
give_blocks-requires-clause-room g c =
    let rest = c.pop.new.self.items in
    let chain = c.in-Some.chain in
    let gone = one_gone (λ k. seats_in (chain_extras k)) c.loop-chain.chains.items rest chain c.in-Some.ensures.items in
    let was = c.loop-chain.invariant.len in
    let same = c.loop-chain.invariant.capacity in
    let room = c.requires.room in
    let here : seats_in c.into_inner-seats.result.seats.items ≡ seats_in (chain_extras chain) = search rules in
    omega (arith, gone, was, same, room, here)

pub give_uses-requires-clause-held : goal.give_uses-requires-clause-held
give_uses-requires-clause-held g c =
    let hs = caches_data c.loop-chain.caches in
    subst (λ h. AllHeld (uses_lents h.uses.items) hs) (sym c.into_inner-seats.ensures)
    (first_home c.loop-chain.chains.items c.pop.new.self.items c.in-Some.chain hs c.in-Some.ensures.items c.loop-chain.invariant.held)

pub loop-chain-preserved : goal.loop-chain-preserved
loop-chain-preserved g c =
    let rest = c.pop.new.self.items in
    let chain = c.in-Some.chain in
    let old = c.loop-chain.chains.items in
    let is = c.in-Some.ensures.items in
    let was = c.loop-chain.invariant in
    let back = c.give_blocks.ensures in
    let hs = caches_data c.loop-chain.caches in
    let after = caches_data c.give_uses.new.caches in
    let seats : c.into_inner-seats.result.seats.items ≡ chain_extras chain = search rules in
    let given : after ≡ given_all (chain_lents chain) hs = c.give_uses.ensures ∙ ap (λ h. given_all (uses_lents h.uses.items) hs) c.into_inner-seats.ensures in
    record {
      obey = back.obey;
      weighs = λ w. moved (names_weigh g.E.Extra.title w c.loop-chain.stock.spare.items) (names_weigh g.E.Extra.title w c.give_blocks.new.spare.items) (in_chains chain_extras w old) (in_chains chain_extras w rest)
          (asked_by w (chain_extras chain)) (names_weigh g.E.Extra.title w c.args.stock.now.spare.items + in_chains chain_extras w c.args.chains.now.items) (was.weighs w)
          (one_gone (λ k. asked_by w (chain_extras k)) old rest chain is)
          (back.weighs w ∙ ap (λ (bs : List (List Directive)). names_weigh g.E.Extra.title w c.loop-chain.stock.spare.items + asked_by w bs) seats);
      len = moved (vec_len c.loop-chain.stock.spare) (vec_len c.give_blocks.new.spare) (seats_of_chains chain_extras old) (seats_of_chains chain_extras rest) (seats_in (chain_extras chain))
          (vec_len c.args.stock.now.spare + seats_of_chains chain_extras c.args.chains.now.items) was.len (one_gone (λ k. seats_in (chain_extras k)) old rest chain is)
          (back.len ∙ ap (λ (bs : List (List Directive)). vec_len c.loop-chain.stock.spare + seats_in bs) seats);
      capacity = search rules;
      kept = search rules;
      judges = search rules;
      given = others_given old rest chain hs after is given ∙ was.given;
      held = others_home old rest chain hs after is was.held given;
      apart = given_apart (chain_lents chain) hs after given was.apart;
    }

pub returns-clause-given : goal.returns-clause-given
returns-clause-given g c =
    let gone : c.pop.new.self.items ≡ [] = search rules in
    let none : c.loop-chain.chains.items ≡ [] = c.in_default.ensures.items ∙ append-nil c.pop.new.self.items ∙ gone in
    let hs = caches_data c.loop-chain.caches in
    sym (ap (λ cs. given_all (chains_lents (reverse cs)) hs) none) ∙ c.loop-chain.invariant.given

pub returns-clause-len : goal.returns-clause-len
returns-clause-len g c =
    let gone : c.pop.new.self.items ≡ [] = search rules in
    let none : c.loop-chain.chains.items ≡ [] = c.in_default.ensures.items ∙ append-nil c.pop.new.self.items ∙ gone in
    none_left (λ k. seats_in (chain_extras k)) c.loop-chain.chains.items (vec_len c.loop-chain.stock.spare) (vec_len c.args.stock.now.spare + seats_of_chains chain_extras c.args.chains.now.items) none c.loop-chain.invariant.len
