use Rattle.std.proofs.Common.{sym, subst, ap, List, [], ◌∷◌, Some}
use Rattle.std.specs.Prelude.{is_some}
use Rattle.std.proofs.lemmas.Option.{same_Some}
use Rattle.block_readings.specs.Readings.{block_reading}
use Rattle.dns_data.specs.declared.file.FileText.{FileText}
use Rattle.lent_caches.specs.Held.{caches_data}
use Rattle.lent_caches.specs.Named.{named_data}
use Rattle.lent_caches.specs.declared.caches.Caches.{Caches}
use Rattle.lent_caches.specs.declared.name.NamedCache.{NamedCache}
use Rattle.chain_build.specs.Judges.{Judges}
use Rattle.chain_build.specs.Naming.{FindsSame, IsMadeFor, NamesReadings, change, generation_data}
use Rattle.chain_build.proofs.Namings.{is_cached, judges_block, made_on, names_new, names_on}
use Rattle.chain_build.proofs.naming.name_chain.Goals.{in-Some-kept, in-None+in_ok-named-in-None}
use Rattle.chain_build.proofs.naming.name_chain.Goals as goal

pub find_same-requires-clause-cached : goal.find_same-requires-clause-cached
find_same-requires-clause-cached c = is_cached c.as_slice.result.now c.args.to_name.now.block.now c.args.chain.now.cache c.in-Some.plan c.requires.cached c.in-Some.is

-- a chain without a cache
pub invariant_of-chain : goal.invariant_of-chain
invariant_of-chain c = record { one = c.args.chain.now.one; lone = c.args.chain.now.lone; judged = λ n is. absurd cc }

pub invariant_of-chain-2 : goal.invariant_of-chain-2
invariant_of-chain-2 c =
    let chain = c.args.chain.now in
    let naming = c.args.naming.now in
    let before = generation_data naming.before in
    let block = c.args.to_name.now.block.now in
    let reading = block_reading c.args.to_name.now.files.now block in
    let found : FindsSame before.readings before.named reading c.in_ok-kept.kept = subst (λ (files : List FileText). FindsSame before.readings before.named (block_reading files block) c.in_ok-kept.kept) c.as_slice.ensures c.in_ok-kept.ensures in
    let made : IsMadeFor reading (named_data c.match-kept.named) = elim c.match-kept.branch [
      | in-Some-kept w ↦ subst (λ (n : NamedCache). IsMadeFor reading (named_data n)) (sym w.named-is)
          (made_on naming reading (named_data w.in-Some-kept.named) (caches_data c.args.caches.now) c.requires.last (subst (FindsSame before.readings before.named reading) w.in-Some-kept.is found))
      | in-None+in_ok-named-in-None w ↦ subst (λ (n : NamedCache). IsMadeFor reading (named_data n)) (sym w.named-is) w.in_ok-named-in-None.ensures.begins.made
    ] in
    record {
      one = chain.one;
      lone = chain.lone;
      judged = λ n is. subst (λ (m : NamedCache). Judges (named_data m).cache.judge chain.cache chain.rewrites chain.back) (same_Some c.match-kept.named n is)
          (judges_block c.args.to_name.now.files.now block chain (named_data c.match-kept.named) c.requires.behind c.requires.cached made);
    }

pub returns-clause-named : goal.returns-clause-named
returns-clause-named c =
    let naming = c.args.naming.now in
    let at = c.args.to_name.now.at in
    let before = generation_data naming.before in
    let block = c.args.to_name.now.block.now in
    let reading = block_reading c.args.to_name.now.files.now block in
    let held = caches_data c.args.caches.now in
    let found : FindsSame before.readings before.named reading c.in_ok-kept.kept = subst (λ (files : List FileText). FindsSame before.readings before.named (block_reading files block) c.in_ok-kept.kept) c.as_slice.ensures c.in_ok-kept.ensures in
    let reads : NamesReadings naming at (reading ∷ []) (Some (named_data c.match-kept.named) ∷ []) (change held (caches_data c.match-kept.caches)) = elim c.match-kept.branch [
      | in-Some-kept w ↦ subst (λ (n : NamedCache). NamesReadings naming at (reading ∷ []) (Some (named_data n) ∷ []) (change held (caches_data c.match-kept.caches))) (sym w.named-is)
          (subst (λ (k : Caches). NamesReadings naming at (reading ∷ []) (Some (named_data w.in-Some-kept.named) ∷ []) (change held (caches_data k))) (sym w.caches-is)
          (names_on naming at reading (named_data w.in-Some-kept.named) held c.requires.last (subst (FindsSame before.readings before.named reading) w.in-Some-kept.is found)))
      | in-None+in_ok-named-in-None w ↦ subst (λ (n : NamedCache). NamesReadings naming at (reading ∷ []) (Some (named_data n) ∷ []) (change held (caches_data c.match-kept.caches))) (sym w.named-is)
          (subst (λ (k : Caches). NamesReadings naming at (reading ∷ []) (Some (named_data w.in_ok-named-in-None.named) ∷ []) (change held (caches_data k))) (sym w.caches-is)
          (names_new naming at reading (named_data w.in_ok-named-in-None.named) held _ (subst (FindsSame before.readings before.named reading) w.in-None.is found) w.in_ok-named-in-None.ensures.begins))
    ] in
    record { has = sym (ap is_some c.in-Some.is); reads = reads }
