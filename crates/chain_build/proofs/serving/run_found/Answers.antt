use Rattle.std.proofs.Common.{List, slice_set as set, subst, sym, ap, ◌∙◌}
use Rattle.std.proofs.lemmas.List.{set-get_or}
use Rattle.chain_meaning.specs.CallsByRun.{NumberedMark, Shared, run_calls}
use Rattle.chain_build.specs.Logs.{LoggedCalls, logs_of}
use Rattle.chain_build.specs.Plans.{steps_in}
use Rattle.chain_build.specs.Uses.{IsUsed, SameUses}
use Rattle.chain_build.specs.declared.block_uses.BlockUses.{BlockUses}
use Rattle.chain_build.proofs.Logging.{block_grows, held_grows}
use Rattle.chain_build.proofs.PlacesOfParts.{chain_grows}
use Rattle.chain_build.proofs.Pooled.{used_at, used_same, used_set}
use Rattle.chain_build.proofs.serving.run_found.Goals as goal

pub returns-clause-takes : goal.returns-clause-takes
returns-clause-takes g c =
    let held = c.args.held.now in
    let n = c.args.found.0 in
    let chain = c.args.found.1.now in
    let new = c.run_chain.new.uses in
    let at = used_at c.args.plans.now.chains held.uses.items n chain c.index_mut-2.result.now c.requires.holds.used c.requires.chain in
    let takes = c.run_chain.ensures.takes in
    let same = subst (λ (u : BlockUses). SameUses u new) c.index_mut-2.ensures.value c.run_chain.ensures.same in
    let calls : Shared → List NumberedMark = λ which. run_calls which (steps_in g.B.Rulebook.said chain) c.args.walk.now.query.now takes.takes.marks in
    let logged = subst (λ (u : BlockUses). (which : Shared) → LoggedCalls (calls which) (logs_of which u) (logs_of which new)) c.index_mut-2.ensures.value takes.logged in
    let after = used_set c.args.plans.now.chains held.uses.items n _ new at.0 c.requires.holds.used same in
    record {
      takes = takes.takes;
      grown = chain_grows held.serial n calls chain new _ at.2 (used_same chain _ new same at.2) logged c.args.plans.now.chains held.uses.items c.requires.holds.used after at.1;
      follows = held_grows held.uses.items n _ new at.0 (block_grows _ new calls same logged);
    }

pub returns-clause-holds : goal.returns-clause-holds
returns-clause-holds g c =
    let held = c.args.held.now in
    let n = c.args.found.0 in
    let new = c.run_chain.new.uses in
    let kept = ap (set held.seats.items n) (c.run_chain.ensures.seated ∙ c.index_mut.ensures.value) ∙ set-get_or held.seats.items n _ in
    let at = used_at c.args.plans.now.chains held.uses.items n c.args.found.1.now c.index_mut-2.result.now c.requires.holds.used c.requires.chain in
    let same = subst (λ (u : BlockUses). SameUses u new) c.index_mut-2.ensures.value c.run_chain.ensures.same in
    record { seated = kept ∙ c.requires.holds.seated; used = used_set c.args.plans.now.chains held.uses.items n _ new at.0 c.requires.holds.used same }

pub run_chain-requires-clause-used : goal.run_chain-requires-clause-used
run_chain-requires-clause-used g c =
    let at = used_at c.args.plans.now.chains c.args.held.now.uses.items c.args.found.0 c.args.found.1.now c.index_mut-2.result.now c.requires.holds.used c.requires.chain in
    subst (λ (u : BlockUses). IsUsed c.args.found.1.now u) (sym c.index_mut-2.ensures.value) at.2
