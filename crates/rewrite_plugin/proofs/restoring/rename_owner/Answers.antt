use Rattle.std.proofs.Common.{◌≡◌, ◌∙◌, ap}
use Rattle.dns_data.specs.{RecordData}
use Rattle.rewrite_plugin.specs.Answers.{owned_or, replaced_name}
use Rattle.rewrite_plugin.proofs.InPlace.{changed_as}
use Rattle.rewrite_plugin.proofs.restoring.rename_owner.Goals as goal

pub returns-clause-section : goal.returns-clause-section
returns-clause-section c =
    let x : RecordData = c.index-as_slice-index.result in
    let made : c.in_ok-known.known.to ≡ replaced_name c.args.replacing.now x.owner = c.in_ok-known.ensures.to ∙ ap (λ (r : RecordData). replaced_name c.args.replacing.now r.owner) c.entry.view_is in
    changed_as (λ (r : RecordData). owned_or r c.in_ok-known.known.to) (λ (r : RecordData). owned_or r (replaced_name c.args.replacing.now r.owner)) c.args.section.now c.as_slice.result.now _ c.args.index x
    c.as_slice.ensures c.index-as_slice-index.is (ap (owned_or x) made) c.in_ok-set_made.ensures
