use Rattle.std.proofs.Common.{◌≡◌, ◌∙◌, Bool, false, Some, None, sym, ap}
use Rattle.std.specs.Prelude.{if◌then◌else◌}
use Rattle.dns_data.specs.{RecordData, is_same}
use Rattle.rewrite_plugin.specs.Answers.{owned_or, record_restored}
use Rattle.rewrite_plugin.specs.declared.rule.Answering.TheVariants as answering
use Rattle.rewrite_plugin.proofs.InPlace.{left_at}
use Rattle.rewrite_plugin.proofs.restoring.restore_owner.Goals as goal

pub returns : goal.returns
returns c =
    let x : RecordData = c.index-as_slice-index.result in
    let other : is_same x.owner c.args.step.now.after ≡ false = ap (λ (r : RecordData). is_same r.owner c.args.step.now.after) (sym c.entry.view_is) ∙ sym c.same.ensures.test ∙ c.if-same.false in
    left_at (record_restored answering.Auto c.args.step.now) c.args.section.now c.as_slice.result.now c.args.index x
    c.as_slice.ensures c.index-as_slice-index.is (ap (λ (b : Bool). owned_or x (if b then Some c.args.step.now.before else None)) other)
