use Rattle.std.proofs.Common.{◌≡◌, ◌∷◌, ◌++◌, ◌||◌, [], Bool, List, sym, ap, subst, ◌∙◌}
use Rattle.dns_data.specs.Record.{RecordData}
use Rattle.zone_file.specs.Keys.{record_key, side_key}
use Rattle.zone_file.specs.Kept.{IsKept}
use Rattle.zone_file.specs.Zones.{is_soa}
use Rattle.zone_file.proofs.KeptSets.{key_push, side_of, soa_push}
use Rattle.zone_file.proofs.kept.Kept.with.Goals as goal

pub invariant_of-result : goal.invariant_of-result
invariant_of-result c =
    let push : c.push.new.self ≡ c.self.inside.records ++ c.args.read ∷ [] = c.in_ok-push.ensures.ok in
    let side : c.in_ok-side.side.items ≡ side_of c.args.read =
    c.in_ok-side.ensures ∙ ap (λ (r : RecordData). side_key r.owner c.is_cname.result) c.read.view_is ∙ ap (λ (b : Bool). side_key c.args.read.owner b) c.is_cname.ensures in
    let soa : c.either-has_soa.result ≡ (c.self.inside.has_soa || is_soa c.args.read) =
    c.either-has_soa.ensures ∙ ap (λ (b : Bool). c.self.inside.has_soa || b) c.is_soa.ensures in
    subst (λ (records : List RecordData). IsKept records c.insert.new.self c.insert-2.new.self c.either-has_soa.result) (sym push)
    (record {
      keys = key_push record_key c.self.inside.records c.args.read c.self.inside.keys c.insert.new.self c.args.key c.requires c.self.invariant.keys c.in_ok-insert.ensures.updates.0;
      sides = key_push side_of c.self.inside.records c.args.read c.self.inside.sides c.insert-2.new.self c.in_ok-side.side side c.self.invariant.sides c.in_ok-insert-2.ensures.updates.0;
      soa = soa_push c.self.inside.records c.args.read c.self.inside.has_soa c.either-has_soa.result c.self.invariant.soa soa;
    })
