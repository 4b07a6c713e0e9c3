use Rattle.std.proofs.Common.{◌≡◌, nat_eq, ℕ, Bool, List, ap, ◌∙◌}
use Rattle.std.specs.Prelude.{not}
use Rattle.std.specs.Cmp.Lexicographic.{pointwise}
use Rattle.std.specs.List.{list_any}
use Rattle.dns_data.specs.Record.{RecordData}
use Rattle.zone_file.specs.Keys.{is_cname, mixes, side_key}
use Rattle.zone_file.proofs.kept.Kept.mixes.Goals as goal

pub returns : goal.returns
returns c =
    let key : c.in_ok-side.side.items ≡ side_key c.args.read.now.owner (not (is_cname c.args.read.now)) =
    c.in_ok-side.ensures ∙ ap (λ (r : RecordData). side_key r.owner (not c.is_cname.result)) c.read.view_is
    ∙ ap (λ (b : Bool). side_key c.args.read.now.owner (not b)) c.is_cname.ensures in
    c.contains.ensures ∙ c.self.invariant.sides c.in_ok-side.side
    ∙ ap (λ (bytes : List ℕ). list_any (λ k. pointwise nat_eq (side_key k.owner (is_cname k)) bytes) c.self.inside.records) key
    ∙ ap (λ (records : List RecordData). list_any (mixes c.args.read.now) records) c.self.view_is
