use Rattle.std.proofs.Common.{nat_eq, ℕ, List, ap, ◌∙◌}
use Rattle.std.specs.Cmp.Lexicographic.{pointwise}
use Rattle.std.specs.List.{list_any}
use Rattle.dns_data.specs.Record.{RecordData}
use Rattle.zone_file.specs.Keys.{is_same_record, record_key}
use Rattle.zone_file.proofs.kept.Kept.has.Goals as goal

pub returns : goal.returns
returns c =
    c.contains.ensures ∙ c.self.invariant.keys c.args.key.now
    ∙ ap (λ (bytes : List ℕ). list_any (λ k. pointwise nat_eq (record_key k) bytes) c.self.inside.records) c.requires
    ∙ ap (λ (records : List RecordData). list_any (is_same_record c.args.read.now) records) c.self.view_is
