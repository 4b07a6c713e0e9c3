use Rattle.std.proofs.Common.{◌++◌, ◌∙◌, arith}
use Rattle.std.specs.List.{filter}
use Rattle.zone_tree.specs.Sets.{is_kind, picked}
use Rattle.zone_tree.proofs.Glue.{hosts_more}
use Rattle.zone_tree.proofs.hosts.hosts_of.Goals as goal

pub loop-i-preserved : goal.loop-i-preserved
loop-i-preserved c =
    let servers = c.as_slice-in-loop-i.ensures ∙ c.in_ok-copy_kind.ensures.ok
    ∙ (λ j. c.clear.ensures j ++ filter (is_kind 2) (picked (c.as_slice-records.ensures j) (c.as_slice.ensures j))) in
    rw c.in_ok-push.ensures.items (
    hosts_more c.args.table.now c.args.zone.now c.args.sets.now c.loop-i.hosts.items c.loop-i.i c.index-sets-i.result c.in_ok-few_hosts.field-0 c.as_slice-in-loop-i.result.now c.requires.sets c.loop-i.invariant (omega arith)
    c.index-sets-i.is servers c.in_ok-few_hosts.ensures
    )
