use Rattle.std.proofs.Common.{◌++◌, ◌∙◌, ap, arith}
use Rattle.zone_lookup.specs.Zone.{set_at}
use Rattle.zone_tree.specs.Sets.{picked}
use Rattle.zone_tree.proofs.Glue.{served, hosts_known}
use Rattle.zone_tree.proofs.ready.sections_at.Goals as goal

pub index-requires : goal.index-requires
index-requires c = omega (arith, c.requires.inside, c.requires.tree.hosts.as_many)

pub index-requires-2 : goal.index-requires-2
index-requires-2 c = omega (arith, c.requires.inside, c.requires.tree.sets.as_many)

pub returns : goal.returns
returns c name n =
    let tree = c.args.tree.now in
    record {
      authority = served tree name c.args.number c.index-2.result.now _ _ c.new-servers.result c.copy_kind.new.out c.requires.tree n c.index-2.ensures c.as_slice-records.ensures c.as_slice-set.ensures c.in_ok-copy_kind.ensures.ok
          ∙ ap (λ rs. rs ++ set_at tree.zone name 2) c.new-servers.ensures;
      additional = c.in_ok-copy_numbers.ensures ∙ (λ j. c.new-hosts.ensures j ++ picked (c.as_slice-records.ensures j) (c.as_slice.ensures j))
          ∙ hosts_known tree name c.args.number c.index.result.now c.in-Some.numbers c.requires.tree n c.index.ensures c.in-Some.is;
    }
