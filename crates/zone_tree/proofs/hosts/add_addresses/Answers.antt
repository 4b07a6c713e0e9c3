use Rattle.zone_tree.specs.Sets.{picked}
use Rattle.zone_tree.proofs.Glue.{addresses_two, addresses_none}
use Rattle.zone_tree.proofs.hosts.add_addresses.Goals as goal

pub returns-in_ok-add_set-2 : goal.returns-in_ok-add_set-2
returns-in_ok-add_set-2 c =
    rw c.in-Some.is (addresses_two c.args.zone.now (picked c.args.zone.now.records c.add_set.new.hosts) (picked c.args.zone.now.records c.add_set-in-Some.new.hosts) (picked c.args.zone.now.records c.args.hosts.now) c.in-Some.name.now
    c.in_ok-add_set.ensures c.in_ok-add_set-2.ensures)

pub returns-in_default : goal.returns-in_default
returns-in_default c = rw c.in_default.is (addresses_none c.args.zone.now (picked c.args.zone.now.records c.args.hosts.now))
