use Rattle.std.proofs.Common.{◌≡◌, ◌∙◌, ◌++◌, ap, sym}
use Rattle.dns_data.specs.Message.{AnswerData, no_answer}
use Rattle.hosts_plugin.specs.Hosts.{HostsData, address_records, reply}
use Rattle.hosts_plugin.specs.Index.{picked}
use Rattle.hosts_plugin.specs.Options.{ttl_of}
use Rattle.hosts_plugin.proofs.Saying.{filled, name_listed, name_unlisted}
use Rattle.hosts_plugin.proofs.plan.HostsPlan.say_of_name.Goals as goal

pub returns-in_default : goal.returns-in_default
returns-in_default c =
    let is = name_unlisted c.args.self.now c.table-table.result.now c.args.query.now c.table-table.ensures c.in_default.ensures in
    rw (is, c.requires.clear) c.unlisted.ensures

pub returns : goal.returns
returns c =
    let p = c.self.inside in
    let table = c.table-table.result.now in
    let q = c.args.query.now in
    let s = c.slot.inside in
    let old : AnswerData = record { rcode = s.rcode; aa = s.aa; ra = s.ra; tc = s.tc; answer = s.answer; authority = s.authority; additional = s.additional } in
    let clear : old ≡ no_answer = c.slot.view_is ∙ c.requires.clear in
    let records = address_records q p.ttl (picked table.listings c.in-Some.set.now) in
    let ttl = c.self.invariant.ttl_is ∙ ap (λ (d : HostsData). ttl_of d.directive.body) c.self.view_is in
    let is = name_listed c.args.self.now table p.ttl q c.in-Some.set.now c.table-table.ensures ttl c.in-Some.ensures in
    let pushed : c.push_addresses.new.out ≡ old.answer ++ records = rw c.as_slice-listings.ensures at c.in_ok-push_addresses.ensures in
    is ∙ ap reply (sym (filled old c.push_addresses.new.out records clear pushed))
