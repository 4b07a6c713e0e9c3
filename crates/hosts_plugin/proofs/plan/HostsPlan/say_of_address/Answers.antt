use Rattle.std.proofs.Common.{◌≡◌, ◌∙◌, ◌++◌, ap, sym, map}
use Rattle.dns_data.specs.{owned_by}
use Rattle.dns_data.specs.Message.{AnswerData, no_answer}
use Rattle.hosts_plugin.specs.Hosts.{HostsData, reply}
use Rattle.hosts_plugin.specs.Index.{picked}
use Rattle.hosts_plugin.specs.Options.{has_no_reverse, ttl_of}
use Rattle.hosts_plugin.proofs.Saying.{address_listed, address_unlisted, filled}
use Rattle.hosts_plugin.proofs.plan.HostsPlan.say_of_address.Goals as goal

pub returns-in_default : goal.returns-in_default
returns-in_default c =
    let off = ap (λ (d : HostsData). has_no_reverse d.directive.body) (sym c.self.view_is) ∙ sym c.self.invariant.no_reverse_is ∙ c.if-self.false in
    (address_unlisted c.args.self.now c.table-table.result.now c.args.query.now c.table-table.ensures off c.in_default.ensures, c.requires.clear)

pub returns : goal.returns
returns c =
    let p = c.self.inside in
    let table = c.table-table.result.now in
    let q = c.args.query.now in
    let s = c.slot.inside in
    let old : AnswerData = record { rcode = s.rcode; aa = s.aa; ra = s.ra; tc = s.tc; answer = s.answer; authority = s.authority; additional = s.additional } in
    let clear : old ≡ no_answer = c.slot.view_is ∙ c.requires.clear in
    let records = map (owned_by q.name p.ttl) (picked table.pointers c.in-Some.set.now) in
    let off = ap (λ (d : HostsData). has_no_reverse d.directive.body) (sym c.self.view_is) ∙ sym c.self.invariant.no_reverse_is ∙ c.if-self.false in
    let ttl = c.self.invariant.ttl_is ∙ ap (λ (d : HostsData). ttl_of d.directive.body) c.self.view_is in
    let is = address_listed c.args.self.now table p.ttl q c.in-Some.set.now c.table-table.ensures ttl off c.in-Some.ensures in
    let pushed : c.push_pointers.new.out ≡ old.answer ++ records = rw c.as_slice-pointers.ensures at c.in_ok-push_pointers.ensures in
    is ∙ ap reply (sym (filled old c.push_pointers.new.out records clear pushed))
