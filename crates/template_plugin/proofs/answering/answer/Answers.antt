use Rattle.std.proofs.Common.{◌∙◌, ap, Bool}
use Rattle.dns_data.specs.Message.{AnswerData}
use Rattle.template_plugin.specs.Parts.{full_answer}
use Rattle.template_plugin.specs.Template.{said_of}
use Rattle.template_plugin.proofs.Saying.{slot_full}
use Rattle.template_plugin.proofs.answering.answer.Goals as goal

pub returns-then-not-branch : goal.returns-then-not-branch
returns-then-not-branch c =
    let p = c.in_ok-push_sections.ensures in
    let none = p.value c.args.rcode ∙ ap (λ (full : Bool). full_answer full c.args.rcode c.push_sections.new.slot) c.if-not-branch.true in
    (ap said_of none, c.clear.ensures)

pub returns : goal.returns
returns c =
    let p = c.in_ok-push_sections.ensures in
    let s = c.slot.inside in
    let old : AnswerData = record { rcode = s.rcode; aa = s.aa; ra = s.ra; tc = s.tc; answer = s.answer; authority = s.authority; additional = s.additional } in
    let some = p.value c.args.rcode ∙ ap (λ (full : Bool). full_answer full c.args.rcode c.push_sections.new.slot) c.if-not-branch.false in
    ap said_of some ∙ slot_full c.args.rcode old c.push_sections.new.slot c.slot.view_is p.flags.0 p.flags.1
