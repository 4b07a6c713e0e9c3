use Rattle.std.proofs.Common.{◌≡◌, ◌∙◌, ap, sym, option_map, Some}
use Rattle.dns_names.specs.NameText.{name_text}
use Rattle.dns_names.specs.NameTextLaws.{are_bytes}
use Rattle.dns_data.specs.Record.{address_record}
use Rattle.template_plugin.specs.Made.{filling_data}
use Rattle.template_plugin.specs.Parts.{with_one}
use Rattle.template_plugin.proofs.Headed.{record_is, some_size}
use Rattle.template_plugin.proofs.answering.push_headed.Goals as goal

pub behind_name-requires : goal.behind_name-requires
behind_name-requires c = some_size c.args.parts.now c.args.head c.requires.head

pub returns-in_default : goal.returns-in_default
returns-in_default c =
    let owner = c.in_ok-owner.owner in
    let bytes = are_bytes c.as_wire.result.now owner c.as_wire.ensures.value c.are_bytes.ensures in
    let named : c.args.filling.now.name.now ≡ name_text owner = c.requires.name ∙ ap name_text (sym c.in_ok-owner.ensures) in
    let is = record_is (filling_data c.args.filling.now) c.args.parts.now c.args.head c.requires.head owner c.clear.new.self c.fill_in.new.out c.behind-word.result.now c.behind_name.result.now
    c.is_simple.result c.read_address.result named c.as_wire.ensures.proper bytes c.behind_name.ensures c.clear.ensures c.in_ok-fill_in.ensures (rw c.as_slice.ensures at c.behind-word.ensures)
    c.is_simple.ensures c.if-not-is_simple.false c.read_address.ensures in
    ap (with_one c.args.out.now) (is ∙ ap (option_map (address_record owner c.args.head.ttl)) c.in_default.is)

pub returns : goal.returns
returns c =
    let owner = c.in_ok-owner.owner in
    let bytes = are_bytes c.as_wire.result.now owner c.as_wire.ensures.value c.are_bytes.ensures in
    let named : c.args.filling.now.name.now ≡ name_text owner = c.requires.name ∙ ap name_text (sym c.in_ok-owner.ensures) in
    let is = record_is (filling_data c.args.filling.now) c.args.parts.now c.args.head c.requires.head owner c.clear.new.self c.fill_in.new.out c.behind-word.result.now c.behind_name.result.now
    c.is_simple.result c.read_address.result named c.as_wire.ensures.proper bytes c.behind_name.ensures c.clear.ensures c.in_ok-fill_in.ensures (rw c.as_slice.ensures at c.behind-word.ensures)
    c.is_simple.ensures c.if-not-is_simple.false c.read_address.ensures in
    ap (with_one c.args.out.now) (is ∙ ap (option_map (address_record owner c.args.head.ttl)) c.in-Some.is) ∙ ap Some (sym c.in_ok-push_address.ensures.ok)
