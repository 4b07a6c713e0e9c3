use Rattle.std.proofs.Common.{refl, sym, ap, ◌∙◌}
use Rattle.dns_data.specs.Record.{CharStrings}
use Rattle.dns_wire.specs.Cursor.{CursorData}
use Rattle.dns_wire.proofs.Cursors.{idle, strings_missed, from_view}
use Rattle.dns_wire.proofs.cursor.Cursor.strings.Goals as goal

pub returns-then-not-self : goal.returns-then-not-self
returns-then-not-self c = idle {f = CharStrings c.new.result} refl (sym (ap (λ (v : CursorData). v.is_sound) c.self.view_is) ∙ c.if-not-self.true)

pub returns-in-Err-Bad : goal.returns-in-Err-Bad
returns-in-Err-Bad c =
    let none = rw c.in-Err-Bad.field-0-is at c.in-Err-Bad.ensures.spelt in
    from_view c.self.view_is (strings_missed {f = CharStrings c.new-in-Err-Bad.result} refl refl none)
