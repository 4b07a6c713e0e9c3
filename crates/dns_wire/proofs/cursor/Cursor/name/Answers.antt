use Rattle.std.proofs.Common.{refl, sym, ap, ◌∙◌, arith}
use Rattle.dns_data.specs.Record.{Compressed, Uncompressed}
use Rattle.dns_wire.specs.Cursor.{CursorData}
use Rattle.dns_wire.proofs.Names.{same_end, name_forward}
use Rattle.dns_wire.proofs.Cursors.{idle, reads, name_missed, from_view}
use Rattle.dns_wire.proofs.cursor.Cursor.name.Goals as goal

pub returns-then-not-self-clause-compressed : goal.returns-then-not-self-clause-compressed
returns-then-not-self-clause-compressed c =
    idle {f = Compressed c.root.result} refl (sym (ap (λ (v : CursorData). v.is_sound) c.self.view_is) ∙ c.if-not-self.true)

pub returns-then-self-behind-clause-compressed : goal.returns-then-self-behind-clause-compressed
returns-then-self-behind-clause-compressed c =
    from_view c.self.view_is (name_missed {f = Compressed c.in-Ok.name} (omega arith) refl (λ labels end h inside.
    omega (arith, inside, c.if-self-behind.true, same_end c.self.inside.bytes.now c.self.inside.at end c.in-Ok.behind labels c.in-Ok.name h c.in-Ok.ensures.spelt)))

pub returns-else-self-behind-clause-compressed : goal.returns-else-self-behind-clause-compressed
returns-else-self-behind-clause-compressed c =
    from_view c.self.view_is (reads {f = Compressed c.in-Ok.name} c.in-Ok.behind refl c.if-not-self.false c.in-Ok.ensures.spelt tt (omega (arith, name_forward c.in-Ok.ensures.spelt.spelt)))

pub returns-in-Err-Bad-clause-compressed : goal.returns-in-Err-Bad-clause-compressed
returns-in-Err-Bad-clause-compressed c =
    let none = rw c.in-Err-Bad.field-0-is at c.in-Err-Bad.ensures.spelt in
    from_view c.self.view_is (name_missed {f = Compressed c.root-in-Err-Bad.result} (omega arith) refl (λ labels end h inside. none (labels, end) h))

pub returns-then-not-self-clause-uncompressed : goal.returns-then-not-self-clause-uncompressed
returns-then-not-self-clause-uncompressed c =
    idle {f = Uncompressed c.root.result} refl (sym (ap (λ (v : CursorData). v.is_sound) c.self.view_is) ∙ c.if-not-self.true)

pub returns-then-self-behind-clause-uncompressed : goal.returns-then-self-behind-clause-uncompressed
returns-then-self-behind-clause-uncompressed c =
    from_view c.self.view_is (name_missed {f = Uncompressed c.in-Ok.name} (omega arith) refl (λ labels end h inside.
    omega (arith, inside, c.if-self-behind.true, same_end c.self.inside.bytes.now c.self.inside.at end c.in-Ok.behind labels c.in-Ok.name h c.in-Ok.ensures.spelt)))

pub returns-else-self-behind-clause-uncompressed : goal.returns-else-self-behind-clause-uncompressed
returns-else-self-behind-clause-uncompressed c =
    from_view c.self.view_is (reads {f = Uncompressed c.in-Ok.name} c.in-Ok.behind refl c.if-not-self.false c.in-Ok.ensures.spelt tt (omega (arith, name_forward c.in-Ok.ensures.spelt.spelt)))

pub returns-in-Err-Bad-clause-uncompressed : goal.returns-in-Err-Bad-clause-uncompressed
returns-in-Err-Bad-clause-uncompressed c =
    let none = rw c.in-Err-Bad.field-0-is at c.in-Err-Bad.ensures.spelt in
    from_view c.self.view_is (name_missed {f = Uncompressed c.root-in-Err-Bad.result} (omega arith) refl (λ labels end h inside. none (labels, end) h))
