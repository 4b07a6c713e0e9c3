use Rattle.std.proofs.Common.{sym, ap, ◌∙◌}
use Rattle.dns_wire.specs.Cursor.{CursorData}
use Rattle.dns_wire.proofs.Cursors.{no_data}
use Rattle.dns_wire.proofs.cursor.Cursor.finish.Goals as goal

pub returns-then-not-self : goal.returns-then-not-self
returns-then-not-self c = λ bytes start limit h. record {
  spelt = no_data c.args.rdata h c.requires.kind_is c.requires.known c.requires.shapes
      (λ sound. absurd (let clash = sym c.if-not-self.true ∙ ap (λ (v : CursorData). v.is_sound) c.self.view_is ∙ sound in cc));
  form = tt;
}

pub returns-then-self : goal.returns-then-self
returns-then-self c = λ bytes start limit h. record {
  spelt = no_data c.args.rdata h c.requires.kind_is c.requires.known c.requires.shapes
      (λ sound used. c.if-self.true (ap (λ (v : CursorData). v.at) c.self.view_is ∙ used ∙ sym (ap (λ (v : CursorData). v.limit) c.self.view_is)));
  form = tt;
}
