use Rattle.std.proofs.Common.{◌≡◌, drop, ◌∙◌}
use Rattle.dns_names.specs.NameLaws.{spells_name, proper, IsName-drop}
use Rattle.dns_names.proofs.NameWalks.{rest_of}
use Rattle.std.proofs.lemmas.Result.{IfOk-weaker}
use Rattle.dns_names.specs.Name.{labels_of}
use Rattle.dns_names.proofs.name.Name.suffix.Goals as goal

pub of_wire-requires : goal.of_wire-requires
of_wire-requires c =
    let r = rest_of c.self.inside.wire c.as_slice.result.now c.behind.result.now c.args.self.now c.args.from c.requires c.self.view_is c.as_slice.ensures c.behind.ensures in
    (spells_name c.behind.result.now (drop c.args.from c.args.self.now) r.is (IsName-drop c.args.from c.args.self.now (proper c.self.inside.wire c.args.self.now c.self.invariant c.self.view_is))).right

pub returns : goal.returns
returns c =
    let r = rest_of c.self.inside.wire c.as_slice.result.now c.behind.result.now c.args.self.now c.args.from c.requires c.self.view_is c.as_slice.ensures c.behind.ensures in
    let s = spells_name c.behind.result.now (drop c.args.from c.args.self.now) r.is (IsName-drop c.args.from c.args.self.now (proper c.self.inside.wire c.args.self.now c.self.invariant c.self.view_is)) in
    IfOk-weaker c.of_wire.result (λ n. n ≡ labels_of c.behind.result.now) (λ n. n ≡ drop c.args.from c.args.self.now) (λ n h. h ∙ s.view) c.of_wire.ensures
