use Rattle.std.proofs.Common.{refl, arith}
use Rattle.dns_names.proofs.NameWalks.{starts, has_room, next_label, none_left}
use Rattle.dns_names.proofs.labels.Labels.next.Goals as goal

pub returns-then-rest-eq0-clause-value : goal.returns-then-rest-eq0-clause-value
returns-then-rest-eq0-clause-value c = none_left c.self.inside.rest.now c.args.self.now c.self.invariant c.self.view_is c.if-rest-eq0.true

pub returns-then-rest-eq0-clause-end : goal.returns-then-rest-eq0-clause-end
returns-then-rest-eq0-clause-end c = none_left c.self.inside.rest.now c.args.self.now c.self.invariant c.self.view_is c.if-rest-eq0.true

pub behind_first-self-inside-requires : goal.behind_first-self-inside-requires
behind_first-self-inside-requires c = has_room c.args.self.now 0 c.self.inside.rest.now (starts _ _ c.self.invariant c.self.view_is) (omega arith)

pub first_label-requires : goal.first_label-requires
first_label-requires c = has_room c.args.self.now 0 c.self.inside.rest.now (starts _ _ c.self.invariant c.self.view_is) (omega arith)

pub invariant_of-self : goal.invariant_of-self
invariant_of-self c =
    (next_label c.self.inside.rest.now _ c.behind_first-self-inside.result.now c.args.self.now c.self.invariant c.self.view_is (omega arith) refl c.behind_first-self-inside.ensures).right

pub returns-clause-value : goal.returns-clause-value
returns-clause-value c =
    (next_label c.self.inside.rest.now c.first_label.result.now c.behind_first-self-inside.result.now c.args.self.now c.self.invariant c.self.view_is (omega arith) c.first_label.ensures c.behind_first-self-inside.ensures).value

pub returns-clause-label : goal.returns-clause-label
returns-clause-label c =
    (next_label c.self.inside.rest.now c.first_label.result.now c.behind_first-self-inside.result.now c.args.self.now c.self.invariant c.self.view_is (omega arith) c.first_label.ensures c.behind_first-self-inside.ensures).sized
