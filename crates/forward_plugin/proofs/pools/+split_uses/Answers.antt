use Rattle.std.proofs.Common.{◌-◌, rules, subst, sym}
use Rattle.std.specs.List.{All}
use Rattle.std.proofs.lemmas.List.Elements.{All-cons, All-push}
use Rattle.std.proofs.lemmas.Result.{on_ok_weaker}
use Rattle.forward_plugin.specs.PoolParts.{HasMore, HasParts, IsUncalled}
use Rattle.forward_plugin.specs.PoolUses.{IsOwn}
use Rattle.forward_plugin.proofs.Partings.{first_one, put_back, the_rest}
use Rattle.forward_plugin.proofs.pools.+split_uses.Goals as goal

pub returns-in_err-split_use-clause-own : goal.returns-in_err-split_use-clause-own
returns-in_err-split_use-clause-own t c = put_back IsOwn c.args.uses.now c.in-Some.first.now c.in-Some.rest.now c.in-Some.ensures.cases.0 c.requires.own c.split_use.new.used c.split_use.ensures.own

pub returns-in_err-push-clause-own : goal.returns-in_err-push-clause-own
returns-in_err-push-clause-own t c = put_back IsOwn c.args.uses.now c.in-Some.first.now c.in-Some.rest.now c.in-Some.ensures.cases.0 c.requires.own c.split_use.new.used c.split_use.ensures.own

pub returns-clause-parts : goal.returns-clause-parts
returns-clause-parts t c parts all =
    let is = c.in-Some.ensures.cases.0 in
    on_ok_weaker c.split_uses.result
    (λ rest. All-cons (HasParts (parts - 1)) c.split_use.new.used c.split_uses.new.uses (c.in_ok-split_use.ensures.parts parts (first_one (HasParts parts) c.args.uses.now c.in-Some.first.now c.in-Some.rest.now is all)) rest)
    (c.split_uses.ensures.parts parts (the_rest (HasParts parts) c.args.uses.now c.in-Some.first.now c.in-Some.rest.now is all))

pub split_uses-requires : goal.split_uses-requires
split_uses-requires t c =
    let is = c.in-Some.ensures.cases.0 in (
      search rules,
      (
        the_rest IsOwn c.args.uses.now c.in-Some.first.now c.in-Some.rest.now is c.requires.own,
        (
          the_rest HasMore c.args.uses.now c.in-Some.first.now c.in-Some.rest.now is c.requires.more,
          (
            subst (All IsOwn) (sym c.in_ok-push.ensures.items) (All-push IsOwn c.args.others.now.items c.in_ok-split_use.field-0 c.requires.others c.in_ok-split_use.ensures.result),
            subst (All IsUncalled) (sym c.in_ok-push.ensures.items) (All-push IsUncalled c.args.others.now.items c.in_ok-split_use.field-0 c.requires.fresh c.in_ok-split_use.ensures.fresh),
          ),
        ),
      ),
    )
