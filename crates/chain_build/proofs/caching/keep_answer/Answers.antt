use Rattle.std.proofs.Common.{Ok, Err, Some, None, Option, subst, sym}
use Rattle.dns_data.specs.Message.{AnswerData}
use Rattle.cache_plugin.specs.{ArePast, CallsBy, kept_result, state_at, use_logs}
use Rattle.cache_rules.specs.{aged, key_of}
use Rattle.cache_shards.specs.Stores.{Held}
use Rattle.outside.specs.{EntryData}
use Rattle.outside.specs.declared.kept.Kept.{Kept}
use Rattle.chain_meaning.specs.Caching.{entry_for, kept_with, put_or}
use Rattle.chain_meaning.specs.declared.decision.Decision.TheVariants as decision
use Rattle.chain_build.proofs.CachedWalks.{calls_err, calls_given, calls_starved, kept_ends}
use Rattle.chain_build.proofs.Walks.{decided-err}
use Rattle.chain_build.proofs.caching.keep_answer.Goals as goal

pub returns-in_err-to_answer-clause-calls : goal.returns-in_err-to_answer-clause-calls
returns-in_err-to_answer-clause-calls g c inner past =
    let q = c.args.asked.now.query.now in
    calls_starved (key_of q) (kept_with c.args.asked.now.plan.now q c.args.missed.moment inner (decision.Reply c.args.room.now.slot)) (decided-err c.from_residual.result c.args.room.now.slot c.from_residual.ensures.0)
    (kept_ends c.args.asked.now.plan.now q c.args.missed.moment inner (decision.Reply c.args.room.now.slot))

pub returns-in_err-entry-clause-calls : goal.returns-in_err-entry-clause-calls
returns-in_err-entry-clause-calls g c inner past =
    let q = c.args.asked.now.query.now in
    let plan = c.args.asked.now.plan.now in
    let moment = c.args.missed.moment in
    calls_err (key_of q) (kept_with plan q moment inner (decision.Reply c.args.room.now.slot)) (decided-err c.from_residual-in_err-entry.result c.args.room.now.slot c.from_residual-in_err-entry.ensures.0)
    (subst (λ (a : AnswerData). CallsBy (key_of q) (put_or plan moment a (entry_for plan q moment a inner)) (Err c.in_err-entry.field-0.0) (state_at (g.S.Side.state c.args.side.now) (use_logs c.args.cache.now.of)) (state_at (g.S.Side.state c.keep.new.side) (use_logs c.keep.new.self.of))) c.in_ok-to_answer.ensures
    (c.in_err-entry.ensures.calls inner (subst (λ (k : Kept). ArePast k inner) (sym c.replace.ensures.value) past)))

pub returns-in-Some-clause-calls : goal.returns-in-Some-clause-calls
returns-in-Some-clause-calls g c inner past =
    let q = c.args.asked.now.query.now in
    let plan = c.args.asked.now.plan.now in
    let moment = c.args.missed.moment in
    let calls = c.in_ok-entry.ensures.calls inner (subst (λ (k : Kept). ArePast k inner) (sym c.replace.ensures.value) past) in
    let put = subst (λ (o : Option Held). CallsBy (key_of q) (put_or plan moment c.in_ok-to_answer.field-0 (entry_for plan q moment c.in_ok-to_answer.field-0 inner)) (kept_result plan moment c.in_ok-to_answer.field-0 (Ok o)) (state_at (g.S.Side.state c.args.side.now) (use_logs c.args.cache.now.of)) (state_at (g.S.Side.state c.keep.new.side) (use_logs c.keep.new.self.of))) c.in-Some.is calls in
    calls_given (key_of q) (kept_with plan q moment inner (decision.Reply c.args.room.now.slot)) c.give.result c.give.new.slot c.give.ensures
    (subst (λ (e : EntryData). CallsBy (key_of q) (kept_with plan q moment inner (decision.Reply c.args.room.now.slot)) (Ok (decision.Reply (aged plan e moment))) (state_at (g.S.Side.state c.args.side.now) (use_logs c.args.cache.now.of)) (state_at (g.S.Side.state c.keep.new.side) (use_logs c.keep.new.self.of))) (sym c.deref.ensures)
    (subst (λ (a : AnswerData). CallsBy (key_of q) (put_or plan moment a (entry_for plan q moment a inner)) (kept_result plan moment a (Ok (Some c.in-Some.entry))) (state_at (g.S.Side.state c.args.side.now) (use_logs c.args.cache.now.of)) (state_at (g.S.Side.state c.keep.new.side) (use_logs c.keep.new.self.of))) c.in_ok-to_answer.ensures put))

pub returns-in-None-clause-calls : goal.returns-in-None-clause-calls
returns-in-None-clause-calls g c inner past =
    let q = c.args.asked.now.query.now in
    let plan = c.args.asked.now.plan.now in
    let moment = c.args.missed.moment in
    let calls = c.in_ok-entry.ensures.calls inner (subst (λ (k : Kept). ArePast k inner) (sym c.replace.ensures.value) past) in
    let put = subst (λ (o : Option Held). CallsBy (key_of q) (put_or plan moment c.in_ok-to_answer.field-0 (entry_for plan q moment c.in_ok-to_answer.field-0 inner)) (kept_result plan moment c.in_ok-to_answer.field-0 (Ok o)) (state_at (g.S.Side.state c.args.side.now) (use_logs c.args.cache.now.of)) (state_at (g.S.Side.state c.keep.new.side) (use_logs c.keep.new.self.of))) c.in-None.is calls in
    subst (λ (a : AnswerData). CallsBy (key_of q) (put_or plan moment a (entry_for plan q moment a inner)) (kept_result plan moment a (Ok None)) (state_at (g.S.Side.state c.args.side.now) (use_logs c.args.cache.now.of)) (state_at (g.S.Side.state c.keep.new.side) (use_logs c.keep.new.self.of))) c.in_ok-to_answer.ensures put
