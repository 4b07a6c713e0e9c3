use Rattle.std.proofs.Common.{Ok, Option, ap, sym, subst, ◌∙◌}
use Rattle.cache_rules.specs.{aged, key_of}
use Rattle.outside.specs.{EntryData}
use Rattle.chain_meaning.specs.Caching.{entry_for, take_put}
use Rattle.chain_meaning.specs.declared.decision.Decision.TheVariants as decision
use Rattle.cache_plugin.specs.Calling.{CallsBy, state_at}
use Rattle.cache_plugin.specs.Keeping.{IsMade}
use Rattle.cache_plugin.specs.Uses.{use_logs}
use Rattle.cache_plugin.proofs.Calls.{calls_under, keep_starves, kept_err, kept_not, kept_so}
use Rattle.cache_plugin.proofs.cache_use.CacheUse.keep.Goals as goal

pub returns-in_err-entry-clause-calls : goal.returns-in_err-entry-clause-calls
returns-in_err-entry-clause-calls g c inner past =
    let plan = c.args.asked.now.plan.now in
    let q = c.args.asked.now.query.now in
    keep_starves (key_of q) plan c.args.missed.moment c.args.decided.answer (entry_for plan q c.args.missed.moment c.args.decided.answer inner) c.from_residual.result (use_logs c.args.self.now) c.from_residual.ensures.0

pub returns-in_default-clause-calls : goal.returns-in_default-clause-calls
returns-in_default-clause-calls g c inner past =
    let plan = c.args.asked.now.plan.now in
    let q = c.args.asked.now.query.now in
    let found : Option EntryData = entry_for plan q c.args.missed.moment c.args.decided.answer inner in
    kept_not (key_of q) plan c.args.missed.moment c.args.decided.answer {found = found} (use_logs c.args.self.now) (c.in_ok-entry.ensures.is inner past ∙ c.in_default.is)

pub put-requires-clause-key : goal.put-requires-clause-key
put-requires-clause-key g c =
    let made = subst (IsMade c.args.asked.now.plan.now c.args.asked.now.query.now c.args.missed.moment c.args.decided.answer c.args.decided.kept) c.in-Some.is c.in_ok-entry.ensures.made in
    c.requires.key ∙ ap key_of (sym made.2)

pub put-requires-clause-just : goal.put-requires-clause-just
put-requires-clause-just g c =
    let made = subst (IsMade c.args.asked.now.plan.now c.args.asked.now.query.now c.args.missed.moment c.args.decided.answer c.args.decided.kept) c.in-Some.is c.in_ok-entry.ensures.made in
    c.requires.fair c.in-Some.entry.inner made.0 c.in-Some.entry made.1

pub returns-in_err-entry-2-clause-calls : goal.returns-in_err-entry-2-clause-calls
returns-in_err-entry-2-clause-calls g c inner past =
    let plan = c.args.asked.now.plan.now in
    let q = c.args.asked.now.query.now in
    let moment = c.args.missed.moment in
    let answer = c.args.decided.answer in
    let entry = c.in-Some.entry in
    kept_so (key_of q) plan moment answer entry (c.in_ok-entry.ensures.is inner past ∙ c.in-Some.is)
    (kept_err (key_of q) (take_put entry (decision.Reply (aged plan entry moment))) plan moment answer c.from_residual-in_err-entry-2.result c.from_residual-in_err-entry-2.ensures.0 (calls_under c.requires.key (c.in_err-entry-2.ensures.calls (decision.Reply (aged plan entry moment)))))

pub returns-clause-calls : goal.returns-clause-calls
returns-clause-calls g c inner past =
    let plan = c.args.asked.now.plan.now in
    let q = c.args.asked.now.query.now in
    let moment = c.args.missed.moment in
    let answer = c.args.decided.answer in
    let entry = c.in-Some.entry in
    kept_so (key_of q) plan moment answer entry (c.in_ok-entry.ensures.is inner past ∙ c.in-Some.is)
    (subst (λ (e : EntryData). CallsBy (key_of q) (take_put entry (decision.Reply (aged plan entry moment))) (Ok (decision.Reply (aged plan e moment))) (state_at (g.S.Side.state c.args.side.now) (use_logs c.args.self.now)) (state_at (g.S.Side.state c.put.new.side) (use_logs c.put.new.self))) (sym c.in_ok-entry-2.ensures.entry)
    (calls_under c.requires.key (c.in_ok-entry-2.ensures.calls (decision.Reply (aged plan entry moment)))))
