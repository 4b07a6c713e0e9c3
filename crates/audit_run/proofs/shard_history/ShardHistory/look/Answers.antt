use Rattle.std.proofs.Common.{sym, ◌∙◌}
use Rattle.std.proofs.lemmas.Bool.{false≢true}
use Rattle.audit_run.proofs.Shards.{missed, refused_first, refused_second, took_first, took_second}
use Rattle.audit_run.proofs.shard_history.ShardHistory.look.Goals as goal

pub returns-then-not-is_told : goal.returns-then-not-is_told
returns-then-not-is_told c = λ capacities marks shows.
    refused_first (λ e. e.now) capacities marks c.args.self.now.success c.args.self.now.denial shows
    c.args.key.now c.args.now c.args.told.now c.in-Some.entry.now c.in-Some.ensures
    (λ h. false≢true (sym c.if-not-is_told.true ∙ c.is_told.ensures.1 h))

pub returns-in-Some : goal.returns-in-Some
returns-in-Some c = λ capacities marks shows. rw c.promote.ensures.entries
    (took_first (λ e. e.now) capacities marks c.args.self.now.success c.args.self.now.denial shows
    c.args.key.now c.args.now c.args.told.now c.in-Some.entry.now c.in-Some.ensures
    (c.is_told.ensures.0 c.if-not-is_told.false))

pub returns-in_default-live_in : goal.returns-in_default-live_in
returns-in_default-live_in c = λ capacities marks shows.
    missed (λ e. e.now) capacities marks c.args.self.now.success c.args.self.now.denial shows
    c.args.key.now c.args.now c.args.told.now c.is_none.result c.is_none.ensures
    c.in_default.ensures c.in_default-live_in.ensures

pub returns-then-not-is_told-2 : goal.returns-then-not-is_told-2
returns-then-not-is_told-2 c = λ capacities marks shows.
    refused_second (λ e. e.now) capacities marks c.args.self.now.success c.args.self.now.denial
    shows c.args.key.now c.args.now c.args.told.now c.in-Some-live_in.entry.now c.in_default.ensures
    c.in-Some-live_in.ensures
    (λ h. false≢true (sym c.if-not-is_told-2.true ∙ c.is_told-2.ensures.1 h))

pub returns : goal.returns
returns c = λ capacities marks shows. rw c.promote-2.ensures.entries
    (took_second (λ e. e.now) capacities marks c.args.self.now.success c.args.self.now.denial shows
    c.args.key.now c.args.now c.args.told.now c.in-Some-live_in.entry.now
    c.in_default.ensures c.in-Some-live_in.ensures
    (c.is_told-2.ensures.0 c.if-not-is_told-2.false))
