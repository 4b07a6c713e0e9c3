use Rattle.std.proofs.Common.{◌∷◌, ◌++◌, [], true, sym, subst, ◌∙◌}
use Rattle.lru.specs.LruCache.{lru_cache, put_entries}
use Rattle.outside.specs.{same_key}
use Rattle.outside.specs.declared.mark.Mark.TheVariants.{Put}
use Rattle.audit_run.specs.ShardHistories.{StoresShow}
use Rattle.audit_run.proofs.Shards.{put_denial, put_success}
use Rattle.audit_run.proofs.shard_history.ShardHistory.put.Goals as goal

pub returns-in_ok-put : goal.returns-in_ok-put
returns-in_ok-put c = λ capacities marks shows.
    let stores = c.args.self.now in
    let entry = c.args.entry in
    rw c.in_ok-put.ensures.entries
    (subst (λ k. StoresShow (λ e. e.now) capacities (marks ++ Put k entry.now true ∷ [])
    stores.success (lru_cache (put_entries same_key stores.denial c.in_ok-key.key entry)
    stores.denial.cap)) c.in_ok-key.ensures
    (put_denial (λ e. e.now) capacities marks stores.success stores.denial shows
    c.in_ok-key.key entry (sym c.is_denial.ensures ∙ c.if-is_denial.true)))

pub returns-in_ok-put-2 : goal.returns-in_ok-put-2
returns-in_ok-put-2 c = λ capacities marks shows.
    let stores = c.args.self.now in
    let entry = c.args.entry in
    rw c.in_ok-put-2.ensures.entries
    (subst (λ k. StoresShow (λ e. e.now) capacities (marks ++ Put k entry.now true ∷ [])
    (lru_cache (put_entries same_key stores.success c.in_ok-key.key entry) stores.success.cap)
    stores.denial) c.in_ok-key.ensures
    (put_success (λ e. e.now) capacities marks stores.success stores.denial shows
    c.in_ok-key.key entry (sym c.is_denial.ensures ∙ c.if-is_denial.false)))
