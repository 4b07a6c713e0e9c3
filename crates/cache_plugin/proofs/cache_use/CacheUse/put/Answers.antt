use Rattle.std.proofs.Common.{◌≡◌, [], ◌∷◌, Ok, ap, subst, ◌∙◌, rules}
use Rattle.std.specs.Arc.{arc_value}
use Rattle.chain_meaning.specs.Caching.{take_put}
use Rattle.outside.specs.{EntryData}
use Rattle.outside.specs.Marks.{Adds}
use Rattle.outside.specs.declared.entry.Key.{Key}
use Rattle.outside.specs.declared.mark.Mark.TheVariants.{Put}
use Rattle.cache_shards.specs.Calls.{put_marks}
use Rattle.cache_shards.specs.Seats.{AddsAt, CacheData, logs, views_of}
use Rattle.outside.specs.Keys.{shard_of}
use Rattle.cache_plugin.specs.Calling.{CallsBy, state_at}
use Rattle.cache_plugin.specs.Uses.{KeepsParts, UseData, use_logs}
use Rattle.cache_plugin.proofs.Kept.{keeps_added}
use Rattle.cache_plugin.proofs.Calls.{put_starves, puts_so}
use Rattle.cache_plugin.proofs.cache_use.CacheUse.put.Goals as goal

pub returns-in_err-copy-clause-calls : goal.returns-in_err-copy-clause-calls
returns-in_err-copy-clause-calls g c v = put_starves c.args.key c.args.entry v c.from_residual.result (use_logs c.args.self.now) c.from_residual.ensures.0

pub returns-in_err-entry-clause-calls : goal.returns-in_err-entry-clause-calls
returns-in_err-entry-clause-calls g c v = put_starves c.args.key c.args.entry v c.from_residual-in_err-entry.result (use_logs c.args.self.now) c.from_residual-in_err-entry.ensures.0

pub returns-in_err-shared-clause-calls : goal.returns-in_err-shared-clause-calls
returns-in_err-shared-clause-calls g c v = put_starves c.args.key c.args.entry v c.from_residual-in_err-shared.result (use_logs c.args.self.now) c.from_residual-in_err-shared.ensures.0

pub returns-clause-calls : goal.returns-clause-calls
returns-clause-calls g c v =
    let key = c.args.key in
    let entry = c.args.entry in
    let kept = c.is_kept-kept.result in
    let copied : c.in_ok-copy.copy ≡ key = search rules in
    let made : arc_value c.in_ok-entry.entry ≡ entry = search rules in
    let shared : arc_value c.in_ok-shared.shared ≡ entry = search rules in
    let marks : put_marks key (arc_value c.in_ok-shared.shared) c.put.result ≡ Put key entry kept ∷ [] = c.is_kept-kept.ensures key (arc_value c.in_ok-shared.shared) ∙ ap (λ (e : EntryData). Put key e kept ∷ []) shared in
    let told : Adds (g.S.Side.state c.args.side.now) (g.S.Side.state c.saw.new.self) (Put key entry kept ∷ [])
    = subst (λ (e : EntryData). Adds (g.S.Side.state c.args.side.now) (g.S.Side.state c.saw.new.self) (Put key e kept ∷ [])) made
    (subst (λ (k : Key). Adds (g.S.Side.state c.args.side.now) (g.S.Side.state c.saw.new.self) (Put k (arc_value c.in_ok-entry.entry) kept ∷ [])) copied
    (subst (λ (e : EntryData). Adds (g.S.Side.state c.args.side.now) (g.S.Side.state c.saw.new.self) (Put c.in_ok-copy.copy e kept ∷ [])) c.deref-2.ensures c.saw.ensures.told)) in
    let adds = subst (λ (x : CacheData g.row.J.Denot). AddsAt x.capacities (g.J.Judge.just x.judge) (shard_of key) (views_of c.self.inside.seat.seats.items) (views_of c.put.new.seat.seats.items) (put_marks key (arc_value c.in_ok-shared.shared) c.put.result)) c.deref.ensures c.put.ensures.adds in
    subst (λ (u : UseData g.row.J.Denot). CallsBy key (take_put entry v) (Ok v) (state_at (g.S.Side.state c.args.side.now) (use_logs u)) (state_at (g.S.Side.state c.saw.new.self) (logs (views_of c.put.new.seat.seats.items)))) c.self.view_is
    (puts_so key entry c.requires.key (arc_value c.self.inside.cache) c.self.inside.seat.seats.items c.put.new.seat.seats.items c.self.invariant (g.J.Judge.just (arc_value c.self.inside.cache).judge) v kept (put_marks key (arc_value c.in_ok-shared.shared) c.put.result) marks adds told c.saw.ensures.counts.stays)

pub returns-clause-keeps : goal.returns-clause-keeps
returns-clause-keeps g c =
    let key = c.args.key in
    let cache = arc_value c.self.inside.cache in
    let views = views_of c.self.inside.seat.seats.items in
    let after = views_of c.put.new.seat.seats.items in
    let marks = put_marks key (arc_value c.in_ok-shared.shared) c.put.result in
    let adds = subst (λ (x : CacheData g.row.J.Denot). AddsAt x.capacities (g.J.Judge.just x.judge) (shard_of key) views after marks) c.deref.ensures c.put.ensures.adds in
    subst (λ (u : UseData g.row.J.Denot). KeepsParts u (record { cache = cache; views = after })) c.self.view_is
    (keeps_added cache (g.J.Judge.just cache.judge) (shard_of key) views after marks adds)
