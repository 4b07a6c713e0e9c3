use Rattle.std.proofs.Common.{◌≡◌, ◌∙◌, ℕ, List, ◌++◌, length, map, Some, refl, sym, ap, subst, arith}
use Rattle.std.specs.Option.{option_to_list}
use Rattle.std.specs.List.{All, sum_by}
use Rattle.std.proofs.lemmas.List.{length_push}
use Rattle.std.proofs.lemmas.List.Elements.{All-push}
use Rattle.reload_watch.specs.{source_data}
use Rattle.dns_server.specs.declared.roles.Role.TheVariants.{Watch}
use Rattle.dns_server.specs.Roles.{Becomes, IsPart, IsReady, Task}
use Rattle.dns_server.specs.States.{run_setup}
use Rattle.dns_server.proofs.Stocked.{names_map, of_extras}
use Rattle.extra_stock.specs.{asked_by, is_named, names_weigh, seats_in}
use Rattle.reload_watch.specs.{all_weigh, chain_seats, chain_weighs}
use Rattle.dns_server.specs.Stocking.{count_name, stock_data}
use Rattle.lent_caches.specs.Held.{caches_data}
use Rattle.pin_table.specs.{plan_of}
use Rattle.pin_table.specs.Closing.{joined_plan}
use Rattle.reload_watch.specs.Histories.{IsHome}
use Rattle.reload_watch.specs.HistoryLaws.{home_asks}
use Rattle.dns_server.proofs.Caching.{closed_held}
use Rattle.dns_server.proofs.Leaving.{finishes, idle_all, part_count, parted, zip_count}
use Rattle.dns_server.proofs.Joining.{all_worked, leave}
use Rattle.dns_server.proofs.Starting.{all_ready, start_count}
use Rattle.dns_server.proofs.finishing.finish.Goals as goal

pub push_reserved-requires : goal.push_reserved-requires
push_reserved-requires g c =
    let o = c.args.opened in
    let count = start_count o.table 0 o.sides.items c.push_workers.new.roles.items c.push_workers.ensures.start in
    let room = c.push_workers.ensures.room.0 in
    omega (arith, count, room, c.requires.opened.roles_room)

pub act_all-requires-clause-ready : goal.act_all-requires-clause-ready
act_all-requires-clause-ready g c = λ κs b.
    let o = c.args.opened in
    let task : Task _ = record { table = o.table; source = source_data c.args.setup.source; most = c.args.setup.most } in
    let starts = c.push_workers.new.roles.items in
    let side = g.S.Side.state in
    subst (All (IsReady side task)) (sym c.push_reserved.ensures.items)
    (All-push (IsReady side task) starts (Watch o.watcher) (all_ready side task 0 o.sides.items starts (c.requires.some, c.requires.most) c.requires.opened.fresh c.push_workers.ensures.start) c.requires.opened.watcher)

pub unreachable-requires : goal.unreachable-requires
unreachable-requires g c =
    let o = c.args.opened in
    let task : Task _ = record { table = o.table; source = source_data c.args.setup.source; most = c.args.setup.most } in
    let B = Becomes g.S.Side.state g.W.PatternMaker.state task in
    let role = c.in-Some-Work.field-0 in
    let last = c.pop.ensures.items ∙ ap (λ (x : _). c.pop.new.self.items ++ option_to_list x) c.in-Some-Work.is in
    let both = parted B c.push_workers.new.roles.items c.pop.new.self.items c.push_reserved.new.self.items c.act_all.new.roles.items (Watch o.watcher) role c.push_reserved.ensures.items last c.act_all.ensures in
    subst (B (Watch o.watcher)) c.in-Some-Work.field-0-is both.1

pub unreachable-requires-in-None : goal.unreachable-requires-in-None
unreachable-requires-in-None g c =
    let o = c.args.opened in
    let task : Task _ = record { table = o.table; source = source_data c.args.setup.source; most = c.args.setup.most } in
    let B = Becomes g.S.Side.state g.W.PatternMaker.state task in
    let count = zip_count B c.push_reserved.new.self.items c.act_all.new.roles.items c.act_all.ensures in
    let pushed = ap (λ (l : List _). length l) c.push_reserved.ensures.items ∙ length_push c.push_workers.new.roles.items (Watch o.watcher) in
    let none = c.in-None.ensures.cases.0 in
    omega (arith, count, pushed, none)

pub part-requires-clause-workers : goal.part-requires-clause-workers
part-requires-clause-workers g c =
    let o = c.args.opened in
    let task : Task _ = record { table = o.table; source = source_data c.args.setup.source; most = c.args.setup.most } in
    let side = g.S.Side.state in
    let watch = g.W.PatternMaker.state in
    let B = Becomes side watch task in
    let starts = c.push_workers.new.roles.items in
    let others = c.pop.new.self.items in
    let last = c.pop.ensures.items ∙ ap (λ (x : _). others ++ option_to_list x) (c.in-Some-Watch.is ∙ ap Some c.in-Some-Watch.field-0-is) in
    let both = parted B starts others c.push_reserved.new.self.items c.act_all.new.roles.items (Watch o.watcher) (Watch c.in-Some-Watch.watcher) c.push_reserved.ensures.items last c.act_all.ensures in
    all_worked side watch task 0 o.sides.items starts others c.push_workers.ensures.start both.0

pub part-requires-clause-room : goal.part-requires-clause-room
part-requires-clause-room g c =
    let o = c.args.opened in
    let task : Task _ = record { table = o.table; source = source_data c.args.setup.source; most = c.args.setup.most } in
    let B = Becomes g.S.Side.state g.W.PatternMaker.state task in
    let count = zip_count B c.push_reserved.new.self.items c.act_all.new.roles.items c.act_all.ensures in
    let pushed = ap (λ (l : List _). length l) c.push_reserved.ensures.items ∙ length_push c.push_workers.new.roles.items (Watch o.watcher) in
    let start = start_count o.table 0 o.sides.items c.push_workers.new.roles.items c.push_workers.ensures.start in
    let popped = c.in-Some-Watch.ensures.cases in
    let left = c.push_workers.ensures.room.1 in
    (omega (arith, count, pushed, start, popped, c.requires.opened.dones_room), omega (arith, count, pushed, start, popped, left, c.requires.opened.each))

pub close-totals-requires-clause-own : goal.close-totals-requires-clause-own
close-totals-requires-clause-own g c =
    let o = c.args.opened in
    let task : Task _ = record { table = o.table; source = source_data c.args.setup.source; most = c.args.setup.most } in
    let side = g.S.Side.state in
    let watch = g.W.PatternMaker.state in
    let starts = c.push_workers.new.roles.items in
    let others = c.pop.new.self.items in
    let last = c.pop.ensures.items ∙ ap (λ (x : _). others ++ option_to_list x) (c.in-Some-Watch.is ∙ ap Some c.in-Some-Watch.field-0-is) in
    let both = parted (Becomes side watch task) starts others c.push_reserved.new.self.items c.act_all.new.roles.items (Watch o.watcher) (Watch c.in-Some-Watch.watcher) c.push_reserved.ensures.items last c.act_all.ensures in
    both.1.keeps.own

pub close-totals-requires-clause-passes : goal.close-totals-requires-clause-passes
close-totals-requires-clause-passes g c =
    let o = c.args.opened in
    let task : Task _ = record { table = o.table; source = source_data c.args.setup.source; most = c.args.setup.most } in
    let side = g.S.Side.state in
    let watch = g.W.PatternMaker.state in
    let starts = c.push_workers.new.roles.items in
    let others = c.pop.new.self.items in
    let last = c.pop.ensures.items ∙ ap (λ (x : _). others ++ option_to_list x) (c.in-Some-Watch.is ∙ ap Some c.in-Some-Watch.field-0-is) in
    let both = parted (Becomes side watch task) starts others c.push_reserved.new.self.items c.act_all.new.roles.items (Watch o.watcher) (Watch c.in-Some-Watch.watcher) c.push_reserved.ensures.items last c.act_all.ensures in
    let leaves = leave side watch task 0 o.sides.items starts others c.part.new.dones.items c.part.new.passes.items c.push_workers.ensures.start both.0 c.part.ensures in
    let count = part_count IsPart others c.part.new.dones.items c.part.new.passes.items c.part.ensures in
    let ended = zip_count (Becomes side watch task) starts others both.0 in
    let start = start_count o.table 0 o.sides.items starts c.push_workers.ensures.start in
    (omega (arith, count, ended, start, c.requires.opened.workers, both.1.workers, both.1.keeps.workers), idle_all o.table c.part.new.passes.items leaves.idle)

pub close-totals-requires-clause-start : goal.close-totals-requires-clause-start
close-totals-requires-clause-start g c =
    let o = c.args.opened in
    let task : Task _ = record { table = o.table; source = source_data c.args.setup.source; most = c.args.setup.most } in
    let side = g.S.Side.state in
    let watch = g.W.PatternMaker.state in
    let starts = c.push_workers.new.roles.items in
    let others = c.pop.new.self.items in
    let last = c.pop.ensures.items ∙ ap (λ (x : _). others ++ option_to_list x) (c.in-Some-Watch.is ∙ ap Some c.in-Some-Watch.field-0-is) in
    let both = parted (Becomes side watch task) starts others c.push_reserved.new.self.items c.act_all.new.roles.items (Watch o.watcher) (Watch c.in-Some-Watch.watcher) c.push_reserved.ensures.items last c.act_all.ensures in
    both.1.keeps.joined

pub close-totals-requires-clause-room : goal.close-totals-requires-clause-room
close-totals-requires-clause-room g c =
    let o = c.args.opened in
    let task : Task _ = record { table = o.table; source = source_data c.args.setup.source; most = c.args.setup.most } in
    let side = g.S.Side.state in
    let watch = g.W.PatternMaker.state in
    let starts = c.push_workers.new.roles.items in
    let others = c.pop.new.self.items in
    let last = c.pop.ensures.items ∙ ap (λ (x : _). others ++ option_to_list x) (c.in-Some-Watch.is ∙ ap Some c.in-Some-Watch.field-0-is) in
    let both = parted (Becomes side watch task) starts others c.push_reserved.new.self.items c.act_all.new.roles.items (Watch o.watcher) (Watch c.in-Some-Watch.watcher) c.push_reserved.ensures.items last c.act_all.ensures in
    omega (arith, both.1.keeps.home.empty, both.1.keeps.home.room, both.1.keeps.workers)

pub close-totals-requires-clause-filled : goal.close-totals-requires-clause-filled
close-totals-requires-clause-filled g c =
    let o = c.args.opened in
    let task : Task _ = record { table = o.table; source = source_data c.args.setup.source; most = c.args.setup.most } in
    let side = g.S.Side.state in
    let watch = g.W.PatternMaker.state in
    let starts = c.push_workers.new.roles.items in
    let others = c.pop.new.self.items in
    let last = c.pop.ensures.items ∙ ap (λ (x : _). others ++ option_to_list x) (c.in-Some-Watch.is ∙ ap Some c.in-Some-Watch.field-0-is) in
    let both = parted (Becomes side watch task) starts others c.push_reserved.new.self.items c.act_all.new.roles.items (Watch o.watcher) (Watch c.in-Some-Watch.watcher) c.push_reserved.ensures.items last c.act_all.ensures in
    both.1.keeps.filled

pub close-totals-requires-clause-kept : goal.close-totals-requires-clause-kept
close-totals-requires-clause-kept g c =
    let o = c.args.opened in
    let task : Task _ = record { table = o.table; source = source_data c.args.setup.source; most = c.args.setup.most } in
    let side = g.S.Side.state in
    let watch = g.W.PatternMaker.state in
    let starts = c.push_workers.new.roles.items in
    let others = c.pop.new.self.items in
    let last = c.pop.ensures.items ∙ ap (λ (x : _). others ++ option_to_list x) (c.in-Some-Watch.is ∙ ap Some c.in-Some-Watch.field-0-is) in
    let both = parted (Becomes side watch task) starts others c.push_reserved.new.self.items c.act_all.new.roles.items (Watch o.watcher) (Watch c.in-Some-Watch.watcher) c.push_reserved.ensures.items last c.act_all.ensures in
    let leaves = leave side watch task 0 o.sides.items starts others c.part.new.dones.items c.part.new.passes.items c.push_workers.ensures.start both.0 c.part.ensures in
    leaves.kept

pub returns-clause-finishes : goal.returns-clause-finishes
returns-clause-finishes g c =
    let o = c.args.opened in
    let task : Task _ = record { table = o.table; source = source_data c.args.setup.source; most = c.args.setup.most } in
    let side = g.S.Side.state in
    let watch = g.W.PatternMaker.state in
    let starts = c.push_workers.new.roles.items in
    let others = c.pop.new.self.items in
    let last = c.pop.ensures.items ∙ ap (λ (x : _). others ++ option_to_list x) (c.in-Some-Watch.is ∙ ap Some c.in-Some-Watch.field-0-is) in
    let both = parted (Becomes side watch task) starts others c.push_reserved.new.self.items c.act_all.new.roles.items (Watch o.watcher) (Watch c.in-Some-Watch.watcher) c.push_reserved.ensures.items last c.act_all.ensures in
    let leaves = leave side watch task 0 o.sides.items starts others c.part.new.dones.items c.part.new.passes.items c.push_workers.ensures.start both.0 c.part.ensures in
    let end = c.close-totals.ensures in
    let title = g.E.Extra.title in
    let keeps = both.1.keeps in
    let spare_is : (name : List ℕ) → count_name name (map title c.take_back.new.stock.spare.items) ≡ all_weigh (is_named name) o.watcher = λ name.
    let w = is_named name in
    let moved = c.close-totals.ensures.sum (λ x. chain_weighs w x) (of_extras (asked_by w)) keeps.stands in
    let none = ap (λ (l : List _). sum_by (λ x. chain_weighs w x) l) keeps.home.none in
    let more = c.take_back.ensures.weighs w in
    let all = both.1.extras.weighs w in
    names_map title w c.take_back.new.stock.spare.items ∙ omega (arith, moved, none, more, all) in
    let w = c.in-Some-Watch.watcher in
    let passes = c.part.new.passes.items in
    let count = part_count IsPart others c.part.new.dones.items passes c.part.ensures in
    let ended = zip_count (Becomes side watch task) starts others both.0 in
    let start = start_count o.table 0 o.sides.items starts c.push_workers.ensures.start in
    let asks = home_asks o.table w passes keeps in
    let home : IsHome o.table w passes c.close-totals.new.home.items = record {
      keeps = keeps;
      each = omega (arith, count, ended, start, c.requires.opened.workers, both.1.workers);
      closed = end.closed;
      traced = end.traced;
      home_is = end.home;
      sum = λ f of. end.sum f of keeps.stands;
      all = c.all_home.ensures (joined_plan (plan_of w.publisher) passes) (omega (arith, keeps.workers, keeps.few)) asks.0 asks.1;
      whole = c.take_back.ensures.whole;
    } in
    finishes side watch (run_setup c.args.setup g.B.Rulebook.taken g.B.Rulebook.said (map g.E.Extra.title o.watcher.stock.judges.items)) o c.in-Some-Watch.watcher c.part.new.dones.items c.part.new.passes.items others c.close-totals.result.published (stock_data g.E.Extra.title c.take_back.new.stock) spare_is refl c.requires.opened both.1 leaves end.published end.closed end.traced c.close-totals.new.home.items home (λ readings pins is. c.one_history.ensures readings pins is)

pub take_back-requires-clause-obey : goal.take_back-requires-clause-obey
take_back-requires-clause-obey g c =
    let o = c.args.opened in
    let task : Task _ = record { table = o.table; source = source_data c.args.setup.source; most = c.args.setup.most } in
    let side = g.S.Side.state in
    let watch = g.W.PatternMaker.state in
    let starts = c.push_workers.new.roles.items in
    let others = c.pop.new.self.items in
    let last = c.pop.ensures.items ∙ ap (λ (x : _). others ++ option_to_list x) (c.in-Some-Watch.is ∙ ap Some c.in-Some-Watch.field-0-is) in
    let both = parted (Becomes side watch task) starts others c.push_reserved.new.self.items c.act_all.new.roles.items (Watch o.watcher) (Watch c.in-Some-Watch.watcher) c.push_reserved.ensures.items last c.act_all.ensures in
    both.1.keeps.spare

pub take_back-requires-clause-room : goal.take_back-requires-clause-room
take_back-requires-clause-room g c =
    let o = c.args.opened in
    let task : Task _ = record { table = o.table; source = source_data c.args.setup.source; most = c.args.setup.most } in
    let side = g.S.Side.state in
    let watch = g.W.PatternMaker.state in
    let starts = c.push_workers.new.roles.items in
    let others = c.pop.new.self.items in
    let last = c.pop.ensures.items ∙ ap (λ (x : _). others ++ option_to_list x) (c.in-Some-Watch.is ∙ ap Some c.in-Some-Watch.field-0-is) in
    let both = parted (Becomes side watch task) starts others c.push_reserved.new.self.items c.act_all.new.roles.items (Watch o.watcher) (Watch c.in-Some-Watch.watcher) c.push_reserved.ensures.items last c.act_all.ensures in
    let keeps = both.1.keeps in
    let moved = c.close-totals.ensures.sum (λ x. chain_seats x) (of_extras seats_in) keeps.stands in
    let none = ap (λ (l : List _). sum_by (λ x. chain_seats x) l) keeps.home.none in
    let places = keeps.places in
    omega (arith, moved, none, places)

pub returns-clause-extras : goal.returns-clause-extras
returns-clause-extras g c w =
    let o = c.args.opened in
    let task : Task _ = record { table = o.table; source = source_data c.args.setup.source; most = c.args.setup.most } in
    let side = g.S.Side.state in
    let watch = g.W.PatternMaker.state in
    let starts = c.push_workers.new.roles.items in
    let others = c.pop.new.self.items in
    let last = c.pop.ensures.items ∙ ap (λ (x : _). others ++ option_to_list x) (c.in-Some-Watch.is ∙ ap Some c.in-Some-Watch.field-0-is) in
    let both = parted (Becomes side watch task) starts others c.push_reserved.new.self.items c.act_all.new.roles.items (Watch o.watcher) (Watch c.in-Some-Watch.watcher) c.push_reserved.ensures.items last c.act_all.ensures in
    let keeps = both.1.keeps in
    let moved = c.close-totals.ensures.sum (λ x. chain_weighs w x) (of_extras (asked_by w)) keeps.stands in
    let none = ap (λ (l : List _). sum_by (λ x. chain_weighs w x) l) keeps.home.none in
    let more = c.take_back.ensures.weighs w in
    let title = g.E.Extra.title in
    let judges : names_weigh title w c.take_back.new.stock.judges.items ≡ names_weigh title w o.watcher.stock.judges.items =
    λ k. names_weigh title w ((c.take_back.ensures.judges ∙ both.1.extras.judges) k).items in
    let all = both.1.extras.weighs w in
    let one = names_map title w c.take_back.new.stock.judges.items in
    let two = names_map title w c.take_back.new.stock.spare.items in
    omega (arith, moved, none, more, judges, all, one, two)

-- the uses of what came home are of caches that are held
pub take_back-requires-clause-held : goal.take_back-requires-clause-held
take_back-requires-clause-held g c =
    let o = c.args.opened in
    let task : Task _ = record { table = o.table; source = source_data c.args.setup.source; most = c.args.setup.most } in
    let side = g.S.Side.state in
    let watch = g.W.PatternMaker.state in
    let starts = c.push_workers.new.roles.items in
    let others = c.pop.new.self.items in
    let last = c.pop.ensures.items ∙ ap (λ (x : _). others ++ option_to_list x) (c.in-Some-Watch.is ∙ ap Some c.in-Some-Watch.field-0-is) in
    let both = parted (Becomes side watch task) starts others c.push_reserved.new.self.items c.act_all.new.roles.items (Watch o.watcher) (Watch c.in-Some-Watch.watcher) c.push_reserved.ensures.items last c.act_all.ensures in
    let keeps = both.1.keeps in
    let end = c.close-totals.ensures in
    let w = c.in-Some-Watch.watcher in
    closed_held (plan_of w.publisher) c.part.new.passes.items w.home.items c.close-totals.new.home.items (caches_data w.caches) keeps.home.none end.home end.traced (λ f of. end.sum f of keeps.stands) keeps.caches

pub take_back-requires-clause-apart : goal.take_back-requires-clause-apart
take_back-requires-clause-apart g c =
    let o = c.args.opened in
    let task : Task _ = record { table = o.table; source = source_data c.args.setup.source; most = c.args.setup.most } in
    let side = g.S.Side.state in
    let watch = g.W.PatternMaker.state in
    let starts = c.push_workers.new.roles.items in
    let others = c.pop.new.self.items in
    let last = c.pop.ensures.items ∙ ap (λ (x : _). others ++ option_to_list x) (c.in-Some-Watch.is ∙ ap Some c.in-Some-Watch.field-0-is) in
    let both = parted (Becomes side watch task) starts others c.push_reserved.new.self.items c.act_all.new.roles.items (Watch o.watcher) (Watch c.in-Some-Watch.watcher) c.push_reserved.ensures.items last c.act_all.ensures in
    both.1.keeps.caches.ledger.apart
