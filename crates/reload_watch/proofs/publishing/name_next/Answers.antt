use Rattle.std.proofs.Common.{◌∙◌}
use Rattle.lent_caches.specs.Held.{caches_data}
use Rattle.reload_watch.specs.NextLaws.{new_undone}
use Rattle.reload_watch.proofs.publishing.name_next.Goals as goal

pub returns-in-Err-clause-fails : goal.returns-in-Err-clause-fails
returns-in-Err-clause-fails g c =
    c.let_go.ensures.stays ∙ new_undone c.args.naming.now.serial (caches_data c.args.caches.now) (caches_data c.name_and_share.new.caches) c.requires.out c.name_and_share.ensures.adds
